-- What a program has by number is what its classes have.
use Rattle.std.proofs.Common.{◌≡◌, ℕ, List}
use Rattle.cb_classfile.specs.declared.class.ClassFile.{ClassFile}
use Rattle.cb_link.specs.declared.judging.Parts.{Parts}
use Rattle.cb_link.specs.InnerParts.{AreParts, linked_with}

pub parts_linked : (classes : List ClassFile) (parts : Parts) (class method : ℕ) → AreParts classes parts
    → record { classes = classes; kinds = parts.kinded.kinds; methods = parts.listed.methods; fields = parts.listed.fields; fixed = parts.kinded.fixed; sites = parts.listed.sites; constants = parts.kinded.constants; main_class = class; main_method = method } ≡ linked_with classes class method
parts_linked classes parts class method are =
    λ i. record { classes = classes; kinds = are.of_kinds i; methods = are.of_methods i; fields = are.of_fields i; fixed = are.of_fixed i; sites = are.of_sites i; constants = are.of_texts i; main_class = class; main_method = method }
