-- What this crate's own functions cite of numbered classes and members, and no public clause.
use Rattle.std.specs.Prelude.{◌≡◌, ℕ, ◌+◌, List, map}
use Rattle.cb_text.specs.declared.naming.Member.{Member}
use Rattle.cb_text.specs.Naming.{MemberNames}
use Rattle.cb_classfile.specs.declared.class.ClassFile.{ClassFile}
use Rattle.cb_hierarchy.specs.declared.class.Class.{Class as Ranked}
use Rattle.cb_hierarchy.specs.declared.member.Field.{Field as RankedField}
use Rattle.cb_hierarchy.specs.declared.member.Method.{Method as RankedMethod}
use Rattle.cb_link.specs.declared.refusal.Refusal.{Refusal}
use Rattle.cb_link.specs.declared.refusal.Refusal.TheVariants.{OutOfMemory, TooLarge}
use Rattle.cb_link.specs.declared.refusal.Quantity.TheVariants.{Sites}
use Rattle.cb_link.specs.Judging.{site_limit}
use Rattle.cb_link.specs.Numbers.{field_texts, hierarchy, method_texts, name_of, ranked_fields, ranked_methods}

-- the names of a member that a program holds
abbrev pub names_of_member : Member → MemberNames
names_of_member member = record { kind = member.kind; class = member.class.now; name = member.name.now; descriptor = member.descriptor.now }

-- these are the names of classes, the texts of their members, and the members and classes as numbers
pub record Resolves (classes : List ClassFile) (names : List (List ℕ)) (fields methods : List (List ℕ × List ℕ)) (ranked_field : List RankedField) (ranked_method : List RankedMethod) (ranked : List Ranked) : Type 0 where
  pub of_classes : names ≡ map name_of classes
  pub of_fields : fields ≡ field_texts classes
  pub of_methods : methods ≡ method_texts classes
  pub fields_ranked : ranked_field ≡ ranked_fields classes
  pub methods_ranked : ranked_method ≡ ranked_methods classes
  pub classes_ranked : ranked ≡ hierarchy classes

-- a refusal for too many sites, or want of memory
abbrev pub IsTooMany : Type 0 → Refusal → Type 0
IsTooMany many OutOfMemory = Unit {0}
IsTooMany many refusal = (refusal ≡ TooLarge Sites (site_limit + 1) site_limit) × many
