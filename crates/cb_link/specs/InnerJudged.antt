-- What is known of classes before their sites are counted, which no public clause cites.
use Rattle.std.specs.Prelude.{◌≡◌, ◌≤◌, ℕ, List, length, Some, None}
use Rattle.cb_classfile.specs.declared.class.ClassFile.{ClassFile}
use Rattle.cb_link.specs.Judging.{method_limit}
use Rattle.cb_link.specs.Lacking.{first_lacking}
use Rattle.cb_link.specs.Numbers.{methods_of}
use Rattle.cb_link.specs.Resolving.{main_method}

-- no instruction lacks a member, there is a main method, and there are not too many methods
pub record IsBegun (classes : List ClassFile) (main : List ℕ) (method : ℕ) : Type 0 where
  pub whole : first_lacking classes ≡ None
  pub begins : main_method classes main ≡ Some method
  pub methods : length (methods_of classes) ≤ method_limit
