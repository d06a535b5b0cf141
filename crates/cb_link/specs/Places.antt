-- The members of classes by class and place.
use Rattle.std.specs.Prelude.{◌≡◌, ℕ, List, map, slice_get, Some}
use Rattle.std.specs.List.{enumerate_from}
use Rattle.cb_classfile.specs.declared.class.ClassFile.{ClassFile}
use Rattle.cb_link.specs.Numbers.{Numbered}

-- those of the class of a number, as the class lists them
abbrev pub numbered_in : {Member : Type 0} → (ClassFile → List Member) → ℕ × ClassFile → List (Numbered Member)
numbered_in members entry =
    map (λ own. record { class = entry.0; place = own.0; pool = entry.1.pool; member = own.1 }) (enumerate_from 0 (members entry.1))

-- a member stands where its numbers say
pub record IsPlaced {Member : Type 0} (members : ClassFile → List Member) (classes : List ClassFile) (numbered : Numbered Member) : Type 0 where
  pub declaring : ClassFile
  pub declares : slice_get classes numbered.class ≡ Some declaring
  pub of_pool : numbered.pool ≡ declaring.pool
  pub lists : slice_get (members declaring) numbered.place ≡ Some numbered.member
