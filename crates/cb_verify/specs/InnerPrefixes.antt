-- Lists that begin as others ask, for the code that looks at the top of a stack.
use Rattle.std.specs.Prelude.{Bool, true, false, List, [], ◌∷◌, ◌&&◌}
use Rattle.cb_kinds.specs.declared.basic.Basic.{Basic}
use Rattle.cb_link.specs.Program.{Linked}
use Rattle.cb_verify.specs.Types.{goes_to, type_of}
use Rattle.cb_verify.specs.declared.verification_type.VerificationType.{VerificationType}

-- the items of one list pass a test with those at the same places of another, which has at least as many
abbrev pub begins_as : {A B : Type 0} → (A → B → Bool) → List A → List B → Bool
begins_as test [] stack = true
begins_as test (asked ∷ more) [] = false
begins_as test (asked ∷ more) (item ∷ stack) = test asked item && begins_as test more stack

-- a value is assignable to what is wanted
abbrev pub is_wanted : Linked → Basic → VerificationType → Bool
is_wanted program basic type = goes_to program type (type_of basic)
