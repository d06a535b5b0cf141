-- What a program has to say of the objects that its instructions make (JVMS §6.5, new, newarray, anewarray and multianewarray).
use Rattle.std.specs.Prelude.{◌≡◌, ◌<◌, ℕ, Bool, true, false, List, Some, length, slice_get}
use Rattle.cb_kinds.specs.Basics.{kind_number}
use Rattle.cb_link.specs.Having.{site_kinds}
use Rattle.cb_link.specs.Named.{made_at}
use Rattle.cb_link.specs.Program.{Linked}
use Rattle.cb_machine.specs.Creating.{site_number}
use Rattle.cb_machine.specs.Machine.{kind_of_site}
use Rattle.cb_shapes.specs.declared.action.Action.{Action}
use Rattle.cb_shapes.specs.declared.action.Action.TheVariants as actions

-- instructions that make arrays
abbrev pub is_of_arrays : Action → Bool
is_of_arrays (actions.NewNumbers code) = true
is_of_arrays (actions.NewReferences index) = true
is_of_arrays (actions.NewArrays index dimensions) = true
is_of_arrays other = false

-- an object that an instruction makes has a site, which is one of the program's and of its kind, and this is one of the program's too
pub record HasSite (program : Linked) (method pc dimension : ℕ) (name : List ℕ) : Type 0 where
  pub number : ℕ
  pub is : site_number program method pc dimension ≡ Some number
  pub low : number < length (site_kinds program)
  pub kind : kind_of_site program number ≡ kind_number program.kinds name
  pub there : slice_get program.kinds (kind_number program.kinds name) ≡ Some name

abbrev pub HasSites : Linked → Type 0
HasSites program =
    (method pc dimension : ℕ) → (name : List ℕ) → slice_get (made_at program method pc) dimension ≡ Some name → HasSite program method pc dimension name
