-- Steps whose references pass a test where all of the state's do, and all that come next.
use Rattle.std.specs.Prelude.{◌≡◌, ℕ, ◌+◌, Bool, List, Option, Some, None, IsTrue, length}
use Rattle.std.specs.List.{flat_map, list_all}
use Rattle.cb_heap.specs.Closed.{reference_in_word, references_in as references_in_objects}
use Rattle.cb_library.specs.declared.native.Native.{Native}
use Rattle.cb_link.specs.Named.{named, static_initial}
use Rattle.cb_link.specs.Program.{Linked}
use Rattle.cb_link.specs.declared.named.Named.TheVariants as meanings
use Rattle.cb_machine.specs.Machine.{Machine}
use Rattle.cb_machine.specs.Natives.{performed}
use Rattle.cb_machine.specs.Performing.{Performed, Gives, Stops}
use Rattle.cb_machine.specs.Plans.{Placing, Plan, objects_of}
use Rattle.cb_machine.specs.Standing.{Now}
use Rattle.cb_plain.specs.declared.value.Value.{Value}
use Rattle.cb_plain.specs.Reach.{frame_references, reference_in, references_in, table_references, unless_null}
use Rattle.cb_plain.specs.State.{Content, Object, Roots, State}

abbrev pub Pass : (ℕ → Bool) → List ℕ → Type 0
Pass ok serials = IsTrue (list_all ok serials)

-- references in objects that are placed
abbrev pub contents_references : List Content → List ℕ
contents_references contents = flat_map reference_in_word contents

abbrev pub object_references : Object → List ℕ
object_references object = contents_references object.contents

abbrev pub placed_references : Placing → List ℕ
placed_references placing = flat_map object_references (objects_of placing)

-- in roots, in a state and in a plan
pub record RootsPass (ok : ℕ → Bool) (roots : Roots) : Type 0 where
  pub frames : Pass ok (flat_map frame_references roots.frames)
  pub statics : Pass ok (references_in roots.statics)
  pub tables : Pass ok (table_references roots.tables)
  pub pending : Pass ok (unless_null roots.pending)
  pub argument : Pass ok (unless_null roots.argument)

pub record IsWithin (ok : ℕ → Bool) (state : State) : Type 0 where
  pub roots : RootsPass ok state.roots
  pub objects : Pass ok (references_in_objects state.objects)
  pub next : (more : ℕ) → IsTrue (ok (length state.objects + 1 + more))

pub record IsPlanWithin (ok : ℕ → Bool) (plan : Plan) : Type 0 where
  pub roots : RootsPass ok plan.left.roots
  pub objects : Pass ok (references_in_objects plan.left.objects)
  pub next : (more : ℕ) → IsTrue (ok (plan.next + more))
  pub placed : Pass ok (flat_map placed_references plan.placed)

abbrev pub Within : (ℕ → Bool) → Option Plan → Type 0
Within ok None = Unit {0}
Within ok (Some plan) = IsPlanWithin ok plan

-- and where a machine stands
pub record WithinHere (ok : ℕ → Bool) (now : Now) : Type 0 where
  pub state : IsWithin ok now.state
  pub locals : Pass ok (references_in now.frame.locals)
  pub stack : Pass ok (references_in now.frame.stack)
  pub below : Pass ok (flat_map frame_references now.below)

-- constants that a program names are numbers, or references that pass
pub record HasNumbers (ok : ℕ → Bool) (program : Linked) : Type 0 where
  pub named : (method pc : ℕ) → (value : Value) → named program method pc ≡ meanings.Whole value → Pass ok (reference_in value)
  pub initial : (slot : ℕ) → (value : Value) → static_initial program slot ≡ meanings.Whole value → Pass ok (reference_in value)

-- what natives give
abbrev pub GivenWithin : (ℕ → Bool) → Option Performed → Type 0
GivenWithin ok None = Unit {0}
GivenWithin ok (Some (Gives plan answer)) = IsPlanWithin ok plan × Pass ok (references_in answer)
GivenWithin ok (Some (Stops plan)) = IsPlanWithin ok plan

abbrev pub NativesWithin : Machine → (ℕ → Bool) → State → Type 0
NativesWithin machine ok state =
    (native : Native) → (arguments : List Value) → Pass ok (references_in arguments) → GivenWithin ok (performed machine state native arguments)
