-- That a typed state has a next one, which is typed too.
use Rattle.std.specs.Prelude.{◌≡◌, ◌<◌, ℕ, Bool, true, false, List, Some, length}
use Rattle.cb_insn.specs.Grammar.{SpellsCode}
use Rattle.cb_link.specs.Named.{code_at}
use Rattle.cb_link.specs.Program.{Linked}
use Rattle.cb_machine.specs.Machine.{Machine}
use Rattle.cb_machine.specs.Plans.{Plan, made}
use Rattle.cb_machine.specs.Steps as steps
use Rattle.cb_plain.specs.State.{State}
use Rattle.cb_shapes.specs.declared.action.Action.{Action}
use Rattle.cb_shapes.specs.declared.action.Action.TheVariants as actions
use Rattle.cb_verify.specs.Types.{kind_goes_to}
use Rattle.cb_safety.specs.Kinds.{holds_kind}
use Rattle.cb_safety.specs.States.{IsTypedState}

-- instructions that change the topmost frame alone, but for a division by zero
abbrev pub is_of_frame : Action → Bool
is_of_frame (actions.Compute computation) = true
is_of_frame actions.Null = true
is_of_frame (actions.Load sort local) = true
is_of_frame (actions.Store sort local) = true
is_of_frame (actions.Increase local by) = true
is_of_frame (actions.Shuffle shuffle) = true
is_of_frame (actions.Branch condition) = true
is_of_frame actions.Switch = true
is_of_frame other = false

-- instructions that ask for an object on the stack, which may be null: those on fields of objects and on elements of arrays, and those
-- that ask for its class
abbrev pub is_of_object : Action → Bool
is_of_object (actions.GetField index) = true
is_of_object (actions.PutField index) = true
is_of_object actions.Length = true
is_of_object (actions.LoadNumber elements) = true
is_of_object (actions.StoreNumber elements) = true
is_of_object actions.LoadReference = true
is_of_object actions.StoreReference = true
is_of_object (actions.Cast index) = true
is_of_object (actions.IsInstance index) = true
is_of_object other = false

-- the code of each method is spelled by some bytes
abbrev pub IsSpelled : Linked → Type 0
IsSpelled program = (number : ℕ) → (bytes : List ℕ) × SpellsCode (code_at program number) bytes

-- what a kind holds, a kind to which it is assignable holds too
abbrev pub HoldsOn : Linked → Type 0
HoldsOn program = (own kind other : ℕ) → holds_kind program own kind ≡ true → kind_goes_to program kind other ≡ true → holds_kind program own other ≡ true

-- what a kind holds, each kind that holds the objects of that one holds too
abbrev pub HoldsThrough : Linked → Type 0
HoldsThrough program = (own kind other : ℕ) → holds_kind program own kind ≡ true → holds_kind program kind other ≡ true → holds_kind program own other ≡ true

-- an object of a kind may be held as that kind: each has a name that is spelled well (§4.4.1, §4.10.1.2)
abbrev pub HoldsOwn : Linked → Type 0
HoldsOwn program = (kind : ℕ) → kind < length program.kinds → holds_kind program kind kind ≡ true

-- there is a next state, and it is typed
pub record Advances (machine : Machine) (state : State) : Type 0 where
  pub plan : Plan
  pub is : steps.plan machine state ≡ Some plan
  pub typed : IsTypedState machine.program (made plan)
