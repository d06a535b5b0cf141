-- Where a machine stands at an instruction, what the instruction takes from the operand stack, and how it goes on (JVMS §2.6).
use Rattle.std.specs.Prelude.{ℕ, Bool, true, false, List, [], ◌∷◌, Option, Some, None, option_map}
use Rattle.cb_link.specs.Named.{named}
use Rattle.cb_link.specs.declared.named.Named.{Named}
use Rattle.cb_plain.specs.declared.value.Value.{Value}
use Rattle.cb_plain.specs.State.{Frame, MethodFrame, OfMethod, State}
use Rattle.cb_plain.specs.Updates.{with_frames}
use Rattle.cb_shapes.specs.declared.sort.Sort.{Sort}
use Rattle.cb_shapes.specs.declared.sort.Sort.TheVariants as sorts
use Rattle.cb_machine.specs.Machine.{Machine}
use Rattle.cb_machine.specs.Plans.{Plan, leaving, with_left}
use Rattle.cb_machine.specs.Values.{sort_of}

-- the frame of the method that runs, the frames below it, and the place of the instruction behind this one, if there is one
pub record Now : Type 0 where
  pub machine : Machine
  pub frame : MethodFrame
  pub below : List Frame
  pub next : Option ℕ
  pub state : State

-- a frame at another place, with other local variables and another stack
abbrev pub at_place : MethodFrame → ℕ → List Value → List Value → MethodFrame
at_place frame pc locals stack = record { method = frame.method; pc = pc; slots = frame.slots; locals = locals; stack = stack }

abbrev pub with_stack : MethodFrame → List Value → MethodFrame
with_stack frame stack = at_place frame frame.pc frame.locals stack

-- the plan goes on at a place, with these local variables and this stack
abbrev pub goes_to : Now → ℕ → List Value → List Value → Plan → Plan
goes_to now pc locals stack plan = with_left plan (with_frames plan.left (OfMethod (at_place now.frame pc locals stack) ∷ now.below))

-- at the next instruction: an instruction without one is stuck
abbrev pub goes_on : Now → List Value → List Value → Plan → Option Plan
goes_on now locals stack plan = option_map (λ pc. goes_to now pc locals stack plan) now.next

-- with this stack, and the same local variables; and without placing anything
abbrev pub leaves_with : Now → List Value → Plan → Option Plan
leaves_with now stack plan = goes_on now now.frame.locals stack plan

abbrev pub leaves : Now → List Value → Option Plan
leaves now stack = leaves_with now stack (leaving now.state)

-- two sorts are one
abbrev pub same_sort : Sort → Sort → Bool
same_sort sorts.Int sorts.Int = true
same_sort sorts.Long sorts.Long = true
same_sort sorts.Reference sorts.Reference = true
same_sort one other = false

-- what is taken by sorts, the topmost first, and the stack below
abbrev put_on : Value → List Value × List Value → List Value × List Value
put_on value taken = (value ∷ taken.0, taken.1)

abbrev pub taken : List Sort → List Value → Option (List Value × List Value)
taken [] stack = Some ([], stack)
taken (sort ∷ asked) [] = None
taken (sort ∷ asked) (value ∷ stack) = taken_if (same_sort (sort_of value) sort) (taken asked stack) where
  taken_if : Bool → Option (List Value × List Value) → Option (List Value × List Value)
  taken_if true rest = option_map (put_on value) rest
  taken_if false rest = None

-- what the instruction names
abbrev pub named_here : Now → Named
named_here now = named now.machine.program now.frame.method now.frame.pc
