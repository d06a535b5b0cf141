-- States of which only some objects are kept, and that a step of what is kept is what is kept of the step.
use Rattle.std.specs.Prelude.{◌≡◌, ◌∷◌, ◌++◌, ℕ, List, [], Bool, true, false, Option, Some, None, length, map, nat_lt, replicate, ◌||◌}
use Rattle.std.specs.List.{fold}
use Rattle.cb_heap.specs.Closed.{IsClosed}
use Rattle.cb_heap.specs.Kept.{is_held, keep, residents}
use Rattle.cb_heap.specs.StandsFor.{forget}
use Rattle.cb_machine.specs.Machine.{Machine}
use Rattle.cb_machine.specs.Plans.{Placing, Plan, objects_of}
use Rattle.cb_machine.specs.Standing.{Now}
use Rattle.cb_plain.specs.State.{Object, OfMethod, State}
use Rattle.cb_act.specs.Within.{NativesWithin}
use Rattle.cb_act.specs.Changing.{Changes, ChangesPlan, NativesChange, changed_now, changed_plan, changed_state}

-- what is kept of a state, of a plan, and of where a machine stands
abbrev pub kept_state : List Bool → State → State
kept_state residents state = changed_state (keep residents) state

abbrev pub kept_plan : List Bool → Plan → Plan
kept_plan residents plan = changed_plan (keep residents) plan

abbrev pub kept_now : List Bool → Now → Now
kept_now residents now = changed_now (keep residents) now

-- it is told of each object whether it is kept, and nothing that is kept names one that isn't
pub record IsKeeping (residents : List Bool) (state : State) : Type 0 where
  pub count : length residents ≡ length state.objects
  pub closed : IsClosed (forget residents state)

-- and the frame of the method that runs is the topmost one
pub record KeepsHere (residents : List Bool) (now : Now) : Type 0 where
  pub keeping : IsKeeping residents now.state
  pub frames : now.state.roots.frames ≡ OfMethod now.frame ∷ now.below

-- what an instruction, natives whose arguments are kept, and a step do to what is kept is what is kept of what they do
abbrev pub Keeps : List Bool → Now → (Now → Option Plan) → Type 0
Keeps residents now done = Changes (keep residents) now done

abbrev pub NativesKeep : Machine → List Bool → State → Type 0
NativesKeep machine residents state = NativesChange machine (keep residents) (is_held (keep residents state.objects)) state

abbrev pub KeepsPlan : Machine → List Bool → State → Type 0
KeepsPlan machine residents state = ChangesPlan machine (keep residents) state

-- all that a step places is kept
abbrev pub with_marks : List Bool → Placing → List Bool
with_marks residents placing = residents ++ map (λ object. true) (objects_of placing)

abbrev pub kept_after : List Bool → Plan → List Bool
kept_after residents plan = fold with_marks residents plan.placed

abbrev pub residents_behind : List Bool → Option Plan → List Bool
residents_behind residents None = residents
residents_behind residents (Some plan) = kept_after residents plan

-- a reference to what is kept, or to what comes next
abbrev pub kept_or_new : List Bool → State → ℕ → Bool
kept_or_new residents state serial = is_held (keep residents state.objects) serial || nat_lt (length state.objects) serial

-- natives name only what is kept, or comes next
abbrev pub NativesNameKept : Machine → List Bool → State → Type 0
NativesNameKept machine residents state = NativesWithin machine (kept_or_new residents state) (kept_state residents state)

-- a step removes no object, and makes none but those that it places; and so do natives, where it doesn't see whether an empty entry is
-- added where others are there
abbrev pub differ : List Bool → List Bool → ℕ
differ [] [] = 0
differ [] (stays ∷ others) = 1
differ (stays ∷ marks) [] = 1
differ (true ∷ marks) (true ∷ others) = differ marks others
differ (false ∷ marks) (false ∷ others) = differ marks others
differ (true ∷ marks) (false ∷ others) = 1
differ (false ∷ marks) (true ∷ others) = 1

abbrev pub matched : List Bool → List (Option Object) → List (Option Object)
matched marks objects = objects ++ replicate (differ marks (residents objects)) None

abbrev pub any : ℕ → Bool
any serial = true

abbrev pub NativesCount : Machine → State → Type 0
NativesCount machine state = NativesChange machine (matched (residents state.objects)) any state
