-- A state beside another input and other bytes that were printed, and what a step makes of it.
use Rattle.std.specs.Prelude.{ℕ, List}
use Rattle.cb_machine.specs.Performing.{Performed, Gives, Stops}
use Rattle.cb_machine.specs.Plans.{Plan, with_left}
use Rattle.cb_machine.specs.Standing.{Now}
use Rattle.cb_plain.specs.State.{State}
use Rattle.cb_plain.specs.Updates.{with_input, with_printed}

-- a state with this input, and these bytes printed; a plan that leaves such a state; and where a machine stands in one
abbrev pub beside : State → List ℕ → List ℕ → State
beside state input printed = with_printed (with_input state input) printed

abbrev pub plan_beside : List ℕ → List ℕ → Plan → Plan
plan_beside input printed plan = with_left plan (beside plan.left input printed)

abbrev pub now_in : Now → State → Now
now_in now state = record { machine = now.machine; frame = now.frame; below = now.below; next = now.next; state = state }

-- what a native has performed, beside them
abbrev pub performed_beside : List ℕ → List ℕ → Performed → Performed
performed_beside input printed (Gives plan answer) = Gives (plan_beside input printed plan) answer
performed_beside input printed (Stops plan) = Stops (plan_beside input printed plan)

-- a plan that leaves these bytes printed, and else what it leaves
abbrev pub saying : List ℕ → Plan → Plan
saying printed plan = with_left plan (with_printed plan.left printed)
