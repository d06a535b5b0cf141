-- Runs of a machine: the state after so many steps, what has been printed, and how the run has ended.
use Rattle.std.specs.Prelude.{ℤ, ℕ, List, [], ◌∷◌, Option, Some, None, zero, suc, ◌==◌, if◌then◌else◌}
use Rattle.cb_plain.specs.State.{Frame, Roots, State}
use Rattle.cb_machine.specs.Machine.{Machine}
use Rattle.cb_machine.specs.Starting.{start}
use Rattle.cb_machine.specs.Steps.{step}
use Rattle.cb_machine.specs.declared.outcome.Outcome.{Outcome}
use Rattle.cb_machine.specs.declared.outcome.Outcome.TheVariants.{Returned, Exited, Uncaught, Running}

-- a state without a next one stays
abbrev or_same : State → Option State → State
or_same state None = state
or_same state (Some next) = next

abbrev pub next : Machine → State → State
next machine state = or_same state (step machine state)

abbrev pub after : Machine → ℕ → State → State
after machine zero state = state
after machine (suc steps) state = after machine steps (next machine state)

-- what runs: the arguments are UTF-16 units, the input bytes
abbrev pub at : Machine → List (List ℕ) → List ℕ → ℕ → State
at machine arguments input steps = after machine steps (start machine arguments input)

-- exit was called; an exception is pending and no frame stands; or main was entered and no frame stands; else it goes on
abbrev without_frames : Roots → Outcome
without_frames roots =
    if roots.pending == 0 then (if roots.argument == 0 then Returned else Running) else Uncaught roots.pending

abbrev by_frames : Roots → List Frame → Outcome
by_frames roots [] = without_frames roots
by_frames roots (frame ∷ below) = Running

abbrev by_exit : Roots → Option ℤ → Outcome
by_exit roots None = by_frames roots roots.frames
by_exit roots (Some status) = Exited status

abbrev pub outcome : State → Outcome
outcome state = by_exit state.roots state.exit
