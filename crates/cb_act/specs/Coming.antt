-- States that may come from one, whatever the input gives, whatever was printed, and whatever a store lets go that nothing names.
use Rattle.std.specs.Prelude.{◌≡◌, ◌<◌, ◌^◌, ℕ, Bool, List, Some}
use Rattle.std.specs.List.{AllByRecursion}
use Rattle.cb_machine.specs.Machine.{Machine}
use Rattle.cb_machine.specs.Plans.{Plan, made}
use Rattle.cb_machine.specs.Steps.{plan}
use Rattle.cb_plain.specs.State.{State}
use Rattle.cb_plain.specs.Updates.{with_input, with_printed}
use Rattle.cb_heap.specs.Follows.{Follows}
use Rattle.cb_act.specs.Keeping.{IsKeeping, kept_state}

-- the state itself; and with a state that may come the next one, the same before another input and behind other bytes that were printed, which
-- no step looks at, and what is kept of it where nothing that is kept names another object
pub data MayCome (machine : Machine) (first : State) : State → Type 0 where
  Here : MayCome machine first first
  Step : (state : State) (own : Plan) → MayCome machine first state → plan machine state ≡ Some own → MayCome machine first (made own)
  Given : (state : State) (input : List ℕ) → MayCome machine first state → AllByRecursion (λ byte. byte < 2 ^ 8) input
      → MayCome machine first (with_input state input)
  Printed : (state : State) (printed : List ℕ) → MayCome machine first state → MayCome machine first (with_printed state printed)
  Kept : (kept : List Bool) (state : State) → MayCome machine first state → IsKeeping kept state → MayCome machine first (kept_state kept state)

-- in each of them references follow what sites allow
pub record AreAllowed (allows : ℕ → ℕ → Bool) (machine : Machine) (first : State) : Type 0 where
  pub each : (state : State) → MayCome machine first state → Follows allows state.objects
