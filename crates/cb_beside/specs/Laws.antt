-- What a step has to do with the input and with what was printed before: that it looks neither at the bytes that were printed nor, unless it
-- reads, at the input.
use Rattle.std.specs.Prelude.{◌≡◌, ◌++◌, ℕ, List, [], ◌∷◌, Some, option_map}
use Rattle.cb_machine.specs.Machine.{Machine}
use Rattle.cb_machine.specs.Plans.{Plan, made}
use Rattle.cb_machine.specs.Steps.{plan, request, step}
use Rattle.cb_plain.specs.State.{State}
use Rattle.cb_plain.specs.Updates.{with_input, with_printed}
use Rattle.cb_beside.specs.Beside.{beside, plan_beside, saying}

-- A step prints the same bytes behind whatever was printed before, and leaves the same otherwise. It asks for the same room, and there is a
-- step exactly where there was one.
pub record Says (machine : Machine) (state : State) : Type 0 where
  pub said : List ℕ
  pub prints : (own : Plan) → plan machine state ≡ Some own → (made own).printed ≡ state.printed ++ said
  pub plans : (printed : List ℕ) → plan machine (with_printed state printed) ≡ option_map (saying (printed ++ said)) (plan machine state)
  pub steps : (printed : List ℕ) → step machine (with_printed state printed) ≡ option_map (λ next. with_printed next (printed ++ said)) (step machine state)
  pub requests : (printed : List ℕ) → request machine (with_printed state printed) ≡ request machine state

-- One that doesn't read also leaves any input as it is.
pub record Unread (machine : Machine) (state : State) : Type 0 where
  pub said : List ℕ
  pub prints : (own : Plan) → plan machine state ≡ Some own → (made own).printed ≡ state.printed ++ said
  pub leaves : (own : Plan) → plan machine state ≡ Some own → (made own).input ≡ state.input
  pub plans : (input printed : List ℕ) → plan machine (beside state input printed) ≡ option_map (plan_beside input (printed ++ said)) (plan machine state)
  pub steps : (input printed : List ℕ) → step machine (beside state input printed) ≡ option_map (λ next. beside next input (printed ++ said)) (step machine state)
  pub requests : (input printed : List ℕ) → request machine (beside state input printed) ≡ request machine state

-- A step asks for the same room beside any input, whether it reads or not, and whatever was printed: what takes bytes places nothing.
abbrev pub AsksAlike : Machine → State → Type 0
AsksAlike machine state = (input printed : List ℕ) → request machine (beside state input printed) ≡ request machine state

-- A step takes a byte: given one as its input, it leaves none.
pub record TakesByte (machine : Machine) (state : State) : Type 0 where
  pub next : State
  pub steps : step machine (with_input state (0 ∷ [])) ≡ Some next
  pub taken : next.input ≡ []

-- One that reads prints nothing and takes a front of the input. If it leaves some input, it takes the same front of any input that begins with
-- it, does the same, and leaves what stands behind.
pub record Reads (machine : Machine) (state : State) : Type 0 where
  pub read : List ℕ
  pub rest : List ℕ
  pub front : state.input ≡ read ++ rest
  pub prints : (own : Plan) → plan machine state ≡ Some own → (made own).printed ≡ state.printed
  pub leaves : (own : Plan) → plan machine state ≡ Some own → (made own).input ≡ rest
  pub plans : (other printed : List ℕ) → (rest ≡ [] → other ≡ []) →
      plan machine (beside state (read ++ other) printed) ≡ option_map (plan_beside other printed) (plan machine state)
  pub steps : (other printed : List ℕ) → (rest ≡ [] → other ≡ []) →
      step machine (beside state (read ++ other) printed) ≡ option_map (λ next. beside next other printed) (step machine state)
  pub requests : (other printed : List ℕ) → (rest ≡ [] → other ≡ []) → request machine (beside state (read ++ other) printed) ≡ request machine state
