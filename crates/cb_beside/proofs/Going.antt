-- How steps go on beside another input and other printed bytes: what is common to them.
use Rattle.std.proofs.Common.{◌≡◌, ap, refl, ℕ, List, Bool, true, false, Option, Some, None, zero, suc, if◌then◌else◌}
use Rattle.std.specs.Prelude.{option_and_then, option_map}
use Rattle.cb_machine.specs.Computing.{divide_message, throws_by_zero}
use Rattle.cb_machine.specs.Machine.{Machine, listed}
use Rattle.cb_machine.specs.Plans.{Plan, leaving}
use Rattle.cb_machine.specs.Sites.{arithmetic}
use Rattle.cb_machine.specs.Standing.{Now, goes_on, leaves}
use Rattle.cb_machine.specs.Strings.{Placed, class_object, constant_string}
use Rattle.cb_machine.specs.Throwing.{throwing_with, throws}
use Rattle.cb_plain.specs.declared.value.Value.{Value}
use Rattle.cb_plain.specs.State.{State}
use Rattle.cb_beside.specs.Beside.{beside, now_in, plan_beside}

-- one plan is another, beside
abbrev pub Same : List ℕ → List ℕ → Option Plan → Option Plan → Type 0
Same input printed one other = one ≡ option_map (plan_beside input printed) other

-- an instruction at another state does what it does, beside
abbrev pub Does : List ℕ → List ℕ → Now → (Now → Option Plan) → Type 0
Does input printed now done = Same input printed (done (now_in now (beside now.state input printed))) (done now)

abbrev pub placed_beside : List ℕ → List ℕ → Placed → Placed
placed_beside input printed placed = record { serial = placed.serial; plan = plan_beside input printed placed.plan }

-- one of two
pub either_same : {X : Type 0} (change : X → X) (is : Bool) (one other third fourth : X) → one ≡ change other → third ≡ change fourth
    → (if is then one else third) ≡ change (if is then other else fourth)
either_same change true one other third fourth first second = first
either_same change false one other third fourth first second = second

module _ (input printed : List ℕ) where
  -- what comes of what is there, and of what was taken
  pub then_same : {X : Type 0} (one other : X → Option Plan) (found : Option X) → ((each : X) → Same input printed (one each) (other each))
      → Same input printed (option_and_then one found) (option_and_then other found)
  then_same one other None each = refl
  then_same one other (Some item) each = each item

  pub map_same : {X : Type 0} (one other : X → Plan) (found : Option X) → ((each : X) → one each ≡ plan_beside input printed (other each))
      → Same input printed (option_map one found) (option_map other found)
  map_same one other None each = refl
  map_same one other (Some item) each = ap Some (each item)

  pub pair_same : {X Y : Type 0} (one other : X × Y → Option Plan) (found : Option (X × Y)) → ((x : X) (y : Y) → Same input printed (one (x, y)) (other (x, y)))
      → Same input printed (option_and_then one found) (option_and_then other found)
  pair_same one other None each = refl
  pair_same one other (Some item) each = each item.0 item.1

  -- what comes behind a plan that is another, beside
  pub behind_same : (one other : Plan → Option Plan) → ((plan : Plan) → Same input printed (one (plan_beside input printed plan)) (other plan)) → (found : Option Plan)
      → Same input printed (option_and_then one (option_map (plan_beside input printed) found)) (option_and_then other found)
  behind_same one other each None = refl
  behind_same one other each (Some plan) = each plan

  -- the next instruction
  pub goes_on_same : (now : Now) (locals stack : List Value) (plan : Plan)
      → Same input printed (goes_on (now_in now (beside now.state input printed)) locals stack (plan_beside input printed plan)) (goes_on now locals stack plan)
  goes_on_same now locals stack plan = map_same _ _ now.next (λ pc. refl)

  pub leaves_same : (now : Now) (stack : List Value) → Does input printed now (λ now. leaves now stack)
  leaves_same now stack = goes_on_same now now.frame.locals stack (leaving now.state)

  -- constants
  pub constant_same : (machine : Machine) (text : ℕ) (plan : Plan)
      → constant_string machine text (plan_beside input printed plan) ≡ placed_beside input printed (constant_string machine text plan)
  constant_same machine text plan = by (listed plan.left.roots.tables.constants text) refl where
    by : (serial : ℕ) → listed plan.left.roots.tables.constants text ≡ serial
        → constant_string machine text (plan_beside input printed plan) ≡ placed_beside input printed (constant_string machine text plan)
    by zero is = rw is refl
    by (suc place) is = rw is refl

  pub class_same : (machine : Machine) (kind : ℕ) (plan : Plan)
      → class_object machine kind (plan_beside input printed plan) ≡ placed_beside input printed (class_object machine kind plan)
  class_same machine kind plan = by (listed plan.left.roots.tables.classes kind) refl where
    by : (serial : ℕ) → listed plan.left.roots.tables.classes kind ≡ serial
        → class_object machine kind (plan_beside input printed plan) ≡ placed_beside input printed (class_object machine kind plan)
    by zero is = rw is refl
    by (suc place) is = rw is refl

  -- exceptions
  pub throws_same : (machine : Machine) (state : State) (site : ℕ) → throws machine (beside state input printed) site ≡ plan_beside input printed (throws machine state site)
  throws_same machine state site = refl

  pub by_zero_same : (machine : Machine) (state : State) → throws_by_zero machine (beside state input printed) ≡ plan_beside input printed (throws_by_zero machine state)
  by_zero_same machine state =
      ap (λ (placed : Placed). throwing_with machine arithmetic placed.serial 0 placed.plan) (constant_same machine divide_message (leaving state))
