-- Steps that go on, throw or place, of a state of which only some objects are kept.
use Rattle.std.proofs.Common.{◌≡◌, ◌∙◌, ap, refl, ℕ, List, length, Option, Some, None, zero, suc}
use Rattle.std.specs.Prelude.{option_and_then, option_map}
use Rattle.cb_machine.specs.Computing.{divide_message, throws_by_zero}
use Rattle.cb_machine.specs.Machine.{Machine, listed}
use Rattle.cb_machine.specs.Plans.{Plan, leaving}
use Rattle.cb_machine.specs.Sites.{arithmetic}
use Rattle.cb_machine.specs.Standing.{Now, goes_on}
use Rattle.cb_machine.specs.Strings.{Placed, class_object, constant_string}
use Rattle.cb_machine.specs.Throwing.{throwing_with, throws}
use Rattle.cb_plain.specs.declared.value.Value.{Value}
use Rattle.cb_plain.specs.State.{State}
use Rattle.cb_act.specs.Changing.{Change, changed_now, changed_plan, changed_state}

-- what comes of an answer
pub then_kept : {X : Type 0} (change : Change) (one other : X → Option Plan) → ((each : X) → one each ≡ option_map (changed_plan change) (other each))
    → (found : Option X) → option_and_then one found ≡ option_map (changed_plan change) (option_and_then other found)
then_kept change one other each None = refl
then_kept change one other each (Some item) = each item

-- a plan that is kept goes on
pub goes_on_kept : (change : Change) (now : Now) (locals stack : List Value) (plan : Plan)
    → goes_on (changed_now change now) locals stack (changed_plan change plan) ≡ option_map (changed_plan change) (goes_on now locals stack plan)
goes_on_kept change now locals stack plan = by now.next refl where
  by : (next : Option ℕ) → now.next ≡ next
      → goes_on (changed_now change now) locals stack (changed_plan change plan) ≡ option_map (changed_plan change) (goes_on now locals stack plan)
  by None is = rw is refl
  by (Some pc) is = rw is refl

-- constants
abbrev pub changed_placed : Change → Placed → Placed
changed_placed change placed = record { serial = placed.serial; plan = changed_plan change placed.plan }

pub constant_kept : (change : Change) (machine : Machine) (text : ℕ) (plan : Plan)
    → constant_string machine text (changed_plan change plan) ≡ changed_placed change (constant_string machine text plan)
constant_kept change machine text plan = by (listed plan.left.roots.tables.constants text) refl where
  by : (serial : ℕ) → listed plan.left.roots.tables.constants text ≡ serial
      → constant_string machine text (changed_plan change plan) ≡ changed_placed change (constant_string machine text plan)
  by zero is = rw is refl
  by (suc place) is = rw is refl

pub class_kept : (change : Change) (machine : Machine) (kind : ℕ) (plan : Plan)
    → class_object machine kind (changed_plan change plan) ≡ changed_placed change (class_object machine kind plan)
class_kept change machine kind plan = by (listed plan.left.roots.tables.classes kind) refl where
  by : (serial : ℕ) → listed plan.left.roots.tables.classes kind ≡ serial
      → class_object machine kind (changed_plan change plan) ≡ changed_placed change (class_object machine kind plan)
  by zero is = rw is refl
  by (suc place) is = rw is refl

module _ (change : Change) (state : State) (same : length (change state.objects) ≡ length state.objects) where
  -- nothing is placed
  pub leaving_kept : leaving (changed_state change state) ≡ changed_plan change (leaving state)
  leaving_kept = rw same refl

  -- exceptions
  pub throws_kept : (machine : Machine) (site : ℕ) → throws machine (changed_state change state) site ≡ changed_plan change (throws machine state site)
  throws_kept machine site = rw same refl

  pub by_zero_kept : (machine : Machine) → throws_by_zero machine (changed_state change state) ≡ changed_plan change (throws_by_zero machine state)
  by_zero_kept machine =
      ap (λ plan. throwing_with machine arithmetic (constant_string machine divide_message plan).serial 0 (constant_string machine divide_message plan).plan) leaving_kept
      ∙ ap (λ (placed : Placed). throwing_with machine arithmetic placed.serial 0 placed.plan) (constant_kept change machine divide_message (leaving state))

  pub leaves_from : (now : Now) (locals stack : List Value)
      → goes_on (changed_now change now) locals stack (leaving (changed_state change state)) ≡ option_map (changed_plan change) (goes_on now locals stack (leaving state))
  leaves_from now locals stack = ap (goes_on (changed_now change now) locals stack) leaving_kept ∙ goes_on_kept change now locals stack (leaving state)
