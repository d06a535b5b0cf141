-- What a native does beside another input and other printed bytes is what it does, beside them: what is common to natives.
use Rattle.std.proofs.Common.{◌≡◌, ap, refl, ℕ, ℤ, Bool, List, Option, Some, None, zero, suc, length, nat_le, if◌then◌else◌}
use Rattle.std.specs.Prelude.{option_and_then, option_map}
use Rattle.cb_machine.specs.Computing.{throws_by_zero}
use Rattle.cb_machine.specs.Performing.{Call, Performed, Stops, built_text, gives_text, if_short, most_elements, number_at, on_number, on_object, on_text, stops, text_of, value_slot}
use Rattle.cb_machine.specs.Plans.{Plan}
use Rattle.cb_machine.specs.Sites.{negative_size}
use Rattle.cb_plain.specs.State.{Object}
use Rattle.cb_plain.specs.Updates.{object_at}
use Rattle.cb_beside.specs.Beside.{beside, performed_beside}
use Rattle.cb_beside.proofs.Going.{by_zero_same, either_same}

-- the call of a native, another input, and other printed bytes
pub record Apart : Type 0 where
  pub own : Call
  pub input : List ℕ
  pub printed : List ℕ

abbrev pub there : Apart → Call
there it = record { machine = it.own.machine; state = beside it.own.state it.input it.printed }

-- one answer is another, beside
abbrev pub Alike : Apart → Option Performed → Option Performed → Type 0
Alike it one other = one ≡ option_map (performed_beside it.input it.printed) other

module _ (it : Apart) where
  -- what comes of what is there, and one of two
  pub and_same : {X : Type 0} (one other : X → Option Performed) (found : Option X) → ((each : X) → Alike it (one each) (other each))
      → Alike it (option_and_then one found) (option_and_then other found)
  and_same one other None each = refl
  and_same one other (Some item) each = each item

  pub branch_same : (is : Bool) (one other third fourth : Option Performed) → Alike it one other → Alike it third fourth
      → Alike it (if is then one else third) (if is then other else fourth)
  branch_same is one other third fourth first second = either_same (option_map (performed_beside it.input it.printed)) is one other third fourth first second

  pub short_same : (count : ℕ) (one other : Option Performed) → Alike it one other → Alike it (if_short (there it) count one) (if_short it.own count other)
  short_same count one other is =
      branch_same (nat_le count most_elements) one other (stops (there it) negative_size) (stops it.own negative_size) is refl

  pub by_zero_alike : Alike it (Some (Stops (throws_by_zero it.own.machine (beside it.own.state it.input it.printed)))) (Some (Stops (throws_by_zero it.own.machine it.own.state)))
  by_zero_alike = ap (λ (plan : Plan). Some (Stops plan)) (by_zero_same it.input it.printed it.own.machine it.own.state)

  -- an object, its number, and its text
  pub object_same : (serial : ℕ) (one other : Object → Option Performed) → ((object : Object) → Alike it (one object) (other object))
      → Alike it (on_object (there it) serial one) (on_object it.own serial other)
  object_same zero one other each = refl
  object_same (suc place) one other each = and_same one other (object_at it.own.state (suc place)) each

  pub number_same : (serial : ℕ) (one other : ℤ → Option Performed) → ((number : ℤ) → Alike it (one number) (other number))
      → Alike it (on_number (there it) serial one) (on_number it.own serial other)
  number_same serial one other each =
      object_same serial (λ object. option_and_then one (number_at object value_slot)) (λ object. option_and_then other (number_at object value_slot))
      (λ object. and_same one other (number_at object value_slot) each)

  pub text_then : (serial : ℕ) (one other : List ℕ → Option Performed) → ((units : List ℕ) → Alike it (one units) (other units))
      → Alike it (on_text (there it) serial one) (on_text it.own serial other)
  text_then serial one other each =
      object_same serial (λ object. option_and_then one (text_of it.own.state object)) (λ object. option_and_then other (text_of it.own.state object))
      (λ object. and_same one other (text_of it.own.state object) each)

  pub built_then : (serial : ℕ) (one other : Object → List ℕ → Option Performed) → ((object : Object) (units : List ℕ) → Alike it (one object units) (other object units))
      → Alike it (on_object (there it) serial (λ builder. option_and_then (one builder) (built_text (beside it.own.state it.input it.printed) builder)))
      (on_object it.own serial (λ builder. option_and_then (other builder) (built_text it.own.state builder)))
  built_then serial one other each =
      object_same serial (λ builder. option_and_then (one builder) (built_text it.own.state builder)) (λ builder. option_and_then (other builder) (built_text it.own.state builder))
      (λ builder. and_same (one builder) (other builder) (built_text it.own.state builder) (each builder))

  -- a new text
  pub texts_same : (units : List ℕ) → Alike it (gives_text (there it) units) (gives_text it.own units)
  texts_same units = short_same (length units) _ _ refl
