-- The static fields of a class, one after the other.
use Rattle.std.proofs.Common.{◌≡◌, ◌∙◌, ap, arith, refl, sym, ℕ, suc, ◌+◌, ◌-◌, ◌<◌, ◌==◌, Bool, true, false, List, ◌∷◌, filter, length, Option, Some, None}
use Rattle.std.proofs.lemmas.Bool.{eq-eqb, ne_eqb}
use Rattle.std.proofs.lemmas.List.{length-set}
use Rattle.std.proofs.lemmas.Option.{none-some, same_Some}
use Rattle.std.specs.Prelude.{option_map}
use Rattle.std.specs.List.{fold, range_with_len}
use Rattle.cb_classfile.specs.declared.field.Field.{Field}
use Rattle.cb_kinds.specs.declared.basic.Basic.{Basic}
use Rattle.cb_link.specs.declared.named.Named.{Named}
use Rattle.cb_link.specs.declared.named.Named.TheVariants as meanings
use Rattle.cb_link.specs.Named.{static_initial}
use Rattle.cb_link.specs.Numbers.{Numbered}
use Rattle.cb_link.specs.Program.{Linked}
use Rattle.cb_link.specs.Slots.{static_at, static_basic}
use Rattle.cb_machine.specs.Values.{kept_value}
use Rattle.cb_plain.specs.declared.value.Value.{Value}
use Rattle.cb_plain.specs.State.{Roots}
use Rattle.cb_unwind.specs.Begun.{set_initial, set_to, set_whole}

-- as many static fields stay
whole_count : (slot : ℕ) (value : Value) (roots : Roots) (basic : Option Basic) → length (set_whole slot value roots basic).statics ≡ length roots.statics
whole_count slot value roots None = refl
whole_count slot value roots (Some basic) = length-set roots.statics slot (kept_value basic value)

named_count : (program : Linked) (slot : ℕ) (roots : Roots) (named : Named) → length (set_to program slot roots named).statics ≡ length roots.statics
named_count program slot roots meanings.Nothing = refl
named_count program slot roots (meanings.Kind kind) = refl
named_count program slot roots (meanings.Static class other) = refl
named_count program slot roots (meanings.Field class other) = refl
named_count program slot roots (meanings.Method method) = refl
named_count program slot roots (meanings.Text text) = refl
named_count program slot roots (meanings.Whole value) = whole_count slot value roots (static_basic program slot)

pub set_count : (program : Linked) (roots : Roots) (slot : ℕ) → length (set_initial program roots slot).statics ≡ length roots.statics
set_count program roots slot = named_count program slot roots (static_initial program slot)

-- whether a class declares a field
abbrev pub declared_by : ℕ → Option (Numbered Field) → Bool
declared_by class None = false
declared_by class (Some field) = field.class == class

declared_so : (class owner : ℕ) (found : Option (Numbered Field)) → option_map (λ field. field.class) found ≡ Some owner → declared_by class found ≡ (owner == class)
declared_so class owner None is = absurd (none-some owner is)
declared_so class owner (Some field) is = ap (λ (other : ℕ). other == class) (same_Some field.class owner is)

-- the slots from one on
from_on : (slot count : ℕ) → slot < count → range_with_len slot (count - slot) ≡ slot ∷ range_with_len (slot + 1) (count - (slot + 1))
from_on slot count low = ap (range_with_len slot) (let same : count - slot ≡ suc (count - (slot + 1)) = omega (arith, low) in same)

module _ (program : Linked) (class count : ℕ) where
  abbrev pub slots_from : ℕ → List ℕ
  slots_from slot = filter (λ slot. declared_by class (static_at program slot)) (range_with_len slot (count - slot))

  own_next : (slot owner : ℕ) → slot < count → option_map (λ field. field.class) (static_at program slot) ≡ Some owner → (owner == class) ≡ true
      → slots_from slot ≡ slot ∷ slots_from (slot + 1)
  own_next slot owner low is own =
      let passes : declared_by class (static_at program slot) ≡ true = declared_so class owner (static_at program slot) is ∙ own in
      ap (filter (λ (slot : ℕ). declared_by class (static_at program slot))) (from_on slot count low) ∙ rw passes refl

  other_next : (slot owner : ℕ) → slot < count → option_map (λ field. field.class) (static_at program slot) ≡ Some owner → (owner == class) ≡ false
      → slots_from slot ≡ slots_from (slot + 1)
  other_next slot owner low is other =
      let fails : declared_by class (static_at program slot) ≡ false = declared_so class owner (static_at program slot) is ∙ other in
      ap (filter (λ (slot : ℕ). declared_by class (static_at program slot))) (from_on slot count low) ∙ rw fails refl

  -- what is still to be set, at each step of the walk
  abbrev pub left_from : Roots → ℕ → Roots
  left_from roots slot = fold (set_initial program) roots (slots_from slot)

  pub sets_own : (roots : Roots) (slot owner : ℕ) → slot < count → option_map (λ field. field.class) (static_at program slot) ≡ Some owner → owner ≡ class
      → left_from (set_initial program roots slot) (slot + 1) ≡ left_from roots slot
  sets_own roots slot owner low is own = ap (fold (set_initial program) roots) (sym (own_next slot owner low is (eq-eqb owner class own)))

  pub passes_other : (roots : Roots) (slot owner : ℕ) → slot < count → option_map (λ field. field.class) (static_at program slot) ≡ Some owner → (owner ≡ class → ⊥)
      → left_from roots (slot + 1) ≡ left_from roots slot
  passes_other roots slot owner low is other = ap (fold (set_initial program) roots) (sym (other_next slot owner low is (ne_eqb owner class other)))
