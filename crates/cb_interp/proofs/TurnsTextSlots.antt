-- The static fields of a class one after the other, and the texts that are their constants.
use Rattle.std.proofs.Common.{◌≡◌, ◌∙◌, ap, arith, refl, ℕ, suc, ◌+◌, ◌-◌, ◌<◌, ◌==◌, true, false, List, [], ◌∷◌, filter, length, Option, Some, None}
use Rattle.std.proofs.lemmas.Option.{none-some, same_Some}
use Rattle.std.specs.Prelude.{option_map}
use Rattle.std.specs.List.{range_with_len}
use Rattle.cb_classfile.specs.declared.field.Field.{Field}
use Rattle.cb_link.specs.Named.{static_initial}
use Rattle.cb_link.specs.Numbers.{Numbered}
use Rattle.cb_link.specs.Program.{Linked}
use Rattle.cb_link.specs.Slots.{static_at, statics}
use Rattle.cb_link.specs.declared.named.Named.{Named}
use Rattle.cb_link.specs.declared.named.Named.TheVariants as meanings
use Rattle.cb_machine.specs.Initialising.{own_statics}
use Rattle.cb_interp.specs.TextStatics.{declared_by, own_text, text_of}

-- a class declares a field, by the class that declares it
pub declared_so : (class owner : ℕ) (found : Option (Numbered Field)) → option_map (λ field. field.class) found ≡ Some owner → declared_by class found ≡ (owner == class)
declared_so class owner None is = absurd (none-some owner is)
declared_so class owner (Some field) is = ap (λ (other : ℕ). other == class) (same_Some field.class owner is)

-- a text that a constant means
pub text_so : (named : Named) (text : ℕ) → text_of named ≡ Some text → named ≡ meanings.Text text
text_so meanings.Nothing text is = absurd (none-some text is)
text_so (meanings.Kind kind) text is = absurd (none-some text is)
text_so (meanings.Static class other) text is = absurd (none-some text is)
text_so (meanings.Field class other) text is = absurd (none-some text is)
text_so (meanings.Method method) text is = absurd (none-some text is)
text_so (meanings.Whole value) text is = absurd (none-some text is)
text_so (meanings.Text other) text is = ap meanings.Text (same_Some other text is)

-- the slots from one on
from_on : (slot count : ℕ) → slot < count → range_with_len slot (count - slot) ≡ slot ∷ range_with_len (slot + 1) (count - (slot + 1))
from_on slot count low = ap (range_with_len slot) (let same : count - slot ≡ suc (count - (slot + 1)) = omega (arith, low) in same)

module _ (program : Linked) (class count : ℕ) where
  abbrev pub slots_from : ℕ → List ℕ
  slots_from slot = filter (λ slot. declared_by class (static_at program slot)) (range_with_len slot (count - slot))

  pub own_next : (slot : ℕ) → slot < count → declared_by class (static_at program slot) ≡ true → slots_from slot ≡ slot ∷ slots_from (slot + 1)
  own_next slot low own = ap (filter (λ (slot : ℕ). declared_by class (static_at program slot))) (from_on slot count low) ∙ rw own refl

  pub other_next : (slot : ℕ) → slot < count → declared_by class (static_at program slot) ≡ false → slots_from slot ≡ slots_from (slot + 1)
  other_next slot low other = ap (filter (λ (slot : ℕ). declared_by class (static_at program slot))) (from_on slot count low) ∙ rw other refl

  pub slots_end : (slot : ℕ) → count < slot + 1 → slots_from slot ≡ []
  slots_end slot high =
      let none : count - slot ≡ 0 = omega (arith, high) in
      ap (λ (more : ℕ). filter (λ (slot : ℕ). declared_by class (static_at program slot)) (range_with_len slot more)) none

  pub slots_whole : count ≡ length (statics program.classes) → slots_from 0 ≡ own_statics program class
  slots_whole is =
      let same : count - 0 ≡ length (statics program.classes) = omega (arith, is) in
      ap (λ (more : ℕ). filter (λ (slot : ℕ). declared_by class (static_at program slot)) (range_with_len 0 more)) same

-- the text of a field that the class declares, or doesn't
pub own_is : (program : Linked) (class slot : ℕ) → declared_by class (static_at program slot) ≡ true → own_text program class slot ≡ text_of (static_initial program slot)
own_is program class slot own = rw own refl

pub other_is : (program : Linked) (class slot : ℕ) → declared_by class (static_at program slot) ≡ false → own_text program class slot ≡ None
other_is program class slot other = rw other refl
