-- The static fields of a class one after the other: none has a string as its constant.
use Rattle.std.proofs.Common.{◌≡◌, ap, arith, refl, sym, subst, ℕ, suc, ◌+◌, ◌-◌, ◌<◌, ◌==◌, Bool, true, false, cond, List, ◌∷◌, filter, length, Option, Some, None}
use Rattle.std.proofs.lemmas.Bool.{eqb-true, false≢true}
use Rattle.std.specs.Prelude.{option_map}
use Rattle.std.specs.List.{AllByRecursion, range_with_len}
use Rattle.cb_classfile.specs.declared.field.Field.{Field}
use Rattle.cb_link.specs.Named.{static_initial}
use Rattle.cb_link.specs.Numbers.{Numbered}
use Rattle.cb_link.specs.Program.{Linked}
use Rattle.cb_link.specs.Slots.{static_at, statics}
use Rattle.cb_unwind.specs.Begun.{IsNoText, NumbersOnly}

-- whether a class declares a field
abbrev pub declared_by : ℕ → Option (Numbered Field) → Bool
declared_by class None = false
declared_by class (Some field) = field.class == class

declared_so : (class : ℕ) (found : Option (Numbered Field)) → declared_by class found ≡ true → option_map (λ field. field.class) found ≡ Some class
declared_so class None is = absurd (false≢true is)
declared_so class (Some field) is = ap Some (eqb-true field.class class is)

-- the slots from one on
from_on : (slot count : ℕ) → slot < count → range_with_len slot (count - slot) ≡ slot ∷ range_with_len (slot + 1) (count - (slot + 1))
from_on slot count low = ap (range_with_len slot) (let same : count - slot ≡ suc (count - (slot + 1)) = omega (arith, low) in same)

module _ (program : Linked) (class count : ℕ) where
  abbrev pub IsNumber : ℕ → Type 0
  IsNumber slot = IsNoText (static_initial program slot)

  abbrev pub own_in : List ℕ → List ℕ
  own_in slots = filter (λ slot. declared_by class (static_at program slot)) slots

  -- those of the class from a slot on have none
  abbrev pub NumbersFrom : ℕ → Type 0
  NumbersFrom slot = AllByRecursion IsNumber (own_in (range_with_len slot (count - slot)))

  pub numbers_on : (slot : ℕ) → slot < count → (option_map (λ field. field.class) (static_at program slot) ≡ Some class → IsNoText (static_initial program slot))
      → NumbersFrom (slot + 1) → NumbersFrom slot
  numbers_on slot low own rest =
      subst (λ (slots : List ℕ). AllByRecursion IsNumber (own_in slots)) (sym (from_on slot count low))
      (by (declared_by class (static_at program slot)) (λ is. own (declared_so class (static_at program slot) is)))
    where
      by : (is : Bool) → (is ≡ true → IsNumber slot)
          → AllByRecursion IsNumber (cond is (slot ∷ own_in (range_with_len (slot + 1) (count - (slot + 1)))) (own_in (range_with_len (slot + 1) (count - (slot + 1)))))
      by true number = (number refl, rest)
      by false number = rest

  pub numbers_end : (slot : ℕ) → count < slot + 1 → NumbersFrom slot
  numbers_end slot high =
      let none : 0 ≡ count - slot = omega (arith, high) in
      subst (λ (more : ℕ). AllByRecursion IsNumber (own_in (range_with_len slot more))) none tt

  pub numbers_whole : count ≡ length (statics program.classes) → NumbersFrom 0 → NumbersOnly program class
  numbers_whole is numbers =
      let same : count - 0 ≡ length (statics program.classes) = omega (arith, is) in
      subst (λ (count : ℕ). AllByRecursion IsNumber (own_in (range_with_len 0 count))) same numbers
