-- The parts of types say which are below others.
use Rattle.std.proofs.Common.{◌≡◌, ◌∙◌, ap, ap₂, refl, sym, arith, ℕ, suc, ◌+◌, Bool, true, false, cond, not, List, [], ◌∷◌, ◌++◌, drop, Option, Some, None, ◌==◌, ◌&&◌}
use Rattle.std.specs.Prelude.{nat_eq, nat_lt}
use Rattle.std.proofs.lemmas.Bool.Decides.{nat_tests}
use Rattle.std.proofs.lemmas.List.Sums.{take_while-cons}
use Rattle.cb_names.specs.Signs.{bracket, letter_class, semicolon}
use Rattle.cb_kinds.specs.Kinds.{ends_name, is_array, name_in}
use Rattle.cb_link.specs.InnerKinds.{by_letters, class_in, dimensions, first_unit, inner_name, is_class, letter_of, rest_of}
use Rattle.cb_link.specs.Subtypes.{is_above_arrays, is_subtype}

-- a name in front of the semicolon that ends it
pub name_ends : (name : List ℕ) → name_in (name ++ semicolon ∷ []) ≡ name_in name
name_ends [] = refl
name_ends (unit ∷ name) =
    take_while-cons in_name unit (name ++ semicolon ∷ [])
    ∙ ap (λ rest. cond (in_name unit) (unit ∷ rest) []) (name_ends name)
    ∙ sym (take_while-cons in_name unit name)
  where
    in_name : ℕ → Bool
    in_name unit = not (ends_name unit)

pub class_name_within : (name : List ℕ) → is_array name ≡ false → name_in name ≡ inner_name name
class_name_within name none = sym (name_ends name) ∙ sym (ap (λ test. class_in (cond test name (letter_class ∷ name ++ semicolon ∷ []))) none)

-- types by their dimensions and what stands behind the brackets
abbrev by_parts : (List ℕ → List ℕ → Bool) → ℕ → List ℕ → ℕ → List ℕ → Bool
by_parts among one rest other others =
    cond (one == other) (by_letters (first_unit rest) (first_unit others) (among (name_in (rest_of rest)) (name_in (rest_of others))))
    (nat_lt other one && (is_class (first_unit others) && is_above_arrays (name_in (rest_of others))))

abbrev pub by_types : (List ℕ → List ℕ → Bool) → List ℕ → List ℕ → Bool
by_types among one other = by_parts among (dimensions one) (drop (dimensions one) one) (dimensions other) (drop (dimensions other) other)

one_less : (count : ℕ) (unit : ℕ) (rest : List ℕ) → drop (1 + count) (unit ∷ rest) ≡ drop count rest
one_less count unit rest = let more : 1 + count ≡ suc count = omega arith in ap (λ count. drop count (unit ∷ rest)) more

and_false : (test : Bool) → (test && false) ≡ false
and_false true = refl
and_false false = refl

never : (test other : Bool) → cond test false (false && other) ≡ false
never true other = refl
never false other = refl

no_class_left : (one : Option ℕ) (among : Bool) → by_letters one None among ≡ false
no_class_left None among = refl
no_class_left (Some letter) among = refl

-- no array is below a type without a letter, and nothing without one is below an array
module _ (among : List ℕ → List ℕ → Bool) where
  to_none : (one : List ℕ) → by_types among one [] ≡ false
  to_none one =
      ap₂ (λ equal deeper. cond (dimensions one == 0) equal deeper)
      (no_class_left (letter_of one) (among (class_in one) (name_in [])))
      (and_false (nat_lt 0 (dimensions one)))
      ∙ same (dimensions one == 0)
    where
      same : (test : Bool) → cond test false false ≡ false
      same true = refl
      same false = refl

  from_none : (other : List ℕ) → by_types among [] other ≡ false
  from_none other =
      ap (λ deeper. cond (0 == dimensions other) false (deeper && (is_class (letter_of other) && is_above_arrays (class_in other)))) less
      ∙ never (0 == dimensions other) (is_class (letter_of other) && is_above_arrays (class_in other))
    where
      less : nat_lt (dimensions other) 0 ≡ false
      less = grind (arith, nat_tests)

  -- one dimension more on both sides
  both_more : (one other : ℕ) (rest others : List ℕ) → by_parts among (1 + one) rest (1 + other) others ≡ by_parts among one rest other others
  both_more one other rest others =
      let equal : nat_eq (1 + one) (1 + other) ≡ nat_eq one other = grind (arith, nat_tests) in
      let less : nat_lt (1 + other) (1 + one) ≡ nat_lt other one = grind (arith, nat_tests) in
      ap₂ (λ equal less. cond equal (by_letters (first_unit rest) (first_unit others) (among (name_in (rest_of rest)) (name_in (rest_of others))))
      (less && (is_class (first_unit others) && is_above_arrays (name_in (rest_of others))))) equal less

  deeper : (count : ℕ) (rest others : List ℕ) → by_parts among (1 + count) rest 0 others ≡ (is_class (first_unit others) && is_above_arrays (name_in (rest_of others)))
  deeper count rest others =
      let equal : nat_eq (1 + count) 0 ≡ false = grind (arith, nat_tests) in
      let less : nat_lt 0 (1 + count) ≡ true = grind (arith, nat_tests) in
      ap₂ (λ equal less. cond equal (by_letters (first_unit rest) (first_unit others) (among (name_in (rest_of rest)) (name_in (rest_of others))))
      (less && (is_class (first_unit others) && is_above_arrays (name_in (rest_of others))))) equal less

  shallower : (count : ℕ) (rest others : List ℕ) → by_parts among 0 rest (1 + count) others ≡ false
  shallower count rest others =
      let equal : nat_eq 0 (1 + count) ≡ false = grind (arith, nat_tests) in
      let less : nat_lt (1 + count) 0 ≡ false = grind (arith, nat_tests) in
      ap₂ (λ equal less. cond equal (by_letters (first_unit rest) (first_unit others) (among (name_in (rest_of rest)) (name_in (rest_of others))))
      (less && (is_class (first_unit others) && is_above_arrays (name_in (rest_of others))))) equal less

  -- what isn't a bracket is no letter of what is
  no_array : (unit other : ℕ) (below : Bool) → (unit == bracket) ≡ false → (other == bracket) ≡ true
      → cond ((unit == letter_class) && (other == letter_class)) below (unit == other) ≡ false
  no_array unit other below is_not is =
      let same : other ≡ bracket = grind (arith, nat_tests) in
      ap (λ other. cond ((unit == letter_class) && (other == letter_class)) below (unit == other)) same
      ∙ ap (λ test. cond test below (unit == bracket)) (and_false (unit == letter_class)) ∙ is_not

  pub subtype_by : (one other : List ℕ) → is_subtype among one other ≡ by_types among one other
  subtype_by [] other = sym (from_none other)
  subtype_by (unit ∷ rest) [] = sym (to_none (unit ∷ rest))
  subtype_by (unit ∷ rest) (other ∷ others) = go (unit == bracket) (other == bracket) refl refl (subtype_by rest others)
    where
      go : (one two : Bool) → (unit == bracket) ≡ one → (other == bracket) ≡ two → is_subtype among rest others ≡ by_types among rest others
          → cond one (cond two (is_subtype among rest others) ((other == letter_class) && is_above_arrays (name_in others)))
          (cond ((unit == letter_class) && (other == letter_class)) (among (name_in rest) (name_in others)) (unit == other))
          ≡ by_parts among (cond one (1 + dimensions rest) 0) (drop (cond one (1 + dimensions rest) 0) (unit ∷ rest))
          (cond two (1 + dimensions others) 0) (drop (cond two (1 + dimensions others) 0) (other ∷ others))
      go true true is also below =
          below ∙ sym (both_more (dimensions rest) (dimensions others) (drop (dimensions rest) rest) (drop (dimensions others) others))
          ∙ sym (ap₂ (λ one two. by_parts among (1 + dimensions rest) one (1 + dimensions others) two) (one_less (dimensions rest) unit rest) (one_less (dimensions others) other others))
      go true false is also below = sym (deeper (dimensions rest) (drop (1 + dimensions rest) (unit ∷ rest)) (other ∷ others))
      go false true is also below =
          no_array unit other (among (name_in rest) (name_in others)) is also
          ∙ sym (shallower (dimensions others) (unit ∷ rest) (drop (1 + dimensions others) (other ∷ others)))
      go false false is also below = refl
