-- What may be held as a kind may be held as each kind that holds the objects of that one.
use Rattle.std.proofs.Common.{◌≡◌, ◌∙◌, ap, refl, sym, ℕ, ◌==◌, Bool, true, false, cond, ◌||◌, ◌&&◌, List, [], ◌∷◌, length, nat_lt}
use Rattle.std.proofs.lemmas.Bool.{and_from, and_parts, eqb-true, false≢true}
use Rattle.cb_classfile.specs.declared.class.ClassFile.{ClassFile}
use Rattle.cb_kinds.specs.Kinds.{name_in}
use Rattle.cb_link.specs.Program.{Linked}
use Rattle.cb_link.specs.Subtypes.{is_above_arrays, is_instance, names_interface, type_of_kind}
use Rattle.cb_names.specs.Signs.{bracket, letter_class}
use Rattle.cb_safety.specs.Kinds.{holds_kind, is_held_as}
use Rattle.cb_safety.specs.Order.{HasOrder}
use Rattle.cb_safety.proofs.Holding.{Base, Bracket, Letter, Sign, base_holds, held_goes, sign_of}

-- by tests of the units with which types begin
array_through : (interface array class above instance : Bool) → array ≡ true → cond interface true above ≡ true → cond interface (array || class) (cond array above (class && instance)) ≡ true
array_through true true class above instance is held = refl
array_through false true class above instance is held = held
array_through interface false class above instance is held = absurd (false≢true is)

class_through : (interface instance : Bool) → cond interface true instance ≡ true → (interface || instance) ≡ true
class_through true instance held = refl
class_through false instance held = held

pub no_base : (interface array class above instance : Bool) → array ≡ false → class ≡ false → cond interface (array || class) (cond array above (class && instance)) ≡ true → ⊥
no_base interface true class above instance no_array no_class held = false≢true (sym no_array)
no_base interface false true above instance no_array no_class held = false≢true (sym no_class)
no_base true false false above instance no_array no_class held = false≢true held
no_base false false false above instance no_array no_class held = false≢true held

module _ (classes : List ClassFile) (order : HasOrder classes) where
  through_step : (unit middle other : ℕ) (rest between others : List ℕ) → Sign middle → Sign other
      → (is_held_as classes rest between ≡ true → is_held_as classes between others ≡ true → is_held_as classes rest others ≡ true)
      → is_held_as classes (unit ∷ rest) (middle ∷ between) ≡ true → is_held_as classes (middle ∷ between) (other ∷ others) ≡ true
      → is_held_as classes (unit ∷ rest) (other ∷ others) ≡ true
  through_step unit middle other rest between others Bracket Bracket inner held next =
      let (array, within) = and_parts (unit == bracket) (is_held_as classes rest between) held in
      and_from (unit == bracket) (is_held_as classes rest others) array (inner within next)
  through_step unit middle other rest between others Letter Bracket inner held next = absurd (false≢true next)
  through_step unit middle other rest between others (Base first no_array none) Bracket inner held next =
      absurd (false≢true (sym no_array ∙ (and_parts (first == bracket) (is_held_as classes between others) next).0))
  through_step unit middle other rest between others Bracket Letter inner held next =
      let (array, within) = and_parts (unit == bracket) (is_held_as classes rest between) held in
      array_through (names_interface classes (name_in others)) (unit == bracket) (unit == letter_class) (is_above_arrays (name_in others)) (is_instance classes (name_in rest) (name_in others)) array next
  through_step unit middle other rest between others Letter Letter inner held next =
      held_goes classes order (unit ∷ rest) (letter_class ∷ between) (letter_class ∷ others) held
      (class_through (names_interface classes (name_in others)) (is_instance classes (name_in between) (name_in others)) next)
  through_step unit middle other rest between others (Base first no_array none) Letter inner held next =
      absurd (no_base (names_interface classes (name_in others)) (first == bracket) (first == letter_class) (is_above_arrays (name_in others))
      (is_instance classes (name_in between) (name_in others)) no_array none next)
  through_step unit middle other rest between others sign (Base last no_array none) inner held next =
      let same : middle ≡ last = eqb-true middle last (sym (base_holds classes middle last between others no_array none) ∙ next) in
      base_holds classes unit last rest others no_array none ∙ ap (λ (last : ℕ). unit == last) (sym same)
      ∙ sym (base_holds classes unit middle rest between (ap (λ (unit : ℕ). unit == bracket) same ∙ no_array) (ap (λ (unit : ℕ). unit == letter_class) same ∙ none)) ∙ held

  held_through : (own between other : List ℕ) → is_held_as classes own between ≡ true → is_held_as classes between other ≡ true → is_held_as classes own other ≡ true
  held_through [] between other held next = absurd (false≢true held)
  held_through (unit ∷ rest) [] other held next = absurd (false≢true held)
  held_through (unit ∷ rest) (middle ∷ between) [] held next = absurd (false≢true next)
  held_through (unit ∷ rest) (middle ∷ between) (other ∷ others) held next =
      through_step unit middle other rest between others (sign_of middle) (sign_of other) (held_through rest between others) held next

-- ---- of the kinds of a program

pub holds_through : (program : Linked) → HasOrder program.classes → (own kind other : ℕ) → holds_kind program own kind ≡ true → holds_kind program kind other ≡ true
    → holds_kind program own other ≡ true
holds_through program order own kind other holds next =
    let count : ℕ = length program.kinds in
    let (both, held) = and_parts (nat_lt own count && nat_lt kind count) (is_held_as program.classes (type_of_kind program own) (type_of_kind program kind)) holds in
    let (also, further) = and_parts (nat_lt kind count && nat_lt other count) (is_held_as program.classes (type_of_kind program kind) (type_of_kind program other)) next in
    and_from (nat_lt own count && nat_lt other count) (is_held_as program.classes (type_of_kind program own) (type_of_kind program other))
    (and_from (nat_lt own count) (nat_lt other count) (and_parts (nat_lt own count) (nat_lt kind count) both).0 (and_parts (nat_lt kind count) (nat_lt other count) also).1)
    (held_through program.classes order (type_of_kind program own) (type_of_kind program kind) (type_of_kind program other) held further)
