-- What an object of a kind may be held as.
use Rattle.std.proofs.Common.{◌≡◌, ◌∙◌, ◌⊎◌, inl, inr, ap, refl, sym, subst, ℕ, ◌<◌, ◌==◌, Bool, true, false, cond, not, ◌||◌, ◌&&◌, List, [], ◌∷◌, length, nat_lt}
use Rattle.std.specs.Prelude.{codes}
use Rattle.std.specs.Cmp.Lexicographic.{bytes_decides}
use Rattle.std.specs.List.{list_any}
use Rattle.std.proofs.lemmas.Bool.{and_from, and_parts, eq-eqb, eqb-true, false≢true, lt-ltb, or_cases, or_left, or_right}
use Rattle.cb_classfile.specs.declared.class.ClassFile.{ClassFile}
use Rattle.cb_kinds.specs.Kinds.{name_in}
use Rattle.cb_kinds.specs.Texts.{same_text}
use Rattle.cb_link.specs.Program.{Linked}
use Rattle.cb_link.specs.Subtypes.{instance, is_above_arrays, is_assignable, is_below, is_instance, is_object, is_subtype, names_interface, type_of_kind}
use Rattle.cb_names.specs.Signs.{bracket, letter_class}
use Rattle.cb_verify.specs.Types.{kind_goes_to}
use Rattle.cb_safety.specs.Kinds.{holds_kind, is_held_as}
use Rattle.cb_safety.specs.Order.{HasOrder}

-- ---- of the names of classes

pub is_text : (one other : List ℕ) → same_text one other ≡ true → one ≡ other
is_text one other same = (bytes_decides one other).0 same

pub object_is : (name : List ℕ) → is_object name ≡ true → is_above_arrays name ≡ true
object_is name is =
    or_left (is_object name || same_text name (codes "java/lang/Cloneable")) (same_text name (codes "java/io/Serializable"))
    (or_left (is_object name) (same_text name (codes "java/lang/Cloneable")) is)

module _ (classes : List ClassFile) where
  instance_same : (one other : List ℕ) → one ≡ other → is_instance classes one other ≡ true
  instance_same one other same =
      or_left (same_text one other || is_object other) (is_below classes one other) (or_left (same_text one other) (is_object other) ((bytes_decides one other).1 same))

  instance_object : (one other : List ℕ) → is_object other ≡ true → is_instance classes one other ≡ true
  instance_object one other is =
      or_left (same_text one other || is_object other) (is_below classes one other) (or_right (same_text one other) (is_object other) is)

  pub instance_below : (one other : List ℕ) → is_below classes one other ≡ true → is_instance classes one other ≡ true
  instance_below one other is = or_right (same_text one other || is_object other) (is_below classes one other) is

  -- an instance of a name has that name, or the name is Object's, or it is below it
  pub instance_cases : (one other : List ℕ) → is_instance classes one other ≡ true → (one ≡ other) ⊎ ((is_object other ≡ true) ⊎ (is_below classes one other ≡ true))
  instance_cases one other is = elim (or_cases (same_text one other || is_object other) (is_below classes one other) is) [
    | inl first ↦ elim (or_cases (same_text one other) (is_object other) first) [
      | inl same ↦ inl (is_text one other same)
      | inr object ↦ inr (inl object)
    ]
    | inr below ↦ inr (inr below)
  ]

  module _ (order : HasOrder classes) where
    instance_of_object : (one other : List ℕ) → is_object one ≡ true → is_instance classes one other ≡ true → is_object other ≡ true
    instance_of_object one other object is = elim (instance_cases one other is) [
      | inl same ↦ subst (λ (name : List ℕ). is_object name ≡ true) same object
      | inr (inl last) ↦ last
      | inr (inr below) ↦ order.object_last other (subst (λ (name : List ℕ). is_below classes name other ≡ true) (is_text one (codes "java/lang/Object") object) below)
    ]

    instance_of_interface : (one other : List ℕ) → names_interface classes one ≡ true → names_interface classes other ≡ false → is_instance classes one other ≡ true
        → is_object other ≡ true
    instance_of_interface one other interface none is = elim (instance_cases one other is) [
      | inl same ↦ absurd (false≢true (sym none ∙ ap (names_interface classes) (sym same) ∙ interface))
      | inr (inl object) ↦ object
      | inr (inr below) ↦ order.of_interface one other below interface none
    ]

    instance_next : (one two three : List ℕ) → is_instance classes one two ≡ true → is_instance classes two three ≡ true → is_instance classes one three ≡ true
    instance_next one two three is next = elim (instance_cases one two is) [
      | inl same ↦ subst (λ (name : List ℕ). is_instance classes name three ≡ true) (sym same) next
      | inr (inl object) ↦ instance_object one three (instance_of_object two three object next)
      | inr (inr below) ↦ elim (instance_cases two three next) [
        | inl same ↦ subst (λ (name : List ℕ). is_instance classes one name ≡ true) same is
        | inr (inl object) ↦ instance_object one three object
        | inr (inr further) ↦ instance_below one three (order.transitive one two three below further)
      ]
    ]

    -- of what is above arrays only Object is a class
    class_above_arrays : (name : List ℕ) → names_interface classes name ≡ false → is_above_arrays name ≡ true → is_object name ≡ true
    class_above_arrays name none above =
        elim (or_cases (is_object name || same_text name (codes "java/lang/Cloneable")) (same_text name (codes "java/io/Serializable")) above) [
          | inl first ↦ elim (or_cases (is_object name) (same_text name (codes "java/lang/Cloneable")) first) [
            | inl object ↦ object
            | inr cloneable ↦ absurd (false≢true (sym none ∙ ap (names_interface classes) (is_text name (codes "java/lang/Cloneable") cloneable) ∙ order.cloneable))
          ]
          | inr serializable ↦ absurd (false≢true (sym none ∙ ap (names_interface classes) (is_text name (codes "java/io/Serializable") serializable) ∙ order.serializable))
        ]

-- ---- of types

-- a type begins with an array's bracket, a class's letter or that of a base type
pub data Sign : ℕ → Type 0 where
  Bracket : Sign bracket
  Letter : Sign letter_class
  Base : (unit : ℕ) → (unit == bracket) ≡ false → (unit == letter_class) ≡ false → Sign unit

pub sign_of : (unit : ℕ) → Sign unit
sign_of unit = go (unit == bracket) (unit == letter_class) refl refl where
  go : (array class : Bool) → (unit == bracket) ≡ array → (unit == letter_class) ≡ class → Sign unit
  go true class array_is class_is = subst Sign (sym (eqb-true unit bracket array_is)) Bracket
  go false true array_is class_is = subst Sign (sym (eqb-true unit letter_class class_is)) Letter
  go false false array_is class_is = Base unit array_is class_is

-- by tests of the units with which types begin
neither : (array class one above : Bool) → array ≡ false → class ≡ false → cond array one (class && above) ≡ true → ⊥
neither true class one above no_array no_class so = false≢true (sym no_array)
neither false true one above no_array no_class so = false≢true (sym no_class)
neither false false one above no_array no_class so = false≢true so

no_class : (class one same : Bool) → class ≡ false → cond class one same ≡ true → same ≡ true
no_class true one same none so = absurd (false≢true (sym none))
no_class false one same none so = so

same_base : (array class one other same : Bool) → array ≡ false → class ≡ false → cond array one (cond class other same) ≡ same
same_base true class one other same no_array none = absurd (false≢true (sym no_array))
same_base false true one other same no_array none = absurd (false≢true (sym none))
same_base false false one other same no_array none = refl

array_held : (interface array class above instance : Bool) → array ≡ true → above ≡ true → cond interface (array || class) (cond array above (class && instance)) ≡ true
array_held true true class above instance is so = refl
array_held false true class above instance is so = so
array_held interface false class above instance is so = absurd (false≢true is)

class_held : (interface array class above instance : Bool) → array ≡ false → class ≡ true → instance ≡ true → cond interface (array || class) (cond array above (class && instance)) ≡ true
class_held interface true class above instance no_array is so = absurd (false≢true (sym no_array))
class_held interface false false above instance no_array is so = absurd (false≢true is)
class_held true false true above instance no_array is so = refl
class_held false false true above instance no_array is so = so

-- a base type is below the types that begin with its letter
base_below : (among : List ℕ → List ℕ → Bool) (unit other : ℕ) (rest others : List ℕ) → (unit == bracket) ≡ false → (unit == letter_class) ≡ false
    → is_subtype among (unit ∷ rest) (other ∷ others) ≡ (unit == other)
base_below among unit other rest others no_array none =
    go (unit == bracket) (unit == letter_class) (other == letter_class) no_array none
  where
    go : (array class also : Bool) → array ≡ false → class ≡ false
        → cond array (cond (other == bracket) (is_subtype among rest others) (also && is_above_arrays (name_in others)))
        (cond (class && also) (among (name_in rest) (name_in others)) (unit == other)) ≡ (unit == other)
    go true class also no_array none = absurd (false≢true (sym no_array))
    go false true also no_array none = absurd (false≢true (sym none))
    go false false also no_array none = refl

module _ (classes : List ClassFile) where
  -- a type that begins with a base type's letter holds what begins with that letter
  pub base_holds : (unit other : ℕ) (rest others : List ℕ) → (other == bracket) ≡ false → (other == letter_class) ≡ false
      → is_held_as classes (unit ∷ rest) (other ∷ others) ≡ (unit == other)
  base_holds unit other rest others no_array none =
      same_base (other == bracket) (other == letter_class) ((unit == bracket) && is_held_as classes rest others)
      (cond (names_interface classes (name_in others)) ((unit == bracket) || (unit == letter_class))
      (cond (unit == bracket) (is_above_arrays (name_in others)) ((unit == letter_class) && is_instance classes (name_in rest) (name_in others))))
      (unit == other) no_array none

  -- what may be held where an instance may
  instance_step : (unit other : ℕ) (rest others : List ℕ) → Sign unit → Sign other
      → (is_subtype (is_instance classes) rest others ≡ true → is_held_as classes rest others ≡ true)
      → is_subtype (is_instance classes) (unit ∷ rest) (other ∷ others) ≡ true → is_held_as classes (unit ∷ rest) (other ∷ others) ≡ true
  instance_step unit other rest others Bracket Bracket inner so = inner so
  instance_step unit other rest others Bracket Letter inner so =
      array_held (names_interface classes (name_in others)) true false (is_above_arrays (name_in others)) (is_instance classes (name_in rest) (name_in others)) refl so
  instance_step unit other rest others Bracket (Base last no_array none) inner so =
      absurd (neither (last == bracket) (last == letter_class) (is_subtype (is_instance classes) rest others) (is_above_arrays (name_in others)) no_array none so)
  instance_step unit other rest others Letter Bracket inner so = absurd (false≢true so)
  instance_step unit other rest others Letter Letter inner so =
      class_held (names_interface classes (name_in others)) false true (is_above_arrays (name_in others)) (is_instance classes (name_in rest) (name_in others)) refl refl so
  instance_step unit other rest others Letter (Base last no_array none) inner so =
      base_holds letter_class last rest others no_array none
      ∙ no_class (last == letter_class) (is_instance classes (name_in rest) (name_in others)) (letter_class == last) none so
  instance_step unit other rest others (Base first no_array none) sign inner so =
      let same : (first == other) ≡ true = sym (base_below (is_instance classes) first other rest others no_array none) ∙ so in
      let last : first ≡ other = eqb-true first other same in
      base_holds first other rest others (ap (λ (unit : ℕ). unit == bracket) (sym last) ∙ no_array) (ap (λ (unit : ℕ). unit == letter_class) (sym last) ∙ none) ∙ same

  instance_held : (own other : List ℕ) → is_subtype (is_instance classes) own other ≡ true → is_held_as classes own other ≡ true
  instance_held [] other so = absurd (false≢true so)
  instance_held (unit ∷ rest) [] so = absurd (false≢true so)
  instance_held (unit ∷ rest) (other ∷ others) so = instance_step unit other rest others (sign_of unit) (sign_of other) (instance_held rest others) so

  -- a type is its own instance where it isn't brackets alone
  own_step : (unit : ℕ) (rest : List ℕ) → Sign unit → (list_any (λ unit. not (unit == bracket)) rest ≡ true → is_subtype (is_instance classes) rest rest ≡ true)
      → list_any (λ unit. not (unit == bracket)) (unit ∷ rest) ≡ true → is_subtype (is_instance classes) (unit ∷ rest) (unit ∷ rest) ≡ true
  own_step unit rest Bracket inner some = inner some
  own_step unit rest Letter inner some = instance_same classes (name_in rest) (name_in rest) refl
  own_step unit rest (Base first no_array none) inner some = base_below (is_instance classes) first first rest rest no_array none ∙ eq-eqb first first refl

  own_instance : (own : List ℕ) → list_any (λ unit. not (unit == bracket)) own ≡ true → is_subtype (is_instance classes) own own ≡ true
  own_instance [] some = absurd (false≢true some)
  own_instance (unit ∷ rest) some = own_step unit rest (sign_of unit) (own_instance rest) some

  module _ (order : HasOrder classes) where
    -- by what the names of classes in two types are, and what an object's type begins with
    class_step : (of_held of_goal array class : Bool) (own name other : List ℕ) → names_interface classes name ≡ of_held → names_interface classes other ≡ of_goal
        → cond of_held (array || class) (cond array (is_above_arrays name) (class && is_instance classes own name)) ≡ true
        → (of_goal || is_instance classes name other) ≡ true
        → cond of_goal (array || class) (cond array (is_above_arrays other) (class && is_instance classes own other)) ≡ true
    class_step of_held true true class own name other named goal held goes = refl
    class_step of_held true false true own name other named goal held goes = refl
    class_step true of_goal false false own name other named goal held goes = absurd (false≢true held)
    class_step false of_goal false false own name other named goal held goes = absurd (false≢true held)
    class_step true false true class own name other named goal held goes = object_is other (instance_of_interface classes order name other named goal goes)
    class_step true false false true own name other named goal held goes =
        instance_object classes own other (instance_of_interface classes order name other named goal goes)
    class_step false false true class own name other named goal held goes =
        object_is other (instance_of_object classes order name other (class_above_arrays classes order name named held) goes)
    class_step false false false true own name other named goal held goes = instance_next classes order own name other held goes

    -- what is held as a type may be held as one to which that type is assignable
    held_step : (unit middle other : ℕ) (rest between others : List ℕ) → Sign middle → Sign other
        → (is_held_as classes rest between ≡ true → is_subtype (is_assignable classes) between others ≡ true → is_held_as classes rest others ≡ true)
        → is_held_as classes (unit ∷ rest) (middle ∷ between) ≡ true → is_subtype (is_assignable classes) (middle ∷ between) (other ∷ others) ≡ true
        → is_held_as classes (unit ∷ rest) (other ∷ others) ≡ true
    held_step unit middle other rest between others Bracket Bracket inner held goes =
        let (array, within) = and_parts (unit == bracket) (is_held_as classes rest between) held in
        and_from (unit == bracket) (is_held_as classes rest others) array (inner within goes)
    held_step unit middle other rest between others Bracket Letter inner held goes =
        let (array, within) = and_parts (unit == bracket) (is_held_as classes rest between) held in
        array_held (names_interface classes (name_in others)) (unit == bracket) (unit == letter_class) (is_above_arrays (name_in others)) (is_instance classes (name_in rest) (name_in others)) array goes
    held_step unit middle other rest between others Bracket (Base last no_array none) inner held goes =
        absurd (neither (last == bracket) (last == letter_class) (is_subtype (is_assignable classes) between others) (is_above_arrays (name_in others)) no_array none goes)
    held_step unit middle other rest between others Letter Bracket inner held goes = absurd (false≢true goes)
    held_step unit middle other rest between others Letter Letter inner held goes =
        class_step (names_interface classes (name_in between)) (names_interface classes (name_in others)) (unit == bracket) (unit == letter_class) (name_in rest) (name_in between) (name_in others) refl refl held goes
    held_step unit middle other rest between others Letter (Base last no_array none) inner held goes =
        let same : (letter_class == last) ≡ true = no_class (last == letter_class) (is_assignable classes (name_in between) (name_in others)) (letter_class == last) none goes in
        absurd (false≢true (sym none ∙ eq-eqb last letter_class (sym (eqb-true letter_class last same))))
    held_step unit middle other rest between others (Base first no_array none) sign inner held goes =
        let same : first ≡ other = eqb-true first other (sym (base_below (is_assignable classes) first other between others no_array none) ∙ goes) in
        base_holds unit other rest others (ap (λ (unit : ℕ). unit == bracket) (sym same) ∙ no_array) (ap (λ (unit : ℕ). unit == letter_class) (sym same) ∙ none)
        ∙ ap (λ (last : ℕ). unit == last) (sym same) ∙ sym (base_holds unit first rest between no_array none) ∙ held

    pub held_goes : (own between other : List ℕ) → is_held_as classes own between ≡ true → is_subtype (is_assignable classes) between other ≡ true → is_held_as classes own other ≡ true
    held_goes [] between other held goes = absurd (false≢true held)
    held_goes (unit ∷ rest) [] other held goes = absurd (false≢true held)
    held_goes (unit ∷ rest) (middle ∷ between) [] held goes = absurd (false≢true goes)
    held_goes (unit ∷ rest) (middle ∷ between) (other ∷ others) held goes =
        held_step unit middle other rest between others (sign_of middle) (sign_of other) (held_goes rest between others) held goes

-- ---- of the kinds of a program

pub holds_goes : (program : Linked) → HasOrder program.classes → (own kind other : ℕ) → holds_kind program own kind ≡ true → kind_goes_to program kind other ≡ true
    → holds_kind program own other ≡ true
holds_goes program order own kind other holds goes =
    let count : ℕ = length program.kinds in
    let (both, held) = and_parts (nat_lt own count && nat_lt kind count) (is_held_as program.classes (type_of_kind program own) (type_of_kind program kind)) holds in
    let (also, gone) = and_parts (nat_lt kind count && nat_lt other count) (is_subtype (is_assignable program.classes) (type_of_kind program kind) (type_of_kind program other)) goes in
    and_from (nat_lt own count && nat_lt other count) (is_held_as program.classes (type_of_kind program own) (type_of_kind program other))
    (and_from (nat_lt own count) (nat_lt other count) (and_parts (nat_lt own count) (nat_lt kind count) both).0 (and_parts (nat_lt kind count) (nat_lt other count) also).1)
    (held_goes program.classes order (type_of_kind program own) (type_of_kind program kind) (type_of_kind program other) held gone)

pub instance_goes : (program : Linked) (own kind : ℕ) → own < length program.kinds → kind < length program.kinds → instance program own kind ≡ true → holds_kind program own kind ≡ true
instance_goes program own kind own_low kind_low so =
    let count : ℕ = length program.kinds in
    and_from (nat_lt own count && nat_lt kind count) (is_held_as program.classes (type_of_kind program own) (type_of_kind program kind))
    (and_from (nat_lt own count) (nat_lt kind count) (lt-ltb own count own_low) (lt-ltb kind count kind_low))
    (instance_held program.classes (type_of_kind program own) (type_of_kind program kind) so)

-- an object of a kind may be held as that kind, unless the kind's name is brackets alone, of which no array's consists
pub holds_own : (program : Linked) (kind : ℕ) → kind < length program.kinds → list_any (λ unit. not (unit == bracket)) (type_of_kind program kind) ≡ true → holds_kind program kind kind ≡ true
holds_own program kind low some = instance_goes program kind kind low low (own_instance program.classes (type_of_kind program kind) some)
