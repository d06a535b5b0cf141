-- What may be held as an array is an array, of elements that may be held as that one's.
use Rattle.std.proofs.Common.{◌≡◌, ◌∙◌, ap, ap₂, refl, sym, subst, subst₂, ℕ, ◌+◌, ◌<◌, ◌==◌, Bool, true, false, cond, not, ◌||◌, ◌&&◌, if◌then◌else◌, IfSome, List, [], ◌∷◌, ◌++◌, map, length, get_or, nat_lt, Option, Some, None, option_and_then, option_map, slice_get}
use Rattle.std.specs.Cmp.Lexicographic.{bytes_decides}
use Rattle.std.specs.List.{AllByRecursion}
use Rattle.std.proofs.lemmas.Bool.{and_from, and_parts, eqb-true, false≢true, lt-ltb}
use Rattle.std.proofs.lemmas.List.Folds.{find_at}
use Rattle.std.proofs.lemmas.List.Sums.{take_while-cons}
use Rattle.std.proofs.lemmas.Option.{same_Some, slice_get-get_or}
use Rattle.cb_classfile.specs.declared.class.ClassFile.{ClassFile}
use Rattle.cb_kinds.specs.Basics.{basic_of, component_of, is_reference, kind_number}
use Rattle.cb_kinds.specs.Kinds.{ends_name, is_array, name_in, type_of_name}
use Rattle.cb_kinds.specs.Texts.{same_text}
use Rattle.cb_kinds.specs.declared.basic.Basic.{Basic}
use Rattle.cb_kinds.specs.declared.basic.Basic.TheVariants.{Boolean, Byte, Char, Int, Long, Reference, Short}
use Rattle.cb_link.proofs.Laws.{element_low}
use Rattle.cb_link.specs.Having.{HasOwnName, IsBelow, IsWhole}
use Rattle.cb_link.specs.Numbers.{class_number, name_of, or_none}
use Rattle.cb_link.specs.Program.{Linked}
use Rattle.cb_link.specs.Subtypes.{is_above_arrays, is_instance, names_interface, type_of_kind}
use Rattle.cb_names.specs.Signs.{bracket, letter_boolean, letter_byte, letter_char, letter_class, letter_double, letter_long, letter_short, semicolon}
use Rattle.cb_safety.specs.Kinds.{holds_kind, is_held_as}
use Rattle.cb_safety.specs.Naming.{Components, HoldsElements}
use Rattle.cb_safety.proofs.Assigned.{never, when}
use Rattle.cb_safety.proofs.Holding.{Base, Bracket, Letter, Sign, base_holds, sign_of}
use Rattle.cb_safety.proofs.Searching.{found_passes, position_later}
use Rattle.cb_safety.proofs.Through.{no_base}

-- ---- names in types

abbrev in_name : ℕ → Bool
in_name unit = not (ends_name unit)

pub name_ends : (name : List ℕ) → name_in (name ++ semicolon ∷ []) ≡ name_in name
name_ends [] = refl
name_ends (unit ∷ name) =
    take_while-cons in_name unit (name ++ semicolon ∷ []) ∙ ap (λ (rest : List ℕ). cond (in_name unit) (unit ∷ rest) []) (name_ends name) ∙ sym (take_while-cons in_name unit name)

pub name_twice : (rest : List ℕ) → name_in (name_in rest) ≡ name_in rest
name_twice [] = refl
name_twice (unit ∷ rest) = ap name_in (take_while-cons in_name unit rest) ∙ go (in_name unit) refl (name_twice rest) ∙ sym (take_while-cons in_name unit rest) where
  go : (test : Bool) → in_name unit ≡ test → name_in (name_in rest) ≡ name_in rest → name_in (cond test (unit ∷ name_in rest) []) ≡ cond test (unit ∷ name_in rest) []
  go true is again =
      take_while-cons in_name unit (name_in rest) ∙ ap₂ (λ (test : Bool) (rest : List ℕ). cond test (unit ∷ rest) []) is again
  go false is again = refl

name_again : (rest : List ℕ) → name_in (name_in rest ++ semicolon ∷ []) ≡ name_in rest
name_again rest = name_ends (name_in rest) ∙ name_twice rest

-- no name in a type is an array's
pub no_array_in : (rest : List ℕ) → is_array (name_in rest) ≡ false
no_array_in [] = refl
no_array_in (unit ∷ more) = ap is_array (take_while-cons in_name unit more) ∙ go (ends_name unit) refl where
  go : (test : Bool) → ends_name unit ≡ test → is_array (cond (not test) (unit ∷ name_in more) []) ≡ false
  go true is = refl
  go false is = right unit is where
    second : (one other : Bool) → (one || other) ≡ false → other ≡ false
    second true other none = absurd (false≢true (sym none))
    second false other none = none

    right : (unit : ℕ) → ends_name unit ≡ false → (unit == bracket) ≡ false
    right unit none = second (unit == semicolon) (unit == bracket) none

-- ---- names of arrays

record IsArrayName (texts : List (List ℕ)) (name : List ℕ) (basic : Basic) : Type 0 where
  pub rest : List ℕ
  pub is : name ≡ bracket ∷ rest
  pub gives : basic_of texts rest ≡ basic

array_name : (texts : List (List ℕ)) (name : List ℕ) (basic : Basic) → component_of texts name ≡ Some basic → IsArrayName texts name basic
array_name texts [] basic is = never is
array_name texts (unit ∷ rest) basic is =
    let both = when (unit == bracket) (Some (basic_of texts rest)) basic is in
    record { rest = rest; is = ap (λ (unit : ℕ). unit ∷ rest) (eqb-true unit bracket both.0); gives = same_Some (basic_of texts rest) basic both.1 }

record HeldArray (classes : List ClassFile) (name others : List ℕ) : Type 0 where
  pub rest : List ℕ
  pub is : name ≡ bracket ∷ rest
  pub held : is_held_as classes rest others ≡ true

held_array : (classes : List ClassFile) (name others : List ℕ) → is_held_as classes (type_of_name name) (bracket ∷ others) ≡ true → HeldArray classes name others
held_array classes [] others held = absurd (false≢true held)
held_array classes (unit ∷ rest) others held = go (unit == bracket) refl held where
  go : (test : Bool) → (unit == bracket) ≡ test → is_held_as classes (cond test (unit ∷ rest) (letter_class ∷ (unit ∷ rest) ++ semicolon ∷ [])) (bracket ∷ others) ≡ true
      → HeldArray classes (unit ∷ rest) others
  go true is held =
      record { rest = rest; is = ap (λ (unit : ℕ). unit ∷ rest) (eqb-true unit bracket is); held = (and_parts (unit == bracket) (is_held_as classes rest others) held).1 }
  go false is held = absurd (false≢true held)

-- no class has such a name
not_own : (rest name : List ℕ) → is_array name ≡ false → same_text (bracket ∷ rest) name ≡ false
not_own rest name none = go (same_text (bracket ∷ rest) name) refl where
  go : (test : Bool) → same_text (bracket ∷ rest) name ≡ test → same_text (bracket ∷ rest) name ≡ false
  go true same = absurd (false≢true (sym none ∙ ap is_array (sym ((bytes_decides (bracket ∷ rest) name).0 same))))
  go false same = same

pub no_class_named : (classes : List ClassFile) (rest : List ℕ) → AllByRecursion HasOwnName classes → class_number classes (bracket ∷ rest) ≡ None
no_class_named [] rest named = refl
no_class_named (class ∷ classes) rest named =
    position_later (same_text (bracket ∷ rest)) (name_of class) (map name_of classes) (not_own rest (name_of class) named.0)
    ∙ ap (option_map (λ (turn : ℕ). 1 + turn)) (no_class_named classes rest named.1)

-- ---- the kind of a name that is there

number_there : (texts : List (List ℕ)) (name : List ℕ) → kind_number texts name < length texts → slice_get texts (kind_number texts name) ≡ Some name
number_there texts name low =
    let item : List ℕ = get_or texts (kind_number texts name) [] in
    let there : slice_get texts (kind_number texts name) ≡ Some item = slice_get-get_or texts (kind_number texts name) [] low in
    there ∙ ap Some (sym ((bytes_decides name item).0 (found_passes (same_text name) texts item (find_at (same_text name) texts ∙ there))))

name_there : (found : Option (List ℕ)) (unit : ℕ) (rest : List ℕ) → or_none found ≡ unit ∷ rest → found ≡ Some (unit ∷ rest)
name_there None unit rest is = absurd (cc is)
name_there (Some name) unit rest is = ap Some is

-- ---- what base types are

abbrev base : ℕ → Basic
base unit =
    if unit == letter_boolean then Boolean
    else if unit == letter_byte then Byte
    else if unit == letter_char then Char
    else if unit == letter_short then Short
    else if unit == letter_long || unit == letter_double then Long
    else Int

basic_base : (texts : List (List ℕ)) (unit : ℕ) (rest : List ℕ) → (unit == bracket) ≡ false → (unit == letter_class) ≡ false → basic_of texts (unit ∷ rest) ≡ base unit
basic_base texts unit rest no_array no_class =
    ap₂ (λ (array class : Bool). cond array (Reference (kind_number texts (unit ∷ rest))) (cond class (Reference (kind_number texts (name_in rest))) (base unit))) no_array no_class

base_number : (unit : ℕ) → is_reference (base unit) ≡ false
base_number unit = go (unit == letter_boolean) (unit == letter_byte) (unit == letter_char) (unit == letter_short) (unit == letter_long || unit == letter_double) where
  go : (one two three four five : Bool) → is_reference (cond one Boolean (cond two Byte (cond three Char (cond four Short (cond five Long Int))))) ≡ false
  go true two three four five = refl
  go false true three four five = refl
  go false false true four five = refl
  go false false false true five = refl
  go false false false false true = refl
  go false false false false false = refl

-- ---- of a program

module _ (program : Linked) where
  abbrev count : ℕ
  count = length program.kinds

  array_type : (rest : List ℕ) → kind_number program.kinds (bracket ∷ rest) < count → type_of_kind program (kind_number program.kinds (bracket ∷ rest)) ≡ bracket ∷ rest
  array_type rest low = ap (λ (found : Option (List ℕ)). type_of_name (or_none found)) (number_there program.kinds (bracket ∷ rest) low)

  class_type : (rest : List ℕ) → kind_number program.kinds (name_in rest) < count
      → type_of_kind program (kind_number program.kinds (name_in rest)) ≡ letter_class ∷ name_in rest ++ semicolon ∷ []
  class_type rest low =
      ap (λ (found : Option (List ℕ)). type_of_name (or_none found)) (number_there program.kinds (name_in rest) low)
      ∙ ap (λ (test : Bool). cond test (name_in rest) (letter_class ∷ name_in rest ++ semicolon ∷ [])) (no_array_in rest)

  holds_low : (kind other : ℕ) → kind < count → other < count → is_held_as program.classes (type_of_kind program kind) (type_of_kind program other) ≡ true → holds_kind program kind other ≡ true
  holds_low kind other low also held =
      and_from (nat_lt kind count && nat_lt other count) (is_held_as program.classes (type_of_kind program kind) (type_of_kind program other))
      (and_from (nat_lt kind count) (nat_lt other count) (lt-ltb kind count low) (lt-ltb other count also)) held

  components : (unit other : ℕ) (rest others : List ℕ) → Sign unit → Sign other → is_held_as program.classes (unit ∷ rest) (other ∷ others) ≡ true
      → IsBelow count (basic_of program.kinds (unit ∷ rest)) → IsBelow count (basic_of program.kinds (other ∷ others))
      → Components program (basic_of program.kinds (unit ∷ rest)) (basic_of program.kinds (other ∷ others))
  components unit other rest others Bracket Bracket held low also =
      Components.References (kind_number program.kinds (bracket ∷ rest)) (kind_number program.kinds (bracket ∷ others))
      (holds_low (kind_number program.kinds (bracket ∷ rest)) (kind_number program.kinds (bracket ∷ others)) low also
      (ap₂ (is_held_as program.classes) (array_type rest low) (array_type others also) ∙ held))
  components unit other rest others Bracket Letter held low also =
      Components.References (kind_number program.kinds (bracket ∷ rest)) (kind_number program.kinds (name_in others))
      (holds_low (kind_number program.kinds (bracket ∷ rest)) (kind_number program.kinds (name_in others)) low also
      (ap₂ (is_held_as program.classes) (array_type rest low) (class_type others also)
      ∙ ap (λ (name : List ℕ). cond (names_interface program.classes name) true (is_above_arrays name)) (name_again others) ∙ held))
  components unit other rest others Letter Letter held low also =
      Components.References (kind_number program.kinds (name_in rest)) (kind_number program.kinds (name_in others))
      (holds_low (kind_number program.kinds (name_in rest)) (kind_number program.kinds (name_in others)) low also
      (ap₂ (is_held_as program.classes) (class_type rest low) (class_type others also)
      ∙ ap₂ (λ (own name : List ℕ). cond (names_interface program.classes name) true (is_instance program.classes own name)) (name_again rest) (name_again others) ∙ held))
  components unit other rest others Letter Bracket held low also = absurd (false≢true held)
  components unit other rest others (Base first no_array none) Bracket held low also =
      absurd (false≢true (sym no_array ∙ (and_parts (first == bracket) (is_held_as program.classes rest others) held).0))
  components unit other rest others (Base first no_array none) Letter held low also =
      absurd (no_base (names_interface program.classes (name_in others)) (first == bracket) (first == letter_class) (is_above_arrays (name_in others))
      (is_instance program.classes (name_in rest) (name_in others)) no_array none held)
  components unit other rest others sign (Base last no_array none) held low also =
      let same : unit ≡ last = eqb-true unit last (sym (base_holds program.classes unit last rest others no_array none) ∙ held) in
      let own : basic_of program.kinds (unit ∷ rest) ≡ base last =
      basic_base program.kinds unit rest (ap (λ (unit : ℕ). unit == bracket) same ∙ no_array) (ap (λ (unit : ℕ). unit == letter_class) same ∙ none) ∙ ap base same in
      subst₂ (λ (one two : Basic). Components program one two) (sym own) (sym (basic_base program.kinds last others no_array none)) (Components.Alike (base last) (base_number last))

  types_components : (rest others : List ℕ) → is_held_as program.classes rest others ≡ true
      → IsBelow count (basic_of program.kinds rest) → IsBelow count (basic_of program.kinds others) → Components program (basic_of program.kinds rest) (basic_of program.kinds others)
  types_components [] others held low also = absurd (false≢true held)
  types_components (unit ∷ rest) [] held low also = absurd (false≢true held)
  types_components (unit ∷ rest) (other ∷ others) held low also = components unit other rest others (sign_of unit) (sign_of other) held low also

  module _ (whole : IsWhole program) where
    component_low : (kind : ℕ) (rest : List ℕ) → slice_get program.kinds kind ≡ Some (bracket ∷ rest) → IsBelow count (basic_of program.kinds rest)
    component_low kind rest is =
        subst (λ (texts : List (List ℕ)). (kind : ℕ) (name : List ℕ) → slice_get texts kind ≡ Some name → IfSome (component_of texts name) (IsBelow (length texts))) (sym whole.kinds)
        (element_low program.classes whole.named) kind (bracket ∷ rest) is

    pub arrays_hold : HoldsElements program
    arrays_hold own kind basic holds component =
        let name : IsArrayName program.kinds (or_none (slice_get program.kinds kind)) basic = array_name program.kinds (or_none (slice_get program.kinds kind)) basic component in
        let held = (and_parts (nat_lt own count && nat_lt kind count) (is_held_as program.classes (type_of_kind program own) (type_of_kind program kind)) holds).1 in
        let array : HeldArray program.classes (or_none (slice_get program.kinds own)) name.rest =
        held_array program.classes (or_none (slice_get program.kinds own)) name.rest
        (sym (ap (λ (name : List ℕ). is_held_as program.classes (type_of_kind program own) (type_of_name name)) name.is) ∙ held) in
        let own_there : slice_get program.kinds own ≡ Some (bracket ∷ array.rest) = name_there (slice_get program.kinds own) bracket array.rest array.is in
        let kind_there : slice_get program.kinds kind ≡ Some (bracket ∷ name.rest) = name_there (slice_get program.kinds kind) bracket name.rest name.is in
        record {
          element = basic_of program.kinds array.rest;
          is = ap (component_of program.kinds) array.is;
          held = subst (λ (basic : Basic). Components program (basic_of program.kinds array.rest) basic) name.gives
              (types_components array.rest name.rest array.held (component_low own array.rest own_there) (component_low kind name.rest kind_there));
          no_class = ap (option_and_then (class_number program.classes)) own_there ∙ no_class_named program.classes array.rest whole.named;
        }
