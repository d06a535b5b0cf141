-- New arrays, and what their elements refer to: the arrays of one dimension stand before those of the next.
use Rattle.std.proofs.Common.{◌≡◌, ◌∙◌, ap, arith, refl, sym, subst, ℕ, zero, suc, pos, ◌+◌, ◌*◌, ◌<◌, ◌≤◌, true, List, [], ◌∷◌, ◌++◌, map, length, Option, Some, None, replicate, slice_get}
use Rattle.std.specs.List.{AllByRecursion, range_with_len}
use Rattle.std.specs.Int.{w8, w16}
use Rattle.std.proofs.Math.Nat.{mul-le-mul_right, suc-mul}
use Rattle.std.proofs.lemmas.Int.{int_wrap_fits}
use Rattle.std.proofs.lemmas.List.{append_assoc, length-append, length-map, length-replicate, map-append}
use Rattle.std.proofs.lemmas.List.FromFn.{length-map-range_with_len}
use Rattle.std.proofs.lemmas.Option.{none-some, same_Some}
use Rattle.cb_kinds.specs.Basics.{is_reference}
use Rattle.cb_kinds.specs.declared.basic.Basic.{Basic}
use Rattle.cb_kinds.specs.declared.basic.Basic.TheVariants as basics
use Rattle.cb_link.specs.Calls.{class_of_kind}
use Rattle.cb_link.specs.Having.{site_kinds}
use Rattle.cb_link.specs.Program.{Linked}
use Rattle.cb_machine.specs.Arrays.{element_of}
use Rattle.cb_machine.specs.Creating.{blank_element}
use Rattle.cb_machine.specs.Performing.{most_elements}
use Rattle.cb_machine.specs.Plans.{object_of}
use Rattle.cb_plain.specs.State.{Content, Number, Object, Reference, blank}
use Rattle.cb_safety.specs.Heap.{IsKnownWord, IsObject}
use Rattle.cb_safety.specs.Held.{HasContent}
use Rattle.cb_safety.specs.Kinds.{IsKnown, Kinds, IsOfKind, Refers, holds_kind, kind_in, kinds_of, known}
use Rattle.cb_safety.proofs.Known.{all_alike, all_ranged, blank_known}
use Rattle.cb_safety.proofs.Growing.{kinds_grown, kinds_placed}
use Rattle.cb_safety.proofs.Lists.{all_both}
use Rattle.cb_safety.proofs.Placed.{array_sized}
use Rattle.cb_safety.proofs.Searching.{numbered}

-- ---- lists

all_repeated : {Item : Type 0} (P : Item → Type 0) (count : ℕ) (item : Item) → P item → AllByRecursion P (replicate count item)
all_repeated P zero item is = tt
all_repeated P (suc count) item is = (is, all_repeated P count item is)

pub all_numbered : {Item : Type 0} (P : Item → Type 0) (make : ℕ → Item) (from count : ℕ) → ((turn : ℕ) → turn < from + count → P (make turn))
    → AllByRecursion P (map make (range_with_len from count))
all_numbered P make from zero each = tt
all_numbered P make from (suc count) each =
    (each from (omega arith), all_numbered P make (from + 1) count (λ turn low. each turn (omega (arith, low))))

repeated_at : {Item : Type 0} (count place : ℕ) (item : Item) → place < count → slice_get (replicate count item) place ≡ Some item
repeated_at zero place item low = absurd (omega (arith, low))
repeated_at (suc count) zero item low = refl
repeated_at (suc count) (suc place) item low = repeated_at count place item (omega (arith, low))

-- ---- the kinds of objects behind others

known_among : (front rest : List Object) (own place : ℕ) → AllByRecursion (λ (object : Object). object.kind ≡ own) front → place < length front
    → known (slice_get (kinds_placed (front ++ rest)) place) ≡ Some own
known_among [] rest own place all low = absurd (omega (arith, low))
known_among (object ∷ front) rest own zero all low = ap Some all.0
known_among (object ∷ front) rest own (suc place) all low = known_among front rest own place all.1 (omega (arith, low))

known_further : (objects : List (Option Object)) (kinds : Kinds) (place : ℕ) → slice_get (kinds_of objects ++ kinds) (length objects + place) ≡ slice_get kinds place
known_further [] kinds place = ap (slice_get kinds) (let same : 0 + place ≡ place = omega arith in same)
known_further (entry ∷ objects) kinds place =
    ap (slice_get (kinds_of (entry ∷ objects) ++ kinds)) (let same : length (entry ∷ objects) + place ≡ suc (length objects + place) = omega arith in same)
    ∙ known_further objects kinds place

kind_among : (objects : List (Option Object)) (front rest : List Object) (own serial place : ℕ) → AllByRecursion (λ (object : Object). object.kind ≡ own) front
    → place < length front → serial ≡ length objects + 1 + place → kind_in (kinds_of objects ++ kinds_placed (front ++ rest)) serial ≡ Some own
kind_among objects front rest own serial place all low is =
    ap (kind_in (kinds_of objects ++ kinds_placed (front ++ rest))) (let same : serial ≡ suc (length objects + place) = omega (arith, is) in same)
    ∙ ap known (known_further objects (kinds_placed (front ++ rest)) place)
    ∙ known_among front rest own place all low

pub kinds_parts : (objects : List (Option Object)) (front rest : List Object)
    → kinds_of (objects ++ map Some front) ++ kinds_placed rest ≡ kinds_of objects ++ kinds_placed (front ++ rest)
kinds_parts objects front rest =
    ap (λ (kinds : Kinds). kinds ++ kinds_placed rest) (kinds_grown objects front)
    ∙ append_assoc (kinds_of objects) (kinds_placed front) (kinds_placed rest)
    ∙ ap (λ (kinds : Kinds). kinds_of objects ++ kinds) (sym (ap kinds_of (map-append Some front rest) ∙ kinds_grown (map Some front) rest))

-- ---- what new elements hold

abbrev blank_in : Option Basic → Content
blank_in None = Number (pos 0)
blank_in (Some basic) = blank (is_reference basic)

blank_in_known : (kinds : Kinds) (found : Option Basic) → IsKnownWord kinds (blank_in found)
blank_in_known kinds None = tt
blank_in_known kinds (Some basic) = blank_known kinds (is_reference basic)

-- what is blank may be in a word of each type
pub blank_fits : (program : Linked) (kinds : Kinds) (basic : Basic) → HasContent program kinds basic (blank (is_reference basic))
blank_fits program kinds (basics.Reference own) = HasContent.AReference own 0 Refers.ToNull
blank_fits program kinds basics.Long = HasContent.ALong (pos 0) (record { sfits = omega arith })
blank_fits program kinds basics.Boolean = HasContent.AnInt basics.Boolean (pos 0) refl (record { sfits = omega arith }) refl
blank_fits program kinds basics.Byte = HasContent.AnInt basics.Byte (pos 0) refl (record { sfits = omega arith }) (int_wrap_fits w8 (pos 0) (record { sfits = omega arith }))
blank_fits program kinds basics.Char = HasContent.AnInt basics.Char (pos 0) refl (record { sfits = omega arith }) refl
blank_fits program kinds basics.Short = HasContent.AnInt basics.Short (pos 0) refl (record { sfits = omega arith }) (int_wrap_fits w16 (pos 0) (record { sfits = omega arith }))
blank_fits program kinds basics.Int = HasContent.AnInt basics.Int (pos 0) refl (record { sfits = omega arith }) refl

-- no array has more elements than an int can count
abbrev pub IsShort : ℕ → Type 0
IsShort size = size ≤ most_elements

-- a kind of arrays, of which no class has objects
pub record IsArrayKind (program : Linked) (kind : ℕ) : Type 0 where
  pub low : kind < length program.kinds
  pub no_class : class_of_kind program kind ≡ None
  pub element : Basic
  pub elements : element_of program kind ≡ Some element
  pub own : holds_kind program kind kind ≡ true

module _ (program : Linked) (site kind : ℕ → ℕ) where
  -- the arrays of one dimension, and those of all from it on
  abbrev row : ℕ → ℕ → ℕ → ℕ → Object
  row dimension first size turn = object_of (site dimension) (kind dimension) (map Reference (range_with_len (first + turn * size) size))

  abbrev pub level : ℕ → ℕ → ℕ → ℕ → List ℕ → List Object
  level dimension count next size [] = replicate count (object_of (site dimension) (kind dimension) (replicate size (blank_element program (kind dimension))))
  level dimension count next size (other ∷ sizes) = map (row dimension (next + count) size) (range_with_len 0 count)

  abbrev pub arrays_from : ℕ → ℕ → ℕ → List ℕ → List Object
  arrays_from dimension count next [] = []
  arrays_from dimension count next (size ∷ sizes) = level dimension count next size sizes ++ arrays_from (dimension + 1) (count * size) (next + count) sizes

  level_kinds : (dimension count next size : ℕ) (sizes : List ℕ) → AllByRecursion (λ (object : Object). object.kind ≡ kind dimension) (level dimension count next size sizes)
  level_kinds dimension count next size [] =
      all_repeated (λ (object : Object). object.kind ≡ kind dimension) count
      (object_of (site dimension) (kind dimension) (replicate size (blank_element program (kind dimension)))) refl
  level_kinds dimension count next size (other ∷ sizes) =
      all_numbered (λ (object : Object). object.kind ≡ kind dimension) (row dimension (next + count) size) 0 count (λ turn low. refl)

  level_length : (dimension count next size : ℕ) (sizes : List ℕ) → length (level dimension count next size sizes) ≡ count
  level_length dimension count next size [] =
      length-replicate count (object_of (site dimension) (kind dimension) (replicate size (blank_element program (kind dimension))))
  level_length dimension count next size (other ∷ sizes) = length-map-range_with_len (row dimension (next + count) size) 0 count

  -- the kind of each of the first of them
  pub first_kind : (objects : List (Option Object)) (dimension count next size : ℕ) (sizes : List ℕ) (serial place : ℕ) → place < count → serial ≡ length objects + 1 + place
      → kind_in (kinds_of objects ++ kinds_placed (arrays_from dimension count next (size ∷ sizes))) serial ≡ Some (kind dimension)
  first_kind objects dimension count next size sizes serial place low is =
      kind_among objects (level dimension count next size sizes) (arrays_from (dimension + 1) (count * size) (next + count) sizes) (kind dimension) serial place
      (level_kinds dimension count next size sizes) (omega (arith, low, level_length dimension count next size sizes)) is

  module _ (most : ℕ) (sited : (dimension : ℕ) → dimension < most → site dimension < length (site_kinds program))
      (arrays : (dimension : ℕ) → dimension < most → IsArrayKind program (kind dimension))
      (nested : (dimension : ℕ) → dimension + 1 < most → element_of program (kind dimension) ≡ Some (basics.Reference (kind (dimension + 1)))) where
    -- an array whose elements are blank
    blank_array : (kinds : Kinds) (dimension size : ℕ) → dimension < most → IsShort size
        → IsObject program kinds (object_of (site dimension) (kind dimension) (replicate size (blank_element program (kind dimension))))
    blank_array kinds dimension size low short = record {
      kind = (arrays dimension low).low;
      site = sited dimension low;
      sized = array_sized program (kind dimension) (arrays dimension low).element (arrays dimension low).elements;
      fields = λ class slot basic own declared. absurd (none-some class (sym (arrays dimension low).no_class ∙ own));
      elements = λ basic place own within. record {
        content = blank_element program (kind dimension);
        there = repeated_at size place (blank_element program (kind dimension)) (omega (arith, within, length-replicate size (blank_element program (kind dimension))));
        fits = subst (HasContent program kinds basic) (sym (ap blank_in own)) (blank_fits program kinds basic);
      };
      few = λ basic own. omega (arith, short, length-replicate size (blank_element program (kind dimension)));
      words = all_alike (IsKnownWord kinds) size (blank_element program (kind dimension)) (blank_in_known kinds (element_of program (kind dimension)));
    }

    -- an array of references to serials that follow one another, at each of which is an object of the next kind
    row_array : (kinds : Kinds) (dimension first size turn : ℕ) → dimension + 1 < most → IsShort size
        → ((place : ℕ) → place < size → kind_in kinds (first + turn * size + place) ≡ Some (kind (dimension + 1)))
        → IsObject program kinds (row dimension first size turn)
    row_array kinds dimension first size turn low few there = record {
      kind = (arrays dimension (omega (arith, low))).low;
      site = sited dimension (omega (arith, low));
      sized = array_sized program (kind dimension) (arrays dimension (omega (arith, low))).element (arrays dimension (omega (arith, low))).elements;
      fields = λ class slot basic own declared. absurd (none-some class (sym (arrays dimension (omega (arith, low))).no_class ∙ own));
      elements = λ basic place own within.
          let short : place < size = omega (arith, within, length-map-range_with_len Reference (first + turn * size) size) in
          let is : IsOfKind program kinds (kind (dimension + 1)) (first + turn * size + place) =
          record { own = kind (dimension + 1); there = there place short; goes = (arrays (dimension + 1) low).own } in
          record {
            content = Reference (first + turn * size + place);
            there = numbered Reference (first + turn * size) size place short;
            fits = subst (λ (basic : Basic). HasContent program kinds basic (Reference (first + turn * size + place)))
                (same_Some (basics.Reference (kind (dimension + 1))) basic (sym (nested dimension low) ∙ own))
                (HasContent.AReference (kind (dimension + 1)) (first + turn * size + place) (Refers.To (first + turn * size + place) is));
          };
      few = λ basic own. omega (arith, few, length-map-range_with_len Reference (first + turn * size) size);
      words = all_ranged (IsKnownWord kinds) Reference (first + turn * size) size
          (λ place short. IsKnown.AnObject (first + turn * size + place) (kind (dimension + 1)) (there place short));
    }

    within_rows : (count size turn place : ℕ) → turn < count → place < size → turn * size + place < count * size
    within_rows count size turn place low short =
        let most : suc turn * size ≤ count * size = mul-le-mul_right size (let less : suc turn ≤ count = omega (arith, low) in less) in
        let is : suc turn * size ≡ turn * size + size = suc-mul turn size in
        omega (arith, most, is, short)

    level_objects : (objects : List (Option Object)) (dimension count next size : ℕ) (sizes : List ℕ) → next ≡ length objects + 1 → dimension + length (size ∷ sizes) ≡ most → IsShort size
        → AllByRecursion (IsObject program (kinds_of objects ++ kinds_placed (arrays_from dimension count next (size ∷ sizes)))) (level dimension count next size sizes)
    level_objects objects dimension count next size [] is all few =
        all_repeated (IsObject program (kinds_of objects ++ kinds_placed (arrays_from dimension count next (size ∷ [])))) count
        (object_of (site dimension) (kind dimension) (replicate size (blank_element program (kind dimension))))
        (blank_array (kinds_of objects ++ kinds_placed (arrays_from dimension count next (size ∷ []))) dimension size (omega (arith, all)) few)
    level_objects objects dimension count next size (other ∷ sizes) is all few =
        all_numbered (IsObject program whole) (row dimension (next + count) size) 0 count
        (λ turn low. row_array whole dimension (next + count) size turn (omega (arith, all)) few (λ place short. at turn place low short))
      where
        front : List Object
        front = level dimension count next size (other ∷ sizes)

        rest : List Object
        rest = arrays_from (dimension + 1) (count * size) (next + count) (other ∷ sizes)

        whole : Kinds
        whole = kinds_of objects ++ kinds_placed (arrays_from dimension count next (size ∷ other ∷ sizes))

        long : length (objects ++ map Some front) ≡ length objects + count
        long = length-append objects (map Some front) ∙ ap (λ (count : ℕ). length objects + count) (length-map front Some ∙ level_length dimension count next size (other ∷ sizes))

        at : (turn place : ℕ) → turn < 0 + count → place < size → kind_in whole (next + count + turn * size + place) ≡ Some (kind (dimension + 1))
        at turn place low short =
            subst (λ (kinds : Kinds). kind_in kinds (next + count + turn * size + place) ≡ Some (kind (dimension + 1))) (kinds_parts objects front rest)
            (first_kind (objects ++ map Some front) (dimension + 1) (count * size) (next + count) other sizes (next + count + turn * size + place) (turn * size + place)
            (within_rows count size turn place (omega (arith, low)) short) (omega (arith, is, long)))

    -- all of them are as their kinds say
    pub arrays_are : (objects : List (Option Object)) (dimension count next : ℕ) (sizes : List ℕ) → next ≡ length objects + 1 → dimension + length sizes ≡ most → AllByRecursion IsShort sizes
        → AllByRecursion (IsObject program (kinds_of objects ++ kinds_placed (arrays_from dimension count next sizes))) (arrays_from dimension count next sizes)
    arrays_are objects dimension count next [] is all few = tt
    arrays_are objects dimension count next (size ∷ sizes) is all few =
        let front : List Object = level dimension count next size sizes in
        let rest : List Object = arrays_from (dimension + 1) (count * size) (next + count) sizes in
        let long : length (objects ++ map Some front) ≡ length objects + count =
        length-append objects (map Some front) ∙ ap (λ (count : ℕ). length objects + count) (length-map front Some ∙ level_length dimension count next size sizes) in
        all_both (IsObject program (kinds_of objects ++ kinds_placed (front ++ rest))) front rest (level_objects objects dimension count next size sizes is all few.0)
        (subst (λ (kinds : Kinds). AllByRecursion (IsObject program kinds) rest) (kinds_parts objects front rest)
        (arrays_are (objects ++ map Some front) (dimension + 1) (count * size) (next + count) sizes (omega (arith, is, long)) (omega (arith, all)) few.1))
