-- The slots of the static fields that a class declares: they follow each other.
use Rattle.std.proofs.Common.{◌≡◌, ◌∙◌, ap, arith, refl, sym, subst, subst₂, ℕ, zero, suc, ◌+◌, ◌<◌, ◌==◌, Bool, true, false, cond, List, [], ◌∷◌, ◌++◌, filter, length, map, Option, Some, None, option_and_then, slice_get}
use Rattle.std.specs.List.{AllByRecursion, enumerate_from, flat_map, range_with_len}
use Rattle.std.proofs.lemmas.Bool.{ne_eqb}
use Rattle.std.proofs.lemmas.List.Elements.{filter-append}
use Rattle.std.proofs.lemmas.Option.{same_Some}
use Rattle.cb_classfile.specs.Flags.{acc_static}
use Rattle.cb_classfile.specs.declared.class.ClassFile.{ClassFile}
use Rattle.cb_classfile.specs.declared.field.Field.{Field}
use Rattle.cb_hierarchy.specs.declared.member.Field.{Field as RankedField}
use Rattle.cb_link.specs.Numbers.{Numbered, fields_of, has_flag, ranked_field}
use Rattle.cb_link.specs.Places.{numbered_in}
use Rattle.cb_link.specs.Program.{Linked}
use Rattle.cb_link.specs.Slots.{statics}
use Rattle.cb_machine.specs.Initialising.{own_statics}
use Rattle.cb_safety.proofs.Assigned.{never}
use Rattle.cb_safety.proofs.Called.{all_changed, all_so}
use Rattle.cb_safety.proofs.Lists.{all_filtered, all_given}

-- ---- the places of items that pass, counted on from a number

abbrev pub places_of : {Item : Type 0} → (Item → Bool) → ℕ → List Item → List ℕ
places_of test from [] = []
places_of test from (item ∷ items) = cond (test item) (from ∷ places_of test (from + 1) items) (places_of test (from + 1) items)

places_both : {Item : Type 0} (test : Item → Bool) (from : ℕ) (front back : List Item) → places_of test from (front ++ back) ≡ places_of test from front ++ places_of test (from + length front) back
places_both test from [] back = ap (λ (from : ℕ). places_of test from back) (let same : from ≡ from + 0 = omega arith in same)
places_both {Item} test from (item ∷ front) back = go (test item) (places_both test (from + 1) front back) where
  moved : places_of test (from + 1 + length front) back ≡ places_of test (from + suc (length front)) back
  moved = ap (λ (from : ℕ). places_of test from back) (let same : from + 1 + length front ≡ from + suc (length front) = omega arith in same)

  go : (passes : Bool) → places_of test (from + 1) (front ++ back) ≡ places_of test (from + 1) front ++ places_of test (from + 1 + length front) back
      → cond passes (from ∷ places_of test (from + 1) (front ++ back)) (places_of test (from + 1) (front ++ back))
      ≡ cond passes (from ∷ places_of test (from + 1) front) (places_of test (from + 1) front) ++ places_of test (from + suc (length front)) back
  go true is = ap (λ (rest : List ℕ). from ∷ rest) (is ∙ ap (λ (rest : List ℕ). places_of test (from + 1) front ++ rest) moved)
  go false is = is ∙ ap (λ (rest : List ℕ). places_of test (from + 1) front ++ rest) moved

none_placed : {Item : Type 0} (test : Item → Bool) (from : ℕ) (items : List Item) → AllByRecursion (λ item. test item ≡ false) items → places_of test from items ≡ []
none_placed test from [] all = refl
none_placed test from (item ∷ items) all =
    ap (λ (passes : Bool). cond passes (from ∷ places_of test (from + 1) items) (places_of test (from + 1) items)) all.0 ∙ none_placed test (from + 1) items all.1

-- those of numbers at which an item is looked up
slots_are : {Item : Type 0} (look : ℕ → Option Item) (test : Option Item → Bool) (from : ℕ) (items : List Item) → ((place : ℕ) → look (from + place) ≡ slice_get items place)
    → filter (λ slot. test (look slot)) (range_with_len from (length items)) ≡ places_of (λ item. test (Some item)) from items
slots_are look test from [] each = refl
slots_are {Item} look test from (first ∷ items) each =
    ap (λ (found : Option Item). cond (test found) (from ∷ rest) rest) here
    ∙ ap (λ (others : List ℕ). cond (test (Some first)) (from ∷ others) others)
    (slots_are look test (from + 1) items (λ place. ap look (let same : from + 1 + place ≡ from + suc place = omega arith in same) ∙ each (suc place)))
  where
    here : look from ≡ Some first
    here = ap look (let same : from ≡ from + 0 = omega arith in same) ∙ each 0

    rest : List ℕ
    rest = filter (λ (slot : ℕ). test (look slot)) (range_with_len (from + 1) (length items))

-- ---- static fields among all

abbrev pub is_static : Numbered Field → Bool
is_static own = has_flag acc_static own.member.flags.0

abbrev numbers : (Numbered Field → RankedField) → ℕ → List (Numbered Field) → List ℕ
numbers change from items = map (λ (entry : ℕ × RankedField). entry.0) (filter (λ (entry : ℕ × RankedField). entry.1.is_static) (enumerate_from from (map change items)))

module _ (change : Numbered Field → RankedField) (same : (own : Numbered Field) → (change own).is_static ≡ is_static own) where
  numbers_here : (from : ℕ) (first : Numbered Field) (items : List (Numbered Field)) → is_static first ≡ true → numbers change from (first ∷ items) ≡ from ∷ numbers change (from + 1) items
  numbers_here from first items is = let passes : (change first).is_static ≡ true = same first ∙ is in rw passes refl

  numbers_past : (from : ℕ) (first : Numbered Field) (items : List (Numbered Field)) → is_static first ≡ false → numbers change from (first ∷ items) ≡ numbers change (from + 1) items
  numbers_past from first items is = let passes : (change first).is_static ≡ false = same first ∙ is in rw passes refl

  kept_here : (first : Numbered Field) (items : List (Numbered Field)) → is_static first ≡ true → filter is_static (first ∷ items) ≡ first ∷ filter is_static items
  kept_here first items is = ap (λ (passes : Bool). cond passes (first ∷ filter is_static items) (filter is_static items)) is

  kept_past : (first : Numbered Field) (items : List (Numbered Field)) → is_static first ≡ false → filter is_static (first ∷ items) ≡ filter is_static items
  kept_past first items is = ap (λ (passes : Bool). cond passes (first ∷ filter is_static items) (filter is_static items)) is

  as_many : (from : ℕ) (items : List (Numbered Field)) → length (numbers change from items) ≡ length (filter is_static items)
  as_many from [] = refl
  as_many from (first ∷ items) = go (is_static first) refl (as_many (from + 1) items) where
    go : (passes : Bool) → is_static first ≡ passes → length (numbers change (from + 1) items) ≡ length (filter is_static items)
        → length (numbers change from (first ∷ items)) ≡ length (filter is_static (first ∷ items))
    go true is more = ap (λ (list : List ℕ). length list) (numbers_here from first items is) ∙ ap suc more ∙ sym (ap (λ (list : List (Numbered Field)). length list) (kept_here first items is))
    go false is more = ap (λ (list : List ℕ). length list) (numbers_past from first items is) ∙ more ∙ sym (ap (λ (list : List (Numbered Field)). length list) (kept_past first items is))

  looked : (look : ℕ → Option (Numbered Field)) (from : ℕ) (items : List (Numbered Field)) → ((place : ℕ) → look (from + place) ≡ slice_get items place) → (slot : ℕ)
      → option_and_then look (slice_get (numbers change from items) slot) ≡ slice_get (filter is_static items) slot
  looked look from [] each slot = refl
  looked look from (first ∷ items) each slot =
      go (is_static first) refl slot
      (looked look (from + 1) items (λ place. ap look (let next : from + 1 + place ≡ from + suc place = omega arith in next) ∙ each (suc place)))
    where
      go : (passes : Bool) → is_static first ≡ passes → (slot : ℕ)
          → ((slot : ℕ) → option_and_then look (slice_get (numbers change (from + 1) items) slot) ≡ slice_get (filter is_static items) slot)
          → option_and_then look (slice_get (numbers change from (first ∷ items)) slot) ≡ slice_get (filter is_static (first ∷ items)) slot
      go true is zero more =
          ap (λ (list : List ℕ). option_and_then look (slice_get list 0)) (numbers_here from first items is)
          ∙ ap look (let zeroth : from ≡ from + 0 = omega arith in zeroth) ∙ each 0
          ∙ sym (ap (λ (list : List (Numbered Field)). slice_get list 0) (kept_here first items is))
      go true is (suc slot) more =
          ap (λ (list : List ℕ). option_and_then look (slice_get list (suc slot))) (numbers_here from first items is) ∙ more slot
          ∙ sym (ap (λ (list : List (Numbered Field)). slice_get list (suc slot)) (kept_here first items is))
      go false is slot more =
          ap (λ (list : List ℕ). option_and_then look (slice_get list slot)) (numbers_past from first items is) ∙ more slot
          ∙ sym (ap (λ (list : List (Numbered Field)). slice_get list slot) (kept_past first items is))

-- ---- those of a class

abbrev pub statics_in : ℕ → ClassFile → List (Numbered Field)
statics_in number class = filter is_static (numbered_in (λ (class : ClassFile). class.fields) (number, class))

abbrev statics_from : ℕ → List ClassFile → List (Numbered Field)
statics_from start classes = filter is_static (flat_map (numbered_in (λ (class : ClassFile). class.fields)) (enumerate_from start classes))

abbrev pub is_of : ℕ → Numbered Field → Bool
is_of number own = own.class == number

abbrev numbered_as : ℕ → ClassFile → ℕ × Field → Numbered Field
numbered_as number class own = record { class = number; place = own.0; pool = class.pool; member = own.1 }

all_in : (P : ℕ → Type 0) (start : ℕ) (class : ClassFile) → P start → AllByRecursion (λ (own : Numbered Field). P own.class) (numbered_in (λ (class : ClassFile). class.fields) (start, class))
all_in P start class is =
    all_changed (λ (own : Numbered Field). P own.class) (numbered_as start class) (enumerate_from 0 class.fields) (all_so (λ (own : ℕ × Field). P start) (enumerate_from 0 class.fields) (λ own. is))

all_high : {Item : Type 0} (low start : ℕ) (items : List Item) → low < start → AllByRecursion (λ (entry : ℕ × Item). low < entry.0) (enumerate_from start items)
all_high low start [] high = tt
all_high low start (item ∷ items) high = (high, all_high low (start + 1) items (omega (arith, high)))

other_class : (number class : ℕ) → number < class → (class == number) ≡ false
other_class number class high = ne_eqb class number (λ same. apart number class high same) where
  apart : (number class : ℕ) → number < class → class ≡ number → ⊥
  apart number class high same = omega (arith, high, same)

all_other : (number : ℕ) (items : List (Numbered Field)) → AllByRecursion (λ (own : Numbered Field). number < own.class) items → AllByRecursion (λ (own : Numbered Field). is_of number own ≡ false) items
all_other number [] all = tt
all_other number (item ∷ items) all = (other_class number item.class all.0, all_other number items all.1)

none_behind : (number start : ℕ) (classes : List ClassFile) (from : ℕ) → number < start → places_of (is_of number) from (statics_from start classes) ≡ []
none_behind number start classes from high =
    none_placed (is_of number) from (statics_from start classes)
    (all_other number (statics_from start classes)
    (all_filtered (λ (own : Numbered Field). number < own.class) is_static (flat_map (numbered_in (λ (class : ClassFile). class.fields)) (enumerate_from start classes))
    (all_given (λ (entry : ℕ × ClassFile). number < entry.0) (λ (own : Numbered Field). number < own.class) (numbered_in (λ (class : ClassFile). class.fields)) (enumerate_from start classes)
    (λ entry above. all_in (λ (class : ℕ). number < class) entry.0 entry.1 above) (all_high number start classes high))))

none_in : (number start : ℕ) (class : ClassFile) (from : ℕ) → (start == number) ≡ false → places_of (is_of number) from (statics_in start class) ≡ []
none_in number start class from apart =
    none_placed (is_of number) from (statics_in start class)
    (all_filtered (λ (own : Numbered Field). is_of number own ≡ false) is_static (numbered_in (λ (class : ClassFile). class.fields) (start, class))
    (all_in (λ (class : ℕ). (class == number) ≡ false) start class apart))

pub still_there : {Item : Type 0} (front back : List Item) (place : ℕ) (item : Item) → slice_get front place ≡ Some item → slice_get (front ++ back) place ≡ Some item
still_there [] back place item is = never is
still_there (first ∷ front) back zero item is = is
still_there (first ∷ front) back (suc place) item is = still_there front back place item is

pub behind_front : {Item : Type 0} (front back : List Item) (place : ℕ) → slice_get (front ++ back) (length front + place) ≡ slice_get back place
behind_front [] back place = ap (slice_get back) (let same : 0 + place ≡ place = omega arith in same)
behind_front (first ∷ front) back place =
    ap (slice_get (first ∷ front ++ back)) (let same : suc (length front) + place ≡ suc (length front + place) = omega arith in same) ∙ behind_front front back place

-- they stand together
record StandTogether (number from : ℕ) (items own : List (Numbered Field)) : Type 0 where
  pub behind : ℕ
  pub places : places_of (is_of number) from items ≡ places_of (is_of number) (from + behind) own
  pub there : (turn : ℕ) (field : Numbered Field) → slice_get own turn ≡ Some field → slice_get items (behind + turn) ≡ Some field

parted : (start : ℕ) (class : ClassFile) (classes : List ClassFile) → statics_from start (class ∷ classes) ≡ statics_in start class ++ statics_from (start + 1) classes
parted start class classes =
    filter-append is_static (numbered_in (λ (class : ClassFile). class.fields) (start, class)) (flat_map (numbered_in (λ (class : ClassFile). class.fields)) (enumerate_from (start + 1) classes))

stand_together : (start place number from : ℕ) (classes : List ClassFile) (file : ClassFile) → number ≡ start + place → slice_get classes place ≡ Some file
    → StandTogether number from (statics_from start classes) (statics_in number file)
stand_together start place number from [] file is there = never there
stand_together start zero number from (class ∷ classes) file is there =
    subst₂ (λ (start : ℕ) (class : ClassFile). StandTogether number from (statics_from start (class ∷ classes)) (statics_in number file)) (let same : number ≡ start = omega (arith, is) in same)
    (sym (same_Some class file there)) own
  where
    rest : List (Numbered Field)
    rest = statics_from (number + 1) classes

    nil : (numbers : List ℕ) → numbers ++ [] ≡ numbers
    nil [] = refl
    nil (first ∷ numbers) = ap (λ (numbers : List ℕ). first ∷ numbers) (nil numbers)

    own : StandTogether number from (statics_from number (file ∷ classes)) (statics_in number file)
    own = subst (λ (items : List (Numbered Field)). StandTogether number from items (statics_in number file)) (sym (parted number file classes))
        (record {
          behind = 0;
          places =
              places_both (is_of number) from (statics_in number file) rest
              ∙ ap (λ (more : List ℕ). places_of (is_of number) from (statics_in number file) ++ more)
              (none_behind number (number + 1) classes (from + length (statics_in number file)) (omega arith))
              ∙ nil (places_of (is_of number) from (statics_in number file))
              ∙ ap (λ (from : ℕ). places_of (is_of number) from (statics_in number file)) (let same : from ≡ from + 0 = omega arith in same);
          there = λ turn field at.
              ap (slice_get (statics_in number file ++ rest)) (let same : 0 + turn ≡ turn = omega arith in same) ∙ still_there (statics_in number file) rest turn field at;
        })
stand_together start (suc place) number from (class ∷ classes) file is there =
    let front : List (Numbered Field) = statics_in start class in
    let rest : List (Numbered Field) = statics_from (start + 1) classes in
    let later : StandTogether number (from + length front) rest (statics_in number file) =
    stand_together (start + 1) place number (from + length front) classes file (let same : number ≡ start + 1 + place = omega (arith, is) in same) there in
    subst (λ (items : List (Numbered Field)). StandTogether number from items (statics_in number file)) (sym (parted start class classes))
    (record {
      behind = length front + later.behind;
      places =
          places_both (is_of number) from front rest
          ∙ ap (λ (own : List ℕ). own ++ places_of (is_of number) (from + length front) rest) (none_in number start class from (ne_eqb start number (λ same. apart start place number is same)))
          ∙ later.places
          ∙ ap (λ (from : ℕ). places_of (is_of number) from (statics_in number file))
          (let same : from + length front + later.behind ≡ from + (length front + later.behind) = omega arith in same);
      there = λ turn field at.
          ap (slice_get (front ++ rest)) (let same : length front + later.behind + turn ≡ length front + (later.behind + turn) = omega arith in same)
          ∙ behind_front front rest (later.behind + turn) ∙ later.there turn field at;
    })
  where
    apart : (start place number : ℕ) → number ≡ start + suc place → start ≡ number → ⊥
    apart start place number is same = omega (arith, is, same)

-- ---- of a program

abbrev is_declared_by : ℕ → Option (Numbered Field) → Bool
is_declared_by class None = false
is_declared_by class (Some field) = field.class == class

pub record HasOwnStatics (program : Linked) (number : ℕ) (own : List (Numbered Field)) : Type 0 where
  pub first : ℕ
  pub slots : own_statics program number ≡ places_of (is_of number) first own
  pub there : (turn : ℕ) (field : Numbered Field) → slice_get own turn ≡ Some field → slice_get (filter is_static (fields_of program.classes)) (first + turn) ≡ Some field

pub has_own_statics : (program : Linked) (number : ℕ) (file : ClassFile) → slice_get program.classes number ≡ Some file → HasOwnStatics program number (statics_in number file)
has_own_statics program number file there = record {
  first = together.behind;
  slots =
      ap (λ (count : ℕ). filter (λ (slot : ℕ). is_declared_by number (look slot)) (range_with_len 0 count)) (as_many change same 0 (fields_of program.classes))
      ∙ slots_are look (is_declared_by number) 0 all
      (λ slot. ap look (let zeroth : 0 + slot ≡ slot = omega arith in zeroth)
      ∙ looked change same (slice_get (fields_of program.classes)) 0 (fields_of program.classes)
      (λ place. ap (slice_get (fields_of program.classes)) (let zeroth : 0 + place ≡ place = omega arith in zeroth)) slot)
      ∙ together.places
      ∙ ap (λ (from : ℕ). places_of (is_of number) from (statics_in number file)) (let zeroth : 0 + together.behind ≡ together.behind = omega arith in zeroth);
  there = together.there;
}
  where
    change : Numbered Field → RankedField
    change = ranked_field program.classes

    same : (own : Numbered Field) → (change own).is_static ≡ is_static own
    same own = refl

    look : ℕ → Option (Numbered Field)
    look slot = option_and_then (slice_get (fields_of program.classes)) (slice_get (statics program.classes) slot)

    all : List (Numbered Field)
    all = filter is_static (fields_of program.classes)

    together : StandTogether number 0 all (statics_in number file)
    together = stand_together 0 number number 0 program.classes file (let zeroth : number ≡ 0 + number = omega arith in zeroth) there
