-- What the machine throws itself is Throwable, with the fields of Throwable alone.
use Rattle.std.proofs.Common.{◌≡◌, ◌∙◌, ◌⊎◌, inl, inr, ap, ap₂, append_assoc, append-nil, arith, refl, sym, subst, ℕ, zero, suc, ◌+◌, ◌-◌, ◌<◌, ◌≤◌, ◌==◌, Bool, true, false, cond, not, ◌||◌, ◌&&◌, List, [], ◌∷◌, ◌++◌, filter, length, map, nat_le, nat_lt, Option, Some, None, option_and_then, option_map, position, slice_get}
use Rattle.std.specs.Prelude.{codes}
use Rattle.std.specs.Cmp.Lexicographic.{bytes_decides}
use Rattle.std.specs.List.{AllByRecursion, AllZip, Contains, enumerate_from, flat_map, list_all, range_with_len}
use Rattle.std.proofs.lemmas.Bool.{and_from, and_parts, eqb-true, false≢true, leb-true, lt-ltb, ltb-true, or_cases}
use Rattle.std.proofs.lemmas.List.{map-append}
use Rattle.std.proofs.lemmas.List.Elements.{Contains-append_left}
use Rattle.std.proofs.lemmas.Option.{option_and_then_some, same_Some, slice_get-map, slice_get_within}
use Rattle.cb_classfile.specs.declared.class.ClassFile.{ClassFile}
use Rattle.cb_classfile.specs.Library.{AreLibrary, IsRecordOf, SaysField, SaysSuperclass}
use Rattle.cb_classfile.specs.Pool.{class_at, text_at}
use Rattle.cb_hierarchy.specs.Above.{Direct, IsAbove, Through}
use Rattle.cb_hierarchy.specs.Bad.{AreGood}
use Rattle.cb_hierarchy.specs.Classes.{listed, parents, superclass, superinterfaces}
use Rattle.cb_hierarchy.specs.Layout.{layout_by, own_fields}
use Rattle.cb_hierarchy.specs.Orders.{in_turns, is_subclass}
use Rattle.cb_hierarchy.specs.declared.class.Class.{Class as Ranked}
use Rattle.cb_hierarchy.specs.declared.member.Field.{Field as RankedField}
use Rattle.cb_kinds.proofs.Laws.{entered_append, entered_firsts, kind_number_of, number_stays, text_stays}
use Rattle.cb_kinds.specs.Basics.{basic_of, component_of, is_reference, kind_number}
use Rattle.cb_kinds.specs.Kinds.{is_array, kinds_of_name, name_in, type_of_name}
use Rattle.cb_kinds.specs.Texts.{entered_all, firsts, number_of, same_text}
use Rattle.cb_kinds.specs.declared.basic.Basic.{Basic}
use Rattle.cb_library.specs.CoreClasses.{core_classes}
use Rattle.cb_library.specs.Lang.{object_class}
use Rattle.cb_library.specs.Names as names
use Rattle.cb_library.specs.Rows.{CoreClass}
use Rattle.cb_library.specs.Rows as rows
use Rattle.cb_library.specs.Throwables.{throwable_class}
use Rattle.cb_link.specs.Calls.{class_of_kind}
use Rattle.cb_link.specs.Having.{IsWhole}
use Rattle.cb_link.specs.Making.{class_kinds, fixed_kinds}
use Rattle.cb_link.specs.Numbers.{class_number, class_number_at, fields_of, hierarchy, name_of, or_none, ranked, ranked_fields, ranked_methods}
use Rattle.cb_link.specs.Program.{Linked, linked_field}
use Rattle.cb_link.specs.Slots.{basic_of_field, field_basic, object_fields}
use Rattle.cb_link.specs.Subtypes.{between, is_instance, names_interface, type_of_kind}
use Rattle.cb_link.specs.declared.linked.LinkedField.{LinkedField}
use Rattle.cb_link.specs.declared.linked.Site.{Site}
use Rattle.cb_machine.specs.Arrays.{element_of}
use Rattle.cb_machine.specs.Machine.{kind_of_site, or_zero}
use Rattle.cb_machine.specs.Sites as sites
use Rattle.cb_names.specs.Signs.{letter_class, semicolon}
use Rattle.cb_verify.specs.Within.{kind_of_throwable}
use Rattle.cb_safety.specs.Kinds.{holds_kind, is_held_as}
use Rattle.cb_safety.specs.Throwing.{AreThrown, IsThrown, thrown_sites}
use Rattle.cb_safety.proofs.Assigned.{mapped, never}
use Rattle.cb_safety.proofs.Fielded.{no_component}
use Rattle.cb_safety.proofs.Holding.{instance_below}
use Rattle.cb_safety.proofs.Lists.{all_at}
use Rattle.cb_safety.proofs.Ordered.{acyclic, named_low}
use Rattle.cb_safety.proofs.OwnFields.{IsNoStatic, of_object, own_length}
use Rattle.cb_safety.proofs.Parts.{name_ends}
use Rattle.cb_safety.proofs.Placed.{class_sized, later_sited}
use Rattle.cb_safety.proofs.Resolved.{IsDeclared, declared}
use Rattle.cb_safety.proofs.Searching.{all_each, all_pass, position_here, position_later}
use Rattle.cb_safety.proofs.Spelled.{in_range}
use Rattle.cb_safety.proofs.Subclasses.{all_looked, ends, own_looked}

-- ---- the rows from Throwable on

abbrev pub core_names : List (List ℕ)
core_names = map (λ (row : CoreClass). row.name) core_classes

abbrev no_fields : List rows.Field → Bool
no_fields [] = true
no_fields other = false

abbrev is_between : Option ℕ → ℕ → Bool
is_between None place = false
is_between (Some super) place = nat_le kind_of_throwable super && nat_lt super place

abbrev super_between : Option (List ℕ) → ℕ → Bool
super_between None place = false
super_between (Some name) place = is_between (number_of core_names name) place

abbrev is_number : Option ℕ → ℕ → Bool
is_number None place = false
is_number (Some number) place = number == place

abbrev row_fits : ℕ → Option CoreClass → Bool
row_fits place None = false
row_fits place (Some row) =
    ((is_number (number_of core_names row.name) place && not (is_array row.name)) && same_text (name_in row.name) row.name)
    && ((place == kind_of_throwable) || (no_fields row.fields && super_between row.superclass place))

abbrev fits_at : ℕ → Bool
fits_at place = row_fits place (slice_get core_classes place)

all_fit : list_all fits_at (range_with_len kind_of_throwable 28) ≡ true
all_fit = refl

pub record Extends (row : CoreClass) (place : ℕ) : Type 0 where
  pub none : row.fields ≡ []
  pub super : List ℕ
  pub is : row.superclass ≡ Some super
  pub number : ℕ
  pub numbered : number_of core_names super ≡ Some number
  pub from : kind_of_throwable ≤ number
  pub below : number < place

pub record RowFits (place : ℕ) : Type 0 where
  pub row : CoreClass
  pub there : slice_get core_classes place ≡ Some row
  pub numbered : number_of core_names row.name ≡ Some place
  pub plain : is_array row.name ≡ false
  pub clean : name_in row.name ≡ row.name
  pub way : (place ≡ kind_of_throwable) ⊎ Extends row place

numbered_is : (found : Option ℕ) (place : ℕ) → is_number found place ≡ true → found ≡ Some place
numbered_is None place is = absurd (false≢true is)
numbered_is (Some number) place is = ap Some (eqb-true number place is)

fields_none : (fields : List rows.Field) → no_fields fields ≡ true → fields ≡ []
fields_none [] is = refl
fields_none (field ∷ fields) is = absurd (false≢true is)

extends_by : (row : CoreClass) (place : ℕ) (super : Option (List ℕ)) → row.superclass ≡ super → row.fields ≡ [] → super_between super place ≡ true → Extends row place
extends_by row place None is none between = absurd (false≢true between)
extends_by row place (Some name) is none between = go (number_of core_names name) refl between where
  go : (found : Option ℕ) → number_of core_names name ≡ found → is_between found place ≡ true → Extends row place
  go None numbered between = absurd (false≢true between)
  go (Some number) numbered between =
      let both = and_parts (nat_le kind_of_throwable number) (nat_lt number place) between in
      record { none = none; super = name; is = is; number = number; numbered = numbered; from = leb-true kind_of_throwable number both.0; below = ltb-true number place both.1 }

row_of : (place : ℕ) (found : Option CoreClass) → slice_get core_classes place ≡ found → row_fits place found ≡ true → RowFits place
row_of place None there fits = absurd (false≢true fits)
row_of place (Some row) there fits =
    let parts = and_parts ((is_number (number_of core_names row.name) place && not (is_array row.name)) && same_text (name_in row.name) row.name)
    ((place == kind_of_throwable) || (no_fields row.fields && super_between row.superclass place)) fits in
    let front = and_parts (is_number (number_of core_names row.name) place && not (is_array row.name)) (same_text (name_in row.name) row.name) parts.0 in
    let own = and_parts (is_number (number_of core_names row.name) place) (not (is_array row.name)) front.0 in
    record {
      row = row;
      there = there;
      numbered = numbered_is (number_of core_names row.name) place own.0;
      plain = no_array (is_array row.name) own.1;
      clean = (bytes_decides (name_in row.name) row.name).0 front.1;
      way = elim (or_cases (place == kind_of_throwable) (no_fields row.fields && super_between row.superclass place) parts.1) [
        | inl same ↦ inl (eqb-true place kind_of_throwable same)
        | inr further ↦
            let both = and_parts (no_fields row.fields) (super_between row.superclass place) further in
            inr (extends_by row place row.superclass refl (fields_none row.fields both.0) both.1)
      ];
    }
  where
    no_array : (test : Bool) → not test ≡ true → test ≡ false
    no_array true is = absurd (false≢true is)
    no_array false is = refl

row_at : (turn : ℕ) → turn < 28 → RowFits (kind_of_throwable + turn)
row_at turn low =
    row_of (kind_of_throwable + turn) (slice_get core_classes (kind_of_throwable + turn)) refl
    (in_range (λ (place : ℕ). fits_at place ≡ true) kind_of_throwable 28 turn (all_pass fits_at (range_with_len kind_of_throwable 28) all_fit) low)

pub row_from : (place : ℕ) → kind_of_throwable ≤ place → place < 50 → RowFits place
row_from place from low =
    let (turn, is) = behind place from in
    subst RowFits is (row_at turn (omega (arith, low, is)))
  where
    behind : (place : ℕ) → kind_of_throwable ≤ place → (turn : ℕ) × (kind_of_throwable + turn ≡ place)
    behind place from = (place - kind_of_throwable, omega (arith, from))

-- ---- the classes in front

numbered_front : (test : List ℕ → Bool) (front rest : List (List ℕ)) (number : ℕ) → position test front ≡ Some number → position test (front ++ rest) ≡ Some number
numbered_front test [] rest number is = never is
numbered_front test (first ∷ front) rest number is = go (test first) refl (numbered_front test front rest) where
  go : (passes : Bool) → test first ≡ passes → ((number : ℕ) → position test front ≡ Some number → position test (front ++ rest) ≡ Some number) → position test (first ∷ front ++ rest) ≡ Some number
  go true here more = position_here test first (front ++ rest) here ∙ sym (position_here test first front here) ∙ is
  go false later more =
      mapped (λ (turn : ℕ). 1 + turn) (position test front) number (sym (position_later test first front later) ∙ is)
      (λ turn found same. position_later test first (front ++ rest) later ∙ ap (option_map (λ (turn : ℕ). 1 + turn)) (more turn found) ∙ ap Some same)

front_at : {Item : Type 0} (front rest : List Item) (place : ℕ) (item : Item) → slice_get front place ≡ Some item → slice_get (front ++ rest) place ≡ Some item
front_at [] rest place item is = never is
front_at (first ∷ front) rest zero item is = is
front_at (first ∷ front) rest (suc place) item is = front_at front rest place item is

zipped_names : (table : List CoreClass) (classes : List ClassFile) → AllZip IsRecordOf table classes → map name_of classes ≡ map (λ (row : CoreClass). row.name) table
zipped_names [] [] are = refl
zipped_names [] (class ∷ classes) are = absurd are
zipped_names (row ∷ table) [] are = absurd are
zipped_names (row ∷ table) (class ∷ classes) are = ap₂ (λ (name : List ℕ) (names : List (List ℕ)). name ∷ names) (ap or_none are.0.name) (zipped_names table classes are.1)

pub record IsRow {Row Item : Type 0} (Is : Row → Item → Type 0) (items : List Item) (place : ℕ) (row : Row) : Type 0 where
  pub item : Item
  pub there : slice_get items place ≡ Some item
  pub is : Is row item

pub zipped_at : {Row Item : Type 0} (Is : Row → Item → Type 0) (table : List Row) (items : List Item) (place : ℕ) (row : Row) → AllZip Is table items → slice_get table place ≡ Some row → IsRow Is items place row
zipped_at Is [] items place row are there = never there
zipped_at Is (first ∷ table) [] place row are there = absurd are
zipped_at Is (first ∷ table) (item ∷ items) zero row are there =
    record { item = item; there = refl; is = subst (λ row. Is row item) (same_Some first row there) are.0 }
zipped_at Is (first ∷ table) (item ∷ items) (suc place) row are there =
    let later = zipped_at Is table items place row are.1 there in record { item = later.item; there = later.there; is = later.is }

-- an item has a row
pub record HasRow {Row Item : Type 0} (Is : Row → Item → Type 0) (table : List Row) (place : ℕ) (item : Item) : Type 0 where
  pub row : Row
  pub there : slice_get table place ≡ Some row
  pub is : Is row item

pub row_zipped : {Row Item : Type 0} (Is : Row → Item → Type 0) (table : List Row) (items : List Item) (place : ℕ) (item : Item) → AllZip Is table items → slice_get items place ≡ Some item → HasRow Is table place item
row_zipped Is table [] place item are there = never there
row_zipped Is [] (first ∷ items) place item are there = absurd are
row_zipped Is (row ∷ table) (first ∷ items) zero item are there =
    record { row = row; there = refl; is = subst (λ item. Is row item) (same_Some first item there) are.0 }
row_zipped Is (row ∷ table) (first ∷ items) (suc place) item are there =
    let later = row_zipped Is table items place item are.1 there in record { row = later.row; there = later.there; is = later.is }

zipped_length : {Row Item : Type 0} (Is : Row → Item → Type 0) (table : List Row) (items : List Item) → AllZip Is table items → length items ≡ length table
zipped_length Is [] [] are = refl
zipped_length Is [] (item ∷ items) are = absurd are
zipped_length Is (row ∷ table) [] are = absurd are
zipped_length Is (row ∷ table) (item ∷ items) are = ap suc (zipped_length Is table items are.1)

-- ---- lists of numbers

none_left : (numbers : List ℕ) → length numbers ≤ 0 → numbers ≡ []
none_left [] few = refl
none_left (number ∷ numbers) few = absurd (omega (arith, few))

-- what stands among them
record IsEntry {Item : Type 0} (test : Item → Bool) (from : ℕ) (items : List Item) (number : ℕ) : Type 0 where
  pub place : ℕ
  pub is : number ≡ from + place
  pub item : Item
  pub there : slice_get items place ≡ Some item
  pub passes : test item ≡ true

entry_of : {Item : Type 0} (test : Item → Bool) (from : ℕ) (items : List Item) (slot number : ℕ)
    → slice_get (map (λ (entry : ℕ × Item). entry.0) (filter (λ (entry : ℕ × Item). test entry.1) (enumerate_from from items))) slot ≡ Some number → IsEntry test from items number
entry_of test from [] slot number is = never is
entry_of {Item} test from (first ∷ items) slot number is = go (test first) refl is (entry_of test (from + 1) items) where
  later : IsEntry test (from + 1) items number → IsEntry test from (first ∷ items) number
  later entry = record { place = suc entry.place; is = omega (arith, entry.is); item = entry.item; there = entry.there; passes = entry.passes }

  at_slot : (slot : ℕ) → test first ≡ true → slice_get (from ∷ map (λ (entry : ℕ × Item). entry.0) (filter (λ (entry : ℕ × Item). test entry.1) (enumerate_from (from + 1) items))) slot ≡ Some number
      → ((slot number : ℕ) → slice_get (map (λ (entry : ℕ × Item). entry.0) (filter (λ (entry : ℕ × Item). test entry.1) (enumerate_from (from + 1) items))) slot ≡ Some number → IsEntry test (from + 1) items number)
      → IsEntry test from (first ∷ items) number
  at_slot zero passes is more =
      let same : from ≡ number = same_Some from number is in record { place = 0; is = omega (arith, same); item = first; there = refl; passes = passes }
  at_slot (suc slot) passes is more = later (more slot number is)

  go : (one : Bool) → test first ≡ one → slice_get (map (λ (entry : ℕ × Item). entry.0) (filter (λ (entry : ℕ × Item). test entry.1) (enumerate_from from (first ∷ items)))) slot ≡ Some number
      → ((slot number : ℕ) → slice_get (map (λ (entry : ℕ × Item). entry.0) (filter (λ (entry : ℕ × Item). test entry.1) (enumerate_from (from + 1) items))) slot ≡ Some number → IsEntry test (from + 1) items number)
      → IsEntry test from (first ∷ items) number
  go true passes is more = at_slot slot passes (rw passes at is) more
  go false fails is more = later (more slot number (rw fails at is))

-- ---- with the library in front

module _ (library more : List ClassFile) (are : AreLibrary library) where
  abbrev classes : List ClassFile
  classes = library ++ more

  abbrev ranks : List Ranked
  ranks = hierarchy (library ++ more)

  abbrev fields : List RankedField
  fields = ranked_fields (library ++ more)

  named_front : map name_of classes ≡ core_names ++ map name_of more
  named_front = map-append name_of library more ∙ ap (λ (front : List (List ℕ)). front ++ map name_of more) (zipped_names core_classes library are)

  class_numbered : (name : List ℕ) (number : ℕ) → number_of core_names name ≡ Some number → class_number classes name ≡ Some number
  class_numbered name number is = ap (λ (texts : List (List ℕ)). number_of texts name) named_front ∙ numbered_front (same_text name) core_names (map name_of more) number is

  pub file_at : (place : ℕ) (row : CoreClass) → slice_get core_classes place ≡ Some row → IsRow IsRecordOf classes place row
  file_at place row there =
      let own = zipped_at IsRecordOf core_classes library place row are there in
      record { item = own.item; there = front_at library more place own.item own.there; is = own.is }

  rank_at : (place : ℕ) (row : CoreClass) (file : IsRow IsRecordOf classes place row) → slice_get ranks place ≡ Some (ranked classes file.item)
  rank_at place row file = slice_get-map (ranked classes) classes place ∙ ap (option_map (ranked classes)) file.there

  pub extends_to : (place : ℕ) (row : CoreClass) (super : List ℕ) (number : ℕ) → slice_get core_classes place ≡ Some row → row.superclass ≡ Some super → number_of core_names super ≡ Some number
      → superclass ranks place ≡ number ∷ []
  extends_to place row super number there is numbered =
      let file : IsRow IsRecordOf classes place row = file_at place row there in
      let ranked_there : slice_get ranks place ≡ Some (ranked classes file.item) = rank_at place row file in
      let says : class_at file.item.pool file.item.super_class ≡ Some super = subst (λ (super : Option (List ℕ)). SaysSuperclass file.item.pool super file.item.super_class) is file.is.superclass in
      let own : class_number_at classes file.item.pool file.item.super_class ≡ Some number = ap (option_and_then (class_number classes)) says ∙ class_numbered super number numbered in
      rw ranked_there (ap listed own)

  none_above_object : superclass ranks 0 ≡ []
  none_above_object =
      let file : IsRow IsRecordOf classes 0 object_class = file_at 0 object_class refl in
      let ranked_there : slice_get ranks 0 ≡ Some (ranked classes file.item) = rank_at 0 object_class file in
      rw ranked_there (ap (λ (index : ℕ). listed (class_number_at classes file.item.pool index)) file.is.superclass)

  pub rank_low : (place : ℕ) (row : CoreClass) → slice_get core_classes place ≡ Some row → place < length ranks
  rank_low place row there =
      let file : IsRow IsRecordOf classes place row = file_at place row there in
      slice_get_within ranks place (ranked classes file.item) (rank_at place row file)

  -- the fields of objects that a class declares are those of its row
  pub own_count : (place : ℕ) (row : CoreClass) → slice_get core_classes place ≡ Some row → AllByRecursion IsNoStatic row.fields
      → length (own_fields fields place) ≡ length row.fields
  own_count place row there none =
      let file : IsRow IsRecordOf classes place row = file_at place row there in
      own_length classes place file.item file.there (of_object file.item.pool row.fields file.item.fields file.is.fields none)
      ∙ zipped_length (SaysField file.item.pool) row.fields file.item.fields file.is.fields

  pub own_none : (place : ℕ) (row : CoreClass) → slice_get core_classes place ≡ Some row → row.fields ≡ [] → own_fields fields place ≡ []
  own_none place row there none =
      let counted : length (own_fields fields place) ≡ length row.fields = own_count place row there (subst (AllByRecursion IsNoStatic) (sym none) tt) in
      let empty : length row.fields ≡ 0 = ap length none in
      none_left (own_fields fields place) (omega (arith, counted, empty))

  -- objects of these classes have the fields of Throwable
  abbrev pub laid : ℕ → ℕ → List ℕ
  laid turns class = in_turns (layout_by ranks fields) turns class

  pub laid_object : (turns : ℕ) → laid turns 0 ≡ []
  laid_object zero = refl
  laid_object (suc turns) =
      ap₂ (λ (supers own : List ℕ). flat_map (laid turns) supers ++ own) none_above_object (own_none 0 object_class refl refl)

  laid_throwable : (turns : ℕ) → laid (suc turns) kind_of_throwable ≡ own_fields fields kind_of_throwable
  laid_throwable turns =
      ap (λ (supers : List ℕ). flat_map (laid turns) supers ++ own_fields fields kind_of_throwable) (extends_to kind_of_throwable throwable_class names.object 0 refl refl refl)
      ∙ ap (λ (front : List ℕ). (front ++ []) ++ own_fields fields kind_of_throwable) (laid_object turns)

  laid_below : (turns place : ℕ) (fits : RowFits place) (extends : Extends fits.row place) → laid (suc turns) place ≡ laid turns extends.number
  laid_below turns place fits extends =
      ap₂ (λ (supers own : List ℕ). flat_map (laid turns) supers ++ own) (extends_to place fits.row extends.super extends.number fits.there extends.is extends.numbered)
      (own_none place fits.row fits.there extends.none)
      ∙ append-nil (laid turns extends.number ++ []) ∙ append-nil (laid turns extends.number)

  laid_as : (turns place : ℕ) → RowFits place → place < 50 → place < turns → laid turns place ≡ own_fields fields kind_of_throwable
  laid_as zero place fits low enough = absurd (omega (arith, enough))
  laid_as (suc turns) place fits low enough = elim fits.way [
    | inl same ↦ subst (λ (place : ℕ). laid (suc turns) place ≡ own_fields fields kind_of_throwable) (sym same) (laid_throwable turns)
    | inr extends ↦ laid_below turns place fits extends
        ∙ laid_as turns extends.number (row_from extends.number extends.from (omega (arith, extends.below, low))) (omega (arith, extends.below, low))
        (omega (arith, extends.below, enough))
  ]

  fields_of_throwable : (place : ℕ) → RowFits place → place < 50 → object_fields classes place ≡ own_fields fields kind_of_throwable
  fields_of_throwable place fits low = laid_as (length ranks) place fits low (rank_low place fits.row fits.there)

  pub slot_of_throwable : (place slot number : ℕ) → RowFits place → place < 50 → slice_get (object_fields classes place) slot ≡ Some number → slice_get (own_fields fields kind_of_throwable) slot ≡ Some number
  slot_of_throwable place slot number fits low is = subst (λ (own : List ℕ). slice_get own slot ≡ Some number) (fields_of_throwable place fits low) is

  throwable_file : IsRow IsRecordOf classes kind_of_throwable throwable_class
  throwable_file = file_at kind_of_throwable throwable_class refl

  own_three : length (own_fields fields kind_of_throwable) ≡ 3
  own_three = own_count kind_of_throwable throwable_class refl (refl, (refl, (refl, tt)))

  three_fields : (place : ℕ) → RowFits place → place < 50 → length (object_fields classes place) ≡ 3
  three_fields place fits low = ap (λ (numbers : List ℕ). length numbers) (fields_of_throwable place fits low) ∙ own_three

  slot_low : (slot number : ℕ) → slice_get (own_fields fields kind_of_throwable) slot ≡ Some number → slot < 3
  slot_low slot number is =
      let within = slice_get_within (own_fields fields kind_of_throwable) slot number is in
      let three = own_three in
      omega (arith, within, three)

  -- and these are references
  all_references : (texts : List (List ℕ)) → AllByRecursion (λ (field : rows.Field). is_reference (basic_of texts field.descriptor) ≡ true) throwable_class.fields
  all_references texts = (refl, (refl, (refl, tt)))

  declared_reference : (texts : List (List ℕ)) (number : ℕ) (field : RankedField) (own : IsDeclared classes number field) → field.declared.class ≡ kind_of_throwable
      → is_reference (linked_field texts own.own).basic ≡ true
  declared_reference texts number field own same =
      let file : IsRow IsRecordOf classes kind_of_throwable throwable_class = throwable_file in
      let class_is : own.own.class ≡ kind_of_throwable = ap (λ (field : RankedField). field.declared.class) own.is ∙ same in
      let file_is : own.at.declaring ≡ file.item =
      same_Some own.at.declaring file.item (sym own.at.declares ∙ ap (slice_get classes) class_is ∙ file.there) in
      let there : slice_get file.item.fields own.own.place ≡ Some own.own.member = subst (λ (file : ClassFile). slice_get file.fields own.own.place ≡ Some own.own.member) file_is own.at.lists in
      let row = row_zipped (SaysField file.item.pool) throwable_class.fields file.item.fields own.own.place own.own.member file.is.fields there in
      let pool_is : own.own.pool ≡ file.item.pool = own.at.of_pool ∙ ap (λ (file : ClassFile). file.pool) file_is in
      ap (λ (pool : _). is_reference (basic_of texts (or_none (text_at pool own.own.member.descriptor)))) pool_is
      ∙ ap (λ (text : Option (List ℕ)). is_reference (basic_of texts (or_none text))) row.is.descriptor
      ∙ all_at (λ (field : rows.Field). is_reference (basic_of texts field.descriptor) ≡ true) throwable_class.fields own.own.place row.row (all_references texts) row.there

  -- they are below Throwable
  module _ (good : AreGood ranks (ranked_methods classes)) where
    above_throwable : (fuel place : ℕ) → place < fuel → place < 50 → RowFits place → (place ≡ kind_of_throwable) ⊎ IsAbove (parents ranks) place kind_of_throwable
    above_throwable zero place low small fits = absurd (omega (arith, low))
    above_throwable (suc fuel) place low small fits = elim fits.way [
      | inl same ↦ inl same
      | inr extends ↦ inr (elim (above_throwable fuel extends.number (omega (arith, extends.below, low)) (omega (arith, extends.below, small))
          (row_from extends.number extends.from (omega (arith, extends.below, small)))) [
            | inl last ↦ Direct place kind_of_throwable (subst (λ (number : ℕ). Contains (parents ranks place) number) last (parent_of place fits extends))
            | inr above ↦ Through place extends.number kind_of_throwable (parent_of place fits extends) above
          ])
    ]
      where
        parent_of : (place : ℕ) (fits : RowFits place) (extends : Extends fits.row place) → Contains (parents ranks place) extends.number
        parent_of place fits extends =
            Contains-append_left (superclass ranks place) (superinterfaces ranks place) extends.number
            (subst (λ (list : List ℕ). Contains list extends.number) (sym (extends_to place fits.row extends.super extends.number fits.there extends.is extends.numbered)) (0, omega arith, refl))

    below_throwable : (place : ℕ) → place < 50 → RowFits place → is_subclass ranks place kind_of_throwable ≡ true
    below_throwable place small fits =
        let file : IsRow IsRecordOf classes place fits.row = file_at place fits.row fits.there in
        let within : place < length ranks = slice_get_within ranks place (ranked classes file.item) (rank_at place fits.row file) in
        let end = ends ranks (acyclic ranks (ranked_methods classes) good) (named_low classes) place within in
        elim (above_throwable (suc place) place (omega arith) small fits) [
          | inl same ↦ subst (λ (other : ℕ). is_subclass ranks place other ≡ true) same (own_looked ranks (length ranks) place end)
          | inr above ↦ all_looked ranks (length ranks) place kind_of_throwable end above
        ]

-- ---- of a program

core_once : entered_all [] core_names ≡ core_names
core_once = refl

either : (test one : Bool) → one ≡ true → cond test true one ≡ true
either true one is = refl
either false one is = is

module _ (program : Linked) (library more : List ClassFile) (front : program.classes ≡ library ++ more) (are : AreLibrary library) (whole : IsWhole program) where
  abbrev others : List (List ℕ)
  others = (map name_of more ++ flat_map class_kinds program.classes) ++ flat_map kinds_of_name fixed_kinds

  kinds_are : program.kinds ≡ entered_all core_names others
  kinds_are =
      whole.kinds
      ∙ ap (λ (names : List (List ℕ)). firsts ((names ++ flat_map class_kinds program.classes) ++ flat_map kinds_of_name fixed_kinds))
      (ap (map name_of) front ∙ named_front library more are)
      ∙ ap (λ (names : List (List ℕ)). firsts (names ++ flat_map kinds_of_name fixed_kinds)) (append_assoc core_names (map name_of more) (flat_map class_kinds program.classes))
      ∙ ap firsts (append_assoc core_names (map name_of more ++ flat_map class_kinds program.classes) (flat_map kinds_of_name fixed_kinds))
      ∙ sym (entered_firsts (core_names ++ others)) ∙ entered_append [] core_names others ∙ ap (λ (texts : List (List ℕ)). entered_all texts others) core_once

  pub kind_numbered : (name : List ℕ) (number : ℕ) → number_of core_names name ≡ Some number → number_of program.kinds name ≡ Some number
  kind_numbered name number is = ap (λ (texts : List (List ℕ)). number_of texts name) kinds_are ∙ number_stays core_names others name number is

  pub kind_there : (place : ℕ) (fits : RowFits place) → slice_get program.kinds place ≡ Some fits.row.name
  kind_there place fits =
      ap (λ (texts : List (List ℕ)). slice_get texts place) kinds_are
      ∙ text_stays core_names others fits.row.name place (slice_get-map (λ (row : CoreClass). row.name) core_classes place ∙ ap (option_map (λ (row : CoreClass). row.name)) fits.there)

  pub kind_class : (name : List ℕ) (number : ℕ) → number_of core_names name ≡ Some number → class_number program.classes name ≡ Some number
  kind_class name number is = ap (λ (classes : List ClassFile). class_number classes name) front ∙ class_numbered library more are name number is

  good : AreGood (hierarchy (library ++ more)) (ranked_methods (library ++ more))
  good = subst (λ (classes : List ClassFile). AreGood (hierarchy classes) (ranked_methods classes)) front whole.good

  type_at : (place : ℕ) (fits : RowFits place) → type_of_kind program place ≡ letter_class ∷ fits.row.name ++ semicolon ∷ []
  type_at place fits =
      ap (λ (found : Option (List ℕ)). type_of_name (or_none found)) (kind_there place fits)
      ∙ ap (λ (test : Bool). cond test fits.row.name (letter_class ∷ fits.row.name ++ semicolon ∷ [])) fits.plain

  throwable_row : RowFits kind_of_throwable
  throwable_row = row_from kind_of_throwable (omega arith) (omega arith)

  instance_at : (place : ℕ) (fits : RowFits place) → place < 50 → is_instance program.classes fits.row.name throwable_row.row.name ≡ true
  instance_at place fits small =
      instance_below program.classes fits.row.name throwable_row.row.name
      (ap₂ (between program.classes) (kind_class fits.row.name place fits.numbered) (kind_class throwable_row.row.name kind_of_throwable throwable_row.numbered)
      ∙ ap (λ (classes : List ClassFile). is_subclass (hierarchy classes) place kind_of_throwable) front ∙ below_throwable library more are good place small fits)

  holds_throwable : (place : ℕ) (fits : RowFits place) → place < 50 → holds_kind program place kind_of_throwable ≡ true
  holds_throwable place fits small =
      let count : ℕ = length program.kinds in
      let last : RowFits kind_of_throwable = throwable_row in
      and_from (nat_lt place count && nat_lt kind_of_throwable count) (is_held_as program.classes (type_of_kind program place) (type_of_kind program kind_of_throwable))
      (and_from (nat_lt place count) (nat_lt kind_of_throwable count)
      (lt-ltb place count (slice_get_within program.kinds place fits.row.name (kind_there place fits)))
      (lt-ltb kind_of_throwable count (slice_get_within program.kinds kind_of_throwable throwable_row.row.name (kind_there kind_of_throwable throwable_row))))
      (ap₂ (is_held_as program.classes) (type_at place fits) (type_at kind_of_throwable throwable_row)
      ∙ ap₂ (λ (own name : List ℕ). cond (names_interface program.classes name) true (is_instance program.classes own name))
      (name_ends fits.row.name ∙ fits.clean) (name_ends throwable_row.row.name ∙ throwable_row.clean)
      ∙ either (names_interface program.classes throwable_row.row.name) (is_instance program.classes fits.row.name throwable_row.row.name) (instance_at place fits small))

  basic_at : (number : ℕ) (field : RankedField) (own : IsDeclared (library ++ more) number field) → basic_of_field program number ≡ Some (linked_field program.kinds own.own).basic
  basic_at number field own =
      ap (λ (fields : List LinkedField). option_map (λ (field : LinkedField). field.basic) (slice_get fields number)) whole.fields
      ∙ ap (option_map (λ (field : LinkedField). field.basic)) (slice_get-map (linked_field program.kinds) (fields_of program.classes) number
      ∙ ap (λ (classes : List ClassFile). option_map (linked_field program.kinds) (slice_get (fields_of classes) number)) front ∙ ap (option_map (linked_field program.kinds)) own.there)

  field_at : (slot number : ℕ) (basic : Basic) → slice_get (own_fields (ranked_fields (library ++ more)) kind_of_throwable) slot ≡ Some number → basic_of_field program number ≡ Some basic
      → is_reference basic ≡ true
  field_at slot number basic is own =
      let entry = entry_of (λ (field : RankedField). (field.declared.class == kind_of_throwable) && not field.is_static) 0 (ranked_fields (library ++ more)) slot number is in
      let same : number ≡ entry.place = omega (arith, entry.is) in
      let of = declared (library ++ more) entry.place entry.item entry.there in
      let class_is : entry.item.declared.class ≡ kind_of_throwable =
      eqb-true entry.item.declared.class kind_of_throwable (and_parts (entry.item.declared.class == kind_of_throwable) (not entry.item.is_static) entry.passes).0 in
      subst (λ (basic : Basic). is_reference basic ≡ true)
      (same_Some (linked_field program.kinds of.own).basic basic (sym (basic_at entry.place entry.item of) ∙ ap (basic_of_field program) (sym same) ∙ own))
      (declared_reference library more are program.kinds entry.place entry.item of class_is)

  thrown_row : (place : ℕ) (fits : RowFits place) → place < 50 → IsThrown program place
  thrown_row place fits small = record {
    throwable = holds_throwable place fits small;
    fields = λ class slot basic classed declared. by class slot basic classed declared;
    no_elements = no_elements;
    sited = later_sited program place later;
    sized =
        class_sized program place place 3 no_elements own_classed
        (ap (λ (classes : List ClassFile). length (object_fields classes place)) front ∙ three_fields library more are place fits small);
  }
    where
      no_elements : element_of program place ≡ None
      no_elements =
          ap (λ (found : Option (List ℕ)). component_of program.kinds (or_none found)) (kind_there place fits)
          ∙ no_component program.kinds fits.row.name fits.plain

      later : 0 < place
      later = elim fits.way [
        | inl same ↦ omega (arith, same)
        | inr extends ↦ omega (arith, extends.below)
      ]

      own_classed : class_of_kind program place ≡ Some place
      own_classed = ap (option_and_then (class_number program.classes)) (kind_there place fits) ∙ kind_class fits.row.name place fits.numbered

      own_class : (class : ℕ) → class_of_kind program place ≡ Some class → place ≡ class
      own_class class classed =
          same_Some place class (sym own_classed ∙ classed)

      by : (class slot : ℕ) (basic : Basic) → class_of_kind program place ≡ Some class → field_basic program class slot ≡ Some basic → (slot < 3) × (is_reference basic ≡ true)
      by class slot basic classed declared =
          option_and_then_some (basic_of_field program) (slice_get (object_fields program.classes class) slot) basic declared
          (λ number stands own.
          let there : slice_get (own_fields (ranked_fields (library ++ more)) kind_of_throwable) slot ≡ Some number =
          slot_of_throwable library more are place slot number fits small
          (ap₂ (λ (classes : List ClassFile) (class : ℕ). slice_get (object_fields classes class) slot) (sym front) (own_class class classed) ∙ stands) in
          (slot_low library more are slot number there, field_at slot number basic there own))

  pub fixed_site : (site : ℕ) → kind_of_site program site ≡ or_zero (slice_get (map (kind_number program.kinds) fixed_kinds ++ map (λ (site : Site). site.kind) program.sites) site)
  fixed_site site = ap (λ (fixed : List ℕ). or_zero (slice_get (fixed ++ map (λ (site : Site). site.kind) program.sites) site)) whole.fixed

  pub thrown_at : (site number : ℕ) (name : List ℕ) → kind_of_site program site ≡ kind_number program.kinds name → number_of core_names name ≡ Some number
      → kind_of_throwable ≤ number → number < 50 → IsThrown program (kind_of_site program site)
  thrown_at site number name is numbered from small =
      subst (IsThrown program) (sym (is ∙ kind_number_of program.kinds name number (kind_numbered name number numbered))) (thrown_row number (row_from number from small) small)

  all_thrown : AllByRecursion (λ site. IsThrown program (kind_of_site program site)) thrown_sites
  all_thrown = (
    thrown_at sites.null_pointer 36 (codes "java/lang/NullPointerException") (fixed_site sites.null_pointer) refl (omega arith) (omega arith),
    (
      thrown_at sites.arithmetic 26 (codes "java/lang/ArithmeticException") (fixed_site sites.arithmetic) refl (omega arith) (omega arith),
      (
        thrown_at sites.array_index 33 (codes "java/lang/ArrayIndexOutOfBoundsException") (fixed_site sites.array_index) refl (omega arith) (omega arith),
        (
          thrown_at sites.negative_size 35 (codes "java/lang/NegativeArraySizeException") (fixed_site sites.negative_size) refl (omega arith) (omega arith),
          (
            thrown_at sites.array_store 27 (codes "java/lang/ArrayStoreException") (fixed_site sites.array_store) refl (omega arith) (omega arith),
            (
              thrown_at sites.class_cast 28 (codes "java/lang/ClassCastException") (fixed_site sites.class_cast) refl (omega arith) (omega arith),
              (
                thrown_at sites.stack_overflow 48 (codes "java/lang/StackOverflowError") (fixed_site sites.stack_overflow) refl (omega arith) (omega arith),
                (
                  thrown_at sites.exception_in_initializer 42 (codes "java/lang/ExceptionInInitializerError") (fixed_site sites.exception_in_initializer) refl (omega arith) (omega arith),
                  (
                    thrown_at sites.no_class_definition 43 (codes "java/lang/NoClassDefFoundError") (fixed_site sites.no_class_definition) refl (omega arith) (omega arith),
                    (
                      thrown_at sites.incompatible_class_change 44 (codes "java/lang/IncompatibleClassChangeError") (fixed_site sites.incompatible_class_change) refl (omega arith) (omega arith),
                      (
                        thrown_at sites.abstract_method 45 (codes "java/lang/AbstractMethodError") (fixed_site sites.abstract_method) refl (omega arith) (omega arith),
                        tt,
                      ),
                    ),
                  ),
                ),
              ),
            ),
          ),
        ),
      ),
    ),
  )

  pub are_thrown : AreThrown program
  are_thrown site among = all_each (λ site. IsThrown program (kind_of_site program site)) thrown_sites site all_thrown among
