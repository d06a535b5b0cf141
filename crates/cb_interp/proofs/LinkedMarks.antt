-- In a linked program a method without code is performed exactly where it is marked native: of the library's methods their table says so, and
-- of the others none is marked so, since these are left out of what is read.
use Rattle.std.proofs.Common.{◌≡◌, ◌∙◌, ◌⊎◌, inl, inr, ap, refl, sym, subst, ℕ, zero, suc, not, Bool, true, false, List, [], ◌∷◌, ◌++◌, map, Option, Some, None, is_some, option_and_then, option_map, slice_get}
use Rattle.std.specs.List.{AllByRecursion, AllZip, list_all}
use Rattle.std.proofs.lemmas.Bool.{and_parts, false≢true}
use Rattle.std.proofs.lemmas.Option.{none-some, same_Some, slice_get-map}
use Rattle.cb_classfile.specs.Flags.{acc_native}
use Rattle.cb_classfile.specs.Library.{AreLibrary, IsRecordOf, SaysKind, SaysMethod}
use Rattle.cb_classfile.specs.Profile.{constant_item, descriptor_item_at, first_of, item_if, method_item}
use Rattle.cb_classfile.specs.declared.class.ClassFile.{ClassFile}
use Rattle.cb_classfile.specs.declared.feature.Feature.{Feature}
use Rattle.cb_classfile.specs.declared.feature.Feature.TheVariants as features
use Rattle.cb_classfile.specs.declared.method.Method.{Method}
use Rattle.cb_library.specs.CoreClasses.{core_classes}
use Rattle.cb_library.specs.Questions.{fits_flags, has}
use Rattle.cb_library.specs.Flags as table
use Rattle.cb_library.specs.Rows.{CoreClass, Kind}
use Rattle.cb_library.specs.Rows as rows
use Rattle.cb_library.specs.declared.native.Native.{Native}
use Rattle.cb_link.proofs.Laws.{placed}
use Rattle.cb_link.specs.Making.{kinds}
use Rattle.cb_link.specs.Numbers.{Numbered, has_flag, methods_of}
use Rattle.cb_link.specs.Places.{IsPlaced}
use Rattle.cb_link.specs.Program.{Linked, linked, linked_method}
use Rattle.cb_link.specs.declared.linked.LinkedMethod.{LinkedMethod}
use Rattle.cb_machine.specs.Natives.{native_at, native_in, native_of}
use Rattle.cb_safety.specs.Linked.{IsLinked}
use Rattle.cb_safety.specs.Loaded.{IsSupported}
use Rattle.cb_text.specs.declared.constant.Constant.{Constant}
use Rattle.cb_act.specs.Acting.{MarksNatives}
use Rattle.cb_act.proofs.Laws.{all_at}

-- ---- lists

pub never : {Item P : Type 0} {item : Item} → ◌≡◌ {A = Option Item} None (Some item) → P
never {Item} {P} {item} none = absurd (none-some item none)

passes : {Item : Type 0} (test : Item → Bool) (items : List Item) (place : ℕ) (item : Item) → list_all test items ≡ true → slice_get items place ≡ Some item → test item ≡ true
passes test [] place item all is = never is
passes test (first ∷ items) zero item all is =
    ap test (sym (same_Some first item is)) ∙ (and_parts (test first) (list_all test items) all).0
passes test (first ∷ items) (suc place) item all is = passes test items place item (and_parts (test first) (list_all test items) all).1 is

-- an item of two lists has a row in a table of the first, or is of the second and has none
pub record HasRow {Row Item : Type 0} (Is : Row → Item → Type 0) (rows : List Row) (place : ℕ) (item : Item) : Type 0 where
  pub row : Row
  pub there : slice_get rows place ≡ Some row
  pub is : Is row item

either : {Row Item : Type 0} (Is : Row → Item → Type 0) (Else : Item → Type 0) (table : List Row) (front back : List Item) (place : ℕ) (item : Item)
    → AllZip Is table front → AllByRecursion Else back → slice_get (front ++ back) place ≡ Some item → HasRow Is table place item ⊎ ((slice_get table place ≡ None) × Else item)
either Is Else [] [] back place item are all is = inr (refl, all_at Else back place item all is)
either Is Else [] (first ∷ front) back place item are all is = absurd are
either Is Else (row ∷ table) [] back place item are all is = absurd are
either Is Else (row ∷ table) (first ∷ front) back zero item are all is =
    inl (record { row = row; there = refl; is = subst (λ item. Is row item) (same_Some first item is) are.0 })
either Is Else (row ∷ table) (first ∷ front) back (suc place) item are all is = elim (either Is Else table front back place item are.1 all is) [
  | inl own ↦ inl (record { row = own.row; there = own.there; is = own.is })
  | inr other ↦ inr other
]

row_of : {Row Item : Type 0} (Is : Row → Item → Type 0) (table : List Row) (items : List Item) (place : ℕ) (item : Item) → AllZip Is table items → slice_get items place ≡ Some item
    → HasRow Is table place item
row_of Is [] [] place item are is = never is
row_of Is [] (first ∷ items) place item are is = absurd are
row_of Is (row ∷ table) [] place item are is = absurd are
row_of Is (row ∷ table) (first ∷ items) zero item are is =
    record { row = row; there = refl; is = subst (λ item. Is row item) (same_Some first item is) are.0 }
row_of Is (row ∷ table) (first ∷ items) (suc place) item are is =
    let own = row_of Is table items place item are.1 is in record { row = own.row; there = own.there; is = own.is }

-- ---- of the library's methods

all_fit : list_all (λ (row : CoreClass). list_all fits_flags row.methods) core_classes ≡ true
all_fit = refl

false_where : (test : Bool) → not test ≡ true → false ≡ test
false_where true is = absurd (false≢true is)
false_where false is = refl

by_kind : (pool : List Constant) (flags : ℕ) (name descriptor : List ℕ) (kind : Kind) → fits_flags (record { flags = flags; name = name; descriptor = descriptor; kind = kind }) ≡ true
    → SaysKind pool kind None → is_some (native_in kind) ≡ has table.acc_native flags
by_kind pool flags name descriptor rows.Abstract fits says =
    false_where (has table.acc_native flags) (and_parts (has table.acc_abstract flags) (not (has table.acc_native flags)) fits).1
by_kind pool flags name descriptor (rows.Performed native) fits says =
    sym (and_parts (has table.acc_native flags) (not (has table.acc_abstract flags)) fits).0
by_kind pool flags name descriptor (rows.Runs body) fits says = absurd says

by_row : (pool : List Constant) (row : rows.Method) (method : Method) → fits_flags row ≡ true → SaysMethod pool row method → method.body ≡ None
    → is_some (native_in row.kind) ≡ has_flag acc_native method.flags.0
by_row pool row method fits says none =
    by_kind pool row.flags row.name row.descriptor row.kind fits (subst (SaysKind pool row.kind) none says.kind)
    ∙ ap (has_flag acc_native) (sym says.flags)

-- ---- of other methods

none_behind : (front back : List (Option Feature)) → first_of (front ++ back) ≡ None → first_of back ≡ None
none_behind [] back is = is
none_behind (Some item ∷ front) back is = never (sym is)
none_behind (None ∷ front) back is = none_behind front back is

none_at : {Item : Type 0} (item_of : Item → Option Feature) (items : List Item) (place : ℕ) (item : Item) → first_of (map item_of items) ≡ None → slice_get items place ≡ Some item
    → item_of item ≡ None
none_at item_of [] place item none is = never is
none_at {Item} item_of (first ∷ items) place item none is = go (item_of first) refl none (λ none place is. none_at item_of items place item none is) place is where
  go : (found : Option Feature) → item_of first ≡ found → first_of (found ∷ map item_of items) ≡ None
      → (first_of (map item_of items) ≡ None → (place : ℕ) → slice_get items place ≡ Some item → item_of item ≡ None)
      → (place : ℕ) → slice_get (first ∷ items) place ≡ Some item → item_of item ≡ None
  go (Some own) here none later place is = never (sym none)
  go None here none later zero is = ap item_of (sym (same_Some first item is)) ∙ here
  go None here none later (suc place) is = later none place is

second_none : (first second : Option Feature) (rest : List (Option Feature)) → first_of (first ∷ second ∷ rest) ≡ None → second ≡ None
second_none (Some item) second rest is = never (sym is)
second_none None None rest is = refl
second_none None (Some item) rest is = never (sym is)

no_test : (test : Bool) (item : Feature) → item_if test item ≡ None → false ≡ test
no_test true item is = never (sym is)
no_test false item is = refl

not_native : (class : ClassFile) → IsSupported class → (place : ℕ) (method : Method) → slice_get class.methods place ≡ Some method → false ≡ has_flag acc_native method.flags.0
not_native class supported place method is =
    let methods : first_of (map (method_item class.pool) class.methods) ≡ None =
    none_behind (map (λ field. descriptor_item_at class.pool field.descriptor) class.fields) (map (method_item class.pool) class.methods)
    (none_behind (map (constant_item class.pool) class.pool) (map (λ field. descriptor_item_at class.pool field.descriptor) class.fields ++ map (method_item class.pool) class.methods) supported) in
    no_test (has_flag acc_native method.flags.0) features.Native (second_none _ _ _ (none_at (method_item class.pool) class.methods place method methods is))

-- ---- of a program

module _ (library more : List ClassFile) (are : AreLibrary library) (supported : AllByRecursion IsSupported more) (main : List ℕ) (begins : ℕ) where
  native_is : (method : ℕ) (own : Numbered Method) → slice_get (methods_of (library ++ more)) method ≡ Some own
      → native_of (linked (library ++ more) main begins) method ≡ native_at own.class own.place
  native_is method own is =
      ap (option_and_then (λ (own : LinkedMethod). native_at own.class own.place))
      (slice_get-map (linked_method (kinds (library ++ more))) (methods_of (library ++ more)) method ∙ ap (option_map (linked_method (kinds (library ++ more)))) is)

  marked_at : (own : Numbered Method) (at : IsPlaced (λ (class : ClassFile). class.methods) (library ++ more) own) → own.member.body ≡ None
      → is_some (native_at own.class own.place) ≡ has_flag acc_native own.member.flags.0
  marked_at own at none = elim (either IsRecordOf IsSupported core_classes library more own.class at.declaring are supported at.declares) [
    | inl core ↦ of_library core (row_of (SaysMethod at.declaring.pool) core.row.methods at.declaring.methods own.place own.member core.is.methods at.lists)
    | inr other ↦ ap (λ (row : Option CoreClass). is_some (option_and_then (λ (row : CoreClass). option_and_then (λ (method : rows.Method). native_in method.kind) (slice_get row.methods own.place)) row)) other.0
        ∙ not_native at.declaring other.1 own.place own.member at.lists
  ]
    where
      of_library : (core : HasRow IsRecordOf core_classes own.class at.declaring) → HasRow (SaysMethod at.declaring.pool) core.row.methods own.place own.member
          → is_some (native_at own.class own.place) ≡ has_flag acc_native own.member.flags.0
      of_library core row =
          ap (λ (row : Option CoreClass). is_some (option_and_then (λ (row : CoreClass). option_and_then (λ (method : rows.Method). native_in method.kind) (slice_get row.methods own.place)) row)) core.there
          ∙ ap (λ (row : Option rows.Method). is_some (option_and_then (λ (method : rows.Method). native_in method.kind) row)) row.there
          ∙ by_row at.declaring.pool row.row own.member
          (passes fits_flags core.row.methods own.place row.row (passes (λ (row : CoreClass). list_all fits_flags row.methods) core_classes own.class core.row all_fit core.there) row.there) row.is none

  linked_marks : MarksNatives (linked (library ++ more) main begins)
  linked_marks method own is none =
      ap (λ (native : Option Native). is_some native) (native_is method own is)
      ∙ marked_at own (placed (λ (class : ClassFile). class.methods) (library ++ more) method own is) none

pub marks_natives : (program : Linked) → IsLinked program → MarksNatives program
marks_natives program is = subst MarksNatives (sym is.all) (linked_marks is.library is.more is.is_library is.supported is.main is.method)
