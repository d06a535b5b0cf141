-- Objects of a linked program have few fields: each class declares fewer than 2^16, and no class stands below more classes than there are.
use Rattle.std.proofs.Common.{◌≡◌, ◌∙◌, ap, refl, sym, subst, arith, ℕ, zero, suc, ◌+◌, ◌*◌, ◌^◌, ◌<◌, ◌≤◌, ◌==◌, ◌&&◌, not, Bool, true, false, List, [], ◌∷◌, ◌++◌, filter, length, map, Option, Some, None, slice_get}
use Rattle.std.specs.Prelude.{if◌then◌else◌}
use Rattle.std.specs.List.{AllByRecursion, AllZip, enumerate_from, flat_map}
use Rattle.std.proofs.lemmas.Bool.{eqb-true, false≢true, ne_eqb}
use Rattle.std.proofs.lemmas.List.{append-nil, length-append, length-map}
use Rattle.cb_classfile.specs.Class.{IsWellFormed}
use Rattle.cb_classfile.specs.Library.{IsRecordOf}
use Rattle.cb_classfile.specs.declared.class.ClassFile.{ClassFile}
use Rattle.cb_classfile.specs.declared.field.Field.{Field}
use Rattle.cb_hierarchy.specs.Classes.{listed, superclass}
use Rattle.cb_hierarchy.specs.Layout.{layout_by, own_fields}
use Rattle.cb_hierarchy.specs.Orders.{in_turns}
use Rattle.cb_hierarchy.specs.declared.class.Class.{Class as Ranked}
use Rattle.cb_hierarchy.specs.declared.member.Field.{Field as RankedField}
use Rattle.cb_kinds.specs.Basics.{component_of}
use Rattle.cb_kinds.specs.declared.basic.Basic.{Basic}
use Rattle.cb_library.specs.CoreClasses.{core_classes}
use Rattle.cb_link.specs.Judging.{class_limit}
use Rattle.cb_link.specs.Numbers.{Numbered, class_number, fields_of, hierarchy, library_size, or_none, ranked, ranked_field, ranked_fields}
use Rattle.cb_link.specs.Program.{Linked}
use Rattle.cb_link.specs.Slots.{basic_of_field, field_marks, is_some_reference, object_fields, shape, shape_with}
use Rattle.cb_safety.specs.Linked.{IsLinked}
use Rattle.cb_interp.specs.Needing.{HasFewFields, fields_count}
use Rattle.cb_act.proofs.Laws.{all_joined}

-- ---- of a class

abbrev FewFields : ClassFile → Type 0
FewFields class = length class.fields < 2 ^ 16

class_few : (class : ClassFile) → IsWellFormed class → FewFields class
class_few class (bytes, spelled) = let tables = spelled.behind.spelled.behind.spelled.behind.behind.here in tables.counted

all_few : (classes : List ClassFile) → AllByRecursion IsWellFormed classes → AllByRecursion FewFields classes
all_few [] formed = tt
all_few (class ∷ classes) formed = (class_few class formed.0, all_few classes formed.1)

-- how many of some fields a class declares
abbrev among : ℕ → List (Numbered Field) → ℕ
among class [] = 0
among class (field ∷ fields) = (if field.class == class then 1 else 0) + among class fields

among_both : (class : ℕ) (front back : List (Numbered Field)) → among class (front ++ back) ≡ among class front + among class back
among_both class [] back = let same : among class back ≡ 0 + among class back = omega arith in same
among_both class (field ∷ front) back =
    let rest = among_both class front back in
    let one : ℕ = if field.class == class then 1 else 0 in
    let same : one + among class (front ++ back) ≡ one + among class front + among class back = omega (arith, rest) in
    same

abbrev numbered_of : ℕ × ClassFile → (ℕ × Field) → Numbered Field
numbered_of entry own = record { class = entry.0; place = own.0; pool = entry.1.pool; member = own.1 }

abbrev fields_in : ℕ × ClassFile → List (Numbered Field)
fields_in entry = map (numbered_of entry) (enumerate_from 0 entry.1.fields)

among_own : (class : ℕ) (entry : ℕ × ClassFile) (from : ℕ) (fields : List Field) → (is : Bool) → (entry.0 == class) ≡ is
    → among class (map (numbered_of entry) (enumerate_from from fields)) ≡ (if is then length fields else 0)
among_own class entry from [] true is = refl
among_own class entry from [] false is = refl
among_own class entry from (field ∷ fields) true is =
    let rest = among_own class entry (from + 1) fields true is in
    rw is (let same : 1 + among class (map (numbered_of entry) (enumerate_from (from + 1) fields)) ≡ suc (length fields) = omega (arith, rest) in same)
among_own class entry from (field ∷ fields) false is =
    let rest = among_own class entry (from + 1) fields false is in
    rw is (let same : 0 + among class (map (numbered_of entry) (enumerate_from (from + 1) fields)) ≡ 0 = omega (arith, rest) in same)

among_none : (class from : ℕ) (classes : List ClassFile) → class < from → among class (flat_map fields_in (enumerate_from from classes)) ≡ 0
among_none class from [] low = refl
among_none class from (file ∷ classes) low =
    let own = among_own class (from, file) 0 file.fields false (ne_eqb from class (λ same. omega (arith, same, low))) in
    let rest = among_none class (from + 1) classes (omega (arith, low)) in
    let both = among_both class (fields_in (from, file)) (flat_map fields_in (enumerate_from (from + 1) classes)) in
    both ∙ (let same : among class (fields_in (from, file)) + among class (flat_map fields_in (enumerate_from (from + 1) classes)) ≡ 0 = omega (arith, own, rest) in same)

among_few : (class from : ℕ) (classes : List ClassFile) → AllByRecursion FewFields classes → among class (flat_map fields_in (enumerate_from from classes)) < 2 ^ 16
among_few class from [] few = omega arith
among_few class from (file ∷ classes) few = go (from == class) refl (among_few class (from + 1) classes few.1) where
  both : among class (flat_map fields_in (enumerate_from from (file ∷ classes)))
      ≡ among class (fields_in (from, file)) + among class (flat_map fields_in (enumerate_from (from + 1) classes))
  both = among_both class (fields_in (from, file)) (flat_map fields_in (enumerate_from (from + 1) classes))

  go : (is : Bool) → (from == class) ≡ is → among class (flat_map fields_in (enumerate_from (from + 1) classes)) < 2 ^ 16
      → among class (flat_map fields_in (enumerate_from from (file ∷ classes))) < 2 ^ 16
  go true is later =
      let own = among_own class (from, file) 0 file.fields true is in
      let same = eqb-true from class is in
      let none = among_none class (from + 1) classes (omega (arith, same)) in
      let most = few.0 in
      let sums = both in
      omega (arith, own, none, most, sums)
  go false is later =
      let own = among_own class (from, file) 0 file.fields false is in
      let sums = both in
      omega (arith, own, later, sums)

-- ---- of an object

module _ (classes : List ClassFile) (few : AllByRecursion FewFields classes) where
  own_among : (class from : ℕ) (fields : List (Numbered Field))
      → length (filter (λ (numbered : ℕ × RankedField). (numbered.1.declared.class == class) && not numbered.1.is_static) (enumerate_from from (map (ranked_field classes) fields))) ≤ among class fields
  own_among class from [] = omega arith
  own_among class from (field ∷ fields) =
      go ((field.class == class) && not (ranked_field classes field).is_static) (field.class == class) refl refl (own_among class (from + 1) fields) where
        go : (kept is : Bool) → ((field.class == class) && not (ranked_field classes field).is_static) ≡ kept → (field.class == class) ≡ is
            → length (filter (λ (numbered : ℕ × RankedField). (numbered.1.declared.class == class) && not numbered.1.is_static) (enumerate_from (from + 1) (map (ranked_field classes) fields))) ≤ among class fields
            → length (filter (λ (numbered : ℕ × RankedField). (numbered.1.declared.class == class) && not numbered.1.is_static) (enumerate_from from (map (ranked_field classes) (field ∷ fields)))) ≤ among class (field ∷ fields)
        go true true keeps is rest = rw (keeps, is) (omega (arith, rest))
        go false true keeps is rest = rw (keeps, is) (omega (arith, rest))
        go false false keeps is rest = rw (keeps, is) (omega (arith, rest))
        go true false keeps is rest = absurd (false≢true (sym (ap (λ (own : Bool). own && not (ranked_field classes field).is_static) is) ∙ keeps))

  own_few : (class : ℕ) → length (own_fields (ranked_fields classes) class) < 2 ^ 16
  own_few class =
      let test : ℕ × RankedField → Bool = λ numbered. (numbered.1.declared.class == class) && not numbered.1.is_static in
      let mapped : length (own_fields (ranked_fields classes) class) ≡ length (filter test (enumerate_from 0 (ranked_fields classes))) =
      length-map (filter test (enumerate_from 0 (ranked_fields classes))) (λ numbered. numbered.0) in
      let all = own_among class 0 (fields_of classes) in
      let most = among_few class 0 classes few in
      omega (arith, mapped, all, most)

  above_few : (above : ℕ → List ℕ) (most : ℕ) → ((class : ℕ) → length (above class) ≤ most) → (class : ℕ) → length (flat_map above (superclass (hierarchy classes) class)) ≤ most
  above_few above most each class = go (slice_get (hierarchy classes) class) refl where
    by : (found : Option ℕ) → length (flat_map above (listed found)) ≤ most
    by None = omega arith
    by (Some number) =
        let own = each number in
        subst (λ (numbers : List ℕ). length numbers ≤ most) (sym (append-nil (above number))) own

    go : (found : Option Ranked) → slice_get (hierarchy classes) class ≡ found → length (flat_map above (superclass (hierarchy classes) class)) ≤ most
    go None is = rw is (omega arith)
    go (Some own) is = rw is (by own.superclass)

  layout_few : (turns class : ℕ) → length (in_turns (layout_by (hierarchy classes) (ranked_fields classes)) turns class) ≤ turns * 2 ^ 16
  layout_few zero class = omega arith
  layout_few (suc turns) class =
      let above = above_few (in_turns (layout_by (hierarchy classes) (ranked_fields classes)) turns) (turns * 2 ^ 16) (layout_few turns) class in
      let own = own_few class in
      let both = length-append (flat_map (in_turns (layout_by (hierarchy classes) (ranked_fields classes)) turns) (superclass (hierarchy classes) class)) (own_fields (ranked_fields classes) class) in
      omega (arith, above, own, both)

  pub object_few : length classes ≤ class_limit → (class : ℕ) → length (object_fields classes class) < 2 ^ 32
  object_few low class =
      let most = layout_few (length (hierarchy classes)) class in
      let same : length (hierarchy classes) ≡ length classes = length-map classes (ranked classes) in
      omega (arith, most, same, low)

-- ---- of a program

zip_length : {Row Item : Type 0} (Is : Row → Item → Type 0) (table : List Row) (items : List Item) → AllZip Is table items → length items ≡ length table
zip_length Is [] [] are = refl
zip_length Is [] (item ∷ items) are = absurd are
zip_length Is (row ∷ table) [] are = absurd are
zip_length Is (row ∷ table) (item ∷ items) are = ap suc (zip_length Is table items are.1)

pub fields_few : (program : Linked) → IsLinked program → HasFewFields program
fields_few program linked kind = go (component_of program.kinds name) refl where
  name : List ℕ
  name = or_none (slice_get program.kinds kind)

  classes : List ClassFile
  classes = linked.library ++ linked.more

  same : program.classes ≡ classes
  same = ap (λ (program : Linked). program.classes) linked.all

  library : length linked.library ≡ library_size
  library = zip_length IsRecordOf core_classes linked.library linked.is_library

  low : length classes ≤ class_limit
  low =
      let both : length classes ≡ length linked.library + length linked.more = length-append linked.library linked.more in
      let few = linked.few in
      let front = library in
      omega (arith, both, few, front)

  each : (class : ℕ) → length (object_fields program.classes class) < 2 ^ 32
  each class =
      subst (λ (classes : List ClassFile). length (object_fields classes class) < 2 ^ 32) (sym same)
      (object_few classes (all_few classes (all_joined IsWellFormed linked.library linked.more linked.library_formed linked.well_formed)) low class)

  marks : (class : Option ℕ) → length (field_marks program class) < 2 ^ 32
  marks None = omega arith
  marks (Some class) =
      let mapped : length (field_marks program (Some class)) ≡ length (object_fields program.classes class) =
      length-map (object_fields program.classes class) (λ number. is_some_reference (basic_of_field program number)) in
      let few = each class in
      omega (arith, mapped, few)

  go : (component : Option Basic) → component_of program.kinds name ≡ component → fields_count (shape program kind) < 2 ^ 32
  go None is = subst (λ (component : Option Basic). fields_count (shape_with program name component) < 2 ^ 32) (sym is) (marks (class_number program.classes name))
  go (Some basic) is = subst (λ (component : Option Basic). fields_count (shape_with program name component) < 2 ^ 32) (sym is) (omega arith)
