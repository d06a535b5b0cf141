-- The fields of objects that a class declares are as many as it lists, and come in that order, where none of them is static.
use Rattle.std.proofs.Common.{◌≡◌, ◌∙◌, ap, append-nil, arith, refl, sym, subst₂, ℕ, zero, suc, ◌+◌, ◌<◌, ◌==◌, ◌&&◌, Bool, true, false, not, List, [], ◌∷◌, ◌++◌, filter, map, Some, slice_get}
use Rattle.std.specs.Prelude.{length}
use Rattle.std.specs.List.{AllByRecursion, AllZip, enumerate_from, flat_map}
use Rattle.std.proofs.lemmas.Bool.{and_from, eq-eqb, ne_eqb}
use Rattle.std.proofs.lemmas.List.Elements.{filter-append}
use Rattle.std.proofs.lemmas.Option.{same_Some}
use Rattle.cb_classfile.specs.Flags.{acc_static}
use Rattle.cb_classfile.specs.Library.{SaysField}
use Rattle.cb_classfile.specs.declared.class.ClassFile.{ClassFile}
use Rattle.cb_classfile.specs.declared.field.Field.{Field}
use Rattle.cb_hierarchy.specs.Layout.{own_fields}
use Rattle.cb_hierarchy.specs.declared.member.Field.{Field as RankedField}
use Rattle.cb_library.specs.Rows as rows
use Rattle.cb_link.specs.Numbers.{Numbered, fields_of, has_flag, ranked_field, ranked_fields}
use Rattle.cb_link.specs.Places.{numbered_in}
use Rattle.cb_text.specs.declared.constant.Constant.{Constant}
use Rattle.cb_safety.proofs.Assigned.{never}

-- ---- what is kept of a list

filter_here : (test : Numbered Field → Bool) (first : Numbered Field) (items : List (Numbered Field)) → test first ≡ true → filter test (first ∷ items) ≡ first ∷ filter test items
filter_here test first items is = rw is refl

filter_past : (test : Numbered Field → Bool) (first : Numbered Field) (items : List (Numbered Field)) → test first ≡ false → filter test (first ∷ items) ≡ filter test items
filter_past test first items is = rw is refl

-- a number at a slot of those that are kept is the place of the item that is kept at the slot
pub record IsKept (change : Numbered Field → RankedField) (test : RankedField → Bool) (from : ℕ) (items : List (Numbered Field)) (slot number : ℕ) : Type 0 where
  pub place : ℕ
  pub is : number ≡ from + place
  pub item : Numbered Field
  pub there : slice_get items place ≡ Some item
  pub kept : slice_get (filter (λ (own : Numbered Field). test (change own)) items) slot ≡ Some item

module _ (change : Numbered Field → RankedField) (test : RankedField → Bool) where
  abbrev keeps : Numbered Field → Bool
  keeps own = test (change own)

  abbrev numbers : ℕ → List (Numbered Field) → List ℕ
  numbers from items = map (λ (entry : ℕ × RankedField). entry.0) (filter (λ (entry : ℕ × RankedField). test entry.1) (enumerate_from from (map change items)))

  numbers_here : (from : ℕ) (first : Numbered Field) (items : List (Numbered Field)) → test (change first) ≡ true → numbers from (first ∷ items) ≡ from ∷ numbers (from + 1) items
  numbers_here from first items is = rw is refl

  numbers_past : (from : ℕ) (first : Numbered Field) (items : List (Numbered Field)) → test (change first) ≡ false → numbers from (first ∷ items) ≡ numbers (from + 1) items
  numbers_past from first items is = rw is refl

  kept_here : (from : ℕ) (first : Numbered Field) (items : List (Numbered Field)) (slot number : ℕ) → test (change first) ≡ true
      → slice_get (from ∷ numbers (from + 1) items) slot ≡ Some number
      → ((slot number : ℕ) → slice_get (numbers (from + 1) items) slot ≡ Some number → IsKept change test (from + 1) items slot number)
      → IsKept change test from (first ∷ items) slot number
  kept_here from first items zero number passes is more =
      let same : from ≡ number = same_Some from number is in
      record {
        place = 0;
        is = omega (arith, same);
        item = first;
        there = refl;
        kept = ap (λ (list : List (Numbered Field)). slice_get list 0) (filter_here keeps first items passes);
      }
  kept_here from first items (suc slot) number passes is more =
      let own : IsKept change test (from + 1) items slot number = more slot number is in
      record {
        place = suc own.place;
        is = omega (arith, own.is);
        item = own.item;
        there = own.there;
        kept = ap (λ (list : List (Numbered Field)). slice_get list (suc slot)) (filter_here keeps first items passes) ∙ own.kept;
      }

  kept_by : (from : ℕ) (first : Numbered Field) (items : List (Numbered Field)) (slot number : ℕ) (passes : Bool) → test (change first) ≡ passes
      → slice_get (numbers from (first ∷ items)) slot ≡ Some number
      → ((slot number : ℕ) → slice_get (numbers (from + 1) items) slot ≡ Some number → IsKept change test (from + 1) items slot number)
      → IsKept change test from (first ∷ items) slot number
  kept_by from first items slot number true passes is more =
      kept_here from first items slot number passes (sym (ap (λ (list : List ℕ). slice_get list slot) (numbers_here from first items passes)) ∙ is) more
  kept_by from first items slot number false fails is more =
      let own : IsKept change test (from + 1) items slot number =
      more slot number (sym (ap (λ (list : List ℕ). slice_get list slot) (numbers_past from first items fails)) ∙ is) in
      record {
        place = suc own.place;
        is = omega (arith, own.is);
        item = own.item;
        there = own.there;
        kept = ap (λ (list : List (Numbered Field)). slice_get list slot) (filter_past keeps first items fails) ∙ own.kept;
      }

  pub kept_of : (from : ℕ) (items : List (Numbered Field)) (slot number : ℕ) → slice_get (numbers from items) slot ≡ Some number → IsKept change test from items slot number
  kept_of from [] slot number is = never is
  kept_of from (first ∷ items) slot number is = kept_by from first items slot number (test (change first)) refl is (kept_of (from + 1) items)

  -- these are as many
  numbers_length : (from : ℕ) (items : List (Numbered Field)) → length (numbers from items) ≡ length (filter keeps items)
  numbers_length from [] = refl
  numbers_length from (first ∷ items) = go (test (change first)) refl (numbers_length (from + 1) items) where
    go : (passes : Bool) → test (change first) ≡ passes → length (numbers (from + 1) items) ≡ length (filter keeps items)
        → length (numbers from (first ∷ items)) ≡ length (filter keeps (first ∷ items))
    go true passes more = ap length (numbers_here from first items passes) ∙ ap suc more ∙ sym (ap length (filter_here keeps first items passes))
    go false fails more = ap length (numbers_past from first items fails) ∙ more ∙ sym (ap length (filter_past keeps first items fails))

-- ---- the fields of a class among all

abbrev pub is_of_class : ℕ → Numbered Field → Bool
is_of_class number own = (own.class == number) && not (has_flag acc_static own.member.flags.0)

abbrev IsOfObject : Field → Type 0
IsOfObject field = has_flag acc_static field.flags.0 ≡ false

abbrev numbered_as : ℕ → ClassFile → ℕ × Field → Numbered Field
numbered_as number class own = record { class = number; place = own.0; pool = class.pool; member = own.1 }

abbrev pub fields_in : ℕ → ClassFile → List (Numbered Field)
fields_in number class = numbered_in (λ (class : ClassFile). class.fields) (number, class)

abbrev all_from : ℕ → List ClassFile → List (Numbered Field)
all_from start classes = flat_map (numbered_in (λ (class : ClassFile). class.fields)) (enumerate_from start classes)

none_in : (start number : ℕ) (class : ClassFile) → (start == number) ≡ false → filter (is_of_class number) (fields_in start class) ≡ []
none_in start number class apart = go 0 class.fields where
  go : (from : ℕ) (fields : List Field) → filter (is_of_class number) (map (numbered_as start class) (enumerate_from from fields)) ≡ []
  go from [] = refl
  go from (field ∷ fields) = rw apart (go (from + 1) fields)

all_in : (number : ℕ) (class : ClassFile) → AllByRecursion IsOfObject class.fields → filter (is_of_class number) (fields_in number class) ≡ fields_in number class
all_in number class all = go 0 class.fields all where
  go : (from : ℕ) (fields : List Field) → AllByRecursion IsOfObject fields
      → filter (is_of_class number) (map (numbered_as number class) (enumerate_from from fields)) ≡ map (numbered_as number class) (enumerate_from from fields)
  go from [] all = refl
  go from (field ∷ fields) all =
      filter_here (is_of_class number) (numbered_as number class (from, field)) (map (numbered_as number class) (enumerate_from (from + 1) fields))
      (and_from (number == number) (not (has_flag acc_static field.flags.0)) (eq-eqb number number refl) (ap not all.0))
      ∙ ap (λ (list : List (Numbered Field)). numbered_as number class (from, field) ∷ list) (go (from + 1) fields all.1)

none_from : (start number : ℕ) (classes : List ClassFile) → number < start → filter (is_of_class number) (all_from start classes) ≡ []
none_from start number [] low = refl
none_from start number (class ∷ classes) low =
    filter-append (is_of_class number) (fields_in start class) (all_from (start + 1) classes)
    ∙ ap (λ (list : List (Numbered Field)). list ++ filter (is_of_class number) (all_from (start + 1) classes)) (none_in start number class (ne_eqb start number (λ same. apart start number low same)))
    ∙ none_from (start + 1) number classes (omega (arith, low))
  where
    apart : (start number : ℕ) → number < start → start ≡ number → ⊥
    apart start number low same = omega (arith, low, same)

pub class_fields : (start place number : ℕ) (classes : List ClassFile) (file : ClassFile) → number ≡ start + place → slice_get classes place ≡ Some file
    → AllByRecursion IsOfObject file.fields → filter (is_of_class number) (all_from start classes) ≡ fields_in number file
class_fields start place number [] file is there all = never there
class_fields start zero number (class ∷ classes) file is there all =
    let same : number ≡ start = omega (arith, is) in
    filter-append (is_of_class number) (fields_in start class) (all_from (start + 1) classes)
    ∙ ap (λ (list : List (Numbered Field)). filter (is_of_class number) (fields_in start class) ++ list) (none_from (start + 1) number classes (omega (arith, is)))
    ∙ append-nil (filter (is_of_class number) (fields_in start class))
    ∙ subst₂ (λ (start : ℕ) (class : ClassFile). filter (is_of_class number) (fields_in start class) ≡ fields_in number file) same (sym (same_Some class file there)) (all_in number file all)
class_fields start (suc place) number (class ∷ classes) file is there all =
    filter-append (is_of_class number) (fields_in start class) (all_from (start + 1) classes)
    ∙ ap (λ (list : List (Numbered Field)). list ++ filter (is_of_class number) (all_from (start + 1) classes)) (none_in start number class (ne_eqb start number (λ same. apart start place number is same)))
    ∙ class_fields (start + 1) place number classes file (omega (arith, is)) there all
  where
    apart : (start place number : ℕ) → number ≡ start + suc place → start ≡ number → ⊥
    apart start place number is same = omega (arith, is, same)

fields_length : (number : ℕ) (class : ClassFile) → length (fields_in number class) ≡ length class.fields
fields_length number class = go 0 class.fields where
  go : (from : ℕ) (fields : List Field) → length (map (numbered_as number class) (enumerate_from from fields)) ≡ length fields
  go from [] = refl
  go from (field ∷ fields) = ap suc (go (from + 1) fields)

pub own_length : (classes : List ClassFile) (place : ℕ) (file : ClassFile) → slice_get classes place ≡ Some file → AllByRecursion IsOfObject file.fields
    → length (own_fields (ranked_fields classes) place) ≡ length file.fields
own_length classes place file there all =
    numbers_length (ranked_field classes) (λ (field : RankedField). (field.declared.class == place) && not field.is_static) 0 (fields_of classes)
    ∙ ap length (class_fields 0 place place classes file (let zeroth : place ≡ 0 + place = omega arith in zeroth) there all)
    ∙ fields_length place file

-- ---- those of a row of the library's table

-- none of the fields in a row is static
abbrev pub IsNoStatic : rows.Field → Type 0
IsNoStatic row = has_flag acc_static row.flags ≡ false

pub of_object : (pool : List Constant) (table : List rows.Field) (fields : List Field) → AllZip (SaysField pool) table fields → AllByRecursion IsNoStatic table
    → AllByRecursion IsOfObject fields
of_object pool [] [] are all = tt
of_object pool [] (field ∷ fields) are all = absurd are
of_object pool (row ∷ table) [] are all = absurd are
of_object pool (row ∷ table) (field ∷ fields) are all = (ap (has_flag acc_static) are.0.flags ∙ all.0, of_object pool table fields are.1 all.1)
