-- What the frames of a linked program ask of it: few classes are initialised before one, static fields have a place each in typed roots,
-- and Error is one of the kinds.
use Rattle.std.proofs.Common.{◌≡◌, ◌∙◌, inl, inr, ap, refl, sym, subst, arith, ℕ, ◌+◌, ◌<◌, ◌≤◌, ◌^◌, ◌≢◌, ◌⊎◌, ◌==◌, ◌||◌, eqb, not, Bool, true, false, cond, List, [], ◌∷◌, ◌++◌, filter, length, map, zero, suc, Option, Some, None, option_and_then, option_map, slice_get}
use Rattle.std.specs.Prelude.{if◌then◌else◌}
use Rattle.std.specs.List.{AllByRecursion, AllZip, IsDistinct, enumerate_from, flat_map, list_any}
use Rattle.std.proofs.lemmas.Bool.{cases_lt, eqb-true, false≢true, ne_eqb}
use Rattle.std.proofs.lemmas.Bool.Decides.{eqb_tells}
use Rattle.std.proofs.lemmas.List.{length-append, length-map}
use Rattle.std.proofs.lemmas.Map.Steps.{length-le_from_distinct_below}
use Rattle.std.proofs.lemmas.Option.{slice_get_within}
use Rattle.cb_classfile.specs.Library.{IsRecordOf}
use Rattle.cb_classfile.specs.declared.class.ClassFile.{ClassFile}
use Rattle.cb_heap.specs.Reading.{read_value, seen}
use Rattle.cb_hierarchy.specs.Classes.{is_interface, listed, superclass, superinterfaces}
use Rattle.cb_hierarchy.specs.Initial.{declares_body, enumerated, initialised_before}
use Rattle.cb_hierarchy.specs.Orders.{distinct}
use Rattle.cb_hierarchy.specs.declared.class.Class.{Class as Ranked}
use Rattle.cb_hierarchy.specs.declared.member.Method.{Method as RankedMethod}
use Rattle.cb_kinds.specs.declared.basic.Basic.{Basic}
use Rattle.cb_library.specs.CoreClasses.{core_classes}
use Rattle.cb_link.proofs.Laws.{initial_within}
use Rattle.cb_link.specs.Calls.{initial_parents}
use Rattle.cb_link.specs.Numbers.{fields_of, hierarchy, name_of, ranked_field, ranked_fields, ranked_methods}
use Rattle.cb_link.specs.Program.{Linked, linked, linked_field}
use Rattle.cb_link.specs.Slots.{basic_of_field, static_basic, statics}
use Rattle.cb_link.specs.declared.linked.LinkedField.{LinkedField}
use Rattle.cb_machine.specs.Library.{error}
use Rattle.cb_plain.specs.State.{Object, Roots}
use Rattle.cb_plain.specs.declared.value.Value.{Value}
use Rattle.cb_safety.specs.ClassNames.{AreOwnKinds, NamedOnce}
use Rattle.cb_safety.specs.Kinds.{Kinds, kinds_of}
use Rattle.cb_safety.specs.Linked.{IsLinked}
use Rattle.cb_safety.specs.States.{AreStatics, HasStatic, IsTypedState}
use Rattle.cb_act.specs.Turning.{Outside, state_of}
use Rattle.cb_act.proofs.Laws.{all_at}

-- ---- numbers that stand once

all_filtered : (P : ℕ → Type 0) (test : ℕ → Bool) (numbers : List ℕ) → AllByRecursion P numbers → AllByRecursion P (filter test numbers)
all_filtered P test [] all = all
all_filtered P test (number ∷ numbers) all = go (test number) (all_filtered P test numbers all.1) where
  go : (kept : Bool) → AllByRecursion P (filter test numbers) → AllByRecursion P (cond kept (number ∷ filter test numbers) (filter test numbers))
  go true rest = (all.0, rest)
  go false rest = rest

left_out : (number : ℕ) (numbers : List ℕ) → AllByRecursion (λ other. eqb number other ≡ false) (filter (λ other. not (other == number)) numbers)
left_out number [] = tt
left_out number (first ∷ numbers) = go (left_out number numbers) (eqb_tells first number) where
  go : AllByRecursion (λ other. eqb number other ≡ false) (filter (λ other. not (other == number)) numbers)
      → ((eqb first number ≡ true) × (first ≡ number)) ⊎ ((eqb first number ≡ false) × (first ≢ number))
      → AllByRecursion (λ other. eqb number other ≡ false) (filter (λ other. not (other == number)) (first ∷ numbers))
  go rest (inl same) = rw same.0 rest
  go rest (inr apart) = rw apart.0 (ne_eqb number first (λ same. apart.1 (sym same)), rest)

filtered_once : (test : ℕ → Bool) (numbers : List ℕ) → IsDistinct eqb numbers → IsDistinct eqb (filter test numbers)
unfolding IsDistinct
filtered_once test [] is = tt
filtered_once test (number ∷ numbers) is = go (test number) (filtered_once test numbers is.1) where
  go : (kept : Bool) → IsDistinct eqb (filter test numbers) → IsDistinct eqb (cond kept (number ∷ filter test numbers) (filter test numbers))
  go true rest = (all_filtered (λ other. eqb number other ≡ false) test numbers is.0, rest)
  go false rest = rest

once : (numbers : List ℕ) → IsDistinct eqb (distinct numbers)
unfolding IsDistinct
once [] = tt
once (number ∷ numbers) = (left_out number (distinct numbers), filtered_once (λ other. not (other == number)) (distinct numbers) (once numbers))

-- ---- few come before a class

all_by_place : (P : ℕ → Type 0) (numbers : List ℕ) → ((place number : ℕ) → slice_get numbers place ≡ Some number → P number) → AllByRecursion P numbers
all_by_place P [] each = tt
all_by_place P (number ∷ numbers) each = (each 0 number refl, all_by_place P numbers (λ place. each (suc place)))

all_behind : (P : ℕ → Type 0) (front back : List ℕ) → AllByRecursion P (front ++ back) → AllByRecursion P back
all_behind P [] back all = all
all_behind P (number ∷ front) back all = all_behind P front back all.1

any_low : (count number : ℕ) (numbers : List ℕ) → AllByRecursion (λ other. other < count) numbers → list_any (eqb number) numbers ≡ true → number < count
any_low count number [] all among = absurd (false≢true among)
any_low count number (first ∷ numbers) all among = go (eqb number first) refl (any_low count number numbers all.1) among where
  go : (same : Bool) → eqb number first ≡ same → (list_any (eqb number) numbers ≡ true → number < count) → (same || list_any (eqb number) numbers) ≡ true → number < count
  go true is rest among = subst (λ (number : ℕ). number < count) (sym (eqb-true number first is)) all.0
  go false is rest among = rest among

one_above : (classes : List Ranked) (class : ℕ) → length (superclass classes class) ≤ 1
one_above classes class = go (slice_get classes class) refl where
  by : (above : Option ℕ) → length (listed above) ≤ 1
  by None = omega arith
  by (Some above) = omega arith

  go : (found : Option Ranked) → slice_get classes class ≡ found → length (superclass classes class) ≤ 1
  go None is = rw is (omega arith)
  go (Some own) is = rw is (by own.superclass)

abbrev numbers : List Ranked → ℕ → List ℕ
numbers classes class = distinct (flat_map (enumerated classes) (superinterfaces classes class))

few_before : (classes : List Ranked) (methods : List RankedMethod) (class count : ℕ)
    → ((place number : ℕ) → slice_get (initialised_before classes methods class) place ≡ Some number → number < count)
    → length (initialised_before classes methods class) ≤ count + 1
few_before classes methods class count low = go (is_interface classes class) low where
  go : (none : Bool)
      → ((place number : ℕ) → slice_get (if none then [] else superclass classes class ++ filter (declares_body methods) (numbers classes class)) place ≡ Some number → number < count)
      → length (if none then [] else superclass classes class ++ filter (declares_body methods) (numbers classes class)) ≤ count + 1
  go true low = omega arith
  go false low =
      let own : List ℕ = superclass classes class in
      let others : List ℕ = filter (declares_body methods) (numbers classes class) in
      let all : AllByRecursion (λ number. number < count) others = all_behind (λ number. number < count) own others (all_by_place (λ number. number < count) (own ++ others) low) in
      let rest : length others ≤ count =
      length-le_from_distinct_below others count
      (filtered_once (declares_body methods) (numbers classes class) (once (flat_map (enumerated classes) (superinterfaces classes class))))
      (λ number among. any_low count number others all among) in
      let both : length (own ++ others) ≡ length own + length others = length-append own others in
      omega (arith, both, rest, one_above classes class)

-- ---- the classes of a linked program

zip_length : {Row Item : Type 0} (Is : Row → Item → Type 0) (rows : List Row) (items : List Item) → AllZip Is rows items → length items ≡ length rows
zip_length Is [] [] are = refl
zip_length Is [] (item ∷ items) are = absurd are
zip_length Is (row ∷ rows) [] are = absurd are
zip_length Is (row ∷ rows) (item ∷ items) are = ap suc (zip_length Is rows items are.1)

there_at : {Item : Type 0} (items : List Item) (place : ℕ) → place < length items → (item : Item) × (slice_get items place ≡ Some item)
there_at [] place low = absurd (omega (arith, low))
there_at (item ∷ items) zero low = (item, refl)
there_at (item ∷ items) (suc place) low = there_at items place (omega (arith, low))

classes_of : (program : Linked) → (is : IsLinked program) → program.classes ≡ is.library ++ is.more
classes_of program is = ap (λ (program : Linked). program.classes) is.all

library_length : (program : Linked) → (is : IsLinked program) → length is.library ≡ 50
library_length program is =
    let rows : length core_classes ≡ 50 = refl in zip_length IsRecordOf core_classes is.library is.is_library ∙ rows

class_count : (program : Linked) → (is : IsLinked program) → length program.classes ≡ 50 + length is.more
class_count program is =
    ap (λ (classes : List ClassFile). length classes) (classes_of program is) ∙ length-append is.library is.more ∙ ap (λ (count : ℕ). count + length is.more) (library_length program is)

pub few_parents : (program : Linked) → IsLinked program → (class : ℕ) → length (initial_parents program.classes class) + 1 < 2 ^ 32
few_parents program is class =
    let before : length (initial_parents program.classes class) ≤ length program.classes + 1 =
    few_before (hierarchy program.classes) (ranked_methods program.classes) class (length program.classes) (initial_within program.classes (ranked_methods program.classes) class) in
    let few : 50 + length is.more ≤ 1024 = is.few in
    omega (arith, before, few, class_count program is)

pub error_low : (program : Linked) → IsLinked program → (NamedOnce program.classes → AreOwnKinds program) → error < length program.kinds
error_low program is own =
    let kinds : AreOwnKinds program = own (subst NamedOnce (sym (classes_of program is)) is.once) in
    let (class, there) = there_at program.classes error (omega (arith, class_count program is)) in
    slice_get_within program.kinds error (name_of class) (kinds.kind error class there)

-- ---- static fields

numbers_low : {Item : Type 0} (test : ℕ × Item → Bool) (count from : ℕ) (items : List Item) → from + length items ≡ count
    → AllByRecursion (λ number. number < count) (map (λ (entry : ℕ × Item). entry.0) (filter test (enumerate_from from items)))
numbers_low test count from [] is = tt
numbers_low {Item} test count from (first ∷ items) is = go (test (from, first)) (numbers_low test count (from + 1) items (omega (arith, is))) where
  go : (kept : Bool) → AllByRecursion (λ number. number < count) (map (λ (entry : ℕ × Item). entry.0) (filter test (enumerate_from (from + 1) items)))
      → AllByRecursion (λ number. number < count)
      (map (λ (entry : ℕ × Item). entry.0) (cond kept ((from, first) ∷ filter test (enumerate_from (from + 1) items)) (filter test (enumerate_from (from + 1) items))))
  go true rest = (omega (arith, is), rest)
  go false rest = rest

has_basic : (program : Linked) → IsLinked program → (slot : ℕ) → slot < length (statics program.classes) → (basic : Basic) × (static_basic program slot ≡ Some basic)
has_basic program is slot low =
    let (number, at) = there_at (statics program.classes) slot low in
    let under : number < length (ranked_fields program.classes) =
    all_at (λ number. number < length (ranked_fields program.classes)) (statics program.classes) slot number
    (numbers_low (λ entry. entry.1.is_static) (length (ranked_fields program.classes)) 0 (ranked_fields program.classes) (omega arith)) at in
    let ranked : length (ranked_fields program.classes) ≡ length (fields_of program.classes) = length-map (fields_of program.classes) (ranked_field program.classes) in
    let fields : length program.fields ≡ length (fields_of program.classes) = fields_linked program is in
    let (field, there) = there_at program.fields number (omega (arith, under, ranked, fields)) in
    (field.basic, ap (option_and_then (basic_of_field program)) at ∙ ap (option_map (λ (field : LinkedField). field.basic)) there)
  where
    of_linked : (classes : List ClassFile) (main : List ℕ) (method : ℕ) → length (linked classes main method).fields ≡ length (fields_of classes)
    of_linked classes main method = length-map (fields_of classes) (linked_field (linked classes main method).kinds)

    fields_linked : (program : Linked) → IsLinked program → length program.fields ≡ length (fields_of program.classes)
    fields_linked program is =
        subst (λ (program : Linked). length program.fields ≡ length (fields_of program.classes)) (sym is.all) (of_linked (is.library ++ is.more) is.main is.method)

pub statics_fit : (program : Linked) (kinds : Kinds) (held : List Value) → IsLinked program → AreStatics program kinds held → length (statics program.classes) ≤ length held
statics_fit program kinds held is are = elim (cases_lt (length held) (length (statics program.classes))) [
  | inl low ↦
      let (basic, declared) = has_basic program is (length held) low in
      let value : HasStatic program kinds held (length held) basic = are.each (length held) basic declared in
      let past : length held < length held = slice_get_within held (length held) value.value value.there in
      absurd (omega (arith, past))
  | inr many ↦ many
]

pub statics_read : (program : Linked) (index : ℕ → ℕ) (objects : List (Option Object)) (held : Roots) (outside : Outside) → IsLinked program
    → IsTypedState program (state_of (seen index objects held) outside) → length (statics program.classes) ≤ length held.statics
statics_read program index objects held outside is typed =
    let many : length (statics program.classes) ≤ length (map (read_value index) held.statics) =
    statics_fit program (kinds_of objects) (map (read_value index) held.statics) is typed.roots.statics in
    omega (arith, many, length-map held.statics (read_value index))
