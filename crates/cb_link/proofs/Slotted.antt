-- Slots, field by field.
use Rattle.std.proofs.Common.{◌≡◌, ◌∙◌, ap, ap₂, refl, subst, sym, arith, ℕ, ◌+◌, ◌<◌, inl, inr, Bool, true, false, not, ◌&&◌, ◌==◌, if◌then◌else◌, List, [], ◌∷◌, ◌++◌, Option, Some, None, length, map, get_or, set, take, get_or-set_same, get_or-set_other, length-set}
use Rattle.std.specs.Prelude.{count_by, option_map, slice_get}
use Rattle.std.specs.List.{Contains, flat_map}
use Rattle.std.proofs.lemmas.Bool.{cases_eq, eq-eqb, ne_eqb}
use Rattle.std.proofs.lemmas.List.{append-nil, length-map}
use Rattle.std.proofs.lemmas.List.Sums.{count_by_more_no, count_by_more_yes}
use Rattle.std.proofs.lemmas.Option.{get_or_from_slice_get, slice_get-map, slice_get_within}
use Rattle.cb_hierarchy.specs.declared.class.Class.{Class}
use Rattle.cb_hierarchy.specs.declared.member.Field.{Field as RankedField}
use Rattle.cb_hierarchy.specs.Classes.{listed, superclass}
use Rattle.cb_hierarchy.specs.Layout.{layout}
use Rattle.cb_link.specs.InnerCounts.{HasCounted, above_count, count_above, count_of, many_of, slot_behind, slot_by, slot_for}
use Rattle.cb_link.specs.Slots.{is_own}
use Rattle.cb_link.specs.InnerTables.{AreAll}
use Rattle.cb_link.proofs.Grown.{all_more, all_none, there}

module _ (classes : List Class) (fields : List RankedField) where
  -- what a superclass has is what its list says
  above : (layouts : List (List ℕ)) (class : ℕ) (own : Class) → AreAll (length classes) (layout classes fields) layouts
      → ((class parent : ℕ) → Contains (superclass classes class) parent → parent < length classes) → slice_get classes class ≡ Some own
      → count_above layouts own ≡ above_count classes fields class
  above layouts class own all low is = go own.superclass refl where
    listed_is : superclass classes class ≡ listed own.superclass
    listed_is = rw is refl

    go : (parent : Option ℕ) → own.superclass ≡ parent → count_of layouts parent ≡ length (flat_map (layout classes fields) (superclass classes class))
    go None told = ap (λ parents. length (flat_map (layout classes fields) parents)) (sym (listed_is ∙ ap listed told))
    go (Some parent) told =
        let one : superclass classes class ≡ parent ∷ [] = listed_is ∙ ap listed told in
        let there : Contains (superclass classes class) parent = subst (λ parents. Contains parents parent) (sym one) (0, omega arith, refl) in
        ap many_of (all.each parent (low class parent there))
        ∙ ap length (sym (append-nil (layout classes fields parent)))
        ∙ ap (λ parents. length (flat_map (layout classes fields) parents)) (sym one)

  pub counted_none : (layouts : List (List ℕ)) (objects : List ℕ) → AreAll (length classes) (layout classes fields) layouts
      → ((class parent : ℕ) → Contains (superclass classes class) parent → parent < length classes) → objects ≡ map (count_above layouts) classes
      → HasCounted classes fields 0 0 objects []
  counted_none layouts objects all low are = record {
    static_ones = refl;
    as_many = ap length are ∙ length-map classes (count_above layouts);
    each = each;
    taken = all_none (slot_by classes fields);
  } where
    at : (class : ℕ) (own : Class) → slice_get classes class ≡ Some own → slice_get (map (count_above layouts) classes) class ≡ Some (above_count classes fields class)
    at class own is = slice_get-map (count_above layouts) classes class ∙ ap (option_map (count_above layouts)) is ∙ ap Some (above layouts class own all low is)

    each : (class : ℕ) → class < length classes → get_or objects class 0 ≡ above_count classes fields class + count_by (is_own class) (take 0 fields)
    each class within =
        let own = there classes class within in
        let is : get_or objects class 0 ≡ above_count classes fields class = get_or_from_slice_get objects class (above_count classes fields class) 0 (ap (λ objects. slice_get objects class) are ∙ at class own.0 own.1) in
        let nothing : count_by (is_own class) (take 0 fields) ≡ 0 = refl in
        omega (arith, is, nothing)

  module _ (number : ℕ) (field : RankedField) (is : slice_get fields number ≡ Some field) where
    short : number < length fields
    short = slice_get_within fields number field is

    here : get_or fields number field ≡ field
    here = get_or_from_slice_get fields number field field is

    slot_is : slot_by classes fields number ≡ slot_behind classes fields number field
    slot_is = ap (slot_for classes fields number) is

    one_on : (test : RankedField → Bool) → test field ≡ true → count_by test (take (number + 1) fields) ≡ count_by test (take number fields) + 1
    one_on test passes = count_by_more_yes test fields number field short (ap test here ∙ passes)

    kept_on : (test : RankedField → Bool) → test field ≡ false → count_by test (take (number + 1) fields) ≡ count_by test (take number fields)
    kept_on test fails = count_by_more_no test fields number field short (ap test here ∙ fails)

    never : (class : ℕ) → field.is_static ≡ true → is_own class field ≡ false
    never class static = ap (λ static. (field.declared.class == class) && not static) static ∙ go (field.declared.class == class) where
      go : (test : Bool) → (test && false) ≡ false
      go true = refl
      go false = refl

    own : (class : ℕ) (test : Bool) → field.is_static ≡ false → (field.declared.class == class) ≡ test → is_own class field ≡ test
    own class test instance same = ap₂ (λ same static. same && not static) same instance ∙ go test where
      go : (test : Bool) → (test && true) ≡ test
      go true = refl
      go false = refl

    -- behind a static field, and behind another one
    behind_static : (statics : ℕ) (objects slots after : List ℕ) → HasCounted classes fields number statics objects slots → field.is_static ≡ true → after ≡ slots ++ statics ∷ []
        → HasCounted classes fields (number + 1) (statics + 1) objects after
    behind_static statics objects slots after counted static pushes = record {
      static_ones = ap (λ count. count + 1) counted.static_ones ∙ sym (one_on (λ other. other.is_static) static);
      as_many = counted.as_many;
      each = λ class within. counted.each class within ∙ ap (λ count. above_count classes fields class + count) (sym (kept_on (is_own class) (never class static)));
      taken = all_more number (slot_by classes fields) slots after statics counted.taken slot pushes;
    } where
      slot : statics ≡ slot_by classes fields number
      slot = counted.static_ones ∙ sym (slot_is ∙ ap (λ static. if static then count_by (λ (other : RankedField). other.is_static) (take number fields) else above_count classes fields field.declared.class + count_by (is_own field.declared.class) (take number fields)) static)

    behind_own : (statics : ℕ) (objects slots after : List ℕ) → HasCounted classes fields number statics objects slots → field.is_static ≡ false → field.declared.class < length classes
        → after ≡ slots ++ get_or objects field.declared.class 0 ∷ []
        → HasCounted classes fields (number + 1) statics (set objects field.declared.class (get_or objects field.declared.class 0 + 1)) after
    behind_own statics objects slots after counted instance within pushes = record {
      static_ones = counted.static_ones ∙ sym (kept_on (λ other. other.is_static) instance);
      as_many = length-set objects field.declared.class (get_or objects field.declared.class 0 + 1) ∙ counted.as_many;
      each = each;
      taken = all_more number (slot_by classes fields) slots after (get_or objects field.declared.class 0) counted.taken slot pushes;
    } where
      slot : get_or objects field.declared.class 0 ≡ slot_by classes fields number
      slot =
          counted.each field.declared.class within
          ∙ sym (slot_is ∙ ap (λ static. if static then count_by (λ (other : RankedField). other.is_static) (take number fields) else above_count classes fields field.declared.class + count_by (is_own field.declared.class) (take number fields)) instance)

      each : (class : ℕ) → class < length classes → get_or (set objects field.declared.class (get_or objects field.declared.class 0 + 1)) class 0 ≡ above_count classes fields class + count_by (is_own class) (take (number + 1) fields)
      each class low = elim (cases_eq class field.declared.class) [
        | inl same ↦
            let next = get_or objects field.declared.class 0 in
            let many : field.declared.class < length objects = omega (arith, counted.as_many, within) in
            let is_next : get_or (set objects field.declared.class (next + 1)) class 0 ≡ next + 1 =
            ap (λ place. get_or (set objects field.declared.class (next + 1)) place 0) same ∙ get_or-set_same objects field.declared.class (next + 1) 0 many in
            let before : get_or objects class 0 ≡ next = ap (λ place. get_or objects place 0) same in
            let more = one_on (is_own class) (own class true instance (eq-eqb field.declared.class class (sym same))) in
            let known = counted.each class low in
            omega (arith, is_next, before, more, known)
        | inr apart ↦
            get_or-set_other objects field.declared.class class (get_or objects field.declared.class 0 + 1) 0 apart ∙ counted.each class low
            ∙ ap (λ count. above_count classes fields class + count) (sym (kept_on (is_own class) (own class false instance (ne_eqb field.declared.class class (λ same. apart (sym same))))))
      ]

    pub counted_more : (statics statics_now : ℕ) (objects objects_now slots after : List ℕ) (slot : ℕ) → field.declared.class < length classes → HasCounted classes fields number statics objects slots
        → slot ≡ (if field.is_static then statics else get_or objects field.declared.class 0)
        → statics_now ≡ (if field.is_static then statics + 1 else statics)
        → objects_now ≡ (if field.is_static then objects else set objects field.declared.class (get_or objects field.declared.class 0 + 1))
        → after ≡ slots ++ slot ∷ [] → HasCounted classes fields (number + 1) statics_now objects_now after
    counted_more statics statics_now objects objects_now slots after slot within counted slot_told statics_told objects_told pushes = go field.is_static refl where
      moved : (some : ℕ) (list : List ℕ) → HasCounted classes fields (number + 1) some list after → statics_now ≡ some → objects_now ≡ list → HasCounted classes fields (number + 1) statics_now objects_now after
      moved some list so one other = subst (λ some. HasCounted classes fields (number + 1) some objects_now after) (sym one) (subst (λ list. HasCounted classes fields (number + 1) some list after) (sym other) so)

      go : (test : Bool) → field.is_static ≡ test → HasCounted classes fields (number + 1) statics_now objects_now after
      go true static =
          moved (statics + 1) objects
          (behind_static statics objects slots after counted static (pushes ∙ ap (λ slot. slots ++ slot ∷ []) (slot_told ∙ ap (λ test. if test then statics else get_or objects field.declared.class 0) static)))
          (statics_told ∙ ap (λ test. if test then statics + 1 else statics) static)
          (objects_told ∙ ap (λ test. if test then objects else set objects field.declared.class (get_or objects field.declared.class 0 + 1)) static)
      go false instance =
          moved statics (set objects field.declared.class (get_or objects field.declared.class 0 + 1))
          (behind_own statics objects slots after counted instance within (pushes ∙ ap (λ slot. slots ++ slot ∷ []) (slot_told ∙ ap (λ test. if test then statics else get_or objects field.declared.class 0) instance)))
          (statics_told ∙ ap (λ test. if test then statics + 1 else statics) instance)
          (objects_told ∙ ap (λ test. if test then objects else set objects field.declared.class (get_or objects field.declared.class 0 + 1)) instance)
