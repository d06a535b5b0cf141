-- Steps that look at objects, of a state of which only some objects are kept: those that they look at are.
use Rattle.std.proofs.Common.{◌≡◌, ◌∙◌, ap, refl, sym, subst, ℕ, ℤ, pos, Bool, true, false, ◌&&◌, List, [], ◌∷◌, ◌++◌, length, Option, Some, None, zero, suc, IsTrue}
use Rattle.std.specs.Prelude.{option_and_then, option_map, slice_get, slice_set}
use Rattle.std.specs.List.{list_all}
use Rattle.std.proofs.lemmas.Bool.{false≢true}
use Rattle.std.proofs.lemmas.Grind.{flat_map-append}
use Rattle.std.proofs.lemmas.List.Folds.{list_all-append}
use Rattle.std.proofs.lemmas.Option.{none-some, same_Some}
use Rattle.cb_frames.specs.Tops.{on_top, stack_in}
use Rattle.cb_heap.proofs.Laws.{stack_held}
use Rattle.cb_kinds.specs.declared.basic.Basic.{Basic}
use Rattle.cb_kinds.specs.declared.basic.Basic.TheVariants as basics
use Rattle.cb_link.specs.Slots.{field_basic}
use Rattle.cb_link.specs.declared.named.Named.{Named}
use Rattle.cb_link.specs.declared.named.Named.TheVariants as meanings
use Rattle.cb_machine.specs.Arrays.{element_of, fits_element, fits_kind, is_index, loads_element, measures, stores_element, stores_reference, with_element, with_object, within}
use Rattle.cb_machine.specs.Fields.{gets_field, puts_field}
use Rattle.cb_machine.specs.Plans.{Plan, leaving}
use Rattle.cb_machine.specs.Sites.{array_index, array_store, class_cast, null_pointer}
use Rattle.cb_machine.specs.Standing.{Now, leaves, leaves_with, named_here, taken}
use Rattle.cb_machine.specs.Testing.{asks_kind, casts, int_of, is_instance, throws_object}
use Rattle.cb_machine.specs.Throwing.{throws}
use Rattle.cb_machine.specs.Values.{content_of, kept_value, natural, sort_of_basic, value_in}
use Rattle.cb_plain.specs.declared.value.Value.{Value}
use Rattle.cb_plain.specs.declared.value.Value.TheVariants as values
use Rattle.cb_plain.specs.Reach.{reference_in, references_in, unless_null}
use Rattle.cb_plain.specs.State.{Content, Object}
use Rattle.cb_plain.specs.Updates.{object_at, with_contents_at, with_objects, with_pending}
use Rattle.cb_shapes.specs.Sorts.{sort_of_elements}
use Rattle.cb_shapes.specs.declared.elements.Elements.{Elements}
use Rattle.cb_shapes.specs.declared.sort.Sort.{Sort}
use Rattle.cb_shapes.specs.declared.sort.Sort.TheVariants as sorts
use Rattle.cb_act.specs.Changing.{Change, Changes, IsHere, Passes, changed_now, changed_plan, changed_state}
use Rattle.cb_act.proofs.KeptFrames.{leaves_kept}
use Rattle.cb_act.proofs.KeepLaws.{length_changed}
use Rattle.cb_act.proofs.KeptGoing.{leaves_from, leaving_kept, then_kept, throws_kept}
use Rattle.cb_act.proofs.ObjectSteps.{front}

-- what passes of values
both_parts : (a b : Bool) → (a && b) ≡ true → (a ≡ true) × (b ≡ true)
both_parts true b is = (refl, is)
both_parts false b is = absurd (false≢true is)

pub parts : {X : Type 0} (test : X → Bool) (one other : List X) → IsTrue (list_all test (one ++ other)) → IsTrue (list_all test one) × IsTrue (list_all test other)
parts test one other all = both_parts (list_all test one) (list_all test other) (sym (list_all-append test one other) ∙ all)

pub front_held : (test : ℕ → Bool) (held rest : List Value) → IsTrue (list_all test (references_in (held ++ rest))) → IsTrue (list_all test (references_in held))
front_held test held rest all =
    (parts test (references_in held) (references_in rest) (ap (list_all test) (sym (flat_map-append reference_in held rest)) ∙ all)).0

pub value_held : (test : ℕ → Bool) (held : List Value) (at serial : ℕ) → slice_get held at ≡ Some (values.Ref serial) → IsTrue (list_all test (references_in held))
    → IsTrue (list_all test (unless_null serial))
value_held test [] at serial is all = absurd (none-some (values.Ref serial) is)
value_held test (value ∷ held) zero serial is all =
    subst (λ (each : Value). IsTrue (list_all test (reference_in each))) (same_Some value (values.Ref serial) is) (parts test (reference_in value) (references_in held) all).0
value_held test (value ∷ held) (suc at) serial is all = value_held test held at serial is (parts test (reference_in value) (references_in held) all).1

module _ (change : Change) (test : ℕ → Bool) (now : Now) (here : IsHere change test now) where
  same : length (change now.state.objects) ≡ length now.state.objects
  same = here.unseen.count

  -- what is taken is kept
  pub taken_held : (sorts : List Sort) (held rest : List Value) → taken sorts now.frame.stack ≡ Some (held, rest)
      → IsTrue (list_all test (references_in held))
  taken_held sorts held rest there =
      front_held test held rest
      (subst (λ stack. IsTrue (list_all test (references_in stack))) (ap (on_top [] stack_in) here.frames ∙ front sorts now.frame.stack held rest there)
      (stack_held test now.state.roots here.unseen.roots))

  reference_held : (sorts : List Sort) (held rest : List Value) → taken sorts now.frame.stack ≡ Some (held, rest)
      → (at serial : ℕ) → slice_get held at ≡ Some (values.Ref serial) → Passes test serial
  reference_held sorts held rest there at serial is =
      value_held test held at serial is (taken_held sorts held rest there)

  -- on an object that is kept, or null
  pub on_kept : (serial : ℕ) → Passes test serial
      → (one other : Object → Option Plan) → ((object : Object) → one object ≡ option_map (changed_plan change) (other object))
      → with_object (changed_now change now) serial one ≡ option_map (changed_plan change) (with_object now serial other)
  on_kept zero held one other each = ap Some (throws_kept change now.state same now.machine null_pointer)
  on_kept (suc place) held one other each =
      ap (option_and_then one) (here.unseen.same (suc place) held) ∙ then_kept change one other each (object_at now.state (suc place))

  -- an object is changed
  changed_kept : (serial : ℕ) (contents : List Content) (rest : List Value)
      → leaves_with (changed_now change now) rest (leaving (with_contents_at (changed_state change now.state) serial contents))
      ≡ option_map (changed_plan change) (leaves_with now rest (leaving (with_contents_at now.state serial contents)))
  changed_kept serial contents rest =
      ap (λ objects. leaves_with (changed_now change now) rest (leaving (with_objects now.state objects))) (sym (here.unseen.contents now.state.objects serial contents))
      ∙ leaves_from change (with_contents_at now.state serial contents)
      (ap length (here.unseen.contents now.state.objects serial contents) ∙ length_changed (change now.state.objects) serial contents ∙ same
      ∙ sym (length_changed now.state.objects serial contents))
      now now.frame.locals rest

  -- getfield and putfield
  abbrev gets_from : Now → ℕ → Basic → List Value → Object → Option Plan
  gets_from now slot basic rest object = option_and_then (λ value. leaves now (value ∷ rest)) (option_map (value_in basic) (slice_get object.contents slot))

  got_from : (slot : ℕ) (basic : Basic) (rest : List Value) (object : Object) → Changes change now (λ now. gets_from now slot basic rest object)
  got_from slot basic rest object =
      then_kept change (λ value. leaves (changed_now change now) (value ∷ rest)) (λ value. leaves now (value ∷ rest)) (λ value. leaves_kept change now same (value ∷ rest))
      (option_map (value_in basic) (slice_get object.contents slot))

  pub gets_kept : Changes change now gets_field
  gets_kept = go (named_here now) refl where
    of_taken : (class slot : ℕ) → named_here now ≡ meanings.Field class slot → (basic : Basic) → field_basic now.machine.program class slot ≡ Some basic
        → (found : Option (List Value × List Value)) → taken (sorts.Reference ∷ []) now.frame.stack ≡ found → Changes change now gets_field
    of_taken class slot is basic typed None there = rw (is, typed, there) refl
    of_taken class slot is basic typed (Some ([], rest)) there = rw (is, typed, there) refl
    of_taken class slot is basic typed (Some (values.Int n ∷ others, rest)) there = rw (is, typed, there) refl
    of_taken class slot is basic typed (Some (values.Long n ∷ others, rest)) there = rw (is, typed, there) refl
    of_taken class slot is basic typed (Some (values.Ref serial ∷ other ∷ others, rest)) there = rw (is, typed, there) refl
    of_taken class slot is basic typed (Some (values.Ref serial ∷ [], rest)) there =
        rw (is, typed, there)
        (on_kept serial (reference_held (sorts.Reference ∷ []) (values.Ref serial ∷ []) rest there 0 serial refl)
        (gets_from (changed_now change now) slot basic rest) (gets_from now slot basic rest) (λ object. got_from slot basic rest object))

    of_field : (class slot : ℕ) → named_here now ≡ meanings.Field class slot → (basic : Option Basic) → field_basic now.machine.program class slot ≡ basic
        → Changes change now gets_field
    of_field class slot is None typed = rw (is, typed) refl
    of_field class slot is (Some basic) typed = of_taken class slot is basic typed (taken (sorts.Reference ∷ []) now.frame.stack) refl

    go : (named : Named) → named_here now ≡ named → Changes change now gets_field
    go meanings.Nothing is = rw is refl
    go (meanings.Kind kind) is = rw is refl
    go (meanings.Static class slot) is = rw is refl
    go (meanings.Field class slot) is = of_field class slot is (field_basic now.machine.program class slot) refl
    go (meanings.Method method) is = rw is refl
    go (meanings.Text text) is = rw is refl
    go (meanings.Whole value) is = rw is refl

  pub puts_kept : Changes change now puts_field
  puts_kept = go (named_here now) refl where
    of_taken : (class slot : ℕ) → named_here now ≡ meanings.Field class slot → (basic : Basic) → field_basic now.machine.program class slot ≡ Some basic
        → (found : Option (List Value × List Value)) → taken (sort_of_basic basic ∷ sorts.Reference ∷ []) now.frame.stack ≡ found → Changes change now puts_field
    of_taken class slot is basic typed None there = rw (is, typed, there) refl
    of_taken class slot is basic typed (Some ([], rest)) there = rw (is, typed, there) refl
    of_taken class slot is basic typed (Some (value ∷ [], rest)) there = rw (is, typed, there) refl
    of_taken class slot is basic typed (Some (value ∷ values.Int n ∷ others, rest)) there = rw (is, typed, there) refl
    of_taken class slot is basic typed (Some (value ∷ values.Long n ∷ others, rest)) there = rw (is, typed, there) refl
    of_taken class slot is basic typed (Some (value ∷ values.Ref serial ∷ other ∷ others, rest)) there = rw (is, typed, there) refl
    of_taken class slot is basic typed (Some (value ∷ values.Ref serial ∷ [], rest)) there =
        rw (is, typed, there)
        (on_kept serial (reference_held (sort_of_basic basic ∷ sorts.Reference ∷ []) (value ∷ values.Ref serial ∷ []) rest there 1 serial refl)
        (λ object. with_element (changed_now change now) serial object slot (content_of (kept_value basic value)) rest)
        (λ object. with_element now serial object slot (content_of (kept_value basic value)) rest)
        (λ object. changed_kept serial (slice_set object.contents slot (content_of (kept_value basic value))) rest))

    of_field : (class slot : ℕ) → named_here now ≡ meanings.Field class slot → (basic : Option Basic) → field_basic now.machine.program class slot ≡ basic
        → Changes change now puts_field
    of_field class slot is None typed = rw (is, typed) refl
    of_field class slot is (Some basic) typed = of_taken class slot is basic typed (taken (sort_of_basic basic ∷ sorts.Reference ∷ []) now.frame.stack) refl

    go : (named : Named) → named_here now ≡ named → Changes change now puts_field
    go meanings.Nothing is = rw is refl
    go (meanings.Kind kind) is = rw is refl
    go (meanings.Static class slot) is = rw is refl
    go (meanings.Field class slot) is = of_field class slot is (field_basic now.machine.program class slot) refl
    go (meanings.Method method) is = rw is refl
    go (meanings.Text text) is = rw is refl
    go (meanings.Whole value) is = rw is refl

  -- arrays
  within_kept : (index : ℤ) (array : Object) (one other : Option Plan) → one ≡ option_map (changed_plan change) other
      → within (changed_now change now) index array one ≡ option_map (changed_plan change) (within now index array other)
  within_kept index array one other is = by (is_index index (length array.contents)) refl where
    by : (low : Bool) → is_index index (length array.contents) ≡ low
        → within (changed_now change now) index array one ≡ option_map (changed_plan change) (within now index array other)
    by false low = rw low (ap Some (throws_kept change now.state same now.machine array_index))
    by true low = rw low is

  abbrev element_in : Now → ℤ → Object → Option Value
  element_in now index array = option_and_then (λ basic. option_map (value_in basic) (slice_get array.contents (natural index))) (element_of now.machine.program array.kind)

  abbrev loads_at : Now → ℤ → List Value → Object → Option Plan
  loads_at now index rest array = within now index array (option_and_then (λ value. leaves now (value ∷ rest)) (element_in now index array))

  loaded_at : (index : ℤ) (rest : List Value) (array : Object) → Changes change now (λ now. loads_at now index rest array)
  loaded_at index rest array =
      within_kept index array
      (option_and_then (λ value. leaves (changed_now change now) (value ∷ rest)) (element_in now index array))
      (option_and_then (λ value. leaves now (value ∷ rest)) (element_in now index array))
      (then_kept change (λ value. leaves (changed_now change now) (value ∷ rest)) (λ value. leaves now (value ∷ rest)) (λ value. leaves_kept change now same (value ∷ rest))
      (element_in now index array))

  pub loads_element_kept : Changes change now loads_element
  loads_element_kept = go (taken (sorts.Int ∷ sorts.Reference ∷ []) now.frame.stack) refl where
    go : (found : Option (List Value × List Value)) → taken (sorts.Int ∷ sorts.Reference ∷ []) now.frame.stack ≡ found → Changes change now loads_element
    go None there = rw there refl
    go (Some ([], rest)) there = rw there refl
    go (Some (values.Long n ∷ others, rest)) there = rw there refl
    go (Some (values.Ref n ∷ others, rest)) there = rw there refl
    go (Some (values.Int index ∷ [], rest)) there = rw there refl
    go (Some (values.Int index ∷ values.Int n ∷ others, rest)) there = rw there refl
    go (Some (values.Int index ∷ values.Long n ∷ others, rest)) there = rw there refl
    go (Some (values.Int index ∷ values.Ref serial ∷ other ∷ others, rest)) there = rw there refl
    go (Some (values.Int index ∷ values.Ref serial ∷ [], rest)) there =
        rw there
        (on_kept serial (reference_held (sorts.Int ∷ sorts.Reference ∷ []) (values.Int index ∷ values.Ref serial ∷ []) rest there 1 serial refl)
        (loads_at (changed_now change now) index rest) (loads_at now index rest) (λ array. loaded_at index rest array))

  abbrev stores_at : Now → ℕ → ℤ → Value → List Value → Object → Option Plan
  stores_at now serial index value rest array =
      within now index array
      (option_and_then (λ basic. with_element now serial array (natural index) (content_of (kept_value basic value)) rest) (element_of now.machine.program array.kind))

  stored_at : (serial : ℕ) (index : ℤ) (value : Value) (rest : List Value) (array : Object) → Changes change now (λ now. stores_at now serial index value rest array)
  stored_at serial index value rest array =
      within_kept index array
      (option_and_then (λ basic. with_element (changed_now change now) serial array (natural index) (content_of (kept_value basic value)) rest) (element_of now.machine.program array.kind))
      (option_and_then (λ basic. with_element now serial array (natural index) (content_of (kept_value basic value)) rest) (element_of now.machine.program array.kind))
      (then_kept change (λ basic. with_element (changed_now change now) serial array (natural index) (content_of (kept_value basic value)) rest)
      (λ basic. with_element now serial array (natural index) (content_of (kept_value basic value)) rest)
      (λ basic. changed_kept serial (slice_set array.contents (natural index) (content_of (kept_value basic value))) rest)
      (element_of now.machine.program array.kind))

  pub stores_element_kept : (elements : Elements) → Changes change now (λ now. stores_element now elements)
  stores_element_kept elements = go (taken (sort_of_elements elements ∷ sorts.Int ∷ sorts.Reference ∷ []) now.frame.stack) refl where
    go : (found : Option (List Value × List Value)) → taken (sort_of_elements elements ∷ sorts.Int ∷ sorts.Reference ∷ []) now.frame.stack ≡ found
        → Changes change now (λ now. stores_element now elements)
    go None there = rw there refl
    go (Some ([], rest)) there = rw there refl
    go (Some (value ∷ [], rest)) there = rw there refl
    go (Some (value ∷ values.Long n ∷ others, rest)) there = rw there refl
    go (Some (value ∷ values.Ref n ∷ others, rest)) there = rw there refl
    go (Some (value ∷ values.Int index ∷ [], rest)) there = rw there refl
    go (Some (value ∷ values.Int index ∷ values.Int n ∷ others, rest)) there = rw there refl
    go (Some (value ∷ values.Int index ∷ values.Long n ∷ others, rest)) there = rw there refl
    go (Some (value ∷ values.Int index ∷ values.Ref serial ∷ other ∷ others, rest)) there = rw there refl
    go (Some (value ∷ values.Int index ∷ values.Ref serial ∷ [], rest)) there =
        rw there
        (on_kept serial
        (reference_held (sort_of_elements elements ∷ sorts.Int ∷ sorts.Reference ∷ []) (value ∷ values.Int index ∷ values.Ref serial ∷ []) rest there 2 serial refl)
        (stores_at (changed_now change now) serial index value rest) (stores_at now serial index value rest) (λ array. stored_at serial index value rest array))

  fits_kept : (element : Option Basic) (serial : ℕ) → Passes test serial → fits_element (changed_now change now) element serial ≡ fits_element now element serial
  fits_kept element zero held = refl
  fits_kept (Some (basics.Reference kind)) (suc place) held = ap (fits_kind now.machine.program kind) (here.unseen.same (suc place) held)
  fits_kept None (suc place) held = refl
  fits_kept (Some basics.Boolean) (suc place) held = refl
  fits_kept (Some basics.Byte) (suc place) held = refl
  fits_kept (Some basics.Char) (suc place) held = refl
  fits_kept (Some basics.Short) (suc place) held = refl
  fits_kept (Some basics.Int) (suc place) held = refl
  fits_kept (Some basics.Long) (suc place) held = refl

  abbrev stores_fitting : Now → ℕ → ℤ → ℕ → List Value → Object → Bool → Option Plan
  stores_fitting now serial index value rest array true = with_element now serial array (natural index) (content_of (values.Ref value)) rest
  stores_fitting now serial index value rest array false = Some (throws now.machine now.state array_store)

  stored_fitting : (serial : ℕ) (index : ℤ) (value : ℕ) (rest : List Value) (array : Object) (fits : Bool) → Changes change now (λ now. stores_fitting now serial index value rest array fits)
  stored_fitting serial index value rest array true = changed_kept serial (slice_set array.contents (natural index) (content_of (values.Ref value))) rest
  stored_fitting serial index value rest array false = ap Some (throws_kept change now.state same now.machine array_store)

  abbrev refers_at : Now → ℕ → ℤ → ℕ → List Value → Object → Option Plan
  refers_at now serial index value rest array =
      within now index array (stores_fitting now serial index value rest array (fits_element now (element_of now.machine.program array.kind) value))

  referred_at : (serial : ℕ) (index : ℤ) (value : ℕ) → Passes test value → (rest : List Value) (array : Object) → Changes change now (λ now. refers_at now serial index value rest array)
  referred_at serial index value held rest array =
      within_kept index array
      (stores_fitting (changed_now change now) serial index value rest array (fits_element (changed_now change now) (element_of now.machine.program array.kind) value))
      (stores_fitting now serial index value rest array (fits_element now (element_of now.machine.program array.kind) value))
      (ap (stores_fitting (changed_now change now) serial index value rest array) (fits_kept (element_of now.machine.program array.kind) value held)
      ∙ stored_fitting serial index value rest array (fits_element now (element_of now.machine.program array.kind) value))

  pub stores_reference_kept : Changes change now stores_reference
  stores_reference_kept = go (taken (sorts.Reference ∷ sorts.Int ∷ sorts.Reference ∷ []) now.frame.stack) refl where
    go : (found : Option (List Value × List Value)) → taken (sorts.Reference ∷ sorts.Int ∷ sorts.Reference ∷ []) now.frame.stack ≡ found → Changes change now stores_reference
    go None there = rw there refl
    go (Some ([], rest)) there = rw there refl
    go (Some (values.Int n ∷ others, rest)) there = rw there refl
    go (Some (values.Long n ∷ others, rest)) there = rw there refl
    go (Some (values.Ref value ∷ [], rest)) there = rw there refl
    go (Some (values.Ref value ∷ values.Long n ∷ others, rest)) there = rw there refl
    go (Some (values.Ref value ∷ values.Ref n ∷ others, rest)) there = rw there refl
    go (Some (values.Ref value ∷ values.Int index ∷ [], rest)) there = rw there refl
    go (Some (values.Ref value ∷ values.Int index ∷ values.Int n ∷ others, rest)) there = rw there refl
    go (Some (values.Ref value ∷ values.Int index ∷ values.Long n ∷ others, rest)) there = rw there refl
    go (Some (values.Ref value ∷ values.Int index ∷ values.Ref serial ∷ other ∷ others, rest)) there = rw there refl
    go (Some (values.Ref value ∷ values.Int index ∷ values.Ref serial ∷ [], rest)) there =
        rw there
        (on_kept serial
        (reference_held (sorts.Reference ∷ sorts.Int ∷ sorts.Reference ∷ []) (values.Ref value ∷ values.Int index ∷ values.Ref serial ∷ []) rest there 2 serial refl)
        (refers_at (changed_now change now) serial index value rest) (refers_at now serial index value rest)
        (λ array. referred_at serial index value
        (reference_held (sorts.Reference ∷ sorts.Int ∷ sorts.Reference ∷ []) (values.Ref value ∷ values.Int index ∷ values.Ref serial ∷ []) rest there 0 value refl) rest array))

  -- arraylength and athrow
  pub measures_kept : Changes change now measures
  measures_kept = go (taken (sorts.Reference ∷ []) now.frame.stack) refl where
    go : (found : Option (List Value × List Value)) → taken (sorts.Reference ∷ []) now.frame.stack ≡ found → Changes change now measures
    go None there = rw there refl
    go (Some ([], rest)) there = rw there refl
    go (Some (values.Int n ∷ others, rest)) there = rw there refl
    go (Some (values.Long n ∷ others, rest)) there = rw there refl
    go (Some (values.Ref serial ∷ other ∷ others, rest)) there = rw there refl
    go (Some (values.Ref serial ∷ [], rest)) there =
        rw there
        (on_kept serial (reference_held (sorts.Reference ∷ []) (values.Ref serial ∷ []) rest there 0 serial refl)
        (λ object. leaves (changed_now change now) (values.Int (pos (length object.contents)) ∷ rest)) (λ object. leaves now (values.Int (pos (length object.contents)) ∷ rest))
        (λ object. leaves_kept change now same (values.Int (pos (length object.contents)) ∷ rest)))

  pub throws_object_kept : Changes change now throws_object
  throws_object_kept = go (taken (sorts.Reference ∷ []) now.frame.stack) refl where
    go : (found : Option (List Value × List Value)) → taken (sorts.Reference ∷ []) now.frame.stack ≡ found → Changes change now throws_object
    go None there = rw there refl
    go (Some ([], rest)) there = rw there refl
    go (Some (values.Int n ∷ others, rest)) there = rw there refl
    go (Some (values.Long n ∷ others, rest)) there = rw there refl
    go (Some (values.Ref serial ∷ other ∷ others, rest)) there = rw there refl
    go (Some (values.Ref serial ∷ [], rest)) there =
        rw there
        (on_kept serial (reference_held (sorts.Reference ∷ []) (values.Ref serial ∷ []) rest there 0 serial refl)
        (λ object. Some (leaving (with_pending (changed_state change now.state) serial))) (λ object. Some (leaving (with_pending now.state serial)))
        (λ object. ap Some (leaving_kept change (with_pending now.state serial) same)))

  -- checkcast and instanceof
  instance_kept : (kind serial : ℕ) → Passes test serial → is_instance (changed_now change now) kind serial ≡ is_instance now kind serial
  instance_kept kind zero held = refl
  instance_kept kind (suc place) held = rw (here.unseen.same (suc place) held) refl

  abbrev casts_to : Now → ℕ → List Value → Bool → Option Plan
  casts_to now serial rest true = leaves now (values.Ref serial ∷ rest)
  casts_to now serial rest false = Some (throws now.machine now.state class_cast)

  cast_to : (serial : ℕ) (rest : List Value) (is : Bool) → Changes change now (λ now. casts_to now serial rest is)
  cast_to serial rest true = leaves_kept change now same (values.Ref serial ∷ rest)
  cast_to serial rest false = ap Some (throws_kept change now.state same now.machine class_cast)

  pub casts_kept : Changes change now casts
  casts_kept = go (named_here now) refl where
    of_taken : (kind : ℕ) → named_here now ≡ meanings.Kind kind → (found : Option (List Value × List Value)) → taken (sorts.Reference ∷ []) now.frame.stack ≡ found
        → Changes change now casts
    of_taken kind is None there = rw (is, there) refl
    of_taken kind is (Some ([], rest)) there = rw (is, there) refl
    of_taken kind is (Some (values.Int n ∷ others, rest)) there = rw (is, there) refl
    of_taken kind is (Some (values.Long n ∷ others, rest)) there = rw (is, there) refl
    of_taken kind is (Some (values.Ref zero ∷ other ∷ others, rest)) there = rw (is, there) refl
    of_taken kind is (Some (values.Ref (suc place) ∷ other ∷ others, rest)) there = rw (is, there) refl
    of_taken kind is (Some (values.Ref zero ∷ [], rest)) there = rw (is, there) (leaves_kept change now same (values.Ref 0 ∷ rest))
    of_taken kind is (Some (values.Ref (suc place) ∷ [], rest)) there =
        rw (is, there)
        (ap (option_and_then (casts_to (changed_now change now) (suc place) rest))
        (instance_kept kind (suc place) (reference_held (sorts.Reference ∷ []) (values.Ref (suc place) ∷ []) rest there 0 (suc place) refl))
        ∙ then_kept change (casts_to (changed_now change now) (suc place) rest) (casts_to now (suc place) rest) (λ is. cast_to (suc place) rest is) (is_instance now kind (suc place)))

    go : (named : Named) → named_here now ≡ named → Changes change now casts
    go meanings.Nothing is = rw is refl
    go (meanings.Kind kind) is = of_taken kind is (taken (sorts.Reference ∷ []) now.frame.stack) refl
    go (meanings.Static class slot) is = rw is refl
    go (meanings.Field class slot) is = rw is refl
    go (meanings.Method method) is = rw is refl
    go (meanings.Text text) is = rw is refl
    go (meanings.Whole value) is = rw is refl

  pub asks_kept : Changes change now asks_kind
  asks_kept = go (named_here now) refl where
    of_taken : (kind : ℕ) → named_here now ≡ meanings.Kind kind → (found : Option (List Value × List Value)) → taken (sorts.Reference ∷ []) now.frame.stack ≡ found
        → Changes change now asks_kind
    of_taken kind is None there = rw (is, there) refl
    of_taken kind is (Some ([], rest)) there = rw (is, there) refl
    of_taken kind is (Some (values.Int n ∷ others, rest)) there = rw (is, there) refl
    of_taken kind is (Some (values.Long n ∷ others, rest)) there = rw (is, there) refl
    of_taken kind is (Some (values.Ref serial ∷ other ∷ others, rest)) there = rw (is, there) refl
    of_taken kind is (Some (values.Ref serial ∷ [], rest)) there =
        rw (is, there)
        (ap (option_and_then (λ is. leaves (changed_now change now) (int_of is ∷ rest)))
        (instance_kept kind serial (reference_held (sorts.Reference ∷ []) (values.Ref serial ∷ []) rest there 0 serial refl))
        ∙ then_kept change (λ is. leaves (changed_now change now) (int_of is ∷ rest)) (λ is. leaves now (int_of is ∷ rest)) (λ is. leaves_kept change now same (int_of is ∷ rest))
        (is_instance now kind serial))

    go : (named : Named) → named_here now ≡ named → Changes change now asks_kind
    go meanings.Nothing is = rw is refl
    go (meanings.Kind kind) is = of_taken kind is (taken (sorts.Reference ∷ []) now.frame.stack) refl
    go (meanings.Static class slot) is = rw is refl
    go (meanings.Field class slot) is = rw is refl
    go (meanings.Method method) is = rw is refl
    go (meanings.Text text) is = rw is refl
    go (meanings.Whole value) is = rw is refl
