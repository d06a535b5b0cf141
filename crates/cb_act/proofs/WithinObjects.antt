-- References pass in steps that look at objects.
use Rattle.std.proofs.Common.{◌≡◌, ap, refl, sym, subst, ℕ, ℤ, pos, ◌+◌, Bool, true, false, List, [], ◌∷◌, length, Option, Some, None, zero, suc, IsTrue}
use Rattle.std.specs.Prelude.{option_and_then, option_map, slice_get, slice_set}
use Rattle.std.proofs.lemmas.Option.{none-some}
use Rattle.cb_heap.specs.Closed.{reference_in_word, references_in as references_in_objects, references_in_entry}
use Rattle.cb_kinds.specs.declared.basic.Basic.{Basic}
use Rattle.cb_kinds.specs.declared.basic.Basic.TheVariants as basics
use Rattle.cb_link.specs.Slots.{field_basic}
use Rattle.cb_link.specs.declared.named.Named.{Named}
use Rattle.cb_link.specs.declared.named.Named.TheVariants as meanings
use Rattle.cb_machine.specs.Arrays.{element_of, fits_element, is_index, loads_element, measures, stores_element, stores_reference, with_element, with_object, within}
use Rattle.cb_machine.specs.Fields.{gets_field, puts_field}
use Rattle.cb_machine.specs.Plans.{Plan, leaving}
use Rattle.cb_machine.specs.Sites.{array_index, array_store, class_cast, null_pointer}
use Rattle.cb_machine.specs.Standing.{Now, leaves, leaves_with, named_here, taken}
use Rattle.cb_machine.specs.Testing.{asks_kind, casts, int_of, is_instance, throws_object}
use Rattle.cb_machine.specs.Throwing.{throws}
use Rattle.cb_machine.specs.Values.{content_of, kept_value, natural, sort_of_basic, value_in}
use Rattle.cb_plain.specs.declared.value.Value.{Value}
use Rattle.cb_plain.specs.declared.value.Value.TheVariants as values
use Rattle.cb_plain.specs.Reach.{reference_in, references_in, unless_null}
use Rattle.cb_plain.specs.State.{Content, Number, Object, Reference}
use Rattle.cb_plain.specs.Updates.{kept as kept_entry, object_at, object_in, with_contents_at, with_contents_in, with_pending}
use Rattle.cb_shapes.specs.Sorts.{sort_of_elements}
use Rattle.cb_shapes.specs.declared.elements.Elements.{Elements}
use Rattle.cb_shapes.specs.declared.sort.Sort.{Sort}
use Rattle.cb_shapes.specs.declared.sort.Sort.TheVariants as sorts
use Rattle.cb_act.specs.Within.{Pass, Within, WithinHere, contents_references, object_references}
use Rattle.cb_act.proofs.KeepLaws.{length_changed}
use Rattle.cb_act.proofs.KeptObjects.{parts}
use Rattle.cb_act.proofs.WithinBasics.{both, goes_on_within, item_passes, left_within, pended, pushes_within, set_passes, taken_passes, then_within, throws_within}
use Rattle.cb_act.proofs.WithinInit.{kept_passes}

module _ (ok : ℕ → Bool) where
  -- words and values
  value_passes : (basic : Basic) (content : Content) → Pass ok (reference_in_word content) → Pass ok (reference_in (value_in basic content))
  value_passes basic (Reference serial) pass = pass
  value_passes basics.Long (Number number) pass = refl
  value_passes basics.Boolean (Number number) pass = refl
  value_passes basics.Byte (Number number) pass = refl
  value_passes basics.Char (Number number) pass = refl
  value_passes basics.Short (Number number) pass = refl
  value_passes basics.Int (Number number) pass = refl
  value_passes (basics.Reference kind) (Number number) pass = refl

  pub content_passes : (value : Value) → Pass ok (reference_in value) → Pass ok (reference_in_word (content_of value))
  content_passes (values.Int number) pass = refl
  content_passes (values.Long number) pass = refl
  content_passes (values.Ref serial) pass = pass

  -- objects
  entry_of : (entry : Option (Option Object)) (object : Object) → kept_entry entry ≡ Some object → entry ≡ Some (Some object)
  entry_of None object is = absurd (none-some object is)
  entry_of (Some each) object is = ap Some is

  pub object_passes : (objects : List (Option Object)) (serial : ℕ) (object : Object) → object_in objects serial ≡ Some object → Pass ok (references_in_objects objects)
      → Pass ok (object_references object)
  object_passes objects zero object is all = absurd (none-some object is)
  object_passes objects (suc place) object is all = item_passes ok references_in_entry objects place (Some object) (entry_of (slice_get objects place) object is) all

  contents_at : (objects : List (Option Object)) (place : ℕ) (contents : List Content) → Pass ok (references_in_objects objects) → Pass ok (contents_references contents)
      → Pass ok (references_in_objects (with_contents_in objects (suc place) contents))
  contents_at [] place contents all new = all
  contents_at (None ∷ objects) zero contents all new = all
  contents_at (Some object ∷ objects) zero contents all new =
      both ok (contents_references contents) (references_in_objects objects) new (parts ok (object_references object) (references_in_objects objects) all).1
  contents_at (entry ∷ objects) (suc place) contents all new =
      let own = parts ok (references_in_entry entry) (references_in_objects objects) all in
      both ok (references_in_entry entry) (references_in_objects (with_contents_in objects (suc place) contents)) own.0 (contents_at objects place contents own.1 new)

  pub contents_pass : (objects : List (Option Object)) (serial : ℕ) (contents : List Content) → Pass ok (references_in_objects objects) → Pass ok (contents_references contents)
      → Pass ok (references_in_objects (with_contents_in objects serial contents))
  contents_pass objects zero contents all new = all
  contents_pass objects (suc place) contents all new = contents_at objects place contents all new

  module _ (now : Now) (here : WithinHere ok now) where
    here_taken : (asked : List Sort) (held rest : List Value) → taken asked now.frame.stack ≡ Some (held, rest)
        → Pass ok (references_in held) × Pass ok (references_in rest)
    here_taken asked held rest there = taken_passes ok asked now.frame.stack held rest there here.stack

    pub on_within : (serial : ℕ) (one : Object → Option Plan) → ((object : Object) → object_at now.state serial ≡ Some object → Within ok (one object)) → Within ok (with_object now serial one)
    on_within zero one each = throws_within ok now.machine now.state null_pointer here.state
    on_within (suc place) one each = then_within ok one (object_at now.state (suc place)) each

    -- an object is changed
    changed_within : (serial : ℕ) (contents : List Content) (rest : List Value) → Pass ok (contents_references contents) → Pass ok (references_in rest)
        → Within ok (leaves_with now rest (leaving (with_contents_at now.state serial contents)))
    changed_within serial contents rest new pass =
        goes_on_within ok now here now.frame.locals rest (leaving (with_contents_at now.state serial contents)) here.locals pass
        (record {
          roots = here.state.roots;
          objects = contents_pass now.state.objects serial contents here.state.objects new;
          next = λ more. subst (λ count. IsTrue (ok (count + 1 + more))) (sym (length_changed now.state.objects serial contents)) (here.state.next more);
          placed = refl;
        })

    element_within : (serial : ℕ) (object : Object) → object_at now.state serial ≡ Some object → (index : ℕ) (content : Content) (rest : List Value)
        → Pass ok (reference_in_word content) → Pass ok (references_in rest) → Within ok (with_element now serial object index content rest)
    element_within serial object there index content rest new pass =
        changed_within serial (slice_set object.contents index content) rest
        (set_passes ok reference_in_word object.contents index content (object_passes now.state.objects serial object there here.state.objects) new) pass

    read_within : (serial : ℕ) (object : Object) → object_at now.state serial ≡ Some object → (basic : Basic) (index : ℕ) (rest : List Value) → Pass ok (references_in rest)
        → Within ok (option_and_then (λ value. leaves now (value ∷ rest)) (option_map (value_in basic) (slice_get object.contents index)))
    read_within serial object there basic index rest pass = go (slice_get object.contents index) refl where
      go : (found : Option Content) → slice_get object.contents index ≡ found
          → Within ok (option_and_then (λ value. leaves now (value ∷ rest)) (option_map (value_in basic) found))
      go None is = tt
      go (Some content) is =
          pushes_within ok now here (value_in basic content) rest
          (value_passes basic content (item_passes ok reference_in_word object.contents index content is (object_passes now.state.objects serial object there here.state.objects))) pass

    -- getfield and putfield
    pub gets_within : Within ok (gets_field now)
    gets_within = go (named_here now) refl where
      of_taken : (class slot : ℕ) → named_here now ≡ meanings.Field class slot → (basic : Basic) → field_basic now.machine.program class slot ≡ Some basic
          → (found : Option (List Value × List Value)) → taken (sorts.Reference ∷ []) now.frame.stack ≡ found → Within ok (gets_field now)
      of_taken class slot is basic typed None there = rw (is, typed, there) tt
      of_taken class slot is basic typed (Some ([], rest)) there = rw (is, typed, there) tt
      of_taken class slot is basic typed (Some (values.Int n ∷ others, rest)) there = rw (is, typed, there) tt
      of_taken class slot is basic typed (Some (values.Long n ∷ others, rest)) there = rw (is, typed, there) tt
      of_taken class slot is basic typed (Some (values.Ref serial ∷ other ∷ others, rest)) there = rw (is, typed, there) tt
      of_taken class slot is basic typed (Some (values.Ref serial ∷ [], rest)) there =
          rw (is, typed, there)
          (on_within serial (λ object. option_and_then (λ value. leaves now (value ∷ rest)) (option_map (value_in basic) (slice_get object.contents slot)))
          (λ object at. read_within serial object at basic slot rest (here_taken (sorts.Reference ∷ []) (values.Ref serial ∷ []) rest there).1))

      of_field : (class slot : ℕ) → named_here now ≡ meanings.Field class slot → (basic : Option Basic) → field_basic now.machine.program class slot ≡ basic → Within ok (gets_field now)
      of_field class slot is None typed = rw (is, typed) tt
      of_field class slot is (Some basic) typed = of_taken class slot is basic typed (taken (sorts.Reference ∷ []) now.frame.stack) refl

      go : (named : Named) → named_here now ≡ named → Within ok (gets_field now)
      go meanings.Nothing is = rw is tt
      go (meanings.Kind kind) is = rw is tt
      go (meanings.Static class slot) is = rw is tt
      go (meanings.Field class slot) is = of_field class slot is (field_basic now.machine.program class slot) refl
      go (meanings.Method method) is = rw is tt
      go (meanings.Text text) is = rw is tt
      go (meanings.Whole value) is = rw is tt

    put_passes : (basic : Basic) (value : Value) → Pass ok (reference_in value) → Pass ok (reference_in_word (content_of (kept_value basic value)))
    put_passes basic value pass = content_passes (kept_value basic value) (kept_passes ok basic value pass)

    pub puts_within : Within ok (puts_field now)
    puts_within = go (named_here now) refl where
      of_taken : (class slot : ℕ) → named_here now ≡ meanings.Field class slot → (basic : Basic) → field_basic now.machine.program class slot ≡ Some basic
          → (found : Option (List Value × List Value)) → taken (sort_of_basic basic ∷ sorts.Reference ∷ []) now.frame.stack ≡ found → Within ok (puts_field now)
      of_taken class slot is basic typed None there = rw (is, typed, there) tt
      of_taken class slot is basic typed (Some ([], rest)) there = rw (is, typed, there) tt
      of_taken class slot is basic typed (Some (value ∷ [], rest)) there = rw (is, typed, there) tt
      of_taken class slot is basic typed (Some (value ∷ values.Int n ∷ others, rest)) there = rw (is, typed, there) tt
      of_taken class slot is basic typed (Some (value ∷ values.Long n ∷ others, rest)) there = rw (is, typed, there) tt
      of_taken class slot is basic typed (Some (value ∷ values.Ref serial ∷ other ∷ others, rest)) there = rw (is, typed, there) tt
      of_taken class slot is basic typed (Some (value ∷ values.Ref serial ∷ [], rest)) there =
          let own = here_taken (sort_of_basic basic ∷ sorts.Reference ∷ []) (value ∷ values.Ref serial ∷ []) rest there in
          rw (is, typed, there)
          (on_within serial (λ object. with_element now serial object slot (content_of (kept_value basic value)) rest)
          (λ object at. element_within serial object at slot (content_of (kept_value basic value)) rest
          (put_passes basic value (parts ok (reference_in value) (references_in (values.Ref serial ∷ [])) own.0).0) own.1))

      of_field : (class slot : ℕ) → named_here now ≡ meanings.Field class slot → (basic : Option Basic) → field_basic now.machine.program class slot ≡ basic → Within ok (puts_field now)
      of_field class slot is None typed = rw (is, typed) tt
      of_field class slot is (Some basic) typed = of_taken class slot is basic typed (taken (sort_of_basic basic ∷ sorts.Reference ∷ []) now.frame.stack) refl

      go : (named : Named) → named_here now ≡ named → Within ok (puts_field now)
      go meanings.Nothing is = rw is tt
      go (meanings.Kind kind) is = rw is tt
      go (meanings.Static class slot) is = rw is tt
      go (meanings.Field class slot) is = of_field class slot is (field_basic now.machine.program class slot) refl
      go (meanings.Method method) is = rw is tt
      go (meanings.Text text) is = rw is tt
      go (meanings.Whole value) is = rw is tt

    -- arrays
    index_within : (index : ℤ) (array : Object) (one : Option Plan) → Within ok one → Within ok (within now index array one)
    index_within index array one is = by (is_index index (length array.contents)) refl where
      by : (low : Bool) → is_index index (length array.contents) ≡ low → Within ok (within now index array one)
      by false low = rw low (throws_within ok now.machine now.state array_index here.state)
      by true low = rw low is

    abbrev element_in : ℤ → Object → Option Value
    element_in index array = option_and_then (λ basic. option_map (value_in basic) (slice_get array.contents (natural index))) (element_of now.machine.program array.kind)

    loaded_within : (serial : ℕ) (index : ℤ) (rest : List Value) → Pass ok (references_in rest) → (array : Object) → object_at now.state serial ≡ Some array
        → Within ok (within now index array (option_and_then (λ value. leaves now (value ∷ rest)) (element_in index array)))
    loaded_within serial index rest pass array at =
        index_within index array (option_and_then (λ value. leaves now (value ∷ rest)) (element_in index array)) (go (element_of now.machine.program array.kind)) where
          go : (found : Option Basic)
              → Within ok (option_and_then (λ value. leaves now (value ∷ rest)) (option_and_then (λ basic. option_map (value_in basic) (slice_get array.contents (natural index))) found))
          go None = tt
          go (Some basic) = read_within serial array at basic (natural index) rest pass

    pub loads_element_within : Within ok (loads_element now)
    loads_element_within = go (taken (sorts.Int ∷ sorts.Reference ∷ []) now.frame.stack) refl where
      go : (found : Option (List Value × List Value)) → taken (sorts.Int ∷ sorts.Reference ∷ []) now.frame.stack ≡ found → Within ok (loads_element now)
      go None there = rw there tt
      go (Some ([], rest)) there = rw there tt
      go (Some (values.Long n ∷ others, rest)) there = rw there tt
      go (Some (values.Ref n ∷ others, rest)) there = rw there tt
      go (Some (values.Int index ∷ [], rest)) there = rw there tt
      go (Some (values.Int index ∷ values.Int n ∷ others, rest)) there = rw there tt
      go (Some (values.Int index ∷ values.Long n ∷ others, rest)) there = rw there tt
      go (Some (values.Int index ∷ values.Ref serial ∷ other ∷ others, rest)) there = rw there tt
      go (Some (values.Int index ∷ values.Ref serial ∷ [], rest)) there =
          rw there
          (on_within serial (λ array. within now index array (option_and_then (λ value. leaves now (value ∷ rest)) (element_in index array)))
          (loaded_within serial index rest (here_taken (sorts.Int ∷ sorts.Reference ∷ []) (values.Int index ∷ values.Ref serial ∷ []) rest there).1))

    stored_within : (serial : ℕ) (index : ℤ) (value : Value) (rest : List Value) → Pass ok (reference_in value) → Pass ok (references_in rest) → (array : Object)
        → object_at now.state serial ≡ Some array
        → Within ok (within now index array
        (option_and_then (λ basic. with_element now serial array (natural index) (content_of (kept_value basic value)) rest) (element_of now.machine.program array.kind)))
    stored_within serial index value rest new pass array at =
        index_within index array
        (option_and_then (λ basic. with_element now serial array (natural index) (content_of (kept_value basic value)) rest) (element_of now.machine.program array.kind))
        (then_within ok (λ basic. with_element now serial array (natural index) (content_of (kept_value basic value)) rest) (element_of now.machine.program array.kind)
        (λ basic typed. element_within serial array at (natural index) (content_of (kept_value basic value)) rest (put_passes basic value new) pass))

    pub stores_element_within : (elements : Elements) → Within ok (stores_element now elements)
    stores_element_within elements = go (taken (sort_of_elements elements ∷ sorts.Int ∷ sorts.Reference ∷ []) now.frame.stack) refl where
      go : (found : Option (List Value × List Value)) → taken (sort_of_elements elements ∷ sorts.Int ∷ sorts.Reference ∷ []) now.frame.stack ≡ found
          → Within ok (stores_element now elements)
      go None there = rw there tt
      go (Some ([], rest)) there = rw there tt
      go (Some (value ∷ [], rest)) there = rw there tt
      go (Some (value ∷ values.Long n ∷ others, rest)) there = rw there tt
      go (Some (value ∷ values.Ref n ∷ others, rest)) there = rw there tt
      go (Some (value ∷ values.Int index ∷ [], rest)) there = rw there tt
      go (Some (value ∷ values.Int index ∷ values.Int n ∷ others, rest)) there = rw there tt
      go (Some (value ∷ values.Int index ∷ values.Long n ∷ others, rest)) there = rw there tt
      go (Some (value ∷ values.Int index ∷ values.Ref serial ∷ other ∷ others, rest)) there = rw there tt
      go (Some (value ∷ values.Int index ∷ values.Ref serial ∷ [], rest)) there =
          let own = here_taken (sort_of_elements elements ∷ sorts.Int ∷ sorts.Reference ∷ []) (value ∷ values.Int index ∷ values.Ref serial ∷ []) rest there in
          rw there
          (on_within serial
          (λ array. within now index array
          (option_and_then (λ basic. with_element now serial array (natural index) (content_of (kept_value basic value)) rest) (element_of now.machine.program array.kind)))
          (stored_within serial index value rest (parts ok (reference_in value) (references_in (values.Int index ∷ values.Ref serial ∷ [])) own.0).0 own.1))

    abbrev stores_fitting : ℕ → ℤ → ℕ → List Value → Object → Bool → Option Plan
    stores_fitting serial index value rest array true = with_element now serial array (natural index) (content_of (values.Ref value)) rest
    stores_fitting serial index value rest array false = Some (throws now.machine now.state array_store)

    fitting_within : (serial : ℕ) (index : ℤ) (value : ℕ) (rest : List Value) → Pass ok (unless_null value) → Pass ok (references_in rest) → (array : Object)
        → object_at now.state serial ≡ Some array → (fits : Bool) → Within ok (stores_fitting serial index value rest array fits)
    fitting_within serial index value rest new pass array at true = element_within serial array at (natural index) (Reference value) rest new pass
    fitting_within serial index value rest new pass array at false = throws_within ok now.machine now.state array_store here.state

    pub stores_reference_within : Within ok (stores_reference now)
    stores_reference_within = go (taken (sorts.Reference ∷ sorts.Int ∷ sorts.Reference ∷ []) now.frame.stack) refl where
      go : (found : Option (List Value × List Value)) → taken (sorts.Reference ∷ sorts.Int ∷ sorts.Reference ∷ []) now.frame.stack ≡ found → Within ok (stores_reference now)
      go None there = rw there tt
      go (Some ([], rest)) there = rw there tt
      go (Some (values.Int n ∷ others, rest)) there = rw there tt
      go (Some (values.Long n ∷ others, rest)) there = rw there tt
      go (Some (values.Ref value ∷ [], rest)) there = rw there tt
      go (Some (values.Ref value ∷ values.Long n ∷ others, rest)) there = rw there tt
      go (Some (values.Ref value ∷ values.Ref n ∷ others, rest)) there = rw there tt
      go (Some (values.Ref value ∷ values.Int index ∷ [], rest)) there = rw there tt
      go (Some (values.Ref value ∷ values.Int index ∷ values.Int n ∷ others, rest)) there = rw there tt
      go (Some (values.Ref value ∷ values.Int index ∷ values.Long n ∷ others, rest)) there = rw there tt
      go (Some (values.Ref value ∷ values.Int index ∷ values.Ref serial ∷ other ∷ others, rest)) there = rw there tt
      go (Some (values.Ref value ∷ values.Int index ∷ values.Ref serial ∷ [], rest)) there =
          let own = here_taken (sorts.Reference ∷ sorts.Int ∷ sorts.Reference ∷ []) (values.Ref value ∷ values.Int index ∷ values.Ref serial ∷ []) rest there in
          rw there
          (on_within serial
          (λ array. within now index array (stores_fitting serial index value rest array (fits_element now (element_of now.machine.program array.kind) value)))
          (λ array at. index_within index array (stores_fitting serial index value rest array (fits_element now (element_of now.machine.program array.kind) value))
          (fitting_within serial index value rest (parts ok (unless_null value) (references_in (values.Int index ∷ values.Ref serial ∷ [])) own.0).0 own.1 array at
          (fits_element now (element_of now.machine.program array.kind) value))))

    -- arraylength and athrow
    pub measures_within : Within ok (measures now)
    measures_within = go (taken (sorts.Reference ∷ []) now.frame.stack) refl where
      go : (found : Option (List Value × List Value)) → taken (sorts.Reference ∷ []) now.frame.stack ≡ found → Within ok (measures now)
      go None there = rw there tt
      go (Some ([], rest)) there = rw there tt
      go (Some (values.Int n ∷ others, rest)) there = rw there tt
      go (Some (values.Long n ∷ others, rest)) there = rw there tt
      go (Some (values.Ref serial ∷ other ∷ others, rest)) there = rw there tt
      go (Some (values.Ref serial ∷ [], rest)) there =
          rw there
          (on_within serial (λ object. leaves now (values.Int (pos (length object.contents)) ∷ rest))
          (λ object at. pushes_within ok now here (values.Int (pos (length object.contents))) rest refl (here_taken (sorts.Reference ∷ []) (values.Ref serial ∷ []) rest there).1))

    pub throws_object_within : Within ok (throws_object now)
    throws_object_within = go (taken (sorts.Reference ∷ []) now.frame.stack) refl where
      go : (found : Option (List Value × List Value)) → taken (sorts.Reference ∷ []) now.frame.stack ≡ found → Within ok (throws_object now)
      go None there = rw there tt
      go (Some ([], rest)) there = rw there tt
      go (Some (values.Int n ∷ others, rest)) there = rw there tt
      go (Some (values.Long n ∷ others, rest)) there = rw there tt
      go (Some (values.Ref serial ∷ other ∷ others, rest)) there = rw there tt
      go (Some (values.Ref serial ∷ [], rest)) there =
          let own = here_taken (sorts.Reference ∷ []) (values.Ref serial ∷ []) rest there in
          let held = pended ok now.state.roots serial here.state.roots (parts ok (unless_null serial) [] own.0).0 in
          rw there
          (on_within serial (λ object. Some (leaving (with_pending now.state serial)))
          (λ object at. left_within ok (with_pending now.state serial) (record { roots = held; objects = here.state.objects; next = here.state.next })))

    -- checkcast and instanceof
    abbrev casts_to : ℕ → List Value → Bool → Option Plan
    casts_to serial rest true = leaves now (values.Ref serial ∷ rest)
    casts_to serial rest false = Some (throws now.machine now.state class_cast)

    cast_within : (serial : ℕ) (rest : List Value) → Pass ok (unless_null serial) → Pass ok (references_in rest) → (is : Bool) → Within ok (casts_to serial rest is)
    cast_within serial rest new pass true = pushes_within ok now here (values.Ref serial) rest new pass
    cast_within serial rest new pass false = throws_within ok now.machine now.state class_cast here.state

    pub casts_within : Within ok (casts now)
    casts_within = go (named_here now) refl where
      of_taken : (kind : ℕ) → named_here now ≡ meanings.Kind kind → (found : Option (List Value × List Value)) → taken (sorts.Reference ∷ []) now.frame.stack ≡ found → Within ok (casts now)
      of_taken kind is None there = rw (is, there) tt
      of_taken kind is (Some ([], rest)) there = rw (is, there) tt
      of_taken kind is (Some (values.Int n ∷ others, rest)) there = rw (is, there) tt
      of_taken kind is (Some (values.Long n ∷ others, rest)) there = rw (is, there) tt
      of_taken kind is (Some (values.Ref zero ∷ other ∷ others, rest)) there = rw (is, there) tt
      of_taken kind is (Some (values.Ref (suc place) ∷ other ∷ others, rest)) there = rw (is, there) tt
      of_taken kind is (Some (values.Ref zero ∷ [], rest)) there =
          rw (is, there) (pushes_within ok now here (values.Ref 0) rest refl (here_taken (sorts.Reference ∷ []) (values.Ref 0 ∷ []) rest there).1)
      of_taken kind is (Some (values.Ref (suc place) ∷ [], rest)) there =
          let own = here_taken (sorts.Reference ∷ []) (values.Ref (suc place) ∷ []) rest there in
          rw (is, there)
          (then_within ok (casts_to (suc place) rest) (is_instance now kind (suc place))
          (λ fits at. cast_within (suc place) rest (parts ok (unless_null (suc place)) [] own.0).0 own.1 fits))

      go : (named : Named) → named_here now ≡ named → Within ok (casts now)
      go meanings.Nothing is = rw is tt
      go (meanings.Kind kind) is = of_taken kind is (taken (sorts.Reference ∷ []) now.frame.stack) refl
      go (meanings.Static class slot) is = rw is tt
      go (meanings.Field class slot) is = rw is tt
      go (meanings.Method method) is = rw is tt
      go (meanings.Text text) is = rw is tt
      go (meanings.Whole value) is = rw is tt

    int_passes : (is : Bool) → Pass ok (reference_in (int_of is))
    int_passes true = refl
    int_passes false = refl

    pub asks_within : Within ok (asks_kind now)
    asks_within = go (named_here now) refl where
      of_taken : (kind : ℕ) → named_here now ≡ meanings.Kind kind → (found : Option (List Value × List Value)) → taken (sorts.Reference ∷ []) now.frame.stack ≡ found → Within ok (asks_kind now)
      of_taken kind is None there = rw (is, there) tt
      of_taken kind is (Some ([], rest)) there = rw (is, there) tt
      of_taken kind is (Some (values.Int n ∷ others, rest)) there = rw (is, there) tt
      of_taken kind is (Some (values.Long n ∷ others, rest)) there = rw (is, there) tt
      of_taken kind is (Some (values.Ref serial ∷ other ∷ others, rest)) there = rw (is, there) tt
      of_taken kind is (Some (values.Ref serial ∷ [], rest)) there =
          rw (is, there)
          (then_within ok (λ is. leaves now (int_of is ∷ rest)) (is_instance now kind serial)
          (λ fits at. pushes_within ok now here (int_of fits) rest (int_passes fits) (here_taken (sorts.Reference ∷ []) (values.Ref serial ∷ []) rest there).1))

      go : (named : Named) → named_here now ≡ named → Within ok (asks_kind now)
      go meanings.Nothing is = rw is tt
      go (meanings.Kind kind) is = of_taken kind is (taken (sorts.Reference ∷ []) now.frame.stack) refl
      go (meanings.Static class slot) is = rw is tt
      go (meanings.Field class slot) is = rw is tt
      go (meanings.Method method) is = rw is tt
      go (meanings.Text text) is = rw is tt
      go (meanings.Whole value) is = rw is tt
