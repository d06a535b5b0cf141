-- Instructions that look at objects, and at static fields.
use Rattle.std.proofs.Common.{◌≡◌, refl, ℕ, ℤ, List, [], ◌∷◌, Bool, true, false, Option, Some, None, zero, suc, length}
use Rattle.std.specs.Prelude.{option_and_then, option_map, slice_get, slice_set}
use Rattle.cb_kinds.specs.declared.basic.Basic.{Basic}
use Rattle.cb_link.specs.declared.named.Named.{Named}
use Rattle.cb_link.specs.declared.named.Named.TheVariants as meanings
use Rattle.cb_link.specs.Slots.{field_basic, static_basic}
use Rattle.cb_machine.specs.Arrays.{element_of, fits_element, is_index, loads_element, measures, stores_element, stores_reference, with_element, with_object, within}
use Rattle.cb_machine.specs.Fields.{gets_field, gets_static_field, puts_field, puts_static_field}
use Rattle.cb_machine.specs.Plans.{Plan, leaving}
use Rattle.cb_machine.specs.Sites.{array_store, class_cast}
use Rattle.cb_machine.specs.Standing.{Now, leaves, leaves_with, named_here, taken}
use Rattle.cb_machine.specs.Testing.{asks_kind, casts, int_of, is_instance, throws_object}
use Rattle.cb_machine.specs.Throwing.{throws}
use Rattle.cb_machine.specs.Values.{content_of, kept_value, natural, sort_of_basic, value_in}
use Rattle.cb_plain.specs.declared.value.Value.{Value}
use Rattle.cb_plain.specs.declared.value.Value.TheVariants as values
use Rattle.cb_plain.specs.State.{Content, Object}
use Rattle.cb_plain.specs.Updates.{object_at, with_contents_at, with_static}
use Rattle.cb_shapes.specs.Sorts.{sort_of_elements}
use Rattle.cb_shapes.specs.declared.elements.Elements.{Elements}
use Rattle.cb_shapes.specs.declared.sort.Sort.TheVariants as sorts
use Rattle.cb_beside.specs.Beside.{beside, now_in, plan_beside}
use Rattle.cb_beside.proofs.Going.{Does, Same, either_same, goes_on_same, leaves_same, pair_same, then_same}
use Rattle.cb_beside.proofs.Initial.{ready_same}

-- what is stored where it fits, and what a cast leaves
abbrev stores_fitting : Now → ℕ → ℤ → ℕ → List Value → Object → Bool → Option Plan
stores_fitting now serial index value rest array true = with_element now serial array (natural index) (content_of (values.Ref value)) rest
stores_fitting now serial index value rest array false = Some (throws now.machine now.state array_store)

abbrev casts_to : Now → ℕ → List Value → Bool → Option Plan
casts_to now serial rest true = leaves now (values.Ref serial ∷ rest)
casts_to now serial rest false = Some (throws now.machine now.state class_cast)

-- what fields of objects, and static ones, are taken for
abbrev gets_from : Now → ℕ → Basic → List Value → Object → Option Plan
gets_from now slot basic rest object = option_and_then (λ value. leaves now (value ∷ rest)) (option_map (value_in basic) (slice_get object.contents slot))

abbrev gets_taken : Now → ℕ → Basic → List Value × List Value → Option Plan
gets_taken now slot basic (values.Ref object ∷ [], rest) = with_object now object (gets_from now slot basic rest)
gets_taken now slot basic other = None

abbrev puts_taken : Now → ℕ → Basic → List Value × List Value → Option Plan
puts_taken now slot basic (value ∷ values.Ref serial ∷ [], rest) =
    with_object now serial (λ object. with_element now serial object slot (content_of (kept_value basic value)) rest)
puts_taken now slot basic other = None

abbrev sets_static : Now → ℕ → Basic → List Value × List Value → Option Plan
sets_static now slot basic (value ∷ [], rest) = leaves_with now rest (leaving (with_static now.state slot (kept_value basic value)))
sets_static now slot basic other = None

module _ (input printed : List ℕ) (now : Now) where
  abbrev there : Now
  there = now_in now (beside now.state input printed)

  -- on an object, and within its elements
  pub object_same : (serial : ℕ) (one other : Object → Option Plan) → ((object : Object) → Same input printed (one object) (other object))
      → Same input printed (with_object there serial one) (with_object now serial other)
  object_same zero one other each = refl
  object_same (suc place) one other each = then_same input printed one other (object_at now.state (suc place)) each

  within_same : (index : ℤ) (array : Object) (one other : Option Plan) → Same input printed one other
      → Same input printed (within there index array one) (within now index array other)
  within_same index array one other is =
      either_same (option_map (plan_beside input printed)) (is_index index (length array.contents)) one other _ _ is refl

  element_same : (serial : ℕ) (array : Object) (index : ℕ) (content : Content) (rest : List Value)
      → Does input printed now (λ now. with_element now serial array index content rest)
  element_same serial array index content rest =
      goes_on_same input printed now now.frame.locals rest (leaving (with_contents_at now.state serial (slice_set array.contents index content)))

  -- elements
  pub loads_element_same : Does input printed now loads_element
  loads_element_same =
      pair_same input printed _ _ (taken (sorts.Int ∷ sorts.Reference ∷ []) now.frame.stack)
      (elim [
        | (values.Int index ∷ values.Ref array ∷ []) ↦ λ rest. object_same array _ _
            (λ object. within_same index object _ _ (then_same input printed _ _ _ (λ value. leaves_same input printed now (value ∷ rest))))
        | other ↦ λ rest. refl
      ])

  pub stores_element_same : (elements : Elements) → Does input printed now (λ now. stores_element now elements)
  stores_element_same elements =
      pair_same input printed _ _ (taken (sort_of_elements elements ∷ sorts.Int ∷ sorts.Reference ∷ []) now.frame.stack)
      (elim [
        | (value ∷ values.Int index ∷ values.Ref array ∷ []) ↦ λ rest. object_same array _ _
            (λ object. within_same index object _ _ (then_same input printed _ _ (element_of now.machine.program object.kind) (λ basic. element_same array object _ _ rest)))
        | other ↦ λ rest. refl
      ])

  fitting_same : (serial : ℕ) (index : ℤ) (value : ℕ) (rest : List Value) (array : Object) (fits : Bool)
      → Does input printed now (λ now. stores_fitting now serial index value rest array fits)
  fitting_same serial index value rest array true = element_same serial array (natural index) (content_of (values.Ref value)) rest
  fitting_same serial index value rest array false = refl

  pub stores_reference_same : Does input printed now stores_reference
  stores_reference_same =
      pair_same input printed _ _ (taken (sorts.Reference ∷ sorts.Int ∷ sorts.Reference ∷ []) now.frame.stack)
      (elim [
        | (values.Ref value ∷ values.Int index ∷ values.Ref array ∷ []) ↦ λ rest. object_same array _ _
            (λ object. within_same index object _ _
            (fitting_same array index value rest object (fits_element now (element_of now.machine.program object.kind) value)))
        | other ↦ λ rest. refl
      ])

  pub measures_same : Does input printed now measures
  measures_same =
      pair_same input printed _ _ (taken (sorts.Reference ∷ []) now.frame.stack)
      (elim [ (values.Ref array ∷ []) ↦ λ rest. object_same array _ _ (λ object. leaves_same input printed now _) | other ↦ λ rest. refl ])

  -- classes of objects
  casts_to_same : (serial : ℕ) (rest : List Value) (is : Bool) → Does input printed now (λ now. casts_to now serial rest is)
  casts_to_same serial rest true = leaves_same input printed now (values.Ref serial ∷ rest)
  casts_to_same serial rest false = refl

  pub casts_same : Does input printed now casts
  casts_same = go (named_here now) refl where
    go : (named : Named) → named_here now ≡ named → Does input printed now casts
    go (meanings.Kind kind) is =
        rw is
        (pair_same input printed _ _ (taken (sorts.Reference ∷ []) now.frame.stack)
        (elim [
          | (values.Ref zero ∷ []) ↦ λ rest. leaves_same input printed now (values.Ref 0 ∷ rest)
          | (values.Ref (suc place) ∷ []) ↦ λ rest. then_same input printed _ _ (is_instance now kind (suc place)) (casts_to_same (suc place) rest)
          | other ↦ λ rest. refl
        ]))
    go other is = rw is refl

  pub asks_same : Does input printed now asks_kind
  asks_same = go (named_here now) refl where
    go : (named : Named) → named_here now ≡ named → Does input printed now asks_kind
    go (meanings.Kind kind) is =
        rw is
        (pair_same input printed _ _ (taken (sorts.Reference ∷ []) now.frame.stack)
        (elim [
          | (values.Ref serial ∷ []) ↦ λ rest. then_same input printed _ _ (is_instance now kind serial) (λ is. leaves_same input printed now (int_of is ∷ rest))
          | other ↦ λ rest. refl
        ]))
    go other is = rw is refl

  pub throws_object_same : Does input printed now throws_object
  throws_object_same =
      pair_same input printed _ _ (taken (sorts.Reference ∷ []) now.frame.stack)
      (elim [ (values.Ref serial ∷ []) ↦ λ rest. object_same serial _ _ (λ object. refl) | other ↦ λ rest. refl ])

  -- fields
  got_same : (slot : ℕ) (basic : Basic) (held : List Value × List Value) → Does input printed now (λ now. gets_taken now slot basic held)
  got_same slot basic (values.Ref serial ∷ [], rest) =
      object_same serial (gets_from there slot basic rest) (gets_from now slot basic rest)
      (λ object. then_same input printed _ _ (option_map (value_in basic) (slice_get object.contents slot)) (λ value. leaves_same input printed now (value ∷ rest)))
  got_same slot basic other = refl

  pub gets_same : Does input printed now gets_field
  gets_same = go (named_here now) refl where
    go : (named : Named) → named_here now ≡ named → Does input printed now gets_field
    go (meanings.Field class slot) is =
        rw is
        (then_same input printed _ _ (field_basic now.machine.program class slot)
        (λ basic. then_same input printed (gets_taken there slot basic) (gets_taken now slot basic) (taken (sorts.Reference ∷ []) now.frame.stack) (got_same slot basic)))
    go other is = rw is refl

  put_same : (slot : ℕ) (basic : Basic) (held : List Value × List Value) → Does input printed now (λ now. puts_taken now slot basic held)
  put_same slot basic (value ∷ values.Ref serial ∷ [], rest) =
      object_same serial _ _ (λ object. element_same serial object slot (content_of (kept_value basic value)) rest)
  put_same slot basic other = refl

  pub puts_same : Does input printed now puts_field
  puts_same = go (named_here now) refl where
    go : (named : Named) → named_here now ≡ named → Does input printed now puts_field
    go (meanings.Field class slot) is =
        rw is
        (then_same input printed _ _ (field_basic now.machine.program class slot)
        (λ basic. then_same input printed (puts_taken there slot basic) (puts_taken now slot basic)
        (taken (sort_of_basic basic ∷ sorts.Reference ∷ []) now.frame.stack) (put_same slot basic)))
    go other is = rw is refl

  -- static fields
  pub gets_static_same : Does input printed now gets_static_field
  gets_static_same = go (named_here now) refl where
    go : (named : Named) → named_here now ≡ named → Does input printed now gets_static_field
    go (meanings.Static class slot) is =
        rw is
        (ready_same input printed now.machine now.state class _ _
        (then_same input printed _ _ (slice_get now.state.roots.statics slot) (λ value. leaves_same input printed now (value ∷ now.frame.stack))))
    go other is = rw is refl

  set_same : (slot : ℕ) (basic : Basic) (held : List Value × List Value) → Does input printed now (λ now. sets_static now slot basic held)
  set_same slot basic (value ∷ [], rest) =
      goes_on_same input printed now now.frame.locals rest (leaving (with_static now.state slot (kept_value basic value)))
  set_same slot basic other = refl

  pub puts_static_same : Does input printed now puts_static_field
  puts_static_same = go (named_here now) refl where
    go : (named : Named) → named_here now ≡ named → Does input printed now puts_static_field
    go (meanings.Static class slot) is =
        rw is
        (ready_same input printed now.machine now.state class _ _
        (then_same input printed _ _ (static_basic now.machine.program slot)
        (λ basic. then_same input printed (sets_static there slot basic) (sets_static now slot basic) (taken (sort_of_basic basic ∷ []) now.frame.stack) (set_same slot basic))))
    go other is = rw is refl
