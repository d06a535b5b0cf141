-- What is left of roots and objects is what the step leaves.
use Rattle.std.proofs.Common.{◌≡◌, ◌∙◌, ap, refl, sym, ℕ, ℤ, pos, Bool, true, false, List, [], ◌∷◌, ◌++◌, length, Option, Some, None, zero, suc}
use Rattle.std.specs.Prelude.{option_and_then, option_map, slice_get, slice_set}
use Rattle.cb_frames.specs.Tops.{at_place as placed_at, changed_in, on_top, stack_in, top_stack, with_stack}
use Rattle.cb_kinds.specs.declared.basic.Basic.{Basic}
use Rattle.cb_link.specs.Slots.{field_basic}
use Rattle.cb_link.specs.declared.named.Named.TheVariants as meanings
use Rattle.cb_machine.specs.Arrays.{element_of, fits_element, is_index, loads_element, measures, stores_element, stores_reference}
use Rattle.cb_machine.specs.Fields.{gets_field, puts_field}
use Rattle.cb_machine.specs.Plans.{leaving}
use Rattle.cb_machine.specs.Standing.{Now, goes_to, leaves_with, named_here, same_sort, taken}
use Rattle.cb_machine.specs.Values.{content_of, kept_value, natural, sort_of, sort_of_basic, value_in}
use Rattle.cb_plain.specs.declared.value.Value.{Value}
use Rattle.cb_plain.specs.declared.value.Value.TheVariants as values
use Rattle.cb_plain.specs.State.{Content, Object}
use Rattle.cb_plain.specs.Updates.{object_at, with_contents_in, with_frames, with_objects}
use Rattle.cb_shapes.specs.Sorts.{sort_of_elements}
use Rattle.cb_shapes.specs.declared.elements.Elements.{Elements}
use Rattle.cb_shapes.specs.declared.sort.Sort.{Sort}
use Rattle.cb_shapes.specs.declared.sort.Sort.TheVariants as sorts
use Rattle.cb_act.specs.Effects.{stacked}
use Rattle.cb_act.specs.Objects.{Goes, behind_get_field, behind_length, behind_load_element, behind_put_field, behind_store_element, behind_store_reference, element_put, element_read, got, length_read, put, reference_put}
use Rattle.cb_act.specs.Steps.{FitsArray, HasElements, StandsBefore, left_to, view_of}

-- what is taken from a stack is its front
abbrev onto : Value → List Value × List Value → List Value × List Value
onto value below = (value ∷ below.0, below.1)

pub front : (sorts : List Sort) (stack held rest : List Value) → taken sorts stack ≡ Some (held, rest) → stack ≡ held ++ rest
front [] stack held rest is =
    let both : ([], stack) ≡ (held, rest) = cc is in
    ap (λ (taken : List Value × List Value). taken.0 ++ taken.1) both
front (sort ∷ sorts) [] held rest is = absurd (cc is)
front (sort ∷ sorts) (value ∷ stack) held rest is = go (front sorts stack) (same_sort (sort_of value) sort) refl (taken sorts stack) refl where
  go : ((held rest : List Value) → taken sorts stack ≡ Some (held, rest) → stack ≡ held ++ rest) → (same : Bool) → same_sort (sort_of value) sort ≡ same
      → (found : Option (List Value × List Value)) → taken sorts stack ≡ found → value ∷ stack ≡ held ++ rest
  go before false same found there =
      let none : taken (sort ∷ sorts) (value ∷ stack) ≡ None = rw same refl in
      absurd (cc (sym none ∙ is))
  go before true same None there =
      let none : taken (sort ∷ sorts) (value ∷ stack) ≡ None = rw (same, there) refl in
      absurd (cc (sym none ∙ is))
  go before true same (Some below) there =
      let some : taken (sort ∷ sorts) (value ∷ stack) ≡ Some (onto value below) = rw (same, there) refl in
      let both : onto value below ≡ (held, rest) = cc (sym some ∙ is) in
      ap (λ stack. value ∷ stack) (before below.0 below.1 there) ∙ ap (λ (taken : List Value × List Value). taken.0 ++ taken.1) both

module _ (now : Now) (pc : ℕ) (stands : StandsBefore now pc) where
  stack_is : top_stack now.state.roots ≡ now.frame.stack
  stack_is = ap (on_top [] stack_in) stands.frames

  -- with another stack and other objects, on at the next place
  pub left_so : (objects : List (Option Object)) (stack : List Value)
      → leaves_with now stack (leaving (with_objects now.state objects))
      ≡ left_to now pc (Some (Goes (record { roots = stacked now.state.roots stack; objects = objects })))
  left_so objects stack =
      ap (option_map (λ pc. goes_to now pc now.frame.locals stack (leaving (with_objects now.state objects)))) stands.next
      ∙ ap (λ frames. Some (leaving (with_objects (with_frames now.state (changed_in (placed_at pc) (changed_in (with_stack (λ before. stack)) frames))) objects))) (sym stands.frames)

  -- getfield
  pub gets_so : (class slot : ℕ) (basic : Basic) → named_here now ≡ meanings.Field class slot → field_basic now.machine.program class slot ≡ Some basic
      → gets_field now ≡ left_to now pc (behind_get_field slot basic (view_of now.state))
  gets_so class slot basic names typed =
      go (taken (sorts.Reference ∷ []) now.frame.stack) refl
      ∙ ap (λ stack. left_to now pc (option_and_then (got (view_of now.state) slot basic) (taken (sorts.Reference ∷ []) stack))) (sym stack_is) where
        of_content : (place : ℕ) (rest : List Value) → taken (sorts.Reference ∷ []) now.frame.stack ≡ Some (values.Ref (suc place) ∷ [], rest)
            → (object : Object) → object_at now.state (suc place) ≡ Some object → (content : Option Content) → slice_get object.contents slot ≡ content
            → gets_field now ≡ left_to now pc (option_and_then (got (view_of now.state) slot basic) (taken (sorts.Reference ∷ []) now.frame.stack))
        of_content place rest held object there None is = rw (names, typed, held, there, is) refl
        of_content place rest held object there (Some content) is = rw (names, typed, held, there, is) (left_so now.state.objects (value_in basic content ∷ rest))

        of_object : (place : ℕ) (rest : List Value) → taken (sorts.Reference ∷ []) now.frame.stack ≡ Some (values.Ref (suc place) ∷ [], rest)
            → (object : Option Object) → object_at now.state (suc place) ≡ object
            → gets_field now ≡ left_to now pc (option_and_then (got (view_of now.state) slot basic) (taken (sorts.Reference ∷ []) now.frame.stack))
        of_object place rest held None there = rw (names, typed, held, there) refl
        of_object place rest held (Some object) there = of_content place rest held object there (slice_get object.contents slot) refl

        go : (found : Option (List Value × List Value)) → taken (sorts.Reference ∷ []) now.frame.stack ≡ found
            → gets_field now ≡ left_to now pc (option_and_then (got (view_of now.state) slot basic) (taken (sorts.Reference ∷ []) now.frame.stack))
        go None held = rw (names, typed, held) refl
        go (Some ([], rest)) held = rw (names, typed, held) refl
        go (Some (values.Int n ∷ others, rest)) held = rw (names, typed, held) refl
        go (Some (values.Long n ∷ others, rest)) held = rw (names, typed, held) refl
        go (Some (values.Ref object ∷ other ∷ others, rest)) held = rw (names, typed, held) refl
        go (Some (values.Ref zero ∷ [], rest)) held = rw (names, typed, held) refl
        go (Some (values.Ref (suc place) ∷ [], rest)) held = of_object place rest held (object_at now.state (suc place)) refl

  -- putfield
  pub puts_so : (class slot : ℕ) (basic : Basic) → named_here now ≡ meanings.Field class slot → field_basic now.machine.program class slot ≡ Some basic
      → puts_field now ≡ left_to now pc (behind_put_field slot basic (view_of now.state))
  puts_so class slot basic names typed =
      go (taken (sort_of_basic basic ∷ sorts.Reference ∷ []) now.frame.stack) refl
      ∙ ap (λ stack. left_to now pc (option_and_then (put (view_of now.state) slot basic) (taken (sort_of_basic basic ∷ sorts.Reference ∷ []) stack))) (sym stack_is) where
        of_object : (value : Value) (place : ℕ) (rest : List Value) → taken (sort_of_basic basic ∷ sorts.Reference ∷ []) now.frame.stack ≡ Some (value ∷ values.Ref (suc place) ∷ [], rest)
            → (object : Option Object) → object_at now.state (suc place) ≡ object
            → puts_field now ≡ left_to now pc (option_and_then (put (view_of now.state) slot basic) (taken (sort_of_basic basic ∷ sorts.Reference ∷ []) now.frame.stack))
        of_object value place rest held None there = rw (names, typed, held, there) refl
        of_object value place rest held (Some object) there =
            rw (names, typed, held, there)
            (left_so (with_contents_in now.state.objects (suc place) (slice_set object.contents slot (content_of (kept_value basic value)))) rest)

        go : (found : Option (List Value × List Value)) → taken (sort_of_basic basic ∷ sorts.Reference ∷ []) now.frame.stack ≡ found
            → puts_field now ≡ left_to now pc (option_and_then (put (view_of now.state) slot basic) (taken (sort_of_basic basic ∷ sorts.Reference ∷ []) now.frame.stack))
        go None held = rw (names, typed, held) refl
        go (Some ([], rest)) held = rw (names, typed, held) refl
        go (Some (value ∷ [], rest)) held = rw (names, typed, held) refl
        go (Some (value ∷ values.Int n ∷ others, rest)) held = rw (names, typed, held) refl
        go (Some (value ∷ values.Long n ∷ others, rest)) held = rw (names, typed, held) refl
        go (Some (value ∷ values.Ref object ∷ other ∷ others, rest)) held = rw (names, typed, held) refl
        go (Some (value ∷ values.Ref zero ∷ [], rest)) held = rw (names, typed, held) refl
        go (Some (value ∷ values.Ref (suc place) ∷ [], rest)) held = of_object value place rest held (object_at now.state (suc place)) refl

  -- arraylength
  pub measures_so : measures now ≡ left_to now pc (behind_length (view_of now.state))
  measures_so =
      go (taken (sorts.Reference ∷ []) now.frame.stack) refl
      ∙ ap (λ stack. left_to now pc (option_and_then (length_read (view_of now.state)) (taken (sorts.Reference ∷ []) stack))) (sym stack_is) where
        of_object : (place : ℕ) (rest : List Value) → taken (sorts.Reference ∷ []) now.frame.stack ≡ Some (values.Ref (suc place) ∷ [], rest)
            → (object : Option Object) → object_at now.state (suc place) ≡ object
            → measures now ≡ left_to now pc (option_and_then (length_read (view_of now.state)) (taken (sorts.Reference ∷ []) now.frame.stack))
        of_object place rest held None there = rw (held, there) refl
        of_object place rest held (Some object) there = rw (held, there) (left_so now.state.objects (values.Int (pos (length object.contents)) ∷ rest))

        go : (found : Option (List Value × List Value)) → taken (sorts.Reference ∷ []) now.frame.stack ≡ found
            → measures now ≡ left_to now pc (option_and_then (length_read (view_of now.state)) (taken (sorts.Reference ∷ []) now.frame.stack))
        go None held = rw held refl
        go (Some ([], rest)) held = rw held refl
        go (Some (values.Int n ∷ others, rest)) held = rw held refl
        go (Some (values.Long n ∷ others, rest)) held = rw held refl
        go (Some (values.Ref object ∷ other ∷ others, rest)) held = rw held refl
        go (Some (values.Ref zero ∷ [], rest)) held = rw held refl
        go (Some (values.Ref (suc place) ∷ [], rest)) held = of_object place rest held (object_at now.state (suc place)) refl

  -- iaload to saload
  pub loads_element_so : (basic : Basic) → HasElements now 1 basic → loads_element now ≡ left_to now pc (behind_load_element basic (view_of now.state))
  loads_element_so basic elements =
      go (taken (sorts.Int ∷ sorts.Reference ∷ []) now.frame.stack) refl
      ∙ ap (λ stack. left_to now pc (option_and_then (element_read (view_of now.state) basic) (taken (sorts.Int ∷ sorts.Reference ∷ []) stack))) (sym stack_is) where
        of_content : (i : ℤ) (place : ℕ) (rest : List Value) → taken (sorts.Int ∷ sorts.Reference ∷ []) now.frame.stack ≡ Some (values.Int i ∷ values.Ref (suc place) ∷ [], rest)
            → (object : Object) → object_at now.state (suc place) ≡ Some object → element_of now.machine.program object.kind ≡ Some basic
            → is_index i (length object.contents) ≡ true → (content : Option Content) → slice_get object.contents (natural i) ≡ content
            → loads_element now ≡ left_to now pc (option_and_then (element_read (view_of now.state) basic) (taken (sorts.Int ∷ sorts.Reference ∷ []) now.frame.stack))
        of_content i place rest held object there typed here None is = rw (held, there, typed, here, is) refl
        of_content i place rest held object there typed here (Some content) is = rw (held, there, typed, here, is) (left_so now.state.objects (value_in basic content ∷ rest))

        of_index : (i : ℤ) (place : ℕ) (rest : List Value) → taken (sorts.Int ∷ sorts.Reference ∷ []) now.frame.stack ≡ Some (values.Int i ∷ values.Ref (suc place) ∷ [], rest)
            → (object : Object) → object_at now.state (suc place) ≡ Some object → element_of now.machine.program object.kind ≡ Some basic
            → (here : Bool) → is_index i (length object.contents) ≡ here
            → loads_element now ≡ left_to now pc (option_and_then (element_read (view_of now.state) basic) (taken (sorts.Int ∷ sorts.Reference ∷ []) now.frame.stack))
        of_index i place rest held object there typed false is = rw (held, there, typed, is) refl
        of_index i place rest held object there typed true is = of_content i place rest held object there typed is (slice_get object.contents (natural i)) refl

        of_object : (i : ℤ) (place : ℕ) (rest : List Value) → taken (sorts.Int ∷ sorts.Reference ∷ []) now.frame.stack ≡ Some (values.Int i ∷ values.Ref (suc place) ∷ [], rest)
            → (object : Option Object) → object_at now.state (suc place) ≡ object
            → loads_element now ≡ left_to now pc (option_and_then (element_read (view_of now.state) basic) (taken (sorts.Int ∷ sorts.Reference ∷ []) now.frame.stack))
        of_object i place rest held None there = rw (held, there) refl
        of_object i place rest held (Some object) there =
            of_index i place rest held object there
            (elements (suc place) object (ap (λ stack. slice_get stack 1) (front (sorts.Int ∷ sorts.Reference ∷ []) now.frame.stack (values.Int i ∷ values.Ref (suc place) ∷ []) rest held)) there)
            (is_index i (length object.contents)) refl

        go : (found : Option (List Value × List Value)) → taken (sorts.Int ∷ sorts.Reference ∷ []) now.frame.stack ≡ found
            → loads_element now ≡ left_to now pc (option_and_then (element_read (view_of now.state) basic) (taken (sorts.Int ∷ sorts.Reference ∷ []) now.frame.stack))
        go None held = rw held refl
        go (Some ([], rest)) held = rw held refl
        go (Some (values.Long n ∷ others, rest)) held = rw held refl
        go (Some (values.Ref n ∷ others, rest)) held = rw held refl
        go (Some (values.Int i ∷ [], rest)) held = rw held refl
        go (Some (values.Int i ∷ values.Int n ∷ others, rest)) held = rw held refl
        go (Some (values.Int i ∷ values.Long n ∷ others, rest)) held = rw held refl
        go (Some (values.Int i ∷ values.Ref object ∷ other ∷ others, rest)) held = rw held refl
        go (Some (values.Int i ∷ values.Ref zero ∷ [], rest)) held = rw held refl
        go (Some (values.Int i ∷ values.Ref (suc place) ∷ [], rest)) held = of_object i place rest held (object_at now.state (suc place)) refl

  -- iastore to sastore
  pub stores_element_so : (elements : Elements) (basic : Basic) → HasElements now 2 basic
      → stores_element now elements ≡ left_to now pc (behind_store_element (sort_of_elements elements) basic (view_of now.state))
  stores_element_so kind basic elements =
      go (taken (sort_of_elements kind ∷ sorts.Int ∷ sorts.Reference ∷ []) now.frame.stack) refl
      ∙ ap (λ stack. left_to now pc (option_and_then (element_put (view_of now.state) basic) (taken (sort_of_elements kind ∷ sorts.Int ∷ sorts.Reference ∷ []) stack))) (sym stack_is) where
        of_index : (value : Value) (i : ℤ) (place : ℕ) (rest : List Value)
            → taken (sort_of_elements kind ∷ sorts.Int ∷ sorts.Reference ∷ []) now.frame.stack ≡ Some (value ∷ values.Int i ∷ values.Ref (suc place) ∷ [], rest)
            → (object : Object) → object_at now.state (suc place) ≡ Some object → element_of now.machine.program object.kind ≡ Some basic
            → (here : Bool) → is_index i (length object.contents) ≡ here
            → stores_element now kind ≡ left_to now pc (option_and_then (element_put (view_of now.state) basic) (taken (sort_of_elements kind ∷ sorts.Int ∷ sorts.Reference ∷ []) now.frame.stack))
        of_index value i place rest held object there typed false is = rw (held, there, typed, is) refl
        of_index value i place rest held object there typed true is =
            rw (held, there, typed, is) (left_so (with_contents_in now.state.objects (suc place) (slice_set object.contents (natural i) (content_of (kept_value basic value)))) rest)

        of_object : (value : Value) (i : ℤ) (place : ℕ) (rest : List Value)
            → taken (sort_of_elements kind ∷ sorts.Int ∷ sorts.Reference ∷ []) now.frame.stack ≡ Some (value ∷ values.Int i ∷ values.Ref (suc place) ∷ [], rest)
            → (object : Option Object) → object_at now.state (suc place) ≡ object
            → stores_element now kind ≡ left_to now pc (option_and_then (element_put (view_of now.state) basic) (taken (sort_of_elements kind ∷ sorts.Int ∷ sorts.Reference ∷ []) now.frame.stack))
        of_object value i place rest held None there = rw (held, there) refl
        of_object value i place rest held (Some object) there =
            of_index value i place rest held object there
            (elements (suc place) object (ap (λ stack. slice_get stack 2) (front (sort_of_elements kind ∷ sorts.Int ∷ sorts.Reference ∷ []) now.frame.stack (value ∷ values.Int i ∷ values.Ref (suc place) ∷ []) rest held)) there)
            (is_index i (length object.contents)) refl

        go : (found : Option (List Value × List Value)) → taken (sort_of_elements kind ∷ sorts.Int ∷ sorts.Reference ∷ []) now.frame.stack ≡ found
            → stores_element now kind ≡ left_to now pc (option_and_then (element_put (view_of now.state) basic) (taken (sort_of_elements kind ∷ sorts.Int ∷ sorts.Reference ∷ []) now.frame.stack))
        go None held = rw held refl
        go (Some ([], rest)) held = rw held refl
        go (Some (value ∷ [], rest)) held = rw held refl
        go (Some (value ∷ values.Long n ∷ others, rest)) held = rw held refl
        go (Some (value ∷ values.Ref n ∷ others, rest)) held = rw held refl
        go (Some (value ∷ values.Int i ∷ [], rest)) held = rw held refl
        go (Some (value ∷ values.Int i ∷ values.Int n ∷ others, rest)) held = rw held refl
        go (Some (value ∷ values.Int i ∷ values.Long n ∷ others, rest)) held = rw held refl
        go (Some (value ∷ values.Int i ∷ values.Ref object ∷ other ∷ others, rest)) held = rw held refl
        go (Some (value ∷ values.Int i ∷ values.Ref zero ∷ [], rest)) held = rw held refl
        go (Some (value ∷ values.Int i ∷ values.Ref (suc place) ∷ [], rest)) held = of_object value i place rest held (object_at now.state (suc place)) refl

  -- aastore
  pub stores_reference_so : (fits : Bool) → FitsArray now fits → stores_reference now ≡ left_to now pc (behind_store_reference fits (view_of now.state))
  stores_reference_so fits asked =
      go (taken (sorts.Reference ∷ sorts.Int ∷ sorts.Reference ∷ []) now.frame.stack) refl
      ∙ ap (λ stack. left_to now pc (option_and_then (reference_put (view_of now.state) fits) (taken (sorts.Reference ∷ sorts.Int ∷ sorts.Reference ∷ []) stack))) (sym stack_is) where
        of_fits : (value : ℕ) (i : ℤ) (place : ℕ) (rest : List Value)
            → taken (sorts.Reference ∷ sorts.Int ∷ sorts.Reference ∷ []) now.frame.stack ≡ Some (values.Ref value ∷ values.Int i ∷ values.Ref (suc place) ∷ [], rest)
            → (object : Object) → object_at now.state (suc place) ≡ Some object → is_index i (length object.contents) ≡ true
            → (own : Bool) → fits ≡ own → fits_element now (element_of now.machine.program object.kind) value ≡ own
            → stores_reference now ≡ left_to now pc (option_and_then (reference_put (view_of now.state) fits) (taken (sorts.Reference ∷ sorts.Int ∷ sorts.Reference ∷ []) now.frame.stack))
        of_fits value i place rest held object there here false is told = rw (held, there, here, told, is) refl
        of_fits value i place rest held object there here true is told =
            rw (held, there, here, told, is) (left_so (with_contents_in now.state.objects (suc place) (slice_set object.contents (natural i) (content_of (values.Ref value)))) rest)

        of_index : (value : ℕ) (i : ℤ) (place : ℕ) (rest : List Value)
            → taken (sorts.Reference ∷ sorts.Int ∷ sorts.Reference ∷ []) now.frame.stack ≡ Some (values.Ref value ∷ values.Int i ∷ values.Ref (suc place) ∷ [], rest)
            → (object : Object) → object_at now.state (suc place) ≡ Some object → fits_element now (element_of now.machine.program object.kind) value ≡ fits
            → (here : Bool) → is_index i (length object.contents) ≡ here
            → stores_reference now ≡ left_to now pc (option_and_then (reference_put (view_of now.state) fits) (taken (sorts.Reference ∷ sorts.Int ∷ sorts.Reference ∷ []) now.frame.stack))
        of_index value i place rest held object there told false is = rw (held, there, is) refl
        of_index value i place rest held object there told true is = of_fits value i place rest held object there is fits refl told

        of_object : (value : ℕ) (i : ℤ) (place : ℕ) (rest : List Value)
            → taken (sorts.Reference ∷ sorts.Int ∷ sorts.Reference ∷ []) now.frame.stack ≡ Some (values.Ref value ∷ values.Int i ∷ values.Ref (suc place) ∷ [], rest)
            → (object : Option Object) → object_at now.state (suc place) ≡ object
            → stores_reference now ≡ left_to now pc (option_and_then (reference_put (view_of now.state) fits) (taken (sorts.Reference ∷ sorts.Int ∷ sorts.Reference ∷ []) now.frame.stack))
        of_object value i place rest held None there = rw (held, there) refl
        of_object value i place rest held (Some object) there =
            let whole : now.frame.stack ≡ values.Ref value ∷ values.Int i ∷ values.Ref (suc place) ∷ rest =
            front (sorts.Reference ∷ sorts.Int ∷ sorts.Reference ∷ []) now.frame.stack (values.Ref value ∷ values.Int i ∷ values.Ref (suc place) ∷ []) rest held in
            of_index value i place rest held object there
            (asked value (suc place) object (ap (λ stack. slice_get stack 0) whole) (ap (λ stack. slice_get stack 2) whole) there)
            (is_index i (length object.contents)) refl

        go : (found : Option (List Value × List Value)) → taken (sorts.Reference ∷ sorts.Int ∷ sorts.Reference ∷ []) now.frame.stack ≡ found
            → stores_reference now ≡ left_to now pc (option_and_then (reference_put (view_of now.state) fits) (taken (sorts.Reference ∷ sorts.Int ∷ sorts.Reference ∷ []) now.frame.stack))
        go None held = rw held refl
        go (Some ([], rest)) held = rw held refl
        go (Some (values.Int n ∷ others, rest)) held = rw held refl
        go (Some (values.Long n ∷ others, rest)) held = rw held refl
        go (Some (values.Ref value ∷ [], rest)) held = rw held refl
        go (Some (values.Ref value ∷ values.Long n ∷ others, rest)) held = rw held refl
        go (Some (values.Ref value ∷ values.Ref n ∷ others, rest)) held = rw held refl
        go (Some (values.Ref value ∷ values.Int i ∷ [], rest)) held = rw held refl
        go (Some (values.Ref value ∷ values.Int i ∷ values.Int n ∷ others, rest)) held = rw held refl
        go (Some (values.Ref value ∷ values.Int i ∷ values.Long n ∷ others, rest)) held = rw held refl
        go (Some (values.Ref value ∷ values.Int i ∷ values.Ref object ∷ other ∷ others, rest)) held = rw held refl
        go (Some (values.Ref value ∷ values.Int i ∷ values.Ref zero ∷ [], rest)) held = rw held refl
        go (Some (values.Ref value ∷ values.Int i ∷ values.Ref (suc place) ∷ [], rest)) held = of_object value i place rest held (object_at now.state (suc place)) refl
