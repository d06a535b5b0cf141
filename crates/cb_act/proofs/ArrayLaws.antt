-- What instructions on arrays leave, by what stands on the stack.
use Rattle.std.proofs.Common.{◌≡◌, ◌∙◌, ap, refl, sym, subst, ℕ, ℤ, pos, negsuc, ◌<◌, Bool, true, false, List, map, drop, length, Option, Some, None, zero, suc}
use Rattle.std.proofs.lemmas.Bool.{false≢true, ltb-true}
use Rattle.std.specs.Prelude.{is_some, option_and_then, option_map, slice_get, if◌then◌else◌}
use Rattle.cb_frames.specs.Tops.{top_stack}
use Rattle.cb_heap.specs.Kept.{content_at, contents_at, is_reference}
use Rattle.cb_heap.specs.Reading.{View, read_value, seen, serial_of}
use Rattle.cb_kinds.specs.declared.basic.Basic.{Basic}
use Rattle.cb_kinds.specs.declared.basic.Basic.TheVariants as basics
use Rattle.cb_machine.specs.Arrays.{is_index}
use Rattle.cb_machine.specs.Sites.{array_index, array_store, null_pointer}
use Rattle.cb_machine.specs.Values.{content_of, kept_value, natural}
use Rattle.cb_plain.specs.declared.value.Value.{Value}
use Rattle.cb_plain.specs.declared.value.Value.TheVariants as values
use Rattle.cb_plain.specs.State.{Content, Number, Object, Reference, Roots}
use Rattle.cb_plain.specs.Updates.{object_in}
use Rattle.cb_shapes.specs.declared.sort.Sort.{Sort}
use Rattle.cb_act.specs.Effects.{has_sort}
use Rattle.cb_act.specs.Objects.{Left, Suits, SuitsWords, Throws, behind_load_element, behind_store_element, behind_store_reference, object_on, on_element, place_of, put_on, read_on, within}
use Rattle.cb_act.proofs.FieldLaws.{object_so, on_three, on_two}
use Rattle.cb_act.proofs.Read.{sorted}

-- the length of an object that is there
pub length_so : (objects : List (Option Object)) (serial count : ℕ) → option_map (λ (object : Object). length object.contents) (object_in objects serial) ≡ Some count
    → length (contents_at objects serial) ≡ count
length_so objects serial count is = go (object_in objects serial) refl is where
  go : (found : Option Object) → object_in objects serial ≡ found → option_map (λ (object : Object). length object.contents) found ≡ Some count → length (contents_at objects serial) ≡ count
  go None there is = absurd (cc is)
  go (Some object) there is = rw there (cc is)

-- an element is asked for of null, of an array that is there out of its bounds, or within them
pub of_null : (view : View) (index : ℕ → ℕ) (place : ℕ) (i : ℤ) (left : Option Left) → place ≡ 0 → on_element view (serial_of index place) i left ≡ Some (Throws null_pointer)
of_null view index zero i left is = refl
of_null view index (suc place) i left is = absurd (cc is)

pub kept_so : (view : View) (index : ℕ → ℕ) (place : ℕ) (i : ℤ) (left : Option Left) → ¬ (place ≡ 0) → is_some (on_element view (serial_of index place) i left) ≡ true
    → is_some (object_in view.objects (serial_of index place)) ≡ true
kept_so view index zero i left some is = absurd (some refl)
kept_so view index (suc place) i left some is = go (object_in view.objects (serial_of index (suc place))) refl where
  go : (found : Option Object) → object_in view.objects (serial_of index (suc place)) ≡ found → is_some found ≡ true
  go None there = let none : is_some (on_element view (serial_of index (suc place)) i left) ≡ false = rw there refl in absurd (false≢true (sym none ∙ is))
  go (Some object) there = refl

pub out_of_bounds : (view : View) (index : ℕ → ℕ) (place : ℕ) (i : ℤ) (left : Option Left) → ¬ (place ≡ 0) → is_some (object_in view.objects (serial_of index place)) ≡ true
    → is_index i (length (contents_at view.objects (serial_of index place))) ≡ false → on_element view (serial_of index place) i left ≡ Some (Throws array_index)
out_of_bounds view index zero i left some kept out = absurd (some refl)
out_of_bounds view index (suc place) i left some kept out = go (object_in view.objects (serial_of index (suc place))) refl kept where
  go : (found : Option Object) → object_in view.objects (serial_of index (suc place)) ≡ found → is_some found ≡ true
      → on_element view (serial_of index (suc place)) i left ≡ Some (Throws array_index)
  go None there kept = absurd (false≢true kept)
  go (Some object) there kept =
      ap (option_and_then (λ (found : Object). within view (serial_of index (suc place)) i left)) there ∙ ap (λ is. if is then left else Some (Throws array_index)) out

pub within_bounds : (view : View) (index : ℕ → ℕ) (place : ℕ) (i : ℤ) (left : Option Left) → ¬ (place ≡ 0) → is_some (object_in view.objects (serial_of index place)) ≡ true
    → is_index i (length (contents_at view.objects (serial_of index place))) ≡ true → on_element view (serial_of index place) i left ≡ left
within_bounds view index zero i left some kept out = absurd (some refl)
within_bounds view index (suc place) i left some kept out = go (object_in view.objects (serial_of index (suc place))) refl kept where
  go : (found : Option Object) → object_in view.objects (serial_of index (suc place)) ≡ found → is_some found ≡ true
      → on_element view (serial_of index (suc place)) i left ≡ left
  go None there kept = absurd (false≢true kept)
  go (Some object) there kept =
      ap (option_and_then (λ (found : Object). within view (serial_of index (suc place)) i left)) there ∙ ap (λ is. if is then left else Some (Throws array_index)) out

-- an index that is one, or isn't
pub no_place : (i : ℤ) (count : ℕ) → place_of i count ≡ None → is_index i count ≡ false
no_place i count is = go (is_index i count) refl where
  go : (here : Bool) → is_index i count ≡ here → is_index i count ≡ false
  go false at = at
  go true at =
      let some : place_of i count ≡ Some (natural i) = rw at refl in
      absurd (cc (sym some ∙ is))

pub is_place : (i : ℤ) (count place : ℕ) → place_of i count ≡ Some place → is_index i count ≡ true
is_place i count place is = go (is_index i count) refl where
  go : (here : Bool) → is_index i count ≡ here → is_index i count ≡ true
  go true at = at
  go false at =
      let none : place_of i count ≡ None = rw at refl in
      absurd (cc (sym none ∙ is))

pub natural_place : (i : ℤ) (count place : ℕ) → place_of i count ≡ Some place → natural i ≡ place
natural_place i count place is = cc (sym (ap (λ here. if here then Some (natural i) else None) (is_place i count place is)) ∙ is)

pub place_low : (i : ℤ) (count place : ℕ) → place_of i count ≡ Some place → place < count
place_low (pos n) count place is =
    subst (λ place. place < count) (natural_place (pos n) count place is) (ltb-true n count (is_place (pos n) count place is))
place_low (negsuc n) count place is = absurd (false≢true (is_place (negsuc n) count place is))

-- an array whose length was told is there
pub counted_there : (objects : List (Option Object)) (serial count : ℕ) → option_map (λ (object : Object). length object.contents) (object_in objects serial) ≡ Some count
    → is_some (object_in objects serial) ≡ true
counted_there objects serial count is = go (object_in objects serial) is where
  go : (found : Option Object) → option_map (λ (object : Object). length object.contents) found ≡ Some count → is_some found ≡ true
  go None is = absurd (cc is)
  go (Some object) is = refl

pub index_out : (view : View) (index : ℕ → ℕ) (place count : ℕ) (i : ℤ) (left : Option Left) → ¬ (place ≡ 0)
    → option_map (λ (object : Object). length object.contents) (object_in view.objects (serial_of index place)) ≡ Some count → place_of i count ≡ None
    → on_element view (serial_of index place) i left ≡ Some (Throws array_index)
index_out view index place count i left some counted none =
    out_of_bounds view index place i left some (counted_there view.objects (serial_of index place) count counted)
    (ap (is_index i) (length_so view.objects (serial_of index place) count counted) ∙ no_place i count none)

pub place_in : (view : View) (index : ℕ → ℕ) (place count word : ℕ) (i : ℤ) (left : Option Left) → ¬ (place ≡ 0)
    → option_map (λ (object : Object). length object.contents) (object_in view.objects (serial_of index place)) ≡ Some count → place_of i count ≡ Some word
    → on_element view (serial_of index place) i left ≡ left
place_in view index place count word i left some counted is =
    within_bounds view index place i left some (counted_there view.objects (serial_of index place) count counted)
    (ap (is_index i) (length_so view.objects (serial_of index place) count counted) ∙ is_place i count word is)

module _ (index : ℕ → ℕ) (objects : List (Option Object)) (held : Roots) where
  -- iaload to saload
  pub element_so : (place : ℕ) (i : ℤ) (basic : Basic) → slice_get (top_stack held) 0 ≡ Some (values.Int i) → slice_get (top_stack held) 1 ≡ Some (values.Ref place)
      → behind_load_element basic (seen index objects held)
      ≡ on_element (seen index objects held) (serial_of index place) i
      (read_on (seen index objects held) (map (read_value index) (drop 2 (top_stack held))) basic (content_at objects (serial_of index place) (natural i)))
  element_so place i basic first second = rw (on_two index objects held (values.Int i) (values.Ref place) first second) refl

  -- iastore to sastore
  pub stored_so : (place : ℕ) (i : ℤ) (sort : Sort) (basic : Basic) (value : Value) → has_sort sort (Some value) ≡ true
      → slice_get (top_stack held) 0 ≡ Some value → slice_get (top_stack held) 1 ≡ Some (values.Int i) → slice_get (top_stack held) 2 ≡ Some (values.Ref place)
      → behind_store_element sort basic (seen index objects held)
      ≡ on_element (seen index objects held) (serial_of index place) i
      (put_on (seen index objects held) (map (read_value index) (drop 3 (top_stack held))) (serial_of index place) (natural i) (content_of (kept_value basic (read_value index value))))
  stored_so place i sort basic value same first second third =
      rw (on_three index objects held value (values.Int i) (values.Ref place) first second third, sorted index value, same) refl

  pub words_so : (basic : Basic) (depth place word count : ℕ) → slice_get (top_stack held) depth ≡ Some (values.Ref place)
      → option_map (λ (object : Object). length object.contents) (object_in objects (serial_of index place)) ≡ Some count → word < count
      → SuitsWords basic depth (seen index objects held) → Suits basic (content_at objects (serial_of index place) word)
  words_so basic depth place word count is counted low suits =
      let same : object_on (seen index objects held) depth ≡ serial_of index place = object_so index objects held depth place is in
      subst (λ serial. Suits basic (content_at objects serial word)) same
      (suits word (subst (λ count. word < count) (sym (ap (λ serial. length (contents_at objects serial)) same ∙ length_so objects (serial_of index place) count counted)) low))

  -- aastore
  pub stored_reference_so : (place to : ℕ) (i : ℤ) (fits : Bool)
      → slice_get (top_stack held) 0 ≡ Some (values.Ref to) → slice_get (top_stack held) 1 ≡ Some (values.Int i) → slice_get (top_stack held) 2 ≡ Some (values.Ref place)
      → behind_store_reference fits (seen index objects held)
      ≡ on_element (seen index objects held) (serial_of index place) i
      (if fits then put_on (seen index objects held) (map (read_value index) (drop 3 (top_stack held))) (serial_of index place) (natural i) (Reference (serial_of index to))
      else Some (Throws array_store))
  stored_reference_so place to i fits first second third = rw (on_three index objects held (values.Ref to) (values.Int i) (values.Ref place) first second third) refl

pub reference_there : (kind : ℕ) (content : Option Content) → Suits (basics.Reference kind) content → is_reference content ≡ true
reference_there kind None suits = absurd suits
reference_there kind (Some (Number number)) suits = absurd suits
reference_there kind (Some (Reference serial)) suits = refl
