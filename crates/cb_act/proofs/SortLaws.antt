-- What is read of a word goes by the sort of a type alone, and what the values of a field are is told where one is named.
use Rattle.std.proofs.Common.{◌≡◌, ◌∙◌, ap, refl, subst, sym, ℕ, true, List, [], ◌∷◌, Option, Some, None}
use Rattle.std.proofs.lemmas.Bool.{false≢true}
use Rattle.std.specs.Prelude.{is_some, option_and_then, option_map, slice_get}
use Rattle.cb_frames.specs.Tops.{top_stack}
use Rattle.cb_heap.specs.Kept.{content_at}
use Rattle.cb_heap.specs.Reading.{View, read_roots, seen}
use Rattle.cb_kinds.specs.declared.basic.Basic.{Basic}
use Rattle.cb_kinds.specs.declared.basic.Basic.TheVariants as basics
use Rattle.cb_link.specs.Decoding.{basic_named}
use Rattle.cb_link.specs.Program.{Linked}
use Rattle.cb_link.specs.Slots.{field_basic, static_basic}
use Rattle.cb_link.specs.declared.decoded.Decoded.{Decoded}
use Rattle.cb_link.specs.declared.named.Named.{Named}
use Rattle.cb_link.specs.declared.named.Named.TheVariants as meanings
use Rattle.cb_machine.specs.Standing.{taken}
use Rattle.cb_machine.specs.Values.{natural, sort_of_basic, value_in}
use Rattle.cb_plain.specs.State.{Content, Number, Object, Reference, Roots}
use Rattle.cb_plain.specs.declared.class_state.ClassState.{ClassState}
use Rattle.cb_plain.specs.declared.value.Value.{Value}
use Rattle.cb_plain.specs.declared.value.Value.TheVariants.{Int, Long, Ref}
use Rattle.cb_shapes.specs.declared.sort.Sort.{Sort}
use Rattle.cb_shapes.specs.declared.sort.Sort.TheVariants as sorts
use Rattle.cb_act.specs.Acting.{Deed, default_of, going_on, need_of, on_field, on_static, put_deed, roots_left, with_roots}
use Rattle.cb_act.specs.Going.{behind_put_static}
use Rattle.cb_act.specs.Objects.{Goes, Suits, SuitsWords, behind_load_element, element_read, object_on, on_element, on_stack, read_on}
use Rattle.cb_act.proofs.Going.{going_there}
use Rattle.cb_act.proofs.ReadGoing.{put_static_read}

value_same : (basic : Basic) (content : Content) → value_in basic content ≡ value_in (default_of (sort_of_basic basic)) content
value_same basics.Boolean (Reference serial) = refl
value_same basics.Byte (Reference serial) = refl
value_same basics.Char (Reference serial) = refl
value_same basics.Short (Reference serial) = refl
value_same basics.Int (Reference serial) = refl
value_same basics.Long (Reference serial) = refl
value_same (basics.Reference kind) (Reference serial) = refl
value_same basics.Boolean (Number number) = refl
value_same basics.Byte (Number number) = refl
value_same basics.Char (Number number) = refl
value_same basics.Short (Number number) = refl
value_same basics.Int (Number number) = refl
value_same basics.Long (Number number) = refl
value_same (basics.Reference kind) (Number number) = refl

suits_same : (basic : Basic) (content : Option Content) → Suits basic content → Suits (default_of (sort_of_basic basic)) content
suits_same basics.Boolean None suits = suits
suits_same basics.Boolean (Some (Number number)) suits = suits
suits_same basics.Boolean (Some (Reference serial)) suits = suits
suits_same basics.Byte None suits = suits
suits_same basics.Byte (Some (Number number)) suits = suits
suits_same basics.Byte (Some (Reference serial)) suits = suits
suits_same basics.Char None suits = suits
suits_same basics.Char (Some (Number number)) suits = suits
suits_same basics.Char (Some (Reference serial)) suits = suits
suits_same basics.Short None suits = suits
suits_same basics.Short (Some (Number number)) suits = suits
suits_same basics.Short (Some (Reference serial)) suits = suits
suits_same basics.Int content suits = suits
suits_same basics.Long content suits = suits
suits_same (basics.Reference kind) None suits = suits
suits_same (basics.Reference kind) (Some (Number number)) suits = suits
suits_same (basics.Reference kind) (Some (Reference serial)) suits = suits

module _ (view : View) where
  read_same : (rest : List Value) (basic : Basic) (content : Option Content) → read_on view rest basic content ≡ read_on view rest (default_of (sort_of_basic basic)) content
  read_same rest basic None = refl
  read_same rest basic (Some content) = ap (λ value. Some (Goes (on_stack view (value ∷ rest)))) (value_same basic content)

  element_same : (basic : Basic) (found : List Value × List Value) → element_read view basic found ≡ element_read view (default_of (sort_of_basic basic)) found
  element_same basic (Int index ∷ Ref array ∷ [], rest) = ap (on_element view array index) (read_same rest basic (content_at view.objects array (natural index)))
  element_same basic ([], rest) = refl
  element_same basic (Int index ∷ [], rest) = refl
  element_same basic (Int index ∷ Ref array ∷ more ∷ others, rest) = refl
  element_same basic (Int index ∷ Int other ∷ more, rest) = refl
  element_same basic (Int index ∷ Long other ∷ more, rest) = refl
  element_same basic (Long first ∷ more, rest) = refl
  element_same basic (Ref first ∷ more, rest) = refl

  loads_same : (basic : Basic) → behind_load_element basic view ≡ behind_load_element (default_of (sort_of_basic basic)) view
  loads_same basic = go (taken (sorts.Int ∷ sorts.Reference ∷ []) (top_stack view.roots)) where
    go : (found : Option (List Value × List Value)) → option_and_then (element_read view basic) found ≡ option_and_then (element_read view (default_of (sort_of_basic basic))) found
    go None = refl
    go (Some found) = element_same basic found

  -- an element is read by its sort
  pub loads_so : (basic : Basic) (sort : Sort) → sort_of_basic basic ≡ sort → behind_load_element basic view ≡ behind_load_element (default_of sort) view
  loads_so basic sort is = loads_same basic ∙ ap (λ sort. behind_load_element (default_of sort) view) is

  pub words_so : (basic : Basic) (sort : Sort) (depth : ℕ) → sort_of_basic basic ≡ sort → SuitsWords basic depth view → SuitsWords (default_of sort) depth view
  words_so basic sort depth is suits word low =
      subst (λ sort. Suits (default_of sort) (content_at view.objects (object_on view depth) word)) is
      (suits_same basic (content_at view.objects (object_on view depth) word) (suits word low))

-- where a field is named, what its values are is there
there_of : {A : Type 0} (go : A → Option Deed) (found : Option A) → is_some (option_and_then go found) ≡ true → is_some found ≡ true
there_of go None is = absurd (false≢true is)
there_of go (Some found) is = refl

pub field_told : (program : Linked) (go : ℕ → Basic → Option Deed) (named : Named) → is_some (on_field program go named) ≡ true → is_some (basic_named program named) ≡ true
field_told program go (meanings.Field class slot) is = there_of (go slot) (field_basic program class slot) is
field_told program go other is = absurd (cc is)

pub static_told : (program : Linked) (decoded : Decoded) (view : View) (class slot : ℕ) (own : ClassState) → decoded.named ≡ meanings.Static class slot
    → slice_get view.roots.classes class ≡ Some own → need_of class own ≡ None → is_some (on_static (put_deed program decoded view) decoded.named) ≡ true
    → is_some (basic_named program decoded.named) ≡ true
static_told program decoded view class slot own names at ready there =
    let go : (Basic → Option Deed) = λ basic. going_on decoded (roots_left view (behind_put_static slot basic view.roots)) in
    let same : on_static (put_deed program decoded view) decoded.named ≡ option_and_then go (static_basic program slot) = rw (names, at, ready) refl in
    ap (λ named. is_some (basic_named program named)) names ∙ there_of go (static_basic program slot) (ap is_some (sym same) ∙ there)

pub field_on : (program : Linked) (go : ℕ → Basic → Option Deed) (named : Named) (class slot : ℕ) (basic : Basic) → named ≡ meanings.Field class slot
    → field_basic program class slot ≡ Some basic → on_field program go named ≡ go slot basic
field_on program go named class slot basic names is = ap (on_field program go) names ∙ ap (option_and_then (go slot)) is

some_mapped : {A B : Type 0} (f : A → B) (some : Option A) → is_some (option_map f some) ≡ is_some some
some_mapped f None = refl
some_mapped f (Some a) = refl

pub put_there : (index : ℕ → ℕ) (objects : List (Option Object)) (held : Roots) (program : Linked) (decoded : Decoded) (class slot : ℕ) (own : ClassState) (basic : Basic)
    → decoded.named ≡ meanings.Static class slot → slice_get held.classes class ≡ Some own → need_of class own ≡ None → static_basic program slot ≡ Some basic
    → is_some (on_static (put_deed program decoded (seen index objects held)) decoded.named) ≡ true → is_some (behind_put_static slot basic held) ≡ true
put_there index objects held program decoded class slot own basic names at ready typed there =
    let view = seen index objects held in
    let same : on_static (put_deed program decoded view) decoded.named ≡ going_on decoded (roots_left view (behind_put_static slot basic (read_roots index held))) =
    rw (names, at, ready, typed) refl in
    let left = going_there decoded (roots_left view (behind_put_static slot basic (read_roots index held))) (ap is_some (sym same) ∙ there) in
    sym (some_mapped (read_roots index) (behind_put_static slot basic held)) ∙ ap is_some (sym (put_static_read index held slot basic))
    ∙ sym (some_mapped (λ roots. Goes (with_roots view roots)) (behind_put_static slot basic (read_roots index held))) ∙ left
