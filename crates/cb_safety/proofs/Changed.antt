-- A state in which one word of an object is another: it stays typed, and objects are of the kinds that they were of.
use Rattle.std.proofs.Common.{◌≡◌, ◌∙◌, ap, arith, refl, sym, subst, ℕ, zero, suc, ◌<◌, List, [], ◌∷◌, length, Option, Some, None, option_map, slice_get, slice_set}
use Rattle.std.proofs.lemmas.Option.{same_Some}
use Rattle.cb_kinds.specs.declared.basic.Basic.{Basic}
use Rattle.cb_link.specs.Calls.{class_of_kind}
use Rattle.cb_link.specs.Program.{Linked}
use Rattle.cb_link.specs.Slots.{field_basic}
use Rattle.cb_machine.specs.Arrays.{element_of}
use Rattle.cb_plain.specs.State.{Content, Object, State}
use Rattle.cb_plain.specs.Updates.{kept, object_in, with_contents_at, with_contents_in}
use Rattle.cb_safety.specs.Heap.{Holds, IsHeap, IsKnownWord, IsObject}
use Rattle.cb_safety.specs.Held.{HasContent}
use Rattle.cb_safety.specs.Kinds.{Kinds, kinds_of}
use Rattle.cb_safety.specs.States.{AreRoots, IsTypedState}
use Rattle.cb_safety.proofs.Known.{all_set, content_known}
use Rattle.cb_safety.proofs.Assigned.{never}

-- ---- lists with one item changed

pub set_length : {Item : Type 0} (items : List Item) (place : ℕ) (item : Item) → length (slice_set items place item) ≡ length items
set_length [] place item = refl
set_length (first ∷ items) zero item = refl
set_length (first ∷ items) (suc place) item = ap suc (set_length items place item)

-- an item is the new one, at its place, or one that was there
pub data IsItem {Item : Type 0} (items : List Item) (place at : ℕ) (item own : Item) : Type 0 where
  TheNew : at ≡ place → slice_get (slice_set items place item) at ≡ Some item → IsItem items place at item own
  AnOld : slice_get (slice_set items place item) at ≡ Some own → IsItem items place at item own

pub item_of : {Item : Type 0} (items : List Item) (place at : ℕ) (item own : Item) → slice_get items at ≡ Some own → IsItem items place at item own
item_of [] place at item own is = never is
item_of (first ∷ items) zero zero item own is = IsItem.TheNew refl refl
item_of (first ∷ items) zero (suc at) item own is = IsItem.AnOld is
item_of (first ∷ items) (suc place) zero item own is = IsItem.AnOld is
item_of (first ∷ items) (suc place) (suc at) item own is = elim (item_of items place at item own is) [
  | IsItem.TheNew same there ↦ IsItem.TheNew (ap suc same) there
  | IsItem.AnOld there ↦ IsItem.AnOld there
]

-- ---- an object

abbrev pub with_contents : Object → List Content → Object
with_contents object contents = record { site = object.site; kind = object.kind; contents = contents }

-- the word at a place is a field or an element of this type, if it is any
pub record MayHold (program : Linked) (kind place : ℕ) (basic : Basic) : Type 0 where
  pub fields : (class : ℕ) → (own : Basic) → class_of_kind program kind ≡ Some class → field_basic program class place ≡ Some own → own ≡ basic
  pub elements : (own : Basic) → element_of program kind ≡ Some own → own ≡ basic

holds_set : (program : Linked) (kinds : Kinds) (contents : List Content) (place at : ℕ) (content : Content) (basic own : Basic) → HasContent program kinds basic content
    → (at ≡ place → own ≡ basic) → Holds program kinds contents at own → Holds program kinds (slice_set contents place content) at own
holds_set program kinds contents place at content basic own fits same holds = elim (item_of contents place at content holds.content holds.there) [
  | IsItem.TheNew here there ↦ record { content = content; there = there; fits = subst (λ (basic : Basic). HasContent program kinds basic content) (sym (same here)) fits }
  | IsItem.AnOld there ↦ record { content = holds.content; there = there; fits = holds.fits }
]

pub object_set : (program : Linked) (kinds : Kinds) (object : Object) (place : ℕ) (content : Content) (basic : Basic) → MayHold program object.kind place basic
    → HasContent program kinds basic content → IsObject program kinds object → IsObject program kinds (with_contents object (slice_set object.contents place content))
object_set program kinds object place content basic may fits is = record {
  kind = is.kind;
  site = is.site;
  sized = λ marks same. is.sized marks same ∙ sym (set_length object.contents place content);
  fields = λ class slot own classed declared.
      holds_set program kinds object.contents place slot content basic own fits
      (λ here. may.fields class own classed (ap (field_basic program class) (sym here) ∙ declared)) (is.fields class slot own classed declared);
  elements = λ own at component low.
      holds_set program kinds object.contents place at content basic own fits (λ here. may.elements own component)
      (is.elements own at component (subst (λ (count : ℕ). at < count) (set_length object.contents place content) low));
  few = λ own component. omega (arith, set_length object.contents place content, is.few own component);
  words = all_set (IsKnownWord kinds) object.contents place content is.words (content_known program kinds basic content fits);
}

-- ---- the heap

kinds_behind : (entry : Option Object) (entries others : List (Option Object)) → kinds_of entries ≡ kinds_of others → kinds_of (entry ∷ entries) ≡ kinds_of (entry ∷ others)
kinds_behind entry entries others same = ap (λ (kinds : Kinds). option_map (λ (object : Object). object.kind) entry ∷ kinds) same

changed_kinds : (objects : List (Option Object)) (place : ℕ) (contents : List Content) → kinds_of (with_contents_in objects (suc place) contents) ≡ kinds_of objects
changed_kinds [] place contents = refl
changed_kinds (None ∷ objects) zero contents = refl
changed_kinds (Some object ∷ objects) zero contents = refl
changed_kinds (entry ∷ objects) (suc place) contents = kinds_behind entry _ _ (changed_kinds objects place contents)

-- what is there was there, or is the object with its new contents
changed_each : (P : Object → Type 0) (objects : List (Option Object)) (place : ℕ) (object : Object) (contents : List Content) → kept (slice_get objects place) ≡ Some object
    → P (with_contents object contents) → ((at : ℕ) (own : Object) → kept (slice_get objects at) ≡ Some own → P own)
    → (at : ℕ) (own : Object) → kept (slice_get (with_contents_in objects (suc place) contents) at) ≡ Some own → P own
changed_each P [] place object contents there new old at own is = never is
changed_each P (None ∷ objects) zero object contents there new old at own is = never there
changed_each P (Some first ∷ objects) zero object contents there new old zero own is =
    subst P (same_Some (with_contents first contents) own is) (subst (λ (object : Object). P (with_contents object contents)) (sym (same_Some first object there)) new)
changed_each P (Some first ∷ objects) zero object contents there new old (suc at) own is = old (suc at) own is
changed_each P (entry ∷ objects) (suc place) object contents there new old zero own is = old zero own is
changed_each P (entry ∷ objects) (suc place) object contents there new old (suc at) own is =
    changed_each P objects place object contents there new (λ at. old (suc at)) at own is

pub kinds_set : (objects : List (Option Object)) (serial : ℕ) (contents : List Content) → kinds_of (with_contents_in objects serial contents) ≡ kinds_of objects
kinds_set objects zero contents = refl
kinds_set objects (suc place) contents = changed_kinds objects place contents

pub heap_set : (program : Linked) (objects : List (Option Object)) (place : ℕ) (object : Object) (contents : List Content) → IsHeap program objects
    → object_in objects (suc place) ≡ Some object → IsObject program (kinds_of objects) (with_contents object contents) → IsHeap program (with_contents_in objects (suc place) contents)
heap_set program objects place object contents heap there new = record {
  each = λ serial own is. subst (λ (kinds : Kinds). IsObject program kinds own) (sym (changed_kinds objects place contents)) (by serial own is);
}
  where
    by : (serial : ℕ) (own : Object) → object_in (with_contents_in objects (suc place) contents) serial ≡ Some own → IsObject program (kinds_of objects) own
    by zero own is = never is
    by (suc at) own is = changed_each (IsObject program (kinds_of objects)) objects place object contents there new (λ at. heap.each (suc at)) at own is

-- ---- the state

pub state_set : (program : Linked) (state : State) (serial : ℕ) (object : Object) (place : ℕ) (content : Content) (basic : Basic) → IsTypedState program state
    → object_in state.objects serial ≡ Some object → MayHold program object.kind place basic → HasContent program (kinds_of state.objects) basic content
    → IsTypedState program (with_contents_at state serial (slice_set object.contents place content))
state_set program state zero object place content basic typed there may fits = never there
state_set program state (suc at) object place content basic typed there may fits = record {
  heap = heap_set program state.objects at object (slice_set object.contents place content) typed.heap there
      (object_set program (kinds_of state.objects) object place content basic may fits (typed.heap.each (suc at) object there));
  roots = subst (λ (kinds : Kinds). AreRoots program kinds state.roots) (sym (changed_kinds state.objects at (slice_set object.contents place content))) typed.roots;
  input = typed.input;
}
