-- Constants of enums by their names, and how many there are.
use Rattle.std.proofs.Common.{◌≡◌, ◌∙◌, ◌⊎◌, inl, inr, ap, arith, cond, refl, sym, ℕ, zero, suc, ◌+◌, ◌≤◌, Bool, true, false, ◌&&◌, ◌==◌, List, [], ◌∷◌, drop, filter, length, map, Option, Some, None, option_and_then, option_map, slice_get}
use Rattle.std.proofs.lemmas.List.{drop_all, length-map}
use Rattle.std.proofs.lemmas.Option.{same_Some, slice_get-map}
use Rattle.std.specs.List.{enumerate_from, find}
use Rattle.cb_classfile.specs.Flags.{acc_static}
use Rattle.cb_classfile.specs.Pool.{text_at}
use Rattle.cb_classfile.specs.declared.class.ClassFile.{ClassFile}
use Rattle.cb_classfile.specs.declared.field.Field.{Field}
use Rattle.cb_heap.specs.Kept.{content_at}
use Rattle.cb_heap.specs.Reading.{read_roots, read_value, serial_of}
use Rattle.cb_hierarchy.specs.declared.member.Field.{Field as RankedField}
use Rattle.cb_kinds.specs.Texts.{same_text}
use Rattle.cb_link.specs.Numbers.{Numbered, acc_enum, fields_of, has_flag, or_none, ranked_field, ranked_fields}
use Rattle.cb_link.specs.Slots.{enum_statics, is_enum_static, slot_of, statics}
use Rattle.cb_machine.specs.Enums.{gives_static, has_name, of_class, of_object, once_class}
use Rattle.cb_machine.specs.Performing.{Call, Performed, gives, on_object}
use Rattle.cb_plain.specs.State.{Content, Roots}
use Rattle.cb_plain.specs.declared.class_state.ClassState.{ClassState}
use Rattle.cb_plain.specs.declared.class_state.ClassState.TheVariants.{Busy, Done}
use Rattle.cb_plain.specs.declared.value.Value.{Value}
use Rattle.cb_natives.specs.Answers.{Beside}
use Rattle.cb_natives.specs.Enums.{class_of_word}
use Rattle.cb_natives.proofs.OwnLaws.{word_there}
use Rattle.cb_natives.proofs.UnitLaws.{rest_of}

-- ---- the name of a static field

pub name_tested : (name units : List ℕ) (field : Option (Numbered Field)) → option_map (λ field. or_none (text_at field.pool field.member.name)) field ≡ Some name
    → has_name units field ≡ same_text name units
name_tested name units None is = absurd (cc is)
name_tested name units (Some field) is = ap (λ name. same_text name units) (same_Some _ _ is)

-- ---- the first that passes a test

none_from : (items : List ℕ) (place : ℕ) → slice_get items place ≡ None → drop place items ≡ []
none_from [] zero is = refl
none_from [] (suc place) is = refl
none_from (item ∷ items) zero is = absurd (cc is)
none_from (item ∷ items) (suc place) is = none_from items place is

pub none_more : (test : ℕ → Bool) (items : List ℕ) (place : ℕ) → slice_get items place ≡ None → find test (drop place items) ≡ None
none_more test items place is = ap (find test) (none_from items place is)

pub none_behind : (test : ℕ → Bool) (items : List ℕ) (place : ℕ) → length items ≤ place → find test (drop place items) ≡ None
none_behind test items place behind = ap (find test) (drop_all place items behind)

pub first_here : (test : ℕ → Bool) (items : List ℕ) (place item : ℕ) → slice_get items place ≡ Some item → test item ≡ true → find test (drop place items) ≡ Some item
first_here test items place item is passes =
    ap (find test) (rest_of items place item is) ∙ ap (λ is. cond is (Some item) (find test (drop (place + 1) items))) passes

pub first_further : (test : ℕ → Bool) (items : List ℕ) (place item : ℕ) → slice_get items place ≡ Some item → test item ≡ false
    → find test (drop place items) ≡ find test (drop (place + 1) items)
first_further test items place item is fails =
    ap (find test) (rest_of items place item is) ∙ ap (λ is. cond is (Some item) (find test (drop (place + 1) items))) fails

-- ---- an enum has no more constants than there are static fields

and_first : (one other : Bool) → (one && other) ≡ true → one ≡ true
and_first true other is = refl
and_first false other is = is

and_second : (one other : Bool) → (one && other) ≡ true → other ≡ true
and_second true other is = is
and_second false other is = absurd (cc is)

one_more : {A B : Type 0} (first : A) (second : B) (firsts : List A) (seconds : List B) (one other : Bool) → (one ≡ true → other ≡ true) → length firsts ≤ length seconds
    → length (cond one (first ∷ firsts) firsts) ≤ length (cond other (second ∷ seconds) seconds)
one_more first second firsts seconds true true so few = omega (arith, few)
one_more first second firsts seconds true false so few = absurd (cc (so refl))
one_more first second firsts seconds false true so few = omega (arith, few)
one_more first second firsts seconds false false so few = few

module _ {A B : Type 0} (of : A → B) (one : A → Bool) (other : B → Bool) (implied : (item : A) → one item ≡ true → other (of item) ≡ true) where
  few_picked : (from : ℕ) (items : List A)
      → length (filter (λ entry. one entry.1) (enumerate_from from items)) ≤ length (filter (λ entry. other entry.1) (enumerate_from from (map of items)))
  few_picked from [] = omega arith
  few_picked from (item ∷ items) =
      one_more (from, item) (from, of item) (filter (λ entry. one entry.1) (enumerate_from (from + 1) items)) (filter (λ entry. other entry.1) (enumerate_from (from + 1) (map of items)))
      (one item) (other (of item)) (implied item) (few_picked (from + 1) items)

enum_is_static : (classes : List ClassFile) (class : ℕ) (field : Numbered Field) → ((field.class == class) && is_enum_static classes field) ≡ true
    → has_flag acc_static field.member.flags.0 ≡ true
enum_is_static classes class field is =
    and_first (has_flag acc_static field.member.flags.0) (has_flag acc_enum field.member.flags.0)
    (and_first (has_flag acc_static field.member.flags.0 && has_flag acc_enum field.member.flags.0) _ (and_second (field.class == class) (is_enum_static classes field) is))

pub constants_few : (classes : List ClassFile) (class : ℕ) → length (enum_statics classes class) ≤ length (statics classes)
constants_few classes class =
    let few = few_picked (ranked_field classes) (λ field. (field.class == class) && is_enum_static classes field) (λ field. field.is_static) (enum_is_static classes class) 0 (fields_of classes) in
    omega (
      arith,
      few,
      length-map (filter (λ (entry : ℕ × Numbered Field). (entry.1.class == class) && is_enum_static classes entry.1) (enumerate_from 0 (fields_of classes))) (λ entry. slot_of classes entry.0),
      length-map (filter (λ (entry : ℕ × RankedField). entry.1.is_static) (enumerate_from 0 (ranked_fields classes))) (λ entry. entry.0),
    )

-- ---- the roots and the call

-- a call of this program over these objects and roots
abbrev pub beside : (ℕ → ℕ) → Roots → (input printed : List ℕ) → Beside
beside index held input printed = record { roots = read_roots index held; input = input; printed = printed; exit = None }

-- the value of a static field is given
pub static_is : (index : ℕ → ℕ) (call : Call) (statics : List Value) (slot : ℕ) (value : Value) → call.state.roots.statics ≡ map (read_value index) statics → slice_get statics slot ≡ Some value
    → gives_static call (Some slot) ≡ gives call (read_value index value ∷ [])
static_is index call statics slot value read is =
    ap (option_and_then (λ (value : Value). gives call (value ∷ [])))
    (ap (λ (statics : List Value). slice_get statics slot) read ∙ slice_get-map (read_value index) statics slot ∙ ap (option_map (read_value index)) is)

-- a class that may be used
pub class_ready : (call : Call) (class : ℕ) (ready : Option Performed) (now : ClassState) → slice_get call.state.roots.classes class ≡ Some now → (now ≡ Busy) ⊎ (now ≡ Done)
    → option_and_then (once_class call class ready) (slice_get call.state.roots.classes class) ≡ ready
class_ready call class ready now there (inl is) = ap (option_and_then (once_class call class ready)) (there ∙ ap Some is)
class_ready call class ready now there (inr is) = ap (option_and_then (once_class call class ready)) (there ∙ ap Some is)

-- the class of a class object
pub class_object : (call : Call) (index : ℕ → ℕ) (at name : ℕ) (content : Content) (found : Option ℕ) → (at ≡ 0 → ⊥) → content_at call.state.objects (serial_of index at) 0 ≡ Some content
    → class_of_word call.machine.program (content_at call.state.objects (serial_of index at) 0) ≡ found
    → on_object call (serial_of index at) (of_object call name) ≡ of_class call name found
class_object call index zero name content found apart there is = absurd (apart refl)
class_object call index (suc place) name content found apart there is =
    let object = word_there call.state.objects (serial_of index (suc place)) 0 content there in
    ap (option_and_then (of_object call name)) object.1
    ∙ ap (λ (word : Option Content). of_class call name (class_of_word call.machine.program word)) (object.2 ∙ sym there) ∙ ap (of_class call name) is
