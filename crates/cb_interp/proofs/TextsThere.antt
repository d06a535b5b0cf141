-- In a typed heap what may be held as a string can be read, and what may be held as a throwable can be told.
use Rattle.std.proofs.Common.{◌≡◌, ◌∙◌, ◌&&◌, Bool, true, ap, ap₂, refl, sym, subst, ℕ, ℤ, zero, suc, ◌<◌, ◌++◌, List, [], ◌∷◌, append-nil, append_assoc, length, Option, Some, None, option_and_then, option_map, slice_get}
use Rattle.std.specs.Prelude.{codes, is_some}
use Rattle.std.proofs.lemmas.Option.{same_Some}
use Rattle.cb_arith.proofs.Laws.{low_bits-lt}
use Rattle.cb_arith.specs.Bits.{low_bits}
use Rattle.cb_heap.specs.Kept.{content_at, contents_at, is_held, is_kept, is_reference}
use Rattle.cb_kinds.specs.declared.basic.Basic.{Basic}
use Rattle.cb_kinds.specs.declared.basic.Basic.TheVariants as basics
use Rattle.cb_library.specs.declared.native.Native.TheVariants as natives
use Rattle.cb_link.specs.Program.{Linked}
use Rattle.cb_machine.specs.Performing.{Call, Performed, gives_text, reference_at, text_of}
use Rattle.cb_machine.specs.Texts.{class_name, text_native}
use Rattle.cb_plain.specs.State.{Content, Number, Object, Reference}
use Rattle.cb_plain.specs.Updates.{object_at, object_in}
use Rattle.cb_plain.specs.declared.value.Value.TheVariants.{Ref}
use Rattle.cb_safety.proofs.Laws.{Found, found}
use Rattle.cb_safety.specs.Heap.{Holds, IsHeap}
use Rattle.cb_safety.specs.Held.{HasContent}
use Rattle.cb_safety.specs.Kinds.{IsOfKind, Kinds, Refers, kinds_of}
use Rattle.cb_safety.specs.Naming.{Components, HasElements, HasField}
use Rattle.cb_safety.specs.Performing.{HasCore, HaveField}
use Rattle.cb_safety.specs.Signatures.{characters}
use Rattle.cb_verify.specs.Within.{kind_of_string, kind_of_throwable}
use Rattle.cb_interp.specs.Printing.{HoldsUnits, IsUnit, array_of, referred_word}
use Rattle.cb_interp.specs.Texts.{IsString, IsTellable, exception_units, message_slot, message_units}
use Rattle.cb_interp.proofs.TextReading.{contents_are, kept_held}
use Rattle.cb_interp.proofs.TurnsNativeString.{no_units}

-- ---- words by their types

char_unit : (program : Linked) (kinds : Kinds) (content : Content) → HasContent program kinds basics.Char content → IsUnit (Some content)
char_unit program kinds content (HasContent.AnInt own number is fits kept) =
    subst (λ (number : ℤ). IsUnit (Some (Number number))) kept (record { unit = low_bits 16 number; is = refl; low = low_bits-lt 16 number })

reference_word : (program : Linked) (kinds : Kinds) (kind : ℕ) (content : Content) → HasContent program kinds (basics.Reference kind) content
    → (serial : ℕ) × (content ≡ Reference serial) × Refers program kinds kind serial
reference_word program kinds kind content (HasContent.AReference own serial refers) = (serial, refl, refers)
reference_word program kinds kind content (HasContent.AnInt own number is fits kept) = absurd (cc is)

char_element : (program : Linked) (element : Basic) → Components program element basics.Char → element ≡ basics.Char
char_element program element (Components.Alike own none) = refl

named_by : (program : Linked) (kinds : Kinds) (kind word place : ℕ) → Refers program kinds kind word → word ≡ suc place → IsOfKind program kinds kind (suc place)
named_by program kinds kind word place Refers.ToNull same = absurd (cc same)
named_by program kinds kind word place (Refers.To own is) same = subst (λ (serial : ℕ). IsOfKind program kinds kind serial) same is

same_word : (content : Option Content) (word place : ℕ) → content ≡ Some (Reference word) → content ≡ Some (Reference (suc place)) → word ≡ suc place
same_word content word place is named = cc (sym is ∙ named)

-- the first word of an object of a kind, where it is a reference
record FirstWord (program : Linked) (objects : List (Option Object)) (kind serial : ℕ) : Type 0 where
  pub object : Object
  pub there : object_in objects serial ≡ Some object
  pub low : object.kind < length program.kinds
  pub word : ℕ
  pub is : content_at objects serial 0 ≡ Some (Reference word)
  pub refers : Refers program (kinds_of objects) kind word

module _ (program : Linked) (objects : List (Option Object)) (core : HasCore program) (heap : IsHeap program objects) where
  first_word : (kind other serial : ℕ) → HaveField program kind 0 (basics.Reference other) → IsOfKind program (kinds_of objects) kind serial → FirstWord program objects other serial
  first_word kind other serial have is =
      let at : Found program objects kind serial = found program objects kind serial heap is in
      let has : HasField program at.object.kind 0 (basics.Reference other) = have at.object.kind at.goes in
      let holds : Holds program (kinds_of objects) at.object.contents 0 (basics.Reference other) = at.is.fields has.class 0 (basics.Reference other) has.classed has.declared in
      let one = reference_word program (kinds_of objects) other holds.content holds.fits in
      record {
        object = at.object;
        there = at.there;
        low = at.is.kind;
        word = one.0;
        is = ap (λ (contents : List Content). slice_get contents 0) (contents_are objects serial at.object at.there) ∙ holds.there ∙ ap {B = Option Content} Some one.1;
        refers = one.2;
      }

  holds_units : (serial : ℕ) → IsOfKind program (kinds_of objects) (characters program) serial → (is_kept objects serial ≡ true) × HoldsUnits objects serial
  holds_units serial is =
      let at : Found program objects (characters program) serial = found program objects (characters program) serial heap is in
      let has : HasElements program at.object.kind basics.Char = core.elements at.object.kind (characters program) basics.Char at.goes core.char_elements in
      let same : contents_at objects serial ≡ at.object.contents = contents_are objects serial at.object at.there in (
        ap is_some at.there,
        λ word low.
            let holds : Holds program (kinds_of objects) at.object.contents word basics.Char =
            at.is.elements basics.Char word (has.is ∙ ap {B = Option Basic} Some (char_element program has.element has.held)) (subst (λ (contents : List Content). word < length contents) same low) in
            subst IsUnit (sym (ap (λ (contents : List Content). slice_get contents word) same ∙ holds.there)) (char_unit program (kinds_of objects) holds.content holds.fits),
      )

  -- the array of a string, null among them
  array_there : (word : ℕ) → Refers program (kinds_of objects) (characters program) word → (is_held objects word ≡ true) × HoldsUnits objects word
  array_there zero Refers.ToNull = (refl, no_units objects 0 refl)
  array_there word (Refers.To own is) = let (kept, units) = holds_units word is in (kept_held objects word kept, units)

  string_there : (place : ℕ) → IsOfKind program (kinds_of objects) kind_of_string (suc place) → IsString objects (suc place)
  string_there place is =
      let first : FirstWord program objects (characters program) (suc place) = first_word kind_of_string (characters program) (suc place) core.strings is in
      let (held, units) = array_there first.word first.refers in
      let word : array_of objects (suc place) ≡ first.word = ap referred_word first.is in
      record {
        text = ap₂ (λ (one other : Bool). one && other) (ap is_reference first.is) (ap (is_held objects) word ∙ held);
        units = subst (HoldsUnits objects) (sym word) units;
      }

  pub exception_there : (serial : ℕ) → IsOfKind program (kinds_of objects) kind_of_throwable serial → IsTellable program objects serial
  exception_there serial is =
      let first : FirstWord program objects kind_of_string serial = first_word kind_of_throwable kind_of_string serial core.messages is in
      record {
        object = first.object;
        there = first.there;
        kind = first.low;
        word = ap is_reference first.is;
        message = λ place named.
            string_there place (named_by program (kinds_of objects) kind_of_string first.word place first.refers (same_word (content_at objects serial 0) first.word place first.is named));
      }

-- ---- the text is what the library's native says

module _ (call : Call) (exception : Object) (units : List ℕ) where
  abbrev name : List ℕ
  name = class_name call.machine.program exception.kind

  abbrev says : List ℕ → Option Performed
  says message = gives_text call (name ++ codes ": " ++ message)

  text_said : (text : Option (List ℕ)) → option_map (λ (message : List ℕ). name ++ message) (option_map (λ (units : List ℕ). codes ": " ++ units) text) ≡ Some units
      → option_and_then says text ≡ gives_text call units
  text_said None is = absurd (cc is)
  text_said (Some message) is = ap (gives_text call) (append_assoc name (codes ": ") message ∙ same_Some (name ++ (58 ∷ 32 ∷ message)) units is)

  string_said : (found : Option Object)
      → option_map (λ (message : List ℕ). name ++ message) (option_map (λ (units : List ℕ). codes ": " ++ units) (option_and_then (text_of call.state) found)) ≡ Some units
      → option_and_then (λ (string : Object). option_and_then says (text_of call.state string)) found ≡ gives_text call units
  string_said None is = absurd (cc is)
  string_said (Some string) is = text_said (text_of call.state string) is

  message_said : (place message : ℕ) → object_at call.state (suc place) ≡ Some exception
      → option_map (λ (message : List ℕ). name ++ message) (message_units call.state message) ≡ Some units
      → text_native call natives.ThrowableSay (Ref (suc place) ∷ Ref message ∷ []) ≡ gives_text call units
  message_said place zero there is = rw there (ap (gives_text call) (sym (append-nil name) ∙ same_Some (name ++ []) units is))
  message_said place (suc message) there is = rw there (string_said (object_at call.state (suc message)) is)

  pub exception_said : (place message : ℕ) → object_at call.state (suc place) ≡ Some exception → reference_at exception message_slot ≡ Some message
      → exception_units call.machine.program call.state exception ≡ Some units
      → text_native call natives.ThrowableSay (Ref (suc place) ∷ Ref message ∷ []) ≡ gives_text call units
  exception_said place message there stored is =
      message_said place message there
      (sym (ap (λ (found : Option ℕ). option_map (λ (message : List ℕ). name ++ message) (option_and_then (message_units call.state) found)) stored) ∙ is)
