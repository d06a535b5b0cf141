-- What natives read and leave: what is common to them.
use Rattle.std.proofs.Common.{◌≡◌, ◌∙◌, ap, append-nil, arith, refl, sym, subst, ℕ, ℤ, pos, negsuc, zero, suc, ◌<◌, ◌≤◌, ◌^◌, FitsSigned, Bool, true, false, List, [], ◌∷◌, ◌++◌, length, Option, Some, option_and_then, option_map, slice_get, take}
use Rattle.std.specs.Prelude.{min}
use Rattle.std.specs.Int.{w32, w64}
use Rattle.std.specs.List.{AllByRecursion, Contains}
use Rattle.std.proofs.lemmas.Bool.{false≢true}
use Rattle.std.proofs.lemmas.List.{length-take}
use Rattle.std.proofs.lemmas.Option.{same_Some}
use Rattle.cb_arith.proofs.Laws.{low_bits-lt}
use Rattle.cb_kinds.specs.Basics.{is_reference}
use Rattle.cb_kinds.specs.declared.basic.Basic.{Basic}
use Rattle.cb_kinds.specs.declared.basic.Basic.TheVariants as basics
use Rattle.cb_link.specs.Program.{Linked}
use Rattle.cb_machine.specs.Arrays.{element_of}
use Rattle.cb_machine.specs.Machine.{Machine}
use Rattle.cb_machine.specs.Performing.{Call, Performed, Gives, array_words, built_text, count_slot, gives, most_elements, number_at, on_number, on_object, on_text, reference_at, stops, text_of, units_of, value_slot, words_at}
use Rattle.cb_machine.specs.Plans.{Plan, leaving}
use Rattle.cb_machine.specs.Sites.{null_pointer}
use Rattle.cb_machine.specs.Testing.{int_of}
use Rattle.cb_machine.specs.Throwing.{throws}
use Rattle.cb_machine.specs.Values.{kept_int}
use Rattle.cb_plain.specs.State.{Content, Number, Object, Reference, State}
use Rattle.cb_plain.specs.Updates.{object_at, with_contents_at}
use Rattle.cb_plain.specs.declared.value.Value.{Value}
use Rattle.cb_plain.specs.declared.value.Value.TheVariants as values
use Rattle.cb_verify.specs.declared.verification_type.VerificationType.{VerificationType}
use Rattle.cb_verify.specs.declared.verification_type.VerificationType.TheVariants as types
use Rattle.cb_verify.specs.Types.{type_of}
use Rattle.cb_verify.specs.Within.{kind_of_string}
use Rattle.cb_safety.specs.Heap.{Holds, IsObject}
use Rattle.cb_safety.specs.Held.{HasContent, HasType, IsStack}
use Rattle.cb_safety.specs.Kinds.{IsOfKind, Kinds, Refers, holds_kind, kinds_of}
use Rattle.cb_safety.specs.Naming.{Components, HasElements, HasField}
use Rattle.cb_safety.specs.Performing.{HasNatives, HaveField, native_sites}
use Rattle.cb_safety.specs.Signatures.{builder, characters}
use Rattle.cb_safety.specs.States.{AreRoots, IsInput, IsTypedState}
use Rattle.cb_safety.specs.Strings.{IsText}
use Rattle.cb_safety.proofs.Asking.{Found, found}
use Rattle.cb_safety.proofs.Assigned.{never}
use Rattle.cb_safety.proofs.Changed.{heap_set, kinds_set, with_contents}
use Rattle.cb_safety.proofs.Grown.{Grows}
use Rattle.cb_safety.proofs.Performed.{IsPerformed}
use Rattle.cb_safety.proofs.Returning.{Answers}
use Rattle.cb_safety.proofs.Rewritten.{all_taken}
use Rattle.cb_safety.proofs.Spelled.{fits_in}
use Rattle.cb_safety.proofs.StringsMade.{IsGood, objects_in}
use Rattle.cb_safety.proofs.Throwing.{throws_typed}

-- ---- answers

-- an int, which a boolean, a char and what is narrower are too
pub int_answer : (program : Linked) (kinds : Kinds) (basic : Basic) (number : ℤ) → type_of basic ≡ types.Int → FitsSigned w32 number → Answers program kinds (Some basic) (values.Int number ∷ [])
int_answer program kinds basic number int fits method held stack own is =
    subst (λ (type : VerificationType). IsStack method kinds (type ∷ held) (values.Int number ∷ stack)) (sym int)
    (IsStack.Upon types.Int (values.Int number) held stack (HasType.AnInt number fits) refl is)

long_answer : (program : Linked) (kinds : Kinds) (number : ℤ) → FitsSigned w64 number → Answers program kinds (Some basics.Long) (values.Long number ∷ [])
long_answer program kinds number fits method held stack own is = IsStack.Upon types.Long (values.Long number) held stack (HasType.ALong number fits) refl is

pub object_answer : (program : Linked) (kinds : Kinds) (kind serial : ℕ) → Refers program kinds kind serial → Answers program kinds (Some (basics.Reference kind)) (values.Ref serial ∷ [])
object_answer program kinds kind serial refers method held stack own is =
    IsStack.Upon (types.Object kind) (values.Ref serial) held stack
    (HasType.AReference kind serial (subst (λ (program : Linked). Refers program kinds kind serial) (sym own) refers)) refl is

-- ---- words of objects

-- the number that a word holds
pub record IsNumber (basic : Basic) (number : ℤ) : Type 0 where
  pub wide : FitsSigned w64 number
  pub narrow : (basic ≡ basics.Long → ⊥) → FitsSigned w32 number
  pub kept : (basic ≡ basics.Long → ⊥) → kept_int basic number ≡ number

int_wide : (number : ℤ) → FitsSigned w32 number → FitsSigned w64 number
int_wide number fits = fits_in w32 w64 number (omega arith) fits

pub is_number : (program : Linked) (kinds : Kinds) (basic : Basic) (content : Content) → is_reference basic ≡ false → HasContent program kinds basic content
    → (number : ℤ) × (content ≡ Number number) × IsNumber basic number
is_number program kinds basic content base (HasContent.AReference kind serial refers) = absurd (false≢true (sym base))
is_number program kinds basic content base (HasContent.ALong number fits) =
    (number, refl, record { wide = fits; narrow = λ other. absurd (other refl); kept = λ other. absurd (other refl) })
is_number program kinds basic content base (HasContent.AnInt own number is fits kept) =
    (number, refl, record { wide = int_wide number fits; narrow = λ other. fits; kept = λ other. kept })

-- the serial
pub record IsReference (program : Linked) (kinds : Kinds) (kind : ℕ) (content : Content) : Type 0 where
  pub serial : ℕ
  pub is : content ≡ Reference serial
  pub refers : Refers program kinds kind serial

pub is_its_reference : (program : Linked) (kinds : Kinds) (kind : ℕ) (content : Content) → HasContent program kinds (basics.Reference kind) content → IsReference program kinds kind content
is_its_reference program kinds kind content (HasContent.AReference own serial refers) = record { serial = serial; is = refl; refers = refers }
is_its_reference program kinds kind content (HasContent.AnInt own number is fits kept) = absurd (cc is)

-- ---- units

abbrev its_units : List Content → List ℕ
its_units contents = units_of (record { site = 0; kind = 0; contents = contents })

unit_low : (program : Linked) (kinds : Kinds) (content : Content) → HasContent program kinds basics.Char content → AllByRecursion (λ unit. unit < 2 ^ 16) (its_units (content ∷ []))
unit_low program kinds content has =
    let one = is_number program kinds basics.Char content refl has in
    go one.0 content one.1 (one.2.kept no_long)
  where
    no_long : basics.Char ≡ basics.Long → ⊥
    no_long same = cc same

    go : (number : ℤ) (content : Content) → content ≡ Number number → kept_int basics.Char number ≡ number → AllByRecursion (λ unit. unit < 2 ^ 16) (its_units (content ∷ []))
    go number content is kept =
        subst (λ (content : Content). AllByRecursion (λ unit. unit < 2 ^ 16) (its_units (content ∷ []))) (sym (is ∙ ap Number (sym kept))) (low_bits-lt 16 number, tt)

units_low : (program : Linked) (kinds : Kinds) (contents : List Content) → ((place : ℕ) → place < length contents → Holds program kinds contents place basics.Char)
    → AllByRecursion (λ unit. unit < 2 ^ 16) (its_units contents)
units_low program kinds [] each = tt
units_low program kinds (content ∷ contents) each =
    let first : Holds program kinds (content ∷ contents) 0 basics.Char = each 0 (omega arith) in
    let one = unit_low program kinds content (subst (HasContent program kinds basics.Char) (sym (same_Some content first.content first.there)) first.fits) in (
      one.0,
      units_low program kinds contents (λ place low.
          let own : Holds program kinds (content ∷ contents) (suc place) basics.Char = each (suc place) (omega (arith, low)) in
          record { content = own.content; there = own.there; fits = own.fits }),
    )

units_count : (contents : List Content) → length (its_units contents) ≡ length contents
units_count [] = refl
units_count (content ∷ contents) = ap suc (units_count contents)

-- the first of a text's units, as many as a builder counts
abbrev counted_of : List ℕ → ℤ → List ℕ
counted_of units (pos count) = take count units
counted_of units other = []

abbrev with_count : Object → List ℕ → Option (List ℕ)
with_count built units = option_map (counted_of units) (number_at built count_slot)

counted_text : (units : List ℕ) (count : ℤ) → IsText units → IsText (counted_of units count)
counted_text units (pos count) text =
    let few = text.few in
    let size : length (take count units) ≡ min count (length units) = length-take count units in
    record { each = all_taken (λ unit. unit < 2 ^ 16) count units text.each; few = omega (arith, few, size) }
counted_text units (negsuc count) text = record { each = tt; few = omega arith }

-- ---- the array of an object of a library's class, of a string or of a builder

pub data HasArray (program : Linked) (state : State) (own : Object) : Type 0 where
  NoArray : reference_at own value_slot ≡ Some 0 → HasArray program state own
  AnArray : (place : ℕ) → (array : Object) → reference_at own value_slot ≡ Some (suc place) → object_at state (suc place) ≡ Some array →
      holds_kind program array.kind (characters program) ≡ true → IsObject program (kinds_of state.objects) array → HasArray program state own

pub record HasWords (program : Linked) (state : State) (own : Object) : Type 0 where
  pub words : List Content
  pub is : array_words state own ≡ Some words
  pub each : (place : ℕ) → place < length words → Holds program (kinds_of state.objects) words place basics.Char
  pub few : length words ≤ most_elements

-- ---- a state in which a native is called

module _ (machine : Machine) (state : State) (natives : HasNatives machine.program) (typed : IsTypedState machine.program state) (runs : state.roots.pending ≡ 0) where
  abbrev pub kinds : Kinds
  kinds = kinds_of state.objects

  abbrev pub call : Call
  call = record { machine = machine; state = state }

  abbrev pub Is : Option Basic → Option Performed → Type 0
  Is result found = IsPerformed machine.program kinds result found

  -- an exception
  pub stops_typed : (result : Option Basic) (site : ℕ) → Contains native_sites site → Is result (stops call site)
  stops_typed result site among = IsPerformed.Stopped (throws machine state site) (throws_typed machine state site typed (natives.thrown site among))

  pub stops_null : (result : Option Basic) → Is result (stops call null_pointer)
  stops_null result = stops_typed result null_pointer (0, omega arith, refl)

  -- an answer, where objects and roots are as they were
  abbrev pub outside : List ℕ → List ℕ → Option ℤ → State
  outside input printed exit = record { roots = state.roots; objects = state.objects; input = input; printed = printed; exit = exit }

  pub gives_outside : (result : Option Basic) (input printed : List ℕ) (exit : Option ℤ) (answer : List Value) → IsInput input → Answers machine.program (kinds ++ []) result answer
      → Is result (Some (Gives (leaving (outside input printed exit)) answer))
  gives_outside result input printed exit answer are answers = IsPerformed.Given (leaving (outside input printed exit)) answer (record {
    typed = record { heap = typed.heap; roots = typed.roots; input = are };
    grows = record { more = []; is = sym (append-nil kinds); runs = runs };
    answers = answers;
  })

  pub gives_typed : (result : Option Basic) (answer : List Value) → Answers machine.program (kinds ++ []) result answer → Is result (gives call answer)
  gives_typed result answer answers = IsPerformed.Given (leaving state) answer (record { typed = typed; grows = record { more = []; is = sym (append-nil kinds); runs = runs }; answers = answers })

  pub gives_number : (basic : Basic) (number : ℤ) → type_of basic ≡ types.Int → FitsSigned w32 number → Is (Some basic) (gives call (values.Int number ∷ []))
  gives_number basic number int fits = gives_typed (Some basic) (values.Int number ∷ []) (int_answer machine.program (kinds ++ []) basic number int fits)

  pub gives_long : (number : ℤ) → FitsSigned w64 number → Is (Some basics.Long) (gives call (values.Long number ∷ []))
  gives_long number fits = gives_typed (Some basics.Long) (values.Long number ∷ []) (long_answer machine.program (kinds ++ []) number fits)

  pub gives_truth : (is : Bool) → Is (Some basics.Boolean) (gives call (int_of is ∷ []))
  gives_truth true = gives_number basics.Boolean (pos 1) refl (record { sfits = omega arith })
  gives_truth false = gives_number basics.Boolean (pos 0) refl (record { sfits = omega arith })

  -- an answer, where an object has other contents
  pub gives_changed : (result : Option Basic) (input printed : List ℕ) (exit : Option ℤ) (place : ℕ) (object : Object) (contents : List Content) (answer : List Value)
      → IsInput input → object_at state (suc place) ≡ Some object → IsObject machine.program kinds (with_contents object contents) → Answers machine.program (kinds ++ []) result answer
      → Is result (Some (Gives (leaving (with_contents_at (outside input printed exit) (suc place) contents)) answer))
  gives_changed result input printed exit place object contents answer are there is answers = IsPerformed.Given (leaving (with_contents_at (outside input printed exit) (suc place) contents)) answer (record {
    typed = record {
      heap = heap_set machine.program state.objects place object contents typed.heap there is;
      roots = subst (λ (kinds : Kinds). AreRoots machine.program kinds state.roots) (sym (kinds_set state.objects (suc place) contents)) typed.roots;
      input = are;
    };
    grows = record { more = []; is = kinds_set state.objects (suc place) contents ∙ sym (append-nil kinds); runs = runs };
    answers = answers;
  })

  -- an object, or null
  abbrev pub Follows : Option Basic → ℕ → ℕ → (Object → Option Performed) → Type 0
  Follows result kind serial go = (place : ℕ) (object : Object) → serial ≡ suc place → object_at state (suc place) ≡ Some object → IsObject machine.program kinds object
      → holds_kind machine.program object.kind kind ≡ true → Is result (go object)

  there_typed : (result : Option Basic) (kind serial : ℕ) (go : Object → Option Performed) → IsOfKind machine.program kinds kind serial → Follows result kind serial go
      → Is result (on_object call serial go)
  there_typed result kind zero go is follows = never is.there
  there_typed result kind (suc place) go is follows =
      let own : Found machine.program state.objects kind (suc place) = found machine.program state.objects kind (suc place) typed.heap is in
      subst (Is result) (sym (ap (option_and_then go) own.there)) (follows place own.object refl own.there own.is own.goes)

  pub object_typed : (result : Option Basic) (kind serial : ℕ) (go : Object → Option Performed) → Refers machine.program kinds kind serial → Follows result kind serial go
      → Is result (on_object call serial go)
  object_typed result kind serial go Refers.ToNull follows = stops_null result
  object_typed result kind serial go (Refers.To own is) follows = there_typed result kind own go is follows

  -- a field of a library's class
  pub field_there : (kind slot : ℕ) (basic : Basic) (object : Object) → HaveField machine.program kind slot basic → holds_kind machine.program object.kind kind ≡ true
      → IsObject machine.program kinds object → Holds machine.program kinds object.contents slot basic
  field_there kind slot basic object have goes is =
      let has : HasField machine.program object.kind slot basic = have object.kind goes in is.fields has.class slot basic has.classed has.declared

  -- a number that is one
  pub number_typed : (result : Option Basic) (kind slot : ℕ) (basic : Basic) (object : Object) (go : ℤ → Option Performed) → HaveField machine.program kind slot basic → is_reference basic ≡ false
      → holds_kind machine.program object.kind kind ≡ true → IsObject machine.program kinds object
      → ((number : ℤ) → IsNumber basic number → Is result (go number))
      → Is result (option_and_then go (number_at object slot))
  number_typed result kind slot basic object go have base goes is follows =
      let holds : Holds machine.program kinds object.contents slot basic = field_there kind slot basic object have goes is in
      let one = is_number machine.program kinds basic holds.content base holds.fits in
      by holds.content one.0 holds.there one.1 (follows one.0 one.2)
    where
      by : (content : Content) (number : ℤ) → slice_get object.contents slot ≡ Some content → content ≡ Number number → Is result (go number)
          → Is result (option_and_then go (number_at object slot))
      by content number there same is = rw (there, same) is

  pub boxed_typed : (result : Option Basic) (kind serial : ℕ) (basic : Basic) (go : ℤ → Option Performed) → HaveField machine.program kind value_slot basic → is_reference basic ≡ false
      → Refers machine.program kinds kind serial → ((number : ℤ) → IsNumber basic number → Is result (go number))
      → Is result (on_number call serial go)
  boxed_typed result kind serial basic go have base refers follows =
      object_typed result kind serial (λ object. option_and_then go (number_at object value_slot)) refers
      (λ place object same there is goes. number_typed result kind value_slot basic object go have base goes is follows)

  -- an array of chars
  pub array_elements : (kind : ℕ) (basic : Basic) (object : Object) → is_reference basic ≡ false → element_of machine.program kind ≡ Some basic → holds_kind machine.program object.kind kind ≡ true
      → element_of machine.program object.kind ≡ Some basic
  array_elements kind basic object base element goes =
      let has : HasElements machine.program object.kind basic = natives.core.elements object.kind kind basic goes element in
      has.is ∙ ap Some (alike has.element basic base has.held)
    where
      alike : (one other : Basic) → is_reference other ≡ false → Components machine.program one other → one ≡ other
      alike one other base (Components.Alike own is) = refl
      alike one other base (Components.References own kind goes) = absurd (false≢true (sym base))

  pub chars_text : (array : Object) → holds_kind machine.program array.kind (characters machine.program) ≡ true → IsObject machine.program kinds array → IsText (units_of array)
  chars_text array goes is =
      let element = array_elements (characters machine.program) basics.Char array refl natives.core.char_elements goes in
      record {
        each = units_low machine.program kinds array.contents (λ place low. is.elements basics.Char place element low);
        few = let few = is.few basics.Char element in omega (arith, few, units_count array.contents);
      }

  -- the array of a string, and of a builder
  array_there : (kind : ℕ) (own : Object) → HaveField machine.program kind 0 (basics.Reference (characters machine.program)) → holds_kind machine.program own.kind kind ≡ true
      → IsObject machine.program kinds own → HasArray machine.program state own
  array_there kind own have goes is =
      let holds : Holds machine.program kinds own.contents 0 (basics.Reference (characters machine.program)) = field_there kind 0 (basics.Reference (characters machine.program)) own have goes is in
      let one = is_its_reference machine.program kinds (characters machine.program) holds.content holds.fits in
      by one.serial one.refers (reference_is holds.content one.serial holds.there one.is)
    where
      reference_is : (content : Content) (serial : ℕ) → slice_get own.contents 0 ≡ Some content → content ≡ Reference serial → reference_at own value_slot ≡ Some serial
      reference_is content serial there same = rw (there, same) refl

      at_object : (serial : ℕ) → IsOfKind machine.program kinds (characters machine.program) serial → reference_at own value_slot ≡ Some serial → HasArray machine.program state own
      at_object zero of there = never of.there
      at_object (suc place) of there =
          let array : Found machine.program state.objects (characters machine.program) (suc place) = found machine.program state.objects (characters machine.program) (suc place) typed.heap of in
          HasArray.AnArray place array.object there array.there array.goes array.is

      by : (serial : ℕ) → Refers machine.program kinds (characters machine.program) serial → reference_at own value_slot ≡ Some serial → HasArray machine.program state own
      by serial Refers.ToNull there = HasArray.NoArray there
      by serial (Refers.To other of) there = at_object other of there

  pub string_array : (string : Object) → holds_kind machine.program string.kind kind_of_string ≡ true → IsObject machine.program kinds string → HasArray machine.program state string
  string_array string goes is = array_there kind_of_string string natives.core.strings goes is

  pub builder_array : (own : Object) → holds_kind machine.program own.kind builder ≡ true → IsObject machine.program kinds own → HasArray machine.program state own
  builder_array own goes is = array_there builder own natives.core.builders goes is

  -- its words, and what they say
  pub words_there : (own : Object) → HasArray machine.program state own → HasWords machine.program state own
  words_there own (HasArray.NoArray names) =
      record { words = []; is = ap (option_and_then (words_at state)) names; each = λ place low. absurd (omega (arith, low)); few = omega arith }
  words_there own (HasArray.AnArray place array names there goes is) =
      let element = array_elements (characters machine.program) basics.Char array refl natives.core.char_elements goes in
      record {
        words = array.contents;
        is = ap (option_and_then (words_at state)) names ∙ ap (option_map (λ (array : Object). array.contents)) there;
        each = λ place low. is.elements basics.Char place element low;
        few = is.few basics.Char element;
      }

  text_there : (own : Object) → HasArray machine.program state own → (units : List ℕ) × (text_of state own ≡ Some units) × IsText units
  text_there own array =
      let has : HasWords machine.program state own = words_there own array in
      let few = has.few in
      (its_units has.words, ap (option_map its_units) has.is, record { each = units_low machine.program kinds has.words has.each; few = omega (arith, few, units_count has.words) })

  pub text_typed : (result : Option Basic) (serial : ℕ) (go : List ℕ → Option Performed) → Refers machine.program kinds kind_of_string serial
      → ((units : List ℕ) → IsText units → Is result (go units)) → Is result (on_text call serial go)
  text_typed result serial go refers follows =
      object_typed result kind_of_string serial (λ string. option_and_then go (text_of state string)) refers
      (λ place object same there is goes.
      let text = text_there object (string_array object goes is) in
      subst (Is result) (sym (ap (option_and_then go) text.1)) (follows text.0 text.2))

  -- the text of a builder
  count_there : (built : Object) → holds_kind machine.program built.kind builder ≡ true → IsObject machine.program kinds built → (count : ℤ) × (number_at built count_slot ≡ Some count)
  count_there built goes is =
      let holds : Holds machine.program kinds built.contents 1 basics.Int = field_there builder 1 basics.Int built natives.core.counts goes is in
      let one = is_number machine.program kinds basics.Int holds.content refl holds.fits in
      (one.0, by holds.content one.0 holds.there one.1)
    where
      by : (content : Content) (number : ℤ) → slice_get built.contents 1 ≡ Some content → content ≡ Number number → number_at built count_slot ≡ Some number
      by content number there same = rw (there, same) refl

  built_there : (built : Object) → holds_kind machine.program built.kind builder ≡ true → IsObject machine.program kinds built
      → (units : List ℕ) × (built_text state built ≡ Some units) × IsText units
  built_there built goes is =
      let text = text_there built (builder_array built goes is) in
      let count = count_there built goes is in
      (counted_of text.0 count.0, ap (option_and_then (with_count built)) text.1 ∙ ap (option_map (counted_of text.0)) count.1, counted_text text.0 count.0 text.2)

  pub built_typed : (result : Option Basic) (serial : ℕ) (go : Object → List ℕ → Option Performed) → Refers machine.program kinds builder serial
      → ((place : ℕ) (object : Object) (units : List ℕ) → serial ≡ suc place → object_at state (suc place) ≡ Some object → IsObject machine.program kinds object
      → holds_kind machine.program object.kind builder ≡ true → IsText units → Is result (go object units))
      → Is result (on_object call serial (λ object. option_and_then (go object) (built_text state object)))
  built_typed result serial go refers follows =
      object_typed result builder serial (λ object. option_and_then (go object) (built_text state object)) refers
      (λ place object same there is goes.
      let text = built_there object goes is in
      subst (Is result) (sym (ap (option_and_then (go object)) text.1)) (follows place object text.0 same there is goes text.2))

  -- an object that is placed
  pub placed_typed : (kind serial : ℕ) (plan : Plan) → IsGood machine.program plan → Grows kinds plan → IsOfKind machine.program (kinds_of (objects_in plan)) kind serial
      → Is (Some (basics.Reference kind)) (Some (Gives plan (values.Ref serial ∷ [])))
  placed_typed kind serial plan good grows is = IsPerformed.Given plan (values.Ref serial ∷ []) (record {
    typed = good.typed;
    grows = grows;
    answers = object_answer machine.program (kinds ++ grows.more) kind serial
        (Refers.To serial (subst (λ (kinds : Kinds). IsOfKind machine.program kinds kind serial) grows.is is));
  })
