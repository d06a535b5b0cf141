-- Natives that give or fill arrays: a typed state advances where one is called.
use Rattle.std.proofs.Common.{◌≡◌, ◌∙◌, ap, arith, refl, sym, subst, ℕ, ℤ, pos, negsuc, zero, suc, ◌+◌, ◌<◌, ◌≤◌, ◌==◌, ◌&&◌, Bool, true, false, List, [], ◌∷◌, ◌++◌, drop, take, length, nat_le, if◌then◌else◌, Option, Some, None, option_and_then, slice_get, slice_set}
use Rattle.std.specs.List.{AllByRecursion, Contains}
use Rattle.std.specs.Prelude.{min}
use Rattle.std.proofs.lemmas.Bool.{and_parts, false≢true, leb-true}
use Rattle.std.proofs.lemmas.List.{length-append, length-take}
use Rattle.std.proofs.lemmas.Option.{none-some, same_Some}
use Rattle.cb_kinds.specs.Basics.{is_reference}
use Rattle.cb_kinds.specs.declared.basic.Basic.{Basic}
use Rattle.cb_kinds.specs.declared.basic.Basic.TheVariants as basics
use Rattle.cb_library.specs.NativeForms.{form_of}
use Rattle.cb_library.specs.declared.native.Native.{Native}
use Rattle.cb_library.specs.declared.native.Native.TheVariants as natives
use Rattle.cb_library.specs.declared.native.NativeForm.TheVariants as forms
use Rattle.cb_link.specs.Program.{Linked}
use Rattle.cb_link.specs.Subtypes.{instance}
use Rattle.cb_machine.specs.Arrays.{element_of}
use Rattle.cb_machine.specs.Copying.{fitting, overwritten, suppressed_slot}
use Rattle.cb_machine.specs.Library.{cloneable}
use Rattle.cb_machine.specs.Machine.{Machine, kind_of_site}
use Rattle.cb_machine.specs.Natives.{performed}
use Rattle.cb_machine.specs.Performing.{Call, Gives, Performed, Stops, array_words, if_short, most_elements, on_object, reference_at, stops}
use Rattle.cb_machine.specs.Plans.{Plan, leaving, object_of, with_left, with_one}
use Rattle.cb_machine.specs.Sites as sites
use Rattle.cb_machine.specs.Throwing.{throwing}
use Rattle.cb_machine.specs.Values.{natural}
use Rattle.cb_plain.specs.State.{Content, Frame, MethodFrame, Object, OfMethod, Reference, State}
use Rattle.cb_plain.specs.Updates.{object_at, with_contents_at}
use Rattle.cb_plain.specs.declared.value.Value.{Value}
use Rattle.cb_plain.specs.declared.value.Value.TheVariants as values
use Rattle.cb_verify.specs.Typed.{IsTyped}
use Rattle.cb_verify.specs.Within.{kind_of_string, kind_of_throwable}
use Rattle.cb_safety.specs.Advancing.{Advances, HoldsOn, HoldsThrough, IsSpelled}
use Rattle.cb_safety.specs.Heap.{Holds, IsObject}
use Rattle.cb_safety.specs.Held.{HasContent}
use Rattle.cb_safety.specs.Kinds.{IsOfKind, Kinds, Refers, holds_kind, kinds_of}
use Rattle.cb_safety.specs.Naming.{Components, HasElements}
use Rattle.cb_safety.specs.Natives.{CallsNative}
use Rattle.cb_safety.specs.Performing.{HasNatives, native_sites}
use Rattle.cb_safety.specs.Signatures.{characters, gives_of, object, takes_of, throwables}
use Rattle.cb_safety.specs.States.{AreRoots, IsTypedState}
use Rattle.cb_safety.proofs.Altered.{altered, altered_good, altered_grows, kind_there}
use Rattle.cb_safety.proofs.Asking.{Found, found}
use Rattle.cb_safety.proofs.Assigned.{never}
use Rattle.cb_safety.proofs.Boxes.{last_kind}
use Rattle.cb_safety.proofs.Changed.{heap_set, kinds_set, with_contents}
use Rattle.cb_safety.proofs.Extended.{has_content_more, is_object_more}
use Rattle.cb_safety.proofs.Grown.{Grows, good_one, grows_first, grows_one}
use Rattle.cb_safety.proofs.Holding.{instance_goes}
use Rattle.cb_safety.proofs.Natively.{HasWords, IsReference, field_there, gives_changed, is_its_reference, object_typed, placed_typed, stops_typed, string_array, words_there}
use Rattle.cb_safety.proofs.Performed.{AreGiven, IsPerformed, given_advances}
use Rattle.cb_safety.proofs.Returning.{no_answer}
use Rattle.cb_safety.proofs.Rewritten.{all_joined, all_left, all_taken, array_rewritten, words_held}
use Rattle.cb_safety.proofs.SettingFields.{IsThere, array_object, field_set, on_own}
use Rattle.cb_safety.proofs.StringsMade.{IsGood, objects_in}
use Rattle.cb_safety.proofs.Throwing.{kind_low, throws_typed}

-- ---- words

-- a reference to what is of a kind refers to what is of each kind that holds the objects of that one
pub reference_through : (program : Linked) (kinds : Kinds) (one other serial : ℕ) → HoldsThrough program → holds_kind program one other ≡ true → Refers program kinds one serial
    → Refers program kinds other serial
reference_through program kinds one other serial through goes Refers.ToNull = Refers.ToNull
reference_through program kinds one other serial through goes (Refers.To own is) =
    Refers.To own (record { own = is.own; there = is.there; goes = through is.own one other is.goes goes })

component_held : (program : Linked) (kinds : Kinds) (one other : Basic) (content : Content) → HoldsThrough program → Components program one other → HasContent program kinds one content
    → HasContent program kinds other content
component_held program kinds one other content through (Components.Alike own is) fits = fits
component_held program kinds one other content through (Components.References kind wanted goes) fits =
    let own = is_its_reference program kinds kind content fits in
    subst (HasContent program kinds (basics.Reference wanted)) (sym own.is)
    (HasContent.AReference wanted own.serial (reference_through program kinds kind wanted own.serial through goes own.refers))

components_held : (program : Linked) (kinds : Kinds) (one other : Basic) (contents : List Content) → HoldsThrough program → Components program one other
    → AllByRecursion (HasContent program kinds one) contents → AllByRecursion (HasContent program kinds other) contents
components_held program kinds one other [] through held all = tt
components_held program kinds one other (content ∷ contents) through held all =
    (component_held program kinds one other content through held all.0, components_held program kinds one other contents through held all.1)

words_more : (program : Linked) (kinds more : Kinds) (basic : Basic) (contents : List Content) → AllByRecursion (HasContent program kinds basic) contents
    → AllByRecursion (HasContent program (kinds ++ more) basic) contents
words_more program kinds more basic [] all = tt
words_more program kinds more basic (content ∷ contents) all = (has_content_more program kinds more basic content all.0, words_more program kinds more basic contents all.1)

-- ---- elements that can be copied

abbrev same_basic : Basic → Basic → Bool
same_basic basics.Boolean basics.Boolean = true
same_basic basics.Byte basics.Byte = true
same_basic basics.Char basics.Char = true
same_basic basics.Short basics.Short = true
same_basic basics.Int basics.Int = true
same_basic basics.Long basics.Long = true
same_basic (basics.Reference one) (basics.Reference other) = true
same_basic one other = false

abbrev can_copy : Option Basic → Option Basic → Bool
can_copy (Some one) (Some other) = same_basic one other
can_copy one other = false

abbrev is_range : ℤ → ℤ → ℕ → Bool
is_range (pos from) (pos count) size = nat_le (from + count) size
is_range from count size = false

data AreSame : Basic → Basic → Type 0 where
  Numbers : (basic : Basic) → is_reference basic ≡ false → AreSame basic basic
  References : (one other : ℕ) → AreSame (basics.Reference one) (basics.Reference other)

are_same : (one other : Basic) → same_basic one other ≡ true → AreSame one other
are_same basics.Boolean basics.Boolean same = AreSame.Numbers basics.Boolean refl
are_same basics.Byte basics.Byte same = AreSame.Numbers basics.Byte refl
are_same basics.Char basics.Char same = AreSame.Numbers basics.Char refl
are_same basics.Short basics.Short same = AreSame.Numbers basics.Short refl
are_same basics.Int basics.Int same = AreSame.Numbers basics.Int refl
are_same basics.Long basics.Long same = AreSame.Numbers basics.Long refl
are_same (basics.Reference one) (basics.Reference other) same = AreSame.References one other
are_same one other same = absurd (false≢true same)

-- ---- what they give

module _ (machine : Machine) (state : State) (has : HasNatives machine.program) (typed : IsTypedState machine.program state) (runs : state.roots.pending ≡ 0) where
  abbrev call : Call
  call = record { machine = machine; state = state }

  abbrev own_kinds : Kinds
  own_kinds = kinds_of state.objects

  abbrev Is : Option Basic → Option Performed → Type 0
  Is result found = IsPerformed machine.program (own_kinds) result found

  abbrev Refer : ℕ → ℕ → Type 0
  Refer kind serial = Refers machine.program (own_kinds) kind serial

  abbrev There : ℕ → ℕ → Object → Type 0
  There kind place object = IsThere machine state has typed runs kind place object

  stopped : (result : Option Basic) (site : ℕ) → Contains native_sites site → Is result (stops call site)
  stopped = stops_typed machine state has typed runs

  first_good : IsGood machine.program (leaving state)
  first_good = record { typed = typed; next = refl }

  -- a new object
  abbrev gives_new : ℕ → ℕ → List Content → Option Performed
  gives_new site kind contents = Some (Gives (with_one (leaving state) site kind contents) (values.Ref (leaving state).next ∷ []))

  new_typed : (own site kind : ℕ) (contents : List Content) → IsObject machine.program (own_kinds ++ Some kind ∷ []) (object_of site kind contents) → holds_kind machine.program kind own ≡ true
      → Is (Some (basics.Reference own)) (gives_new site kind contents)
  new_typed own site kind contents is goes =
      placed_typed machine state has typed runs own (leaving state).next (with_one (leaving state) site kind contents)
      (good_one machine.program (leaving state) site kind contents first_good is)
      (grows_one own_kinds (leaving state) site kind contents (grows_first state runs))
      (record { own = kind; there = last_kind machine.program (leaving state) site kind contents first_good; goes = goes })

  -- a copy
  cloned : (place : ℕ) (own : Object) → There object place own
      → Is (Some (basics.Reference object)) (if instance machine.program own.kind cloneable then gives_new own.site own.kind own.contents else stops call sites.clone_not_supported)
  cloned place own there = go (instance machine.program own.kind cloneable) where
    go : (test : Bool) → Is (Some (basics.Reference object)) (if test then gives_new own.site own.kind own.contents else stops call sites.clone_not_supported)
    go true = new_typed object own.site own.kind own.contents (is_object_more machine.program own_kinds (Some own.kind ∷ []) own there.is) there.goes
    go false = stopped (Some (basics.Reference object)) sites.clone_not_supported (8, omega arith, refl)

  -- the characters of a string
  characters_given : (place : ℕ) (string : Object) → There kind_of_string place string
      → Is (Some (basics.Reference (characters machine.program)))
      (option_and_then (gives_new sites.made_characters (kind_of_site machine.program sites.made_characters)) (array_words state string))
  characters_given place string there =
      let own : HasWords machine.program state string = words_there machine state has typed runs string (string_array machine state has typed runs string there.goes there.is) in
      let kind : ℕ = kind_of_site machine.program sites.made_characters in
      subst (Is (Some (basics.Reference (characters machine.program)))) (sym (ap (option_and_then (gives_new sites.made_characters kind)) own.is))
      (new_typed (characters machine.program) sites.made_characters kind own.words
      (array_object machine.program (own_kinds ++ Some kind ∷ []) sites.made_characters kind (characters machine.program) basics.Char own.words has.made refl
      (words_more machine.program own_kinds (Some kind ∷ []) basics.Char own.words (words_held machine.program own_kinds basics.Char own.words own.each)) own.few) has.made.array)

  -- the exceptions that were suppressed
  abbrev contents_of : Option Object → List Content
  contents_of None = []
  contents_of (Some array) = array.contents

  abbrev suppressed_by : Object → List Content
  suppressed_by throwable = contents_of (option_and_then (object_at state) (reference_at throwable suppressed_slot))

  abbrev Throwables : List Content → Type 0
  Throwables contents = AllByRecursion (HasContent machine.program own_kinds (basics.Reference kind_of_throwable)) contents

  suppressed_held : (throwable : Object) → holds_kind machine.program throwable.kind kind_of_throwable ≡ true → IsObject machine.program own_kinds throwable
      → Throwables (suppressed_by throwable) × (length (suppressed_by throwable) ≤ most_elements)
  suppressed_held throwable goes is =
      let holds : Holds machine.program own_kinds throwable.contents 2 (basics.Reference (throwables machine.program)) =
      field_there machine state has typed runs kind_of_throwable 2 (basics.Reference (throwables machine.program)) throwable has.core.suppressed_fields goes is in
      let one = is_its_reference machine.program own_kinds (throwables machine.program) holds.content holds.fits in
      by one.serial one.refers (reference_is holds.content one.serial holds.there one.is)
    where
      Held : List Content → Type 0
      Held contents = Throwables contents × (length contents ≤ most_elements)

      reference_is : (content : Content) (serial : ℕ) → slice_get throwable.contents 2 ≡ Some content → content ≡ Reference serial → reference_at throwable suppressed_slot ≡ Some serial
      reference_is content serial there same = rw (there, same) refl

      no_words : length (contents_of None) ≤ most_elements
      no_words = omega arith

      at_object : (serial : ℕ) → IsOfKind machine.program own_kinds (throwables machine.program) serial → Held (contents_of (object_at state serial))
      at_object serial of =
          let array : Found machine.program state.objects (throwables machine.program) serial = found machine.program state.objects (throwables machine.program) serial typed.heap of in
          let elements : HasElements machine.program array.object.kind (basics.Reference kind_of_throwable) =
          has.core.elements array.object.kind (throwables machine.program) (basics.Reference kind_of_throwable) array.goes has.core.throwable_elements in
          subst (λ (found : Option Object). Held (contents_of found)) (sym array.there) (
            components_held machine.program own_kinds elements.element (basics.Reference kind_of_throwable) array.object.contents has.core.through elements.held
                (words_held machine.program own_kinds elements.element array.object.contents (λ place low. array.is.elements elements.element place elements.is low)),
            array.is.few elements.element elements.is,
          )

      by : (serial : ℕ) → Refers machine.program own_kinds (throwables machine.program) serial → reference_at throwable suppressed_slot ≡ Some serial → Held (suppressed_by throwable)
      by serial Refers.ToNull there = subst (λ (found : Option Object). Held (contents_of found)) (sym (ap (option_and_then (object_at state)) there)) (tt, no_words)
      by serial (Refers.To other of) there = subst (λ (found : Option Object). Held (contents_of found)) (sym (ap (option_and_then (object_at state)) there)) (at_object other of)

  abbrev kind_of_suppressed : ℕ
  kind_of_suppressed = kind_of_site machine.program sites.suppressed

  suppressed_object : (contents : List Content) → Throwables contents → length contents ≤ most_elements
      → IsObject machine.program (own_kinds ++ Some kind_of_suppressed ∷ []) (object_of sites.suppressed kind_of_suppressed contents)
  suppressed_object contents all few =
      array_object machine.program (own_kinds ++ Some kind_of_suppressed ∷ []) sites.suppressed kind_of_suppressed (throwables machine.program)
      (basics.Reference kind_of_throwable) contents has.suppressed refl
      (words_more machine.program own_kinds (Some kind_of_suppressed ∷ []) (basics.Reference kind_of_throwable) contents all) few

  suppressed_given : (place : ℕ) (throwable : Object) → There kind_of_throwable place throwable
      → Is (Some (basics.Reference (throwables machine.program))) (gives_new sites.suppressed kind_of_suppressed (suppressed_by throwable))
  suppressed_given place throwable there =
      let held = suppressed_held throwable there.goes there.is in
      new_typed (throwables machine.program) sites.suppressed kind_of_suppressed (suppressed_by throwable) (suppressed_object (suppressed_by throwable) held.0 held.1) has.suppressed.array

  -- and one more
  abbrev with_another : Object → ℕ → List Content
  with_another throwable other = suppressed_by throwable ++ Reference other ∷ []

  abbrev another_placed : Object → ℕ → Plan
  another_placed throwable other = with_one (leaving state) sites.suppressed kind_of_suppressed (with_another throwable other)

  abbrev suppresses : ℕ → Object → ℕ → Option Performed
  suppresses serial throwable other =
      Some (Gives (with_left (another_placed throwable other) (with_contents_at state serial (slice_set throwable.contents suppressed_slot (Reference (leaving state).next)))) [])

  suppressed_more : (place : ℕ) (throwable : Object) (other : ℕ) → There kind_of_throwable place throwable → Refer kind_of_throwable other → length (suppressed_by throwable) + 1 ≤ most_elements
      → Is None (suppresses (suc place) throwable other)
  suppressed_more place throwable other there refers few =
      let held = suppressed_held throwable there.goes there.is in
      let size : length (with_another throwable other) ≡ length (suppressed_by throwable) + 1 = length-append (suppressed_by throwable) (Reference other ∷ []) in
      let all : Throwables (with_another throwable other) =
      all_joined (HasContent machine.program own_kinds (basics.Reference kind_of_throwable)) (suppressed_by throwable) (Reference other ∷ []) held.0 (HasContent.AReference kind_of_throwable other refers, tt) in
      let good : IsGood machine.program (another_placed throwable other) =
      good_one machine.program (leaving state) sites.suppressed kind_of_suppressed (with_another throwable other) first_good (suppressed_object (with_another throwable other) all (omega (arith, size, few))) in
      let grows : Grows own_kinds (another_placed throwable other) =
      grows_one own_kinds (leaving state) sites.suppressed kind_of_suppressed (with_another throwable other) (grows_first state runs) in
      let now : Kinds = kinds_of (objects_in (another_placed throwable other)) in
      let more : IsObject machine.program now throwable =
      subst (λ (kinds : Kinds). IsObject machine.program kinds throwable) (sym grows.is) (is_object_more machine.program own_kinds grows.more throwable there.is) in
      let contents : List Content = slice_set throwable.contents suppressed_slot (Reference (leaving state).next) in
      let array : IsOfKind machine.program now (throwables machine.program) (leaving state).next =
      record {
        own = kind_of_suppressed;
        there = last_kind machine.program (leaving state) sites.suppressed kind_of_suppressed (with_another throwable other) first_good;
        goes = has.suppressed.array;
      } in
      let set : IsObject machine.program now (with_contents throwable contents) =
      field_set machine.program now kind_of_throwable 2 (basics.Reference (throwables machine.program)) throwable (Reference (leaving state).next) has.core.suppressed_fields there.goes
      (HasContent.AReference (throwables machine.program) (leaving state).next (Refers.To (leaving state).next array)) more in
      let grown : Grows own_kinds (altered (another_placed throwable other) (suc place) contents) =
      altered_grows own_kinds (another_placed throwable other) place throwable contents there.there grows in
      IsPerformed.Given (altered (another_placed throwable other) (suc place) contents) [] (record {
        typed = (altered_good machine.program (another_placed throwable other) place throwable contents good there.there set).typed;
        grows = grown;
        answers = no_answer machine.program (own_kinds ++ grown.more);
      })

  abbrev suppresses_short : ℕ → ℕ → Object → Option Performed
  suppresses_short other serial throwable = if_short call (length (suppressed_by throwable) + 1) (suppresses serial throwable other)

  suppressed_short : (place : ℕ) (throwable : Object) (other : ℕ) → There kind_of_throwable place throwable → Refer kind_of_throwable other → Is None (suppresses_short other (suc place) throwable)
  suppressed_short place throwable other there refers = go (nat_le (length (suppressed_by throwable) + 1) most_elements) refl where
    go : (test : Bool) → nat_le (length (suppressed_by throwable) + 1) most_elements ≡ test
        → Is None (if test then suppresses (suc place) throwable other else stops call sites.negative_size)
    go true few = suppressed_more place throwable other there refers (leb-true (length (suppressed_by throwable) + 1) most_elements few)
    go false few = stopped None sites.negative_size (3, omega arith, refl)

  suppressed_other : (serial other : ℕ) → Refer kind_of_throwable serial → Refer kind_of_throwable other
      → Is None (if serial == other then stops call sites.illegal_argument else on_object call serial (λ throwable. suppresses_short other serial throwable))
  suppressed_other serial other refers given = go (serial == other) where
    go : (test : Bool) → Is None (if test then stops call sites.illegal_argument else on_object call serial (λ throwable. suppresses_short other serial throwable))
    go true = stopped None sites.illegal_argument (7, omega arith, refl)
    go false = on_own machine state has typed runs None kind_of_throwable serial (λ serial throwable. suppresses_short other serial throwable) refers
        (λ place throwable same there. suppressed_short place throwable other there given)

  -- ---- arraycopy

  -- what is copied may be held by the other array
  fits_held : (kind own : ℕ) (contents : List Content) → kind < length machine.program.kinds → AllByRecursion (HasContent machine.program own_kinds (basics.Reference own)) contents
      → AllByRecursion (HasContent machine.program own_kinds (basics.Reference kind)) (fitting call (Some (basics.Reference kind)) contents)
      × (length (fitting call (Some (basics.Reference kind)) contents) ≤ length contents)
  fits_held kind own [] low all = (tt, omega arith)
  fits_held kind own (content ∷ contents) low all = by content (is_its_reference machine.program own_kinds own content all.0) (fits_held kind own contents low all.1)
    where
      Later : Type 0
      Later = AllByRecursion (HasContent machine.program own_kinds (basics.Reference kind)) (fitting call (Some (basics.Reference kind)) contents)
          × (length (fitting call (Some (basics.Reference kind)) contents) ≤ length contents)

      Now : Content → Type 0
      Now content = AllByRecursion (HasContent machine.program own_kinds (basics.Reference kind)) (fitting call (Some (basics.Reference kind)) (content ∷ contents))
          × (length (fitting call (Some (basics.Reference kind)) (content ∷ contents)) ≤ suc (length contents))

      fits_there : (place : ℕ) (found : Found machine.program state.objects own (suc place)) → Later → Now (Reference (suc place))
      fits_there place array later = rw array.there (go (instance machine.program array.object.kind kind) refl) where
        go : (test : Bool) → instance machine.program array.object.kind kind ≡ test
            → AllByRecursion (HasContent machine.program own_kinds (basics.Reference kind)) (if test then Reference (suc place) ∷ fitting call (Some (basics.Reference kind)) contents else [])
            × (length (if test then Reference (suc place) ∷ fitting call (Some (basics.Reference kind)) contents else []) ≤ suc (length contents))
        go true fits =
            let few = later.1 in
            let goes : holds_kind machine.program array.object.kind kind ≡ true = instance_goes machine.program array.object.kind kind array.is.kind low fits in (
              (HasContent.AReference kind (suc place) (Refers.To (suc place) (record { own = array.object.kind; there = kind_there state.objects place array.object array.there; goes = goes })), later.0),
              omega (arith, few),
            )
        go false fits = (tt, omega arith)

      at_serial : (serial : ℕ) → IsOfKind machine.program own_kinds own serial → Later → Now (Reference serial)
      at_serial zero of later = never of.there
      at_serial (suc place) of later = fits_there place (found machine.program state.objects own (suc place) typed.heap of) later

      refer : (serial : ℕ) → Refers machine.program own_kinds own serial → Later → Now (Reference serial)
      refer serial Refers.ToNull later = let few = later.1 in ((HasContent.AReference kind 0 Refers.ToNull, later.0), omega (arith, few))
      refer serial (Refers.To other of) later = at_serial other of later

      by : (content : Content) → IsReference machine.program own_kinds own content → Later → Now content
      by content is later = subst Now (sym is.is) (refer is.serial is.refers later)

  numbers_fit : (basic : Basic) (contents : List Content) → is_reference basic ≡ false → fitting call (Some basic) contents ≡ contents
  numbers_fit (basics.Reference kind) contents base = absurd (false≢true (sym base))
  numbers_fit basics.Boolean contents base = all_fit contents where
    all_fit : (contents : List Content) → fitting call (Some basics.Boolean) contents ≡ contents
    all_fit [] = refl
    all_fit (content ∷ contents) = ap (λ (rest : List Content). content ∷ rest) (all_fit contents)
  numbers_fit basics.Byte contents base = all_fit contents where
    all_fit : (contents : List Content) → fitting call (Some basics.Byte) contents ≡ contents
    all_fit [] = refl
    all_fit (content ∷ contents) = ap (λ (rest : List Content). content ∷ rest) (all_fit contents)
  numbers_fit basics.Char contents base = all_fit contents where
    all_fit : (contents : List Content) → fitting call (Some basics.Char) contents ≡ contents
    all_fit [] = refl
    all_fit (content ∷ contents) = ap (λ (rest : List Content). content ∷ rest) (all_fit contents)
  numbers_fit basics.Short contents base = all_fit contents where
    all_fit : (contents : List Content) → fitting call (Some basics.Short) contents ≡ contents
    all_fit [] = refl
    all_fit (content ∷ contents) = ap (λ (rest : List Content). content ∷ rest) (all_fit contents)
  numbers_fit basics.Int contents base = all_fit contents where
    all_fit : (contents : List Content) → fitting call (Some basics.Int) contents ≡ contents
    all_fit [] = refl
    all_fit (content ∷ contents) = ap (λ (rest : List Content). content ∷ rest) (all_fit contents)
  numbers_fit basics.Long contents base = all_fit contents where
    all_fit : (contents : List Content) → fitting call (Some basics.Long) contents ≡ contents
    all_fit [] = refl
    all_fit (content ∷ contents) = ap (λ (rest : List Content). content ∷ rest) (all_fit contents)

  fitting_held : (one other : Basic) (contents : List Content) → AreSame one other → ((kind : ℕ) → other ≡ basics.Reference kind → kind < length machine.program.kinds)
      → AllByRecursion (HasContent machine.program own_kinds one) contents
      → AllByRecursion (HasContent machine.program own_kinds other) (fitting call (Some other) contents) × (length (fitting call (Some other) contents) ≤ length contents)
  fitting_held one other contents (AreSame.References own kind) low all = fits_held kind own contents (low kind refl) all
  fitting_held one other contents (AreSame.Numbers basic base) low all =
      let same = numbers_fit basic contents base in
      (subst (AllByRecursion (HasContent machine.program own_kinds basic)) (sym same) all, (let size = ap length same in omega (arith, size)))

  module _ (at : ℕ) (target : Object) (there : There object at target) (other : Basic) (element : element_of machine.program target.kind ≡ Some other) where
    own_elements : HasElements machine.program target.kind other
    own_elements = has.core.elements target.kind target.kind other (has.core.own target.kind there.is.kind) element

    element_low : (kind : ℕ) → other ≡ basics.Reference kind → kind < length machine.program.kinds
    element_low kind same = by other (same_Some own_elements.element other (sym own_elements.is ∙ element)) own_elements.held same where
      by : (wanted : Basic) → own_elements.element ≡ wanted → Components machine.program own_elements.element wanted → wanted ≡ basics.Reference kind → kind < length machine.program.kinds
      by wanted is held same = go own_elements.element wanted held (is ∙ same) same where
        go : (first second : Basic) → Components machine.program first second → first ≡ basics.Reference kind → second ≡ basics.Reference kind → kind < length machine.program.kinds
        go first second (Components.Alike basic base) one two = absurd (false≢true (sym base ∙ ap is_reference one))
        go first second (Components.References own wanted goes) one two =
            kind_low machine.program kind wanted (subst (λ (kind : ℕ). holds_kind machine.program kind wanted ≡ true) (kind_is own kind one) goes)
          where
            kind_in_basic : Basic → ℕ
            kind_in_basic (basics.Reference kind) = kind
            kind_in_basic basic = 0

            kind_is : (own kind : ℕ) → basics.Reference own ≡ basics.Reference kind → own ≡ kind
            kind_is own kind same = ap kind_in_basic same

    abbrev copied_to : ℕ → List Content → State
    copied_to from contents = with_contents_at state (suc at) (overwritten target.contents from contents)

    copied_object : (from : ℕ) (contents : List Content) → AllByRecursion (HasContent machine.program own_kinds other) contents → from + length contents ≤ length target.contents
        → IsObject machine.program own_kinds (with_contents target (overwritten target.contents from contents))
    copied_object from contents all low =
        array_rewritten machine.program own_kinds target other from contents element (λ class classed. none-some class (sym own_elements.no_class ∙ classed)) there.is all low

    copied_typed : (from : ℕ) (contents : List Content) → AllByRecursion (HasContent machine.program own_kinds other) contents → from + length contents ≤ length target.contents
        → IsTypedState machine.program (copied_to from contents)
    copied_typed from contents all low = record {
      heap = heap_set machine.program state.objects at target (overwritten target.contents from contents) typed.heap there.there (copied_object from contents all low);
      roots = subst (λ (kinds : Kinds). AreRoots machine.program kinds state.roots) (sym (kinds_set state.objects (suc at) (overwritten target.contents from contents))) typed.roots;
      input = typed.input;
    }

    abbrev copies_fitting : ℕ → List Content → List Content → Option Performed
    copies_fitting from all fit =
        if length fit == length all then Some (Gives (leaving (copied_to from fit)) [])
        else Some (Stops (throwing machine sites.array_store (leaving (copied_to from fit))))

    fitting_copied : (from : ℕ) (all fit : List Content) → AllByRecursion (HasContent machine.program own_kinds other) fit → from + length fit ≤ length target.contents
        → Is None (copies_fitting from all fit)
    fitting_copied from all fit held low = go (length fit == length all) where
      go : (test : Bool) → Is None (if test then Some (Gives (leaving (copied_to from fit)) []) else Some (Stops (throwing machine sites.array_store (leaving (copied_to from fit)))))
      go true =
          gives_changed machine state has typed runs None state.input state.printed state.exit at target (overwritten target.contents from fit) [] typed.input there.there (copied_object from fit held low)
          (no_answer machine.program (own_kinds ++ []))
      go false = IsPerformed.Stopped (throwing machine sites.array_store (leaving (copied_to from fit)))
          (throws_typed machine (copied_to from fit) sites.array_store (copied_typed from fit held low) (has.thrown sites.array_store (4, omega arith, refl)))

  range_parts : (from count : ℤ) (size : ℕ) → is_range from count size ≡ true → natural from + natural count ≤ size
  range_parts (pos from) (pos count) size is = leb-true (from + count) size is
  range_parts (pos from) (negsuc count) size is = absurd (false≢true is)
  range_parts (negsuc from) count size is = absurd (false≢true is)

  abbrev copies_range : ℕ → Object → ℕ → List Content → Option Performed
  copies_range serial target from contents = copies_all (fitting call (element_of machine.program target.kind) contents) where
    copies_all : List Content → Option Performed
    copies_all fit =
        if length fit == length contents then Some (Gives (leaving (with_contents_at state serial (overwritten target.contents from fit))) [])
        else Some (Stops (throwing machine sites.array_store (leaving (with_contents_at state serial (overwritten target.contents from fit)))))

  abbrev copies_between : ℤ → ℤ → ℤ → Object → ℕ → Object → Option Performed
  copies_between from to count source serial target =
      if can_copy (element_of machine.program source.kind) (element_of machine.program target.kind) then
      if is_range from count (length source.contents) && is_range to count (length target.contents)
      then copies_range serial target (natural to) (take (natural count) (drop (natural from) source.contents))
      else stops call sites.array_index
      else stops call sites.array_store

  range_copied : (from to count : ℤ) (source : Object) (one : Basic) (at : ℕ) (target : Object) (other : Basic) → IsObject machine.program own_kinds source
      → element_of machine.program source.kind ≡ Some one → There object at target → element_of machine.program target.kind ≡ Some other → AreSame one other
      → is_range to count (length target.contents) ≡ true
      → Is None (copies_range (suc at) target (natural to) (take (natural count) (drop (natural from) source.contents)))
  range_copied from to count source one at target other is own there element same fits =
      let contents : List Content = take (natural count) (drop (natural from) source.contents) in
      let all : AllByRecursion (HasContent machine.program own_kinds one) contents =
      all_taken (HasContent machine.program own_kinds one) (natural count) (drop (natural from) source.contents) (all_left (HasContent machine.program own_kinds one) (natural from) source.contents
      (words_held machine.program own_kinds one source.contents (λ place low. is.elements one place own low))) in
      let held = fitting_held one other contents same (element_low at target there other element) all in
      let size : length contents ≡ min (natural count) (length (drop (natural from) source.contents)) = length-take (natural count) (drop (natural from) source.contents) in
      let few = held.1 in
      let low = range_parts to count (length target.contents) fits in
      subst (λ (elements : Option Basic). Is None (copies_fitting at target there other element (natural to) contents (fitting call elements contents))) (sym element)
      (fitting_copied at target there other element (natural to) contents (fitting call (Some other) contents) held.0 (omega (arith, few, low, size)))

  between_copied : (from to count : ℤ) (source : Object) (at : ℕ) (target : Object) → IsObject machine.program own_kinds source → There object at target
      → Is None (copies_between from to count source (suc at) target)
  between_copied from to count source at target is there = by (element_of machine.program source.kind) refl (element_of machine.program target.kind) refl
    where
      ranges : Bool
      ranges = is_range from count (length source.contents) && is_range to count (length target.contents)

      copies : Option Performed
      copies = copies_range (suc at) target (natural to) (take (natural count) (drop (natural from) source.contents))

      tested : Bool → Option Performed
      tested test = if test then (if ranges then copies else stops call sites.array_index) else stops call sites.array_store

      in_range : (one other : Basic) → element_of machine.program source.kind ≡ Some one → element_of machine.program target.kind ≡ Some other → AreSame one other
          → (test : Bool) → ranges ≡ test → Is None (if test then copies else stops call sites.array_index)
      in_range one other own element same true fits =
          range_copied from to count source one at target other is own there element same (and_parts (is_range from count (length source.contents)) (is_range to count (length target.contents)) fits).1
      in_range one other own element same false fits = stopped None sites.array_index (2, omega arith, refl)

      alike : (one other : Basic) → element_of machine.program source.kind ≡ Some one → element_of machine.program target.kind ≡ Some other
          → (test : Bool) → same_basic one other ≡ test → Is None (tested test)
      alike one other own element true same = in_range one other own element (are_same one other same) ranges refl
      alike one other own element false same = stopped None sites.array_store (4, omega arith, refl)

      by : (one : Option Basic) → element_of machine.program source.kind ≡ one → (other : Option Basic) → element_of machine.program target.kind ≡ other
          → Is None (copies_between from to count source (suc at) target)
      by None own other element = rw own (stopped None sites.array_store (4, omega arith, refl))
      by (Some one) own None element = rw (own, element) (stopped None sites.array_store (4, omega arith, refl))
      by (Some one) own (Some other) element =
          subst (λ (test : Bool). Is None (tested test)) (sym (ap (λ (first : Option Basic). can_copy first (element_of machine.program target.kind)) own ∙ ap (can_copy (Some one)) element))
          (alike one other own element (same_basic one other) refl)

  array_performed : (native : Native) (held : List Value) → AreGiven machine.program (own_kinds) (takes_of machine.program native) held
      → form_of native ≡ forms.Array → Is (gives_of machine.program native) (performed machine state native held)
  array_performed natives.ObjectClone _ (AreGiven.AnObject _ serial _ _ refers AreGiven.Nothing) form = on_own machine state has typed runs (Some (basics.Reference object)) object serial (λ serial own. if instance machine.program own.kind cloneable then gives_new own.site own.kind own.contents else stops call sites.clone_not_supported) refers
      (λ place own same there. cloned place own there)
  array_performed natives.StringToCharArray _ (AreGiven.AnObject _ string _ _ refers AreGiven.Nothing) form = on_own machine state has typed runs (Some (basics.Reference (characters machine.program))) kind_of_string string (λ serial own. option_and_then (gives_new sites.made_characters (kind_of_site machine.program sites.made_characters)) (array_words state own)) refers
      (λ place own same there. characters_given place own there)
  array_performed natives.SystemArraycopy _ (AreGiven.AnObject _ source _ _ refers (AreGiven.AnInt start _ _ _ (AreGiven.AnObject _ target _ _ given (AreGiven.AnInt to _ _ _ (AreGiven.AnInt count _ _ _ AreGiven.Nothing))))) form = object_typed machine state has typed runs None object source _ refers
      (λ place one same there is goes. on_own machine state has typed runs None object target (λ serial other. copies_between start to count one serial other) given
      (λ at other equal stands. between_copied start to count one at other is stands))
  array_performed natives.ThrowableAddSuppressed _ (AreGiven.AnObject _ throwable _ _ refers (AreGiven.AnObject _ other _ _ given AreGiven.Nothing)) form = object_typed machine state has typed runs None kind_of_throwable other _ given (λ place one same there is goes. suppressed_other throwable other refers given)
  array_performed natives.ThrowableGetSuppressed _ (AreGiven.AnObject _ throwable _ _ refers AreGiven.Nothing) form = on_own machine state has typed runs (Some (basics.Reference (throwables machine.program))) kind_of_throwable throwable (λ serial own. gives_new sites.suppressed kind_of_suppressed (suppressed_by own)) refers (λ place own same there. suppressed_given place own there)
  array_performed other held given form = absurd (cc form)

pub arrays_advance : (machine : Machine) (state : State) (frame : MethodFrame) (below : List Frame) → HasNatives machine.program → IsTyped machine.program → IsSpelled machine.program
    → HoldsOn machine.program → IsTypedState machine.program state → state.roots.pending ≡ 0 → state.roots.frames ≡ OfMethod frame ∷ below
    → (calls : CallsNative machine state frame below) → form_of calls.native ≡ forms.Array → Advances machine state
arrays_advance machine state frame below has fits spelled holds typed runs frames calls form =
    given_advances machine state frame below has fits spelled holds typed runs frames calls
    (λ given. array_performed machine state has typed runs calls.native calls.arguments given form)
