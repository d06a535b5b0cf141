-- Natives that set the fields of their own object: a typed state advances where one is called.
use Rattle.std.proofs.Common.{◌≡◌, ◌∙◌, ap, arith, refl, sym, subst, ℕ, ℤ, pos, negsuc, zero, suc, ◌+◌, ◌-◌, ◌*◌, ◌<◌, ◌≤◌, ◌^◌, ◌+ℤ◌, ◌*ℤ◌, Bool, true, false, List, [], ◌∷◌, ◌++◌, append-nil, codes, drop, take, length, nat_le, nat_lt, replicate, if◌then◌else◌, Option, Some, None, option_and_then, option_map, slice_set}
use Rattle.std.specs.List.{AllByRecursion}
use Rattle.std.specs.Prelude.{max, min}
use Rattle.std.proofs.lemmas.Bool.{leb-true}
use Rattle.std.proofs.lemmas.Int.{ints}
use Rattle.std.proofs.lemmas.List.{length-append, length-drop, length-map, length-take}
use Rattle.std.proofs.lemmas.Option.{none-some, same_Some}
use Rattle.cb_arith.proofs.Laws.{low_bits-lt, low_bits_only}
use Rattle.cb_arith.specs.Bits.{low_bits}
use Rattle.cb_kinds.specs.declared.basic.Basic.{Basic}
use Rattle.cb_kinds.specs.declared.basic.Basic.TheVariants as basics
use Rattle.cb_library.specs.NativeForms.{form_of}
use Rattle.cb_library.specs.declared.native.Native.{Native}
use Rattle.cb_library.specs.declared.native.Native.TheVariants as natives
use Rattle.cb_library.specs.declared.native.NativeForm.TheVariants as forms
use Rattle.cb_link.specs.Program.{Linked}
use Rattle.cb_link.specs.Slots.{field_basic}
use Rattle.cb_machine.specs.Builders.{grown}
use Rattle.cb_machine.specs.Library as library
use Rattle.cb_machine.specs.Machine.{Machine, kind_of_site}
use Rattle.cb_machine.specs.Natives.{performed}
use Rattle.cb_machine.specs.Performing.{Call, Gives, Performed, built_text, if_short, most_elements, on_object, on_text, reference_at, stops, units_of, value_slot, with_word}
use Rattle.cb_machine.specs.Plans.{Plan, leaving, object_of, with_left, with_one}
use Rattle.cb_machine.specs.Sites.{builder_characters, made_characters, negative_size, string_index}
use Rattle.cb_machine.specs.Strings.{unit_contents}
use Rattle.cb_machine.specs.Texts.{digits, range_of, truth, unit_of}
use Rattle.cb_machine.specs.Values.{kept_int}
use Rattle.cb_plain.specs.State.{Content, Frame, MethodFrame, Number, Object, OfMethod, Reference, State}
use Rattle.cb_plain.specs.Updates.{object_at, with_contents_at}
use Rattle.cb_plain.specs.declared.value.Value.{Value}
use Rattle.cb_plain.specs.declared.value.Value.TheVariants as values
use Rattle.cb_verify.specs.Typed.{IsTyped}
use Rattle.cb_verify.specs.Within.{kind_of_string}
use Rattle.cb_safety.specs.Advancing.{Advances, HoldsOn, IsSpelled}
use Rattle.cb_safety.specs.Heap.{Holds, IsObject}
use Rattle.cb_safety.specs.Held.{HasContent}
use Rattle.cb_safety.specs.Kinds.{IsOfKind, Kinds, Refers, holds_kind, kind_in, kinds_of}
use Rattle.cb_safety.specs.Naming.{HasElements, HasField}
use Rattle.cb_safety.specs.Natives.{CallsNative}
use Rattle.cb_safety.specs.Performing.{AreArrays, HasNatives, HaveField}
use Rattle.cb_safety.specs.Signatures.{builder, characters, gives_of, takes_of}
use Rattle.cb_safety.specs.States.{AreRoots, IsTypedState}
use Rattle.cb_safety.specs.Strings.{IsText}
use Rattle.cb_safety.proofs.Altered.{altered_good, altered_grows, kind_there, object_placed}
use Rattle.cb_safety.proofs.Boxes.{last_kind}
use Rattle.cb_safety.proofs.Changed.{MayHold, heap_set, kinds_set, object_set, with_contents}
use Rattle.cb_safety.proofs.Contents.{int_kept}
use Rattle.cb_safety.proofs.Elements.{length_fits}
use Rattle.cb_safety.proofs.Extended.{is_object_more, refers_more}
use Rattle.cb_safety.proofs.Grown.{Grows, good_one, grows_first, grows_one}
use Rattle.cb_safety.proofs.Known.{words_known}
use Rattle.cb_safety.proofs.Natively.{HasArray, array_elements, builder_array, chars_text, gives_changed, kinds, built_typed, object_answer, object_typed, stops_null, stops_typed, text_typed}
use Rattle.cb_safety.proofs.Performed.{AreGiven, IsPerformed, given_advances}
use Rattle.cb_safety.proofs.Placed.{array_sized}
use Rattle.cb_safety.proofs.Returning.{Answers, no_answer}
use Rattle.cb_safety.proofs.Rewritten.{all_joined, all_left, all_taken, array_is, words_held, words_hold}
use Rattle.cb_safety.proofs.StringsMade.{IsGood, objects_in}
use Rattle.cb_safety.proofs.Texts.{truth_low}
use Rattle.cb_safety.proofs.Throwing.{kind_low}
use Rattle.cb_safety.proofs.Units.{Units, literal_low, signed_low}

-- ---- units as the words of an array

low_kept : (unit : ℕ) → unit < 2 ^ 16 → kept_int basics.Char (pos unit) ≡ pos unit
low_kept unit low = ap pos (sym (low_bits_only 16 (pos unit) unit low (pos 0, same unit (2 ^ 16))))
  where
    same : (unit power : ℕ) → pos unit ≡ pos unit +ℤ pos 0 *ℤ pos power
    same unit power = omega (arith, ints)

units_held : (program : Linked) (kinds : Kinds) (units : List ℕ) → Units units → AllByRecursion (HasContent program kinds basics.Char) (unit_contents units)
units_held program kinds [] all = tt
units_held program kinds (unit ∷ units) all =
    let low : unit < 2 ^ 16 = all.0 in
    (HasContent.AnInt basics.Char (pos unit) refl (record { sfits = omega (arith, low) }) (low_kept unit low), units_held program kinds units all.1)

least_of : (count : ℕ) → min most_elements count ≤ most_elements
least_of count = omega arith

zeros_low : (count : ℕ) → Units (replicate count 0)
zeros_low zero = tt
zeros_low (suc count) = (omega arith, zeros_low count)

abbrev zeros : ℕ → List ℕ
zeros count = replicate count 0

zeros_length : (count : ℕ) → length (zeros count) ≡ count
zeros_length zero = refl
zeros_length (suc count) = let more = zeros_length count in omega (arith, more)

-- ---- an array that is placed, and an object with another field

pub array_object : (program : Linked) (kinds : Kinds) (site kind own : ℕ) (basic : Basic) (contents : List Content) → AreArrays program kind own basic
    → kind_of_site program site ≡ kind → AllByRecursion (HasContent program kinds basic) contents → length contents ≤ most_elements
    → IsObject program kinds (object_of site kind contents)
array_object program kinds site kind own basic contents arrays same all few = record {
  kind = kind_low program kind own arrays.array;
  site = arrays.sited site same;
  sized = array_sized program kind basic arrays.elements;
  fields = λ class slot declared classed field. absurd (none-some class (sym arrays.no_class ∙ classed));
  elements = λ declared place element low.
      subst (λ (basic : Basic). Holds program kinds contents place basic) (same_Some basic declared (sym arrays.elements ∙ element)) (words_hold program kinds basic contents all place low);
  few = λ declared element. few;
  words = words_known program kinds basic contents all;
}

may_hold : (program : Linked) (kind slot : ℕ) (basic : Basic) → HasField program kind slot basic → MayHold program kind slot basic
may_hold program kind slot basic has = record {
  fields = λ class own classed declared.
      same_Some own basic (sym declared ∙ ap (λ (class : ℕ). field_basic program class slot) (same_Some class has.class (sym classed ∙ has.classed)) ∙ has.declared);
  elements = λ own element. absurd (none-some own (sym has.no_elements ∙ element));
}

pub field_set : (program : Linked) (kinds : Kinds) (kind slot : ℕ) (basic : Basic) (object : Object) (content : Content) → HaveField program kind slot basic
    → holds_kind program object.kind kind ≡ true → HasContent program kinds basic content → IsObject program kinds object
    → IsObject program kinds (with_contents object (slice_set object.contents slot content))
field_set program kinds kind slot basic object content have goes fits is =
    object_set program kinds object slot content basic (may_hold program object.kind slot basic (have object.kind goes)) fits is

-- ---- what they leave

module _ (machine : Machine) (state : State) (has : HasNatives machine.program) (typed : IsTypedState machine.program state) (runs : state.roots.pending ≡ 0) where
  abbrev call : Call
  call = record { machine = machine; state = state }

  abbrev Is : Option Basic → Option Performed → Type 0
  Is result found = IsPerformed machine.program (kinds machine state has typed runs) result found

  abbrev Refer : ℕ → ℕ → Type 0
  Refer kind serial = Refers machine.program (kinds machine state has typed runs) kind serial

  first_good : IsGood machine.program (leaving state)
  first_good = record { typed = typed; next = refl }

  nothing : (more : Kinds) → Answers machine.program (kinds machine state has typed runs ++ more) None []
  nothing more = no_answer machine.program (kinds machine state has typed runs ++ more)

  -- an object that is there, of a kind
  pub record IsThere (kind place : ℕ) (object : Object) : Type 0 where
    pub there : object_at state (suc place) ≡ Some object
    pub is : IsObject machine.program (kinds machine state has typed runs) object
    pub goes : holds_kind machine.program object.kind kind ≡ true

  of_kind : (kind place : ℕ) (object : Object) → IsThere kind place object → IsOfKind machine.program (kinds machine state has typed runs) kind (suc place)
  of_kind kind place object own = record { own = object.kind; there = kind_there state.objects place object own.there; goes = own.goes }

  pub on_own : (result : Option Basic) (kind serial : ℕ) (go : ℕ → Object → Option Performed) → Refer kind serial
      → ((place : ℕ) (object : Object) → serial ≡ suc place → IsThere kind place object → Is result (go (suc place) object)) → Is result (on_object call serial (go serial))
  on_own result kind zero go refers follows = stops_null machine state has typed runs result
  on_own result kind (suc place) go refers follows =
      object_typed machine state has typed runs result kind (suc place) (go (suc place)) refers
      (λ at object same there is goes. follows place object refl (record { there = ap (object_at state) same ∙ there; is = is; goes = goes }))

  -- a number
  number_set : (kind place : ℕ) (basic : Basic) (object : Object) (number : ℤ) → HaveField machine.program kind 0 basic → IsThere kind place object
      → HasContent machine.program (kinds machine state has typed runs) basic (Number number)
      → Is None (Some (Gives (leaving (with_word state (suc place) object value_slot (Number number))) []))
  number_set kind place basic object number have own fits =
      gives_changed machine state has typed runs None state.input state.printed state.exit place object (slice_set object.contents 0 (Number number)) [] typed.input own.there
      (field_set machine.program (kinds machine state has typed runs) kind 0 basic object (Number number) have own.goes fits own.is) (nothing [])

  -- a new array
  abbrev room_for : List ℕ → ℕ → List Content
  room_for units room = unit_contents (units ++ replicate (room - length units) 0)

  abbrev placed_array : ℕ → List ℕ → ℕ → Plan
  placed_array site units room = with_one (leaving state) site (kind_of_site machine.program site) (room_for units room)

  abbrev with_array : ℕ → ℕ → Object → List ℕ → ℕ → Plan
  with_array site serial object units room =
      with_left (placed_array site units room) (with_word state serial object value_slot (Reference (leaving state).next))

  room_length : (units : List ℕ) (room : ℕ) → length units ≤ most_elements → room ≤ most_elements → length (room_for units room) ≤ most_elements
  room_length units room few small =
      let one : length (room_for units room) ≡ length (units ++ replicate (room - length units) 0) = length-map (units ++ replicate (room - length units) 0) (λ (unit : ℕ). Number (pos unit)) in
      let two : length (units ++ replicate (room - length units) 0) ≡ length units + length (replicate (room - length units) 0) = length-append units (replicate (room - length units) 0) in
      let three : length (replicate (room - length units) 0) ≡ room - length units = zeros_length (room - length units) in
      omega (arith, one, two, three, few, small)

  module _ (site : ℕ) (arrays : AreArrays machine.program (kind_of_site machine.program site) (characters machine.program) basics.Char) (units : List ℕ) (room : ℕ)
      (all : Units units) (few : length units ≤ most_elements) (small : room ≤ most_elements) where
    array_good : IsGood machine.program (placed_array site units room)
    array_good = good_one machine.program (leaving state) site (kind_of_site machine.program site) (room_for units room) first_good
        (array_object machine.program _ site (kind_of_site machine.program site) (characters machine.program) basics.Char (room_for units room) arrays refl
        (units_held machine.program _ (units ++ replicate (room - length units) 0)
        (all_joined (λ unit. unit < 2 ^ 16) units (replicate (room - length units) 0) all (zeros_low (room - length units)))) (room_length units room few small))

    array_grows : Grows (kinds machine state has typed runs) (placed_array site units room)
    array_grows = grows_one (kinds machine state has typed runs) (leaving state) site (kind_of_site machine.program site) (room_for units room) (grows_first state runs)

    new_array : IsOfKind machine.program (kinds_of (objects_in (placed_array site units room))) (characters machine.program) (leaving state).next
    new_array = record {
      own = kind_of_site machine.program site;
      there = last_kind machine.program (leaving state) site (kind_of_site machine.program site) (room_for units room) first_good;
      goes = arrays.array;
    }

    module _ (kind place : ℕ) (object : Object) (have : HaveField machine.program kind 0 (basics.Reference (characters machine.program))) (own : IsThere kind place object) where
      held_more : IsObject machine.program (kinds_of (objects_in (placed_array site units room))) object
      held_more = subst (λ (kinds : Kinds). IsObject machine.program kinds object) (sym array_grows.is)
          (is_object_more machine.program (kinds machine state has typed runs) array_grows.more object own.is)

      with_array_good : IsGood machine.program (with_array site (suc place) object units room)
      with_array_good =
          altered_good machine.program (placed_array site units room) place object (slice_set object.contents 0 (Reference (leaving state).next)) array_good own.there
          (field_set machine.program (kinds_of (objects_in (placed_array site units room))) kind 0 (basics.Reference (characters machine.program)) object (Reference (leaving state).next) have own.goes
          (HasContent.AReference (characters machine.program) (leaving state).next (Refers.To (leaving state).next new_array)) held_more)

      with_array_grows : Grows (kinds machine state has typed runs) (with_array site (suc place) object units room)
      with_array_grows =
          altered_grows (kinds machine state has typed runs) (placed_array site units room) place object (slice_set object.contents 0 (Reference (leaving state).next)) own.there array_grows

  -- a string
  texted : (place : ℕ) (string : Object) (units : List ℕ) → IsThere kind_of_string place string → IsText units
      → Is None (Some (Gives (with_array made_characters (suc place) string units (length units)) []))
  texted place string units own text = IsPerformed.Given (with_array made_characters (suc place) string units (length units)) [] (record {
    typed = (with_array_good made_characters has.made units (length units) text.each text.few text.few kind_of_string place string has.core.strings own).typed;
    grows = with_array_grows made_characters has.made units (length units) text.each text.few text.few kind_of_string place string has.core.strings own;
    answers = nothing (with_array_grows made_characters has.made units (length units) text.each text.few text.few kind_of_string place string has.core.strings own).more;
  })

  -- the count of a builder
  abbrev counted : ℕ → Plan → ℕ → Option Object → Plan
  counted serial plan count None = plan
  counted serial plan count (Some object) = with_left plan (with_word plan.left serial object 1 (Number (pos count)))

  pub record IsLeft (plan : Plan) : Type 0 where
    pub good : IsGood machine.program plan
    pub grows : Grows (kinds machine state has typed runs) plan
    pub left : kinds_of plan.left.objects ≡ kinds machine state has typed runs

  count_left : (place : ℕ) (plan : Plan) (count : ℕ) → IsLeft plan → IsOfKind machine.program (kinds machine state has typed runs) builder (suc place) → count ≤ most_elements
      → (found : Option Object) → object_at plan.left (suc place) ≡ found → IsLeft (counted (suc place) plan count found)
  count_left place plan count left of few None there = left
  count_left place plan count left of few (Some object) there =
      let kind : of.own ≡ object.kind = same_Some of.own object.kind (sym of.there ∙ ap (λ (kinds : Kinds). kind_in kinds (suc place)) (sym left.left) ∙ kind_there plan.left.objects place object there) in
      let goes : holds_kind machine.program object.kind builder ≡ true = subst (λ (kind : ℕ). holds_kind machine.program kind builder ≡ true) kind of.goes in
      record {
        good = altered_good machine.program plan place object (slice_set object.contents 1 (Number (pos count))) left.good there
            (field_set machine.program (kinds_of (objects_in plan)) builder 1 basics.Int object (Number (pos count)) has.core.counts goes
            (HasContent.AnInt basics.Int (pos count) refl (length_fits count few) refl)
            (left.good.typed.heap.each (suc place) object (object_placed plan.placed plan.left.objects place object there)));
        grows = altered_grows (kinds machine state has typed runs) plan place object (slice_set object.contents 1 (Number (pos count))) there left.grows;
        left = kinds_set plan.left.objects (suc place) (slice_set object.contents 1 (Number (pos count))) ∙ left.left;
      }

  abbrev with_count : ℕ → Plan → ℕ → Plan
  with_count serial plan count = counted serial plan count (object_at plan.left serial)

  left_typed : (result : Option Basic) (answer : List Value) (plan : Plan) → ((more : Kinds) → Answers machine.program (kinds machine state has typed runs ++ more) result answer) → IsLeft plan
      → Is result (Some (Gives plan answer))
  left_typed result answer plan answers left = IsPerformed.Given plan answer (record { typed = left.good.typed; grows = left.grows; answers = answers left.grows.more })

  array_left : (place : ℕ) (own : Object) (units : List ℕ) (room : ℕ) → IsThere builder place own → Units units → length units ≤ most_elements → room ≤ most_elements
      → IsLeft (with_count (suc place) (with_array builder_characters (suc place) own units room) (length units))
  array_left place own units room there all few small =
      count_left place (with_array builder_characters (suc place) own units room) (length units)
      (record {
        good = with_array_good builder_characters has.built units room all few small builder place own has.core.builders there;
        grows = with_array_grows builder_characters has.built units room all few small builder place own has.core.builders there;
        left = kinds_set state.objects (suc place) (slice_set own.contents 0 (Reference (leaving state).next));
      }) (of_kind builder place own there) few (object_at (with_array builder_characters (suc place) own units room).left (suc place)) refl

  too_long : (result : Option Basic) → Is result (stops call negative_size)
  too_long result = stops_typed machine state has typed runs result negative_size (3, omega arith, refl)

  out_of_range : (result : Option Basic) → Is result (stops call string_index)
  out_of_range result = stops_typed machine state has typed runs result string_index (5, omega arith, refl)

  -- a builder that is made
  abbrev builds : ℕ → List ℕ → ℕ → Object → Option Performed
  builds serial units room object = if_short call room (Some (Gives (with_count serial (with_array builder_characters serial object units room) (length units)) []))

  built_new : (place : ℕ) (own : Object) (units : List ℕ) (room : ℕ) → IsThere builder place own → IsText units → Is None (builds (suc place) units room own)
  built_new place own units room there text = go (nat_le room most_elements) refl where
    go : (test : Bool) → nat_le room most_elements ≡ test
        → Is None (if test then Some (Gives (with_count (suc place) (with_array builder_characters (suc place) own units room) (length units)) []) else stops call negative_size)
    go true small = left_typed None [] (with_count (suc place) (with_array builder_characters (suc place) own units room) (length units)) nothing
        (array_left place own units room there text.each text.few (leb-true room most_elements small))
    go false small = too_long None

  abbrev builds_sized : ℕ → ℤ → Object → Option Performed
  builds_sized serial (pos room) object = builds serial [] room object
  builds_sized serial room object = stops call negative_size

  no_text : IsText []
  no_text = record { each = tt; few = omega arith }

  built_sized : (place : ℕ) (own : Object) (room : ℤ) → IsThere builder place own → Is None (builds_sized (suc place) room own)
  built_sized place own (pos room) there = built_new place own [] room there no_text
  built_sized place own (negsuc room) there = too_long None

  -- a builder that holds other units
  abbrev in_place : ℕ → Object → List ℕ → State
  in_place serial array units = with_contents_at state serial (unit_contents units ++ drop (length units) array.contents)

  abbrev holding : ℕ → Object → ℕ → Object → List ℕ → Plan
  holding serial own at array units =
      if nat_le (length units) (length array.contents) then with_count serial (leaving (in_place at array units)) (length units)
      else with_count serial (with_array builder_characters serial own units (grown (length array.contents) (length units))) (length units)

  own_left : (place at : ℕ) (own array : Object) (units : List ℕ) → IsThere builder place own → IsThere (characters machine.program) at array → Units units
      → length units ≤ length array.contents → IsLeft (with_count (suc place) (leaving (in_place (suc at) array units)) (length units))
  own_left place at own array units there array_is_there all fits =
      let element = array_elements machine state has typed runs (characters machine.program) basics.Char array refl has.core.char_elements array_is_there.goes in
      let has_elements : HasElements machine.program array.kind basics.Char = has.core.elements array.kind (characters machine.program) basics.Char array_is_there.goes has.core.char_elements in
      let few = array_is_there.is.few basics.Char element in
      let contents : List Content = unit_contents units ++ drop (length units) array.contents in
      let one : length (unit_contents units ++ drop (length units) array.contents) ≡ length (unit_contents units) + length (drop (length units) array.contents) =
      length-append (unit_contents units) (drop (length units) array.contents) in
      let two : length (unit_contents units) ≡ length units = length-map units (λ (unit : ℕ). Number (pos unit)) in
      let three : length (drop (length units) array.contents) ≡ length array.contents - length units = length-drop (length units) array.contents in
      let own_kinds : Kinds = kinds machine state has typed runs in
      let same : kinds_of (in_place (suc at) array units).objects ≡ own_kinds = kinds_set state.objects (suc at) contents in
      let new : IsObject machine.program own_kinds (with_contents array contents) =
      array_is machine.program own_kinds array basics.Char contents element (λ class classed. none-some class (sym has_elements.no_class ∙ classed)) array_is_there.is
      (all_joined (HasContent machine.program own_kinds basics.Char) (unit_contents units) (drop (length units) array.contents) (units_held machine.program own_kinds units all)
      (all_left (HasContent machine.program own_kinds basics.Char) (length units) array.contents
      (words_held machine.program own_kinds basics.Char array.contents (λ place low. array_is_there.is.elements basics.Char place element low))))
      (omega (arith, one, two, three, fits, few)) in
      count_left place (leaving (in_place (suc at) array units)) (length units)
      (record {
        good = record {
          typed = record {
            heap = heap_set machine.program state.objects at array contents typed.heap array_is_there.there new;
            roots = subst (λ (kinds : Kinds). AreRoots machine.program kinds state.roots) (sym same) typed.roots;
            input = typed.input;
          };
          next = refl;
        };
        grows = record { more = []; is = same ∙ sym (append-nil own_kinds); runs = runs };
        left = same;
      }) (of_kind builder place own there) (omega (arith, fits, few)) (object_at (in_place (suc at) array units) (suc place)) refl

  holding_left : (place at : ℕ) (own array : Object) (units : List ℕ) → IsThere builder place own → IsThere (characters machine.program) at array → Units units
      → length units ≤ most_elements → IsLeft (holding (suc place) own (suc at) array units)
  holding_left place at own array units there array_is_there all few = go (nat_le (length units) (length array.contents)) refl where
    go : (test : Bool) → nat_le (length units) (length array.contents) ≡ test
        → IsLeft (if test then with_count (suc place) (leaving (in_place (suc at) array units)) (length units)
        else with_count (suc place) (with_array builder_characters (suc place) own units (grown (length array.contents) (length units))) (length units))
    go true fits = own_left place at own array units there array_is_there all (leb-true (length units) (length array.contents) fits)
    go false larger = array_left place own units (grown (length array.contents) (length units)) there all few (least_of (max (2 * length array.contents + 2) (length units)))

  abbrev in_new_array : ℕ → Object → ℕ → List ℕ → Plan
  in_new_array serial own room units = with_count serial (with_array builder_characters serial own units (grown room (length units))) (length units)

  abbrev holds_in : ℕ → Object → List ℕ → List Value → ℕ → Option Performed
  holds_in serial own units answer zero = Some (Gives (in_new_array serial own 0 units) answer)
  holds_in serial own units answer (suc at) = option_map (λ array. Gives (holding serial own (suc at) array units) answer) (object_at state (suc at))

  abbrev holds : ℕ → Object → List Value → List ℕ → Option Performed
  holds serial own answer units = if_short call (length units) (option_and_then (holds_in serial own units answer) (reference_at own value_slot))

  held_typed : (result : Option Basic) (answer : List Value) → ((more : Kinds) → Answers machine.program (kinds machine state has typed runs ++ more) result answer)
      → (place : ℕ) (own : Object) (units : List ℕ) → IsThere builder place own → Units units → Is result (holds (suc place) own answer units)
  held_typed result answer answers place own units there all = go (nat_le (length units) most_elements) refl where
    in_array : HasArray machine.program state own → length units ≤ most_elements → Is result (option_and_then (holds_in (suc place) own units answer) (reference_at own value_slot))
    in_array (HasArray.NoArray names) few =
        subst (Is result) (sym (ap (option_and_then (holds_in (suc place) own units answer)) names))
        (left_typed result answer (in_new_array (suc place) own 0 units) answers
        (array_left place own units (grown 0 (length units)) there all few (least_of (max (2 * 0 + 2) (length units)))))
    in_array (HasArray.AnArray at array names present goes is) few =
        subst (Is result) (sym (ap (option_and_then (holds_in (suc place) own units answer)) names ∙ ap (option_map (λ (array : Object). Gives (holding (suc place) own (suc at) array units) answer)) present))
        (left_typed result answer (holding (suc place) own (suc at) array units) answers
        (holding_left place at own array units there (record { there = present; is = is; goes = goes }) all few))

    go : (test : Bool) → nat_le (length units) most_elements ≡ test
        → Is result (if test then option_and_then (holds_in (suc place) own units answer) (reference_at own value_slot) else stops call negative_size)
    go true few = in_array (builder_array machine state has typed runs own there.goes there.is) (leb-true (length units) most_elements few)
    go false few = too_long result

  -- on what a builder has
  on_builder : (result : Option Basic) (go : ℕ → Object → List ℕ → Option Performed) (serial : ℕ) → Refer builder serial
      → ((place : ℕ) (own : Object) (units : List ℕ) → serial ≡ suc place → IsThere builder place own → IsText units → Is result (go (suc place) own units))
      → Is result (on_object call serial (λ object. option_and_then (go serial object) (built_text state object)))
  on_builder result go zero refers follows = stops_null machine state has typed runs result
  on_builder result go (suc place) refers follows =
      built_typed machine state has typed runs result (suc place) (go (suc place)) refers
      (λ at own units same there is goes text.
      let here : object_at state (suc place) ≡ Some own = ap (object_at state) same ∙ there in
      follows place own units refl (record { there = here; is = is; goes = goes }) text)

  abbrev Builder : Option Basic
  Builder = Some (basics.Reference builder)

  itself : (serial : ℕ) → Refer builder serial → (more : Kinds) → Answers machine.program (kinds machine state has typed runs ++ more) Builder (values.Ref serial ∷ [])
  itself serial refers more =
      object_answer machine.program (kinds machine state has typed runs ++ more) builder serial (refers_more machine.program (kinds machine state has typed runs) more builder serial refers)

  abbrev appends : ℕ → List ℕ → Option Performed
  appends serial units = on_object call serial (λ own. option_and_then (λ built. holds serial own (values.Ref serial ∷ []) (built ++ units)) (built_text state own))

  appended : (serial : ℕ) (units : List ℕ) → Refer builder serial → Units units → Is Builder (appends serial units)
  appended serial units refers all =
      on_builder Builder (λ serial own built. holds serial own (values.Ref serial ∷ []) (built ++ units)) serial refers
      (λ place own built same there text. held_typed Builder (values.Ref (suc place) ∷ []) (itself (suc place) (subst (Refer builder) same refers)) place own (built ++ units) there
      (all_joined (λ unit. unit < 2 ^ 16) built units text.each all))

  -- the unit at a place
  abbrev set_at : ℕ → ℕ → ℤ → Object → List ℕ → Option Performed
  set_at serial unit (pos place) own built =
      if nat_lt place (length built) then holds serial own [] (take place built ++ unit ∷ drop (place + 1) built) else stops call string_index
  set_at serial unit place own built = stops call string_index

  set_typed : (unit : ℕ) (index : ℤ) (place : ℕ) (own : Object) (built : List ℕ) → unit < 2 ^ 16 → IsThere builder place own → IsText built
      → Is None (set_at (suc place) unit index own built)
  set_typed unit (negsuc index) place own built low there text = out_of_range None
  set_typed unit (pos index) place own built low there text = go (nat_lt index (length built)) where
    go : (test : Bool) → Is None (if test then holds (suc place) own [] (take index built ++ unit ∷ drop (index + 1) built) else stops call string_index)
    go true = held_typed None [] nothing place own (take index built ++ unit ∷ drop (index + 1) built) there
        (all_joined (λ unit. unit < 2 ^ 16) (take index built) (unit ∷ drop (index + 1) built) (all_taken (λ unit. unit < 2 ^ 16) index built text.each)
        (low, all_left (λ unit. unit < 2 ^ 16) (index + 1) built text.each))
    go false = out_of_range None

  abbrev deleted_at : ℕ → ℤ → Object → List ℕ → Option Performed
  deleted_at serial (pos place) own built =
      if nat_lt place (length built) then holds serial own (values.Ref serial ∷ []) (take place built ++ drop (place + 1) built) else stops call string_index
  deleted_at serial place own built = stops call string_index

  deleted_typed : (index : ℤ) (place : ℕ) (own : Object) (built : List ℕ) → Refer builder (suc place) → IsThere builder place own → IsText built
      → Is Builder (deleted_at (suc place) index own built)
  deleted_typed (negsuc index) place own built refers there text = out_of_range Builder
  deleted_typed (pos index) place own built refers there text = go (nat_lt index (length built)) where
    go : (test : Bool) → Is Builder (if test then holds (suc place) own (values.Ref (suc place) ∷ []) (take index built ++ drop (index + 1) built) else stops call string_index)
    go true = held_typed Builder (values.Ref (suc place) ∷ []) (itself (suc place) refers) place own (take index built ++ drop (index + 1) built) there
        (all_joined (λ unit. unit < 2 ^ 16) (take index built) (drop (index + 1) built) (all_taken (λ unit. unit < 2 ^ 16) index built text.each)
        (all_left (λ unit. unit < 2 ^ 16) (index + 1) built text.each))
    go false = out_of_range Builder

  abbrev cut_at : ℕ → ℤ → Object → List ℕ → Option Performed
  cut_at serial (pos count) own built = if_short call count (holds serial own [] (take count built ++ replicate (count - length built) 0))
  cut_at serial count own built = stops call string_index

  cut_typed : (count : ℤ) (place : ℕ) (own : Object) (built : List ℕ) → IsThere builder place own → IsText built → Is None (cut_at (suc place) count own built)
  cut_typed (negsuc count) place own built there text = out_of_range None
  cut_typed (pos count) place own built there text = go (nat_le count most_elements) where
    go : (test : Bool) → Is None (if test then holds (suc place) own [] (take count built ++ replicate (count - length built) 0) else stops call negative_size)
    go true = held_typed None [] nothing place own (take count built ++ replicate (count - length built) 0) there
        (all_joined (λ unit. unit < 2 ^ 16) (take count built) (replicate (count - length built) 0) (all_taken (λ unit. unit < 2 ^ 16) count built text.each) (zeros_low (count - length built)))
    go false = too_long None

  -- a string of a range of an array
  abbrev sets_range : ℕ → Object → List ℕ → ℤ → ℤ → Option Performed
  sets_range serial object units (pos from) (pos count) =
      if nat_le (from + count) (length units)
      then Some (Gives (with_array made_characters serial object (range_of units from (from + count)) (length (range_of units from (from + count)))) []) else stops call string_index
  sets_range serial object units from count = stops call string_index

  range_text : (units : List ℕ) (from to : ℕ) → IsText units → IsText (range_of units from to)
  range_text units from to text =
      let few = text.few in
      let one : length (range_of units from to) ≡ min (to - from) (length (drop from units)) = length-take (to - from) (drop from units) in
      let two : length (drop from units) ≡ length units - from = length-drop from units in
      record {
        each = all_taken (λ unit. unit < 2 ^ 16) (to - from) (drop from units) (all_left (λ unit. unit < 2 ^ 16) from units text.each);
        few = omega (arith, few, one, two);
      }

  ranged : (units : List ℕ) (from count : ℤ) (place : ℕ) (string : Object) → IsText units → IsThere kind_of_string place string → Is None (sets_range (suc place) string units from count)
  ranged units (negsuc from) count place string text own = out_of_range None
  ranged units (pos from) (negsuc count) place string text own = out_of_range None
  ranged units (pos from) (pos count) place string text own = go (nat_le (from + count) (length units)) where
    go : (test : Bool) → Is None (if test
        then Some (Gives (with_array made_characters (suc place) string (range_of units from (from + count)) (length (range_of units from (from + count)))) []) else stops call string_index)
    go true = texted place string (range_of units from (from + count)) own (range_text units from (from + count) text)
    go false = out_of_range None

  -- `null` is appended as a word
  abbrev appends_string : ℕ → ℕ → Option Performed
  appends_string serial zero = appends serial (codes "null")
  appends_string serial (suc place) = on_text call (suc place) (appends serial)

  string_appended : (serial string : ℕ) → Refer builder serial → Refer kind_of_string string → Is Builder (appends_string serial string)
  string_appended serial zero refers given = appended serial (codes "null") refers (literal_low (codes "null") refl)
  string_appended serial (suc place) refers given =
      text_typed machine state has typed runs Builder (suc place) (appends serial) given (λ units text. appended serial units refers text.each)

  own_performed : (native : Native) (held : List Value) → AreGiven machine.program (kinds machine state has typed runs) (takes_of machine.program native) held
      → form_of native ≡ forms.OwnFields → Is (gives_of machine.program native) (performed machine state native held)
  own_performed natives.StringNew _ (AreGiven.AnObject _ string _ _ refers AreGiven.Nothing) form = on_own None kind_of_string string (λ serial object. Some (Gives (with_array made_characters serial object [] 0) [])) refers (λ place own same there. texted place own [] there no_text)
  own_performed natives.StringNewChars _ (AreGiven.AnObject _ string _ _ refers (AreGiven.AnObject _ array _ _ given AreGiven.Nothing)) form = object_typed machine state has typed runs None (characters machine.program) array _ given
      (λ at array_object same there is goes. on_own None kind_of_string string (λ serial object. Some (Gives (with_array made_characters serial object (units_of array_object) (length (units_of array_object))) [])) refers (λ place own equal own_there. texted place own (units_of array_object) own_there (chars_text machine state has typed runs array_object goes is)))
  own_performed natives.StringNewRange _ (AreGiven.AnObject _ string _ _ refers (AreGiven.AnObject _ array _ _ given (AreGiven.AnInt start _ _ _ (AreGiven.AnInt count _ _ _ AreGiven.Nothing)))) form = object_typed machine state has typed runs None (characters machine.program) array _ given
      (λ at array_object same there is goes. on_own None kind_of_string string (λ serial object. sets_range serial object (units_of array_object) start count) refers (λ place own equal own_there. ranged (units_of array_object) start count place own (chars_text machine state has typed runs array_object goes is) own_there))
  own_performed natives.StringBuilderNew _ (AreGiven.AnObject _ serial _ _ refers AreGiven.Nothing) form = on_own None builder serial (λ serial object. builds serial [] 16 object) refers (λ place own same there. built_new place own [] 16 there no_text)
  own_performed natives.StringBuilderNewCapacity _ (AreGiven.AnObject _ serial _ _ refers (AreGiven.AnInt room _ _ _ AreGiven.Nothing)) form = on_own None builder serial (λ serial. builds_sized serial room) refers (λ place own same there. built_sized place own room there)
  own_performed natives.StringBuilderNewString _ (AreGiven.AnObject _ serial _ _ refers (AreGiven.AnObject _ string _ _ given AreGiven.Nothing)) form = text_typed machine state has typed runs None string _ given
      (λ units text. on_own None builder serial (λ serial object. builds serial units (min most_elements (length units + 16)) object) refers (λ place own same there. built_new place own units (min most_elements (length units + 16)) there text))
  own_performed natives.StringBuilderAppendString _ (AreGiven.AnObject _ serial _ _ refers (AreGiven.AnObject _ string _ _ given AreGiven.Nothing)) form = string_appended serial string refers given
  own_performed natives.StringBuilderAppendInt _ (AreGiven.AnObject _ serial _ _ refers (AreGiven.AnInt number _ _ _ AreGiven.Nothing)) form = appended serial (digits number) refers (signed_low number)
  own_performed natives.StringBuilderAppendLong _ (AreGiven.AnObject _ serial _ _ refers (AreGiven.ALong number _ _ _ AreGiven.Nothing)) form = appended serial (digits number) refers (signed_low number)
  own_performed natives.StringBuilderAppendChar _ (AreGiven.AnObject _ serial _ _ refers (AreGiven.AnInt unit _ _ _ AreGiven.Nothing)) form = appended serial (unit_of unit ∷ []) refers (low_bits-lt 16 unit, tt)
  own_performed natives.StringBuilderAppendBoolean _ (AreGiven.AnObject _ serial _ _ refers (AreGiven.AnInt is _ _ _ AreGiven.Nothing)) form = appended serial (truth is) refers (truth_low is)
  own_performed natives.StringBuilderAppendChars _ (AreGiven.AnObject _ serial _ _ refers (AreGiven.AnObject _ array _ _ given AreGiven.Nothing)) form = object_typed machine state has typed runs Builder (characters machine.program) array _ given
      (λ at array_object same there is goes. appended serial (units_of array_object) refers (chars_text machine state has typed runs array_object goes is).each)
  own_performed natives.StringBuilderSetCharAt _ (AreGiven.AnObject _ serial _ _ refers (AreGiven.AnInt index _ _ _ (AreGiven.AnInt unit _ _ _ AreGiven.Nothing))) form = on_builder None (λ serial. set_at serial (unit_of unit) index) serial refers (λ place own units same there text. set_typed (unit_of unit) index place own units (low_bits-lt 16 unit) there text)
  own_performed natives.StringBuilderDeleteCharAt _ (AreGiven.AnObject _ serial _ _ refers (AreGiven.AnInt index _ _ _ AreGiven.Nothing)) form = on_builder Builder (λ serial. deleted_at serial index) serial refers (λ place own units same there text. deleted_typed index place own units (subst (Refer builder) same refers) there text)
  own_performed natives.StringBuilderSetLength _ (AreGiven.AnObject _ serial _ _ refers (AreGiven.AnInt count _ _ _ AreGiven.Nothing)) form = on_builder None (λ serial. cut_at serial count) serial refers (λ place own units same there text. cut_typed count place own units there text)
  own_performed natives.IntegerNew _ (AreGiven.AnObject _ box _ _ refers (AreGiven.AnInt number _ _ fits AreGiven.Nothing)) form = on_own None library.integer box (λ serial object. Some (Gives (leaving (with_word state serial object value_slot (Number number))) [])) refers
      (λ place own same there. number_set library.integer place basics.Int own number has.core.integers there (HasContent.AnInt basics.Int number refl fits refl))
  own_performed natives.LongNew _ (AreGiven.AnObject _ box _ _ refers (AreGiven.ALong number _ _ fits AreGiven.Nothing)) form = on_own None library.long box (λ serial object. Some (Gives (leaving (with_word state serial object value_slot (Number number))) [])) refers
      (λ place own same there. number_set library.long place basics.Long own number has.core.longs there (HasContent.ALong number fits))
  own_performed natives.CharacterNew _ (AreGiven.AnObject _ box _ _ refers (AreGiven.AnInt unit _ _ fits AreGiven.Nothing)) form = on_own None library.character box (λ serial object. Some (Gives (leaving (with_word state serial object value_slot (Number (pos (unit_of unit))))) [])) refers
      (λ place own same there. number_set library.character place basics.Char own (pos (unit_of unit)) has.core.chars there (int_kept machine.program _ basics.Char unit refl fits))
  own_performed natives.BooleanNew _ (AreGiven.AnObject _ box _ _ refers (AreGiven.AnInt is _ _ fits AreGiven.Nothing)) form = on_own None library.boolean box (λ serial object. Some (Gives (leaving (with_word state serial object value_slot (Number (pos (low_bits 1 is))))) [])) refers
      (λ place own same there. number_set library.boolean place basics.Boolean own (pos (low_bits 1 is)) has.core.booleans there (int_kept machine.program _ basics.Boolean is refl fits))
  own_performed other held given form = absurd (cc form)

pub own_fields_advance : (machine : Machine) (state : State) (frame : MethodFrame) (below : List Frame) → HasNatives machine.program → IsTyped machine.program → IsSpelled machine.program
    → HoldsOn machine.program → IsTypedState machine.program state → state.roots.pending ≡ 0 → state.roots.frames ≡ OfMethod frame ∷ below
    → (calls : CallsNative machine state frame below) → form_of calls.native ≡ forms.OwnFields → Advances machine state
own_fields_advance machine state frame below has fits spelled holds typed runs frames calls form =
    given_advances machine state frame below has fits spelled holds typed runs frames calls
    (λ given. own_performed machine state has typed runs calls.native calls.arguments given form)
