-- Natives that print a string.
use Rattle.std.proofs.Common.{◌≡◌, ◌∙◌, ap, arith, refl, sym, subst, ℕ, pos, ◌<◌, ◌≤◌, ◌&&◌, Bool, true, false, IsTrue, List, [], ◌∷◌, length, map, Option, Some, None, suc, zero}
use Rattle.std.proofs.lemmas.Bool.{false≢true}
use Rattle.std.proofs.lemmas.List.{length-map}
use Rattle.std.proofs.lemmas.Option.{same_Some, slice_get-map}
use Rattle.std.specs.Io.KnownBytes.{Appends}
use Rattle.std.specs.Prelude.{option_and_then, option_map, slice_get}
use Rattle.cb_arith.proofs.Laws.{low_bits-lt}
use Rattle.cb_arith.specs.Bits.{low_bits}
use Rattle.cb_frames.specs.Tops.{on_top, stack_in, top_stack}
use Rattle.cb_heap.proofs.Laws.{reads_stack}
use Rattle.cb_heap.specs.Kept.{content_at, contents_at, is_held, is_reference}
use Rattle.cb_heap.specs.Storage.{Settings}
use Rattle.cb_heap.specs.Reading.{read_value, seen, serial_of}
use Rattle.cb_heap.specs.Rules.{Rules}
use Rattle.cb_io.specs.Sink.{AppendsProperPrefix}
use Rattle.cb_io.specs.Utf8.{utf8}
use Rattle.cb_kinds.specs.declared.basic.Basic.{Basic}
use Rattle.cb_kinds.specs.declared.basic.Basic.TheVariants as basics
use Rattle.cb_link.specs.Program.{Linked}
use Rattle.cb_link.specs.declared.decoded.Decoded.{Decoded}
use Rattle.cb_machine.specs.Arrays.{element_of}
use Rattle.cb_machine.specs.Machine.{Machine}
use Rattle.cb_machine.specs.Natives.{native_of, performed}
use Rattle.cb_machine.specs.Performing.{Performed, text_of as text_in}
use Rattle.cb_machine.specs.Values.{kept_int}
use Rattle.cb_plain.specs.State.{Content, Frame, Number, Object, Reference, Roots, State}
use Rattle.cb_plain.specs.Updates.{object_at, object_in}
use Rattle.cb_plain.specs.declared.value.Value.{Value}
use Rattle.cb_plain.specs.declared.value.Value.TheVariants as values
use Rattle.cb_shapes.specs.declared.sort.Sort.TheVariants as sorts
use Rattle.cb_safety.specs.Given.{StringOn}
use Rattle.cb_safety.specs.Heap.{Holds, IsHeap}
use Rattle.cb_safety.specs.Held.{HasContent}
use Rattle.cb_safety.specs.Kinds.{Kinds, kinds_of}
use Rattle.cb_act.specs.Acting.{Asks, acted}
use Rattle.cb_act.specs.Effects.{has_sort}
use Rattle.cb_act.specs.Here.{Here}
use Rattle.cb_interp.specs.Printing.{AreChars, HoldsUnits, IsUnit, array_of, as_line, behind_taken, is_text, is_text_of, native_text, referred_word, string_text, suits_text, text_of, text_on}
use Rattle.cb_interp.specs.Running.{MayRun, SaysBy, Turned}
use Rattle.cb_act.specs.Turning.{Outside, machine_of, state_of}
use Rattle.cb_act.specs.declared.need.Need.TheVariants as needs
use Rattle.cb_interp.specs.declared.stop.Stop.TheVariants as stops
use Rattle.cb_interp.proofs.NativesCalled.{string_given}
use Rattle.cb_interp.proofs.TurnsNativeSaid.{Printer, Printing, Said, Says, printed_part, printed_turn, printing, prints_so}

-- ---- the array of a string's chars

-- a char is a unit
unit_of : (program : Linked) (kinds : Kinds) (basic : Basic) (content : Content) → HasContent program kinds basic content → basic ≡ basics.Char → IsUnit (Some content)
unit_of program kinds basic content (HasContent.AReference kind serial refers) is = absurd (cc is)
unit_of program kinds basic content (HasContent.ALong number fits) is = absurd (cc is)
unit_of program kinds basic content (HasContent.AnInt own number sort fits kept) is =
    let low : pos (low_bits 16 number) ≡ number = ap (λ basic. kept_int basic number) (sym is) ∙ kept in
    record { unit = low_bits 16 number; is = ap (λ number. Some (Number number)) (sym low); low = low_bits-lt 16 number }

units_of : (program : Linked) (objects : List (Option Object)) (array : ℕ) (object : Object) → IsHeap program objects → object_in objects array ≡ Some object
    → element_of program object.kind ≡ Some basics.Char → HoldsUnits objects array
units_of program objects array object heap there chars place low =
    let contents : contents_at objects array ≡ object.contents = rw there refl in
    let own : Holds program (kinds_of objects) object.contents place basics.Char =
    (heap.each array object there).elements basics.Char place chars (subst (λ (contents : List Content). place < length contents) contents low) in
    subst IsUnit (sym (ap (λ (contents : List Content). slice_get contents place) contents ∙ own.there))
    (unit_of program (kinds_of objects) basics.Char own.content own.fits refl)

-- one that isn't there has none
pub no_units : (objects : List (Option Object)) (array : ℕ) → contents_at objects array ≡ [] → HoldsUnits objects array
no_units objects array none place low = absurd (omega (arith, low, ap length none))

-- the array of a string, where it is of chars
units_in : (program : Linked) (objects : List (Option Object)) (string : ℕ) → IsHeap program objects
    → ((own array : Object) (place : ℕ) → object_in objects string ≡ Some own → slice_get own.contents 0 ≡ Some (Reference place) → object_in objects place ≡ Some array
    → element_of program array.kind ≡ Some basics.Char)
    → HoldsUnits objects (array_of objects string)
units_in program objects string heap chars = of_string (object_in objects string) refl where
  at_place : (place : ℕ) → array_of objects string ≡ place → HoldsUnits objects place → HoldsUnits objects (array_of objects string)
  at_place place is units = subst (HoldsUnits objects) (sym is) units

  of_array : (own : Object) (place : ℕ) → object_in objects string ≡ Some own → slice_get own.contents 0 ≡ Some (Reference place) → (found : Option Object)
      → object_in objects place ≡ found → HoldsUnits objects place
  of_array own place there at None kept = no_units objects place (rw kept refl)
  of_array own place there at (Some array) kept = units_of program objects place array heap kept (chars own array place there at kept)

  of_word : (own : Object) → object_in objects string ≡ Some own → (word : Option Content) → slice_get own.contents 0 ≡ word → HoldsUnits objects (array_of objects string)
  of_word own there None at = at_place 0 (rw (there, at) refl) (no_units objects 0 refl)
  of_word own there (Some (Number number)) at = at_place 0 (rw (there, at) refl) (no_units objects 0 refl)
  of_word own there (Some (Reference place)) at = at_place place (rw (there, at) refl) (of_array own place there at (object_in objects place) refl)

  of_string : (found : Option Object) → object_in objects string ≡ found → HoldsUnits objects (array_of objects string)
  of_string None there = at_place 0 (rw there refl) (no_units objects 0 refl)
  of_string (Some own) there = of_word own there (slice_get own.contents 0) refl

-- the reference on a stack
same_serial : (one other : ℕ) → ◌≡◌ {A = Option Value} (Some (values.Ref one)) (Some (values.Ref other)) → one ≡ other
same_serial one other is = cc is

pub both : (one other : Bool) → (one && other) ≡ true → (one ≡ true) × (other ≡ true)
both true other is = (refl, is)
both false other is = absurd (false≢true is)

module _ (index : ℕ → ℕ) (objects : List (Option Object)) (at : ℕ) (text : is_text objects (serial_of index at) ≡ true) (some : at ≡ 0 → ⊥) where
  parts : (is_reference (content_at objects (serial_of index at) 0) ≡ true) × (is_held objects (array_of objects (serial_of index at)) ≡ true)
  parts = go at text some where
    go : (at : ℕ) → is_text objects (serial_of index at) ≡ true → (at ≡ 0 → ⊥)
        → (is_reference (content_at objects (serial_of index at) 0) ≡ true) × (is_held objects (array_of objects (serial_of index at)) ≡ true)
    go zero text some = absurd (some refl)
    go (suc place) text some = both _ _ text

  module _ (array : ℕ) (refers : content_at objects (serial_of index at) 0 ≡ Some (Reference (serial_of index array))) where
    same : serial_of index array ≡ array_of objects (serial_of index at)
    same = sym (ap referred_word refers)

    held : IsTrue (is_held objects (serial_of index array))
    held = ap (is_held objects) same ∙ parts.1

    pub chars_so : HoldsUnits objects (array_of objects (serial_of index at)) → AreChars objects (serial_of index at) (serial_of index array)
    chars_so units = record { same = λ other. same; held = held; units = subst (HoldsUnits objects) (sym same) units }

-- ---- what a native that prints a string does

abbrev printer_of : (state : State) → Bool → Printer state
printer_of state line = record { native = native_text line; count = 2; fits = suits_text state.objects; text = λ stack. as_line line (text_on state.objects stack) }

module _ (state : State) (go : List ℕ → Option Performed) (place : ℕ) (found : Performed) where
  abbrev text_given : Option Performed
  text_given = option_and_then (λ string. option_and_then go (text_in state string)) (object_at state (suc place))

  -- what is read of a string is there
  abbrev Opened : Type 0
  Opened = (is_text state.objects (suc place) ≡ true) × (go (string_text state.objects (suc place)) ≡ Some found)

  opened : text_given ≡ Some found → Opened
  opened is = of_string (object_at state (suc place)) refl where
    never : text_given ≡ None → Opened
    never none = absurd (cc (sym none ∙ is))

    of_array : (string : Object) → object_at state (suc place) ≡ Some string → (array : ℕ) → slice_get string.contents 0 ≡ Some (Reference (suc array))
        → (own : Option Object) → object_at state (suc array) ≡ own → Opened
    of_array string there array at None kept = never (rw (there, at, kept) refl)
    of_array string there array at (Some own) kept =
        let text : text_given ≡ go (string_text state.objects (suc place)) = rw (there, at, kept) refl in
        let whole : is_text state.objects (suc place) ≡ true = rw (there, at, kept) refl in
        (whole, sym text ∙ is)

    of_word : (string : Object) → object_at state (suc place) ≡ Some string → (word : Option Content) → slice_get string.contents 0 ≡ word → Opened
    of_word string there None at = never (rw (there, at) refl)
    of_word string there (Some (Number number)) at = never (rw (there, at) refl)
    of_word string there (Some (Reference zero)) at =
        let text : text_given ≡ go (string_text state.objects (suc place)) = rw (there, at) refl in
        let whole : is_text state.objects (suc place) ≡ true = rw (there, at) refl in
        (whole, sym text ∙ is)
    of_word string there (Some (Reference (suc array))) at = of_array string there array at (object_at state (suc array)) refl

    of_string : (string : Option Object) → object_at state (suc place) ≡ string → Opened
    of_string None there = never (rw there refl)
    of_string (Some string) there = of_word string there (slice_get string.contents 0) refl

module _ (machine : Machine) (state : State) where
  two : (rest : List Value) (stream string : ℕ) → 2 ≤ length (values.Ref string ∷ values.Ref stream ∷ rest)
  two rest stream string = omega arith

  said : (line : Bool) (arguments rest : List Value) (found : Performed) → performed machine state (native_text line) arguments ≡ Some found
      → Said state (printer_of state line) arguments rest found
  said false (values.Ref stream ∷ values.Ref zero ∷ []) rest found is =
      record { fits = refl; left = refl; enough = two rest stream 0; gives = sym (same_Some _ found is) }
  said true (values.Ref stream ∷ values.Ref zero ∷ []) rest found is =
      record { fits = refl; left = refl; enough = two rest stream 0; gives = sym (same_Some _ found is) }
  said false (values.Ref stream ∷ values.Ref (suc place) ∷ []) rest found is =
      let own = opened state (λ (units : List ℕ). Some (prints_so state units)) place found is in
      record { fits = own.0; left = refl; enough = two rest stream (suc place); gives = sym (same_Some _ found own.1) }
  said true (values.Ref stream ∷ values.Ref (suc place) ∷ []) rest found is =
      let own = opened state (λ (units : List ℕ). Some (prints_so state (as_line true units))) place found is in
      record { fits = own.0; left = refl; enough = two rest stream (suc place); gives = sym (same_Some _ found own.1) }
  said false other rest found is = absurd (cc is)
  said true other rest found is = absurd (cc is)

-- ---- the turn

sort_on : (index : ℕ → ℕ) (objects : List (Option Object)) (stack : List Value) → suits_text objects (map (read_value index) stack) ≡ true
    → has_sort sorts.Reference (slice_get stack 0) ≡ true
sort_on index objects [] fits = absurd (false≢true fits)
sort_on index objects (values.Int number ∷ stack) fits = absurd (false≢true fits)
sort_on index objects (values.Long number ∷ stack) fits = absurd (false≢true fits)
sort_on index objects (values.Ref place ∷ stack) fits = refl

module _ (program : Linked) (index : ℕ → ℕ) (objects : List (Option Object)) (limit : ℕ) (held : Roots) (outside : Outside) (decoded : Decoded) (method : ℕ)
    (at : Here (machine_of program limit) (state_of (seen index objects held) outside) decoded)
    (asks : acted program limit decoded (seen index objects held) ≡ Some (Asks (needs.Performs method)))
    (fixed : Bool) (settings : Settings) (runs : MayRun fixed (machine_of program limit) settings (state_of (seen index objects held) outside)) (line : Bool)
    (is : native_of program method ≡ Some (native_text line)) where
  abbrev state : State
  state = state_of (seen index objects held) outside

  each : Says (machine_of program limit) state (printer_of state line)
  each arguments = said (machine_of program limit) state line arguments

  here : Printing (machine_of program limit) state (printer_of state line) decoded.next
  here = printing program index objects limit held outside decoded method at asks fixed settings runs (printer_of state line) is each

  pub string_here : has_sort sorts.Reference (slice_get (top_stack held) 0) ≡ true
  string_here = sort_on index objects (top_stack held) (sym (ap (λ (stack : List Value). suits_text objects stack) (reads_stack index held)) ∙ here.fits)

  pub string_goes : decoded.next ≡ None → ⊥
  string_goes = here.goes

  pub two_here : 1 < length (top_stack held)
  two_here = omega (arith, here.enough, ap length (reads_stack index held), length-map (top_stack held) (read_value index))

  module _ (string : ℕ) (on : slice_get (top_stack held) 0 ≡ Some (values.Ref string)) where
    top_read : slice_get (top_stack state.roots) 0 ≡ Some (values.Ref (serial_of index string))
    top_read =
        ap (λ (stack : List Value). slice_get stack 0) (reads_stack index held) ∙ slice_get-map (read_value index) (top_stack held) 0
        ∙ ap (option_map (read_value index)) on

    pub text_here : is_text objects (serial_of index string) ≡ true
    text_here = sym (ap (λ (found : Option Value). is_text_of objects found) top_read) ∙ here.fits

    text_is : as_line line (text_on objects (top_stack state.roots)) ≡ as_line line (string_text objects (serial_of index string))
    text_is = ap (λ (found : Option Value). as_line line (text_of objects found)) top_read

    pub units_here : HoldsUnits objects (array_of objects (serial_of index string))
    units_here =
        let given : StringOn program state at.frame = string_given (machine_of program limit) state decoded at method asks runs.linked runs.fits runs.typed line is in
        let on : slice_get at.frame.stack 0 ≡ Some (values.Ref (serial_of index string)) =
        ap (λ (frames : List Frame). slice_get (on_top [] stack_in frames) 0) (sym at.frames) ∙ top_read in
        subst (λ (serial : ℕ). HoldsUnits objects (array_of objects serial)) (same_serial given.serial (serial_of index string) (sym given.on ∙ on))
        (units_in program objects given.serial runs.typed.heap given.chars)

    pub string_turn : {Facts : Type 0} (rules : Rules Facts) (facts : Facts) (after : Roots) (pc : ℕ) (taken takes : Option (List ℕ)) → decoded.next ≡ Some pc
        → after ≡ behind_taken 2 pc held → Appends taken takes (utf8 (as_line line (string_text objects (serial_of index string))))
        → Turned rules (machine_of program limit) outside (seen index objects held) (seen index objects after) facts facts taken takes
    string_turn rules facts after pc taken takes next left appends =
        printed_turn program index objects limit held outside decoded method at asks fixed settings runs (printer_of state line) is each rules facts after pc taken takes
        (as_line line (string_text objects (serial_of index string))) text_is next left appends

    pub string_part : (pc : ℕ) (taken takes : Option (List ℕ)) → decoded.next ≡ Some pc
        → AppendsProperPrefix taken takes (utf8 (as_line line (string_text objects (serial_of index string))))
        → SaysBy (machine_of program limit) state stops.OutputFault taken takes
    string_part pc taken takes next part =
        printed_part program index objects limit held outside decoded method at asks fixed settings runs (printer_of state line) is each pc taken takes
        (as_line line (string_text objects (serial_of index string))) text_is next part
