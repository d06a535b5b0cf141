-- Natives that give a new String: a typed state advances where one is called.
use Rattle.std.proofs.Common.{◌≡◌, arith, refl, ℕ, ℤ, pos, negsuc, zero, suc, ◌-◌, ◌<◌, ◌^◌, ◌==◌, ◌&&◌, Bool, true, false, List, [], ◌∷◌, ◌++◌, codes, drop, map, length, nat_le, if◌then◌else◌, Option, Some, None, slice_get}
use Rattle.std.proofs.lemmas.Bool.{leb-true}
use Rattle.cb_arith.proofs.Laws.{low_bits-lt}
use Rattle.cb_arith.specs.Bits.{low_bits}
use Rattle.cb_kinds.specs.Basics.{is_reference}
use Rattle.cb_kinds.specs.declared.basic.Basic.{Basic}
use Rattle.cb_kinds.specs.declared.basic.Basic.TheVariants as basics
use Rattle.cb_library.specs.NativeForms.{form_of}
use Rattle.cb_library.specs.declared.native.Native.{Native}
use Rattle.cb_library.specs.declared.native.Native.TheVariants as natives
use Rattle.cb_library.specs.declared.native.NativeForm.TheVariants as forms
use Rattle.cb_link.specs.Numbers.{or_none}
use Rattle.cb_machine.specs.Library as library
use Rattle.cb_machine.specs.Machine.{Machine, kind_of_site}
use Rattle.cb_machine.specs.Natives.{performed}
use Rattle.cb_machine.specs.Performing.{Call, Gives, Performed, gives_text, most_elements, on_number, on_text, stops, units_of}
use Rattle.cb_machine.specs.Plans.{leaving}
use Rattle.cb_machine.specs.Sites.{made_characters, made_strings, negative_size, string_index}
use Rattle.cb_machine.specs.Strings.{Placed, with_string}
use Rattle.cb_machine.specs.Texts.{class_name, digits, hex_digits, object_text, range_of, truth, unit_of}
use Rattle.cb_machine.specs.Values.{natural}
use Rattle.cb_names.specs.Signs.{slash}
use Rattle.cb_plain.specs.State.{Frame, MethodFrame, Object, OfMethod, State}
use Rattle.cb_plain.specs.declared.value.Value.{Value}
use Rattle.cb_plain.specs.declared.value.Value.TheVariants as values
use Rattle.cb_verify.specs.Typed.{IsTyped}
use Rattle.cb_verify.specs.Within.{kind_of_class, kind_of_string, kind_of_throwable}
use Rattle.cb_safety.specs.Advancing.{Advances, HoldsOn, IsSpelled}
use Rattle.cb_safety.specs.Kinds.{Refers}
use Rattle.cb_safety.specs.Natives.{CallsNative}
use Rattle.cb_safety.specs.Performing.{HasNatives, HaveField}
use Rattle.cb_safety.specs.Signatures.{characters, gives_of, object, takes_of}
use Rattle.cb_safety.specs.States.{IsTypedState}
use Rattle.cb_safety.specs.Strings.{IsText}
use Rattle.cb_safety.proofs.Grown.{Grows, grows_first, grows_one}
use Rattle.cb_safety.proofs.Natively.{IsNumber, boxed_typed, built_typed, chars_text, kinds, object_typed, placed_typed, stops_typed, text_typed}
use Rattle.cb_safety.proofs.Performed.{AreGiven, IsPerformed, given_advances}
use Rattle.cb_safety.proofs.Rewritten.{all_joined, all_left, all_taken}
use Rattle.cb_safety.proofs.StringsMade.{HasString, string_made}
use Rattle.cb_safety.proofs.Units.{Units, all_mapped, hex_low, literal_low, signed_low}

-- ---- the words of numbers, of truth and of classes

pub truth_low : (is : ℤ) → Units (truth is)
truth_low is = go (low_bits 1 is == 1) where
  go : (test : Bool) → Units (if test then codes "true" else codes "false")
  go true = literal_low (codes "true") refl
  go false = literal_low (codes "false") refl

abbrev dotted : ℕ → ℕ
dotted unit = if unit == slash then 46 else unit

dotted_low : (unit : ℕ) → unit < 2 ^ 16 → dotted unit < 2 ^ 16
dotted_low unit low = go (unit == slash) where
  go : (test : Bool) → (if test then 46 else unit) < 2 ^ 16
  go true = omega arith
  go false = low

abbrev replaced : ℕ → ℕ → ℕ → ℕ
replaced old new unit = if unit == old then new else unit

replaced_low : (old new unit : ℕ) → new < 2 ^ 16 → unit < 2 ^ 16 → replaced old new unit < 2 ^ 16
replaced_low old new unit fits low = go (unit == old) where
  go : (test : Bool) → (if test then new else unit) < 2 ^ 16
  go true = fits
  go false = low

unit_low : (unit : ℤ) → Units (unit_of unit ∷ [])
unit_low unit = (low_bits-lt 16 unit, tt)

joined_low : (front back : List ℕ) → Units front → Units back → Units (front ++ back)
joined_low front back all more = all_joined (λ unit. unit < 2 ^ 16) front back all more

range_low : (units : List ℕ) (from to : ℕ) → Units units → Units (range_of units from to)
range_low units from to all = all_taken (λ unit. unit < 2 ^ 16) (to - from) (drop from units) (all_left (λ unit. unit < 2 ^ 16) from units all)

-- ---- what they give

module _ (machine : Machine) (state : State) (has : HasNatives machine.program) (typed : IsTypedState machine.program state) (runs : state.roots.pending ≡ 0) where
  abbrev call : Call
  call = record { machine = machine; state = state }

  abbrev String : Option Basic
  String = Some (basics.Reference kind_of_string)

  abbrev Is : Option Basic → Option Performed → Type 0
  Is result found = IsPerformed machine.program (kinds machine state has typed runs) result found

  abbrev Refer : ℕ → ℕ → Type 0
  Refer kind serial = Refers machine.program (kinds machine state has typed runs) kind serial

  text : (serial : ℕ) (go : List ℕ → Option Performed) → Refer kind_of_string serial
      → ((units : List ℕ) → IsText units → Is String (go units)) → Is String (on_text call serial go)
  text = text_typed machine state has typed runs String

  boxed : (kind serial : ℕ) (basic : Basic) (go : ℤ → Option Performed) → HaveField machine.program kind 0 basic → is_reference basic ≡ false
      → Refer kind serial → ((number : ℤ) → IsNumber basic number → Is String (go number)) → Is String (on_number call serial go)
  boxed = boxed_typed machine state has typed runs String

  -- a new string
  string_placed : (units : List ℕ) → IsText units → HasString machine.program (with_string machine made_strings made_characters units (leaving state))
  string_placed units is = string_made machine made_strings made_characters units (leaving state) has.texts is (record { typed = typed; next = refl })

  string_grows : (units : List ℕ) → Grows (kinds machine state has typed runs) (with_string machine made_strings made_characters units (leaving state)).plan
  string_grows units =
      grows_one (kinds machine state has typed runs) _ made_strings (kind_of_site machine.program made_strings) _
      (grows_one (kinds machine state has typed runs) (leaving state) made_characters (kind_of_site machine.program made_characters) _ (grows_first state runs))

  texted : (units : List ℕ) → Units units → Is String (gives_text call units)
  texted units all = by (nat_le (length units) most_elements) refl
    where
      placed : Placed
      placed = with_string machine made_strings made_characters units (leaving state)

      by : (test : Bool) → nat_le (length units) most_elements ≡ test
          → Is String (if test then Some (Gives placed.plan (values.Ref placed.serial ∷ [])) else stops call negative_size)
      by true fits =
          let string : HasString machine.program placed = string_placed units (record { each = all; few = leb-true (length units) most_elements fits }) in
          placed_typed machine state has typed runs kind_of_string placed.serial placed.plan string.good (string_grows units) string.is
      by false fits = stops_typed machine state has typed runs String negative_size (3, omega arith, refl)

  named_low : (kind : ℕ) → Units (class_name machine.program kind)
  named_low kind = all_mapped dotted (or_none (slice_get machine.program.kinds kind)) dotted_low (go (slice_get machine.program.kinds kind) refl) where
    go : (found : Option (List ℕ)) → slice_get machine.program.kinds kind ≡ found → Units (or_none found)
    go None there = tt
    go (Some name) there = has.names kind name there

  -- of a range
  abbrev range_gives : List ℕ → ℤ → ℤ → Option Performed
  range_gives units (pos from) (pos to) =
      if nat_le from to && nat_le to (length units) then gives_text call (range_of units from to) else stops call string_index
  range_gives units from to = stops call string_index

  out_of_range : Is String (stops call string_index)
  out_of_range = stops_typed machine state has typed runs String string_index (5, omega arith, refl)

  ranged : (units : List ℕ) (from to : ℤ) → Units units → Is String (range_gives units from to)
  ranged units (pos from) (pos to) all = go (nat_le from to && nat_le to (length units)) where
    go : (test : Bool) → Is String (if test then gives_text call (range_of units from to) else stops call string_index)
    go true = texted (range_of units from to) (range_low units from to all)
    go false = out_of_range
  ranged units (pos from) (negsuc to) all = out_of_range
  ranged units (negsuc from) to all = out_of_range

  -- of a throwable
  abbrev says : Object → ℕ → Option Performed
  says throwable zero = gives_text call (class_name machine.program throwable.kind)
  says throwable (suc place) = on_text call (suc place) (λ message. gives_text call (class_name machine.program throwable.kind ++ codes ": " ++ message))

  said : (throwable : Object) (message : ℕ) → Refer kind_of_string message
      → Is String (says throwable message)
  said throwable zero refers = texted (class_name machine.program throwable.kind) (named_low throwable.kind)
  said throwable (suc place) refers =
      text (suc place) (λ message. gives_text call (class_name machine.program throwable.kind ++ codes ": " ++ message)) refers
      (λ message is. texted (class_name machine.program throwable.kind ++ codes ": " ++ message)
      (joined_low (class_name machine.program throwable.kind ++ codes ": ") message (joined_low (class_name machine.program throwable.kind) (codes ": ") (named_low throwable.kind) (literal_low (codes ": ") refl)) is.each))

  text_performed : (native : Native) (held : List Value) → AreGiven machine.program (kinds machine state has typed runs) (takes_of machine.program native) held
      → form_of native ≡ forms.Text → Is (gives_of machine.program native) (performed machine state native held)
  text_performed natives.ObjectSay _ (AreGiven.AnObject _ serial _ _ refers (AreGiven.AnInt hash _ _ _ AreGiven.Nothing)) form = object_typed machine state has typed runs String object serial _ refers
      (λ place own same there is goes. texted (object_text call own hash) (joined_low (class_name machine.program own.kind ++ codes "@") (hex_digits hash)
      (joined_low (class_name machine.program own.kind) (codes "@") (named_low own.kind) (literal_low (codes "@") refl)) (hex_low (low_bits 32 hash))))
  text_performed natives.StringConcat _ (AreGiven.AnObject _ string _ _ refers (AreGiven.AnObject _ other _ _ also AreGiven.Nothing)) form = text string _ refers (λ units is. text other _ also
      (λ others more. texted (units ++ others) (joined_low units others is.each more.each)))
  text_performed natives.StringSubstringFrom _ (AreGiven.AnObject _ string _ _ refers (AreGiven.AnInt start _ _ _ AreGiven.Nothing)) form = text string _ refers (λ units is. ranged units start (pos (length units)) is.each)
  text_performed natives.StringSubstring _ (AreGiven.AnObject _ string _ _ refers (AreGiven.AnInt start _ _ _ (AreGiven.AnInt end _ _ _ AreGiven.Nothing))) form = text string _ refers (λ units is. ranged units start end is.each)
  text_performed natives.StringReplace _ (AreGiven.AnObject _ string _ _ refers (AreGiven.AnInt old _ _ _ (AreGiven.AnInt new _ _ _ AreGiven.Nothing))) form = text string _ refers
      (λ units is. texted (map (replaced (unit_of old) (unit_of new)) units) (all_mapped (replaced (unit_of old) (unit_of new)) units (λ unit low. replaced_low (unit_of old) (unit_of new) unit (low_bits-lt 16 new) low) is.each))
  text_performed natives.StringValueOfInt _ (AreGiven.AnInt number _ _ _ AreGiven.Nothing) form = texted (digits number) (signed_low number)
  text_performed natives.StringValueOfLong _ (AreGiven.ALong number _ _ _ AreGiven.Nothing) form = texted (digits number) (signed_low number)
  text_performed natives.StringValueOfChar _ (AreGiven.AnInt unit _ _ _ AreGiven.Nothing) form = texted (unit_of unit ∷ []) (unit_low unit)
  text_performed natives.StringValueOfBoolean _ (AreGiven.AnInt is _ _ _ AreGiven.Nothing) form = texted (truth is) (truth_low is)
  text_performed natives.StringValueOfChars _ (AreGiven.AnObject _ array _ _ refers AreGiven.Nothing) form = object_typed machine state has typed runs String (characters machine.program) array _ refers (λ place own same there is goes. texted (units_of own) (chars_text machine state has typed runs own goes is).each)
  text_performed natives.StringBuilderToString _ (AreGiven.AnObject _ own _ _ refers AreGiven.Nothing) form = built_typed machine state has typed runs String own (λ object units. gives_text call units) refers (λ place object units same there is goes fine. texted units fine.each)
  text_performed natives.ClassGetName _ (AreGiven.AnObject _ class _ _ refers AreGiven.Nothing) form = boxed kind_of_class class basics.Int _ has.core.numbers refl refers (λ kind is. texted (class_name machine.program (natural kind)) (named_low (natural kind)))
  text_performed natives.IntegerTextOf _ (AreGiven.AnInt number _ _ _ AreGiven.Nothing) form = texted (digits number) (signed_low number)
  text_performed natives.LongTextOf _ (AreGiven.ALong number _ _ _ AreGiven.Nothing) form = texted (digits number) (signed_low number)
  text_performed natives.IntegerToString _ (AreGiven.AnObject _ box _ _ refers AreGiven.Nothing) form = boxed library.integer box basics.Int _ has.core.integers refl refers (λ number is. texted (digits number) (signed_low number))
  text_performed natives.LongToString _ (AreGiven.AnObject _ box _ _ refers AreGiven.Nothing) form = boxed library.long box basics.Long _ has.core.longs refl refers (λ number is. texted (digits number) (signed_low number))
  text_performed natives.IntegerToHexString _ (AreGiven.AnInt number _ _ _ AreGiven.Nothing) form = texted (hex_digits number) (hex_low (low_bits 32 number))
  text_performed natives.CharacterTextOf _ (AreGiven.AnInt unit _ _ _ AreGiven.Nothing) form = texted (unit_of unit ∷ []) (unit_low unit)
  text_performed natives.BooleanTextOf _ (AreGiven.AnInt is _ _ _ AreGiven.Nothing) form = texted (truth is) (truth_low is)
  text_performed natives.CharacterToString _ (AreGiven.AnObject _ box _ _ refers AreGiven.Nothing) form = boxed library.character box basics.Char _ has.core.chars refl refers (λ unit own. texted (unit_of unit ∷ []) (unit_low unit))
  text_performed natives.BooleanToString _ (AreGiven.AnObject _ box _ _ refers AreGiven.Nothing) form = boxed library.boolean box basics.Boolean _ has.core.booleans refl refers (λ is own. texted (truth is) (truth_low is))
  text_performed natives.ThrowableSay _ (AreGiven.AnObject _ throwable _ _ refers (AreGiven.AnObject _ message _ _ also AreGiven.Nothing)) form = object_typed machine state has typed runs String kind_of_throwable throwable _ refers (λ place own same there is goes. said own message also)
  text_performed other held given form = absurd (cc form)

pub texts_advance : (machine : Machine) (state : State) (frame : MethodFrame) (below : List Frame) → HasNatives machine.program → IsTyped machine.program → IsSpelled machine.program
    → HoldsOn machine.program → IsTypedState machine.program state → state.roots.pending ≡ 0 → state.roots.frames ≡ OfMethod frame ∷ below
    → (calls : CallsNative machine state frame below) → form_of calls.native ≡ forms.Text → Advances machine state
texts_advance machine state frame below has fits spelled holds typed runs frames calls form =
    given_advances machine state frame below has fits spelled holds typed runs frames calls
    (λ given. text_performed machine state has typed runs calls.native calls.arguments given form)
