-- Natives that give a number, an object that was there, or nothing: a typed state advances where one is called.
use Rattle.std.proofs.Common.{◌≡◌, arith, refl, sym, subst, ℕ, ℤ, pos, negsuc, zero, suc, ◌+◌, ◌<◌, ◌≤◌, ◌^◌, ◌-ℤ◌, ◌==◌, FitsSigned, Bool, true, false, List, [], ◌∷◌, ◌++◌, length, if◌then◌else◌, Option, Some, None, option_and_then, position, slice_get}
use Rattle.std.specs.Int.{Width, w32, w64, int_wrap}
use Rattle.std.specs.List.{Contains}
use Rattle.std.specs.Ordering.{int_eq}
use Rattle.std.specs.Prelude.{int_lt}
use Rattle.std.proofs.lemmas.Bool.Decides.{Decides-int_eq}
use Rattle.std.proofs.lemmas.Int.{SFits-int_wrap, ints}
use Rattle.std.proofs.lemmas.List.Quantifiers.{position-Some}
use Rattle.std.proofs.lemmas.Nat.{mod_below}
use Rattle.std.proofs.lemmas.Bool.{false≢true}
use Rattle.cb_arith.specs.Bits.{low_bits}
use Rattle.cb_arith.specs.Order.{compare}
use Rattle.cb_kinds.specs.Basics.{is_reference}
use Rattle.cb_machine.specs.Library as library
use Rattle.cb_machine.specs.Testing.{int_of}
use Rattle.cb_arith.proofs.Laws.{compare_fits, low_bits-lt}
use Rattle.cb_kinds.specs.declared.basic.Basic.{Basic}
use Rattle.cb_kinds.specs.declared.basic.Basic.TheVariants as basics
use Rattle.cb_library.specs.declared.native.Native.{Native}
use Rattle.cb_library.specs.declared.native.Native.TheVariants as natives
use Rattle.cb_machine.specs.Answering.{begins, compared, floor_quotient, floor_remainder, found_from, in_range, number_in, place_or_none, unit_index}
use Rattle.cb_machine.specs.Computing.{throws_by_zero}
use Rattle.cb_machine.specs.Machine.{Machine}
use Rattle.cb_machine.specs.Natives.{performed}
use Rattle.cb_machine.specs.Performing.{Call, Performed, Stops, gives, identity_hash, most_elements, number_at, on_number, on_object, on_text, stops}
use Rattle.cb_machine.specs.Plans.{made}
use Rattle.cb_machine.specs.Sites.{number_format, string_index}
use Rattle.cb_plain.specs.State.{Frame, MethodFrame, OfMethod, State}
use Rattle.cb_plain.specs.declared.value.Value.{Value}
use Rattle.cb_plain.specs.declared.value.Value.TheVariants as values
use Rattle.cb_verify.specs.Typed.{IsTyped}
use Rattle.cb_verify.specs.Types.{type_of}
use Rattle.cb_verify.specs.declared.verification_type.VerificationType.TheVariants as types
use Rattle.cb_verify.specs.Within.{kind_of_string}
use Rattle.cb_safety.specs.Advancing.{Advances, HoldsOn, IsSpelled}
use Rattle.cb_safety.specs.Kinds.{Refers}
use Rattle.cb_safety.specs.Natives.{CallsNative}
use Rattle.cb_safety.specs.Performing.{HasNatives, HaveField, native_sites}
use Rattle.cb_safety.specs.Signatures.{enum, gives_of, is_of_answers, is_of_numbers, takes_of}
use Rattle.cb_safety.specs.States.{IsTypedState}
use Rattle.cb_safety.specs.Strings.{IsText}
use Rattle.cb_safety.proofs.Elements.{length_fits}
use Rattle.cb_safety.proofs.Lists.{all_at}
use Rattle.cb_safety.proofs.Natively.{IsNumber, boxed_typed, built_typed, gives_long, gives_number, gives_truth, gives_typed, kinds, number_typed, object_typed, stops_typed, text_typed}
use Rattle.cb_safety.proofs.Performed.{AreGiven, IsPerformed, given_advances}
use Rattle.cb_safety.proofs.Returning.{no_answer}

-- ---- numbers that fit

unit_fits : (unit : ℕ) → unit < 2 ^ 16 → FitsSigned w32 (pos unit)
unit_fits unit low = record { sfits = omega (arith, low) }

none_fits : FitsSigned w32 (negsuc 0)
none_fits = record { sfits = omega arith }

difference_fits : (one other : ℕ) → one ≤ most_elements → other ≤ most_elements → FitsSigned w32 (pos one -ℤ pos other)
difference_fits one other small few = go (pos one -ℤ pos other) refl where
  go : (number : ℤ) → pos one -ℤ pos other ≡ number → FitsSigned w32 number
  go (pos number) is = record { sfits = omega (arith, ints, is, small, few) }
  go (negsuc number) is = record { sfits = omega (arith, ints, is, small, few) }

either_fits : (test : Bool) (one other : ℤ) (width : Width) → FitsSigned width one → FitsSigned width other → FitsSigned width (if test then one else other)
either_fits true one other width fits also = fits
either_fits false one other width fits also = also

-- the difference of two chars, and of two booleans
char_is : (number : ℤ) → IsNumber basics.Char number → (unit : ℕ) × (number ≡ pos unit) × (unit < 2 ^ 16)
char_is number is = (low_bits 16 number, sym (is.kept (λ same. cc same)), low_bits-lt 16 number)

boolean_is : (number : ℤ) → IsNumber basics.Boolean number → (unit : ℕ) × (number ≡ pos unit) × (unit < 2 ^ 1)
boolean_is number is = (low_bits 1 number, sym (is.kept (λ same. cc same)), low_bits-lt 1 number)

chars_differ : (one other : ℤ) → IsNumber basics.Char one → IsNumber basics.Char other → FitsSigned w32 (one -ℤ other)
chars_differ one other is also =
    let (first, one_is, one_low) = char_is one is in
    let (second, other_is, other_low) = char_is other also in
    subst (λ (number : ℤ). FitsSigned w32 (number -ℤ other)) (sym one_is) (subst (λ (number : ℤ). FitsSigned w32 (pos first -ℤ number)) (sym other_is)
    (difference_fits first second (omega (arith, one_low)) (omega (arith, other_low))))

booleans_differ : (one other : ℤ) → IsNumber basics.Boolean one → IsNumber basics.Boolean other → FitsSigned w32 (one -ℤ other)
booleans_differ one other is also =
    let (first, one_is, one_low) = boolean_is one is in
    let (second, other_is, other_low) = boolean_is other also in
    subst (λ (number : ℤ). FitsSigned w32 (number -ℤ other)) (sym one_is) (subst (λ (number : ℤ). FitsSigned w32 (pos first -ℤ number)) (sym other_is)
    (difference_fits first second (omega (arith, one_low)) (omega (arith, other_low))))

hash_fits : (serial : ℕ) → FitsSigned w32 (identity_hash serial)
hash_fits serial = record { sfits = mod_below serial (2 ^ 31) (omega arith) }

-- how texts compare
compared_fits : (units others : List ℕ) → IsText units → IsText others → FitsSigned w32 (compared units others)
compared_fits [] others is also = difference_fits 0 (length others) (omega arith) also.few
compared_fits (unit ∷ units) [] is also = length_fits (length (unit ∷ units)) is.few
compared_fits (unit ∷ units) (other ∷ others) is also = go (unit == other) (compared_fits units others (behind unit units is) (behind other others also)) where
  behind : (unit : ℕ) (units : List ℕ) → IsText (unit ∷ units) → IsText units
  behind unit units is = let few = is.few in record { each = is.each.1; few = omega (arith, few) }

  go : (test : Bool) → FitsSigned w32 (compared units others) → FitsSigned w32 (if test then compared units others else pos unit -ℤ pos other)
  go true later = later
  go false later = let one = is.each.0 in let two = also.each.0 in difference_fits unit other (omega (arith, one)) (omega (arith, two))

-- places in texts
found_fits : (place : ℕ) (units part : List ℕ) → place + length units ≤ most_elements → FitsSigned w32 (found_from place units part)
found_fits place [] part few = either_fits (length part == 0) (pos place) (negsuc 0) w32 (length_fits place (omega (arith, few))) none_fits
found_fits place (unit ∷ units) part few =
    either_fits (begins (unit ∷ units) part) (pos place) (found_from (place + 1) units part) w32 (length_fits place (omega (arith, few))) (found_fits (place + 1) units part (omega (arith, few)))

index_fits : (units : List ℕ) (unit : ℤ) → length units ≤ most_elements → FitsSigned w32 (unit_index units unit)
index_fits units (negsuc unit) few = none_fits
index_fits units (pos unit) few = go (position (λ other. other == unit) units) refl where
  go : (found : Option ℕ) → position (λ other. other == unit) units ≡ found → FitsSigned w32 (place_or_none found)
  go None is = none_fits
  go (Some place) is = let low = (position-Some (λ other. other == unit) units place 0 is).0 in length_fits place (omega (arith, low, few))

-- ---- what they give

module _ (machine : Machine) (state : State) (has : HasNatives machine.program) (typed : IsTypedState machine.program state) (runs : state.roots.pending ≡ 0)
    (divides : IsTypedState machine.program (made (throws_by_zero machine state))) where
  abbrev call : Call
  call = record { machine = machine; state = state }

  abbrev Is : Option Basic → Option Performed → Type 0
  Is result found = IsPerformed machine.program (kinds machine state has typed runs) result found

  abbrev Refer : ℕ → ℕ → Type 0
  Refer kind serial = Refers machine.program (kinds machine state has typed runs) kind serial

  number : (basic : Basic) (number : ℤ) → type_of basic ≡ types.Int → FitsSigned w32 number → Is (Some basic) (gives call (values.Int number ∷ []))
  number = gives_number machine state has typed runs

  int : (number : ℤ) → FitsSigned w32 number → Is (Some basics.Int) (gives call (values.Int number ∷ []))
  int number fits = gives_number machine state has typed runs basics.Int number refl fits

  long : (number : ℤ) → FitsSigned w64 number → Is (Some basics.Long) (gives call (values.Long number ∷ []))
  long = gives_long machine state has typed runs

  truth : (is : Bool) → Is (Some basics.Boolean) (gives call (int_of is ∷ []))
  truth = gives_truth machine state has typed runs

  wrapped : (number : ℤ) → Is (Some basics.Int) (gives call (values.Int (int_wrap w32 number) ∷ []))
  wrapped number = int (int_wrap w32 number) (SFits-int_wrap w32 number)

  wrapped_long : (number : ℤ) → Is (Some basics.Long) (gives call (values.Long (int_wrap w64 number) ∷ []))
  wrapped_long number = long (int_wrap w64 number) (SFits-int_wrap w64 number)

  nothing : Is None (gives call [])
  nothing = gives_typed machine state has typed runs None [] (no_answer machine.program (kinds machine state has typed runs ++ []))

  -- arithmetic
  divided : (by : ℤ → ℤ → ℤ) (a b : ℤ)
      → Is (Some basics.Int) (if int_eq b (pos 0) then Some (Stops (throws_by_zero machine state)) else gives call (values.Int (int_wrap w32 (by a b)) ∷ []))
  divided by a b = go (int_eq b (pos 0)) where
    go : (test : Bool) → Is (Some basics.Int) (if test then Some (Stops (throws_by_zero machine state)) else gives call (values.Int (int_wrap w32 (by a b)) ∷ []))
    go true = IsPerformed.Stopped (throws_by_zero machine state) divides
    go false = wrapped (by a b)

  divided_long : (by : ℤ → ℤ → ℤ) (a b : ℤ)
      → Is (Some basics.Long) (if int_eq b (pos 0) then Some (Stops (throws_by_zero machine state)) else gives call (values.Long (int_wrap w64 (by a b)) ∷ []))
  divided_long by a b = go (int_eq b (pos 0)) where
    go : (test : Bool) → Is (Some basics.Long) (if test then Some (Stops (throws_by_zero machine state)) else gives call (values.Long (int_wrap w64 (by a b)) ∷ []))
    go true = IsPerformed.Stopped (throws_by_zero machine state) divides
    go false = wrapped_long (by a b)

  -- boxes
  boxed : (result : Option Basic) (kind serial : ℕ) (basic : Basic) (go : ℤ → Option Performed) → HaveField machine.program kind 0 basic → is_reference basic ≡ false
      → Refer kind serial → ((number : ℤ) → IsNumber basic number → Is result (go number)) → Is result (on_number call serial go)
  boxed = boxed_typed machine state has typed runs

  compares : (kind : ℕ) (basic : Basic) (order : ℤ → ℤ → ℤ) (one other : ℕ) → HaveField machine.program kind 0 basic → is_reference basic ≡ false
      → ((first second : ℤ) → IsNumber basic first → IsNumber basic second → FitsSigned w32 (order first second)) → Refer kind one → Refer kind other
      → Is (Some basics.Int) (on_number call other (λ second. on_number call one (λ first. gives call (values.Int (order first second) ∷ []))))
  compares kind basic order one other have base fits refers also =
      boxed (Some basics.Int) kind other basic (λ second. on_number call one (λ first. gives call (values.Int (order first second) ∷ []))) have base also
      (λ second is. boxed (Some basics.Int) kind one basic (λ first. gives call (values.Int (order first second) ∷ [])) have base refers
      (λ first own. int (order first second) (fits first second own is)))

  -- texts
  text : (result : Option Basic) (serial : ℕ) (go : List ℕ → Option Performed) → Refer kind_of_string serial
      → ((units : List ℕ) → IsText units → Is result (go units)) → Is result (on_text call serial go)
  text = text_typed machine state has typed runs

  stopped : (result : Option Basic) (site : ℕ) → Contains native_sites site → Is result (stops call site)
  stopped = stops_typed machine state has typed runs

  abbrev unit_found : Option ℕ → Option Performed
  unit_found None = stops call string_index
  unit_found (Some unit) = gives call (values.Int (pos unit) ∷ [])

  abbrev unit_at : ℤ → List ℕ → Option Performed
  unit_at (pos place) units = unit_found (slice_get units place)
  unit_at place units = stops call string_index

  unit_there : (place : ℤ) (units : List ℕ) → IsText units → Is (Some basics.Char) (unit_at place units)
  unit_there (negsuc place) units is = stopped (Some basics.Char) string_index (5, omega arith, refl)
  unit_there (pos place) units is = go (slice_get units place) refl where
    go : (found : Option ℕ) → slice_get units place ≡ found → Is (Some basics.Char) (unit_found found)
    go None there = stopped (Some basics.Char) string_index (5, omega arith, refl)
    go (Some unit) there = number basics.Char (pos unit) refl (unit_fits unit (all_at (λ unit. unit < 2 ^ 16) units place unit is.each there))

  -- numbers that are read of texts
  abbrev parsed_by : (ℤ → Option Performed) → Option ℤ → Option Performed
  parsed_by give None = stops call number_format
  parsed_by give (Some number) = give number

  abbrev parses : Width → (ℤ → Option Performed) → ℕ → Option Performed
  parses width give zero = stops call number_format
  parses width give (suc place) = on_text call (suc place) (λ units. parsed_by give (option_and_then (in_range width) (number_in units)))

  parsed : (result : Option Basic) (width : Width) (give : ℤ → Option Performed) → ((number : ℤ) → FitsSigned width number → Is result (give number)) → (found : Option ℤ)
      → Is result (parsed_by give (option_and_then (in_range width) found))
  parsed result width give follows None = stopped result number_format (6, omega arith, refl)
  parsed result width give follows (Some number) = go (int_eq (int_wrap width number) number) refl where
    go : (test : Bool) → int_eq (int_wrap width number) number ≡ test → Is result (parsed_by give (if test then Some number else None))
    go true same = follows number (subst (FitsSigned width) ((Decides-int_eq (int_wrap width number) number).0 same) (SFits-int_wrap width number))
    go false apart = stopped result number_format (6, omega arith, refl)

  text_parsed : (result : Option Basic) (width : Width) (give : ℤ → Option Performed) → ((number : ℤ) → FitsSigned width number → Is result (give number)) → (serial : ℕ)
      → Refer kind_of_string serial
      → Is result (parses width give serial)
  text_parsed result width give follows zero refers = stopped result number_format (6, omega arith, refl)
  text_parsed result width give follows (suc place) refers =
      text result (suc place) (λ units. parsed_by give (option_and_then (in_range width) (number_in units))) refers
      (λ units is. parsed result width give follows (number_in units))

  -- hashes of objects
  abbrev hash_of : ℕ → Option Performed
  hash_of zero = gives call (values.Int (pos 0) ∷ [])
  hash_of (suc place) = gives call (values.Int (identity_hash (suc place)) ∷ [])

  hash : (serial : ℕ) → Is (Some basics.Int) (hash_of serial)
  hash zero = int (pos 0) (length_fits 0 (omega arith))
  hash (suc place) = int (identity_hash (suc place)) (hash_fits (suc place))

  -- ordinals of enums
  ordinal : (result : Option Basic) (serial : ℕ) (go : ℤ → Option Performed) → Refer enum serial → ((number : ℤ) → Is result (go number))
      → Is result (on_object call serial (λ object. option_and_then go (number_at object 1)))
  ordinal result serial go refers follows =
      object_typed machine state has typed runs result enum serial (λ object. option_and_then go (number_at object 1)) refers
      (λ place object same there is goes. number_typed machine state has typed runs result enum 1 basics.Int object go has.core.ordinals refl goes is (λ number own. follows number))

  -- those on numbers alone
  number_performed : (native : Native) (held : List Value) → AreGiven machine.program (kinds machine state has typed runs) (takes_of machine.program native) held
      → is_of_numbers native ≡ true → Is (gives_of machine.program native) (performed machine state native held)
  number_performed natives.MathAbsInt _ (AreGiven.AnInt a _ _ _ AreGiven.Nothing) form = wrapped _
  number_performed natives.MathAbsLong _ (AreGiven.ALong a _ _ _ AreGiven.Nothing) form = wrapped_long _
  number_performed natives.MathMaxInt _ (AreGiven.AnInt a _ _ a_fits (AreGiven.AnInt b _ _ b_fits AreGiven.Nothing)) form = int (if int_lt a b then b else a) (either_fits (int_lt a b) b a w32 b_fits a_fits)
  number_performed natives.MathMinInt _ (AreGiven.AnInt a _ _ a_fits (AreGiven.AnInt b _ _ b_fits AreGiven.Nothing)) form = int (if int_lt b a then b else a) (either_fits (int_lt b a) b a w32 b_fits a_fits)
  number_performed natives.MathFloorDivInt _ (AreGiven.AnInt a _ _ _ (AreGiven.AnInt b _ _ _ AreGiven.Nothing)) form = divided floor_quotient a b
  number_performed natives.MathFloorModInt _ (AreGiven.AnInt a _ _ _ (AreGiven.AnInt b _ _ _ AreGiven.Nothing)) form = divided floor_remainder a b
  number_performed natives.MathMaxLong _ (AreGiven.ALong a _ _ a_fits (AreGiven.ALong b _ _ b_fits AreGiven.Nothing)) form = long (if int_lt a b then b else a) (either_fits (int_lt a b) b a w64 b_fits a_fits)
  number_performed natives.MathMinLong _ (AreGiven.ALong a _ _ a_fits (AreGiven.ALong b _ _ b_fits AreGiven.Nothing)) form = long (if int_lt b a then b else a) (either_fits (int_lt b a) b a w64 b_fits a_fits)
  number_performed natives.MathFloorDivLong _ (AreGiven.ALong a _ _ _ (AreGiven.ALong b _ _ _ AreGiven.Nothing)) form = divided_long floor_quotient a b
  number_performed natives.MathFloorModLong _ (AreGiven.ALong a _ _ _ (AreGiven.ALong b _ _ _ AreGiven.Nothing)) form = divided_long floor_remainder a b
  number_performed natives.IntegerCompare _ (AreGiven.AnInt a _ _ _ (AreGiven.AnInt b _ _ _ AreGiven.Nothing)) form = int _ (compare_fits a b)
  number_performed natives.LongCompare _ (AreGiven.ALong a _ _ _ (AreGiven.ALong b _ _ _ AreGiven.Nothing)) form = int _ (compare_fits a b)
  number_performed other held given form = absurd (false≢true form)

  -- those that read objects
  answer_performed : (native : Native) (held : List Value) → AreGiven machine.program (kinds machine state has typed runs) (takes_of machine.program native) held
      → is_of_answers native ≡ true → Is (gives_of machine.program native) (performed machine state native held)
  answer_performed natives.IntegerParseInt _ (AreGiven.AnObject _ string _ _ refers AreGiven.Nothing) form = text_parsed (Some basics.Int) w32 (λ number. gives call (values.Int number ∷ [])) int string refers
  answer_performed natives.LongParseLong _ (AreGiven.AnObject _ string _ _ refers AreGiven.Nothing) form = text_parsed (Some basics.Long) w64 (λ number. gives call (values.Long number ∷ [])) long string refers
  answer_performed natives.IntegerIntValue _ (AreGiven.AnObject _ box _ _ refers AreGiven.Nothing) form = boxed (Some basics.Int) library.integer box basics.Int _ has.core.integers refl refers (λ number is. int number (is.narrow (λ same. cc same)))
  answer_performed natives.IntegerLongValue _ (AreGiven.AnObject _ box _ _ refers AreGiven.Nothing) form = boxed (Some basics.Long) library.integer box basics.Int _ has.core.integers refl refers (λ number is. long number is.wide)
  answer_performed natives.IntegerHashCode _ (AreGiven.AnObject _ box _ _ refers AreGiven.Nothing) form = boxed (Some basics.Int) library.integer box basics.Int _ has.core.integers refl refers (λ number is. int number (is.narrow (λ same. cc same)))
  answer_performed natives.LongIntValue _ (AreGiven.AnObject _ box _ _ refers AreGiven.Nothing) form = boxed (Some basics.Int) library.long box basics.Long _ has.core.longs refl refers (λ number is. wrapped number)
  answer_performed natives.LongLongValue _ (AreGiven.AnObject _ box _ _ refers AreGiven.Nothing) form = boxed (Some basics.Long) library.long box basics.Long _ has.core.longs refl refers (λ number is. long number is.wide)
  answer_performed natives.LongHashCode _ (AreGiven.AnObject _ box _ _ refers AreGiven.Nothing) form = boxed (Some basics.Int) library.long box basics.Long _ has.core.longs refl refers (λ number is. wrapped _)
  answer_performed natives.CharacterCharValue _ (AreGiven.AnObject _ box _ _ refers AreGiven.Nothing) form = boxed (Some basics.Char) library.character box basics.Char _ has.core.chars refl refers (λ number is. gives_number machine state has typed runs basics.Char number refl (is.narrow (λ same. cc same)))
  answer_performed natives.CharacterHashCode _ (AreGiven.AnObject _ box _ _ refers AreGiven.Nothing) form = boxed (Some basics.Int) library.character box basics.Char _ has.core.chars refl refers (λ number is. int number (is.narrow (λ same. cc same)))
  answer_performed natives.BooleanBooleanValue _ (AreGiven.AnObject _ box _ _ refers AreGiven.Nothing) form = boxed (Some basics.Boolean) library.boolean box basics.Boolean _ has.core.booleans refl refers (λ number is. gives_number machine state has typed runs basics.Boolean number refl (is.narrow (λ same. cc same)))
  answer_performed natives.BooleanHashCode _ (AreGiven.AnObject _ box _ _ refers AreGiven.Nothing) form = boxed (Some basics.Int) library.boolean box basics.Boolean _ has.core.booleans refl refers (λ number is. int (if int_eq number (pos 0) then pos 1237 else pos 1231) (either_fits (int_eq number (pos 0)) (pos 1237) (pos 1231) w32 (length_fits 1237 (omega arith)) (length_fits 1231 (omega arith))))
  answer_performed natives.IntegerEquals _ (AreGiven.AnObject _ box _ _ refers (AreGiven.AnObject _ other _ _ _ AreGiven.Nothing)) form = boxed (Some basics.Boolean) library.integer box basics.Int _ has.core.integers refl refers (λ number is. truth _)
  answer_performed natives.LongEquals _ (AreGiven.AnObject _ box _ _ refers (AreGiven.AnObject _ other _ _ _ AreGiven.Nothing)) form = boxed (Some basics.Boolean) library.long box basics.Long _ has.core.longs refl refers (λ number is. truth _)
  answer_performed natives.CharacterEquals _ (AreGiven.AnObject _ box _ _ refers (AreGiven.AnObject _ other _ _ _ AreGiven.Nothing)) form = boxed (Some basics.Boolean) library.character box basics.Char _ has.core.chars refl refers (λ number is. truth _)
  answer_performed natives.BooleanEquals _ (AreGiven.AnObject _ box _ _ refers (AreGiven.AnObject _ other _ _ _ AreGiven.Nothing)) form = boxed (Some basics.Boolean) library.boolean box basics.Boolean _ has.core.booleans refl refers (λ number is. truth _)
  answer_performed natives.IntegerCompareTo _ (AreGiven.AnObject _ box _ _ refers (AreGiven.AnObject _ other _ _ also AreGiven.Nothing)) form = compares library.integer basics.Int compare box other has.core.integers refl (λ first second is also. compare_fits first second) refers also
  answer_performed natives.LongCompareTo _ (AreGiven.AnObject _ box _ _ refers (AreGiven.AnObject _ other _ _ also AreGiven.Nothing)) form = compares library.long basics.Long compare box other has.core.longs refl (λ first second is also. compare_fits first second) refers also
  answer_performed natives.CharacterCompareTo _ (AreGiven.AnObject _ box _ _ refers (AreGiven.AnObject _ other _ _ also AreGiven.Nothing)) form = compares library.character basics.Char (λ first second. first -ℤ second) box other has.core.chars refl chars_differ refers also
  answer_performed natives.BooleanCompareTo _ (AreGiven.AnObject _ box _ _ refers (AreGiven.AnObject _ other _ _ also AreGiven.Nothing)) form = compares library.boolean basics.Boolean (λ first second. first -ℤ second) box other has.core.booleans refl booleans_differ refers also
  answer_performed natives.StringLength _ (AreGiven.AnObject _ string _ _ refers AreGiven.Nothing) form = text (Some basics.Int) string _ refers (λ units is. int (pos (length units)) (length_fits (length units) is.few))
  answer_performed natives.StringIsEmpty _ (AreGiven.AnObject _ string _ _ refers AreGiven.Nothing) form = text (Some basics.Boolean) string _ refers (λ units is. truth (length units == 0))
  answer_performed natives.StringHashCode _ (AreGiven.AnObject _ string _ _ refers AreGiven.Nothing) form = text (Some basics.Int) string _ refers (λ units is. wrapped _)
  answer_performed natives.StringCharAt _ (AreGiven.AnObject _ string _ _ refers (AreGiven.AnInt place _ _ _ AreGiven.Nothing)) form = text (Some basics.Char) string (unit_at place) refers (λ units is. unit_there place units is)
  answer_performed natives.StringEquals _ (AreGiven.AnObject _ string _ _ refers (AreGiven.AnObject _ other _ _ _ AreGiven.Nothing)) form = text (Some basics.Boolean) string _ refers (λ units is. truth _)
  answer_performed natives.StringIndexOfUnit _ (AreGiven.AnObject _ string _ _ refers (AreGiven.AnInt unit _ _ _ AreGiven.Nothing)) form = text (Some basics.Int) string _ refers (λ units is. int (unit_index units unit) (index_fits units unit is.few))
  answer_performed natives.StringCompareTo _ (AreGiven.AnObject _ string _ _ refers (AreGiven.AnObject _ other _ _ also AreGiven.Nothing)) form = text (Some basics.Int) other _ also (λ others fine. text (Some basics.Int) string _ refers (λ units is. int (compared units others) (compared_fits units others is fine)))
  answer_performed natives.StringIndexOfString _ (AreGiven.AnObject _ string _ _ refers (AreGiven.AnObject _ other _ _ also AreGiven.Nothing)) form = text (Some basics.Int) other _ also (λ others fine. text (Some basics.Int) string _ refers (λ units is. let few = is.few in int (found_from 0 units others) (found_fits 0 units others (omega (arith, few)))))
  answer_performed natives.StringStartsWith _ (AreGiven.AnObject _ string _ _ refers (AreGiven.AnObject _ other _ _ also AreGiven.Nothing)) form = text (Some basics.Boolean) other _ also (λ others fine. text (Some basics.Boolean) string _ refers (λ units is. truth _))
  answer_performed natives.StringEndsWith _ (AreGiven.AnObject _ string _ _ refers (AreGiven.AnObject _ other _ _ also AreGiven.Nothing)) form = text (Some basics.Boolean) other _ also (λ others fine. text (Some basics.Boolean) string _ refers (λ units is. truth _))
  answer_performed natives.StringBuilderLength _ (AreGiven.AnObject _ own _ _ refers AreGiven.Nothing) form = built_typed machine state has typed runs (Some basics.Int) own (λ object units. gives call (values.Int (pos (length units)) ∷ [])) refers (λ place object units same there is goes fine. int (pos (length units)) (length_fits (length units) fine.few))
  answer_performed natives.StringBuilderCharAt _ (AreGiven.AnObject _ own _ _ refers (AreGiven.AnInt index _ _ _ AreGiven.Nothing)) form = built_typed machine state has typed runs (Some basics.Char) own (λ object units. unit_at index units) refers (λ place object units same there is goes fine. unit_there index units fine)
  answer_performed natives.ObjectHashCode _ (AreGiven.AnObject _ object _ _ _ AreGiven.Nothing) form = hash object
  answer_performed natives.ObjectEquals _ (AreGiven.AnObject _ object _ _ _ (AreGiven.AnObject _ other _ _ _ AreGiven.Nothing)) form = truth (object == other)
  answer_performed natives.SystemIdentityHashCode _ (AreGiven.AnObject _ object _ _ _ AreGiven.Nothing) form = hash object
  answer_performed natives.ClassDesiredAssertionStatus _ (AreGiven.AnObject _ class _ _ _ AreGiven.Nothing) form = truth false
  answer_performed natives.Flush _ (AreGiven.AnObject _ stream _ _ _ AreGiven.Nothing) form = nothing
  answer_performed natives.EnumEquals _ (AreGiven.AnObject _ constant _ _ _ (AreGiven.AnObject _ other _ _ _ AreGiven.Nothing)) form = truth (constant == other)
  answer_performed natives.EnumHashCode _ (AreGiven.AnObject _ constant _ _ _ AreGiven.Nothing) form = hash constant
  answer_performed natives.EnumCompareTo _ (AreGiven.AnObject _ constant _ _ refers (AreGiven.AnObject _ other _ _ also AreGiven.Nothing)) form = ordinal (Some basics.Int) other _ also (λ second. ordinal (Some basics.Int) constant _ refers (λ first. wrapped (first -ℤ second)))
  answer_performed other held given form = absurd (false≢true form)

pub numbers_advance : (machine : Machine) (state : State) (frame : MethodFrame) (below : List Frame) → HasNatives machine.program → IsTyped machine.program → IsSpelled machine.program
    → HoldsOn machine.program → IsTypedState machine.program state → state.roots.pending ≡ 0 → state.roots.frames ≡ OfMethod frame ∷ below
    → (calls : CallsNative machine state frame below) → IsTypedState machine.program (made (throws_by_zero machine state))
    → is_of_numbers calls.native ≡ true → Advances machine state
numbers_advance machine state frame below has fits spelled holds typed runs frames calls divides form =
    given_advances machine state frame below has fits spelled holds typed runs frames calls
    (λ given. number_performed machine state has typed runs divides calls.native calls.arguments given form)

pub answers_advance : (machine : Machine) (state : State) (frame : MethodFrame) (below : List Frame) → HasNatives machine.program → IsTyped machine.program → IsSpelled machine.program
    → HoldsOn machine.program → IsTypedState machine.program state → state.roots.pending ≡ 0 → state.roots.frames ≡ OfMethod frame ∷ below
    → (calls : CallsNative machine state frame below) → IsTypedState machine.program (made (throws_by_zero machine state))
    → is_of_answers calls.native ≡ true → Advances machine state
answers_advance machine state frame below has fits spelled holds typed runs frames calls divides form =
    given_advances machine state frame below has fits spelled holds typed runs frames calls
    (λ given. answer_performed machine state has typed runs divides calls.native calls.arguments given form)
