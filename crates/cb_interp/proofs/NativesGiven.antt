-- What natives are given in a typed state is as they ask.
use Rattle.std.proofs.Common.{◌≡◌, ◌∙◌, ap, arith, refl, sym, subst, ℕ, zero, suc, ◌<◌, ◌&&◌, Bool, true, false, IsTrue, List, [], ◌∷◌, length, map, Option, Some, None, slice_get}
use Rattle.std.proofs.lemmas.Option.{same_Some}
use Rattle.cb_arith.proofs.Laws.{low_bits-lt}
use Rattle.cb_heap.specs.Kept.{content_at, contents_at, is_held, is_kept, is_number, is_reference}
use Rattle.cb_heap.specs.Reading.{read_value}
use Rattle.cb_kinds.specs.Basics.{is_reference as references_by}
use Rattle.cb_kinds.specs.declared.basic.Basic.{Basic}
use Rattle.cb_kinds.specs.declared.basic.Basic.TheVariants as basics
use Rattle.cb_library.specs.declared.native.Native.{Native}
use Rattle.cb_library.specs.declared.native.Native.TheVariants as natives
use Rattle.cb_link.specs.Program.{Linked}
use Rattle.cb_machine.specs.Library as library
use Rattle.cb_machine.specs.Machine.{Machine}
use Rattle.cb_machine.specs.Performing.{reference_at}
use Rattle.cb_natives.specs.Given.{AClass, AConstant, ABox, ABuilder, ALong, ALongBox, AText, AThrowable, AnInt, AnObject, AreGiven, Bytes, Characters, HasCore, HasText, HoldsBytes, HoldsInt, HoldsUnits, IsGiven, IsReference, IsThere, IsUnit, Role, has_sort, have_sorts, referred_word, roles, sort_of_role, sorts_of}
use Rattle.cb_plain.specs.State.{Content, Number, Object, Reference, State}
use Rattle.cb_plain.specs.Updates.{object_in}
use Rattle.cb_plain.specs.declared.value.Value.{Value}
use Rattle.cb_plain.specs.declared.value.Value.TheVariants as values
use Rattle.cb_safety.proofs.Laws.{Found, HasArray, array_elements, builder_array, field_there, found, is_its_reference, is_number_of, string_array}
use Rattle.cb_safety.specs.Heap.{Holds, IsObject}
use Rattle.cb_safety.specs.Held.{HasContent, HasType, HaveTypes}
use Rattle.cb_safety.specs.Kinds.{IsOfKind, Kinds, Refers, holds_kind, kinds_of}
use Rattle.cb_safety.specs.Performing.{HasNatives, HaveField}
use Rattle.cb_safety.specs.Signatures.{builder, bytes, characters, enum, input_stream, object, print_stream, takes_of}
use Rattle.cb_safety.specs.States.{IsTypedState}
use Rattle.cb_verify.specs.Within.{Within, kind_of_class, kind_of_string, kind_of_throwable}
use Rattle.cb_verify.specs.declared.verification_type.VerificationType.{VerificationType}
use Rattle.cb_verify.specs.declared.verification_type.VerificationType.TheVariants as types

-- ---- the roles of arguments by their types

pub data Fits (program : Linked) : Role → VerificationType → Type 0 where
  Ints : Fits program AnInt types.Int
  Longs : Fits program ALong types.Long
  Objects : (kind : ℕ) → Fits program AnObject (types.Object kind)
  Strings : Fits program AText (types.Object kind_of_string)
  Builders : Fits program ABuilder (types.Object builder)
  Chars : Fits program Characters (types.Object (characters program))
  ByteArrays : Fits program Bytes (types.Object (bytes program))
  IntBoxes : Fits program (ABox basics.Int) (types.Object library.integer)
  CharBoxes : Fits program (ABox basics.Char) (types.Object library.character)
  BooleanBoxes : Fits program (ABox basics.Boolean) (types.Object library.boolean)
  LongBoxes : Fits program ALongBox (types.Object library.long)
  Constants : Fits program AConstant (types.Object enum)
  Classes : Fits program AClass (types.Object kind_of_class)
  Throwables : Fits program AThrowable (types.Object kind_of_throwable)

abbrev AllFit : Linked → List Role → List VerificationType → Type 0
AllFit program [] [] = Unit {0}
AllFit program (role ∷ roles) (type ∷ types) = Fits program role type × AllFit program roles types
AllFit program roles types = ⊥

all_fit : (program : Linked) (native : Native) → AllFit program (roles native) (takes_of program native)
all_fit program natives.ObjectSay = (Fits.Objects object, (Fits.Ints, tt))
all_fit program natives.StringConcat = (Fits.Strings, (Fits.Strings, tt))
all_fit program natives.StringSubstringFrom = (Fits.Strings, (Fits.Ints, tt))
all_fit program natives.StringSubstring = (Fits.Strings, (Fits.Ints, (Fits.Ints, tt)))
all_fit program natives.StringReplace = (Fits.Strings, (Fits.Ints, (Fits.Ints, tt)))
all_fit program natives.StringValueOfInt = (Fits.Ints, tt)
all_fit program natives.StringValueOfLong = (Fits.Longs, tt)
all_fit program natives.StringValueOfChar = (Fits.Ints, tt)
all_fit program natives.StringValueOfBoolean = (Fits.Ints, tt)
all_fit program natives.StringValueOfChars = (Fits.Chars, tt)
all_fit program natives.StringBuilderToString = (Fits.Builders, tt)
all_fit program natives.ClassGetName = (Fits.Classes, tt)
all_fit program natives.IntegerTextOf = (Fits.Ints, tt)
all_fit program natives.IntegerToString = (Fits.IntBoxes, tt)
all_fit program natives.IntegerToHexString = (Fits.Ints, tt)
all_fit program natives.LongTextOf = (Fits.Longs, tt)
all_fit program natives.LongToString = (Fits.LongBoxes, tt)
all_fit program natives.CharacterTextOf = (Fits.Ints, tt)
all_fit program natives.CharacterToString = (Fits.CharBoxes, tt)
all_fit program natives.BooleanTextOf = (Fits.Ints, tt)
all_fit program natives.BooleanToString = (Fits.BooleanBoxes, tt)
all_fit program natives.ThrowableSay = (Fits.Throwables, (Fits.Strings, tt))
all_fit program natives.StringNew = (Fits.Strings, tt)
all_fit program natives.StringNewChars = (Fits.Strings, (Fits.Chars, tt))
all_fit program natives.StringNewRange = (Fits.Strings, (Fits.Chars, (Fits.Ints, (Fits.Ints, tt))))
all_fit program natives.StringBuilderNew = (Fits.Builders, tt)
all_fit program natives.StringBuilderNewCapacity = (Fits.Builders, (Fits.Ints, tt))
all_fit program natives.StringBuilderNewString = (Fits.Builders, (Fits.Strings, tt))
all_fit program natives.StringBuilderAppendString = (Fits.Builders, (Fits.Strings, tt))
all_fit program natives.StringBuilderAppendInt = (Fits.Builders, (Fits.Ints, tt))
all_fit program natives.StringBuilderAppendLong = (Fits.Builders, (Fits.Longs, tt))
all_fit program natives.StringBuilderAppendChar = (Fits.Builders, (Fits.Ints, tt))
all_fit program natives.StringBuilderAppendBoolean = (Fits.Builders, (Fits.Ints, tt))
all_fit program natives.StringBuilderAppendChars = (Fits.Builders, (Fits.Chars, tt))
all_fit program natives.StringBuilderSetCharAt = (Fits.Builders, (Fits.Ints, (Fits.Ints, tt)))
all_fit program natives.StringBuilderDeleteCharAt = (Fits.Builders, (Fits.Ints, tt))
all_fit program natives.StringBuilderSetLength = (Fits.Builders, (Fits.Ints, tt))
all_fit program natives.IntegerNew = (Fits.IntBoxes, (Fits.Ints, tt))
all_fit program natives.LongNew = (Fits.LongBoxes, (Fits.Longs, tt))
all_fit program natives.CharacterNew = (Fits.CharBoxes, (Fits.Ints, tt))
all_fit program natives.BooleanNew = (Fits.BooleanBoxes, (Fits.Ints, tt))
all_fit program natives.ObjectGetClass = (Fits.Objects object, tt)
all_fit program natives.IntegerValueOf = (Fits.Ints, tt)
all_fit program natives.LongValueOf = (Fits.Longs, tt)
all_fit program natives.CharacterValueOf = (Fits.Ints, tt)
all_fit program natives.BooleanValueOf = (Fits.Ints, tt)
all_fit program natives.ObjectClone = (Fits.Objects object, tt)
all_fit program natives.StringToCharArray = (Fits.Strings, tt)
all_fit program natives.SystemArraycopy = (Fits.Objects object, (Fits.Ints, (Fits.Objects object, (Fits.Ints, (Fits.Ints, tt)))))
all_fit program natives.ThrowableAddSuppressed = (Fits.Throwables, (Fits.Throwables, tt))
all_fit program natives.ThrowableGetSuppressed = (Fits.Throwables, tt)
all_fit program natives.PrintBoolean = (Fits.Objects print_stream, (Fits.Ints, tt))
all_fit program natives.PrintChar = (Fits.Objects print_stream, (Fits.Ints, tt))
all_fit program natives.PrintInt = (Fits.Objects print_stream, (Fits.Ints, tt))
all_fit program natives.PrintLong = (Fits.Objects print_stream, (Fits.Longs, tt))
all_fit program natives.PrintString = (Fits.Objects print_stream, (Fits.Strings, tt))
all_fit program natives.PrintlnBoolean = (Fits.Objects print_stream, (Fits.Ints, tt))
all_fit program natives.PrintlnChar = (Fits.Objects print_stream, (Fits.Ints, tt))
all_fit program natives.PrintlnInt = (Fits.Objects print_stream, (Fits.Ints, tt))
all_fit program natives.PrintlnLong = (Fits.Objects print_stream, (Fits.Longs, tt))
all_fit program natives.PrintlnString = (Fits.Objects print_stream, (Fits.Strings, tt))
all_fit program natives.Println = (Fits.Objects print_stream, tt)
all_fit program natives.ReadByte = (Fits.Objects input_stream, tt)
all_fit program natives.ReadRange = (Fits.Objects input_stream, (Fits.ByteArrays, (Fits.Ints, (Fits.Ints, tt))))
all_fit program natives.SystemExit = (Fits.Ints, tt)
all_fit program natives.SystemGc = tt
all_fit program natives.ObjectHashCode = (Fits.Objects object, tt)
all_fit program natives.ObjectEquals = (Fits.Objects object, (Fits.Objects object, tt))
all_fit program natives.StringLength = (Fits.Strings, tt)
all_fit program natives.StringIsEmpty = (Fits.Strings, tt)
all_fit program natives.StringCharAt = (Fits.Strings, (Fits.Ints, tt))
all_fit program natives.StringEquals = (Fits.Strings, (Fits.Objects object, tt))
all_fit program natives.StringHashCode = (Fits.Strings, tt)
all_fit program natives.StringCompareTo = (Fits.Strings, (Fits.Strings, tt))
all_fit program natives.StringIndexOfUnit = (Fits.Strings, (Fits.Ints, tt))
all_fit program natives.StringIndexOfString = (Fits.Strings, (Fits.Strings, tt))
all_fit program natives.StringStartsWith = (Fits.Strings, (Fits.Strings, tt))
all_fit program natives.StringEndsWith = (Fits.Strings, (Fits.Strings, tt))
all_fit program natives.StringBuilderLength = (Fits.Builders, tt)
all_fit program natives.StringBuilderCharAt = (Fits.Builders, (Fits.Ints, tt))
all_fit program natives.ClassDesiredAssertionStatus = (Fits.Classes, tt)
all_fit program natives.SystemIdentityHashCode = (Fits.Objects object, tt)
all_fit program natives.Flush = (Fits.Objects print_stream, tt)
all_fit program natives.IntegerParseInt = (Fits.Strings, tt)
all_fit program natives.IntegerCompare = (Fits.Ints, (Fits.Ints, tt))
all_fit program natives.IntegerIntValue = (Fits.IntBoxes, tt)
all_fit program natives.IntegerLongValue = (Fits.IntBoxes, tt)
all_fit program natives.IntegerEquals = (Fits.IntBoxes, (Fits.Objects object, tt))
all_fit program natives.IntegerHashCode = (Fits.IntBoxes, tt)
all_fit program natives.IntegerCompareTo = (Fits.IntBoxes, (Fits.IntBoxes, tt))
all_fit program natives.LongParseLong = (Fits.Strings, tt)
all_fit program natives.LongCompare = (Fits.Longs, (Fits.Longs, tt))
all_fit program natives.LongIntValue = (Fits.LongBoxes, tt)
all_fit program natives.LongLongValue = (Fits.LongBoxes, tt)
all_fit program natives.LongEquals = (Fits.LongBoxes, (Fits.Objects object, tt))
all_fit program natives.LongHashCode = (Fits.LongBoxes, tt)
all_fit program natives.LongCompareTo = (Fits.LongBoxes, (Fits.LongBoxes, tt))
all_fit program natives.CharacterCharValue = (Fits.CharBoxes, tt)
all_fit program natives.CharacterEquals = (Fits.CharBoxes, (Fits.Objects object, tt))
all_fit program natives.CharacterHashCode = (Fits.CharBoxes, tt)
all_fit program natives.CharacterCompareTo = (Fits.CharBoxes, (Fits.CharBoxes, tt))
all_fit program natives.BooleanBooleanValue = (Fits.BooleanBoxes, tt)
all_fit program natives.BooleanEquals = (Fits.BooleanBoxes, (Fits.Objects object, tt))
all_fit program natives.BooleanHashCode = (Fits.BooleanBoxes, tt)
all_fit program natives.BooleanCompareTo = (Fits.BooleanBoxes, (Fits.BooleanBoxes, tt))
all_fit program natives.MathAbsInt = (Fits.Ints, tt)
all_fit program natives.MathAbsLong = (Fits.Longs, tt)
all_fit program natives.MathMaxInt = (Fits.Ints, (Fits.Ints, tt))
all_fit program natives.MathMaxLong = (Fits.Longs, (Fits.Longs, tt))
all_fit program natives.MathMinInt = (Fits.Ints, (Fits.Ints, tt))
all_fit program natives.MathMinLong = (Fits.Longs, (Fits.Longs, tt))
all_fit program natives.MathFloorDivInt = (Fits.Ints, (Fits.Ints, tt))
all_fit program natives.MathFloorDivLong = (Fits.Longs, (Fits.Longs, tt))
all_fit program natives.MathFloorModInt = (Fits.Ints, (Fits.Ints, tt))
all_fit program natives.MathFloorModLong = (Fits.Longs, (Fits.Longs, tt))
all_fit program natives.EnumEquals = (Fits.Constants, (Fits.Objects object, tt))
all_fit program natives.EnumHashCode = (Fits.Constants, tt)
all_fit program natives.EnumCompareTo = (Fits.Constants, (Fits.Constants, tt))
all_fit program natives.EnumValueOf = (Fits.Classes, (Fits.Strings, tt))

-- ---- sorts

sort_so : (objects : List (Option Object)) (index : ℕ → ℕ) (role : Role) (value : Value) → IsGiven objects role (read_value index value) → has_sort (sort_of_role role) value ≡ true
sort_so objects index AnInt (values.Int number) is = refl
sort_so objects index AnInt (values.Long number) is = absurd is
sort_so objects index AnInt (values.Ref place) is = absurd is
sort_so objects index ALong (values.Int number) is = absurd is
sort_so objects index ALong (values.Long number) is = refl
sort_so objects index ALong (values.Ref place) is = absurd is
sort_so objects index AnObject (values.Int number) is = absurd is
sort_so objects index AnObject (values.Long number) is = absurd is
sort_so objects index AnObject (values.Ref place) is = refl
sort_so objects index AText (values.Int number) is = absurd is
sort_so objects index AText (values.Long number) is = absurd is
sort_so objects index AText (values.Ref place) is = refl
sort_so objects index ABuilder (values.Int number) is = absurd is
sort_so objects index ABuilder (values.Long number) is = absurd is
sort_so objects index ABuilder (values.Ref place) is = refl
sort_so objects index Characters (values.Int number) is = absurd is
sort_so objects index Characters (values.Long number) is = absurd is
sort_so objects index Characters (values.Ref place) is = refl
sort_so objects index Bytes (values.Int number) is = absurd is
sort_so objects index Bytes (values.Long number) is = absurd is
sort_so objects index Bytes (values.Ref place) is = refl
sort_so objects index (ABox basic) (values.Int number) is = absurd is
sort_so objects index (ABox basic) (values.Long number) is = absurd is
sort_so objects index (ABox basic) (values.Ref place) is = refl
sort_so objects index ALongBox (values.Int number) is = absurd is
sort_so objects index ALongBox (values.Long number) is = absurd is
sort_so objects index ALongBox (values.Ref place) is = refl
sort_so objects index AConstant (values.Int number) is = absurd is
sort_so objects index AConstant (values.Long number) is = absurd is
sort_so objects index AConstant (values.Ref place) is = refl
sort_so objects index AClass (values.Int number) is = absurd is
sort_so objects index AClass (values.Long number) is = absurd is
sort_so objects index AClass (values.Ref place) is = refl
sort_so objects index AThrowable (values.Int number) is = absurd is
sort_so objects index AThrowable (values.Long number) is = absurd is
sort_so objects index AThrowable (values.Ref place) is = refl

both_true : (one other : Bool) → one ≡ true → other ≡ true → (one && other) ≡ true
both_true one other is also = rw (is, also) refl

sorts_so : (objects : List (Option Object)) (index : ℕ → ℕ) (roles : List Role) (held : List Value) → AreGiven objects roles (map (read_value index) held)
    → have_sorts (map sort_of_role roles) held ≡ true
sorts_so objects index [] [] given = refl
sorts_so objects index [] (value ∷ held) given = absurd given
sorts_so objects index (role ∷ roles) [] given = absurd given
sorts_so objects index (role ∷ roles) (value ∷ held) given =
    both_true (has_sort (sort_of_role role) value) (have_sorts (map sort_of_role roles) held) (sort_so objects index role value given.0) (sorts_so objects index roles held given.1)

pub sorts_given : (objects : List (Option Object)) (index : ℕ → ℕ) (native : Native) (held : List Value) → AreGiven objects (roles native) (map (read_value index) held)
    → have_sorts (sorts_of native) held ≡ true
sorts_given objects index native held given = sorts_so objects index (roles native) held given

-- ---- words

abbrev first_of : List Content → ℕ → ℕ → Object
first_of contents site kind = record { site = site; kind = kind; contents = contents }

referred : (contents : List Content) (site kind serial : ℕ) → reference_at (first_of contents site kind) 0 ≡ Some serial
    → slice_get contents 0 ≡ Some (Reference serial)
referred contents site kind serial is = go (slice_get contents 0) refl where
  go : (found : Option Content) → slice_get contents 0 ≡ found → slice_get contents 0 ≡ Some (Reference serial)
  go None at = let none : reference_at (first_of contents site kind) 0 ≡ None = rw at refl in absurd (cc (sym none ∙ is))
  go (Some (Number number)) at = let none : reference_at (first_of contents site kind) 0 ≡ None = rw at refl in absurd (cc (sym none ∙ is))
  go (Some (Reference other)) at =
      let some : reference_at (first_of contents site kind) 0 ≡ Some other = rw at refl in
      at ∙ ap (λ (serial : ℕ). Some (Reference serial)) (same_Some other serial (sym some ∙ is))

char_unit : (program : Linked) (kinds : Kinds) (content : Content) → HasContent program kinds basics.Char content → IsUnit (Some content)
char_unit program kinds content has =
    let one = is_number_of program kinds basics.Char content refl has in
    subst (λ (content : Content). IsUnit (Some content)) (sym (one.1 ∙ ap Number (sym (one.2.kept no_long)))) (low_bits-lt 16 one.0)
  where
    no_long : basics.Char ≡ basics.Long → ⊥
    no_long same = cc same

pub contents_there : (objects : List (Option Object)) (serial : ℕ) (own : Object) → object_in objects serial ≡ Some own → contents_at objects serial ≡ own.contents
contents_there objects serial own there = rw there refl

pub kept_there : (objects : List (Option Object)) (serial : ℕ) (own : Object) → object_in objects serial ≡ Some own → IsTrue (is_kept objects serial)
kept_there objects serial own there = rw there refl

module _ (machine : Machine) (state : State) (has : HasNatives machine.program) (typed : IsTypedState machine.program state) (runs : state.roots.pending ≡ 0) where
  abbrev kinds : Kinds
  kinds = kinds_of state.objects

  abbrev program : Linked
  program = machine.program

  -- ---- references

  held_so : (kind serial : ℕ) → Refers program kinds kind serial → IsTrue (is_held state.objects serial)
  held_so kind serial Refers.ToNull = refl
  held_so kind serial (Refers.To own is) = go own is where
    go : (own : ℕ) → IsOfKind program kinds kind own → IsTrue (is_held state.objects own)
    go zero is = refl
    go (suc place) is =
        let it : Found program state.objects kind (suc place) = found program state.objects kind (suc place) typed.heap is in
        kept_there state.objects (suc place) it.object it.there

  refers_so : (kind serial : ℕ) (role : Role) → Refers program kinds kind serial
      → ((own : Object) → object_in state.objects serial ≡ Some own → IsObject program kinds own → holds_kind program own.kind kind ≡ true → IsThere state.objects role serial)
      → IsReference state.objects role serial
  refers_so kind serial role refers each = record { held = held_so kind serial refers; there = go refers each } where
    go : {own : ℕ} → Refers program kinds kind own
        → ((object : Object) → object_in state.objects own ≡ Some object → IsObject program kinds object → holds_kind program object.kind kind ≡ true → IsThere state.objects role own)
        → (own ≡ 0 → ⊥) → IsThere state.objects role own
    go Refers.ToNull each some = absurd (some refl)
    go (Refers.To own is) each some =
        let it : Found program state.objects kind own = found program state.objects kind own typed.heap is in each it.object it.there it.is it.goes

  -- ---- texts

  no_units : HoldsUnits state.objects 0
  no_units = record { held = refl; each = λ place low. absurd (omega (arith, low)); few = omega arith }

  array_units : (serial : ℕ) (array : Object) → object_in state.objects serial ≡ Some array → holds_kind program array.kind (characters program) ≡ true
      → IsObject program kinds array → HoldsUnits state.objects serial
  array_units serial array there goes is =
      let element = array_elements machine state has typed runs (characters program) basics.Char array refl has.core.char_elements goes in
      let contents = contents_there state.objects serial array there in
      let few = is.few basics.Char element in
      record {
        held = kept_held serial (kept_there state.objects serial array there);
        each = λ place low.
            let own : Holds program kinds array.contents place basics.Char = is.elements basics.Char place element (subst (λ (contents : List Content). place < length contents) contents low) in
            subst IsUnit (sym (ap (λ (contents : List Content). slice_get contents place) contents ∙ own.there)) (char_unit program kinds own.content own.fits);
        few = omega (arith, few, ap (λ (contents : List Content). length contents) contents);
      }
    where
      kept_held : (serial : ℕ) → IsTrue (is_kept state.objects serial) → IsTrue (is_held state.objects serial)
      kept_held zero kept = refl
      kept_held (suc place) kept = kept

  -- ---- bytes

  byte_words : (serial : ℕ) (array : Object) → object_in state.objects serial ≡ Some array → holds_kind program array.kind (bytes program) ≡ true
      → IsObject program kinds array → HoldsBytes state.objects serial
  byte_words serial array there goes is =
      let element = array_elements machine state has typed runs (bytes program) basics.Byte array refl has.core.byte_elements goes in
      let contents = contents_there state.objects serial array there in
      let few = is.few basics.Byte element in
      record {
        there = kept_there state.objects serial array there;
        numbers = λ place low.
            let own : Holds program kinds array.contents place basics.Byte = is.elements basics.Byte place element (subst (λ (contents : List Content). place < length contents) contents low) in
            let one = is_number_of program kinds basics.Byte own.content refl own.fits in
            ap is_number (ap (λ (contents : List Content). slice_get contents place) contents ∙ own.there ∙ ap (λ (content : Content). Some content) one.1);
        few = omega (arith, few, ap (λ (contents : List Content). length contents) contents);
      }

  text_so : (serial : ℕ) (own : Object) → object_in state.objects serial ≡ Some own → HasArray program state own → HasText state.objects serial
  text_so serial own there array = by array where
    word : (other : ℕ) → reference_at own 0 ≡ Some other → content_at state.objects serial 0 ≡ Some (Reference other)
    word other names = ap (λ (contents : List Content). slice_get contents 0) (contents_there state.objects serial own there) ∙ referred own.contents own.site own.kind other names

    with_units : (other : ℕ) → reference_at own 0 ≡ Some other → HoldsUnits state.objects other → HasText state.objects serial
    with_units other names units = record {
      refers = ap is_reference (word other names);
      units = subst (HoldsUnits state.objects) (sym (ap referred_word (word other names))) units;
    }

    by : HasArray program state own → HasText state.objects serial
    by (HasArray.NoArray names) = with_units 0 names no_units
    by (HasArray.AnArray place array names at goes is) = with_units (suc place) names (array_units (suc place) array at goes is)

  -- ---- numbers

  int_so : (kind slot serial : ℕ) (basic : Basic) (own : Object) → HaveField program kind slot basic → (basic ≡ basics.Long → ⊥) → references_by basic ≡ false
      → object_in state.objects serial ≡ Some own → IsObject program kinds own → holds_kind program own.kind kind ≡ true → HoldsInt state.objects serial slot basic
  int_so kind slot serial basic own have short base there is goes =
      let holds : Holds program kinds own.contents slot basic = field_there machine state has typed runs kind slot basic own have goes is in
      let one = is_number_of program kinds basic holds.content base holds.fits in
      record {
        number = one.0;
        is = ap (λ (contents : List Content). slice_get contents slot) (contents_there state.objects serial own there) ∙ holds.there ∙ ap (λ (content : Content). Some content) one.1;
        fits = one.2.narrow short;
        kept = one.2.kept short;
      }

  long_so : (serial : ℕ) (own : Object) → object_in state.objects serial ≡ Some own → IsObject program kinds own → holds_kind program own.kind library.long ≡ true
      → is_number (content_at state.objects serial 0) ≡ true
  long_so serial own there is goes =
      let holds : Holds program kinds own.contents 0 basics.Long = field_there machine state has typed runs library.long 0 basics.Long own has.core.longs goes is in
      let one = is_number_of program kinds basics.Long holds.content refl holds.fits in
      ap is_number (ap (λ (contents : List Content). slice_get contents 0) (contents_there state.objects serial own there) ∙ holds.there ∙ ap (λ (content : Content). Some content) one.1)

  message_so : (serial : ℕ) (own : Object) → object_in state.objects serial ≡ Some own → IsObject program kinds own → holds_kind program own.kind kind_of_throwable ≡ true
      → is_reference (content_at state.objects serial 0) ≡ true
  message_so serial own there is goes =
      let holds : Holds program kinds own.contents 0 (basics.Reference kind_of_string) =
      field_there machine state has typed runs kind_of_throwable 0 (basics.Reference kind_of_string) own has.core.messages goes is in
      let one = is_its_reference program kinds kind_of_string holds.content holds.fits in
      ap is_reference (ap (λ (contents : List Content). slice_get contents 0) (contents_there state.objects serial own there) ∙ holds.there ∙ ap (λ (content : Content). Some content) one.is)

  int_short : basics.Int ≡ basics.Long → ⊥
  int_short same = cc same

  char_short : basics.Char ≡ basics.Long → ⊥
  char_short same = cc same

  boolean_short : basics.Boolean ≡ basics.Long → ⊥
  boolean_short same = cc same

  -- ---- one argument

  module _ (method : Within) (own : method.program ≡ program) where
    as_own : (kind serial : ℕ) → Refers method.program kinds kind serial → Refers program kinds kind serial
    as_own kind serial refers = subst (λ (program : Linked). Refers program kinds kind serial) own refers

    role_given : (role : Role) (type : VerificationType) (value : Value) → Fits program role type → HasType method kinds type value → IsGiven state.objects role value
    role_given role type value Fits.Ints (HasType.AnInt number fits) = tt
    role_given role type value Fits.Longs (HasType.ALong number fits) = tt
    role_given role type value (Fits.Objects kind) (HasType.AReference same serial refers) =
        refers_so kind serial AnObject (as_own kind serial refers) (λ it there is goes. kept_there state.objects serial it there)
    role_given role type value Fits.Strings (HasType.AReference same serial refers) =
        refers_so kind_of_string serial AText (as_own kind_of_string serial refers)
        (λ it there is goes. text_so serial it there (string_array machine state has typed runs it goes is))
    role_given role type value Fits.Builders (HasType.AReference same serial refers) =
        refers_so builder serial ABuilder (as_own builder serial refers)
        (λ it there is goes. record {
          text = text_so serial it there (builder_array machine state has typed runs it goes is);
          count = int_so builder 1 serial basics.Int it has.core.counts int_short refl there is goes;
        })
    role_given role type value Fits.Chars (HasType.AReference same serial refers) =
        refers_so (characters program) serial Characters (as_own (characters program) serial refers) (λ it there is goes. array_units serial it there goes is)
    role_given role type value Fits.ByteArrays (HasType.AReference same serial refers) =
        refers_so (bytes program) serial Bytes (as_own (bytes program) serial refers) (λ it there is goes. byte_words serial it there goes is)
    role_given role type value Fits.IntBoxes (HasType.AReference same serial refers) =
        refers_so library.integer serial (ABox basics.Int) (as_own library.integer serial refers)
        (λ it there is goes. int_so library.integer 0 serial basics.Int it has.core.integers int_short refl there is goes)
    role_given role type value Fits.CharBoxes (HasType.AReference same serial refers) =
        refers_so library.character serial (ABox basics.Char) (as_own library.character serial refers)
        (λ it there is goes. int_so library.character 0 serial basics.Char it has.core.chars char_short refl there is goes)
    role_given role type value Fits.BooleanBoxes (HasType.AReference same serial refers) =
        refers_so library.boolean serial (ABox basics.Boolean) (as_own library.boolean serial refers)
        (λ it there is goes. int_so library.boolean 0 serial basics.Boolean it has.core.booleans boolean_short refl there is goes)
    role_given role type value Fits.LongBoxes (HasType.AReference same serial refers) =
        refers_so library.long serial ALongBox (as_own library.long serial refers) (λ it there is goes. long_so serial it there is goes)
    role_given role type value Fits.Constants (HasType.AReference same serial refers) =
        refers_so enum serial AConstant (as_own enum serial refers) (λ it there is goes. int_so enum 1 serial basics.Int it has.core.ordinals int_short refl there is goes)
    role_given role type value Fits.Classes (HasType.AReference same serial refers) =
        refers_so kind_of_class serial AClass (as_own kind_of_class serial refers)
        (λ it there is goes. int_so kind_of_class 0 serial basics.Int it has.core.numbers int_short refl there is goes)
    role_given role type value Fits.Throwables (HasType.AReference same serial refers) =
        refers_so kind_of_throwable serial AThrowable (as_own kind_of_throwable serial refers) (λ it there is goes. message_so serial it there is goes)

    given_so : (roles : List Role) (types : List VerificationType) (held : List Value) → AllFit program roles types → HaveTypes method kinds types held
        → AreGiven state.objects roles held
    given_so [] [] held fit HaveTypes.NoMore = tt
    given_so [] (type ∷ types) held fit have = absurd fit
    given_so (role ∷ roles) [] held fit have = absurd fit
    given_so (role ∷ roles) (type ∷ types) held fit (HaveTypes.And own value others rest is have) =
        (role_given role type value fit.0 is, given_so roles types rest fit.1 have)

    -- all of them
    pub natives_given : (native : Native) (held : List Value) → HaveTypes method kinds (takes_of program native) held → AreGiven state.objects (roles native) held
    natives_given native held have = given_so (roles native) (takes_of program native) held (all_fit program native) have

  -- ---- objects of the library's classes

  goes_own : (kind : ℕ) (it : Object) → IsObject program kinds it → it.kind ≡ kind → holds_kind program it.kind kind ≡ true
  goes_own kind it is same = ap (holds_kind program it.kind) (sym same) ∙ has.core.own it.kind is.kind

  pub core_given : HasCore state.objects
  core_given = record {
    strings = λ serial it there same.
        let is = typed.heap.each serial it there in text_so serial it there (string_array machine state has typed runs it (goes_own kind_of_string it is same) is);
    integers = λ serial it there same.
        let is = typed.heap.each serial it there in int_so library.integer 0 serial basics.Int it has.core.integers int_short refl there is (goes_own library.integer it is same);
    longs = λ serial it there same. let is = typed.heap.each serial it there in long_so serial it there is (goes_own library.long it is same);
    chars = λ serial it there same.
        let is = typed.heap.each serial it there in int_so library.character 0 serial basics.Char it has.core.chars char_short refl there is (goes_own library.character it is same);
    booleans = λ serial it there same.
        let is = typed.heap.each serial it there in int_so library.boolean 0 serial basics.Boolean it has.core.booleans boolean_short refl there is (goes_own library.boolean it is same);
  }
