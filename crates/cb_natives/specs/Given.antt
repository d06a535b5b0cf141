-- What natives are given: what is known of each argument (Java SE 8 API, java.lang and java.io).
use Rattle.std.specs.Prelude.{◌≡◌, ◌<◌, ◌^◌, ℤ, pos, ℕ, Bool, true, false, FitsSigned, IsTrue, List, [], ◌∷◌, ◌&&◌, length, map, Option, Some}
use Rattle.std.specs.Int.{w32}
use Rattle.cb_heap.specs.Kept.{content_at, contents_at, is_held, is_kept, is_number, is_reference}
use Rattle.cb_kinds.specs.declared.basic.Basic.{Basic}
use Rattle.cb_kinds.specs.declared.basic.Basic.TheVariants as basics
use Rattle.cb_library.specs.declared.native.Native.{Native}
use Rattle.cb_library.specs.declared.native.Native.TheVariants as natives
use Rattle.cb_machine.specs.Library as library
use Rattle.cb_machine.specs.Performing.{unit_in}
use Rattle.cb_machine.specs.Values.{kept_int}
use Rattle.cb_plain.specs.State.{Content, Number, Object, Reference}
use Rattle.cb_plain.specs.Updates.{object_in}
use Rattle.cb_plain.specs.declared.value.Value.{Value}
use Rattle.cb_plain.specs.declared.value.Value.TheVariants.{Int, Long, Ref}
use Rattle.cb_shapes.specs.declared.sort.Sort.{Sort}
use Rattle.cb_shapes.specs.declared.sort.Sort.TheVariants as sorts

-- the units of an array, and the array to which the first word of an object refers
abbrev pub units_in : List (Option Object) → ℕ → List ℕ
units_in objects array = map unit_in (contents_at objects array)

abbrev pub referred_word : Option Content → ℕ
referred_word (Some (Reference serial)) = serial
referred_word other = 0

abbrev pub array_of : List (Option Object) → ℕ → ℕ
array_of objects serial = referred_word (content_at objects serial 0)

-- an array is null, or there: each word of it is a unit of UTF-16, and an int counts them
abbrev pub IsUnit : Option Content → Type 0
IsUnit (Some (Number (pos unit))) = unit < 2 ^ 16
IsUnit other = ⊥

pub record HoldsUnits (objects : List (Option Object)) (array : ℕ) : Type 0 where
  pub held : IsTrue (is_held objects array)
  pub each : (place : ℕ) → place < length (contents_at objects array) → IsUnit (content_at objects array place)
  pub few : length (contents_at objects array) < 2 ^ 31

-- an array of bytes is there: each word of it holds a number, and an int counts them
pub record HoldsBytes (objects : List (Option Object)) (array : ℕ) : Type 0 where
  pub there : IsTrue (is_kept objects array)
  pub numbers : (place : ℕ) → place < length (contents_at objects array) → is_number (content_at objects array place) ≡ true
  pub few : length (contents_at objects array) < 2 ^ 31

-- the first word of a string or a builder refers to such an array
pub record HasText (objects : List (Option Object)) (serial : ℕ) : Type 0 where
  pub refers : is_reference (content_at objects serial 0) ≡ true
  pub units : HoldsUnits objects (array_of objects serial)

-- a word holds a number of so many bits
pub record HoldsInt (objects : List (Option Object)) (serial slot : ℕ) (basic : Basic) : Type 0 where
  pub number : ℤ
  pub is : content_at objects serial slot ≡ Some (Number number)
  pub fits : FitsSigned w32 number
  pub kept : kept_int basic number ≡ number

-- what an argument may be: a number; an object, of which nothing is asked; a string, a builder, an array of chars or bytes; a box, by what
-- it holds; a constant of an enum; a class; an exception
pub data Role : Type 0 where
  AnInt : Role
  ALong : Role
  AnObject : Role
  AText : Role
  ABuilder : Role
  Characters : Role
  Bytes : Role
  ABox : Basic → Role
  ALongBox : Role
  AConstant : Role
  AClass : Role
  AThrowable : Role

-- what is known of an object in its role
pub record IsBuilder (objects : List (Option Object)) (serial : ℕ) : Type 0 where
  pub text : HasText objects serial
  pub count : HoldsInt objects serial 1 basics.Int

abbrev pub IsThere : List (Option Object) → Role → ℕ → Type 0
IsThere objects AText serial = HasText objects serial
IsThere objects ABuilder serial = IsBuilder objects serial
IsThere objects Characters serial = HoldsUnits objects serial
IsThere objects Bytes serial = HoldsBytes objects serial
IsThere objects (ABox basic) serial = HoldsInt objects serial 0 basic
IsThere objects ALongBox serial = is_number (content_at objects serial 0) ≡ true
IsThere objects AConstant serial = HoldsInt objects serial 1 basics.Int
IsThere objects AClass serial = HoldsInt objects serial 0 basics.Int
IsThere objects AThrowable serial = is_reference (content_at objects serial 0) ≡ true
IsThere objects other serial = IsTrue (is_kept objects serial)

-- a reference is null, or to such an object
pub record IsReference (objects : List (Option Object)) (role : Role) (serial : ℕ) : Type 0 where
  pub held : IsTrue (is_held objects serial)
  pub there : (serial ≡ 0 → ⊥) → IsThere objects role serial

abbrev pub IsGiven : List (Option Object) → Role → Value → Type 0
IsGiven objects AnInt (Int number) = Unit {0}
IsGiven objects ALong (Long number) = Unit {0}
IsGiven objects AnInt other = ⊥
IsGiven objects ALong other = ⊥
IsGiven objects role (Ref serial) = IsReference objects role serial
IsGiven objects role other = ⊥

abbrev pub AreGiven : List (Option Object) → List Role → List Value → Type 0
AreGiven objects [] [] = Unit {0}
AreGiven objects (role ∷ roles) (value ∷ held) = IsGiven objects role value × AreGiven objects roles held
AreGiven objects roles held = ⊥

-- objects of classes of the library that have no subclasses have their words, whichever argument they are
pub record HasCore (objects : List (Option Object)) : Type 0 where
  pub strings : (serial : ℕ) (object : Object) → object_in objects serial ≡ Some object → object.kind ≡ library.string → HasText objects serial
  pub integers : (serial : ℕ) (object : Object) → object_in objects serial ≡ Some object → object.kind ≡ library.integer → HoldsInt objects serial 0 basics.Int
  pub longs : (serial : ℕ) (object : Object) → object_in objects serial ≡ Some object → object.kind ≡ library.long → is_number (content_at objects serial 0) ≡ true
  pub chars : (serial : ℕ) (object : Object) → object_in objects serial ≡ Some object → object.kind ≡ library.character → HoldsInt objects serial 0 basics.Char
  pub booleans : (serial : ℕ) (object : Object) → object_in objects serial ≡ Some object → object.kind ≡ library.boolean → HoldsInt objects serial 0 basics.Boolean

-- the sort of an argument, and whether values have these
abbrev pub sort_of_role : Role → Sort
sort_of_role AnInt = sorts.Int
sort_of_role ALong = sorts.Long
sort_of_role other = sorts.Reference

abbrev pub has_sort : Sort → Value → Bool
has_sort sorts.Int (Int number) = true
has_sort sorts.Long (Long number) = true
has_sort sorts.Reference (Ref serial) = true
has_sort sort other = false

abbrev pub have_sorts : List Sort → List Value → Bool
have_sorts [] [] = true
have_sorts (sort ∷ sorts) (value ∷ held) = has_sort sort value && have_sorts sorts held
have_sorts sorts held = false

-- the roles of the arguments of each native, the object on which it is called first, and their sorts
abbrev pub roles : Native → List Role
roles natives.ObjectSay = AnObject ∷ AnInt ∷ []
roles natives.StringConcat = AText ∷ AText ∷ []
roles natives.StringSubstringFrom = AText ∷ AnInt ∷ []
roles natives.StringSubstring = AText ∷ AnInt ∷ AnInt ∷ []
roles natives.StringReplace = AText ∷ AnInt ∷ AnInt ∷ []
roles natives.StringValueOfInt = AnInt ∷ []
roles natives.StringValueOfLong = ALong ∷ []
roles natives.StringValueOfChar = AnInt ∷ []
roles natives.StringValueOfBoolean = AnInt ∷ []
roles natives.StringValueOfChars = Characters ∷ []
roles natives.StringBuilderToString = ABuilder ∷ []
roles natives.ClassGetName = AClass ∷ []
roles natives.IntegerTextOf = AnInt ∷ []
roles natives.IntegerToString = ABox basics.Int ∷ []
roles natives.IntegerToHexString = AnInt ∷ []
roles natives.LongTextOf = ALong ∷ []
roles natives.LongToString = ALongBox ∷ []
roles natives.CharacterTextOf = AnInt ∷ []
roles natives.CharacterToString = ABox basics.Char ∷ []
roles natives.BooleanTextOf = AnInt ∷ []
roles natives.BooleanToString = ABox basics.Boolean ∷ []
roles natives.ThrowableSay = AThrowable ∷ AText ∷ []
roles natives.StringNew = AText ∷ []
roles natives.StringNewChars = AText ∷ Characters ∷ []
roles natives.StringNewRange = AText ∷ Characters ∷ AnInt ∷ AnInt ∷ []
roles natives.StringBuilderNew = ABuilder ∷ []
roles natives.StringBuilderNewCapacity = ABuilder ∷ AnInt ∷ []
roles natives.StringBuilderNewString = ABuilder ∷ AText ∷ []
roles natives.StringBuilderAppendString = ABuilder ∷ AText ∷ []
roles natives.StringBuilderAppendInt = ABuilder ∷ AnInt ∷ []
roles natives.StringBuilderAppendLong = ABuilder ∷ ALong ∷ []
roles natives.StringBuilderAppendChar = ABuilder ∷ AnInt ∷ []
roles natives.StringBuilderAppendBoolean = ABuilder ∷ AnInt ∷ []
roles natives.StringBuilderAppendChars = ABuilder ∷ Characters ∷ []
roles natives.StringBuilderSetCharAt = ABuilder ∷ AnInt ∷ AnInt ∷ []
roles natives.StringBuilderDeleteCharAt = ABuilder ∷ AnInt ∷ []
roles natives.StringBuilderSetLength = ABuilder ∷ AnInt ∷ []
roles natives.IntegerNew = ABox basics.Int ∷ AnInt ∷ []
roles natives.LongNew = ALongBox ∷ ALong ∷ []
roles natives.CharacterNew = ABox basics.Char ∷ AnInt ∷ []
roles natives.BooleanNew = ABox basics.Boolean ∷ AnInt ∷ []
roles natives.ObjectGetClass = AnObject ∷ []
roles natives.IntegerValueOf = AnInt ∷ []
roles natives.LongValueOf = ALong ∷ []
roles natives.CharacterValueOf = AnInt ∷ []
roles natives.BooleanValueOf = AnInt ∷ []
roles natives.ObjectClone = AnObject ∷ []
roles natives.StringToCharArray = AText ∷ []
roles natives.SystemArraycopy = AnObject ∷ AnInt ∷ AnObject ∷ AnInt ∷ AnInt ∷ []
roles natives.ThrowableAddSuppressed = AThrowable ∷ AThrowable ∷ []
roles natives.ThrowableGetSuppressed = AThrowable ∷ []
roles natives.PrintBoolean = AnObject ∷ AnInt ∷ []
roles natives.PrintChar = AnObject ∷ AnInt ∷ []
roles natives.PrintInt = AnObject ∷ AnInt ∷ []
roles natives.PrintLong = AnObject ∷ ALong ∷ []
roles natives.PrintString = AnObject ∷ AText ∷ []
roles natives.PrintlnBoolean = AnObject ∷ AnInt ∷ []
roles natives.PrintlnChar = AnObject ∷ AnInt ∷ []
roles natives.PrintlnInt = AnObject ∷ AnInt ∷ []
roles natives.PrintlnLong = AnObject ∷ ALong ∷ []
roles natives.PrintlnString = AnObject ∷ AText ∷ []
roles natives.Println = AnObject ∷ []
roles natives.ReadByte = AnObject ∷ []
roles natives.ReadRange = AnObject ∷ Bytes ∷ AnInt ∷ AnInt ∷ []
roles natives.SystemExit = AnInt ∷ []
roles natives.SystemGc = []
roles natives.ObjectHashCode = AnObject ∷ []
roles natives.ObjectEquals = AnObject ∷ AnObject ∷ []
roles natives.StringLength = AText ∷ []
roles natives.StringIsEmpty = AText ∷ []
roles natives.StringCharAt = AText ∷ AnInt ∷ []
roles natives.StringEquals = AText ∷ AnObject ∷ []
roles natives.StringHashCode = AText ∷ []
roles natives.StringCompareTo = AText ∷ AText ∷ []
roles natives.StringIndexOfUnit = AText ∷ AnInt ∷ []
roles natives.StringIndexOfString = AText ∷ AText ∷ []
roles natives.StringStartsWith = AText ∷ AText ∷ []
roles natives.StringEndsWith = AText ∷ AText ∷ []
roles natives.StringBuilderLength = ABuilder ∷ []
roles natives.StringBuilderCharAt = ABuilder ∷ AnInt ∷ []
roles natives.ClassDesiredAssertionStatus = AClass ∷ []
roles natives.SystemIdentityHashCode = AnObject ∷ []
roles natives.Flush = AnObject ∷ []
roles natives.IntegerParseInt = AText ∷ []
roles natives.IntegerCompare = AnInt ∷ AnInt ∷ []
roles natives.IntegerIntValue = ABox basics.Int ∷ []
roles natives.IntegerLongValue = ABox basics.Int ∷ []
roles natives.IntegerEquals = ABox basics.Int ∷ AnObject ∷ []
roles natives.IntegerHashCode = ABox basics.Int ∷ []
roles natives.IntegerCompareTo = ABox basics.Int ∷ ABox basics.Int ∷ []
roles natives.LongParseLong = AText ∷ []
roles natives.LongCompare = ALong ∷ ALong ∷ []
roles natives.LongIntValue = ALongBox ∷ []
roles natives.LongLongValue = ALongBox ∷ []
roles natives.LongEquals = ALongBox ∷ AnObject ∷ []
roles natives.LongHashCode = ALongBox ∷ []
roles natives.LongCompareTo = ALongBox ∷ ALongBox ∷ []
roles natives.CharacterCharValue = ABox basics.Char ∷ []
roles natives.CharacterEquals = ABox basics.Char ∷ AnObject ∷ []
roles natives.CharacterHashCode = ABox basics.Char ∷ []
roles natives.CharacterCompareTo = ABox basics.Char ∷ ABox basics.Char ∷ []
roles natives.BooleanBooleanValue = ABox basics.Boolean ∷ []
roles natives.BooleanEquals = ABox basics.Boolean ∷ AnObject ∷ []
roles natives.BooleanHashCode = ABox basics.Boolean ∷ []
roles natives.BooleanCompareTo = ABox basics.Boolean ∷ ABox basics.Boolean ∷ []
roles natives.MathAbsInt = AnInt ∷ []
roles natives.MathAbsLong = ALong ∷ []
roles natives.MathMaxInt = AnInt ∷ AnInt ∷ []
roles natives.MathMaxLong = ALong ∷ ALong ∷ []
roles natives.MathMinInt = AnInt ∷ AnInt ∷ []
roles natives.MathMinLong = ALong ∷ ALong ∷ []
roles natives.MathFloorDivInt = AnInt ∷ AnInt ∷ []
roles natives.MathFloorDivLong = ALong ∷ ALong ∷ []
roles natives.MathFloorModInt = AnInt ∷ AnInt ∷ []
roles natives.MathFloorModLong = ALong ∷ ALong ∷ []
roles natives.EnumEquals = AConstant ∷ AnObject ∷ []
roles natives.EnumHashCode = AConstant ∷ []
roles natives.EnumCompareTo = AConstant ∷ AConstant ∷ []
roles natives.EnumValueOf = AClass ∷ AText ∷ []

abbrev pub sorts_of : Native → List Sort
sorts_of native = map sort_of_role (roles native)
