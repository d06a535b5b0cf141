-- What the natives of the library take and give (Java SE 8 API, java.lang and java.io).
use Rattle.std.specs.Prelude.{ℕ, Bool, true, false, List, [], ◌∷◌, codes, Option, Some, None}
use Rattle.cb_kinds.specs.Basics.{kind_number}
use Rattle.cb_kinds.specs.declared.basic.Basic.{Basic}
use Rattle.cb_kinds.specs.declared.basic.Basic.TheVariants as basics
use Rattle.cb_library.specs.declared.native.Native.{Native}
use Rattle.cb_library.specs.declared.native.Native.TheVariants as natives
use Rattle.cb_link.specs.Program.{Linked}
use Rattle.cb_machine.specs.Library as library
use Rattle.cb_verify.specs.Within.{kind_of_class, kind_of_string, kind_of_throwable}
use Rattle.cb_verify.specs.declared.verification_type.VerificationType.{VerificationType}
use Rattle.cb_verify.specs.declared.verification_type.VerificationType.TheVariants.{Int, Long, Object}

-- the kinds of more classes of the library, and of some arrays
abbrev pub object : ℕ
object = 0

abbrev pub builder : ℕ
builder = 9

abbrev pub print_stream : ℕ
print_stream = 12

abbrev pub input_stream : ℕ
input_stream = 13

abbrev pub enum : ℕ
enum = 20

abbrev pub characters : Linked → ℕ
characters program = kind_number program.kinds (codes "[C")

abbrev pub bytes : Linked → ℕ
bytes program = kind_number program.kinds (codes "[B")

abbrev pub throwables : Linked → ℕ
throwables program = kind_number program.kinds (codes "[Ljava/lang/Throwable;")

-- the object on which it is called, if it isn't static, and its parameters
abbrev pub takes_of : Linked → Native → List VerificationType
takes_of program natives.ObjectSay = Object object ∷ Int ∷ []
takes_of program natives.StringConcat = Object kind_of_string ∷ Object kind_of_string ∷ []
takes_of program natives.StringSubstringFrom = Object kind_of_string ∷ Int ∷ []
takes_of program natives.StringSubstring = Object kind_of_string ∷ Int ∷ Int ∷ []
takes_of program natives.StringReplace = Object kind_of_string ∷ Int ∷ Int ∷ []
takes_of program natives.StringValueOfInt = Int ∷ []
takes_of program natives.StringValueOfLong = Long ∷ []
takes_of program natives.StringValueOfChar = Int ∷ []
takes_of program natives.StringValueOfBoolean = Int ∷ []
takes_of program natives.StringValueOfChars = Object (characters program) ∷ []
takes_of program natives.StringBuilderToString = Object builder ∷ []
takes_of program natives.ClassGetName = Object kind_of_class ∷ []
takes_of program natives.IntegerTextOf = Int ∷ []
takes_of program natives.IntegerToString = Object library.integer ∷ []
takes_of program natives.IntegerToHexString = Int ∷ []
takes_of program natives.LongTextOf = Long ∷ []
takes_of program natives.LongToString = Object library.long ∷ []
takes_of program natives.CharacterTextOf = Int ∷ []
takes_of program natives.CharacterToString = Object library.character ∷ []
takes_of program natives.BooleanTextOf = Int ∷ []
takes_of program natives.BooleanToString = Object library.boolean ∷ []
takes_of program natives.ThrowableSay = Object kind_of_throwable ∷ Object kind_of_string ∷ []
takes_of program natives.StringNew = Object kind_of_string ∷ []
takes_of program natives.StringNewChars = Object kind_of_string ∷ Object (characters program) ∷ []
takes_of program natives.StringNewRange = Object kind_of_string ∷ Object (characters program) ∷ Int ∷ Int ∷ []
takes_of program natives.StringBuilderNew = Object builder ∷ []
takes_of program natives.StringBuilderNewCapacity = Object builder ∷ Int ∷ []
takes_of program natives.StringBuilderNewString = Object builder ∷ Object kind_of_string ∷ []
takes_of program natives.StringBuilderAppendString = Object builder ∷ Object kind_of_string ∷ []
takes_of program natives.StringBuilderAppendInt = Object builder ∷ Int ∷ []
takes_of program natives.StringBuilderAppendLong = Object builder ∷ Long ∷ []
takes_of program natives.StringBuilderAppendChar = Object builder ∷ Int ∷ []
takes_of program natives.StringBuilderAppendBoolean = Object builder ∷ Int ∷ []
takes_of program natives.StringBuilderAppendChars = Object builder ∷ Object (characters program) ∷ []
takes_of program natives.StringBuilderSetCharAt = Object builder ∷ Int ∷ Int ∷ []
takes_of program natives.StringBuilderDeleteCharAt = Object builder ∷ Int ∷ []
takes_of program natives.StringBuilderSetLength = Object builder ∷ Int ∷ []
takes_of program natives.IntegerNew = Object library.integer ∷ Int ∷ []
takes_of program natives.LongNew = Object library.long ∷ Long ∷ []
takes_of program natives.CharacterNew = Object library.character ∷ Int ∷ []
takes_of program natives.BooleanNew = Object library.boolean ∷ Int ∷ []
takes_of program natives.ObjectGetClass = Object object ∷ []
takes_of program natives.IntegerValueOf = Int ∷ []
takes_of program natives.LongValueOf = Long ∷ []
takes_of program natives.CharacterValueOf = Int ∷ []
takes_of program natives.BooleanValueOf = Int ∷ []
takes_of program natives.ObjectClone = Object object ∷ []
takes_of program natives.StringToCharArray = Object kind_of_string ∷ []
takes_of program natives.SystemArraycopy = Object object ∷ Int ∷ Object object ∷ Int ∷ Int ∷ []
takes_of program natives.ThrowableAddSuppressed = Object kind_of_throwable ∷ Object kind_of_throwable ∷ []
takes_of program natives.ThrowableGetSuppressed = Object kind_of_throwable ∷ []
takes_of program natives.PrintBoolean = Object print_stream ∷ Int ∷ []
takes_of program natives.PrintChar = Object print_stream ∷ Int ∷ []
takes_of program natives.PrintInt = Object print_stream ∷ Int ∷ []
takes_of program natives.PrintLong = Object print_stream ∷ Long ∷ []
takes_of program natives.PrintString = Object print_stream ∷ Object kind_of_string ∷ []
takes_of program natives.PrintlnBoolean = Object print_stream ∷ Int ∷ []
takes_of program natives.PrintlnChar = Object print_stream ∷ Int ∷ []
takes_of program natives.PrintlnInt = Object print_stream ∷ Int ∷ []
takes_of program natives.PrintlnLong = Object print_stream ∷ Long ∷ []
takes_of program natives.PrintlnString = Object print_stream ∷ Object kind_of_string ∷ []
takes_of program natives.Println = Object print_stream ∷ []
takes_of program natives.ReadByte = Object input_stream ∷ []
takes_of program natives.ReadRange = Object input_stream ∷ Object (bytes program) ∷ Int ∷ Int ∷ []
takes_of program natives.SystemExit = Int ∷ []
takes_of program natives.SystemGc = []
takes_of program natives.ObjectHashCode = Object object ∷ []
takes_of program natives.ObjectEquals = Object object ∷ Object object ∷ []
takes_of program natives.StringLength = Object kind_of_string ∷ []
takes_of program natives.StringIsEmpty = Object kind_of_string ∷ []
takes_of program natives.StringCharAt = Object kind_of_string ∷ Int ∷ []
takes_of program natives.StringEquals = Object kind_of_string ∷ Object object ∷ []
takes_of program natives.StringHashCode = Object kind_of_string ∷ []
takes_of program natives.StringCompareTo = Object kind_of_string ∷ Object kind_of_string ∷ []
takes_of program natives.StringIndexOfUnit = Object kind_of_string ∷ Int ∷ []
takes_of program natives.StringIndexOfString = Object kind_of_string ∷ Object kind_of_string ∷ []
takes_of program natives.StringStartsWith = Object kind_of_string ∷ Object kind_of_string ∷ []
takes_of program natives.StringEndsWith = Object kind_of_string ∷ Object kind_of_string ∷ []
takes_of program natives.StringBuilderLength = Object builder ∷ []
takes_of program natives.StringBuilderCharAt = Object builder ∷ Int ∷ []
takes_of program natives.ClassDesiredAssertionStatus = Object kind_of_class ∷ []
takes_of program natives.SystemIdentityHashCode = Object object ∷ []
takes_of program natives.Flush = Object print_stream ∷ []
takes_of program natives.IntegerParseInt = Object kind_of_string ∷ []
takes_of program natives.IntegerCompare = Int ∷ Int ∷ []
takes_of program natives.IntegerIntValue = Object library.integer ∷ []
takes_of program natives.IntegerLongValue = Object library.integer ∷ []
takes_of program natives.IntegerEquals = Object library.integer ∷ Object object ∷ []
takes_of program natives.IntegerHashCode = Object library.integer ∷ []
takes_of program natives.IntegerCompareTo = Object library.integer ∷ Object library.integer ∷ []
takes_of program natives.LongParseLong = Object kind_of_string ∷ []
takes_of program natives.LongCompare = Long ∷ Long ∷ []
takes_of program natives.LongIntValue = Object library.long ∷ []
takes_of program natives.LongLongValue = Object library.long ∷ []
takes_of program natives.LongEquals = Object library.long ∷ Object object ∷ []
takes_of program natives.LongHashCode = Object library.long ∷ []
takes_of program natives.LongCompareTo = Object library.long ∷ Object library.long ∷ []
takes_of program natives.CharacterCharValue = Object library.character ∷ []
takes_of program natives.CharacterEquals = Object library.character ∷ Object object ∷ []
takes_of program natives.CharacterHashCode = Object library.character ∷ []
takes_of program natives.CharacterCompareTo = Object library.character ∷ Object library.character ∷ []
takes_of program natives.BooleanBooleanValue = Object library.boolean ∷ []
takes_of program natives.BooleanEquals = Object library.boolean ∷ Object object ∷ []
takes_of program natives.BooleanHashCode = Object library.boolean ∷ []
takes_of program natives.BooleanCompareTo = Object library.boolean ∷ Object library.boolean ∷ []
takes_of program natives.MathAbsInt = Int ∷ []
takes_of program natives.MathAbsLong = Long ∷ []
takes_of program natives.MathMaxInt = Int ∷ Int ∷ []
takes_of program natives.MathMaxLong = Long ∷ Long ∷ []
takes_of program natives.MathMinInt = Int ∷ Int ∷ []
takes_of program natives.MathMinLong = Long ∷ Long ∷ []
takes_of program natives.MathFloorDivInt = Int ∷ Int ∷ []
takes_of program natives.MathFloorDivLong = Long ∷ Long ∷ []
takes_of program natives.MathFloorModInt = Int ∷ Int ∷ []
takes_of program natives.MathFloorModLong = Long ∷ Long ∷ []
takes_of program natives.EnumEquals = Object enum ∷ Object object ∷ []
takes_of program natives.EnumHashCode = Object enum ∷ []
takes_of program natives.EnumCompareTo = Object enum ∷ Object enum ∷ []
takes_of program natives.EnumValueOf = Object kind_of_class ∷ Object kind_of_string ∷ []

-- and its result
abbrev pub gives_of : Linked → Native → Option Basic
gives_of program natives.ObjectSay = Some (basics.Reference kind_of_string)
gives_of program natives.StringConcat = Some (basics.Reference kind_of_string)
gives_of program natives.StringSubstringFrom = Some (basics.Reference kind_of_string)
gives_of program natives.StringSubstring = Some (basics.Reference kind_of_string)
gives_of program natives.StringReplace = Some (basics.Reference kind_of_string)
gives_of program natives.StringValueOfInt = Some (basics.Reference kind_of_string)
gives_of program natives.StringValueOfLong = Some (basics.Reference kind_of_string)
gives_of program natives.StringValueOfChar = Some (basics.Reference kind_of_string)
gives_of program natives.StringValueOfBoolean = Some (basics.Reference kind_of_string)
gives_of program natives.StringValueOfChars = Some (basics.Reference kind_of_string)
gives_of program natives.StringBuilderToString = Some (basics.Reference kind_of_string)
gives_of program natives.ClassGetName = Some (basics.Reference kind_of_string)
gives_of program natives.IntegerTextOf = Some (basics.Reference kind_of_string)
gives_of program natives.IntegerToString = Some (basics.Reference kind_of_string)
gives_of program natives.IntegerToHexString = Some (basics.Reference kind_of_string)
gives_of program natives.LongTextOf = Some (basics.Reference kind_of_string)
gives_of program natives.LongToString = Some (basics.Reference kind_of_string)
gives_of program natives.CharacterTextOf = Some (basics.Reference kind_of_string)
gives_of program natives.CharacterToString = Some (basics.Reference kind_of_string)
gives_of program natives.BooleanTextOf = Some (basics.Reference kind_of_string)
gives_of program natives.BooleanToString = Some (basics.Reference kind_of_string)
gives_of program natives.ThrowableSay = Some (basics.Reference kind_of_string)
gives_of program natives.StringNew = None
gives_of program natives.StringNewChars = None
gives_of program natives.StringNewRange = None
gives_of program natives.StringBuilderNew = None
gives_of program natives.StringBuilderNewCapacity = None
gives_of program natives.StringBuilderNewString = None
gives_of program natives.StringBuilderAppendString = Some (basics.Reference builder)
gives_of program natives.StringBuilderAppendInt = Some (basics.Reference builder)
gives_of program natives.StringBuilderAppendLong = Some (basics.Reference builder)
gives_of program natives.StringBuilderAppendChar = Some (basics.Reference builder)
gives_of program natives.StringBuilderAppendBoolean = Some (basics.Reference builder)
gives_of program natives.StringBuilderAppendChars = Some (basics.Reference builder)
gives_of program natives.StringBuilderSetCharAt = None
gives_of program natives.StringBuilderDeleteCharAt = Some (basics.Reference builder)
gives_of program natives.StringBuilderSetLength = None
gives_of program natives.IntegerNew = None
gives_of program natives.LongNew = None
gives_of program natives.CharacterNew = None
gives_of program natives.BooleanNew = None
gives_of program natives.ObjectGetClass = Some (basics.Reference kind_of_class)
gives_of program natives.IntegerValueOf = Some (basics.Reference library.integer)
gives_of program natives.LongValueOf = Some (basics.Reference library.long)
gives_of program natives.CharacterValueOf = Some (basics.Reference library.character)
gives_of program natives.BooleanValueOf = Some (basics.Reference library.boolean)
gives_of program natives.ObjectClone = Some (basics.Reference object)
gives_of program natives.StringToCharArray = Some (basics.Reference (characters program))
gives_of program natives.SystemArraycopy = None
gives_of program natives.ThrowableAddSuppressed = None
gives_of program natives.ThrowableGetSuppressed = Some (basics.Reference (throwables program))
gives_of program natives.PrintBoolean = None
gives_of program natives.PrintChar = None
gives_of program natives.PrintInt = None
gives_of program natives.PrintLong = None
gives_of program natives.PrintString = None
gives_of program natives.PrintlnBoolean = None
gives_of program natives.PrintlnChar = None
gives_of program natives.PrintlnInt = None
gives_of program natives.PrintlnLong = None
gives_of program natives.PrintlnString = None
gives_of program natives.Println = None
gives_of program natives.ReadByte = Some basics.Int
gives_of program natives.ReadRange = Some basics.Int
gives_of program natives.SystemExit = None
gives_of program natives.SystemGc = None
gives_of program natives.ObjectHashCode = Some basics.Int
gives_of program natives.ObjectEquals = Some basics.Boolean
gives_of program natives.StringLength = Some basics.Int
gives_of program natives.StringIsEmpty = Some basics.Boolean
gives_of program natives.StringCharAt = Some basics.Char
gives_of program natives.StringEquals = Some basics.Boolean
gives_of program natives.StringHashCode = Some basics.Int
gives_of program natives.StringCompareTo = Some basics.Int
gives_of program natives.StringIndexOfUnit = Some basics.Int
gives_of program natives.StringIndexOfString = Some basics.Int
gives_of program natives.StringStartsWith = Some basics.Boolean
gives_of program natives.StringEndsWith = Some basics.Boolean
gives_of program natives.StringBuilderLength = Some basics.Int
gives_of program natives.StringBuilderCharAt = Some basics.Char
gives_of program natives.ClassDesiredAssertionStatus = Some basics.Boolean
gives_of program natives.SystemIdentityHashCode = Some basics.Int
gives_of program natives.Flush = None
gives_of program natives.IntegerParseInt = Some basics.Int
gives_of program natives.IntegerCompare = Some basics.Int
gives_of program natives.IntegerIntValue = Some basics.Int
gives_of program natives.IntegerLongValue = Some basics.Long
gives_of program natives.IntegerEquals = Some basics.Boolean
gives_of program natives.IntegerHashCode = Some basics.Int
gives_of program natives.IntegerCompareTo = Some basics.Int
gives_of program natives.LongParseLong = Some basics.Long
gives_of program natives.LongCompare = Some basics.Int
gives_of program natives.LongIntValue = Some basics.Int
gives_of program natives.LongLongValue = Some basics.Long
gives_of program natives.LongEquals = Some basics.Boolean
gives_of program natives.LongHashCode = Some basics.Int
gives_of program natives.LongCompareTo = Some basics.Int
gives_of program natives.CharacterCharValue = Some basics.Char
gives_of program natives.CharacterEquals = Some basics.Boolean
gives_of program natives.CharacterHashCode = Some basics.Int
gives_of program natives.CharacterCompareTo = Some basics.Int
gives_of program natives.BooleanBooleanValue = Some basics.Boolean
gives_of program natives.BooleanEquals = Some basics.Boolean
gives_of program natives.BooleanHashCode = Some basics.Int
gives_of program natives.BooleanCompareTo = Some basics.Int
gives_of program natives.MathAbsInt = Some basics.Int
gives_of program natives.MathAbsLong = Some basics.Long
gives_of program natives.MathMaxInt = Some basics.Int
gives_of program natives.MathMaxLong = Some basics.Long
gives_of program natives.MathMinInt = Some basics.Int
gives_of program natives.MathMinLong = Some basics.Long
gives_of program natives.MathFloorDivInt = Some basics.Int
gives_of program natives.MathFloorDivLong = Some basics.Long
gives_of program natives.MathFloorModInt = Some basics.Int
gives_of program natives.MathFloorModLong = Some basics.Long
gives_of program natives.EnumEquals = Some basics.Boolean
gives_of program natives.EnumHashCode = Some basics.Int
gives_of program natives.EnumCompareTo = Some basics.Int
gives_of program natives.EnumValueOf = Some (basics.Reference enum)

-- natives on numbers alone, and others that give a number, an object that was there, or nothing
abbrev pub is_of_numbers : Native → Bool
is_of_numbers natives.MathAbsInt = true
is_of_numbers natives.MathAbsLong = true
is_of_numbers natives.MathMaxInt = true
is_of_numbers natives.MathMinInt = true
is_of_numbers natives.MathFloorDivInt = true
is_of_numbers natives.MathFloorModInt = true
is_of_numbers natives.MathMaxLong = true
is_of_numbers natives.MathMinLong = true
is_of_numbers natives.MathFloorDivLong = true
is_of_numbers natives.MathFloorModLong = true
is_of_numbers natives.IntegerCompare = true
is_of_numbers natives.LongCompare = true
is_of_numbers other = false

abbrev pub is_of_answers : Native → Bool
is_of_answers natives.IntegerParseInt = true
is_of_answers natives.LongParseLong = true
is_of_answers natives.IntegerIntValue = true
is_of_answers natives.IntegerLongValue = true
is_of_answers natives.IntegerHashCode = true
is_of_answers natives.LongIntValue = true
is_of_answers natives.LongLongValue = true
is_of_answers natives.LongHashCode = true
is_of_answers natives.CharacterCharValue = true
is_of_answers natives.CharacterHashCode = true
is_of_answers natives.BooleanBooleanValue = true
is_of_answers natives.BooleanHashCode = true
is_of_answers natives.IntegerEquals = true
is_of_answers natives.LongEquals = true
is_of_answers natives.CharacterEquals = true
is_of_answers natives.BooleanEquals = true
is_of_answers natives.IntegerCompareTo = true
is_of_answers natives.LongCompareTo = true
is_of_answers natives.CharacterCompareTo = true
is_of_answers natives.BooleanCompareTo = true
is_of_answers natives.StringLength = true
is_of_answers natives.StringIsEmpty = true
is_of_answers natives.StringHashCode = true
is_of_answers natives.StringCharAt = true
is_of_answers natives.StringEquals = true
is_of_answers natives.StringIndexOfUnit = true
is_of_answers natives.StringCompareTo = true
is_of_answers natives.StringIndexOfString = true
is_of_answers natives.StringStartsWith = true
is_of_answers natives.StringEndsWith = true
is_of_answers natives.StringBuilderLength = true
is_of_answers natives.StringBuilderCharAt = true
is_of_answers natives.ObjectHashCode = true
is_of_answers natives.ObjectEquals = true
is_of_answers natives.SystemIdentityHashCode = true
is_of_answers natives.ClassDesiredAssertionStatus = true
is_of_answers natives.Flush = true
is_of_answers natives.EnumEquals = true
is_of_answers natives.EnumHashCode = true
is_of_answers natives.EnumCompareTo = true
is_of_answers other = false
