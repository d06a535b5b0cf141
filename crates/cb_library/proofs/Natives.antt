-- The natives of the table, in its order.
use Rattle.std.proofs.Common.{◌≡◌, ◌∙◌, ap, sym, refl, arith, ℕ, zero, suc, ◌+◌, List, [], ◌∷◌, map, option_map, slice_get, Some}
use Rattle.std.proofs.lemmas.Option.{same_Some, slice_get-map}
use Rattle.cb_library.specs.declared.native.Native.{Native}
use Rattle.cb_library.specs.declared.native.Native.TheVariants as all
use Rattle.cb_library.specs.Questions.{natives}

-- the place of each native
abbrev pub place : Native → ℕ
place all.ObjectGetClass = 0
place all.ObjectHashCode = 1
place all.ObjectEquals = 2
place all.ObjectSay = 3
place all.ObjectClone = 4
place all.StringNew = 5
place all.StringNewChars = 6
place all.StringNewRange = 7
place all.StringLength = 8
place all.StringIsEmpty = 9
place all.StringCharAt = 10
place all.StringEquals = 11
place all.StringHashCode = 12
place all.StringCompareTo = 13
place all.StringConcat = 14
place all.StringSubstringFrom = 15
place all.StringSubstring = 16
place all.StringIndexOfUnit = 17
place all.StringIndexOfString = 18
place all.StringStartsWith = 19
place all.StringEndsWith = 20
place all.StringReplace = 21
place all.StringToCharArray = 22
place all.StringValueOfInt = 23
place all.StringValueOfLong = 24
place all.StringValueOfChar = 25
place all.StringValueOfBoolean = 26
place all.StringValueOfChars = 27
place all.StringBuilderNew = 28
place all.StringBuilderNewCapacity = 29
place all.StringBuilderNewString = 30
place all.StringBuilderAppendString = 31
place all.StringBuilderAppendInt = 32
place all.StringBuilderAppendLong = 33
place all.StringBuilderAppendChar = 34
place all.StringBuilderAppendBoolean = 35
place all.StringBuilderAppendChars = 36
place all.StringBuilderLength = 37
place all.StringBuilderCharAt = 38
place all.StringBuilderSetCharAt = 39
place all.StringBuilderDeleteCharAt = 40
place all.StringBuilderSetLength = 41
place all.StringBuilderToString = 42
place all.ClassGetName = 43
place all.ClassDesiredAssertionStatus = 44
place all.SystemExit = 45
place all.SystemArraycopy = 46
place all.SystemIdentityHashCode = 47
place all.SystemGc = 48
place all.PrintBoolean = 49
place all.PrintChar = 50
place all.PrintInt = 51
place all.PrintLong = 52
place all.PrintString = 53
place all.PrintlnBoolean = 54
place all.PrintlnChar = 55
place all.PrintlnInt = 56
place all.PrintlnLong = 57
place all.PrintlnString = 58
place all.Println = 59
place all.Flush = 60
place all.ReadByte = 61
place all.ReadRange = 62
place all.IntegerNew = 63
place all.IntegerValueOf = 64
place all.IntegerParseInt = 65
place all.IntegerTextOf = 66
place all.IntegerCompare = 67
place all.IntegerIntValue = 68
place all.IntegerLongValue = 69
place all.IntegerToString = 70
place all.IntegerEquals = 71
place all.IntegerHashCode = 72
place all.IntegerCompareTo = 73
place all.IntegerToHexString = 74
place all.LongNew = 75
place all.LongValueOf = 76
place all.LongParseLong = 77
place all.LongTextOf = 78
place all.LongCompare = 79
place all.LongIntValue = 80
place all.LongLongValue = 81
place all.LongToString = 82
place all.LongEquals = 83
place all.LongHashCode = 84
place all.LongCompareTo = 85
place all.CharacterNew = 86
place all.CharacterValueOf = 87
place all.CharacterCharValue = 88
place all.CharacterTextOf = 89
place all.CharacterToString = 90
place all.CharacterEquals = 91
place all.CharacterHashCode = 92
place all.CharacterCompareTo = 93
place all.BooleanNew = 94
place all.BooleanValueOf = 95
place all.BooleanBooleanValue = 96
place all.BooleanTextOf = 97
place all.BooleanToString = 98
place all.BooleanEquals = 99
place all.BooleanHashCode = 100
place all.BooleanCompareTo = 101
place all.MathAbsInt = 102
place all.MathAbsLong = 103
place all.MathMaxInt = 104
place all.MathMaxLong = 105
place all.MathMinInt = 106
place all.MathMinLong = 107
place all.MathFloorDivInt = 108
place all.MathFloorDivLong = 109
place all.MathFloorModInt = 110
place all.MathFloorModLong = 111
place all.EnumEquals = 112
place all.EnumHashCode = 113
place all.EnumCompareTo = 114
place all.EnumValueOf = 115
place all.ThrowableSay = 116
place all.ThrowableAddSuppressed = 117
place all.ThrowableGetSuppressed = 118

listed : List Native
listed =
    all.ObjectGetClass
    ∷ all.ObjectHashCode
    ∷ all.ObjectEquals
    ∷ all.ObjectSay
    ∷ all.ObjectClone
    ∷ all.StringNew
    ∷ all.StringNewChars
    ∷ all.StringNewRange
    ∷ all.StringLength
    ∷ all.StringIsEmpty
    ∷ all.StringCharAt
    ∷ all.StringEquals
    ∷ all.StringHashCode
    ∷ all.StringCompareTo
    ∷ all.StringConcat
    ∷ all.StringSubstringFrom
    ∷ all.StringSubstring
    ∷ all.StringIndexOfUnit
    ∷ all.StringIndexOfString
    ∷ all.StringStartsWith
    ∷ all.StringEndsWith
    ∷ all.StringReplace
    ∷ all.StringToCharArray
    ∷ all.StringValueOfInt
    ∷ all.StringValueOfLong
    ∷ all.StringValueOfChar
    ∷ all.StringValueOfBoolean
    ∷ all.StringValueOfChars
    ∷ all.StringBuilderNew
    ∷ all.StringBuilderNewCapacity
    ∷ all.StringBuilderNewString
    ∷ all.StringBuilderAppendString
    ∷ all.StringBuilderAppendInt
    ∷ all.StringBuilderAppendLong
    ∷ all.StringBuilderAppendChar
    ∷ all.StringBuilderAppendBoolean
    ∷ all.StringBuilderAppendChars
    ∷ all.StringBuilderLength
    ∷ all.StringBuilderCharAt
    ∷ all.StringBuilderSetCharAt
    ∷ all.StringBuilderDeleteCharAt
    ∷ all.StringBuilderSetLength
    ∷ all.StringBuilderToString
    ∷ all.ClassGetName
    ∷ all.ClassDesiredAssertionStatus
    ∷ all.SystemExit
    ∷ all.SystemArraycopy
    ∷ all.SystemIdentityHashCode
    ∷ all.SystemGc
    ∷ all.PrintBoolean
    ∷ all.PrintChar
    ∷ all.PrintInt
    ∷ all.PrintLong
    ∷ all.PrintString
    ∷ all.PrintlnBoolean
    ∷ all.PrintlnChar
    ∷ all.PrintlnInt
    ∷ all.PrintlnLong
    ∷ all.PrintlnString
    ∷ all.Println
    ∷ all.Flush
    ∷ all.ReadByte
    ∷ all.ReadRange
    ∷ all.IntegerNew
    ∷ all.IntegerValueOf
    ∷ all.IntegerParseInt
    ∷ all.IntegerTextOf
    ∷ all.IntegerCompare
    ∷ all.IntegerIntValue
    ∷ all.IntegerLongValue
    ∷ all.IntegerToString
    ∷ all.IntegerEquals
    ∷ all.IntegerHashCode
    ∷ all.IntegerCompareTo
    ∷ all.IntegerToHexString
    ∷ all.LongNew
    ∷ all.LongValueOf
    ∷ all.LongParseLong
    ∷ all.LongTextOf
    ∷ all.LongCompare
    ∷ all.LongIntValue
    ∷ all.LongLongValue
    ∷ all.LongToString
    ∷ all.LongEquals
    ∷ all.LongHashCode
    ∷ all.LongCompareTo
    ∷ all.CharacterNew
    ∷ all.CharacterValueOf
    ∷ all.CharacterCharValue
    ∷ all.CharacterTextOf
    ∷ all.CharacterToString
    ∷ all.CharacterEquals
    ∷ all.CharacterHashCode
    ∷ all.CharacterCompareTo
    ∷ all.BooleanNew
    ∷ all.BooleanValueOf
    ∷ all.BooleanBooleanValue
    ∷ all.BooleanTextOf
    ∷ all.BooleanToString
    ∷ all.BooleanEquals
    ∷ all.BooleanHashCode
    ∷ all.BooleanCompareTo
    ∷ all.MathAbsInt
    ∷ all.MathAbsLong
    ∷ all.MathMaxInt
    ∷ all.MathMaxLong
    ∷ all.MathMinInt
    ∷ all.MathMinLong
    ∷ all.MathFloorDivInt
    ∷ all.MathFloorDivLong
    ∷ all.MathFloorModInt
    ∷ all.MathFloorModLong
    ∷ all.EnumEquals
    ∷ all.EnumHashCode
    ∷ all.EnumCompareTo
    ∷ all.EnumValueOf
    ∷ all.ThrowableSay
    ∷ all.ThrowableAddSuppressed
    ∷ all.ThrowableGetSuppressed
    ∷ []

is_listed : natives ≡ listed
unfolding listed
is_listed = refl

-- numbers from one on
abbrev pub numbered : ℕ → List Native → List ℕ
numbered number [] = []
numbered number (native ∷ natives) = number ∷ numbered (suc number) natives

placed : map place natives ≡ numbered 0 natives
placed = refl

number_at : (number : ℕ) (items : List Native) (at : ℕ) (found : ℕ) → slice_get (numbered number items) at ≡ Some found → found ≡ number + at
number_at number [] at found is = absurd (grind (arith, is))
number_at number (native ∷ items) zero found is = let same = same_Some number found is in omega (arith, same)
number_at number (native ∷ items) (suc at) found is = let behind = number_at (suc number) items at found is in omega (arith, behind)

pub one_place : (native : Native) (other : ℕ) → slice_get natives other ≡ Some native → other ≡ place native
one_place native other is =
    let placed_there = slice_get-map place natives other ∙ ap (option_map place) is in
    let there = number_at 0 natives other (place native) (ap (λ numbers. slice_get numbers other) (sym placed) ∙ placed_there) in
    omega (arith, there)

there : (native : Native) → slice_get listed (place native) ≡ Some native
unfolding listed
there all.ObjectGetClass = refl
there all.ObjectHashCode = refl
there all.ObjectEquals = refl
there all.ObjectSay = refl
there all.ObjectClone = refl
there all.StringNew = refl
there all.StringNewChars = refl
there all.StringNewRange = refl
there all.StringLength = refl
there all.StringIsEmpty = refl
there all.StringCharAt = refl
there all.StringEquals = refl
there all.StringHashCode = refl
there all.StringCompareTo = refl
there all.StringConcat = refl
there all.StringSubstringFrom = refl
there all.StringSubstring = refl
there all.StringIndexOfUnit = refl
there all.StringIndexOfString = refl
there all.StringStartsWith = refl
there all.StringEndsWith = refl
there all.StringReplace = refl
there all.StringToCharArray = refl
there all.StringValueOfInt = refl
there all.StringValueOfLong = refl
there all.StringValueOfChar = refl
there all.StringValueOfBoolean = refl
there all.StringValueOfChars = refl
there all.StringBuilderNew = refl
there all.StringBuilderNewCapacity = refl
there all.StringBuilderNewString = refl
there all.StringBuilderAppendString = refl
there all.StringBuilderAppendInt = refl
there all.StringBuilderAppendLong = refl
there all.StringBuilderAppendChar = refl
there all.StringBuilderAppendBoolean = refl
there all.StringBuilderAppendChars = refl
there all.StringBuilderLength = refl
there all.StringBuilderCharAt = refl
there all.StringBuilderSetCharAt = refl
there all.StringBuilderDeleteCharAt = refl
there all.StringBuilderSetLength = refl
there all.StringBuilderToString = refl
there all.ClassGetName = refl
there all.ClassDesiredAssertionStatus = refl
there all.SystemExit = refl
there all.SystemArraycopy = refl
there all.SystemIdentityHashCode = refl
there all.SystemGc = refl
there all.PrintBoolean = refl
there all.PrintChar = refl
there all.PrintInt = refl
there all.PrintLong = refl
there all.PrintString = refl
there all.PrintlnBoolean = refl
there all.PrintlnChar = refl
there all.PrintlnInt = refl
there all.PrintlnLong = refl
there all.PrintlnString = refl
there all.Println = refl
there all.Flush = refl
there all.ReadByte = refl
there all.ReadRange = refl
there all.IntegerNew = refl
there all.IntegerValueOf = refl
there all.IntegerParseInt = refl
there all.IntegerTextOf = refl
there all.IntegerCompare = refl
there all.IntegerIntValue = refl
there all.IntegerLongValue = refl
there all.IntegerToString = refl
there all.IntegerEquals = refl
there all.IntegerHashCode = refl
there all.IntegerCompareTo = refl
there all.IntegerToHexString = refl
there all.LongNew = refl
there all.LongValueOf = refl
there all.LongParseLong = refl
there all.LongTextOf = refl
there all.LongCompare = refl
there all.LongIntValue = refl
there all.LongLongValue = refl
there all.LongToString = refl
there all.LongEquals = refl
there all.LongHashCode = refl
there all.LongCompareTo = refl
there all.CharacterNew = refl
there all.CharacterValueOf = refl
there all.CharacterCharValue = refl
there all.CharacterTextOf = refl
there all.CharacterToString = refl
there all.CharacterEquals = refl
there all.CharacterHashCode = refl
there all.CharacterCompareTo = refl
there all.BooleanNew = refl
there all.BooleanValueOf = refl
there all.BooleanBooleanValue = refl
there all.BooleanTextOf = refl
there all.BooleanToString = refl
there all.BooleanEquals = refl
there all.BooleanHashCode = refl
there all.BooleanCompareTo = refl
there all.MathAbsInt = refl
there all.MathAbsLong = refl
there all.MathMaxInt = refl
there all.MathMaxLong = refl
there all.MathMinInt = refl
there all.MathMinLong = refl
there all.MathFloorDivInt = refl
there all.MathFloorDivLong = refl
there all.MathFloorModInt = refl
there all.MathFloorModLong = refl
there all.EnumEquals = refl
there all.EnumHashCode = refl
there all.EnumCompareTo = refl
there all.EnumValueOf = refl
there all.ThrowableSay = refl
there all.ThrowableAddSuppressed = refl
there all.ThrowableGetSuppressed = refl

pub stands : (native : Native) → slice_get natives (place native) ≡ Some native
stands native = ap (λ natives. slice_get natives (place native)) is_listed ∙ there native
