-- The library's classes 8, 9, 12 and 13: String, StringBuilder, PrintStream and InputStream (Java SE 8 API, java.lang and
-- java.io).
use Rattle.std.specs.Prelude.{ℕ, ◌+◌, List, [], ◌∷◌, Some, codes}
use Rattle.cb_library.specs.declared.native.Native.TheVariants as natives
use Rattle.cb_library.specs.Flags.{public, private, static}
use Rattle.cb_library.specs.Names.{object, comparable, char_sequence, serializable, auto_closeable, string, string_builder, print_stream, input_stream}
use Rattle.cb_library.specs.Rows.{CoreClass, Kind, public_class, final_class, abstract_class, field, method, native, runs, branches, frame}
use Rattle.cb_library.specs.Instructions.{compares, aload_0, aload_1, iconst_0, arraylength, areturn, ireturn, return_, ifnonnull, ldc, invokevirtual, invokestatic}

-- gives "null" for null, and else what `toString` gives
abbrev pub string_value_of : Kind
string_value_of = branches 1 1 (
    aload_0
    ∷ ifnonnull 4
    ∷ ldc (codes "null")
    ∷ areturn
    ∷ aload_0
    ∷ invokevirtual object (codes "toString") (codes "()Ljava/lang/String;")
    ∷ areturn
    ∷ [])
    (frame 4 (object ∷ []))

abbrev pub string_class : CoreClass
string_class = record {
  flags = final_class;
  name = string;
  superclass = Some object;
  interfaces = comparable ∷ char_sequence ∷ serializable ∷ [];
  fields = field private (codes "value") (codes "[C") ∷ [];
  methods =
      native public (codes "<init>") (codes "()V") natives.StringNew
      ∷ native public (codes "<init>") (codes "([C)V") natives.StringNewChars
      ∷ native public (codes "<init>") (codes "([CII)V") natives.StringNewRange
      ∷ native public (codes "length") (codes "()I") natives.StringLength
      ∷ native public (codes "isEmpty") (codes "()Z") natives.StringIsEmpty
      ∷ native public (codes "charAt") (codes "(I)C") natives.StringCharAt
      ∷ native public (codes "equals") (codes "(Ljava/lang/Object;)Z") natives.StringEquals
      ∷ native public (codes "hashCode") (codes "()I") natives.StringHashCode
      ∷ native public (codes "compareTo") (codes "(Ljava/lang/String;)I") natives.StringCompareTo
      ∷ native public (codes "concat") (codes "(Ljava/lang/String;)Ljava/lang/String;") natives.StringConcat
      ∷ native public (codes "substring") (codes "(I)Ljava/lang/String;") natives.StringSubstringFrom
      ∷ native public (codes "substring") (codes "(II)Ljava/lang/String;") natives.StringSubstring
      ∷ native public (codes "indexOf") (codes "(I)I") natives.StringIndexOfUnit
      ∷ native public (codes "indexOf") (codes "(Ljava/lang/String;)I") natives.StringIndexOfString
      ∷ native public (codes "startsWith") (codes "(Ljava/lang/String;)Z") natives.StringStartsWith
      ∷ native public (codes "endsWith") (codes "(Ljava/lang/String;)Z") natives.StringEndsWith
      ∷ native public (codes "replace") (codes "(CC)Ljava/lang/String;") natives.StringReplace
      ∷ native public (codes "toCharArray") (codes "()[C") natives.StringToCharArray
      ∷ native (public + static) (codes "valueOf") (codes "(I)Ljava/lang/String;") natives.StringValueOfInt
      ∷ native (public + static) (codes "valueOf") (codes "(J)Ljava/lang/String;") natives.StringValueOfLong
      ∷ native (public + static) (codes "valueOf") (codes "(C)Ljava/lang/String;") natives.StringValueOfChar
      ∷ native (public + static) (codes "valueOf") (codes "(Z)Ljava/lang/String;") natives.StringValueOfBoolean
      ∷ native (public + static) (codes "valueOf") (codes "([C)Ljava/lang/String;") natives.StringValueOfChars
      ∷ method public (codes "toString") (codes "()Ljava/lang/String;") (runs 1 1 (aload_0 ∷ areturn ∷ []))
      ∷ method (public + static) (codes "valueOf") (codes "(Ljava/lang/Object;)Ljava/lang/String;") string_value_of
      ∷ method public (codes "compareTo") (codes "(Ljava/lang/Object;)I") (compares string (codes "(Ljava/lang/String;)I"))
      ∷ [];
}

-- `append` of an object appends what `String.valueOf` gives
abbrev pub appends : Kind
appends = runs 2 2 (
    aload_0
    ∷ aload_1
    ∷ invokestatic string (codes "valueOf") (codes "(Ljava/lang/Object;)Ljava/lang/String;")
    ∷ invokevirtual string_builder (codes "append") (codes "(Ljava/lang/String;)Ljava/lang/StringBuilder;")
    ∷ areturn
    ∷ [])

abbrev pub string_builder_class : CoreClass
string_builder_class = record {
  flags = final_class;
  name = string_builder;
  superclass = Some object;
  interfaces = char_sequence ∷ serializable ∷ [];
  fields =
      field private (codes "value") (codes "[C")
      ∷ field private (codes "count") (codes "I")
      ∷ [];
  methods =
      native public (codes "<init>") (codes "()V") natives.StringBuilderNew
      ∷ native public (codes "<init>") (codes "(I)V") natives.StringBuilderNewCapacity
      ∷ native public (codes "<init>") (codes "(Ljava/lang/String;)V") natives.StringBuilderNewString
      ∷ native public (codes "append") (codes "(Ljava/lang/String;)Ljava/lang/StringBuilder;") natives.StringBuilderAppendString
      ∷ native public (codes "append") (codes "(I)Ljava/lang/StringBuilder;") natives.StringBuilderAppendInt
      ∷ native public (codes "append") (codes "(J)Ljava/lang/StringBuilder;") natives.StringBuilderAppendLong
      ∷ native public (codes "append") (codes "(C)Ljava/lang/StringBuilder;") natives.StringBuilderAppendChar
      ∷ native public (codes "append") (codes "(Z)Ljava/lang/StringBuilder;") natives.StringBuilderAppendBoolean
      ∷ native public (codes "append") (codes "([C)Ljava/lang/StringBuilder;") natives.StringBuilderAppendChars
      ∷ native public (codes "length") (codes "()I") natives.StringBuilderLength
      ∷ native public (codes "charAt") (codes "(I)C") natives.StringBuilderCharAt
      ∷ native public (codes "setCharAt") (codes "(IC)V") natives.StringBuilderSetCharAt
      ∷ native public (codes "deleteCharAt") (codes "(I)Ljava/lang/StringBuilder;") natives.StringBuilderDeleteCharAt
      ∷ native public (codes "setLength") (codes "(I)V") natives.StringBuilderSetLength
      ∷ native public (codes "toString") (codes "()Ljava/lang/String;") natives.StringBuilderToString
      ∷ method public (codes "append") (codes "(Ljava/lang/Object;)Ljava/lang/StringBuilder;") appends
      ∷ method public (codes "append") (codes "(Ljava/lang/CharSequence;)Ljava/lang/StringBuilder;") appends
      ∷ [];
}

-- `print` and `println` of an object print what `String.valueOf` gives
abbrev pub prints : (name : List ℕ) → Kind
prints name = runs 2 2 (
    aload_0
    ∷ aload_1
    ∷ invokestatic string (codes "valueOf") (codes "(Ljava/lang/Object;)Ljava/lang/String;")
    ∷ invokevirtual print_stream name (codes "(Ljava/lang/String;)V")
    ∷ return_
    ∷ [])

abbrev pub print_stream_class : CoreClass
print_stream_class = record {
  flags = public_class;
  name = print_stream;
  superclass = Some object;
  interfaces = auto_closeable ∷ [];
  fields = [];
  methods =
      native public (codes "print") (codes "(Z)V") natives.PrintBoolean
      ∷ native public (codes "print") (codes "(C)V") natives.PrintChar
      ∷ native public (codes "print") (codes "(I)V") natives.PrintInt
      ∷ native public (codes "print") (codes "(J)V") natives.PrintLong
      ∷ native public (codes "print") (codes "(Ljava/lang/String;)V") natives.PrintString
      ∷ native public (codes "println") (codes "(Z)V") natives.PrintlnBoolean
      ∷ native public (codes "println") (codes "(C)V") natives.PrintlnChar
      ∷ native public (codes "println") (codes "(I)V") natives.PrintlnInt
      ∷ native public (codes "println") (codes "(J)V") natives.PrintlnLong
      ∷ native public (codes "println") (codes "(Ljava/lang/String;)V") natives.PrintlnString
      ∷ native public (codes "println") (codes "()V") natives.Println
      ∷ native public (codes "flush") (codes "()V") natives.Flush
      ∷ method public (codes "print") (codes "(Ljava/lang/Object;)V") (prints (codes "print"))
      ∷ method public (codes "println") (codes "(Ljava/lang/Object;)V") (prints (codes "println"))
      ∷ [];
}

-- reads into the whole array
abbrev pub read_array : Kind
read_array = runs 4 2 (
    aload_0
    ∷ aload_1
    ∷ iconst_0
    ∷ aload_1
    ∷ arraylength
    ∷ invokevirtual input_stream (codes "read") (codes "([BII)I")
    ∷ ireturn
    ∷ [])

abbrev pub input_stream_class : CoreClass
input_stream_class = record {
  flags = abstract_class;
  name = input_stream;
  superclass = Some object;
  interfaces = auto_closeable ∷ [];
  fields = [];
  methods =
      native public (codes "read") (codes "()I") natives.ReadByte
      ∷ native public (codes "read") (codes "([BII)I") natives.ReadRange
      ∷ method public (codes "read") (codes "([B)I") read_array
      ∷ [];
}
