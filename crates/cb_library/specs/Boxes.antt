-- The library's classes 14 to 18: Number, Integer, Long, Character and Boolean (Java SE 8 API, java.lang).
use Rattle.std.specs.Prelude.{◌+◌, [], ◌∷◌, Some, codes}
use Rattle.cb_library.specs.declared.native.Native.TheVariants as natives
use Rattle.cb_library.specs.Flags.{public, private, static}
use Rattle.cb_library.specs.Names.{object, comparable, serializable, number, integer, long, character, boolean}
use Rattle.cb_library.specs.Rows.{CoreClass, Kind, final_class, abstract_class, field, method, abstract, native, runs}
use Rattle.cb_library.specs.Instructions.{compares, aload_0, return_, invokespecial}

abbrev pub number_new : Kind
number_new = runs 1 1 (
    aload_0
    ∷ invokespecial object (codes "<init>") (codes "()V")
    ∷ return_
    ∷ [])

abbrev pub number_class : CoreClass
number_class = record {
  flags = abstract_class;
  name = number;
  superclass = Some object;
  interfaces = serializable ∷ [];
  fields = [];
  methods =
      method public (codes "<init>") (codes "()V") number_new
      ∷ abstract public (codes "intValue") (codes "()I")
      ∷ abstract public (codes "longValue") (codes "()J")
      ∷ [];
}

abbrev pub integer_class : CoreClass
integer_class = record {
  flags = final_class;
  name = integer;
  superclass = Some number;
  interfaces = comparable ∷ serializable ∷ [];
  fields = field private (codes "value") (codes "I") ∷ [];
  methods =
      native public (codes "<init>") (codes "(I)V") natives.IntegerNew
      ∷ native (public + static) (codes "valueOf") (codes "(I)Ljava/lang/Integer;") natives.IntegerValueOf
      ∷ native (public + static) (codes "parseInt") (codes "(Ljava/lang/String;)I") natives.IntegerParseInt
      ∷ native (public + static) (codes "toString") (codes "(I)Ljava/lang/String;") natives.IntegerTextOf
      ∷ native (public + static) (codes "compare") (codes "(II)I") natives.IntegerCompare
      ∷ native public (codes "intValue") (codes "()I") natives.IntegerIntValue
      ∷ native public (codes "longValue") (codes "()J") natives.IntegerLongValue
      ∷ native public (codes "toString") (codes "()Ljava/lang/String;") natives.IntegerToString
      ∷ native public (codes "equals") (codes "(Ljava/lang/Object;)Z") natives.IntegerEquals
      ∷ native public (codes "hashCode") (codes "()I") natives.IntegerHashCode
      ∷ native public (codes "compareTo") (codes "(Ljava/lang/Integer;)I") natives.IntegerCompareTo
      ∷ native (public + static) (codes "toHexString") (codes "(I)Ljava/lang/String;") natives.IntegerToHexString
      ∷ method public (codes "compareTo") (codes "(Ljava/lang/Object;)I") (compares integer (codes "(Ljava/lang/Integer;)I"))
      ∷ [];
}

abbrev pub long_class : CoreClass
long_class = record {
  flags = final_class;
  name = long;
  superclass = Some number;
  interfaces = comparable ∷ serializable ∷ [];
  fields = field private (codes "value") (codes "J") ∷ [];
  methods =
      native public (codes "<init>") (codes "(J)V") natives.LongNew
      ∷ native (public + static) (codes "valueOf") (codes "(J)Ljava/lang/Long;") natives.LongValueOf
      ∷ native (public + static) (codes "parseLong") (codes "(Ljava/lang/String;)J") natives.LongParseLong
      ∷ native (public + static) (codes "toString") (codes "(J)Ljava/lang/String;") natives.LongTextOf
      ∷ native (public + static) (codes "compare") (codes "(JJ)I") natives.LongCompare
      ∷ native public (codes "intValue") (codes "()I") natives.LongIntValue
      ∷ native public (codes "longValue") (codes "()J") natives.LongLongValue
      ∷ native public (codes "toString") (codes "()Ljava/lang/String;") natives.LongToString
      ∷ native public (codes "equals") (codes "(Ljava/lang/Object;)Z") natives.LongEquals
      ∷ native public (codes "hashCode") (codes "()I") natives.LongHashCode
      ∷ native public (codes "compareTo") (codes "(Ljava/lang/Long;)I") natives.LongCompareTo
      ∷ method public (codes "compareTo") (codes "(Ljava/lang/Object;)I") (compares long (codes "(Ljava/lang/Long;)I"))
      ∷ [];
}

abbrev pub character_class : CoreClass
character_class = record {
  flags = final_class;
  name = character;
  superclass = Some object;
  interfaces = comparable ∷ serializable ∷ [];
  fields = field private (codes "value") (codes "C") ∷ [];
  methods =
      native public (codes "<init>") (codes "(C)V") natives.CharacterNew
      ∷ native (public + static) (codes "valueOf") (codes "(C)Ljava/lang/Character;") natives.CharacterValueOf
      ∷ native public (codes "charValue") (codes "()C") natives.CharacterCharValue
      ∷ native (public + static) (codes "toString") (codes "(C)Ljava/lang/String;") natives.CharacterTextOf
      ∷ native public (codes "toString") (codes "()Ljava/lang/String;") natives.CharacterToString
      ∷ native public (codes "equals") (codes "(Ljava/lang/Object;)Z") natives.CharacterEquals
      ∷ native public (codes "hashCode") (codes "()I") natives.CharacterHashCode
      ∷ native public (codes "compareTo") (codes "(Ljava/lang/Character;)I") natives.CharacterCompareTo
      ∷ method public (codes "compareTo") (codes "(Ljava/lang/Object;)I") (compares character (codes "(Ljava/lang/Character;)I"))
      ∷ [];
}

abbrev pub boolean_class : CoreClass
boolean_class = record {
  flags = final_class;
  name = boolean;
  superclass = Some object;
  interfaces = comparable ∷ serializable ∷ [];
  fields = field private (codes "value") (codes "Z") ∷ [];
  methods =
      native public (codes "<init>") (codes "(Z)V") natives.BooleanNew
      ∷ native (public + static) (codes "valueOf") (codes "(Z)Ljava/lang/Boolean;") natives.BooleanValueOf
      ∷ native public (codes "booleanValue") (codes "()Z") natives.BooleanBooleanValue
      ∷ native (public + static) (codes "toString") (codes "(Z)Ljava/lang/String;") natives.BooleanTextOf
      ∷ native public (codes "toString") (codes "()Ljava/lang/String;") natives.BooleanToString
      ∷ native public (codes "equals") (codes "(Ljava/lang/Object;)Z") natives.BooleanEquals
      ∷ native public (codes "hashCode") (codes "()I") natives.BooleanHashCode
      ∷ native public (codes "compareTo") (codes "(Ljava/lang/Boolean;)I") natives.BooleanCompareTo
      ∷ method public (codes "compareTo") (codes "(Ljava/lang/Object;)I") (compares boolean (codes "(Ljava/lang/Boolean;)I"))
      ∷ [];
}
