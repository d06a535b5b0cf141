-- The library's classes 0 to 7, 10, 11 and 19 to 21: Object, the interfaces, Class, System, Math, Enum and Objects
-- (Java SE 8 API, java.lang, java.io and java.util). `say` is the library's own.
use Rattle.std.specs.Prelude.{◌+◌, [], ◌∷◌, Some, None, codes}
use Rattle.cb_library.specs.declared.native.Native.TheVariants as natives
use Rattle.cb_library.specs.Flags.{public, private, protected, static, final}
use Rattle.cb_library.specs.Names.{object, comparable, serializable, string, throwable, enum, unsupported_operation_exception}
use Rattle.cb_library.specs.Names as names
use Rattle.cb_library.specs.Rows.{CoreClass, Kind, public_class, final_class, abstract_class, public_interface, field, method, abstract, native, runs, branches, frame}
use Rattle.cb_library.specs.Instructions.{compares, aload_0, aload_1, iload_2, aconst_null, dup, areturn, ireturn, return_, athrow, ifnonnull, ldc, new, getfield, putfield, invokevirtual, invokespecial, invokestatic}

-- asks for the hash code, and says it in hexadecimal behind the name of the class
abbrev pub object_to_string : Kind
object_to_string = runs 2 1 (
    aload_0
    ∷ aload_0
    ∷ invokevirtual object (codes "hashCode") (codes "()I")
    ∷ invokestatic object (codes "say") (codes "(Ljava/lang/Object;I)Ljava/lang/String;")
    ∷ areturn
    ∷ [])

abbrev pub object_class : CoreClass
object_class = record {
  flags = public_class;
  name = names.object;
  superclass = None;
  interfaces = [];
  fields = [];
  methods =
      method public (codes "<init>") (codes "()V") (runs 0 1 (return_ ∷ []))
      ∷ native (public + final) (codes "getClass") (codes "()Ljava/lang/Class;") natives.ObjectGetClass
      ∷ native public (codes "hashCode") (codes "()I") natives.ObjectHashCode
      ∷ native public (codes "equals") (codes "(Ljava/lang/Object;)Z") natives.ObjectEquals
      ∷ method public (codes "toString") (codes "()Ljava/lang/String;") object_to_string
      ∷ native (private + static) (codes "say") (codes "(Ljava/lang/Object;I)Ljava/lang/String;") natives.ObjectSay
      ∷ native protected (codes "clone") (codes "()Ljava/lang/Object;") natives.ObjectClone
      ∷ [];
}

abbrev pub comparable_interface : CoreClass
comparable_interface = record {
  flags = public_interface;
  name = names.comparable;
  superclass = Some object;
  interfaces = [];
  fields = [];
  methods = abstract public (codes "compareTo") (codes "(Ljava/lang/Object;)I") ∷ [];
}

abbrev pub char_sequence_interface : CoreClass
char_sequence_interface = record {
  flags = public_interface;
  name = names.char_sequence;
  superclass = Some object;
  interfaces = [];
  fields = [];
  methods =
      abstract public (codes "length") (codes "()I")
      ∷ abstract public (codes "charAt") (codes "(I)C")
      ∷ abstract public (codes "toString") (codes "()Ljava/lang/String;")
      ∷ [];
}

abbrev pub cloneable_interface : CoreClass
cloneable_interface = record {
  flags = public_interface;
  name = names.cloneable;
  superclass = Some object;
  interfaces = [];
  fields = [];
  methods = [];
}

abbrev pub serializable_interface : CoreClass
serializable_interface = record {
  flags = public_interface;
  name = names.serializable;
  superclass = Some object;
  interfaces = [];
  fields = [];
  methods = [];
}

abbrev pub auto_closeable_interface : CoreClass
auto_closeable_interface = record {
  flags = public_interface;
  name = names.auto_closeable;
  superclass = Some object;
  interfaces = [];
  fields = [];
  methods = abstract public (codes "close") (codes "()V") ∷ [];
}

abbrev pub iterable_interface : CoreClass
iterable_interface = record {
  flags = public_interface;
  name = names.iterable;
  superclass = Some object;
  interfaces = [];
  fields = [];
  methods = abstract public (codes "iterator") (codes "()Ljava/util/Iterator;") ∷ [];
}

-- throws a new UnsupportedOperationException("remove")
abbrev pub iterator_remove : Kind
iterator_remove = runs 3 1 (
    new unsupported_operation_exception
    ∷ dup
    ∷ ldc (codes "remove")
    ∷ invokespecial unsupported_operation_exception (codes "<init>") (codes "(Ljava/lang/String;)V")
    ∷ athrow
    ∷ [])

abbrev pub iterator_interface : CoreClass
iterator_interface = record {
  flags = public_interface;
  name = names.iterator;
  superclass = Some object;
  interfaces = [];
  fields = [];
  methods =
      abstract public (codes "hasNext") (codes "()Z")
      ∷ abstract public (codes "next") (codes "()Ljava/lang/Object;")
      ∷ method public (codes "remove") (codes "()V") iterator_remove
      ∷ [];
}

-- `number` says which class the object stands for
abbrev pub class_class : CoreClass
class_class = record {
  flags = final_class;
  name = names.class;
  superclass = Some object;
  interfaces = [];
  fields = field private (codes "number") (codes "I") ∷ [];
  methods =
      native public (codes "getName") (codes "()Ljava/lang/String;") natives.ClassGetName
      ∷ native public (codes "desiredAssertionStatus") (codes "()Z") natives.ClassDesiredAssertionStatus
      ∷ [];
}

abbrev pub system_class : CoreClass
system_class = record {
  flags = final_class;
  name = names.system;
  superclass = Some object;
  interfaces = [];
  fields =
      field (public + static + final) (codes "out") (codes "Ljava/io/PrintStream;")
      ∷ field (public + static + final) (codes "in") (codes "Ljava/io/InputStream;")
      ∷ [];
  methods =
      native (public + static) (codes "exit") (codes "(I)V") natives.SystemExit
      ∷ native (public + static) (codes "arraycopy") (codes "(Ljava/lang/Object;ILjava/lang/Object;II)V") natives.SystemArraycopy
      ∷ native (public + static) (codes "identityHashCode") (codes "(Ljava/lang/Object;)I") natives.SystemIdentityHashCode
      ∷ native (public + static) (codes "gc") (codes "()V") natives.SystemGc
      ∷ [];
}

abbrev pub math_class : CoreClass
math_class = record {
  flags = final_class;
  name = names.math;
  superclass = Some object;
  interfaces = [];
  fields = [];
  methods =
      native (public + static) (codes "abs") (codes "(I)I") natives.MathAbsInt
      ∷ native (public + static) (codes "abs") (codes "(J)J") natives.MathAbsLong
      ∷ native (public + static) (codes "max") (codes "(II)I") natives.MathMaxInt
      ∷ native (public + static) (codes "max") (codes "(JJ)J") natives.MathMaxLong
      ∷ native (public + static) (codes "min") (codes "(II)I") natives.MathMinInt
      ∷ native (public + static) (codes "min") (codes "(JJ)J") natives.MathMinLong
      ∷ native (public + static) (codes "floorDiv") (codes "(II)I") natives.MathFloorDivInt
      ∷ native (public + static) (codes "floorDiv") (codes "(JJ)J") natives.MathFloorDivLong
      ∷ native (public + static) (codes "floorMod") (codes "(II)I") natives.MathFloorModInt
      ∷ native (public + static) (codes "floorMod") (codes "(JJ)J") natives.MathFloorModLong
      ∷ [];
}

abbrev pub enum_new : Kind
enum_new = runs 2 3 (
    aload_0
    ∷ invokespecial object (codes "<init>") (codes "()V")
    ∷ aload_0
    ∷ aload_1
    ∷ putfield enum (codes "name") (codes "Ljava/lang/String;")
    ∷ aload_0
    ∷ iload_2
    ∷ putfield enum (codes "ordinal") (codes "I")
    ∷ return_
    ∷ [])

abbrev pub enum_name : Kind
enum_name = runs 1 1 (
    aload_0
    ∷ getfield enum (codes "name") (codes "Ljava/lang/String;")
    ∷ areturn
    ∷ [])

abbrev pub enum_ordinal : Kind
enum_ordinal = runs 1 1 (
    aload_0
    ∷ getfield enum (codes "ordinal") (codes "I")
    ∷ ireturn
    ∷ [])

abbrev pub enum_class : CoreClass
enum_class = record {
  flags = abstract_class;
  name = names.enum;
  superclass = Some object;
  interfaces = comparable ∷ serializable ∷ [];
  fields =
      field private (codes "name") (codes "Ljava/lang/String;")
      ∷ field private (codes "ordinal") (codes "I")
      ∷ [];
  methods =
      method protected (codes "<init>") (codes "(Ljava/lang/String;I)V") enum_new
      ∷ method (public + final) (codes "name") (codes "()Ljava/lang/String;") enum_name
      ∷ method (public + final) (codes "ordinal") (codes "()I") enum_ordinal
      ∷ method public (codes "toString") (codes "()Ljava/lang/String;") enum_name
      ∷ native (public + final) (codes "equals") (codes "(Ljava/lang/Object;)Z") natives.EnumEquals
      ∷ native (public + final) (codes "hashCode") (codes "()I") natives.EnumHashCode
      ∷ native (public + final) (codes "compareTo") (codes "(Ljava/lang/Enum;)I") natives.EnumCompareTo
      ∷ method public (codes "compareTo") (codes "(Ljava/lang/Object;)I") (compares enum (codes "(Ljava/lang/Enum;)I"))
      ∷ native (public + static) (codes "valueOf") (codes "(Ljava/lang/Class;Ljava/lang/String;)Ljava/lang/Enum;") natives.EnumValueOf
      ∷ [];
}

-- gives its argument, and throws NullPointerException for null
abbrev pub require_non_null : Kind
require_non_null = branches 1 1 (
    aload_0
    ∷ ifnonnull 4
    ∷ aconst_null
    ∷ athrow
    ∷ aload_0
    ∷ areturn
    ∷ [])
    (frame 4 (object ∷ []))

abbrev pub objects_class : CoreClass
objects_class = record {
  flags = final_class;
  name = names.objects;
  superclass = Some object;
  interfaces = [];
  fields = [];
  methods =
      method (public + static) (codes "requireNonNull") (codes "(Ljava/lang/Object;)Ljava/lang/Object;") require_non_null
      ∷ [];
}
