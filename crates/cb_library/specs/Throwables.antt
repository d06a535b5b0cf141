-- The library's classes 22 to 49: Throwable and what is below it (Java SE 8 API, java.lang, java.io and java.util). Each
-- has the same four constructors, also where Java SE 8 has fewer. `say` and the fields are the library's own.
use Rattle.std.specs.Prelude.{ℕ, ◌+◌, List, [], ◌∷◌, Some, codes}
use Rattle.cb_library.specs.declared.native.Native.TheVariants as natives
use Rattle.cb_library.specs.Flags.{public, private, static, final}
use Rattle.cb_library.specs.Names as names
use Rattle.cb_library.specs.Names.{object, serializable, string, throwable, error, linkage_error}
use Rattle.cb_library.specs.Rows.{CoreClass, Kind, Method, public_class, field, method, native, runs, branches, frame}
use Rattle.cb_library.specs.Instructions.{aload_0, aload_1, aload_2, aconst_null, areturn, return_, ifeq, ifnull, checkcast, instanceof, getfield, putfield, invokevirtual, invokespecial, invokestatic}

abbrev pub throwable_new : Kind
throwable_new = runs 1 1 (
    aload_0
    ∷ invokespecial object (codes "<init>") (codes "()V")
    ∷ return_
    ∷ [])

abbrev pub throwable_of_message : Kind
throwable_of_message = runs 2 2 (
    aload_0
    ∷ invokespecial object (codes "<init>") (codes "()V")
    ∷ aload_0
    ∷ aload_1
    ∷ putfield throwable (codes "message") (codes "Ljava/lang/String;")
    ∷ return_
    ∷ [])

abbrev pub throwable_of_both : Kind
throwable_of_both = runs 2 3 (
    aload_0
    ∷ invokespecial object (codes "<init>") (codes "()V")
    ∷ aload_0
    ∷ aload_1
    ∷ putfield throwable (codes "message") (codes "Ljava/lang/String;")
    ∷ aload_0
    ∷ aload_2
    ∷ putfield throwable (codes "cause") (codes "Ljava/lang/Throwable;")
    ∷ return_
    ∷ [])

-- the message is null for null, and else what the cause's `toString` gives
abbrev pub throwable_of_cause : Kind
throwable_of_cause = branches 2 2 (
    aload_0
    ∷ invokespecial object (codes "<init>") (codes "()V")
    ∷ aload_0
    ∷ aload_1
    ∷ putfield throwable (codes "cause") (codes "Ljava/lang/Throwable;")
    ∷ aload_1
    ∷ ifnull 11
    ∷ aload_0
    ∷ aload_1
    ∷ invokevirtual throwable (codes "toString") (codes "()Ljava/lang/String;")
    ∷ putfield throwable (codes "message") (codes "Ljava/lang/String;")
    ∷ return_
    ∷ [])
    (frame 11 (throwable ∷ throwable ∷ []))

abbrev pub throwable_message : Kind
throwable_message = runs 1 1 (
    aload_0
    ∷ getfield throwable (codes "message") (codes "Ljava/lang/String;")
    ∷ areturn
    ∷ [])

abbrev pub throwable_cause : Kind
throwable_cause = runs 1 1 (
    aload_0
    ∷ getfield throwable (codes "cause") (codes "Ljava/lang/Throwable;")
    ∷ areturn
    ∷ [])

-- says what `getMessage` gives behind the name of the class
abbrev pub throwable_to_string : Kind
throwable_to_string = runs 2 1 (
    aload_0
    ∷ aload_0
    ∷ invokevirtual throwable (codes "getMessage") (codes "()Ljava/lang/String;")
    ∷ invokestatic throwable (codes "say") (codes "(Ljava/lang/Throwable;Ljava/lang/String;)Ljava/lang/String;")
    ∷ areturn
    ∷ [])

abbrev pub throwable_class : CoreClass
throwable_class = record {
  flags = public_class;
  name = throwable;
  superclass = Some object;
  interfaces = serializable ∷ [];
  fields =
      field private (codes "message") (codes "Ljava/lang/String;")
      ∷ field private (codes "cause") (codes "Ljava/lang/Throwable;")
      ∷ field private (codes "suppressed") (codes "[Ljava/lang/Throwable;")
      ∷ [];
  methods =
      method public (codes "<init>") (codes "()V") throwable_new
      ∷ method public (codes "<init>") (codes "(Ljava/lang/String;)V") throwable_of_message
      ∷ method public (codes "<init>") (codes "(Ljava/lang/String;Ljava/lang/Throwable;)V") throwable_of_both
      ∷ method public (codes "<init>") (codes "(Ljava/lang/Throwable;)V") throwable_of_cause
      ∷ method public (codes "getMessage") (codes "()Ljava/lang/String;") throwable_message
      ∷ method public (codes "getCause") (codes "()Ljava/lang/Throwable;") throwable_cause
      ∷ method public (codes "toString") (codes "()Ljava/lang/String;") throwable_to_string
      ∷ native (private + static) (codes "say") (codes "(Ljava/lang/Throwable;Ljava/lang/String;)Ljava/lang/String;") natives.ThrowableSay
      ∷ native (public + final) (codes "addSuppressed") (codes "(Ljava/lang/Throwable;)V") natives.ThrowableAddSuppressed
      ∷ native (public + final) (codes "getSuppressed") (codes "()[Ljava/lang/Throwable;") natives.ThrowableGetSuppressed
      ∷ [];
}

-- the bodies of the constructors below Throwable: each hands what it is given to the superclass's own of the same kind
abbrev pub of_nothing : (superclass : List ℕ) → Kind
of_nothing superclass = runs 1 1 (
    aload_0
    ∷ invokespecial superclass (codes "<init>") (codes "()V")
    ∷ return_
    ∷ [])

abbrev pub of_message : (superclass : List ℕ) → Kind
of_message superclass = runs 2 2 (
    aload_0
    ∷ aload_1
    ∷ invokespecial superclass (codes "<init>") (codes "(Ljava/lang/String;)V")
    ∷ return_
    ∷ [])

abbrev pub of_both : (superclass : List ℕ) → Kind
of_both superclass = runs 3 3 (
    aload_0
    ∷ aload_1
    ∷ aload_2
    ∷ invokespecial superclass (codes "<init>") (codes "(Ljava/lang/String;Ljava/lang/Throwable;)V")
    ∷ return_
    ∷ [])

abbrev pub of_cause : (superclass : List ℕ) → Kind
of_cause superclass = runs 2 2 (
    aload_0
    ∷ aload_1
    ∷ invokespecial superclass (codes "<init>") (codes "(Ljava/lang/Throwable;)V")
    ∷ return_
    ∷ [])

-- an error of an initialiser has no message where it has a cause alone
abbrev pub of_cause_without_message : (superclass : List ℕ) → Kind
of_cause_without_message superclass = runs 3 2 (
    aload_0
    ∷ aconst_null
    ∷ aload_1
    ∷ invokespecial superclass (codes "<init>") (codes "(Ljava/lang/String;Ljava/lang/Throwable;)V")
    ∷ return_
    ∷ [])

-- The message of an assertion's error is what `String.valueOf` gives of an object, and the object is the cause where it
-- is a Throwable.
abbrev pub of_object : Kind
of_object = branches 2 2 (
    aload_0
    ∷ aload_1
    ∷ invokestatic string (codes "valueOf") (codes "(Ljava/lang/Object;)Ljava/lang/String;")
    ∷ invokespecial error (codes "<init>") (codes "(Ljava/lang/String;)V")
    ∷ aload_1
    ∷ instanceof throwable
    ∷ ifeq 11
    ∷ aload_0
    ∷ aload_1
    ∷ checkcast throwable
    ∷ putfield throwable (codes "cause") (codes "Ljava/lang/Throwable;")
    ∷ return_
    ∷ [])
    (frame 11 (names.assertion_error ∷ object ∷ []))

-- a class of the four constructors, by the body of the one of a cause, and what it has beside them
abbrev pub with_constructors : (of_a_cause : Kind) → (more : List Method) → (superclass name : List ℕ) → CoreClass
with_constructors of_a_cause more superclass name = record {
  flags = public_class;
  name = name;
  superclass = Some superclass;
  interfaces = [];
  fields = [];
  methods =
      method public (codes "<init>") (codes "()V") (of_nothing superclass)
      ∷ method public (codes "<init>") (codes "(Ljava/lang/String;)V") (of_message superclass)
      ∷ method public (codes "<init>") (codes "(Ljava/lang/String;Ljava/lang/Throwable;)V") (of_both superclass)
      ∷ method public (codes "<init>") (codes "(Ljava/lang/Throwable;)V") of_a_cause
      ∷ more;
}

abbrev pub below : (superclass name : List ℕ) → CoreClass
below superclass name = with_constructors (of_cause superclass) [] superclass name

abbrev pub exception_in_initializer_error_class : CoreClass
exception_in_initializer_error_class =
    with_constructors (of_cause_without_message linkage_error) [] linkage_error names.exception_in_initializer_error

abbrev pub assertion_error_class : CoreClass
assertion_error_class =
    with_constructors (of_cause error) (
    method public (codes "<init>") (codes "(Ljava/lang/Object;)V") of_object
    ∷ [])
    error names.assertion_error

-- the classes from 22 on
abbrev pub throwables : List CoreClass
throwables =
    throwable_class
    ∷ below throwable names.exception
    ∷ below names.exception names.runtime_exception
    ∷ below throwable error
    ∷ below names.runtime_exception names.arithmetic_exception
    ∷ below names.runtime_exception names.array_store_exception
    ∷ below names.runtime_exception names.class_cast_exception
    ∷ below names.runtime_exception names.illegal_argument_exception
    ∷ below names.illegal_argument_exception names.number_format_exception
    ∷ below names.runtime_exception names.illegal_state_exception
    ∷ below names.runtime_exception names.index_out_of_bounds_exception
    ∷ below names.index_out_of_bounds_exception names.array_index_out_of_bounds_exception
    ∷ below names.index_out_of_bounds_exception names.string_index_out_of_bounds_exception
    ∷ below names.runtime_exception names.negative_array_size_exception
    ∷ below names.runtime_exception names.null_pointer_exception
    ∷ below names.runtime_exception names.unsupported_operation_exception
    ∷ below names.exception names.clone_not_supported_exception
    ∷ below names.exception names.io_exception
    ∷ below names.runtime_exception names.no_such_element_exception
    ∷ below error linkage_error
    ∷ exception_in_initializer_error_class
    ∷ below linkage_error names.no_class_def_found_error
    ∷ below linkage_error names.incompatible_class_change_error
    ∷ below names.incompatible_class_change_error names.abstract_method_error
    ∷ below names.incompatible_class_change_error names.no_such_field_error
    ∷ below error names.virtual_machine_error
    ∷ below names.virtual_machine_error names.stack_overflow_error
    ∷ assertion_error_class
    ∷ []
