-- The names of the library's classes, in the order of their numbers from 0 to 49.
use Rattle.std.specs.Prelude.{ℕ, List, codes}

abbrev pub object : List ℕ
object = codes "java/lang/Object"

abbrev pub comparable : List ℕ
comparable = codes "java/lang/Comparable"

abbrev pub char_sequence : List ℕ
char_sequence = codes "java/lang/CharSequence"

abbrev pub cloneable : List ℕ
cloneable = codes "java/lang/Cloneable"

abbrev pub serializable : List ℕ
serializable = codes "java/io/Serializable"

abbrev pub auto_closeable : List ℕ
auto_closeable = codes "java/lang/AutoCloseable"

abbrev pub iterable : List ℕ
iterable = codes "java/lang/Iterable"

abbrev pub iterator : List ℕ
iterator = codes "java/util/Iterator"

abbrev pub string : List ℕ
string = codes "java/lang/String"

abbrev pub string_builder : List ℕ
string_builder = codes "java/lang/StringBuilder"

abbrev pub class : List ℕ
class = codes "java/lang/Class"

abbrev pub system : List ℕ
system = codes "java/lang/System"

abbrev pub print_stream : List ℕ
print_stream = codes "java/io/PrintStream"

abbrev pub input_stream : List ℕ
input_stream = codes "java/io/InputStream"

abbrev pub number : List ℕ
number = codes "java/lang/Number"

abbrev pub integer : List ℕ
integer = codes "java/lang/Integer"

abbrev pub long : List ℕ
long = codes "java/lang/Long"

abbrev pub character : List ℕ
character = codes "java/lang/Character"

abbrev pub boolean : List ℕ
boolean = codes "java/lang/Boolean"

abbrev pub math : List ℕ
math = codes "java/lang/Math"

abbrev pub enum : List ℕ
enum = codes "java/lang/Enum"

abbrev pub objects : List ℕ
objects = codes "java/util/Objects"

abbrev pub throwable : List ℕ
throwable = codes "java/lang/Throwable"

abbrev pub exception : List ℕ
exception = codes "java/lang/Exception"

abbrev pub runtime_exception : List ℕ
runtime_exception = codes "java/lang/RuntimeException"

abbrev pub error : List ℕ
error = codes "java/lang/Error"

abbrev pub arithmetic_exception : List ℕ
arithmetic_exception = codes "java/lang/ArithmeticException"

abbrev pub array_store_exception : List ℕ
array_store_exception = codes "java/lang/ArrayStoreException"

abbrev pub class_cast_exception : List ℕ
class_cast_exception = codes "java/lang/ClassCastException"

abbrev pub illegal_argument_exception : List ℕ
illegal_argument_exception = codes "java/lang/IllegalArgumentException"

abbrev pub number_format_exception : List ℕ
number_format_exception = codes "java/lang/NumberFormatException"

abbrev pub illegal_state_exception : List ℕ
illegal_state_exception = codes "java/lang/IllegalStateException"

abbrev pub index_out_of_bounds_exception : List ℕ
index_out_of_bounds_exception = codes "java/lang/IndexOutOfBoundsException"

abbrev pub array_index_out_of_bounds_exception : List ℕ
array_index_out_of_bounds_exception = codes "java/lang/ArrayIndexOutOfBoundsException"

abbrev pub string_index_out_of_bounds_exception : List ℕ
string_index_out_of_bounds_exception = codes "java/lang/StringIndexOutOfBoundsException"

abbrev pub negative_array_size_exception : List ℕ
negative_array_size_exception = codes "java/lang/NegativeArraySizeException"

abbrev pub null_pointer_exception : List ℕ
null_pointer_exception = codes "java/lang/NullPointerException"

abbrev pub unsupported_operation_exception : List ℕ
unsupported_operation_exception = codes "java/lang/UnsupportedOperationException"

abbrev pub clone_not_supported_exception : List ℕ
clone_not_supported_exception = codes "java/lang/CloneNotSupportedException"

abbrev pub io_exception : List ℕ
io_exception = codes "java/io/IOException"

abbrev pub no_such_element_exception : List ℕ
no_such_element_exception = codes "java/util/NoSuchElementException"

abbrev pub linkage_error : List ℕ
linkage_error = codes "java/lang/LinkageError"

abbrev pub exception_in_initializer_error : List ℕ
exception_in_initializer_error = codes "java/lang/ExceptionInInitializerError"

abbrev pub no_class_def_found_error : List ℕ
no_class_def_found_error = codes "java/lang/NoClassDefFoundError"

abbrev pub incompatible_class_change_error : List ℕ
incompatible_class_change_error = codes "java/lang/IncompatibleClassChangeError"

abbrev pub abstract_method_error : List ℕ
abstract_method_error = codes "java/lang/AbstractMethodError"

abbrev pub no_such_field_error : List ℕ
no_such_field_error = codes "java/lang/NoSuchFieldError"

abbrev pub virtual_machine_error : List ℕ
virtual_machine_error = codes "java/lang/VirtualMachineError"

abbrev pub stack_overflow_error : List ℕ
stack_overflow_error = codes "java/lang/StackOverflowError"

abbrev pub assertion_error : List ℕ
assertion_error = codes "java/lang/AssertionError"
