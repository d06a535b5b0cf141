-- The sites of the exceptions that natives throw.
use Rattle.std.specs.Prelude.{ℕ}
use Rattle.cb_machine.specs.Sites.{array_index, array_store, clone_not_supported, illegal_argument, index_out_of_bounds, negative_size, no_class_definition, null_pointer, number_format, string_index}
use Rattle.cb_natives.specs.declared.answers.Exception.{Exception}
use Rattle.cb_natives.specs.declared.answers.Exception.TheVariants as exceptions

abbrev pub site_of : Exception → ℕ
site_of exceptions.NullPointer = null_pointer
site_of exceptions.NegativeArraySize = negative_size
site_of exceptions.StringIndexOutOfBounds = string_index
site_of exceptions.NumberFormat = number_format
site_of exceptions.IllegalArgument = illegal_argument
site_of exceptions.NoClassDefinition = no_class_definition
site_of exceptions.CloneNotSupported = clone_not_supported
site_of exceptions.ArrayIndexOutOfBounds = array_index
site_of exceptions.ArrayStore = array_store
site_of exceptions.IndexOutOfBounds = index_out_of_bounds
