-- The sites of what the machine and its natives place themselves.
use Rattle.std.specs.Prelude.{ℕ}

-- what there is at the start: the array of arguments, the arguments and their characters, and the two streams of System
abbrev pub arguments : ℕ
arguments = 0

abbrev pub argument_strings : ℕ
argument_strings = 1

abbrev pub argument_characters : ℕ
argument_characters = 2

abbrev pub system_out : ℕ
system_out = 3

abbrev pub system_in : ℕ
system_in = 4

-- strings of the program, with their characters, and class objects
abbrev pub constant_strings : ℕ
constant_strings = 5

abbrev pub constant_characters : ℕ
constant_characters = 6

abbrev pub class_objects : ℕ
class_objects = 7

-- strings that natives make, with their characters, and the characters of builders
abbrev pub made_strings : ℕ
made_strings = 8

abbrev pub made_characters : ℕ
made_characters = 9

abbrev pub builder_characters : ℕ
builder_characters = 10

-- boxes that `valueOf` gives
abbrev pub integers : ℕ
integers = 11

abbrev pub longs : ℕ
longs = 12

abbrev pub characters : ℕ
characters = 13

abbrev pub booleans : ℕ
booleans = 14

-- arrays of suppressed exceptions
abbrev pub suppressed : ℕ
suppressed = 15

-- exceptions of the machine and its natives
abbrev pub null_pointer : ℕ
null_pointer = 16

abbrev pub arithmetic : ℕ
arithmetic = 17

abbrev pub array_index : ℕ
array_index = 18

abbrev pub negative_size : ℕ
negative_size = 19

abbrev pub array_store : ℕ
array_store = 20

abbrev pub class_cast : ℕ
class_cast = 21

abbrev pub stack_overflow : ℕ
stack_overflow = 22

abbrev pub exception_in_initializer : ℕ
exception_in_initializer = 23

abbrev pub no_class_definition : ℕ
no_class_definition = 24

abbrev pub incompatible_class_change : ℕ
incompatible_class_change = 25

abbrev pub abstract_method : ℕ
abstract_method = 26

abbrev pub string_index : ℕ
string_index = 27

abbrev pub number_format : ℕ
number_format = 28

abbrev pub illegal_argument : ℕ
illegal_argument = 29

abbrev pub clone_not_supported : ℕ
clone_not_supported = 30

abbrev pub index_out_of_bounds : ℕ
index_out_of_bounds = 31
