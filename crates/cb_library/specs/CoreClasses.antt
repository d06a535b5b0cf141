-- The library's classes, in the order of their numbers: the class at a place, counted from 0, has that number.
use Rattle.std.specs.Prelude.{List, ◌∷◌}
use Rattle.cb_library.specs.Rows.{CoreClass}
use Rattle.cb_library.specs.Lang.{object_class, comparable_interface, char_sequence_interface, cloneable_interface, serializable_interface, auto_closeable_interface, iterable_interface, iterator_interface, class_class, system_class, math_class, enum_class, objects_class}
use Rattle.cb_library.specs.Text.{string_class, string_builder_class, print_stream_class, input_stream_class}
use Rattle.cb_library.specs.Boxes.{number_class, integer_class, long_class, character_class, boolean_class}
use Rattle.cb_library.specs.Throwables.{throwables}

abbrev pub core_classes : List CoreClass
core_classes =
    object_class
    ∷ comparable_interface
    ∷ char_sequence_interface
    ∷ cloneable_interface
    ∷ serializable_interface
    ∷ auto_closeable_interface
    ∷ iterable_interface
    ∷ iterator_interface
    ∷ string_class
    ∷ string_builder_class
    ∷ class_class
    ∷ system_class
    ∷ print_stream_class
    ∷ input_stream_class
    ∷ number_class
    ∷ integer_class
    ∷ long_class
    ∷ character_class
    ∷ boolean_class
    ∷ math_class
    ∷ enum_class
    ∷ objects_class
    ∷ throwables
