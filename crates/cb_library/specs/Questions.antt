-- What the laws ask of the table.
use Rattle.std.specs.Prelude.{ℕ, ◌+◌, Bool, true, List, [], ◌∷◌, map, length, Option, Some, None, codes, bit_and, nat_eq, nat_lt, ◌&&◌, not, if◌then◌else◌}
use Rattle.std.specs.List.{list_all, list_any, flat_map}
use Rattle.std.specs.Str.{bytes_eq}
use Rattle.cb_library.specs.declared.native.Native.{Native}
use Rattle.cb_library.specs.Flags.{final, acc_native, acc_interface, acc_abstract}
use Rattle.cb_library.specs.Names.{object}
use Rattle.cb_library.specs.Rows.{CoreClass, Method, Field, Kind, Abstract, Performed, Runs, Body, Instruction, Branch, OfClass, OfField, OfMethod}
use Rattle.cb_library.specs.CoreClasses.{core_classes}

-- the names of the classes, by number
abbrev pub class_names : List (List ℕ)
class_names = map (λ class. class.name) core_classes

-- the names of the classes that a class names itself as its superclass and interfaces
abbrev pub parents_of : CoreClass → List (List ℕ)
parents_of class = above class.superclass where
  above : Option (List ℕ) → List (List ℕ)
  above None = class.interfaces
  above (Some superclass) = superclass ∷ class.interfaces

-- whether flags have one
abbrev pub has : ℕ → ℕ → Bool
has flag flags = nat_eq (bit_and flags flag) flag

-- the numbers of those classes that pass a test, where the first of these classes has a number
abbrev pub numbers_from : ℕ → (CoreClass → Bool) → List CoreClass → List ℕ
numbers_from number test [] = []
numbers_from number test (class ∷ classes) =
    if test class then number ∷ numbers_from (number + 1) test classes
    else numbers_from (number + 1) test classes

abbrev pub numbers_of : (CoreClass → Bool) → List ℕ
numbers_of test = numbers_from 0 test core_classes

abbrev pub is_final : CoreClass → Bool
is_final class = has final class.flags

abbrev pub is_interface : CoreClass → Bool
is_interface class = has acc_interface class.flags

-- whether a class names a superclass that is neither final nor an interface, none where it is Object, and whether what it
-- names as its interfaces are some
abbrev pub fits_parents : CoreClass → Bool
fits_parents class = extends class.superclass && list_all is_its class.interfaces where
  extends : Option (List ℕ) → Bool
  extends None = bytes_eq class.name object
  extends (Some superclass) = list_any (λ row. bytes_eq superclass row.name && not (is_final row) && not (is_interface row)) core_classes

  is_its : List ℕ → Bool
  is_its interface = list_any (λ row. bytes_eq interface row.name && is_interface row) core_classes

-- an abstract class that is no interface
abbrev pub is_abstract_class : CoreClass → Bool
is_abstract_class class = has acc_abstract class.flags && not (is_interface class)

-- the methods that have a flag, each by the name of its class, its own name and its descriptor
abbrev pub methods_with : ℕ → List (List ℕ × List ℕ × List ℕ)
methods_with flag = flat_map (λ class. flat_map (one class.name) class.methods) core_classes where
  one : List ℕ → Method → List (List ℕ × List ℕ × List ℕ)
  one class method = if has flag method.flags then (class, method.name, method.descriptor) ∷ [] else []

-- the methods of the table, class after class, and the bodies of those that have one
abbrev pub methods : List Method
methods = flat_map (λ class. class.methods) core_classes

abbrev pub body_of : Kind → List Body
body_of (Runs body) = body ∷ []
body_of other = []

abbrev pub bodies : List Body
bodies = flat_map (λ method. body_of method.kind) methods

-- the natives of the table
abbrev pub native_of : Kind → List Native
native_of (Performed native) = native ∷ []
native_of other = []

abbrev pub natives : List Native
natives = flat_map (λ method. native_of method.kind) methods

-- the instructions of the table's bodies
abbrev pub instructions : List Instruction
instructions = flat_map (λ body. body.code) bodies

-- whether a class of the table has this name, and declares this field or this method itself
abbrev pub is_class : List ℕ → Bool
is_class name = list_any (λ class. bytes_eq name class.name) core_classes

abbrev pub declares_field : List ℕ → List ℕ → List ℕ → Bool
declares_field class name descriptor = list_any (λ row. bytes_eq class row.name && list_any is_it row.fields) core_classes where
  is_it : Field → Bool
  is_it field = bytes_eq name field.name && bytes_eq descriptor field.descriptor

abbrev pub declares_method : List ℕ → List ℕ → List ℕ → Bool
declares_method class name descriptor = list_any (λ row. bytes_eq class row.name && list_any is_it row.methods) core_classes where
  is_it : Method → Bool
  is_it method = bytes_eq name method.name && bytes_eq descriptor method.descriptor

-- whether the table has what an instruction names
abbrev pub names_a_row : Instruction → Bool
names_a_row (OfClass opcode class) = is_class class
names_a_row (OfField opcode class name descriptor) = declares_field class name descriptor
names_a_row (OfMethod opcode class name descriptor) = declares_method class name descriptor
names_a_row other = true

-- whether a method has the flags of what it is: abstract and native where it is that, and no other
abbrev pub fits_flags : Method → Bool
fits_flags method = fits method.kind where
  fits : Kind → Bool
  fits Abstract = has acc_abstract method.flags && not (has acc_native method.flags)
  fits (Performed native) = has acc_native method.flags && not (has acc_abstract method.flags)
  fits (Runs body) = not (has acc_native method.flags) && not (has acc_abstract method.flags)

-- whether each branch goes to an instruction of the body that has a frame
abbrev pub is_framed : Body → Bool
is_framed body = list_all goes body.code where
  goes : Instruction → Bool
  goes (Branch opcode target) = nat_lt target (length body.code) && list_any (λ frame. nat_eq frame.at target) body.frames
  goes other = true

-- whether a class declares the constructors of nothing, a message, a message and a cause, and a cause
abbrev pub has_constructors : CoreClass → Bool
has_constructors class =
    list_all (λ descriptor. list_any (is_constructor descriptor) class.methods) (
    codes "()V"
    ∷ codes "(Ljava/lang/String;)V"
    ∷ codes "(Ljava/lang/String;Ljava/lang/Throwable;)V"
    ∷ codes "(Ljava/lang/Throwable;)V"
    ∷ []
    ) where
      is_constructor : List ℕ → Method → Bool
      is_constructor descriptor method = bytes_eq method.name (codes "<init>") && bytes_eq method.descriptor descriptor
