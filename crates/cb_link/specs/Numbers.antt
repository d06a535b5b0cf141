-- The classes and members of a program by their numbers, as resolution and selection see them (JVMS §4.1, §4.5, §4.6).
use Rattle.std.specs.Prelude.{ℕ, Bool, false, List, [], ◌∷◌, map, Option, Some, None, option_and_then, bit_and, nat_eq, ◌==◌, if◌then◌else◌}
use Rattle.std.specs.Cmp.Lexicographic.{pointwise}
use Rattle.std.specs.List.{enumerate_from, flat_map, list_any}
use Rattle.cb_text.specs.declared.constant.Constant.{Constant}
use Rattle.cb_classfile.specs.declared.class.ClassFile.{ClassFile}
use Rattle.cb_classfile.specs.declared.field.Field.{Field}
use Rattle.cb_classfile.specs.declared.method.Method.{Method}
use Rattle.cb_classfile.specs.Flags.{acc_abstract, acc_interface, acc_static}
use Rattle.cb_classfile.specs.Pool.{class_at, text_at}
use Rattle.cb_hierarchy.specs.declared.class.Class.{Class as Ranked}
use Rattle.cb_hierarchy.specs.declared.member.Field.{Field as RankedField}
use Rattle.cb_hierarchy.specs.declared.member.Method.{Method as RankedMethod}
use Rattle.cb_hierarchy.specs.declared.member.Visibility.{Visibility}
use Rattle.cb_hierarchy.specs.declared.member.Visibility.TheVariants.{Package, Private, Protected, Public}
use Rattle.cb_hierarchy.specs.Classes.{listed}
use Rattle.cb_kinds.specs.Basics.{kind_number}
use Rattle.cb_kinds.specs.Texts.{number_of, own_number}
use Rattle.cb_names.specs.Signs.{slash}

-- the access flags that linking looks at beside those of `cb_classfile` (JVMS tables 4.1-A, 4.5-A and 4.6-A)
abbrev pub acc_public : ℕ
acc_public = 0x0001

abbrev pub acc_private : ℕ
acc_private = 0x0002

abbrev pub acc_protected : ℕ
acc_protected = 0x0004

abbrev pub acc_final : ℕ
acc_final = 0x0010

abbrev pub acc_enum : ℕ
acc_enum = 0x4000

abbrev pub has_flag : ℕ → ℕ → Bool
has_flag flag flags = bit_and flags flag == flag

-- how many classes are the library's, which are the first
abbrev pub library_size : ℕ
library_size = 50

-- whether two names are the same
abbrev pub same_name : List ℕ → List ℕ → Bool
same_name one other = pointwise nat_eq one other

-- a text, or none
abbrev pub or_none : Option (List ℕ) → List ℕ
or_none None = []
or_none (Some text) = text

-- the name of a class, and whether it is this one
abbrev pub name_of : ClassFile → List ℕ
name_of class = or_none (class_at class.pool class.this_class)

abbrev pub is_own : List ℕ → Option (List ℕ) → Bool
is_own name None = false
is_own name (Some own) = same_name name own

abbrev pub is_named : List ℕ → ClassFile → Bool
is_named name class = is_own name (class_at class.pool class.this_class)

-- the number of the class of a name, and of the class that the constant at an index names
abbrev pub class_number : List ClassFile → List ℕ → Option ℕ
class_number classes name = number_of (map name_of classes) name

abbrev pub class_number_at : List ClassFile → List Constant → ℕ → Option ℕ
class_number_at classes pool index = option_and_then (class_number classes) (class_at pool index)

-- the package of a name, up to its last slash, and the number of the first class of that package
abbrev pub package_of : List ℕ → List ℕ
package_of [] = []
package_of (unit ∷ rest) = if list_any (λ other. other == slash) (unit ∷ rest) then unit ∷ package_of rest else []

abbrev pub package_number : List ClassFile → ClassFile → ℕ
package_number classes class = kind_number (map (λ other. package_of (name_of other)) classes) (package_of (name_of class))

abbrev pub ranked : List ClassFile → ClassFile → Ranked
ranked classes class =
    record { superclass = class_number_at classes class.pool class.super_class; interfaces = flat_map (λ index. listed (class_number_at classes class.pool index)) class.interfaces; is_interface = has_flag acc_interface class.flags.0; is_final = has_flag acc_final class.flags.0; «package» = package_number classes class }

abbrev pub hierarchy : List ClassFile → List Ranked
hierarchy classes = map (ranked classes) classes

-- the members of classes by their numbers: by class, and then as the class lists them
pub record Numbered (Member : Type 0) : Type 0 where
  pub class : ℕ
  pub place : ℕ
  pub pool : List Constant
  pub member : Member

abbrev pub numbered : {Member : Type 0} → (ClassFile → List Member) → List ClassFile → List (Numbered Member)
numbered members classes =
    flat_map (λ entry. map (λ own. record { class = entry.0; place = own.0; pool = entry.1.pool; member = own.1 }) (enumerate_from 0 (members entry.1)))
    (enumerate_from 0 classes)

abbrev pub fields_of : List ClassFile → List (Numbered Field)
fields_of classes = numbered (λ class. class.fields) classes

abbrev pub methods_of : List ClassFile → List (Numbered Method)
methods_of classes = numbered (λ class. class.methods) classes

-- the name and the descriptor of a member. Its signature is the number of the first member that has both
abbrev pub texts_in : List Constant → ℕ → ℕ → List ℕ × List ℕ
texts_in pool name descriptor = (or_none (text_at pool name), or_none (text_at pool descriptor))

abbrev pub field_texts : List ClassFile → List (List ℕ × List ℕ)
field_texts classes = map (λ field. texts_in field.pool field.member.name field.member.descriptor) (fields_of classes)

abbrev pub method_texts : List ClassFile → List (List ℕ × List ℕ)
method_texts classes = map (λ method. texts_in method.pool method.member.name method.member.descriptor) (methods_of classes)

-- from where a method may be seen, by its flags
abbrev pub visibility_of : ℕ → Visibility
visibility_of flags =
    if has_flag acc_public flags then Public
    else if has_flag acc_protected flags then Protected
    else if has_flag acc_private flags then Private
    else Package

abbrev pub ranked_field : List ClassFile → Numbered Field → RankedField
ranked_field classes field =
    record { declared = record { class = field.class; signature = own_number (field_texts classes) (texts_in field.pool field.member.name field.member.descriptor) }; is_static = has_flag acc_static field.member.flags.0 }

abbrev pub ranked_fields : List ClassFile → List RankedField
ranked_fields classes = map (ranked_field classes) (fields_of classes)

abbrev pub ranked_method : List ClassFile → Numbered Method → RankedMethod
ranked_method classes method =
    record { declared = record { class = method.class; signature = own_number (method_texts classes) (texts_in method.pool method.member.name method.member.descriptor) }; visibility = visibility_of method.member.flags.0; is_static = has_flag acc_static method.member.flags.0; is_final = has_flag acc_final method.member.flags.0; is_abstract = has_flag acc_abstract method.member.flags.0 }

abbrev pub ranked_methods : List ClassFile → List RankedMethod
ranked_methods classes = map (ranked_method classes) (methods_of classes)
