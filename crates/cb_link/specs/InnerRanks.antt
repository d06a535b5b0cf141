-- What this crate's own functions cite of the numbers of classes and members, and no public clause: each by the names, packages
-- and texts of all.
use Rattle.std.specs.Prelude.{ℕ, List, map, Option, option_and_then}
use Rattle.std.specs.List.{flat_map}
use Rattle.cb_text.specs.declared.constant.Constant.{Constant}
use Rattle.cb_classfile.specs.declared.class.ClassFile.{ClassFile}
use Rattle.cb_classfile.specs.declared.field.Field.{Field}
use Rattle.cb_classfile.specs.declared.method.Method.{Method}
use Rattle.cb_classfile.specs.Pool.{class_at}
use Rattle.cb_hierarchy.specs.declared.class.Class.{Class as Ranked}
use Rattle.cb_hierarchy.specs.declared.member.Field.{Field as RankedField}
use Rattle.cb_hierarchy.specs.declared.member.Method.{Method as RankedMethod}
use Rattle.cb_hierarchy.specs.Classes.{listed}
use Rattle.cb_kinds.specs.Basics.{kind_number}
use Rattle.cb_kinds.specs.Texts.{number_of, own_number}
use Rattle.cb_classfile.specs.Flags.{acc_abstract, acc_interface, acc_static}
use Rattle.cb_link.specs.Numbers.{acc_final, has_flag, name_of, package_of, texts_in, visibility_of}

abbrev pub number_at : List (List ℕ) → List Constant → ℕ → Option ℕ
number_at names pool index = option_and_then (number_of names) (class_at pool index)

abbrev pub package_name : ClassFile → List ℕ
package_name class = package_of (name_of class)

abbrev pub rank : List (List ℕ) → List (List ℕ) → ClassFile → Ranked
rank names packages class =
    record { superclass = number_at names class.pool class.super_class; interfaces = flat_map (λ index. listed (number_at names class.pool index)) class.interfaces; is_interface = has_flag acc_interface class.flags.0; is_final = has_flag acc_final class.flags.0; «package» = kind_number packages (package_name class) }

abbrev pub rank_field : List (List ℕ × List ℕ) → ℕ → List Constant → Field → RankedField
rank_field texts class pool field =
    record { declared = record { class = class; signature = own_number texts (texts_in pool field.name field.descriptor) }; is_static = has_flag acc_static field.flags.0 }

abbrev pub rank_method : List (List ℕ × List ℕ) → ℕ → List Constant → Method → RankedMethod
rank_method texts class pool method =
    record { declared = record { class = class; signature = own_number texts (texts_in pool method.name method.descriptor) }; visibility = visibility_of method.flags.0; is_static = has_flag acc_static method.flags.0; is_final = has_flag acc_final method.flags.0; is_abstract = has_flag acc_abstract method.flags.0 }

-- those of a class
abbrev pub texts_of_fields : ClassFile → List (List ℕ × List ℕ)
texts_of_fields class = map (λ field. texts_in class.pool field.name field.descriptor) class.fields

abbrev pub texts_of_methods : ClassFile → List (List ℕ × List ℕ)
texts_of_methods class = map (λ method. texts_in class.pool method.name method.descriptor) class.methods

abbrev pub fields_of_class : List (List ℕ × List ℕ) → ℕ × ClassFile → List RankedField
fields_of_class texts entry = map (rank_field texts entry.0 entry.1.pool) entry.1.fields

abbrev pub methods_of_class : List (List ℕ × List ℕ) → ℕ × ClassFile → List RankedMethod
methods_of_class texts entry = map (rank_method texts entry.0 entry.1.pool) entry.1.methods
