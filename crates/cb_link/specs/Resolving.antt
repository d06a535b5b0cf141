-- The members that constants name (JVMS §5.4.3.2 to §5.4.3.4), and the method with which a program begins.
use Rattle.std.specs.Prelude.{ℕ, List, map, Option, Some, None, codes, option_and_then, if◌then◌else◌}
use Rattle.cb_text.specs.Naming.{MemberNames}
use Rattle.cb_classfile.specs.declared.class.ClassFile.{ClassFile}
use Rattle.cb_hierarchy.specs.Members.{method_of}
use Rattle.cb_hierarchy.specs.Orders.{upwards}
use Rattle.cb_hierarchy.specs.Resolution.{first_some, method_is, resolved_field, resolved_method}
use Rattle.cb_kinds.specs.Kinds.{is_array}
use Rattle.cb_kinds.specs.Texts.{number_of_pair}
use Rattle.cb_link.specs.Numbers.{class_number, field_texts, hierarchy, method_texts, ranked_fields, ranked_methods}

-- java/lang/Object is the first of the library's classes
abbrev pub object : ℕ
object = 0

-- the class in which a member is looked up: an array's superclass is Object (JVMS §5.4.3.2, §5.4.3.3; JLS §10.8)
abbrev pub holder : List ClassFile → List ℕ → Option ℕ
holder classes name = if is_array name then Some object else class_number classes name

-- the number of the field that is found
abbrev pub found_field : List ClassFile → MemberNames → Option ℕ
found_field classes member =
    option_and_then (λ class. option_and_then (λ signature. resolved_field (hierarchy classes) (ranked_fields classes) class signature)
    (number_of_pair (field_texts classes) (member.name, member.descriptor))) (holder classes member.class)

-- the number of the method that is found
abbrev pub found_method : List ClassFile → MemberNames → Option ℕ
found_method classes member =
    option_and_then (λ class. option_and_then (λ signature. resolved_method (hierarchy classes) (ranked_methods classes) object class signature)
    (number_of_pair (method_texts classes) (member.name, member.descriptor))) (holder classes member.class)

-- the static method main that takes texts, of the class itself or else of the nearest superclass that has one (JLS §12.1.4)
abbrev pub main_texts : List ℕ × List ℕ
main_texts = (codes "main", codes "([Ljava/lang/String;)V")

abbrev pub static_one : List ClassFile → Option ℕ → Option ℕ
static_one classes None = None
static_one classes (Some method) = if method_is (ranked_methods classes) (λ own. own.is_static) method then Some method else None

abbrev pub main_method : List ClassFile → List ℕ → Option ℕ
main_method classes name =
    option_and_then (λ class. option_and_then (λ signature.
    first_some (map (λ number. static_one classes (method_of (ranked_methods classes) number signature)) (upwards (hierarchy classes) class)))
    (number_of_pair (method_texts classes) main_texts)) (class_number classes name)
