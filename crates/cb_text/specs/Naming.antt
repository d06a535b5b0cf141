-- What an index of the constant pool names (JVMS §4.4).
use Rattle.std.specs.Prelude.{ℕ, ℤ, List, Option, Some, None, option_map, option_and_then}
use Rattle.std.specs.Int.{w32, w64, cast_signed}
use Rattle.cb_text.specs.declared.constant.Constant.{Constant}
use Rattle.cb_text.specs.declared.constant.Constant.TheVariants.{Utf8, Integer, Float, Long, Double, Class, String, Fieldref, Methodref, InterfaceMethodref, NameAndType, InvokeDynamic}
use Rattle.cb_text.specs.declared.naming.MemberKind.{MemberKind}
use Rattle.cb_text.specs.declared.naming.MemberKind.TheVariants.{Field, Method, InterfaceMethod}
use Rattle.cb_text.specs.Pool.{constant_at}

-- the units of a text
abbrev pub units_of : Constant → Option (List ℕ)
units_of (Utf8 units) = Some units
units_of other = None

-- the text at an index
abbrev pub text_at : List Constant → ℕ → Option (List ℕ)
text_at pool index = option_and_then units_of (constant_at pool index)

-- the index of a class's name
abbrev pub name_of_class : Constant → Option ℕ
name_of_class (Class name) = Some name
name_of_class other = None

-- the name of the class at an index, which may be an array's descriptor
abbrev pub class_at : List Constant → ℕ → Option (List ℕ)
class_at pool index = option_and_then (text_at pool) (option_and_then name_of_class (constant_at pool index))

-- the index of a string's text (§4.4.3)
abbrev pub text_of_string : Constant → Option ℕ
text_of_string (String text) = Some text
text_of_string other = None

-- the text of the string at an index
abbrev pub string_at : List Constant → ℕ → Option (List ℕ)
string_at pool index = option_and_then (text_at pool) (option_and_then text_of_string (constant_at pool index))

-- the indices of a name and of a descriptor (§4.4.6)
abbrev pub name_and_type_of : Constant → Option (ℕ × ℕ)
name_and_type_of (NameAndType name descriptor) = Some (name, descriptor)
name_and_type_of other = None

-- the texts at two indices
abbrev pub texts_at : List Constant → ℕ × ℕ → Option (List ℕ × List ℕ)
texts_at pool indices = option_and_then (λ one. option_map (λ other. (one, other)) (text_at pool indices.1)) (text_at pool indices.0)

-- the name and the descriptor of the name and type at an index
abbrev pub name_and_type_at : List Constant → ℕ → Option (List ℕ × List ℕ)
name_and_type_at pool index = option_and_then (texts_at pool) (option_and_then name_and_type_of (constant_at pool index))

-- a member's kind, and the indices of its class and of its name and type (§4.4.2)
abbrev pub member_of : Constant → Option (MemberKind × ℕ × ℕ)
member_of (Fieldref holder member) = Some (Field, holder, member)
member_of (Methodref holder member) = Some (Method, holder, member)
member_of (InterfaceMethodref holder member) = Some (InterfaceMethod, holder, member)
member_of other = None

-- a member: its kind, the name of its class, its own name and its descriptor
pub record MemberNames : Type 0 where
  pub kind : MemberKind
  pub class : List ℕ
  pub name : List ℕ
  pub descriptor : List ℕ

-- the member of this kind whose class, and whose name and type, stand at these indices
abbrev pub member_from : List Constant → MemberKind × ℕ × ℕ → Option MemberNames
member_from pool named = option_and_then (λ class. option_map (λ names. record { kind = named.0; class = class; name = names.0; descriptor = names.1 }) (name_and_type_at pool named.2)) (class_at pool named.1)

-- the field or method that the constant at an index names
abbrev pub member_at : List Constant → ℕ → Option MemberNames
member_at pool index = option_and_then (member_from pool) (option_and_then member_of (constant_at pool index))

-- the index of the name and type of what an invokedynamic calls (§4.4.10)
abbrev pub call_of_dynamic : Constant → Option ℕ
call_of_dynamic (InvokeDynamic bootstrap member) = Some member
call_of_dynamic other = None

-- the name and the descriptor of what the invokedynamic at an index calls
abbrev pub dynamic_at : List Constant → ℕ → Option (List ℕ × List ℕ)
dynamic_at pool index = option_and_then (name_and_type_at pool) (option_and_then call_of_dynamic (constant_at pool index))

-- the numbers: an int and a long as they are in two's complement (§4.4.4, §4.4.5), a float and a double by their bits
abbrev pub int_of : Constant → Option ℤ
int_of (Integer number) = Some (cast_signed w32 number)
int_of other = None

abbrev pub long_of : Constant → Option ℤ
long_of (Long number) = Some (cast_signed w64 number)
long_of other = None

abbrev pub float_of : Constant → Option ℕ
float_of (Float bits) = Some bits
float_of other = None

abbrev pub double_of : Constant → Option ℕ
double_of (Double bits) = Some bits
double_of other = None

-- the number at an index
abbrev pub int_at : List Constant → ℕ → Option ℤ
int_at pool index = option_and_then int_of (constant_at pool index)

abbrev pub long_at : List Constant → ℕ → Option ℤ
long_at pool index = option_and_then long_of (constant_at pool index)

abbrev pub float_at : List Constant → ℕ → Option ℕ
float_at pool index = option_and_then float_of (constant_at pool index)

abbrev pub double_at : List Constant → ℕ → Option ℕ
double_at pool index = option_and_then double_of (constant_at pool index)
