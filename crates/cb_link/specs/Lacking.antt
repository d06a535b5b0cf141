-- The members that instructions name and that can't be had (JVMS §5.4.3, §6.5).
use Rattle.std.specs.Prelude.{ℕ, Bool, true, false, List, [], ◌++◌, map, codes, Option, Some, None, option_and_then, option_map, nat_lt, slice_get, not, ◌==◌, ◌||◌, ◌&&◌, if◌then◌else◌}
use Rattle.std.specs.List.{enumerate_from, flat_map}
use Rattle.cb_text.specs.declared.constant.Constant.{Constant}
use Rattle.cb_text.specs.Naming.{MemberNames, class_at, member_at}
use Rattle.cb_names.specs.Signs.{name_init}
use Rattle.cb_insn.specs.declared.insn.Insn.{Insn}
use Rattle.cb_insn.specs.declared.opcode.TheConstants as opcodes
use Rattle.cb_classfile.specs.declared.body.Body.{Body}
use Rattle.cb_classfile.specs.declared.class.ClassFile.{ClassFile}
use Rattle.cb_classfile.specs.Needed.{index_in}
use Rattle.cb_hierarchy.specs.declared.member.Field.{Field as RankedField}
use Rattle.cb_hierarchy.specs.declared.member.Method.{Method as RankedMethod}
use Rattle.cb_hierarchy.specs.Resolution.{first_some}
use Rattle.cb_classfile.specs.Flags.{acc_abstract}
use Rattle.cb_link.specs.Numbers.{class_number, has_flag, library_size, ranked_fields, ranked_methods, same_name}
use Rattle.cb_link.specs.Resolving.{found_field, found_method}

-- a class of the library, by its number
abbrev pub is_of_library : ℕ → Bool
is_of_library class = nat_lt class library_size

abbrev pub is_static_field : ℕ → Bool
is_static_field opcode = opcode == opcodes.GETSTATIC || opcode == opcodes.PUTSTATIC

abbrev pub is_instance_field : ℕ → Bool
is_instance_field opcode = opcode == opcodes.GETFIELD || opcode == opcodes.PUTFIELD

abbrev pub is_static_call : ℕ → Bool
is_static_call opcode = opcode == opcodes.INVOKESTATIC

abbrev pub is_instance_call : ℕ → Bool
is_instance_call opcode = opcode == opcodes.INVOKEVIRTUAL || opcode == opcodes.INVOKESPECIAL || opcode == opcodes.INVOKEINTERFACE

-- a field is what an instruction of a class asks for: static or not; and the instance fields of the library are for its own
-- classes alone
abbrev pub suits_field : ℕ → ℕ → Option RankedField → Bool
suits_field class opcode None = false
suits_field class opcode (Some field) =
    if is_static_field opcode then field.is_static
    else not field.is_static && (is_of_library class || not (is_of_library field.declared.class))

-- a method is: static or not; and a constructor is one of the very class that is named (§6.5 invokespecial; §5.4.3.3 alone would find a
-- superclass's)
abbrev pub suits_method : ℕ → Option ℕ → Bool → Option RankedMethod → Bool
suits_method opcode named is_init None = false
suits_method opcode named is_init (Some method) =
    if is_static_call opcode then method.is_static
    else not method.is_static && (not is_init || is_class named method.declared.class) where
      is_class : Option ℕ → ℕ → Bool
      is_class None class = false
      is_class (Some number) class = number == class

abbrev pub suits : List ClassFile → ℕ → ℕ → MemberNames → Bool
suits classes class opcode member =
    if is_static_field opcode || is_instance_field opcode
    then suits_field class opcode (option_and_then (slice_get (ranked_fields classes)) (found_field classes member))
    else if is_static_call opcode || is_instance_call opcode
    then suits_method opcode (class_number classes member.class) (same_name member.name name_init)
    (option_and_then (slice_get (ranked_methods classes)) (found_method classes member))
    else true

-- whether a class, where there is one, is abstract
abbrev is_abstract : Option ClassFile → Bool
is_abstract None = false
is_abstract (Some class) = has_flag acc_abstract class.flags.0

abbrev pub names_abstract : List ClassFile → List ℕ → Bool
names_abstract classes name = is_abstract (option_and_then (slice_get classes) (class_number classes name))

-- what an instruction of a class lacks: the text of the member that it names, or `new` where it makes an object of an abstract
-- class
abbrev pub lacks_member : List ClassFile → ℕ → ℕ → Option MemberNames → Option (List ℕ)
lacks_member classes class opcode None = None
lacks_member classes class opcode (Some member) = if suits classes class opcode member then None else Some (member.name ++ member.descriptor)

abbrev pub lacks_class : List ClassFile → Option (List ℕ) → Option (List ℕ)
lacks_class classes None = None
lacks_class classes (Some name) = if names_abstract classes name then Some (codes "new") else None

abbrev pub lacks : List ClassFile → ℕ → List Constant → Insn → Option (List ℕ)
lacks classes class pool insn =
    if insn.opcode == opcodes.NEW then lacks_class classes (option_and_then (class_at pool) (index_in insn.operand))
    else lacks_member classes class insn.opcode (option_and_then (member_at pool) (index_in insn.operand))

-- what each instruction lacks, with the number of its class: by class, method and place
abbrev pub lacks_in : List ClassFile → ℕ → List Constant → Option Body → List (Option (ℕ × List ℕ))
lacks_in classes class pool None = []
lacks_in classes class pool (Some body) = map (λ placed. option_map (λ member. (class, member)) (lacks classes class pool placed.1)) body.code

abbrev pub first_lacking : List ClassFile → Option (ℕ × List ℕ)
first_lacking classes =
    first_some (flat_map (λ entry. flat_map (λ method. lacks_in classes entry.0 entry.1.pool method.body) entry.1.methods) (enumerate_from 0 classes))
