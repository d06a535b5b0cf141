-- What instructions lack, part by part, which no public clause cites.
use Rattle.std.specs.Prelude.{ℕ, Bool, List, map, Option, Some, None, option_and_then, option_map, slice_get}
use Rattle.cb_text.specs.declared.constant.Constant.{Constant}
use Rattle.cb_text.specs.Naming.{MemberNames}
use Rattle.cb_names.specs.Signs.{name_init}
use Rattle.cb_insn.specs.declared.insn.Insn.{Insn}
use Rattle.cb_classfile.specs.declared.body.Body.{Body}
use Rattle.cb_classfile.specs.declared.class.ClassFile.{ClassFile}
use Rattle.cb_hierarchy.specs.Resolution.{first_some}
use Rattle.cb_link.specs.Numbers.{class_number, ranked_fields, ranked_methods, same_name}
use Rattle.cb_link.specs.Lacking.{lacks, suits_field, suits_method}
use Rattle.cb_link.specs.Resolving.{found_field, found_method}

-- whether what is found is what an instruction asks for
abbrev pub finds_field : List ClassFile → ℕ → ℕ → MemberNames → Bool
finds_field classes class opcode member = suits_field class opcode (option_and_then (slice_get (ranked_fields classes)) (found_field classes member))

abbrev pub finds_method : List ClassFile → ℕ → MemberNames → Bool
finds_method classes opcode member =
    suits_method opcode (class_number classes member.class) (same_name member.name name_init)
    (option_and_then (slice_get (ranked_methods classes)) (found_method classes member))

-- what the first instruction lacks that lacks something, of code, a body and a class
abbrev pub code_lacks : List ClassFile → ℕ → List Constant → List (ℕ × Insn) → Option (List ℕ)
code_lacks classes class pool code = first_some (map (λ placed. lacks classes class pool placed.1) code)

abbrev pub body_lacks : List ClassFile → ℕ → List Constant → Option Body → Option (List ℕ)
body_lacks classes class pool None = None
body_lacks classes class pool (Some body) = code_lacks classes class pool body.code

abbrev pub class_lacks : List ClassFile → ℕ → ClassFile → Option (List ℕ)
class_lacks classes number class = first_some (map (λ method. body_lacks classes number class.pool method.body) class.methods)

abbrev pub entry_lacks : List ClassFile → ℕ × ClassFile → Option (ℕ × List ℕ)
entry_lacks classes entry = option_map (λ text. (entry.0, text)) (class_lacks classes entry.0 entry.1)
