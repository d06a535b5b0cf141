-- The one spelling of code whose padding is 0.
use Rattle.std.specs.Prelude.{ℕ, List, [], ◌∷◌, ◌++◌, replicate, Option, Some, None}
use Rattle.std.specs.Int.{w8, cast_unsigned}
use Rattle.std.specs.List.{flat_map}
use Rattle.cb_insn.specs.declared.form.Form.{Form}
use Rattle.cb_insn.specs.declared.form.Form.TheVariants as forms
use Rattle.cb_insn.specs.declared.insn.Insn.{Insn}
use Rattle.cb_insn.specs.declared.insn.Operand.{Operand}
use Rattle.cb_insn.specs.declared.insn.Operand.TheVariants.{Number, Pool, Local, Increase, Branch, ArrayCode, Dimensions, Interface, Table, Lookup}
use Rattle.cb_insn.specs.Forms.{head_bytes, head_form}
use Rattle.cb_insn.specs.Grammar.{u2, s2, s4, offset, table_bytes, lookup_bytes}
use Rattle.cb_insn.specs.Faults.{padding_length}

-- the bytes of an operand that has the form
abbrev pub operand_bytes : ℕ → Form → Operand → List ℕ
operand_bytes pc forms.Byte (Number number) = cast_unsigned w8 number ∷ []
operand_bytes pc forms.Short (Number number) = s2 number
operand_bytes pc forms.PoolByte (Pool index) = index ∷ []
operand_bytes pc forms.Pool (Pool index) = u2 index
operand_bytes pc forms.Local (Local local) = local ∷ []
operand_bytes pc forms.WideLocal (Local local) = u2 local
operand_bytes pc forms.Increase (Increase local by) = local ∷ cast_unsigned w8 by ∷ []
operand_bytes pc forms.WideIncrease (Increase local by) = u2 local ++ s2 by
operand_bytes pc forms.Branch (Branch target) = s2 (offset pc target)
operand_bytes pc forms.LongBranch (Branch target) = s4 (offset pc target)
operand_bytes pc forms.ArrayCode (ArrayCode code) = code ∷ []
operand_bytes pc forms.Dimensions (Dimensions pool dimensions) = u2 pool ++ dimensions ∷ []
operand_bytes pc forms.Interface (Interface pool count) = u2 pool ++ count ∷ 0 ∷ []
operand_bytes pc forms.Dynamic (Pool index) = u2 index ++ 0 ∷ 0 ∷ []
operand_bytes pc forms.Table (Table default low targets) = replicate (padding_length pc) 0 ++ table_bytes pc default low targets
operand_bytes pc forms.Lookup (Lookup default pairs) = replicate (padding_length pc) 0 ++ lookup_bytes pc default pairs
operand_bytes pc form operand = []

-- the bytes of an instruction, and of code
abbrev pub bytes_in : ℕ → Option Form → Operand → List ℕ
bytes_in pc None operand = []
bytes_in pc (Some form) operand = operand_bytes pc form operand

abbrev pub insn_bytes : ℕ → Insn → List ℕ
insn_bytes pc insn = head_bytes insn.wide insn.opcode ++ bytes_in pc (head_form insn.wide insn.opcode) insn.operand

abbrev pub code_bytes : List (ℕ × Insn) → List ℕ
code_bytes code = flat_map (λ placed. insn_bytes placed.0 placed.1) code
