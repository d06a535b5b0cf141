-- How many bytes an instruction takes hangs neither on its constants nor on its labels.
use Rattle.std.proofs.Common.{◌≡◌, ◌∙◌, ap, sym, refl, arith, length-append, ℕ, ◌+◌, ◌<◌, ℤ, Bool, true, false, List, [], ◌∷◌, ◌++◌, length, map, replicate, Option, Some, None, ◌==◌, if◌then◌else◌}
use Rattle.std.specs.List.{flat_map}
use Rattle.cb_insn.specs.declared.form.Form.{Form}
use Rattle.cb_insn.specs.declared.form.Form.TheVariants as forms
use Rattle.cb_insn.specs.declared.insn.Operand.{Operand as InsnOperand}
use Rattle.cb_insn.specs.declared.insn.Operand.TheVariants as operands
use Rattle.cb_insn.specs.declared.insn.Pair.{Pair}
use Rattle.cb_insn.specs.declared.opcode.TheConstants as opcodes
use Rattle.cb_insn.specs.Faults.{padding_length}
use Rattle.cb_insn.specs.Forms.{head_bytes, head_form}
use Rattle.cb_insn.specs.Grammar.{s4, offset, table_bytes, lookup_bytes}
use Rattle.cb_insn.specs.Writing.{bytes_in, insn_bytes, operand_bytes}
use Rattle.cb_asm_line.specs.declared.operand.MemberText.{MemberText}
use Rattle.cb_asm_line.specs.declared.operand.Operand.{Operand}
use Rattle.cb_asm_line.specs.declared.operand.Operand.TheVariants.{Load, Member, Class, Dimensions, Branch, Table, Lookup}
use Rattle.cb_asm_line.specs.declared.operand.Instruction.{Instruction}
use Rattle.cb_asm_line.specs.Label.{Label}
use Rattle.cb_asm_line.specs.Parameters.{argument_words}
use Rattle.cb_asm_record.specs.Entries.{Entry}
use Rattle.cb_asm_record.specs.Labels.{insn_of, member_operand, operand_of, size_at}
use Rattle.cb_asm_back.proofs.Lists.{map_twice}
use Rattle.cb_asm_back.proofs.Relabelling.{instruction_by, operand_by}

-- two of one form take as many
SameSize : ℕ → InsnOperand → InsnOperand → Type 0
SameSize pc one other = (form : Form) → length (operand_bytes pc form one) ≡ length (operand_bytes pc form other)

pool_size : (pc one other : ℕ) → SameSize pc (operands.Pool one) (operands.Pool other)
unfolding SameSize
pool_size pc one other forms.PoolByte = refl
pool_size pc one other form = refl

interface_size : (pc one other count : ℕ) → SameSize pc (operands.Interface one count) (operands.Interface other count)
unfolding SameSize
interface_size pc one other count forms.Interface = refl
interface_size pc one other count form = refl

dimensions_size : (pc one other dimensions : ℕ) → SameSize pc (operands.Dimensions one dimensions) (operands.Dimensions other dimensions)
unfolding SameSize
dimensions_size pc one other dimensions forms.Dimensions = refl
dimensions_size pc one other dimensions form = refl

branch_size : (pc one other : ℕ) → SameSize pc (operands.Branch one) (operands.Branch other)
unfolding SameSize
branch_size pc one other forms.Branch = refl
branch_size pc one other form = refl

behind_padding : (padding one other : List ℕ) → length one ≡ length other → length (padding ++ one) ≡ length (padding ++ other)
behind_padding padding one other same = length-append padding one ∙ ap (λ size. length padding + size) same ∙ sym (length-append padding other)

targets_length : (pc : ℕ) (place : Label → ℕ) (labels : List Label) → length (flat_map (λ target. s4 (offset pc target)) (map (λ label. 0) labels)) ≡ length (flat_map (λ target. s4 (offset pc target)) (map place labels))
targets_length pc place [] = refl
targets_length pc place (label ∷ labels) = let next = targets_length pc place labels in omega (arith, next)

pairs_length : (pc : ℕ) (place : Label → ℕ) (pairs : List (ℤ × Label))
    → length (flat_map {X = Pair} (λ pair. s4 pair.key ++ s4 (offset pc pair.target)) (map (λ pair. record { key = pair.0; target = 0 }) pairs))
    ≡ length (flat_map {X = Pair} (λ pair. s4 pair.key ++ s4 (offset pc pair.target)) (map (λ pair. record { key = pair.0; target = place pair.1 }) pairs))
pairs_length pc place [] = refl
pairs_length pc place (pair ∷ pairs) = let next = pairs_length pc place pairs in omega (arith, next)

table_size : (pc default other : ℕ) (low : ℤ) (place : Label → ℕ) (labels : List Label)
    → SameSize pc (operands.Table default low (map (λ label. 0) labels)) (operands.Table other low (map place labels))
unfolding SameSize
table_size pc default other low place labels forms.Table =
    let same = targets_length pc place labels in
    behind_padding (replicate (padding_length pc) 0) (table_bytes pc default low (map (λ label. 0) labels)) (table_bytes pc other low (map place labels)) (omega (arith, same))
table_size pc default other low place labels form = refl

lookup_size : (pc default other : ℕ) (place : Label → ℕ) (pairs : List (ℤ × Label))
    → SameSize pc (operands.Lookup default (map (λ pair. record { key = pair.0; target = 0 }) pairs)) (operands.Lookup other (map (λ pair. record { key = pair.0; target = place pair.1 }) pairs))
unfolding SameSize
lookup_size pc default other place pairs forms.Lookup =
    let same = pairs_length pc place pairs in
    behind_padding (replicate (padding_length pc) 0) (lookup_bytes pc default (map (λ pair. record { key = pair.0; target = 0 }) pairs)) (lookup_bytes pc other (map (λ pair. record { key = pair.0; target = place pair.1 }) pairs)) (omega (arith, same))
lookup_size pc default other place pairs form = refl

member_size : (pc opcode one other : ℕ) (member : MemberText) → SameSize pc (member_operand opcode one member) (member_operand opcode other member)
unfolding SameSize
member_size pc opcode one other member form = by_test (opcode == opcodes.INVOKEINTERFACE)
  where
    by_test : (test : Bool) → length (operand_bytes pc form (if test then operands.Interface one (argument_words member.descriptor) else operands.Pool one))
        ≡ length (operand_bytes pc form (if test then operands.Interface other (argument_words member.descriptor) else operands.Pool other))
    by_test true = interface_size pc one other (argument_words member.descriptor) form
    by_test false = pool_size pc one other form

operand_size : (pc opcode : ℕ) (all : List Entry) (place : Label → ℕ) (operand : Operand) → SameSize pc (operand_of [] (λ label. 0) opcode operand) (operand_of all place opcode operand)
unfolding SameSize
operand_size pc opcode all place (Load value) = pool_size pc _ _
operand_size pc opcode all place (Member member) = member_size pc opcode _ _ member
operand_size pc opcode all place (Class name) = pool_size pc _ _
operand_size pc opcode all place (Dimensions name dimensions) = dimensions_size pc _ _ dimensions
operand_size pc opcode all place (Branch label) = branch_size pc _ _
operand_size pc opcode all place (Table low default labels) = table_size pc _ _ low place labels
operand_size pc opcode all place (Lookup default pairs) = lookup_size pc _ _ place pairs
operand_size pc opcode all place other = λ form. refl

sized_in : (pc : ℕ) (form : Option Form) (one other : InsnOperand) → SameSize pc one other → length (bytes_in pc form one) ≡ length (bytes_in pc form other)
unfolding SameSize
sized_in pc None one other same = refl
sized_in pc (Some form) one other same = same form

-- the size of an instruction
pub size_stands : (pc : ℕ) (all : List Entry) (place : Label → ℕ) (instruction : Instruction) → length (insn_bytes pc (insn_of all place instruction)) ≡ size_at pc instruction
size_stands pc all place instruction =
    sym (behind_padding (head_bytes instruction.wide instruction.opcode) _ _ (sized_in pc (head_form instruction.wide instruction.opcode) _ _ (operand_size pc instruction.opcode all place instruction.operand)))

-- it is some
starts : (wide : Bool) (opcode : ℕ) (behind : List ℕ) → 0 < length (head_bytes wide opcode ++ behind)
starts true opcode behind = omega arith
starts false opcode behind = omega arith

pub size_some : (pc : ℕ) (instruction : Instruction) → 0 < size_at pc instruction
size_some pc instruction = starts instruction.wide instruction.opcode _

-- other labels don't change it
zeros_by : (opcode : ℕ) (new : Label → Label) (operand : Operand) → operand_of [] (λ label. 0) opcode (operand_by new operand) ≡ operand_of [] (λ label. 0) opcode operand
zeros_by opcode new (Table low default labels) = ap (operands.Table 0 low) (map_twice (λ label. 0) new labels)
zeros_by opcode new (Lookup default pairs) = ap (operands.Lookup 0) (map_twice (λ pair. record { key = pair.0; target = 0 }) (λ pair. (pair.0, new pair.1)) pairs)
zeros_by opcode new other = refl

pub size_by : (pc : ℕ) (new : Label → Label) (instruction : Instruction) → size_at pc (instruction_by new instruction) ≡ size_at pc instruction
size_by pc new instruction =
    ap (λ operand. length (head_bytes instruction.wide instruction.opcode ++ bytes_in pc (head_form instruction.wide instruction.opcode) operand)) (zeros_by instruction.opcode new instruction.operand)
