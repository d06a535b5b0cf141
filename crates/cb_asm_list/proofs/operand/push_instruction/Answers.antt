use Rattle.std.proofs.Common.{◌≡◌, ◌++◌, OnOk, arith, string_bytes, subst, sym, List, ℕ}
use Rattle.std.proofs.lemmas.Grind.{common_steps}
use Rattle.cb_asm_line.specs.declared.operand.Instruction.{Instruction}
use Rattle.cb_asm_list.specs.Listing.{label_of, operand_in}
use Rattle.cb_asm_list.proofs.Lines.{instruction_line}
use Rattle.cb_asm_list.proofs.operand.push_instruction.Goals as goal

pub returns : goal.returns
returns c =
    let instruction : Instruction = record { opcode = c.args.insn.now.opcode; wide = c.args.insn.now.wide; operand = operand_in c.args.class.now (label_of c.args.labels.now) c.args.insn.now.opcode c.args.insn.now.operand } in
    subst (λ (line : List ℕ). OnOk c.end_line.result (string_bytes c.end_line.new.text ≡ string_bytes c.args.text.now ++ line)) (sym (instruction_line instruction)) (grind (arith, common_steps))
