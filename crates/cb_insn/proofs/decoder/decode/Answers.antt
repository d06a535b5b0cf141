use Rattle.cb_insn.specs.declared.fault.InsnFault.TheVariants as faults
use Rattle.cb_insn.proofs.Codes.{told_code, told_fault}
use Rattle.cb_insn.proofs.decoder.decode.Goals as goal

pub returns-clause-exact : goal.returns-clause-exact
returns-clause-exact c = λ code spells. told_code c.args.bytes.now c.decode_or_fault.result code c.decode_or_fault.ensures spells

pub returns-clause-cut : goal.returns-clause-cut
returns-clause-cut c = λ pc. told_fault c.args.bytes.now c.decode_or_fault.result (faults.Cut pc) (λ is. cc) c.decode_or_fault.ensures

pub returns-clause-bad_opcode : goal.returns-clause-bad_opcode
returns-clause-bad_opcode c = λ pc. told_fault c.args.bytes.now c.decode_or_fault.result (faults.BadOpcode pc) (λ is. cc) c.decode_or_fault.ensures

pub returns-clause-bad_operand : goal.returns-clause-bad_operand
returns-clause-bad_operand c = λ pc. told_fault c.args.bytes.now c.decode_or_fault.result (faults.BadOperand pc) (λ is. cc) c.decode_or_fault.ensures

pub returns-clause-bad_target : goal.returns-clause-bad_target
returns-clause-bad_target c = λ pc. told_fault c.args.bytes.now c.decode_or_fault.result (faults.BadTarget pc) (λ is. cc) c.decode_or_fault.ensures
