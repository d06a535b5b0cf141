use Rattle.std.proofs.Common.{◌∙◌, sym, map}
use Rattle.cb_asm_line.proofs.Operating.{no_form, no_operand}
use Rattle.cb_asm_line.proofs.instruction_words.named_instruction.Goals as goal

pub returns-in_default-head_form : goal.returns-in_default-head_form
returns-in_default-head_form c =
    no_form c.args.wide (map (λ word. word.now) c.args.words.now) c.in-Some.name.now (map (λ word. word.now) c.in-Some.rest.now) c.in-Some-opcode_of.opcode c.in-Some.ensures c.in-Some-opcode_of.ensures (sym c.head_form.ensures ∙ c.in_default-head_form.is)

pub returns-in-None : goal.returns-in-None
returns-in-None c =
    let none = rw (c.in-None.is, c.kind_needed.ensures) at c.in_ok-operand.ensures in
    no_operand c.args.wide (map (λ word. word.now) c.args.words.now) c.in-Some.name.now (map (λ word. word.now) c.in-Some.rest.now) c.in-Some-opcode_of.opcode c.in-Some-head_form.form c.in-Some.ensures c.in-Some-opcode_of.ensures (sym c.head_form.ensures ∙ c.in-Some-head_form.is) none
