use Rattle.std.proofs.Common.{sym, ◌∙◌}
use Rattle.cb_verify.proofs.StackWords.{one_first}
use Rattle.cb_verify.proofs.type_frame.TypeFrame.takes.Goals as goal

pub returns-then-goes_to-clause-taken : goal.returns-then-goes_to-clause-taken
returns-then-goes_to-clause-taken c =
    one_first c.args.program.now c.args.value c.args.self.now.stack c.args.place c.top.result c.top.ensures (sym c.is_of.ensures ∙ c.if-is_of.false) (sym c.goes_to.ensures ∙ c.if-goes_to.true)
