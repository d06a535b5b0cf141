use Rattle.std.proofs.Common.{sym, ◌∙◌}
use Rattle.cb_verify.proofs.StackWords.{long_first, no_top, one_top, tops_first}
use Rattle.cb_verify.proofs.type_frame.TypeFrame.takes_long.Goals as goal
use Rattle.cb_verify.proofs.type_frame.TypeFrame.takes_long.Goals.{else-is_top-via-then-is_top+else-has_top, else-is_top-via-else-is_top}

pub returns-then-is_of-clause-taken : goal.returns-then-is_of-clause-taken
returns-then-is_of-clause-taken c = long_first c.args.self.now.stack c.args.place c.top-top.result c.top-top.ensures (sym c.is_of.ensures ∙ c.if-is_of.true)

pub returns-then-has_top-clause-taken : goal.returns-then-has_top-clause-taken
returns-then-has_top-clause-taken c =
    tops_first c.args.self.now.stack c.args.place c.top-top.result c.top-top.ensures (sym c.is_of.ensures ∙ c.if-is_of.false) (sym c.is_top.ensures ∙ c.if-is_top.true) (sym c.has_top.ensures.top ∙ c.if-has_top.true)

pub returns-else-is_top-clause-taken : goal.returns-else-is_top-clause-taken
returns-else-is_top-clause-taken c =
    elim c.else-is_top.branch [
      | else-is_top-via-then-is_top+else-has_top w ↦ one_top c.args.self.now.stack c.args.place c.top-top.result c.top-top.ensures (sym c.is_of.ensures ∙ c.if-is_of.false) (sym w.has_top.ensures.top ∙ w.if-has_top.false)
      | else-is_top-via-else-is_top w ↦ no_top c.args.self.now.stack c.args.place c.top-top.result c.top-top.ensures (sym c.is_of.ensures ∙ c.if-is_of.false) (sym c.is_top.ensures ∙ w.if-is_top.false)
    ]
