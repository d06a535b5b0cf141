use Rattle.std.proofs.Common.{◌∙◌, ap}
use Rattle.std.specs.List.{flat_map}
use Rattle.cb_kinds.specs.Kinds.{kinds_of_name}
use Rattle.cb_kinds.specs.Texts.{entered_all}
use Rattle.cb_link.specs.InnerOperands.{named_kinds}
use Rattle.cb_link.specs.Making.{made_by}
use Rattle.cb_link.proofs.KindedParts.{then_more}
use Rattle.cb_link.proofs.named_kinds.Tuple2U32InsnKinded.enter.Goals as goal

pub returns : goal.returns
returns c =
    let pool = c.args.pool.now in
    let insn = c.args.self.now.1 in
    then_more c.args.kinds.now c.enter_operand.new.kinds c.enter_each.new.kinds (named_kinds pool insn.operand) (flat_map kinds_of_name (made_by pool insn)) c.in_ok-enter_operand.ensures
    (c.in_ok-enter_each.ensures ∙ ap (λ made. entered_all c.enter_operand.new.kinds (flat_map kinds_of_name made)) (c.as_slice.ensures ∙ c.in_ok-made.ensures))
