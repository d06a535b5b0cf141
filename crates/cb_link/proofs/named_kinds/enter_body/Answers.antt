use Rattle.std.proofs.Common.{◌∙◌, ◌++◌, ap, ℕ}
use Rattle.std.specs.List.{flat_map}
use Rattle.cb_insn.specs.declared.insn.Insn.{Insn}
use Rattle.cb_kinds.specs.Texts.{entered_all}
use Rattle.cb_link.specs.Making.{frame_kinds, handler_kinds, insn_kinds}
use Rattle.cb_link.proofs.KindedParts.{then_items, then_more}
use Rattle.cb_link.proofs.named_kinds.enter_body.Goals as goal

pub returns : goal.returns
returns c =
    let pool = c.args.pool.now in
    let body = c.args.body.now in
    then_more c.args.kinds.now c.enter_each-2.new.kinds c.enter_each-3.new.kinds
    (flat_map (λ (placed : ℕ × Insn). insn_kinds pool placed.1) body.code ++ flat_map (handler_kinds pool) body.handlers) (flat_map (frame_kinds pool) body.frames)
    (then_items (λ (placed : ℕ × Insn). insn_kinds pool placed.1) (handler_kinds pool) c.as_slice.result.now body.code c.as_slice-2.result.now body.handlers
    c.args.kinds.now c.enter_each.new.kinds c.enter_each-2.new.kinds c.as_slice.ensures c.as_slice-2.ensures c.in_ok-enter_each.ensures c.in_ok-enter_each-2.ensures)
    (c.in_ok-enter_each-3.ensures ∙ ap (λ frames. entered_all c.enter_each-2.new.kinds (flat_map (frame_kinds pool) frames)) c.as_slice-3.ensures)
