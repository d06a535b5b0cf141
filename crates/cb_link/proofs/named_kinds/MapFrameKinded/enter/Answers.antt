use Rattle.std.proofs.Common.{◌∙◌, ap, sym}
use Rattle.std.proofs.lemmas.Grind.{flat_map-append}
use Rattle.cb_kinds.specs.Texts.{entered_all}
use Rattle.cb_link.specs.Making.{type_kinds}
use Rattle.cb_link.proofs.KindedParts.{then_items}
use Rattle.cb_link.proofs.named_kinds.MapFrameKinded.enter.Goals as goal

pub returns : goal.returns
returns c =
    let part = type_kinds c.args.pool.now in
    let frame = c.args.self.now in
    then_items part part c.as_slice.result.now frame.locals c.as_slice-2.result.now frame.stack
    c.args.kinds.now c.enter_each.new.kinds c.enter_each-2.new.kinds c.as_slice.ensures c.as_slice-2.ensures c.in_ok-enter_each.ensures c.in_ok-enter_each-2.ensures
    ∙ ap (entered_all c.args.kinds.now) (sym (flat_map-append part frame.locals frame.stack))
