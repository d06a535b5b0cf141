use Rattle.std.proofs.Common.{◌∙◌, ap}
use Rattle.cb_kinds.specs.Texts.{entered}
use Rattle.cb_link.specs.Numbers.{name_of}
use Rattle.cb_link.proofs.KindedParts.{then_text}
use Rattle.cb_link.proofs.kinds.enter_names.Goals as goal

pub loop-class-preserved : goal.loop-class-preserved
loop-class-preserved c =
    then_text name_of c.args.classes.now c.loop-class.class-index c.class-item.result c.args.names.now c.loop-class.names c.enter.new.self
    c.loop-class-test.true c.class-item.is c.loop-class.invariant (c.in_ok-enter.ensures.entered ∙ ap (entered c.loop-class.names) c.name_of.ensures)
