use Rattle.std.proofs.Common.{◌∙◌, ap}
use Rattle.cb_kinds.specs.Kinds.{kinds_of_name}
use Rattle.cb_kinds.specs.Texts.{entered_all}
use Rattle.cb_link.proofs.KindedParts.{then_at}
use Rattle.cb_link.proofs.fixed.enter_named.Goals as goal

pub loop-name-preserved : goal.loop-name-preserved
loop-name-preserved c =
    then_at (λ name. kinds_of_name name.now) c.args.names.now c.loop-name.name-index _ c.args.kinds.now c.loop-name.kinds c.enter_kinds_of_name.new.kinds
    c.loop-name-test.true c.loop-name.invariant
    (c.in_ok-enter_kinds_of_name.ensures ∙ ap (λ name. entered_all c.loop-name.kinds (kinds_of_name name)) (c.deref.ensures.value ∙ c.in_ok-units_of_name.ensures))
