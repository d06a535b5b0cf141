use Rattle.std.proofs.Common.{◌∙◌, ap, ◌++◌, map}
use Rattle.cb_link.specs.Numbers.{texts_in}
use Rattle.cb_link.specs.InnerRanks.{texts_of_fields}
use Rattle.cb_link.proofs.Ranks.{flat_grows}
use Rattle.cb_link.proofs.ranked.field_texts.Goals as goal

pub loop-class-preserved : goal.loop-class-preserved
loop-class-preserved c =
    flat_grows texts_of_fields c.args.classes.now c.loop-class.class-index c.class-item.result c.class-item.result c.loop-class.texts c.push_field_texts.new.texts c.loop-class-test.true c.class-item.is
    c.loop-class.invariant
    (c.in_ok-push_field_texts.ensures ∙ ap (λ fields. c.loop-class.texts ++ map (λ field. texts_in c.class-item.result.pool field.name field.descriptor) fields) c.as_slice.ensures)
