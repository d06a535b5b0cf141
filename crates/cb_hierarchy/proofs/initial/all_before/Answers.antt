use Rattle.std.proofs.Common.{◌∙◌, Some, ap, sym}
use Rattle.std.proofs.lemmas.Option.{slice_get-get_or}
use Rattle.cb_hierarchy.proofs.initial.all_before.Goals as goal

pub before-requires : goal.before-requires
before-requires c =
    λ number among. c.requires c.loop-class.class-index number c.class-item.result
    (slice_get-get_or c.args.classes.now c.loop-class.class-index c.class-item.result c.loop-class-test.true ∙ ap Some (sym c.class-item.is)) among
