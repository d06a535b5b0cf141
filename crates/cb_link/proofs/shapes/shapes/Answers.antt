use Rattle.std.proofs.Common.{◌∙◌, ap, sym}
use Rattle.std.specs.Prelude.{slice_get}
use Rattle.cb_kinds.specs.Basics.{component_of}
use Rattle.cb_link.specs.Numbers.{or_none}
use Rattle.cb_link.specs.Slots.{shape, shape_with}
use Rattle.cb_link.proofs.Grown.{all_more}
use Rattle.cb_link.proofs.shapes.shapes.Goals as goal

pub loop-kind-preserved : goal.loop-kind-preserved
loop-kind-preserved c =
    let program = c.args.base.now in
    let kind = c.loop-kind.kind in
    all_more kind (shape program) c.loop-kind.shapes c.push.new.self c.in_ok-shape_of_name.field-0 c.loop-kind.invariant
    (c.in_ok-shape_of_name.ensures
    ∙ ap (λ name. shape_with program name (component_of program.kinds name)) (ap or_none (sym c.text-name.ensures ∙ ap (λ program. slice_get program.kinds kind) c.base.view_is)))
    c.in_ok-push.ensures.ok
