use Rattle.std.proofs.Common.{◌∙◌, ◌+◌, [], ◌∷◌, ◌++◌, sym, subst}
use Rattle.cb_link.specs.Slots.{shape}
use Rattle.cb_runner.proofs.CopiedLists.{AreUpTo, none_yet, one_more}
use Rattle.cb_runner.proofs.shapes.shapes_of.Goals as goal

pub loop-kind-init : goal.loop-kind-init
loop-kind-init c = subst (AreUpTo (shape c.args.program.now) 0) (sym c.new-shapes.ensures) (none_yet (shape c.args.program.now))

pub loop-kind-preserved : goal.loop-kind-preserved
loop-kind-preserved c =
    let pushed : AreUpTo (shape c.args.program.now) (c.loop-kind.kind + 1) (c.loop-kind.shapes ++ c.in_ok-shape.shape ∷ []) =
    one_more (shape c.args.program.now) c.loop-kind.kind c.loop-kind.shapes c.in_ok-shape.shape c.loop-kind.invariant (c.in_ok-shape.ensures ∙ c.shape.ensures) in
    subst (AreUpTo (shape c.args.program.now) (c.loop-kind.kind + 1)) (sym c.in_ok-push.ensures.ok) pushed
