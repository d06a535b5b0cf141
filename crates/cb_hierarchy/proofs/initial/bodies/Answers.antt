use Rattle.std.proofs.Common.{◌∙◌, ap, nat_eq}
use Rattle.std.specs.HashSet.{contains}
use Rattle.cb_hierarchy.proofs.InitialLaws.{with_body, without_body}
use Rattle.cb_hierarchy.proofs.initial.bodies.Goals as goal
use Rattle.cb_hierarchy.proofs.initial.bodies.Goals.{then-is_body+in_ok-insert, else-is_body}

pub loop-number-preserved : goal.loop-number-preserved
loop-number-preserved c =
    λ class. elim c.if-is_body.branch [
      | then-is_body+in_ok-insert w ↦
          with_body c.args.methods.now c.loop-number.number c.method-method.result.now class (contains nat_eq c.loop-number.bodies class) _ c.is_body.result c.method-method.ensures
          c.is_body.ensures w.if-is_body.true (c.loop-number.invariant class) (ap (λ bodies. contains nat_eq bodies class) w.bodies-is ∙ w.in_ok-insert.ensures.updates.0 class)
      | else-is_body w ↦
          ap (λ bodies. contains nat_eq bodies class) w.bodies-is
          ∙ without_body c.args.methods.now c.loop-number.number c.method-method.result.now class (contains nat_eq c.loop-number.bodies class) c.is_body.result c.method-method.ensures
          c.is_body.ensures w.if-is_body.false (c.loop-number.invariant class)
    ]
