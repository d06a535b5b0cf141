use Rattle.std.proofs.Common.{List, map, sym, ap, ◌∙◌, arith}
use Rattle.cb_classfile.specs.declared.method.Method.{Method}
use Rattle.cb_hierarchy.specs.Resolution.{first_some}
use Rattle.cb_link.specs.InnerLacked.{body_lacks}
use Rattle.cb_link.proofs.LackedLaws.{first_here, none_here}
use Rattle.cb_link.proofs.lacking.class_lacks.Goals as goal

pub returns-in-Some : goal.returns-in-Some
returns-in-Some c =
    let f = λ (method : Method). body_lacks c.args.resolver.now c.args.number c.args.class.now.pool method.body in
    sym (ap (λ (methods : List Method). first_some (map f methods)) (sym c.as_slice-method-items.ensures)
    ∙ first_here f c.as_slice-method-items.result.now c.loop-method.method-index c.method-item.result c.in-Some.text (omega arith) c.loop-method.invariant
    (ap f (sym c.method-item.is) ∙ sym c.in_ok-text.ensures ∙ c.in-Some.is))

pub loop-method-preserved : goal.loop-method-preserved
loop-method-preserved c =
    let f = λ (method : Method). body_lacks c.args.resolver.now c.args.number c.args.class.now.pool method.body in
    none_here f c.as_slice-method-items.result.now c.loop-method.method-index c.method-item.result (omega arith) c.loop-method.invariant
    (ap f (sym c.method-item.is) ∙ sym c.in_ok-text.ensures ∙ c.in_default.is)
