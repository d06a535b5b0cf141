use Rattle.std.proofs.Common.{◌+◌, length, subst, arith}
use Rattle.std.specs.Prelude.{IfErr}
use Rattle.cb_link.specs.Inner.{IsTooMany}
use Rattle.cb_link.specs.InnerSites.{Exceeds, body_makings}
use Rattle.cb_link.proofs.Handed.{handed_from}
use Rattle.cb_link.proofs.SitedLaws.{exceeds, grown, methods_fit, methods_grow, methods_make, refused_more}
use Rattle.cb_link.proofs.sites.add_class.Goals as goal

pub loop-method-preserved : goal.loop-method-preserved
loop-method-preserved c =
    let pool = c.args.class.now.pool in
    let methods = c.as_slice-methods.result.now in
    let place = c.loop-method.method-index in
    record {
      number = let next = c.in_ok-number.ensures.more in let before = c.loop-method.invariant.number in omega (arith, next, before);
      sites = grown c.args.kinds.now c.args.sites.now c.loop-method.sites _ (body_makings c.loop-method.number pool c.method-item.result.body) _ c.loop-method.invariant.sites
          (methods_grow pool c.args.first methods place c.loop-method.number c.method-item.result c.loop-method.invariant.number c.loop-method-test.true c.method-item.is)
          c.add_method.new.sites c.in_ok-add_method.ensures.added;
    }

pub returns-in_err-add_method-clause-refused : goal.returns-in_err-add_method-clause-refused
returns-in_err-add_method-clause-refused c =
    let pool = c.args.class.now.pool in
    let methods = c.as_slice-methods.result.now in
    let place = c.loop-method.method-index in
    subst (λ methods. IfErr c.from_residual.result (IsTooMany (Exceeds c.args.sites.now (length (methods_make pool c.args.first methods))))) c.as_slice-methods.ensures
    (handed_from _ _ c.add_method.result _ c.from_residual.ensures c.in_err-add_method.was
    (refused_more _ _
    (exceeds c.args.kinds.now c.args.sites.now c.loop-method.sites _ (body_makings c.loop-method.number pool c.method-item.result.body) _ c.loop-method.invariant.sites
    (methods_grow pool c.args.first methods place c.loop-method.number c.method-item.result c.loop-method.invariant.number c.loop-method-test.true c.method-item.is)
    (methods_make pool c.args.first methods) (methods_fit pool c.args.first methods (place + 1)))
    c.add_method.result c.add_method.ensures.refused))
