use Rattle.std.proofs.Common.{◌∙◌, ap, sym, subst, arith, cond, length}
use Rattle.cb_verify.specs.Frames.{is_same}
use Rattle.cb_verify.specs.InnerLocals.{IsKnownTo}
use Rattle.cb_verify.proofs.FrameLists.{split_kept, split_length, split_put}
use Rattle.cb_verify.proofs.Known.{replaced_known}
use Rattle.cb_verify.proofs.locals.Locals.replaced.Goals as goal
use Rattle.cb_verify.proofs.locals.Locals.replaced.Goals.{then-is_same+in_ok-all-2, else-is_same}

pub with-requires : goal.with-requires
with-requires c =
    let size = ap length c.self.view_is in
    omega (
      arith,
      size,
      split_length (λ own. cond (is_same c.args.old own) c.args.new own) c.args.self.now c.loop-place.all c.loop-place.place (omega (arith, size)) c.loop-place.invariant,
    )

pub loop-place-preserved : goal.loop-place-preserved
loop-place-preserved c = elim c.if-is_same.branch [
  | then-is_same+in_ok-all-2 w ↦
      w.all-is ∙ w.in_ok-all-2.ensures
      ∙ split_put (λ own. cond (is_same c.args.old own) c.args.new own) c.args.self.now c.loop-place.all c.loop-place.place c.get.result c.args.new c.get.ensures
      (ap (λ same. cond same c.args.new c.get.result) (sym c.is_same.ensures ∙ w.if-is_same.true)) c.loop-place.invariant
  | else-is_same w ↦
      w.all-is
      ∙ split_kept (λ own. cond (is_same c.args.old own) c.args.new own) c.args.self.now c.loop-place.all c.loop-place.place c.get.result c.get.ensures
      (ap (λ same. cond same c.args.new c.get.result) (sym c.is_same.ensures ∙ w.if-is_same.false)) c.loop-place.invariant
]

pub returns : goal.returns
returns c =
    replaced_known c.args.old c.args.new c.args.self.now c.loop-place.all c.self.inside.known c.loop-place.place
    (subst (λ types. IsKnownTo c.self.inside.known types) c.self.view_is c.self.invariant) (omega arith) (omega arith) c.loop-place.invariant
