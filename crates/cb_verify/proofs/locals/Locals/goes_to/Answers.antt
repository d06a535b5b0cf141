use Rattle.std.proofs.Common.{refl, sym, subst, arith}
use Rattle.std.specs.Cmp.Lexicographic.{unequal}
use Rattle.cb_verify.specs.InnerLocals.{IsKnownTo}
use Rattle.cb_verify.specs.Types.{goes_to}
use Rattle.cb_verify.proofs.FrameLists.{pair_failed, pair_left}
use Rattle.cb_verify.proofs.Known.{pairs_known}
use Rattle.cb_verify.proofs.locals.Locals.goes_to.Goals as goal

pub returns-then-len : goal.returns-then-len
returns-then-len c = sym (unequal (goes_to c.args.program.now) c.args.self.now c.args.other.now (λ same. c.if-len.true (omega (arith, same))))

pub returns-then-not-goes_to : goal.returns-then-not-goes_to
returns-then-not-goes_to c =
    pair_failed (goes_to c.args.program.now) c.args.self.now c.args.other.now c.loop-number.number
    c.get.result c.get-in-loop-number.result c.goes_to.result _ c.get.ensures c.get-in-loop-number.ensures c.goes_to.ensures c.if-not-goes_to.true c.loop-number.invariant

pub loop-number-preserved : goal.loop-number-preserved
loop-number-preserved c =
    pair_left (goes_to c.args.program.now) c.args.self.now c.args.other.now c.loop-number.number
    c.get.result c.get-in-loop-number.result c.goes_to.result _ c.get.ensures c.get-in-loop-number.ensures c.goes_to.ensures c.if-not-goes_to.false c.loop-number.invariant

pub returns : goal.returns
returns c =
    pairs_known (goes_to c.args.program.now) (λ one. refl) c.args.self.now c.args.other.now c.other.inside.known c.loop-number.number _
    (subst (λ types. IsKnownTo c.other.inside.known types) c.other.view_is c.other.invariant) (omega arith) (omega arith) (omega arith) c.loop-number.invariant
