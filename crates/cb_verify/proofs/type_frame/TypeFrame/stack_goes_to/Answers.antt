use Rattle.std.proofs.Common.{nat_eq, sym, subst, arith}
use Rattle.std.specs.Prelude.{◌≡◌}
use Rattle.cb_verify.specs.Frames.{stack_goes_to}
use Rattle.cb_verify.proofs.StackWords.{compared_to_end, next_failed, next_taken}
use Rattle.cb_verify.proofs.type_frame.TypeFrame.stack_goes_to.Goals as goal

pub overflow_add-behind : goal.overflow_add-behind
overflow_add-behind c = omega (arith, c.in-Some.ensures.within, c.depth-all.ensures)

pub returns-in-None : goal.returns-in-None
returns-in-None c =
    next_failed c.args.program.now c.args.self.now.stack c.args.other.now.stack c.loop-place.place c.loop-place.behind c.top.result _ c.top.ensures c.in-None.ensures.taken c.loop-place.invariant.1

pub loop-place-preserved : goal.loop-place-preserved
loop-place-preserved c =
    (c.in-Some.ensures.within, next_taken c.args.program.now c.args.self.now.stack c.args.other.now.stack c.loop-place.place c.loop-place.behind c.in-Some.count c.top.result _ c.top.ensures c.in-Some.ensures.taken c.loop-place.invariant.1)

pub returns : goal.returns
returns c =
    subst (λ depth. nat_eq c.loop-place.behind depth ≡ stack_goes_to c.args.program.now c.args.self.now.stack c.args.other.now.stack) (sym c.depth-all.ensures)
    (compared_to_end c.args.program.now c.args.self.now.stack c.args.other.now.stack c.loop-place.place c.loop-place.behind _ (omega arith) c.loop-place.invariant.0 c.loop-place.invariant.1)
