use Rattle.std.proofs.Common.{refl, map, rules, arith, length-drop, FitsSigned}
use Rattle.std.specs.Int.{w32}
use Rattle.cb_insn.specs.Faults.{numbers_at}
use Rattle.cb_insn.specs.Inner.{target_of}
use Rattle.cb_insn.proofs.Marks.{walks_start, targets_step, next_missed, walked, handed_on}
use Rattle.cb_insn.proofs.target.targets_at.Goals as goal

pub loop-left-init : goal.loop-left-init
loop-left-init c = record { walks = rw c.in_ok-targets.ensures (walks_start _ _ _ _); there = c.requires.there }

pub loop-left-preserved : goal.loop-left-preserved
loop-left-preserved c =
    let fits : FitsSigned w32 c.s4_at.result = search rules in
    record {
      walks = targets_step _ _ _ _ _ _ _ _ _ _ _ c.loop-left.invariant.walks (omega arith) fits c.s4_at.ensures c.after-rest.ensures c.in_ok-target_at.ensures.ok c.in_ok-push.ensures.ok;
      there = rw c.after-rest.ensures (omega (arith, c.loop-left.invariant.there, length-drop 4 c.loop-left.rest.now));
    }

pub returns-in_err-target_at-clause-err : goal.returns-in_err-target_at-clause-err
returns-in_err-target_at-clause-err c =
    let fits : FitsSigned w32 c.s4_at.result = search rules in
    handed_on c.from_residual-in_err-target_at.result _ _ c.from_residual-in_err-target_at.ensures.1 (next_missed _ 4 _ _ _ _ _ _ c.loop-left.rest.now _ _ c.loop-left.invariant.walks (omega arith) fits c.s4_at.ensures c.in_err-target_at.ensures.err)

pub returns-clause-ok : goal.returns-clause-ok
returns-clause-ok c = walked _ 4 _ _ _ _ (λ n. map (target_of c.args.pc) (numbers_at 4 n c.loop-left.rest.now)) _ c.loop-left.rest.now c.loop-left.invariant.walks refl (omega arith)
