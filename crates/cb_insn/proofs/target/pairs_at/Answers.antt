use Rattle.std.proofs.Common.{refl, drop, ◌∙◌, ap, rules, arith, length-drop, FitsSigned}
use Rattle.std.specs.Int.{w32}
use Rattle.cb_insn.specs.Faults.{s4_at}
use Rattle.cb_insn.specs.Inner.{pairs_of}
use Rattle.cb_insn.proofs.Marks.{walks_start, pairs_step, next_missed, walked, handed_on}
use Rattle.cb_insn.proofs.target.pairs_at.Goals as goal

pub loop-left-init : goal.loop-left-init
loop-left-init c = record { walks = rw c.in_ok-pairs.ensures (walks_start _ _ _ _); there = c.requires.there }

pub s4_at-requires : goal.s4_at-requires
s4_at-requires c = rw c.after.ensures (omega (arith, c.loop-left.invariant.there, length-drop 4 c.loop-left.rest.now))

pub loop-left-preserved : goal.loop-left-preserved
loop-left-preserved c =
    let key_fits : FitsSigned w32 c.s4_at-key.result = search rules in
    let fits : FitsSigned w32 c.s4_at.result = search rules in
    let is_offset = c.s4_at.ensures ∙ ap s4_at c.after.ensures in
    record {
      walks = pairs_step _ _ _ _ _ _ _ _ _ _ _ _ c.loop-left.invariant.walks (omega arith) key_fits c.s4_at-key.ensures fits is_offset c.after-rest.ensures c.in_ok-target.ensures.ok c.in_ok-push.ensures.ok;
      there = rw c.after-rest.ensures (omega (arith, c.loop-left.invariant.there, length-drop 8 c.loop-left.rest.now));
    }

pub returns-in_err-target-clause-err : goal.returns-in_err-target-clause-err
returns-in_err-target-clause-err c =
    let fits : FitsSigned w32 c.s4_at.result = search rules in
    let is_offset = c.s4_at.ensures ∙ ap s4_at c.after.ensures in
    handed_on c.from_residual-in_err-target.result _ _ c.from_residual-in_err-target.ensures.1 (next_missed _ 8 _ _ _ _ _ _ (drop 4 c.loop-left.rest.now) _ _ c.loop-left.invariant.walks (omega arith) fits is_offset c.in_err-target.ensures.err)

pub returns-clause-ok : goal.returns-clause-ok
returns-clause-ok c = walked _ 8 _ _ _ _ (λ n. pairs_of c.args.pc n c.loop-left.rest.now) _ (drop 4 c.loop-left.rest.now) c.loop-left.invariant.walks refl (omega arith)
