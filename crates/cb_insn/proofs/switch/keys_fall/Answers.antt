use Rattle.std.proofs.Common.{sym, ◌∙◌, arith, rules, FitsSigned, length-drop}
use Rattle.std.specs.Int.{w32}
use Rattle.std.proofs.lemmas.Int.{to_z-of_z}
use Rattle.cb_insn.proofs.Counts.{keys_on, keys_stop, keys_few}
use Rattle.cb_insn.proofs.switch.keys_fall.Goals as goal

pub loop-left-preserved : goal.loop-left-preserved
loop-left-preserved c =
    let one : FitsSigned w32 c.s4_at.result = search rules in
    let two : FitsSigned w32 c.s4_at-in-loop-left.result = search rules in
    let rises = simp to_z-of_z at c.if-s4_at.false in
    record {
      same = c.loop-left.invariant.same ∙ keys_on _ _ _ _ _ (omega arith) c.after-next.ensures c.s4_at.ensures c.s4_at-in-loop-left.ensures rises;
      there = rw c.after-next.ensures (omega (arith, c.loop-left.invariant.there, length-drop 8 c.loop-left.rest.now));
    }

pub returns-then-s4_at : goal.returns-then-s4_at
returns-then-s4_at c =
    let one : FitsSigned w32 c.s4_at.result = search rules in
    let two : FitsSigned w32 c.s4_at-in-loop-left.result = search rules in
    let falls = simp to_z-of_z at c.if-s4_at.true in
    sym (c.loop-left.invariant.same ∙ keys_stop c.loop-left.left _ _ _ _ (omega arith) c.after-next.ensures c.s4_at.ensures c.s4_at-in-loop-left.ensures falls)

pub returns : goal.returns
returns c = sym (c.loop-left.invariant.same ∙ keys_few c.loop-left.left c.loop-left.rest.now (omega arith))
