use Rattle.std.proofs.Common.{refl, sym, ap, length, arith, length-drop}
use Rattle.cb_insn.proofs.Walking.{marked_start, marked_more, whole_size}
use Rattle.cb_insn.proofs.starts.find_starts.Goals as goal

pub loop-pc-init : goal.loop-pc-init
loop-pc-init c = record { marked = marked_start _ _ (c.in_ok-marks.ensures.items_if_clones_equal (λ y same. same)); few = omega arith }

pub overflow_add-pc : goal.overflow_add-pc
overflow_add-pc c =
    let size = whole_size c.loop-pc.pc c.after.result.now c.in-Whole.size (sym c.in-Whole.ensures) in
    let rest = ap length c.after.ensures in
    record { fits = omega (arith, size.1, rest, length-drop c.loop-pc.pc c.args.bytes.now, c.requires) }

pub loop-pc-smaller : goal.loop-pc-smaller
loop-pc-smaller c =
    let size = whole_size c.loop-pc.pc c.after.result.now c.in-Whole.size (sym c.in-Whole.ensures) in
    let rest = ap length c.after.ensures in
    omega (arith, size.0, size.1, rest, length-drop c.loop-pc.pc c.args.bytes.now)

pub loop-pc-preserved : goal.loop-pc-preserved
loop-pc-preserved c =
    let size = whole_size c.loop-pc.pc c.after.result.now c.in-Whole.size (sym c.in-Whole.ensures) in
    record {
      marked = marked_more _ _ _ _ _ _ c.loop-pc.invariant.marked c.loop-pc-test.true c.after.ensures c.in-Whole.ensures refl;
      few = omega (arith, size.0, c.loop-pc.invariant.few);
    }
