use Rattle.std.proofs.Common.{◌+◌, ◌-◌, ◌/◌, refl, inl, inr, sym, subst, add-one, arith}
use Rattle.cb_asm.specs.BadLines.{CanStand}
use Rattle.cb_asm.proofs.Fronts.{all_fall, end_within, first_bad, middle_falls, middle_stands}
use Rattle.cb_asm.proofs.bad_line.bad_line.Goals as goal

pub halves-init : goal.halves-init
halves-init c =
    (omega arith, omega arith, inl refl, all_fall c.args.text.now c.in_ok-ends.ends.items c.as_slice-ends.result.now c.in_ok-ends.ensures c.as_slice-ends.ensures.value c.requires)

pub slice_bounds-can_stand-end : goal.slice_bounds-can_stand-end
slice_bounds-can_stand-end c = end_within c.args.text.now c.in_ok-ends.ends.items c.as_slice-ends.result.now c.in_ok-ends.ensures _ c.as_slice-ends.ensures.value (omega (arith, c.halves-test.true, c.halves.invariant.1))

pub halves-preserved-then-branch : goal.halves-preserved-then-branch
halves-preserved-then-branch c =
    let middle = c.halves.stand + (c.halves.fall - c.halves.stand) / 2 in
    (omega (arith, c.halves-test.true), c.halves.invariant.1, inr (subst (CanStand c.args.text.now) (sym (add-one middle)) (middle_stands c.args.text.now c.in_ok-ends.ends.items c.as_slice-ends.result.now c.in_ok-ends.ensures middle c.as_slice-ends.ensures.value (omega (arith, c.halves-test.true, c.halves.invariant.1)) (c.in_ok-can_stand.ensures.stands c.if-branch.true))), c.halves.invariant.3)

pub halves-preserved : goal.halves-preserved
halves-preserved c =
    let middle = c.halves.stand + (c.halves.fall - c.halves.stand) / 2 in
    (omega arith, omega (arith, c.halves-test.true, c.halves.invariant.1), c.halves.invariant.2, middle_falls c.fronts_close.ensures c.args.text.now c.in_ok-ends.ends.items c.as_slice-ends.result.now c.in_ok-ends.ensures middle c.as_slice-ends.ensures.value (omega (arith, c.halves-test.true, c.halves.invariant.1)) (c.in_ok-can_stand.ensures.falls c.if-branch.false))

pub returns : goal.returns
returns c = first_bad c.args.text.now c.halves.stand c.halves.fall c.halves.invariant.2 c.halves.invariant.3 c.halves.invariant.0 c.halves-test.false
