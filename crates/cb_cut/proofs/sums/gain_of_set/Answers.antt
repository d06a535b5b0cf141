use Rattle.std.proofs.Common.{◌≡◌, ◌∙◌, arith, false, get_or, ◌^◌}
use Rattle.std.specs.Prelude.{pos}
use Rattle.std.proofs.lemmas.Int.{ints}
use Rattle.std.proofs.lemmas.Option.{get_or_from_slice_get}
use Rattle.cb_dag.specs.Marks.{marked}
use Rattle.cb_cut.proofs.Gained.{gain_bounds, gain_in, gain_out}
use Rattle.cb_cut.proofs.sums.gain_of_set.Goals as goal
use Rattle.cb_cut.proofs.sums.gain_of_set.Goals.{then-has, else-has}

pub loop-part-preserved : goal.loop-part-preserved
loop-part-preserved c =
    let read : marked c.args.set.now c.loop-part.part ≡ c.has.result = get_or_from_slice_get c.args.set.now c.loop-part.part c.has.result false c.has.ensures in
    let bounds = gain_bounds (get_or c.args.gains.now c.loop-part.part (pos 0)) (2 ^ 28) (c.requires.low c.loop-part.part (pos 0) (omega arith)) (c.requires.high c.loop-part.part (pos 0) (omega arith)) in
    elim c.if-has.branch [
      | then-has w ↦
          let step = gain_in c.args.gains.now c.args.set.now c.loop-part.part (omega arith) c.requires.each (read ∙ w.if-has.true) in (
            omega (arith, ints, step, w.gained-is, w.from-gained.ensures, c.loop-part.invariant.0, c.loop-part.invariant.1, c.loop-part.invariant.2, bounds.0, bounds.1),
            omega (arith, ints, w.gained-is, w.from-gained.ensures, c.loop-part.invariant.1, c.loop-part.invariant.2, bounds.0, bounds.1),
            omega (arith, ints, w.gained-is, w.from-gained.ensures, c.loop-part.invariant.1, c.loop-part.invariant.2, bounds.0, bounds.1),
          )
      | else-has w ↦
          let step = gain_out c.args.gains.now c.args.set.now c.loop-part.part (omega arith) c.requires.each (read ∙ w.if-has.false) in
          (omega (arith, ints, step, w.gained-is, c.loop-part.invariant.0), omega (arith, ints, w.gained-is, c.loop-part.invariant.1), omega (arith, ints, w.gained-is, c.loop-part.invariant.2))
    ]
