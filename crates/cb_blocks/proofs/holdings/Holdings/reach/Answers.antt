use Rattle.std.proofs.Common.{◌≡◌, ◌∙◌, ◌+◌, ◌-◌, length, refl, sym, ap, arith, subst, length-set}
use Rattle.cb_blocks.specs.Rows.{IsExtended, held, row}
use Rattle.cb_blocks.proofs.Rowed.{extended_more, held_pushed, length_pushed, not_extended}
use Rattle.cb_blocks.proofs.holdings.Holdings.reach.Goals as goal

pub loop-self-init : goal.loop-self-init
loop-self-init g c =
    record { rows = not_extended c.args.self.now.rows c.args.part _ (omega arith); longer = omega arith; far = omega arith; parts = refl; room = c.requires.free; all = refl; longest = refl; sound = c.requires.sound }

pub loop-self-preserved : goal.loop-self-preserved
loop-self-preserved g c =
    let long : length (row c.take.new.self.rows c.args.part) ≡ length (row c.loop-self.self.rows c.args.part) + 1 =
    ap (λ r. length (row r c.args.part)) c.take.ensures.rows ∙ length_pushed c.loop-self.self.rows c.args.part c.take.result (omega (arith, c.requires.part, c.loop-self.invariant.parts)) in
    let more = extended_more c.args.self.now.rows c.loop-self.self.rows c.args.part (length (row c.loop-self.self.rows c.args.part) - length (row c.args.self.now.rows c.args.part)) c.take.result c.requires.part c.loop-self.invariant.rows in
    let counts : length (row c.loop-self.self.rows c.args.part) - length (row c.args.self.now.rows c.args.part) + 1 ≡ length (row c.take.new.self.rows c.args.part) - length (row c.args.self.now.rows c.args.part) = omega (arith, long, c.loop-self.invariant.longer) in
    record {
      rows = subst (λ n. IsExtended c.args.self.now.rows c.take.new.self.rows c.args.part n) counts (subst (λ r. IsExtended c.args.self.now.rows r c.args.part (length (row c.loop-self.self.rows c.args.part) - length (row c.args.self.now.rows c.args.part) + 1)) (sym c.take.ensures.rows) more);
      longer = omega (arith, long, c.loop-self.invariant.longer);
      far = omega (arith, long, c.loop-self.invariant.far, c.loop-self-test.true, c.len.ensures);
      parts = ap length c.take.ensures.rows ∙ length-set c.loop-self.self.rows c.args.part _ ∙ c.loop-self.invariant.parts;
      room = omega (arith, long, c.loop-self.invariant.room, ap held c.take.ensures.rows, held_pushed c.loop-self.self.rows c.args.part c.take.result (omega (arith, c.requires.part, c.loop-self.invariant.parts)), c.take.ensures.count);
      all = c.take.ensures.count ∙ c.loop-self.invariant.all;
      longest = c.take.ensures.longest ∙ c.loop-self.invariant.longest;
      sound = c.take.ensures.sound;
    }
