use Rattle.std.proofs.Common.{◌≡◌, ◌∙◌, ℕ, ◌+◌, ◌-◌, ◌<◌, length, ap, subst, arith}
use Rattle.cb_blocks.specs.Parted.{IsOpened}
use Rattle.cb_blocks.specs.Rows.{held, row}
use Rattle.cb_blocks.proofs.Opened.{opened_more}
use Rattle.cb_blocks.proofs.Rowed.{held_pushed, length_pushed, parts_extended}
use Rattle.cb_blocks.proofs.blocks.open.Goals as goal

pub loop-blocks-preserved : goal.loop-blocks-preserved
loop-blocks-preserved c =
    let was = c.loop-blocks.invariant.opened in
    let more : ℕ = length (row c.loop-blocks.blocks.rows c.args.part) - length (row c.args.blocks.now.rows c.args.part) in
    let here : c.args.part < length c.loop-blocks.blocks.rows = omega (arith, c.requires.part, parts_extended c.args.blocks.now.rows c.loop-blocks.blocks.rows c.args.part (length (row c.loop-blocks.blocks.rows c.args.part) - length (row c.args.blocks.now.rows c.args.part)) was.rows) in
    let long : length (row c.take-block.new.self.rows c.args.part) ≡ length (row c.loop-blocks.blocks.rows c.args.part) + 1 =
    ap (λ r. length (row r c.args.part)) c.take-block.ensures.rows ∙ length_pushed c.loop-blocks.blocks.rows c.args.part c.take-block.result here in
    let counts : more + 1 ≡ length (row c.take-block.new.self.rows c.args.part) - length (row c.args.blocks.now.rows c.args.part) = omega (arith, long, c.loop-blocks.invariant.longer) in
    record {
      opened = subst (λ n. IsOpened c.args.region.now c.args.blocks.now c.zero.new.self c.take-block.new.self c.args.part n) counts
          (opened_more c.args.region.now c.args.blocks.now c.loop-blocks.region c.loop-blocks.blocks c.zero.new.self c.take-block.new.self c.args.part more c.take-block.result c.requires.part c.requires.whole was
          c.take-block.ensures.rows c.take-block.ensures.fresh c.take-block.ensures.count c.take-block.ensures.longest c.take-block.ensures.sound c.zero.ensures.words c.zero.ensures.touched);
      longer = omega (arith, long, c.loop-blocks.invariant.longer);
      far = omega (arith, long, c.loop-blocks.invariant.far, c.loop-blocks-test.true, c.len.ensures);
      room = omega (arith, long, c.loop-blocks.invariant.room, ap held c.take-block.ensures.rows, held_pushed c.loop-blocks.blocks.rows c.args.part c.take-block.result here, c.take-block.ensures.count);
    }
