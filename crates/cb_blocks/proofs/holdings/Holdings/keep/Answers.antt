use Rattle.std.proofs.Common.{◌≡◌, ◌∙◌, ◌-◌, ◌<◌, length, set, take, refl, sym, ap, arith, length-set}
use Rattle.cb_blocks.specs.Rows.{row}
use Rattle.cb_blocks.proofs.Rowed.{cut_more, length_popped, not_cut}
use Rattle.cb_blocks.proofs.holdings.Holdings.keep.Goals as goal

pub loop-self-init : goal.loop-self-init
loop-self-init g c =
    record { rows = not_cut c.args.self.now.rows c.args.part _ (omega arith); within = omega arith; far = omega arith; parts = refl; fresh = refl; all = refl; longest = refl; sound = c.requires.sound }

pub loop-self-preserved : goal.loop-self-preserved
loop-self-preserved g c =
    let here : c.args.part < length c.loop-self.self.rows = omega (arith, c.requires.part, c.loop-self.invariant.parts) in
    let long : length (row c.give.new.self.rows c.args.part) ≡ length (row c.loop-self.self.rows c.args.part) - 1 =
    ap (λ r. length (row r c.args.part)) c.give.ensures.rows ∙ length_popped c.loop-self.self.rows c.args.part here in
    let cut = cut_more c.args.self.now.rows c.loop-self.self.rows c.args.part (length (row c.loop-self.self.rows c.args.part)) c.requires.part (omega (arith, c.loop-self-test.true, c.len.ensures)) c.loop-self.invariant.within c.loop-self.invariant.rows in
    record {
      rows = c.give.ensures.rows ∙ cut ∙ ap (λ n. set c.args.self.now.rows c.args.part (take n (row c.args.self.now.rows c.args.part))) (sym long);
      within = omega (arith, long, c.loop-self.invariant.within);
      far = omega (arith, long, c.loop-self.invariant.far, c.loop-self-test.true, c.len.ensures);
      parts = ap length c.give.ensures.rows ∙ length-set c.loop-self.self.rows c.args.part _ ∙ c.loop-self.invariant.parts;
      fresh = c.give.ensures.fresh ∙ c.loop-self.invariant.fresh;
      all = c.give.ensures.count ∙ c.loop-self.invariant.all;
      longest = c.give.ensures.longest ∙ c.loop-self.invariant.longest;
      sound = c.give.ensures.sound;
    }
