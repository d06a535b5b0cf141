use Rattle.std.proofs.Common.{◌≡◌, ◌∙◌, ◌<◌, ◌-◌, ◌+◌, arith, length, sym}
use Rattle.cb_interp.proofs.TurnsNativeUnits.{cut_end, cut_high, cut_whole}
use Rattle.cb_interp.proofs.string_text.whole_front.Goals as goal

pub returns-then-ends-clause-cut : goal.returns-then-ends-clause-cut
returns-then-ends-clause-cut c = λ rest none. cut_end c.args.units.now rest (none c.if-ends.true)

pub returns-then-is_high-clause-cut : goal.returns-then-is_high-clause-cut
returns-then-is_high-clause-cut c = λ rest none.
    let low : length c.args.units.now - 1 < length c.args.units.now = omega (arith, c.requires.some) in
    cut_high c.args.units.now (length c.args.units.now - 1) low (sym c.is_high.ensures ∙ c.if-is_high.true) rest

pub returns-clause-cut : goal.returns-clause-cut
returns-clause-cut c = λ rest none.
    let size : length c.args.units.now ≡ length c.args.units.now - 1 + 1 = omega (arith, c.requires.some) in
    cut_whole c.args.units.now (length c.args.units.now - 1) size (sym c.is_high.ensures ∙ c.if-is_high.false) rest
