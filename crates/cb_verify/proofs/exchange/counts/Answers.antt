use Rattle.std.proofs.Common.{◌∙◌, ap, arith, replicate, take}
use Rattle.cb_shapes.specs.declared.sort.Sort.TheVariants as sorts
use Rattle.cb_verify.proofs.Prefixes.{take_filled}
use Rattle.cb_verify.proofs.exchange.counts.Goals as goal

pub returns : goal.returns
returns c =
    ap (λ few. take few (replicate 255 sorts.Int)) c.from.ensures
    ∙ take_filled c.args.dimensions 255 sorts.Int (omega (arith, c.ranges.dimensions.fits))
