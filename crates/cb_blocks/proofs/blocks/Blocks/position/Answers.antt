use Rattle.std.proofs.Common.{ℕ, ◌/◌, sym, subst, arith}
use Rattle.cb_blocks.specs.Parted.{IsAt, Parted}
use Rattle.cb_blocks.proofs.Parted.{at_block, parts_of}
use Rattle.cb_blocks.proofs.blocks.Blocks.position.Goals as goal

pub place_of-block-requires : goal.place_of-block-requires
place_of-block-requires c =
    let is : (part : ℕ) × (i : ℕ) × IsAt (parts_of c.self.inside.region c.self.inside.blocks c.self.inside.used.items) part i c.args.index = (subst (λ (v : Parted). (part : ℕ) × (i : ℕ) × IsAt v part i c.args.index) (sym c.self.view_is) c.requires) in
    let place = at_block c.self.inside.region c.self.inside.blocks c.self.inside.used.items is.0 is.1 c.args.index c.self.invariant.blocks_are is.2 in
    (is.0, is.1 / 256, place.0)

pub returns : goal.returns
returns c part i at =
    let place = at_block c.self.inside.region c.self.inside.blocks c.self.inside.used.items part i c.args.index c.self.invariant.blocks_are (subst (λ (v : Parted). IsAt v part i c.args.index) (sym c.self.view_is) at) in
    omega (arith, place.1, (c.place_of-block.ensures part (i / 256) place.0).1)
