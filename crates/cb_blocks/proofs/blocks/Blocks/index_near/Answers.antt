use Rattle.std.proofs.Common.{◌+◌, ◌*◌, ◌%◌, ◌<◌, length, sym, subst, arith}
use Rattle.cb_blocks.specs.Parted.{IsAt, Parted}
use Rattle.cb_blocks.specs.Rows.{row}
use Rattle.cb_blocks.proofs.Parted.{block_of, index_is, part_of, words_bound}
use Rattle.cb_blocks.proofs.blocks.Blocks.index_near.Goals as goal

pub overflow_cast-i : goal.overflow_cast-i
overflow_cast-i c = omega (arith, words_bound c.self.inside.region c.self.inside.blocks c.self.inside.used.items c.args.part c.args.i c.self.invariant.blocks_are (subst (λ (v : Parted). c.args.part < length v.words) (sym c.self.view_is) c.requires.part) (subst (λ (v : Parted). c.args.i < length (row v.words c.args.part)) (sym c.self.view_is) c.requires.place))

pub get_near-block-requires-clause-part : goal.get_near-block-requires-clause-part
get_near-block-requires-clause-part c = omega (arith, part_of c.self.inside.region c.self.inside.blocks c.self.inside.used.items c.args.part (subst (λ (v : Parted). c.args.part < length v.words) (sym c.self.view_is) c.requires.part), c.self.invariant.blocks_are.laid.parts)

pub get_near-block-requires-clause-place : goal.get_near-block-requires-clause-place
get_near-block-requires-clause-place c = block_of c.self.inside.region c.self.inside.blocks c.self.inside.used.items c.args.part c.args.i c.self.invariant.blocks_are (subst (λ (v : Parted). c.args.part < length v.words) (sym c.self.view_is) c.requires.part) (subst (λ (v : Parted). c.args.i < length (row v.words c.args.part)) (sym c.self.view_is) c.requires.place)

pub returns : goal.returns
returns c = subst (λ (v : Parted). IsAt v c.args.part c.args.i (c.get_near-block.result * 256 + c.args.i % 256)) c.self.view_is (index_is c.self.inside.region c.self.inside.blocks c.self.inside.used.items c.args.part c.args.i c.get_near-block.result (subst (λ (v : Parted). c.args.part < length v.words) (sym c.self.view_is) c.requires.part) (subst (λ (v : Parted). c.args.i < length (row v.words c.args.part)) (sym c.self.view_is) c.requires.place) c.get_near-block.ensures)
