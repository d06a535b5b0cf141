use Rattle.std.proofs.Common.{◌≡◌, ℕ, ◌+◌, ◌*◌, ◌/◌, ◌%◌, ◌<◌, length, sym, subst, arith}
use Rattle.cb_blocks.specs.Parted.{IsAt, IsReached, Parted}
use Rattle.cb_blocks.specs.Rows.{row}
use Rattle.cb_blocks.proofs.Parted.{at_block, parts_of, words_bound}
use Rattle.cb_blocks.proofs.blocks.Blocks.index_far.Goals as goal

pub place_of-part-requires : goal.place_of-part-requires
place_of-part-requires c =
    let is : (part : ℕ) × (i : ℕ) × IsReached (parts_of c.self.inside.region c.self.inside.blocks c.self.inside.used.items) part i c.args.index c.args.count = (subst (λ (v : Parted). (part : ℕ) × (i : ℕ) × IsReached v part i c.args.index c.args.count) (sym c.self.view_is) c.requires) in
    let bound = words_bound c.self.inside.region c.self.inside.blocks c.self.inside.used.items is.0 (is.1 + c.args.count) c.self.invariant.blocks_are is.2.0.0 is.2.1 in
    let place = at_block c.self.inside.region c.self.inside.blocks c.self.inside.used.items is.0 is.1 c.args.index c.self.invariant.blocks_are is.2.0 in
    let block = c.self.invariant.blocks_are.laid.sound.below is.0 (is.1 / 256) place.0.0 in
    (is.0, is.1 / 256, place.0)

pub overflow_add-block-2 : goal.overflow_add-block-2
overflow_add-block-2 c =
    let is : (part : ℕ) × (i : ℕ) × IsReached (parts_of c.self.inside.region c.self.inside.blocks c.self.inside.used.items) part i c.args.index c.args.count = (subst (λ (v : Parted). (part : ℕ) × (i : ℕ) × IsReached v part i c.args.index c.args.count) (sym c.self.view_is) c.requires) in
    let bound = words_bound c.self.inside.region c.self.inside.blocks c.self.inside.used.items is.0 (is.1 + c.args.count) c.self.invariant.blocks_are is.2.0.0 is.2.1 in
    let place = at_block c.self.inside.region c.self.inside.blocks c.self.inside.used.items is.0 is.1 c.args.index c.self.invariant.blocks_are is.2.0 in
    let block = c.self.invariant.blocks_are.laid.sound.below is.0 (is.1 / 256) place.0.0 in
    omega (arith, bound, (c.place_of-part.ensures is.0 (is.1 / 256) place.0).1)

pub index_of-requires-clause-part : goal.index_of-requires-clause-part
index_of-requires-clause-part c =
    let is : (part : ℕ) × (i : ℕ) × IsReached (parts_of c.self.inside.region c.self.inside.blocks c.self.inside.used.items) part i c.args.index c.args.count = (subst (λ (v : Parted). (part : ℕ) × (i : ℕ) × IsReached v part i c.args.index c.args.count) (sym c.self.view_is) c.requires) in
    let bound = words_bound c.self.inside.region c.self.inside.blocks c.self.inside.used.items is.0 (is.1 + c.args.count) c.self.invariant.blocks_are is.2.0.0 is.2.1 in
    let place = at_block c.self.inside.region c.self.inside.blocks c.self.inside.used.items is.0 is.1 c.args.index c.self.invariant.blocks_are is.2.0 in
    let block = c.self.invariant.blocks_are.laid.sound.below is.0 (is.1 / 256) place.0.0 in
    subst (λ n. n < length c.args.self.now.words) (sym (c.place_of-part.ensures is.0 (is.1 / 256) place.0).0) c.requires.2.0.0

pub index_of-requires-clause-place : goal.index_of-requires-clause-place
index_of-requires-clause-place c =
    let is : (part : ℕ) × (i : ℕ) × IsReached (parts_of c.self.inside.region c.self.inside.blocks c.self.inside.used.items) part i c.args.index c.args.count = (subst (λ (v : Parted). (part : ℕ) × (i : ℕ) × IsReached v part i c.args.index c.args.count) (sym c.self.view_is) c.requires) in
    let bound = words_bound c.self.inside.region c.self.inside.blocks c.self.inside.used.items is.0 (is.1 + c.args.count) c.self.invariant.blocks_are is.2.0.0 is.2.1 in
    let place = at_block c.self.inside.region c.self.inside.blocks c.self.inside.used.items is.0 is.1 c.args.index c.self.invariant.blocks_are is.2.0 in
    let block = c.self.invariant.blocks_are.laid.sound.below is.0 (is.1 / 256) place.0.0 in
    let told = c.place_of-part.ensures is.0 (is.1 / 256) place.0 in
    subst (λ p. c.place_of-part.result.1 * 256 + c.args.index % 256 + c.args.count < length (row c.args.self.now.words p)) (sym told.0) (omega (arith, told.1, place.1, c.requires.2.1))

pub returns : goal.returns
returns c part i reached =
    let place = at_block c.self.inside.region c.self.inside.blocks c.self.inside.used.items part i c.args.index c.self.invariant.blocks_are (subst (λ (v : Parted). IsAt v part i c.args.index) (sym c.self.view_is) reached.0) in
    let told = c.place_of-part.ensures part (i / 256) place.0 in
    let there : c.place_of-part.result.1 * 256 + c.args.index % 256 + c.args.count ≡ i + c.args.count = omega (arith, told.1, place.1) in
    subst (λ n. IsAt c.args.self.now part n c.index_of.result) there (subst (λ p. IsAt c.args.self.now p (c.place_of-part.result.1 * 256 + c.args.index % 256 + c.args.count) c.index_of.result) told.0 c.index_of.ensures)
