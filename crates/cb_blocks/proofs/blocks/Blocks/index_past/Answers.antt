use Rattle.std.proofs.Common.{ℕ, ◌+◌, ◌-◌, ◌/◌, refl, sym, subst, arith}
use Rattle.cb_blocks.specs.Parted.{IsAt, IsReached, Parted}
use Rattle.cb_blocks.proofs.Parted.{along, at_block, blocks_between, parts_of, reached_small}
use Rattle.cb_blocks.proofs.blocks.Blocks.index_past.Goals as goal

pub overflow_add-there : goal.overflow_add-there
overflow_add-there c =
    let is : (part : ℕ) × (i : ℕ) × IsReached (parts_of c.self.inside.region c.self.inside.blocks c.self.inside.used.items) part i c.args.index c.args.count = (subst (λ (v : Parted). (part : ℕ) × (i : ℕ) × IsReached v part i c.args.index c.args.count) (sym c.self.view_is) c.requires) in
    let small = reached_small c.self.inside.region c.self.inside.blocks c.self.inside.used.items is.0 is.1 c.args.index c.args.count c.self.invariant.blocks_are is.2 in
    omega (arith, small.0, small.1)

pub overflow_add-index : goal.overflow_add-index
overflow_add-index c =
    let is : (part : ℕ) × (i : ℕ) × IsReached (parts_of c.self.inside.region c.self.inside.blocks c.self.inside.used.items) part i c.args.index c.args.count = (subst (λ (v : Parted). (part : ℕ) × (i : ℕ) × IsReached v part i c.args.index c.args.count) (sym c.self.view_is) c.requires) in
    let small = reached_small c.self.inside.region c.self.inside.blocks c.self.inside.used.items is.0 is.1 c.args.index c.args.count c.self.invariant.blocks_are is.2 in
    omega (arith, small.0, small.1)

pub follows-requires-clause-there : goal.follows-requires-clause-there
follows-requires-clause-there c =
    let is : (part : ℕ) × (i : ℕ) × IsReached (parts_of c.self.inside.region c.self.inside.blocks c.self.inside.used.items) part i c.args.index c.args.count = (subst (λ (v : Parted). (part : ℕ) × (i : ℕ) × IsReached v part i c.args.index c.args.count) (sym c.self.view_is) c.requires) in
    let place = at_block c.self.inside.region c.self.inside.blocks c.self.inside.used.items is.0 is.1 c.args.index c.self.invariant.blocks_are is.2.0 in
    (is.0, is.1 / 256, place.0)

pub follows-requires-clause-small : goal.follows-requires-clause-small
follows-requires-clause-small c =
    let is : (part : ℕ) × (i : ℕ) × IsReached (parts_of c.self.inside.region c.self.inside.blocks c.self.inside.used.items) part i c.args.index c.args.count = (subst (λ (v : Parted). (part : ℕ) × (i : ℕ) × IsReached v part i c.args.index c.args.count) (sym c.self.view_is) c.requires) in
    let small = reached_small c.self.inside.region c.self.inside.blocks c.self.inside.used.items is.0 is.1 c.args.index c.args.count c.self.invariant.blocks_are is.2 in
    omega (arith, small.0, small.1)

pub returns-then-follows : goal.returns-then-follows
returns-then-follows c part i reached =
    let here : IsReached (parts_of c.self.inside.region c.self.inside.blocks c.self.inside.used.items) part i c.args.index c.args.count = subst (λ (v : Parted). IsReached v part i c.args.index c.args.count) (sym c.self.view_is) reached in
    let further : ℕ = (c.args.index + c.args.count) / 256 - c.args.index / 256 in
    let between = blocks_between c.self.inside.region c.self.inside.blocks c.self.inside.used.items part i c.args.index c.args.count further c.self.invariant.blocks_are here refl in
    let place = at_block c.self.inside.region c.self.inside.blocks c.self.inside.used.items part i c.args.index c.self.invariant.blocks_are here.0 in
    subst (λ (v : Parted). IsAt v part (i + c.args.count) (c.args.index + c.args.count)) c.self.view_is
    (along c.self.inside.region c.self.inside.blocks c.self.inside.used.items part i c.args.index c.args.count further c.self.invariant.blocks_are here refl (c.follows.ensures part (i / 256) place.0 between.1 c.if-follows.true))
