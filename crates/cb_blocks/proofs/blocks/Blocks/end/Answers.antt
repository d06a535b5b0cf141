use Rattle.std.proofs.Common.{◌≡◌, ◌<◌, length, get_or, sym, subst, arith, vec_len}
use Rattle.std.proofs.lemmas.List.{get_or_read_under}
use Rattle.cb_blocks.specs.Parted.{IsEnd, IsParted, Parted}
use Rattle.cb_blocks.specs.Rows.{row}
use Rattle.cb_blocks.proofs.Ends.{end_small}
use Rattle.cb_blocks.proofs.Parted.{part_of, parted, used_of}
use Rattle.cb_blocks.proofs.blocks.Blocks.end.Goals as goal

pub index-requires : goal.index-requires
index-requires c =
    let below = part_of c.self.inside.region c.self.inside.blocks c.self.inside.used.items c.args.part (subst (λ (v : Parted). c.args.part < length v.words) (sym c.self.view_is) c.requires) in
    let many : c.args.part < length c.self.inside.ends.items = omega (arith, below, c.self.invariant.ends_are.long) in
    omega (arith, many, c.self.inside.ends.ok.0)

pub returns-clause-is : goal.returns-clause-is
returns-clause-is c =
    let below = part_of c.self.inside.region c.self.inside.blocks c.self.inside.used.items c.args.part (subst (λ (v : Parted). c.args.part < length v.words) (sym c.self.view_is) c.requires) in
    let many : c.args.part < length c.self.inside.ends.items = omega (arith, below, c.self.invariant.ends_are.long) in
    let end : c.index.result.now ≡ get_or c.self.inside.ends.items c.args.part 0 = get_or_read_under c.self.inside.ends.items c.args.part (vec_len c.self.inside.ends) c.index.result.now 0 c.index.ensures (omega (arith, many, c.self.inside.ends.ok.0)) c.self.inside.ends.ok.0 in
    subst (λ (v : Parted). IsEnd (row v.rows c.args.part) (length (row v.words c.args.part)) c.index.result.now) c.self.view_is
    (subst (λ n. IsEnd (row c.self.inside.blocks.rows c.args.part) n c.index.result.now) (used_of c.self.inside.region c.self.inside.blocks c.self.inside.used.items c.args.part (subst (λ (v : Parted). c.args.part < length v.words) (sym c.self.view_is) c.requires))
    (subst (IsEnd (row c.self.inside.blocks.rows c.args.part) (get_or c.self.inside.used.items c.args.part 0)) (sym end) (c.self.invariant.ends_are.each c.args.part below)))

pub returns-clause-small : goal.returns-clause-small
returns-clause-small c =
    let below = part_of c.self.inside.region c.self.inside.blocks c.self.inside.used.items c.args.part (subst (λ (v : Parted). c.args.part < length v.words) (sym c.self.view_is) c.requires) in
    let many : c.args.part < length c.self.inside.ends.items = omega (arith, below, c.self.invariant.ends_are.long) in
    let end : c.index.result.now ≡ get_or c.self.inside.ends.items c.args.part 0 = get_or_read_under c.self.inside.ends.items c.args.part (vec_len c.self.inside.ends) c.index.result.now 0 c.index.ensures (omega (arith, many, c.self.inside.ends.ok.0)) c.self.inside.ends.ok.0 in
    omega (arith, end, end_small c.self.inside.region c.self.inside.blocks c.self.inside.used.items c.self.inside.ends.items c.args.part c.self.invariant below)

pub returns-clause-sound : goal.returns-clause-sound
returns-clause-sound c = subst IsParted c.self.view_is (parted c.self.inside.region c.self.inside.blocks c.self.inside.used.items c.self.invariant.blocks_are)
