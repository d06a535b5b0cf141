use Rattle.std.proofs.Common.{◌≡◌, ◌+◌, ◌<◌, ◌≤◌, length, get_or, set, sym, subst, arith, vec_len}
use Rattle.std.proofs.lemmas.List.{get_or_read_under}
use Rattle.cb_blocks.specs.Parted.{IsEnd, IsEnded, IsGrown, Parted, room_behind}
use Rattle.cb_blocks.specs.Rows.{row}
use Rattle.cb_blocks.proofs.Ends.{few_words, grown_within, one_end, parts_within}
use Rattle.cb_blocks.proofs.Parted.{part_of, parts_of, used_of}
use Rattle.cb_blocks.proofs.blocks.Blocks.extend.Goals as goal

pub index_mut-requires : goal.index_mut-requires
index_mut-requires c =
    let below = part_of c.self.inside.region c.self.inside.blocks c.self.inside.used.items c.args.part (subst (λ (v : Parted). c.args.part < length v.words) (sym c.self.view_is) c.requires.part) in
    let many : c.args.part < length c.self.inside.ends.items = omega (arith, below, c.self.invariant.ends_are.long) in
    omega (arith, many, c.self.inside.ends.ok.0)

pub index_mut-requires-2 : goal.index_mut-requires-2
index_mut-requires-2 c =
    let below = part_of c.self.inside.region c.self.inside.blocks c.self.inside.used.items c.args.part (subst (λ (v : Parted). c.args.part < length v.words) (sym c.self.view_is) c.requires.part) in
    let many : c.args.part < length c.self.inside.ends.items = omega (arith, below, c.self.invariant.ends_are.long) in
    omega (arith, below, c.self.inside.used.ok.0)

pub overflow_add-index_mut : goal.overflow_add-index_mut
overflow_add-index_mut c =
    let below = part_of c.self.inside.region c.self.inside.blocks c.self.inside.used.items c.args.part (subst (λ (v : Parted). c.args.part < length v.words) (sym c.self.view_is) c.requires.part) in
    let many : c.args.part < length c.self.inside.ends.items = omega (arith, below, c.self.invariant.ends_are.long) in
    let had : c.index_mut-2.result.now ≡ get_or c.self.inside.used.items c.args.part 0 = get_or_read_under c.self.inside.used.items c.args.part (vec_len c.self.inside.used) c.index_mut-2.result.now 0 c.index_mut-2.ensures.value (omega (arith, below, c.self.inside.used.ok.0)) c.self.inside.used.ok.0 in
    omega (arith, had, few_words c.self.inside.region c.self.inside.blocks c.self.inside.used.items c.args.part c.self.invariant.blocks_are below, c.requires.within)

pub invariant_of-self : goal.invariant_of-self
invariant_of-self c =
    let below = part_of c.self.inside.region c.self.inside.blocks c.self.inside.used.items c.args.part (subst (λ (v : Parted). c.args.part < length v.words) (sym c.self.view_is) c.requires.part) in
    let many : c.args.part < length c.self.inside.ends.items = omega (arith, below, c.self.invariant.ends_are.long) in
    let end : c.args.end ≡ get_or c.self.inside.ends.items c.args.part 0 =
    one_end (row c.self.inside.blocks.rows c.args.part) (get_or c.self.inside.used.items c.args.part 0) c.args.end (get_or c.self.inside.ends.items c.args.part 0)
    (subst (λ n. IsEnd (row c.self.inside.blocks.rows c.args.part) n c.args.end) (sym (used_of c.self.inside.region c.self.inside.blocks c.self.inside.used.items c.args.part (subst (λ (v : Parted). c.args.part < length v.words) (sym c.self.view_is) c.requires.part))) (subst (λ (v : Parted). IsEnd (row v.rows c.args.part) (length (row v.words c.args.part)) c.args.end) (sym c.self.view_is) c.requires.end))
    (c.self.invariant.ends_are.each c.args.part below) in
    let had : c.index_mut-2.result.now ≡ get_or c.self.inside.used.items c.args.part 0 = get_or_read_under c.self.inside.used.items c.args.part (vec_len c.self.inside.used) c.index_mut-2.result.now 0 c.index_mut-2.ensures.value (omega (arith, below, c.self.inside.used.ok.0)) c.self.inside.used.ok.0 in
    let fits : c.args.words ≤ room_behind (get_or c.self.inside.ends.items c.args.part 0) = subst (λ n. c.args.words ≤ room_behind n) end c.requires.within in
    subst (λ n. IsEnded c.self.inside.region c.self.inside.blocks (set c.self.inside.used.items c.args.part (n + c.args.words)) (set c.self.inside.ends.items c.args.part (c.args.end + c.args.words))) (sym had)
    (subst (λ n. IsEnded c.self.inside.region c.self.inside.blocks (set c.self.inside.used.items c.args.part (get_or c.self.inside.used.items c.args.part 0 + c.args.words)) (set c.self.inside.ends.items c.args.part (n + c.args.words))) (sym end)
    (grown_within c.self.inside.region c.self.inside.blocks c.self.inside.used.items c.self.inside.ends.items c.args.part c.args.words c.self.invariant below fits))

pub returns : goal.returns
returns c =
    let below = part_of c.self.inside.region c.self.inside.blocks c.self.inside.used.items c.args.part (subst (λ (v : Parted). c.args.part < length v.words) (sym c.self.view_is) c.requires.part) in
    let many : c.args.part < length c.self.inside.ends.items = omega (arith, below, c.self.invariant.ends_are.long) in
    let end : c.args.end ≡ get_or c.self.inside.ends.items c.args.part 0 =
    one_end (row c.self.inside.blocks.rows c.args.part) (get_or c.self.inside.used.items c.args.part 0) c.args.end (get_or c.self.inside.ends.items c.args.part 0)
    (subst (λ n. IsEnd (row c.self.inside.blocks.rows c.args.part) n c.args.end) (sym (used_of c.self.inside.region c.self.inside.blocks c.self.inside.used.items c.args.part (subst (λ (v : Parted). c.args.part < length v.words) (sym c.self.view_is) c.requires.part))) (subst (λ (v : Parted). IsEnd (row v.rows c.args.part) (length (row v.words c.args.part)) c.args.end) (sym c.self.view_is) c.requires.end))
    (c.self.invariant.ends_are.each c.args.part below) in
    let had : c.index_mut-2.result.now ≡ get_or c.self.inside.used.items c.args.part 0 = get_or_read_under c.self.inside.used.items c.args.part (vec_len c.self.inside.used) c.index_mut-2.result.now 0 c.index_mut-2.ensures.value (omega (arith, below, c.self.inside.used.ok.0)) c.self.inside.used.ok.0 in
    let fits : c.args.words ≤ room_behind (get_or c.self.inside.ends.items c.args.part 0) = subst (λ n. c.args.words ≤ room_behind n) end c.requires.within in
    subst (λ (v : Parted). IsGrown v (parts_of c.self.inside.region c.self.inside.blocks (set c.self.inside.used.items c.args.part (c.index_mut-2.result.now + c.args.words))) c.args.part c.args.words) c.self.view_is
    (subst (λ n. IsGrown (parts_of c.self.inside.region c.self.inside.blocks c.self.inside.used.items) (parts_of c.self.inside.region c.self.inside.blocks (set c.self.inside.used.items c.args.part (n + c.args.words))) c.args.part c.args.words) (sym had)
    (parts_within c.self.inside.region c.self.inside.blocks c.self.inside.used.items c.self.inside.ends.items c.args.part c.args.words c.self.invariant below fits))
