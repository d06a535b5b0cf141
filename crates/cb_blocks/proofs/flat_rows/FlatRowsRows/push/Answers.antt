use Rattle.std.proofs.Common.{◌≡◌, ◌∙◌, ◌+◌, ◌*◌, ◌<◌, ◌≤◌, get_or, set, ap, arith, vec_len}
use Rattle.std.proofs.lemmas.List.{get_or_read_under}
use Rattle.cb_blocks.specs.FlatRows.{Flat, flat_rows}
use Rattle.cb_blocks.specs.Rows.{pushed}
use Rattle.cb_blocks.proofs.Flat.{len_seen, part_seen, place_flat, pushed_flat, whole_flat}
use Rattle.cb_blocks.proofs.flat_rows.FlatRowsRows.push.Goals as goal

pub index-len-requires : goal.index-len-requires
index-len-requires c = omega (arith, part_seen c.self.inside.numbers.items c.self.inside.lens.items c.self.inside.longest c.args.self.now.rows c.args.part (ap (λ (v : Flat). v.rows) c.self.view_is) c.requires.part, c.self.inside.lens.ok.0)

pub index_mut-requires : goal.index_mut-requires
index_mut-requires c =
    let len : c.index-len.result.now ≡ get_or c.self.inside.lens.items c.args.part 0 = (get_or_read_under c.self.inside.lens.items c.args.part (vec_len c.self.inside.lens) c.index-len.result.now 0 c.index-len.ensures (omega (arith, part_seen c.self.inside.numbers.items c.self.inside.lens.items c.self.inside.longest c.args.self.now.rows c.args.part (ap (λ (v : Flat). v.rows) c.self.view_is) c.requires.part, c.self.inside.lens.ok.0)) c.self.inside.lens.ok.0) in
    let short : c.index-len.result.now < c.self.inside.longest = omega (arith, len, len_seen c.self.inside.numbers.items c.self.inside.lens.items c.self.inside.longest c.args.self.now.rows c.args.part (ap (λ (v : Flat). v.rows) c.self.view_is) c.requires.part, c.requires.short, ap (λ (v : Flat). v.longest) c.self.view_is) in
    omega (arith, place_flat c.self.inside.numbers.items c.self.inside.lens.items c.self.inside.longest c.args.part c.index-len.result.now c.self.invariant (part_seen c.self.inside.numbers.items c.self.inside.lens.items c.self.inside.longest c.args.self.now.rows c.args.part (ap (λ (v : Flat). v.rows) c.self.view_is) c.requires.part) short, c.self.inside.numbers.ok.0)

pub overflow_add-len : goal.overflow_add-len
overflow_add-len c =
    let len : c.index-len.result.now ≡ get_or c.self.inside.lens.items c.args.part 0 = (get_or_read_under c.self.inside.lens.items c.args.part (vec_len c.self.inside.lens) c.index-len.result.now 0 c.index-len.ensures (omega (arith, part_seen c.self.inside.numbers.items c.self.inside.lens.items c.self.inside.longest c.args.self.now.rows c.args.part (ap (λ (v : Flat). v.rows) c.self.view_is) c.requires.part, c.self.inside.lens.ok.0)) c.self.inside.lens.ok.0) in
    omega (arith, len, len_seen c.self.inside.numbers.items c.self.inside.lens.items c.self.inside.longest c.args.self.now.rows c.args.part (ap (λ (v : Flat). v.rows) c.self.view_is) c.requires.part, c.requires.short, ap (λ (v : Flat). v.longest) c.self.view_is, c.self.invariant.bound)

pub index_mut-requires-2 : goal.index_mut-requires-2
index_mut-requires-2 c = omega (arith, part_seen c.self.inside.numbers.items c.self.inside.lens.items c.self.inside.longest c.args.self.now.rows c.args.part (ap (λ (v : Flat). v.rows) c.self.view_is) c.requires.part, c.self.inside.lens.ok.0)

pub invariant_of-self : goal.invariant_of-self
invariant_of-self c =
    let len : c.index-len.result.now ≡ get_or c.self.inside.lens.items c.args.part 0 = (get_or_read_under c.self.inside.lens.items c.args.part (vec_len c.self.inside.lens) c.index-len.result.now 0 c.index-len.ensures (omega (arith, part_seen c.self.inside.numbers.items c.self.inside.lens.items c.self.inside.longest c.args.self.now.rows c.args.part (ap (λ (v : Flat). v.rows) c.self.view_is) c.requires.part, c.self.inside.lens.ok.0)) c.self.inside.lens.ok.0) in
    let short : c.index-len.result.now + 1 ≤ c.self.inside.longest = omega (arith, len, len_seen c.self.inside.numbers.items c.self.inside.lens.items c.self.inside.longest c.args.self.now.rows c.args.part (ap (λ (v : Flat). v.rows) c.self.view_is) c.requires.part, c.requires.short, ap (λ (v : Flat). v.longest) c.self.view_is) in
    whole_flat c.self.inside.numbers.items c.self.inside.lens.items c.self.inside.longest (c.args.part * c.self.inside.longest + c.index-len.result.now) c.args.number c.args.part (c.index-len.result.now + 1) c.self.invariant (part_seen c.self.inside.numbers.items c.self.inside.lens.items c.self.inside.longest c.args.self.now.rows c.args.part (ap (λ (v : Flat). v.rows) c.self.view_is) c.requires.part) short

pub returns-clause-rows : goal.returns-clause-rows
returns-clause-rows c =
    let len : c.index-len.result.now ≡ get_or c.self.inside.lens.items c.args.part 0 = (get_or_read_under c.self.inside.lens.items c.args.part (vec_len c.self.inside.lens) c.index-len.result.now 0 c.index-len.ensures (omega (arith, part_seen c.self.inside.numbers.items c.self.inside.lens.items c.self.inside.longest c.args.self.now.rows c.args.part (ap (λ (v : Flat). v.rows) c.self.view_is) c.requires.part, c.self.inside.lens.ok.0)) c.self.inside.lens.ok.0) in
    let short : get_or c.self.inside.lens.items c.args.part 0 < c.self.inside.longest = omega (arith, len_seen c.self.inside.numbers.items c.self.inside.lens.items c.self.inside.longest c.args.self.now.rows c.args.part (ap (λ (v : Flat). v.rows) c.self.view_is) c.requires.part, c.requires.short, ap (λ (v : Flat). v.longest) c.self.view_is) in
    ap (λ n. flat_rows (set c.self.inside.numbers.items (c.args.part * c.self.inside.longest + n) c.args.number) (set c.self.inside.lens.items c.args.part (n + 1)) c.self.inside.longest) len
    ∙ pushed_flat c.self.inside.numbers.items c.self.inside.lens.items c.self.inside.longest c.args.part c.args.number c.self.invariant (part_seen c.self.inside.numbers.items c.self.inside.lens.items c.self.inside.longest c.args.self.now.rows c.args.part (ap (λ (v : Flat). v.rows) c.self.view_is) c.requires.part) short
    ∙ ap (λ r. pushed r c.args.part c.args.number) (ap (λ (v : Flat). v.rows) c.self.view_is)
