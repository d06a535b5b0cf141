use Rattle.std.proofs.Common.{◌≡◌, ◌∙◌, ◌+◌, ◌-◌, ◌*◌, ◌<◌, length, get_or, set, sym, ap, arith, vec_len}
use Rattle.std.proofs.lemmas.List.{get_or_read_under}
use Rattle.cb_blocks.specs.FlatRows.{Flat, flat_rows}
use Rattle.std.specs.List.{slice_get}
use Rattle.cb_blocks.specs.Rows.{popped, row}
use Rattle.cb_blocks.proofs.Flat.{len_seen, part_seen, place_seen, popped_flat, read_seen}
use Rattle.cb_blocks.proofs.flat_rows.FlatRowsRows.pop.Goals as goal

pub index-requires : goal.index-requires
index-requires c = omega (arith, part_seen c.self.inside.numbers.items c.self.inside.lens.items c.self.inside.longest c.args.self.now.rows c.args.part (ap (λ (v : Flat). v.rows) c.self.view_is) c.requires.part, c.self.inside.lens.ok.0)

pub overflow_sub-len : goal.overflow_sub-len
overflow_sub-len c =
    let len : c.index.result.now ≡ get_or c.self.inside.lens.items c.args.part 0 = (get_or_read_under c.self.inside.lens.items c.args.part (vec_len c.self.inside.lens) c.index.result.now 0 c.index.ensures (omega (arith, part_seen c.self.inside.numbers.items c.self.inside.lens.items c.self.inside.longest c.args.self.now.rows c.args.part (ap (λ (v : Flat). v.rows) c.self.view_is) c.requires.part, c.self.inside.lens.ok.0)) c.self.inside.lens.ok.0) in
    omega (arith, len, len_seen c.self.inside.numbers.items c.self.inside.lens.items c.self.inside.longest c.args.self.now.rows c.args.part (ap (λ (v : Flat). v.rows) c.self.view_is) c.requires.part, c.requires.filled)

pub index_mut-requires : goal.index_mut-requires
index_mut-requires c = omega (arith, part_seen c.self.inside.numbers.items c.self.inside.lens.items c.self.inside.longest c.args.self.now.rows c.args.part (ap (λ (v : Flat). v.rows) c.self.view_is) c.requires.part, c.self.inside.lens.ok.0)

pub index-requires-2 : goal.index-requires-2
index-requires-2 c =
    let len : c.index.result.now ≡ get_or c.self.inside.lens.items c.args.part 0 = (get_or_read_under c.self.inside.lens.items c.args.part (vec_len c.self.inside.lens) c.index.result.now 0 c.index.ensures (omega (arith, part_seen c.self.inside.numbers.items c.self.inside.lens.items c.self.inside.longest c.args.self.now.rows c.args.part (ap (λ (v : Flat). v.rows) c.self.view_is) c.requires.part, c.self.inside.lens.ok.0)) c.self.inside.lens.ok.0) in
    omega (arith, place_seen c.self.inside.numbers.items c.self.inside.lens.items c.self.inside.longest c.args.self.now.rows c.args.part (c.index.result.now - 1) c.self.invariant (ap (λ (v : Flat). v.rows) c.self.view_is) c.requires.part (omega (arith, len, len_seen c.self.inside.numbers.items c.self.inside.lens.items c.self.inside.longest c.args.self.now.rows c.args.part (ap (λ (v : Flat). v.rows) c.self.view_is) c.requires.part, c.requires.filled)), c.self.inside.numbers.ok.0)

pub returns-clause-number : goal.returns-clause-number
returns-clause-number c =
    let len : c.index.result.now ≡ length (row c.args.self.now.rows c.args.part) = (get_or_read_under c.self.inside.lens.items c.args.part (vec_len c.self.inside.lens) c.index.result.now 0 c.index.ensures (omega (arith, part_seen c.self.inside.numbers.items c.self.inside.lens.items c.self.inside.longest c.args.self.now.rows c.args.part (ap (λ (v : Flat). v.rows) c.self.view_is) c.requires.part, c.self.inside.lens.ok.0)) c.self.inside.lens.ok.0) ∙ len_seen c.self.inside.numbers.items c.self.inside.lens.items c.self.inside.longest c.args.self.now.rows c.args.part (ap (λ (v : Flat). v.rows) c.self.view_is) c.requires.part in
    let inner : c.index.result.now - 1 < length (row c.args.self.now.rows c.args.part) = omega (arith, len, c.requires.filled) in
    ap (λ n. slice_get (row c.args.self.now.rows c.args.part) (n - 1)) (sym len)
    ∙ read_seen c.self.inside.numbers.items c.self.inside.lens.items c.self.inside.longest c.args.self.now.rows c.args.part (c.index.result.now - 1) c.index-2.result.now (ap (λ (v : Flat). v.rows) c.self.view_is) c.requires.part inner
    (get_or_read_under c.self.inside.numbers.items (c.args.part * c.self.inside.longest + (c.index.result.now - 1)) (vec_len c.self.inside.numbers) c.index-2.result.now 0 c.index-2.ensures
    (omega (arith, place_seen c.self.inside.numbers.items c.self.inside.lens.items c.self.inside.longest c.args.self.now.rows c.args.part (c.index.result.now - 1) c.self.invariant (ap (λ (v : Flat). v.rows) c.self.view_is) c.requires.part inner, c.self.inside.numbers.ok.0)) c.self.inside.numbers.ok.0)

pub returns-clause-rows : goal.returns-clause-rows
returns-clause-rows c =
    let len : c.index.result.now ≡ get_or c.self.inside.lens.items c.args.part 0 = (get_or_read_under c.self.inside.lens.items c.args.part (vec_len c.self.inside.lens) c.index.result.now 0 c.index.ensures (omega (arith, part_seen c.self.inside.numbers.items c.self.inside.lens.items c.self.inside.longest c.args.self.now.rows c.args.part (ap (λ (v : Flat). v.rows) c.self.view_is) c.requires.part, c.self.inside.lens.ok.0)) c.self.inside.lens.ok.0) in
    ap (λ n. flat_rows c.self.inside.numbers.items (set c.self.inside.lens.items c.args.part (n - 1)) c.self.inside.longest) len
    ∙ popped_flat c.self.inside.numbers.items c.self.inside.lens.items c.self.inside.longest c.args.part (part_seen c.self.inside.numbers.items c.self.inside.lens.items c.self.inside.longest c.args.self.now.rows c.args.part (ap (λ (v : Flat). v.rows) c.self.view_is) c.requires.part)
    ∙ ap (λ r. popped r c.args.part) (ap (λ (v : Flat). v.rows) c.self.view_is)
