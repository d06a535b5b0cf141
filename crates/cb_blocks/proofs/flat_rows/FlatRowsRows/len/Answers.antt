use Rattle.std.proofs.Common.{◌∙◌, ap, arith, vec_len}
use Rattle.std.proofs.lemmas.List.{get_or_read_under}
use Rattle.cb_blocks.specs.FlatRows.{Flat}
use Rattle.cb_blocks.proofs.Flat.{len_seen, part_seen}
use Rattle.cb_blocks.proofs.flat_rows.FlatRowsRows.len.Goals as goal

pub index-requires : goal.index-requires
index-requires c = omega (arith, part_seen c.self.inside.numbers.items c.self.inside.lens.items c.self.inside.longest c.args.self.now.rows c.args.part (ap (λ (v : Flat). v.rows) c.self.view_is) c.requires, c.self.inside.lens.ok.0)

pub returns : goal.returns
returns c =
    get_or_read_under c.self.inside.lens.items c.args.part (vec_len c.self.inside.lens) c.index.result.now 0 c.index.ensures (omega (arith, part_seen c.self.inside.numbers.items c.self.inside.lens.items c.self.inside.longest c.args.self.now.rows c.args.part (ap (λ (v : Flat). v.rows) c.self.view_is) c.requires, c.self.inside.lens.ok.0)) c.self.inside.lens.ok.0
    ∙ len_seen c.self.inside.numbers.items c.self.inside.lens.items c.self.inside.longest c.args.self.now.rows c.args.part (ap (λ (v : Flat). v.rows) c.self.view_is) c.requires
