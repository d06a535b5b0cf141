use Rattle.std.proofs.Common.{◌+◌, ◌*◌, ap, arith, vec_len}
use Rattle.std.proofs.lemmas.List.{get_or_read_under}
use Rattle.cb_blocks.specs.FlatRows.{Flat}
use Rattle.cb_blocks.proofs.Flat.{place_seen, read_seen}
use Rattle.cb_blocks.proofs.flat_rows.FlatRowsRows.get.Goals as goal

pub index-requires : goal.index-requires
index-requires c = omega (arith, place_seen c.self.inside.numbers.items c.self.inside.lens.items c.self.inside.longest c.args.self.now.rows c.args.part c.args.i c.self.invariant (ap (λ (v : Flat). v.rows) c.self.view_is) c.requires.part c.requires.place, c.self.inside.numbers.ok.0)

pub returns : goal.returns
returns c =
    read_seen c.self.inside.numbers.items c.self.inside.lens.items c.self.inside.longest c.args.self.now.rows c.args.part c.args.i c.index.result.now (ap (λ (v : Flat). v.rows) c.self.view_is) c.requires.part c.requires.place
    (get_or_read_under c.self.inside.numbers.items (c.args.part * c.self.inside.longest + c.args.i) (vec_len c.self.inside.numbers) c.index.result.now 0 c.index.ensures
    (omega (arith, place_seen c.self.inside.numbers.items c.self.inside.lens.items c.self.inside.longest c.args.self.now.rows c.args.part c.args.i c.self.invariant (ap (λ (v : Flat). v.rows) c.self.view_is) c.requires.part c.requires.place, c.self.inside.numbers.ok.0)) c.self.inside.numbers.ok.0)
