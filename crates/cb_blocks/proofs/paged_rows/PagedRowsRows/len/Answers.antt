use Rattle.std.proofs.Common.{◌∙◌, ap, arith, vec_len}
use Rattle.std.proofs.lemmas.List.{get_or_read_under}
use Rattle.cb_blocks.specs.PagedRows.{Roomy}
use Rattle.cb_blocks.proofs.Laid.{count_laid, part_laid}
use Rattle.cb_blocks.proofs.paged_rows.PagedRowsRows.len.Goals as goal

pub index-requires : goal.index-requires
index-requires g c = (omega (arith, (part_laid 128 c.self.inside.numbers.items c.self.inside.pages.rows c.args.self.now.rows c.self.inside.lens.items c.args.part (ap (λ (v : Roomy). v.rows) c.self.view_is) c.requires), c.self.inside.lens.ok.0))

pub returns : goal.returns
returns g c = (get_or_read_under c.self.inside.lens.items c.args.part (vec_len c.self.inside.lens) c.index.result.now 0 c.index.ensures (omega (arith, (part_laid 128 c.self.inside.numbers.items c.self.inside.pages.rows c.args.self.now.rows c.self.inside.lens.items c.args.part (ap (λ (v : Roomy). v.rows) c.self.view_is) c.requires), c.self.inside.lens.ok.0)) c.self.inside.lens.ok.0) ∙ (count_laid 128 c.self.inside.numbers.items c.self.inside.pages.rows c.args.self.now.rows c.self.inside.lens.items c.args.part (ap (λ (v : Roomy). v.rows) c.self.view_is) c.requires)
