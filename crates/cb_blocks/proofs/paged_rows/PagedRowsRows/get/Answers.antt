use Rattle.std.proofs.Common.{◌∙◌, ◌+◌, ◌*◌, ◌%◌, ◌<◌, get_or, sym, ap, arith, lit<, vec_len}
use Rattle.std.proofs.lemmas.List.{get_or_read_under}
use Rattle.cb_blocks.specs.PagedRows.{Roomy}
use Rattle.cb_blocks.proofs.Laid.{count_laid, page_there, part_laid, place_is, place_there, read_laid}
use Rattle.cb_blocks.proofs.paged_rows.PagedRowsRows.get.Goals as goal

pub get-page-requires-clause-part : goal.get-page-requires-clause-part
get-page-requires-clause-part g c = omega (arith, (part_laid 128 c.self.inside.numbers.items c.self.inside.pages.rows c.args.self.now.rows c.self.inside.lens.items c.args.part (ap (λ (v : Roomy). v.rows) c.self.view_is) c.requires.part), c.self.invariant.laid.parts)

pub get-page-requires-clause-place : goal.get-page-requires-clause-place
get-page-requires-clause-place g c = page_there 128 c.self.inside.pages c.self.inside.numbers.items c.self.inside.lens.items c.args.part c.args.i (lit< tt) c.self.invariant.laid (part_laid 128 c.self.inside.numbers.items c.self.inside.pages.rows c.args.self.now.rows c.self.inside.lens.items c.args.part (ap (λ (v : Roomy). v.rows) c.self.view_is) c.requires.part) (omega (arith, c.requires.place, (count_laid 128 c.self.inside.numbers.items c.self.inside.pages.rows c.args.self.now.rows c.self.inside.lens.items c.args.part (ap (λ (v : Roomy). v.rows) c.self.view_is) c.requires.part)))

pub index-requires : goal.index-requires
index-requires g c =
    let place = place_is 128 c.self.inside.pages.rows c.args.part c.args.i c.get-page.result c.get-page.ensures in
    omega (arith, place, place_there 128 c.self.inside.pages c.self.inside.numbers.items c.self.inside.lens.items c.args.part c.args.i (lit< tt) c.self.invariant.laid (part_laid 128 c.self.inside.numbers.items c.self.inside.pages.rows c.args.self.now.rows c.self.inside.lens.items c.args.part (ap (λ (v : Roomy). v.rows) c.self.view_is) c.requires.part) (omega (arith, c.requires.place, (count_laid 128 c.self.inside.numbers.items c.self.inside.pages.rows c.args.self.now.rows c.self.inside.lens.items c.args.part (ap (λ (v : Roomy). v.rows) c.self.view_is) c.requires.part))), c.self.inside.numbers.ok.0)

pub returns : goal.returns
returns g c =
    let place = place_is 128 c.self.inside.pages.rows c.args.part c.args.i c.get-page.result c.get-page.ensures in
    let small : c.get-page.result * 128 + c.args.i % 128 < vec_len c.self.inside.numbers = omega (arith, place, place_there 128 c.self.inside.pages c.self.inside.numbers.items c.self.inside.lens.items c.args.part c.args.i (lit< tt) c.self.invariant.laid (part_laid 128 c.self.inside.numbers.items c.self.inside.pages.rows c.args.self.now.rows c.self.inside.lens.items c.args.part (ap (λ (v : Roomy). v.rows) c.self.view_is) c.requires.part) (omega (arith, c.requires.place, (count_laid 128 c.self.inside.numbers.items c.self.inside.pages.rows c.args.self.now.rows c.self.inside.lens.items c.args.part (ap (λ (v : Roomy). v.rows) c.self.view_is) c.requires.part))), c.self.inside.numbers.ok.0) in
    read_laid 128 c.self.inside.numbers.items c.self.inside.pages.rows c.args.self.now.rows c.self.inside.lens.items c.args.part c.args.i c.index.result.now (ap (λ (v : Roomy). v.rows) c.self.view_is) c.requires.part c.requires.place
    (get_or_read_under c.self.inside.numbers.items (c.get-page.result * 128 + c.args.i % 128) (vec_len c.self.inside.numbers) c.index.result.now 0 c.index.ensures small c.self.inside.numbers.ok.0 ∙ ap (λ n. get_or c.self.inside.numbers.items n 0) (sym place))
