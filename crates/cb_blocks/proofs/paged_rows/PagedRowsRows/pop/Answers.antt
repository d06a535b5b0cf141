use Rattle.std.proofs.Common.{◌≡◌, ◌∙◌, ◌+◌, ◌-◌, ◌*◌, ◌%◌, ◌<◌, length, get_or, set, take, sym, ap, arith, lit<, vec_len, length-set}
use Rattle.std.proofs.lemmas.List.{get_or_read_under}
use Rattle.std.specs.List.{slice_get}
use Rattle.cb_blocks.specs.PagedRows.{Roomy}
use Rattle.cb_blocks.specs.Rows.{row}
use Rattle.cb_blocks.proofs.Laid.{count_laid, exact_cut, kept_cut, page_there, part_laid, place_is, place_there, read_laid}
use Rattle.cb_blocks.proofs.paged_rows.PagedRowsRows.pop.Goals as goal

pub index-requires : goal.index-requires
index-requires g c = (omega (arith, (part_laid 128 c.self.inside.numbers.items c.self.inside.pages.rows c.args.self.now.rows c.self.inside.lens.items c.args.part (ap (λ (v : Roomy). v.rows) c.self.view_is) c.requires.part), c.self.inside.lens.ok.0))

pub overflow_sub-len : goal.overflow_sub-len
overflow_sub-len g c = omega (arith, (get_or_read_under c.self.inside.lens.items c.args.part (vec_len c.self.inside.lens) c.index.result.now 0 c.index.ensures (omega (arith, (part_laid 128 c.self.inside.numbers.items c.self.inside.pages.rows c.args.self.now.rows c.self.inside.lens.items c.args.part (ap (λ (v : Roomy). v.rows) c.self.view_is) c.requires.part), c.self.inside.lens.ok.0)) c.self.inside.lens.ok.0), (count_laid 128 c.self.inside.numbers.items c.self.inside.pages.rows c.args.self.now.rows c.self.inside.lens.items c.args.part (ap (λ (v : Roomy). v.rows) c.self.view_is) c.requires.part), c.requires.filled)

pub get-page-requires-clause-part : goal.get-page-requires-clause-part
get-page-requires-clause-part g c = omega (arith, (part_laid 128 c.self.inside.numbers.items c.self.inside.pages.rows c.args.self.now.rows c.self.inside.lens.items c.args.part (ap (λ (v : Roomy). v.rows) c.self.view_is) c.requires.part), c.self.invariant.laid.parts)

pub get-page-requires-clause-place : goal.get-page-requires-clause-place
get-page-requires-clause-place g c =
    let len : c.index.result.now ≡ get_or c.self.inside.lens.items c.args.part 0 = (get_or_read_under c.self.inside.lens.items c.args.part (vec_len c.self.inside.lens) c.index.result.now 0 c.index.ensures (omega (arith, (part_laid 128 c.self.inside.numbers.items c.self.inside.pages.rows c.args.self.now.rows c.self.inside.lens.items c.args.part (ap (λ (v : Roomy). v.rows) c.self.view_is) c.requires.part), c.self.inside.lens.ok.0)) c.self.inside.lens.ok.0) in
    let below : c.args.part < length c.self.inside.lens.items = (part_laid 128 c.self.inside.numbers.items c.self.inside.pages.rows c.args.self.now.rows c.self.inside.lens.items c.args.part (ap (λ (v : Roomy). v.rows) c.self.view_is) c.requires.part) in
    let inside : c.index.result.now - 1 < get_or c.self.inside.lens.items c.args.part 0 = omega (arith, len, (count_laid 128 c.self.inside.numbers.items c.self.inside.pages.rows c.args.self.now.rows c.self.inside.lens.items c.args.part (ap (λ (v : Roomy). v.rows) c.self.view_is) c.requires.part), c.requires.filled) in
    page_there 128 c.self.inside.pages c.self.inside.numbers.items c.self.inside.lens.items c.args.part (c.index.result.now - 1) (lit< tt) c.self.invariant.laid below inside

pub index-number-requires : goal.index-number-requires
index-number-requires g c =
    let len : c.index.result.now ≡ get_or c.self.inside.lens.items c.args.part 0 = (get_or_read_under c.self.inside.lens.items c.args.part (vec_len c.self.inside.lens) c.index.result.now 0 c.index.ensures (omega (arith, (part_laid 128 c.self.inside.numbers.items c.self.inside.pages.rows c.args.self.now.rows c.self.inside.lens.items c.args.part (ap (λ (v : Roomy). v.rows) c.self.view_is) c.requires.part), c.self.inside.lens.ok.0)) c.self.inside.lens.ok.0) in
    let below : c.args.part < length c.self.inside.lens.items = (part_laid 128 c.self.inside.numbers.items c.self.inside.pages.rows c.args.self.now.rows c.self.inside.lens.items c.args.part (ap (λ (v : Roomy). v.rows) c.self.view_is) c.requires.part) in
    let inside : c.index.result.now - 1 < get_or c.self.inside.lens.items c.args.part 0 = omega (arith, len, (count_laid 128 c.self.inside.numbers.items c.self.inside.pages.rows c.args.self.now.rows c.self.inside.lens.items c.args.part (ap (λ (v : Roomy). v.rows) c.self.view_is) c.requires.part), c.requires.filled) in
    omega (arith, place_is 128 c.self.inside.pages.rows c.args.part (c.index.result.now - 1) c.get-page.result c.get-page.ensures, place_there 128 c.self.inside.pages c.self.inside.numbers.items c.self.inside.lens.items c.args.part (c.index.result.now - 1) (lit< tt) c.self.invariant.laid below inside, c.self.inside.numbers.ok.0)

pub returns-clause-number : goal.returns-clause-number
returns-clause-number g c =
    let len : c.index.result.now ≡ get_or c.self.inside.lens.items c.args.part 0 = (get_or_read_under c.self.inside.lens.items c.args.part (vec_len c.self.inside.lens) c.index.result.now 0 c.index.ensures (omega (arith, (part_laid 128 c.self.inside.numbers.items c.self.inside.pages.rows c.args.self.now.rows c.self.inside.lens.items c.args.part (ap (λ (v : Roomy). v.rows) c.self.view_is) c.requires.part), c.self.inside.lens.ok.0)) c.self.inside.lens.ok.0) in
    let below : c.args.part < length c.self.inside.lens.items = (part_laid 128 c.self.inside.numbers.items c.self.inside.pages.rows c.args.self.now.rows c.self.inside.lens.items c.args.part (ap (λ (v : Roomy). v.rows) c.self.view_is) c.requires.part) in
    let inside : c.index.result.now - 1 < get_or c.self.inside.lens.items c.args.part 0 = omega (arith, len, (count_laid 128 c.self.inside.numbers.items c.self.inside.pages.rows c.args.self.now.rows c.self.inside.lens.items c.args.part (ap (λ (v : Roomy). v.rows) c.self.view_is) c.requires.part), c.requires.filled) in
    let place = place_is 128 c.self.inside.pages.rows c.args.part (c.index.result.now - 1) c.get-page.result c.get-page.ensures in
    let small : c.get-page.result * 128 + (c.index.result.now - 1) % 128 < vec_len c.self.inside.numbers = omega (arith, place, place_there 128 c.self.inside.pages c.self.inside.numbers.items c.self.inside.lens.items c.args.part (c.index.result.now - 1) (lit< tt) c.self.invariant.laid below inside, c.self.inside.numbers.ok.0) in
    ap (λ n. slice_get (row c.args.self.now.rows c.args.part) (n - 1)) (sym (len ∙ (count_laid 128 c.self.inside.numbers.items c.self.inside.pages.rows c.args.self.now.rows c.self.inside.lens.items c.args.part (ap (λ (v : Roomy). v.rows) c.self.view_is) c.requires.part)))
    ∙ read_laid 128 c.self.inside.numbers.items c.self.inside.pages.rows c.args.self.now.rows c.self.inside.lens.items c.args.part (c.index.result.now - 1) c.index-number.result.now (ap (λ (v : Roomy). v.rows) c.self.view_is) c.requires.part (omega (arith, inside, (count_laid 128 c.self.inside.numbers.items c.self.inside.pages.rows c.args.self.now.rows c.self.inside.lens.items c.args.part (ap (λ (v : Roomy). v.rows) c.self.view_is) c.requires.part)))
    (get_or_read_under c.self.inside.numbers.items (c.get-page.result * 128 + (c.index.result.now - 1) % 128) (vec_len c.self.inside.numbers) c.index-number.result.now 0 c.index-number.ensures small c.self.inside.numbers.ok.0 ∙ ap (λ n. get_or c.self.inside.numbers.items n 0) (sym place))

pub invariant_of-self : goal.invariant_of-self
invariant_of-self g c =
    let len : c.index.result.now ≡ get_or c.self.inside.lens.items c.args.part 0 = (get_or_read_under c.self.inside.lens.items c.args.part (vec_len c.self.inside.lens) c.index.result.now 0 c.index.ensures (omega (arith, (part_laid 128 c.self.inside.numbers.items c.self.inside.pages.rows c.args.self.now.rows c.self.inside.lens.items c.args.part (ap (λ (v : Roomy). v.rows) c.self.view_is) c.requires.part), c.self.inside.lens.ok.0)) c.self.inside.lens.ok.0) in
    let below : c.args.part < length c.self.inside.lens.items = (part_laid 128 c.self.inside.numbers.items c.self.inside.pages.rows c.args.self.now.rows c.self.inside.lens.items c.args.part (ap (λ (v : Roomy). v.rows) c.self.view_is) c.requires.part) in
    let inside : c.index.result.now - 1 < get_or c.self.inside.lens.items c.args.part 0 = omega (arith, len, (count_laid 128 c.self.inside.numbers.items c.self.inside.pages.rows c.args.self.now.rows c.self.inside.lens.items c.args.part (ap (λ (v : Roomy). v.rows) c.self.view_is) c.requires.part), c.requires.filled) in
    record {
      laid = exact_cut 128 c.self.inside.pages c.keep.new.self c.self.inside.numbers.items c.self.inside.lens.items c.args.part (c.index.result.now - 1) (lit< tt) c.self.invariant.laid below c.keep.ensures.rows (omega (arith, inside)) c.keep.ensures.count c.keep.ensures.sound;
      room = omega (arith, c.self.invariant.room, c.keep.ensures.count, length-set c.self.inside.lens.items c.args.part (c.index.result.now - 1));
      wide = omega (arith, c.self.invariant.wide, c.keep.ensures.longest);
      bound = c.self.invariant.bound;
    }

pub returns-clause-rows : goal.returns-clause-rows
returns-clause-rows g c =
    let len : c.index.result.now ≡ get_or c.self.inside.lens.items c.args.part 0 = (get_or_read_under c.self.inside.lens.items c.args.part (vec_len c.self.inside.lens) c.index.result.now 0 c.index.ensures (omega (arith, (part_laid 128 c.self.inside.numbers.items c.self.inside.pages.rows c.args.self.now.rows c.self.inside.lens.items c.args.part (ap (λ (v : Roomy). v.rows) c.self.view_is) c.requires.part), c.self.inside.lens.ok.0)) c.self.inside.lens.ok.0) in
    let below : c.args.part < length c.self.inside.lens.items = (part_laid 128 c.self.inside.numbers.items c.self.inside.pages.rows c.args.self.now.rows c.self.inside.lens.items c.args.part (ap (λ (v : Roomy). v.rows) c.self.view_is) c.requires.part) in
    let inside : c.index.result.now - 1 < get_or c.self.inside.lens.items c.args.part 0 = omega (arith, len, (count_laid 128 c.self.inside.numbers.items c.self.inside.pages.rows c.args.self.now.rows c.self.inside.lens.items c.args.part (ap (λ (v : Roomy). v.rows) c.self.view_is) c.requires.part), c.requires.filled) in
    kept_cut 128 c.self.inside.pages c.keep.new.self c.self.inside.numbers.items c.self.inside.lens.items c.args.part (c.index.result.now - 1) (lit< tt) c.self.invariant.laid below c.keep.ensures.rows (omega (arith, inside))
    ∙ ap (λ r. set r c.args.part (take (c.index.result.now - 1) (row r c.args.part))) (ap (λ (v : Roomy). v.rows) c.self.view_is) ∙ ap (λ n. set c.args.self.now.rows c.args.part (take (n - 1) (row c.args.self.now.rows c.args.part))) (len ∙ (count_laid 128 c.self.inside.numbers.items c.self.inside.pages.rows c.args.self.now.rows c.self.inside.lens.items c.args.part (ap (λ (v : Roomy). v.rows) c.self.view_is) c.requires.part))
