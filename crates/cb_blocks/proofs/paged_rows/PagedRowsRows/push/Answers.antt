use Rattle.std.proofs.Common.{◌≡◌, ◌∙◌, ℕ, ◌+◌, ◌-◌, ◌*◌, ◌/◌, ◌%◌, ◌<◌, List, length, get_or, set, sym, ap, subst, arith, lit<, vec_len, length-set, get_or-set_same}
use Rattle.std.proofs.lemmas.List.{get_or_read_under}
use Rattle.cb_blocks.specs.PagedRows.{IsLaid, Roomy}
use Rattle.cb_blocks.specs.Rows.{IsExtended, all_paged, held, pages_for, place_in, pushed, row}
use Rattle.cb_blocks.proofs.Laid.{count_laid, exact_extended, laid_pushed, laid_store, page_free, page_there, part_laid, place_is, place_there}
use Rattle.cb_blocks.proofs.paged_rows.PagedRowsRows.push.Goals as goal

pub index-len-requires : goal.index-len-requires
index-len-requires g c = (omega (arith, (part_laid 128 c.self.inside.numbers.items c.self.inside.pages.rows c.args.self.now.rows c.self.inside.lens.items c.args.part (ap (λ (v : Roomy). v.rows) c.self.view_is) c.requires.part), c.self.inside.lens.ok.0))

pub reach-requires-clause-part : goal.reach-requires-clause-part
reach-requires-clause-part g c = omega (arith, (part_laid 128 c.self.inside.numbers.items c.self.inside.pages.rows c.args.self.now.rows c.self.inside.lens.items c.args.part (ap (λ (v : Roomy). v.rows) c.self.view_is) c.requires.part), c.self.invariant.laid.parts)

pub reach-requires-clause-free : goal.reach-requires-clause-free
reach-requires-clause-free g c =
    let len : c.index-len.result.now ≡ get_or c.self.inside.lens.items c.args.part 0 = (get_or_read_under c.self.inside.lens.items c.args.part (vec_len c.self.inside.lens) c.index-len.result.now 0 c.index-len.ensures (omega (arith, (part_laid 128 c.self.inside.numbers.items c.self.inside.pages.rows c.args.self.now.rows c.self.inside.lens.items c.args.part (ap (λ (v : Roomy). v.rows) c.self.view_is) c.requires.part), c.self.inside.lens.ok.0)) c.self.inside.lens.ok.0) in
    let below : c.args.part < length c.self.inside.lens.items = (part_laid 128 c.self.inside.numbers.items c.self.inside.pages.rows c.args.self.now.rows c.self.inside.lens.items c.args.part (ap (λ (v : Roomy). v.rows) c.self.view_is) c.requires.part) in
    let had = c.self.invariant.laid.exact c.args.part below in
    let free = page_free c.self.inside.pages c.self.inside.numbers.items c.self.inside.lens.items c.self.inside.most c.self.invariant.laid c.self.invariant.room (omega (arith, c.requires.room, ap held (ap (λ (v : Roomy). v.rows) c.self.view_is), ap (λ (v : Roomy). v.most) c.self.view_is)) in
    omega (arith, free, had, len)

pub reach-requires-clause-short : goal.reach-requires-clause-short
reach-requires-clause-short g c =
    let len : c.index-len.result.now ≡ get_or c.self.inside.lens.items c.args.part 0 = (get_or_read_under c.self.inside.lens.items c.args.part (vec_len c.self.inside.lens) c.index-len.result.now 0 c.index-len.ensures (omega (arith, (part_laid 128 c.self.inside.numbers.items c.self.inside.pages.rows c.args.self.now.rows c.self.inside.lens.items c.args.part (ap (λ (v : Roomy). v.rows) c.self.view_is) c.requires.part), c.self.inside.lens.ok.0)) c.self.inside.lens.ok.0) in
    let below : c.args.part < length c.self.inside.lens.items = (part_laid 128 c.self.inside.numbers.items c.self.inside.pages.rows c.args.self.now.rows c.self.inside.lens.items c.args.part (ap (λ (v : Roomy). v.rows) c.self.view_is) c.requires.part) in
    let had = c.self.invariant.laid.exact c.args.part below in
    omega (arith, len, (count_laid 128 c.self.inside.numbers.items c.self.inside.pages.rows c.args.self.now.rows c.self.inside.lens.items c.args.part (ap (λ (v : Roomy). v.rows) c.self.view_is) c.requires.part), c.requires.short, c.self.invariant.wide, ap (λ (v : Roomy). v.longest) c.self.view_is)

pub reach-requires-clause-sound : goal.reach-requires-clause-sound
reach-requires-clause-sound g c = c.self.invariant.laid.sound

pub get-page-requires-clause-part : goal.get-page-requires-clause-part
get-page-requires-clause-part g c =
    let len : c.index-len.result.now ≡ get_or c.self.inside.lens.items c.args.part 0 = (get_or_read_under c.self.inside.lens.items c.args.part (vec_len c.self.inside.lens) c.index-len.result.now 0 c.index-len.ensures (omega (arith, (part_laid 128 c.self.inside.numbers.items c.self.inside.pages.rows c.args.self.now.rows c.self.inside.lens.items c.args.part (ap (λ (v : Roomy). v.rows) c.self.view_is) c.requires.part), c.self.inside.lens.ok.0)) c.self.inside.lens.ok.0) in
    let below : c.args.part < length c.self.inside.lens.items = (part_laid 128 c.self.inside.numbers.items c.self.inside.pages.rows c.args.self.now.rows c.self.inside.lens.items c.args.part (ap (λ (v : Roomy). v.rows) c.self.view_is) c.requires.part) in
    let had = c.self.invariant.laid.exact c.args.part below in
    let wanted : c.index-len.result.now / 128 + 1 - length (row c.self.inside.pages.rows c.args.part) ≡ pages_for 128 (get_or c.self.inside.lens.items c.args.part 0 + 1) - length (row c.self.inside.pages.rows c.args.part) = omega (arith, len) in
    let extended : IsExtended c.self.inside.pages.rows c.reach.new.self.rows c.args.part (pages_for 128 (get_or c.self.inside.lens.items c.args.part 0 + 1) - length (row c.self.inside.pages.rows c.args.part)) = subst (λ n. IsExtended c.self.inside.pages.rows c.reach.new.self.rows c.args.part n) wanted c.reach.ensures.rows in
    let laid : IsLaid 128 c.reach.new.self c.self.inside.numbers.items (set c.self.inside.lens.items c.args.part (get_or c.self.inside.lens.items c.args.part 0 + 1)) = exact_extended 128 c.self.inside.pages c.reach.new.self c.self.inside.numbers.items c.self.inside.lens.items c.args.part (get_or c.self.inside.lens.items c.args.part 0 + 1) (lit< tt) c.self.invariant.laid below extended (omega arith) c.reach.ensures.count c.reach.ensures.sound in
    let below' : c.args.part < length (set c.self.inside.lens.items c.args.part (get_or c.self.inside.lens.items c.args.part 0 + 1)) = subst (λ n. c.args.part < n) (sym (length-set c.self.inside.lens.items c.args.part (get_or c.self.inside.lens.items c.args.part 0 + 1))) below in
    let is_len : get_or (set c.self.inside.lens.items c.args.part (get_or c.self.inside.lens.items c.args.part 0 + 1)) c.args.part 0 ≡ get_or c.self.inside.lens.items c.args.part 0 + 1 = get_or-set_same c.self.inside.lens.items c.args.part (get_or c.self.inside.lens.items c.args.part 0 + 1) 0 below in
    let inside : c.index-len.result.now < get_or (set c.self.inside.lens.items c.args.part (get_or c.self.inside.lens.items c.args.part 0 + 1)) c.args.part 0 = omega (arith, is_len, len) in
    omega (arith, below', laid.parts)

pub get-page-requires-clause-place : goal.get-page-requires-clause-place
get-page-requires-clause-place g c =
    let len : c.index-len.result.now ≡ get_or c.self.inside.lens.items c.args.part 0 = (get_or_read_under c.self.inside.lens.items c.args.part (vec_len c.self.inside.lens) c.index-len.result.now 0 c.index-len.ensures (omega (arith, (part_laid 128 c.self.inside.numbers.items c.self.inside.pages.rows c.args.self.now.rows c.self.inside.lens.items c.args.part (ap (λ (v : Roomy). v.rows) c.self.view_is) c.requires.part), c.self.inside.lens.ok.0)) c.self.inside.lens.ok.0) in
    let below : c.args.part < length c.self.inside.lens.items = (part_laid 128 c.self.inside.numbers.items c.self.inside.pages.rows c.args.self.now.rows c.self.inside.lens.items c.args.part (ap (λ (v : Roomy). v.rows) c.self.view_is) c.requires.part) in
    let had = c.self.invariant.laid.exact c.args.part below in
    let wanted : c.index-len.result.now / 128 + 1 - length (row c.self.inside.pages.rows c.args.part) ≡ pages_for 128 (get_or c.self.inside.lens.items c.args.part 0 + 1) - length (row c.self.inside.pages.rows c.args.part) = omega (arith, len) in
    let extended : IsExtended c.self.inside.pages.rows c.reach.new.self.rows c.args.part (pages_for 128 (get_or c.self.inside.lens.items c.args.part 0 + 1) - length (row c.self.inside.pages.rows c.args.part)) = subst (λ n. IsExtended c.self.inside.pages.rows c.reach.new.self.rows c.args.part n) wanted c.reach.ensures.rows in
    let laid : IsLaid 128 c.reach.new.self c.self.inside.numbers.items (set c.self.inside.lens.items c.args.part (get_or c.self.inside.lens.items c.args.part 0 + 1)) = exact_extended 128 c.self.inside.pages c.reach.new.self c.self.inside.numbers.items c.self.inside.lens.items c.args.part (get_or c.self.inside.lens.items c.args.part 0 + 1) (lit< tt) c.self.invariant.laid below extended (omega arith) c.reach.ensures.count c.reach.ensures.sound in
    let below' : c.args.part < length (set c.self.inside.lens.items c.args.part (get_or c.self.inside.lens.items c.args.part 0 + 1)) = subst (λ n. c.args.part < n) (sym (length-set c.self.inside.lens.items c.args.part (get_or c.self.inside.lens.items c.args.part 0 + 1))) below in
    let is_len : get_or (set c.self.inside.lens.items c.args.part (get_or c.self.inside.lens.items c.args.part 0 + 1)) c.args.part 0 ≡ get_or c.self.inside.lens.items c.args.part 0 + 1 = get_or-set_same c.self.inside.lens.items c.args.part (get_or c.self.inside.lens.items c.args.part 0 + 1) 0 below in
    let inside : c.index-len.result.now < get_or (set c.self.inside.lens.items c.args.part (get_or c.self.inside.lens.items c.args.part 0 + 1)) c.args.part 0 = omega (arith, is_len, len) in
    page_there 128 c.reach.new.self c.self.inside.numbers.items (set c.self.inside.lens.items c.args.part (get_or c.self.inside.lens.items c.args.part 0 + 1)) c.args.part c.index-len.result.now (lit< tt) laid below' inside

pub index_mut-requires : goal.index_mut-requires
index_mut-requires g c =
    let len : c.index-len.result.now ≡ get_or c.self.inside.lens.items c.args.part 0 = (get_or_read_under c.self.inside.lens.items c.args.part (vec_len c.self.inside.lens) c.index-len.result.now 0 c.index-len.ensures (omega (arith, (part_laid 128 c.self.inside.numbers.items c.self.inside.pages.rows c.args.self.now.rows c.self.inside.lens.items c.args.part (ap (λ (v : Roomy). v.rows) c.self.view_is) c.requires.part), c.self.inside.lens.ok.0)) c.self.inside.lens.ok.0) in
    let below : c.args.part < length c.self.inside.lens.items = (part_laid 128 c.self.inside.numbers.items c.self.inside.pages.rows c.args.self.now.rows c.self.inside.lens.items c.args.part (ap (λ (v : Roomy). v.rows) c.self.view_is) c.requires.part) in
    let had = c.self.invariant.laid.exact c.args.part below in
    let wanted : c.index-len.result.now / 128 + 1 - length (row c.self.inside.pages.rows c.args.part) ≡ pages_for 128 (get_or c.self.inside.lens.items c.args.part 0 + 1) - length (row c.self.inside.pages.rows c.args.part) = omega (arith, len) in
    let extended : IsExtended c.self.inside.pages.rows c.reach.new.self.rows c.args.part (pages_for 128 (get_or c.self.inside.lens.items c.args.part 0 + 1) - length (row c.self.inside.pages.rows c.args.part)) = subst (λ n. IsExtended c.self.inside.pages.rows c.reach.new.self.rows c.args.part n) wanted c.reach.ensures.rows in
    let laid : IsLaid 128 c.reach.new.self c.self.inside.numbers.items (set c.self.inside.lens.items c.args.part (get_or c.self.inside.lens.items c.args.part 0 + 1)) = exact_extended 128 c.self.inside.pages c.reach.new.self c.self.inside.numbers.items c.self.inside.lens.items c.args.part (get_or c.self.inside.lens.items c.args.part 0 + 1) (lit< tt) c.self.invariant.laid below extended (omega arith) c.reach.ensures.count c.reach.ensures.sound in
    let below' : c.args.part < length (set c.self.inside.lens.items c.args.part (get_or c.self.inside.lens.items c.args.part 0 + 1)) = subst (λ n. c.args.part < n) (sym (length-set c.self.inside.lens.items c.args.part (get_or c.self.inside.lens.items c.args.part 0 + 1))) below in
    let is_len : get_or (set c.self.inside.lens.items c.args.part (get_or c.self.inside.lens.items c.args.part 0 + 1)) c.args.part 0 ≡ get_or c.self.inside.lens.items c.args.part 0 + 1 = get_or-set_same c.self.inside.lens.items c.args.part (get_or c.self.inside.lens.items c.args.part 0 + 1) 0 below in
    let inside : c.index-len.result.now < get_or (set c.self.inside.lens.items c.args.part (get_or c.self.inside.lens.items c.args.part 0 + 1)) c.args.part 0 = omega (arith, is_len, len) in
    let place = place_is 128 c.reach.new.self.rows c.args.part c.index-len.result.now c.get-page.result c.get-page.ensures in
    let there = place_there 128 c.reach.new.self c.self.inside.numbers.items (set c.self.inside.lens.items c.args.part (get_or c.self.inside.lens.items c.args.part 0 + 1)) c.args.part c.index-len.result.now (lit< tt) laid below' inside in
    omega (arith, place, there, c.self.inside.numbers.ok.0)

pub overflow_add-len : goal.overflow_add-len
overflow_add-len g c = omega (arith, c.type_inv.len.fits)

pub index_mut-requires-2 : goal.index_mut-requires-2
index_mut-requires-2 g c = (omega (arith, (part_laid 128 c.self.inside.numbers.items c.self.inside.pages.rows c.args.self.now.rows c.self.inside.lens.items c.args.part (ap (λ (v : Roomy). v.rows) c.self.view_is) c.requires.part), c.self.inside.lens.ok.0))

pub invariant_of-self : goal.invariant_of-self
invariant_of-self g c =
    let len : c.index-len.result.now ≡ get_or c.self.inside.lens.items c.args.part 0 = (get_or_read_under c.self.inside.lens.items c.args.part (vec_len c.self.inside.lens) c.index-len.result.now 0 c.index-len.ensures (omega (arith, (part_laid 128 c.self.inside.numbers.items c.self.inside.pages.rows c.args.self.now.rows c.self.inside.lens.items c.args.part (ap (λ (v : Roomy). v.rows) c.self.view_is) c.requires.part), c.self.inside.lens.ok.0)) c.self.inside.lens.ok.0) in
    let below : c.args.part < length c.self.inside.lens.items = (part_laid 128 c.self.inside.numbers.items c.self.inside.pages.rows c.args.self.now.rows c.self.inside.lens.items c.args.part (ap (λ (v : Roomy). v.rows) c.self.view_is) c.requires.part) in
    let had = c.self.invariant.laid.exact c.args.part below in
    let wanted : c.index-len.result.now / 128 + 1 - length (row c.self.inside.pages.rows c.args.part) ≡ pages_for 128 (get_or c.self.inside.lens.items c.args.part 0 + 1) - length (row c.self.inside.pages.rows c.args.part) = omega (arith, len) in
    let extended : IsExtended c.self.inside.pages.rows c.reach.new.self.rows c.args.part (pages_for 128 (get_or c.self.inside.lens.items c.args.part 0 + 1) - length (row c.self.inside.pages.rows c.args.part)) = subst (λ n. IsExtended c.self.inside.pages.rows c.reach.new.self.rows c.args.part n) wanted c.reach.ensures.rows in
    let laid : IsLaid 128 c.reach.new.self c.self.inside.numbers.items (set c.self.inside.lens.items c.args.part (get_or c.self.inside.lens.items c.args.part 0 + 1)) = exact_extended 128 c.self.inside.pages c.reach.new.self c.self.inside.numbers.items c.self.inside.lens.items c.args.part (get_or c.self.inside.lens.items c.args.part 0 + 1) (lit< tt) c.self.invariant.laid below extended (omega arith) c.reach.ensures.count c.reach.ensures.sound in
    let new : List ℕ = set c.self.inside.numbers.items (c.get-page.result * 128 + c.index-len.result.now % 128) c.args.number in
    record {
      laid = subst (λ n. IsLaid 128 c.reach.new.self new (set c.self.inside.lens.items c.args.part (n + 1))) (sym len) (laid_store 128 c.reach.new.self c.self.inside.numbers.items new (set c.self.inside.lens.items c.args.part (get_or c.self.inside.lens.items c.args.part 0 + 1)) laid (length-set c.self.inside.numbers.items (c.get-page.result * 128 + c.index-len.result.now % 128) c.args.number));
      room = omega (arith, c.self.invariant.room, c.reach.ensures.count, length-set c.self.inside.lens.items c.args.part (c.index-len.result.now + 1));
      wide = omega (arith, c.self.invariant.wide, c.reach.ensures.longest);
      bound = c.self.invariant.bound;
    }

pub returns-clause-rows : goal.returns-clause-rows
returns-clause-rows g c =
    let len : c.index-len.result.now ≡ get_or c.self.inside.lens.items c.args.part 0 = (get_or_read_under c.self.inside.lens.items c.args.part (vec_len c.self.inside.lens) c.index-len.result.now 0 c.index-len.ensures (omega (arith, (part_laid 128 c.self.inside.numbers.items c.self.inside.pages.rows c.args.self.now.rows c.self.inside.lens.items c.args.part (ap (λ (v : Roomy). v.rows) c.self.view_is) c.requires.part), c.self.inside.lens.ok.0)) c.self.inside.lens.ok.0) in
    let below : c.args.part < length c.self.inside.lens.items = (part_laid 128 c.self.inside.numbers.items c.self.inside.pages.rows c.args.self.now.rows c.self.inside.lens.items c.args.part (ap (λ (v : Roomy). v.rows) c.self.view_is) c.requires.part) in
    let had = c.self.invariant.laid.exact c.args.part below in
    let wanted : c.index-len.result.now / 128 + 1 - length (row c.self.inside.pages.rows c.args.part) ≡ pages_for 128 (get_or c.self.inside.lens.items c.args.part 0 + 1) - length (row c.self.inside.pages.rows c.args.part) = omega (arith, len) in
    let extended : IsExtended c.self.inside.pages.rows c.reach.new.self.rows c.args.part (pages_for 128 (get_or c.self.inside.lens.items c.args.part 0 + 1) - length (row c.self.inside.pages.rows c.args.part)) = subst (λ n. IsExtended c.self.inside.pages.rows c.reach.new.self.rows c.args.part n) wanted c.reach.ensures.rows in
    let laid : IsLaid 128 c.reach.new.self c.self.inside.numbers.items (set c.self.inside.lens.items c.args.part (get_or c.self.inside.lens.items c.args.part 0 + 1)) = exact_extended 128 c.self.inside.pages c.reach.new.self c.self.inside.numbers.items c.self.inside.lens.items c.args.part (get_or c.self.inside.lens.items c.args.part 0 + 1) (lit< tt) c.self.invariant.laid below extended (omega arith) c.reach.ensures.count c.reach.ensures.sound in
    let place = place_is 128 c.reach.new.self.rows c.args.part c.index-len.result.now c.get-page.result c.get-page.ensures in
    ap (λ k. all_paged 128 (set c.self.inside.numbers.items k c.args.number) c.reach.new.self.rows (set c.self.inside.lens.items c.args.part (c.index-len.result.now + 1))) (sym place)
    ∙ ap (λ n. all_paged 128 (set c.self.inside.numbers.items (place_in 128 (row c.reach.new.self.rows c.args.part) n) c.args.number) c.reach.new.self.rows (set c.self.inside.lens.items c.args.part (n + 1))) len
    ∙ laid_pushed 128 c.self.inside.pages c.reach.new.self c.self.inside.numbers.items c.self.inside.lens.items c.args.part c.args.number (lit< tt) c.self.invariant.laid below extended c.reach.ensures.count c.reach.ensures.sound
    ∙ ap (λ r. pushed r c.args.part c.args.number) (ap (λ (v : Roomy). v.rows) c.self.view_is)
