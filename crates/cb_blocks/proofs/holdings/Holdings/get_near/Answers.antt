use Rattle.std.proofs.Common.{◌≡◌, ◌∙◌, ◌+◌, ◌<◌, ◌*◌, length, get_or, slice_get, Some, sym, ap, arith, subst, List, ℕ, vec_len}
use Rattle.std.proofs.lemmas.List.{get_or_read_under}
use Rattle.std.proofs.lemmas.Option.{slice_get-get_or}
use Rattle.std.specs.Vec.{vec_capacity}
use Rattle.cb_blocks.specs.Holdings.{Held, IsNumberAt}
use Rattle.cb_blocks.specs.Rows.{row}
use Rattle.cb_blocks.proofs.Standing.{told_by_tag}
use Rattle.cb_blocks.proofs.holdings.Holdings.get_near.Goals as goal

pub returns-then-index-tag : goal.returns-then-index-tag
returns-then-index-tag g c =
    let rows : List (List ℕ) = g.R.Rows.rows c.self.inside.rows in
    let same : rows ≡ c.args.self.now.rows = ap (λ (v : Held). v.rows) c.self.view_is in
    let inside : c.args.i < length (row rows c.args.part) = subst (λ r. c.args.i < length (row r c.args.part)) (sym same) c.requires.place in
    let read : c.index.result.now ≡ get_or c.self.inside.tags.items c.args.near 0 =
    get_or_read_under c.self.inside.tags.items c.args.near (vec_len c.self.inside.tags) c.index.result.now 0 c.index.ensures (omega (arith, c.if-near-self.true, c.self.invariant.within, c.self.invariant.whole, c.self.inside.tags.ok.0)) c.self.inside.tags.ok.0 in
    let is : get_or c.self.inside.tags.items c.args.near 0 ≡ c.args.part * 1048576 + c.args.i = sym read ∙ c.if-index-tag.true ∙ c.tag.ensures in
    let number : IsNumberAt rows c.args.part c.args.i c.args.near =
    told_by_tag rows c.self.inside.free.items c.self.inside.tags.items c.self.inside.count c.self.inside.fresh c.self.inside.parts (g.R.Rows.most c.self.inside.rows) (vec_capacity c.self.inside.free) c.args.part c.args.i c.args.near c.self.invariant c.if-near-self.true inside is in
    subst (λ r. slice_get (row r c.args.part) c.args.i ≡ Some c.args.near) same
    (slice_get-get_or (row rows c.args.part) c.args.i 0 inside ∙ ap Some number.1)
