use Rattle.std.proofs.Common.{◌≡◌, ◌∙◌, ◌+◌, ◌<◌, ◌*◌, length, get_or, sym, ap, arith, subst, List, ℕ, vec_len}
use Rattle.std.proofs.lemmas.Bool.{eqb-true}
use Rattle.std.proofs.lemmas.List.{get_or_read_under}
use Rattle.std.specs.Vec.{vec_capacity}
use Rattle.cb_blocks.specs.Holdings.{Held, IsNumberAt}
use Rattle.cb_blocks.specs.Rows.{row}
use Rattle.cb_blocks.proofs.Standing.{told_by_tag}
use Rattle.cb_blocks.proofs.holdings.Holdings.follows.Goals as goal

pub returns-then-other-self : goal.returns-then-other-self
returns-then-other-self g c part i there within told =
    let rows : List (List ℕ) = g.R.Rows.rows c.self.inside.rows in
    let same : rows ≡ c.args.self.now.rows = ap (λ (v : Held). v.rows) c.self.view_is in
    let here : IsNumberAt rows part i c.args.number = subst (λ r. IsNumberAt r part i c.args.number) (sym same) there in
    let tagged = c.self.invariant.rows_tagged part i here.0 in
    let inside : i + c.args.count < length (row rows part) = subst (λ r. i + c.args.count < length (row r part)) (sym same) within in
    let read : c.index.result.now ≡ get_or c.self.inside.tags.items (c.args.number + c.args.count) 0 =
    get_or_read_under c.self.inside.tags.items (c.args.number + c.args.count) (vec_len c.self.inside.tags) c.index.result.now 0 c.index.ensures (omega (arith, c.if-other-self.true, c.self.invariant.within, c.self.invariant.whole, c.self.inside.tags.ok.0)) c.self.inside.tags.ok.0 in
    let read' : c.index-then-other-self.result.now ≡ get_or c.self.inside.tags.items c.args.number 0 =
    get_or_read_under c.self.inside.tags.items c.args.number (vec_len c.self.inside.tags) c.index-then-other-self.result.now 0 c.index-then-other-self.ensures (omega (arith, c.if-other-self.true, c.self.invariant.within, c.self.invariant.whole, c.self.inside.tags.ok.0)) c.self.inside.tags.ok.0 in
    let mine : get_or c.self.inside.tags.items c.args.number 0 ≡ part * 1048576 + i = ap (λ n. get_or c.self.inside.tags.items n 0) (sym here.1) ∙ tagged.1 in
    let equal : c.index.result.now ≡ c.index-then-other-self.result.now + c.args.count = eqb-true c.index.result.now (c.index-then-other-self.result.now + c.args.count) told in
    let is : get_or c.self.inside.tags.items (c.args.number + c.args.count) 0 ≡ part * 1048576 + (i + c.args.count) = omega (arith, read, read', mine, equal) in
    subst (λ r. IsNumberAt r part (i + c.args.count) (c.args.number + c.args.count)) same
    (told_by_tag rows c.self.inside.free.items c.self.inside.tags.items c.self.inside.count c.self.inside.fresh c.self.inside.parts (g.R.Rows.most c.self.inside.rows) (vec_capacity c.self.inside.free) part (i + c.args.count) (c.args.number + c.args.count) c.self.invariant c.if-other-self.true inside is)
