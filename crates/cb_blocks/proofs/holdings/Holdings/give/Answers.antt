use Rattle.std.proofs.Common.{◌≡◌, ◌∙◌, ◌+◌, ◌-◌, ◌*◌, ◌<◌, [], ◌∷◌, ◌++◌, length, get_or, set, sym, ap, subst}
use Rattle.std.specs.Vec.{vec_capacity}
use Rattle.std.proofs.lemmas.Option.{get_or_from_slice_get}
use Rattle.cb_blocks.specs.Holdings.{Held, tag}
use Rattle.cb_blocks.specs.Rows.{popped, row}
use Rattle.cb_blocks.proofs.Kept.{kept_as, kept_given, sound}
use Rattle.cb_blocks.proofs.holdings.Holdings.give.Goals as goal

pub invariant_of-self : goal.invariant_of-self
invariant_of-self g c =
    let below : c.args.part < length (g.R.Rows.rows c.self.inside.rows) = subst (λ r. c.args.part < length r) (sym (ap (λ (v : Held). v.rows) c.self.view_is)) c.requires.part in
    let some : 0 < length (row (g.R.Rows.rows c.self.inside.rows) c.args.part) = subst (λ r. 0 < length (row r c.args.part)) (sym (ap (λ (v : Held). v.rows) c.self.view_is)) c.requires.filled in
    let last : get_or (row (g.R.Rows.rows c.self.inside.rows) c.args.part) (length (row (g.R.Rows.rows c.self.inside.rows) c.args.part) - 1) 0 ≡ c.pop-number.result = get_or_from_slice_get (row (g.R.Rows.rows c.self.inside.rows) c.args.part) (length (row (g.R.Rows.rows c.self.inside.rows) c.args.part) - 1) c.pop-number.result 0 c.pop-number.ensures.number in
    let is = kept_given (g.R.Rows.rows c.self.inside.rows) c.self.inside.free.items c.self.inside.tags.items c.self.inside.count c.self.inside.fresh c.self.inside.parts (g.R.Rows.most c.self.inside.rows) (vec_capacity c.self.inside.free) c.args.part c.pop-number.result c.self.invariant below some last in
    let tags : set c.self.inside.tags.items c.pop-number.result c.tag.result ≡ set c.self.inside.tags.items c.pop-number.result (tag c.self.inside.parts (length c.self.inside.free.items)) =
    ap (λ t. set c.self.inside.tags.items c.pop-number.result t) (c.tag.ensures ∙ ap (λ n. c.self.inside.parts * 1048576 + n) (c.len.ensures ∙ c.self.inside.free.ok.0)) in
    let kept = kept_as (popped (g.R.Rows.rows c.self.inside.rows) c.args.part) (g.R.Rows.rows c.pop-number.new.self) (c.self.inside.free.items ++ c.pop-number.result ∷ []) c.add.new.free.items (set c.self.inside.tags.items c.pop-number.result (tag c.self.inside.parts (length c.self.inside.free.items))) (set c.self.inside.tags.items c.pop-number.result c.tag.result) c.self.inside.count c.self.inside.fresh c.self.inside.parts (g.R.Rows.most c.self.inside.rows) (g.R.Rows.most c.pop-number.new.self) (vec_capacity c.self.inside.free) (vec_capacity c.add.new.free)
    c.pop-number.ensures.rows c.add.ensures.items tags c.pop-number.ensures.most c.add.ensures.room is in
    kept

pub returns-clause-sound : goal.returns-clause-sound
returns-clause-sound g c =
    let below : c.args.part < length (g.R.Rows.rows c.self.inside.rows) = subst (λ r. c.args.part < length r) (sym (ap (λ (v : Held). v.rows) c.self.view_is)) c.requires.part in
    let some : 0 < length (row (g.R.Rows.rows c.self.inside.rows) c.args.part) = subst (λ r. 0 < length (row r c.args.part)) (sym (ap (λ (v : Held). v.rows) c.self.view_is)) c.requires.filled in
    let last : get_or (row (g.R.Rows.rows c.self.inside.rows) c.args.part) (length (row (g.R.Rows.rows c.self.inside.rows) c.args.part) - 1) 0 ≡ c.pop-number.result = get_or_from_slice_get (row (g.R.Rows.rows c.self.inside.rows) c.args.part) (length (row (g.R.Rows.rows c.self.inside.rows) c.args.part) - 1) c.pop-number.result 0 c.pop-number.ensures.number in
    let is = kept_given (g.R.Rows.rows c.self.inside.rows) c.self.inside.free.items c.self.inside.tags.items c.self.inside.count c.self.inside.fresh c.self.inside.parts (g.R.Rows.most c.self.inside.rows) (vec_capacity c.self.inside.free) c.args.part c.pop-number.result c.self.invariant below some last in
    let tags : set c.self.inside.tags.items c.pop-number.result c.tag.result ≡ set c.self.inside.tags.items c.pop-number.result (tag c.self.inside.parts (length c.self.inside.free.items)) =
    ap (λ t. set c.self.inside.tags.items c.pop-number.result t) (c.tag.ensures ∙ ap (λ n. c.self.inside.parts * 1048576 + n) (c.len.ensures ∙ c.self.inside.free.ok.0)) in
    let kept = kept_as (popped (g.R.Rows.rows c.self.inside.rows) c.args.part) (g.R.Rows.rows c.pop-number.new.self) (c.self.inside.free.items ++ c.pop-number.result ∷ []) c.add.new.free.items (set c.self.inside.tags.items c.pop-number.result (tag c.self.inside.parts (length c.self.inside.free.items))) (set c.self.inside.tags.items c.pop-number.result c.tag.result) c.self.inside.count c.self.inside.fresh c.self.inside.parts (g.R.Rows.most c.self.inside.rows) (g.R.Rows.most c.pop-number.new.self) (vec_capacity c.self.inside.free) (vec_capacity c.add.new.free)
    c.pop-number.ensures.rows c.add.ensures.items tags c.pop-number.ensures.most c.add.ensures.room is in
    sound (g.R.Rows.rows c.pop-number.new.self) c.add.new.free.items (set c.self.inside.tags.items c.pop-number.result c.tag.result) c.self.inside.count c.self.inside.fresh c.self.inside.parts (g.R.Rows.most c.pop-number.new.self) (vec_capacity c.add.new.free) (g.R.Rows.longest c.pop-number.new.self) kept
