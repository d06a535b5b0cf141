use Rattle.std.proofs.Common.{◌≡◌, ◌∙◌, ◌+◌, ◌*◌, ◌<◌, length, set, refl, sym, ap, arith, subst, max}
use Rattle.std.specs.Vec.{vec_capacity}
use Rattle.cb_blocks.specs.Holdings.{Held, tag}
use Rattle.cb_blocks.specs.Rows.{held, pushed, row}
use Rattle.cb_blocks.proofs.Kept.{fresh_taken, kept_as, kept_taken, sound}
use Rattle.cb_blocks.proofs.holdings.Holdings.take.Goals as goal

pub invariant_of-self : goal.invariant_of-self
invariant_of-self g c =
    let below : c.args.part < length (g.R.Rows.rows c.self.inside.rows) = subst (λ r. c.args.part < length r) (sym (ap (λ (v : Held). v.rows) c.self.view_is)) c.requires.part in
    let less : held (g.R.Rows.rows c.self.inside.rows) < c.self.inside.count = omega (arith, c.requires.free, ap held (ap (λ (v : Held). v.rows) c.self.view_is), (ap (λ (v : Held). v.count) c.self.view_is)) in
    let is = kept_taken (g.R.Rows.rows c.self.inside.rows) c.self.inside.free.items c.next-number.new.free.items c.self.inside.tags.items c.self.inside.count c.self.inside.fresh c.next-number.new.fresh c.self.inside.parts (g.R.Rows.most c.self.inside.rows) (vec_capacity c.self.inside.free) c.args.part c.next-number.result c.self.invariant below less c.next-number.ensures.next in
    let tags : set c.self.inside.tags.items c.next-number.result c.tag.result ≡ set c.self.inside.tags.items c.next-number.result (tag c.args.part (length (row (g.R.Rows.rows c.self.inside.rows) c.args.part))) =
    ap (λ t. set c.self.inside.tags.items c.next-number.result t) (c.tag.ensures ∙ ap (λ n. c.args.part * 1048576 + n) c.len.ensures) in
    let kept = kept_as (pushed (g.R.Rows.rows c.self.inside.rows) c.args.part c.next-number.result) (g.R.Rows.rows c.push.new.self) c.next-number.new.free.items c.next-number.new.free.items (set c.self.inside.tags.items c.next-number.result (tag c.args.part (length (row (g.R.Rows.rows c.self.inside.rows) c.args.part)))) (set c.self.inside.tags.items c.next-number.result c.tag.result) c.self.inside.count c.next-number.new.fresh c.self.inside.parts (g.R.Rows.most c.self.inside.rows) (g.R.Rows.most c.push.new.self) (vec_capacity c.self.inside.free) (vec_capacity c.next-number.new.free)
    c.push.ensures.rows refl tags c.push.ensures.most (omega (arith, c.next-number.ensures.room)) is in
    kept

pub returns-clause-sound : goal.returns-clause-sound
returns-clause-sound g c =
    let below : c.args.part < length (g.R.Rows.rows c.self.inside.rows) = subst (λ r. c.args.part < length r) (sym (ap (λ (v : Held). v.rows) c.self.view_is)) c.requires.part in
    let less : held (g.R.Rows.rows c.self.inside.rows) < c.self.inside.count = omega (arith, c.requires.free, ap held (ap (λ (v : Held). v.rows) c.self.view_is), (ap (λ (v : Held). v.count) c.self.view_is)) in
    let is = kept_taken (g.R.Rows.rows c.self.inside.rows) c.self.inside.free.items c.next-number.new.free.items c.self.inside.tags.items c.self.inside.count c.self.inside.fresh c.next-number.new.fresh c.self.inside.parts (g.R.Rows.most c.self.inside.rows) (vec_capacity c.self.inside.free) c.args.part c.next-number.result c.self.invariant below less c.next-number.ensures.next in
    let tags : set c.self.inside.tags.items c.next-number.result c.tag.result ≡ set c.self.inside.tags.items c.next-number.result (tag c.args.part (length (row (g.R.Rows.rows c.self.inside.rows) c.args.part))) =
    ap (λ t. set c.self.inside.tags.items c.next-number.result t) (c.tag.ensures ∙ ap (λ n. c.args.part * 1048576 + n) c.len.ensures) in
    let kept = kept_as (pushed (g.R.Rows.rows c.self.inside.rows) c.args.part c.next-number.result) (g.R.Rows.rows c.push.new.self) c.next-number.new.free.items c.next-number.new.free.items (set c.self.inside.tags.items c.next-number.result (tag c.args.part (length (row (g.R.Rows.rows c.self.inside.rows) c.args.part)))) (set c.self.inside.tags.items c.next-number.result c.tag.result) c.self.inside.count c.next-number.new.fresh c.self.inside.parts (g.R.Rows.most c.self.inside.rows) (g.R.Rows.most c.push.new.self) (vec_capacity c.self.inside.free) (vec_capacity c.next-number.new.free)
    c.push.ensures.rows refl tags c.push.ensures.most (omega (arith, c.next-number.ensures.room)) is in
    sound (g.R.Rows.rows c.push.new.self) c.next-number.new.free.items (set c.self.inside.tags.items c.next-number.result c.tag.result) c.self.inside.count c.next-number.new.fresh c.self.inside.parts (g.R.Rows.most c.push.new.self) (vec_capacity c.next-number.new.free) (g.R.Rows.longest c.push.new.self) kept

pub next-number-requires : goal.next-number-requires
next-number-requires g c = omega (arith, c.self.invariant.within, c.self.invariant.bound)

pub index_mut-requires : goal.index_mut-requires
index_mut-requires g c =
    let less : held (g.R.Rows.rows c.self.inside.rows) < c.self.inside.count = omega (arith, c.requires.free, ap held (ap (λ (v : Held). v.rows) c.self.view_is), (ap (λ (v : Held). v.count) c.self.view_is)) in
    let small = fresh_taken (g.R.Rows.rows c.self.inside.rows) c.self.inside.free.items c.next-number.new.free.items c.self.inside.tags.items c.self.inside.count c.self.inside.fresh c.next-number.new.fresh c.self.inside.parts (g.R.Rows.most c.self.inside.rows) (vec_capacity c.self.inside.free) c.next-number.result c.self.invariant less c.next-number.ensures.next in
    omega (arith, small.0, c.self.invariant.whole, c.self.inside.tags.ok.0)

pub returns-clause-fresh : goal.returns-clause-fresh
returns-clause-fresh g c =
    let less : held (g.R.Rows.rows c.self.inside.rows) < c.self.inside.count = omega (arith, c.requires.free, ap held (ap (λ (v : Held). v.rows) c.self.view_is), (ap (λ (v : Held). v.count) c.self.view_is)) in
    let small = fresh_taken (g.R.Rows.rows c.self.inside.rows) c.self.inside.free.items c.next-number.new.free.items c.self.inside.tags.items c.self.inside.count c.self.inside.fresh c.next-number.new.fresh c.self.inside.parts (g.R.Rows.most c.self.inside.rows) (vec_capacity c.self.inside.free) c.next-number.result c.self.invariant less c.next-number.ensures.next in
    small.1 ∙ ap (λ n. max n (c.next-number.result + 1)) (ap (λ (v : Held). v.fresh) c.self.view_is)
