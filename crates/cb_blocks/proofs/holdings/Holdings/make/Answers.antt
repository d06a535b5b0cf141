use Rattle.std.proofs.Common.{◌≡◌, ◌∙◌, ℕ, List, [], length, replicate, refl, sym, ap, arith}
use Rattle.std.specs.Vec.{vec_capacity}
use Rattle.cb_blocks.specs.Holdings.{Held}
use Rattle.cb_blocks.proofs.Kept.{kept_as, kept_empty, sound}
use Rattle.cb_blocks.proofs.holdings.Holdings.make.Goals as goal

pub invariant_of-result : goal.invariant_of-result
invariant_of-result g c =
    let whole : length c.in_ok-tags.tags.items ≡ c.args.count = sym c.in_ok-tags.tags.ok.0 ∙ c.in_ok-tags.ensures.len in
    let kept = kept_as (replicate c.args.parts []) (g.R.Rows.rows c.args.rows) [] c.in_ok-free.free.items c.in_ok-tags.tags.items c.in_ok-tags.tags.items c.args.count 0 c.args.parts (g.R.Rows.most c.args.rows) (g.R.Rows.most c.args.rows) c.args.count (vec_capacity c.in_ok-free.free)
    c.requires.empty c.in_ok-free.ensures.items refl refl c.in_ok-free.ensures.capacity (kept_empty c.in_ok-tags.tags.items c.args.count c.args.parts (g.R.Rows.most c.args.rows) c.args.count c.requires.bound c.requires.few c.requires.room (omega arith) whole) in
    kept

pub returns-clause-sound : goal.returns-clause-sound
returns-clause-sound g c =
    let whole : length c.in_ok-tags.tags.items ≡ c.args.count = sym c.in_ok-tags.tags.ok.0 ∙ c.in_ok-tags.ensures.len in
    let kept = kept_as (replicate c.args.parts []) (g.R.Rows.rows c.args.rows) [] c.in_ok-free.free.items c.in_ok-tags.tags.items c.in_ok-tags.tags.items c.args.count 0 c.args.parts (g.R.Rows.most c.args.rows) (g.R.Rows.most c.args.rows) c.args.count (vec_capacity c.in_ok-free.free)
    c.requires.empty c.in_ok-free.ensures.items refl refl c.in_ok-free.ensures.capacity (kept_empty c.in_ok-tags.tags.items c.args.count c.args.parts (g.R.Rows.most c.args.rows) c.args.count c.requires.bound c.requires.few c.requires.room (omega arith) whole) in
    sound (g.R.Rows.rows c.args.rows) c.in_ok-free.free.items c.in_ok-tags.tags.items c.args.count 0 c.args.parts (g.R.Rows.most c.args.rows) (vec_capacity c.in_ok-free.free) (g.R.Rows.longest c.args.rows) kept

pub returns-clause-made : goal.returns-clause-made
returns-clause-made g c =
    let made : List (List ℕ) → Held = λ rows. record { rows = rows; count = c.args.count; fresh = 0; longest = g.R.Rows.longest c.args.rows } in
    ap made c.requires.empty
