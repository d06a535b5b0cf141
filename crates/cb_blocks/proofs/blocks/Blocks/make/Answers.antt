use Rattle.std.proofs.Common.{◌≡◌, ◌∙◌, ℕ, List, [], replicate, ap, rules}
use Rattle.cb_blocks.specs.Holdings.{Held}
use Rattle.cb_blocks.specs.Parted.{Parted}
use Rattle.cb_blocks.specs.Rows.{all_paged}
use Rattle.cb_blocks.proofs.Laid.{none_paged}
use Rattle.cb_blocks.proofs.blocks.Blocks.make.Goals as goal

pub returns : goal.returns
returns c =
    let used : c.in_ok-used.used.items ≡ replicate c.args.parts 0 = search rules in
    let rows : c.in_ok-held.held.rows ≡ replicate c.args.parts [] = ap (λ (h : Held). h.rows) c.in_ok-held.ensures.made in
    let count : c.in_ok-held.held.count ≡ c.args.blocks = ap (λ (h : Held). h.count) c.in_ok-held.ensures.made in
    let made : ℕ → List (List ℕ) → List (List ℕ) → Parted = λ n r w. record { blocks = n; rows = r; words = w } in
    ap (λ n. made n c.in_ok-held.held.rows (all_paged 256 c.in_ok-region.region.words c.in_ok-held.held.rows c.in_ok-used.used.items)) count
    ∙ ap (λ r. made c.args.blocks r (all_paged 256 c.in_ok-region.region.words r c.in_ok-used.used.items)) rows
    ∙ ap (λ u. made c.args.blocks (replicate c.args.parts []) (all_paged 256 c.in_ok-region.region.words (replicate c.args.parts []) u)) used
    ∙ ap (made c.args.blocks (replicate c.args.parts [])) (none_paged 256 c.args.parts c.in_ok-region.region.words)
