use Rattle.std.proofs.Common.{◌≡◌, ◌∙◌, ℕ, List, replicate, ap, rules}
use Rattle.cb_blocks.specs.FlatRows.{Flat, flat_rows}
use Rattle.cb_blocks.proofs.Flat.{none_flat}
use Rattle.cb_blocks.proofs.flat_rows.FlatRows.make.Goals as goal

pub returns : goal.returns
returns c =
    let lens : c.in_ok-lens.lens.items ≡ replicate c.args.parts 0 = search rules in
    let made : List (List ℕ) → Flat = λ rows. record { rows = rows; longest = c.args.longest } in
    ap made (ap (λ l. flat_rows c.in_ok-numbers.numbers.items l c.args.longest) lens ∙ none_flat c.args.parts c.args.longest c.in_ok-numbers.numbers.items)
