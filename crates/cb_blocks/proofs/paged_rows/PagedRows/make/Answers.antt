use Rattle.std.proofs.Common.{◌≡◌, ◌∙◌, ℕ, ◌+◌, ◌*◌, ◌/◌, List, [], length, replicate, sym, ap, subst, arith, rules, lit<}
use Rattle.cb_blocks.specs.Holdings.{Held}
use Rattle.cb_blocks.specs.PagedRows.{IsLaid, Roomy}
use Rattle.cb_blocks.specs.Rows.{all_paged}
use Rattle.cb_blocks.proofs.Laid.{none_laid, none_paged}
use Rattle.cb_blocks.proofs.paged_rows.PagedRows.make.Goals as goal

pub invariant_of-result : goal.invariant_of-result
invariant_of-result g c =
    let lens : c.in_ok-lens.lens.items ≡ replicate c.args.parts 0 = search rules in
    let empty : c.in_ok-pages.pages.rows ≡ replicate c.args.parts [] = ap (λ (h : Held). h.rows) c.in_ok-pages.ensures.made in
    let count : c.in_ok-pages.pages.count ≡ c.args.most / 128 + c.args.parts + 1 = ap (λ (h : Held). h.count) c.in_ok-pages.ensures.made in
    let longest : c.in_ok-pages.pages.longest ≡ g.R.Rows.longest c.args.inner = ap (λ (h : Held). h.longest) c.in_ok-pages.ensures.made in
    let whole : length c.in_ok-numbers.numbers.items ≡ c.in_ok-pages.pages.count * 128 = omega (arith, c.in_ok-numbers.ensures.len, c.in_ok-numbers.numbers.ok.0, count) in
    record {
      laid = subst (λ l. IsLaid 128 c.in_ok-pages.pages c.in_ok-numbers.numbers.items l) (sym lens) (none_laid 128 c.in_ok-pages.pages c.in_ok-numbers.numbers.items c.args.parts (lit< tt) empty c.in_ok-pages.ensures.sound whole);
      room = omega (arith, count, c.in_ok-lens.lens.ok.0, c.in_ok-lens.ensures.len);
      wide = omega (arith, longest, c.requires.wide);
      bound = c.requires.bound;
    }

pub returns : goal.returns
returns g c =
    let lens : c.in_ok-lens.lens.items ≡ replicate c.args.parts 0 = search rules in
    let empty : c.in_ok-pages.pages.rows ≡ replicate c.args.parts [] = ap (λ (h : Held). h.rows) c.in_ok-pages.ensures.made in
    let count : c.in_ok-pages.pages.count ≡ c.args.most / 128 + c.args.parts + 1 = ap (λ (h : Held). h.count) c.in_ok-pages.ensures.made in
    let made : List (List ℕ) → Roomy = λ rows. record { rows = rows; most = c.args.most; longest = c.args.longest } in
    ap made (ap (λ r. all_paged 128 c.in_ok-numbers.numbers.items r c.in_ok-lens.lens.items) empty ∙ ap (λ l. all_paged 128 c.in_ok-numbers.numbers.items (replicate c.args.parts []) l) lens ∙ none_paged 128 c.args.parts c.in_ok-numbers.numbers.items)
