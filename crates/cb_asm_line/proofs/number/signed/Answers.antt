use Rattle.std.proofs.Common.{◌≡◌, ◌∙◌, ap, sym, subst, List, ℕ, ◌∷◌, ◌-◌, length, take, drop, ℤ, FitsSigned, w64, MatchOption, ◌≢◌}
use Rattle.cb_asm_line.proofs.Signed.{first_and_rest, with_minus}
use Rattle.cb_asm_line.specs.Numbers.{signed_decimal}
use Rattle.cb_asm_line.proofs.number.signed.Goals as goal

pub returns-in-len1-up : goal.returns-in-len1-up
returns-in-len1-up c =
    let word : List ℕ = c.args.word.now in
    let digits : List ℕ = take (length word - 1) (drop 1 word) in
    let whole : word ≡ 45 ∷ digits = first_and_rest word c.in-len1-up.len_at_least ∙ ap (λ unit. unit ∷ digits) c.if-first-eq45.true in
    let Is : List ℕ → Type 0 = λ word. MatchOption c.negative.result ((number : ℤ) → FitsSigned w64 number → word ≢ signed_decimal number) (λ number. word ≡ signed_decimal number) in
    subst Is (sym whole) (with_minus digits _ c.negative.ensures)
