use Rattle.std.proofs.Common.{◌≡◌, ◌∙◌, ap, sym, subst, ℕ, ◌-◌, List, ◌∷◌, length, take, drop, MatchOption}
use Rattle.cb_asm_line.specs.Inner.{BeginsWithUnit, stands_alone}
use Rattle.cb_asm_line.specs.Quoting.{backslash}
use Rattle.cb_asm_line.proofs.Signed.{first_and_rest}
use Rattle.cb_asm_line.proofs.Units.{alone_begins}
use Rattle.cb_asm_line.proofs.unit.unit_at.Goals as goal

pub returns-in-len1-up : goal.returns-in-len1-up
returns-in-len1-up c =
    let word : List ℕ = c.args.word.now in
    let behind : List ℕ = take (length word - 1) (drop 1 word) in
    let whole : word ≡ backslash ∷ behind = first_and_rest word c.in-len1-up.len_at_least ∙ ap (λ unit. unit ∷ behind) c.if-first-eq92.true in
    let Is : List ℕ → Type 0 = λ all. MatchOption c.marked_at.result ((unit : ℕ) (rest : List ℕ) → BeginsWithUnit c.args.in_text all unit rest → ⊥) (λ read. BeginsWithUnit c.args.in_text all read.0 read.1.now) in
    subst Is (sym whole) c.marked_at.ensures

pub returns-in-len1-up-2 : goal.returns-in-len1-up-2
returns-in-len1-up-2 c =
    let word : List ℕ = c.args.word.now in
    let behind : List ℕ = take (length word - 1) (drop 1 word) in
    alone_begins c.args.in_text word _ behind c.from-in-len1-up-2.type_inv
    (ap (stands_alone c.args.in_text) (c.from-in-len1-up-2.ensures ∙ sym c.from.ensures) ∙ sym c.stands_alone.ensures ∙ c.if-stands_alone.true)
    (first_and_rest word c.in-len1-up.len_at_least ∙ ap (λ unit. unit ∷ behind) (sym c.from-in-len1-up-2.ensures))
