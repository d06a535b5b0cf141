use Rattle.std.proofs.Common.{arith, ◌≡◌, ◌⊎◌, ◌∙◌, ap, sym, subst, ℕ, ◌-◌, List, ◌∷◌, length, take, drop, get_or}
use Rattle.cb_asm_line.specs.Inner.{BeginsWithUnit}
use Rattle.cb_asm_line.specs.Quoting.{backslash, quote}
use Rattle.cb_asm_line.proofs.Signed.{first_and_rest}
use Rattle.cb_asm_line.proofs.Units.{marked_begins, with_backslash}
use Rattle.cb_asm_line.proofs.unit.marked_at.Goals as goal

pub returns-in-len1-up : goal.returns-in-len1-up
returns-in-len1-up c =
    let behind : List ℕ = c.args.behind.now in
    let rest : List ℕ = take (length behind - 1) (drop 1 behind) in
    let marks = c.is_mark.ensures.0 c.if-is_mark.true in
    let which : (c.from.result ≡ quote) ⊎ (c.from.result ≡ backslash) = subst (λ one. (one ≡ quote) ⊎ (one ≡ backslash)) (sym c.from.ensures) marks.1 in
    let whole : behind ≡ c.from.result ∷ rest = first_and_rest behind c.in-len1-up.len_at_least ∙ ap (λ unit. unit ∷ rest) (sym c.from.ensures) in
    subst (λ told. BeginsWithUnit told (backslash ∷ behind) c.from.result rest) (sym marks.0) (marked_begins (backslash ∷ behind) c.from.result rest c.from.type_inv which (ap (λ all. backslash ∷ all) whole))

pub returns-in_default : goal.returns-in_default
returns-in_default c = with_backslash c.args.in_text c.args.behind.now c.escaped_at.result (λ mark rest told one is.
    let first : get_or c.args.behind.now 0 0 ≡ mark = ap (λ text. get_or text 0 0) is in
    let which : (get_or c.args.behind.now 0 0 ≡ quote) ⊎ (get_or c.args.behind.now 0 0 ≡ backslash) = subst (λ unit. (unit ≡ quote) ⊎ (unit ≡ backslash)) (sym first) one in
    let marked = c.is_mark.ensures.1 (told, which) in grind (arith, marked, c.if-is_mark.false)) c.escaped_at.ensures
