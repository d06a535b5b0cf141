use Rattle.std.proofs.Common.{false, subst, sym, ◌∙◌, ◌≡◌, ◌≢◌, arith, codes, Bor, List, ℕ, length, map, MatchOption}
use Rattle.std.proofs.lemmas.List.{length-map}
use Rattle.cb_asm_line.specs.Inner.{AreSet}
use Rattle.cb_asm_line.proofs.Flagging.{zero_word}
use Rattle.cb_asm_line.proofs.FlagsRead.{read_off}
use Rattle.cb_asm_line.proofs.flag_word.flags_in.Goals as goal

pub returns-then-is_same : goal.returns-then-is_same
returns-then-is_same c =
    let none : 0 ≡ 0 = omega arith in
    sym (c.is_same.ensures.0 c.if-is_same.true) ∙ sym (zero_word (map (λ word. word.now) c.args.words.now) 0 none)

pub returns-else-is_same : goal.returns-else-is_same
returns-else-is_same c =
    let counted : length (map (λ word. word.now) c.args.words.now) ≡ 16 = length-map c.args.words.now _ ∙ c.told-words in
    let other : c.args.word.now ≢ codes "0" = λ is. let told = c.is_same.ensures.1 (sym is) in grind (arith, told, c.if-is_same.false) in
    let Is : List (Bor (List ℕ)) → Type 0 = λ all. MatchOption c.set_in.result ((flags : ℕ) → AreSet false (map (λ word. word.now) all) c.args.word.now flags → ⊥) (λ flags. AreSet false (map (λ word. word.now) all) c.args.word.now flags) in
    read_off (map (λ word. word.now) c.args.words.now) c.args.word.now c.set_in.result counted other (subst Is c.as_slice.ensures c.set_in.ensures)
