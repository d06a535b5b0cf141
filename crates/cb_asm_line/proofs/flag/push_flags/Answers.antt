use Rattle.std.proofs.Common.{arith, subst, sym, ◌∙◌, ◌≡◌, ◌<◌, ◌^◌, List, ℕ, length, map, rules}
use Rattle.std.proofs.lemmas.List.{length-map}
use Rattle.cb_asm_line.proofs.Flagging.{some_words, zero_word}
use Rattle.cb_asm_line.proofs.flag.push_flags.Goals as goal

pub returns-then-flags-eq0 : goal.returns-then-flags-eq0
returns-then-flags-eq0 c =
    let words : List (List ℕ) = map (λ word. word.now) c.args.words.now in
    let is = zero_word words c.args.flags c.if-flags-eq0.true in
    rw is search rules

pub returns : goal.returns
returns c =
    let words : List (List ℕ) = map (λ word. word.now) c.args.words.now in
    let counted : length words ≡ length c.args.words.now = length-map c.args.words.now _ in
    let few : c.args.flags < 2 ^ length words = subst (λ count. c.args.flags < 2 ^ count) (sym (counted ∙ c.told-words)) (omega (arith, c.ranges.flags)) in
    let is = some_words words c.args.flags (omega (arith, c.if-flags-eq0.false)) few in
    rw is search rules
