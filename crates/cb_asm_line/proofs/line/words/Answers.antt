use Rattle.std.proofs.Common.{◌≡◌, ◌∙◌, ap, sym, subst, [], ◌∷◌, ◌++◌, map}
use Rattle.std.proofs.lemmas.List.{map-append}
use Rattle.cb_asm_line.specs.Inner.{AreWords}
use Rattle.cb_asm_line.proofs.Worded.{IsCut, are_words, next}
use Rattle.cb_asm_line.proofs.line.words.Goals as goal

pub loop-word-preserved : goal.loop-word-preserved
loop-word-preserved c =
    let more : map (λ word. word.now) c.push.new.self.items ≡ map (λ word. word.now) c.loop-word.words.items ++ c.in-Some.word.now ∷ [] =
    ap (map (λ word. word.now)) c.in_ok-push.ensures.items ∙ map-append _ c.loop-word.words.items (c.in-Some.word ∷ []) in
    subst (IsCut c.args.line.now c.in-Some.behind.now) (sym more) (next c.args.line.now c.loop-word.rest.now c.in-Some.behind.now (map (λ word. word.now) c.loop-word.words.items) c.in-Some.word.now c.in-Some.ensures.0 c.in-Some.ensures.1 c.loop-word.invariant)

pub returns-clause-apart : goal.returns-clause-apart
returns-clause-apart c =
    let more : map (λ word. word.now) c.push-2.new.self.items ≡ map (λ word. word.now) c.loop-word.words.items ++ c.loop-word.rest.now ∷ [] =
    ap (map (λ word. word.now)) c.in_ok-push-2.ensures.items ∙ map-append _ c.loop-word.words.items (c.loop-word.rest ∷ []) in
    subst AreWords (sym more) (are_words (map (λ word. word.now) c.loop-word.words.items) c.loop-word.rest.now c.loop-word.invariant.bare c.in_default.ensures)
