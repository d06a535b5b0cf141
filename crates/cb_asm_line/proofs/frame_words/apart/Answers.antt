use Rattle.std.proofs.Common.{◌≡◌, ◌∙◌, ap, sym, subst, [], ◌∷◌, ◌++◌, map}
use Rattle.std.proofs.lemmas.List.{map-append}
use Rattle.cb_asm_line.specs.Quoting.{comma}
use Rattle.cb_asm_line.proofs.Apart.{IsParted, next}
use Rattle.cb_asm_line.proofs.frame_words.apart.Goals as goal

pub loop-word-preserved : goal.loop-word-preserved
loop-word-preserved c =
    let more : map (λ word. word.now) c.push.new.self.items ≡ map (λ word. word.now) c.loop-word.words.items ++ c.in-Some.word.now ∷ [] =
    ap (map (λ word. word.now)) c.in_ok-push.ensures.items ∙ map-append _ c.loop-word.words.items (c.in-Some.word ∷ []) in
    subst (IsParted comma c.args.text.now c.in-Some.behind.now) (sym more) (next comma c.args.text.now c.loop-word.rest.now c.in-Some.behind.now (map (λ word. word.now) c.loop-word.words.items) c.in-Some.word.now c.in-Some.ensures.0 c.in-Some.ensures.1 c.loop-word.invariant)
