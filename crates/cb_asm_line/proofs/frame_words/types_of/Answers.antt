use Rattle.std.proofs.Common.{◌≡◌, ap, arith, subst, sym, codes, map, IfOk, MatchOption, List}
use Rattle.cb_asm_line.specs.Label.{Label}
use Rattle.cb_asm_line.specs.Lines.{Line}
use Rattle.cb_asm_line.specs.SaidFrames.{AreEach}
use Rattle.cb_asm_line.specs.declared.frame.FrameType.{FrameType}
use Rattle.cb_asm_line.proofs.Typing.{types_told}
use Rattle.cb_asm_line.proofs.frame_words.types_of.Goals as goal

pub returns : goal.returns
returns c =
    let words : Line = map (λ word. word.now) c.in_ok-words.words.items in
    let same : map (λ word. word.now) c.as_slice.result.now ≡ words = ap (map (λ word. word.now)) c.as_slice.ensures.value in
    let Is : Line → Type 0 = λ each. IfOk c.each_type.result (λ found. MatchOption found ((types : List (FrameType Label)) → AreEach each types → ⊥) (λ types. AreEach each types)) in
    let other : c.args.word.now ≡ codes "-" → ⊥ = λ is. let told = c.is_same.ensures.1 (sym is) in grind (arith, told, c.if-is_same.false) in
    types_told c.args.word.now words c.each_type.result other c.in_ok-words.ensures (subst Is same c.each_type.ensures)
