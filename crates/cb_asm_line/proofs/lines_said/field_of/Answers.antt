use Rattle.std.proofs.Common.{◌≡◌, subst, map, ◌∷◌, Option, MatchOption}
use Rattle.cb_asm_line.specs.Lines.{Line}
use Rattle.cb_asm_line.specs.Said.{SaysOptional}
use Rattle.cb_asm_line.specs.declared.operand.Value.{Value}
use Rattle.cb_asm_line.proofs.Fielded.{field_read}
use Rattle.cb_asm_line.proofs.lines_said.field_of.Goals as goal

pub returns-in-Some-2 : goal.returns-in-Some-2
returns-in-Some-2 c =
    let rest : Line = map (λ word. word.now) c.in-Some-front-2.rest.now in
    let Is : Option (Option Value) → Type 0 = λ found. MatchOption found ((given : Option Value) → SaysOptional rest given → ⊥) (λ given. SaysOptional rest given) in
    let has : SaysOptional rest c.in-Some-2.value = subst Is c.in-Some-2.is c.in_ok-value.ensures in
    let are : map (λ word. word.now) c.args.words.now ≡ c.in-Some.flags.now ∷ c.in-Some-front.name.now ∷ c.in-Some-front-2.descriptor.now ∷ rest = cc (c.in-Some.ensures, c.in-Some-front.ensures, c.in-Some-front-2.ensures) in
    field_read (map (λ word. word.now) c.args.words.now) c.in-Some.flags.now c.in-Some-front.name.now c.in-Some-front-2.descriptor.now rest c.in-Some-2.value c.field_line.result are has c.field_line.ensures
