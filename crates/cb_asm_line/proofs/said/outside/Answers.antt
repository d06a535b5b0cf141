use Rattle.std.proofs.Common.{sym, subst, map, List, ℕ, Option, MatchOption}
use Rattle.cb_asm_line.specs.Lines.{Line}
use Rattle.cb_asm_line.specs.Said.{Four, IsField, IsName, One, SaysClass}
use Rattle.cb_asm_line.specs.declared.statement.ClassLine.{ClassLine}
use Rattle.cb_asm_line.specs.declared.program.FieldText.{FieldText}
use Rattle.cb_asm_line.proofs.Keyed.{no_class, no_field, no_interface}
use Rattle.cb_asm_line.proofs.said.outside.Goals as goal

pub returns-in-None : goal.returns-in-None
returns-in-None c =
    let rest : Line = map (λ word. word.now) c.args.rest.now in
    let Is : Option ClassLine → Type 0 = λ found. MatchOption found ((line : ClassLine) → Four SaysClass rest line → ⊥) (λ line. Four SaysClass rest line) in
    no_class c.args.key.now rest (sym (c.is_same.ensures.0 c.if-is_same.true)) (subst Is c.in-None.is c.in_ok-line.ensures)

pub returns-in-None-2 : goal.returns-in-None-2
returns-in-None-2 c =
    let rest : Line = map (λ word. word.now) c.args.rest.now in
    let Is : Option (List ℕ) → Type 0 = λ found. MatchOption found ((name : List ℕ) → One IsName rest name → ⊥) (λ name. One IsName rest name) in
    no_interface c.args.key.now rest (sym (c.is_same-2.ensures.0 c.if-is_same-2.true)) (subst Is c.in-None-2.is c.in_ok-name.ensures)

pub returns-in-None-3 : goal.returns-in-None-3
returns-in-None-3 c =
    let rest : Line = map (λ word. word.now) c.args.rest.now in
    let Is : Option FieldText → Type 0 = λ found. MatchOption found ((line : FieldText) → IsField rest line → ⊥) (λ line. IsField rest line) in
    no_field c.args.key.now rest (sym (c.is_same-3.ensures.0 c.if-is_same-3.true)) (subst Is c.in-None-3.is c.in_ok-line-2.ensures)
