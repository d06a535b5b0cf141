use Rattle.std.proofs.Common.{sym, subst, map, Option, MatchOption}
use Rattle.cb_asm_line.specs.Lines.{Line}
use Rattle.cb_asm_line.specs.Said.{Four, SaysCatch, SaysMethod, Three}
use Rattle.cb_asm_line.specs.declared.program.CatchLine.{CatchLine}
use Rattle.cb_asm_line.specs.declared.statement.MethodLine.{MethodLine}
use Rattle.cb_asm_line.proofs.Keyed.{no_catch, no_limits, no_method}
use Rattle.cb_asm_line.proofs.said.inside.Goals as goal

pub returns-in-None : goal.returns-in-None
returns-in-None c =
    let rest : Line = map (λ word. word.now) c.args.rest.now in
    let Is : Option MethodLine → Type 0 = λ found. MatchOption found ((line : MethodLine) → Three SaysMethod rest line → ⊥) (λ line. Three SaysMethod rest line) in
    no_method c.args.key.now rest (sym (c.is_same.ensures.0 c.if-is_same.true)) (subst Is c.in-None.is c.in_ok-line.ensures)

pub returns-in-None-limits_of : goal.returns-in-None-limits_of
returns-in-None-limits_of c =
    no_limits c.args.key.now (map (λ word. word.now) c.args.rest.now) (sym (c.is_same-2.ensures.0 c.if-is_same-2.true)) c.in-None-limits_of.ensures

pub returns-in-None-2 : goal.returns-in-None-2
returns-in-None-2 c =
    let rest : Line = map (λ word. word.now) c.args.rest.now in
    let Is : Option CatchLine → Type 0 = λ found. MatchOption found ((line : CatchLine) → Four SaysCatch rest line → ⊥) (λ line. Four SaysCatch rest line) in
    no_catch c.args.key.now rest (sym (c.is_same-3.ensures.0 c.if-is_same-3.true)) (subst Is c.in-None-2.is c.in_ok-line-2.ensures)
