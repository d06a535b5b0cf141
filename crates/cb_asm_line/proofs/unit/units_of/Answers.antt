use Rattle.std.proofs.Common.{◌≡◌, ◌≢◌, ◌∙◌, ap, length, sym, subst, List, ℕ, []}
use Rattle.std.proofs.lemmas.Bool.{eqb-false, eqb-true}
use Rattle.std.proofs.lemmas.List.{nil_from_length}
use Rattle.cb_asm_line.proofs.Units.{IsRead, begun, ended, next, shorter, stopped}
use Rattle.cb_asm_line.proofs.unit.units_of.Goals as goal

pub loop-unit-init : goal.loop-unit-init
loop-unit-init c = subst (IsRead c.args.in_text c.args.word.now c.args.word.now) (sym c.new-units.ensures) (begun c.args.in_text c.args.word.now)

pub loop-unit-smaller : goal.loop-unit-smaller
loop-unit-smaller c = shorter c.args.in_text c.loop-unit.rest.now c.in-Some.unit c.in-Some.behind.now c.in-Some.ensures

pub loop-unit-preserved : goal.loop-unit-preserved
loop-unit-preserved c =
    subst (IsRead c.args.in_text c.args.word.now c.in-Some.behind.now) (sym c.in_ok-push.ensures.ok) (next c.args.in_text c.args.word.now c.loop-unit.rest.now c.in-Some.behind.now c.loop-unit.units c.in-Some.unit c.in-Some.ensures c.loop-unit.invariant)

pub returns-then-is_empty : goal.returns-then-is_empty
returns-then-is_empty c =
    let none : c.loop-unit.rest.now ≡ [] = nil_from_length _ (eqb-true (length c.loop-unit.rest.now) 0 (sym c.is_empty.ensures ∙ c.if-is_empty.true)) in
    let Is : List ℕ → Type 0 = λ rest. IsRead c.args.in_text c.args.word.now rest c.loop-unit.units in
    ended c.args.in_text c.args.word.now c.loop-unit.units (subst Is none c.loop-unit.invariant)

pub returns-else-is_empty : goal.returns-else-is_empty
returns-else-is_empty c = λ all spelled.
    let some : c.loop-unit.rest.now ≢ [] = λ is. eqb-false (length c.loop-unit.rest.now) 0 (sym c.is_empty.ensures ∙ c.if-is_empty.false) (ap length is) in
    stopped c.args.in_text c.args.word.now c.loop-unit.rest.now c.loop-unit.units all some c.in_default.ensures c.loop-unit.invariant spelled
