use Rattle.std.proofs.Common.{◌∙◌, ◌∷◌, ◌+◌, ◌≤◌, ap, length, subst, sym, Some}
use Rattle.std.proofs.lemmas.List.{take_rest}
use Rattle.cb_kinds.specs.Descriptors.{signs}
use Rattle.cb_kinds.proofs.SignPlaces.{between, name_len, past_base, past_bracket, past_class, past_no_class, past_none, past_other}
use Rattle.cb_kinds.proofs.descriptor.next_sign.Goals as goal

pub loop-index-init : goal.loop-index-init
loop-index-init c = past_none c.args.text.now

pub loop-index-preserved-then-unit-eq-BRACKET : goal.loop-index-preserved-then-unit-eq-BRACKET
loop-index-preserved-then-unit-eq-BRACKET c =
    past_bracket c.args.text.now c.loop-index.start c.loop-index.index c.loop-index.invariant c.loop-index-test.true c.if-unit-eq-BRACKET.true

pub returns-in_err-end-clause-signs : goal.returns-in_err-end-clause-signs
returns-in_err-end-clause-signs c =
    rw c.from_residual.ensures (past_no_class c.args.text.now c.loop-index.start c.loop-index.index c.loop-index.invariant c.loop-index-test.true c.if-unit-eq-CLASS.true
    (rw take_rest at c.in_err-end.ensures))

pub returns-then-unit-eq-CLASS-clause-signs : goal.returns-then-unit-eq-CLASS-clause-signs
returns-then-unit-eq-CLASS-clause-signs c =
    let behind = take_rest c.args.text.now (c.loop-index.index + 1) in
    let end = c.in_ok-end.field-0 in
    past_class c.args.text.now c.loop-index.start c.loop-index.index c.loop-index.invariant c.loop-index-test.true c.if-unit-eq-CLASS.true end
    (c.in_ok-end.ensures.0 ∙ ap (λ rest. name_len rest + 1) behind)
    (subst (λ rest. end ≤ length rest) behind c.in_ok-end.ensures.1)
    ∙ ap (λ rest. Some (between c.args.text.now c.loop-index.start (c.loop-index.index + 1 + end)) ∷ signs rest) (sym (take_rest c.args.text.now (c.loop-index.index + 1 + end)))

pub returns-then-is_base-clause-signs : goal.returns-then-is_base-clause-signs
returns-then-is_base-clause-signs c =
    past_base c.args.text.now c.loop-index.start c.loop-index.index c.loop-index.invariant c.loop-index-test.true
    c.if-unit-eq-BRACKET.false c.if-unit-eq-CLASS.false c.if-unit-eq-RIGHT_PARENTHESIS.false (sym c.if-is_base.ensures)
    ∙ ap (λ rest. Some (between c.args.text.now c.loop-index.start (c.loop-index.index + 1)) ∷ signs rest) (sym (take_rest c.args.text.now (c.loop-index.index + 1)))

pub loop-index-preserved : goal.loop-index-preserved
loop-index-preserved c =
    past_other c.args.text.now c.loop-index.start c.loop-index.index c.loop-index.invariant c.loop-index-test.true
    c.if-unit-eq-BRACKET.false c.if-unit-eq-CLASS.false c.if-unit-eq-RIGHT_PARENTHESIS.false (sym c.if-is_base.ensures)
