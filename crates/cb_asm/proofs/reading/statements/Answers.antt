use Rattle.std.proofs.Common.{◌∙◌, ap, sym, subst, arith, ◌++◌}
use Rattle.std.specs.List.{AllByRecursion}
use Rattle.cb_asm_line.specs.Statements.{IsStatement}
use Rattle.cb_asm.specs.Inner.{said_text}
use Rattle.cb_asm.proofs.Parts.{all_more}
use Rattle.cb_asm.proofs.Programs.{none_told, some_told}
use Rattle.cb_asm.proofs.TextLines.{line_more, no_line_at, no_lines, nothing_left, other_line, shorter}
use Rattle.cb_asm.proofs.reading.statements.Goals as goal

pub lines-init : goal.lines-init
lines-init c =
    let none = sym c.new-lines.ensures.items in
    (ap (λ lines. said_text lines ++ c.args.text.now) none, subst (AllByRecursion IsStatement) none tt)

pub returns-in_default : goal.returns-in_default
returns-in_default c = λ others are text.
    no_lines c.lines.lines.items others c.lines.rest.now c.lines.invariant.1 are (sym text ∙ c.lines.invariant.0) (λ empty. grind (arith, c.lines-test.ensures, empty)) (no_line_at c.lines.rest.now c.in_default.ensures.cut)

pub returns-in_default-2 : goal.returns-in_default-2
returns-in_default-2 c = λ others are text.
    no_lines c.lines.lines.items others c.lines.rest.now c.lines.invariant.1 are (sym text ∙ c.lines.invariant.0) (λ empty. grind (arith, c.lines-test.ensures, empty)) (other_line c.lines.rest.now c.in-Some.line.now c.in-Some.behind.now c.in-Some.ensures.cut.0 c.in-Some.ensures.cut.1 (none_told c.in_ok-statement.field-0 _ _ c.in_ok-statement.ensures.said c.in_default-2.is))

pub lines-smaller : goal.lines-smaller
lines-smaller c = shorter c.lines.rest.now c.in-Some.line.now c.in-Some.behind.now c.in-Some.ensures.cut.1

pub lines-preserved : goal.lines-preserved
lines-preserved c =
    let grown = sym c.in_ok-push_back.ensures.items in
    let told = some_told c.in_ok-statement.field-0 _ _ c.in-Some-2.statement c.in_ok-statement.ensures.said c.in-Some-2.is in (
      line_more c.args.text.now c.lines.rest.now c.in-Some.line.now c.in-Some.behind.now c.lines.lines.items c.in-Some-2.statement c.lines.invariant.0 c.in-Some.ensures.cut.1 told.1
          ∙ ap (λ lines. said_text lines ++ c.in-Some.behind.now) grown,
      subst (AllByRecursion IsStatement) grown (all_more IsStatement c.lines.lines.items c.in-Some-2.statement c.lines.invariant.1 told.0),
    )

pub returns : goal.returns
returns c = (c.lines.invariant.1, nothing_left c.args.text.now c.lines.rest.now c.lines.lines.items c.lines.invariant.0 (sym c.lines-test.ensures))
