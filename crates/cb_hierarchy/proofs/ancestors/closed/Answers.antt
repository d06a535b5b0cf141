use Rattle.std.proofs.Common.{◌≡◌, ℕ, ◌+◌, ◌<◌, List, length, sym, subst, ap, ◌∙◌, arith}
use Rattle.std.specs.List.{Contains}
use Rattle.std.proofs.lemmas.List.{length_push}
use Rattle.std.proofs.lemmas.Result.{IfOk-weaker}
use Rattle.cb_hierarchy.specs.Inner.{list_at}
use Rattle.cb_hierarchy.specs.InnerRows.{AreSquare, ListsAbove, MarkAbove, MarkLists}
use Rattle.cb_hierarchy.proofs.Closing.{lists_below, marks_above, row_more}
use Rattle.cb_hierarchy.proofs.ancestors.closed.Goals as goal

pub loop-class-preserved : goal.loop-class-preserved
loop-class-preserved c =
    let lists = c.args.lists.now in
    let class = c.loop-class.class in
    let above = c.loop-class.above in
    let list = c.in_ok-reached.field-0 in
    record {
      as_many = ap length c.in_ok-push.ensures.ok ∙ length_push above list ∙ ap (λ n. n + 1) c.loop-class.invariant.as_many;
      lists = subst (λ (above : List (List ℕ)). (k : ℕ) → k < class + 1 → ListsAbove (list_at lists) k (list_at above k)) (sym c.in_ok-push.ensures.ok)
          (row_more (ListsAbove (list_at lists)) above list class c.loop-class.invariant.as_many c.loop-class.invariant.lists c.in_ok-reached.ensures);
    }

pub returns-clause-square : goal.returns-clause-square
returns-clause-square c =
    let lists = c.args.lists.now in
    let above = c.loop-class.above in
    let all : c.loop-class.class ≡ length lists = omega arith in
    let as_many : length above ≡ length lists = c.loop-class.invariant.as_many ∙ all in
    let are = subst (λ n. (k : ℕ) → k < n → ListsAbove (list_at lists) k (list_at above k)) all c.loop-class.invariant.lists in
    IfOk-weaker c.rows_of.result (λ (rows : _). ((class number : ℕ) → Contains (list_at above class) number → number < length above) → AreSquare (length above) rows.items) (λ (rows : _). AreSquare (length lists) rows.items)
    (λ rows square. subst (λ n. AreSquare n rows.items) as_many (square (lists_below lists above as_many are c.requires.below))) c.rows_of.ensures.square

pub returns-clause-marks : goal.returns-clause-marks
returns-clause-marks c =
    let lists = c.args.lists.now in
    let above = c.loop-class.above in
    let all : c.loop-class.class ≡ length lists = omega arith in
    let as_many : length above ≡ length lists = c.loop-class.invariant.as_many ∙ all in
    let are = subst (λ n. (k : ℕ) → k < n → ListsAbove (list_at lists) k (list_at above k)) all c.loop-class.invariant.lists in
    IfOk-weaker c.rows_of.result (λ (rows : _). MarkLists above rows.items) (λ (rows : _). MarkAbove (list_at lists) rows.items)
    (λ rows marks. marks_above lists above as_many are rows.items marks) c.rows_of.ensures.marks
