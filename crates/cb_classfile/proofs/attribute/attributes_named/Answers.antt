use Rattle.std.proofs.Common.{◌++◌, ◌∷◌, [], sym, ◌∙◌, arith}
use Rattle.cb_classfile.proofs.Failing.{handed}
use Rattle.cb_classfile.proofs.Finding.{named_more, other_more, told_at}
use Rattle.cb_classfile.proofs.Tabling.{from_next, reached_more, finished, table_counted, table_behind, table_lacks}
use Rattle.cb_classfile.proofs.attribute.attributes_named.Goals as goal
use Rattle.cb_classfile.proofs.attribute.attributes_named.Goals.{then-has_text, else-has_text}

pub returns-in_err-count : goal.returns-in_err-count
returns-in_err-count c = handed _ _ _ _ c.from_residual.ensures (table_lacks _ _ c.in_err-count.ensures)

pub returns-in_err-index : goal.returns-in_err-index
returns-in_err-index c = handed _ _ _ _ c.from_residual-in_err-index.ensures (λ attributes rest begins.
    from_next _ _ _ _ _ _ c.loop.invariant.reached c.loop-test.true c.in_err-index.ensures attributes rest (table_behind _ c.in_ok-count.ensures begins))

pub loop-preserved : goal.loop-preserved
loop-preserved c =
    let (attribute, here, told) = c.in_ok-index.ensures in
    let before = c.loop.invariant.attributes in
    record {
      attributes = before ++ attribute ∷ [];
      reached = reached_more _ _ _ _ _ _ _ _ c.loop.invariant.reached c.loop-test.true here;
      told = elim c.if-has_text.branch [
        | then-has_text w ↦ rw (w.occurrence-is, named_more _ _ before attribute (told_at _ _ told (sym c.has_text.ensures.tells ∙ w.if-has_text.true)), told) (w.one_more-occurrence.ensures _ c.loop.invariant.told)
        | else-has_text w ↦ rw (w.occurrence-is, other_more _ _ before attribute (told_at _ _ told (sym c.has_text.ensures.tells ∙ w.if-has_text.false))) c.loop.invariant.told
      ];
    }

pub returns : goal.returns
returns c =
    (c.loop.invariant.attributes, table_counted _ c.in_ok-count.ensures (finished _ _ _ _ _ _ c.loop.invariant.reached (omega arith) (omega arith)), c.loop.invariant.told)
