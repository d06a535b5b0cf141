use Rattle.std.proofs.Common.{◌∙◌, ◌+◌, ◌<◌, Some, ap, arith, length, length-set, not, subst, sym, take}
use Rattle.cb_hierarchy.specs.InnerReaching.{AreFirst, among_if}
use Rattle.cb_hierarchy.proofs.AmongLaws.{known, not_above, put}
use Rattle.cb_hierarchy.proofs.selection.all_among.Goals as goal
use Rattle.cb_hierarchy.proofs.selection.all_among.Goals.{then-is_none+then-is_above+in_ok-entry, else-is_none, else-is_none-via-then-is_none+else-is_above, else-is_none-via-else-is_none}

pub loop-number-preserved : goal.loop-number-preserved
loop-number-preserved c =
    let classes = c.args.hierarchy.now in
    let methods = c.args.methods.now in
    let number = c.loop-number.number in
    let signature = c.signature-signature.result in
    let expected = among_if classes methods c.args.class (take (number + 1) methods) in
    let within : number < length methods = omega (arith, c.loop-number-test.true, c.count-number-end.ensures) in
    elim c.if-is_none.branch [
      | then-is_none+then-is_above+in_ok-entry w ↦ (
        ap (λ among. length among.items) w.among-is ∙ length-set c.loop-number.among.items signature (Some w.in_ok-entry.entry) ∙ c.loop-number.invariant.0,
        subst (λ among. AreFirst (length methods) expected among.items) (sym w.among-is)
            (put classes methods c.args.class number signature c.loop-number.among.items w.in_ok-entry.entry within c.signature-signature.ensures.value c.signature-signature.ensures.small
            c.loop-number.invariant.0 (sym w.is_above.ensures ∙ w.if-is_above.true) w.in_ok-entry.ensures c.loop-number.invariant.1),
      )
      | else-is_none w ↦ (
        ap (λ among. length among.items) w.among-is ∙ c.loop-number.invariant.0,
        subst (λ among. AreFirst (length methods) expected among.items) (sym w.among-is)
            (elim w.else-is_none.branch [
              | else-is_none-via-then-is_none+else-is_above v ↦ not_above classes methods c.args.class number c.loop-number.among.items within (sym v.is_above.ensures ∙ v.if-is_above.false) c.loop-number.invariant.1
              | else-is_none-via-else-is_none v ↦
                  known classes methods c.args.class number signature c.loop-number.among.items c.index.result.now within c.signature-signature.ensures.value c.signature-signature.ensures.small c.index.ensures
                  (c.is_none.ensures ∙ ap not v.if-is_none.false) c.loop-number.invariant.1
            ]),
      )
    ]
