use Rattle.std.proofs.Common.{◌∙◌, ◌+◌, ◌<◌, Some, ap, arith, length, length-set, not, subst, sym, take}
use Rattle.cb_hierarchy.specs.Members.{method_of}
use Rattle.cb_hierarchy.specs.InnerReaching.{AreFirst}
use Rattle.cb_hierarchy.proofs.OwnLaws.{known_own, not_own, put_own}
use Rattle.cb_hierarchy.proofs.selection.own_methods.Goals as goal
use Rattle.cb_hierarchy.proofs.selection.own_methods.Goals.{then-is_of+then-is_none, else-is_of, else-is_of-via-then-is_of+else-is_none, else-is_of-via-else-is_of}

pub loop-number-preserved : goal.loop-number-preserved
loop-number-preserved c =
    let methods = c.args.methods.now in
    let number = c.loop-number.number in
    let signature = c.signature-signature.result in
    let expected = method_of (take (number + 1) methods) c.args.class in
    let within : number < length methods = omega (arith, c.loop-number-test.true, c.count-number-end.ensures) in
    elim c.if-is_of.branch [
      | then-is_of+then-is_none w ↦ (
        ap (λ own. length own.items) w.own-is ∙ length-set c.loop-number.own.items signature (Some number) ∙ c.loop-number.invariant.0,
        subst (λ own. AreFirst (length methods) expected own.items) (sym w.own-is)
            (put_own methods c.args.class number signature c.loop-number.own.items w.index.result.now within c.signature-signature.ensures.value c.signature-signature.ensures.small
            c.loop-number.invariant.0 w.index.ensures (w.is_none.ensures ∙ ap not w.if-is_none.true) (sym c.is_of.ensures ∙ w.if-is_of.true) c.loop-number.invariant.1),
      )
      | else-is_of w ↦ (
        ap (λ own. length own.items) w.own-is ∙ c.loop-number.invariant.0,
        subst (λ own. AreFirst (length methods) expected own.items) (sym w.own-is)
            (elim w.else-is_of.branch [
              | else-is_of-via-then-is_of+else-is_none v ↦
                  known_own methods c.args.class number signature c.loop-number.own.items v.index.result.now within c.signature-signature.ensures.value c.signature-signature.ensures.small v.index.ensures
                  (v.is_none.ensures ∙ ap not v.if-is_none.false) c.loop-number.invariant.1
              | else-is_of-via-else-is_of v ↦ not_own methods c.args.class number c.loop-number.own.items within (sym c.is_of.ensures ∙ v.if-is_of.false) c.loop-number.invariant.1
            ]),
      )
    ]
