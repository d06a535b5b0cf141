use Rattle.std.proofs.Common.{◌∙◌, ◌++◌, ◌∷◌, [], ap, cond, sym}
use Rattle.std.proofs.lemmas.List.{append-nil}
use Rattle.cb_hierarchy.proofs.LayoutLaws.{added}
use Rattle.cb_hierarchy.proofs.layout.add_own_fields.Goals as goal
use Rattle.cb_hierarchy.proofs.layout.add_own_fields.Goals.{then-is_own+in_ok-push, else-is_own}

pub loop-number-preserved : goal.loop-number-preserved
loop-number-preserved c =
    added c.args.fields.now c.args.class c.loop-number.number c.field-field.result.now c.args.list.now c.loop-number.list c.if-is_own.list c.is_own.result
    c.field-field.ensures c.loop-number.invariant c.is_own.ensures
    (elim c.if-is_own.branch [
      | then-is_own+in_ok-push w ↦ w.list-is ∙ w.in_ok-push.ensures.ok ∙ ap (λ own. c.loop-number.list ++ cond own (c.loop-number.number ∷ []) []) (sym w.if-is_own.true)
      | else-is_own w ↦ w.list-is ∙ sym (append-nil c.loop-number.list) ∙ ap (λ own. c.loop-number.list ++ cond own (c.loop-number.number ∷ []) []) (sym w.if-is_own.false)
    ])
