use Rattle.std.proofs.Common.{◌≡◌, ◌∙◌, ◌++◌, ◌∷◌, [], ap, arith, length}
use Rattle.std.proofs.lemmas.List.{length_push}
use Rattle.cb_link.proofs.Picked.{picked_left, picked_passed}
use Rattle.cb_link.proofs.slots.statics.Goals as goal
use Rattle.cb_link.proofs.slots.statics.Goals.{then-field+in_ok-push, else-field}

pub loop-number-preserved : goal.loop-number-preserved
loop-number-preserved c =
    let fields = c.args.fields.now in
    let number = c.loop-number.number in
    let field = c.field.result.now in
    let before = c.loop-number.numbers in
    elim c.if-field.branch [
      | then-field+in_ok-push w ↦
          let pushed : c.if-field.numbers ≡ before ++ number ∷ [] = w.numbers-is ∙ w.in_ok-push.ensures.ok in (
            picked_passed (λ entry. entry.1.is_static) (λ entry. entry.0) fields number field before c.if-field.numbers c.field.ensures w.if-field.true c.loop-number.invariant.0 pushed,
            let more : length c.if-field.numbers ≡ length (before ++ number ∷ []) = ap length pushed in
                let few = c.loop-number.invariant.1 in
                omega (arith, more, length_push before number, few),
          )
      | else-field w ↦ (
        w.numbers-is ∙ picked_left (λ entry. entry.1.is_static) (λ entry. entry.0) fields number field before c.field.ensures w.if-field.false c.loop-number.invariant.0,
        let same : length c.if-field.numbers ≡ length before = ap length w.numbers-is in
            let few = c.loop-number.invariant.1 in
            omega (arith, same, few),
      )
    ]
