use Rattle.std.proofs.Common.{◌∙◌, ◌++◌, ◌∷◌, [], ap, map, subst, sym}
use Rattle.std.proofs.lemmas.Result.{err_from_is_err_and}
use Rattle.cb_kinds.specs.Numbers.{AreNumbered, IsNumber, text_of}
use Rattle.cb_kinds.proofs.NumberedItems.{text_last, texts_still}
use Rattle.cb_kinds.proofs.text_numbers.TextNumbers.push.Goals as goal

pub invariant_of-self-in_err-push : goal.invariant_of-self-in_err-push
invariant_of-self-in_err-push c =
    let still = texts_still c.self.inside.texts (c.args.text.now ∷ []) c.number_entered.new.texts c.self.inside.places c.in_ok-number.ensures.entered c.self.invariant in
    subst (AreNumbered IsNumber c.number_entered.new.texts) (sym c.in_err-push.ensures.refused) still.0

pub returns-in_err-push-clause-refused : goal.returns-in_err-push-clause-refused
returns-in_err-push-clause-refused c =
    let still = texts_still c.self.inside.texts (c.args.text.now ∷ []) c.number_entered.new.texts c.self.inside.places c.in_ok-number.ensures.entered c.self.invariant in
    let p = err_from_is_err_and c.from_residual-in_err-push.result c.from_residual-in_err-push.ensures.1 in
    rw p.1 (ap (map (text_of c.number_entered.new.texts)) c.in_err-push.ensures.refused ∙ still.1 ∙ c.self.view_is)

pub invariant_of-self-2 : goal.invariant_of-self-2
invariant_of-self-2 c =
    let still = texts_still c.self.inside.texts (c.args.text.now ∷ []) c.number_entered.new.texts c.self.inside.places c.in_ok-number.ensures.entered c.self.invariant in
    let last = text_last c.number_entered.new.texts c.self.inside.places c.args.text.now c.in_ok-number.number still.0 c.in_ok-number.ensures.number in
    subst (AreNumbered IsNumber c.number_entered.new.texts) (sym c.in_ok-push.ensures.added) last.0

pub returns-clause-added : goal.returns-clause-added
returns-clause-added c =
    let still = texts_still c.self.inside.texts (c.args.text.now ∷ []) c.number_entered.new.texts c.self.inside.places c.in_ok-number.ensures.entered c.self.invariant in
    let last = text_last c.number_entered.new.texts c.self.inside.places c.args.text.now c.in_ok-number.number still.0 c.in_ok-number.ensures.number in
    ap (map (text_of c.number_entered.new.texts)) c.in_ok-push.ensures.added ∙ last.1 ∙ ap (λ texts. texts ++ c.args.text.now ∷ []) (still.1 ∙ c.self.view_is)
