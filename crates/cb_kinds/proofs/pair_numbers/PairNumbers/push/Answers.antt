use Rattle.std.proofs.Common.{◌∙◌, ◌++◌, ◌∷◌, [], ap, map, subst, sym}
use Rattle.std.proofs.lemmas.Result.{err_from_is_err_and}
use Rattle.cb_kinds.specs.Numbers.{AreNumbered, IsPair, pair_of}
use Rattle.cb_kinds.specs.Texts.{entered}
use Rattle.cb_kinds.proofs.NumberedItems.{name_still, pair_last, pairs_still}
use Rattle.cb_kinds.proofs.pair_numbers.PairNumbers.push.Goals as goal

pub invariant_of-self-in_err-descriptor_number : goal.invariant_of-self-in_err-descriptor_number
invariant_of-self-in_err-descriptor_number c =
    let is = c.in_err-descriptor_number.ensures.refused ∙ c.in_ok-name_number.ensures.entered in
    let still = pairs_still c.self.inside.texts (c.args.name.now ∷ []) c.number_entered-2.new.texts c.self.inside.places is c.self.invariant in
    still.0

pub returns-in_err-descriptor_number-clause-refused : goal.returns-in_err-descriptor_number-clause-refused
returns-in_err-descriptor_number-clause-refused c =
    let is = c.in_err-descriptor_number.ensures.refused ∙ c.in_ok-name_number.ensures.entered in
    let still = pairs_still c.self.inside.texts (c.args.name.now ∷ []) c.number_entered-2.new.texts c.self.inside.places is c.self.invariant in
    let p = err_from_is_err_and c.from_residual-in_err-descriptor_number.result c.from_residual-in_err-descriptor_number.ensures.1 in
    rw p.1 (still.1 ∙ c.self.view_is)

pub invariant_of-self-in_err-push : goal.invariant_of-self-in_err-push
invariant_of-self-in_err-push c =
    let is = c.in_ok-descriptor_number.ensures.entered ∙ ap (λ texts. entered texts c.args.descriptor.now) c.in_ok-name_number.ensures.entered in
    let still = pairs_still c.self.inside.texts (c.args.name.now ∷ c.args.descriptor.now ∷ []) c.number_entered-2.new.texts c.self.inside.places is c.self.invariant in
    subst (AreNumbered IsPair c.number_entered-2.new.texts) (sym c.in_err-push.ensures.refused) still.0

pub returns-in_err-push-clause-refused : goal.returns-in_err-push-clause-refused
returns-in_err-push-clause-refused c =
    let is = c.in_ok-descriptor_number.ensures.entered ∙ ap (λ texts. entered texts c.args.descriptor.now) c.in_ok-name_number.ensures.entered in
    let still = pairs_still c.self.inside.texts (c.args.name.now ∷ c.args.descriptor.now ∷ []) c.number_entered-2.new.texts c.self.inside.places is c.self.invariant in
    let p = err_from_is_err_and c.from_residual-in_err-push.result c.from_residual-in_err-push.ensures.1 in
    rw p.1 (ap (map (pair_of c.number_entered-2.new.texts)) c.in_err-push.ensures.refused ∙ still.1 ∙ c.self.view_is)

pub invariant_of-self-2 : goal.invariant_of-self-2
invariant_of-self-2 c =
    let is = c.in_ok-descriptor_number.ensures.entered ∙ ap (λ texts. entered texts c.args.descriptor.now) c.in_ok-name_number.ensures.entered in
    let still = pairs_still c.self.inside.texts (c.args.name.now ∷ c.args.descriptor.now ∷ []) c.number_entered-2.new.texts c.self.inside.places is c.self.invariant in
    let one = name_still c.number_entered.new.texts c.number_entered-2.new.texts c.args.name.now c.args.descriptor.now c.in_ok-name_number.name_number c.in_ok-descriptor_number.ensures.entered c.in_ok-name_number.ensures.number in
    let last = pair_last c.number_entered-2.new.texts c.self.inside.places c.args.name.now c.args.descriptor.now (c.in_ok-name_number.name_number, c.in_ok-descriptor_number.descriptor_number) still.0 one c.in_ok-descriptor_number.ensures.number in
    subst (AreNumbered IsPair c.number_entered-2.new.texts) (sym c.in_ok-push.ensures.added) last.0

pub returns-clause-added : goal.returns-clause-added
returns-clause-added c =
    let is = c.in_ok-descriptor_number.ensures.entered ∙ ap (λ texts. entered texts c.args.descriptor.now) c.in_ok-name_number.ensures.entered in
    let still = pairs_still c.self.inside.texts (c.args.name.now ∷ c.args.descriptor.now ∷ []) c.number_entered-2.new.texts c.self.inside.places is c.self.invariant in
    let one = name_still c.number_entered.new.texts c.number_entered-2.new.texts c.args.name.now c.args.descriptor.now c.in_ok-name_number.name_number c.in_ok-descriptor_number.ensures.entered c.in_ok-name_number.ensures.number in
    let last = pair_last c.number_entered-2.new.texts c.self.inside.places c.args.name.now c.args.descriptor.now (c.in_ok-name_number.name_number, c.in_ok-descriptor_number.descriptor_number) still.0 one c.in_ok-descriptor_number.ensures.number in
    ap (map (pair_of c.number_entered-2.new.texts)) c.in_ok-push.ensures.added ∙ last.1 ∙ ap (λ pairs. pairs ++ (c.args.name.now, c.args.descriptor.now) ∷ []) (still.1 ∙ c.self.view_is)
