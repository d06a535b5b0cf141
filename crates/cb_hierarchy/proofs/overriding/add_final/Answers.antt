use Rattle.std.proofs.Common.{ℕ, ◌<◌, ◌++◌, ◌∷◌, [], List, length, sym, ap, ◌∙◌, arith}
use Rattle.std.proofs.lemmas.List.{get_or_read}
use Rattle.cb_hierarchy.proofs.Badly.{finals_more, signature_at}
use Rattle.cb_hierarchy.proofs.overriding.add_final.Goals as goal

pub returns-in_ok-push-clause-lists : goal.returns-in_ok-push-clause-lists
returns-in_ok-push-clause-lists c =
    let lists = c.args.lists.now.items in
    let s = c.signature-signature.result in
    let within : s < length lists = omega (arith, c.args.lists.now.ok.0) in
    finals_more c.args.methods.now c.args.number s c.method-method.result.now c.method-method.ensures (sym (signature_at c.args.methods.now c.args.number c.method-method.result.now c.method-method.ensures) ∙ sym c.signature-signature.ensures.value) lists c.push.new.self within (c.in_ok-push.ensures.ok ∙ ap (λ (list : List ℕ). list ++ c.args.number ∷ []) (get_or_read lists s c.index_mut.result.now within c.index_mut.ensures.value [])) c.if-method.true c.if-not-method.true
