use Rattle.std.proofs.Common.{◌≡◌, ℕ, [], List, get_or, subst, ◌∙◌, arith}
use Rattle.std.specs.List.{Contains}
use Rattle.std.proofs.lemmas.List.{get_or_read}
use Rattle.std.proofs.lemmas.Option.{slice_get_within}
use Rattle.cb_hierarchy.proofs.Badly.{method_found}
use Rattle.cb_hierarchy.proofs.overriding.overrides_final.Goals as goal

pub overrides_some-requires : goal.overrides_some-requires
overrides_some-requires c = λ other among.
    let lists = c.args.lists.now in
    let s = c.signature.result in
    let read : c.as_slice-others.result.now ≡ get_or lists s [] = c.as_slice-others.ensures ∙ get_or_read lists s c.index-lists-signature.result (omega arith) c.index-lists-signature.is [] in
    let found = method_found c.args.methods.now _ other (c.requires.lists.only s other (subst (λ (list : List ℕ). Contains list other) read among)) in
    slice_get_within c.args.methods.now other found.0 found.1
