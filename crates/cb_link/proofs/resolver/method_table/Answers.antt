use Rattle.std.proofs.Common.{◌≡◌, ◌∙◌, ◌<◌, ◌^◌, ap, sym, subst, length, map}
use Rattle.std.specs.List.{enumerate_from, flat_map}
use Rattle.std.proofs.lemmas.Result.{IfOk-weaker}
use Rattle.cb_hierarchy.specs.Members.{AreMembers}
use Rattle.cb_link.specs.Numbers.{ranked_methods}
use Rattle.cb_link.specs.InnerRanks.{methods_of_class}
use Rattle.cb_link.proofs.Bounded.{method_members}
use Rattle.cb_link.proofs.Counted.{methods_by_class}
use Rattle.cb_link.proofs.resolver.method_table.Goals as goal

same : (c : goal.In_ok-rank_methods) → c.in_ok-rank_methods.field-0 ≡ ranked_methods c.args.classes.now
same c =
    c.in_ok-rank_methods.ensures.methods ∙ ap (λ texts. flat_map (methods_of_class texts) (enumerate_from 0 c.args.classes.now)) c.requires ∙ sym (methods_by_class c.args.classes.now)

pub of-requires : goal.of-requires
of-requires c =
    subst (λ methods. AreMembers (map (λ method. method.declared) methods)) (sym (same c))
    (method_members c.args.classes.now (subst (λ texts. length texts < 2 ^ 32) c.requires c.in_ok-rank_methods.ensures.few))

pub returns : goal.returns
returns c = IfOk-weaker c.of.result _ _ (λ table is. is ∙ same c.before) c.of.ensures
