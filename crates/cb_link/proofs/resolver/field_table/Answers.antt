use Rattle.std.proofs.Common.{◌≡◌, ◌∙◌, ◌<◌, ◌^◌, ap, sym, subst, length, map}
use Rattle.std.specs.List.{enumerate_from, flat_map}
use Rattle.std.proofs.lemmas.Result.{IfOk-weaker}
use Rattle.cb_hierarchy.specs.Members.{AreMembers}
use Rattle.cb_link.specs.Numbers.{ranked_fields}
use Rattle.cb_link.specs.InnerRanks.{fields_of_class}
use Rattle.cb_link.proofs.Bounded.{field_members}
use Rattle.cb_link.proofs.Counted.{fields_by_class}
use Rattle.cb_link.proofs.resolver.field_table.Goals as goal

same : (c : goal.In_ok-rank_fields) → c.in_ok-rank_fields.field-0 ≡ ranked_fields c.args.classes.now
same c =
    c.in_ok-rank_fields.ensures.fields ∙ ap (λ texts. flat_map (fields_of_class texts) (enumerate_from 0 c.args.classes.now)) c.requires ∙ sym (fields_by_class c.args.classes.now)

pub of-requires : goal.of-requires
of-requires c =
    subst (λ fields. AreMembers (map (λ field. field.declared) fields)) (sym (same c))
    (field_members c.args.classes.now (subst (λ texts. length texts < 2 ^ 32) c.requires c.in_ok-rank_fields.ensures.few))

pub returns : goal.returns
returns c = IfOk-weaker c.of.result _ _ (λ table is. is ∙ same c.before) c.of.ensures
