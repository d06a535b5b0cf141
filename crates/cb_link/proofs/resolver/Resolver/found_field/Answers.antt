use Rattle.std.proofs.Common.{◌∙◌, ap, ap₂, sym, List, ℕ}
use Rattle.cb_hierarchy.specs.Resolution.{resolved_field}
use Rattle.cb_kinds.specs.Texts.{number_of_pair}
use Rattle.cb_link.specs.Inner.{names_of_member}
use Rattle.cb_link.specs.Numbers.{field_texts, hierarchy, ranked_fields}
use Rattle.cb_link.proofs.Finding.{field_is}
use Rattle.cb_link.proofs.resolver.Resolver.found_field.Goals as goal

pub returns : goal.returns
returns c =
    let class = c.in_ok-class.class in
    let signature = c.in_ok-signature.signature in
    let texts : List ℕ × List ℕ = (c.args.member.name.now, c.args.member.descriptor.now) in
    let numbered = ap (λ classes. number_of_pair (field_texts classes) texts) (sym c.self.view_is) ∙ ap (λ all. number_of_pair all texts) (sym c.self.invariant.of_fields) ∙ ap (λ all. number_of_pair all.fields texts) (sym c.deref.ensures) ∙ sym c.number.ensures ∙ c.in_ok-signature.was in
    c.resolved_field.ensures
    ∙ ap (λ members. resolved_field c.self.inside.hierarchy members.fields class signature) c.deref-2.ensures
    ∙ ap₂ (λ ranked fields. resolved_field ranked fields class signature) c.self.invariant.classes_ranked c.self.invariant.fields_ranked
    ∙ ap (λ classes. resolved_field (hierarchy classes) (ranked_fields classes) class signature) c.self.view_is
    ∙ sym (field_is c.args.self.now (names_of_member c.args.member) class signature (sym c.holder.ensures ∙ c.in_ok-class.was) numbered)
