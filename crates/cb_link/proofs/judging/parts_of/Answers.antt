use Rattle.std.proofs.Common.{◌≤◌, ◌<◌, ◌∙◌, Err, IfErr, List, ap, map, refl, subst, ℕ}
use Rattle.cb_classfile.specs.declared.class.ClassFile.{ClassFile}
use Rattle.cb_kinds.specs.Basics.{kind_number}
use Rattle.cb_link.specs.declared.refusal.Refusal.TheVariants.{OutOfMemory}
use Rattle.cb_link.specs.Inner.{IsTooMany}
use Rattle.cb_link.specs.Judging.{site_count, site_limit}
use Rattle.cb_link.specs.Making.{constants, fixed_kinds, kinds, makings}
use Rattle.cb_link.specs.Numbers.{fields_of, methods_of}
use Rattle.cb_link.specs.Program.{linked_field, linked_method, linked_site}
use Rattle.cb_link.proofs.Handed.{handed_from}
use Rattle.cb_link.proofs.judging.parts_of.Goals as goal

pub returns-in_err-kinded-clause-refused : goal.returns-in_err-kinded-clause-refused
returns-in_err-kinded-clause-refused c =
    handed_from {Gave = ℕ} (IsTooMany (site_limit < site_count c.args.resolver.now)) c.from_residual.result (Err OutOfMemory) OutOfMemory c.from_residual.ensures refl tt

pub returns-in_err-listed-clause-refused : goal.returns-in_err-listed-clause-refused
returns-in_err-listed-clause-refused c =
    handed_from (IsTooMany (site_limit < site_count c.args.resolver.now)) c.from_residual-in_err-listed.result c.list_all.result _ c.from_residual-in_err-listed.ensures c.in_err-listed.was
    (subst (λ (all : List ClassFile). IfErr c.list_all.result (IsTooMany (site_limit < site_count all))) (c.as_slice-classes.ensures ∙ c.classes.ensures) c.list_all.ensures.refused)

pub returns-clause-made : goal.returns-clause-made
returns-clause-made c =
    let same = c.as_slice-classes.ensures ∙ c.classes.ensures in
    let kinded = c.in_ok-kinded.ensures in
    let listed = c.in_ok-listed.ensures.made in
    let names = kinded.0 ∙ ap kinds same in record {
      of_kinds = names;
      of_fixed = kinded.1 ∙ ap (λ (all : List ClassFile). map (kind_number (kinds all)) fixed_kinds) same;
      of_texts = kinded.2 ∙ ap constants same;
      of_methods = listed.0 ∙ ap (λ (all : List ClassFile). map (linked_method c.in_ok-kinded.kinded.kinds) (methods_of all)) same
          ∙ ap (λ (all : List (List ℕ)). map (linked_method all) (methods_of c.args.resolver.now)) names;
      of_fields = listed.1 ∙ ap (λ (all : List ClassFile). map (linked_field c.in_ok-kinded.kinded.kinds) (fields_of all)) same
          ∙ ap (λ (all : List (List ℕ)). map (linked_field all) (fields_of c.args.resolver.now)) names;
      of_sites = listed.2 ∙ ap (λ (all : List ClassFile). map (linked_site c.in_ok-kinded.kinded.kinds) (makings all)) same
          ∙ ap (λ (all : List (List ℕ)). map (linked_site all) (makings c.args.resolver.now)) names;
      few = subst (λ (all : List ClassFile). site_count all ≤ site_limit) same listed.3;
    }
