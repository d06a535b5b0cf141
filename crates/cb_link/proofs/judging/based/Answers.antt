use Rattle.std.proofs.Common.{◌∙◌, ◌≤◌, ◌<◌, IfErr, List, ap, map, subst, sym}
use Rattle.std.specs.List.{AllByRecursion}
use Rattle.std.proofs.lemmas.Result.{IfErr-weaker}
use Rattle.cb_classfile.specs.declared.class.ClassFile.{ClassFile}
use Rattle.cb_hierarchy.specs.Bad.{AreGood}
use Rattle.cb_kinds.specs.Basics.{kind_number}
use Rattle.cb_link.specs.Having.{HasOwnName, IsWhole}
use Rattle.cb_link.specs.Judging.{HindersProgram, IsProgram, site_count, site_limit}
use Rattle.cb_link.specs.Inner.{IsTooMany}
use Rattle.cb_link.specs.InnerJudged.{IsBegun}
use Rattle.cb_link.specs.Numbers.{hierarchy, name_of, ranked_methods}
use Rattle.cb_link.specs.InnerParts.{linked_with}
use Rattle.cb_link.specs.Program.{linked}
use Rattle.cb_link.proofs.JudgedLaws.{many_sites}
use Rattle.cb_link.proofs.Handed.{handed, handed_from}
use Rattle.cb_link.proofs.WholeLaws.{whole_program}
use Rattle.cb_link.proofs.judging.based.Goals as goal

pub returns-in_err-resolver-clause-refused : goal.returns-in_err-resolver-clause-refused
returns-in_err-resolver-clause-refused c =
    handed (HindersProgram c.args.classes c.args.main.now) _ _ c.from_residual.ensures (c.in_err-resolver.ensures.refused c.args.main.now)

pub returns-in_err-method-clause-refused : goal.returns-in_err-method-clause-refused
returns-in_err-method-clause-refused c =
    let made = c.in_ok-resolver.ensures.made in
    let good = subst (λ (all : List ClassFile). AreGood (hierarchy all) (ranked_methods all)) (sym made.0) made.1 in
    handed_from (HindersProgram c.args.classes c.args.main.now) c.from_residual-in_err-method.result c.begin.result _ c.from_residual-in_err-method.ensures c.in_err-method.was
    (subst (λ (all : List ClassFile). IfErr c.begin.result (HindersProgram all c.args.main.now)) made.0 (c.begin.ensures.refused good))

pub returns-in_err-parts-clause-refused : goal.returns-in_err-parts-clause-refused
returns-in_err-parts-clause-refused c =
    let made = c.in_ok-resolver.ensures.made in
    let begun = subst (λ (all : List ClassFile). IsBegun all c.args.main.now c.in_ok-method.method) made.0 c.in_ok-method.ensures.made in
    let told = IfErr-weaker c.parts_of.result (IsTooMany (site_limit < site_count c.in_ok-resolver.resolver)) (HindersProgram c.args.classes c.args.main.now)
    (λ refusal many.
    many_sites c.args.classes c.args.main.now c.in_ok-method.method refusal made.1 begun (subst (λ (all : List ClassFile). IsTooMany (site_limit < site_count all) refusal) made.0 many))
    c.parts_of.ensures.refused in
    handed_from (HindersProgram c.args.classes c.args.main.now) c.from_residual-in_err-parts.result c.parts_of.result _ c.from_residual-in_err-parts.ensures c.in_err-parts.was told

pub base_of-requires : goal.base_of-requires
base_of-requires c =
    let made = c.in_ok-resolver.ensures.made in
    let begun = c.in_ok-method.ensures.made in
    let are = c.in_ok-parts.ensures.made in
    let good = subst (λ (all : List ClassFile). AreGood (hierarchy all) (ranked_methods all)) (sym made.0) made.1 in
    let program : IsProgram c.in_ok-resolver.resolver c.args.main.now c.in_ok-method.method = record { good = good; whole = begun.whole; begins = begun.begins; methods = begun.methods; sites = are.few } in
    let class = c.class_or_count-class.ensures ∙ ap (kind_number (map name_of c.in_ok-resolver.resolver)) c.as_slice.ensures in record {
      are = are;
      whole = subst (λ number. IsWhole (linked_with c.in_ok-resolver.resolver number c.in_ok-method.method)) (sym class) (whole_program c.in_ok-resolver.resolver c.args.main.now c.in_ok-method.method program (subst (AllByRecursion HasOwnName) (sym made.0) c.requires.named));
    }

pub returns-clause-made : goal.returns-clause-made
returns-clause-made c =
    let made = c.in_ok-resolver.ensures.made in
    let method = c.in_ok-method.method in
    let begun = subst (λ (all : List ClassFile). IsBegun all c.args.main.now method) made.0 c.in_ok-method.ensures.made in
    let few = subst (λ (all : List ClassFile). site_count all ≤ site_limit) made.0 c.in_ok-parts.ensures.made.few in
    let good : IsProgram c.args.classes c.args.main.now method = record { good = made.1; whole = begun.whole; begins = begun.begins; methods = begun.methods; sites = few } in
    let class = c.class_or_count-class.ensures ∙ ap (kind_number (map name_of c.in_ok-resolver.resolver)) c.as_slice.ensures in
    (method, good, c.base_of.ensures ∙ ap (λ number. linked_with c.in_ok-resolver.resolver number method) class ∙ ap (λ (all : List ClassFile). linked all c.args.main.now method) made.0)
