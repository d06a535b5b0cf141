use Rattle.std.proofs.Common.{◌≡◌, ◌∙◌, ◌<◌, List, ap, length, subst, sym}
use Rattle.std.proofs.lemmas.List.{length-map}
use Rattle.std.specs.Prelude.{slice_get}
use Rattle.cb_classfile.specs.declared.class.ClassFile.{ClassFile}
use Rattle.cb_link.specs.declared.refusal.Refusal.TheVariants.{MissingMember, NoMain}
use Rattle.cb_link.specs.Judging.{HasManyMethods, HasNoMain, IsNoProgram, Lacks, method_limit}
use Rattle.cb_link.specs.Numbers.{methods_of, ranked_method, ranked_methods}
use Rattle.cb_link.specs.Resolving.{main_method}
use Rattle.cb_link.proofs.JudgedLaws.{lacking_within}
use Rattle.cb_link.proofs.judging.begin.Goals as goal

pub get-requires : goal.get-requires
get-requires c =
    let within : c.in-Some.number < length c.args.resolver.now = lacking_within c.args.resolver.now c.in-Some.number c.in-Some.member (sym c.in_ok-number.ensures ∙ c.in-Some.is) in
    subst (λ (classes : List ClassFile). c.in-Some.number < length classes) (sym c.resolver.view_is) within

pub returns-in-Some-clause-refused : goal.returns-in-Some-clause-refused
returns-in-Some-clause-refused c = λ good.
    subst (λ name. IsNoProgram c.args.resolver.now c.args.main.now (MissingMember name c.in-Some.member)) (sym c.in_ok-class_name.ensures)
    (Lacks c.in-Some.number c.get.result.now c.in-Some.member good (sym c.in_ok-number.ensures ∙ c.in-Some.is)
    (ap (λ (classes : List ClassFile). slice_get classes c.in-Some.number) (sym c.resolver.view_is) ∙ c.get.ensures))

pub returns-in_default-main_method-clause-refused : goal.returns-in_default-main_method-clause-refused
returns-in_default-main_method-clause-refused c = λ good.
    subst (λ name. IsNoProgram c.args.resolver.now c.args.main.now (NoMain name)) (sym (c.in_ok-units_of.ensures ∙ c.as_slice-in_default-main_method.ensures))
    (HasNoMain good (sym c.in_ok-number.ensures ∙ c.in_default.is)
    (sym (c.main_method.ensures ∙ ap (main_method c.args.resolver.now) c.as_slice.ensures) ∙ c.in_default-main_method.is))

pub returns-then-len-gt-METHOD_LIMIT-clause-refused : goal.returns-then-len-gt-METHOD_LIMIT-clause-refused
returns-then-len-gt-METHOD_LIMIT-clause-refused c = λ good.
    let ranked : length c.resolver.inside.members.value.methods ≡ length (ranked_methods c.resolver.inside.classes) = ap length c.resolver.invariant.methods_ranked in
    let mapped : length (ranked_methods c.resolver.inside.classes) ≡ length (methods_of c.resolver.inside.classes) = length-map (methods_of c.resolver.inside.classes) (ranked_method c.resolver.inside.classes) in
    let seen : length (methods_of c.resolver.inside.classes) ≡ length (methods_of c.args.resolver.now) = ap (λ (classes : List ClassFile). length (methods_of classes)) c.resolver.view_is in
    let many : method_limit < length (methods_of c.args.resolver.now) =
    subst (λ count. method_limit < count) (c.len.ensures ∙ ap (λ members. length members.methods) c.deref.ensures ∙ ranked ∙ mapped ∙ seen) c.if-len-gt-METHOD_LIMIT.true in
    HasManyMethods c.in-Some-main_method.method good (sym c.in_ok-number.ensures ∙ c.in_default.is)
    (sym (c.main_method.ensures ∙ ap (main_method c.args.resolver.now) c.as_slice.ensures) ∙ c.in-Some-main_method.is) many
