use Rattle.std.proofs.Common.{◌≡◌, ◌∙◌, ◌<◌, refl, sym, subst, length, Some}
use Rattle.std.specs.Prelude.{slice_get}
use Rattle.std.proofs.lemmas.List.{length-map}
use Rattle.std.proofs.lemmas.Option.{slice_get_read}
use Rattle.cb_hierarchy.specs.Bad.{AreGood, IsFirstBad}
use Rattle.cb_hierarchy.specs.Classes.{AreClasses}
use Rattle.cb_link.specs.declared.refusal.Refusal.TheVariants.{BadHierarchy}
use Rattle.cb_link.specs.Judging.{IsBadAt, IsNoProgram}
use Rattle.cb_link.specs.Numbers.{hierarchy, ranked}
use Rattle.cb_link.proofs.Ranged.{acyclic, are_classes}
use Rattle.cb_link.proofs.resolver.hierarchy_of.Goals as goal

pub first_bad-requires : goal.first_bad-requires
first_bad-requires c = subst AreClasses (sym c.requires.ranked) (are_classes c.args.classes.now c.requires.few)

pub returns-in-Some-clause-refused : goal.returns-in-Some-clause-refused
returns-in-Some-clause-refused c = λ main.
    let classes = c.args.classes.now in
    let number = c.in-Some.number in
    let class = c.index-classes-number.result in
    let found = subst (λ found. IsFirstBad c.args.ranked c.args.methods.now found) c.in-Some.is c.in_ok-number.ensures in
    let first = subst (λ ranked. IsFirstBad ranked c.args.methods.now (Some number)) c.requires.ranked found in
    let bad = subst (λ methods. IsFirstBad (hierarchy classes) methods (Some number)) c.requires.methods first in
    let low : number < length classes = subst (λ count. number < count) (length-map classes (ranked classes)) bad.0 in
    let at : slice_get classes number ≡ Some class = slice_get_read classes (length classes) number class refl low c.index-classes-number.is in
    subst (λ name. IsNoProgram classes main (BadHierarchy name)) (sym (c.in_ok-units_of.ensures ∙ c.name_of.ensures)) (IsBadAt number class bad at)

pub of-requires-clause-classes : goal.of-requires-clause-classes
of-requires-clause-classes c = subst AreClasses (sym c.requires.ranked) (are_classes c.args.classes.now c.requires.few)

pub of-requires-clause-acyclic : goal.of-requires-clause-acyclic
of-requires-clause-acyclic c =
    acyclic c.args.ranked c.args.methods.now (subst (λ found. IsFirstBad c.args.ranked c.args.methods.now found) c.in_default.is c.in_ok-number.ensures)

pub returns-clause-made : goal.returns-clause-made
returns-clause-made c =
    let good = subst (λ found. IsFirstBad c.args.ranked c.args.methods.now found) c.in_default.is c.in_ok-number.ensures in
    let ranked_good = subst (λ ranked. AreGood ranked c.args.methods.now) c.requires.ranked good in
    (c.in_ok-hierarchy.ensures ∙ c.requires.ranked, subst (λ methods. AreGood (hierarchy c.args.classes.now) methods) c.requires.methods ranked_good)
