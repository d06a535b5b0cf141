use Rattle.std.proofs.Common.{◌≡◌, ◌∙◌, ◌<◌, ℕ, List, Some, ap, arith, length, map, nat_eq, subst, sym}
use Rattle.std.proofs.lemmas.Result.{IfOk-weaker}
use Rattle.std.specs.HashSet.{contains}
use Rattle.std.specs.Prelude.{slice_get}
use Rattle.cb_hierarchy.specs.declared.class.Class.{Class}
use Rattle.cb_hierarchy.specs.InnerBeginnings.{before_by}
use Rattle.cb_hierarchy.specs.Classes.{AreClasses}
use Rattle.cb_hierarchy.specs.Initial.{initialised_before}
use Rattle.cb_hierarchy.specs.Inner.{list_at}
use Rattle.cb_hierarchy.proofs.InitialLaws.{all_is, enumerated_local}
use Rattle.cb_hierarchy.proofs.Named.{superinterface_among}
use Rattle.cb_hierarchy.proofs.initial.initialised_before.Goals as goal

pub lists_by-requires-clause-local : goal.lists_by-requires-clause-local
lists_by-requires-clause-local c = enumerated_local c.classes-classes.result.now

pub all_before-requires : goal.all_before-requires
all_before-requires c = λ place number class is among.
    let known = c.parents_first-order.ensures.classes.below place number
    (superinterface_among c.args.hierarchy.now place class (ap (λ (classes : List Class). slice_get classes place) (sym (c.as_slice.ensures ∙ c.classes-classes.ensures)) ∙ is) number among) in
    omega (arith, known, ap length c.as_slice-2.ensures, c.in_ok-enumerated.ensures.length, ap length c.classes-classes.ensures)

pub returns-clause-each : goal.returns-clause-each
returns-clause-each c =
    let classes = c.classes-classes.result.now in
    let methods = c.args.methods.now in
    let declares = contains nat_eq c.in_ok-bodies.bodies in
    let lists = c.as_slice-2.result.now in
    IfOk-weaker c.all_before.result (λ all. all ≡ map (before_by declares (list_at lists)) c.as_slice.result.now)
    (λ all. (class : ℕ) → class < length c.args.hierarchy.now → slice_get all class ≡ Some (initialised_before c.args.hierarchy.now methods class))
    (λ all is.
    subst (λ (classes : List Class). (class : ℕ) → class < length classes → slice_get all class ≡ Some (initialised_before classes methods class)) c.classes-classes.ensures
    (all_is classes methods declares lists all (subst AreClasses (sym c.classes-classes.ensures) c.parents_first-order.ensures.classes)
    (is ∙ ap (map (before_by declares (list_at lists))) c.as_slice.ensures) c.in_ok-bodies.ensures
    (λ class within. ap (λ (lists : List (List ℕ)). slice_get lists class) c.as_slice-2.ensures ∙ c.in_ok-enumerated.ensures.each class within)))
    c.all_before.ensures
