use Rattle.std.proofs.Common.{◌∙◌, ◌++◌, ◌∷◌, [], ℕ, List, ap, arith, subst, sym}
use Rattle.std.specs.List.{Contains, flat_map}
use Rattle.cb_hierarchy.specs.Inner.{list_at}
use Rattle.cb_hierarchy.specs.Orders.{distinct}
use Rattle.cb_hierarchy.proofs.Named.{superinterface_among, superinterfaces_are}
use Rattle.cb_hierarchy.proofs.initial.EnumeratedRule.list.Goals as goal

pub append_lists-requires : goal.append_lists-requires
append_lists-requires c =
    λ number among.
    let known = c.requires.known.below c.args.number number (superinterface_among c.args.self.now.classes.now c.args.number c.get-class.result.now c.get-class.ensures number (subst (λ (list : List ℕ). Contains list number) c.as_slice.ensures among)) in
    omega (arith, known)

pub returns : goal.returns
returns c =
    let lists = c.args.lists.now in
    let first = c.in_ok-append_lists.ensures [] c.in_ok-found.ensures in
    let second = c.in_ok-push.ensures (flat_map (list_at lists) c.as_slice.result.now) first in
    second.once
    ∙ ap (λ (numbers : List ℕ). distinct (flat_map (list_at lists) numbers ++ c.args.number ∷ []))
    (c.as_slice.ensures ∙ sym (superinterfaces_are c.args.self.now.classes.now c.args.number c.get-class.result.now c.get-class.ensures))
