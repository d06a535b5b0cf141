use Rattle.std.proofs.Common.{ℕ, List, [], ◌∷◌, ◌++◌, sym, ap, subst, ◌∙◌, arith}
use Rattle.std.specs.List.{Contains, flat_map}
use Rattle.cb_hierarchy.proofs.Named.{superclass_is, superclass_below, superinterface_among, superinterfaces_are}
use Rattle.cb_hierarchy.specs.Classes.{superinterfaces}
use Rattle.cb_hierarchy.specs.Inner.{list_at}
use Rattle.cb_hierarchy.specs.Orders.{distinct}
use Rattle.cb_hierarchy.specs.InnerRows.{superclass_named}
use Rattle.cb_hierarchy.proofs.orders.LookupRule.list.Goals as goal

pub append_lists-requires : goal.append_lists-requires
append_lists-requires c =
    λ number among.
    let known = c.requires.known.below c.args.number number (superinterface_among c.args.self.now.classes.now c.args.number c.get-class.result.now c.get-class.ensures number (subst (λ (list : List ℕ). Contains list number) c.as_slice.ensures among)) in
    omega (arith, known)

pub append_superclass-requires : goal.append_superclass-requires
append_superclass-requires c =
    λ number among.
    let known = c.requires.known.below c.args.number number (superclass_below c.args.self.now.classes.now c.args.number c.get-class.result.now c.get-class.ensures number among) in
    omega (arith, known)

pub returns : goal.returns
returns c =
    let classes = c.args.self.now.classes.now in
    let above = list_at c.args.lists.now in
    let number = c.args.number in
    let class = c.get-class.result.now in
    let first = c.in_ok-push.ensures [] c.in_ok-found.ensures in
    let second = c.in_ok-append_lists.ensures (number ∷ []) first in
    let third = c.in_ok-append_superclass.ensures (number ∷ flat_map above c.as_slice.result.now) second in
    third.once
    ∙ ap (λ (list : List ℕ). distinct (number ∷ flat_map above list ++ flat_map above (superclass_named class))) (c.as_slice.ensures ∙ sym (superinterfaces_are classes number class c.get-class.ensures))
    ∙ ap (λ (list : List ℕ). distinct (number ∷ flat_map above (superinterfaces classes number) ++ flat_map above list)) (sym (superclass_is classes number class c.get-class.ensures))
