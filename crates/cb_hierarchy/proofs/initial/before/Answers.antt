use Rattle.std.proofs.Common.{◌∙◌, ◌++◌, [], ℕ, List, ap, ap₂, cond, filter, nat_eq, subst, sym}
use Rattle.std.specs.HashSet.{contains}
use Rattle.std.specs.List.{Contains, flat_map}
use Rattle.cb_hierarchy.specs.Classes.{listed}
use Rattle.cb_hierarchy.specs.Inner.{list_at}
use Rattle.cb_hierarchy.specs.Orders.{distinct}
use Rattle.cb_hierarchy.proofs.initial.before.Goals as goal

pub append_lists-requires : goal.append_lists-requires
append_lists-requires c = λ number among. c.requires number (subst (λ (list : List ℕ). Contains list number) c.as_slice.ensures among)

pub returns : goal.returns
returns c =
    let lists = c.args.enumerated.now in
    let first = c.in_ok-append_lists.ensures [] c.in_ok-found.ensures in
    c.in_ok-add_among.ensures
    ∙ ap₂ (λ (list numbers : List ℕ). list ++ filter (contains nat_eq c.args.bodies.now) numbers) c.in_ok-list.ensures
    (c.as_slice-2.ensures ∙ first.once ∙ ap (λ (numbers : List ℕ). distinct (flat_map (list_at lists) numbers)) c.as_slice.ensures)
    ∙ ap (λ test. cond test [] (listed c.args.class.now.superclass ++ filter (contains nat_eq c.args.bodies.now) (distinct (flat_map (list_at lists) c.args.class.now.interfaces)))) (sym c.if-class.false)
