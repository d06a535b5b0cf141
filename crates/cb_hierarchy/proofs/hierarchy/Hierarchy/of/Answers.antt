use Rattle.std.proofs.Common.{◌==◌, [], ap, ◌∙◌}
use Rattle.std.specs.List.{list_any}
use Rattle.std.proofs.lemmas.Option.{get_or_from_slice_get}
use Rattle.cb_hierarchy.proofs.Locals.{lookup_local}
use Rattle.cb_hierarchy.specs.Orders.{lookup_order}
use Rattle.cb_hierarchy.proofs.hierarchy.Hierarchy.of.Goals as goal

pub lists_by-requires-2-clause-local : goal.lists_by-requires-2-clause-local
lists_by-requires-2-clause-local c = lookup_local c.args.classes

pub invariant_of-result : goal.invariant_of-result
invariant_of-result c = record {
  known = c.requires.classes;
  acyclic = c.requires.acyclic;
  first = c.in_ok-order.ensures;
  up = c.in_ok-upward_lists.ensures.each;
  looked = c.in_ok-lookup_lists.ensures.each;
  as_many = c.in_ok-lookup_rows.ensures.length ∙ c.in_ok-lookup_lists.ensures.length;
  below =
      λ class other within. c.in_ok-lookup_rows.ensures.marks class other
      ∙ ap (list_any (λ number. number == other)) (get_or_from_slice_get c.in_ok-lookup_lists.lookup_lists class (lookup_order c.args.classes class) [] (c.in_ok-lookup_lists.ensures.each class within));
}
