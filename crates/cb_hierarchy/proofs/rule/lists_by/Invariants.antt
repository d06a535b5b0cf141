use Rattle.std.proofs.Common.{◌≡◌, length, take}
use Rattle.cb_hierarchy.specs.Inner.{IsParentsFirst}
use Rattle.cb_hierarchy.proofs.Turned.{AreMade}
use Rattle.cb_hierarchy.proofs.rule.lists_by.Given as goal

abbrev pub invariant-loop-number : goal.invariant-loop-number
invariant-loop-number g l = record {
  as_many : length l.lists.items ≡ length l.classes;
  made : (first : IsParentsFirst l.classes l.order) → AreMade (g.R.Rule.rule l.rule) first.rank (take l.number-index l.order) l.lists.items;
}
