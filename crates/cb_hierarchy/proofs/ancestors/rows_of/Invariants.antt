use Rattle.std.proofs.Common.{◌≡◌, ℕ, ◌<◌, ◌==◌, [], length, get_or}
use Rattle.std.specs.List.{Contains, list_any}
use Rattle.cb_hierarchy.specs.Inner.{list_at}
use Rattle.cb_hierarchy.specs.InnerRows.{marked}
use Rattle.cb_hierarchy.proofs.ancestors.rows_of.Given as goal

abbrev pub invariant-loop-list : goal.invariant-loop-list
invariant-loop-list l = record {
  as_many : length l.rows.items ≡ l.list-index;
  wide : ((class number : ℕ) → Contains (list_at l.lists class) number → number < length l.lists) → (class : ℕ) → class < l.list-index → length (get_or l.rows.items class []) ≡ length l.lists;
  marks : (class other : ℕ) → class < l.list-index → marked l.rows.items class other ≡ list_any (λ number. number == other) (list_at l.lists class);
}
