use Rattle.std.proofs.Common.{ℕ, ◌<◌, List, length, sym, subst, ap, ◌∙◌}
use Rattle.std.specs.List.{Contains}
use Rattle.cb_hierarchy.specs.Classes.{parents}
use Rattle.cb_hierarchy.specs.Inner.{list_at}
use Rattle.cb_hierarchy.proofs.Closing.{marks_along}
use Rattle.cb_hierarchy.proofs.Named.{all_named_below, at_all_named}
use Rattle.cb_hierarchy.proofs.ancestors.Ancestors.of_parents.Goals as goal

pub closed-requires-clause-below : goal.closed-requires-clause-below
closed-requires-clause-below c =
    subst (λ (lists : List (List ℕ)). (class number : ℕ) → Contains (list_at lists class) number → number < length lists) (sym c.in_ok-lists.ensures) (all_named_below c.args.classes.now c.requires)

pub returns-clause-marks : goal.returns-clause-marks
returns-clause-marks c =
    marks_along (list_at c.in_ok-lists.lists) (parents c.args.classes.now) c.in_ok-rows.rows.items
    (λ class. ap (λ (lists : List (List ℕ)). list_at lists class) c.in_ok-lists.ensures ∙ at_all_named c.args.classes.now class) c.in_ok-rows.ensures.marks
