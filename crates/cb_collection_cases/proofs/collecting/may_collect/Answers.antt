use Rattle.std.proofs.Common.{◌≡◌, ◌∙◌, ℕ, Bool, true, List, length, subst, ap, arith}
use Rattle.cb_dag.specs.Graphs.{HasEdge}
use Rattle.cb_dag.specs.Marks.{marked}
use Rattle.cb_partheap_tests.specs.declared.tried.Tried.{Tried}
use Rattle.cb_collection_cases.specs.Collected.{AreNamed}
use Rattle.cb_collection_cases.proofs.Collects.{may}
use Rattle.cb_collection_cases.proofs.collecting.may_collect.Goals as goal

pub returns : goal.returns
returns c =
    λ yes.
    let named : AreNamed c.args.roots.now.roots c.args.tried.now.places.items = subst (AreNamed c.args.roots.now.roots) (c.as_slice.ensures.value ∙ ap (λ (t : Tried). t.places.items) c.tried.view_is) (c.are_named.ensures yes) in
    let same : length c.args.set.now ≡ length c.args.tried.now.heap.memory.words = omega arith in
    let closed : (part other : ℕ) → HasEdge c.args.tried.now.heap.edges part other → marked c.args.set.now other ≡ true → marked c.args.set.now part ≡ true =
    subst (λ (rows : List (List Bool)). (part other : ℕ) → HasEdge rows part other → marked c.args.set.now other ≡ true → marked c.args.set.now part ≡ true) (ap (λ (t : Tried). t.heap.edges) c.tried.view_is) (c.is_closed_set.ensures c.if-not-is_closed_set.false) in
    may c.args.tried.now.heap c.args.roots.now.roots c.args.set.now c.args.tried.now.places.items c.requires.kept named c.is_whole.ensures.closed same closed c.requires.unmarked
