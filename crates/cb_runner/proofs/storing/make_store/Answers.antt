use Rattle.std.proofs.Common.{◌≡◌, ◌∙◌, ◌≤◌, [], ap, length, refl, replicate, subst, sym, ℕ, List}
use Rattle.std.proofs.lemmas.Result.{IfOk-weaker}
use Rattle.std.proofs.lemmas.List.{length-replicate}
use Rattle.cb_blocks.specs.Parted.{Parted, empty_parts}
use Rattle.cb_collector.specs.Held.{IsNew}
use Rattle.cb_dag.specs.Parts.{Condensed}
use Rattle.cb_link.specs.Having.{site_kinds}
use Rattle.cb_partheap.specs.Made.{IsMade}
use Rattle.cb_runner.specs.Executing.{IsFirst}
use Rattle.cb_runner.specs.Inner.{run_of}
use Rattle.cb_runner.proofs.Stored.{few_sites, first_store, some_sites}
use Rattle.cb_runner.proofs.storing.make_store.Goals as goal

pub make-requires-clause-sites : goal.make-requires-clause-sites
make-requires-clause-sites c =
    let size : length c.in_ok-parts.parts ≡ length (site_kinds c.args.program.now) =
    ap (λ (parts : List ℕ). length parts) (c.in_ok-parts.ensures ∙ ap (λ (graph : Condensed). graph.part_of) c.in_ok-graph.ensures) ∙ length-replicate c.site_count-sites.result 0
    ∙ c.site_count-sites.ensures in
    subst (λ (size : ℕ). size ≤ 16384) (sym size) (few_sites c.args.program.now c.requires.linked)

pub make-requires-2 : goal.make-requires-2
make-requires-2 c =
    let made = c.in_ok-heap.ensures in
    let heap = c.in_ok-heap.heap in
    record {
      memory = made.memory ∙ ap (λ (blocks : ℕ). empty_parts blocks c.in_ok-graph.graph.parts) (sym (ap (λ (memory : Parted). memory.blocks) made.memory));
      shapes_are = refl;
      sites_are = refl;
      edges = made.edges;
      next = made.next;
      granted = made.granted;
      objects = made.objects;
    }

pub returns : goal.returns
returns c =
    let one = c.in_ok-graph.ensures ∙ ap (λ (count : ℕ). record { parts = 1; part_of = replicate count 0; edges = [] }) c.site_count-sites.ensures in
    let made = subst (λ (parts : List ℕ). IsMade c.in_ok-shapes.shapes parts c.in_ok-graph.graph c.args.asked.now.blocks c.in_ok-heap.heap) c.in_ok-parts.ensures c.in_ok-heap.ensures in
    IfOk-weaker c.make-2.result (IsNew c.in_ok-heap.heap c.in_ok-graph.graph _) (IsFirst (run_of c.args.asked.now) c.args.program.now)
    (λ store new. first_store (run_of c.args.asked.now) c.args.program.now c.in_ok-shapes.shapes c.in_ok-graph.graph c.in_ok-heap.heap store c.in_ok-shapes.ensures one made _ new) c.make-2.ensures
