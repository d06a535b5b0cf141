use Rattle.std.proofs.Common.{◌<◌, arith, subst, sym}
use Rattle.std.proofs.lemmas.List.{get_or_default}
use Rattle.std.proofs.lemmas.Result.{err_from_is_err_and}
use Rattle.cb_dag.specs.Parts.{IsCondensed}
use Rattle.cb_dag.proofs.Components.{condensed, copy_seen, ends_within, parts_seen, row_fault}
use Rattle.cb_dag.proofs.condensing.condense.Goals as goal

pub returns-then-parts-gt-MOST_PARTS-clause-fault : goal.returns-then-parts-gt-MOST_PARTS-clause-fault
returns-then-parts-gt-MOST_PARTS-clause-fault c = record {
  parts = c.in_ok-parts.field-0.parts;
  part_of = c.in_ok-parts.field-0.part_of.items;
  are = parts_seen c.args.grid.now c.in_ok-roots.roots.items c.as_slice.result.now c.in_ok-parts.field-0.parts c.in_ok-parts.field-0.part_of.items
      c.in_ok-roots.ensures.roots c.in_ok-roots.ensures.within c.as_slice.ensures.value c.in_ok-parts.ensures;
  many = c.if-parts-gt-MOST_PARTS.true;
}

pub of-requires-clause-below : goal.of-requires-clause-below
of-requires-clause-below c = λ k d within.
    let are = parts_seen c.args.grid.now c.in_ok-roots.roots.items c.as_slice.result.now c.in_ok-parts.field-0.parts c.in_ok-parts.field-0.part_of.items
    c.in_ok-roots.ensures.roots c.in_ok-roots.ensures.within c.as_slice.ensures.value c.in_ok-parts.ensures in
    subst (λ n. n < c.in_ok-parts.field-0.parts) (get_or_default c.in_ok-parts.field-0.part_of.items k 0 d within) (are.below k (omega (arith, within, are.each)))

pub of-requires-clause-within : goal.of-requires-clause-within
of-requires-clause-within c =
    let are = parts_seen c.args.grid.now c.in_ok-roots.roots.items c.as_slice.result.now c.in_ok-parts.field-0.parts c.in_ok-parts.field-0.part_of.items
    c.in_ok-roots.ensures.roots c.in_ok-roots.ensures.within c.as_slice.ensures.value c.in_ok-parts.ensures in
    ends_within c.args.grid.now c.in_ok-joined.joined c.in_ok-parts.field-0.parts c.in_ok-parts.field-0.part_of.items c.nodes-nodes.ensures.square are
    (copy_seen c.args.grid.now c.in_ok-joined.joined c.in_ok-parts.field-0.parts c.in_ok-parts.field-0.part_of.items c.as_slice-2.result.now c.as_slice-2.ensures.value c.in_ok-joined.ensures)
    c.in_ok-edges.edges.items c.in_ok-edges.ensures.edges

pub returns-in_err-edges-clause-fault : goal.returns-in_err-edges-clause-fault
returns-in_err-edges-clause-fault c =
    let p = err_from_is_err_and c.from_residual-in_err-edges.result c.from_residual-in_err-edges.ensures.1 in
    let are = parts_seen c.args.grid.now c.in_ok-roots.roots.items c.as_slice.result.now c.in_ok-parts.field-0.parts c.in_ok-parts.field-0.part_of.items
    c.in_ok-roots.ensures.roots c.in_ok-roots.ensures.within c.as_slice.ensures.value c.in_ok-parts.ensures in
    rw (p.1, p.2) (row_fault c.args.grid.now c.in_ok-joined.joined c.in_ok-parts.field-0.parts c.in_ok-parts.field-0.part_of.items c.nodes-nodes.ensures.square are
    (copy_seen c.args.grid.now c.in_ok-joined.joined c.in_ok-parts.field-0.parts c.in_ok-parts.field-0.part_of.items c.as_slice-2.result.now c.as_slice-2.ensures.value c.in_ok-joined.ensures)
    (omega (arith, c.if-parts-gt-MOST_PARTS.false)) _ c.in_err-edges.ensures.fault)

pub returns-clause-dag : goal.returns-clause-dag
returns-clause-dag c =
    let are = parts_seen c.args.grid.now c.in_ok-roots.roots.items c.as_slice.result.now c.in_ok-parts.field-0.parts c.in_ok-parts.field-0.part_of.items
    c.in_ok-roots.ensures.roots c.in_ok-roots.ensures.within c.as_slice.ensures.value c.in_ok-parts.ensures in
    subst (IsCondensed c.args.grid.now) (sym c.in_ok-of.ensures)
    (condensed c.args.grid.now c.in_ok-joined.joined c.in_ok-parts.field-0.parts c.in_ok-parts.field-0.part_of.items c.nodes-nodes.ensures.square are
    (copy_seen c.args.grid.now c.in_ok-joined.joined c.in_ok-parts.field-0.parts c.in_ok-parts.field-0.part_of.items c.as_slice-2.result.now c.as_slice-2.ensures.value c.in_ok-joined.ensures)
    c.in_ok-edges.edges.items c.in_ok-edges.ensures.edges)
