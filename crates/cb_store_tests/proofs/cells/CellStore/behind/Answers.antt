use Rattle.std.proofs.Common.{◌≡◌, ◌∙◌, ap, arith, sym, subst, false, is_some, slice_get, slice_index_or, Some, suc}
use Rattle.std.proofs.lemmas.Bool.{false≢true}
use Rattle.std.proofs.lemmas.Option.{slice_get-get_or}
use Rattle.cb_heap.specs.Kept.{is_held}
use Rattle.cb_store_tests.specs.FourCells.{entry_of}
use Rattle.cb_store_tests.specs.Marks.{IsUnmarked}
use Rattle.cb_store_tests.specs.declared.cell.Cell.{Cell}
use Rattle.cb_store_tests.proofs.CellLaws.{entry_place, held_beyond}
use Rattle.cb_store_tests.proofs.MarkLaws.{later, none_before, none_behind, points_to}
use Rattle.cb_store_tests.proofs.cells.CellStore.behind.Goals.{then-marked-i+in_default, else-marked-i}
use Rattle.cb_store_tests.proofs.cells.CellStore.behind.Goals as goal

pub returns-in-Some : goal.returns-in-Some
returns-in-Some c =
    let cell : Cell = slice_index_or c.self.inside.cells c.loop-i.i (record { kept = false; site = 0; linked = false; word = 0 }) in
    let there : slice_get c.args.self.now.objects c.loop-i.i ≡ Some (entry_of cell) =
    rw (← c.self.view_is) (entry_place c.self.inside.cells c.self.inside.count c.loop-i.i (record { kept = false; site = 0; linked = false; word = 0 }) (omega arith) (omega (arith, c.self.invariant.0, c.self.invariant.1))) in
    record {
      one = c.loop-i.i;
      from = slice_get-get_or c.args.marked.now c.loop-i.i false (omega (arith, c.told-marked, c.self.invariant.0)) ∙ ap Some c.if-marked-i.true;
      points = points_to cell c.args.self.now.objects c.loop-i.i c.in-Some.place there (sym c.referent.ensures ∙ c.in-Some.ensures.is);
      unmarked = c.in-Some.ensures.unmarked;
    }

pub loop-i-preserved : goal.loop-i-preserved
loop-i-preserved c place it =
    let cell : Cell = slice_index_or c.self.inside.cells c.loop-i.i (record { kept = false; site = 0; linked = false; word = 0 }) in
    let there : slice_get c.args.self.now.objects c.loop-i.i ≡ Some (entry_of cell) =
    rw (← c.self.view_is) (entry_place c.self.inside.cells c.self.inside.count c.loop-i.i (record { kept = false; site = 0; linked = false; word = 0 }) (omega arith) (omega (arith, c.self.invariant.0, c.self.invariant.1))) in
    later c.loop-i.i it.one (c.loop-i.invariant place it)
    (elim c.if-marked-i.branch [
      | then-marked-i+in_default w ↦ none_behind cell c.args.self.now.objects c.args.marked.now c.loop-i.i place there
          (subst (λ to. (other : _) → ¬ IsUnmarked c.args.marked.now to other) w.referent.ensures w.in_default.ensures) it
      | else-marked-i w ↦ none_before c.args.self.now.objects c.args.marked.now c.loop-i.i place w.if-marked-i.false it
    ])

pub returns : goal.returns
returns c place it =
    false≢true
    (subst (λ held. false ≡ is_held held.objects (suc it.one)) c.self.view_is
    (held_beyond c.self.inside.cells c.self.inside.count (suc it.one) (omega (arith, c.loop-i.invariant place it)))
    ∙ ap is_some it.points.there)
