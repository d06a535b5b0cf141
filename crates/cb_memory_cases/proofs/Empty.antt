-- A store without objects, and roots that name none.
use Rattle.std.proofs.Common.{◌≡◌, ◌∙◌, ap, pred, List, [], map, Some}
use Rattle.std.specs.List.{list_all}
use Rattle.cb_plain.specs.Reach.{root_references}
use Rattle.cb_plain.specs.State.{Object, Roots}
use Rattle.cb_heap.specs.Closed.{IsClosed, references_in}
use Rattle.cb_heap.specs.Kept.{is_held}
use Rattle.cb_heap.specs.Reading.{seen}
use Rattle.cb_mapheap.proofs.Laws.{roots_are}

pub closed_empty : (objects : List Object) (roots : Roots) → objects ≡ [] → root_references roots ≡ [] → IsClosed (seen pred (map Some objects) roots)
closed_empty objects roots is none =
    record {
      roots = ap (λ held. list_all (is_held (map Some objects)) (root_references held)) (roots_are roots) ∙ ap (list_all (is_held (map Some objects))) none;
      objects = ap (λ held. list_all (is_held (map Some held)) (references_in (map Some held))) is;
    }
