-- Roots that name no object, and a store without objects, or one whose objects name none that went.
use Rattle.std.proofs.Common.{◌≡◌, ◌∙◌, ap, pred, refl, true, List, [], ◌∷◌, map, Some, IsTrue}
use Rattle.std.specs.List.{AllByRecursion, list_all}
use Rattle.cb_plain.specs.declared.want.Want.{Want}
use Rattle.cb_plain.specs.Reach.{root_references}
use Rattle.cb_plain.specs.State.{Object, Roots}
use Rattle.cb_heap.specs.Closed.{IsClosed, references_in}
use Rattle.cb_heap.specs.Kept.{is_held}
use Rattle.cb_heap.specs.Reading.{seen}
use Rattle.cb_mapheap.proofs.Laws.{roots_are}

pub closed_empty : (objects : List Object) (roots : Roots) → objects ≡ [] → root_references roots ≡ [] → IsClosed (seen pred (map Some objects) roots)
closed_empty objects roots is none =
    record {
      roots = ap (λ held. list_all (is_held (map Some objects)) (root_references held)) (roots_are roots) ∙ ap (list_all (is_held (map Some objects))) none;
      objects = ap (λ held. list_all (is_held (map Some held)) (references_in (map Some held))) is;
    }

pub closed_with : (objects : List Object) (roots : Roots) → IsTrue (list_all (is_held (map Some objects)) (references_in (map Some objects))) → root_references roots ≡ []
    → IsClosed (seen pred (map Some objects) roots)
closed_with objects roots held none =
    record {
      roots = ap (λ held. list_all (is_held (map Some objects)) (root_references held)) (roots_are roots) ∙ ap (list_all (is_held (map Some objects))) none;
      objects = held;
    }

-- every request is for sites that it knows
pub all_known : (wants : List Want) → AllByRecursion (λ want. IsTrue true) wants
all_known [] = tt
all_known (want ∷ wants) = (refl, all_known wants)
