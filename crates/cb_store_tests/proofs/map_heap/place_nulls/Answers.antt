use Rattle.std.proofs.Common.{◌∙◌, ◌++◌, ◌∷◌, [], IsTrue, Some, ap₂, map, refl, subst, sym}
use Rattle.std.specs.List.{list_all}
use Rattle.cb_heap.specs.Closed.{references_in}
use Rattle.cb_heap.specs.Kept.{is_held}
use Rattle.cb_heap.specs.Shaped.{new_object}
use Rattle.cb_store_tests.proofs.map_heap.place_nulls.Goals as goal

pub returns : goal.returns
returns c =
    let all = c.place.ensures.kept ∙ ap₂ (λ objects shapes. map Some objects ++ Some (new_object shapes 7 1 6) ∷ []) c.requires.objects c.requires.shapes in
    subst (λ all. IsTrue (list_all (is_held all) (references_in all))) (sym all) refl
