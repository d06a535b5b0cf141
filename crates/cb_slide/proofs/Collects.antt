-- Marking and sliding leave together what a take leaves.
use Rattle.std.proofs.Common.{◌≡◌, ◌∙◌, ℕ, Bool, List, Option, ap, subst}
use Rattle.cb_plain.specs.State.{Object, Roots}
use Rattle.cb_heap.specs.Closed.{Collects}
use Rattle.cb_heap.specs.Kept.{keep}
use Rattle.cb_heap.specs.Reading.{View, read_roots, seen}
use Rattle.cb_heap.specs.Taking.{IsTaken, left_of}
use Rattle.cb_dag.specs.Marks.{marked}
use Rattle.cb_partheap.specs.Heaps.{Heap, index_in, objects_in, part_of}
use Rattle.cb_partheap.specs.MarkLaws.{sites_of}
use Rattle.cb_partheap.specs.Marks.{staying}
use Rattle.cb_slide.specs.Collected.{BothCollect, IsCollected, IsMarkedFor, IsSlidFor, view_of}

view_same : (set : List Bool) (old marked : Heap) (roots : Roots) → IsMarkedFor set old marked → view_of marked roots ≡ view_of old roots
view_same set old marked roots m = ap (λ index. seen index (objects_in marked) roots) m.places ∙ ap (λ objects. seen (index_in old) objects roots) m.kept

pub both_collect : BothCollect
both_collect set old marked new roots roots' m s =
    let same = view_same set old marked roots m in
    let sites : sites_of marked set ≡ sites_of old set = ap (λ (h : Heap). sites_of h set) m.rest.rest in
    let view : View = view_of old roots in
    let made : List (Option Object) → View = λ objects. record { roots = read_roots (index_in marked) roots; objects = objects } in
    record {
      stays = staying set marked;
      taken = subst (λ v. IsTaken (sites_of old set) v (staying set marked)) same (subst (λ taken. IsTaken taken (view_of marked roots) (staying set marked)) sites s.taken);
      collects = subst (λ v. Collects v (view_of new roots')) same s.collects;
      left =
          ap (λ r. let v : View = record { roots = r; objects = objects_in new } in v) s.roots_are
          ∙ ap made s.objects ∙ ap (λ (v : View). left_of v (staying set marked)) same;
    }
