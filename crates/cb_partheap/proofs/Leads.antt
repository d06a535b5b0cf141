-- Where references of roots and of reached objects lead.
use Rattle.std.proofs.Common.{◌≡◌, ◌∙◌, ℕ, zero, suc, ◌+◌, ◌<◌, Bool, true, IsTrue, Some, List, option_map, get_or, slice_get, refl, sym, ap, arith, subst, inl, inr, ◌⊎◌}
use Rattle.std.specs.List.{Contains, list_all}
use Rattle.std.proofs.lemmas.List.FromFn.{get_or-map-range_with_len}
use Rattle.std.proofs.lemmas.List.Sums.{AllPass-from_list_all}
use Rattle.std.proofs.lemmas.Option.{get_or_from_slice_get, slice_get-map, slice_get_within}
use Rattle.cb_plain.specs.Reach.{AtRoot, Behind, IsReached, Points, root_references}
use Rattle.cb_plain.specs.State.{Content, Reference, Roots}
use Rattle.cb_frames.specs.Entries.{entries}
use Rattle.cb_frames.proofs.Laws.{entries_are_roots}
use Rattle.cb_heap.specs.Closed.{IsClosed}
use Rattle.cb_heap.specs.Kept.{is_held}
use Rattle.cb_heap.specs.Reading.{View, seen, serial_of}
use Rattle.cb_heap.proofs.Laws.{entries_read, held_kept}
use Rattle.cb_partheap.specs.Heaps.{Heap, content_of, index_in, marks_at, object_by, objects_in}
use Rattle.cb_partheap.specs.Spots.{IsSpot, Spot, place_of, serial_by, words_by}
use Rattle.cb_partheap.specs.Words.{size_at}
use Rattle.cb_partheap.specs.Whole.{IsHeap}
use Rattle.cb_partheap.proofs.Calls.{content_by, object_length}
use Rattle.cb_partheap.proofs.Reading.{found, object_found, serial_found, serial_there}

-- what a heap and roots are seen as, and an object that is reached there
abbrev pub view_in : Heap → Roots → View
view_in heap roots = seen (index_in heap) (objects_in heap) roots

abbrev pub IsReachedIn : Heap → Roots → Spot → Type 0
IsReachedIn heap roots spot = IsReached (view_in heap roots).roots (view_in heap roots).objects (serial_by heap.memory spot)

-- the object at a place is reached
pub record Leads (heap : Heap) (roots : Roots) (at : ℕ) (spot : Spot) : Type 0 where
  pub here : IsSpot heap.memory spot
  pub place : place_of heap.memory spot ≡ at
  pub reached : IsReachedIn heap roots spot

abbrev pub MayLead : Heap → Roots → ℕ → Type 0
MayLead heap roots at = (at ≡ 0) ⊎ ((spot : Spot) × Leads heap roots at spot)

-- an entry of the roots, as it is read
pub entry_read : (heap : Heap) (roots : Roots) (i to : ℕ) → slice_get (entries roots) i ≡ Some to → slice_get (entries (view_in heap roots).roots) i ≡ Some (serial_of (index_in heap) to)
entry_read heap roots i to is =
    ap (λ xs. slice_get xs i) (entries_read (index_in heap) roots) ∙ slice_get-map (serial_of (index_in heap)) (entries roots) i ∙ ap (option_map (serial_of (index_in heap))) is

among : (test : ℕ → Bool) (items : List ℕ) (item : ℕ) → IsTrue (list_all test items) → Contains items item → IsTrue (test item)
among test items item all there = subst (λ each. IsTrue (test each)) there.2 (AllPass-from_list_all test items all there.0 item there.1)

root_found : (heap : Heap) (roots : Roots) (i to : ℕ) → IsHeap heap → IsClosed (view_in heap roots) → 0 < to → slice_get (entries roots) i ≡ Some to → (spot : Spot) × Leads heap roots to spot
root_found heap roots i to is closed some there =
    let serial : ℕ = serial_of (index_in heap) to in
    let positive : 0 < serial = omega (arith, serial_there (index_in heap) to some) in
    let read = entry_read heap roots i to there in
    let entry : Contains (entries (view_in heap roots).roots) serial = (i, slice_get_within (entries (view_in heap roots).roots) i serial read, get_or_from_slice_get (entries (view_in heap roots).roots) i serial serial read) in
    let root : Contains (root_references (view_in heap roots).roots) serial = (entries_are_roots (view_in heap roots).roots serial).1 (positive, entry) in
    let kept = held_kept (objects_in heap) serial positive (among (is_held (objects_in heap)) (root_references (view_in heap roots).roots) serial closed.roots root) in
    let at = found heap to is kept in
    (at.spot, record { here = at.is; place = at.place; reached = AtRoot (serial_by heap.memory at.spot) (subst (Contains (root_references (view_in heap roots).roots)) at.serial root) })

pub root_leads : (heap : Heap) (roots : Roots) (i to : ℕ) → IsHeap heap → IsClosed (view_in heap roots) → slice_get (entries roots) i ≡ Some to → MayLead heap roots to
root_leads heap roots i zero is closed there = inl refl
root_leads heap roots i (suc n) is closed there = inr (root_found heap roots i (suc n) is closed (omega arith) there)

-- a word of an object that holds a reference
pub content_there : (heap : Heap) (spot : Spot) (i : ℕ) → i < size_at (words_by heap.memory spot) spot.start → (d : Content) → get_or (object_by heap spot).contents i d ≡ content_by heap spot i
content_there heap spot i below d = get_or-map-range_with_len (content_by heap spot) 0 (size_at (words_by heap.memory spot) spot.start) i i d below (omega arith)

pub child_leads : (heap : Heap) (roots : Roots) (spot : Spot) (i word : ℕ) → IsHeap heap → IsSpot heap.memory spot → IsReachedIn heap roots spot → i < size_at (words_by heap.memory spot) spot.start →
    marks_at heap.shapes (words_by heap.memory spot) spot.start i ≡ true → get_or (words_by heap.memory spot) (spot.start + (3 + i)) 0 ≡ word → MayLead heap roots word
child_leads heap roots spot i word is here reached below holds word_is =
    elim (is.refers spot i here below holds) [
      | inl none ↦ inl (sym word_is ∙ none)
      | inr to ↦
          let serial : serial_of (index_in heap) word ≡ serial_by heap.memory to.0 = ap (serial_of (index_in heap)) (sym word_is ∙ sym to.2) ∙ serial_found heap to.0 is to.1 in
          let content : content_by heap spot i ≡ Reference (serial_by heap.memory to.0) =
          ap (λ mark. content_of (index_in heap) mark (get_or (words_by heap.memory spot) (spot.start + (3 + i)) 0)) holds ∙ ap (λ w. Reference (serial_of (index_in heap) w)) word_is ∙ ap Reference serial in
          let points : Points (objects_in heap) (serial_by heap.memory spot) (serial_by heap.memory to.0) = record {
            object = object_by heap spot;
            there = object_found heap spot is here;
            holds = (i, omega (arith, below, object_length heap spot), content_there heap spot i below (Reference (serial_by heap.memory to.0)) ∙ content);
            is_some = (is.placed to.0 to.1).low;
          } in
          inr (to.0, record { here = to.1; place = to.2 ∙ word_is; reached = Behind (serial_by heap.memory spot) (serial_by heap.memory to.0) reached points })
    ]
