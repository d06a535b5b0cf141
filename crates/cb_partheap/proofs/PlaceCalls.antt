-- What a call that places an object owes.
use Rattle.std.proofs.Common.{◌≡◌, ◌∙◌, ℕ, ◌+◌, ◌^◌, ◌<◌, ◌≤◌, IsTrue, Some, List, [], ◌∷◌, ◌++◌, length, slice_get, sym, ap, arith, subst}
use Rattle.std.proofs.lemmas.Option.{get_or_from_slice_get}
use Rattle.cb_plain.specs.declared.want.Want.{Want}
use Rattle.cb_plain.specs.Requests.{spent, words_at}
use Rattle.cb_plain.specs.State.{words_of}
use Rattle.cb_heap.specs.Reading.{serial_of}
use Rattle.cb_heap.specs.Shaped.{has_size, new_object}
use Rattle.cb_heap.specs.Store.{ReadsAsBefore}
use Rattle.cb_blocks.specs.Parted.{IsTooMuch, Parted}
use Rattle.cb_partheap.specs.Added.{IsAdded}
use Rattle.cb_partheap.specs.Heaps.{Heap, index_in, objects_in, part_of, with_object}
use Rattle.cb_partheap.specs.Spots.{place_of}
use Rattle.cb_partheap.specs.Marks.{IsUnmarked}
use Rattle.cb_partheap.specs.Whole.{IsHeap}
use Rattle.cb_partheap.specs.Words.{blank_words}
use Rattle.cb_partheap.proofs.Adds.{spot_at_end}
use Rattle.cb_partheap.proofs.Placed.{IsNew}
use Rattle.cb_partheap.proofs.PlacedHeap.{new_heap}
use Rattle.cb_partheap.proofs.PlacedObjects.{objects_new, place_new, places_stay}
use Rattle.cb_partheap.proofs.Reading.{length_objects}
use Rattle.cb_partheap.proofs.Rooms.{not_too_much}
use Rattle.cb_partheap.proofs.Unmarked.{placed}

-- a site for whose objects there is room is known, and there is
known_site : {heap now : Heap} (site size : ℕ) → IsHeap heap → heap ≡ now → words_of size ≤ words_at now.granted site → site < length heap.site_parts
known_site {heap} {now} site size is same fits =
    is.known site (omega (arith, subst (λ (h : Heap). words_of size ≤ words_at h.granted site) (sym same) fits))

pub room_left : {heap now : Heap} (site size part : ℕ) → IsHeap heap → heap ≡ now → words_of size ≤ words_at now.granted site → slice_get heap.site_parts site ≡ Some part → IsTooMuch heap.memory part (words_of size) → ⊥
room_left {heap} {now} site size part is same fits here much =
    not_too_much heap site (words_of size) is (known_site site size is same fits) (subst (λ (h : Heap). words_of size ≤ words_at h.granted site) (sym same) fits)
    (subst (λ p. IsTooMuch heap.memory p (words_of size)) (sym (get_or_from_slice_get heap.site_parts site part 0 here)) much)

pub next_fits : {heap now : Heap} → IsHeap heap → heap ≡ now → length (objects_in now) + 1 < 2 ^ 63 → heap.next < 2 ^ 63
next_fits {heap} {now} is same few = omega (arith, is.some, length_objects heap, subst (λ (h : Heap). length (objects_in h) + 1 < 2 ^ 63) (sym same) few)

-- what is left
abbrev pub after : Heap → Parted → List Want → Heap
after heap memory granted =
    record { memory = memory; shapes = heap.shapes; site_parts = heap.site_parts; edges = heap.edges; next = heap.next + 1; granted = granted; grey = heap.grey }

pub record Placing (heap now : Heap) (memory : Parted) (granted : List Want) (at site kind size : ℕ) : Type 0 where
  pub heap_is : IsHeap (after heap memory granted)
  pub objects : objects_in (after heap memory granted) ≡ objects_in now ++ Some (new_object now.shapes site kind size) ∷ []
  pub serial : serial_of (index_in (after heap memory granted)) at ≡ length (objects_in now) + 1
  pub places : ReadsAsBefore (objects_in now) (index_in now) (index_in (after heap memory granted))
  pub words : IsAdded now.memory memory (part_of now.site_parts site) (blank_words kind size now.next site)
  pub rest : after heap memory granted ≡ with_object now memory site size
  pub unmarked : IsUnmarked now → IsUnmarked (after heap memory granted)

placing_new : (heap : Heap) (memory : Parted) (granted : List Want) (at site kind size : ℕ) → IsNew heap memory site kind size → granted ≡ spent heap.granted site (words_of size) → at ≡ place_of memory (spot_at_end heap.memory (part_of heap.site_parts site)) →
    Placing heap heap memory granted at site kind size
placing_new heap memory granted at site kind size n left place =
    let same : with_object heap memory site size ≡ after heap memory granted = ap (after heap memory) (sym left) in
    record {
      heap_is = subst IsHeap same (new_heap heap memory site kind size n);
      objects = ap objects_in (sym same) ∙ objects_new heap memory site kind size n;
      serial = ap (λ h. serial_of (index_in h) at) (sym same) ∙ ap (serial_of (index_in (with_object heap memory site size))) place ∙ place_new heap memory site kind size n;
      places = subst (λ h. ReadsAsBefore (objects_in heap) (index_in heap) (index_in h)) same (places_stay heap memory site kind size n);
      words = n.added;
      rest = sym same;
      unmarked = λ none. subst IsUnmarked same (placed heap memory site kind size n.is none n.fits n.narrow n.added);
    }

pub placing : {heap now : Heap} (site kind size part at : ℕ) (memory : Parted) (granted : List Want) → IsHeap heap → heap ≡ now → words_of size ≤ words_at now.granted site → IsTrue (has_size now.shapes kind size) → kind < 2 ^ 32 →
    slice_get heap.site_parts site ≡ Some part → IsAdded heap.memory memory part (blank_words kind size heap.next site) → at ≡ place_of memory (spot_at_end heap.memory part) → granted ≡ spent heap.granted site (words_of size) →
    Placing heap now memory granted at site kind size
placing {heap} {now} site kind size part at memory granted is same fits shaped narrow here added place left =
    let part_is : part ≡ part_of heap.site_parts site = sym (get_or_from_slice_get heap.site_parts site part 0 here) in
    let n : IsNew heap memory site kind size = record {
      is = is;
      known = known_site site size is same fits;
      shaped = subst (λ (h : Heap). IsTrue (has_size h.shapes kind size)) (sym same) shaped;
      narrow = narrow;
      fits = subst (λ (h : Heap). words_of size ≤ words_at h.granted site) (sym same) fits;
      added = subst (λ p. IsAdded heap.memory memory p (blank_words kind size heap.next site)) part_is added;
    } in
    subst (λ (h : Heap). Placing heap h memory granted at site kind size) same
    (placing_new heap memory granted at site kind size n left (place ∙ ap (λ p. place_of memory (spot_at_end heap.memory p)) part_is))
