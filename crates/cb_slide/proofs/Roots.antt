-- Roots are read as before, and how many steps are counted.
use Rattle.std.proofs.Common.{◌≡◌, ◌∙◌, ℕ, zero, suc, ◌+◌, ◌≤◌, Some, List, [], ◌∷◌, cond, length, map, slice_get, refl, ap, arith, inl, inr}
use Rattle.std.specs.List.{range_with_len, sum_by}
use Rattle.std.proofs.lemmas.List.Sums.{sum_by-cons}
use Rattle.cb_plain.specs.State.{Roots}
use Rattle.cb_frames.specs.Entries.{entries, without_references}
use Rattle.cb_heap.specs.Occupancy.{used}
use Rattle.cb_heap.specs.Reading.{read_roots, serial_of}
use Rattle.cb_heap.proofs.Laws.{entries_alike}
use Rattle.cb_dag.specs.Marks.{marked}
use Rattle.cb_blocks.specs.Parted.{Parted}
use Rattle.cb_blocks.specs.Rows.{row}
use Rattle.cb_partheap.specs.Heaps.{index_in, objects_in, part_of, with_memory}
use Rattle.cb_partheap.specs.MarkLaws.{words_in_set}
use Rattle.cb_partheap.proofs.Laws.{used_is}
use Rattle.cb_slide.specs.Slid.{place_after}
use Rattle.cb_slide.specs.Sliding.{Given, IsGiven, IsSlid, words_before}
use Rattle.cb_slide.proofs.Carried.{after_null, leads_after, root_follows}
use Rattle.cb_slide.proofs.NewHeap.{read_after}

map_twice : (f g h : ℕ → ℕ) (xs : List ℕ) → ((i x : ℕ) → slice_get xs i ≡ Some x → f (g x) ≡ h x) → map f (map g xs) ≡ map h xs
map_twice f g h [] each = refl
map_twice f g h (x ∷ xs) each = ap (λ rest. f (g x) ∷ rest) (map_twice f g h xs (λ i y is. each (suc i) y is)) ∙ ap (λ y. y ∷ map h xs) (each 0 x refl)

-- an entry of the roots is read as before
root_after : (given : Given) (new : Parted) → IsGiven given → IsSlid given new → (i at : ℕ) → slice_get (entries given.roots) i ≡ Some at →
    serial_of (index_in (with_memory given.heap new)) (place_after given.set given.heap.memory at) ≡ serial_of (index_in given.heap) at
root_after given new g s i at is =
    read_after given new g s at (place_after given.set given.heap.memory at) (elim (root_follows given i at g is) [
      | inl none ↦ inl (none, ap (place_after given.set given.heap.memory) none ∙ after_null given)
      | inr found ↦ inr (found.0, leads_after given new g s at found.0 found.1)
    ])

pub roots_after : (given : Given) (new : Parted) (roots : Roots) → IsGiven given → IsSlid given new → without_references roots ≡ without_references given.roots → entries roots ≡ map (place_after given.set given.heap.memory) (entries given.roots) →
    read_roots (index_in (with_memory given.heap new)) roots ≡ read_roots (index_in given.heap) given.roots
roots_after given new roots g s same are =
    entries_alike (index_in given.heap) (index_in (with_memory given.heap new)) given.roots roots same
    (ap (map (serial_of (index_in (with_memory given.heap new)))) are
    ∙ map_twice (serial_of (index_in (with_memory given.heap new))) (place_after given.set given.heap.memory) (serial_of (index_in given.heap)) (entries given.roots) (root_after given new g s))

-- ---- the words of a set

range_last : (f : ℕ → ℕ) (a n : ℕ) → sum_by f (range_with_len a (suc n)) ≡ sum_by f (range_with_len a n) + f (a + n)
range_last f a zero = let here : f (a + 0) ≡ f a = ap f (let e : a + 0 ≡ a = omega arith in e) in omega (arith, sum_by-cons f a (range_with_len (a + 1) 0), here)
range_last f a (suc n) =
    let here : f (a + 1 + n) ≡ f (a + suc n) = ap f (let e : a + 1 + n ≡ a + suc n = omega arith in e) in
    omega (arith, sum_by-cons f a (range_with_len (a + 1) (suc n)), sum_by-cons f a (range_with_len (a + 1) n), range_last f (a + 1) n, here)

abbrev used_if : Given → ℕ → ℕ
used_if given part = cond (marked given.set part) (used (part_of given.heap.site_parts) (objects_in given.heap) part) 0

words_to : (given : Given) (n : ℕ) → IsGiven given → n ≤ length given.heap.memory.words → words_before given n ≡ sum_by (used_if given) (range_with_len 0 n)
words_to given zero g within = refl
words_to given (suc n) g within =
    let here : used_if given (0 + n) ≡ cond (marked given.set n) (length (row given.heap.memory.words n)) 0 =
    ap (used_if given) (let e : 0 + n ≡ n = omega arith in e) ∙ ap (λ k. cond (marked given.set n) k 0) (used_is given.heap n g.heap (omega (arith, within))) in
    omega (arith, range_last (used_if given) 0 n, words_to given n g (omega (arith, within)), here)

pub words_all : (given : Given) (count : ℕ) → IsGiven given → count ≡ length given.heap.memory.words → words_before given count ≡ words_in_set given.heap given.set (objects_in given.heap)
words_all given count g all = words_to given count g (omega (arith, all)) ∙ ap (λ n. sum_by (used_if given) (range_with_len 0 n)) all
