-- What a collection asks of a heap whose objects are all named.
use Rattle.std.proofs.Common.{◌≡◌, ◌∙◌, ℕ, zero, suc, ◌<◌, Bool, true, IsTrue, Some, List, length, get_or, option_map, slice_get, refl, sym, ap, arith, subst, inl, inr, ◌⊎◌}
use Rattle.std.specs.List.{Contains, list_all}
use Rattle.std.proofs.lemmas.List.{length-map}
use Rattle.std.proofs.lemmas.Option.{get_or_from_slice_get, slice_get-get_or, slice_get-map}
use Rattle.cb_plain.specs.Reach.{root_references}
use Rattle.cb_plain.specs.State.{Roots}
use Rattle.cb_dag.specs.Graphs.{HasEdge, has_edge}
use Rattle.cb_dag.specs.Marks.{marked}
use Rattle.cb_frames.specs.Entries.{entries}
use Rattle.cb_frames.proofs.Laws.{entries_are_roots}
use Rattle.cb_heap.specs.Closed.{IsClosed, references_in}
use Rattle.cb_heap.specs.Kept.{is_held}
use Rattle.cb_heap.specs.Reading.{read_roots, seen, serial_of}
use Rattle.cb_heap.proofs.Laws.{all_among, entries_read}
use Rattle.cb_partheap.specs.Heaps.{Heap, index_in, objects_in}
use Rattle.cb_partheap.specs.Marks.{IsClosedSet, IsRemarked, IsUnmarked, MarksReached}
use Rattle.cb_collection_cases.specs.Collected.{AreNamed, MayCollect}
use Rattle.cb_partheap_tests.specs.Tried.{AllKept, IsKept}

kept_held : (heap : Heap) (at : ℕ) → IsKept heap at → IsTrue (is_held (objects_in heap) (serial_of (index_in heap) at))
kept_held heap zero kept = refl
kept_held heap (suc n) kept = kept

named_held : (heap : Heap) (places : List ℕ) (at serial : ℕ) → AllKept heap places → serial_of (index_in heap) at ≡ serial → 0 < serial → (at ≡ 0) ⊎ Contains places at → IsTrue (is_held (objects_in heap) serial)
named_held heap places at serial all read some named =
    elim named [
      | inl none ↦ absurd (omega (arith, some, sym read ∙ ap (serial_of (index_in heap)) none))
      | inr there ↦ subst (λ s. IsTrue (is_held (objects_in heap) s)) read (kept_held heap at (subst (IsKept heap) there.2 (all.each there.0 at there.1)))
    ]

roots_held : (heap : Heap) (roots : Roots) (places : List ℕ) → AllKept heap places → AreNamed roots places → IsTrue (list_all (is_held (objects_in heap)) (root_references (read_roots (index_in heap) roots)))
roots_held heap roots places all named =
    let view : Roots = read_roots (index_in heap) roots in
    all_among (is_held (objects_in heap)) (root_references view) (λ serial root.
    let entry = (entries_are_roots view serial).0 root in
    let i : ℕ = entry.1.0 in
    let long : length (entries view) ≡ length (entries roots) = ap length (entries_read (index_in heap) roots) ∙ length-map (entries roots) (serial_of (index_in heap)) in
    let below : i < length (entries roots) = omega (arith, entry.1.1, long) in
    let at : ℕ = get_or (entries roots) i 0 in
    let is : slice_get (entries roots) i ≡ Some at = slice_get-get_or (entries roots) i 0 below in
    let there : slice_get (entries view) i ≡ Some (serial_of (index_in heap) at) = ap (λ xs. slice_get xs i) (entries_read (index_in heap) roots) ∙ slice_get-map (serial_of (index_in heap)) (entries roots) i ∙ ap (option_map (serial_of (index_in heap))) is in
    let read : serial_of (index_in heap) at ≡ serial = sym (get_or_from_slice_get (entries view) i (serial_of (index_in heap) at) serial there) ∙ entry.1.2 in
    named_held heap places at serial all read entry.0 (named i at is))

pub view_closed : (heap : Heap) (roots : Roots) (places : List ℕ) → AllKept heap places → AreNamed roots places → IsTrue (list_all (is_held (objects_in heap)) (references_in (objects_in heap))) →
    IsClosed (seen (index_in heap) (objects_in heap) roots)
view_closed heap roots places all named objects = record { roots = roots_held heap roots places all named; objects = objects }

-- after marking
pub set_again : (set : List Bool) (old new : Heap) → IsRemarked set old new → IsClosedSet old set → IsClosedSet new set
set_again set old new r closed =
    record {
      parts = closed.parts ∙ sym r.memory.count;
      closed = λ part other edge. closed.closed part other (ap (λ (h : Heap). has_edge h.edges part other) (sym r.rest) ∙ edge);
    }

same_view : (old new : Heap) (roots : Roots) → objects_in new ≡ objects_in old → index_in new ≡ index_in old → seen (index_in old) (objects_in old) roots ≡ seen (index_in new) (objects_in new) roots
same_view old new roots kept places = ap (λ index. seen index (objects_in old) roots) (sym places) ∙ ap (λ objects. seen (index_in new) objects roots) (sym kept)

pub view_again : (old new : Heap) (roots : Roots) → objects_in new ≡ objects_in old → index_in new ≡ index_in old → IsClosed (seen (index_in old) (objects_in old) roots) → IsClosed (seen (index_in new) (objects_in new) roots)
view_again old new roots kept places closed = subst IsClosed (same_view old new roots kept places) closed

pub marks_again : (set : List Bool) (old new : Heap) (roots : Roots) → objects_in new ≡ objects_in old → index_in new ≡ index_in old → MarksReached set (seen (index_in old) (objects_in old) roots) new →
    MarksReached set (seen (index_in new) (objects_in new) roots) new
marks_again set old new roots kept places marks = subst (λ v. MarksReached set v new) (same_view old new roots kept places) marks

pub may : (heap : Heap) (roots : Roots) (set : List Bool) (places : List ℕ) → AllKept heap places → AreNamed roots places → IsTrue (list_all (is_held (objects_in heap)) (references_in (objects_in heap))) →
    length set ≡ length heap.memory.words → ((part other : ℕ) → HasEdge heap.edges part other → marked set other ≡ true → marked set part ≡ true) → IsUnmarked heap → MayCollect heap roots set
may heap roots set places all named objects parts closed unmarked = record { set_is = record { parts = parts; closed = closed }; closed = view_closed heap roots places all named objects; unmarked = unmarked }
