-- What a call that grants room owes.
use Rattle.std.proofs.Common.{◌≡◌, ◌∙◌, ℕ, ◌+◌, ◌^◌, ◌<◌, ◌≤◌, ◌==◌, Bool, true, false, IsTrue, List, [], ◌∷◌, length, refl, sym, ap, arith, subst}
use Rattle.std.specs.List.{AllByRecursion}
use Rattle.std.proofs.lemmas.Bool.{eqb-true, ltb-true, true≢false}
use Rattle.std.proofs.lemmas.List.Sums.{get_or-le-sum_by}
use Rattle.std.proofs.lemmas.Option.{get_or_from_slice_get, slice_get_within}
use Rattle.cb_plain.specs.declared.want.Want.{Want}
use Rattle.cb_plain.specs.Requests.{words_at}
use Rattle.cb_heap.specs.Grants.{IsBounded, words_granted}
use Rattle.cb_heap.specs.Occupancy.{HasRoom, blocks, blocks_of, used, wanted}
use Rattle.cb_blocks.specs.Parted.{taken}
use Rattle.cb_blocks.specs.Rows.{row}
use Rattle.cb_partheap.specs.Heaps.{Heap, index_in, objects_in, part_of, settings_in, with_granted}
use Rattle.cb_partheap.specs.Marks.{IsUnmarked}
use Rattle.cb_partheap.specs.Whole.{IsHeap, blocks_with}
use Rattle.cb_partheap.proofs.Occupied.{used_is}
use Rattle.cb_partheap.proofs.Rooms.{granted_least, range_same}

-- sites for which room is asked are known
known_first : (heap : Heap) (here : Bool) (want : Want) (wants : List Want) (site : ℕ) → (want.site == site) ≡ here → IsTrue ((settings_in heap).knows want.site) → (0 < words_at wants site → site < length heap.site_parts) →
    0 < words_at (want ∷ wants) site → site < length heap.site_parts
known_first heap true want wants site is known behind some = subst (λ s. s < length heap.site_parts) (eqb-true want.site site is) (ltb-true want.site (length heap.site_parts) known)
known_first heap false want wants site is known behind some = behind (rw is at some)

known_of : (heap : Heap) (wants : List Want) (site : ℕ) → AllByRecursion (λ want. IsTrue ((settings_in heap).knows want.site)) wants → 0 < words_at wants site → site < length heap.site_parts
known_of heap [] site all some = absurd (omega (arith, some))
known_of heap (want ∷ wants) site all some = known_first heap (want.site == site) want wants site refl all.0 (known_of heap wants site all.1) some

granted_heap : (heap : Heap) (wants : List Want) → IsHeap heap → blocks_with heap wants ≤ heap.memory.blocks → AllByRecursion (λ want. IsTrue ((settings_in heap).knows want.site)) wants → IsHeap (with_granted heap wants)
granted_heap heap wants is room all =
    record {
      parted = is.parted;
      whole = is.whole;
      placed = λ spot here. let was = is.placed spot here in record { site = was.site; here = was.here; shaped = was.shaped; low = was.low; high = was.high };
      once = is.once;
      refers = is.refers;
      some = is.some;
      sites = is.sites;
      site_within = is.site_within;
      few_parts = is.few_parts;
      grid = is.grid;
      room = room;
      known = λ site. known_of heap wants site all;
      idle = is.idle;
      ready = is.ready;
    }

pub granted_is : {heap now : Heap} (wants granted : List Want) (more free : ℕ) → IsHeap heap → heap ≡ now → AllByRecursion (λ want. IsTrue ((settings_in now).knows want.site)) wants → more + taken heap.memory.words ≡ blocks_with heap wants →
    taken heap.memory.words + free ≡ heap.memory.blocks → more ≤ free → granted ≡ wants → IsHeap (with_granted heap granted)
granted_is {heap} {now} wants granted more free is same all needed has fits left =
    subst (λ g. IsHeap (with_granted heap g)) (sym left)
    (granted_heap heap wants is (omega (arith, needed, has, fits)) (subst (λ (h : Heap). AllByRecursion (λ want. IsTrue ((settings_in h).knows want.site)) wants) (sym same) all))

-- room in blocks, by the objects that are kept
blocks_kept : (heap : Heap) (wants : List Want) → IsHeap heap →
    blocks (length heap.memory.words) (λ part. used (part_of heap.site_parts) (objects_in heap) part + wanted (part_of heap.site_parts) wants part) ≡ blocks_with heap wants
blocks_kept heap wants is =
    range_same (λ part. blocks_of (length (row heap.memory.words part) + wanted (part_of heap.site_parts) wants part)) (λ part. blocks_of (used (part_of heap.site_parts) (objects_in heap) part + wanted (part_of heap.site_parts) wants part)) 0
    (length heap.memory.words) (λ part low high. ap (λ n. blocks_of (n + wanted (part_of heap.site_parts) wants part)) (used_is heap part is (omega (arith, high))))

abbrev pub Fits : Heap → List Want → Type 0
Fits heap wants = HasRoom (length heap.memory.words) (part_of heap.site_parts) (objects_in heap) wants heap.memory.blocks

pub has_room : {heap now : Heap} (wants : List Want) (more free : ℕ) → IsHeap heap → heap ≡ now → more + taken heap.memory.words ≡ blocks_with heap wants → taken heap.memory.words + free ≡ heap.memory.blocks → more ≤ free → Fits now wants
has_room {heap} {now} wants more free is same needed has fits =
    let here : Fits heap wants = omega (arith, needed, has, fits, blocks_kept heap wants is) in
    subst (λ (h : Heap). Fits h wants) same here

pub has_no_room : {heap now : Heap} (wants : List Want) (more free : ℕ) → IsHeap heap → heap ≡ now → more + taken heap.memory.words ≡ blocks_with heap wants → taken heap.memory.words + free ≡ heap.memory.blocks → free < more → Fits now wants → ⊥
has_no_room {heap} {now} wants more free is same needed has past fits =
    let here : Fits heap wants = subst (λ (h : Heap). Fits h wants) (sym same) fits in
    absurd (omega (arith, needed, has, past, here, blocks_kept heap wants is))

-- what is granted is bounded
parts_known : (heap : Heap) (wants : List Want) → IsHeap heap → AllByRecursion (λ want. IsTrue ((settings_in heap).knows want.site)) wants → AllByRecursion (λ want. part_of heap.site_parts want.site < length heap.memory.words) wants
parts_known heap [] is all = all
parts_known heap (want ∷ wants) is all = (is.site_within want.site (ltb-true want.site (length heap.site_parts) all.0), parts_known heap wants is all.1)

pub bounded : {heap now : Heap} (wants : List Want) (more free objects : ℕ) → IsHeap heap → heap ≡ now → AllByRecursion (λ want. IsTrue ((settings_in now).knows want.site)) wants → more + taken heap.memory.words ≡ blocks_with heap wants →
    taken heap.memory.words + free ≡ heap.memory.blocks → more ≤ free → IsBounded true objects wants
bounded {heap} {now} wants more free objects is same all needed has fits =
    let known = parts_known heap wants is (subst (λ (h : Heap). AllByRecursion (λ want. IsTrue ((settings_in h).knows want.site)) wants) (sym same) all) in
    let most = granted_least heap.memory heap.site_parts wants known in
    let words : words_granted wants ≤ 2 ^ 28 = omega (arith, most, needed, has, fits, is.parted.bound) in
    record {
      each = λ want place there. omega (arith, words, get_or-le-sum_by (λ (w : Want). w.words) wants place want (slice_get_within wants place want there), ap (λ (w : Want). w.words) (get_or_from_slice_get wants place want want there));
      words = λ fixed. words;
      serials = λ open_ended. absurd (true≢false open_ended);
    }

-- all else is as it was
pub granted_objects : (heap : Heap) (wants : List Want) → objects_in (with_granted heap wants) ≡ objects_in heap
unfolding objects_in index_in
granted_objects heap wants = refl

pub granted_index : (heap : Heap) (wants : List Want) → index_in (with_granted heap wants) ≡ index_in heap
unfolding index_in
granted_index heap wants = refl

pub same_objects : {heap now : Heap} (granted : List Want) → heap ≡ now → objects_in (with_granted heap granted) ≡ objects_in now
same_objects {heap} {now} granted same = granted_objects heap granted ∙ ap objects_in same

pub same_index : {heap now : Heap} (granted : List Want) → heap ≡ now → index_in (with_granted heap granted) ≡ index_in now
same_index {heap} {now} granted same = granted_index heap granted ∙ ap index_in same

pub granted_unmarked : {heap now : Heap} (granted : List Want) → heap ≡ now → IsUnmarked now → IsUnmarked (with_granted heap granted)
granted_unmarked {heap} {now} granted same none = let before = subst IsUnmarked (sym same) none in record { each = before.each }
