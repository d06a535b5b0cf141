-- Heaps with other words, in which each object stands where it stood with the header that it had, but for its mark.
use Rattle.std.proofs.Common.{◌≡◌, ◌∙◌, ℕ, ◌+◌, ◌-◌, ◌*◌, ◌/◌, ◌%◌, ◌^◌, ◌<◌, ◌≤◌, ◌==◌, Bool, true, IsTrue, Option, Some, None, option_map, List, length, get_or, slice_get, take, refl, sym, ap, arith, subst, inl, inr}
use mathlib.Core.Path.{fun_ext}
use Rattle.std.proofs.lemmas.List.{take_all}
use Rattle.cb_heap.specs.Occupancy.{blocks, wanted}
use Rattle.cb_heap.specs.Shaped.{has_size}
use Rattle.cb_plain.specs.State.{Content, Object}
use Rattle.cb_blocks.specs.Parted.{IsParted, Parted, blocks_for}
use Rattle.cb_blocks.specs.Rows.{place_in, row, tabulated}
use Rattle.cb_partheap.specs.Heaps.{Heap, content_of, holds, index_in, marks_at, object_by, objects_in, part_of, with_memory}
use Rattle.cb_partheap.specs.Spots.{IsSpot, Spot, place_of, serial_by, spot_where, words_by}
use Rattle.cb_partheap.specs.Whole.{IsHeap, IsPlaced, MayHold}
use Rattle.cb_partheap.specs.Words.{kind_at, missing, site_at, size_at}
use Rattle.cb_partheap.proofs.Agree.{same_tabulated, spot_agree, with_contents}
use Rattle.cb_partheap.proofs.Calls.{content_by, object_is}
use Rattle.cb_partheap.proofs.Found.{spot_sound}

-- parts with as many words in the same blocks
pub parted_alike : (parts new : Parted) → IsParted parts → new.blocks ≡ parts.blocks → new.rows ≡ parts.rows → length new.words ≡ length parts.words → ((part : ℕ) → length (row new.words part) ≡ length (row parts.words part)) → IsParted new
parted_alike parts new is blocks rows count long =
    let made : ℕ → List (List ℕ) → Parted = λ n r. record { blocks = n; rows = r; words = new.words } in
    let good : IsParted (made parts.blocks parts.rows) =
    record {
      apart = is.apart;
      within = is.within;
      same = is.same ∙ sym count;
      exact = λ part below. is.exact part (omega (arith, below, count)) ∙ ap blocks_for (sym (long part));
      bound = is.bound;
    } in
    subst (λ n. IsParted (made n new.rows)) (sym blocks) (subst (λ r. IsParted (made parts.blocks r)) (sym rows) good)

-- the header of an object is as it was but for the mark
pub record SameFields (old new : List ℕ) (start : ℕ) : Type 0 where
  pub first : get_or new start 0 ≡ get_or old start 0
  pub second : get_or new (start + 1) 0 ≡ get_or old (start + 1) 0
  pub site : site_at new start ≡ site_at old start

pub record IsAlike (old new : Parted) : Type 0 where
  pub blocks : new.blocks ≡ old.blocks
  pub rows : new.rows ≡ old.rows
  pub count : length new.words ≡ length old.words
  pub long : (part : ℕ) → length (row new.words part) ≡ length (row old.words part)
  pub gaps : (part n : ℕ) → missing 0 (take n (row new.words part)) ≡ missing 0 (take n (row old.words part))
  pub header : (spot : Spot) → IsSpot old spot → SameFields (words_by old spot) (words_by new spot) spot.start

-- and what it contains
abbrev pub HasContents : (old new : Parted) → Type 0
HasContents old new =
    (spot : Spot) → (i : ℕ) → IsSpot old spot → i < size_at (words_by old spot) spot.start → get_or (words_by new spot) (spot.start + (3 + i)) 0 ≡ get_or (words_by old spot) (spot.start + (3 + i)) 0

-- references lead where they may
abbrev pub StillRefers : Heap → Parted → Type 0
StillRefers heap memory =
    (spot : Spot) → (i : ℕ) → IsSpot heap.memory spot → i < size_at (words_by heap.memory spot) spot.start → marks_at heap.shapes (words_by heap.memory spot) spot.start i ≡ true →
    MayHold heap spot.part (get_or (words_by memory spot) (spot.start + (3 + i)) 0)

pub alike_spot : (old new : Parted) (spot : Spot) → IsAlike old new → IsSpot old spot → IsSpot new spot
alike_spot old new spot a here =
    record { part = omega (arith, here.part, a.count); inside = omega (arith, here.inside, a.long spot.part); whole = a.gaps spot.part spot.start ∙ here.whole }

pub spot_alike : (old new : Parted) (spot : Spot) → IsAlike old new → IsSpot new spot → IsSpot old spot
spot_alike old new spot a here =
    record { part = omega (arith, here.part, a.count); inside = omega (arith, here.inside, a.long spot.part); whole = sym (a.gaps spot.part spot.start) ∙ here.whole }

pub alike_place : (old new : Parted) (spot : Spot) → IsAlike old new → place_of new spot ≡ place_of old spot
alike_place old new spot a = ap (λ rows. spot.part * 2 ^ 29 + place_in 256 (row rows spot.part) spot.start + 1) a.rows

pub alike_found : (old new : Parted) (test test' : Spot → Bool) → IsAlike old new → ((spot : Spot) → IsSpot old spot → test spot ≡ test' spot) → spot_where old test ≡ spot_where new test'
alike_found old new test test' a same = spot_agree old new test test' a.count a.long a.gaps same

alike_placed : (heap : Heap) (memory : Parted) (spot : Spot) → IsHeap heap → IsAlike heap.memory memory → IsSpot heap.memory spot → IsPlaced (with_memory heap memory) spot
alike_placed heap memory spot is a here =
    let same = a.header spot here in
    let was = is.placed spot here in
    record {
      site = subst (λ s. s < length heap.site_parts) (sym same.site) was.site;
      here = ap (part_of heap.site_parts) same.site ∙ was.here;
      shaped = subst (λ w. IsTrue (has_size heap.shapes (w % 2 ^ 32) (w / 2 ^ 32))) (sym same.first) was.shaped;
      low = subst (λ w. 0 < w) (sym same.second) was.low;
      high = subst (λ w. w < heap.next) (sym same.second) was.high;
    }

alike_may : (heap : Heap) (memory : Parted) (part to : ℕ) → IsAlike heap.memory memory → MayHold heap part to → MayHold (with_memory heap memory) part to
alike_may heap memory part to a may =
    elim may [
      | inl none ↦ inl none
      | inr some ↦ inr (some.0, alike_spot heap.memory memory some.0 a some.1, alike_place heap.memory memory some.0 a ∙ some.2, some.3)
    ]

pub alike_mark : (heap : Heap) (memory : Parted) (spot : Spot) (i : ℕ) → IsAlike heap.memory memory → IsSpot heap.memory spot →
    marks_at heap.shapes (words_by memory spot) spot.start i ≡ marks_at heap.shapes (words_by heap.memory spot) spot.start i
alike_mark heap memory spot i a here = ap (λ w. holds (slice_get heap.shapes (w % 2 ^ 32)) i) (a.header spot here).first

alike_refers : (heap : Heap) (memory : Parted) (spot : Spot) (i : ℕ) → IsAlike heap.memory memory → StillRefers heap memory → IsSpot heap.memory spot → i < size_at (words_by memory spot) spot.start →
    marks_at heap.shapes (words_by memory spot) spot.start i ≡ true → MayHold (with_memory heap memory) spot.part (get_or (words_by memory spot) (spot.start + (3 + i)) 0)
alike_refers heap memory spot i a refers here below marked =
    let small : i < size_at (words_by heap.memory spot) spot.start = subst (λ w. i < w / 2 ^ 32) (a.header spot here).first below in
    alike_may heap memory spot.part _ a (refers spot i here small (sym (alike_mark heap memory spot i a here) ∙ marked))

pub still_refers : (heap : Heap) (memory : Parted) → IsHeap heap → HasContents heap.memory memory → StillRefers heap memory
still_refers heap memory is same spot i here below marked = subst (MayHold heap spot.part) (sym (same spot i here below)) (is.refers spot i here below marked)

pub alike_heap : (heap : Heap) (memory : Parted) → IsHeap heap → IsAlike heap.memory memory → StillRefers heap memory → IsHeap (with_memory heap memory)
alike_heap heap memory is a still =
    record {
      parted = parted_alike heap.memory memory is.parted a.blocks a.rows a.count a.long;
      whole = λ part below.
          ap (missing 0) (sym (take_all (length (row memory.words part)) (row memory.words part) (omega arith))) ∙ a.gaps part (length (row memory.words part))
          ∙ ap (missing 0) (take_all (length (row memory.words part)) (row heap.memory.words part) (omega (arith, a.long part))) ∙ is.whole part (omega (arith, below, a.count));
      placed = λ spot there. alike_placed heap memory spot is a (spot_alike heap.memory memory spot a there);
      once = λ one other here there same.
          let here' = spot_alike heap.memory memory one a here in
          let there' = spot_alike heap.memory memory other a there in
          is.once one other here' there' (sym (a.header one here').second ∙ same ∙ (a.header other there').second);
      refers = λ spot i there below marked. alike_refers heap memory spot i a still (spot_alike heap.memory memory spot a there) below marked;
      some = is.some;
      sites = is.sites;
      site_within = λ site below. omega (arith, is.site_within site below, a.count);
      few_parts = omega (arith, is.few_parts, a.count);
      grid = is.grid ∙ sym a.count;
      room = subst (λ n. n ≤ memory.blocks) (ap (λ n. blocks n (λ part. length (row heap.memory.words part) + wanted (part_of heap.site_parts) heap.granted part)) (sym a.count)
          ∙ ap (blocks (length memory.words)) (fun_ext (λ part. ap (λ n. n + wanted (part_of heap.site_parts) heap.granted part) (sym (a.long part)))))
          (subst (λ n. blocks (length heap.memory.words) (λ part. length (row heap.memory.words part) + wanted (part_of heap.site_parts) heap.granted part) ≤ n) (sym a.blocks) is.room);
      known = is.known;
      idle = is.idle;
      ready = subst (λ n. n * 256 / 3 ≤ heap.grey.room) (sym a.blocks) is.ready;
    }

-- places and objects are read as they were
index_if : (heap : Heap) (memory : Parted) (place : ℕ) (found : Option Spot) → IsAlike heap.memory memory → spot_where heap.memory (λ other. place_of heap.memory other == place) ≡ found → index_in (with_memory heap memory) place ≡ index_in heap place
unfolding index_in
index_if heap memory place None a is =
    let there = sym (alike_found heap.memory memory (λ other. place_of heap.memory other == place) (λ other. place_of memory other == place) a (λ other here. ap (λ p. p == place) (sym (alike_place heap.memory memory other a)))) ∙ is in
    rw (is, there) refl
index_if heap memory place (Some other) a is =
    let there = sym (alike_found heap.memory memory (λ other. place_of heap.memory other == place) (λ other. place_of memory other == place) a (λ other here. ap (λ p. p == place) (sym (alike_place heap.memory memory other a)))) ∙ is in
    let sound = spot_sound heap.memory (λ other. place_of heap.memory other == place) other is in
    rw (is, there) (ap (λ n. n - 1) (a.header other sound.0).second)

pub alike_index : (heap : Heap) (memory : Parted) → IsAlike heap.memory memory → index_in (with_memory heap memory) ≡ index_in heap
alike_index heap memory a = fun_ext (λ place. index_if heap memory place (spot_where heap.memory (λ other. place_of heap.memory other == place)) a refl)

-- a word of contents is read as another word would be that stands there
pub alike_content : (heap : Heap) (memory : Parted) (spot : Spot) (i word : ℕ) → IsAlike heap.memory memory → IsSpot heap.memory spot → get_or (words_by memory spot) (spot.start + (3 + i)) 0 ≡ word →
    content_by (with_memory heap memory) spot i ≡ content_of (index_in heap) (marks_at heap.shapes (words_by heap.memory spot) spot.start i) word
alike_content heap memory spot i word a here is =
    ap (λ index. content_of index (marks_at heap.shapes (words_by memory spot) spot.start i) (get_or (words_by memory spot) (spot.start + (3 + i)) 0)) (alike_index heap memory a)
    ∙ ap (λ mark. content_of (index_in heap) mark (get_or (words_by memory spot) (spot.start + (3 + i)) 0)) (alike_mark heap memory spot i a here)
    ∙ ap (content_of (index_in heap) (marks_at heap.shapes (words_by heap.memory spot) spot.start i)) is

-- an object is what it was but for its contents
pub alike_object : (heap : Heap) (memory : Parted) (spot : Spot) (contents : List Content) → IsAlike heap.memory memory → IsSpot heap.memory spot →
    tabulated (size_at (words_by heap.memory spot) spot.start) (content_by (with_memory heap memory) spot) ≡ contents → object_by (with_memory heap memory) spot ≡ with_contents (object_by heap spot) contents
alike_object heap memory spot contents a here are =
    let same = a.header spot here in
    let old : List ℕ = words_by heap.memory spot in
    object_is (with_memory heap memory) spot (site_at old spot.start) (kind_at old spot.start) contents same.site (ap (λ w. w % 2 ^ 32) same.first)
    (ap (λ w. tabulated (w / 2 ^ 32) (content_by (with_memory heap memory) spot)) same.first ∙ are)

pub same_object : (heap : Heap) (memory : Parted) (spot : Spot) → IsAlike heap.memory memory → IsSpot heap.memory spot →
    ((i : ℕ) → i < size_at (words_by heap.memory spot) spot.start → get_or (words_by memory spot) (spot.start + (3 + i)) 0 ≡ get_or (words_by heap.memory spot) (spot.start + (3 + i)) 0) → object_by (with_memory heap memory) spot ≡ object_by heap spot
same_object heap memory spot a here same =
    alike_object heap memory spot (object_by heap spot).contents a here
    (same_tabulated (size_at (words_by heap.memory spot) spot.start) (content_by (with_memory heap memory) spot) (content_by heap spot) (λ i below. alike_content heap memory spot i _ a here (same i below)))

-- entries are found as they were
pub alike_entry : (heap : Heap) (memory : Parted) (n : ℕ) → IsAlike heap.memory memory → spot_where memory (λ other. serial_by memory other == n + 1) ≡ spot_where heap.memory (λ other. serial_by heap.memory other == n + 1)
alike_entry heap memory n a =
    sym (alike_found heap.memory memory (λ other. serial_by heap.memory other == n + 1) (λ other. serial_by memory other == n + 1) a (λ other here. ap (λ w. w == n + 1) (sym (a.header other here).second)))

entry_if : (heap : Heap) (memory : Parted) (n : ℕ) (found : Option Spot) → IsAlike heap.memory memory → HasContents heap.memory memory → spot_where heap.memory (λ other. serial_by heap.memory other == n + 1) ≡ found →
    option_map (object_by (with_memory heap memory)) found ≡ option_map (object_by heap) found
entry_if heap memory n None a same is = refl
entry_if heap memory n (Some spot) a same is =
    let here = (spot_sound heap.memory (λ other. serial_by heap.memory other == n + 1) spot is).0 in
    ap Some (same_object heap memory spot a here (λ i below. same spot i here below))

pub alike_objects : (heap : Heap) (memory : Parted) → IsAlike heap.memory memory → HasContents heap.memory memory → objects_in (with_memory heap memory) ≡ objects_in heap
unfolding objects_in
alike_objects heap memory a same =
    ap (λ (value : ℕ → Option Object). tabulated (heap.next - 1) value) (fun_ext (λ n. ap (option_map (object_by (with_memory heap memory))) (alike_entry heap memory n a) ∙ entry_if heap memory n (spot_where heap.memory (λ other. serial_by heap.memory other == n + 1)) a same refl))
