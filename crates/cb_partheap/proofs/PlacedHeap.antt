-- A heap with an object more is a heap.
use Rattle.std.proofs.Common.{◌≡◌, ◌∙◌, ℕ, suc, ◌+◌, ◌*◌, ◌/◌, ◌%◌, ◌^◌, ◌<◌, ◌≤◌, ◌==◌, true, false, IsTrue, length, get_or, sym, ap, arith, subst, inl, inr, slice_get}
use mathlib.Core.Path.{fun_ext}
use Rattle.std.proofs.lemmas.Bool.{cases_eq, eq-eqb, ne_eqb}
use Rattle.std.proofs.lemmas.List.{get_or-replicate}
use Rattle.cb_plain.specs.State.{words_of}
use Rattle.cb_plain.specs.Requests.{spent}
use Rattle.cb_heap.specs.Occupancy.{blocks, wanted}
use Rattle.cb_heap.specs.Shaped.{has_size}
use Rattle.cb_blocks.specs.Parted.{Parted}
use Rattle.cb_blocks.specs.Rows.{row}
use Rattle.cb_partheap.specs.Heaps.{Heap, holds, marks_at, part_of, with_object}
use Rattle.cb_partheap.specs.Spots.{IsSpot, Spot, serial_by, words_by}
use Rattle.cb_partheap.specs.Whole.{IsHeap, IsPlaced, MayHold, blocks_with}
use Rattle.cb_partheap.specs.Words.{blank_words, size_at}
use Rattle.cb_partheap.proofs.Placed.{IsNew, count_new, kind_new, length_here, new_spot, place_there, row_there, site_new, size_new, spot_cases, spot_there, whole_new, word_new, word_old}
use Rattle.cb_partheap.proofs.Reading.{within}
use Rattle.cb_partheap.proofs.Rooms.{wanted_spent, words_at_spent, words_if}
use Rattle.cb_partheap.proofs.Alike.{SameFields}

-- the words of objects that were there
pub word_stays : (heap : Heap) (memory : Parted) (site kind size : ℕ) (spot : Spot) (k : ℕ) → IsNew heap memory site kind size → IsSpot heap.memory spot → k < words_of (size_at (words_by heap.memory spot) spot.start) →
    get_or (words_by memory spot) (spot.start + k) 0 ≡ get_or (words_by heap.memory spot) (spot.start + k) 0
word_stays heap memory site kind size spot k n here below = word_old heap memory site kind size spot.part (spot.start + k) n (omega (arith, below, within heap spot n.is here))

pub header_stays : (heap : Heap) (memory : Parted) (site kind size : ℕ) (spot : Spot) → IsNew heap memory site kind size → IsSpot heap.memory spot → SameFields (words_by heap.memory spot) (words_by memory spot) spot.start
header_stays heap memory site kind size spot n here =
    record {
      first = word_old heap memory site kind size spot.part spot.start n here.inside;
      second = word_stays heap memory site kind size spot 1 n here (omega arith);
      site = ap (λ w. w % 2 ^ 14) (word_stays heap memory site kind size spot 2 n here (omega arith));
    }

placed_stays : (heap : Heap) (memory : Parted) (site kind size : ℕ) (spot : Spot) → IsNew heap memory site kind size → IsSpot heap.memory spot → IsPlaced (with_object heap memory site size) spot
placed_stays heap memory site kind size spot n here =
    let same = header_stays heap memory site kind size spot n here in
    let was = n.is.placed spot here in
    record {
      site = subst (λ s. s < length heap.site_parts) (sym same.site) was.site;
      here = ap (part_of heap.site_parts) same.site ∙ was.here;
      shaped = subst (λ w. IsTrue (has_size heap.shapes (w % 2 ^ 32) (w / 2 ^ 32))) (sym same.first) was.shaped;
      low = subst (λ w. 0 < w) (sym same.second) was.low;
      high = subst (λ w. w < heap.next + 1) (sym same.second) (omega (arith, was.high));
    }

placed_here : (heap : Heap) (memory : Parted) (site kind size : ℕ) → IsNew heap memory site kind size → IsPlaced (with_object heap memory site size) (new_spot heap site)
placed_here heap memory site kind size n =
    let serial = word_new heap memory site kind size 1 n in
    record {
      site = subst (λ s. s < length heap.site_parts) (sym (site_new heap memory site kind size n)) n.known;
      here = ap (part_of heap.site_parts) (site_new heap memory site kind size n);
      shaped = subst (λ k. IsTrue (has_size heap.shapes k (size_at (words_by memory (new_spot heap site)) (new_spot heap site).start))) (sym (kind_new heap memory site kind size n))
          (subst (λ k. IsTrue (has_size heap.shapes kind k)) (sym (size_new heap memory site kind size n)) n.shaped);
      low = omega (arith, serial, n.is.some);
      high = omega (arith, serial);
    }

pub serial_new : (heap : Heap) (memory : Parted) (site kind size : ℕ) → IsNew heap memory site kind size → serial_by memory (new_spot heap site) ≡ heap.next
serial_new heap memory site kind size n = word_new heap memory site kind size 1 n

-- what a reference may lead to stays
may_stay : (heap : Heap) (memory : Parted) (site kind size part to : ℕ) → IsNew heap memory site kind size → MayHold heap part to → MayHold (with_object heap memory site size) part to
may_stay heap memory site kind size part to n may =
    elim may [
      | inl none ↦ inl none
      | inr some ↦ inr (some.0, spot_there heap memory site kind size some.0 n some.1, place_there heap memory site kind size some.0 n some.1 ∙ some.2, some.3)
    ]

refers_stay : (heap : Heap) (memory : Parted) (site kind size : ℕ) (spot : Spot) (i : ℕ) → IsNew heap memory site kind size → IsSpot heap.memory spot → i < size_at (words_by memory spot) spot.start →
    marks_at heap.shapes (words_by memory spot) spot.start i ≡ true → MayHold (with_object heap memory site size) spot.part (get_or (words_by memory spot) (spot.start + (3 + i)) 0)
refers_stay heap memory site kind size spot i n here below marked =
    let same = header_stays heap memory site kind size spot n here in
    let small : i < size_at (words_by heap.memory spot) spot.start = subst (λ w. i < w / 2 ^ 32) same.first below in
    let was : marks_at heap.shapes (words_by heap.memory spot) spot.start i ≡ true = sym (ap (λ w. holds (slice_get heap.shapes (w % 2 ^ 32)) i) same.first) ∙ marked in
    may_stay heap memory site kind size spot.part _ n (subst (MayHold heap spot.part) (sym (word_stays heap memory site kind size spot (3 + i) n here (omega (arith, small)))) (n.is.refers spot i here small was))

-- the contents of the new one are 0
pub content_zero : (heap : Heap) (memory : Parted) (site kind size i : ℕ) → IsNew heap memory site kind size → i < size → get_or (words_by memory (new_spot heap site)) ((new_spot heap site).start + (3 + i)) 0 ≡ 0
content_zero heap memory site kind size i n below =
    let three : 3 + i ≡ suc (suc (suc i)) = omega arith in
    word_new heap memory site kind size (3 + i) n ∙ ap (λ k. get_or (blank_words kind size heap.next site) k 0) three ∙ get_or-replicate size i 0 0 below

-- what was granted is used
room_at : (heap : Heap) (memory : Parted) (site kind size part : ℕ) → IsNew heap memory site kind size →
    length (row memory.words part) + wanted (part_of heap.site_parts) (spent heap.granted site (words_of size)) part ≡ length (row heap.memory.words part) + wanted (part_of heap.site_parts) heap.granted part
room_at heap memory site kind size part n =
    let less = wanted_spent (part_of heap.site_parts) heap.granted site (words_of size) part n.fits in
    elim (cases_eq (part_of heap.site_parts site) part) [
      | inl same ↦
          let yes : (part_of heap.site_parts site == part) ≡ true = eq-eqb (part_of heap.site_parts site) part same in
          let longer : length (row memory.words part) ≡ length (row heap.memory.words part) + words_of size = subst (λ p. length (row memory.words p) ≡ length (row heap.memory.words p) + words_of size) same (length_here heap memory site kind size n) in
          omega (arith, less, longer, ap (λ b. words_if b (words_of size)) yes)
      | inr differs ↦
          let no : (part_of heap.site_parts site == part) ≡ false = ne_eqb (part_of heap.site_parts site) part differs in
          omega (arith, less, ap length (row_there heap memory site kind size part n (λ same. differs (sym same))), ap (λ b. words_if b (words_of size)) no)
    ]

pub new_heap : (heap : Heap) (memory : Parted) (site kind size : ℕ) → IsNew heap memory site kind size → IsHeap (with_object heap memory site size)
new_heap heap memory site kind size n =
    let count = count_new heap memory site kind size n in
    record {
      parted = n.added.sound;
      whole = λ part below. whole_new heap memory site kind size part n below;
      placed = λ spot there. elim (spot_cases heap memory site kind size spot n there) [
        | inl old ↦ placed_stays heap memory site kind size spot n old
        | inr new ↦ subst (IsPlaced (with_object heap memory site size)) (sym new) (placed_here heap memory site kind size n)
      ];
      once = λ one other here there same. elim (spot_cases heap memory site kind size one n here) [
        | inl old ↦
            let serial = (header_stays heap memory site kind size one n old).second in
            let high = (n.is.placed one old).high in
            elim (spot_cases heap memory site kind size other n there) [
              | inl old' ↦ n.is.once one other old old' (sym serial ∙ same ∙ (header_stays heap memory site kind size other n old').second)
              | inr new ↦ absurd (omega (arith, serial, high, same, ap (serial_by memory) new, serial_new heap memory site kind size n))
            ]
        | inr new' ↦ elim (spot_cases heap memory site kind size other n there) [
          | inl old ↦
              let serial = (header_stays heap memory site kind size other n old).second in
              let high = (n.is.placed other old).high in
              absurd (omega (arith, serial, high, same, ap (serial_by memory) new', serial_new heap memory site kind size n))
          | inr new ↦ new' ∙ sym new
        ]
      ];
      refers = λ spot i there below marked. elim (spot_cases heap memory site kind size spot n there) [
        | inl old ↦ refers_stay heap memory site kind size spot i n old below marked
        | inr new ↦
            let few : i < size = omega (arith, below, size_new heap memory site kind size n, ap (λ (s : Spot). size_at (words_by memory s) s.start) new) in
            inl (ap (λ (s : Spot). get_or (words_by memory s) (s.start + (3 + i)) 0) new ∙ content_zero heap memory site kind size i n few)
      ];
      some = omega arith;
      sites = n.is.sites;
      site_within = λ s below. omega (arith, n.is.site_within s below, count);
      few_parts = omega (arith, n.is.few_parts, count);
      grid = omega (arith, n.is.grid, count);
      room = subst (λ k. k ≤ memory.blocks) (sym (ap (λ k. blocks k (λ part. length (row memory.words part) + wanted (part_of heap.site_parts) (spent heap.granted site (words_of size)) part)) count
          ∙ ap (blocks (length heap.memory.words)) (fun_ext (λ part. room_at heap memory site kind size part n)))) (subst (λ k. blocks_with heap heap.granted ≤ k) (sym n.added.blocks) n.is.room);
      known = λ s some. n.is.known s (omega (arith, some, words_at_spent heap.granted site (words_of size) s));
      idle = n.is.idle;
      ready = subst (λ k. k * 256 / 3 ≤ heap.grey.room) (sym n.added.blocks) n.is.ready;
    }
