-- Another word of an object in words that are a heap's but for marks and contents.
use Rattle.std.proofs.Common.{◌≡◌, ◌≢◌, ◌∙◌, ℕ, ◌+◌, ◌/◌, ◌%◌, ◌^◌, ◌<◌, List, length, get_or, set, take, refl, sym, ap, arith, inl, inr, length-set, get_or-set_same, get_or-set_other}
use Rattle.std.proofs.lemmas.Bool.{cases_eq}
use Rattle.cb_plain.specs.State.{words_of}
use Rattle.cb_blocks.specs.Parted.{Parted}
use Rattle.cb_blocks.specs.Rows.{row}
use Rattle.cb_partheap.specs.Headers.{IsHeader}
use Rattle.cb_partheap.specs.Heaps.{Heap}
use Rattle.cb_partheap.specs.Spots.{IsSpot, Spot, place_of, words_by}
use Rattle.cb_partheap.specs.Whole.{IsHeap}
use Rattle.cb_partheap.specs.Words.{missing, site_at, size_at}
use Rattle.cb_partheap.proofs.Laws.{IsAlike, alike_place, gap, missing_set, parted_alike, row_cases, row_other, row_same, spot_cases, with_inner, within, words_apart}

-- ---- what stands where

pub size_alike : (old new : Parted) (spot : Spot) → IsAlike old new → IsSpot old spot → size_at (words_by new spot) spot.start ≡ size_at (words_by old spot) spot.start
size_alike old new spot a here = ap (λ w. w / 2 ^ 32) (a.header spot here).first

pub header_alike : (heap : Heap) (memory : Parted) (spot : Spot) (at : ℕ) → IsHeap heap → IsAlike heap.memory memory → IsSpot heap.memory spot → place_of heap.memory spot ≡ at → IsHeader memory at spot
header_alike heap memory spot at is a here place =
    record {
      sound = parted_alike heap.memory memory is.parted a.blocks a.rows a.count a.long;
      part = omega (arith, here.part, a.count);
      whole = omega (arith, size_alike heap.memory memory spot a here, within heap spot is here, a.long spot.part);
      place = sym place ∙ sym (alike_place heap.memory memory spot a);
    }

-- ---- another word

pub record IsPut (heap : Heap) (memory : Parted) (spot : Spot) (place : ℕ) : Type 0 where
  pub is : IsHeap heap
  pub alike : IsAlike heap.memory memory
  pub here : IsSpot heap.memory spot
  pub behind : 1 < place
  pub below : place < words_of (size_at (words_by heap.memory spot) spot.start)

module _ {heap : Heap} {memory : Parted} {spot : Spot} {place : ℕ} (c : IsPut heap memory spot place) (word : ℕ) where
  there : spot.part < length memory.words
  there = omega (arith, c.here.part, c.alike.count)

  inside : spot.start + place < length (words_by memory spot)
  inside = omega (arith, c.below, within heap spot c.is c.here, c.alike.long spot.part)

  pub put_here : get_or (words_by (with_inner memory spot place word) spot) (spot.start + place) 0 ≡ word
  put_here =
      ap (λ xs. get_or xs (spot.start + place) 0) (row_same memory.words spot.part (set (words_by memory spot) (spot.start + place) word) there)
      ∙ get_or-set_same (words_by memory spot) (spot.start + place) word 0 inside

  -- each other word of an object is as it was
  pub put_other : (other : Spot) (j : ℕ) → IsSpot heap.memory other → j < words_of (size_at (words_by heap.memory other) other.start) → (other ≡ spot → j ≢ place) →
      get_or (words_by (with_inner memory spot place word) other) (other.start + j) 0 ≡ get_or (words_by memory other) (other.start + j) 0
  put_other other j here' below' differs =
      let new : List ℕ = set (words_by memory spot) (spot.start + place) word in
      elim (cases_eq other.part spot.part) [
        | inl same ↦
            let apart : other.start + j ≢ spot.start + place = λ equal. let both = words_apart heap other spot j place c.is here' c.here same below' c.below equal in differs both.0 both.1 in
            ap (λ xs. get_or xs (other.start + j) 0) (ap (row (with_inner memory spot place word).words) same ∙ row_same memory.words spot.part new there)
            ∙ get_or-set_other (words_by memory spot) (spot.start + place) (other.start + j) word 0 apart ∙ ap (λ p. get_or (row memory.words p) (other.start + j) 0) (sym same)
        | inr apart ↦ ap (λ xs. get_or xs (other.start + j) 0) (row_other memory.words spot.part other.part new apart)
      ]

  -- and the words of each other part
  pub put_part : (part : ℕ) → part ≢ spot.part → row (with_inner memory spot place word).words part ≡ row memory.words part
  put_part part differs = row_other memory.words spot.part part (set (words_by memory spot) (spot.start + place) word) differs

  nothing_begins : missing 0 (take (spot.start + place) (words_by memory spot)) ≢ 0
  nothing_begins whole =
      absurd (omega (
        arith,
        c.below,
        gap (words_by heap.memory spot) spot.start (spot.start + place) (omega (arith, c.behind)) (omega (arith, c.below, within heap spot c.is c.here)) c.here.whole (sym (c.alike.gaps spot.part (spot.start + place)) ∙ whole),
      ))

  pub put_alike : (place ≡ 2 → word % 2 ^ 14 ≡ site_at (words_by heap.memory spot) spot.start) → IsAlike heap.memory (with_inner memory spot place word)
  put_alike site =
      let new : List ℕ = set (words_by memory spot) (spot.start + place) word in
      record {
        blocks = c.alike.blocks;
        rows = c.alike.rows;
        count = length-set memory.words spot.part new ∙ c.alike.count;
        long = λ part. row_cases (λ xs ys. length xs ≡ length ys) memory.words spot.part part new there (length-set (words_by memory spot) (spot.start + place) word) refl ∙ c.alike.long part;
        gaps = λ part n.
            row_cases (λ xs ys. missing 0 (take n xs) ≡ missing 0 (take n ys)) memory.words spot.part part new there (missing_set 0 (words_by memory spot) (spot.start + place) word n nothing_begins) refl ∙ c.alike.gaps part n;
        header = λ other here'.
            let was = c.alike.header other here' in
            let none : other.start ≡ other.start + 0 = omega arith in
            record {
              first = ap (λ k. get_or (words_by (with_inner memory spot place word) other) k 0) none ∙ put_other other 0 here' (omega arith) (λ same equal. absurd (omega (arith, equal, c.behind)))
                  ∙ ap (λ k. get_or (words_by memory other) k 0) (sym none) ∙ was.first;
              second = put_other other 1 here' (omega arith) (λ same equal. absurd (omega (arith, equal, c.behind))) ∙ was.second;
              site = elim (cases_eq place 2) [
                | inr differs ↦ ap (λ w. w % 2 ^ 14) (put_other other 2 here' (omega arith) (λ same equal. differs (sym equal))) ∙ was.site
                | inl third ↦
                    let P : Spot → Type 0 = λ t. site_at (words_by (with_inner memory spot place word) t) t.start ≡ site_at (words_by heap.memory t) t.start in
                    let mine : P spot = ap (λ k. get_or (words_by (with_inner memory spot place word) spot) (spot.start + k) 0 % 2 ^ 14) (sym third) ∙ ap (λ w. w % 2 ^ 14) put_here ∙ site third in
                    spot_cases P spot other mine (λ differs. ap (λ w. w % 2 ^ 14) (put_other other 2 here' (omega arith) (λ same. absurd (differs same))) ∙ was.site)
              ];
            };
      }
