-- Another word of an object, behind the first two of its header.
use Rattle.std.proofs.Common.{◌≡◌, ◌≢◌, ◌∙◌, ℕ, ◌+◌, ◌<◌, List, [], length, get_or, set, take, refl, sym, ap, arith, subst, inl, inr, length-set, get_or-set_same, get_or-set_other}
use Rattle.std.proofs.lemmas.Bool.{cases_eq, cases_order}
use Rattle.cb_plain.specs.State.{words_of}
use Rattle.cb_blocks.specs.Parted.{Parted, with_words}
use Rattle.cb_blocks.specs.Rows.{row}
use Rattle.cb_partheap.specs.Heaps.{Heap}
use Rattle.cb_partheap.specs.Spots.{IsSpot, Spot, words_by}
use Rattle.cb_partheap.specs.Whole.{IsHeap}
use Rattle.cb_partheap.specs.Words.{missing, site_at, size_at}
use Rattle.cb_partheap.proofs.Alike.{IsAlike}
use Rattle.cb_partheap.proofs.Found.{same_spot}
use Rattle.cb_partheap.proofs.Missing.{gap, missing_set}
use Rattle.cb_partheap.proofs.Reading.{within}

-- rows with another one
pub row_same : (rows : List (List ℕ)) (part : ℕ) (new : List ℕ) → part < length rows → row (set rows part new) part ≡ new
row_same rows part new below = get_or-set_same rows part new [] below

pub row_other : (rows : List (List ℕ)) (part other : ℕ) (new : List ℕ) → other ≢ part → row (set rows part new) other ≡ row rows other
row_other rows part other new differs = get_or-set_other rows part other new [] differs

-- what holds of the row of the part and of all others
pub row_cases : (P : List ℕ → List ℕ → Type 0) (rows : List (List ℕ)) (part other : ℕ) (new : List ℕ) → part < length rows → P new (row rows part) → (P (row rows other) (row rows other)) → P (row (set rows part new) other) (row rows other)
row_cases P rows part other new below here there =
    elim (cases_eq other part) [
      | inl same ↦ subst (λ p. P (row (set rows part new) p) (row rows p)) (sym same) (subst (λ xs. P xs (row rows part)) (sym (row_same rows part new below)) here)
      | inr differs ↦ subst (λ xs. P xs (row rows other)) (sym (row_other rows part other new differs)) there
    ]

-- a word of an object
pub record IsInner (heap : Heap) (spot : Spot) (place : ℕ) : Type 0 where
  pub is : IsHeap heap
  pub here : IsSpot heap.memory spot
  pub behind : 1 < place
  pub below : place < words_of (size_at (words_by heap.memory spot) spot.start)

abbrev pub with_inner : Parted → Spot → (place word : ℕ) → Parted
with_inner parts spot place word = with_words parts spot.part (set (words_by parts spot) (spot.start + place) word)

-- no object begins there
nothing_begins : (heap : Heap) (spot : Spot) (place : ℕ) → IsInner heap spot place → missing 0 (take (spot.start + place) (words_by heap.memory spot)) ≢ 0
nothing_begins heap spot place c whole =
    let all = within heap spot c.is c.here in
    absurd (omega (arith, c.below, gap (words_by heap.memory spot) spot.start (spot.start + place) (omega (arith, c.behind)) (omega (arith, c.below, all)) c.here.whole whole))

-- so that all begin where they did
pub inner_count : (parts : Parted) (spot : Spot) (place word : ℕ) → length (with_inner parts spot place word).words ≡ length parts.words
inner_count parts spot place word = length-set parts.words spot.part (set (words_by parts spot) (spot.start + place) word)

pub inner_long : (heap : Heap) (spot : Spot) (place word part : ℕ) → IsInner heap spot place → length (row (with_inner heap.memory spot place word).words part) ≡ length (row heap.memory.words part)
inner_long heap spot place word part c =
    row_cases (λ xs ys. length xs ≡ length ys) heap.memory.words spot.part part (set (words_by heap.memory spot) (spot.start + place) word) c.here.part (length-set (words_by heap.memory spot) (spot.start + place) word) refl

pub inner_gaps : (heap : Heap) (spot : Spot) (place word part n : ℕ) → IsInner heap spot place → missing 0 (take n (row (with_inner heap.memory spot place word).words part)) ≡ missing 0 (take n (row heap.memory.words part))
inner_gaps heap spot place word part n c =
    row_cases (λ xs ys. missing 0 (take n xs) ≡ missing 0 (take n ys)) heap.memory.words spot.part part (set (words_by heap.memory spot) (spot.start + place) word) c.here.part
    (missing_set 0 (words_by heap.memory spot) (spot.start + place) word n (nothing_begins heap spot place c)) refl

-- no word of an object is another's
pub words_apart : (heap : Heap) (one other : Spot) (i j : ℕ) → IsHeap heap → IsSpot heap.memory one → IsSpot heap.memory other → one.part ≡ other.part → i < words_of (size_at (words_by heap.memory one) one.start) →
    j < words_of (size_at (words_by heap.memory other) other.start) → one.start + i ≡ other.start + j → (one ≡ other) × (i ≡ j)
words_apart heap one other i j is here there part below below' same =
    elim (cases_order one.start other.start) [
      | inl equal ↦ (same_spot one other part equal, omega (arith, same, equal))
      | inr order ↦ elim order [
        | inl less ↦
            let there' : IsSpot heap.memory (record { part = one.part; start = other.start }) = subst (λ p. IsSpot heap.memory (record { part = p; start = other.start })) (sym part) there in
            absurd (omega (arith, same, below, gap (words_by heap.memory one) one.start other.start less (omega (arith, there'.inside)) here.whole there'.whole))
        | inr more ↦
            let here' : IsSpot heap.memory (record { part = other.part; start = one.start }) = subst (λ p. IsSpot heap.memory (record { part = p; start = one.start })) part here in
            absurd (omega (arith, same, below', gap (words_by heap.memory other) other.start one.start more (omega (arith, here'.inside)) there.whole here'.whole))
      ]
    ]

-- each other word of an object is as it was
pub word_elsewhere : (heap : Heap) (spot other : Spot) (place word j : ℕ) → IsInner heap spot place → IsSpot heap.memory other → j < words_of (size_at (words_by heap.memory other) other.start) → (other ≡ spot → j ≢ place) →
    get_or (words_by (with_inner heap.memory spot place word) other) (other.start + j) 0 ≡ get_or (words_by heap.memory other) (other.start + j) 0
word_elsewhere heap spot other place word j c there below differs =
    let new : List ℕ = set (words_by heap.memory spot) (spot.start + place) word in
    elim (cases_eq other.part spot.part) [
      | inl same ↦
          let apart : other.start + j ≢ spot.start + place = λ equal. let both = words_apart heap other spot j place c.is there c.here same below c.below equal in differs both.0 both.1 in
          ap (λ xs. get_or xs (other.start + j) 0) (ap (row (with_inner heap.memory spot place word).words) same ∙ row_same heap.memory.words spot.part new c.here.part)
          ∙ get_or-set_other (words_by heap.memory spot) (spot.start + place) (other.start + j) word 0 apart ∙ ap (λ p. get_or (row heap.memory.words p) (other.start + j) 0) (sym same)
      | inr apart ↦ ap (λ xs. get_or xs (other.start + j) 0) (row_other heap.memory.words spot.part other.part new apart)
    ]

pub word_here : (heap : Heap) (spot : Spot) (place word : ℕ) → IsInner heap spot place → get_or (words_by (with_inner heap.memory spot place word) spot) (spot.start + place) 0 ≡ word
word_here heap spot place word c =
    ap (λ xs. get_or xs (spot.start + place) 0) (row_same heap.memory.words spot.part (set (words_by heap.memory spot) (spot.start + place) word) c.here.part)
    ∙ get_or-set_same (words_by heap.memory spot) (spot.start + place) word 0 (omega (arith, c.below, within heap spot c.is c.here))

-- what holds of the object and of all others
pub spot_cases : (P : Spot → Type 0) (spot other : Spot) → P spot → ((other ≡ spot → ⊥) → P other) → P other
spot_cases P spot other here elsewhere =
    elim (cases_eq other.part spot.part) [
      | inr differs ↦ elsewhere (λ same. differs (ap (λ (s : Spot). s.part) same))
      | inl part ↦ elim (cases_eq other.start spot.start) [
        | inr differs ↦ elsewhere (λ same. differs (ap (λ (s : Spot). s.start) same))
        | inl start ↦ subst P (same_spot spot other (sym part) (sym start)) here
      ]
    ]

-- all stand as they stood where the sites do
pub inner_alike : (heap : Heap) (spot : Spot) (place word : ℕ) → IsInner heap spot place → ((other : Spot) → IsSpot heap.memory other → site_at (words_by (with_inner heap.memory spot place word) other) other.start ≡ site_at (words_by heap.memory other) other.start) →
    IsAlike heap.memory (with_inner heap.memory spot place word)
inner_alike heap spot place word c sites =
    record {
      blocks = refl;
      rows = refl;
      count = inner_count heap.memory spot place word;
      long = λ part. inner_long heap spot place word part c;
      gaps = λ part n. inner_gaps heap spot place word part n c;
      header = λ other there.
          let none : other.start ≡ other.start + 0 = omega arith in
          record {
            first = ap (λ k. get_or (words_by (with_inner heap.memory spot place word) other) k 0) none ∙ word_elsewhere heap spot other place word 0 c there (omega arith) (λ same equal. absurd (omega (arith, equal, c.behind)))
                ∙ ap (λ k. get_or (words_by heap.memory other) k 0) (sym none);
            second = word_elsewhere heap spot other place word 1 c there (omega arith) (λ same equal. absurd (omega (arith, equal, c.behind)));
            site = sites other there;
          };
    }
