-- A heap in which an object has another mark.
use Rattle.std.proofs.Common.{◌≡◌, ◌∙◌, ℕ, ◌+◌, ◌*◌, ◌/◌, ◌%◌, ◌^◌, ◌<◌, ap, arith}
use Rattle.cb_blocks.specs.Parted.{Parted}
use Rattle.cb_partheap.specs.Heaps.{Heap}
use Rattle.cb_partheap.specs.Spots.{IsSpot, Spot, words_by}
use Rattle.cb_partheap.specs.Whole.{IsHeap}
use Rattle.cb_partheap.specs.Words.{mark_at, site_at}
use Rattle.cb_partheap.proofs.Alike.{HasContents, IsAlike}
use Rattle.cb_partheap.proofs.Inner.{IsInner, inner_alike, spot_cases, with_inner, word_elsewhere, word_here}

-- the parts with another third word in a header
abbrev pub with_third : Parted → Spot → ℕ → Parted
with_third parts spot word = with_inner parts spot 2 word

third : (heap : Heap) (spot : Spot) → IsHeap heap → IsSpot heap.memory spot → IsInner heap spot 2
third heap spot is here = record { is = is; here = here; behind = omega arith; below = omega arith }

-- the heap is as it was but for the mark
pub marked_alike : (heap : Heap) (spot : Spot) (word : ℕ) → IsHeap heap → IsSpot heap.memory spot → word % 2 ^ 14 ≡ site_at (words_by heap.memory spot) spot.start → IsAlike heap.memory (with_third heap.memory spot word)
marked_alike heap spot word is here site =
    inner_alike heap spot 2 word (third heap spot is here) (λ other there.
    spot_cases (λ s. site_at (words_by (with_third heap.memory spot word) s) s.start ≡ site_at (words_by heap.memory s) s.start) spot other (ap (λ w. w % 2 ^ 14) (word_here heap spot 2 word (third heap spot is here)) ∙ site)
    (λ differs. ap (λ w. w % 2 ^ 14) (word_elsewhere heap spot other 2 word 2 (third heap spot is here) there (omega arith) (λ same. absurd (differs same)))))

pub marked_contents : (heap : Heap) (spot : Spot) (word : ℕ) → IsHeap heap → IsSpot heap.memory spot → HasContents heap.memory (with_third heap.memory spot word)
marked_contents heap spot word is here other i there below =
    word_elsewhere heap spot other 2 word (3 + i) (third heap spot is here) there (omega (arith, below)) (λ same equal. absurd (omega (arith, equal)))

-- its own mark, and those of all others
pub mark_here : (heap : Heap) (spot : Spot) (site mark : ℕ) → IsHeap heap → IsSpot heap.memory spot → site < 2 ^ 14 → mark_at (words_by (with_third heap.memory spot (site + mark * 2 ^ 14)) spot) spot.start ≡ mark
mark_here heap spot site mark is here few =
    ap (λ w. w / 2 ^ 14) (word_here heap spot 2 (site + mark * 2 ^ 14) (third heap spot is here)) ∙ (let e : (site + mark * 2 ^ 14) / 2 ^ 14 ≡ mark = omega (arith, few) in e)

pub mark_elsewhere : (heap : Heap) (spot other : Spot) (word : ℕ) → IsHeap heap → IsSpot heap.memory spot → IsSpot heap.memory other → (other ≡ spot → ⊥) →
    mark_at (words_by (with_third heap.memory spot word) other) other.start ≡ mark_at (words_by heap.memory other) other.start
mark_elsewhere heap spot other word is here there differs =
    ap (λ w. w / 2 ^ 14) (word_elsewhere heap spot other 2 word 2 (third heap spot is here) there (omega arith) (λ same. absurd (differs same)))
