-- Where objects begin in a heap with one more, and their words.
use Rattle.std.proofs.Common.{◌≡◌, ◌≢◌, ◌∙◌, ℕ, ◌+◌, ◌-◌, ◌*◌, ◌/◌, ◌%◌, ◌^◌, ◌<◌, ◌≤◌, ◌⊎◌, IsTrue, List, [], ◌++◌, length, get_or, replicate, take, refl, sym, ap, arith, subst, inl, inr, length-append, length-set}
use Rattle.std.proofs.lemmas.Bool.{cases_eq, cases_lt}
use Rattle.std.proofs.lemmas.List.{get_or-append_right, get_or_append_left, length-replicate, take-append-le, take_all, append-nil}
use Rattle.cb_plain.specs.State.{words_of}
use Rattle.cb_plain.specs.Requests.{words_at}
use Rattle.cb_heap.specs.Shaped.{has_size}
use Rattle.cb_blocks.specs.Parted.{Parted}
use Rattle.cb_blocks.specs.Rows.{row}
use Rattle.cb_partheap.specs.Added.{IsAdded}
use Rattle.cb_partheap.specs.Heaps.{Heap, part_of}
use Rattle.cb_partheap.specs.Spots.{IsSpot, Spot, place_of, words_by}
use Rattle.cb_partheap.specs.Whole.{IsHeap}
use Rattle.cb_partheap.specs.Words.{blank_words, kind_at, missing, site_at, size_at}
use Rattle.cb_partheap.proofs.Adds.{spot_at_end}
use Rattle.cb_partheap.proofs.Found.{same_spot}
use Rattle.cb_partheap.proofs.Missing.{gap, missing_append, missing_zeros}
use Rattle.cb_partheap.proofs.Inner.{row_other, row_same}

-- what is known of a new object
pub record IsNew (heap : Heap) (memory : Parted) (site kind size : ℕ) : Type 0 where
  pub is : IsHeap heap
  pub known : site < length heap.site_parts
  pub shaped : IsTrue (has_size heap.shapes kind size)
  pub narrow : kind < 2 ^ 32
  pub fits : words_of size ≤ words_at heap.granted site
  pub added : IsAdded heap.memory memory (part_of heap.site_parts site) (blank_words kind size heap.next site)

abbrev pub new_spot : Heap → ℕ → Spot
new_spot heap site = spot_at_end heap.memory (part_of heap.site_parts site)

-- the row of its part, and those of all others
pub row_here : (heap : Heap) (memory : Parted) (site kind size : ℕ) → IsNew heap memory site kind size →
    row memory.words (part_of heap.site_parts site) ≡ row heap.memory.words (part_of heap.site_parts site) ++ blank_words kind size heap.next site
row_here heap memory site kind size n =
    ap (λ rows. row rows (part_of heap.site_parts site)) n.added.words_are ∙ row_same heap.memory.words (part_of heap.site_parts site) _ (n.is.site_within site n.known)

pub row_there : (heap : Heap) (memory : Parted) (site kind size other : ℕ) → IsNew heap memory site kind size → other ≢ part_of heap.site_parts site → row memory.words other ≡ row heap.memory.words other
row_there heap memory site kind size other n differs = ap (λ rows. row rows other) n.added.words_are ∙ row_other heap.memory.words (part_of heap.site_parts site) other _ differs

-- each row is longer or as it was
pub record IsLonger (old new : List ℕ) : Type 0 where
  pub more : List ℕ
  pub is : new ≡ old ++ more

pub row_longer : (heap : Heap) (memory : Parted) (site kind size other : ℕ) → IsNew heap memory site kind size → IsLonger (row heap.memory.words other) (row memory.words other)
row_longer heap memory site kind size other n =
    elim (cases_eq other (part_of heap.site_parts site)) [
      | inl same ↦
          record {
            more = blank_words kind size heap.next site;
            is = ap (row memory.words) same ∙ row_here heap memory site kind size n ∙ ap (λ p. row heap.memory.words p ++ blank_words kind size heap.next site) (sym same);
          }
      | inr differs ↦ record { more = []; is = row_there heap memory site kind size other n differs ∙ sym (append-nil (row heap.memory.words other)) }
    ]

pub count_new : (heap : Heap) (memory : Parted) (site kind size : ℕ) → IsNew heap memory site kind size → length memory.words ≡ length heap.memory.words
count_new heap memory site kind size n = ap length n.added.words_are ∙ length-set heap.memory.words (part_of heap.site_parts site) _

-- objects that were there are there, with their words
pub word_old : (heap : Heap) (memory : Parted) (site kind size part i : ℕ) → IsNew heap memory site kind size → i < length (row heap.memory.words part) → get_or (row memory.words part) i 0 ≡ get_or (row heap.memory.words part) i 0
word_old heap memory site kind size part i n inside =
    let longer = row_longer heap memory site kind size part n in
    ap (λ xs. get_or xs i 0) longer.is ∙ get_or_append_left (row heap.memory.words part) longer.more 0 i inside

take_old : (heap : Heap) (memory : Parted) (site kind size part i : ℕ) → IsNew heap memory site kind size → i ≤ length (row heap.memory.words part) → take i (row memory.words part) ≡ take i (row heap.memory.words part)
take_old heap memory site kind size part i n inside =
    let longer = row_longer heap memory site kind size part n in
    ap (take i) longer.is ∙ take-append-le i (row heap.memory.words part) longer.more inside

pub spot_there : (heap : Heap) (memory : Parted) (site kind size : ℕ) (spot : Spot) → IsNew heap memory site kind size → IsSpot heap.memory spot → IsSpot memory spot
spot_there heap memory site kind size spot n here =
    let longer = row_longer heap memory site kind size spot.part n in
    record {
      part = omega (arith, here.part, count_new heap memory site kind size n);
      inside = omega (arith, here.inside, ap length longer.is, length-append (words_by heap.memory spot) longer.more);
      whole = ap (missing 0) (take_old heap memory site kind size spot.part spot.start n (omega (arith, here.inside))) ∙ here.whole;
    }

pub place_there : (heap : Heap) (memory : Parted) (site kind size : ℕ) (spot : Spot) → IsNew heap memory site kind size → IsSpot heap.memory spot → place_of memory spot ≡ place_of heap.memory spot
place_there heap memory site kind size spot n here = ap (λ i. spot.part * 2 ^ 29 + i + 1) (n.added.stays spot.part spot.start here.part here.inside)

length_blank : (kind size serial site : ℕ) → length (blank_words kind size serial site) ≡ words_of size
length_blank kind size serial site = omega (arith, length-replicate {A = ℕ} size 0)

pub length_here : (heap : Heap) (memory : Parted) (site kind size : ℕ) → IsNew heap memory site kind size →
    length (row memory.words (part_of heap.site_parts site)) ≡ length (row heap.memory.words (part_of heap.site_parts site)) + words_of size
length_here heap memory site kind size n =
    ap length (row_here heap memory site kind size n) ∙ length-append (row heap.memory.words (part_of heap.site_parts site)) (blank_words kind size heap.next site)
    ∙ ap (λ k. length (row heap.memory.words (part_of heap.site_parts site)) + k) (length_blank kind size heap.next site)

-- the new one is there, with its words
pub word_new : (heap : Heap) (memory : Parted) (site kind size k : ℕ) → IsNew heap memory site kind size → get_or (words_by memory (new_spot heap site)) ((new_spot heap site).start + k) 0 ≡ get_or (blank_words kind size heap.next site) k 0
word_new heap memory site kind size k n =
    let old : List ℕ = row heap.memory.words (part_of heap.site_parts site) in
    let back : length old + k - length old ≡ k = omega arith in
    ap (λ xs. get_or xs (length old + k) 0) (row_here heap memory site kind size n) ∙ get_or-append_right old (blank_words kind size heap.next site) (length old) (length old + k) 0 refl (omega arith)
    ∙ ap (λ i. get_or (blank_words kind size heap.next site) i 0) back

pub first_new : (heap : Heap) (memory : Parted) (site kind size : ℕ) → IsNew heap memory site kind size → get_or (words_by memory (new_spot heap site)) (new_spot heap site).start 0 ≡ kind + size * 2 ^ 32
first_new heap memory site kind size n =
    let none : (new_spot heap site).start ≡ (new_spot heap site).start + 0 = omega arith in
    ap (λ i. get_or (words_by memory (new_spot heap site)) i 0) none ∙ word_new heap memory site kind size 0 n

pub size_new : (heap : Heap) (memory : Parted) (site kind size : ℕ) → IsNew heap memory site kind size → size_at (words_by memory (new_spot heap site)) (new_spot heap site).start ≡ size
size_new heap memory site kind size n = ap (λ w. w / 2 ^ 32) (first_new heap memory site kind size n) ∙ (let e : (kind + size * 2 ^ 32) / 2 ^ 32 ≡ size = omega (arith, n.narrow) in e)

pub kind_new : (heap : Heap) (memory : Parted) (site kind size : ℕ) → IsNew heap memory site kind size → kind_at (words_by memory (new_spot heap site)) (new_spot heap site).start ≡ kind
kind_new heap memory site kind size n = ap (λ w. w % 2 ^ 32) (first_new heap memory site kind size n) ∙ (let e : (kind + size * 2 ^ 32) % 2 ^ 32 ≡ kind = omega (arith, n.narrow) in e)

pub site_new : (heap : Heap) (memory : Parted) (site kind size : ℕ) → IsNew heap memory site kind size → site_at (words_by memory (new_spot heap site)) (new_spot heap site).start ≡ site
site_new heap memory site kind size n =
    ap (λ w. w % 2 ^ 14) (word_new heap memory site kind size 2 n) ∙ (let e : site % 2 ^ 14 ≡ site = omega (arith, n.known, n.is.sites) in e)

pub spot_here : (heap : Heap) (memory : Parted) (site kind size : ℕ) → IsNew heap memory site kind size → IsSpot memory (new_spot heap site)
spot_here heap memory site kind size n =
    let old : List ℕ = row heap.memory.words (part_of heap.site_parts site) in
    let below = n.is.site_within site n.known in
    record {
      part = omega (arith, below, count_new heap memory site kind size n);
      inside = omega (arith, length_here heap memory site kind size n);
      whole = ap (missing 0) (take_old heap memory site kind size (part_of heap.site_parts site) (length old) n (omega arith) ∙ take_all (length old) old (omega arith)) ∙ n.is.whole (part_of heap.site_parts site) below;
    }

-- and all words of the parts are whole objects
missing_blank : (kind size serial site : ℕ) → kind < 2 ^ 32 → missing 0 (blank_words kind size serial site) ≡ 0
missing_blank kind size serial site narrow =
    let whole : (kind + size * 2 ^ 32) / 2 ^ 32 ≡ size = omega (arith, narrow) in
    ap (λ count. missing count (replicate size 0)) whole ∙ missing_zeros size

pub whole_new : (heap : Heap) (memory : Parted) (site kind size part : ℕ) → IsNew heap memory site kind size → part < length memory.words → missing 0 (row memory.words part) ≡ 0
whole_new heap memory site kind size part n below =
    elim (cases_eq part (part_of heap.site_parts site)) [
      | inl same ↦
          let old : List ℕ = row heap.memory.words (part_of heap.site_parts site) in
          ap (λ p. missing 0 (row memory.words p)) same ∙ ap (missing 0) (row_here heap memory site kind size n) ∙ missing_append 0 old (blank_words kind size heap.next site)
          ∙ ap (λ count. missing count (blank_words kind size heap.next site)) (n.is.whole (part_of heap.site_parts site) (n.is.site_within site n.known)) ∙ missing_blank kind size heap.next site n.narrow
      | inr differs ↦ ap (missing 0) (row_there heap memory site kind size part n differs) ∙ n.is.whole part (omega (arith, below, count_new heap memory site kind size n))
    ]

-- no other object begins
spot_old_if : (heap : Heap) (memory : Parted) (site kind size : ℕ) (spot : Spot) → IsNew heap memory site kind size → IsSpot memory spot → spot.start < length (words_by heap.memory spot) → IsSpot heap.memory spot
spot_old_if heap memory site kind size spot n there inside =
    record {
      part = omega (arith, there.part, count_new heap memory site kind size n);
      inside = inside;
      whole = sym (ap (missing 0) (take_old heap memory site kind size spot.part spot.start n (omega (arith, inside)))) ∙ there.whole;
    }

pub spot_cases : (heap : Heap) (memory : Parted) (site kind size : ℕ) (spot : Spot) → IsNew heap memory site kind size → IsSpot memory spot → IsSpot heap.memory spot ⊎ (spot ≡ new_spot heap site)
spot_cases heap memory site kind size spot n there =
    elim (cases_lt spot.start (length (words_by heap.memory spot))) [
      | inl inside ↦ inl (spot_old_if heap memory site kind size spot n there inside)
      | inr past ↦ elim (cases_eq spot.part (part_of heap.site_parts site)) [
        | inr differs ↦ absurd (omega (arith, past, there.inside, ap length (row_there heap memory site kind size spot.part n differs)))
        | inl same ↦
            let here : Spot = new_spot heap site in
            let there' : IsSpot memory (record { part = here.part; start = spot.start }) = subst (λ p. IsSpot memory (record { part = p; start = spot.start })) same there in
            let past' : here.start ≤ spot.start = subst (λ p. length (row heap.memory.words p) ≤ spot.start) same past in
            elim (cases_eq spot.start here.start) [
              | inl equal ↦ inr (same_spot spot here same equal)
              | inr differs ↦
                  let first = spot_here heap memory site kind size n in
                  let after = gap (words_by memory here) here.start spot.start (omega (arith, past', differs)) (omega (arith, there'.inside)) first.whole there'.whole in
                  absurd (omega (arith, after, there'.inside, length_here heap memory site kind size n, size_new heap memory site kind size n))
            ]
      ]
    ]
