-- Words that are what they were but for marks.
use Rattle.std.proofs.Common.{◌≡◌, ◌≢◌, ◌∙◌, ℕ, ◌+◌, ◌/◌, ◌^◌, ◌<◌, Bool, true, false, List, length, get_or, set, refl, sym, ap, arith, subst, inl, inr, ◌⊎◌, get_or-set_other}
use Rattle.std.proofs.lemmas.Bool.{cases_eq, false≢true}
use Rattle.std.proofs.lemmas.List.{same_lists}
use Rattle.std.proofs.lemmas.Option.{get_or_from_slice_get, slice_get-get_or}
use Rattle.cb_dag.specs.Marks.{marked}
use Rattle.cb_blocks.specs.Parted.{Parted}
use Rattle.cb_blocks.specs.Rows.{row}
use Rattle.cb_partheap.specs.Heaps.{Heap, with_memory}
use Rattle.cb_partheap.specs.Spots.{IsSpot, Spot, words_by}
use Rattle.cb_partheap.specs.Whole.{IsHeap}
use Rattle.cb_partheap.proofs.Alike.{HasContents, IsAlike, alike_heap, alike_spot, still_refers}
use Rattle.cb_partheap.proofs.Inner.{row_other, row_same}
use Rattle.cb_partheap.proofs.Marked.{with_third}
use Rattle.cb_partheap.specs.Marks.{IsSameButMarks}

-- nothing was marked yet
pub alike_itself : (parts : Parted) → IsAlike parts parts
alike_itself parts =
    record {
      blocks = refl;
      rows = refl;
      count = refl;
      long = λ part. refl;
      gaps = λ part n. refl;
      header = λ spot here. record { first = refl; second = refl; site = refl };
    }

pub same_itself : (set : List Bool) (parts : Parted) → IsSameButMarks set parts parts
same_itself set parts = record { blocks = refl; rows = refl; count = refl; long = λ part. refl; words = λ part i. inl refl }

-- one change after others
pub alike_then : (old mid new : Parted) → IsAlike old mid → IsAlike mid new → IsAlike old new
alike_then old mid new a b =
    record {
      blocks = b.blocks ∙ a.blocks;
      rows = b.rows ∙ a.rows;
      count = b.count ∙ a.count;
      long = λ part. b.long part ∙ a.long part;
      gaps = λ part n. b.gaps part n ∙ a.gaps part n;
      header = λ spot here.
          let first = a.header spot here in
          let second = b.header spot (alike_spot old mid spot a here) in
          record { first = second.first ∙ first.first; second = second.second ∙ first.second; site = second.site ∙ first.site };
    }

pub contents_then : (old mid new : Parted) → IsAlike old mid → HasContents old mid → HasContents mid new → HasContents old new
contents_then old mid new a first second spot i here below =
    second spot i (alike_spot old mid spot a here) (subst (λ w. i < w) (ap (λ w. w / 2 ^ 32) (sym (a.header spot here).first)) below) ∙ first spot i here below

-- words but for the third one of a header
word_stays : (mid : Parted) (spot : Spot) (word part i : ℕ) → ((spot.part ≡ part) × (spot.start + 2 ≡ i) → ⊥) → spot.part < length mid.words →
    get_or (row (with_third mid spot word).words part) i 0 ≡ get_or (row mid.words part) i 0
word_stays mid spot word part i apart below =
    let new : List ℕ = set (words_by mid spot) (spot.start + 2) word in
    elim (cases_eq part spot.part) [
      | inr differs ↦ ap (λ xs. get_or xs i 0) (row_other mid.words spot.part part new differs)
      | inl same ↦
          let other : i ≢ spot.start + 2 = λ equal. apart (sym same, sym equal) in
          ap (λ xs. get_or xs i 0) (ap (row (with_third mid spot word).words) same ∙ row_same mid.words spot.part new below) ∙ get_or-set_other (words_by mid spot) (spot.start + 2) i word 0 other
          ∙ ap (λ p. get_or (row mid.words p) i 0) (sym same)
    ]

third_cases : (spot : Spot) (part i : ℕ) → ((spot.part ≡ part) × (spot.start + 2 ≡ i)) ⊎ ((spot.part ≡ part) × (spot.start + 2 ≡ i) → ⊥)
third_cases spot part i =
    elim (cases_eq spot.part part) [
      | inr differs ↦ inr (λ both. differs both.0)
      | inl same ↦ elim (cases_eq (spot.start + 2) i) [
        | inl equal ↦ inl (same, equal)
        | inr differs ↦ inr (λ both. differs both.1)
      ]
    ]

pub same_then : (set : List Bool) (old mid : Parted) (spot : Spot) (word : ℕ) → IsSameButMarks set old mid → IsAlike old (with_third mid spot word) → IsSpot old spot → marked set spot.part ≡ true →
    IsSameButMarks set old (with_third mid spot word)
same_then set old mid spot word s a here member =
    let new : Parted = with_third mid spot word in
    record {
      blocks = a.blocks;
      rows = a.rows;
      count = a.count;
      long = a.long;
      words = λ part i. elim (third_cases spot part i) [
        | inl both ↦ inr (record { spot = spot; here = here; same = both.0; third = both.1; member = subst (λ p. marked set p ≡ true) both.0 member; site = (a.header spot here).site })
        | inr apart ↦
            let stays = word_stays mid spot word part i apart (omega (arith, here.part, s.count)) in
            elim (s.words part i) [
              | inl before ↦ inl (stays ∙ before)
              | inr held ↦ inr (record { spot = held.spot; here = held.here; same = held.same; third = held.third; member = held.member; site = (a.header held.spot held.here).site })
            ]
      ];
    }

at_default : (xs : List ℕ) (i d : ℕ) → i < length xs → get_or xs i d ≡ get_or xs i 0
at_default xs i d below = get_or_from_slice_get xs i (get_or xs i 0) d (slice_get-get_or xs i 0 below)

-- the words of a part outside the set are what they were
pub outside_same : (set : List Bool) (old new : Parted) (part : ℕ) → IsSameButMarks set old new → marked set part ≡ false → row new.words part ≡ row old.words part
outside_same set old new part s outside =
    let here : (i : ℕ) → get_or (row new.words part) i 0 ≡ get_or (row old.words part) i 0 =
    λ i. elim (s.words part i) [
      | inl same ↦ same
      | inr held ↦ absurd (false≢true (sym outside ∙ held.member))
    ] in
    same_lists (row new.words part) (row old.words part) (s.long part)
    (λ i d below. at_default (row new.words part) i d below ∙ here i ∙ sym (at_default (row old.words part) i d (omega (arith, below, s.long part))))

-- and the heap is one
pub same_heap : (heap : Heap) (memory : Parted) → IsHeap heap → IsAlike heap.memory memory → HasContents heap.memory memory → IsHeap (with_memory heap memory)
same_heap heap memory is a contents = alike_heap heap memory is a (still_refers heap memory is contents)
