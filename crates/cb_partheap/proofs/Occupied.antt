-- The words of a part are those of the objects that are kept in it.
use Rattle.std.proofs.Common.{◌≡◌, ◌≢◌, ◌∙◌, ℕ, zero, suc, ◌+◌, ◌-◌, ◌<◌, ◌≤◌, ◌==◌, ◌&&◌, true, false, cond, Option, Some, None, option_map, List, [], ◌∷◌, ◌++◌, length, get_or, drop, take, ltb, refl, sym, ap, arith, subst, inl, inr}
use mathlib.Core.Path.{fun_ext}
use Rattle.std.specs.List.{range_with_len, sum_by}
use Rattle.std.proofs.lemmas.Bool.{cases_eq, cases_lt, eq-eqb, eqb-true, le-ltb, lt-ltb, ne_eqb}
use Rattle.std.proofs.lemmas.List.{drop_more, get_or-take, length-drop, length-take-le, take-append-drop, take-take}
use Rattle.std.proofs.lemmas.List.Sums.{sum_by-cons}
use Rattle.cb_plain.specs.State.{Object, words_of}
use Rattle.cb_heap.specs.Occupancy.{used}
use Rattle.cb_blocks.specs.Rows.{row}
use Rattle.cb_partheap.specs.Heaps.{Heap, object_by, objects_in, part_of}
use Rattle.cb_partheap.specs.Spots.{IsSpot, Spot, serial_by, spot_where, words_by}
use Rattle.cb_partheap.specs.Whole.{IsHeap}
use Rattle.cb_partheap.specs.Words.{missing, size_at}
use Rattle.cb_partheap.proofs.Calls.{object_length}
use Rattle.cb_partheap.proofs.Found.{spot_sound, same_spot}
use Rattle.cb_partheap.proofs.Missing.{gap, missing_append}
use Rattle.cb_partheap.proofs.Reading.{by_serial, within}
use Rattle.cb_partheap.proofs.Rooms.{range_more, sum_by_map}

-- whole objects stand up to the end of one
pub missing_exact : (count : ℕ) (xs : List ℕ) → length xs ≡ count → missing count xs ≡ 0
missing_exact count [] long = sym long
missing_exact zero (x ∷ xs) long = absurd (omega (arith, long))
missing_exact (suc count) (x ∷ xs) long = missing_exact count xs (omega (arith, long))

pub whole_next : (words : List ℕ) (start : ℕ) → start + words_of (size_at words start) ≤ length words → missing 0 (take start words) ≡ 0 → missing 0 (take (start + words_of (size_at words start)) words) ≡ 0
whole_next words start inside whole =
    let next : ℕ = start + words_of (size_at words start) in
    let front : List ℕ = take next words in
    let long : length front ≡ next = length-take-le next words inside in
    let split : take start words ++ get_or words start 0 ∷ drop (start + 1) front ≡ front =
    ap (λ xs. xs ++ get_or words start 0 ∷ drop (start + 1) front) (sym (take-take start next words (omega arith)))
    ∙ ap (λ x. take start front ++ x ∷ drop (start + 1) front) (sym (get_or-take next words start 0 (omega arith)))
    ∙ ap (λ xs. take start front ++ xs) (sym (drop_more front start 0 (omega (arith, long)))) ∙ take-append-drop start front in
    ap (missing 0) (sym split) ∙ missing_append 0 (take start words) (get_or words start 0 ∷ drop (start + 1) front) ∙ ap (λ n. missing n (get_or words start 0 ∷ drop (start + 1) front)) whole
    ∙ missing_exact (suc (suc (size_at words start))) (drop (start + 1) front) (omega (arith, length-drop (start + 1) front, long))

-- the words of an object that begins in a part before a place
abbrev weight : Heap → (part place : ℕ) → Option Spot → ℕ
weight heap part place None = 0
weight heap part place (Some spot) = cond (spot.part == part && ltb spot.start place) (words_of (size_at (words_by heap.memory spot) spot.start)) 0

abbrev found_of : Heap → ℕ → Option Spot
found_of heap n = spot_where heap.memory (λ other. serial_by heap.memory other == n + 1)

abbrev weight_of : Heap → (part place n : ℕ) → ℕ
weight_of heap part place n = weight heap part place (found_of heap n)

abbrev before : Heap → (part place : ℕ) → ℕ
before heap part place = sum_by (weight_of heap part place) (range_with_len 0 (heap.next - 1))

-- an object more
weight_other : (heap : Heap) (spot : Spot) (n : ℕ) (found : Option Spot) → IsHeap heap → IsSpot heap.memory spot → n ≢ serial_by heap.memory spot - 1 → found_of heap n ≡ found →
    weight heap spot.part (spot.start + words_of (size_at (words_by heap.memory spot) spot.start)) found ≡ weight heap spot.part spot.start found
weight_other heap spot n None is here differs found = refl
weight_other heap spot n (Some other) is here differs found =
    let sound = spot_sound heap.memory (λ other. serial_by heap.memory other == n + 1) other found in
    let serial = eqb-true (serial_by heap.memory other) (n + 1) sound.1 in
    let next : ℕ = spot.start + words_of (size_at (words_by heap.memory spot) spot.start) in
    let words : ℕ = words_of (size_at (words_by heap.memory other) other.start) in
    elim (cases_eq other.part spot.part) [
      | inr apart ↦ let no = ne_eqb other.part spot.part apart in ap (λ b. cond (b && ltb other.start next) words 0) no ∙ ap (λ b. cond (b && ltb other.start spot.start) words 0) (sym no)
      | inl same ↦
          let both : ltb other.start next ≡ ltb other.start spot.start =
          elim (cases_lt other.start spot.start) [
            | inl less ↦ lt-ltb other.start next (omega (arith, less)) ∙ sym (lt-ltb other.start spot.start less)
            | inr more ↦ elim (cases_eq other.start spot.start) [
              | inl equal ↦ absurd (differs (omega (arith, serial, ap (serial_by heap.memory) (same_spot other spot same equal))))
              | inr unequal ↦
                  let there : IsSpot heap.memory (record { part = spot.part; start = other.start }) = subst (λ p. IsSpot heap.memory (record { part = p; start = other.start })) same sound.0 in
                  let past = gap (words_by heap.memory spot) spot.start other.start (omega (arith, more, unequal)) (omega (arith, there.inside)) here.whole there.whole in
                  le-ltb other.start next past ∙ sym (le-ltb other.start spot.start more)
            ]
          ] in
          ap (λ b. cond (other.part == spot.part && b) words 0) both
    ]

weight_here : (heap : Heap) (spot : Spot) → IsHeap heap → IsSpot heap.memory spot →
    weight_of heap spot.part (spot.start + words_of (size_at (words_by heap.memory spot) spot.start)) (serial_by heap.memory spot - 1)
    ≡ weight_of heap spot.part spot.start (serial_by heap.memory spot - 1) + words_of (size_at (words_by heap.memory spot) spot.start)
weight_here heap spot is here =
    let low = (is.placed spot here).low in
    let words : ℕ = words_of (size_at (words_by heap.memory spot) spot.start) in
    let found = by_serial heap spot (serial_by heap.memory spot - 1 + 1) is here (omega (arith, low)) in
    let yes = eq-eqb spot.part spot.part refl in
    let now : weight_of heap spot.part (spot.start + words) (serial_by heap.memory spot - 1) ≡ words =
    ap (weight heap spot.part (spot.start + words)) found ∙ ap (λ b. cond (b && ltb spot.start (spot.start + words)) words 0) yes ∙ ap (λ b. cond b words 0) (lt-ltb spot.start (spot.start + words) (omega arith)) in
    let was : weight_of heap spot.part spot.start (serial_by heap.memory spot - 1) ≡ 0 =
    ap (weight heap spot.part spot.start) found ∙ ap (λ b. cond (b && ltb spot.start spot.start) words 0) yes ∙ ap (λ b. cond b words 0) (le-ltb spot.start spot.start (omega arith)) in
    omega (arith, now, was)

before_next : (heap : Heap) (spot : Spot) → IsHeap heap → IsSpot heap.memory spot →
    before heap spot.part (spot.start + words_of (size_at (words_by heap.memory spot) spot.start)) ≡ before heap spot.part spot.start + words_of (size_at (words_by heap.memory spot) spot.start)
before_next heap spot is here =
    let placed = is.placed spot here in
    let words : ℕ = words_of (size_at (words_by heap.memory spot) spot.start) in
    range_more (weight_of heap spot.part spot.start) (weight_of heap spot.part (spot.start + words)) 0 (heap.next - 1) (serial_by heap.memory spot - 1) words (omega arith) (omega (arith, placed.low, placed.high))
    (λ n differs. weight_other heap spot n (found_of heap n) is here differs refl) (weight_here heap spot is here)

-- before the first place there is none
sum_none : (f : ℕ → ℕ) (a n : ℕ) → ((p : ℕ) → f p ≡ 0) → sum_by f (range_with_len a n) ≡ 0
sum_none f a zero each = refl
sum_none f a (suc n) each = omega (arith, sum_by-cons f a (range_with_len (a + 1) n), each a, sum_none f (a + 1) n each)

weight_none : (heap : Heap) (part : ℕ) (found : Option Spot) → weight heap part 0 found ≡ 0
weight_none heap part None = refl
weight_none heap part (Some spot) =
    let words : ℕ = words_of (size_at (words_by heap.memory spot) spot.start) in
    ap (λ b. cond (spot.part == part && b) words 0) (le-ltb spot.start 0 (omega arith)) ∙ elim (spot.part == part) as (λ b. cond (b && false) words 0 ≡ 0) [ true ↦ refl | false ↦ refl ]

-- up to the end of a part
climb : (heap : Heap) (part fuel place : ℕ) → IsHeap heap → part < length heap.memory.words → length (row heap.memory.words part) ≤ place + fuel → place ≤ length (row heap.memory.words part) →
    missing 0 (take place (row heap.memory.words part)) ≡ 0 → before heap part place ≡ place → before heap part (length (row heap.memory.words part)) ≡ length (row heap.memory.words part)
climb heap part zero place is below enough inside whole so_far = subst (λ n. before heap part n ≡ n) (let e : place ≡ length (row heap.memory.words part) = omega (arith, enough, inside) in e) so_far
climb heap part (suc fuel) place is below enough inside whole so_far =
    elim (cases_lt place (length (row heap.memory.words part))) [
      | inr past ↦ subst (λ n. before heap part n ≡ n) (let e : place ≡ length (row heap.memory.words part) = omega (arith, past, inside) in e) so_far
      | inl less ↦
          let spot : Spot = record { part = part; start = place } in
          let here : IsSpot heap.memory spot = record { part = below; inside = less; whole = whole } in
          let all = within heap spot is here in
          let words : ℕ = words_of (size_at (words_by heap.memory spot) place) in
          climb heap part fuel (place + words) is below (omega (arith, enough)) all (whole_next (row heap.memory.words part) place all whole) (before_next heap spot is here ∙ ap (λ n. n + words) so_far)
    ]

before_all : (heap : Heap) (part : ℕ) → IsHeap heap → part < length heap.memory.words → before heap part (length (row heap.memory.words part)) ≡ length (row heap.memory.words part)
before_all heap part is below =
    climb heap part (length (row heap.memory.words part)) 0 is below (omega arith) (omega arith) refl (sum_none (weight_of heap part 0) 0 (heap.next - 1) (λ n. weight_none heap part (found_of heap n)))

-- what is kept in a part
abbrev kept_words : Heap → ℕ → Option Object → ℕ
kept_words heap part None = 0
kept_words heap part (Some object) = cond (part_of heap.site_parts object.site == part) (words_of (length object.contents)) 0

kept_weight : (heap : Heap) (part n : ℕ) (found : Option Spot) → IsHeap heap → found_of heap n ≡ found → kept_words heap part (option_map (object_by heap) found) ≡ weight heap part (length (row heap.memory.words part)) found
kept_weight heap part n None is found = refl
kept_weight heap part n (Some spot) is found =
    let sound = spot_sound heap.memory (λ other. serial_by heap.memory other == n + 1) spot found in
    let words : ℕ = words_of (size_at (words_by heap.memory spot) spot.start) in
    ap (λ p. cond (p == part) (words_of (length (object_by heap spot).contents)) 0) (is.placed spot sound.0).here ∙ ap (λ k. cond (spot.part == part) (words_of k) 0) (object_length heap spot)
    ∙ elim (cases_eq spot.part part) [
      | inl same ↦ ap (λ b. cond b words 0) (eq-eqb spot.part part same)
          ∙ sym (ap (λ b. cond (b && ltb spot.start (length (row heap.memory.words part))) words 0) (eq-eqb spot.part part same)
          ∙ ap (λ b. cond b words 0) (lt-ltb spot.start (length (row heap.memory.words part)) (subst (λ p. spot.start < length (row heap.memory.words p)) same sound.0.inside)))
      | inr differs ↦ ap (λ b. cond b words 0) (ne_eqb spot.part part differs) ∙ sym (ap (λ b. cond (b && ltb spot.start (length (row heap.memory.words part))) words 0) (ne_eqb spot.part part differs))
    ]

used_sum : (heap : Heap) (part : ℕ) → used (part_of heap.site_parts) (objects_in heap) part ≡ sum_by (λ n. kept_words heap part (option_map (object_by heap) (found_of heap n))) (range_with_len 0 (heap.next - 1))
unfolding objects_in
used_sum heap part = sum_by_map (kept_words heap part) (λ n. option_map (object_by heap) (found_of heap n)) (range_with_len 0 (heap.next - 1))

pub used_is : (heap : Heap) (part : ℕ) → IsHeap heap → part < length heap.memory.words → used (part_of heap.site_parts) (objects_in heap) part ≡ length (row heap.memory.words part)
used_is heap part is below =
    used_sum heap part ∙ ap (λ f. sum_by f (range_with_len 0 (heap.next - 1))) (fun_ext (λ n. kept_weight heap part n (found_of heap n) is refl)) ∙ before_all heap part is below
