-- No object is marked that wasn't.
use Rattle.std.proofs.Common.{◌≡◌, ◌≢◌, ◌∙◌, ℕ, ◌+◌, ◌*◌, ◌/◌, ◌%◌, ◌^◌, ◌<◌, ◌≤◌, List, [], ◌++◌, length, get_or, take, sym, ap, arith, subst, inl, inr, length-append, length-set}
use Rattle.std.proofs.lemmas.Bool.{cases_eq, cases_lt}
use Rattle.std.proofs.lemmas.List.{get_or-append-add, get_or-replicate, get_or_append_left, length-replicate, take-append-le, take_all}
use Rattle.cb_plain.specs.declared.shape.Shape.{Shape}
use Rattle.cb_plain.specs.Requests.{words_at}
use Rattle.cb_plain.specs.State.{words_of}
use Rattle.cb_dag.specs.Parts.{Condensed}
use Rattle.cb_blocks.specs.Parted.{Parted, empty_parts}
use Rattle.cb_blocks.specs.Rows.{row}
use Rattle.cb_partheap.specs.Added.{IsAdded}
use Rattle.cb_partheap.specs.Heaps.{Heap, part_of, with_object, with_word}
use Rattle.cb_partheap.specs.Made.{IsMade}
use Rattle.cb_partheap.specs.Spots.{IsSpot, Spot, words_by}
use Rattle.cb_partheap.specs.Whole.{IsHeap}
use Rattle.cb_partheap.specs.Words.{blank_words, mark_at, missing, size_at}
use Rattle.cb_partheap.proofs.Alike.{spot_alike}
use Rattle.cb_partheap.proofs.Inner.{IsInner, inner_alike, row_other, row_same, with_inner, word_elsewhere}
use Rattle.cb_partheap.proofs.Missing.{gap}
use Rattle.cb_partheap.proofs.Reading.{within}
use Rattle.cb_partheap.specs.MarkLaws.{StayUnmarked}
use Rattle.cb_partheap.specs.Marks.{IsUnmarked}

-- a heap without objects
no_spot : (blocks parts : ℕ) (spot : Spot) → IsSpot (empty_parts blocks parts) spot → ⊥
no_spot blocks parts spot here =
    let below : spot.part < parts = omega (arith, here.part, length-replicate {A = List ℕ} parts []) in
    let empty : row (empty_parts blocks parts).words spot.part ≡ [] = get_or-replicate parts spot.part [] [] below in
    absurd (omega (arith, here.inside, ap length empty))

pub made : (shapes : List Shape) (site_parts : List ℕ) (graph : Condensed) (blocks : ℕ) (heap : Heap) → IsMade shapes site_parts graph blocks heap → IsUnmarked heap
made shapes site_parts graph blocks heap m = record { each = λ spot here. absurd (no_spot blocks graph.parts spot (subst (λ memory. IsSpot memory spot) m.memory here)) }

-- what was there when an object is placed, and what is there then
record IsBehind (heap : Heap) (memory : Parted) (site kind size : ℕ) : Type 0 where
  pub is : IsHeap heap
  pub none : IsUnmarked heap
  pub known : site < length heap.site_parts
  pub narrow : kind < 2 ^ 32
  pub added : IsAdded heap.memory memory (part_of heap.site_parts site) (blank_words kind size heap.next site)

long_blank : (kind size serial site : ℕ) → length (blank_words kind size serial site) ≡ words_of size
long_blank kind size serial site = let zeros = length-replicate {A = ℕ} size 0 in omega (arith, zeros)

old_unmarked : (heap : Heap) (memory : Parted) (spot : Spot) → IsHeap heap → IsUnmarked heap → IsSpot heap.memory spot →
    get_or (words_by memory spot) (spot.start + 2) 0 ≡ get_or (words_by heap.memory spot) (spot.start + 2) 0 → mark_at (words_by memory spot) spot.start ≡ 0
old_unmarked heap memory spot is none here same = ap (λ w. w / 2 ^ 14) same ∙ none.each spot here

module _ (heap : Heap) (memory : Parted) (site kind size : ℕ) (n : IsBehind heap memory site kind size) where
  count_same : length memory.words ≡ length heap.memory.words
  count_same = ap length n.added.words_are ∙ length-set heap.memory.words (part_of heap.site_parts site) (row heap.memory.words (part_of heap.site_parts site) ++ blank_words kind size heap.next site)

  row_apart : (part : ℕ) → part ≢ part_of heap.site_parts site → row memory.words part ≡ row heap.memory.words part
  row_apart part differs = ap (λ rows. row rows part) n.added.words_are ∙ row_other heap.memory.words (part_of heap.site_parts site) part (row heap.memory.words (part_of heap.site_parts site) ++ blank_words kind size heap.next site) differs

  row_longer : (part : ℕ) → part ≡ part_of heap.site_parts site → row memory.words part ≡ row heap.memory.words part ++ blank_words kind size heap.next site
  row_longer part same =
      ap (row memory.words) same ∙ ap (λ rows. row rows (part_of heap.site_parts site)) n.added.words_are
      ∙ row_same heap.memory.words (part_of heap.site_parts site) (row heap.memory.words (part_of heap.site_parts site) ++ blank_words kind size heap.next site) (n.is.site_within site n.known)
      ∙ ap (λ p. row heap.memory.words p ++ blank_words kind size heap.next site) (sym same)

  apart_unmarked : (spot : Spot) → IsSpot memory spot → spot.part ≢ part_of heap.site_parts site → mark_at (words_by memory spot) spot.start ≡ 0
  apart_unmarked spot there differs =
      let same = row_apart spot.part differs in
      let here : IsSpot heap.memory spot = record {
        part = omega (arith, there.part, count_same);
        inside = omega (arith, there.inside, ap length same);
        whole = ap (λ xs. missing 0 (take spot.start xs)) (sym same) ∙ there.whole;
      } in
      old_unmarked heap memory spot n.is n.none here (ap (λ xs. get_or xs (spot.start + 2) 0) same)

  before_unmarked : (spot : Spot) → IsSpot memory spot → spot.part ≡ part_of heap.site_parts site → spot.start < length (words_by heap.memory spot) → mark_at (words_by memory spot) spot.start ≡ 0
  before_unmarked spot there same below =
      let old : List ℕ = words_by heap.memory spot in
      let more : List ℕ = blank_words kind size heap.next site in
      let longer : words_by memory spot ≡ old ++ more = row_longer spot.part same in
      let here : IsSpot heap.memory spot = record {
        part = omega (arith, there.part, count_same);
        inside = below;
        whole = ap (missing 0) (sym (take-append-le spot.start old more (omega (arith, below)))) ∙ ap (λ xs. missing 0 (take spot.start xs)) (sym longer) ∙ there.whole;
      } in
      let inside = within heap spot n.is here in
      old_unmarked heap memory spot n.is n.none here (ap (λ xs. get_or xs (spot.start + 2) 0) longer ∙ get_or_append_left old more 0 (spot.start + 2) (omega (arith, inside)))

  new_unmarked : (spot : Spot) → IsSpot memory spot → spot.part ≡ part_of heap.site_parts site → length (words_by heap.memory spot) ≤ spot.start → mark_at (words_by memory spot) spot.start ≡ 0
  new_unmarked spot there same past =
      let old : List ℕ = words_by heap.memory spot in
      let more : List ℕ = blank_words kind size heap.next site in
      let longer : words_by memory spot ≡ old ++ more = row_longer spot.part same in
      let long : length (words_by memory spot) ≡ length old + words_of size = ap length longer ∙ length-append old more ∙ ap (λ k. length old + k) (long_blank kind size heap.next site) in
      let all : missing 0 (take (length old) (words_by memory spot)) ≡ 0 =
      ap (λ xs. missing 0 (take (length old) xs)) longer ∙ ap (missing 0) (take-append-le (length old) old more (omega arith) ∙ take_all (length old) old (omega arith)) ∙ n.is.whole spot.part (omega (arith, there.part, count_same)) in
      let none : length old ≡ length old + 0 = omega arith in
      let first : get_or (words_by memory spot) (length old) 0 ≡ kind + size * 2 ^ 32 = ap (λ xs. get_or xs (length old) 0) longer ∙ ap (λ i. get_or (old ++ more) i 0) none ∙ get_or-append-add old more 0 0 in
      let size_is : size_at (words_by memory spot) (length old) ≡ size = ap (λ w. w / 2 ^ 32) first ∙ (let e : (kind + size * 2 ^ 32) / 2 ^ 32 ≡ size = omega (arith, n.narrow) in e) in
      elim (cases_eq spot.start (length old)) [
        | inl equal ↦
            let third : get_or (words_by memory spot) (spot.start + 2) 0 ≡ site = ap (λ xs. get_or xs (spot.start + 2) 0) longer ∙ ap (λ i. get_or (old ++ more) (i + 2) 0) equal ∙ get_or-append-add old more 2 0 in
            ap (λ w. w / 2 ^ 14) third ∙ (let e : site / 2 ^ 14 ≡ 0 = omega (arith, n.known, n.is.sites) in e)
        | inr differs ↦ absurd (omega (arith, there.inside, long, size_is, gap (words_by memory spot) (length old) spot.start (omega (arith, past, differs)) (omega (arith, there.inside)) all there.whole))
      ]

  each_unmarked : (spot : Spot) → IsSpot memory spot → mark_at (words_by memory spot) spot.start ≡ 0
  each_unmarked spot there =
      elim (cases_eq spot.part (part_of heap.site_parts site)) [
        | inr differs ↦ apart_unmarked spot there differs
        | inl same ↦ elim (cases_lt spot.start (length (words_by heap.memory spot))) [
          | inl below ↦ before_unmarked spot there same below
          | inr past ↦ new_unmarked spot there same past
        ]
      ]

pub placed : (heap : Heap) (memory : Parted) (site kind size : ℕ) → IsHeap heap → IsUnmarked heap → words_of size ≤ words_at heap.granted site → kind < 2 ^ 32 →
    IsAdded heap.memory memory (part_of heap.site_parts site) (blank_words kind size heap.next site) → IsUnmarked (with_object heap memory site size)
placed heap memory site kind size is none fits narrow added =
    record { each = each_unmarked heap memory site kind size (record { is = is; none = none; known = is.known site (omega (arith, fits)); narrow = narrow; added = added }) }

-- another word of contents
pub written : (heap : Heap) (spot : Spot) (i word : ℕ) → IsHeap heap → IsUnmarked heap → IsSpot heap.memory spot → i < size_at (words_by heap.memory spot) spot.start → IsUnmarked (with_word heap spot i word)
written heap spot i word is none here below =
    let inner : IsInner heap spot (3 + i) = record { is = is; here = here; behind = omega arith; below = omega (arith, below) } in
    let third : (other : Spot) → IsSpot heap.memory other → get_or (words_by (with_inner heap.memory spot (3 + i) word) other) (other.start + 2) 0 ≡ get_or (words_by heap.memory other) (other.start + 2) 0 =
    λ other there. word_elsewhere heap spot other (3 + i) word 2 inner there (omega arith) (λ same equal. absurd (omega (arith, equal))) in
    let alike = inner_alike heap spot (3 + i) word inner (λ other there. ap (λ w. w % 2 ^ 14) (third other there)) in
    record {
      each = λ other there.
          let before = spot_alike heap.memory (with_inner heap.memory spot (3 + i) word) other alike there in
          ap (λ w. w / 2 ^ 14) (third other before) ∙ none.each other before;
    }

pub stay_unmarked : StayUnmarked
stay_unmarked = record { made = made; granted = λ heap wants none. record { each = none.each }; placed = placed; written = written }
