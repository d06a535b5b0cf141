-- Marks that are packed in words.
use Rattle.std.proofs.Common.{◌≡◌, ◌∙◌, sym, ap, refl, inl, inr, arith, ℕ, ◌+◌, ◌*◌, ◌/◌, ◌%◌, ◌<◌, ◌≤◌, Bool, true, false, List, length, get_or, set, Some, None, slice_get, nat_eq, replicate}
use Rattle.std.specs.Int.{bit_at}
use Rattle.std.proofs.lemmas.Bool.{cases_eq, cases_lt}
use Rattle.std.proofs.lemmas.Option.{slice_get-get_or}
use Rattle.std.proofs.lemmas.List.{ext_get_or, get_or-set_same, get_or-set_other, length-set, get_or-replicate, length-replicate, get_or_past}
use Rattle.std.proofs.lemmas.List.FromFn.{length-map-range_with_len, get_or-map-range_with_len}
use Rattle.std.proofs.lemmas.Nat.Bits.{bit_at-zero}
use Rattle.cb_dag.specs.Marks.{IsNext, IsNextBit, NoBit, bit_of, marked, unpacked}

pub length-unpacked : (len : ℕ) (words : List ℕ) → length (unpacked len words) ≡ len
length-unpacked len words = length-map-range_with_len (bit_of words) 0 len

pub marked-unpacked : (len place : ℕ) (words : List ℕ) → place < len → marked (unpacked len words) place ≡ bit_of words place
marked-unpacked len place words within = get_or-map-range_with_len (bit_of words) 0 len place place false within (omega arith)

pub length_seen : (len : ℕ) (words : List ℕ) (now : List Bool) → unpacked len words ≡ now → length now ≡ len
length_seen len words now is = ap length (sym is) ∙ length-unpacked len words

-- no bit, no mark
zero_word : (n k : ℕ) → ◌≡◌ {A = ℕ} (get_or (replicate n 0) k 0) 0
zero_word n k = elim (cases_lt k n) [ inl l ↦ get_or-replicate n k 0 0 l | inr p ↦ get_or_past (replicate n 0) k 0 (omega (arith, length-replicate {A = ℕ} n 0)) ]

pub unpacked_nothing : (len n : ℕ) → unpacked len (replicate n 0) ≡ replicate len false
unpacked_nothing len n =
    ext_get_or false (unpacked len (replicate n 0)) (replicate len false) (length-unpacked len (replicate n 0) ∙ sym (length-replicate len false))
    (λ i within.
    let below : i < len = omega (arith, within, length-unpacked len (replicate n 0)) in
    marked-unpacked len i (replicate n 0) below ∙ ap (λ w. nat_eq (bit_at w (i % 64)) 1) (zero_word n (i / 64)) ∙ ap (λ b. nat_eq b 1) (bit_at-zero (i % 64)) ∙ sym (get_or-replicate len i false false below))

pub has_seen : (len place : ℕ) (words : List ℕ) (now : List Bool) (answer : Bool) → unpacked len words ≡ now → place < length now → answer ≡ bit_of words place
    → slice_get now place ≡ Some answer
has_seen len place words now answer is within same =
    slice_get-get_or now place false within
    ∙ ap Some (ap (λ marks. marked marks place) (sym is) ∙ marked-unpacked len place words (omega (arith, within, length_seen len words now is)) ∙ sym same)

-- one bit more, one mark more
module _ (words : List ℕ) (place word : ℕ) (within : place < 64 * length words) (same : bit_at word (place % 64) ≡ 1)
    (others : (other : ℕ) → other < 64 → (other ≡ place % 64 → ⊥) → bit_at word other ≡ bit_at (get_or words (place / 64) 0) other) where
  bit_of-set_same : bit_of (set words (place / 64) word) place ≡ true
  bit_of-set_same = ap (λ w. nat_eq (bit_at w (place % 64)) 1) (get_or-set_same words (place / 64) word 0 (omega arith)) ∙ ap (λ b. nat_eq b 1) same

  bit_of-set_other : (other : ℕ) → (other ≡ place → ⊥) → bit_of (set words (place / 64) word) other ≡ bit_of words other
  bit_of-set_other other apart =
      elim (cases_eq (other / 64) (place / 64)) [
        | inl e ↦
            ap (λ k. nat_eq (bit_at (get_or (set words (place / 64) word) k 0) (other % 64)) 1) e
            ∙ ap (λ w. nat_eq (bit_at w (other % 64)) 1) (get_or-set_same words (place / 64) word 0 (omega arith))
            ∙ ap (λ b. nat_eq b 1) (others (other % 64) (omega arith) (λ f. apart (omega (arith, e, f))))
            ∙ ap (λ k. nat_eq (bit_at (get_or words k 0) (other % 64)) 1) (sym e)
        | inr n ↦ ap (λ w. nat_eq (bit_at w (other % 64)) 1) (get_or-set_other words (place / 64) (other / 64) word 0 n)
      ]

  pub unpacked-set : (len : ℕ) (now : List Bool) → unpacked len words ≡ now → place < length now → unpacked len (set words (place / 64) word) ≡ set now place true
  unpacked-set len now is inside =
      ext_get_or false (unpacked len (set words (place / 64) word)) (set now place true)
      (length-unpacked len (set words (place / 64) word) ∙ sym (length_seen len words now is) ∙ sym (length-set now place true))
      (λ i at.
      let below : i < len = omega (arith, at, length-unpacked len (set words (place / 64) word)) in
      marked-unpacked len i (set words (place / 64) word) below
      ∙ elim (cases_eq i place) [
        | inl e ↦ ap (bit_of (set words (place / 64) word)) e ∙ bit_of-set_same ∙ sym (ap (marked (set now place true)) e ∙ get_or-set_same now place true false inside)
        | inr n ↦ bit_of-set_other i n ∙ sym (marked-unpacked len i words below) ∙ ap (λ marks. marked marks i) is ∙ sym (get_or-set_other now place i true false n)
      ])

-- the next bit, word by word
bit_in : (words : List ℕ) (place index at : ℕ) → place / 64 ≡ index → place % 64 ≡ at → bit_of words place ≡ nat_eq (bit_at (get_or words index 0) at) 1
bit_in words place index at e f = ap (λ k. nat_eq (bit_at (get_or words k 0) (place % 64)) 1) e ∙ ap (λ k. nat_eq (bit_at (get_or words index 0) k) 1) f

module _ (words : List ℕ) (from word : ℕ) (high : (bit : ℕ) → from % 64 ≤ bit → bit < 64 → bit_at word bit ≡ bit_at (get_or words (from / 64) 0) bit) where
  pub first_without : word ≡ 0 → NoBit words from (64 * (from / 64 + 1))
  first_without none = λ place low up.
      bit_in words place (from / 64) (place % 64) (omega (arith, low, up)) refl
      ∙ ap (λ b. nat_eq b 1) (sym (high (place % 64) (omega (arith, low, up)) (omega arith)) ∙ ap (λ w. bit_at w (place % 64)) none ∙ bit_at-zero (place % 64))

  pub first_with : (low : (bit : ℕ) → bit < from % 64 → bit_at word bit ≡ 0) (at : ℕ) → at < 64 → bit_at word at ≡ 1 → ((bit : ℕ) → bit < at → bit_at word bit ≡ 0)
      → IsNextBit words from (Some (from / 64 * 64 + at))
  first_with low at small on lowest = (omega (arith, reach), there, before)
    where
      reach : from % 64 ≤ at
      reach = elim (cases_lt at (from % 64)) [ inl l ↦ absurd (let zero : bit_at word at ≡ 0 = low at l in omega (arith, zero, on)) | inr p ↦ p ]

      there : bit_of words (from / 64 * 64 + at) ≡ true
      there = bit_in words (from / 64 * 64 + at) (from / 64) at (omega arith) (omega arith) ∙ ap (λ b. nat_eq b 1) (sym (high at reach small) ∙ on)

      before : NoBit words from (from / 64 * 64 + at)
      before = λ place first last.
          bit_in words place (from / 64) (place % 64) (omega (arith, first, last)) refl
          ∙ ap (λ b. nat_eq b 1) (sym (high (place % 64) (omega (arith, first, last)) (omega arith)) ∙ lowest (place % 64) (omega (arith, first, last)))

module _ (words : List ℕ) (from index : ℕ) (past : from ≤ 64 * index) (none : NoBit words from (64 * index)) where
  pub none_more : get_or words index 0 ≡ 0 → NoBit words from (64 * (index + 1))
  none_more zero = λ place low up. elim (cases_lt place (64 * index)) [
    | inl l ↦ none place low l
    | inr p ↦
        bit_in words place index (place % 64) (omega (arith, p, up)) refl ∙ ap (λ w. nat_eq (bit_at w (place % 64)) 1) zero ∙ ap (λ b. nat_eq b 1) (bit_at-zero (place % 64))
  ]

  pub then_with : (at : ℕ) → at < 64 → bit_at (get_or words index 0) at ≡ 1 → ((bit : ℕ) → bit < at → bit_at (get_or words index 0) bit ≡ 0)
      → IsNextBit words from (Some (index * 64 + at))
  then_with at small on lowest = (omega (arith, past), bit_in words (index * 64 + at) index at (omega arith) (omega arith) ∙ ap (λ b. nat_eq b 1) on, before)
    where
      before : NoBit words from (index * 64 + at)
      before = λ place low up. elim (cases_lt place (64 * index)) [
        | inl l ↦ none place low l
        | inr p ↦ bit_in words place index (place % 64) (omega (arith, p, up)) refl ∙ ap (λ b. nat_eq b 1) (lowest (place % 64) (omega (arith, p, up)))
      ]

-- what is found among the bits, as marks
module _ (len from : ℕ) (words : List ℕ) (now : List Bool) (is : unpacked len words ≡ now) where
  seen_at : (place : ℕ) → place < len → marked now place ≡ bit_of words place
  seen_at place within = ap (λ marks. marked marks place) (sym is) ∙ marked-unpacked len place words within

  past_end : (place : ℕ) → len ≤ place → marked now place ≡ false
  past_end place past = get_or_past now place false (omega (arith, past, length_seen len words now is))

  none_from : (last : ℕ) → len ≤ last → NoBit words from last → IsNext now from None
  none_from last far none = λ place low. elim (cases_lt place len) [ inl l ↦ seen_at place l ∙ none place low (omega (arith, l, far)) | inr p ↦ past_end place p ]

  pub next_past : len ≤ from → IsNext now from None
  next_past past = λ place low. past_end place (omega (arith, past, low))

  pub next_none : len ≤ 64 * length words → NoBit words from (64 * length words) → IsNext now from None
  next_none room none = none_from (64 * length words) room none

  pub next_far : (place : ℕ) → len ≤ place → IsNextBit words from (Some place) → IsNext now from None
  next_far place far found = none_from place far found.2

  pub next_found : (place : ℕ) → place < len → IsNextBit words from (Some place) → IsNext now from (Some place)
  next_found place within found = (found.0, seen_at place within ∙ found.1, λ other low up. seen_at other (omega (arith, up, within)) ∙ found.2 other low up)
