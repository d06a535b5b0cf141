-- Marks that are packed in words.
use Rattle.std.proofs.Common.{◌≡◌, ◌∙◌, sym, ap, inl, inr, arith, ℕ, ◌*◌, ◌/◌, ◌%◌, ◌<◌, Bool, true, false, List, length, get_or, set, Some, slice_get, nat_eq, replicate}
use Rattle.std.specs.Int.{bit_at}
use Rattle.std.proofs.lemmas.Bool.{cases_eq, cases_lt}
use Rattle.std.proofs.lemmas.Option.{slice_get-get_or}
use Rattle.std.proofs.lemmas.List.{ext_get_or, get_or-set_same, get_or-set_other, length-set, get_or-replicate, length-replicate, get_or_past}
use Rattle.std.proofs.lemmas.List.FromFn.{length-map-range_with_len, get_or-map-range_with_len}
use Rattle.std.proofs.lemmas.Nat.Bits.{bit_at-zero}
use Rattle.cb_points_to.specs.Packed.{bit_of, marked, unpacked}

pub length-unpacked : (len : ℕ) (words : List ℕ) → length (unpacked len words) ≡ len
length-unpacked len words = length-map-range_with_len (bit_of words) 0 len

pub marked-unpacked : (len place : ℕ) (words : List ℕ) → place < len → marked (unpacked len words) place ≡ bit_of words place
marked-unpacked len place words within = get_or-map-range_with_len (bit_of words) 0 len place place false within (omega arith)

pub length_seen : (len : ℕ) (words : List ℕ) (now : List Bool) → unpacked len words ≡ now → length now ≡ len
length_seen len words now is = ap length (sym is) ∙ length-unpacked len words

-- no bit, no mark
zero_word : (n k : ℕ) → ◌≡◌ {A = ℕ} (get_or (replicate n 0) k 0) 0
zero_word n k = elim (cases_lt k n) [ inl l ↦ get_or-replicate n k 0 0 l | inr p ↦ get_or_past (replicate n 0) k 0 (omega (arith, length-replicate {A = ℕ} n 0)) ]

pub unpacked_nothing : (len n : ℕ) → unpacked len (replicate n 0) ≡ replicate len false
unpacked_nothing len n =
    ext_get_or false (unpacked len (replicate n 0)) (replicate len false) (length-unpacked len (replicate n 0) ∙ sym (length-replicate len false))
    (λ i within.
    let below : i < len = omega (arith, within, length-unpacked len (replicate n 0)) in
    marked-unpacked len i (replicate n 0) below ∙ ap (λ w. nat_eq (bit_at w (i % 64)) 1) (zero_word n (i / 64)) ∙ ap (λ b. nat_eq b 1) (bit_at-zero (i % 64)) ∙ sym (get_or-replicate len i false false below))

pub has_seen : (len place : ℕ) (words : List ℕ) (now : List Bool) (answer : Bool) → unpacked len words ≡ now → place < length now → answer ≡ bit_of words place
    → slice_get now place ≡ Some answer
has_seen len place words now answer is within same =
    slice_get-get_or now place false within
    ∙ ap Some (ap (λ marks. marked marks place) (sym is) ∙ marked-unpacked len place words (omega (arith, within, length_seen len words now is)) ∙ sym same)

-- one bit more, one mark more
module _ (words : List ℕ) (place word : ℕ) (within : place < 64 * length words) (same : bit_at word (place % 64) ≡ 1)
    (others : (other : ℕ) → other < 64 → (other ≡ place % 64 → ⊥) → bit_at word other ≡ bit_at (get_or words (place / 64) 0) other) where
  bit_of-set_same : bit_of (set words (place / 64) word) place ≡ true
  bit_of-set_same = ap (λ w. nat_eq (bit_at w (place % 64)) 1) (get_or-set_same words (place / 64) word 0 (omega arith)) ∙ ap (λ b. nat_eq b 1) same

  bit_of-set_other : (other : ℕ) → (other ≡ place → ⊥) → bit_of (set words (place / 64) word) other ≡ bit_of words other
  bit_of-set_other other apart =
      elim (cases_eq (other / 64) (place / 64)) [
        | inl e ↦
            ap (λ k. nat_eq (bit_at (get_or (set words (place / 64) word) k 0) (other % 64)) 1) e
            ∙ ap (λ w. nat_eq (bit_at w (other % 64)) 1) (get_or-set_same words (place / 64) word 0 (omega arith))
            ∙ ap (λ b. nat_eq b 1) (others (other % 64) (omega arith) (λ f. apart (omega (arith, e, f))))
            ∙ ap (λ k. nat_eq (bit_at (get_or words k 0) (other % 64)) 1) (sym e)
        | inr n ↦ ap (λ w. nat_eq (bit_at w (other % 64)) 1) (get_or-set_other words (place / 64) (other / 64) word 0 n)
      ]

  pub unpacked-set : (len : ℕ) (now : List Bool) → unpacked len words ≡ now → place < length now → unpacked len (set words (place / 64) word) ≡ set now place true
  unpacked-set len now is inside =
      ext_get_or false (unpacked len (set words (place / 64) word)) (set now place true)
      (length-unpacked len (set words (place / 64) word) ∙ sym (length_seen len words now is) ∙ sym (length-set now place true))
      (λ i at.
      let below : i < len = omega (arith, at, length-unpacked len (set words (place / 64) word)) in
      marked-unpacked len i (set words (place / 64) word) below
      ∙ elim (cases_eq i place) [
        | inl e ↦ ap (bit_of (set words (place / 64) word)) e ∙ bit_of-set_same ∙ sym (ap (marked (set now place true)) e ∙ get_or-set_same now place true false inside)
        | inr n ↦ bit_of-set_other i n ∙ sym (marked-unpacked len i words below) ∙ ap (λ marks. marked marks i) is ∙ sym (get_or-set_other now place i true false n)
      ])
