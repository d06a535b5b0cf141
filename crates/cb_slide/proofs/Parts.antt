-- The objects of one part before and after.
use Rattle.std.proofs.Common.{◌≡◌, ◌∙◌, ℕ, ◌+◌, ◌/◌, ◌^◌, ◌<◌, ◌≤◌, List, length, get_or, take, refl, sym, ap, arith, inl, inr, ◌⊎◌}
use Rattle.std.proofs.lemmas.Bool.{cases_lt}
use Rattle.std.proofs.lemmas.List.{take_all}
use Rattle.cb_plain.specs.State.{words_of}
use Rattle.cb_partheap.specs.Words.{mark_at, missing, size_at}
use Rattle.cb_partheap.proofs.Laws.{gap, whole_next}
use Rattle.cb_slide.specs.Slid.{IsObject, slid_to}
use Rattle.cb_slide.proofs.Walk.{gone_next, kept_next, slid_before, walk}

-- what is at the front of a part begins with the marked objects' first words
pub record IsFront (old after : List ℕ) : Type 0 where
  pub all : missing 0 old ≡ 0
  pub long : length after ≡ slid_to old (length old)
  pub heads : (start : ℕ) → IsObject old start → 0 < mark_at old start → get_or after (slid_to old start) 0 ≡ get_or old start 0

-- an object that comes to a place
pub record Comes (old : List ℕ) (place : ℕ) : Type 0 where
  pub start : ℕ
  pub object : IsObject old start
  pub kept : 0 < mark_at old start
  pub there : slid_to old start ≡ place

module _ {old after : List ℕ} (f : IsFront old after) where
  end_whole : missing 0 (take (length old) old) ≡ 0
  end_whole = ap (missing 0) (take_all (length old) old (omega arith)) ∙ f.all

  size_after : (start : ℕ) → IsObject old start → 0 < mark_at old start → size_at after (slid_to old start) ≡ size_at old start
  size_after start object kept = ap (λ w. w / 2 ^ 32) (f.heads start object kept)

  pub fits_after : (start : ℕ) → IsObject old start → 0 < mark_at old start → slid_to old start + words_of (size_at old start) ≤ length after
  fits_after start object kept = omega (arith, f.long, slid_before old start (length old) object kept object.inside (omega arith) end_whole)

  -- whole objects stand before
  pub whole_after : (n : ℕ) → n ≤ length old → missing 0 (take n old) ≡ 0 → missing 0 (take (slid_to old n) after) ≡ 0
  whole_after n inside whole =
      walk old (λ k. missing 0 (take (slid_to old k) after) ≡ 0) n inside whole
      (λ start object end before. elim (cases_lt 0 (mark_at old start)) [
        | inl kept ↦
            let next = kept_next old start object (omega (arith, end, inside)) kept in
            let fits : slid_to old start + words_of (size_at after (slid_to old start)) ≤ length after = omega (arith, size_after start object kept, fits_after start object kept) in
            let here = whole_next after (slid_to old start) fits before in
            ap (λ k. missing 0 (take k after)) (next ∙ ap (λ k. slid_to old start + words_of k) (sym (size_after start object kept))) ∙ here
        | inr gone ↦ ap (λ k. missing 0 (take k after)) (gone_next old start object (omega (arith, end, inside)) (omega (arith, gone))) ∙ before
      ]) refl

  pub all_after : missing 0 after ≡ 0
  all_after = ap (missing 0) (sym (take_all (slid_to old (length old)) after (omega (arith, f.long)))) ∙ whole_after (length old) (omega arith) end_whole

  -- and each of them came from somewhere
  comes_by : (place : ℕ) → IsObject after place → (n : ℕ) → n ≤ length old → missing 0 (take n old) ≡ 0 → (slid_to old n ≤ place) ⊎ Comes old place
  comes_by place there n inside whole =
      walk old (λ k. (slid_to old k ≤ place) ⊎ Comes old place) n inside whole
      (λ start object end so_far. elim so_far [
        | inr comes ↦ inr comes
        | inl low ↦ elim (cases_lt 0 (mark_at old start)) [
          | inr gone ↦ inl (omega (arith, low, gone_next old start object (omega (arith, end, inside)) (omega (arith, gone))))
          | inl kept ↦ elim (cases_lt (slid_to old start) place) [
            | inr past ↦ inr (record { start = start; object = object; kept = kept; there = (let e : slid_to old start ≡ place = omega (arith, low, past) in e) })
            | inl less ↦
                let ends = gap after (slid_to old start) place less (omega (arith, there.inside)) (whole_after start (omega (arith, object.inside)) object.whole) there.whole in
                inl (omega (arith, ends, size_after start object kept, kept_next old start object (omega (arith, end, inside)) kept))
          ]
        ]
      ]) (inl (omega arith))

  pub comes_from : (place : ℕ) → IsObject after place → Comes old place
  comes_from place there =
      elim (comes_by place there (length old) (omega arith) end_whole) [
        | inl past ↦ absurd (omega (arith, past, there.inside, f.long))
        | inr comes ↦ comes
      ]
