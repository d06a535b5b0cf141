-- Where the words of parts end.
use Rattle.std.proofs.Common.{◌≡◌, ◌∙◌, ℕ, ◌+◌, ◌-◌, ◌*◌, ◌/◌, ◌%◌, ◌<◌, ◌≤◌, ◌^◌, ◌≢◌, List, length, get_or, set, replicate, refl, sym, ap, subst, arith, length-set, get_or-set_same, get_or-set_other, inl, inr}
use Rattle.std.proofs.lemmas.Bool.{cases_eq, cases_lt}
use Rattle.std.proofs.lemmas.List.{get_or-replicate, length-replicate}
use Rattle.cb_raw.specs.Words.{RawWords}
use Rattle.cb_blocks.specs.Holdings.{Held}
use Rattle.cb_blocks.specs.Parted.{AreEnds, IsBlocks, IsEnd, IsEnded, IsGrown, IsOpened, blocks_for, room_behind}
use Rattle.cb_blocks.specs.Rows.{place_in, row}
use Rattle.cb_blocks.proofs.Changed.{grown_blocks, grown_parts}
use Rattle.cb_blocks.proofs.Opened.{not_opened}
use Rattle.cb_blocks.proofs.Parted.{parts_of, place_touched, room_of}
use Rattle.cb_blocks.proofs.Rowed.{row_set_other, row_within}

-- a part ends within the region
pub end_small : (region : RawWords) (blocks : Held) (used ends : List ℕ) (part : ℕ) → IsEnded region blocks used ends → part < length used → get_or ends part 0 ≤ 2 ^ 28
end_small region blocks used ends part is below =
    let end = is.ends_are.each part below in
    elim (cases_lt 0 (get_or used part 0)) [
      | inl some ↦
          let touched = place_touched region blocks used part (get_or used part 0 - 1) is.blocks_are below (omega (arith, some, room_of region blocks used part is.blocks_are below)) in
          omega (arith, end.some some, touched, is.blocks_are.touched, is.blocks_are.laid.sound.within, is.blocks_are.laid.sound.bound)
      | inr none ↦ omega (arith, end.none (omega (arith, none)))
    ]

-- words end at one place
pub one_end : (blocks : List ℕ) (used end end' : ℕ) → IsEnd blocks used end → IsEnd blocks used end' → end ≡ end'
one_end blocks used end end' is is' =
    elim (cases_lt 0 used) [
      | inl some ↦ is.some some ∙ sym (is'.some some)
      | inr none ↦ is.none (omega (arith, none)) ∙ sym (is'.none (omega (arith, none)))
    ]

-- words that fit behind an end lie in the block of the word before it
pub same_blocks : (blocks : List ℕ) (used end words : ℕ) → IsEnd blocks used end → words ≤ room_behind end → blocks_for (used + words) ≡ blocks_for used
same_blocks blocks used end words is fits =
    elim (cases_lt 0 used) [
      | inl some ↦ omega (arith, is.some some, some, fits)
      | inr none ↦ omega (arith, is.none (omega (arith, none)), none, fits)
    ]

pub end_further : (blocks : List ℕ) (used end words : ℕ) → IsEnd blocks used end → words ≤ room_behind end → IsEnd blocks (used + words) (end + words)
end_further blocks used end words is fits =
    elim (cases_lt 0 used) [
      | inl some ↦
          let page : (used + words - 1) / 256 ≡ (used - 1) / 256 = omega (arith, is.some some, some, fits) in
          let rest : (used + words - 1) % 256 ≡ (used - 1) % 256 + words = omega (arith, is.some some, some, fits) in
          record {
            none = λ e. absurd (omega (arith, e, some));
            some = λ h. sym (ap (λ n. get_or blocks n 0 * 256 + (used + words - 1) % 256 + 1) page ∙ omega (arith, rest, is.some some));
          }
      | inr none ↦
          let no : words ≡ 0 = omega (arith, is.none (omega (arith, none)), fits) in
          record { none = λ e. omega (arith, no, is.none (omega (arith, none))); some = λ h. absurd (omega (arith, h, no, none)) }
    ]

-- the next word stands there
pub end_place : (blocks : List ℕ) (used end words : ℕ) → IsEnd blocks used end → words ≤ room_behind end → 0 < words → place_in 256 blocks used ≡ end
end_place blocks used end words is fits more =
    elim (cases_lt 0 used) [
      | inl some ↦
          let page : used / 256 ≡ (used - 1) / 256 = omega (arith, is.some some, some, fits, more) in
          let rest : used % 256 ≡ (used - 1) % 256 + 1 = omega (arith, is.some some, some, fits, more) in
          ap (λ n. get_or blocks n 0 * 256 + used % 256) page ∙ omega (arith, rest, is.some some)
      | inr none ↦ absurd (omega (arith, is.none (omega (arith, none)), fits, more))
    ]

-- another end of a part
pub ends_set : (rows rows' : List (List ℕ)) (used ends : List ℕ) (part count end : ℕ) → AreEnds rows used ends → part < length used → ((other : ℕ) → other ≢ part → row rows' other ≡ row rows other)
    → IsEnd (row rows' part) count end → AreEnds rows' (set used part count) (set ends part end)
ends_set rows rows' used ends part count end are below same is = record {
  long = length-set ends part end ∙ are.long ∙ sym (length-set used part count);
  each = λ other h. elim (cases_eq other part) [
    | inl equal ↦
        let there : part < length ends = omega (arith, below, are.long) in
        subst (λ p. IsEnd (row rows' p) (get_or (set used part count) p 0) (get_or (set ends part end) p 0)) (sym equal)
        (subst (λ n. IsEnd (row rows' part) n (get_or (set ends part end) part 0)) (sym (get_or-set_same used part count 0 below))
        (subst (IsEnd (row rows' part) count) (sym (get_or-set_same ends part end 0 there)) is))
    | inr differs ↦
        subst (λ n. IsEnd (row rows' other) n (get_or (set ends part end) other 0)) (sym (get_or-set_other used part other count 0 differs))
        (subst (IsEnd (row rows' other) (get_or used other 0)) (sym (get_or-set_other ends part other end 0 differs))
        (subst (λ xs. IsEnd xs (get_or used other 0) (get_or ends other 0)) (sym (same other differs)) (are.each other (subst (λ n. other < n) (length-set used part count) h))))
  ];
}

-- parts without words
pub no_ends : (rows : List (List ℕ)) (parts : ℕ) → AreEnds rows (replicate parts 0) (replicate parts 0)
no_ends rows parts = record {
  long = refl;
  each = λ part h.
      let none : get_or (replicate parts 0) part 0 ≡ 0 = get_or-replicate parts part 0 0 (subst (λ n. part < n) (length-replicate parts 0) h) in
      record { none = λ e. none; some = λ some. absurd (omega (arith, some, none)) };
}

-- a part grows within its last block
within_opened : (region : RawWords) (blocks : Held) (used ends : List ℕ) (part words : ℕ) → IsEnded region blocks used ends → part < length used → words ≤ room_behind (get_or ends part 0)
    → IsOpened region blocks region blocks part (blocks_for (get_or used part 0 + words) - length (row blocks.rows part))
within_opened region blocks used ends part words is below fits =
    not_opened region blocks part _ (omega (arith, same_blocks (row blocks.rows part) (get_or used part 0) (get_or ends part 0) words (is.ends_are.each part below) fits, is.blocks_are.laid.exact part below))
    is.blocks_are.laid.sound is.blocks_are.touched

pub grown_within : (region : RawWords) (blocks : Held) (used ends : List ℕ) (part words : ℕ) → IsEnded region blocks used ends → part < length used → words ≤ room_behind (get_or ends part 0)
    → IsEnded region blocks (set used part (get_or used part 0 + words)) (set ends part (get_or ends part 0 + words))
grown_within region blocks used ends part words is below fits = record {
  blocks_are = grown_blocks region blocks used region blocks part words is.blocks_are below (within_opened region blocks used ends part words is below fits);
  ends_are = ends_set blocks.rows blocks.rows used ends part _ _ is.ends_are below (λ other differs. refl)
      (end_further (row blocks.rows part) (get_or used part 0) (get_or ends part 0) words (is.ends_are.each part below) fits);
}

pub parts_within : (region : RawWords) (blocks : Held) (used ends : List ℕ) (part words : ℕ) → IsEnded region blocks used ends → part < length used → words ≤ room_behind (get_or ends part 0)
    → IsGrown (parts_of region blocks used) (parts_of region blocks (set used part (get_or used part 0 + words))) part words
parts_within region blocks used ends part words is below fits =
    grown_parts region blocks used region blocks part words is.blocks_are below (within_opened region blocks used ends part words is below fits)

-- a part that took blocks has as many as it needs
pub exact_far : (region : RawWords) (blocks : Held) (used : List ℕ) (region' : RawWords) (blocks' : Held) (part words : ℕ) → IsBlocks region blocks used → part < length used
    → IsOpened region blocks region' blocks' part (blocks_for (get_or used part 0 + words) - length (row blocks.rows part)) → length (row blocks'.rows part) ≡ blocks_for (get_or used part 0 + words)
exact_far region blocks used region' blocks' part words is below opened =
    let count : ℕ = get_or used part 0 + words in
    (grown_blocks region blocks used region' blocks' part words is below opened).laid.exact part (omega (arith, below, length-set used part count)) ∙ ap blocks_for (get_or-set_same used part count 0 below)

-- a part that took blocks, or gave some back, ends where its last word says
pub ended_far : (region : RawWords) (blocks : Held) (used ends : List ℕ) (region' : RawWords) (blocks' : Held) (part words end : ℕ) → IsEnded region blocks used ends → part < length used
    → IsOpened region blocks region' blocks' part (blocks_for (get_or used part 0 + words) - length (row blocks.rows part)) → IsEnd (row blocks'.rows part) (get_or used part 0 + words) end
    → IsEnded region' blocks' (set used part (get_or used part 0 + words)) (set ends part end)
ended_far region blocks used ends region' blocks' part words end is below opened end_is = record {
  blocks_are = grown_blocks region blocks used region' blocks' part words is.blocks_are below opened;
  ends_are = ends_set blocks.rows blocks'.rows used ends part _ end is.ends_are below
      (λ other differs. ap (λ r. row r other) opened.rows.is ∙ row_set_other blocks.rows part other _ differs) end_is;
}

-- a part has few words
pub few_words : (region : RawWords) (blocks : Held) (used : List ℕ) (part : ℕ) → IsBlocks region blocks used → part < length used → get_or used part 0 ≤ 2 ^ 28
few_words region blocks used part is below =
    omega (arith, room_of region blocks used part is below, row_within blocks.rows part, is.laid.sound.few, is.laid.sound.within, is.laid.sound.bound)
