-- Words that are copied within a part.
use Rattle.std.proofs.Common.{◌≡◌, ◌∙◌, ℕ, ◌+◌, ◌-◌, ◌*◌, ◌/◌, ◌%◌, ◌<◌, ◌≤◌, List, [], length, get_or, max, sym, ap, arith, rules, lit<, ◌⊎◌, inl, inr}
use Rattle.std.proofs.lemmas.Bool.{cases_eq, cases_lt}
use Rattle.std.proofs.lemmas.List.{get_or_default, places, same_lists, set-get_or}
use Rattle.cb_raw.specs.Words.{RawWords, copied}
use Rattle.cb_raw.proofs.Laws.{copied_before, copied_behind, copied_there, length-copied}
use Rattle.cb_blocks.specs.Holdings.{Held}
use Rattle.cb_blocks.specs.Parted.{IsBlocks, Parted, with_words}
use Rattle.cb_blocks.specs.Rows.{all_paged, paged, place_in, row}
use Rattle.cb_blocks.proofs.Laid.{laid_store}
use Rattle.cb_blocks.proofs.Paged.{item_paged, length-row_paged, page_of}
use Rattle.cb_blocks.proofs.Parted.{parts_of, room_of}
use Rattle.cb_blocks.proofs.Tabulated.{is_tabulated, same_tabulated, set_tabulated}

pub copied_none : (words : List ℕ) (from to : ℕ) → copied words from to 0 ≡ words
copied_none words from to = same_lists _ _ (search (rules, places)) (λ k d h. grind (arith, places))

pub copied_more : (words : List ℕ) (from to count more : ℕ) → to ≤ from → from + (count + more) ≤ length words → copied (copied words from to count) (from + count) (to + count) more ≡ copied words from to (count + more)
copied_more words from to count more order fits =
    let half : List ℕ = copied words from to count in
    let long : length half ≡ length words = length-copied words from to count (omega (arith, fits)) (omega (arith, fits, order)) in
    let outer = length-copied half (from + count) (to + count) more (omega (arith, fits, long)) (omega (arith, fits, order, long)) in
    let whole = length-copied words from to (count + more) fits (omega (arith, fits, order)) in
    let at_zero : (k : ℕ) → get_or (copied half (from + count) (to + count) more) k 0 ≡ get_or (copied words from to (count + more)) k 0 = λ k.
    elim (cases_lt k to) [
      | inl before ↦
          copied_before half (from + count) (to + count) more k (omega (arith, fits, long)) (omega (arith, fits, order, long)) (omega (arith, before))
          ∙ copied_before words from to count k (omega (arith, fits)) (omega (arith, fits, order)) before
          ∙ sym (copied_before words from to (count + more) k fits (omega (arith, fits, order)) before)
      | inr past ↦ elim (cases_lt k (to + count)) [
        | inl first ↦
            copied_before half (from + count) (to + count) more k (omega (arith, fits, long)) (omega (arith, fits, order, long)) first
            ∙ copied_there words from to count k (omega (arith, fits)) (omega (arith, fits, order)) past first
            ∙ sym (copied_there words from to (count + more) k fits (omega (arith, fits, order)) past (omega (arith, first)))
        | inr next ↦ elim (cases_lt k (to + (count + more))) [
          | inl second ↦
              copied_there half (from + count) (to + count) more k (omega (arith, fits, long)) (omega (arith, fits, order, long)) next (omega (arith, second))
              ∙ copied_behind words from to count (from + count + (k - (to + count))) (omega (arith, fits)) (omega (arith, fits, order)) (omega (arith, order))
              ∙ ap (λ n. get_or words n 0) (omega (arith, next))
              ∙ sym (copied_there words from to (count + more) k fits (omega (arith, fits, order)) past second)
          | inr behind ↦
              copied_behind half (from + count) (to + count) more k (omega (arith, fits, long)) (omega (arith, fits, order, long)) (omega (arith, behind))
              ∙ copied_behind words from to count k (omega (arith, fits)) (omega (arith, fits, order)) next
              ∙ sym (copied_behind words from to (count + more) k fits (omega (arith, fits, order)) behind)
        ]
      ]
    ] in
    same_lists _ _ (outer ∙ long ∙ sym whole)
    (λ k d h. get_or_default (copied half (from + count) (to + count) more) k d 0 h ∙ at_zero k ∙ get_or_default (copied words from to (count + more)) k 0 d (omega (arith, h, outer, long, whole)))

pub record IsPiece (region : RawWords) (blocks : Held) (used : List ℕ) (region' : RawWords) (part from to count source target : ℕ) : Type 0 where
  pub is : IsBlocks region blocks used
  pub below : part < length used
  pub order : to ≤ from
  pub inside : from + count ≤ get_or used part 0
  pub some : 0 < count
  pub near : from % 256 + count ≤ 256
  pub near' : to % 256 + count ≤ 256
  pub source_is : source ≡ place_in 256 (row blocks.rows part) from
  pub target_is : target ≡ place_in 256 (row blocks.rows part) to
  pub words : region'.words ≡ copied region.words source target count
  pub touched : region'.touched ≡ max region.touched (max source target + count)

module _ (region : RawWords) (blocks : Held) (used : List ℕ) (region' : RawWords) (part from to count source target : ℕ) (piece : IsPiece region blocks used region' part from to count source target) where
  room : from + count ≤ length (row blocks.rows part) * 256
  room = omega (arith, piece.inside, room_of region blocks used part piece.is piece.below)

  from_page : from / 256 < length (row blocks.rows part)
  from_page = page_of 256 (length (row blocks.rows part)) from (lit< tt) (omega (arith, room, piece.some))

  to_page : to / 256 < length (row blocks.rows part)
  to_page = page_of 256 (length (row blocks.rows part)) to (lit< tt) (omega (arith, room, piece.some, piece.order))

  pub source_fits : source + count ≤ region.touched
  source_fits = omega (arith, piece.source_is, piece.near, piece.is.touched, piece.is.laid.sound.below part (from / 256) from_page)

  pub target_fits : target + count ≤ region.touched
  target_fits = omega (arith, piece.target_is, piece.near', piece.is.touched, piece.is.laid.sound.below part (to / 256) to_page)

  long : region.touched ≤ length region.words
  long = omega (arith, piece.is.touched, piece.is.laid.sound.within, piece.is.laid.whole)

  -- a word that isn't copied to stays
  elsewhere : (other i : ℕ) → i < length (row blocks.rows other) * 256 → (other ≡ part → (i < to) ⊎ (to + count ≤ i)) → get_or region'.words (place_in 256 (row blocks.rows other) i) 0 ≡ get_or region.words (place_in 256 (row blocks.rows other) i) 0
  elsewhere other i inside away =
      let e : ℕ = get_or (row blocks.rows other) (i / 256) 0 in
      let t : ℕ = get_or (row blocks.rows part) (to / 256) 0 in
      let page = page_of 256 (length (row blocks.rows other)) i (lit< tt) inside in
      let before : e * 256 + i % 256 < target → get_or (copied region.words source target count) (e * 256 + i % 256) 0 ≡ get_or region.words (e * 256 + i % 256) 0 =
      λ h. copied_before region.words source target count (e * 256 + i % 256) (omega (arith, source_fits, long)) (omega (arith, target_fits, long)) h in
      let behind : target + count ≤ e * 256 + i % 256 → get_or (copied region.words source target count) (e * 256 + i % 256) 0 ≡ get_or region.words (e * 256 + i % 256) 0 =
      λ h. copied_behind region.words source target count (e * 256 + i % 256) (omega (arith, source_fits, long)) (omega (arith, target_fits, long)) h in
      ap (λ s. get_or s (e * 256 + i % 256) 0) piece.words
      ∙ elim (cases_eq e t) [
        | inl same ↦
            let both = piece.is.laid.sound.apart other part (i / 256) (to / 256) page to_page same in
            elim (away both.0) [
              | inl less ↦ before (omega (arith, same, both.1, less, piece.target_is))
              | inr more ↦ behind (omega (arith, same, both.1, more, piece.target_is))
            ]
        | inr differs ↦ elim (cases_lt e t) [
          | inl less ↦ before (omega (arith, less, piece.target_is))
          | inr more ↦ behind (omega (arith, more, differs, piece.target_is, piece.near'))
        ]
      ]

  -- a word that is copied to is one that is copied
  there : (i : ℕ) → to ≤ i → i < to + count → get_or region'.words (place_in 256 (row blocks.rows part) i) 0 ≡ get_or region.words (place_in 256 (row blocks.rows part) (from + (i - to))) 0
  there i past inside =
      let pages : i / 256 ≡ to / 256 = omega (arith, past, inside, piece.near') in
      let pages' : (from + (i - to)) / 256 ≡ from / 256 = omega (arith, past, inside, piece.near) in
      let place : place_in 256 (row blocks.rows part) i ≡ target + (i - to) = omega (arith, piece.target_is, past, inside, piece.near', ap (λ n. get_or (row blocks.rows part) n 0) pages) in
      let place' : place_in 256 (row blocks.rows part) (from + (i - to)) ≡ source + (target + (i - to) - target) = omega (arith, piece.source_is, past, inside, piece.near, ap (λ n. get_or (row blocks.rows part) n 0) pages') in
      ap (λ n. get_or region'.words n 0) place ∙ ap (λ s. get_or s (target + (i - to)) 0) piece.words
      ∙ copied_there region.words source target count (target + (i - to)) (omega (arith, source_fits, long)) (omega (arith, target_fits, long)) (omega arith) (omega (arith, past, inside))
      ∙ ap (λ n. get_or region.words n 0) (sym place')

  pub moved_blocks : IsBlocks region' blocks used
  moved_blocks = record {
    laid = laid_store 256 blocks region.words region'.words used piece.is.laid (ap length piece.words ∙ length-copied region.words source target count (omega (arith, source_fits, long)) (omega (arith, target_fits, long)));
    touched = omega (arith, piece.touched, source_fits, target_fits, piece.is.touched);
    clear = λ other i h past within. elsewhere other i within (λ same. inr (omega (arith, piece.inside, piece.order, past, ap (λ p. get_or used p 0) same))) ∙ piece.is.clear other i h past within;
    longest = piece.is.longest;
  }

  abbrev Old : List (List ℕ)
  Old = all_paged 256 region.words blocks.rows used

  pub moved_parts : parts_of region' blocks used ≡ with_words (parts_of region blocks used) part (copied (row (parts_of region blocks used).words part) from to count)
  moved_parts =
      let made : List (List ℕ) → Parted = λ words. record { blocks = blocks.count; rows = blocks.rows; words = words } in
      let mine : List ℕ = row Old part in
      let many : length (row Old part) ≡ get_or used part 0 = length-row_paged 256 region.words blocks.rows used part piece.below in
      let fits : from + count ≤ length (row Old part) = omega (arith, many, piece.inside) in
      let fits' : to + count ≤ length (row Old part) = omega (arith, many, piece.inside, piece.order) in
      let item : (i : ℕ) → i < get_or used part 0 → get_or (row Old part) i 0 ≡ get_or region.words (place_in 256 (row blocks.rows part) i) 0 = λ i h. item_paged 256 region.words blocks.rows used part i 0 piece.below h in
      let full = room_of region blocks used part piece.is piece.below in
      let new : copied (row Old part) from to count ≡ paged 256 region'.words (row blocks.rows part) (get_or used part 0) =
      is_tabulated (copied (row Old part) from to count) (get_or used part 0) _ (length-copied (row Old part) from to count fits fits' ∙ many)
      (λ i d h. get_or_default (copied (row Old part) from to count) i d 0 (omega (arith, h, many, length-copied (row Old part) from to count fits fits'))
      ∙ elim (cases_lt i to) [
        | inl before ↦ copied_before (row Old part) from to count i fits fits' before ∙ item i h ∙ sym (elsewhere part i (omega (arith, h, full)) (λ e. inl before))
        | inr past ↦ elim (cases_lt i (to + count)) [
          | inl inner ↦ copied_there (row Old part) from to count i fits fits' past inner ∙ item (from + (i - to)) (omega (arith, inner, past, piece.inside)) ∙ sym (there i past inner)
          | inr behind ↦ copied_behind (row Old part) from to count i fits fits' behind ∙ item i h ∙ sym (elsewhere part i (omega (arith, h, full)) (λ e. inr behind))
        ]
      ]) in
      ap made (sym (set_tabulated (length used) _ _ part (copied (row Old part) from to count) piece.below (sym new)
      (λ other h differs. same_tabulated (get_or used other 0) _ _ (λ i inside. elsewhere other i (omega (arith, inside, room_of region blocks used other piece.is h)) (λ e. absurd (differs e))))))

pub with_same : (parts : Parted) (part : ℕ) → with_words parts part (row parts.words part) ≡ parts
with_same parts part =
    let made : List (List ℕ) → Parted = λ words. record { blocks = parts.blocks; rows = parts.rows; words = words } in
    ap made (set-get_or parts.words part [])
