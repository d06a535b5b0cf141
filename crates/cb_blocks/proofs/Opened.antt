-- Blocks that a part takes and gives back.
use Rattle.std.proofs.Common.{◌≡◌, ◌∙◌, ℕ, ◌+◌, ◌-◌, ◌*◌, ◌/◌, ◌%◌, ◌<◌, ◌≤◌, ◌≢◌, List, [], ◌∷◌, ◌++◌, length, get_or, max, refl, sym, ap, subst, arith, lit<, inl, inr}
use Rattle.std.proofs.lemmas.Bool.{cases_lt}
use Rattle.std.proofs.lemmas.List.{get_or_append_left, get_or_push}
use Rattle.cb_raw.specs.Words.{RawWords, zeroed}
use Rattle.cb_raw.proofs.Laws.{length-zeroed, zeroed_before, zeroed_behind, zeroed_there}
use Rattle.cb_blocks.specs.Holdings.{Held, IsHeld}
use Rattle.cb_blocks.specs.Parted.{IsCleared, IsEnd, IsOpened, blocks_for, room_behind}
use Rattle.cb_blocks.specs.Rows.{IsExtended, place_in, pushed, row}
use Rattle.cb_blocks.proofs.Paged.{page_of}
use Rattle.cb_blocks.proofs.Rowed.{entry_extended, extended_more, length_extended, length_pushed, not_extended, parts_extended, row_set_same}

-- a word outside a block that gets zeros stays
zeros_elsewhere : (words : List ℕ) (block item rest : ℕ) → block * 256 + 256 ≤ length words → item ≢ block → rest < 256 → get_or (zeroed words (block * 256) 256) (item * 256 + rest) 0 ≡ get_or words (item * 256 + rest) 0
zeros_elsewhere words block item rest fits differs small =
    elim (cases_lt item block) [
      | inl below ↦ zeroed_before words (block * 256) 256 (item * 256 + rest) fits (omega (arith, below, small))
      | inr above ↦ zeroed_behind words (block * 256) 256 (item * 256 + rest) fits (omega (arith, above, differs, small))
    ]

-- where there is room behind an end there are words before it
some_behind : (blocks : List ℕ) (used end i : ℕ) → IsEnd blocks used end → end ≤ i → i < end + room_behind end → 0 < used
some_behind blocks used end i is past within =
    elim (cases_lt 0 used) [
      | inl some ↦ some
      | inr none ↦ absurd (omega (arith, is.none (omega (arith, none)), past, within))
    ]

-- the last block of a part was touched
pub end_touched : (region : RawWords) (blocks : Held) (part used end : ℕ) → IsHeld blocks → region.touched ≡ blocks.fresh * 256 → length (row blocks.rows part) ≡ blocks_for used → IsEnd (row blocks.rows part) used end
    → end + room_behind end ≤ region.touched
end_touched region blocks part used end sound touched exact is =
    elim (cases_lt 0 used) [
      | inl some ↦ omega (arith, is.some some, sound.below part ((used - 1) / 256) (omega (arith, exact, some)), touched, some)
      | inr none ↦ omega (arith, is.none (omega (arith, none)))
    ]

pub not_opened : (region : RawWords) (blocks : Held) (part more : ℕ) → more ≡ 0 → IsHeld blocks → region.touched ≡ blocks.fresh * 256 → IsOpened region blocks region blocks part more
not_opened region blocks part more none sound touched =
    record { rows = not_extended blocks.rows part more none; count = refl; longest = refl; sound = sound; whole = refl; touched = touched; kept = λ other i inside. refl; clear = λ i past inside. absurd (omega (arith, past, inside)) }

pub opened_more : (region : RawWords) (blocks : Held) (region' : RawWords) (blocks' : Held) (region'' : RawWords) (blocks'' : Held) (part more block : ℕ) → part < length blocks.rows
    → length region.words ≡ blocks.count * 256 → IsOpened region blocks region' blocks' part more
    → blocks''.rows ≡ pushed blocks'.rows part block → blocks''.fresh ≡ max blocks'.fresh (block + 1) → blocks''.count ≡ blocks'.count → blocks''.longest ≡ blocks'.longest → IsHeld blocks''
    → region''.words ≡ zeroed region'.words (block * 256) 256 → region''.touched ≡ max region'.touched (block * 256 + 256)
    → IsOpened region blocks region'' blocks'' part (more + 1)
opened_more region blocks region' blocks' region'' blocks'' part more block below whole is rows fresh count longest sound words touched =
    let below' : part < length blocks'.rows = omega (arith, below, parts_extended blocks.rows blocks'.rows part more is.rows) in
    let extended : IsExtended blocks.rows blocks''.rows part (more + 1) = subst (λ r. IsExtended blocks.rows r part (more + 1)) (sym rows) (extended_more blocks.rows blocks'.rows part more block below is.rows) in
    let long : length (row blocks'.rows part) ≡ length (row blocks.rows part) + more = length_extended blocks.rows blocks'.rows part more below is.rows in
    let mine : row blocks''.rows part ≡ row blocks'.rows part ++ block ∷ [] = ap (λ r. row r part) rows ∙ row_set_same blocks'.rows part (row blocks'.rows part ++ block ∷ []) below' in
    let long'' : length (row blocks''.rows part) ≡ length (row blocks'.rows part) + 1 = ap (λ r. length (row r part)) rows ∙ length_pushed blocks'.rows part block below' in
    let last : get_or (row blocks''.rows part) (length (row blocks'.rows part)) 0 ≡ block = ap (λ xs. get_or xs (length (row blocks'.rows part)) 0) mine ∙ get_or_push (row blocks'.rows part) block 0 (length (row blocks'.rows part)) refl in
    let small : block < blocks''.fresh = omega (arith, fresh) in
    let fits : block * 256 + 256 ≤ length region'.words = omega (arith, small, sound.within, count, is.count, is.whole, whole) in
    record {
      rows = extended;
      count = count ∙ is.count;
      longest = longest ∙ is.longest;
      sound = sound;
      whole = ap length words ∙ length-zeroed region'.words (block * 256) 256 fits ∙ is.whole;
      touched = omega (arith, touched, fresh, is.touched);
      kept = λ other i inside.
          let page = page_of 256 (length (row blocks.rows other)) i (lit< tt) inside in
          let there = entry_extended blocks.rows blocks''.rows part (more + 1) other (i / 256) below extended page in
          ap (λ s. get_or s (place_in 256 (row blocks.rows other) i) 0) words
          ∙ zeros_elsewhere region'.words block (get_or (row blocks.rows other) (i / 256) 0) (i % 256) fits
          (λ same. let both = sound.apart other part (i / 256) (length (row blocks'.rows part)) there.0 (omega (arith, long'')) (there.1 ∙ same ∙ sym last) in
          absurd (omega (arith, both.1, long, page, ap (λ p. length (row blocks.rows p)) both.0)))
          (omega arith)
          ∙ is.kept other i inside;
      clear = λ i past inside.
          elim (cases_lt i (length (row blocks'.rows part) * 256)) [
            | inl old ↦
                let page = page_of 256 (length (row blocks'.rows part)) i (lit< tt) old in
                let item : get_or (row blocks''.rows part) (i / 256) 0 ≡ get_or (row blocks'.rows part) (i / 256) 0 =
                ap (λ xs. get_or xs (i / 256) 0) mine ∙ get_or_append_left (row blocks'.rows part) (block ∷ []) 0 (i / 256) page in
                ap (λ n. get_or region''.words (n * 256 + i % 256) 0) item
                ∙ ap (λ s. get_or s (place_in 256 (row blocks'.rows part) i) 0) words
                ∙ zeros_elsewhere region'.words block (get_or (row blocks'.rows part) (i / 256) 0) (i % 256) fits
                (λ same. let both = sound.apart part part (i / 256) (length (row blocks'.rows part)) (omega (arith, page, long'')) (omega (arith, long'')) (item ∙ same ∙ sym last) in absurd (omega (arith, both.1, page)))
                (omega arith)
                ∙ is.clear i past old
            | inr new ↦
                let page : i / 256 ≡ length (row blocks'.rows part) = omega (arith, new, inside, long'') in
                ap (λ n. get_or region''.words (get_or (row blocks''.rows part) n 0 * 256 + i % 256) 0) page ∙ ap (λ n. get_or region''.words (n * 256 + i % 256) 0) last
                ∙ ap (λ s. get_or s (block * 256 + i % 256) 0) words
                ∙ zeroed_there region'.words (block * 256) 256 (block * 256 + i % 256) fits (omega arith) (omega arith)
          ];
    }

-- what is behind the end of a part in its last block is made 0
pub cleared : (region region' : RawWords) (blocks : Held) (part used end : ℕ) → IsHeld blocks → length region.words ≡ blocks.count * 256 → region.touched ≡ blocks.fresh * 256
    → length (row blocks.rows part) ≡ blocks_for used → IsEnd (row blocks.rows part) used end → region'.words ≡ zeroed region.words end (room_behind end) → region'.touched ≡ max region.touched (end + room_behind end)
    → IsCleared region region' blocks.rows part used
cleared region region' blocks part used end sound whole touched exact is words touched' =
    let b : ℕ = get_or (row blocks.rows part) ((used - 1) / 256) 0 in
    let ending : end + room_behind end ≤ region.touched = end_touched region blocks part used end sound touched exact is in
    let fits : end + room_behind end ≤ length region.words = omega (arith, ending, touched, whole, sound.within) in
    record {
      whole = ap length words ∙ length-zeroed region.words end (room_behind end) fits;
      touched = omega (arith, touched', ending);
      kept = λ other i inside own.
          let e : ℕ = get_or (row blocks.rows other) (i / 256) 0 in
          let page = page_of 256 (length (row blocks.rows other)) i (lit< tt) inside in
          ap (λ s. get_or s (e * 256 + i % 256) 0) words
          ∙ elim (cases_lt (e * 256 + i % 256) end) [
            | inl before ↦ zeroed_before region.words end (room_behind end) (e * 256 + i % 256) fits before
            | inr past ↦ zeroed_behind region.words end (room_behind end) (e * 256 + i % 256) fits
                (elim (cases_lt (e * 256 + i % 256) (end + room_behind end)) [
                  | inl within ↦
                      let some = some_behind (row blocks.rows part) used end (e * 256 + i % 256) is past within in
                      let same : e ≡ b = omega (arith, is.some some, past, within) in
                      let both = sound.apart other part (i / 256) ((used - 1) / 256) page (omega (arith, exact, some)) same in
                      absurd (omega (arith, own both.0, both.1, past, same, is.some some, some))
                  | inr behind ↦ behind
                ])
          ];
      clear = λ i past inside.
          let some : 0 < used = omega (arith, past, inside, exact) in
          let page : i / 256 ≡ (used - 1) / 256 = omega (arith, past, inside, exact, some) in
          ap (λ n. get_or region'.words (get_or (row blocks.rows part) n 0 * 256 + i % 256) 0) page
          ∙ ap (λ s. get_or s (b * 256 + i % 256) 0) words
          ∙ zeroed_there region.words end (room_behind end) (b * 256 + i % 256) fits (omega (arith, past, page, is.some some, some)) (omega (arith, past, page, is.some some, some));
    }
