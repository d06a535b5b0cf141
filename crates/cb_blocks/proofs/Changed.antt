-- Parts that grow and shrink.
use Rattle.std.proofs.Common.{◌≡◌, ◌∙◌, ℕ, ◌+◌, ◌-◌, ◌*◌, ◌/◌, ◌%◌, ◌<◌, ◌≤◌, List, ◌++◌, length, get_or, set, take, replicate, sym, ap, subst, arith, lit<, length-set, get_or-set_same, get_or-set_other, inl, inr}
use Rattle.std.proofs.lemmas.Bool.{cases_eq, cases_lt}
use Rattle.cb_raw.specs.Words.{RawWords}
use Rattle.cb_blocks.specs.Holdings.{Held, IsHeld}
use Rattle.cb_blocks.specs.PagedRows.{IsLaid}
use Rattle.cb_blocks.specs.Parted.{IsBlocks, IsCleared, IsGrown, IsOpened, Parted, blocks_for, with_fewer}
use Rattle.cb_blocks.specs.Rows.{IsExtended, all_paged, paged, place_in, row}
use Rattle.cb_blocks.proofs.Laid.{exact_cut, exact_extended, fewer_pages, kept_cut, laid_paged, laid_store, room_for}
use Rattle.cb_blocks.proofs.Paged.{counted, length-row_paged, page_of, row_paged, unread}
use Rattle.cb_blocks.proofs.Parted.{parts_of}
use Rattle.cb_blocks.proofs.Rowed.{entry_extended, length_extended, row_set_other, row_within}
use Rattle.cb_blocks.proofs.Tabulated.{tabulated_zeros}

-- a part has no more blocks than there are
pub few_blocks : (region : RawWords) (blocks : Held) (used : List ℕ) (part count : ℕ) → IsBlocks region blocks used → part < length used → count ≤ get_or used part 0 → blocks_for count ≤ 1048576
few_blocks region blocks used part count is below fewer =
    omega (arith, fewer_pages 256 count (get_or used part 0) (lit< tt) fewer, is.laid.exact part below, row_within blocks.rows part, is.laid.sound.few, is.laid.sound.within, is.laid.sound.bound)

pub shrunk_blocks : (region region' : RawWords) (blocks blocks' : Held) (used : List ℕ) (part count : ℕ) → IsBlocks region blocks used → part < length used → count ≤ get_or used part 0
    → blocks'.rows ≡ set blocks.rows part (take (blocks_for count) (row blocks.rows part)) → blocks'.fresh ≡ blocks.fresh → blocks'.count ≡ blocks.count → blocks'.longest ≡ blocks.longest → IsHeld blocks' → IsCleared region region' blocks'.rows part count
    → IsBlocks region' blocks' (set used part count)
shrunk_blocks region region' blocks blocks' used part count is below fewer rows fresh same longest sound clear = record {
  laid = laid_store 256 blocks' region.words region'.words (set used part count) (exact_cut 256 blocks blocks' region.words used part count (lit< tt) is.laid below rows fewer same sound) clear.whole;
  touched = omega (arith, clear.touched, is.touched, fresh);
  clear = λ other i h past inside. elim (cases_eq other part) [
    | inl equal ↦
        let past' : count ≤ i = subst (λ n. n ≤ i) (ap (λ p. get_or (set used part count) p 0) equal ∙ get_or-set_same used part count 0 below) past in
        ap (λ p. get_or region'.words (place_in 256 (row blocks'.rows p) i) 0) equal ∙ clear.clear i past' (subst (λ p. i < length (row blocks'.rows p) * 256) equal inside)
    | inr differs ↦
        let mine : row blocks'.rows other ≡ row blocks.rows other = ap (λ r. row r other) rows ∙ row_set_other blocks.rows part other _ differs in
        clear.kept other i inside (λ equal. absurd (differs equal))
        ∙ ap (λ xs. get_or region.words (place_in 256 xs i) 0) mine
        ∙ is.clear other i (subst (λ n. other < n) (length-set used part count) h) (subst (λ n. n ≤ i) (get_or-set_other used part other count 0 differs) past) (subst (λ xs. i < length xs * 256) mine inside)
  ];
  longest = omega (arith, is.longest, same, longest);
}

pub shrunk_parts : (region region' : RawWords) (blocks blocks' : Held) (used : List ℕ) (part count : ℕ) → IsBlocks region blocks used → part < length used → count ≤ get_or used part 0
    → blocks'.rows ≡ set blocks.rows part (take (blocks_for count) (row blocks.rows part)) → blocks'.count ≡ blocks.count → IsHeld blocks' → IsCleared region region' blocks'.rows part count
    → parts_of region' blocks' (set used part count) ≡ with_fewer (parts_of region blocks used) part count
shrunk_parts region region' blocks blocks' used part count is below fewer rows same sound clear =
    let laid : IsLaid 256 blocks' region.words (set used part count) = exact_cut 256 blocks blocks' region.words used part count (lit< tt) is.laid below rows fewer same sound in
    let Old : List (List ℕ) = all_paged 256 region.words blocks.rows used in
    let words : all_paged 256 region'.words blocks'.rows (set used part count) ≡ set Old part (take count (row Old part)) =
    unread 256 region.words region'.words blocks'.rows blocks'.rows (set used part count)
    (λ other i h inside. clear.kept other i (omega (arith, inside, (laid_paged 256 blocks' region.words (set used part count) (lit< tt) laid).enough other h))
    (λ equal. subst (λ n. i < n) (ap (λ p. get_or (set used part count) p 0) equal ∙ get_or-set_same used part count 0 below) inside))
    ∙ kept_cut 256 blocks blocks' region.words used part count (lit< tt) is.laid below rows fewer in
    let made : ℕ → List (List ℕ) → List (List ℕ) → Parted = λ n r w. record { blocks = n; rows = r; words = w } in
    ap (λ n. made n blocks'.rows (all_paged 256 region'.words blocks'.rows (set used part count))) same
    ∙ ap (λ r. made blocks.count r (all_paged 256 region'.words blocks'.rows (set used part count))) rows
    ∙ ap (made blocks.count (set blocks.rows part (take (blocks_for count) (row blocks.rows part)))) words

-- behind the words that a part had there are zeros
zeros_there : (region : RawWords) (blocks : Held) (used : List ℕ) (region' : RawWords) (blocks' : Held) (part count i : ℕ) → IsBlocks region blocks used → part < length used
    → IsOpened region blocks region' blocks' part (blocks_for count - length (row blocks.rows part)) → get_or used part 0 ≤ i → i < length (row blocks'.rows part) * 256
    → ((other i : ℕ) → other < length used → i < length (row blocks.rows other) * 256 → place_in 256 (row blocks'.rows other) i ≡ place_in 256 (row blocks.rows other) i)
    → get_or region'.words (place_in 256 (row blocks'.rows part) i) 0 ≡ 0
zeros_there region blocks used region' blocks' part count i is below opened past inside stays =
    elim (cases_lt i (length (row blocks.rows part) * 256)) [
      | inl old ↦ ap (λ n. get_or region'.words n 0) (stays part i below old) ∙ opened.kept part i old ∙ is.clear part i below past old
      | inr new ↦ opened.clear i new inside
    ]

-- all that stood in the blocks before has the same places
pub stays : (rows rows' : List (List ℕ)) (part more other i : ℕ) → part < length rows → IsExtended rows rows' part more → i < length (row rows other) * 256 → place_in 256 (row rows' other) i ≡ place_in 256 (row rows other) i
stays rows rows' part more other i below extended inside =
    ap (λ n. n * 256 + i % 256) (entry_extended rows rows' part more other (i / 256) below extended (page_of 256 (length (row rows other)) i (lit< tt) inside)).1

pub grown_blocks : (region : RawWords) (blocks : Held) (used : List ℕ) (region' : RawWords) (blocks' : Held) (part words : ℕ) → IsBlocks region blocks used → part < length used
    → IsOpened region blocks region' blocks' part (blocks_for (get_or used part 0 + words) - length (row blocks.rows part)) → IsBlocks region' blocks' (set used part (get_or used part 0 + words))
grown_blocks region blocks used region' blocks' part words is below opened =
    let count : ℕ = get_or used part 0 + words in
    let there : part < length blocks.rows = omega (arith, below, is.laid.parts) in
    record {
      laid = laid_store 256 blocks' region.words region'.words (set used part count) (exact_extended 256 blocks blocks' region.words used part count (lit< tt) is.laid below opened.rows (omega arith) opened.count opened.sound) opened.whole;
      touched = opened.touched;
      clear = λ other i h past inside. elim (cases_eq other part) [
        | inl equal ↦
            let past' : count ≤ i = subst (λ n. n ≤ i) (ap (λ p. get_or (set used part count) p 0) equal ∙ get_or-set_same used part count 0 below) past in
            ap (λ p. get_or region'.words (place_in 256 (row blocks'.rows p) i) 0) equal
            ∙ zeros_there region blocks used region' blocks' part count i is below opened (omega (arith, past')) (subst (λ p. i < length (row blocks'.rows p) * 256) equal inside)
            (λ p k h' inner. stays blocks.rows blocks'.rows part _ p k there opened.rows inner)
        | inr differs ↦
            let mine : row blocks'.rows other ≡ row blocks.rows other = ap (λ r. row r other) opened.rows.is ∙ row_set_other blocks.rows part other _ differs in
            let inner : i < length (row blocks.rows other) * 256 = subst (λ xs. i < length xs * 256) mine inside in
            ap (λ xs. get_or region'.words (place_in 256 xs i) 0) mine ∙ opened.kept other i inner
            ∙ is.clear other i (subst (λ n. other < n) (length-set used part count) h) (subst (λ n. n ≤ i) (get_or-set_other used part other count 0 differs) past) inner
      ];
      longest = omega (arith, is.longest, opened.count, opened.longest);
    }

pub grown_parts : (region : RawWords) (blocks : Held) (used : List ℕ) (region' : RawWords) (blocks' : Held) (part words : ℕ) → IsBlocks region blocks used → part < length used
    → IsOpened region blocks region' blocks' part (blocks_for (get_or used part 0 + words) - length (row blocks.rows part))
    → IsGrown (parts_of region blocks used) (parts_of region' blocks' (set used part (get_or used part 0 + words))) part words
grown_parts region blocks used region' blocks' part words is below opened =
    let count : ℕ = get_or used part 0 + words in
    let there : part < length blocks.rows = omega (arith, below, is.laid.parts) in
    let paged' = laid_paged 256 blocks region.words used (lit< tt) is.laid in
    let Old : List (List ℕ) = all_paged 256 region.words blocks.rows used in
    let long : length (row Old part) ≡ get_or used part 0 = length-row_paged 256 region.words blocks.rows used part below in
    let same : all_paged 256 region'.words blocks'.rows used ≡ Old =
    unread 256 region.words region'.words blocks.rows blocks'.rows used
    (λ other i h inside. let inner : i < length (row blocks.rows other) * 256 = omega (arith, inside, paged'.enough other h) in
    ap (λ n. get_or region'.words n 0) (stays blocks.rows blocks'.rows part _ other i there opened.rows inner) ∙ opened.kept other i inner) in
    let enough : count ≤ length (row blocks'.rows part) * 256 =
    omega (arith, room_for 256 count (lit< tt), length_extended blocks.rows blocks'.rows part _ there opened.rows, is.laid.exact part below, fewer_pages 256 (get_or used part 0) count (lit< tt) (omega arith)) in
    let mine : paged 256 region'.words (row blocks'.rows part) count ≡ row Old part ++ replicate words 0 =
    tabulated_zeros (get_or used part 0) words _
    (λ i past inside. zeros_there region blocks used region' blocks' part count i is below opened past (omega (arith, inside, enough)) (λ p k h' inner. stays blocks.rows blocks'.rows part _ p k there opened.rows inner))
    ∙ ap (λ xs. xs ++ replicate words 0) (sym (row_paged 256 region'.words blocks'.rows used part below) ∙ ap (λ r. row r part) same) in
    let blocks_are : blocks_for count - length (row blocks.rows part) ≡ blocks_for (length (row Old part) + words) - blocks_for (length (row Old part)) =
    ap (λ n. blocks_for count - n) (is.laid.exact part below) ∙ ap (λ n. blocks_for (n + words) - blocks_for n) (sym long) in
    record {
      blocks = opened.count;
      rows = subst (λ n. IsExtended blocks.rows blocks'.rows part n) blocks_are opened.rows;
      words_are = sym (counted 256 region'.words blocks'.rows used part count below) ∙ ap (λ xs. set (all_paged 256 region'.words blocks'.rows used) part xs) mine ∙ ap (λ r. set r part (row Old part ++ replicate words 0)) same;
    }
