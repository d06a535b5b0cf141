-- The parts of a heap, as the region, the stock of blocks and the counts of words make them.
use Rattle.std.proofs.Common.{◌≡◌, ◌∙◌, ℕ, ◌+◌, ◌-◌, ◌*◌, ◌/◌, ◌%◌, ◌<◌, ◌≤◌, suc, List, [], ◌∷◌, length, get_or, set, refl, sym, ap, subst, arith, lit<, length-set, get_or-set_other}
use Rattle.std.proofs.lemmas.List.Sums.{sum_by-cons}
use Rattle.std.proofs.lemmas.Option.{get_or_from_slice_get, slice_get-get_or}
use Rattle.std.specs.List.{slice_get}
use Rattle.std.specs.declared.option.Option.TheVariants.{Some}
use Rattle.cb_raw.specs.Words.{RawWords}
use Rattle.cb_blocks.specs.Holdings.{Held, IsNumberAt}
use Rattle.cb_blocks.specs.Parted.{IsAt, IsBlocks, IsParted, IsReached, Parted, blocks_for, taken, with_words}
use Rattle.cb_blocks.specs.Rows.{all_paged, held, paged, place_in, row}
use Rattle.cb_blocks.proofs.Laid.{laid_paged, laid_store, page_there, place_is}
use Rattle.cb_blocks.proofs.Paged.{item_paged, length-row_paged, page_of, places_apart, written}
use Rattle.cb_blocks.proofs.Rowed.{row_within}
use Rattle.cb_blocks.proofs.Tabulated.{length-tabulated}

abbrev pub parts_of : RawWords → Held → List ℕ → Parted
parts_of region blocks used = record { blocks = blocks.count; rows = blocks.rows; words = all_paged 256 region.words blocks.rows used }

pub part_of : (region : RawWords) (blocks : Held) (used : List ℕ) (part : ℕ) → part < length (parts_of region blocks used).words → part < length used
part_of region blocks used part below = omega (arith, below, length-tabulated (length used) (λ p. paged 256 region.words (row blocks.rows p) (get_or used p 0)))

pub used_of : (region : RawWords) (blocks : Held) (used : List ℕ) (part : ℕ) → part < length (parts_of region blocks used).words → get_or used part 0 ≡ length (row (parts_of region blocks used).words part)
used_of region blocks used part below = sym (length-row_paged 256 region.words blocks.rows used part (part_of region blocks used part below))

-- the place of a word was touched
pub place_touched : (region : RawWords) (blocks : Held) (used : List ℕ) (part i : ℕ) → IsBlocks region blocks used → part < length used → i < length (row blocks.rows part) * 256
    → place_in 256 (row blocks.rows part) i < region.touched
place_touched region blocks used part i is below inside =
    let page = page_of 256 (length (row blocks.rows part)) i (lit< tt) inside in
    omega (arith, is.touched, is.laid.sound.below part (i / 256) page)

pub room_of : (region : RawWords) (blocks : Held) (used : List ℕ) (part : ℕ) → IsBlocks region blocks used → part < length used → get_or used part 0 ≤ length (row blocks.rows part) * 256
room_of region blocks used part is below = (laid_paged 256 blocks region.words used (lit< tt) is.laid).enough part below

pub at_touched : (region : RawWords) (blocks : Held) (used : List ℕ) (part i index : ℕ) → IsBlocks region blocks used → IsAt (parts_of region blocks used) part i index → index < region.touched
at_touched region blocks used part i index is at =
    let below = part_of region blocks used part at.0 in
    subst (λ n. n < region.touched) (sym at.2)
    (place_touched region blocks used part i is below (omega (arith, at.1, used_of region blocks used part at.0, room_of region blocks used part is below)))

pub at_word : (region : RawWords) (blocks : Held) (used : List ℕ) (part i index word : ℕ) → IsAt (parts_of region blocks used) part i index → slice_get region.words index ≡ Some word
    → slice_get (row (parts_of region blocks used).words part) i ≡ Some word
at_word region blocks used part i index word at is =
    let below = part_of region blocks used part at.0 in
    slice_get-get_or (row (parts_of region blocks used).words part) i 0 at.1
    ∙ ap Some (item_paged 256 region.words blocks.rows used part i 0 below (omega (arith, at.1, used_of region blocks used part at.0)) ∙ ap (λ n. get_or region.words n 0) (sym at.2)
    ∙ get_or_from_slice_get region.words index word 0 is)

pub at_written : (region region' : RawWords) (blocks : Held) (used : List ℕ) (part i index word : ℕ) → IsBlocks region blocks used → IsAt (parts_of region blocks used) part i index → region'.words ≡ set region.words index word
    → parts_of region' blocks used ≡ with_words (parts_of region blocks used) part (set (row (parts_of region blocks used).words part) i word)
at_written region region' blocks used part i index word is at new =
    let made : List (List ℕ) → Parted = λ words. record { blocks = blocks.count; rows = blocks.rows; words = words } in
    let below = part_of region blocks used part at.0 in
    ap made (ap (λ s. all_paged 256 s blocks.rows used) (new ∙ ap (λ n. set region.words n word) at.2)
    ∙ sym (written 256 region.words blocks.rows used part i word (lit< tt) (laid_paged 256 blocks region.words used (lit< tt) is.laid) below (omega (arith, at.1, used_of region blocks used part at.0))))

pub at_kept : (region region' : RawWords) (blocks : Held) (used : List ℕ) (part i index word : ℕ) → IsBlocks region blocks used → IsAt (parts_of region blocks used) part i index → region'.words ≡ set region.words index word → region'.touched ≡ region.touched
    → IsBlocks region' blocks used
at_kept region region' blocks used part i index word is at new same =
    let below = part_of region blocks used part at.0 in
    let inside : i < get_or used part 0 = omega (arith, at.1, used_of region blocks used part at.0) in
    record {
      laid = laid_store 256 blocks region.words region'.words used is.laid (ap length new ∙ length-set region.words index word);
      touched = same ∙ is.touched;
      clear = λ other j h past within.
          ap (λ s. get_or s (place_in 256 (row blocks.rows other) j) 0) new
          ∙ get_or-set_other region.words index (place_in 256 (row blocks.rows other) j) word 0
          (λ equal. let both = places_apart 256 blocks.rows other part j i (lit< tt) is.laid.sound.apart within (omega (arith, inside, room_of region blocks used part is below)) (equal ∙ at.2) in
          absurd (omega (arith, both.1, inside, past, ap (λ p. get_or used p 0) both.0)))
          ∙ is.clear other j h past within;
      longest = is.longest;
    }

pub block_of : (region : RawWords) (blocks : Held) (used : List ℕ) (part i : ℕ) → IsBlocks region blocks used → part < length (parts_of region blocks used).words → i < length (row (parts_of region blocks used).words part)
    → i / 256 < length (row blocks.rows part)
block_of region blocks used part i is below inside =
    page_there 256 blocks region.words used part i (lit< tt) is.laid (part_of region blocks used part below) (omega (arith, inside, used_of region blocks used part below))

-- a part has fewer words than 2 ^ 28
pub words_bound : (region : RawWords) (blocks : Held) (used : List ℕ) (part i : ℕ) → IsBlocks region blocks used → part < length (parts_of region blocks used).words → i < length (row (parts_of region blocks used).words part)
    → i < 268435456
words_bound region blocks used part i is below inside =
    let page = block_of region blocks used part i is below inside in
    let few = row_within blocks.rows part in
    omega (arith, page, few, is.laid.sound.few, is.laid.sound.within, is.laid.sound.bound)

pub index_is : (region : RawWords) (blocks : Held) (used : List ℕ) (part i block : ℕ) → part < length (parts_of region blocks used).words → i < length (row (parts_of region blocks used).words part)
    → slice_get (row blocks.rows part) (i / 256) ≡ Some block → IsAt (parts_of region blocks used) part i (block * 256 + i % 256)
index_is region blocks used part i block below inside is = (below, inside, sym (place_is 256 blocks.rows part i block is))

-- the blocks that parts hold are those that their words need
pub held_taken : (rows words : List (List ℕ)) → length rows ≡ length words → ((part : ℕ) → part < length words → length (row rows part) ≡ blocks_for (length (row words part))) → held rows ≡ taken words
held_taken [] [] same is = refl
held_taken [] (first ∷ words) same is = absurd (omega (arith, same))
held_taken (first ∷ rows) [] same is = absurd (omega (arith, same))
held_taken (first ∷ rows) (part ∷ words) same is =
    omega (arith, sum_by-cons length first rows, sum_by-cons (λ p. blocks_for (length p)) part words, is 0 (omega arith), held_taken rows words (omega (arith, same)) (λ p h. is (suc p) (omega (arith, h))))

pub parted : (region : RawWords) (blocks : Held) (used : List ℕ) → IsBlocks region blocks used → IsParted (parts_of region blocks used)
parted region blocks used is =
    let all = length-tabulated (length used) (λ p. paged 256 region.words (row blocks.rows p) (get_or used p 0)) in
    record {
      apart = is.laid.sound.apart;
      within = λ part i inside. omega (arith, is.laid.sound.below part i inside, is.laid.sound.within);
      same = is.laid.parts ∙ sym all;
      exact = λ part below. is.laid.exact part (part_of region blocks used part below) ∙ ap blocks_for (used_of region blocks used part below);
      bound = is.laid.sound.bound;
    }

-- the block of a place, and the place in it
pub at_block : (region : RawWords) (blocks : Held) (used : List ℕ) (part i index : ℕ) → IsBlocks region blocks used → IsAt (parts_of region blocks used) part i index
    → IsNumberAt blocks.rows part (i / 256) (index / 256) × (index % 256 ≡ i % 256)
at_block region blocks used part i index is at =
    ((block_of region blocks used part i is at.0 at.1, omega (arith, at.2)), omega (arith, at.2))

-- behind a word of a part in the same block
pub near : (parts : Parted) (part i index count : ℕ) → IsReached parts part i index count → index % 256 + count < 256 → IsAt parts part (i + count) (index + count)
near parts part i index count reached small =
    let at = reached.0 in
    let low : index % 256 ≡ i % 256 = omega (arith, at.2) in
    let page : i / 256 ≡ (i + count) / 256 = omega (arith, low, small) in
    (at.0, reached.1, ap (λ n. n + count) at.2 ∙ omega (arith, low, small, ap (λ n. get_or (row parts.rows part) n 0) page))

-- places behind a word of a part are small
pub reached_small : (region : RawWords) (blocks : Held) (used : List ℕ) (part i index count : ℕ) → IsBlocks region blocks used → IsReached (parts_of region blocks used) part i index count
    → (index < 268435456) × (count < 268435456)
reached_small region blocks used part i index count is reached =
    let place = at_block region blocks used part i index is reached.0 in
    let block = is.laid.sound.below part (i / 256) place.0.0 in
    (omega (arith, place.0.1, block, is.laid.sound.within, is.laid.sound.bound), omega (arith, words_bound region blocks used part (i + count) is reached.0.0 reached.1))

-- behind a word of a part in the same block
pub same_block : (parts : Parted) (part i index count : ℕ) → IsReached parts part i index count → (index + count) / 256 ≡ index / 256 → IsAt parts part (i + count) (index + count)
same_block parts part i index count reached same = near parts part i index count reached (omega (arith, same))

-- and as many blocks behind its own as there
pub blocks_between : (region : RawWords) (blocks : Held) (used : List ℕ) (part i index count further : ℕ) → IsBlocks region blocks used → IsReached (parts_of region blocks used) part i index count
    → further ≡ (index + count) / 256 - index / 256 → (i / 256 + further ≡ (i + count) / 256) × (i / 256 + further < length (row blocks.rows part))
blocks_between region blocks used part i index count further is reached many =
    let low = (at_block region blocks used part i index is reached.0).1 in
    let page : i / 256 + further ≡ (i + count) / 256 = omega (arith, low, many) in
    (page, omega (arith, page, block_of region blocks used part (i + count) is reached.0.0 reached.1))

pub along : (region : RawWords) (blocks : Held) (used : List ℕ) (part i index count further : ℕ) → IsBlocks region blocks used → IsReached (parts_of region blocks used) part i index count
    → further ≡ (index + count) / 256 - index / 256 → IsNumberAt blocks.rows part (i / 256 + further) (index / 256 + further) → IsAt (parts_of region blocks used) part (i + count) (index + count)
along region blocks used part i index count further is reached many there =
    let low = (at_block region blocks used part i index is reached.0).1 in
    let page = (blocks_between region blocks used part i index count further is reached many).0 in
    let block : get_or (row blocks.rows part) ((i + count) / 256) 0 ≡ index / 256 + further = ap (λ n. get_or (row blocks.rows part) n 0) (sym page) ∙ there.1 in
    (reached.0.0, reached.1, omega (arith, block, low, many))
