-- Items in pages of a stock.
use Rattle.std.proofs.Common.{◌≡◌, ◌∙◌, ℕ, ◌+◌, ◌-◌, ◌*◌, ◌/◌, ◌%◌, ◌<◌, ◌≤◌, suc, List, [], ◌∷◌, ◌++◌, length, get_or, set, take, replicate, refl, sym, ap, subst, arith, length-set, get_or-set_same, get_or-set_other, inl, inr}
use Rattle.std.proofs.Math.Nat.{div-mul-le_self, mul-le-mul_right}
use Rattle.std.proofs.lemmas.Bool.{cases_eq}
use Rattle.std.proofs.lemmas.List.{get_or-replicate, length-replicate, get_or_append_left, get_or-take, length-take-le, set-set, set_at}
use Rattle.std.proofs.lemmas.List.Sums.{sum_by-cons}
use Rattle.std.proofs.lemmas.Nat.{div-add-mod', div_below, le-div, mod_below}
use Rattle.std.proofs.lemmas.Option.{get_or_from_slice_get, slice_get-get_or}
use Rattle.std.specs.List.{slice_get, sum_by}
use Rattle.std.specs.declared.option.Option.TheVariants.{Some}
use Rattle.cb_blocks.specs.Holdings.{Held, IsHeld}
use Rattle.cb_blocks.specs.PagedRows.{IsLaid}
use Rattle.cb_blocks.specs.Rows.{IsExtended, IsPaged, all_paged, held, paged, pages_for, place_in, pushed, row}
use Rattle.cb_blocks.proofs.Paged.{counted, item_paged, length-row_paged, page_of, place_inside, row_paged, unread, written}
use Rattle.cb_blocks.proofs.Rowed.{length_extended, parts_extended, row_set_other, row_set_same}
use Rattle.cb_blocks.proofs.Kept.{row_empty}
use Rattle.cb_blocks.proofs.Tabulated.{is_tabulated, length-tabulated, tabulated_more, take-tabulated}

-- the pages of so many items have room for them
pub room_for : (size count : ℕ) → 0 < size → count ≤ pages_for size count * size
room_for size count some = omega (arith, div-add-mod' (count + (size - 1)) size, mod_below (count + (size - 1)) size some)

pub fewer_pages : (size less count : ℕ) → 0 < size → less ≤ count → pages_for size less ≤ pages_for size count
fewer_pages size less count some below = le-div (pages_for size less) (count + (size - 1)) size some (omega (arith, div-mul-le_self (less + (size - 1)) size, below))

pub laid_paged : (size : ℕ) (pages : Held) (store counts : List ℕ) → 0 < size → IsLaid size pages store counts → IsPaged size store pages.rows counts
laid_paged size pages store counts some is = record {
  apart = is.sound.apart;
  within = λ part i inside.
      let fits : (get_or (row pages.rows part) i 0 + 1) * size ≤ pages.count * size = mul-le-mul_right size (omega (arith, is.sound.below part i inside, is.sound.within)) in
      omega (arith, fits, is.whole);
  enough = λ part below. subst (λ n. get_or counts part 0 ≤ n * size) (sym (is.exact part below)) (room_for size (get_or counts part 0) some);
  parts = is.parts;
}

-- the page of an item of a part is there, and its place in the store
pub page_there : (size : ℕ) (pages : Held) (store counts : List ℕ) (part i : ℕ) → 0 < size → IsLaid size pages store counts → part < length counts → i < get_or counts part 0 → i / size < length (row pages.rows part)
page_there size pages store counts part i some is below inside =
    page_of size (length (row pages.rows part)) i some (omega (arith, inside, (laid_paged size pages store counts some is).enough part below))

pub place_there : (size : ℕ) (pages : Held) (store counts : List ℕ) (part i : ℕ) → 0 < size → IsLaid size pages store counts → part < length counts → i < get_or counts part 0
    → place_in size (row pages.rows part) i < length store
place_there size pages store counts part i some is below inside =
    let paged' = laid_paged size pages store counts some is in
    place_inside size store pages.rows counts part i some paged' (omega (arith, inside, paged'.enough part below))

-- more pages for a part change no row of items
pub kept_extended : (size : ℕ) (store : List ℕ) (rows rows' : List (List ℕ)) (counts : List ℕ) (part more : ℕ) → 0 < size → part < length rows → IsPaged size store rows counts → IsExtended rows rows' part more
    → (other i : ℕ) → other < length counts → i < get_or counts other 0 → place_in size (row rows' other) i ≡ place_in size (row rows other) i
kept_extended size store rows rows' counts part more some below is extended other i h inside =
    ap (λ xs. place_in size xs i) (ap (λ r. row r other) extended.is)
    ∙ elim (cases_eq other part) [
      | inl same ↦
          let new : List ℕ = row rows part ++ extended.more in
          let inner : i < length (row rows part) * size = subst (λ p. i < length (row rows p) * size) same (omega (arith, inside, is.enough other h)) in
          ap (λ xs. place_in size xs i) (ap (row (set rows part new)) same ∙ row_set_same rows part new below)
          ∙ ap (λ n. n * size + i % size) (get_or_append_left (row rows part) extended.more 0 (i / size) (page_of size (length (row rows part)) i some inner))
          ∙ ap (λ p. place_in size (row rows p) i) (sym same)
      | inr differs ↦ ap (λ xs. place_in size xs i) (row_set_other rows part other _ differs)
    ]

-- a row of a stock has as many pages as before, but that of the part
pub exact_extended : (size : ℕ) (pages pages' : Held) (store counts : List ℕ) (part count : ℕ) → 0 < size → IsLaid size pages store counts → part < length counts
    → IsExtended pages.rows pages'.rows part (pages_for size count - length (row pages.rows part)) → get_or counts part 0 ≤ count → pages'.count ≡ pages.count → IsHeld pages'
    → IsLaid size pages' store (set counts part count)
exact_extended size pages pages' store counts part count some is below extended more same sound = record {
  sound = sound;
  whole = is.whole ∙ ap (λ n. n * size) (sym same);
  parts = parts_extended pages.rows pages'.rows part _ extended ∙ is.parts ∙ sym (length-set counts part count);
  exact = λ other h. elim (cases_eq other part) [
    | inl equal ↦
        let grown = length_extended pages.rows pages'.rows part _ (omega (arith, below, is.parts)) extended in
        let had = is.exact part below in
        let few = fewer_pages size (get_or counts part 0) count some more in
        ap (λ p. length (row pages'.rows p)) equal ∙ omega (arith, grown, had, few) ∙ ap (pages_for size) (sym (ap (λ p. get_or (set counts part count) p 0) equal ∙ get_or-set_same counts part count 0 below))
    | inr differs ↦
        ap (λ r. length (row r other)) extended.is ∙ ap length (row_set_other pages.rows part other _ differs)
        ∙ is.exact other (subst (λ n. other < n) (length-set counts part count) h) ∙ ap (pages_for size) (sym (get_or-set_other counts part other count 0 differs))
  ];
}

pub exact_cut : (size : ℕ) (pages pages' : Held) (store counts : List ℕ) (part count : ℕ) → 0 < size → IsLaid size pages store counts → part < length counts
    → pages'.rows ≡ set pages.rows part (take (pages_for size count) (row pages.rows part)) → count ≤ get_or counts part 0 → pages'.count ≡ pages.count → IsHeld pages'
    → IsLaid size pages' store (set counts part count)
exact_cut size pages pages' store counts part count some is below cut less same sound = record {
  sound = sound;
  whole = is.whole ∙ ap (λ n. n * size) (sym same);
  parts = ap length cut ∙ length-set pages.rows part _ ∙ is.parts ∙ sym (length-set counts part count);
  exact = λ other h. elim (cases_eq other part) [
    | inl equal ↦
        let few = fewer_pages size count (get_or counts part 0) some less in
        ap (λ p. length (row pages'.rows p)) equal ∙ ap (λ r. length (row r part)) cut ∙ ap length (row_set_same pages.rows part _ (omega (arith, below, is.parts)))
        ∙ length-take-le (pages_for size count) (row pages.rows part) (omega (arith, few, is.exact part below))
        ∙ ap (pages_for size) (sym (ap (λ p. get_or (set counts part count) p 0) equal ∙ get_or-set_same counts part count 0 below))
    | inr differs ↦
        ap (λ r. length (row r other)) cut ∙ ap length (row_set_other pages.rows part other _ differs)
        ∙ is.exact other (subst (λ n. other < n) (length-set counts part count) h) ∙ ap (pages_for size) (sym (get_or-set_other counts part other count 0 differs))
  ];
}

-- fewer items and pages in a part
pub kept_cut : (size : ℕ) (pages pages' : Held) (store counts : List ℕ) (part count : ℕ) → 0 < size → IsLaid size pages store counts → part < length counts
    → pages'.rows ≡ set pages.rows part (take (pages_for size count) (row pages.rows part)) → count ≤ get_or counts part 0
    → all_paged size store pages'.rows (set counts part count) ≡ set (all_paged size store pages.rows counts) part (take count (row (all_paged size store pages.rows counts) part))
kept_cut size pages pages' store counts part count some is below cut less =
    unread size store store pages.rows pages'.rows (set counts part count)
    (λ other i h inside. ap (λ xs. get_or store (place_in size xs i) 0) (ap (λ r. row r other) cut)
    ∙ elim (cases_eq other part) [
      | inl same ↦
          let fewer : i < count = subst (λ n. i < n) (ap (λ p. get_or (set counts part count) p 0) same ∙ get_or-set_same counts part count 0 below) inside in
          let page : i / size < pages_for size count = page_of size (pages_for size count) i some (omega (arith, fewer, room_for size count some)) in
          ap (λ p. get_or store (place_in size (row (set pages.rows part (take (pages_for size count) (row pages.rows part))) p) i) 0) same
          ∙ ap (λ xs. get_or store (place_in size xs i) 0) (row_set_same pages.rows part _ (omega (arith, below, is.parts)))
          ∙ ap (λ n. get_or store (n * size + i % size) 0) (get_or-take (pages_for size count) (row pages.rows part) (i / size) 0 page)
          ∙ ap (λ p. get_or store (place_in size (row pages.rows p) i) 0) (sym same)
      | inr differs ↦ ap (λ xs. get_or store (place_in size xs i) 0) (row_set_other pages.rows part other _ differs)
    ])
    ∙ sym (counted size store pages.rows counts part count below)
    ∙ ap (set (all_paged size store pages.rows counts) part) (sym (ap (take count) (row_paged size store pages.rows counts part below) ∙ take-tabulated (get_or counts part 0) _ count less))

-- the same of rows of items that are seen
pub part_laid : (size : ℕ) (store : List ℕ) (rows seen : List (List ℕ)) (counts : List ℕ) (part : ℕ) → all_paged size store rows counts ≡ seen → part < length seen → part < length counts
part_laid size store rows seen counts part is below = omega (arith, below, ap length is, length-tabulated (length counts) (λ p. paged size store (row rows p) (get_or counts p 0)))

pub count_laid : (size : ℕ) (store : List ℕ) (rows seen : List (List ℕ)) (counts : List ℕ) (part : ℕ) → all_paged size store rows counts ≡ seen → part < length seen → get_or counts part 0 ≡ length (row seen part)
count_laid size store rows seen counts part is below =
    sym (length-row_paged size store rows counts part (part_laid size store rows seen counts part is below)) ∙ ap (λ r. length (row r part)) is

pub read_laid : (size : ℕ) (store : List ℕ) (rows seen : List (List ℕ)) (counts : List ℕ) (part i item : ℕ) → all_paged size store rows counts ≡ seen → part < length seen → i < length (row seen part)
    → item ≡ get_or store (place_in size (row rows part) i) 0 → slice_get (row seen part) i ≡ Some item
read_laid size store rows seen counts part i item is below inside reads =
    slice_get-get_or (row seen part) i 0 inside
    ∙ ap Some (ap (λ r. get_or (row r part) i 0) (sym is)
    ∙ item_paged size store rows counts part i 0 (part_laid size store rows seen counts part is below) (omega (arith, inside, count_laid size store rows seen counts part is below)) ∙ sym reads)

pub place_is : (size : ℕ) (rows : List (List ℕ)) (part i page : ℕ) → slice_get (row rows part) (i / size) ≡ Some page → place_in size (row rows part) i ≡ page * size + i % size
place_is size rows part i page is = ap (λ n. n * size + i % size) (get_or_from_slice_get (row rows part) (i / size) page 0 is)

-- an item more in a part, for which a page was there or is new
pub laid_pushed : (size : ℕ) (pages pages' : Held) (store counts : List ℕ) (part item : ℕ) → 0 < size → IsLaid size pages store counts → part < length counts
    → IsExtended pages.rows pages'.rows part (pages_for size (get_or counts part 0 + 1) - length (row pages.rows part)) → pages'.count ≡ pages.count → IsHeld pages'
    → all_paged size (set store (place_in size (row pages'.rows part) (get_or counts part 0)) item) pages'.rows (set counts part (get_or counts part 0 + 1)) ≡ pushed (all_paged size store pages.rows counts) part item
laid_pushed size pages pages' store counts part item some is below extended same sound =
    let count : ℕ = get_or counts part 0 in
    let counts' : List ℕ = set counts part (count + 1) in
    let laid : IsLaid size pages' store counts' = exact_extended size pages pages' store counts part (count + 1) some is below extended (omega arith) same sound in
    let whole = laid_paged size pages' store counts' some laid in
    let there : part < length pages.rows = omega (arith, below, is.parts) in
    let below' : part < length counts' = subst (λ n. part < n) (sym (length-set counts part (count + 1))) below in
    let is_count : get_or counts' part 0 ≡ count + 1 = get_or-set_same counts part (count + 1) 0 below in
    let inside : count < get_or counts' part 0 = omega (arith, is_count) in
    let Old : List (List ℕ) = all_paged size store pages.rows counts in
    let unread_old : all_paged size store pages'.rows counts ≡ all_paged size store pages.rows counts =
    unread size store store pages.rows pages'.rows counts (λ other i h inner. ap (λ n. get_or store n 0) (kept_extended size store pages.rows pages'.rows counts part _ some there (laid_paged size pages store counts some is) extended other i h inner)) in
    let long : all_paged size store pages'.rows counts' ≡ set Old part (paged size store (row pages'.rows part) (count + 1)) =
    sym (counted size store pages'.rows counts part (count + 1) below) ∙ ap (λ r. set r part (paged size store (row pages'.rows part) (count + 1))) unread_old in
    let mine : row (all_paged size store pages'.rows counts') part ≡ row Old part ++ get_or store (place_in size (row pages'.rows part) count) 0 ∷ [] =
    row_paged size store pages'.rows counts' part below' ∙ ap (paged size store (row pages'.rows part)) is_count ∙ tabulated_more count _
    ∙ ap (λ xs. xs ++ get_or store (place_in size (row pages'.rows part) count) 0 ∷ []) (sym (row_paged size store pages'.rows counts part below) ∙ ap (λ r. row r part) unread_old) in
    let old_long : length (row Old part) ≡ count = length-row_paged size store pages.rows counts part below in
    sym (written size store pages'.rows counts' part count item some whole below' inside)
    ∙ ap (λ xs. set (all_paged size store pages'.rows counts') part (set xs count item)) mine
    ∙ ap (λ xs. set (all_paged size store pages'.rows counts') part xs) (set_at (row Old part) (get_or store (place_in size (row pages'.rows part) count) 0) [] item count old_long)
    ∙ ap (λ r. set r part (row Old part ++ item ∷ [])) long
    ∙ set-set Old part (paged size store (row pages'.rows part) (count + 1)) (row Old part ++ item ∷ [])

-- all rows together have as many items as their counts say, and pages for that
pub held_counts : (rows : List (List ℕ)) (counts : List ℕ) → length rows ≡ length counts → ((part : ℕ) → part < length counts → length (row rows part) ≡ get_or counts part 0) → held rows ≡ sum_by (λ n. n) counts
held_counts [] [] same is = refl
held_counts [] (count ∷ counts) same is = absurd (omega (arith, same))
held_counts (first ∷ rows) [] same is = absurd (omega (arith, same))
held_counts (first ∷ rows) (count ∷ counts) same is =
    omega (arith, sum_by-cons length first rows, sum_by-cons (λ n. n) count counts, is 0 (omega arith), held_counts rows counts (omega (arith, same)) (λ part h. is (suc part) (omega (arith, h))))

pub pages_within : (size : ℕ) (rows : List (List ℕ)) (counts : List ℕ) → length rows ≡ length counts → ((part : ℕ) → part < length counts → length (row rows part) * size + 1 ≤ get_or counts part 0 + size)
    → held rows * size + length counts ≤ sum_by (λ n. n) counts + length counts * size
pages_within size [] [] same is = omega arith
pages_within size [] (count ∷ counts) same is = absurd (omega (arith, same))
pages_within size (first ∷ rows) [] same is = absurd (omega (arith, same))
pages_within size (first ∷ rows) (count ∷ counts) same is =
    omega (arith, ap (λ n. n * size) (sum_by-cons length first rows), sum_by-cons (λ n. n) count counts, is 0 (omega arith), pages_within size rows counts (omega (arith, same)) (λ part h. is (suc part) (omega (arith, h))))

-- where all may have fewer items than the most, a page is free
pub page_free : (pages : Held) (store counts : List ℕ) (most : ℕ) → IsLaid 128 pages store counts → most + 127 * length counts ≤ pages.count * 128 → held (all_paged 128 store pages.rows counts) < most → held pages.rows < pages.count
page_free pages store counts most is room less =
    let all = held_counts (all_paged 128 store pages.rows counts) counts (length-tabulated (length counts) (λ p. paged 128 store (row pages.rows p) (get_or counts p 0))) (λ part h. length-row_paged 128 store pages.rows counts part h) in
    let pages' = pages_within 128 pages.rows counts is.parts (λ part h. omega (arith, is.exact part h)) in
    omega (arith, all, pages', room, less)

-- what stands in the store doesn't matter
pub laid_store : (size : ℕ) (pages : Held) (store store' counts : List ℕ) → IsLaid size pages store counts → length store' ≡ length store → IsLaid size pages store' counts
laid_store size pages store store' counts is same = record { sound = is.sound; whole = same ∙ is.whole; parts = is.parts; exact = is.exact }

-- rows without items
pub none_paged : (size parts : ℕ) (store : List ℕ) → all_paged size store (replicate parts []) (replicate parts 0) ≡ replicate parts []
none_paged size parts store =
    sym (is_tabulated (replicate parts []) (length (replicate parts 0)) _ (length-replicate parts [] ∙ sym (length-replicate parts 0))
    (λ i d h. let below : i < parts = subst (λ n. i < n) (length-replicate parts 0) h in
    get_or-replicate parts i [] d below ∙ ap (paged size store (row (replicate parts []) i)) (sym (get_or-replicate parts i 0 0 below))))

pub none_laid : (size : ℕ) (pages : Held) (store : List ℕ) (parts : ℕ) → 0 < size → pages.rows ≡ replicate parts [] → IsHeld pages → length store ≡ pages.count * size → IsLaid size pages store (replicate parts 0)
none_laid size pages store parts some empty sound whole = record {
  sound = sound;
  whole = whole;
  parts = ap length empty ∙ length-replicate parts [] ∙ sym (length-replicate parts 0);
  exact = λ part h. let below : part < parts = subst (λ n. part < n) (length-replicate parts 0) h in
      ap (λ r. length (row r part)) empty ∙ ap length (row_empty parts part) ∙ sym (ap (pages_for size) (get_or-replicate parts part 0 0 below) ∙ no_pages size some);
}
  where
    no_pages : (size : ℕ) → 0 < size → pages_for size 0 ≡ 0
    no_pages size some = let less = div_below (0 + (size - 1)) size 1 some (omega (arith, some)) in omega (arith, less)
