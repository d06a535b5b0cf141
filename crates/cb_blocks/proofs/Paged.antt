-- Items that lie in pages.
use Rattle.std.proofs.Common.{◌≡◌, ◌∙◌, ℕ, ◌+◌, ◌*◌, ◌/◌, ◌%◌, ◌<◌, List, [], length, get_or, set, sym, ap, arith, length-set, get_or-set_same, get_or-set_other}
use Rattle.std.proofs.lemmas.Nat.{div-add-mod', div-mul-add, div_below, mod-mul-add, mod_below}
use Rattle.cb_blocks.specs.Rows.{IsApart, IsPaged, all_paged, paged, place_in, row, tabulated}
use Rattle.cb_blocks.proofs.Tabulated.{get_or-tabulated, length-tabulated, same_tabulated, set_tabulated}

pub row_paged : (size : ℕ) (store : List ℕ) (rows : List (List ℕ)) (counts : List ℕ) (part : ℕ) → part < length counts
    → row (all_paged size store rows counts) part ≡ paged size store (row rows part) (get_or counts part 0)
row_paged size store rows counts part below = get_or-tabulated (length counts) _ part [] below

pub length-row_paged : (size : ℕ) (store : List ℕ) (rows : List (List ℕ)) (counts : List ℕ) (part : ℕ) → part < length counts
    → length (row (all_paged size store rows counts) part) ≡ get_or counts part 0
length-row_paged size store rows counts part below = ap length (row_paged size store rows counts part below) ∙ length-tabulated (get_or counts part 0) _

pub item_paged : (size : ℕ) (store : List ℕ) (rows : List (List ℕ)) (counts : List ℕ) (part i d : ℕ) → part < length counts → i < get_or counts part 0
    → get_or (row (all_paged size store rows counts) part) i d ≡ get_or store (place_in size (row rows part) i) 0
item_paged size store rows counts part i d below inside =
    ap (λ xs. get_or xs i d) (row_paged size store rows counts part below) ∙ get_or-tabulated (get_or counts part 0) _ i d inside

-- the page of an item is one of the row's
pub page_of : (size pages i : ℕ) → 0 < size → i < pages * size → i / size < pages
page_of size pages i some inside = div_below i size pages some inside

pub place_inside : (size : ℕ) (store : List ℕ) (rows : List (List ℕ)) (counts : List ℕ) (part i : ℕ) → 0 < size → IsPaged size store rows counts
    → i < length (row rows part) * size → place_in size (row rows part) i < length store
place_inside size store rows counts part i some is inside =
    omega (arith, is.within part (i / size) (page_of size _ i some inside), mod_below i size some)

pub places_apart : (size : ℕ) (rows : List (List ℕ)) (part other i j : ℕ) → 0 < size → IsApart rows
    → i < length (row rows part) * size → j < length (row rows other) * size → place_in size (row rows part) i ≡ place_in size (row rows other) j → (part ≡ other) × (i ≡ j)
places_apart size rows part other i j some apart inside beside same =
    let first = div-mul-add (get_or (row rows part) (i / size) 0) size (i % size) (mod_below i size some) in
    let second = div-mul-add (get_or (row rows other) (j / size) 0) size (j % size) (mod_below j size some) in
    let low = mod-mul-add (get_or (row rows part) (i / size) 0) size (i % size) (mod_below i size some) in
    let low' = mod-mul-add (get_or (row rows other) (j / size) 0) size (j % size) (mod_below j size some) in
    let pages : get_or (row rows part) (i / size) 0 ≡ get_or (row rows other) (j / size) 0 = sym first ∙ ap (λ n. n / size) same ∙ second in
    let rest : i % size ≡ j % size = sym low ∙ ap (λ n. n % size) same ∙ low' in
    let both = apart part other (i / size) (j / size) (page_of size _ i some inside) (page_of size _ j some beside) pages in
    (both.0, sym (div-add-mod' i size) ∙ ap (λ q. q * size + i % size) both.1 ∙ ap (λ r. j / size * size + r) rest ∙ div-add-mod' j size)

-- another item at a place
pub written : (size : ℕ) (store : List ℕ) (rows : List (List ℕ)) (counts : List ℕ) (part i item : ℕ) → 0 < size → IsPaged size store rows counts → part < length counts → i < get_or counts part 0
    → set (all_paged size store rows counts) part (set (row (all_paged size store rows counts) part) i item) ≡ all_paged size (set store (place_in size (row rows part) i) item) rows counts
written size store rows counts part i item some is below inside =
    let at : ℕ = place_in size (row rows part) i in
    let room : i < length (row rows part) * size = omega (arith, is.enough part below) in
    let there : at < length store = place_inside size store rows counts part i some is room in
    set_tabulated (length counts) _ _ part _ below
    (sym (ap (λ xs. set xs i item) (row_paged size store rows counts part below)
    ∙ set_tabulated (get_or counts part 0) _ (λ k. get_or (set store at item) (place_in size (row rows part) k) 0) i item inside
    (get_or-set_same store at item 0 there)
    (λ k h differs. get_or-set_other store at (place_in size (row rows part) k) item 0
    (λ same. differs (places_apart size rows part part k i some is.apart (omega (arith, is.enough part below)) room same).1))))
    (λ other h differs. same_tabulated (get_or counts other 0) _ _
    (λ k inner. get_or-set_other store at (place_in size (row rows other) k) item 0
    (λ same. differs (places_apart size rows other part k i some is.apart (omega (arith, is.enough other h)) room same).0)))

-- another number of items in a part
pub counted : (size : ℕ) (store : List ℕ) (rows : List (List ℕ)) (counts : List ℕ) (part count : ℕ) → part < length counts
    → set (all_paged size store rows counts) part (paged size store (row rows part) count) ≡ all_paged size store rows (set counts part count)
counted size store rows counts part count below =
    set_tabulated (length counts) _ _ part _ below
    (ap (λ n. paged size store (row rows part) n) (get_or-set_same counts part count 0 below))
    (λ other h differs. ap (λ n. paged size store (row rows other) n) (get_or-set_other counts part other count 0 differs))
    ∙ ap (λ n. tabulated n (λ p. paged size store (row rows p) (get_or (set counts part count) p 0))) (sym (length-set counts part count))

-- pages that no item reads may come and go, and what stands where no item is may change
pub unread : (size : ℕ) (store store' : List ℕ) (rows rows' : List (List ℕ)) (counts : List ℕ)
    → ((part i : ℕ) → part < length counts → i < get_or counts part 0 → get_or store' (place_in size (row rows' part) i) 0 ≡ get_or store (place_in size (row rows part) i) 0)
    → all_paged size store' rows' counts ≡ all_paged size store rows counts
unread size store store' rows rows' counts same =
    same_tabulated (length counts) _ _ (λ part h. same_tabulated (get_or counts part 0) _ _ (λ i inside. same part i h inside))
