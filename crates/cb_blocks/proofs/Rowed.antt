-- Rows with a number more or less at the end of one.
use Rattle.std.proofs.Common.{◌≡◌, ◌∙◌, ℕ, ◌+◌, ◌-◌, ◌<◌, ◌≤◌, ◌≢◌, zero, suc, List, [], ◌∷◌, ◌++◌, length, get_or, set, take, refl, sym, ap, arith, subst, append_assoc, get_or-set_same, get_or-set_other, length-append, length-set, inl, inr}
use Rattle.std.proofs.lemmas.Bool.{cases_eq}
use Rattle.std.proofs.lemmas.List.{get_or_append_left, append-nil, length-take-le, length_push, set-get_or, set-set, take_all, take-take}
use Rattle.std.proofs.lemmas.List.Sums.{sum_by-cons, sum_by-set}
use Rattle.cb_blocks.specs.Rows.{IsExtended, held, popped, pushed, row}

pub row_set_same : (rows : List (List ℕ)) (part : ℕ) (new : List ℕ) → part < length rows → row (set rows part new) part ≡ new
row_set_same rows part new below = get_or-set_same rows part new [] below

pub row_set_other : (rows : List (List ℕ)) (part other : ℕ) (new : List ℕ) → other ≢ part → row (set rows part new) other ≡ row rows other
row_set_other rows part other new differs = get_or-set_other rows part other new [] differs

pub held_set : (rows : List (List ℕ)) (part : ℕ) (new : List ℕ) → part < length rows → held (set rows part new) + length (row rows part) ≡ held rows + length new
held_set rows part new below = sum_by-set length rows part new [] below

pub held_pushed : (rows : List (List ℕ)) (part number : ℕ) → part < length rows → held (pushed rows part number) ≡ held rows + 1
held_pushed rows part number below =
    omega (arith, held_set rows part (row rows part ++ number ∷ []) below, length_push (row rows part) number)

pub held_popped : (rows : List (List ℕ)) (part : ℕ) → part < length rows → 0 < length (row rows part) → held (popped rows part) + 1 ≡ held rows
held_popped rows part below filled =
    let short : length (take (length (row rows part) - 1) (row rows part)) ≡ length (row rows part) - 1 = length-take-le (length (row rows part) - 1) (row rows part) (omega arith) in
    omega (arith, held_set rows part (take (length (row rows part) - 1) (row rows part)) below, short)

-- a row has no more than all have
pub row_within : (rows : List (List ℕ)) (part : ℕ) → length (row rows part) ≤ held rows
row_within [] part = omega arith
row_within (first ∷ rest) zero = omega (arith, sum_by-cons length first rest)
row_within (first ∷ rest) (suc part) = omega (arith, row_within rest part, sum_by-cons length first rest)

-- a row that has a number is one of the rows
pub row_inside : (rows : List (List ℕ)) (part i : ℕ) → i < length (row rows part) → part < length rows
row_inside [] part i inside = absurd (omega (arith, inside))
row_inside (first ∷ rest) zero i inside = omega arith
row_inside (first ∷ rest) (suc part) i inside = omega (arith, row_inside rest part i inside)

-- rows that grow by one number after the other
pub not_extended : (rows : List (List ℕ)) (part count : ℕ) → count ≡ 0 → IsExtended rows rows part count
not_extended rows part count none = record { more = []; long = sym none; is = sym (ap (set rows part) (append-nil (row rows part)) ∙ set-get_or rows part []) }

pub length_extended : (rows rows' : List (List ℕ)) (part count : ℕ) → part < length rows → IsExtended rows rows' part count → length (row rows' part) ≡ length (row rows part) + count
length_extended rows rows' part count below is =
    ap (λ r. length (row r part)) is.is ∙ ap length (row_set_same rows part (row rows part ++ is.more) below) ∙ length-append (row rows part) is.more ∙ ap (λ n. length (row rows part) + n) is.long

pub extended_more : (rows rows' : List (List ℕ)) (part count number : ℕ) → part < length rows → IsExtended rows rows' part count → IsExtended rows (pushed rows' part number) part (count + 1)
extended_more rows rows' part count number below is =
    let new : List ℕ = row rows part ++ is.more in
    record {
      more = is.more ++ number ∷ [];
      long = length_push is.more number ∙ ap (λ n. n + 1) is.long;
      is = ap (λ r. pushed r part number) is.is ∙ ap (λ xs. set (set rows part new) part (xs ++ number ∷ [])) (row_set_same rows part new below) ∙ set-set rows part new (new ++ number ∷ [])
          ∙ ap (set rows part) (append_assoc (row rows part) is.more (number ∷ []));
    }

pub held_extended : (rows rows' : List (List ℕ)) (part count : ℕ) → part < length rows → IsExtended rows rows' part count → held rows' ≡ held rows + count
held_extended rows rows' part count below is =
    omega (arith, ap held is.is, held_set rows part (row rows part ++ is.more) below, length-append (row rows part) is.more, is.long)

pub parts_extended : (rows rows' : List (List ℕ)) (part count : ℕ) → IsExtended rows rows' part count → length rows' ≡ length rows
parts_extended rows rows' part count is = ap length is.is ∙ length-set rows part (row rows part ++ is.more)

-- rows that are cut, one number after the other
pub not_cut : (rows : List (List ℕ)) (part count : ℕ) → length (row rows part) ≤ count → rows ≡ set rows part (take count (row rows part))
not_cut rows part count all = sym (ap (set rows part) (take_all count (row rows part) all) ∙ set-get_or rows part [])

pub cut_more : (rows rows' : List (List ℕ)) (part count : ℕ) → part < length rows → 0 < count → count ≤ length (row rows part) → rows' ≡ set rows part (take count (row rows part))
    → popped rows' part ≡ set rows part (take (count - 1) (row rows part))
cut_more rows rows' part count below some within is =
    let kept : List ℕ = take count (row rows part) in
    let there : row rows' part ≡ kept = ap (λ r. row r part) is ∙ row_set_same rows part kept below in
    let long : length kept ≡ count = length-take-le count (row rows part) within in
    ap (λ xs. set rows' part (take (length xs - 1) xs)) there ∙ ap (λ n. set rows' part (take (n - 1) kept)) long ∙ ap (λ r. set r part (take (count - 1) kept)) is
    ∙ set-set rows part kept (take (count - 1) kept) ∙ ap (set rows part) (take-take (count - 1) count (row rows part) (omega arith))

pub length_pushed : (rows : List (List ℕ)) (part number : ℕ) → part < length rows → length (row (pushed rows part number) part) ≡ length (row rows part) + 1
length_pushed rows part number below = ap length (row_set_same rows part (row rows part ++ number ∷ []) below) ∙ length_push (row rows part) number

pub length_popped : (rows : List (List ℕ)) (part : ℕ) → part < length rows → length (row (popped rows part) part) ≡ length (row rows part) - 1
length_popped rows part below = ap length (row_set_same rows part _ below) ∙ length-take-le (length (row rows part) - 1) (row rows part) (omega arith)

-- the numbers that were there stand where they stood
pub entry_extended : (rows rows' : List (List ℕ)) (part count other i : ℕ) → part < length rows → IsExtended rows rows' part count → i < length (row rows other)
    → (i < length (row rows' other)) × (get_or (row rows' other) i 0 ≡ get_or (row rows other) i 0)
entry_extended rows rows' part count other i below is inside =
    let Good : List ℕ → Type 0 = λ xs. (i < length xs) × (get_or xs i 0 ≡ get_or (row rows other) i 0) in
    subst Good (sym (ap (λ r. row r other) is.is))
    (elim (cases_eq other part) [
      | inl same ↦
          let new : List ℕ = row rows part ++ is.more in
          let here : i < length (row rows part) = subst (λ p. i < length (row rows p)) same inside in
          subst Good (sym (ap (row (set rows part new)) same ∙ row_set_same rows part new below))
          (omega (arith, here, length-append (row rows part) is.more), get_or_append_left (row rows part) is.more 0 i here ∙ ap (λ p. get_or (row rows p) i 0) (sym same))
      | inr differs ↦ subst Good (sym (row_set_other rows part other _ differs)) (inside, refl)
    ])
