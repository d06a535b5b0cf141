-- Numbers that are told apart by where they stand.
use Rattle.std.proofs.Common.{◌≡◌, ◌∙◌, ℕ, ◌+◌, ◌-◌, ◌<◌, ◌≤◌, ◌≢◌, ◌^◌, List, [], ◌∷◌, ◌++◌, length, get_or, set, take, sym, ap, subst, arith, get_or-set_same, get_or-set_other, inl, inr}
use Rattle.std.proofs.lemmas.Bool.{cases_eq}
use Rattle.std.proofs.lemmas.List.{get_or-take, get_or_append_left, get_or_push, length-take-le, length_push}
use Rattle.cb_blocks.specs.Holdings.{FreeTagged, RowsTagged, tag}
use Rattle.cb_blocks.specs.Rows.{IsApart, held, popped, pushed, row}
use Rattle.cb_blocks.proofs.Rowed.{row_inside, row_set_other, row_set_same, row_within}

pub apart_by_tags : (tags : List ℕ) (fresh : ℕ) (rows : List (List ℕ)) → held rows ≤ 2 ^ 20 → RowsTagged tags fresh rows → IsApart rows
apart_by_tags tags fresh rows few tagged part other i j inside beside same =
    let one = (tagged part i inside).1 in
    let two = (tagged other j beside).1 in
    let tags_same : tag part i ≡ tag other j = sym one ∙ ap (λ n. get_or tags n 0) same ∙ two in
    let short = row_within rows part in
    let short' = row_within rows other in
    (omega (arith, tags_same, short, short'), omega (arith, tags_same, short, short'))

-- a tag stays where another is changed
stays : (tags : List ℕ) (at item old new there : ℕ) → get_or tags at 0 ≡ old → get_or tags item 0 ≡ there → there ≢ old → get_or (set tags at new) item 0 ≡ there
stays tags at item old new there is_old is_there differs =
    get_or-set_other tags at item new 0 (λ same. differs (sym is_there ∙ ap (λ n. get_or tags n 0) same ∙ is_old)) ∙ is_there

rows_pushed : (tags : List ℕ) (fresh : ℕ) (rows : List (List ℕ)) (part number : ℕ) → part < length rows → RowsTagged tags fresh rows
    → number < fresh → get_or tags number 0 ≡ tag part (length (row rows part)) → RowsTagged tags fresh (pushed rows part number)
rows_pushed tags fresh rows part number below tagged small is other i inside =
    let Good : List ℕ → ℕ → ℕ → Type 0 = λ xs q k. (get_or xs k 0 < fresh) × (get_or tags (get_or xs k 0) 0 ≡ tag q k) in
    let new : List ℕ = row rows part ++ number ∷ [] in
    elim (cases_eq other part) [
      | inl same ↦
          let there : row (pushed rows part number) other ≡ new = ap (row (pushed rows part number)) same ∙ row_set_same rows part new below in
          let long : i < length (row rows part) + 1 = subst (λ n. i < n) (ap length there ∙ length_push (row rows part) number) inside in
          subst (λ xs. Good xs other i) (sym there) (subst (λ q. Good new q i) (sym same) (elim (cases_eq i (length (row rows part))) [
            | inl last ↦
                let item : get_or new i 0 ≡ number = get_or_push (row rows part) number 0 i (sym last) in
                (subst (λ n. n < fresh) (sym item) small, ap (λ n. get_or tags n 0) item ∙ is ∙ ap (tag part) (sym last))
            | inr inner ↦
                let low : i < length (row rows part) = omega (arith, inner, long) in
                let item : get_or new i 0 ≡ get_or (row rows part) i 0 = get_or_append_left (row rows part) (number ∷ []) 0 i low in
                let old = tagged part i low in
                (subst (λ n. n < fresh) (sym item) old.0, ap (λ n. get_or tags n 0) item ∙ old.1)
          ]))
      | inr differs ↦
          let there : row (pushed rows part number) other ≡ row rows other = row_set_other rows part other new differs in
          subst (λ xs. Good xs other i) (sym there) (tagged other i (subst (λ xs. i < length xs) there inside))
    ]

-- the last free number is taken
pub free_taken_rows : (tags : List ℕ) (fresh parts : ℕ) (rows : List (List ℕ)) (free : List ℕ) (part number : ℕ) → part < length rows → length rows ≡ parts → held rows ≤ 2 ^ 20 → fresh ≤ length tags
    → RowsTagged tags fresh rows → FreeTagged tags fresh parts free → 0 < length free → get_or free (length free - 1) 0 ≡ number
    → RowsTagged (set tags number (tag part (length (row rows part)))) fresh (pushed rows part number)
free_taken_rows tags fresh parts rows free part number below all few long tagged freed some is =
    let last = freed (length free - 1) (omega (arith, some)) in
    let small : number < fresh = subst (λ n. n < fresh) is last.0 in
    let old : get_or tags number 0 ≡ tag parts (length free - 1) = ap (λ n. get_or tags n 0) (sym is) ∙ last.1 in
    rows_pushed _ fresh rows part number below
    (λ other i inside. let there = tagged other i inside in (
      there.0,
      stays tags number _ (tag parts (length free - 1)) _ (tag other i) old there.1
          (λ same. absurd (omega (arith, same, row_within rows other, all, inside, few, row_inside rows other i inside))),
    ))
    small (get_or-set_same tags number _ 0 (omega (arith, small, long)))

pub free_taken_free : (tags : List ℕ) (fresh parts : ℕ) (free : List ℕ) (number new : ℕ) → FreeTagged tags fresh parts free → 0 < length free → get_or free (length free - 1) 0 ≡ number
    → FreeTagged (set tags number new) fresh parts (take (length free - 1) free)
free_taken_free tags fresh parts free number new freed some is i inside =
    let last = freed (length free - 1) (omega (arith, some)) in
    let old : get_or tags number 0 ≡ tag parts (length free - 1) = ap (λ n. get_or tags n 0) (sym is) ∙ last.1 in
    let low : i < length free - 1 = subst (λ n. i < n) (length-take-le (length free - 1) free (omega arith)) inside in
    let there = freed i (omega (arith, low)) in
    let item = get_or-take (length free - 1) free i 0 low in (
      subst (λ n. n < fresh) (sym item) there.0,
      ap (λ n. get_or (set tags number new) n 0) item ∙ stays tags number _ (tag parts (length free - 1)) new (tag parts i) old there.1 (λ same. absurd (omega (arith, same, low))),
    )

-- the first number that was never taken
pub fresh_taken_rows : (tags : List ℕ) (fresh : ℕ) (rows : List (List ℕ)) (part : ℕ) → part < length rows → fresh < length tags → RowsTagged tags fresh rows
    → RowsTagged (set tags fresh (tag part (length (row rows part)))) (fresh + 1) (pushed rows part fresh)
fresh_taken_rows tags fresh rows part below long tagged =
    rows_pushed _ (fresh + 1) rows part fresh below
    (λ other i inside. let there = tagged other i inside in
    (omega (arith, there.0), get_or-set_other tags fresh _ _ 0 (λ same. absurd (omega (arith, same, there.0))) ∙ there.1))
    (omega arith) (get_or-set_same tags fresh _ 0 long)

pub fresh_taken_free : (tags : List ℕ) (fresh parts : ℕ) (free : List ℕ) (new : ℕ) → FreeTagged tags fresh parts free → FreeTagged (set tags fresh new) (fresh + 1) parts free
fresh_taken_free tags fresh parts free new freed i inside =
    let there = freed i inside in
    (omega (arith, there.0), get_or-set_other tags fresh _ _ 0 (λ same. absurd (omega (arith, same, there.0))) ∙ there.1)

-- the last number of a row is given back
pub given_rows : (tags : List ℕ) (fresh : ℕ) (rows : List (List ℕ)) (part number new : ℕ) → part < length rows → held rows ≤ 2 ^ 20 → RowsTagged tags fresh rows
    → 0 < length (row rows part) → get_or (row rows part) (length (row rows part) - 1) 0 ≡ number → RowsTagged (set tags number new) fresh (popped rows part)
given_rows tags fresh rows part number new below few tagged some is other i inside =
    let kept : List ℕ = take (length (row rows part) - 1) (row rows part) in
    let last = tagged part (length (row rows part) - 1) (omega (arith, some)) in
    let old : get_or tags number 0 ≡ tag part (length (row rows part) - 1) = ap (λ n. get_or tags n 0) (sym is) ∙ last.1 in
    let Good : List ℕ → ℕ → ℕ → Type 0 = λ xs q k. (get_or xs k 0 < fresh) × (get_or (set tags number new) (get_or xs k 0) 0 ≡ tag q k) in
    elim (cases_eq other part) [
      | inl same ↦
          let there : row (popped rows part) other ≡ kept = ap (row (popped rows part)) same ∙ row_set_same rows part kept below in
          let low : i < length (row rows part) - 1 = subst (λ n. i < n) (ap length there ∙ length-take-le (length (row rows part) - 1) (row rows part) (omega arith)) inside in
          let item = get_or-take (length (row rows part) - 1) (row rows part) i 0 low in
          let had = tagged part i (omega (arith, low)) in
          subst (λ xs. Good xs other i) (sym there) (subst (λ q. Good kept q i) (sym same) (
            subst (λ n. n < fresh) (sym item) had.0,
            ap (λ n. get_or (set tags number new) n 0) item ∙ stays tags number _ (tag part (length (row rows part) - 1)) new (tag part i) old had.1 (λ equal. absurd (omega (arith, equal, low))),
          ))
      | inr differs ↦
          let there : row (popped rows part) other ≡ row rows other = row_set_other rows part other kept differs in
          let within : i < length (row rows other) = subst (λ xs. i < length xs) there inside in
          let had = tagged other i within in
          subst (λ xs. Good xs other i) (sym there) (
            had.0,
            stays tags number _ (tag part (length (row rows part) - 1)) new (tag other i) old had.1
                (λ equal. differs (omega (arith, equal, within, row_within rows other, row_within rows part, few, some))),
          )
    ]

pub given_free : (tags : List ℕ) (fresh parts : ℕ) (rows : List (List ℕ)) (free : List ℕ) (part number : ℕ) → part < length rows → length rows ≡ parts → held rows ≤ 2 ^ 20 → fresh ≤ length tags
    → RowsTagged tags fresh rows → FreeTagged tags fresh parts free → 0 < length (row rows part) → get_or (row rows part) (length (row rows part) - 1) 0 ≡ number
    → FreeTagged (set tags number (tag parts (length free))) fresh parts (free ++ number ∷ [])
given_free tags fresh parts rows free part number below all few long tagged freed some is i inside =
    let last = tagged part (length (row rows part) - 1) (omega (arith, some)) in
    let small : number < fresh = subst (λ n. n < fresh) is last.0 in
    let old : get_or tags number 0 ≡ tag part (length (row rows part) - 1) = ap (λ n. get_or tags n 0) (sym is) ∙ last.1 in
    let new : List ℕ = set tags number (tag parts (length free)) in
    let within : i < length free + 1 = subst (λ n. i < n) (length_push free number) inside in
    elim (cases_eq i (length free)) [
      | inl end ↦
          let item : get_or (free ++ number ∷ []) i 0 ≡ number = get_or_push free number 0 i (sym end) in (
            subst (λ n. n < fresh) (sym item) small,
            ap (λ n. get_or new n 0) item ∙ get_or-set_same tags number _ 0 (omega (arith, small, long)) ∙ ap (tag parts) (sym end),
          )
      | inr inner ↦
          let low : i < length free = omega (arith, inner, within) in
          let item : get_or (free ++ number ∷ []) i 0 ≡ get_or free i 0 = get_or_append_left free (number ∷ []) 0 i low in
          let had = freed i low in (
            subst (λ n. n < fresh) (sym item) had.0,
            ap (λ n. get_or new n 0) item ∙ stays tags number _ (tag part (length (row rows part) - 1)) _ (tag parts i) old had.1
                (λ equal. absurd (omega (arith, equal, row_within rows part, few, some, below, all))),
          )
    ]
