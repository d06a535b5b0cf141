-- Each number that was ever taken stands in a row or is free, and a tag tells where.
use Rattle.std.proofs.Common.{◌≡◌, ◌∙◌, ℕ, ◌+◌, ◌-◌, ◌<◌, ◌≤◌, ◌^◌, List, [], ◌∷◌, ◌++◌, length, get_or, take, refl, sym, ap, subst, arith, inl, inr}
use Rattle.std.proofs.lemmas.Bool.{cases_eq}
use Rattle.std.proofs.lemmas.List.{get_or-take, get_or_append_left, get_or_push, length-take-le, length_push}
use Rattle.cb_blocks.specs.Holdings.{IsKept, IsNumberAt, Stands, tag}
use Rattle.cb_blocks.specs.Rows.{popped, pushed, row}
use Rattle.cb_blocks.proofs.Rowed.{row_inside, row_set_other, row_set_same, row_within}

-- what stands in a row stands there when a number is added
stands_pushed : (rows : List (List ℕ)) (part number other i item : ℕ) → part < length rows → IsNumberAt rows other i item → IsNumberAt (pushed rows part number) other i item
stands_pushed rows part number other i item below there =
    let Good : List ℕ → Type 0 = λ xs. (i < length xs) × (get_or xs i 0 ≡ item) in
    let new : List ℕ = row rows part ++ number ∷ [] in
    elim (cases_eq other part) [
      | inl same ↦
          let inside : i < length (row rows part) = subst (λ q. i < length (row rows q)) same there.0 in
          subst Good (sym (ap (row (pushed rows part number)) same ∙ row_set_same rows part new below))
          (omega (arith, inside, length_push (row rows part) number), get_or_append_left (row rows part) (number ∷ []) 0 i inside ∙ ap (λ q. get_or (row rows q) i 0) (sym same) ∙ there.1)
      | inr differs ↦ subst Good (sym (row_set_other rows part other new differs)) there
    ]

-- the number that is added stands at the end
pushed_stands : (rows : List (List ℕ)) (part number : ℕ) → part < length rows → IsNumberAt (pushed rows part number) part (length (row rows part)) number
pushed_stands rows part number below =
    let Good : List ℕ → Type 0 = λ xs. (length (row rows part) < length xs) × (get_or xs (length (row rows part)) 0 ≡ number) in
    subst Good (sym (row_set_same rows part (row rows part ++ number ∷ []) below))
    (omega (arith, length_push (row rows part) number), get_or_push (row rows part) number 0 (length (row rows part)) refl)

-- what stands in a row stays there when another number at an end goes
stands_popped : (rows : List (List ℕ)) (part other i item : ℕ) → part < length rows → (other ≡ part → i < length (row rows part) - 1) → IsNumberAt rows other i item → IsNumberAt (popped rows part) other i item
stands_popped rows part other i item below inner there =
    let Good : List ℕ → Type 0 = λ xs. (i < length xs) × (get_or xs i 0 ≡ item) in
    let kept : List ℕ = take (length (row rows part) - 1) (row rows part) in
    elim (cases_eq other part) [
      | inl same ↦
          let low : i < length (row rows part) - 1 = inner same in
          subst Good (sym (ap (row (popped rows part)) same ∙ row_set_same rows part kept below)) (
            omega (arith, low, length-take-le (length (row rows part) - 1) (row rows part) (omega arith)),
            get_or-take (length (row rows part) - 1) (row rows part) i 0 low ∙ ap (λ q. get_or (row rows q) i 0) (sym same) ∙ there.1,
          )
      | inr differs ↦ subst Good (sym (row_set_other rows part other kept differs)) there
    ]

pub stands_free_taken : (rows : List (List ℕ)) (free left : List ℕ) (part number other : ℕ) → part < length rows → free ≡ left ++ number ∷ [] → Stands rows free other → Stands (pushed rows part number) left other
stands_free_taken rows free left part number other below split stands =
    elim stands [
      | inl there ↦ inl (there.0, there.1, stands_pushed rows part number there.0 there.1 other below there.2)
      | inr there ↦
          let within : there.0 < length left + 1 = omega (arith, there.1, ap length split, length_push left number) in
          elim (cases_eq there.0 (length left)) [
            | inl end ↦
                let same : number ≡ other = sym (get_or_push left number 0 there.0 (sym end)) ∙ ap (λ xs. get_or xs there.0 0) (sym split) ∙ there.2 in
                inl (part, length (row rows part), subst (IsNumberAt (pushed rows part number) part (length (row rows part))) same (pushed_stands rows part number below))
            | inr inner ↦
                let low : there.0 < length left = omega (arith, inner, within) in
                inr (there.0, low, sym (get_or_append_left left (number ∷ []) 0 there.0 low) ∙ ap (λ xs. get_or xs there.0 0) (sym split) ∙ there.2)
          ]
    ]

pub stands_fresh_taken : (rows : List (List ℕ)) (free : List ℕ) (part fresh other : ℕ) → part < length rows → other < fresh + 1 → ((number : ℕ) → number < fresh → Stands rows free number)
    → Stands (pushed rows part fresh) free other
stands_fresh_taken rows free part fresh other below small stands =
    elim (cases_eq other fresh) [
      | inl same ↦ inl (part, length (row rows part), subst (IsNumberAt (pushed rows part fresh) part (length (row rows part))) (sym same) (pushed_stands rows part fresh below))
      | inr differs ↦
          elim (stands other (omega (arith, differs, small))) [
            | inl there ↦ inl (there.0, there.1, stands_pushed rows part fresh there.0 there.1 other below there.2)
            | inr there ↦ inr there
          ]
    ]

pub stands_given : (rows : List (List ℕ)) (free : List ℕ) (part number other : ℕ) → part < length rows → 0 < length (row rows part) → get_or (row rows part) (length (row rows part) - 1) 0 ≡ number
    → Stands rows free other → Stands (popped rows part) (free ++ number ∷ []) other
stands_given rows free part number other below some last stands =
    let end : Stands (popped rows part) (free ++ number ∷ []) number = inr (length free, omega (arith, length_push free number), get_or_push free number 0 (length free) refl) in
    elim stands [
      | inl there ↦
          elim (cases_eq there.0 part) [
            | inl same ↦
                elim (cases_eq there.1 (length (row rows part) - 1)) [
                  | inl final ↦
                      let is : number ≡ other = sym last ∙ ap (λ i. get_or (row rows part) i 0) (sym final) ∙ ap (λ q. get_or (row rows q) there.1 0) (sym same) ∙ there.2.1 in
                      subst (Stands (popped rows part) (free ++ number ∷ [])) is end
                  | inr inner ↦
                      let inside : there.1 < length (row rows part) = subst (λ q. there.1 < length (row rows q)) same there.2.0 in
                      inl (there.0, there.1, stands_popped rows part there.0 there.1 other below (λ e. omega (arith, inner, inside)) there.2)
                ]
            | inr differs ↦ inl (there.0, there.1, stands_popped rows part there.0 there.1 other below (λ e. absurd (differs e)) there.2)
          ]
      | inr there ↦ inr (there.0, omega (arith, there.1, length_push free number), get_or_append_left free (number ∷ []) 0 there.0 there.1 ∙ there.2)
    ]

-- the number with the tag of a place in a row stands there
pub told_by_tag : (rows : List (List ℕ)) (free tags : List ℕ) (count fresh parts most room part i number : ℕ) → IsKept rows free tags count fresh parts most room → number < fresh → i < length (row rows part)
    → get_or tags number 0 ≡ tag part i → IsNumberAt rows part i number
told_by_tag rows free tags count fresh parts most room part i number is small inside told =
    let few : length (row rows part) ≤ 2 ^ 20 = omega (arith, row_within rows part, is.sum, is.within, is.bound) in
    elim (is.stands number small) [
      | inl there ↦
          let tagged : get_or tags number 0 ≡ tag there.0 there.1 = ap (λ n. get_or tags n 0) (sym there.2.1) ∙ (is.rows_tagged there.0 there.1 there.2.0).1 in
          let short : length (row rows there.0) ≤ 2 ^ 20 = omega (arith, row_within rows there.0, is.sum, is.within, is.bound) in
          let same_part : there.0 ≡ part = omega (arith, tagged, told, inside, few, there.2.0, short) in
          let same_place : there.1 ≡ i = omega (arith, tagged, told, same_part) in
          (inside, ap (λ j. get_or (row rows part) j 0) (sym same_place) ∙ ap (λ q. get_or (row rows q) there.1 0) (sym same_part) ∙ there.2.1)
      | inr there ↦
          let tagged : get_or tags number 0 ≡ tag parts there.0 = ap (λ n. get_or tags n 0) (sym there.2) ∙ (is.free_tagged there.0 there.1).1 in
          absurd (omega (arith, tagged, told, row_inside rows part i inside, is.parts_are, inside, few, there.1, is.sum, is.within, is.bound))
    ]
