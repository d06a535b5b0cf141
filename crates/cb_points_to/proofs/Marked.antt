-- Rows of marks, and items of lists by number.
use Rattle.std.proofs.Common.{◌≡◌, ◌∙◌, sym, ap, subst, inl, inr, arith, ℕ, ◌+◌, ◌<◌, ◌⊎◌, Bool, true, false, cond, List, [], ◌∷◌, ◌++◌, length, get_or, set, replicate, Some, slice_get, ◌≤◌}
use Rattle.std.specs.List.{All, Contains}
use Rattle.std.proofs.lemmas.Bool.{both_ways, cases_eq, cases_lt}
use Rattle.std.proofs.lemmas.List.{get_or-replicate, get_or-set_other, get_or-set_same, get_or_default, get_or_past, length-replicate, length-set}
use Rattle.std.proofs.lemmas.List.Elements.{Contains-append_left, Contains-get_or, Contains-push, Contains-push_cases}
use Rattle.std.proofs.lemmas.Option.{get_or_from_slice_get, slice_get_within}
use Rattle.std.proofs.lemmas.List.Sums.{sum_by-set}
use Rattle.cb_points_to.specs.Closed.{has}
use Rattle.cb_points_to.specs.Lists.{InRow, pushed}
use Rattle.cb_points_to.specs.Rows.{unmarked, unset, with_site}

-- items
module _ {T : Type 0} (rows : List (List T)) (at : ℕ) (item : T) where
  pub length-pushed : length (pushed rows at item) ≡ length rows
  length-pushed = length-set rows at (get_or rows at [] ++ item ∷ [])

  pub in_kept : (row : ℕ) (other : T) → InRow rows row other → InRow (pushed rows at item) row other
  in_kept row other there = elim (cases_eq row at) [
    | inr apart ↦ subst (λ all. Contains all other) (sym (get_or-set_other rows at row (get_or rows at [] ++ item ∷ []) [] apart)) there
    | inl same ↦ elim (cases_lt at (length rows)) [
      | inl low ↦
          subst (λ all. Contains all other) (sym (ap (λ n. get_or (pushed rows at item) n []) same ∙ get_or-set_same rows at (get_or rows at [] ++ item ∷ []) [] low))
          (Contains-append_left (get_or rows at []) (item ∷ []) other (subst (λ n. InRow rows n other) same there))
      | inr past ↦
          let none : Contains [] other = subst (λ all. Contains all other) (get_or_past rows row [] (omega (arith, same, past))) there in
          absurd (let low : none.0 < 0 = none.1 in omega arith)
    ]
  ]

  pub in_new : at < length rows → InRow (pushed rows at item) at item
  in_new low =
      subst (λ all. Contains all item) (sym (get_or-set_same rows at (get_or rows at [] ++ item ∷ []) [] low)) (Contains-push (get_or rows at []) item)

  pub in_cases : at < length rows → (row : ℕ) (other : T) → InRow (pushed rows at item) row other → InRow rows row other ⊎ ((row ≡ at) × (other ≡ item))
  in_cases low row other there = elim (cases_eq row at) [
    | inr apart ↦ inl (subst (λ all. Contains all other) (get_or-set_other rows at row (get_or rows at [] ++ item ∷ []) [] apart) there)
    | inl same ↦
        elim (Contains-push_cases (get_or rows at []) item other
        (subst (λ all. Contains all other) (ap (λ n. get_or (pushed rows at item) n []) same ∙ get_or-set_same rows at (get_or rows at [] ++ item ∷ []) [] low) there)) [
          | inl before ↦ inl (subst (λ n. InRow rows n other) (sym same) before)
          | inr new ↦ inr (same, sym new)
        ]
  ]

pub in_nothing : {T : Type 0} (n row : ℕ) (item : T) → InRow (replicate n []) row item → ⊥
in_nothing {T} n row item there =
    let none : Contains [] item = subst (λ all. Contains all item) (elim (cases_lt row n) [ inl low ↦ get_or-replicate n row [] [] low | inr past ↦ get_or_past (replicate n []) row [] (omega (arith, past, length-replicate {A = List T} n [])) ]) there in
    let low : none.0 < 0 = none.1 in
    omega arith

-- marks
mark_within : (marks : List Bool) (site : ℕ) → get_or marks site false ≡ true → site < length marks
mark_within marks site on =
    elim (cases_lt site (length marks)) [ inl l ↦ l | inr past ↦ absurd (both_ways (get_or marks site false) (get_or_past marks site false past) on) ]

module _ (rows : List (List Bool)) where
  pub node_within : (node site : ℕ) → has rows node site ≡ true → node < length rows
  node_within node site on = elim (cases_lt node (length rows)) [
    | inl l ↦ l
    | inr past ↦ absurd (both_ways (has rows node site) (ap (λ row. get_or row site false) (get_or_past rows node [] past)) on)
  ]

  pub site_within : (node site : ℕ) → has rows node site ≡ true → site < length (get_or rows node [])
  site_within node site on = mark_within (get_or rows node []) site on

module _ (rows : List (List Bool)) (node site : ℕ) where
  pub length-with_site : length (with_site rows node site) ≡ length rows
  length-with_site = length-set rows node (set (get_or rows node []) site true)

  pub each_kept : (sites : ℕ) → All (λ row. length row ≡ sites) rows → All (λ row. length row ≡ sites) (with_site rows node site)
  each_kept sites each = λ k d within. elim (cases_eq k node) [
    | inr apart ↦ ap length (get_or-set_other rows node k (set (get_or rows node []) site true) d apart) ∙ each k d (omega (arith, within, length-with_site))
    | inl same ↦
        let low : node < length rows = omega (arith, within, length-with_site, same) in
        ap (λ n. length (get_or (with_site rows node site) n d)) same
        ∙ ap length (get_or-set_same rows node (set (get_or rows node []) site true) d low)
        ∙ length-set (get_or rows node []) site true
        ∙ each node [] low
  ]

  module _ (in_rows : node < length rows) (in_row : site < length (get_or rows node [])) where
    at_node : get_or (with_site rows node site) node [] ≡ set (get_or rows node []) site true
    at_node = get_or-set_same rows node (set (get_or rows node []) site true) [] in_rows

    pub has_new : has (with_site rows node site) node site ≡ true
    has_new = ap (λ row. get_or row site false) at_node ∙ get_or-set_same (get_or rows node []) site true false in_row

    pub has_kept : (other at : ℕ) → has rows other at ≡ true → has (with_site rows node site) other at ≡ true
    has_kept other at on = elim (cases_eq other node) [
      | inr apart ↦ ap (λ row. get_or row at false) (get_or-set_other rows node other (set (get_or rows node []) site true) [] apart) ∙ on
      | inl same ↦
          ap (λ n. has (with_site rows node site) n at) same
          ∙ ap (λ row. get_or row at false) at_node
          ∙ elim (cases_eq at site) [
            | inl here ↦ ap (λ s. get_or (set (get_or rows node []) site true) s false) here ∙ get_or-set_same (get_or rows node []) site true false in_row
            | inr away ↦ get_or-set_other (get_or rows node []) site at true false away ∙ ap (λ n. has rows n at) (sym same) ∙ on
          ]
    ]

    pub has_cases : (other at : ℕ) → has (with_site rows node site) other at ≡ true → (has rows other at ≡ true) ⊎ ((other ≡ node) × (at ≡ site))
    has_cases other at on = elim (cases_eq other node) [
      | inr apart ↦ inl (sym (ap (λ row. get_or row at false) (get_or-set_other rows node other (set (get_or rows node []) site true) [] apart)) ∙ on)
      | inl same ↦ elim (cases_eq at site) [
        | inl here ↦ inr (same, here)
        | inr away ↦
            inl (ap (λ n. has rows n at) same
            ∙ sym (get_or-set_other (get_or rows node []) site at true false away)
            ∙ sym (ap (λ row. get_or row at false) at_node)
            ∙ ap (λ n. has (with_site rows node site) n at) (sym same)
            ∙ on)
      ]
    ]

    -- one mark less is not set
    unmarked_less : get_or (get_or rows node []) site false ≡ false → unmarked (set (get_or rows node []) site true) + 1 ≡ unmarked (get_or rows node [])
    unmarked_less off =
        let e = sum_by-set (λ mark. cond mark 0 1) (get_or rows node []) site true false in_row in
        let one : ◌≡◌ {A = ℕ} (cond (get_or (get_or rows node []) site false) 0 1) 1 = ap (λ (b : Bool). cond {A = ℕ} b 0 1) off in
        omega (arith, e, one)

    pub unset_less : has rows node site ≡ false → unset (with_site rows node site) + 1 ≡ unset rows
    unset_less off = omega (arith, unmarked_less off, sum_by-set unmarked rows node (set (get_or rows node []) site true) [] in_rows)

-- items by place
pub from_all : {T : Type 0} (P : T → Type 0) (xs : List T) (n : ℕ) (d : T) → ((k : ℕ) → k < n → P (get_or xs k d)) → length xs ≤ n → (x : T) → Contains xs x → P x
from_all P xs n d all reach x there = subst P (get_or_default xs there.0 d x there.1 ∙ there.2) (all there.0 (omega (arith, there.1, reach)))

pub in_row_at : {T : Type 0} (rows : List (List T)) (at : ℕ) (row : List T) (k : ℕ) (x : T) → row ≡ get_or rows at [] → slice_get row k ≡ Some x → InRow rows at x
in_row_at rows at row k x is there =
    subst (λ all. Contains all x) is (k, slice_get_within row k x there, get_or_from_slice_get row k x x there)

pub in_row_item : {T : Type 0} (rows : List (List T)) (at : ℕ) (row : List T) (k : ℕ) (d : T) → row ≡ get_or rows at [] → k < length row → InRow rows at (get_or row k d)
in_row_item rows at row k d is low = subst (λ all. Contains all (get_or row k d)) is (Contains-get_or row k d low)
