-- Lists that are made class by class, each behind its parents.
use Rattle.std.proofs.Common.{◌≡◌, ℕ, zero, suc, ◌+◌, ◌<◌, ◌≢◌, List, [], length, take, get_or, set, Some, sym, ap, subst, ◌∙◌, inl, inr, arith, length-set, get_or-set_same, get_or-set_other}
use Rattle.std.specs.Prelude.{slice_get}
use Rattle.std.specs.List.{Contains}
use Rattle.std.proofs.lemmas.Bool.{cases_eq}
use Rattle.std.proofs.lemmas.List.{take_more, take_all}
use Rattle.std.proofs.lemmas.List.Elements.{Contains-push_cases}
use Rattle.std.proofs.lemmas.Option.{get_or_from_slice_get, slice_get-get_or, slice_get_within}
use Rattle.cb_hierarchy.specs.declared.class.Class.{Class}
use Rattle.cb_hierarchy.specs.Inner.{IsLocal, IsParentsFirst, list_at}
use Rattle.cb_hierarchy.specs.Orders.{in_turns}

-- the lists of these classes are there, in whatever number of turns above their ranks
abbrev pub AreMade : ((ℕ → List ℕ) → ℕ → List ℕ) → (ℕ → ℕ) → List ℕ → List (List ℕ) → Type 0
AreMade rule rank done lists =
    (class turns : ℕ) → Contains done class → rank class < turns → slice_get lists class ≡ Some (in_turns rule turns class)

slice_get_same : (lists : List (List ℕ)) (i : ℕ) (list : List ℕ) → i < length lists → slice_get (set lists i list) i ≡ Some list
slice_get_same lists i list within =
    slice_get-get_or (set lists i list) i [] (omega (arith, length-set lists i list)) ∙ ap Some (get_or-set_same lists i list [] within)

slice_get_other : (lists : List (List ℕ)) (i j : ℕ) (list other : List ℕ) → j ≢ i → slice_get lists j ≡ Some other → slice_get (set lists i list) j ≡ Some other
slice_get_other lists i j list other apart is =
    let within : j < length lists = slice_get_within lists j other is in
    slice_get-get_or (set lists i list) j [] (omega (arith, length-set lists i list))
    ∙ ap Some (get_or-set_other lists i j list [] apart ∙ get_or_from_slice_get lists j other [] is)

module _ (classes : List Class) (order : List ℕ) (first : IsParentsFirst classes order) (rule : (ℕ → List ℕ) → ℕ → List ℕ) (local : IsLocal classes rule) where
  -- the list of the next class, in so many turns
  next_list : (lists : List (List ℕ)) (place class turns : ℕ) → slice_get order place ≡ Some class → AreMade rule first.rank (take place order) lists → first.rank class < turns → rule (list_at lists) class ≡ in_turns rule turns class
  next_list lists place class zero at made low = absurd (omega arith)
  next_list lists place class (suc turns) at made low =
      local class (list_at lists) (in_turns rule turns)
      (λ parent of. get_or_from_slice_get lists parent (in_turns rule turns parent) []
      (made parent turns (first.behind place class parent at of) (omega (arith, first.rising class parent of))))

  -- one class more
  pub one_more : (lists : List (List ℕ)) (place class : ℕ) (list : List ℕ) → place < length order → class ≡ get_or order place class → length lists ≡ length classes → AreMade rule first.rank (take place order) lists → list ≡ rule (list_at lists) class → AreMade rule first.rank (take (place + 1) order) (set lists class list)
  one_more lists place class list within is as_many made by other turns among low =
      let at : slice_get order place ≡ Some class = slice_get-get_or order place class within ∙ ap Some (sym is) in
      let here : class < length lists = subst (λ n. class < n) (sym as_many) (first.below class (place, within, sym is)) in
      elim (cases_eq other class) as (λ _. slice_get (set lists class list) other ≡ Some (in_turns rule turns other)) [
        | inl same ↦ subst (λ other. first.rank other < turns → slice_get (set lists class list) other ≡ Some (in_turns rule turns other)) (sym same)
            (λ low. slice_get_same lists class list here ∙ ap Some (by ∙ next_list lists place class turns at made low)) low
        | inr apart ↦
            elim (Contains-push_cases (take place order) (get_or order place class) other (subst (λ taken. Contains taken other) (take_more order place class within) among)) as (λ _. slice_get (set lists class list) other ≡ Some (in_turns rule turns other)) [
              | inl before ↦ slice_get_other lists class other list (in_turns rule turns other) apart (made other turns before low)
              | inr same ↦ absurd (apart (sym same ∙ sym is))
            ]
      ]

  -- and all
  pub all_made : (lists : List (List ℕ)) (class : ℕ) → AreMade rule first.rank (take (length order) order) lists → class < length classes → slice_get lists class ≡ Some (in_turns rule (length classes) class)
  all_made lists class made within =
      made class (length classes) (subst (λ taken. Contains taken class) (sym (take_all (length order) order (omega arith))) (first.every class within)) (first.low class within)

  -- turns above a rank come to the same
  settled : (one other class : ℕ) → first.rank class < one → first.rank class < other → in_turns rule one class ≡ in_turns rule other class
  settled zero other class low low' = absurd (omega arith)
  settled (suc one) zero class low low' = absurd (omega arith)
  settled (suc one) (suc other) class low low' =
      local class (in_turns rule one) (in_turns rule other)
      (λ parent of. let less = first.rising class parent of in settled one other parent (omega (arith, less)) (omega (arith, less)))

  -- one turn more than there are classes
  pub enough : (class : ℕ) → class < length classes → rule (in_turns rule (length classes)) class ≡ in_turns rule (length classes) class
  enough class within = let low = first.low class within in settled (suc (length classes)) (length classes) class (omega (arith, low)) low
