-- What is numbered by its place, item by item.
use Rattle.std.proofs.Common.{◌≡◌, ◌∙◌, ap, sym, ℕ, List, [], ◌∷◌, ◌++◌, get_or, take, length, map, ◌+◌, ◌<◌, arith}
use Rattle.std.specs.List.{enumerate_from, flat_map}
use Rattle.std.proofs.lemmas.Grind.{flat_map-append}
use Rattle.std.proofs.lemmas.List.{append-nil, append_assoc, length-take, map-append, take_more}

pub enumerate_append : {X : Type 0} (n : ℕ) (xs ys : List X) → enumerate_from n (xs ++ ys) ≡ enumerate_from n xs ++ enumerate_from (n + length xs) ys
enumerate_append {X} n [] ys =
    let same : n ≡ n + length {A = X} [] = omega arith in
    ap (λ start. enumerate_from start ys) same
enumerate_append n (x ∷ xs) ys =
    let same : n + 1 + length xs ≡ n + length (x ∷ xs) = omega arith in
    ap (λ rest. (n, x) ∷ rest) (enumerate_append (n + 1) xs ys ∙ ap (λ start. enumerate_from (n + 1) xs ++ enumerate_from start ys) same)

pub mapped_more : {X Y : Type 0} (f : X → Y) (xs : List X) (place : ℕ) (default : X) (before after : List Y) (entry : Y)
    → place < length xs → before ≡ map f (take place xs) → entry ≡ f (get_or xs place default) → after ≡ before ++ entry ∷ []
    → after ≡ map f (take (place + 1) xs)
mapped_more f xs place default before after entry short so is then =
    then ∙ (λ i. so i ++ is i ∷ []) ∙ sym (ap (map f) (take_more xs place default short) ∙ map-append f (take place xs) (get_or xs place default ∷ []))

module _ {X : Type 0} (xs : List X) (place : ℕ) (x : X) (short : place < length xs) (is : x ≡ get_or xs place x) where
  pub enumerate_more : enumerate_from 0 (take (place + 1) xs) ≡ enumerate_from 0 (take place xs) ++ (place, x) ∷ []
  enumerate_more =
      let same : 0 + length (take place xs) ≡ place = omega (arith, length-take {A = X}) in
      ap (enumerate_from 0) (take_more xs place x short)
      ∙ ap (λ item. enumerate_from 0 (take place xs ++ item ∷ [])) (sym is)
      ∙ enumerate_append 0 (take place xs) (x ∷ [])
      ∙ ap (λ start. enumerate_from 0 (take place xs) ++ (start, x) ∷ []) same

  -- one more item, each of which has one entry
  pub map_more : {Y : Type 0} (f : ℕ × X → Y) → map f (enumerate_from 0 (take (place + 1) xs)) ≡ map f (enumerate_from 0 (take place xs)) ++ f (place, x) ∷ []
  map_more f = ap (map f) enumerate_more ∙ map-append f (enumerate_from 0 (take place xs)) ((place, x) ∷ [])

  -- one more item, each of which has a list
  pub flat_more : {Y : Type 0} (f : ℕ × X → List Y) → flat_map f (enumerate_from 0 (take (place + 1) xs)) ≡ flat_map f (enumerate_from 0 (take place xs)) ++ f (place, x)
  flat_more f =
      ap (flat_map f) enumerate_more ∙ flat_map-append f (enumerate_from 0 (take place xs)) ((place, x) ∷ [])
      ∙ ap (λ rest. flat_map f (enumerate_from 0 (take place xs)) ++ rest) (append-nil (f (place, x)))

  -- lists that grow by them
  pub grown_by_one : {Y Z : Type 0} (g : Y → Z) (f : ℕ × X → Y) (old before after : List Z)
      → before ≡ old ++ map g (map f (enumerate_from 0 (take place xs))) → after ≡ before ++ g (f (place, x)) ∷ []
      → after ≡ old ++ map g (map f (enumerate_from 0 (take (place + 1) xs)))
  grown_by_one g f old before after so then =
      let one = g (f (place, x)) ∷ [] in
      then ∙ ap (λ list. list ++ one) so ∙ append_assoc old (map g (map f (enumerate_from 0 (take place xs)))) one
      ∙ ap (λ list. old ++ list) (sym (ap (map g) (map_more f) ∙ map-append g (map f (enumerate_from 0 (take place xs))) (f (place, x) ∷ [])))

  pub grown_by_list : {Y Z : Type 0} (g : Y → Z) (f : ℕ × X → List Y) (before after : List Z)
      → before ≡ map g (flat_map f (enumerate_from 0 (take place xs))) → after ≡ before ++ map g (f (place, x))
      → after ≡ map g (flat_map f (enumerate_from 0 (take (place + 1) xs)))
  grown_by_list g f before after so then =
      then ∙ ap (λ list. list ++ map g (f (place, x))) so ∙ sym (map-append g (flat_map f (enumerate_from 0 (take place xs))) (f (place, x)))
      ∙ sym (ap (map g) (flat_more f))
