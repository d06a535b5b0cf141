-- The first item that there is, item after item.
use Rattle.std.proofs.Common.{◌≡◌, ℕ, zero, suc, ◌+◌, ◌<◌, ◌≤◌, List, [], ◌∷◌, ◌++◌, length, map, take, get_or, Option, Some, None, refl, sym, ap, ◌∙◌, arith}
use Rattle.std.specs.Prelude.{option_map}
use Rattle.std.specs.List.{enumerate_from, flat_map}
use Rattle.std.proofs.lemmas.List.{map_more, take_all}
use Rattle.cb_text.specs.declared.constant.Constant.{Constant}
use Rattle.cb_classfile.specs.declared.body.Body.{Body}
use Rattle.cb_classfile.specs.declared.class.ClassFile.{ClassFile}
use Rattle.cb_hierarchy.specs.Resolution.{first_some}
use Rattle.cb_link.specs.InnerLacked.{body_lacks, entry_lacks}
use Rattle.cb_link.specs.Lacking.{first_lacking, lacks, lacks_in}

last_none : {Y : Type 0} (found : List (Option Y)) → first_some found ≡ None → first_some (found ++ None ∷ []) ≡ None
last_none [] none = refl
last_none (None ∷ found) none = last_none found none
last_none (Some y ∷ found) none = none

module _ {X Y : Type 0} (f : X → Option Y) where
  -- none so far, and this one is the first
  pub first_here : (xs : List X) (i : ℕ) (d : X) (y : Y) → i < length xs → first_some (map f (take i xs)) ≡ None → f (get_or xs i d) ≡ Some y → first_some (map f xs) ≡ Some y
  first_here [] i d y within none is = absurd (omega (arith, within))
  first_here (x ∷ xs) zero d y within none is = rw is refl
  first_here (x ∷ xs) (suc i) d y within none is = go (f x) none (λ none. first_here xs i d y (omega (arith, within)) none is) where
    go : (found : Option Y) → first_some (found ∷ map f (take i xs)) ≡ None → (first_some (map f (take i xs)) ≡ None → first_some (map f xs) ≡ Some y) → first_some (found ∷ map f xs) ≡ Some y
    go None none rest = rest none
    go (Some other) none rest = absurd (cc)

  -- none so far, and none here
  pub none_here : (xs : List X) (i : ℕ) (d : X) → i < length xs → first_some (map f (take i xs)) ≡ None → f (get_or xs i d) ≡ None → first_some (map f (take (i + 1) xs)) ≡ None
  none_here xs i d within none is =
      ap first_some (map_more f xs i d within) ∙ ap (λ (found : Option Y). first_some (map f (take i xs) ++ found ∷ [])) is ∙ last_none (map f (take i xs)) none

  pub none_all : (xs : List X) (i : ℕ) → length xs ≤ i → first_some (map f (take i xs)) ≡ None → first_some (map f xs) ≡ None
  none_all xs i past none = ap (λ (xs : List X). first_some (map f xs)) (sym (take_all i xs past)) ∙ none

-- lists of lists
first-append : {Y : Type 0} (one other : List (Option Y)) → first_some (one ++ other) ≡ first_some (first_some one ∷ other)
first-append [] other = refl
first-append (None ∷ one) other = first-append one other
first-append (Some y ∷ one) other = refl

same_behind : {Y : Type 0} (found : Option Y) (one other : List (Option Y)) → first_some one ≡ first_some other → first_some (found ∷ one) ≡ first_some (found ∷ other)
same_behind None one other same = same
same_behind (Some y) one other same = refl

first-flat_map : {X Y : Type 0} (g : X → List (Option Y)) (xs : List X) → first_some (flat_map g xs) ≡ first_some (map (λ x. first_some (g x)) xs)
first-flat_map g [] = refl
first-flat_map g (x ∷ xs) = first-append (g x) (flat_map g xs) ∙ same_behind (first_some (g x)) (flat_map g xs) (map (λ x. first_some (g x)) xs) (first-flat_map g xs)

first-option_map : {X Y Z : Type 0} (h : Y → Z) (f : X → Option Y) (xs : List X) → first_some (map (λ x. option_map h (f x)) xs) ≡ option_map h (first_some (map f xs))
first-option_map h f [] = refl
first-option_map {X} {Y} {Z} h f (x ∷ xs) = go (f x) (first-option_map h f xs) where
  go : (found : Option Y) → first_some (map (λ x. option_map h (f x)) xs) ≡ option_map h (first_some (map f xs)) → first_some (option_map h found ∷ map (λ x. option_map h (f x)) xs) ≡ option_map h (first_some (found ∷ map f xs))
  go None rest = rest
  go (Some y) rest = refl

map_agrees : {X Y : Type 0} (f g : X → Y) → ((x : X) → f x ≡ g x) → (xs : List X) → map f xs ≡ map g xs
map_agrees f g same [] = refl
map_agrees f g same (x ∷ xs) = ap (λ y. y ∷ map f xs) (same x) ∙ ap (λ ys. g x ∷ ys) (map_agrees f g same xs)

module _ (classes : List ClassFile) where
  in_body : (class : ℕ) (pool : List Constant) (body : Option Body) → first_some (lacks_in classes class pool body) ≡ option_map (λ text. (class, text)) (body_lacks classes class pool body)
  in_body class pool None = refl
  in_body class pool (Some body) = first-option_map (λ text. (class, text)) (λ placed. lacks classes class pool placed.1) body.code

  in_class : (entry : ℕ × ClassFile) → first_some (flat_map (λ method. lacks_in classes entry.0 entry.1.pool method.body) entry.1.methods) ≡ entry_lacks classes entry
  in_class entry =
      first-flat_map (λ method. lacks_in classes entry.0 entry.1.pool method.body) entry.1.methods
      ∙ ap first_some (map_agrees (λ method. first_some (lacks_in classes entry.0 entry.1.pool method.body)) (λ method. option_map (λ text. (entry.0, text)) (body_lacks classes entry.0 entry.1.pool method.body)) (λ method. in_body entry.0 entry.1.pool method.body) entry.1.methods)
      ∙ first-option_map (λ text. (entry.0, text)) (λ method. body_lacks classes entry.0 entry.1.pool method.body) entry.1.methods

  -- class by class
  pub lacking_by_class : first_lacking classes ≡ first_some (map (entry_lacks classes) (enumerate_from 0 classes))
  lacking_by_class =
      first-flat_map (λ entry. flat_map (λ method. lacks_in classes entry.0 entry.1.pool method.body) entry.1.methods) (enumerate_from 0 classes)
      ∙ ap first_some (map_agrees (λ entry. first_some (flat_map (λ method. lacks_in classes entry.0 entry.1.pool method.body) entry.1.methods)) (entry_lacks classes) in_class (enumerate_from 0 classes))
