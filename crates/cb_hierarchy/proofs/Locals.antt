-- Rules that depend on what is said of parents alone.
use Rattle.std.proofs.Common.{◌≡◌, ℕ, List, [], ◌∷◌, ◌++◌, refl, ap, ◌∙◌, arith}
use Rattle.std.specs.List.{Contains, flat_map}
use Rattle.std.proofs.lemmas.List.Elements.{Contains-append_left, Contains-append_right}
use Rattle.cb_hierarchy.specs.declared.class.Class.{Class}
use Rattle.cb_hierarchy.specs.Classes.{parents, superclass, superinterfaces}
use Rattle.cb_hierarchy.specs.Inner.{IsLocal}
use Rattle.cb_hierarchy.specs.Orders.{distinct, lookup_order_by, upwards_by}

-- the lists of numbers, where two agree on each
pub flat_map_agrees : (one other : ℕ → List ℕ) (numbers : List ℕ) → ((number : ℕ) → Contains numbers number → one number ≡ other number) → flat_map one numbers ≡ flat_map other numbers
flat_map_agrees one other [] agree = refl
flat_map_agrees one other (number ∷ numbers) agree =
    ap (λ (list : List ℕ). list ++ flat_map one numbers) (agree number (0, omega arith, refl))
    ∙ ap (λ (list : List ℕ). other number ++ list) (flat_map_agrees one other numbers (λ next among. agree next (Contains-append_right (number ∷ []) numbers next among)))

module _ (classes : List Class) where
  pub of_superclass : (class : ℕ) (one other : ℕ → List ℕ) → ((parent : ℕ) → Contains (parents classes class) parent → one parent ≡ other parent) → flat_map one (superclass classes class) ≡ flat_map other (superclass classes class)
  of_superclass class one other agree =
      flat_map_agrees one other (superclass classes class) (λ parent among. agree parent (Contains-append_left (superclass classes class) (superinterfaces classes class) parent among))

  pub of_superinterfaces : (class : ℕ) (one other : ℕ → List ℕ) → ((parent : ℕ) → Contains (parents classes class) parent → one parent ≡ other parent) → flat_map one (superinterfaces classes class) ≡ flat_map other (superinterfaces classes class)
  of_superinterfaces class one other agree =
      flat_map_agrees one other (superinterfaces classes class) (λ parent among. agree parent (Contains-append_right (superclass classes class) (superinterfaces classes class) parent among))

  pub upwards_local : IsLocal classes (upwards_by classes)
  upwards_local class one other agree = ap (λ (list : List ℕ). class ∷ list) (of_superclass class one other agree)

  pub lookup_local : IsLocal classes (lookup_order_by classes)
  lookup_local class one other agree =
      ap (λ (list : List ℕ). distinct (class ∷ list ++ flat_map one (superclass classes class))) (of_superinterfaces class one other agree)
      ∙ ap (λ (list : List ℕ). distinct (class ∷ flat_map other (superinterfaces classes class) ++ list)) (of_superclass class one other agree)
