-- The classes that a class names.
use Rattle.std.proofs.Common.{◌≡◌, ℕ, zero, suc, ◌<◌, ◌≤◌, List, [], ◌∷◌, length, map, Some, None, refl, sym, ap, subst, ◌∙◌, inl, inr, arith, get_or}
use Rattle.std.specs.Prelude.{slice_get}
use Rattle.std.specs.List.{Contains, flat_map}
use Rattle.std.proofs.lemmas.Bool.{cases_lt}
use Rattle.std.proofs.lemmas.List.{append-nil, get_or_read, length-map}
use Rattle.std.proofs.lemmas.List.Elements.{Contains-append_left, Contains-append_right}
use Rattle.std.proofs.lemmas.Option.{slice_get_past}
use Rattle.cb_hierarchy.specs.declared.class.Class.{Class}
use Rattle.cb_hierarchy.specs.Classes.{AreClasses, listed, parents, superclass, superinterfaces}
use Rattle.cb_hierarchy.specs.Inner.{list_at}
use Rattle.cb_hierarchy.specs.InnerRows.{all_named, superclass_named}

module _ (classes : List Class) (number : ℕ) (class : Class) (is : slice_get classes number ≡ Some class) where
  pub superclass_is : superclass classes number ≡ listed class.superclass
  superclass_is = rw is refl

  pub superinterfaces_are : superinterfaces classes number ≡ class.interfaces
  superinterfaces_are = rw is refl

  pub no_superclass : class.superclass ≡ None → superclass classes number ≡ []
  no_superclass none = superclass_is ∙ ap listed none

  pub one_superclass : (parent : ℕ) → class.superclass ≡ Some parent → superclass classes number ≡ parent ∷ []
  one_superclass parent some = superclass_is ∙ ap listed some

  pub superclass_among : (parent : ℕ) → class.superclass ≡ Some parent → Contains (parents classes number) parent
  superclass_among parent some =
      Contains-append_left (superclass classes number) (superinterfaces classes number) parent (subst (λ list. Contains list parent) (sym (one_superclass parent some)) (0, omega arith, refl))

  pub superclass_below : (parent : ℕ) → Contains (superclass_named class) parent → Contains (parents classes number) parent
  superclass_below parent among =
      Contains-append_left (superclass classes number) (superinterfaces classes number) parent (subst (λ list. Contains list parent) (sym superclass_is) among)

  pub superinterface_among : (parent : ℕ) → Contains class.interfaces parent → Contains (parents classes number) parent
  superinterface_among parent among =
      Contains-append_right (superclass classes number) (superinterfaces classes number) parent (subst (λ list. Contains list parent) (sym superinterfaces_are) among)

  -- the lists of the superclass, where there is none and where there is one
  pub lists_of_none : (above : ℕ → List ℕ) → class.superclass ≡ None → flat_map above (superclass classes number) ≡ []
  lists_of_none above none = ap (flat_map above) (no_superclass none)

  pub lists_of_one : (lists : List (List ℕ)) (parent : ℕ) (list : List ℕ) → class.superclass ≡ Some parent → parent < length lists → list ≡ get_or lists parent list → flat_map (list_at lists) (superclass classes number) ≡ list
  lists_of_one lists parent list some within read =
      ap (flat_map (list_at lists)) (one_superclass parent some) ∙ append-nil (list_at lists parent) ∙ sym (get_or_read lists parent list within read [])

-- the lists of all classes
pub at_all_named : (classes : List Class) (number : ℕ) → list_at (map all_named classes) number ≡ parents classes number
at_all_named [] number = refl
at_all_named (class ∷ classes) zero = refl
at_all_named (class ∷ classes) (suc number) = at_all_named classes number

pub at_superclass_named : (classes : List Class) (number : ℕ) → list_at (map superclass_named classes) number ≡ superclass classes number
at_superclass_named [] number = refl
at_superclass_named (class ∷ classes) zero = refl
at_superclass_named (class ∷ classes) (suc number) = at_superclass_named classes number

module _ (classes : List Class) (are : AreClasses classes) where
  pub all_named_below : (class number : ℕ) → Contains (list_at (map all_named classes) class) number → number < length (map all_named classes)
  all_named_below class number among =
      let known = are.below class number (subst (λ list. Contains list number) (at_all_named classes class) among) in
      omega (arith, known, length-map classes all_named)

  pub superclass_named_below : (class number : ℕ) → Contains (list_at (map superclass_named classes) class) number → number < length (map superclass_named classes)
  superclass_named_below class number among =
      let known = are.below class number (Contains-append_left (superclass classes class) (superinterfaces classes class) number (subst (λ list. Contains list number) (at_superclass_named classes class) among)) in
      omega (arith, known, length-map classes superclass_named)

-- what names another is there
pub names_another : (classes : List Class) (class parent : ℕ) → Contains (parents classes class) parent → class < length classes
names_another classes class parent among = elim (cases_lt class (length classes)) [
  | inl within ↦ within
  | inr past ↦ absurd (omega (arith, (subst (λ list. Contains list parent) (none past) among).1))
] where
  none : length classes ≤ class → parents classes class ≡ []
  none past = let is : slice_get classes class ≡ None = slice_get_past classes class past in rw is refl
