-- What is above a class and no interface is a superclass of it, or of one of these.
use Rattle.std.proofs.Common.{◌≡◌, ◌∙◌, ◌⊎◌, inl, inr, arith, refl, sym, ℕ, zero, suc, ◌<◌, ◌==◌, Bool, true, false, ◌||◌, List, [], ◌∷◌, length}
use Rattle.std.specs.List.{Contains, flat_map}
use Rattle.std.proofs.lemmas.Bool.{eq-eqb, eqb-true, false≢true, or_left, or_right}
use Rattle.std.proofs.lemmas.List.Elements.{Contains-append_cases, Contains-append_left}
use Rattle.cb_hierarchy.specs.declared.class.Class.{Class}
use Rattle.cb_hierarchy.specs.Above.{Direct, IsAbove, IsAcyclic, Through}
use Rattle.cb_hierarchy.specs.Classes.{is_interface, parents, superclass, superinterfaces}
use Rattle.cb_hierarchy.specs.Orders.{in_turns, upwards, upwards_by}
use Rattle.cb_safety.proofs.Ordered.{above_interface}
use Rattle.cb_safety.proofs.Subclasses.{Ends, ends, stands, stands_there}

contained : (number : ℕ) (numbers : List ℕ) → stands number numbers ≡ true → Contains numbers number
contained number [] is = absurd (false≢true is)
contained number (first ∷ numbers) is = go (first == number) refl is (contained number numbers) where
  go : (test : Bool) → (first == number) ≡ test → (test || stands number numbers) ≡ true → (stands number numbers ≡ true → Contains numbers number) → Contains (first ∷ numbers) number
  go true same is more = (0, omega arith, eqb-true first number same)
  go false apart is more = let (place, low, there) = more is in (suc place, omega (arith, low), there)

module _ (classes : List Class) where
  abbrev climbed : ℕ → ℕ → List ℕ
  climbed turns class = in_turns (upwards_by classes) turns class

  own_climbed : (turns class : ℕ) → Ends classes turns class → stands class (climbed turns class) ≡ true
  own_climbed zero class ends = absurd ends
  own_climbed (suc turns) class ends = or_left (class == class) (stands class (flat_map (climbed turns) (superclass classes class))) (eq-eqb class class refl)

  parent_climbed : (turns class parent other : ℕ) → Contains (superclass classes class) parent → stands other (climbed turns parent) ≡ true → stands other (climbed (suc turns) class) ≡ true
  parent_climbed turns class parent other among there =
      or_right (class == other) (stands other (flat_map (climbed turns) (superclass classes class))) (stands_there (climbed turns) (superclass classes class) parent other among there)

  all_climbed : (turns class other : ℕ) → Ends classes turns class → IsAbove (superclass classes) class other → stands other (climbed turns class) ≡ true
  all_climbed zero class other ends above = absurd ends
  all_climbed (suc turns) class other ends (Direct from parent among) =
      parent_climbed turns class other other among (own_climbed turns other (ends other (Contains-append_left (superclass classes class) (superinterfaces classes class) other among)))
  all_climbed (suc turns) class other ends (Through from parent last among rest) =
      parent_climbed turns class parent other among
      (all_climbed turns parent other (ends parent (Contains-append_left (superclass classes class) (superinterfaces classes class) parent among)) rest)

  module _ (acyclic : IsAcyclic classes) (low : (class parent : ℕ) → Contains (parents classes class) parent → parent < length classes) where
    pub upwards_own : (class : ℕ) → class < length classes → Contains (upwards classes class) class
    upwards_own class within = contained class (upwards classes class) (own_climbed (length classes) class (ends classes acyclic low class within))

    pub upwards_above : (class other : ℕ) → class < length classes → IsAbove (superclass classes) class other → Contains (upwards classes class) other
    upwards_above class other within above = contained other (upwards classes class) (all_climbed (length classes) class other (ends classes acyclic low class within) above)

  module _ (root : ℕ) (last : parents classes root ≡ [])
      (each : (class parent : ℕ) → is_interface classes class ≡ true → Contains (parents classes class) parent → (is_interface classes parent ≡ true) ⊎ (parent ≡ root))
      (implemented : (class parent : ℕ) → Contains (superinterfaces classes class) parent → is_interface classes parent ≡ true) where
    pub by_superclass : (class other : ℕ) → is_interface classes other ≡ false → ¬ (other ≡ root) → IsAbove (parents classes) class other → IsAbove (superclass classes) class other
    by_superclass class other none apart (Direct from parent among) = elim (Contains-append_cases (superclass classes class) (superinterfaces classes class) other among) [
      | inl super ↦ Direct class other super
      | inr interface ↦ absurd (false≢true (sym none ∙ implemented class other interface))
    ]
    by_superclass class other none apart (Through from parent to among rest) = elim (Contains-append_cases (superclass classes class) (superinterfaces classes class) parent among) [
      | inl super ↦ Through class parent other super (by_superclass parent other none apart rest)
      | inr interface ↦ elim (above_interface classes root last each parent other rest (implemented class parent interface)) [
        | inl also ↦ absurd (false≢true (sym none ∙ also))
        | inr same ↦ absurd (apart same)
      ]
    ]
