-- Where no class is above itself, the fields of an object are those of the superclass's and the class's own.
use Rattle.std.proofs.Common.{◌≡◌, ap, refl, sym, subst, arith, ℕ, zero, suc, ◌+◌, ◌<◌, ◌≤◌, ◌||◌, Bool, true, false, List, [], ◌∷◌, ◌++◌, Option, Some, None, eqb, length}
use Rattle.std.specs.Prelude.{slice_get}
use Rattle.std.specs.List.{AllByRecursion, Contains, IsDistinct, flat_map, list_any}
use Rattle.std.proofs.lemmas.Bool.{eqb-true, false≢true, ne_eqb}
use Rattle.std.proofs.lemmas.List.Elements.{Contains-append_left}
use Rattle.std.proofs.lemmas.Map.Keys.{IsDistinct-cons}
use Rattle.std.proofs.lemmas.Map.Steps.{length-le_from_distinct_below}
use Rattle.cb_hierarchy.specs.declared.class.Class.{Class as Ranked}
use Rattle.cb_hierarchy.specs.declared.member.Field.{Field as RankedField}
use Rattle.cb_hierarchy.specs.Above.{IsAbove, IsAcyclic, Direct, Through}
use Rattle.cb_hierarchy.specs.Classes.{listed, parents, superclass, superinterfaces}
use Rattle.cb_hierarchy.specs.Layout.{layout, layout_by, own_fields}
use Rattle.cb_hierarchy.specs.Orders.{in_turns}

-- one superclass at most, of which something is so
abbrev Ended : (ℕ → Type 0) → List ℕ → Type 0
Ended P [] = Unit {0}
Ended P (parent ∷ []) = P parent
Ended P (parent ∷ other ∷ rest) = ⊥

-- from a class upwards there are no more classes than so many
abbrev Ends : List Ranked → ℕ → ℕ → Type 0
Ends classes zero class = ⊥
Ends classes (suc turns) class = Ended (Ends classes turns) (superclass classes class)

all_so : {X : Type 0} (P Q : X → Type 0) (items : List X) → ((x : X) → P x → Q x) → AllByRecursion P items → AllByRecursion Q items
all_so P Q [] each all = tt
all_so P Q (x ∷ items) each all = (each x all.0, all_so P Q items each all.1)

none_twice : IsDistinct eqb []
unfolding IsDistinct
none_twice = tt

any_low : (count number : ℕ) (numbers : List ℕ) → AllByRecursion (λ other. other < count) numbers → list_any (eqb number) numbers ≡ true → number < count
any_low count number [] all is = absurd (false≢true is)
any_low count number (other ∷ numbers) all is = go (eqb number other) refl is (any_low count number numbers all.1) where
  go : (test : Bool) → eqb number other ≡ test → (test || list_any (eqb number) numbers) ≡ true → (list_any (eqb number) numbers ≡ true → number < count) → number < count
  go true same any rest = subst (λ number. number < count) (sym (eqb-true number other same)) all.0
  go false apart any rest = rest any

above_next : (parents : ℕ → List ℕ) (one two three : ℕ) → IsAbove parents one two → Contains (parents two) three → IsAbove parents one three
above_next parents one two three (Direct from parent among) next = Through one two three among (Direct two three next)
above_next parents one two three (Through from parent to among rest) next = Through one parent three among (above_next parents parent two three rest next)

module _ (classes : List Ranked) (acyclic : IsAcyclic classes) (low : (class parent : ℕ) → Contains (superclass classes class) parent → parent < length classes) where
  -- a class that is above all of these is none of them
  apart : (class : ℕ) (below : List ℕ) → AllByRecursion (λ number. IsAbove (parents classes) number class) below → AllByRecursion (λ number. eqb class number ≡ false) below
  apart class below above =
      all_so (λ number. IsAbove (parents classes) number class) (λ number. eqb class number ≡ false) below
      (λ number is. ne_eqb class number (λ same. acyclic class (subst (λ number. IsAbove (parents classes) number class) (sym same) is))) above

  by_superclass : (turns class : ℕ) → ((parent : ℕ) → Contains (superclass classes class) parent → Ends classes turns parent) → Ended (Ends classes turns) (superclass classes class)
  by_superclass turns class each = go (slice_get classes class) refl where
    one : (parent : Option ℕ) → superclass classes class ≡ listed parent → Ended (Ends classes turns) (superclass classes class)
    one None is = subst (Ended (Ends classes turns)) (sym is) tt
    one (Some parent) is = subst (Ended (Ends classes turns)) (sym is) (each parent (subst (λ parents. Contains parents parent) (sym is) (0, omega arith, refl)))

    go : (found : Option Ranked) → slice_get classes class ≡ found → Ended (Ends classes turns) (superclass classes class)
    go None told = one None (rw told refl)
    go (Some own) told = one own.superclass (rw told refl)

  ends_behind : (turns class : ℕ) (below : List ℕ) → IsDistinct eqb below → AllByRecursion (λ number. number < length classes) below
      → AllByRecursion (λ number. IsAbove (parents classes) number class) below → turns + length below ≡ length classes → class < length classes → Ends classes turns class
  ends_behind zero class below distinct lows above many within =
      let few = length-le_from_distinct_below (class ∷ below) (length classes) (IsDistinct-cons eqb class below (apart class below above) distinct) (λ number. any_low (length classes) number (class ∷ below) (within, lows)) in
      absurd (omega (arith, few, many))
  ends_behind (suc turns) class below distinct lows above many within =
      by_superclass turns class
      (λ parent among.
      let named : Contains (parents classes class) parent = Contains-append_left (superclass classes class) (superinterfaces classes class) parent among in
      ends_behind turns parent (class ∷ below) (IsDistinct-cons eqb class below (apart class below above) distinct) (within, lows)
      (Direct class parent named, all_so (λ number. IsAbove (parents classes) number class) (λ number. IsAbove (parents classes) number parent) below (λ number is. above_next (parents classes) number class parent is named) above)
      (omega (arith, many)) (low class parent among))

  ends : (class : ℕ) → class < length classes → Ends classes (length classes) class
  ends class within = ends_behind (length classes) class [] none_twice tt tt (omega arith) within

  module _ (fields : List RankedField) where
    settled : (turns more class : ℕ) → Ends classes turns class → turns ≤ more → in_turns (layout_by classes fields) more class ≡ in_turns (layout_by classes fields) turns class
    settled zero more class end few = absurd end
    settled (suc turns) zero class end few = absurd (omega (arith, few))
    settled (suc turns) (suc more) class end few =
        ap (λ above. above ++ own_fields fields class) (go (superclass classes class) end (λ parent end. settled turns more parent end (omega (arith, few)))) where
          go : (supers : List ℕ) → Ended (Ends classes turns) supers
              → ((parent : ℕ) → Ends classes turns parent → in_turns (layout_by classes fields) more parent ≡ in_turns (layout_by classes fields) turns parent)
              → flat_map (in_turns (layout_by classes fields) more) supers ≡ flat_map (in_turns (layout_by classes fields) turns) supers
          go [] end same = refl
          go (parent ∷ []) end same = ap (λ list. list ++ []) (same parent end)
          go (parent ∷ other ∷ rest) end same = absurd end

    pub layout_is : (class : ℕ) → class < length classes → layout classes fields class ≡ flat_map (layout classes fields) (superclass classes class) ++ own_fields fields class
    layout_is class within = sym (settled (length classes) (suc (length classes)) class (ends class within) (omega arith))
