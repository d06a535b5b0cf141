-- What classes name, and that good ones are acyclic.
use Rattle.std.proofs.Common.{◌≡◌, ℕ, zero, suc, ◌<◌, ◌≤◌, Bool, true, false, List, [], ◌∷◌, ◌++◌, length, Some, None, refl, sym, subst, inl, inr, arith}
use Rattle.std.specs.Prelude.{slice_get, Option, ◌⊎◌}
use Rattle.std.specs.Bool.{OnTrue}
use Rattle.std.specs.List.{Contains}
use Rattle.std.proofs.lemmas.Bool.{cases_lt}
use Rattle.std.proofs.lemmas.List.Elements.{Contains-append_cases}
use Rattle.std.proofs.lemmas.Option.{slice_get_past}
use Rattle.cb_hierarchy.specs.declared.class.Class.{Class}
use Rattle.cb_hierarchy.specs.declared.member.Method.{Method}
use Rattle.cb_hierarchy.specs.Above.{Direct, IsAbove, IsAcyclic, Through}
use Rattle.cb_hierarchy.specs.Bad.{AreGood, IsItsOwn}
use Rattle.cb_hierarchy.specs.Classes.{listed, parents}

-- all that is named is below a count, where a test finds it so
abbrev pub AllBelow : List ℕ → ℕ → Type 0
AllBelow numbers count = (number : ℕ) → Contains numbers number → number < count

one_below : (one count : ℕ) → one < count → AllBelow (one ∷ []) count
one_below one count low number (zero, within, is) = subst (λ number. number < count) is low
one_below one count low number (suc i, within, is) = omega (arith, within)

both_below : (one : ℕ) (others : List ℕ) (count : ℕ) → one < count → AllBelow others count → AllBelow ((one ∷ []) ++ others) count
both_below one others count low below = λ number among. go number (Contains-append_cases (one ∷ []) others number among) where
  go : (number : ℕ) → Contains (one ∷ []) number ⊎ Contains others number → number < count
  go number (inl here) = one_below one count low number here
  go number (inr there) = below number there

pub with_none : (test : Bool) (superclass : Option ℕ) (others : List ℕ) (count : ℕ) → superclass ≡ None → OnTrue test (AllBelow others count) → OnTrue test (AllBelow (listed superclass ++ others) count)
with_none test superclass others count none below = subst (λ superclass. OnTrue test (AllBelow (listed superclass ++ others) count)) (sym none) below

some_below : (test : Bool) (one : ℕ) (others : List ℕ) (count : ℕ) → one < count → OnTrue test (AllBelow others count) → OnTrue test (AllBelow ((one ∷ []) ++ others) count)
some_below true one others count low below = both_below one others count low below
some_below false one others count low below = tt

pub with_some : (test : Bool) (superclass : Option ℕ) (one : ℕ) (others : List ℕ) (count : ℕ) → superclass ≡ Some one → one < count → OnTrue test (AllBelow others count) → OnTrue test (AllBelow (listed superclass ++ others) count)
with_some test superclass one others count some low below = subst (λ superclass. OnTrue test (AllBelow (listed superclass ++ others) count)) (sym some) (some_below test one others count low below)

no_parent : (parent : ℕ) → Contains [] parent → ⊥
no_parent parent (i, low, is) = omega (arith, low)

-- only a class of the list names another
pub named_in : (classes : List Class) (number parent : ℕ) → Contains (parents classes number) parent → number < length classes
named_in classes number parent there = go (cases_lt number (length classes)) where
  go : (number < length classes) ⊎ (length classes ≤ number) → number < length classes
  go (inl low) = low
  go (inr past) =
      let none : slice_get classes number ≡ None = slice_get_past classes number past in
      let nothing : parents classes number ≡ [] = rw none refl in
      absurd (no_parent parent (subst (λ list. Contains list parent) nothing there))

below_in : (classes : List Class) (class other : ℕ) → IsAbove (parents classes) class other → class < length classes
below_in classes class other (Direct one parent there) = named_in classes one parent there
below_in classes class other (Through one parent last there above) = named_in classes one parent there

pub acyclic : (classes : List Class) (methods : List Method) → AreGood classes methods → IsAcyclic classes
acyclic classes methods good = λ class above. good class (below_in classes class class above) (IsItsOwn above)
