-- Where no class is above itself, a class is below another just if that one is above it.
use Rattle.std.proofs.Common.{◌≡◌, ◌∙◌, ◌⊎◌, inl, inr, ap, refl, sym, subst, arith, ℕ, zero, suc, ◌+◌, ◌<◌, ◌≢◌, ◌==◌, Bool, true, false, not, ◌||◌, eqb, List, [], ◌∷◌, ◌++◌, filter, length}
use Rattle.std.specs.List.{AllByRecursion, Contains, IsDistinct, flat_map, list_any}
use Rattle.std.proofs.lemmas.Bool.{eq-eqb, eqb-true, false≢true, ne_eqb, or_cases, or_left, or_right}
use Rattle.std.proofs.lemmas.Bool.Decides.{eqb_tells}
use Rattle.std.proofs.lemmas.List.Elements.{Contains-append_cases, Contains-append_left, Contains-append_right}
use Rattle.std.proofs.lemmas.List.Folds.{list_any-append}
use Rattle.std.proofs.lemmas.Map.Keys.{IsDistinct-cons}
use Rattle.std.proofs.lemmas.Map.Steps.{length-le_from_distinct_below}
use Rattle.cb_hierarchy.specs.declared.class.Class.{Class}
use Rattle.cb_hierarchy.specs.Above.{Direct, IsAbove, IsAcyclic, Through}
use Rattle.cb_hierarchy.specs.Classes.{parents, superclass, superinterfaces}
use Rattle.cb_hierarchy.specs.Orders.{distinct, in_turns, is_subclass, lookup_order_by}
use Rattle.cb_safety.proofs.Searching.{all_weaker}

-- ---- numbers in lists

abbrev pub stands : ℕ → List ℕ → Bool
stands number numbers = list_any (λ other. other == number) numbers

-- a number is kept where another one is left out
still_stands : (left number : ℕ) → left ≢ number → (numbers : List ℕ) → stands number (filter (λ other. not (other == left)) numbers) ≡ stands number numbers
still_stands left number apart [] = refl
still_stands left number apart (first ∷ numbers) = go (still_stands left number apart numbers) (eqb_tells first left) (eqb_tells first number) where
  go : stands number (filter (λ other. not (other == left)) numbers) ≡ stands number numbers → ((eqb first left ≡ true) × (first ≡ left)) ⊎ ((eqb first left ≡ false) × (first ≢ left))
      → ((eqb first number ≡ true) × (first ≡ number)) ⊎ ((eqb first number ≡ false) × (first ≢ number)) → stands number (filter (λ other. not (other == left)) (first ∷ numbers)) ≡ stands number (first ∷ numbers)
  go rest (inl at) (inl here) = absurd (apart (sym at.1 ∙ here.1))
  go rest (inl at) (inr here) = rw (at.0, here.0) rest
  go rest (inr at) here = rw at.0 (ap (λ (test : Bool). eqb first number || test) rest)

stands_once : (number : ℕ) (numbers : List ℕ) → stands number (distinct numbers) ≡ stands number numbers
stands_once number [] = refl
stands_once number (first ∷ numbers) = go (stands_once number numbers) (eqb_tells first number) where
  go : stands number (distinct numbers) ≡ stands number numbers → ((eqb first number ≡ true) × (first ≡ number)) ⊎ ((eqb first number ≡ false) × (first ≢ number))
      → stands number (distinct (first ∷ numbers)) ≡ stands number (first ∷ numbers)
  go rest (inl same) = rw same.0 refl
  go rest (inr apart) = ap (λ (test : Bool). eqb first number || test) (still_stands first number apart.1 (distinct numbers) ∙ rest)

-- in one of several lists
record StandsIn (lists : ℕ → List ℕ) (numbers : List ℕ) (number : ℕ) : Type 0 where
  pub at : ℕ
  pub among : Contains numbers at
  pub there : stands number (lists at) ≡ true

stands_in : (lists : ℕ → List ℕ) (numbers : List ℕ) (number : ℕ) → stands number (flat_map lists numbers) ≡ true → StandsIn lists numbers number
stands_in lists [] number so = absurd (false≢true so)
stands_in lists (first ∷ numbers) number so =
    elim (or_cases (stands number (lists first)) (stands number (flat_map lists numbers)) (sym (list_any-append (λ other. other == number) (lists first) (flat_map lists numbers)) ∙ so)) [
      | inl here ↦ record { at = first; among = (0, omega arith, refl); there = here }
      | inr later ↦
          let rest : StandsIn lists numbers number = stands_in lists numbers number later in
          record { at = rest.at; among = Contains-append_right (first ∷ []) numbers rest.at rest.among; there = rest.there }
    ]

pub stands_there : (lists : ℕ → List ℕ) (numbers : List ℕ) (at number : ℕ) → Contains numbers at → stands number (lists at) ≡ true → stands number (flat_map lists numbers) ≡ true
stands_there lists [] at number (place, low, is) there = absurd (past place low) where
  past : (place : ℕ) → place < 0 → ⊥
  past place low = omega (arith, low)
stands_there lists (first ∷ numbers) at number (zero, low, is) there =
    list_any-append (λ other. other == number) (lists first) (flat_map lists numbers)
    ∙ or_left (stands number (lists first)) (stands number (flat_map lists numbers)) (subst (λ (at : ℕ). stands number (lists at) ≡ true) (sym is) there)
stands_there lists (first ∷ numbers) at number (suc place, low, is) there =
    list_any-append (λ other. other == number) (lists first) (flat_map lists numbers)
    ∙ or_right (stands number (lists first)) (stands number (flat_map lists numbers)) (stands_there lists numbers at number (place, omega (arith, low), is) there)

-- ---- above

pub above_above : (parents : ℕ → List ℕ) (one two three : ℕ) → IsAbove parents one two → IsAbove parents two three → IsAbove parents one three
above_above parents one two three (Direct class parent among) next = Through one two three among next
above_above parents one two three (Through class parent other among rest) next = Through one parent three among (above_above parents parent two three rest next)

-- what has no parents has nothing above it
pub none_above : (parents : ℕ → List ℕ) (class other : ℕ) → parents class ≡ [] → IsAbove parents class other → ⊥
none_above parents class other none above = go class other above none where
  nothing : (number : ℕ) → Contains [] number → ⊥
  nothing number (place, low, is) = omega (arith, low)

  go : (class other : ℕ) → IsAbove parents class other → parents class ≡ [] → ⊥
  go class other (Direct one parent among) none = nothing parent (subst (λ (list : List ℕ). Contains list parent) none among)
  go class other (Through one parent last among rest) none = nothing parent (subst (λ (list : List ℕ). Contains list parent) none among)

none_twice : IsDistinct eqb []
unfolding IsDistinct
none_twice = tt

any_low : (count number : ℕ) (numbers : List ℕ) → AllByRecursion (λ other. other < count) numbers → list_any (eqb number) numbers ≡ true → number < count
any_low count number [] all is = absurd (false≢true is)
any_low count number (other ∷ numbers) all is = go (eqb number other) refl is (any_low count number numbers all.1) where
  go : (test : Bool) → eqb number other ≡ test → (test || list_any (eqb number) numbers) ≡ true → (list_any (eqb number) numbers ≡ true → number < count) → number < count
  go true same any rest = subst (λ number. number < count) (sym (eqb-true number other same)) all.0
  go false apart any rest = rest any

-- from a class upwards there are no more classes, one above the other, than so many
abbrev pub Ends : List Class → ℕ → ℕ → Type 0
Ends classes zero class = ⊥
Ends classes (suc turns) class = (parent : ℕ) → Contains (parents classes class) parent → Ends classes turns parent

module _ (classes : List Class) where
  abbrev looked : ℕ → ℕ → List ℕ
  looked turns class = in_turns (lookup_order_by classes) turns class

  -- what is looked at in one turn more
  looked_more : (turns class other : ℕ) → stands other (looked (suc turns) class)
      ≡ ((class == other) || (stands other (flat_map (looked turns) (superinterfaces classes class)) || stands other (flat_map (looked turns) (superclass classes class))))
  looked_more turns class other =
      stands_once other (class ∷ flat_map (looked turns) (superinterfaces classes class) ++ flat_map (looked turns) (superclass classes class))
      ∙ ap (λ (test : Bool). (class == other) || test)
      (list_any-append (λ number. number == other) (flat_map (looked turns) (superinterfaces classes class)) (flat_map (looked turns) (superclass classes class)))

  above_by : (turns class other : ℕ) → ((parent : ℕ) → stands other (looked turns parent) ≡ true → (parent ≡ other) ⊎ IsAbove (parents classes) parent other)
      → (at : ℕ) → Contains (parents classes class) at → stands other (looked turns at) ≡ true → IsAbove (parents classes) class other
  above_by turns class other each at among there = elim (each at there) [
    | inl same ↦ subst (λ (last : ℕ). IsAbove (parents classes) class last) same (Direct class at among)
    | inr above ↦ Through class at other among above
  ]

  -- what is looked at is the class itself or above it
  looked_above : (turns class other : ℕ) → stands other (looked turns class) ≡ true → (class ≡ other) ⊎ IsAbove (parents classes) class other
  looked_above zero class other so = absurd (false≢true so)
  looked_above (suc turns) class other so =
      let interfaces : Bool = stands other (flat_map (looked turns) (superinterfaces classes class)) in
      let supers : Bool = stands other (flat_map (looked turns) (superclass classes class)) in
      elim (or_cases (class == other) (interfaces || supers) (sym (looked_more turns class other) ∙ so)) [
        | inl same ↦ inl (eqb-true class other same)
        | inr further ↦ elim (or_cases interfaces supers further) [
          | inl interface ↦
              let found : StandsIn (looked turns) (superinterfaces classes class) other = stands_in (looked turns) (superinterfaces classes class) other interface in
              inr (above_by turns class other (λ parent. looked_above turns parent other) found.at (Contains-append_right (superclass classes class) (superinterfaces classes class) found.at found.among) found.there)
          | inr super ↦
              let found : StandsIn (looked turns) (superclass classes class) other = stands_in (looked turns) (superclass classes class) other super in
              inr (above_by turns class other (λ parent. looked_above turns parent other) found.at (Contains-append_left (superclass classes class) (superinterfaces classes class) found.at found.among) found.there)
        ]
      ]

  -- and where there are enough turns, all of these are looked at
  pub own_looked : (turns class : ℕ) → Ends classes turns class → stands class (looked turns class) ≡ true
  own_looked zero class ends = absurd ends
  own_looked (suc turns) class ends = looked_more turns class class ∙ or_left (class == class) (interfaces || supers) (eq-eqb class class refl) where
    interfaces : Bool
    interfaces = stands class (flat_map (looked turns) (superinterfaces classes class))

    supers : Bool
    supers = stands class (flat_map (looked turns) (superclass classes class))

  parent_looked : (turns class parent other : ℕ) → Contains (parents classes class) parent → stands other (looked turns parent) ≡ true → stands other (looked (suc turns) class) ≡ true
  parent_looked turns class parent other among there =
      looked_more turns class other ∙ or_right (class == other) (interfaces || supers) (elim (Contains-append_cases (superclass classes class) (superinterfaces classes class) parent among) [
        | inl super ↦ or_right interfaces supers (stands_there (looked turns) (superclass classes class) parent other super there)
        | inr interface ↦ or_left interfaces supers (stands_there (looked turns) (superinterfaces classes class) parent other interface there)
      ])
    where
      interfaces : Bool
      interfaces = stands other (flat_map (looked turns) (superinterfaces classes class))

      supers : Bool
      supers = stands other (flat_map (looked turns) (superclass classes class))

  pub all_looked : (turns class other : ℕ) → Ends classes turns class → IsAbove (parents classes) class other → stands other (looked turns class) ≡ true
  all_looked zero class other ends above = absurd ends
  all_looked (suc turns) class other ends (Direct from parent among) = parent_looked turns class other other among (own_looked turns other (ends other among))
  all_looked (suc turns) class other ends (Through from parent last among rest) =
      parent_looked turns class parent other among (all_looked turns parent other (ends parent among) rest)

  module _ (acyclic : IsAcyclic classes) (low : (class parent : ℕ) → Contains (parents classes class) parent → parent < length classes) where
    -- a class that is above all of these is none of them
    apart : (class : ℕ) (below : List ℕ) → AllByRecursion (λ number. IsAbove (parents classes) number class) below → AllByRecursion (λ number. eqb class number ≡ false) below
    apart class below above =
        all_weaker (λ number. IsAbove (parents classes) number class) (λ number. eqb class number ≡ false)
        (λ number is. ne_eqb class number (λ same. acyclic class (subst (λ number. IsAbove (parents classes) number class) (sym same) is))) below above

    ends_behind : (turns class : ℕ) (below : List ℕ) → IsDistinct eqb below → AllByRecursion (λ number. number < length classes) below
        → AllByRecursion (λ number. IsAbove (parents classes) number class) below → turns + length below ≡ length classes → class < length classes → Ends classes turns class
    ends_behind zero class below distinct lows above many within =
        let few = length-le_from_distinct_below (class ∷ below) (length classes) (IsDistinct-cons eqb class below (apart class below above) distinct) (λ number. any_low (length classes) number (class ∷ below) (within, lows)) in
        absurd (omega (arith, few, many))
    ends_behind (suc turns) class below distinct lows above many within =
        λ parent among. ends_behind turns parent (class ∷ below) (IsDistinct-cons eqb class below (apart class below above) distinct) (within, lows) (
          Direct class parent among,
          all_weaker (λ number. IsAbove (parents classes) number class) (λ number. IsAbove (parents classes) number parent)
              (λ number is. above_above (parents classes) number class parent is (Direct class parent among)) below above,
        )
        (omega (arith, many)) (low class parent among)

    pub ends : (class : ℕ) → class < length classes → Ends classes (length classes) class
    ends class within = ends_behind (length classes) class [] none_twice tt tt (omega arith) within

    -- a class is below each of its parents
    pub subclass_parent : (class parent : ℕ) → Contains (parents classes class) parent → class < length classes → is_subclass classes class parent ≡ true
    subclass_parent class parent among within = all_looked (length classes) class parent (ends class within) (Direct class parent among)

    pub subclass_next : (one two three : ℕ) → one < length classes → is_subclass classes one two ≡ true → is_subclass classes two three ≡ true → is_subclass classes one three ≡ true
    subclass_next one two three within is next = elim (looked_above (length classes) one two is) [
      | inl same ↦ subst (λ (class : ℕ). is_subclass classes class three ≡ true) (sym same) next
      | inr above ↦ elim (looked_above (length classes) two three next) [
        | inl same ↦ subst (λ (class : ℕ). is_subclass classes one class ≡ true) same is
        | inr further ↦ all_looked (length classes) one three (ends one within) (above_above (parents classes) one two three above further)
      ]
    ]

  -- a class that is below another is that one, or the other is above it
  pub subclass_above : (class other : ℕ) → is_subclass classes class other ≡ true → (class ≡ other) ⊎ IsAbove (parents classes) class other
  subclass_above class other so = looked_above (length classes) class other so
