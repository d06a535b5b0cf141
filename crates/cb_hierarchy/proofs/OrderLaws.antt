-- What isn't in the order of lookup.
use Rattle.std.proofs.Common.{◌≡◌, ◌∙◌, ap₂, refl, arith, true≢false, ℕ, zero, suc, Bool, true, false, ◌==◌, ◌&&◌, ◌||◌, not, ◌<◌, ◌≤◌, List, [], ◌∷◌, ◌++◌, cond, None, filter, length}
use Rattle.std.specs.List.{Contains, flat_map, list_any}
use Rattle.std.proofs.lemmas.Bool.Decides.{nat_tests}
use Rattle.std.proofs.lemmas.List.Elements.{Contains-append_left, Contains-append_right}
use Rattle.std.proofs.lemmas.List.Folds.{list_any-append}
use Rattle.std.specs.Prelude.{slice_get}
use Rattle.std.proofs.lemmas.Option.{slice_get_past}
use Rattle.cb_hierarchy.specs.declared.class.Class.{Class}
use Rattle.cb_hierarchy.specs.Classes.{AreClasses, superclass, superinterfaces}
use Rattle.cb_hierarchy.specs.Orders.{distinct, in_turns, is_subclass, lookup_order_by}

neither : (a b : Bool) → a ≡ false → b ≡ false → (a || b) ≡ false
neither a b is also = ap₂ (λ a b. a || b) is also

pub first_not : (a b : Bool) → (a || b) ≡ false → a ≡ false
first_not true b is = is
first_not false b is = refl

pub second_not : (a b : Bool) → (a || b) ≡ false → b ≡ false
second_not true b is = absurd (true≢false is)
second_not false b is = is

none_filtered : (test passes : ℕ → Bool) (numbers : List ℕ) → list_any test numbers ≡ false → list_any test (filter passes numbers) ≡ false
none_filtered test passes [] none = refl
none_filtered test passes (number ∷ numbers) none =
    go (passes number) (none_filtered test passes numbers (second_not (test number) (list_any test numbers) none))
  where
    go : (here : Bool) → list_any test (filter passes numbers) ≡ false → list_any test (cond here (number ∷ filter passes numbers) (filter passes numbers)) ≡ false
    go true rest = neither (test number) _ (first_not (test number) (list_any test numbers) none) rest
    go false rest = rest

none_distinct : (test : ℕ → Bool) (numbers : List ℕ) → list_any test numbers ≡ false → list_any test (distinct numbers) ≡ false
none_distinct test [] none = refl
none_distinct test (number ∷ numbers) none =
    neither (test number) _ (first_not (test number) (list_any test numbers) none)
    (none_filtered test (λ other. not (other == number)) (distinct numbers) (none_distinct test numbers (second_not (test number) (list_any test numbers) none)))

none_in_all : (test : ℕ → Bool) (lists : ℕ → List ℕ) (numbers : List ℕ) → ((number : ℕ) → Contains numbers number → list_any test (lists number) ≡ false)
    → list_any test (flat_map lists numbers) ≡ false
none_in_all test lists [] none = refl
none_in_all test lists (number ∷ numbers) none =
    list_any-append test (lists number) (flat_map lists numbers)
    ∙ neither (list_any test (lists number)) (list_any test (flat_map lists numbers)) (none number (0, omega arith, refl))
    (none_in_all test lists numbers (λ next among. none next (Contains-append_right (number ∷ []) numbers next among)))

-- what is no class is not above a class
pub never_above : (classes : List Class) (class other : ℕ) → AreClasses classes → class < length classes → length classes ≤ other → is_subclass classes class other ≡ false
never_above classes class other known within past = go (length classes) class within
  where
    test : ℕ → Bool
    test number = number == other

    go : (turns class : ℕ) → class < length classes → list_any test (in_turns (lookup_order_by classes) turns class) ≡ false
    go zero class within = refl
    go (suc turns) class within =
        none_distinct test (class ∷ flat_map (in_turns (lookup_order_by classes) turns) (superinterfaces classes class) ++ flat_map (in_turns (lookup_order_by classes) turns) (superclass classes class))
        (list_any-append test (class ∷ flat_map (in_turns (lookup_order_by classes) turns) (superinterfaces classes class)) (flat_map (in_turns (lookup_order_by classes) turns) (superclass classes class))
        ∙ neither _ _ (neither (class == other) _ (grind (arith, nat_tests))
        (none_in_all test (in_turns (lookup_order_by classes) turns) (superinterfaces classes class)
        (λ parent among. go turns parent (known.below class parent (Contains-append_right (superclass classes class) (superinterfaces classes class) parent among)))))
        (none_in_all test (in_turns (lookup_order_by classes) turns) (superclass classes class)
        (λ parent among. go turns parent (known.below class parent (Contains-append_left (superclass classes class) (superinterfaces classes class) parent among)))))

-- nothing else is above what is no class
pub none_above : (classes : List Class) (class other : ℕ) → length classes ≤ class → (class == other) ≡ false → is_subclass classes class other ≡ false
none_above classes class other past apart = go (length classes)
  where
    none : slice_get classes class ≡ None
    none = slice_get_past classes class past

    no_interface : superinterfaces classes class ≡ []
    no_interface = rw none refl

    no_superclass : superclass classes class ≡ []
    no_superclass = rw none refl

    go : (turns : ℕ) → list_any (λ number. number == other) (in_turns (lookup_order_by classes) turns class) ≡ false
    go zero = refl
    go (suc turns) =
        ap₂ (λ interfaces superclasses. list_any (λ number. number == other) (distinct (class ∷ flat_map (in_turns (lookup_order_by classes) turns) interfaces ++ flat_map (in_turns (lookup_order_by classes) turns) superclasses)))
        no_interface no_superclass
        ∙ neither (class == other) false apart refl

pub below_none : (apart below : Bool) → below ≡ false → (apart && below) ≡ false
below_none true below is = is
below_none false below is = refl
