-- What is said of a class by what is said of its parents: the classes upwards, and the order in which a member is looked up.
use Rattle.std.specs.Prelude.{ℕ, zero, suc, Bool, List, [], ◌∷◌, ◌++◌, length, filter, not, ◌==◌}
use Rattle.std.specs.List.{flat_map, list_any}
use Rattle.cb_hierarchy.specs.declared.class.Class.{Class}
use Rattle.cb_hierarchy.specs.Classes.{superclass, superinterfaces}

-- in so many turns: a rule says it of a class by what is said of others in one turn less. Where no class is above itself, as
-- many turns as there are classes are enough
abbrev pub in_turns : (rule : (ℕ → List ℕ) → ℕ → List ℕ) → ℕ → ℕ → List ℕ
in_turns rule zero class = []
in_turns rule (suc turns) class = rule (in_turns rule turns) class

-- each number once, where it stands first
abbrev pub distinct : List ℕ → List ℕ
distinct [] = []
distinct (number ∷ numbers) = number ∷ filter (λ other. not (other == number)) (distinct numbers)

-- a class, its superclass, the superclass of that one, and so on
abbrev pub upwards_by : List Class → (ℕ → List ℕ) → ℕ → List ℕ
upwards_by classes above class = class ∷ flat_map above (superclass classes class)

abbrev pub upwards : List Class → ℕ → List ℕ
upwards classes class = in_turns (upwards_by classes) (length classes) class

-- the class itself, then its direct superinterfaces in order, each with those that are looked at behind it, and then its
-- superclass in the same way (JVMS §5.4.3.2)
abbrev pub lookup_order_by : List Class → (ℕ → List ℕ) → ℕ → List ℕ
lookup_order_by classes above class = distinct (class ∷ flat_map above (superinterfaces classes class) ++ flat_map above (superclass classes class))

abbrev pub lookup_order : List Class → ℕ → List ℕ
lookup_order classes class = in_turns (lookup_order_by classes) (length classes) class

-- whether a class is another one or below it
abbrev pub is_subclass : List Class → ℕ → ℕ → Bool
is_subclass classes class other = list_any (λ number. number == other) (lookup_order classes class)
