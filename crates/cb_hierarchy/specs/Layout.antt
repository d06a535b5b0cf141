-- The instance fields of an object of a class (JVMS §2.7, §5.4.2 leaves their order to the machine).
use Rattle.std.specs.Prelude.{ℕ, List, ◌++◌, length, map, filter, not, ◌==◌, ◌&&◌}
use Rattle.std.specs.List.{enumerate_from, flat_map}
use Rattle.cb_hierarchy.specs.declared.class.Class.{Class}
use Rattle.cb_hierarchy.specs.declared.member.Field.{Field}
use Rattle.cb_hierarchy.specs.Classes.{superclass}
use Rattle.cb_hierarchy.specs.Orders.{in_turns}

-- those that a class declares, in order
abbrev pub own_fields : List Field → ℕ → List ℕ
own_fields fields class =
    map (λ numbered. numbered.0) (filter (λ numbered. (numbered.1.declared.class == class) && not numbered.1.is_static) (enumerate_from 0 fields))

-- those of the superclass first
abbrev pub layout_by : List Class → List Field → (ℕ → List ℕ) → ℕ → List ℕ
layout_by classes fields above class = flat_map above (superclass classes class) ++ own_fields fields class

abbrev pub layout : List Class → List Field → ℕ → List ℕ
layout classes fields class = in_turns (layout_by classes fields) (length classes) class
