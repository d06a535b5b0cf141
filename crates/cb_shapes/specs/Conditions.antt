-- When branches are taken (JVMS §6.5, if, if_icmp, if_acmp, ifnull).
use Rattle.std.specs.Prelude.{ℤ, Bool, not, List, [], ◌∷◌, int_lt}
use Rattle.std.specs.Ordering.{int_eq}
use Rattle.cb_shapes.specs.declared.sort.Sort.{Sort}
use Rattle.cb_shapes.specs.declared.sort.Sort.TheVariants.{Int, Reference}
use Rattle.cb_shapes.specs.declared.test.Condition.{Condition}
use Rattle.cb_shapes.specs.declared.test.Condition.TheVariants.{Always, WithZero, OfInts, AreSame, IsNull}
use Rattle.cb_shapes.specs.declared.test.Test.{Test}
use Rattle.cb_shapes.specs.declared.test.Test.TheVariants.{Equal, NotEqual, Less, GreaterOrEqual, Greater, LessOrEqual}

-- the sorts of what is taken, the topmost first
abbrev pub takes : Condition → List Sort
takes Always = []
takes (WithZero test) = Int ∷ []
takes (OfInts test) = Int ∷ Int ∷ []
takes (AreSame same) = Reference ∷ Reference ∷ []
takes (IsNull null) = Reference ∷ []

-- whether an int compares so with another
abbrev pub passes : Test → ℤ → ℤ → Bool
passes Equal a b = int_eq a b
passes NotEqual a b = not (int_eq a b)
passes Less a b = int_lt a b
passes GreaterOrEqual a b = not (int_lt a b)
passes Greater a b = int_lt b a
passes LessOrEqual a b = not (int_lt b a)
