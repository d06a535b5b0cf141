-- The sorts of values on the operand stack, and their categories (JVMS §2.11.1).
use Rattle.cb_shapes.specs.declared.elements.Elements.{Elements}
use Rattle.cb_shapes.specs.declared.elements.Elements.TheVariants.{Longs}
use Rattle.cb_shapes.specs.declared.sort.Category.{Category}
use Rattle.cb_shapes.specs.declared.sort.Category.TheVariants.{One, Two}
use Rattle.cb_shapes.specs.declared.sort.Sort.{Sort}
use Rattle.cb_shapes.specs.declared.sort.Sort.TheVariants.{Int, Long}

abbrev pub category_of : Sort → Category
category_of Long = Two
category_of other = One

-- an element of an array of numbers
abbrev pub sort_of_elements : Elements → Sort
sort_of_elements Longs = Long
sort_of_elements other = Int
