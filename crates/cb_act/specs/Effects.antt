-- What instructions that change the topmost frame alone do to its operand stack.
use Rattle.std.specs.Prelude.{ℤ, ◌+ℤ◌, ℕ, ◌+◌, Bool, true, false, List, [], ◌∷◌, ◌++◌, length, map, nat_le, Option, Some, None, option_and_then, option_map, slice_get, if◌then◌else◌}
use Rattle.std.specs.Int.{int_wrap, w32}
use Rattle.cb_frames.specs.Tops.{pushed, top_locals, top_stack, with_local, with_locals, with_stack, with_top, without}
use Rattle.cb_machine.specs.Branching.{holds}
use Rattle.cb_machine.specs.Locals.{with_slots}
use Rattle.cb_machine.specs.Standing.{same_sort, taken}
use Rattle.cb_machine.specs.Values.{category_of_value, numbers_of, of_sort, sort_of}
use Rattle.cb_plain.specs.Depth.{slots_of}
use Rattle.cb_plain.specs.declared.value.Value.{Value}
use Rattle.cb_plain.specs.declared.value.Value.TheVariants.{Int}
use Rattle.cb_plain.specs.State.{Roots}
use Rattle.cb_shapes.specs.Computations.{Computed, ByZero, Gives, computed, gives, takes}
use Rattle.cb_shapes.specs.Conditions.{takes as tested}
use Rattle.cb_shapes.specs.Shuffles.{shuffled}
use Rattle.cb_shapes.specs.declared.computation.Computation.{Computation}
use Rattle.cb_shapes.specs.declared.computation.Computation.TheVariants as computations
use Rattle.cb_shapes.specs.declared.shuffle.Shuffle.{Shuffle}
use Rattle.cb_shapes.specs.declared.shuffle.Shuffle.TheVariants as shuffles
use Rattle.cb_shapes.specs.declared.sort.Category.{Category}
use Rattle.cb_shapes.specs.declared.sort.Category.TheVariants.{Two}
use Rattle.cb_shapes.specs.declared.sort.Sort.{Sort}
use Rattle.cb_shapes.specs.declared.test.Condition.{Condition}
use Rattle.cb_shapes.specs.declared.test.Condition.TheVariants as conditions

-- whether a value is there and is of a sort
abbrev pub has_sort : Sort → Option Value → Bool
has_sort sort None = false
has_sort sort (Some value) = same_sort (sort_of value) sort

-- with another stack
abbrev pub stacked : Roots → List Value → Roots
stacked roots stack = with_top roots (with_stack (λ before. stack))

-- what a computation gives for the numbers on top of a stack, and the stack below them; none where they aren't there
abbrev pub found_in : Computation → List Value × List Value → Option (Computed × List Value)
found_in computation taken = option_map (λ found. (found, taken.1)) (option_and_then (computed computation) (numbers_of taken.0))

abbrev pub computed_on : Computation → List Value → Option (Computed × List Value)
computed_on computation stack = option_and_then (found_in computation) (taken (takes computation) stack)

-- what is given is laid on the rest of the stack; a division by zero changes nothing
abbrev pub laid_on : Option Sort → List ℤ → List Value → List Value
laid_on None numbers rest = rest
laid_on (Some sort) numbers rest = map (of_sort sort) numbers ++ rest

abbrev pub behind : Roots → Option Sort → Computed × List Value → Roots
behind roots sort (ByZero, rest) = roots
behind roots sort (Gives numbers, rest) = stacked roots (laid_on sort numbers rest)

abbrev pub is_given : Computed × List Value → Bool
is_given (ByZero, rest) = false
is_given (Gives numbers, rest) = true

-- roots behind a computation on the stack of the topmost frame, and whether it gave something: none where operands are wanting
abbrev pub behind_computation : Computation → Roots → Option Roots
behind_computation computation roots = option_map (behind roots (gives computation)) (computed_on computation (top_stack roots))

abbrev pub gave : Computation → Roots → Option Bool
gave computation roots = option_map is_given (computed_on computation (top_stack roots))

-- roots behind a local variable of a sort was loaded
abbrev pub loaded : Roots → Sort → Option Value → Option Roots
loaded roots sort None = None
loaded roots sort (Some value) = if same_sort (sort_of value) sort then Some (pushed roots value) else None

abbrev pub behind_load : Sort → ℕ → Roots → Option Roots
behind_load sort local roots = loaded roots sort (slice_get (top_locals roots) local)

-- behind the topmost value was stored into local variables, a long into two
abbrev pub stored_in : Roots → ℕ → List Value → Option Roots
stored_in roots local held =
    if nat_le (local + length held) (length (top_locals roots)) then Some (with_top (without roots 1) (with_locals (λ locals. with_slots locals local held)))
    else None

abbrev pub stored : Roots → Sort → ℕ → Option Value → Option Roots
stored roots sort local None = None
stored roots sort local (Some value) = if same_sort (sort_of value) sort then stored_in roots local (slots_of value) else None

abbrev pub behind_store : Sort → ℕ → Roots → Option Roots
behind_store sort local roots = stored roots sort local (slice_get (top_stack roots) 0)

-- behind a local variable grew
abbrev pub increased : Roots → ℕ → ℤ → Option Value → Option Roots
increased roots local by (Some (Int number)) = Some (with_local roots local (Int (int_wrap w32 (number +ℤ by))))
increased roots local by other = None

abbrev pub behind_increase : ℕ → ℤ → Roots → Option Roots
behind_increase local by roots = increased roots local by (slice_get (top_locals roots) local)

-- behind a shuffle of the stack
abbrev pub behind_shuffle : Shuffle → Roots → Option Roots
behind_shuffle shuffle roots = option_map (stacked roots) (shuffled category_of_value shuffle (top_stack roots))

-- whether a value takes two words
abbrev pub is_two : Option Category → Bool
is_two (Some Two) = true
is_two other = false

abbrev pub is_long : Option Value → Bool
is_long None = false
is_long (Some value) = is_two (category_of_value value)

-- how many values more it leaves
abbrev more_if : Bool → ℕ
more_if true = 1
more_if false = 2

abbrev pub growth : Shuffle → List Value → ℕ
growth shuffles.Dup stack = 1
growth shuffles.DupX1 stack = 1
growth shuffles.DupX2 stack = 1
growth shuffles.Dup2 stack = more_if (is_long (slice_get stack 0))
growth shuffles.Dup2X1 stack = more_if (is_long (slice_get stack 0))
growth shuffles.Dup2X2 stack = more_if (is_long (slice_get stack 0))
growth other stack = 0

-- two values of one word each stand below what is on top, which is a long or two such values, and upon it
abbrev around_two : Value → Value → Value → List Value → Option (List Value)
around_two a b c [] = None
around_two a b c (d ∷ rest) = if is_two (category_of_value d) then None else Some (a ∷ b ∷ c ∷ d ∷ a ∷ b ∷ rest)

abbrev pub around : Value → Value → List Value → Option (List Value)
around a b [] = None
around a b (c ∷ rest) = if is_two (category_of_value c) then Some (a ∷ b ∷ c ∷ a ∷ b ∷ rest) else around_two a b c rest

-- how many values more a computation may leave: one, where it takes none
abbrev pub growth_of : Computation → ℕ
growth_of (computations.IntConstant number) = 1
growth_of (computations.LongConstant number) = 1
growth_of other = 0

-- whether a condition holds of what is on top of a stack, and the stack below that; none where operands are wanting
abbrev pub told_in : Condition → List Value × List Value → Option (Bool × List Value)
told_in condition taken = option_map (λ is. (is, taken.1)) (holds condition taken.0)

abbrev pub tested_on : Condition → List Value → Option (Bool × List Value)
tested_on condition stack = option_and_then (told_in condition) (taken (tested condition) stack)

-- roots behind a test, and what it told
abbrev pub behind_test : Condition → Roots → Option Roots
behind_test condition roots = option_map (λ told. stacked roots told.1) (tested_on condition (top_stack roots))

abbrev pub told : Condition → Roots → Option Bool
told condition roots = option_map (λ told. told.0) (tested_on condition (top_stack roots))

-- whether two references are compared, which is for a store to say
abbrev pub compares_references : Condition → Bool
compares_references (conditions.AreSame are) = true
compares_references other = false
