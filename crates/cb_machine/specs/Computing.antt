-- Instructions that compute from numbers, load constants, and move what stands on the operand stack (JVMS §6.5).
use Rattle.std.specs.Prelude.{ℤ, ℕ, List, [], ◌∷◌, ◌++◌, map, Option, Some, None, option_and_then}
use Rattle.cb_link.specs.declared.named.Named.{Named}
use Rattle.cb_link.specs.declared.named.Named.TheVariants as meanings
use Rattle.cb_plain.specs.declared.value.Value.{Value}
use Rattle.cb_plain.specs.declared.value.Value.TheVariants.{Ref}
use Rattle.cb_plain.specs.State.{State}
use Rattle.cb_shapes.specs.Computations.{Computed, ByZero, Gives, computed, gives, takes}
use Rattle.cb_shapes.specs.Shuffles.{shuffled}
use Rattle.cb_shapes.specs.declared.computation.Computation.{Computation}
use Rattle.cb_shapes.specs.declared.shuffle.Shuffle.{Shuffle}
use Rattle.cb_shapes.specs.declared.sort.Sort.{Sort}
use Rattle.cb_machine.specs.Machine.{Machine}
use Rattle.cb_machine.specs.Plans.{Plan, leaving}
use Rattle.cb_machine.specs.Sites.{arithmetic}
use Rattle.cb_machine.specs.Standing.{Now, leaves, leaves_with, taken, named_here}
use Rattle.cb_machine.specs.Strings.{Placed, class_object, constant_string}
use Rattle.cb_machine.specs.Throwing.{throwing_with}
use Rattle.cb_machine.specs.Values.{category_of_value, null, numbers_of, of_sort}

-- the message of a division by zero is the first text of a program
abbrev pub divide_message : ℕ
divide_message = 0

abbrev thrown_with : Machine → Placed → Plan
thrown_with machine message = throwing_with machine arithmetic message.serial 0 message.plan

abbrev pub throws_by_zero : Machine → State → Plan
throws_by_zero machine state = thrown_with machine (constant_string machine divide_message (leaving state))

-- what comes of a computation is laid on the rest of the stack
abbrev given : Option Sort → List ℤ → List Value
given None numbers = []
given (Some sort) numbers = map (of_sort sort) numbers

abbrev laid : Now → Option Sort → List Value → Computed → Option Plan
laid now sort rest ByZero = Some (throws_by_zero now.machine now.state)
laid now sort rest (Gives numbers) = leaves now (given sort numbers ++ rest)

abbrev computes_from : Now → Computation → List Value × List Value → Option Plan
computes_from now computation taken =
    option_and_then (laid now (gives computation) taken.1) (option_and_then (computed computation) (numbers_of taken.0))

abbrev pub computes : Now → Computation → Option Plan
computes now computation = option_and_then (computes_from now computation) (taken (takes computation) now.frame.stack)

-- what a constant is: a number, a string or a class object
abbrev lays_placed : Now → Placed → Option Plan
lays_placed now placed = leaves_with now (Ref placed.serial ∷ now.frame.stack) placed.plan

abbrev lays_named : Now → Named → Option Plan
lays_named now (meanings.Whole value) = leaves now (value ∷ now.frame.stack)
lays_named now (meanings.Text text) = lays_placed now (constant_string now.machine text (leaving now.state))
lays_named now (meanings.Kind kind) = lays_placed now (class_object now.machine kind (leaving now.state))
lays_named now other = None

abbrev pub loads_constant : Now → Option Plan
loads_constant now = lays_named now (named_here now)

abbrev pub loads_null : Now → Option Plan
loads_null now = leaves now (null ∷ now.frame.stack)

-- pop to swap
abbrev pub shuffles : Now → Shuffle → Option Plan
shuffles now shuffle = option_and_then (leaves now) (shuffled category_of_value shuffle now.frame.stack)
