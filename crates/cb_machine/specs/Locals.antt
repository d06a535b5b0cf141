-- Instructions that load and store local variables (JVMS §6.5, iload to aload_3, istore to astore_3, iinc).
use Rattle.std.specs.Prelude.{ℤ, ◌+ℤ◌, ℕ, ◌+◌, Bool, true, false, List, [], ◌∷◌, length, Option, None, option_and_then, slice_get, nat_le, if◌then◌else◌, slice_set}
use Rattle.std.specs.Int.{w32, int_wrap}
use Rattle.cb_plain.specs.Depth.{slots_of}
use Rattle.cb_plain.specs.declared.value.Value.{Value}
use Rattle.cb_plain.specs.declared.value.Value.TheVariants.{Int}
use Rattle.cb_shapes.specs.declared.sort.Sort.{Sort}
use Rattle.cb_machine.specs.Plans.{Plan, leaving}
use Rattle.cb_machine.specs.Standing.{Now, goes_on, leaves, same_sort, taken}
use Rattle.cb_machine.specs.Values.{sort_of}

-- a value of a sort is loaded
abbrev loads_if : Now → Value → Bool → Option Plan
loads_if now value true = leaves now (value ∷ now.frame.stack)
loads_if now value false = None

abbrev loads_value : Now → Sort → Value → Option Plan
loads_value now sort value = loads_if now value (same_sort (sort_of value) sort)

abbrev pub loads : Now → Sort → ℕ → Option Plan
loads now sort local = option_and_then (loads_value now sort) (slice_get now.frame.locals local)

-- a value is stored in its slots, from a local variable on
abbrev pub with_slots : List Value → ℕ → List Value → List Value
with_slots locals local [] = locals
with_slots locals local (value ∷ held) = with_slots (slice_set locals local value) (local + 1) held

abbrev stores_in : Now → ℕ → List Value → List Value → Option Plan
stores_in now local rest held =
    if nat_le (local + length held) (length now.frame.locals) then goes_on now (with_slots now.frame.locals local held) rest (leaving now.state)
    else None

abbrev stores_taken : Now → ℕ → List Value × List Value → Option Plan
stores_taken now local (value ∷ [], rest) = stores_in now local rest (slots_of value)
stores_taken now local other = None

abbrev pub stores : Now → Sort → ℕ → Option Plan
stores now sort local = option_and_then (stores_taken now local) (taken (sort ∷ []) now.frame.stack)

-- iinc
abbrev increases_by : Now → ℕ → ℤ → Value → Option Plan
increases_by now local by (Int number) =
    goes_on now (slice_set now.frame.locals local (Int (int_wrap w32 (number +ℤ by)))) now.frame.stack (leaving now.state)
increases_by now local by other = None

abbrev pub increases : Now → ℕ → ℤ → Option Plan
increases now local by = option_and_then (increases_by now local by) (slice_get now.frame.locals local)
