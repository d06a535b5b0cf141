-- What `System.arraycopy` copies, and what it throws (Java SE 8 API, java.lang.System).
use Rattle.std.specs.Prelude.{◌≡◌, ℕ, Bool, true, false, IfOk, IfSome, List, [], length, Option, Some, None, option_and_then, ◌==◌, if◌then◌else◌}
use Rattle.std.specs.declared.result.Result.{Result}
use Rattle.std.specs.declared.result.Result.TheVariants.{Err, Ok}
use Rattle.cb_heap.specs.Kept.{contents_at}
use Rattle.cb_heap.specs.Reading.{serial_of}
use Rattle.cb_kinds.specs.Basics.{is_reference}
use Rattle.cb_kinds.specs.declared.basic.Basic.{Basic}
use Rattle.cb_library.specs.declared.native.Native.{Native}
use Rattle.cb_library.specs.declared.native.Native.TheVariants as natives
use Rattle.cb_link.specs.Having.{IsBelow}
use Rattle.cb_link.specs.Program.{Linked}
use Rattle.cb_machine.specs.Arrays.{element_of}
use Rattle.cb_machine.specs.Copying.{array_native, can_copy, fitting, overwritten}
use Rattle.cb_machine.specs.Performing.{Call, Gives, Performed, Stops}
use Rattle.cb_machine.specs.Plans.{leaving}
use Rattle.cb_machine.specs.Throwing.{throwing}
use Rattle.cb_plain.specs.State.{Content, Object}
use Rattle.cb_plain.specs.Updates.{object_in, with_contents_in, with_objects}
use Rattle.cb_plain.specs.declared.shape.Shape.TheVariants.{Elements}
use Rattle.cb_plain.specs.declared.value.Value.{Value}
use Rattle.cb_natives.specs.Answers.{Beside}
use Rattle.cb_natives.specs.Copies.{MayCopy, copied, words_from}
use Rattle.cb_natives.specs.Exceptions.{site_of}
use Rattle.cb_natives.specs.MakingOwn.{call_of}
use Rattle.cb_natives.specs.declared.answers.Exception.{Exception}
use Rattle.cb_natives.specs.declared.answers.Exception.TheVariants as exceptions
use Rattle.cb_natives.specs.declared.array_ranges.Ranges.{Ranges}
use Rattle.cb_natives.specs.declared.copy_plans.CopyPlan.{CopyPlan}

-- which native it is
abbrev pub copies : Native → Bool
copies natives.SystemArraycopy = true
copies other = false

-- the elements of an array, and those of the second of two, where both are of one base type, or references
abbrev pub elements_at : Linked → List (Option Object) → ℕ → Option Basic
elements_at program objects serial = option_and_then (λ object. element_of program object.kind) (object_in objects serial)

abbrev pub common_elements : Option Basic → Option Basic → Option Basic
common_elements one other = if can_copy one other then other else None

-- how a call ends that leaves these objects: it gives nothing, or throws behind that
abbrev pub ends_with : Call → List (Option Object) → Option Exception → Performed
ends_with call left None = Gives (leaving (with_objects call.state left)) []
ends_with call left (Some exception) = Stops (throwing call.machine (site_of exception) (leaving (with_objects call.state left)))

-- words of one array as far as they fit the elements of another one, and objects with them there
abbrev pub range_of : List (Option Object) → (ℕ → ℕ) → Ranges → List Content
range_of objects index ranges = words_from objects (serial_of index ranges.source) ranges.start ranges.count

abbrev pub fitting_of : Call → (ℕ → ℕ) → Ranges → List Content
fitting_of call index ranges = fitting call (Some ranges.element) (range_of call.state.objects index ranges)

abbrev pub with_fitting : Call → (ℕ → ℕ) → Ranges → List (Option Object)
with_fitting call index ranges =
    with_contents_in call.state.objects (serial_of index ranges.to) (overwritten (contents_at call.state.objects (serial_of index ranges.to)) ranges.at (fitting_of call index ranges))

-- what a call does that has come to such ranges, or throws before
abbrev pub on_ranges : Call → (ℕ → ℕ) → Result Ranges Exception → Option Performed
on_ranges call index (Ok ranges) =
    if length (fitting_of call index ranges) == length (range_of call.state.objects index ranges) then Some (ends_with call (with_fitting call index ranges) None)
    else Some (ends_with call (with_fitting call index ranges) (Some exceptions.ArrayStore))
on_ranges call index (Err exception) = Some (ends_with call call.state.objects (Some exception))

-- all words of the ranges may be copied
abbrev pub MayCopyRanges : List (Option Object) → (ℕ → ℕ) → Ranges → Type 0
MayCopyRanges objects index ranges =
    MayCopy objects (Elements (is_reference ranges.element)) (serial_of index ranges.source) ranges.start (serial_of index ranges.to) ranges.at ranges.count

pub record DecidesRanges (program : Linked) (objects : List (Option Object)) (index : ℕ → ℕ) (done : Call → Option Performed) (result : Result Ranges Exception) : Type 0 where
  pub does : (frames : ℕ) (beside : Beside) → done (call_of program objects frames beside) ≡ on_ranges (call_of program objects frames beside) index result
  pub may : IfOk result (MayCopyRanges objects index)
  pub known : IfOk result (λ ranges. IsBelow (length program.kinds) ranges.element)

-- what is left of the objects by a plan, and a call as it says
abbrev pub copied_by : List (Option Object) → (ℕ → ℕ) → Option Ranges → List (Option Object)
copied_by objects index None = objects
copied_by objects index (Some ranges) = copied objects (serial_of index ranges.source) ranges.start (serial_of index ranges.to) ranges.at ranges.count

pub record PlansCopy (program : Linked) (objects : List (Option Object)) (index : ℕ → ℕ) (arguments : List Value) (plan : CopyPlan) : Type 0 where
  pub does : (frames : ℕ) (beside : Beside) → array_native (call_of program objects frames beside) natives.SystemArraycopy arguments
      ≡ Some (ends_with (call_of program objects frames beside) (copied_by objects index plan.ranges) plan.fails)
  pub may : IfSome plan.ranges (MayCopyRanges objects index)

-- a call that throws this exception, whatever it copies before
pub record FailsCopy (program : Linked) (objects : List (Option Object)) (arguments : List Value) (exception : Exception) : Type 0 where
  pub left : List (Option Object)
  pub does : (frames : ℕ) (beside : Beside) → array_native (call_of program objects frames beside) natives.SystemArraycopy arguments
      ≡ Some (ends_with (call_of program objects frames beside) left (Some exception))
