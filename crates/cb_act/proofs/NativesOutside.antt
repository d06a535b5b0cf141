-- Natives that print, read or end the run, and the one that finds a constant of an enum, of a state with changed objects.
use Rattle.std.proofs.Common.{◌≡◌, ◌∙◌, ap, refl, sym, ℕ, ℤ, pos, negsuc, ◌+◌, List, [], ◌∷◌, drop, length, map, take, Option, Some, None, zero, suc, if◌then◌else◌, nat_le}
use Rattle.std.specs.Prelude.{option_and_then, option_map, slice_get}
use Rattle.cb_arith.specs.Narrowing.{narrow}
use Rattle.cb_arith.specs.declared.narrower.Narrow.TheVariants as narrower
use Rattle.cb_library.specs.declared.native.Native.{Native}
use Rattle.cb_library.specs.declared.native.Native.TheVariants as natives
use Rattle.cb_link.specs.Calls.{class_of_kind}
use Rattle.cb_machine.specs.Copying.{overwritten}
use Rattle.cb_machine.specs.Enums.{constant_named, finds_constant}
use Rattle.cb_machine.specs.Initialising.{once_ready}
use Rattle.cb_machine.specs.Outside.{outside_native}
use Rattle.cb_machine.specs.Performing.{Call, Performed, Gives, Stops, gives, gives_int, number_at, on_text, stops, value_slot}
use Rattle.cb_machine.specs.Plans.{Plan, leaving}
use Rattle.cb_machine.specs.Sites.{illegal_argument, index_out_of_bounds}
use Rattle.cb_plain.specs.declared.class_state.ClassState.{ClassState}
use Rattle.cb_plain.specs.declared.class_state.ClassState.TheVariants as states
use Rattle.cb_plain.specs.declared.value.Value.{Value}
use Rattle.cb_plain.specs.declared.value.Value.TheVariants as values
use Rattle.cb_plain.specs.State.{Content, Number, Object, State}
use Rattle.cb_plain.specs.Updates.{with_contents_at, with_exit, with_input, with_printed}
use Rattle.cb_act.specs.Changing.{Passes, changed_plan, changed_state}
use Rattle.cb_act.proofs.KeptGoing.{leaving_kept}
use Rattle.cb_act.proofs.KeptInit.{ready_kept}
use Rattle.cb_act.proofs.NativesBasics.{Changed, Held, Same, branch_same, changed_call, first, gives_same, left_changed, object_same, own_call, plan_gives, second, stops_same, text_then, then_same}

-- what is read
abbrev pub reads : Call → List ℕ → Option Performed
reads call [] = gives_int call (negsuc 0)
reads call (byte ∷ input) = Some (Gives (leaving (with_input call.state input)) (values.Int (pos byte) ∷ []))

abbrev pub stored_byte : ℕ → Content
stored_byte byte = Number (narrow narrower.Byte (pos byte))

abbrev pub read_state : State → ℕ → Object → ℕ → List ℕ → State
read_state state serial array from bytes =
    with_contents_at (with_input state (drop (length bytes) state.input)) serial (overwritten array.contents from (map stored_byte bytes))

abbrev pub some_into : Call → ℕ → Object → ℕ → List ℕ → Option Performed
some_into call serial array from [] = gives_int call (negsuc 0)
some_into call serial array from (byte ∷ bytes) =
    Some (Gives (leaving (read_state call.state serial array from (byte ∷ bytes))) (values.Int (pos (length (byte ∷ bytes))) ∷ []))

abbrev pub so_many_into : Call → ℕ → Object → ℕ → ℕ → Option Performed
so_many_into call serial array from zero = gives_int call (pos 0)
so_many_into call serial array from (suc count) = some_into call serial array from (take (suc count) call.state.input)

abbrev pub reads_range : Call → ℕ → ℤ → ℤ → Object → Option Performed
reads_range call serial (pos from) (pos count) array =
    if nat_le (from + count) (length array.contents) then so_many_into call serial array from count else stops call index_out_of_bounds
reads_range call serial from count array = stops call index_out_of_bounds

-- constants of enums
abbrev pub gives_static : Call → Option ℕ → Option Performed
gives_static call None = stops call illegal_argument
gives_static call (Some slot) = option_and_then (λ value. gives call (value ∷ [])) (slice_get call.state.roots.statics slot)

abbrev pub once_class : Call → ℕ → Option Performed → ClassState → Option Performed
once_class call class ready states.Busy = ready
once_class call class ready states.Done = ready
once_class call class ready other = option_map Stops (once_ready call.machine call.state class None)

abbrev pub finds_in : Call → ℕ → ℕ → Option Performed
finds_in call name class = on_text call name (λ units. gives_static call (constant_named call.machine.program class units))

abbrev pub of_class : Call → ℕ → Option ℕ → Option Performed
of_class call name None = on_text call name (λ units. stops call illegal_argument)
of_class call name (Some class) = option_and_then (once_class call class (finds_in call name class)) (slice_get call.state.roots.classes class)

abbrev pub kind_of_number : ℤ → Option ℕ
kind_of_number (pos kind) = Some kind
kind_of_number other = None

module _ (it : Changed) where
  -- nothing but what came in and goes out changes
  outside_same : (state : State) → state.objects ≡ it.state.objects → (answer : List Value)
      → Same it (Some (Gives (leaving (changed_state it.change state)) answer)) (Some (Gives (leaving state) answer))
  outside_same state is answer =
      plan_gives it (leaving (changed_state it.change state)) (leaving state) answer
      (leaving_kept it.change state (ap (λ (objects : List (Option Object)). length (it.change objects)) is ∙ it.unseen.count ∙ ap length (sym is)))

  prints_same : (printed : List ℕ)
      → Same it (Some (Gives (leaving (with_printed (changed_state it.change it.state) printed)) [])) (Some (Gives (leaving (with_printed it.state printed)) []))
  prints_same printed = outside_same (with_printed it.state printed) refl []

  reads_same : (input : List ℕ) → Same it (reads (changed_call it) input) (reads (own_call it) input)
  reads_same [] = gives_same it (values.Int (negsuc 0) ∷ [])
  reads_same (byte ∷ input) = outside_same (with_input it.state input) refl (values.Int (pos byte) ∷ [])

  into_same : (serial : ℕ) (array : Object) (from : ℕ) (bytes : List ℕ)
      → Same it (some_into (changed_call it) serial array from bytes) (some_into (own_call it) serial array from bytes)
  into_same serial array from [] = gives_same it (values.Int (negsuc 0) ∷ [])
  into_same serial array from (byte ∷ bytes) =
      plan_gives it
      (leaving (read_state (changed_state it.change it.state) serial array from (byte ∷ bytes))) (leaving (read_state it.state serial array from (byte ∷ bytes)))
      (values.Int (pos (length (byte ∷ bytes))) ∷ [])
      (left_changed it (with_input it.state (drop (length (byte ∷ bytes)) it.state.input)) it.unseen.count serial
      (overwritten array.contents from (map stored_byte (byte ∷ bytes))))

  so_many_same : (serial : ℕ) (array : Object) (from count : ℕ)
      → Same it (so_many_into (changed_call it) serial array from count) (so_many_into (own_call it) serial array from count)
  so_many_same serial array from zero = gives_same it (values.Int (pos 0) ∷ [])
  so_many_same serial array from (suc count) = into_same serial array from (take (suc count) it.state.input)

  range_same : (serial : ℕ) (from count : ℤ) (array : Object)
      → Same it (reads_range (changed_call it) serial from count array) (reads_range (own_call it) serial from count array)
  range_same serial (pos from) (pos count) array =
      branch_same it (nat_le (from + count) (length array.contents))
      (so_many_into (changed_call it) serial array from count) (so_many_into (own_call it) serial array from count)
      (stops (changed_call it) index_out_of_bounds) (stops (own_call it) index_out_of_bounds)
      (so_many_same serial array from count) (stops_same it index_out_of_bounds)
  range_same serial (pos from) (negsuc count) array = stops_same it index_out_of_bounds
  range_same serial (negsuc from) count array = stops_same it index_out_of_bounds

  -- each of them
  pub outside_native_same : (native : Native) (arguments : List Value) → Held it arguments
      → Same it (outside_native (changed_call it) native arguments) (outside_native (own_call it) native arguments)
  outside_native_same natives.PrintBoolean (values.Ref stream ∷ values.Int is ∷ []) held = prints_same _
  outside_native_same natives.PrintChar (values.Ref stream ∷ values.Int unit ∷ []) held = prints_same _
  outside_native_same natives.PrintInt (values.Ref stream ∷ values.Int number ∷ []) held = prints_same _
  outside_native_same natives.PrintLong (values.Ref stream ∷ values.Long number ∷ []) held = prints_same _
  outside_native_same natives.PrintString (values.Ref stream ∷ values.Ref zero ∷ []) held = prints_same _
  outside_native_same natives.PrintString (values.Ref stream ∷ values.Ref (suc place) ∷ []) held =
      text_then it (suc place) (second it (values.Ref stream) (suc place) [] held) _ _ (λ units. prints_same _)
  outside_native_same natives.PrintlnBoolean (values.Ref stream ∷ values.Int is ∷ []) held = prints_same _
  outside_native_same natives.PrintlnChar (values.Ref stream ∷ values.Int unit ∷ []) held = prints_same _
  outside_native_same natives.PrintlnInt (values.Ref stream ∷ values.Int number ∷ []) held = prints_same _
  outside_native_same natives.PrintlnLong (values.Ref stream ∷ values.Long number ∷ []) held = prints_same _
  outside_native_same natives.PrintlnString (values.Ref stream ∷ values.Ref zero ∷ []) held = prints_same _
  outside_native_same natives.PrintlnString (values.Ref stream ∷ values.Ref (suc place) ∷ []) held =
      text_then it (suc place) (second it (values.Ref stream) (suc place) [] held) _ _ (λ units. prints_same _)
  outside_native_same natives.Println (values.Ref stream ∷ []) held = prints_same _
  outside_native_same natives.ReadByte (values.Ref stream ∷ []) held = reads_same it.state.input
  outside_native_same natives.ReadRange (values.Ref stream ∷ values.Ref array ∷ values.Int from ∷ values.Int count ∷ []) held =
      object_same it array (second it (values.Ref stream) array (values.Int from ∷ values.Int count ∷ []) held)
      (reads_range (changed_call it) array from count) (reads_range (own_call it) array from count) (λ own there. range_same array from count own)
  outside_native_same natives.SystemExit (values.Int status ∷ []) held = outside_same (with_exit it.state status) refl []
  outside_native_same natives.SystemGc [] held = gives_same it []
  outside_native_same native arguments held = refl

  -- the constant of an enum
  static_same : (slot : Option ℕ) → Same it (gives_static (changed_call it) slot) (gives_static (own_call it) slot)
  static_same None = stops_same it illegal_argument
  static_same (Some slot) =
      then_same it (λ value. gives (changed_call it) (value ∷ [])) (λ value. gives (own_call it) (value ∷ [])) (slice_get it.state.roots.statics slot)
      (λ value is. gives_same it (value ∷ []))

  stopped_same : (one other : Option Plan) → one ≡ option_map (changed_plan it.change) other → Same it (option_map Stops one) (option_map Stops other)
  stopped_same one None is = ap (option_map Stops) is
  stopped_same one (Some plan) is = ap (option_map Stops) is

  once_same : (class : ℕ) (one other : Option Performed) → Same it one other → (state : ClassState)
      → Same it (once_class (changed_call it) class one state) (once_class (own_call it) class other state)
  once_same class one other is states.Busy = is
  once_same class one other is states.Done = is
  once_same class one other is state =
      stopped_same (once_ready it.machine (changed_state it.change it.state) class None) (once_ready it.machine it.state class None)
      (ready_kept it.change it.machine it.state it.unseen.count class None None refl)

  of_class_same : (name : ℕ) → Passes it.test name → (class : Option ℕ) → Same it (of_class (changed_call it) name class) (of_class (own_call it) name class)
  of_class_same name passes None =
      text_then it name passes (λ units. stops (changed_call it) illegal_argument) (λ units. stops (own_call it) illegal_argument) (λ units. stops_same it illegal_argument)
  of_class_same name passes (Some class) =
      then_same it (once_class (changed_call it) class (finds_in (changed_call it) name class)) (once_class (own_call it) class (finds_in (own_call it) name class))
      (slice_get it.state.roots.classes class)
      (λ state is. once_same class (finds_in (changed_call it) name class) (finds_in (own_call it) name class)
      (text_then it name passes _ _ (λ units. static_same (constant_named it.machine.program class units))) state)

  pub constant_same : (arguments : List Value) → Held it arguments → Same it (finds_constant (changed_call it) arguments) (finds_constant (own_call it) arguments)
  constant_same (values.Ref class ∷ values.Ref name ∷ []) held =
      object_same it class (first it class (values.Ref name ∷ []) held) _ _
      (λ own there. of_class_same name (second it (values.Ref class) name [] held)
      (option_and_then (class_of_kind it.machine.program) (option_and_then kind_of_number (number_at own value_slot))))
  constant_same arguments held = refl
