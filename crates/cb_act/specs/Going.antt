-- What switches, instructions on static fields, calls and returns do to the roots.
use Rattle.std.specs.Prelude.{ℕ, Bool, true, false, List, [], ◌∷◌, drop, Option, Some, None, option_and_then, option_map, slice_get}
use Rattle.cb_frames.specs.Tops.{pushed, top_stack}
use Rattle.cb_insn.specs.declared.insn.Operand.{Operand}
use Rattle.cb_kinds.specs.declared.basic.Basic.{Basic}
use Rattle.cb_link.specs.Program.{Linked}
use Rattle.cb_machine.specs.Branching.{target_for}
use Rattle.cb_machine.specs.Calling.{answered}
use Rattle.cb_machine.specs.Standing.{taken}
use Rattle.cb_machine.specs.Values.{kept_value, sort_of_basic}
use Rattle.cb_plain.specs.declared.class_state.ClassState.{ClassState}
use Rattle.cb_plain.specs.declared.class_state.ClassState.TheVariants.{Busy, Done}
use Rattle.cb_plain.specs.declared.value.Value.{Value}
use Rattle.cb_plain.specs.declared.value.Value.TheVariants.{Int}
use Rattle.cb_plain.specs.Roots.{with_frames, with_static}
use Rattle.cb_plain.specs.State.{Frame, OfMethod, Roots}
use Rattle.cb_shapes.specs.declared.sort.Sort.{Sort}
use Rattle.cb_shapes.specs.declared.sort.Sort.TheVariants as sorts
use Rattle.cb_act.specs.Effects.{stacked}

-- a switch takes its key, and tells where it goes
abbrev pub switched : Roots → Operand → List Value × List Value → Option (ℕ × Roots)
switched roots operand (Int key ∷ [], rest) = option_map (λ target. (target, stacked roots rest)) (target_for operand key)
switched roots operand other = None

abbrev pub behind_switch : Operand → Roots → Option (ℕ × Roots)
behind_switch operand roots = option_and_then (switched roots operand) (taken (sorts.Int ∷ []) (top_stack roots))

-- whether a class may be used: it is initialised, or is just being so
abbrev pub is_ready : Option ClassState → Bool
is_ready (Some Busy) = true
is_ready (Some Done) = true
is_ready other = false

-- getstatic and putstatic, of a class that may be used
abbrev pub behind_get_static : ℕ → Roots → Option Roots
behind_get_static slot roots = option_map (pushed roots) (slice_get roots.statics slot)

abbrev pub set_static : Roots → ℕ → Basic → List Value × List Value → Option Roots
set_static roots slot basic (value ∷ [], rest) = Some (stacked (with_static roots slot (kept_value basic value)) rest)
set_static roots slot basic other = None

abbrev pub behind_put_static : ℕ → Basic → Roots → Option Roots
behind_put_static slot basic roots = option_and_then (set_static roots slot basic) (taken (sort_of_basic basic ∷ []) (top_stack roots))

-- a return ends the topmost frame, and lays its answer on the stack of the method's that waits for it
abbrev pub asked_by : Option Sort → List Sort
asked_by None = []
asked_by (Some sort) = sort ∷ []

abbrev pub returned_to : Linked → List Value → List Frame → Option (List Frame)
returned_to program answer (OfMethod frame ∷ below) = option_map (λ now. OfMethod now ∷ below) (answered program frame answer)
returned_to program answer other = Some other

abbrev pub answers : Option Value → List Value
answers None = []
answers (Some value) = value ∷ []

abbrev pub returned : Linked → Roots → List Value × List Value → Option Roots
returned program roots taken = option_map (with_frames roots) (returned_to program taken.0 (drop 1 roots.frames))

abbrev pub behind_return : Linked → Option Sort → Roots → Option Roots
behind_return program sort roots = option_and_then (returned program roots) (taken (asked_by sort) (top_stack roots))
