-- The steps that make an object or an array, where its class may be used: it is placed at its site, and laid on the stack at the next
-- place (JVMS §6.5, new, newarray and anewarray). And the instruction of a switch.
use Rattle.std.specs.Prelude.{◌≡◌, ℕ, ◌+◌, ◌∷◌, Option, Some, None, drop, length, option_map}
use Rattle.cb_frames.specs.Tops.{placed, pushed, top_stack, topmost}
use Rattle.cb_frames.specs.declared.frame.Frame.{Frame}
use Rattle.cb_frames.specs.declared.frame.Frame.TheVariants as shown
use Rattle.cb_insn.specs.declared.insn.Operand.{Operand}
use Rattle.cb_link.specs.Named.{code_at, insn_in}
use Rattle.cb_link.specs.Program.{Linked}
use Rattle.cb_link.specs.declared.decoded.Decoded.{Decoded}
use Rattle.cb_machine.specs.Creating.{blank_element, blank_fields}
use Rattle.cb_machine.specs.Machine.{Machine, kind_of_site}
use Rattle.cb_machine.specs.Plans.{Plan, leaving, with_alike, with_left, with_one}
use Rattle.cb_plain.specs.declared.value.Value.TheVariants.{Ref}
use Rattle.cb_plain.specs.State.{Roots, State}
use Rattle.cb_plain.specs.Updates.{with_roots}
use Rattle.cb_shapes.specs.declared.action.Action.TheVariants as actions
use Rattle.cb_act.specs.Effects.{stacked}
use Rattle.cb_act.specs.Here.{Here}

abbrev pub makes_one : Machine → State → (site pc : ℕ) → Plan
makes_one machine state site pc =
    with_left (with_one (leaving state) site (kind_of_site machine.program site) (blank_fields machine.program (kind_of_site machine.program site)))
    (with_roots state (placed (pushed state.roots (Ref (length state.objects + 1))) pc))

-- an array takes the place of its size on the stack
abbrev pub makes_array : Machine → State → (site size pc : ℕ) → Plan
makes_array machine state site size pc =
    with_left (with_alike (leaving state) site (kind_of_site machine.program site) (blank_element machine.program (kind_of_site machine.program site)) size 1)
    (with_roots state (placed (stacked state.roots (Ref (length state.objects + 1) ∷ drop 1 (top_stack state.roots))) pc))

-- a run that goes on stands at a switch, and no exception is pending
pub record AtSwitch (machine : Machine) (state : State) : Type 0 where
  pub decoded : Decoded
  pub here : Here machine state decoded
  pub switches : decoded.action ≡ Some actions.Switch

-- the operand of the instruction at which a method's frame stands
abbrev pub operand_of : Linked → Option Frame → Option Operand
operand_of program None = None
operand_of program (Some (shown.Running method pc)) = option_map (λ insn. insn.operand) (insn_in (code_at program method) pc)
operand_of program (Some (shown.Initialising class place)) = None

abbrev pub operand_here : Linked → Roots → Option Operand
operand_here program roots = operand_of program (topmost roots.frames)
