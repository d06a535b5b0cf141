-- A turn in which a switch is done.
use Rattle.std.proofs.Common.{◌≡◌, ◌∙◌, ap, refl, sym, ℕ, true, false, List, [], ◌∷◌, Option, Some, None}
use Rattle.std.proofs.lemmas.Bool.{false≢true}
use Rattle.std.proofs.lemmas.Option.{none-some, same_Some}
use Rattle.std.specs.Prelude.{is_some, option_map}
use Rattle.cb_frames.specs.Limited.{Limited}
use Rattle.cb_frames.specs.Tops.{placed, topmost}
use Rattle.cb_heap.proofs.Laws.{reads_placed}
use Rattle.cb_heap.specs.Reading.{read_roots, seen}
use Rattle.cb_heap.specs.Rules.{Rules}
use Rattle.cb_insn.specs.declared.insn.Operand.{Operand}
use Rattle.cb_link.specs.Program.{Linked}
use Rattle.cb_link.specs.declared.decoded.Decoded.{Decoded}
use Rattle.cb_machine.specs.Branching.{switches}
use Rattle.cb_machine.specs.Plans.{leaving}
use Rattle.cb_machine.specs.Steps.{plan}
use Rattle.cb_plain.specs.State.{Frame, Initialising, Object, OfMethod, Roots, State}
use Rattle.cb_plain.specs.Updates.{with_roots}
use Rattle.cb_shapes.specs.Shapes.{action_of}
use Rattle.cb_shapes.specs.declared.action.Action.TheVariants as actions
use Rattle.cb_act.specs.Going.{behind_switch}
use Rattle.cb_act.specs.Here.{Here}
use Rattle.cb_interp.specs.Making.{operand_here, operand_of}
use Rattle.cb_act.specs.Steps.{goes_as}
use Rattle.cb_act.specs.Turning.{Outside, TurnMade, machine_of, moment_of, state_of}
use Rattle.cb_act.proofs.Laws.{anywhere, anywhere_stands, switch_read, switches_so}
use Rattle.cb_interp.proofs.TurnsMade.{quiet_turn}

pub top_again : (index : ℕ → ℕ) (held : Roots) → topmost (read_roots index held).frames ≡ topmost held.frames
top_again index held = go held.frames refl where
  go : (frames : List Frame) → held.frames ≡ frames → topmost (read_roots index held).frames ≡ topmost held.frames
  go [] is = rw is refl
  go (OfMethod frame ∷ below) is = rw is refl
  go (Initialising class place ∷ below) is = rw is refl

-- where an instruction stands it has an operand
pub operand_there : (program : Linked) (limit : ℕ) (index : ℕ → ℕ) (objects : List (Option Object)) (held : Roots) (outside : Outside) (decoded : Decoded)
    → Here (machine_of program limit) (state_of (seen index objects held) outside) decoded → None ≡ operand_here program held → ⊥
operand_there program limit index objects held outside decoded here none =
    none-some here.insn.operand
    (none ∙ sym (ap (operand_of program) (top_again index held)) ∙ ap (operand_of program) (ap topmost here.frames) ∙ ap (option_map (λ insn. insn.operand)) here.there)

module _ (program : Linked) (index : ℕ → ℕ) (objects : List (Option Object)) (before : Limited) (outside : Outside) (decoded : Decoded) where
  abbrev state : State
  state = state_of (seen index objects before.roots) outside

  module _ (here : Here (machine_of program before.limit) state decoded) (switching : decoded.action ≡ Some actions.Switch) (operand : Operand)
      (at : operand_here program before.roots ≡ Some operand) where
    operand_is : here.insn.operand ≡ operand
    operand_is =
        same_Some here.insn.operand operand
        (sym (ap (option_map (λ insn. insn.operand)) here.there) ∙ sym (ap (operand_of program) (ap topmost here.frames))
        ∙ ap (operand_of program) (top_again index before.roots) ∙ at)

    does : action_of here.insn ≡ Some actions.Switch
    does = sym (ap (λ (decoded : Decoded). decoded.action) here.is) ∙ switching

    -- the step is what is left of the roots
    said : plan (machine_of program before.limit) state
        ≡ goes_as (anywhere (machine_of program before.limit) state here.frame here.below here.insn here.frames) (behind_switch operand state.roots)
    said =
        let whole : plan (machine_of program before.limit) state ≡ switches (anywhere (machine_of program before.limit) state here.frame here.below here.insn here.frames) here.insn.operand =
        rw (here.runs, here.quiet, here.frames, here.there, does) refl in
        whole ∙ ap (switches (anywhere (machine_of program before.limit) state here.frame here.below here.insn here.frames)) operand_is
        ∙ switches_so (anywhere (machine_of program before.limit) state here.frame here.below here.insn here.frames) 0
        (anywhere_stands (machine_of program before.limit) state here.frame here.below here.insn here.frames) operand

    pub switch_there : is_some (plan (machine_of program before.limit) state) ≡ true → is_some (behind_switch operand before.roots) ≡ true
    switch_there is = go (behind_switch operand before.roots) refl where
      go : (found : Option (ℕ × Roots)) → behind_switch operand before.roots ≡ found → is_some found ≡ true
      go (Some gone) there = refl
      go None there =
          let seen_none : behind_switch operand state.roots ≡ None = rw (switch_read index before.roots operand, there) refl in
          let none : is_some (plan (machine_of program before.limit) state) ≡ false =
          ap is_some said ∙ ap (λ gone. is_some (goes_as (anywhere (machine_of program before.limit) state here.frame here.below here.insn here.frames) gone)) seen_none in
          absurd (false≢true (sym none ∙ is))

    pub switched_turn : {Facts : Type 0} (rules : Rules Facts) (facts : Facts) (target : ℕ) (left after : Roots) → behind_switch operand before.roots ≡ Some (target, left)
        → after ≡ placed left target
        → TurnMade rules (machine_of program before.limit) (moment_of (seen index objects before.roots) outside facts) (moment_of (seen index objects after) outside facts)
    switched_turn rules facts target left after there is =
        quiet_turn rules (machine_of program before.limit) (moment_of (seen index objects before.roots) outside facts) (moment_of (seen index objects after) outside facts)
        (leaving (with_roots state (placed (read_roots index left) target)))
        (said ∙ ap (goes_as (anywhere (machine_of program before.limit) state here.frame here.below here.insn here.frames))
        (switch_read index before.roots operand ∙ ap (option_map (λ gone. (gone.0, read_roots index gone.1))) there)) refl
        (ap (λ (after : Roots). state_of (seen index objects after) outside) is ∙ ap (with_roots state) (reads_placed index left target)) refl
