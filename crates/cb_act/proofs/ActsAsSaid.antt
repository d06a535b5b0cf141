-- What is done of an instruction is the machine's step, by what the instruction does.
use Rattle.std.proofs.Common.{◌≡◌, ◌∙◌, ap, refl, sym, ℕ, Bool, true, false, List, ◌∷◌, Option, Some, None}
use Rattle.std.specs.Prelude.{option_and_then}
use Rattle.cb_insn.specs.declared.insn.Insn.{Insn}
use Rattle.cb_insn.specs.declared.insn.Operand.{Operand}
use Rattle.cb_insn.specs.declared.insn.Operand.TheVariants as operands
use Rattle.cb_link.specs.Calls.{select}
use Rattle.cb_link.specs.Decoding.{decoded_as}
use Rattle.cb_link.specs.Named.{code_at, insn_in}
use Rattle.cb_link.specs.declared.decoded.Decoded.{Decoded}
use Rattle.cb_link.specs.declared.named.Named.{Named}
use Rattle.cb_link.specs.declared.named.Named.TheVariants as meanings
use Rattle.cb_machine.specs.Calling.{calls, implementing, invokes_interface, invokes_special, invokes_virtual, is_private_method}
use Rattle.cb_machine.specs.Computing.{loads_constant}
use Rattle.cb_machine.specs.Machine.{Machine, or_zero}
use Rattle.cb_machine.specs.Plans.{Plan}
use Rattle.cb_machine.specs.Standing.{Now, named_here}
use Rattle.cb_machine.specs.Steps.{done, plan}
use Rattle.cb_plain.specs.State.{Frame, MethodFrame, OfMethod, State}
use Rattle.cb_shapes.specs.Shapes.{action_of}
use Rattle.cb_shapes.specs.Sorts.{sort_of_elements}
use Rattle.cb_shapes.specs.Targets.{goes_on}
use Rattle.cb_shapes.specs.declared.action.Action.{Action}
use Rattle.cb_shapes.specs.declared.action.Action.TheVariants as actions
use Rattle.cb_shapes.specs.declared.sort.Sort.TheVariants as sorts
use Rattle.cb_shapes.specs.declared.test.Condition.{Condition}
use Rattle.cb_shapes.specs.declared.test.Condition.TheVariants as conditions
use Rattle.cb_act.specs.Acting.{Deed, acted, acted_as, constant_deed, frame_deed, holder_kind, interface_deed, on_method, receiver_deed, running}
use Rattle.cb_act.specs.Framing.{is_plain}
use Rattle.cb_act.specs.Here.{GoesOn, HasElements, Here, LooksAtArrays, array_depth, planned_as}
use Rattle.cb_act.specs.Steps.{view_of}
use Rattle.cb_act.proofs.Acts.{always_so, asks_deed, casts_deed, constant_so, gets_field_so, here, loads_deed, measures_deed, now, plain_so, puts_field_so, returns_deed, same_so, stores_deed, stores_reference_deed, throws_deed}
use Rattle.cb_act.proofs.ActsOnClasses.{arrays_so, gets_static_deed, makes_deed, puts_static_deed, receiver_so, static_so}

module _ (machine : Machine) (state : State) (frame : MethodFrame) (below : List Frame) (insn : Insn) (frames : state.roots.frames ≡ OfMethod frame ∷ below) where
  abbrev at_now : Now
  at_now = now machine state frame below insn frames

  abbrev decoded : Decoded
  decoded = here machine state frame below insn frames

  abbrev Said : Operand → Action → Type 0
  Said operand action = done at_now operand action ≡ planned_as machine state (acted_as machine.program machine.frames decoded (view_of state) action)

  abbrev Next : Action → Type 0
  Next action = goes_on action ≡ true → (pc : ℕ) × (at_now.next ≡ Some pc)

  -- a constant that is an object is loaded in its place
  constant_said : (index : ℕ) (operand : Operand) → Next (actions.Constant index) → plan machine state ≡ loads_constant at_now
      → Said operand (actions.Constant index)
  constant_said index operand next whole = go (named_here at_now) refl where
    go : (named : Named) → named_here at_now ≡ named → loads_constant at_now ≡ planned_as machine state (constant_deed decoded (view_of state) (named_here at_now))
    go (meanings.Whole value) names = let (pc, after) = next refl in constant_so machine state frame below insn frames pc value after names ∙ rw names refl
    go (meanings.Text text) names =
        let same : planned_as machine state (constant_deed decoded (view_of state) (named_here at_now)) ≡ plan machine state = rw names refl in sym whole ∙ sym same
    go (meanings.Kind kind) names =
        let same : planned_as machine state (constant_deed decoded (view_of state) (named_here at_now)) ≡ plan machine state = rw names refl in sym whole ∙ sym same
    go meanings.Nothing names = rw names refl
    go (meanings.Static class slot) names = rw names refl
    go (meanings.Field class slot) names = rw names refl
    go (meanings.Method method) names = rw names refl

  -- a branch has a target
  branch_said : (condition : Condition) (operand : Operand) (p : Plan) → insn.operand ≡ operand → Next (actions.Branch condition)
      → done at_now operand (actions.Branch condition) ≡ Some p → Said operand (actions.Branch condition)
  branch_said condition operand p is next does = go operand is does where
    by_condition : (condition : Condition) (target : ℕ) → insn.operand ≡ operands.Branch target → Next (actions.Branch condition) → Said (operands.Branch target) (actions.Branch condition)
    by_condition conditions.Always target is next = always_so machine state frame below insn frames (or_zero decoded.next) target ∙ rw is refl
    by_condition (conditions.WithZero test) target is next = let (pc, after) = next refl in plain_so machine state frame below insn frames pc target (actions.Branch (conditions.WithZero test)) after refl ∙ rw is refl
    by_condition (conditions.OfInts test) target is next = let (pc, after) = next refl in plain_so machine state frame below insn frames pc target (actions.Branch (conditions.OfInts test)) after refl ∙ rw is refl
    by_condition (conditions.IsNull same) target is next = let (pc, after) = next refl in plain_so machine state frame below insn frames pc target (actions.Branch (conditions.IsNull same)) after refl ∙ rw is refl
    by_condition (conditions.AreSame are) target is next = let (pc, after) = next refl in same_so machine state frame below insn frames pc target are after ∙ rw is refl

    go : (operand : Operand) → insn.operand ≡ operand → done at_now operand (actions.Branch condition) ≡ Some p → Said operand (actions.Branch condition)
    go (operands.Branch target) is does = by_condition condition target is next
    go other is does = absurd (cc does)

  special_said : (index : ℕ) (operand : Operand) → plan machine state ≡ invokes_special at_now index → action_of insn ≡ Some (actions.InvokeSpecial index)
      → insn_in (code_at machine.program frame.method) frame.pc ≡ Some insn → Said operand (actions.InvokeSpecial index)
  special_said index operand whole so there = go (named_here at_now) refl where
    selects : (method : ℕ) → named_here at_now ≡ meanings.Method method → invokes_special at_now index ≡ calls at_now (λ kind. decoded.selected) method
    selects method names = rw (names, there, so) refl

    go : (named : Named) → named_here at_now ≡ named
        → invokes_special at_now index ≡ planned_as machine state (on_method (receiver_deed machine.program machine.frames (view_of state) (λ kind. decoded.selected)) (named_here at_now))
    go (meanings.Method method) names =
        selects method names ∙ receiver_so machine state frame below insn frames (λ kind. decoded.selected) method (whole ∙ selects method names) ∙ rw names refl
    go (meanings.Whole value) names = rw names refl
    go (meanings.Text text) names = rw names refl
    go (meanings.Kind kind) names = rw names refl
    go meanings.Nothing names = rw names refl
    go (meanings.Static class slot) names = rw names refl
    go (meanings.Field class slot) names = rw names refl

  virtual_said : (index : ℕ) (operand : Operand) → plan machine state ≡ invokes_virtual at_now → Said operand (actions.InvokeVirtual index)
  virtual_said index operand whole = go (named_here at_now) refl where
    go : (named : Named) → named_here at_now ≡ named
        → invokes_virtual at_now
        ≡ planned_as machine state (on_method (λ method. receiver_deed machine.program machine.frames (view_of state) (λ kind. select machine.program kind method) method) (named_here at_now))
    go (meanings.Method method) names =
        let called : invokes_virtual at_now ≡ calls at_now (λ kind. select machine.program kind method) method = rw names refl in
        called ∙ receiver_so machine state frame below insn frames (λ kind. select machine.program kind method) method (whole ∙ called) ∙ rw names refl
    go (meanings.Whole value) names = rw names refl
    go (meanings.Text text) names = rw names refl
    go (meanings.Kind kind) names = rw names refl
    go meanings.Nothing names = rw names refl
    go (meanings.Static class slot) names = rw names refl
    go (meanings.Field class slot) names = rw names refl

  -- an invokeinterface, in the method whose frame is the topmost one
  abbrev interface_done : ℕ → Option Deed
  interface_done index = on_method (interface_deed machine.program machine.frames (view_of state) frame.method index) (named_here at_now)

  runs_here : running state.roots ≡ Some frame.method
  runs_here = rw frames refl

  interface_said : (index count : ℕ) (operand : Operand) → plan machine state ≡ invokes_interface at_now index → Said operand (actions.InvokeInterface index count)
  interface_said index count operand whole =
      go (named_here at_now) refl
      ∙ ap (λ (caller : Option ℕ). planned_as machine state (option_and_then (λ caller. on_method (interface_deed machine.program machine.frames (view_of state) caller index) (named_here at_now)) caller)) (sym runs_here) where
        by : (method : ℕ) → named_here at_now ≡ meanings.Method method → (private : Bool) → is_private_method machine.program method ≡ private
            → invokes_interface at_now index ≡ planned_as machine state (interface_done index)
        by method names true private = rw (names, private) refl
        by method names false private =
            let choose = implementing machine.program method (holder_kind machine.program frame.method index) in
            let called : invokes_interface at_now index ≡ calls at_now choose method = rw (names, private) refl in
            called ∙ receiver_so machine state frame below insn frames choose method (whole ∙ called) ∙ rw (names, private) refl

        go : (named : Named) → named_here at_now ≡ named → invokes_interface at_now index ≡ planned_as machine state (interface_done index)
        go (meanings.Method method) names = by method names (is_private_method machine.program method) refl
        go (meanings.Whole value) names = rw names refl
        go (meanings.Text text) names = rw names refl
        go (meanings.Kind kind) names = rw names refl
        go meanings.Nothing names = rw names refl
        go (meanings.Static class slot) names = rw names refl
        go (meanings.Field class slot) names = rw names refl

  -- instructions on the topmost frame alone that aren't branches, whatever their target
  plain : (action : Action) → goes_on action ≡ true → Next action → is_plain action ≡ true
      → done at_now (operands.Branch (or_zero decoded.target)) action ≡ planned_as machine state (frame_deed decoded (view_of state) action)
  plain action on next is = let (pc, after) = next on in plain_so machine state frame below insn frames pc (or_zero decoded.target) action after is

  said : (action : Action) (p : Plan) → Next action
      → ((depth : ℕ) → array_depth action ≡ Some depth → HasElements machine.program (view_of state) depth)
      → action_of insn ≡ Some action → insn_in (code_at machine.program frame.method) frame.pc ≡ Some insn
      → plan machine state ≡ done at_now insn.operand action → done at_now insn.operand action ≡ Some p → Said insn.operand action
  said (actions.Compute computation) p next arrays so there whole does = plain (actions.Compute computation) refl next refl
  said actions.Null p next arrays so there whole does = plain actions.Null refl next refl
  said (actions.Load sort local) p next arrays so there whole does = plain (actions.Load sort local) refl next refl
  said (actions.Store sort local) p next arrays so there whole does = plain (actions.Store sort local) refl next refl
  said (actions.Increase local by) p next arrays so there whole does = plain (actions.Increase local by) refl next refl
  said (actions.Shuffle shuffle) p next arrays so there whole does = plain (actions.Shuffle shuffle) refl next refl
  said (actions.Constant index) p next arrays so there whole does = constant_said index insn.operand next whole
  said (actions.Branch condition) p next arrays so there whole does = branch_said condition insn.operand p refl next does
  said actions.Switch p next arrays so there whole does = sym whole
  said (actions.LoadNumber elements) p next arrays so there whole does =
      let (pc, after) = next refl in loads_deed machine state frame below insn frames pc (sort_of_elements elements) after (arrays 1 refl)
  said (actions.StoreNumber elements) p next arrays so there whole does =
      let (pc, after) = next refl in stores_deed machine state frame below insn frames pc elements after (arrays 2 refl)
  said actions.Length p next arrays so there whole does = let (pc, after) = next refl in measures_deed machine state frame below insn frames pc after
  said actions.LoadReference p next arrays so there whole does =
      let (pc, after) = next refl in loads_deed machine state frame below insn frames pc sorts.Reference after (arrays 1 refl)
  said actions.StoreReference p next arrays so there whole does = let (pc, after) = next refl in stores_reference_deed machine state frame below insn frames pc after
  said (actions.GetField index) p next arrays so there whole does = let (pc, after) = next refl in gets_field_so machine state frame below insn frames pc after
  said (actions.PutField index) p next arrays so there whole does = let (pc, after) = next refl in puts_field_so machine state frame below insn frames pc after
  said (actions.GetStatic index) p next arrays so there whole does = let (pc, after) = next refl in gets_static_deed machine state frame below insn frames pc after
  said (actions.PutStatic index) p next arrays so there whole does = let (pc, after) = next refl in puts_static_deed machine state frame below insn frames pc after
  said (actions.New index) p next arrays so there whole does = makes_deed machine state frame below insn frames whole
  said (actions.NewNumbers code) p next arrays so there whole does = arrays_so machine state frame below insn frames 1 whole
  said (actions.NewReferences index) p next arrays so there whole does = arrays_so machine state frame below insn frames 1 whole
  said (actions.NewArrays index dimensions) p next arrays so there whole does = arrays_so machine state frame below insn frames dimensions whole
  said (actions.Cast index) p next arrays so there whole does = let (pc, after) = next refl in casts_deed machine state frame below insn frames pc after
  said (actions.IsInstance index) p next arrays so there whole does = let (pc, after) = next refl in asks_deed machine state frame below insn frames pc after
  said actions.Throw p next arrays so there whole does = throws_deed machine state frame below insn frames
  said (actions.Return sort) p next arrays so there whole does = returns_deed machine state frame below insn frames sort
  said (actions.InvokeStatic index) p next arrays so there whole does = static_so machine state frame below insn frames whole
  said (actions.InvokeSpecial index) p next arrays so there whole does = special_said index insn.operand whole so there
  said (actions.InvokeVirtual index) p next arrays so there whole does = virtual_said index insn.operand whole
  said (actions.InvokeInterface index count) p next arrays so there whole does = interface_said index count insn.operand whole

-- the step of a machine that stands at an instruction is what is done of it
pub acts_so : (machine : Machine) (state : State) (decoded : Decoded) (at : Here machine state decoded) (p : Plan)
    → GoesOn decoded → LooksAtArrays machine.program (view_of state) decoded
    → plan machine state ≡ Some p → planned_as machine state (acted machine.program machine.frames decoded (view_of state)) ≡ Some p
acts_so machine state decoded at p goes arrays is = go (action_of at.insn) refl where
  go : (action : Option Action) → action_of at.insn ≡ action → planned_as machine state (acted machine.program machine.frames decoded (view_of state)) ≡ Some p
  go None does =
      let none : plan machine state ≡ None = rw (at.runs, at.quiet, at.frames, at.there, does) refl in
      absurd (cc (sym none ∙ is))
  go (Some action) does =
      let whole : plan machine state ≡ done (now machine state at.frame at.below at.insn at.frames) at.insn.operand action = rw (at.runs, at.quiet, at.frames, at.there, does) refl in
      let has : decoded.action ≡ Some action = ap (λ (decoded : Decoded). decoded.action) at.is ∙ does in
      ap (λ (decoded : Decoded). planned_as machine state (acted machine.program machine.frames decoded (view_of state))) at.is
      ∙ ap (λ action. planned_as machine state (option_and_then (acted_as machine.program machine.frames (decoded_as machine.program at.frame.method at.frame.pc at.insn) (view_of state)) action)) does
      ∙ sym (said machine state at.frame at.below at.insn at.frames action p
      (λ on. let (pc, next) = goes action has on in (pc, sym (ap (λ (decoded : Decoded). decoded.next) at.is) ∙ next))
      (λ depth is. arrays action depth has is)
      does at.there
      whole (sym whole ∙ is))
      ∙ sym whole ∙ is
