-- Where an instruction of a typed state is done there is room for what it lays on the stack.
use Rattle.std.proofs.Common.{◌≡◌, ◌∙◌, ap, arith, refl, sym, ◌<◌, ◌≤◌, ◌-◌, true, false, List, [], ◌∷◌, drop, length, Some}
use Rattle.std.proofs.lemmas.Bool.{false≢true}
use Rattle.cb_frames.specs.Tops.{is_method, left, on_top, room_in, runs_method, stack_in, top_room, top_stack}
use Rattle.cb_insn.specs.declared.insn.Insn.{Insn}
use Rattle.cb_link.specs.Decoding.{decoded_as}
use Rattle.cb_link.specs.Named.{code_at, insn_in}
use Rattle.cb_machine.specs.Machine.{Machine}
use Rattle.cb_plain.specs.State.{Frame, Initialising, MethodFrame, OfMethod, State}
use Rattle.cb_shapes.specs.Shapes.{action_of}
use Rattle.cb_shapes.specs.declared.action.Action.{Action}
use Rattle.cb_shapes.specs.declared.action.Action.TheVariants as actions
use Rattle.cb_shapes.specs.declared.computation.Computation.{Computation}
use Rattle.cb_shapes.specs.declared.computation.Computation.TheVariants as computations
use Rattle.cb_shapes.specs.declared.shuffle.Shuffle.{Shuffle}
use Rattle.cb_shapes.specs.declared.sort.Sort.{Sort}
use Rattle.cb_verify.specs.Typed.{IsTyped}
use Rattle.cb_safety.specs.Room.{HasRoom as HasSlots, ShufflesWithin}
use Rattle.cb_machine.specs.Growing.{lays_one}
use Rattle.cb_safety.specs.Sound.{IsSound}
use Rattle.cb_safety.specs.States.{IsTypedState}
use Rattle.cb_safety.proofs.Laws.{pushes_fit, returns_fit, shuffles_fit}
use Rattle.cb_act.specs.Effects.{growth}
use Rattle.cb_act.specs.Framing.{growth_at}
use Rattle.cb_act.specs.Steps.{view_of}
use Rattle.cb_act.specs.Suited.{HasRoom}
use Rattle.cb_interp.proofs.Grown.{grown}

module _ (machine : Machine) (state : State) (frame : MethodFrame) (below : List Frame) (insn : Insn)
    (fits : IsTyped machine.program) (sound : IsSound machine.program) (typed : IsTypedState machine.program state) (quiet : state.roots.pending ≡ 0)
    (frames : state.roots.frames ≡ OfMethod frame ∷ below) (there : insn_in (code_at machine.program frame.method) frame.pc ≡ Some insn) where
  room_is : top_room state.roots ≡ room_in (OfMethod frame)
  room_is = ap (on_top 0 room_in) frames

  -- a value more
  one : (action : Action) → action_of insn ≡ Some action → lays_one action ≡ true → 0 < top_room state.roots
  one action does lays =
      let slots : HasSlots machine.program frame 1 =
      pushes_fit machine state frame below insn action fits sound.spelled sound.holds_on sound.statics typed quiet frames there does lays in
      omega (arith, slots.room, room_is)

  computed : (computation : Computation) → action_of insn ≡ Some (actions.Compute computation) → growth_at (actions.Compute computation) state.roots ≤ top_room state.roots
  computed (computations.IntConstant number) does = one (actions.Compute (computations.IntConstant number)) does refl
  computed (computations.LongConstant number) does = one (actions.Compute (computations.LongConstant number)) does refl
  computed other does = omega arith

  shuffle_grows : (shuffle : Shuffle) → action_of insn ≡ Some (actions.Shuffle shuffle) → growth_at (actions.Shuffle shuffle) state.roots ≤ top_room state.roots
  shuffle_grows shuffle does =
      let within : ShufflesWithin frame shuffle = shuffles_fit machine state frame below insn shuffle fits sound.spelled sound.holds_on typed quiet frames there does in
      let low : growth shuffle frame.stack ≤ length within.stack - length frame.stack = grown shuffle frame.stack within.stack within.shuffled in
      let same : growth shuffle (top_stack state.roots) ≡ growth shuffle frame.stack = ap (λ frames. growth shuffle (on_top [] stack_in frames)) frames in
      omega (arith, within.room, low, same, room_is)

  grows : (action : Action) → action_of insn ≡ Some action → growth_at action state.roots ≤ top_room state.roots
  grows (actions.Compute computation) does = computed computation does
  grows actions.Null does = one actions.Null does refl
  grows (actions.Load sort local) does = one (actions.Load sort local) does refl
  grows (actions.Shuffle shuffle) does = shuffle_grows shuffle does
  grows other does = omega arith

  -- the answer of a return, for the method that waits
  returning : (sort : Sort) → action_of insn ≡ Some (actions.Return (Some sort)) → runs_method (left state.roots) ≡ true → 0 < top_room (left state.roots)
  returning sort does runs = go below refl where
    left_is : (others : List Frame) → below ≡ others → (left state.roots).frames ≡ others
    left_is others is = ap (λ frames. drop 1 frames) frames ∙ is

    go : (others : List Frame) → below ≡ others → 0 < top_room (left state.roots)
    go [] is = absurd (false≢true (sym (ap (on_top false is_method) (left_is [] is)) ∙ runs))
    go (Initialising class place ∷ others) is = absurd (false≢true (sym (ap (on_top false is_method) (left_is (Initialising class place ∷ others) is)) ∙ runs))
    go (OfMethod caller ∷ others) is =
        let slots : HasSlots machine.program caller 1 =
        returns_fit machine state frame caller others insn sort fits sound.spelled sound.holds_on typed quiet (frames ∙ ap (λ below. OfMethod frame ∷ below) is) there does in
        let same : top_room (left state.roots) ≡ room_in (OfMethod caller) = ap (on_top 0 room_in) (left_is (OfMethod caller ∷ others) is) in
        omega (arith, slots.room, same)

  pub has_room : HasRoom (decoded_as machine.program frame.method frame.pc insn) (view_of state)
  has_room = record {
    runs = ap (on_top false is_method) frames;
    grows = grows;
    lays = one;
    returns = returning;
  }
