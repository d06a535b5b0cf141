-- Turns in which no instruction is done: what a typed state says of its topmost frame and of what is pending.
use Rattle.std.proofs.Common.{◌≡◌, ◌∙◌, ap, ap₂, refl, sym, subst, arith, ℕ, ◌+◌, ◌-◌, ◌<◌, ◌≤◌, true, false, List, [], ◌∷◌, length, map, zero, suc, Option, Some, None, option_and_then, option_map, slice_get, IsTrue}
use Rattle.std.proofs.lemmas.Bool.{false≢true}
use Rattle.std.proofs.lemmas.List.{length-map}
use Rattle.std.proofs.lemmas.Option.{option_and_then_some, slice_get_within}
use Rattle.std.specs.List.{find}
use Rattle.std.specs.Prelude.{is_some}
use Rattle.cb_classfile.specs.declared.handler.Handler.{Handler}
use Rattle.cb_frames.specs.Tops.{cleared, top_room, topmost}
use Rattle.cb_frames.specs.declared.frame.Frame.{Frame as Shown}
use Rattle.cb_frames.specs.declared.frame.Frame.TheVariants as shown
use Rattle.cb_heap.specs.Kept.{is_kept}
use Rattle.cb_heap.specs.Reading.{read_frame, read_value, seen, serial_of}
use Rattle.cb_link.specs.Named.{handlers_at}
use Rattle.cb_link.specs.Program.{Linked}
use Rattle.cb_link.specs.declared.linked.LinkedMethod.{LinkedMethod}
use Rattle.cb_machine.specs.Machine.{class_declaring}
use Rattle.cb_machine.specs.Runs.{outcome}
use Rattle.cb_machine.specs.Steps.{plan}
use Rattle.cb_machine.specs.Unwinding.{takes}
use Rattle.cb_machine.specs.declared.outcome.Outcome.TheVariants as outcomes
use Rattle.cb_plain.specs.State.{Frame, Initialising, MethodFrame, Object, OfMethod, Roots, State}
use Rattle.cb_safety.proofs.Laws.{catchers_fit, caught_fits, linked_sound, states_advance}
use Rattle.cb_safety.specs.Frames.{AreCovered, AreStanding}
use Rattle.cb_safety.specs.Kinds.{Kinds, kind_in, kinds_of}
use Rattle.cb_safety.specs.Linked.{IsLinked}
use Rattle.cb_safety.specs.Room.{MayCatch}
use Rattle.cb_safety.specs.Sound.{IsSound}
use Rattle.cb_safety.specs.States.{AreFrames, IsTypedState}
use Rattle.cb_unwind.specs.Initialised.{ClassBelow}
use Rattle.cb_unwind.specs.Unwound as passed
use Rattle.cb_verify.specs.Typed.{IsTyped}
use Rattle.cb_verify.specs.Within.{Within, method_at, of_class, within}
use Rattle.cb_act.specs.Turning.{Outside, machine_of, state_of}

-- ---- the pending exception

pub serial_some : (index : ℕ → ℕ) (place : ℕ) → 0 < place → 0 < serial_of index place
serial_some index zero some = absurd (omega (arith, some))
serial_some index (suc place) some = omega arith

pending_own : (program : Linked) (kinds : Kinds) (pending : ℕ) (frames : List Frame) → AreFrames program kinds pending frames → 0 < pending
    → (own : ℕ) × (kind_in kinds pending ≡ Some own)
pending_own program kinds pending frames (AreFrames.Running same standing) some = absurd (omega (arith, some))
pending_own program kinds pending frames (AreFrames.Unwinding serial same is covered) some = (is.own, is.there)

kept_kind : (objects : List (Option Object)) (serial own : ℕ) → kind_in (kinds_of objects) serial ≡ Some own → IsTrue (is_kept objects serial)
kept_kind objects zero own is = absurd (cc is)
kept_kind [] (suc place) own is = absurd (cc is)
kept_kind (None ∷ objects) (suc zero) own is = absurd (cc is)
kept_kind (Some object ∷ objects) (suc zero) own is = refl
kept_kind (entry ∷ objects) (suc (suc place)) own is = kept_kind objects (suc place) own is

-- ---- the topmost frame

within_low : (program : Linked) (number : ℕ) (method : Within) → within program number ≡ Some method → number < length program.methods
within_low program number method is =
    option_and_then_some (λ (linked : LinkedMethod). option_and_then (of_class program number linked.class) (method_at program number)) (slice_get program.methods number) method is
    (λ linked there own. slice_get_within program.methods number linked there)

standing_low : (program : Linked) (kinds : Kinds) (class place : ℕ) (below : List Frame) → AreStanding program kinds (Initialising class place ∷ below) → class < length program.classes
standing_low program kinds class place below (AreStanding.AnInitialisation own at others low standing) = low

covered_low : (program : Linked) (kinds : Kinds) (class place : ℕ) (below : List Frame) → AreCovered program kinds (Initialising class place ∷ below) → class < length program.classes
covered_low program kinds class place below (AreCovered.AnInitialisation own at others low standing) = low

initialising_low : (program : Linked) (kinds : Kinds) (pending class place : ℕ) (below : List Frame) → AreFrames program kinds pending (Initialising class place ∷ below)
    → class < length program.classes
initialising_low program kinds pending class place below (AreFrames.Running frames standing) = standing_low program kinds class place below standing
initialising_low program kinds pending class place below (AreFrames.Unwinding serial frames is covered) = covered_low program kinds class place below covered

-- the topmost of frames that stand
pub first_of : (shown : Shown) (frames : List Frame) → Some shown ≡ topmost frames → is_some (topmost frames) ≡ true
first_of shown frames is = ap is_some (sym is)

pub stands_first : (class place : ℕ) (frames : List Frame) → Some (shown.Initialising class place) ≡ topmost frames → 0 < length frames
stands_first class place [] is = absurd (cc is)
stands_first class place (frame ∷ below) is = omega arith

module _ (program : Linked) (index : ℕ → ℕ) (objects : List (Option Object)) (held : Roots) (outside : Outside) where
  abbrev state : State
  state = state_of (seen index objects held) outside

  abbrev read_method : MethodFrame → MethodFrame
  read_method frame =
      record { method = frame.method; pc = frame.pc; slots = frame.slots; locals = map (read_value index) frame.locals; stack = map (read_value index) frame.stack }

  frames_read : (frame : Frame) (below : List Frame) → held.frames ≡ frame ∷ below → state.roots.frames ≡ read_frame index frame ∷ map (read_frame index) below
  frames_read frame below is = ap (map (read_frame index)) is

  -- a run goes on where one stands
  pub runs_on : is_some (topmost held.frames) ≡ true → outcome state ≡ outcomes.Running
  runs_on stands = go held.frames refl where
    go : (frames : List Frame) → held.frames ≡ frames → outcome state ≡ outcomes.Running
    go [] is = let none : is_some (topmost held.frames) ≡ false = rw is refl in absurd (false≢true (sym none ∙ stands))
    go (frame ∷ below) is = rw is refl

  module _ (typed : IsTypedState program state) where
    pub class_below : ClassBelow (length program.classes) held
    class_below class place top = go held.frames refl where
      go : (frames : List Frame) → held.frames ≡ frames → class < length program.classes
      go [] is = absurd (cc (top ∙ ap topmost is))
      go (OfMethod frame ∷ below) is = absurd (cc (top ∙ ap topmost is))
      go (Initialising own at ∷ below) is =
          let same : Some (shown.Initialising class place) ≡ Some (shown.Initialising own at) = top ∙ ap topmost is in
          let one : own ≡ class = cc same in
          subst (λ (class : ℕ). class < length program.classes) one
          (initialising_low program (kinds_of objects) state.roots.pending own at (map (read_frame index) below)
          (subst (λ (frames : List Frame). AreFrames program (kinds_of objects) state.roots.pending frames) (frames_read (Initialising own at) below is) typed.roots.frames))

    pub class_held : ClassBelow (length held.classes) held
    class_held class place top = omega (arith, class_below class place top, typed.roots.classes)

    pub classes_fit : length program.classes ≤ length held.classes
    classes_fit = omega (arith, typed.roots.classes)

    pub pending_there : 0 < held.pending → IsTrue (is_kept objects (serial_of index held.pending))
    pending_there some =
        let (own, is) = pending_own program (kinds_of objects) state.roots.pending state.roots.frames typed.roots.frames (serial_some index held.pending some) in
        kept_kind objects (serial_of index held.pending) own is

    pub pending_kind : passed.HasPendingKind program (seen index objects held)
    pending_kind object is = (typed.heap.each (serial_of index held.pending) object is).kind

    module _ (linked : IsLinked program) (fits : IsTyped program) where
      sound : IsSound program
      sound = linked_sound program linked fits

      pub method_below : passed.MethodBelow (length program.methods) held
      method_below method pc top = go held.frames refl where
        go : (frames : List Frame) → held.frames ≡ frames → method < length program.methods
        go [] is = absurd (cc (top ∙ ap topmost is))
        go (Initialising class place ∷ below) is = absurd (cc (top ∙ ap topmost is))
        go (OfMethod frame ∷ below) is =
            let same : Some (shown.Running method pc) ≡ Some (shown.Running frame.method frame.pc) = top ∙ ap topmost is in
            let one : frame.method ≡ method = cc same in
            let catches : MayCatch program (read_method frame) =
            catchers_fit program state (read_method frame) (map (read_frame index) below) fits sound.spelled typed (frames_read (OfMethod frame) below is) in
            subst (λ (method : ℕ). method < length program.methods) one (within_low program frame.method catches.method catches.within)

      caught_at : (frame : MethodFrame) (below : List Frame) → held.frames ≡ OfMethod frame ∷ below → (kind place : ℕ)
          → passed.handler_for program frame.method frame.pc kind ≡ Some place → 0 < top_room (cleared held)
      caught_at frame below is kind place handled = go (find (takes program (class_declaring program frame.method) frame.pc kind) (handlers_at program frame.method)) refl handled where
        go : (found : Option Handler) → find (takes program (class_declaring program frame.method) frame.pc kind) (handlers_at program frame.method) ≡ found
            → option_map (λ (handler : Handler). handler.handler) found ≡ Some place → 0 < top_room (cleared held)
        go None found none = absurd (cc none)
        go (Some handler) found some =
            let room : top_room (cleared held) ≡ frame.slots - (length frame.locals + 0) = rw is refl in
            let fit : length (map (read_value index) frame.locals) + 1 ≤ frame.slots =
            caught_fits program state (read_method frame) (map (read_frame index) below) (class_declaring program frame.method) kind handler fits sound.spelled typed
            (frames_read (OfMethod frame) below is) found in
            omega (arith, room, fit, length-map frame.locals (read_value index))

      pub may_catch : passed.MayCatch program held
      may_catch method pc kind place top handled = go held.frames refl where
        go : (frames : List Frame) → held.frames ≡ frames → 0 < top_room (cleared held)
        go [] is = absurd (cc (top ∙ ap topmost is))
        go (Initialising class at ∷ below) is = absurd (cc (top ∙ ap topmost is))
        go (OfMethod frame ∷ below) is =
            let same : Some (shown.Running method pc) ≡ Some (shown.Running frame.method frame.pc) = top ∙ ap topmost is in
            let one : frame.method ≡ method = cc same in
            let other : frame.pc ≡ pc = cc same in
            caught_at frame below is kind place (ap₂ (λ (method pc : ℕ). passed.handler_for program method pc kind) one other ∙ handled)

      pub steps_on : (limit : ℕ) → is_some (topmost held.frames) ≡ true → is_some (plan (machine_of program limit) state) ≡ true
      steps_on limit stands = ap is_some (states_advance (machine_of program limit) state linked fits typed (runs_on stands)).is
