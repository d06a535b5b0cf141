-- What is done of an instruction that changes the topmost frame alone.
use Rattle.std.proofs.Common.{◌≡◌, ◌∙◌, ap, refl, sym, ℕ, ◌+◌, ◌-◌, Bool, true, false, List, [], ◌∷◌, length, map, Option, Some, None}
use Rattle.std.proofs.lemmas.List.{length-map}
use Rattle.std.proofs.lemmas.Option.{slice_get-map}
use Rattle.std.specs.Prelude.{is_some, option_map, slice_get}
use Rattle.cb_frames.specs.Tops.{on_top, placed, room_in, top_room, top_stack}
use Rattle.cb_heap.proofs.Laws.{reads_placed, reads_stack}
use Rattle.cb_kinds.specs.declared.basic.Basic.{Basic}
use Rattle.cb_link.specs.Program.{Linked}
use Rattle.cb_link.specs.Slots.{static_basic}
use Rattle.cb_link.specs.declared.named.Named.TheVariants as meanings
use Rattle.cb_plain.specs.declared.class_state.ClassState.{ClassState}
use Rattle.cb_heap.specs.Reading.{read_frame, read_roots, read_value, seen}
use Rattle.cb_link.specs.declared.decoded.Decoded.{Decoded}
use Rattle.cb_machine.specs.Machine.{or_zero}
use Rattle.cb_plain.specs.State.{Frame, Initialising, Object, OfMethod, Roots}
use Rattle.cb_plain.specs.declared.value.Value.{Value}
use Rattle.cb_plain.specs.declared.value.Value.TheVariants as values
use Rattle.cb_shapes.specs.declared.action.Action.{Action}
use Rattle.cb_shapes.specs.declared.action.Action.TheVariants as actions
use Rattle.cb_shapes.specs.declared.shuffle.Shuffle.{Shuffle}
use Rattle.cb_shapes.specs.declared.shuffle.Shuffle.TheVariants as shuffles
use Rattle.cb_act.specs.Acting.{Does, computed_deed, frame_deed, need_of, of_frame, on_static, put_deed}
use Rattle.cb_act.specs.Effects.{growth, is_long}
use Rattle.cb_act.specs.Framing.{frame_left, growth_at, is_plain, left_as, read_left}
use Rattle.cb_act.specs.Going.{behind_put_static}
use Rattle.cb_act.proofs.FrameLeft.{left_read}
use Rattle.cb_act.proofs.ReadGoing.{put_static_read}

some_mapped : {A B : Type 0} (f : A → B) (some : Option A) → is_some (option_map f some) ≡ is_some some
some_mapped f None = refl
some_mapped f (Some a) = refl

pub frame_there : (index : ℕ → ℕ) (objects : List (Option Object)) (held : Roots) (decoded : Decoded) (action : Action) → is_plain action ≡ true
    → is_some (frame_deed decoded (seen index objects held) action) ≡ true → is_some (frame_left action (or_zero decoded.next) (or_zero decoded.target) held) ≡ true
frame_there index objects held decoded action plain is =
    sym (some_mapped (read_left index) (frame_left action (or_zero decoded.next) (or_zero decoded.target) held))
    ∙ ap is_some (sym (left_read index held action (or_zero decoded.next) (or_zero decoded.target) plain))
    ∙ sym (some_mapped (of_frame (seen index objects held)) (frame_left action (or_zero decoded.next) (or_zero decoded.target) (read_roots index held)))
    ∙ is

pub frame_done : (index : ℕ → ℕ) (objects : List (Option Object)) (held left : Roots) (decoded : Decoded) (action : Action) (is : Bool) → is_plain action ≡ true
    → frame_left action (or_zero decoded.next) (or_zero decoded.target) held ≡ Some (left_as is left)
    → frame_deed decoded (seen index objects held) action ≡ Some (computed_deed is (seen index objects left))
frame_done index objects held left decoded action is plain so =
    ap (option_map (of_frame (seen index objects held))) (left_read index held action (or_zero decoded.next) (or_zero decoded.target) plain ∙ ap (option_map (read_left index)) so)
    ∙ go is where
      go : (is : Bool) → option_map (of_frame (seen index objects held)) (option_map (read_left index) (Some (left_as is left))) ≡ Some (computed_deed is (seen index objects left))
      go true = refl
      go false = refl

-- how much the stack may grow is said of what is read too
long_read : (index : ℕ → ℕ) (found : Option Value) → is_long (option_map (read_value index) found) ≡ is_long found
long_read index None = refl
long_read index (Some (values.Int number)) = refl
long_read index (Some (values.Long number)) = refl
long_read index (Some (values.Ref place)) = refl

first_read : (index : ℕ → ℕ) (held : Roots) → is_long (slice_get (top_stack (read_roots index held)) 0) ≡ is_long (slice_get (top_stack held) 0)
first_read index held =
    ap (λ stack. is_long (slice_get stack 0)) (reads_stack index held)
    ∙ ap is_long (slice_get-map (read_value index) (top_stack held) 0) ∙ long_read index (slice_get (top_stack held) 0)

shuffle_read : (index : ℕ → ℕ) (held : Roots) (shuffle : Shuffle) → growth shuffle (top_stack (read_roots index held)) ≡ growth shuffle (top_stack held)
shuffle_read index held shuffles.Pop = refl
shuffle_read index held shuffles.Pop2 = refl
shuffle_read index held shuffles.Swap = refl
shuffle_read index held shuffles.Dup = refl
shuffle_read index held shuffles.DupX1 = refl
shuffle_read index held shuffles.DupX2 = refl
shuffle_read index held shuffles.Dup2 = rw (first_read index held) refl
shuffle_read index held shuffles.Dup2X1 = rw (first_read index held) refl
shuffle_read index held shuffles.Dup2X2 = rw (first_read index held) refl

pub growth_read : (index : ℕ → ℕ) (held : Roots) (action : Action) → growth_at action (read_roots index held) ≡ growth_at action held
growth_read index held (actions.Shuffle shuffle) = shuffle_read index held shuffle
growth_read index held (actions.Compute computation) = refl
growth_read index held other = refl

-- putstatic, of a class that may be used
pub put_done : (index : ℕ → ℕ) (objects : List (Option Object)) (held left : Roots) (program : Linked) (decoded : Decoded) (class slot pc : ℕ) (own : ClassState) (basic : Basic)
    → decoded.named ≡ meanings.Static class slot → slice_get held.classes class ≡ Some own → need_of class own ≡ None → static_basic program slot ≡ Some basic
    → decoded.next ≡ Some pc → behind_put_static slot basic held ≡ Some left
    → on_static (put_deed program decoded (seen index objects held)) decoded.named ≡ Some (Does (seen index objects (placed left pc)))
put_done index objects held left program decoded class slot pc own basic names at ready typed next puts =
    let read : behind_put_static slot basic (read_roots index held) ≡ Some (read_roots index left) = put_static_read index held slot basic ∙ ap (option_map (read_roots index)) puts in
    rw (names, at, ready, typed, next, read) (ap (λ roots. Some (Does (record { roots = roots; objects = objects }))) (sym (reads_placed index left pc)))

pub ready_so : (class : ℕ) (found : Option ClassState) → option_map (need_of class) found ≡ Some None → (own : ClassState) × (found ≡ Some own) × (need_of class own ≡ None)
ready_so class None is = absurd (cc is)
ready_so class (Some own) is = (own, refl, cc is)

-- and how much room there is
pub room_read : (index : ℕ → ℕ) (held : Roots) → top_room (read_roots index held) ≡ top_room held
room_read index held = go held.frames where
  go : (frames : List Frame) → on_top 0 room_in (map (read_frame index) frames) ≡ on_top 0 room_in frames
  go [] = refl
  go (Initialising class place ∷ below) = refl
  go (OfMethod frame ∷ below) =
      ap (λ locals. frame.slots - (locals + length (map (read_value index) frame.stack))) (length-map frame.locals (read_value index))
      ∙ ap (λ stack. frame.slots - (length frame.locals + stack)) (length-map frame.stack (read_value index))
