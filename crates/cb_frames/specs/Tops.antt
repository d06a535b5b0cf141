-- The topmost frame: what there is of it, and roots with it changed, entered or left (JVMS §2.6).
use Rattle.std.specs.Prelude.{ℕ, ◌+◌, ◌-◌, Bool, true, false, List, [], ◌∷◌, Option, Some, None, drop, length, reverse, slice_set, take}
use Rattle.cb_plain.specs.declared.value.Value.{Value}
use Rattle.cb_plain.specs.declared.value.Value.TheVariants as values
use Rattle.cb_plain.specs.Depth.{frame_of}
use Rattle.cb_plain.specs.Roots.{with_frames}
use Rattle.cb_plain.specs.State.{Frame, Initialising, OfMethod, Roots}
use Rattle.cb_frames.specs.declared.frame.Frame.{Frame as Shown}
use Rattle.cb_frames.specs.declared.frame.Frame.TheVariants as shown

-- which frame is the topmost one
abbrev pub shown_frame : Frame → Shown
shown_frame (OfMethod frame) = shown.Running frame.method frame.pc
shown_frame (Initialising class place) = shown.Initialising class place

abbrev pub topmost : List Frame → Option Shown
topmost [] = None
topmost (frame ∷ below) = Some (shown_frame frame)

-- the local variables and the stack of the topmost one, and how many values more its stack has room for
abbrev pub locals_in : Frame → List Value
locals_in (OfMethod frame) = frame.locals
locals_in (Initialising class place) = []

abbrev pub stack_in : Frame → List Value
stack_in (OfMethod frame) = frame.stack
stack_in (Initialising class place) = []

abbrev pub room_in : Frame → ℕ
room_in (OfMethod frame) = frame.slots - (length frame.locals + length frame.stack)
room_in (Initialising class place) = 0

abbrev pub on_top : {Part : Type 0} → Part → (Frame → Part) → List Frame → Part
on_top none part [] = none
on_top none part (frame ∷ below) = part frame

abbrev pub top_locals : Roots → List Value
top_locals roots = on_top [] locals_in roots.frames

abbrev pub top_stack : Roots → List Value
top_stack roots = on_top [] stack_in roots.frames

abbrev pub top_room : Roots → ℕ
top_room roots = on_top 0 room_in roots.frames

-- whether a value is a long
abbrev pub is_long : Value → Bool
is_long (values.Long number) = true
is_long other = false

-- whether a method's frame is the topmost one
abbrev pub is_method : Frame → Bool
is_method (OfMethod frame) = true
is_method (Initialising class place) = false

abbrev pub runs_method : Roots → Bool
runs_method roots = on_top false is_method roots.frames

-- roots with the topmost frame changed
abbrev pub changed_in : (Frame → Frame) → List Frame → List Frame
changed_in change [] = []
changed_in change (frame ∷ below) = change frame ∷ below

abbrev pub with_top : Roots → (Frame → Frame) → Roots
with_top roots change = with_frames roots (changed_in change roots.frames)

abbrev pub at_place : ℕ → Frame → Frame
at_place place (OfMethod frame) =
    OfMethod (record { method = frame.method; pc = place; slots = frame.slots; locals = frame.locals; stack = frame.stack })
at_place place (Initialising class before) = Initialising class place

abbrev pub with_locals : (List Value → List Value) → Frame → Frame
with_locals change (OfMethod frame) =
    OfMethod (record { method = frame.method; pc = frame.pc; slots = frame.slots; locals = change frame.locals; stack = frame.stack })
with_locals change (Initialising class place) = Initialising class place

abbrev pub with_stack : (List Value → List Value) → Frame → Frame
with_stack change (OfMethod frame) =
    OfMethod (record { method = frame.method; pc = frame.pc; slots = frame.slots; locals = frame.locals; stack = change frame.stack })
with_stack change (Initialising class place) = Initialising class place

abbrev pub placed : Roots → ℕ → Roots
placed roots place = with_top roots (at_place place)

abbrev pub with_local : Roots → ℕ → Value → Roots
with_local roots local value = with_top roots (with_locals (λ locals. slice_set locals local value))

abbrev pub pushed : Roots → Value → Roots
pushed roots value = with_top roots (with_stack (λ stack. value ∷ stack))

abbrev pub without : Roots → ℕ → Roots
without roots count = with_top roots (with_stack (λ stack. drop count stack))

abbrev pub cleared : Roots → Roots
cleared roots = with_top roots (with_stack (λ stack. []))

-- so many topmost values of a stack are the arguments of a method, the first of them the lowest
abbrev pub arguments_of : Roots → ℕ → List Value
arguments_of roots count = reverse (take count (top_stack roots))

-- a method is entered with arguments from the topmost frame, which are taken from there; a class begins to be initialised; and the topmost
-- frame is left
abbrev pub entered : Roots → (method arguments locals stack : ℕ) → Roots
entered roots method arguments locals stack =
    with_frames roots (frame_of method locals stack (arguments_of roots arguments) ∷ (without roots arguments).frames)

abbrev pub entered_init : Roots → ℕ → Roots
entered_init roots class = with_frames roots (Initialising class 0 ∷ roots.frames)

abbrev pub left : Roots → Roots
left roots = with_frames roots (drop 1 roots.frames)
