-- How many frames there may be, and the frame of a method that is entered (JVMS §2.5.2, §2.6).
use Rattle.std.specs.Prelude.{pos, ℕ, ◌+◌, ◌*◌, ◌-◌, Bool, List, [], ◌∷◌, ◌++◌, length, replicate, nat_le, nat_lt, ◌&&◌}
use Rattle.std.specs.List.{flat_map, fold}
use Rattle.cb_plain.specs.declared.value.Value.{Value}
use Rattle.cb_plain.specs.declared.value.Value.TheVariants.{Int, Long}
use Rattle.cb_plain.specs.State.{Frame, Initialising, OfMethod}

-- a method's frame takes slots for its local variables and its operand stack, that of an initialisation none
abbrev pub slots_in : Frame → ℕ
slots_in (OfMethod frame) = frame.slots
slots_in (Initialising class place) = 0

abbrev pub slots_taken : List Frame → ℕ
slots_taken frames = fold (λ sum frame. sum + slots_in frame) 0 frames

-- so many slots for each frame that there may be
abbrev pub slots_each : ℕ
slots_each = 64

-- whether a frame of so many slots has room upon these, where there may be so many frames
abbrev pub has_room : ℕ → List Frame → ℕ → Bool
has_room limit frames slots = nat_lt (length frames) limit && nat_le (slots_taken frames + slots) (slots_each * limit)

-- a value in the slots of local variables: a long takes two, of which the second holds the int 0
abbrev pub slots_of : Value → List Value
slots_of (Long number) = Long number ∷ Int (pos 0) ∷ []
slots_of other = other ∷ []

-- the local variables at the entry: the arguments in their slots, and else the int 0
abbrev filled : ℕ → List Value → List Value
filled count held = held ++ replicate (count - length held) (Int (pos 0))

abbrev pub locals_of : ℕ → List Value → List Value
locals_of count arguments = filled count (flat_map slots_of arguments)

-- the frame of a method with so many local variables and so many words of its stack, at its entry
abbrev pub frame_of : (method locals stack : ℕ) → List Value → Frame
frame_of method locals stack arguments =
    OfMethod (record { method = method; pc = 0; slots = locals + stack; locals = locals_of locals arguments; stack = [] })
