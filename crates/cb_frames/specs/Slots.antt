-- Values as they lie in slots.
use Rattle.std.specs.Prelude.{ℕ, ◌^◌, ◌%◌, List, [], ◌∷◌}
use Rattle.std.specs.Int.{cast_signed, w32, w64}
use Rattle.cb_plain.specs.declared.value.Value.{Value}
use Rattle.cb_plain.specs.declared.value.Value.TheVariants as values
use Rattle.cb_frames.specs.declared.slot.Kind.{Kind}
use Rattle.cb_frames.specs.declared.slot.Kind.TheVariants as kinds
use Rattle.cb_frames.specs.declared.slot.Slot.{Slot}

-- the value of a kind that a word holds: an int in its lower 32 bits, a long in all of them, a reference as its place
abbrev pub value_in : Kind → ℕ → Value
value_in kinds.Int word = values.Int (cast_signed w32 (word % 2 ^ 32))
value_in kinds.Long word = values.Long (cast_signed w64 word)
value_in kinds.Ref word = values.Ref word

abbrev pub value_of : Slot → Value
value_of slot = value_in slot.kind slot.word

-- the slot that holds the int 0
abbrev pub blank_slot : Slot
blank_slot = record { kind = kinds.Int; word = 0 }

-- slots by their kinds and their words
abbrev pub slots_with : List Kind → List ℕ → List Slot
slots_with [] words = []
slots_with (kind ∷ kinds) [] = []
slots_with (kind ∷ kinds) (word ∷ words) = record { kind = kind; word = word } ∷ slots_with kinds words
