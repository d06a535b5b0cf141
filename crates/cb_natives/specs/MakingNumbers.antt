-- Constructors of boxes, which set the one word of their own object (Java SE 8 API, java.lang.Integer, Long, Character and Boolean).
use Rattle.std.specs.Prelude.{◌≡◌, ℕ, ℤ, Bool, true, false, List, Option}
use Rattle.cb_heap.specs.Kept.{content_at, is_number}
use Rattle.cb_heap.specs.Reading.{serial_of}
use Rattle.cb_library.specs.declared.native.Native.{Native}
use Rattle.cb_library.specs.declared.native.Native.TheVariants as natives
use Rattle.cb_machine.specs.Builders.{sets_number}
use Rattle.cb_machine.specs.Machine.{Machine}
use Rattle.cb_machine.specs.Natives.{performed}
use Rattle.cb_machine.specs.Performing.{Call, Performed, on_object}
use Rattle.cb_plain.specs.State.{Object, State}
use Rattle.cb_plain.specs.declared.value.Value.{Value}
use Rattle.cb_natives.specs.declared.number_boxes.Setting.{Setting}

-- which they are
abbrev pub makes_number : Native → Bool
makes_number natives.IntegerNew = true
makes_number natives.LongNew = true
makes_number natives.CharacterNew = true
makes_number natives.BooleanNew = true
makes_number other = false

-- the word of a box that isn't null is a number from then on
abbrev pub sets_box : Call → ℕ → ℤ → Option Performed
sets_box call serial number = on_object call serial (sets_number call serial number)

-- a constructor sets the word of this box, which is null or has one that holds a number
pub record SetsBox (objects : List (Option Object)) (index : ℕ → ℕ) (native : Native) (arguments : List Value) (setting : Setting) : Type 0 where
  pub performs : (machine : Machine) (state : State)
      → performed machine state native arguments ≡ sets_box (record { machine = machine; state = state }) (serial_of index setting.at) setting.number
  pub there : (setting.at ≡ 0 → ⊥) → is_number (content_at objects (serial_of index setting.at) 0) ≡ true
