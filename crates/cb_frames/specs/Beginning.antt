-- Roots at the beginning.
use Rattle.std.specs.Prelude.{pos, [], replicate}
use Rattle.cb_plain.specs.declared.class_state.ClassState.TheVariants as states
use Rattle.cb_plain.specs.declared.value.Value.TheVariants as values
use Rattle.cb_plain.specs.State.{Tables, small_chars, small_numbers}
use Rattle.cb_frames.specs.Limited.{Limited}
use Rattle.cb_frames.specs.declared.sizes.RootSizes.{RootSizes}

abbrev pub blank_tables : RootSizes → Tables
blank_tables sizes =
    record { constants = replicate sizes.constants 0; classes = replicate sizes.kinds 0; integers = replicate small_numbers 0; longs = replicate small_numbers 0; characters = replicate small_chars 0; booleans = replicate 2 0 }

-- no frame stands, every static field holds the int 0, and no class has begun to be initialised
abbrev pub beginning : RootSizes → Limited
beginning sizes =
    record { limit = sizes.frames; roots = record { frames = []; pending = 0; statics = replicate sizes.statics (values.Int (pos 0)); classes = replicate sizes.classes states.Untouched; tables = blank_tables sizes; argument = 0 } }
