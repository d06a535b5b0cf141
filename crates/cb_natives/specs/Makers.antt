-- The natives that place objects or change them, as far as they are done here.
use Rattle.std.specs.Prelude.{Bool, ◌||◌}
use Rattle.cb_library.specs.declared.native.Native.{Native}
use Rattle.cb_natives.specs.MakingArrays.{makes_array}
use Rattle.cb_natives.specs.MakingKept.{makes_kept}
use Rattle.cb_natives.specs.MakingNumbers.{makes_number}
use Rattle.cb_natives.specs.MakingOwn.{makes_own}
use Rattle.cb_natives.specs.MakingTexts.{makes_text}

-- those that look at objects alone: they give a new String or a copy, or set the text, a number or an array of their own object
abbrev pub makes_beside : Native → Bool
makes_beside native = makes_text native || makes_own native || makes_number native || makes_array native

-- and with them those that give an object of a table of the roots
abbrev pub makes : Native → Bool
makes native = makes_beside native || makes_kept native
