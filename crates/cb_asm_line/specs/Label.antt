-- Labels.
use Rattle.std.specs.Prelude.{ℕ, List}

-- a label, by the digits of its number
abbrev pub Label : Type 0
Label = List ℕ
