-- What the objects that a call is handed tell of themselves.
use Rattle.std.specs.Prelude.{ℕ, List, Option}
use Rattle.cb_io.specs.Folder.{Files}

-- what they hold, where they tell it: the files of the folder, the input itself, and what the outputs took
pub record Content (In : Type 0) : Type 0 where
  pub files : Option Files
  pub input : In
  pub out : Option (List ℕ)
  pub err : Option (List ℕ)

-- how often a call of each has failed
pub record Failures : Type 0 where
  pub folder : ℕ
  pub input : ℕ
  pub out : ℕ
  pub err : ℕ
