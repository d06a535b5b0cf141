-- What contracts see of the objects in memory.
use Rattle.std.specs.Prelude.{ℕ, List, refl}
use Rattle.std.specs.Coded.{Coded, code_by, coded×}
use Rattle.cb_io.specs.Calls.{CallLog, calls_code}
use Rattle.cb_io.specs.Folder.{Files, files_code}

-- the files, and the calls that were made
pub record FolderInMemory : Type 0 where
  pub files : Files
  pub calls : CallLog

-- the code by which proofs tell two of them apart: the pair of the fields
abbrev pub folder_code : Coded FolderInMemory
folder_code = code_by (Files × CallLog) (coded× files_code calls_code) (λ folder. (folder.files, folder.calls)) (λ p. record { files = p.0; calls = p.1 }) (λ _. refl)

-- the bytes that are left, how many of them a call moves at most, and the calls that were made
pub record SourceInMemory : Type 0 where
  pub left : List ℕ
  pub most : ℕ
  pub calls : CallLog

-- the bytes that were taken, and the same
pub record SinkInMemory : Type 0 where
  pub taken : List ℕ
  pub most : ℕ
  pub calls : CallLog
