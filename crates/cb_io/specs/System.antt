-- How answers of the system are read.
use Rattle.std.specs.Prelude.{◌≡◌, ◌↔◌, Bool, true, false, Result, Ok, Err, IsTrue, if◌then◌else◌}
use Rattle.std.specs.Fs.{IsFile, file_type}
use Rattle.std.specs.IoError.{error_kind}
use Rattle.std.specs.declared.fs.Metadata.{Metadata}
use Rattle.std.specs.declared.io.Error.{Error}
use Rattle.std.specs.declared.io.ErrorKind.{ErrorKind}
use Rattle.std.specs.declared.io.ErrorKind.TheVariants as kind
use Rattle.cb_io.specs.declared.folder.FolderError.{FolderError}
use Rattle.cb_io.specs.declared.folder.FolderError.TheVariants as folder

-- looking at a path fails so where no file is: nothing is there, a part of the path is no folder, or the path is
-- longer than the system takes
abbrev pub means_absent : ErrorKind → Bool
means_absent kind.NotFound = true
means_absent kind.NotADirectory = true
means_absent kind.InvalidFilename = true
means_absent _ = false

-- what was seen at a path says whether a plain file stands there. Any other error stays one
abbrev pub SeesPlainFile : Result Metadata Error → Result Bool Error → Type 0
SeesPlainFile (Ok metadata) (Ok is_plain) = IsTrue is_plain ↔ IsFile (file_type metadata)
SeesPlainFile (Ok metadata) (Err error) = ⊥
SeesPlainFile (Err error) answer = answer ≡ (if means_absent (error_kind error) then Ok false else Err error)

-- an error is want of memory, or else a fault
abbrev pub folder_error : ErrorKind → FolderError
folder_error kind.OutOfMemory = folder.OutOfMemory
folder_error _ = folder.Failed
