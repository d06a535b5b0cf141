-- The words of the errors.
use Rattle.std.specs.Prelude.{ℕ, List, codes}
use Rattle.cb_io.specs.declared.folder.FolderError.{FolderError}
use Rattle.cb_io.specs.declared.folder.FolderError.TheVariants.{Failed, OutOfMemory}

-- of a source or a sink
abbrev pub failed_text : List ℕ
failed_text = codes "an outside call failed"

-- of a folder
abbrev pub folder_error_text : FolderError → List ℕ
folder_error_text Failed = codes "the folder failed"
folder_error_text OutOfMemory = codes "out of memory"
