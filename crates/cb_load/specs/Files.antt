-- Where the file of a class stands in a folder.
use Rattle.std.specs.Prelude.{◌≡◌, ℕ, Bool, true, false, List, ◌++◌, Option, Some, None, IfSome, codes, nat_eq, ◌==◌, ◌||◌, ◌&&◌, not, if◌then◌else◌}
use Rattle.std.specs.Char.Utf16.{utf16_chars}
use Rattle.std.specs.FinMap.{get}
use Rattle.std.specs.List.{list_all, list_any, starts_with}
use Rattle.cb_io.specs.Folder.{Files}
use Rattle.cb_io.specs.Utf8.{utf8}
use Rattle.cb_library.specs.CoreClasses.{core_classes}
use Rattle.cb_link.specs.Numbers.{same_name}

-- a name of the library's, which no folder has
abbrev pub is_core : List ℕ → Bool
is_core name = list_any (λ row. same_name name row.name) core_classes

abbrev pub is_under_java : List ℕ → Bool
is_under_java name = starts_with nat_eq name (codes "java/")

-- a name that is text without U+0000
abbrev pub is_paired : Option ℕ → Bool
is_paired None = false
is_paired (Some character) = true

abbrev pub is_text : List ℕ → Bool
is_text name = list_all (λ unit. not (unit == 0)) name && list_all is_paired (utf16_chars name)

-- the path of a class's file below a folder, as bytes of UTF-8, where the name may have one
abbrev pub path_of : List ℕ → List ℕ → Option (List ℕ)
path_of root name =
    if is_under_java name || not (is_text name) then None
    else Some (root ++ codes "/" ++ utf8 name ++ codes ".class")

-- the file of a class may have these bytes, or be missing. Where the folder tells its files, it is so; else it may be any
abbrev pub MayStandAt : Option Files → Option (List ℕ) → Option (List ℕ) → Type 0
MayStandAt files None file = file ≡ None
MayStandAt files (Some path) file = IfSome files (λ files. get files path ≡ file)
