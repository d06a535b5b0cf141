-- What a file comes to.
use Rattle.std.proofs.Common.{◌≡◌, ℕ, ◌+◌, ◌<◌, ◌≤◌, Bool, true, false, ◌||◌, List, length, Option, None, Some, IfSome, refl, sym, subst, ap, ◌∙◌, arith, replicate}
use Rattle.std.specs.Prelude.{Vec}
use Rattle.std.specs.FinMap.{get}
use Rattle.std.specs.List.{list_any}
use Rattle.std.specs.declared.alloc.Global.{Global}
use Rattle.std.proofs.lemmas.List.{length-replicate}
use Rattle.std.proofs.lemmas.Slice.Eq.{bytes_eq-Decides}
use Rattle.cb_io.specs.Folder.{Files, Finds, FindsAt, IsWithin}
use Rattle.cb_io.specs.declared.folder.Found.{Found}
use Rattle.cb_io.specs.declared.folder.Found.TheVariants.{Bytes, Absent, TooLong}
use Rattle.cb_classfile.specs.declared.class.ClassFile.{ClassFile}
use Rattle.cb_link.specs.declared.refusal.Refusal.{Refusal}
use Rattle.cb_link.specs.declared.refusal.Refusal.TheVariants.{MissingClass, TooLarge, Malformed, BadVersion, Unsupported, OutOfMemory}
use Rattle.cb_link.specs.declared.refusal.Quantity.TheVariants.{ClassFileBytes, Classes}
use Rattle.cb_link.specs.Numbers.{same_name}
use Rattle.cb_link.specs.Judging.{class_limit}
use Rattle.cb_load.specs.Names.{Entry}
use Rattle.cb_load.specs.Closure.{Turn}
use Rattle.cb_load.specs.Files.{MayStandAt, path_of}
use Rattle.cb_load.specs.Loading.{HasRoom, IsClassOf, IsRefused, IsMissing, IsLong, AreMany, IsOfVersion, IsNoClass, IsLeftOut, IsRead, Loads, StaysOpaque, file_limit, is_loaded}
use Rattle.cb_load.specs.InnerTurns.{AreAbsent, IsFound, IsNoClassOf, StopsAt}

-- a list can be that long
longer : (limit : ℕ) → (bytes : List ℕ) × (limit < length bytes)
longer limit = let same = length-replicate {A = ℕ} (limit + 1) 0 in (replicate (limit + 1) 0, omega (arith, same))

-- what a folder may have where it doesn't tell its files
some_file : (found : Found) → IsWithin file_limit found → (file : Option (List ℕ)) × FindsAt file file_limit found
some_file (Bytes bytes) within = (Some bytes.items, (refl, within))
some_file Absent within = (None, refl)
some_file TooLong within = let (bytes, long) = longer file_limit in (Some bytes, long)

-- what a folder has at a path is found
pub found_there : (files : Option Files) (root name path : List ℕ) (found : Found) → path_of root name ≡ Some path → IfSome files (λ told. Finds told path file_limit found) → IsWithin file_limit found → IsFound files root name found
found_there None root name path found is told within =
    let (file, finds) = some_file found within in
    (file, subst (λ at. MayStandAt None at file) (sym is) tt, finds)
found_there (Some files) root name path found is told within = (get files path, subst (λ at. MayStandAt (Some files) at (get files path)) (sym is) refl, told)

-- without a path there is none
pub found_nowhere : (files : Option Files) (root name : List ℕ) → path_of root name ≡ None → IsFound files root name Absent
found_nowhere files root name is = (None, subst (λ at. MayStandAt files at None) (sym is) refl, refl)

pub found_absent : (files : Option Files) (root name : List ℕ) → MayStandAt files (path_of root name) None → IsFound files root name Absent
found_absent files root name may = (None, may, refl)

-- one name more has no file
pub more_absent : (files : Option Files) (root : List ℕ) (names more : List (List ℕ)) (name : List ℕ) → AreAbsent files root names → MayStandAt files (path_of root name) None
    → ((other : List ℕ) → list_any (same_name other) more ≡ (same_name other name || list_any (same_name other) names)) → AreAbsent files root more
more_absent files root names more name lacking may known other has = go (same_name other name) refl where
  go : (test : Bool) → same_name other name ≡ test → MayStandAt files (path_of root other) None
  go true is = subst (λ name. MayStandAt files (path_of root name) None) (sym ((bytes_eq-Decides other name).0 is)) may
  go false is = lacking other (sym (known other ∙ ap (λ (test : Bool). test || list_any (same_name other) names) is) ∙ has)

absent : (files : Option Files) (root name : List ℕ) → IsFound files root name Absent → MayStandAt files (path_of root name) None
absent files root name (file, may, finds) = subst (MayStandAt files (path_of root name)) finds may

present : (files : Option Files) (root name : List ℕ) (bytes : Vec ℕ Global) → IsFound files root name (Bytes bytes) → MayStandAt files (path_of root name) (Some bytes.items)
present files root name bytes (file, may, finds) = subst (MayStandAt files (path_of root name)) finds.0 may

-- an entry without a file isn't loaded, and is refused where it is needed
pub opaque_entry : (files : Option Files) (root : List ℕ) (before : List (Turn ClassFile)) (entry : Entry) (found : Found) → IsFound files root entry.name found → found ≡ Absent → entry.needed ≡ false → is_loaded before entry.name ≡ false → Loads files root before entry None
opaque_entry files root before entry found finds is unneeded fresh = StaysOpaque fresh (absent files root entry.name (subst (IsFound files root entry.name) is finds)) unneeded

pub missing_entry : (files : Option Files) (root : List ℕ) (before : List (Turn ClassFile)) (entry : Entry) (found : Found) (name : List ℕ) → IsFound files root entry.name found → found ≡ Absent → entry.needed ≡ true → is_loaded before entry.name ≡ false → name ≡ entry.name → StopsAt files root before entry (MissingClass name)
missing_entry files root before entry found name finds is needed fresh same =
    subst (λ name. IsRefused files root before entry (MissingClass name)) (sym same) (IsMissing fresh (absent files root entry.name (subst (IsFound files root entry.name) is finds)) needed)

-- one with a file that is too long is refused
long_file : (files : Option Files) (root : List ℕ) (before : List (Turn ClassFile)) (entry : Entry) → IsFound files root entry.name TooLong → is_loaded before entry.name ≡ false → IsRefused files root before entry (TooLarge ClassFileBytes (file_limit + 1) file_limit)
long_file files root before entry (None, may, finds) fresh = absurd finds
long_file files root before entry (Some bytes, may, finds) fresh = IsLong bytes fresh may finds

pub long_entry : (files : Option Files) (root : List ℕ) (before : List (Turn ClassFile)) (entry : Entry) (found : Found) (refusal : Refusal) → IsFound files root entry.name found → found ≡ TooLong → is_loaded before entry.name ≡ false → refusal ≡ TooLarge ClassFileBytes (file_limit + 1) file_limit → StopsAt files root before entry refusal
long_entry files root before entry found refusal finds is fresh same =
    subst (StopsAt files root before entry) (sym same) (long_file files root before entry (subst (IsFound files root entry.name) is finds) fresh)

-- one for whose class there is no room is refused
pub crowded_entry : (files : Option Files) (root : List ℕ) (before : List (Turn ClassFile)) (entry : Entry) (found : Found) (bytes : Vec ℕ Global) (refusal : Refusal) → IsFound files root entry.name found → found ≡ Bytes bytes → is_loaded before entry.name ≡ false → ¬ HasRoom before → refusal ≡ TooLarge Classes (class_limit + 1) class_limit → StopsAt files root before entry refusal
crowded_entry files root before entry found bytes refusal finds is fresh full same =
    let there = subst (IsFound files root entry.name) is finds in
    subst (StopsAt files root before entry) (sym same) (AreMany bytes.items fresh (present files root entry.name bytes there) there.2.1 full)

-- the class of a file is loaded
pub read_entry : (files : Option Files) (root : List ℕ) (before : List (Turn ClassFile)) (entry : Entry) (found : Found) (bytes : Vec ℕ Global) (class : ClassFile) → IsFound files root entry.name found → found ≡ Bytes bytes → is_loaded before entry.name ≡ false → HasRoom before → IsClassOf entry.name bytes.items class → Loads files root before entry (Some class)
read_entry files root before entry found bytes class finds is fresh room of =
    IsRead bytes.items class fresh (present files root entry.name bytes (subst (IsFound files root entry.name) is finds)) room of

-- bytes that are no class of the name are refused
no_class : (files : Option Files) (root : List ℕ) (before : List (Turn ClassFile)) (entry : Entry) (bytes : List ℕ) (refusal : Refusal) → MayStandAt files (path_of root entry.name) (Some bytes) → length bytes ≤ file_limit → is_loaded before entry.name ≡ false → HasRoom before → IsNoClassOf entry.name bytes refusal → StopsAt files root before entry refusal
no_class files root before entry bytes (BadVersion class major) may short fresh room (is, version, refused) =
    subst (λ class. IsRefused files root before entry (BadVersion class major)) (sym is) (IsOfVersion bytes major fresh may short room version refused)
no_class files root before entry bytes (Malformed class) may short fresh room (is, accepted, none) =
    subst (λ class. IsRefused files root before entry (Malformed class)) (sym is) (IsNoClass bytes fresh may short room accepted none)
no_class files root before entry bytes (Unsupported class item) may short fresh room (is, (read, accepted, named, left_out)) =
    subst (λ class. IsRefused files root before entry (Unsupported class item)) (sym is) (IsLeftOut bytes read item fresh may short room accepted named left_out)
no_class files root before entry bytes OutOfMemory may short fresh room none = tt
no_class files root before entry bytes refusal may short fresh room none = absurd none

pub no_class_entry : (files : Option Files) (root : List ℕ) (before : List (Turn ClassFile)) (entry : Entry) (found : Found) (bytes : Vec ℕ Global) (read : List ℕ) (refusal : Refusal) → IsFound files root entry.name found → found ≡ Bytes bytes → is_loaded before entry.name ≡ false → HasRoom before → read ≡ bytes.items → IsNoClassOf entry.name read refusal → StopsAt files root before entry refusal
no_class_entry files root before entry found bytes read refusal finds is fresh room same none =
    let there = subst (IsFound files root entry.name) is finds in
    no_class files root before entry bytes.items refusal (present files root entry.name bytes there) there.2.1 fresh room (subst (λ read. IsNoClassOf entry.name read refusal) same none)
