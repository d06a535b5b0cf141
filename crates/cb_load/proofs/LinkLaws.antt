-- What linking adds to loading.
use Rattle.std.proofs.Common.{◌≡◌, ◌≤◌, ◌++◌, List, ℕ, Option, length, arith}
use Rattle.std.proofs.lemmas.Slice.Zip.{AllZip-long}
use Rattle.cb_io.specs.Folder.{Files}
use Rattle.cb_library.specs.CoreClasses.{core_classes}
use Rattle.cb_classfile.specs.declared.class.ClassFile.{ClassFile}
use Rattle.cb_classfile.specs.Library.{AreLibrary, IsRecordOf}
use Rattle.cb_link.specs.declared.refusal.Refusal.{Refusal}
use Rattle.cb_link.specs.declared.refusal.Refusal.TheVariants as refusals
use Rattle.cb_link.specs.Judging.{HindersProgram}
use Rattle.cb_load.specs.Linking.{Hinders, Behind}
use Rattle.cb_load.specs.Loading.{AreLoaded}

-- the library's classes are few
pub few_of_library : (library : List ClassFile) → AreLibrary library → length library ≤ 1024
few_of_library library given = let counted : length library ≡ 50 = AllZip-long IsRecordOf core_classes library given in omega (arith, counted)

-- why classes that were loaded are no program is why linking stops
pub hindered : (files : Option Files) (root : List ℕ) (library : List ClassFile) (main : List ℕ) (classes : List ClassFile) → AreLoaded files root main classes
    → (refusal : Refusal) → HindersProgram (library ++ classes) main refusal → Hinders files root library main refusal
hindered files root library main classes are (refusals.MissingClass name) told = Behind classes are told
hindered files root library main classes are (refusals.TooLarge what count limit) told = Behind classes are told
hindered files root library main classes are (refusals.Malformed class) told = Behind classes are told
hindered files root library main classes are (refusals.BadVersion class major) told = Behind classes are told
hindered files root library main classes are (refusals.Unsupported class item) told = Behind classes are told
hindered files root library main classes are (refusals.BadHierarchy class) told = Behind classes are told
hindered files root library main classes are (refusals.MissingMember class member) told = Behind classes are told
hindered files root library main classes are (refusals.NoMain class) told = Behind classes are told
hindered files root library main classes are refusals.FolderFault told = absurd told
hindered files root library main classes are refusals.OutOfMemory told = told
