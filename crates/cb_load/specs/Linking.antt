-- Linking: the program of a main class, or the first reason in the order of looking why there is none.
use Rattle.std.specs.Prelude.{◌≡◌, ℕ, List, ◌++◌, Option}
use Rattle.cb_io.specs.Folder.{Files}
use Rattle.cb_classfile.specs.declared.class.ClassFile.{ClassFile}
use Rattle.cb_link.specs.declared.refusal.Refusal.{Refusal}
use Rattle.cb_link.specs.declared.refusal.Refusal.TheVariants.{FolderFault, OutOfMemory}
use Rattle.cb_link.specs.Judging.{IsNoProgram, IsProgram}
use Rattle.cb_link.specs.Program.{Linked, linked}
use Rattle.cb_load.specs.Loading.{AreLoaded, StopsFor}

-- the classes that a main class needs were loaded, they are a program with the library's, and this is it
pub record IsLinked (files : Option Files) (root : List ℕ) (library : List ClassFile) (main : List ℕ) (program : Linked) : Type 0 where
  pub classes : List ClassFile
  pub method : ℕ
  pub loaded : AreLoaded files root main classes
  pub good : IsProgram (library ++ classes) main method
  pub all : program ≡ linked (library ++ classes) main method

-- loading stops for this reason, or the classes were loaded and are no program for this reason
pub data IsHindered (files : Option Files) (root : List ℕ) (library : List ClassFile) (main : List ℕ) (refusal : Refusal) : Type 0 where
  InLoading : StopsFor files root main refusal → IsHindered files root library main refusal
  Behind : (classes : List ClassFile) → AreLoaded files root main classes → IsNoProgram (library ++ classes) main refusal
      → IsHindered files root library main refusal

-- what a refusal says: want of memory and a failed call of the folder are no fault of the classes
abbrev pub Hinders : Option Files → List ℕ → List ClassFile → List ℕ → Refusal → Type 0
Hinders files root library main OutOfMemory = Unit {0}
Hinders files root library main FolderFault = Unit {0}
Hinders files root library main refusal = IsHindered files root library main refusal
