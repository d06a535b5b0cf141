-- A program that loading and linking make of the library's classes and others (JVMS §5.3, §5.4).
use Rattle.std.specs.Prelude.{◌≡◌, ℕ, ◌+◌, ◌≤◌, ◌++◌, List, length}
use Rattle.std.specs.List.{AllByRecursion}
use Rattle.cb_classfile.specs.Class.{IsWellFormed}
use Rattle.cb_classfile.specs.Library.{AreLibrary}
use Rattle.cb_classfile.specs.declared.class.ClassFile.{ClassFile}
use Rattle.cb_link.specs.Judging.{IsProgram, class_limit}
use Rattle.cb_link.specs.Numbers.{library_size}
use Rattle.cb_link.specs.Program.{Linked, linked}
use Rattle.cb_safety.specs.ClassNames.{HaveSuperclasses, NamedOnce}
use Rattle.cb_safety.specs.Loaded.{HaveNamed, IsShort, IsSupported}

-- the library's classes stand in front, and the others were loaded: each is well formed, has a name of its own, and its superclass is
-- there. They are a program, and this is it. Of those that were loaded nothing is left out, each has a short file, and they are few; and the
-- classes that instructions name are there
pub record IsLinked (program : Linked) : Type 0 where
  pub library : List ClassFile
  pub more : List ClassFile
  pub main : List ℕ
  pub method : ℕ
  pub is_library : AreLibrary library
  pub well_formed : AllByRecursion IsWellFormed more
  pub library_formed : AllByRecursion IsWellFormed library
  pub supported : AllByRecursion IsSupported more
  pub short : AllByRecursion IsShort more
  pub few : library_size + length more ≤ class_limit
  pub once : NamedOnce (library ++ more)
  pub above : HaveSuperclasses (library ++ more)
  pub named : HaveNamed (library ++ more)
  pub good : IsProgram (library ++ more) main method
  pub all : program ≡ linked (library ++ more) main method
