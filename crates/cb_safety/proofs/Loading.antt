-- What loading and linking ensure is all that is asked of a linked program.
use Rattle.std.proofs.Common.{ℕ, List, Option}
use Rattle.std.specs.List.{AllByRecursion}
use Rattle.cb_classfile.specs.Class.{IsWellFormed}
use Rattle.cb_classfile.specs.Library.{AreLibrary}
use Rattle.cb_classfile.specs.declared.class.ClassFile.{ClassFile}
use Rattle.cb_io.specs.Folder.{Files}
use Rattle.cb_link.specs.Program.{Linked}
use Rattle.cb_load.proofs.Laws.{loaded_few, loaded_formed, loaded_short, loaded_supported, named_there, names_once, superclasses_there}
use Rattle.cb_load.specs.Linking.{IsLinked as IsLinkedBy}
use Rattle.cb_safety.specs.Linked.{IsLinked}

pub linking_links : (files : Option Files) (root main : List ℕ) (library : List ClassFile) (program : Linked) → AreLibrary library → AllByRecursion IsWellFormed library
    → IsLinkedBy files root library main program → IsLinked program
linking_links files root main library program are formed is = record {
  library = library;
  more = is.classes;
  main = main;
  method = is.method;
  is_library = are;
  well_formed = loaded_formed files root main is.classes is.loaded;
  library_formed = formed;
  supported = loaded_supported files root main is.classes is.loaded;
  short = loaded_short files root main is.classes is.loaded;
  few = loaded_few files root main is.classes is.loaded;
  once = names_once files root main library is.classes are is.loaded;
  above = superclasses_there files root main library is.classes are is.loaded;
  named = named_there files root main library is.classes are is.loaded;
  good = is.good;
  all = is.all;
}
