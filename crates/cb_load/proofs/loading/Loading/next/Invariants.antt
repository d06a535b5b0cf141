use Rattle.std.proofs.Common.{◌≡◌, List, ℕ}
use Rattle.cb_io.specs.Faults.{CountsFaults}
use Rattle.cb_classfile.specs.declared.class.ClassFile.{ClassFile}
use Rattle.cb_load.specs.InnerTurns.{AreAbsent, Stands}
use Rattle.cb_load.proofs.loading.Loading.next.Given as goal

abbrev pub invariant-loop-place : goal.invariant-loop-place
invariant-loop-place g l =
    (g.F.Folder.files l.folder ≡ g.F.Folder.files l.initial.folder)
    × CountsFaults (g.F.Folder.faults l.initial.folder) (g.F.Folder.faults l.folder) ⊥
    × AreAbsent (g.F.Folder.files l.initial.folder) l.root l.absent
    × ((main : List ℕ) (library : List ClassFile) → Stands (g.F.Folder.files l.initial.folder) l.root main library l.self.taken l.self.entries l.self.names l.self.classes
    → Stands (g.F.Folder.files l.initial.folder) l.root main library l.place l.self.entries l.self.names l.self.classes)
