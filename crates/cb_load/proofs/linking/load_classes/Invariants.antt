use Rattle.std.proofs.Common.{◌≡◌, ◌-◌, ◌≤◌, length}
use Rattle.cb_io.specs.Faults.{CountsFaults}
use Rattle.cb_load.specs.InnerTurns.{AreAbsent, Stands}
use Rattle.cb_load.proofs.linking.load_classes.Given as goal

abbrev pub invariant-loop-absent : goal.invariant-loop-absent
invariant-loop-absent g l =
    (g.F.Folder.files l.folder ≡ g.F.Folder.files l.fn.folder)
    × CountsFaults (g.F.Folder.faults l.fn.folder) (g.F.Folder.faults l.folder) ⊥
    × AreAbsent (g.F.Folder.files l.fn.folder) l.root l.absent
    × Stands (g.F.Folder.files l.fn.folder) l.root l.fn.main l.fn.library l.loading.taken l.loading.entries l.loading.names l.loading.classes
    × (length l.loading.classes ≤ 1024)

abbrev pub decreases-loop-absent : goal.decreases-loop-absent
decreases-loop-absent g l = 1025 - length l.loading.classes
