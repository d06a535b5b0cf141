use Rattle.std.proofs.Common.{take}
use Rattle.cb_names.proofs.ClassNames.{IsSeen}
use Rattle.cb_names.proofs.class_name.behind_class_name.Given as goal

abbrev pub invariant-loop-index : goal.invariant-loop-index
invariant-loop-index l = IsSeen (take l.index l.text) l.begun
