use Rattle.std.proofs.Common.{◌≡◌, drop}
use Rattle.cb_verify.specs.InnerPassing.{lesser, stranded}
use Rattle.cb_verify.specs.Typed.{least}
use Rattle.cb_verify.proofs.lost.first_lost.Given as goal

abbrev pub invariant-loop-entry : goal.invariant-loop-entry
invariant-loop-entry l =
    lesser l.least (least (stranded l.method.body.code (drop l.entry-index l.entry-items))) ≡ least (stranded l.method.body.code l.entry-items)
