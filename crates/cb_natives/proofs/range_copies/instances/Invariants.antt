use Rattle.std.proofs.Common.{◌≡◌, ◌++◌, ℕ, Some, drop, take}
use Rattle.cb_heap.specs.Reading.{serial_of}
use Rattle.cb_kinds.specs.declared.basic.Basic.TheVariants as basics
use Rattle.cb_machine.specs.Copying.{fitting}
use Rattle.cb_natives.specs.Answers.{Beside}
use Rattle.cb_natives.specs.Copies.{words_from}
use Rattle.cb_natives.specs.MakingOwn.{call_of}
use Rattle.cb_natives.proofs.range_copies.instances.Given as goal

abbrev pub invariant-loop-i : goal.invariant-loop-i
invariant-loop-i g l = (frames : ℕ) (beside : Beside) →
    let objects = (g.S.Store.storage l.store).kept in
    let words = words_from objects (serial_of (g.S.Store.storage l.store).index l.source) l.start l.count in
    let call = call_of l.program objects frames beside in
    fitting call (Some (basics.Reference l.kind)) words ≡ take l.i words ++ fitting call (Some (basics.Reference l.kind)) (drop l.i words)
