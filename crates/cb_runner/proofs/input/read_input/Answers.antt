use Rattle.std.proofs.Common.{arith}
use Rattle.std.proofs.KnownBytes.{Consumes-nil}
use Rattle.cb_natives.specs.Asking.{NoCall}
use Rattle.cb_runner.proofs.Reading.{gathered_more, read_cut}
use Rattle.cb_runner.proofs.input.read_input.Goals as goal

pub loop-input-init : goal.loop-input-init
loop-input-init g c = rw c.new-bytes.ensures.items (record {
  calls = NoCall;
  moved = Consumes-nil (g.S.Source.left c.args.input.now);
  within = omega arith;
  never_falls = omega arith;
  unfailed = λ below. omega arith;
})

pub loop-input-preserved : goal.loop-input-preserved
loop-input-preserved g c =
    let so_far = c.loop-input.invariant in
    gathered_more g.S.Source.left g.S.Source.gave _ _ _ _ _ c.loop-input.bytes.items so_far.calls so_far.moved (omega arith) (omega arith) c.read_piece.new.bytes.items _ _ _ c.in-Ok-true.field-0
    c.in-Ok-true.field-0-test c.in-Ok-true.ensures.read so_far.never_falls so_far.unfailed (λ is. cc) c.in-Ok-true.ensures.fault

pub returns-in-Err-clause-read : goal.returns-in-Err-clause-read
returns-in-Err-clause-read g c =
    read_cut g.S.Source.left g.S.Source.gave _ _ _ _ _ c.loop-input.bytes.items c.loop-input.invariant.calls c.loop-input.invariant.moved (omega arith) (omega arith) c.read_piece.new.bytes.items c.in-Err.stop
    c.in-Err.ensures.read
