use Rattle.std.proofs.Common.{◌≡◌, ◌*◌, ◌≤◌, ◌^◌, length}
use Rattle.cb_blocks.specs.Rows.{row}
use Rattle.cb_collector.specs.Collecting.{words_in}
use Rattle.cb_collector.proofs.learn.words_there.Given as goal

abbrev pub invariant-loop-part : goal.invariant-loop-part
invariant-loop-part l = (l.there ≡ words_in l.part l.set (λ part. length (row l.words.words part))) × (l.there ≤ l.part * 2 ^ 64)
