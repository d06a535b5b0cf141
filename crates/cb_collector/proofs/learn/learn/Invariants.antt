use Rattle.std.proofs.Common.{length}
use Rattle.cb_blocks.specs.Rows.{row}
use Rattle.cb_collector.specs.Collecting.{fact_behind}
use Rattle.cb_collector.proofs.Words.{DoneTo}
use Rattle.cb_collector.proofs.learn.learn.Given as goal

abbrev pub invariant-loop-i : goal.invariant-loop-i
invariant-loop-i l = DoneTo (fact_behind l.set (λ part. length (row l.words.words part))) l.initial.facts l.facts l.i
