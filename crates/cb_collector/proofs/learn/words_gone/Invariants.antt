use Rattle.std.proofs.Common.{◌≡◌, ◌-◌, ◌*◌, ◌≤◌, ◌^◌, length}
use Rattle.cb_blocks.specs.Rows.{row}
use Rattle.cb_collector.specs.Collecting.{words_in}
use Rattle.cb_collector.specs.Held.{used_known}
use Rattle.cb_collector.proofs.learn.words_gone.Given as goal

abbrev pub invariant-loop-part : goal.invariant-loop-part
invariant-loop-part l = (l.gone ≡ words_in l.part l.set (λ part. used_known l.facts part - length (row l.words.words part))) × (l.gone ≤ l.part * 2 ^ 64)
