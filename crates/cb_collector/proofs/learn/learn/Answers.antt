use Rattle.std.proofs.Common.{◌≤◌, false, length, arith}
use Rattle.cb_blocks.specs.Rows.{row}
use Rattle.cb_collector.specs.Collecting.{fact_behind}
use Rattle.cb_collector.specs.Known.{first_facts}
use Rattle.cb_collector.proofs.Words.{done_all}
use Rattle.cb_collector.proofs.learn.learn.Goals as goal

pub returns : goal.returns
returns c =
    let all : length c.args.facts.now ≤ c.loop-i.i = omega (arith, c.loop-i-test.false, c.len-i-end.ensures) in
    done_all (fact_behind c.args.set.now (λ part. length (row c.args.words.now.words part))) c.args.facts.now c.loop-i.facts c.loop-i.i c.loop-i.invariant all (first_facts false 0)
