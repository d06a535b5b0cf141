use Rattle.std.proofs.Common.{◌∙◌, ℕ, ◌+◌, ◌-◌, ap, sym, arith, length}
use Rattle.cb_blocks.specs.Rows.{row}
use Rattle.cb_collector.specs.Collecting.{words_in}
use Rattle.cb_collector.specs.Held.{used_known}
use Rattle.cb_collector.proofs.Words.{words_more}
use Rattle.cb_collector.proofs.learn.words_gone.Goals as goal

pub loop-part-preserved : goal.loop-part-preserved
loop-part-preserved c =
    let words : ℕ → ℕ = λ part. used_known c.args.facts.now part - length (row c.args.words.now.words part) in (
      ap (λ n. n + c.gone_if.result) c.loop-part.invariant.0 ∙ ap (λ n. words_in c.loop-part.part c.args.set.now words + n) c.gone_if.ensures ∙ sym (words_more c.args.set.now words c.loop-part.part),
      omega (arith, c.loop-part.invariant.1, c.gone_if.type_inv),
    )
