use Rattle.cb_writer.proofs.Spelling.{count_has, of_count}
use Rattle.cb_writer.proofs.entry.is_count.Goals as goal

pub returns-then-entries-count : goal.returns-then-entries-count
returns-then-entries-count g c = (
  λ is. count_has _ _ _ c.if-entries-count.true (c.are_formed.ensures.0 is),
  λ count. c.are_formed.ensures.1 (of_count count),
)
