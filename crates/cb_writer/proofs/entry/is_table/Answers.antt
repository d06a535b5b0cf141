use Rattle.cb_writer.proofs.Spelling.{of_table, table_has}
use Rattle.cb_writer.proofs.entry.is_table.Goals as goal

pub returns-then-entries-lt-TOO_MANY : goal.returns-then-entries-lt-TOO_MANY
returns-then-entries-lt-TOO_MANY g c = (
  λ is. table_has _ _ c.if-entries-lt-TOO_MANY.true (c.are_formed.ensures.0 is),
  λ table. c.are_formed.ensures.1 (of_table table),
)
