-- What crates above may cite: a store that allows each reference allows those of each state that may come; and what was written, and how many
-- calls failed, where pieces are written one after the other. No other file of these proofs is for them.
pub use Rattle.cb_interp.proofs.AllowedAll.{all_allowed}
pub use Rattle.cb_interp.proofs.RunCounts.{counts_as, counts_none, counts_then}
pub use Rattle.cb_interp.proofs.TextReading.{failed_cut, failed_in, failed_more, writes_then}
