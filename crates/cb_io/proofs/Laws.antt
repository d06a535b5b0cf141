-- What crates above may cite: what a sink took in two calls. No other file of these proofs is for them.
pub use Rattle.cb_io.proofs.Writing.{Appends-Appends}
