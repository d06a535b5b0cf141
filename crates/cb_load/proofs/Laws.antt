-- What crates above may cite. No other file of these proofs is for them.
pub use Rattle.cb_load.proofs.ClassesThere.{named_there, superclasses_there}
pub use Rattle.cb_load.proofs.LoadFormed.{loaded_formed}
pub use Rattle.cb_load.proofs.LoadLimits.{loaded_few, loaded_short}
pub use Rattle.cb_load.proofs.LoadSupported.{loaded_supported}
pub use Rattle.cb_load.proofs.NamesOnce.{names_once}
