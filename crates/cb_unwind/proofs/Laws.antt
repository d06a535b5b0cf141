-- What the layers above cite: that what is left of roots and objects is what the machine's step leaves, and the same when roots are read.
pub use Rattle.cb_unwind.proofs.BegunLaws.{begun_on, begun_read}
pub use Rattle.cb_unwind.proofs.InitLaws.{initialising_so, initialised_read}
pub use Rattle.cb_unwind.proofs.UnwoundSteps.{left_so, wrapped_so, asked_so}
pub use Rattle.cb_unwind.proofs.NumberLaws.{initial_read}
pub use Rattle.cb_unwind.proofs.StringLaws.{constant_so}
