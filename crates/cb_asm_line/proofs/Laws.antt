-- What crates above may cite. No other file of these proofs is for them.
pub use Rattle.cb_asm_line.proofs.Filled.{some_line}
pub use Rattle.cb_asm_line.proofs.Programs.{program_said}
pub use Rattle.cb_asm_line.proofs.SameStatements.{one_statement}
pub use Rattle.cb_asm_line.proofs.Shown.{whole_line}
