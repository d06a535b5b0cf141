-- What crates above may cite. No other file of these proofs is for them.
pub use Rattle.cb_asm_record.proofs.Growing.{index_stays}
pub use Rattle.cb_asm_record.proofs.Having.{closed, first_or, has, in_firsts, with_itself}
pub use Rattle.cb_asm_record.proofs.Naming.{class_read, member_read, string_read, text_read}
pub use Rattle.cb_asm_record.proofs.Pooling.{among, at_index, at_its_index, same_is, same_itself}
