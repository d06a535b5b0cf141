-- What crates above may cite: what natives that read perform, and how references follow what sites allow where words are written one by one. No
-- other file of these proofs is for them.
pub use Rattle.cb_natives.proofs.CopiesClosed.{copied_closes}
pub use Rattle.cb_natives.proofs.FollowLaws.{site_in, may_alike, site_same, follows_so, follows_one, word_left, put_may}
pub use Rattle.cb_natives.proofs.InputLaws.{byte_performed, empty_performed, range_performed}
