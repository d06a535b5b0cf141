-- What crates above may cite. No other file of these proofs is for them.
pub use Rattle.cb_library.proofs.Natives.{one_place, place, stands}
pub use Rattle.cb_library.proofs.Rowed.{constructed, flagged, framed, hierarchy, named, one_method, one_name, parents}
