-- What crates above may cite. No other file of these proofs is for them.
pub use Rattle.cb_link.proofs.Handed.{handed, handed_from}
pub use Rattle.cb_link.proofs.Ranged.{all_both}
pub use Rattle.cb_link.proofs.PlacedLaws.{placed}
pub use Rattle.cb_link.proofs.SlotPlaces.{static_slot}
pub use Rattle.cb_link.proofs.SlotLaws.{object_slot}
pub use Rattle.cb_link.proofs.NumbersLow.{initial_within}
pub use Rattle.cb_link.proofs.NamedThere.{insn_there}
pub use Rattle.cb_link.proofs.KindsAmong.{all_named, element_low}
pub use Rattle.cb_link.proofs.FoundLow.{chained, either, mapped, whenever}
pub use Rattle.cb_link.proofs.SpecialLaws.{special_is, special_one_of}
pub use Rattle.cb_link.proofs.SitePlaces.{below_length}
