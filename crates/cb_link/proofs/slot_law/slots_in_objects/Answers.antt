use Rattle.cb_link.proofs.SlotLaws.{object_slot}
use Rattle.cb_link.proofs.SlotPlaces.{static_slot}
use Rattle.cb_link.proofs.slot_law.slots_in_objects.Goals as goal

pub returns : goal.returns
returns c = record { statics = static_slot; objects = object_slot }
