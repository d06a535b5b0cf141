-- What crates above may cite. No other file of these proofs is for them.
pub use Rattle.cb_classfile.proofs.Canonical.{IsCanonical, canonical_table}
pub use Rattle.cb_classfile.proofs.CanonicalClass.{canonical_interface, class_respelled, class_short}
pub use Rattle.cb_classfile.proofs.CanonicalFrames.{canonical_frame, canonical_handler, canonical_type}
pub use Rattle.cb_classfile.proofs.CanonicalMembers.{canonical_body, canonical_field, canonical_frames_in, canonical_method, canonical_value, frames_once}
pub use Rattle.cb_classfile.proofs.LeastIndex.{index_next, least_stands, least_within_exactly}
pub use Rattle.cb_classfile.proofs.OneAttribute.{IsHeld, IsOne, IsRespelled, MayStand, held, none_stands, one_stands}
pub use Rattle.cb_classfile.proofs.OneClass.{one_class_spelled}
pub use Rattle.cb_classfile.proofs.FormedBodies.{IsBody, IsHandler, body_has, body_long, body_size, frames_size, of_body, stack_map_table}
pub use Rattle.cb_classfile.proofs.FormedClasses.{HasParts, IsInterface, class_has, parts_of}
pub use Rattle.cb_classfile.proofs.FormedMembers.{IsBodyOf, IsConstant, IsField, IsMethodOf, code_name, constant_value, field_has, method_has, of_field, of_method}
pub use Rattle.cb_classfile.proofs.FormedTables.{HasName, HasOnce, HasSpelling, IsTable, all_each, may_stand, of_once, of_table, once_none, once_some, table_has}
