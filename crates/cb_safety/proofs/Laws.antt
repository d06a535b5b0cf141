-- What the layers above cite: that typed states have a next one, that they name what is there, and what may be asked of one before a step.
pub use Rattle.cb_safety.proofs.Going.{Stage, stage_of}
pub use Rattle.cb_safety.proofs.Flowing.{flows}
pub use Rattle.cb_safety.proofs.Closed.{typed_states_are_closed, words_name_objects}
pub use Rattle.cb_safety.proofs.KeptStates.{kept_states_are_typed}
pub use Rattle.cb_safety.proofs.Rooms.{callers_fit, catchers_fit, caught_fits, covered_frames_fit, frames_fit, standing_frames_fit, waiting_frames_fit}
pub use Rattle.cb_safety.proofs.Pushes.{pushes_fit, returns_fit, shuffles_fit}
pub use Rattle.cb_safety.proofs.Arguments.{arguments_fit, entered_fits}
pub use Rattle.cb_safety.proofs.OnStack.{fields_read, fields_written}
pub use Rattle.cb_safety.proofs.ArrayWords.{arrays_measured, elements_read, elements_written, references_are_read, references_are_written}
pub use Rattle.cb_safety.proofs.StaticWords.{statics_read, statics_written}
pub use Rattle.cb_safety.proofs.Asked.{references_are_asked}
pub use Rattle.cb_safety.proofs.Asking.{Found, found}
pub use Rattle.cb_safety.proofs.Sound.{linked_sound}
pub use Rattle.cb_safety.proofs.Starting.{start_is_typed}
pub use Rattle.cb_safety.proofs.Stepping.{ended_stays, run_goes, run_typed, states_advance}
pub use Rattle.cb_safety.proofs.Given.{strings_are_given}
pub use Rattle.cb_safety.proofs.NativeArguments.{arguments_are_given}
pub use Rattle.cb_safety.proofs.Natively.{HasArray, HasWords, IsNumber, array_elements, builder_array, field_there, is_its_reference, is_number as is_number_of, string_array, words_there}
pub use Rattle.cb_safety.proofs.Entering.{map_reverse}
pub use Rattle.cb_safety.proofs.MadeNames.{AreNamed, MakesArrays, MakesObject, arrays_are_named, count_of, object_is_named}
