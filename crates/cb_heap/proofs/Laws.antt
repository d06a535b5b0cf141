-- What the layers above cite of roots and stores together: reading goes through every change of the roots; what is kept of a change is the
-- change of what is kept; and views stay closed.
pub use Rattle.cb_heap.proofs.ReadingLaws.{reads_pending, reads_argument, reads_class, reads_static, reads_entry, reads_stack, reads_locals, reads_pushed, reads_without, reads_cleared, reads_placed, reads_local, reads_left, reads_entered_init, reads_locals_of, reads_arguments, reads_entered, reads_room}
pub use Rattle.cb_heap.proofs.KeptLaws.{residents_changed, residents_placed, keep_changed, keep_placed, keep_twice, same_object, held_alike, held_further}
pub use Rattle.cb_heap.proofs.ClosedLaws.{all_of, front_of, rest_of, joined, joined_tables, frames_of, statics_of, tables_of, pending_of, argument_of, constants_of, classes_of, integers_of, longs_of, characters_of, booleans_of, closed_frames, closed_pending, closed_argument, closed_static, closed_class, closed_entry, closed_pushed, closed_without, closed_cleared, closed_placed, closed_local, closed_left, closed_entered_init, stack_held, closed_entered}
pub use Rattle.cb_heap.proofs.ObjectLaws.{residents_content, closed_content, closed_new}
pub use Rattle.cb_heap.proofs.ReachedLaws.{held_from, passes_held, all_in, held_kept, entry_from, keeps_reached}
pub use Rattle.cb_heap.proofs.PlacedLaws.{roots_again, placed_there, there_before, put_there, content_of_object, may_point_there, left_same, content_left, reference_held}
pub use Rattle.cb_heap.proofs.SettingsLaws.{same_shapes, same_knows, same_allows}
pub use Rattle.cb_heap.proofs.AlikeLaws.{reached_kept, kept_held, reached_alike}
pub use Rattle.cb_heap.proofs.TakenLaws.{all_among, all_parts, length-keep, residents_left, takes_collect}
pub use Rattle.cb_heap.proofs.EntryLaws.{entries_read, bare_read, entries_alike}
