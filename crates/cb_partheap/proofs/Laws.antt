-- What crates above may cite: where objects begin, and how they are found by places and serials; what of them is read; and the words of parts.
pub use Rattle.cb_partheap.proofs.Missing.{gap, missing_append, missing_least, missing_set, missing_zeros}
pub use Rattle.cb_partheap.proofs.Found.{place_apart, place_found, same_spot, spot_found, spot_none, spot_sound}
pub use Rattle.cb_partheap.proofs.Tells.{part_told, place_small}
pub use Rattle.cb_partheap.proofs.Agree.{changed_there, same_tabulated, set_tabulated, spot_agree}
pub use Rattle.cb_partheap.proofs.Reading.{Found, by_serial, entry_at, found, found_at, header_found, index_found, length_objects, object_found, object_there, serial_found, serial_there, slice_get-tabulated, within}
pub use Rattle.cb_partheap.proofs.Calls.{FoundWord, content_by, contents_found, found_word, number_in, object_is, object_length, reference_in, word_found}
pub use Rattle.cb_partheap.proofs.Inner.{IsInner, inner_alike, row_cases, row_other, row_same, spot_cases, with_inner, word_elsewhere, word_here, words_apart}
pub use Rattle.cb_partheap.proofs.Follows.{Stands, follows, stands}
pub use Rattle.cb_partheap.proofs.Occupied.{missing_exact, used_is, whole_next}
pub use Rattle.cb_partheap.proofs.Alike.{HasContents, IsAlike, SameFields, StillRefers, alike_content, alike_entry, alike_found, alike_heap, alike_index, alike_mark, alike_object, alike_objects, alike_place, alike_spot, parted_alike, same_object, spot_alike, still_refers}
pub use Rattle.cb_partheap.proofs.Marked.{mark_elsewhere, mark_here, marked_alike, marked_contents, with_third}
pub use Rattle.cb_partheap.proofs.Same.{alike_itself, alike_then, contents_then, outside_same, same_heap, same_itself, same_then}
pub use Rattle.cb_partheap.proofs.Weights.{IsNewMark, found_of, marked_more, none_marked, part_room, words_room}
pub use Rattle.cb_partheap.proofs.Stays.{kept_of, left_at, left_is, marked_words}
pub use Rattle.cb_partheap.proofs.Takes.{predecessors, taken}
pub use Rattle.cb_partheap.proofs.Unmarked.{made, placed, written}
pub use Rattle.cb_partheap.proofs.Leads.{IsReachedIn, Leads, MayLead, child_leads, content_there, entry_read, root_leads, view_in}
pub use Rattle.cb_partheap.proofs.Shaped.{known_kind, word_in}
