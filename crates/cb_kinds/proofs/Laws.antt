-- What crates above may cite. No other file of these proofs is for them.
pub use Rattle.cb_kinds.proofs.EnteredTexts.{entered_append, entered_firsts}
pub use Rattle.cb_kinds.proofs.NumberedTexts.{among_all, among_number, entered_all_more, entered_all_next, entered_all_parts, kind_number_of, kind_number_stays, number_among, number_stays, once_all, once_none, number_is_place, text_at, text_stays}
pub use Rattle.cb_kinds.proofs.SpelledTypes.{field_types, method_parameters, method_result}
