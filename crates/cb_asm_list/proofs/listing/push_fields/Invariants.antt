use Rattle.std.proofs.Common.{◌≡◌, ◌++◌, take, string_bytes}
use Rattle.std.specs.List.{flat_map}
use Rattle.cb_asm_line.specs.Lines.{line_text}
use Rattle.cb_asm_line.specs.Spelling.{field_line}
use Rattle.cb_asm_list.specs.Listing.{field_text}
use Rattle.cb_asm_list.proofs.listing.push_fields.Given as goal

abbrev pub invariant-loop-field : goal.invariant-loop-field
invariant-loop-field l = string_bytes l.text ≡ string_bytes l.initial.text ++ flat_map (λ field. line_text (field_line (field_text l.class field))) (take l.field-index l.class.fields)
