use Rattle.std.proofs.Common.{◌≡◌, ◌++◌, take, string_bytes}
use Rattle.std.specs.List.{flat_map}
use Rattle.cb_asm_line.specs.Lines.{line_text}
use Rattle.cb_asm_line.specs.Spelling.{implements_line}
use Rattle.cb_asm_list.specs.Expansion.{class_named}
use Rattle.cb_asm_list.proofs.listing.push_interfaces.Given as goal

abbrev pub invariant-loop-index : goal.invariant-loop-index
invariant-loop-index l = string_bytes l.text ≡ string_bytes l.initial.text ++ flat_map (λ index. line_text (implements_line (class_named l.class index))) (take l.index-index l.class.interfaces)
