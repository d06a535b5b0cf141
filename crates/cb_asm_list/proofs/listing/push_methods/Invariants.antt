use Rattle.std.proofs.Common.{◌≡◌, ◌++◌, take, string_bytes}
use Rattle.std.specs.List.{flat_map}
use Rattle.cb_asm_line.specs.Lines.{lines_text}
use Rattle.cb_asm_line.specs.Spelling.{method_lines}
use Rattle.cb_asm_list.specs.Listing.{method_text}
use Rattle.cb_asm_list.proofs.listing.push_methods.Given as goal

abbrev pub invariant-loop-method : goal.invariant-loop-method
invariant-loop-method l = string_bytes l.text ≡ string_bytes l.initial.text ++ flat_map (λ method. lines_text (method_lines (method_text l.class method))) (take l.method-index l.class.methods)
