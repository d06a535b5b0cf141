use Rattle.std.proofs.Common.{◌≡◌, ◌++◌, map, take, string_bytes}
use Rattle.cb_asm_line.specs.Quoting.{comma}
use Rattle.cb_asm_line.specs.Spelling.{type_word}
use Rattle.cb_asm_list.specs.Inner.{marked}
use Rattle.cb_asm_list.specs.Listing.{label_of, type_of}
use Rattle.cb_asm_list.proofs.frame_line.push_more_types.Given as goal

abbrev pub invariant-loop-kind : goal.invariant-loop-kind
invariant-loop-kind l = string_bytes l.text ≡ string_bytes l.initial.text ++ marked comma (map type_word (map (type_of (label_of l.labels)) (take l.kind-index l.types)))
