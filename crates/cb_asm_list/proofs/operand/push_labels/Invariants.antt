use Rattle.std.proofs.Common.{◌≡◌, ◌++◌, take, map, string_bytes}
use Rattle.cb_asm_line.specs.Operands.{label_word}
use Rattle.cb_asm_list.specs.Inner.{behind}
use Rattle.cb_asm_list.specs.Listing.{label_of}
use Rattle.cb_asm_list.proofs.operand.push_labels.Given as goal

abbrev pub invariant-loop-place : goal.invariant-loop-place
invariant-loop-place l = string_bytes l.text ≡ string_bytes l.initial.text ++ behind (map label_word (map (label_of l.labels) (take l.place-index l.places)))
