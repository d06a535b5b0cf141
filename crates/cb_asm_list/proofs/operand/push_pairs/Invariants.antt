use Rattle.std.proofs.Common.{◌≡◌, ◌++◌, take, map, string_bytes}
use Rattle.cb_asm_list.specs.Inner.{behind, pair_words}
use Rattle.cb_asm_list.specs.Listing.{label_of}
use Rattle.cb_asm_list.proofs.operand.push_pairs.Given as goal

abbrev pub invariant-loop-pair : goal.invariant-loop-pair
invariant-loop-pair l = string_bytes l.text ≡ string_bytes l.initial.text ++ behind (pair_words (map (λ pair. (pair.key, label_of l.labels pair.target)) (take l.pair-index l.pairs)))
