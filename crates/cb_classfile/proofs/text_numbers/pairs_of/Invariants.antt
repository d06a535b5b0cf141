use Rattle.std.proofs.Common.{◌≡◌, map, take}
use Rattle.std.specs.Prelude.{slice_index}
use Rattle.cb_classfile.proofs.text_numbers.pairs_of.Given as goal

abbrev pub invariant-loop-member : goal.invariant-loop-member
invariant-loop-member g l =
    l.pairs.items ≡ map (λ member. (slice_index l.numbers member.0, slice_index l.numbers member.1)) (map g.M.Named.indices (take l.member-index l.members))
