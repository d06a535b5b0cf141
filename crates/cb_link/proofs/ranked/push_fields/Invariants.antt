use Rattle.std.proofs.Common.{◌≡◌, ◌++◌, map, take}
use Rattle.cb_link.specs.InnerRanks.{rank_field}
use Rattle.cb_link.proofs.ranked.push_fields.Given as goal

abbrev pub invariant-loop-field : goal.invariant-loop-field
invariant-loop-field l = l.ranked ≡ l.initial.ranked ++ map (rank_field l.texts l.number l.pool) (take l.field-index l.fields)
