use Rattle.std.proofs.Common.{rules}
use Rattle.std.proofs.lemmas.List.Sorted.{IsPartitionPoint-from_clause}
use Rattle.cb_verify.proofs.Rising.{is_before, searched}
use Rattle.cb_verify.proofs.expansion.Declared.first_from.Goals as goal

pub returns : goal.returns
returns c =
    searched c.as_slice.result.now c.self.inside.frames c.args.self.now c.args.place c.partition_point.result c.as_slice.ensures
    c.self.view_is c.self.invariant
    (λ parted. IsPartitionPoint-from_clause (is_before c.args.place) _ _ c.partition_point.ensures.partitioned parted
    (λ a r q k. search rules))
