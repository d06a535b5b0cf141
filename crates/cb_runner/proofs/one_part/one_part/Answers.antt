use Rattle.std.proofs.Common.{subst}
use Rattle.cb_dag.specs.Faults.{IsFault}
use Rattle.cb_runner.proofs.Joined.{few_edges, few_parts, is_one}
use Rattle.cb_runner.proofs.one_part.one_part.Goals as goal

pub returns-in-Ok : goal.returns-in-Ok
returns-in-Ok c =
    let made = c.in_ok-grid.ensures in
    is_one c.args.sites c.in_ok-grid.grid c.requires made.nodes made.there made.back c.in-Ok.graph c.in-Ok.ensures.dag

pub unreachable-requires : goal.unreachable-requires
unreachable-requires c =
    let made = c.in_ok-grid.ensures in
    few_parts c.args.sites c.in_ok-grid.grid c.requires made.nodes made.there made.back (subst (IsFault c.in_ok-grid.grid) c.in-Err-TooManyParts.field-0-is c.in-Err-TooManyParts.ensures.fault)

pub unreachable-requires-in-Err-TooManyEdges : goal.unreachable-requires-in-Err-TooManyEdges
unreachable-requires-in-Err-TooManyEdges c =
    let made = c.in_ok-grid.ensures in
    few_edges c.args.sites c.in_ok-grid.grid c.requires made.nodes made.there made.back (subst (IsFault c.in_ok-grid.grid) c.in-Err-TooManyEdges.field-0-is c.in-Err-TooManyEdges.ensures.fault)
