use Rattle.std.proofs.Common.{◌+◌, ◌-◌, arith}
use Rattle.cb_frames.specs.Tops.{top_stack}
use Rattle.cb_interp.proofs.TurnsNestedPlan.{size_at_depth, size_of_depth}
use Rattle.cb_interp.proofs.nested_turns.level_size.Goals as goal

pub size_at-requires : goal.size_at-requires
size_at-requires c =
    let low = c.requires.low in
    let many = c.requires.many in
    size_at_depth (top_stack c.args.roots.now.roots) (c.args.last + 1) (c.args.last - c.args.dimension) (omega (arith, low)) (omega (arith, many)) c.requires.sized

pub returns : goal.returns
returns c = size_of_depth (top_stack c.args.roots.now.roots) c.args.last c.args.dimension c.size_at.result c.requires.low c.requires.many c.size_at.ensures
