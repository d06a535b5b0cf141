use Rattle.std.proofs.Common.{sym, refl, None}
use Rattle.cb_points_to.proofs.Looked.{first_second, must_of}
use Rattle.cb_points_to.proofs.solver.start_at.Goals as goal

pub expand-requires-clause-says : goal.expand-requires-clause-says
expand-requires-clause-says c =
    must_of c.args.constraints.now c.args.looked.now c.args.web.now c.requires.web c.args.inclusion.now c.requires.among None None 0 0 (sym c.in-None.ensures)
    (first_second c.args.inclusion.now (sym c.in-None.ensures)) refl refl
