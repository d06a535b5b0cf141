use Rattle.std.proofs.Common.{◌∙◌, sym, Some}
use Rattle.cb_points_to.proofs.Looked.{first_low, must_of}
use Rattle.cb_points_to.proofs.look.look_as_second.Goals as goal

pub expand_sources-requires-clause-source : goal.expand_sources-requires-clause-source
expand_sources-requires-clause-source c = first_low c.args.constraints.now c.args.looked.now c.args.web.now c.requires.web c.args.inclusion.now c.requires.among c.in-Some.source (sym c.in-Some.ensures)

pub expand_sources-requires-clause-must : goal.expand_sources-requires-clause-must
expand_sources-requires-clause-must c = λ own there.
    must_of c.args.constraints.now c.args.looked.now c.args.web.now c.requires.web c.args.inclusion.now c.requires.among (Some c.in-Some.source) (Some c.args.member.node) own c.args.member.site (sym c.in-Some.ensures)
    (sym c.second_base.ensures ∙ c.if-not-is_at.ensures.yes) (c.requires.web.looked_had c.in-Some.source own there) c.requires.had
