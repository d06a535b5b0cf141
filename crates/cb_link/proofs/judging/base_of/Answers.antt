use Rattle.std.proofs.Common.{subst, sym}
use Rattle.cb_link.specs.Having.{IsWhole}
use Rattle.cb_link.proofs.NumberedProgram.{parts_linked}
use Rattle.cb_link.proofs.judging.base_of.Goals as goal

pub invariant_of-result : goal.invariant_of-result
invariant_of-result c = subst IsWhole (sym (parts_linked c.args.resolver c.args.parts c.args.class c.args.method c.requires.are)) c.requires.whole

pub returns : goal.returns
returns c = parts_linked c.args.resolver c.args.parts c.args.class c.args.method c.requires.are
