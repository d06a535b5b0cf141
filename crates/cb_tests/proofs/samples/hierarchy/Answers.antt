use Rattle.std.proofs.Common.{subst}
use Rattle.cb_hierarchy.specs.Bad.{IsFirstBad}
use Rattle.cb_tests.proofs.Classes.{acyclic}
use Rattle.cb_tests.proofs.samples.hierarchy.Goals as goal

pub of-requires-clause-acyclic : goal.of-requires-clause-acyclic
of-requires-clause-acyclic c = acyclic _ c.args.methods.now (subst (λ found. IsFirstBad c.in_ok-classes.classes c.args.methods.now found) c.in-None.is c.in_ok-first_bad.ensures)
