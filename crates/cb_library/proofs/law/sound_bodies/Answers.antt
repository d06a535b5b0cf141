use Rattle.cb_library.proofs.Rowed.{named, framed}
use Rattle.cb_library.proofs.law.sound_bodies.Goals as goal

pub returns-clause-names : goal.returns-clause-names
returns-clause-names c = named

pub returns-clause-branches : goal.returns-clause-branches
returns-clause-branches c = framed
