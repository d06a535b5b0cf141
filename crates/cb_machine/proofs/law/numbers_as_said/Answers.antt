use Rattle.std.proofs.Common.{refl}
use Rattle.cb_machine.proofs.law.numbers_as_said.Goals as goal

pub returns-clause-classes : goal.returns-clause-classes
returns-clause-classes c = refl

pub returns-clause-string : goal.returns-clause-string
returns-clause-string c = refl

pub returns-clause-builder : goal.returns-clause-builder
returns-clause-builder c = refl

pub returns-clause-class : goal.returns-clause-class
returns-clause-class c = refl

pub returns-clause-enum_constant : goal.returns-clause-enum_constant
returns-clause-enum_constant c = refl

pub returns-clause-throwable : goal.returns-clause-throwable
returns-clause-throwable c = refl

pub returns-clause-boxes : goal.returns-clause-boxes
returns-clause-boxes c = refl

pub returns-clause-streams : goal.returns-clause-streams
returns-clause-streams c = refl

pub returns-clause-message : goal.returns-clause-message
returns-clause-message c = refl
