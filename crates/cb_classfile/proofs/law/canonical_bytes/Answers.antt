use Rattle.cb_classfile.proofs.Laws.{class_respelled, class_short}
use Rattle.cb_classfile.proofs.law.canonical_bytes.Goals as goal

pub returns-clause-spelled : goal.returns-clause-spelled
returns-clause-spelled c = λ class formed. class_respelled formed.0 class formed.1

pub returns-clause-shortest : goal.returns-clause-shortest
returns-clause-shortest c = λ class bytes spelled. class_short bytes class spelled
