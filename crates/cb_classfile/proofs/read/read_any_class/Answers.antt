use Rattle.cb_classfile.proofs.Answering.{exact_unread, bad_version_unread, malformed_unread}
use Rattle.cb_classfile.proofs.read.read_any_class.Goals as goal

pub returns-clause-exact : goal.returns-clause-exact
returns-clause-exact c = exact_unread _ _ c.any_or_fault.ensures

pub returns-clause-bad_version : goal.returns-clause-bad_version
returns-clause-bad_version c = bad_version_unread _ _ c.any_or_fault.ensures

pub returns-clause-malformed : goal.returns-clause-malformed
returns-clause-malformed c = malformed_unread _ _ c.any_or_fault.ensures
