use Rattle.cb_classfile.proofs.Answering.{exact_class, bad_version_exactly, malformed_exactly, unsupported_exactly}
use Rattle.cb_classfile.proofs.read.read_class.Goals as goal

pub returns-clause-exact : goal.returns-clause-exact
returns-clause-exact c = exact_class _ _ c.supported_or_fault.ensures

pub returns-clause-bad_version : goal.returns-clause-bad_version
returns-clause-bad_version c = bad_version_exactly _ _ c.supported_or_fault.ensures

pub returns-clause-malformed : goal.returns-clause-malformed
returns-clause-malformed c = malformed_exactly _ _ c.supported_or_fault.ensures

pub returns-clause-unsupported : goal.returns-clause-unsupported
returns-clause-unsupported c = unsupported_exactly _ _ c.supported_or_fault.ensures
