use Rattle.cb_safety.proofs.FewKinds.{has_class_objects}
use Rattle.cb_safety.proofs.CoreKinds.{has_message}
use Rattle.cb_safety.proofs.FirstValues.{has_constants}
use Rattle.cb_safety.proofs.programs.linked_has_constants.Goals as goal

pub returns : goal.returns
returns c = record { message = has_message; constants = has_constants; class_objects = has_class_objects }
