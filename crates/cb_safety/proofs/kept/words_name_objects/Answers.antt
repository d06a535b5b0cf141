use Rattle.cb_safety.proofs.Closed.{words_name_objects}
use Rattle.cb_safety.proofs.kept.words_name_objects.Goals as goal

pub returns : goal.returns
returns c = words_name_objects
