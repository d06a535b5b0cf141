use Rattle.cb_safety.proofs.NewClasses.{names_classes}
use Rattle.cb_safety.proofs.programs.instructions_name_classes.Goals as goal

pub returns : goal.returns
returns c = names_classes
