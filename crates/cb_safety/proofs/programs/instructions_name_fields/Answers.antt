use Rattle.cb_safety.proofs.Fielded.{program_names_fields}
use Rattle.cb_safety.proofs.programs.instructions_name_fields.Goals as goal

pub returns : goal.returns
returns c = program_names_fields
