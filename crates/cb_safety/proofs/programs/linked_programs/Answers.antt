use Rattle.cb_safety.proofs.Linking.{linked_formed, linked_lacks, linked_whole}
use Rattle.cb_safety.proofs.programs.linked_programs.Goals as goal

pub returns : goal.returns
returns c = record { whole = linked_whole; well_formed = linked_formed; lacking = linked_lacks }
