use Rattle.cb_safety.proofs.Running.{running_advances}
use Rattle.cb_safety.proofs.next_states.linked_programs_advance.Goals as goal

pub returns : goal.returns
returns c machine state linked fits typed goes natives = running_advances machine state linked fits typed goes (λ frame below idle frames. natives frame below)
