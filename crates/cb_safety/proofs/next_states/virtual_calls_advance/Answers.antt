use Rattle.cb_safety.proofs.VirtualCalls.{virtual_calls_advance}
use Rattle.cb_safety.proofs.next_states.virtual_calls_advance.Goals as goal

pub returns : goal.returns
returns c = λ machine state frame below insn index linked fits typed ended zero frames there so natives.
    virtual_calls_advance machine state frame below insn linked fits typed ended zero frames there index so natives
