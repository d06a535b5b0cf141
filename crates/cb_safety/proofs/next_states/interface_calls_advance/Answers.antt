use Rattle.cb_safety.proofs.VirtualCalls.{interface_calls_advance}
use Rattle.cb_safety.proofs.next_states.interface_calls_advance.Goals as goal

pub returns : goal.returns
returns c = λ machine state frame below insn index count linked fits typed ended zero frames there so natives.
    interface_calls_advance machine state frame below insn linked fits typed ended zero frames there index count so natives
