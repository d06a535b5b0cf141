use Rattle.cb_interp.proofs.TurnsFrameFew.{error_low, few_parents}
use Rattle.cb_interp.proofs.frame_turns.linked_frames.Goals as goal

pub returns : goal.returns
returns c = record {
  error = λ program is. error_low program is (λ once. c.classes_own_kinds.ensures program (c.linked_programs.ensures.whole program is) once);
  few = few_parents;
}
