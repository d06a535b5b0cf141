use Rattle.cb_insn.proofs.Laws.{places_rise}
use Rattle.cb_text_tests.proofs.insn.tell_places.Goals as goal

pub push_places-requires : goal.push_places-requires
push_places-requires c = places_rise _ _ c.in-Ok.ensures.code
