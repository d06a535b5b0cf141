use Rattle.cb_heap.specs.Kept.{keep}
use Rattle.cb_act.proofs.KeptFrames.{branches_kept, computes_kept, constant_loaded_kept, increases_kept, loads_kept, null_kept, returns_kept, shuffles_kept, stores_kept, switches_kept}
use Rattle.cb_act.proofs.KeepLaws.{length_kept}
use Rattle.cb_act.proofs.keeping.frames_are_kept.Goals as goal

pub returns : goal.returns
returns c = record {
  computed = λ residents now computation same. computes_kept (keep residents) now (length_kept residents now.state.objects same) computation;
  null = λ residents now same. null_kept (keep residents) now (length_kept residents now.state.objects same);
  constant = λ residents now same. constant_loaded_kept (keep residents) now (length_kept residents now.state.objects same);
  loaded = λ residents now sort local same. loads_kept (keep residents) now (length_kept residents now.state.objects same) sort local;
  stored = λ residents now sort local same. stores_kept (keep residents) now (length_kept residents now.state.objects same) sort local;
  increased = λ residents now local by same. increases_kept (keep residents) now (length_kept residents now.state.objects same) local by;
  shuffled = λ residents now shuffle same. shuffles_kept (keep residents) now (length_kept residents now.state.objects same) shuffle;
  tested = λ residents now condition operand same. branches_kept (keep residents) now (length_kept residents now.state.objects same) condition operand;
  switched = λ residents now operand same. switches_kept (keep residents) now (length_kept residents now.state.objects same) operand;
  returned = λ residents now sort same. returns_kept (keep residents) now (length_kept residents now.state.objects same) sort;
}
