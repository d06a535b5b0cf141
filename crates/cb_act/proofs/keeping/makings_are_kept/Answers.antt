use Rattle.cb_heap.specs.Kept.{keep}
use Rattle.cb_act.proofs.KeepLaws.{length_kept}
use Rattle.cb_act.proofs.KeptMaking.{gets_static_kept, makes_arrays_kept, makes_kept, puts_static_kept}
use Rattle.cb_act.proofs.keeping.makings_are_kept.Goals as goal

pub returns : goal.returns
returns c = record {
  got = λ residents now same. gets_static_kept (keep residents) now (length_kept residents now.state.objects same);
  put = λ residents now same. puts_static_kept (keep residents) now (length_kept residents now.state.objects same);
  made = λ residents now same. makes_kept (keep residents) now (length_kept residents now.state.objects same);
  arrays = λ residents now dimensions same. makes_arrays_kept (keep residents) now (length_kept residents now.state.objects same) dimensions;
}
