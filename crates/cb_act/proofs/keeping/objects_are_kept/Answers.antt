use Rattle.cb_heap.specs.Kept.{is_held, keep}
use Rattle.cb_act.proofs.KeepLaws.{keep_here}
use Rattle.cb_act.proofs.KeptObjects.{asks_kept, casts_kept, gets_kept, loads_element_kept, measures_kept, puts_kept, stores_element_kept, stores_reference_kept, throws_object_kept}
use Rattle.cb_act.proofs.keeping.objects_are_kept.Goals as goal

pub returns : goal.returns
returns c = record {
  got = λ residents now here. gets_kept (keep residents) (is_held (keep residents now.state.objects)) now (keep_here residents now here);
  put = λ residents now here. puts_kept (keep residents) (is_held (keep residents now.state.objects)) now (keep_here residents now here);
  read = λ residents now here. loads_element_kept (keep residents) (is_held (keep residents now.state.objects)) now (keep_here residents now here);
  written = λ residents now elements here. stores_element_kept (keep residents) (is_held (keep residents now.state.objects)) now (keep_here residents now here) elements;
  referred = λ residents now here. stores_reference_kept (keep residents) (is_held (keep residents now.state.objects)) now (keep_here residents now here);
  measured = λ residents now here. measures_kept (keep residents) (is_held (keep residents now.state.objects)) now (keep_here residents now here);
  cast = λ residents now here. casts_kept (keep residents) (is_held (keep residents now.state.objects)) now (keep_here residents now here);
  asked = λ residents now here. asks_kept (keep residents) (is_held (keep residents now.state.objects)) now (keep_here residents now here);
  thrown = λ residents now here. throws_object_kept (keep residents) (is_held (keep residents now.state.objects)) now (keep_here residents now here);
}
