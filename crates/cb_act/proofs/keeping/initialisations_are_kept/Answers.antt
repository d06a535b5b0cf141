use Rattle.cb_heap.specs.Kept.{keep}
use Rattle.cb_act.proofs.KeepLaws.{length_kept}
use Rattle.cb_act.proofs.KeptInit.{begun_kept, initialising_kept}
use Rattle.cb_act.proofs.keeping.initialisations_are_kept.Goals as goal

pub returns : goal.returns
returns c = record {
  begun = λ residents machine state frames class same. begun_kept (keep residents) machine state (length_kept residents state.objects same) frames class;
  turned = λ residents machine state below class place same. initialising_kept (keep residents) machine state (length_kept residents state.objects same) below class place;
}
