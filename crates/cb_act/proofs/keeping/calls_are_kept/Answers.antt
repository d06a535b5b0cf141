use Rattle.cb_heap.specs.Kept.{is_held, keep}
use Rattle.cb_act.proofs.KeepLaws.{keep_here}
use Rattle.cb_act.proofs.KeptCalls.{invokes_interface_kept, invokes_special_kept, invokes_static_kept, invokes_virtual_kept}
use Rattle.cb_act.proofs.NativesChange.{natives_keep}
use Rattle.cb_act.proofs.keeping.calls_are_kept.Goals as goal

pub returns : goal.returns
returns c = record {
  on_none = λ residents now here. invokes_static_kept (keep residents) (is_held (keep residents now.state.objects)) now (keep_here residents now here) (natives_keep now.machine residents now.state here.keeping);
  special = λ residents now index here. invokes_special_kept (keep residents) (is_held (keep residents now.state.objects)) now (keep_here residents now here) (natives_keep now.machine residents now.state here.keeping) index;
  selected = λ residents now here. invokes_virtual_kept (keep residents) (is_held (keep residents now.state.objects)) now (keep_here residents now here) (natives_keep now.machine residents now.state here.keeping);
  of_interface = λ residents now index here. invokes_interface_kept (keep residents) (is_held (keep residents now.state.objects)) now (keep_here residents now here) (natives_keep now.machine residents now.state here.keeping) index;
}
