use Rattle.std.proofs.Common.{◌≡◌, take, true}
use Rattle.std.specs.List.{list_all}
use Rattle.cb_frames.specs.Tops.{top_stack}
use Rattle.cb_machine.specs.Creating.{is_size}
use Rattle.cb_act.proofs.acting_calls.makes_arrays.Given as goal

abbrev pub invariant-loop-depth : goal.invariant-loop-depth
invariant-loop-depth g l = list_all is_size (take l.depth (top_stack l.roots.roots)) ≡ true
