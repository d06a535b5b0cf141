use Rattle.std.proofs.Common.{◌≡◌, ◌++◌, ◌<◌, ◌*◌, ◌^◌, IfSome, drop, map, option_and_then}
use Rattle.cb_asm_list.specs.Expansion.{expanded_behind}
use Rattle.cb_asm_list.specs.Listing.{listed_frames, placed_frame}
use Rattle.cb_asm_list.proofs.expansion.listed_frames.Given as goal

abbrev pub invariant-loop-frame : goal.invariant-loop-frame
invariant-loop-frame l = record {
  whole : listed_frames l.class l.method l.body ≡ l.listed ++ map (option_and_then (placed_frame l.body)) (expanded_behind l.class.pool l.previous l.locals (drop l.frame-index l.body.frames));
  below : IfSome l.previous (λ place. place < l.frame-index * 2 ^ 16);
}
