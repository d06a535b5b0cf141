use Rattle.std.proofs.Common.{◌≡◌, drop}
use Rattle.std.specs.List.{flat_map, fold}
use Rattle.cb_plain.specs.Requests.{add_want}
use Rattle.cb_interp.specs.Arguments.{AskedFor, text_wants}
use Rattle.cb_interp.proofs.arguments.ask_texts.Given as goal

abbrev pub invariant-loop-i : goal.invariant-loop-i
invariant-loop-i l = record {
  wants : fold add_want l.request (flat_map text_wants (drop l.i l.texts)) ≡ fold add_want l.fn.request (flat_map text_wants l.texts);
  asked : AskedFor l.request;
}
