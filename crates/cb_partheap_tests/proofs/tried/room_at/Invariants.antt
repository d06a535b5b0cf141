use Rattle.std.proofs.Common.{◌≡◌, drop}
use Rattle.cb_plain.specs.Requests.{words_at}
use Rattle.cb_partheap_tests.proofs.tried.room_at.Given as goal

abbrev pub invariant-loop-i : goal.invariant-loop-i
invariant-loop-i l = words_at (drop l.i l.request) l.site ≡ words_at l.request l.site
