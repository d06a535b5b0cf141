use Rattle.std.proofs.Common.{◌≡◌, ◌++◌, length, string_bytes}
use Rattle.cb_io.specs.Utf8.{utf8}
use Rattle.cb_io.proofs.utf8.text_of.Given as goal

abbrev pub invariant-loop-character : goal.invariant-loop-character
invariant-loop-character l = utf8 l.units ≡ string_bytes l.text ++ utf8 l.rest

abbrev pub decreases-loop-character : goal.decreases-loop-character
decreases-loop-character l = length l.rest
