use Rattle.std.proofs.Common.{◌≡◌, ◌<◌, ◌≤◌, ◌++◌, length, take}
use Rattle.cb_io.specs.Utf8.{utf8}
use Rattle.cb_io.proofs.utf8.fill.Given as goal

abbrev pub invariant-loop-filled : goal.invariant-loop-filled
invariant-loop-filled l = record {
  few : l.filled ≤ 256;
  read : utf8 l.units ≡ take l.filled l.piece ++ utf8 l.rest;
  shorter : 0 < l.filled → length l.rest < length l.units;
  short : length l.rest ≤ length l.units;
}

abbrev pub decreases-loop-filled : goal.decreases-loop-filled
decreases-loop-filled l = length l.rest
