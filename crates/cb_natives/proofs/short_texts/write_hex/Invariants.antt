use Rattle.std.proofs.Common.{◌≡◌, ◌+◌, ◌<◌, ◌^◌, false, drop, length}
use Rattle.std.specs.Fmt.{digits}
use Rattle.cb_natives.proofs.HexLaws.{hex_onto}
use Rattle.cb_natives.proofs.short_texts.write_hex.Given as goal

abbrev pub invariant-loop-rest : goal.invariant-loop-rest
invariant-loop-rest l = record {
  low : l.start < 8;
  size : length l.bytes ≡ 8;
  few : l.rest < 16 ^ (l.start + 1);
  digits : digits 16 false l.number ≡ hex_onto (57 + l.start) l.rest (drop (l.start + 1) l.bytes);
}

abbrev pub decreases-loop-rest : goal.decreases-loop-rest
decreases-loop-rest l = l.rest
