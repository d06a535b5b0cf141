use Rattle.std.proofs.Common.{◌≡◌, length, take}
use Rattle.cb_natives.proofs.short_texts.ascii_text.Given as goal

abbrev pub invariant-loop-i : goal.invariant-loop-i
invariant-loop-i l = (length l.units ≡ 24) × (take l.i l.units ≡ take l.i l.text)
