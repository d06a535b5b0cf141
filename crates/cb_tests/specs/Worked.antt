-- Facts of a part in which there are 100 words.
use Rattle.std.specs.Prelude.{Bool}
use Rattle.cb_plain.specs.declared.facts.Facts.{Facts}

abbrev pub worked : (held : Bool) → Facts
worked held = record { turn = 3; part = 1; used = 100; kept = 60; fresh = 40; last_live = 1; last_used = 4; held = held }
