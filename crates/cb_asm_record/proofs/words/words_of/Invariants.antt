use Rattle.std.proofs.Common.{◌≡◌, ◌+◌, ◌<◌, ◌^◌, length}
use Rattle.cb_asm_record.specs.Inner.{words_left}
use Rattle.cb_asm_record.specs.declared.words.Reading.TheVariants as readings
use Rattle.cb_asm_record.proofs.words.words_of.Given as goal

abbrev pub invariant-loop-unit : goal.invariant-loop-unit
invariant-loop-unit l = (l.words + words_left l.reading l.rest ≡ words_left readings.Type l.types + 1) × (l.words < 2 ^ 8)

abbrev pub decreases-loop-unit : goal.decreases-loop-unit
decreases-loop-unit l = length l.rest
