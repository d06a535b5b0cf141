use Rattle.std.proofs.Common.{refl}
use Rattle.std.specs.Char.{encode_utf8}
use Rattle.std.specs.Char.Utf16.{utf16_chars}
use Rattle.std.specs.Fmt.{digits}
use Rattle.std.specs.Int.{int_wrap}
use Rattle.cb_machine.proofs.law.small_runs.Goals as goal

pub returns-clause-running : goal.returns-clause-running
unfolding int_wrap digits encode_utf8 utf16_chars
returns-clause-running c = refl

pub returns-clause-returned : goal.returns-clause-returned
unfolding int_wrap digits encode_utf8 utf16_chars
returns-clause-returned c = refl

pub returns-clause-printed_early : goal.returns-clause-printed_early
unfolding int_wrap digits encode_utf8 utf16_chars
returns-clause-printed_early c = refl

pub returns-clause-not_ended : goal.returns-clause-not_ended
unfolding int_wrap digits encode_utf8 utf16_chars
returns-clause-not_ended c = refl

pub returns-clause-ended : goal.returns-clause-ended
unfolding int_wrap digits encode_utf8 utf16_chars
returns-clause-ended c = refl

pub returns-clause-identity : goal.returns-clause-identity
unfolding int_wrap digits encode_utf8 utf16_chars
returns-clause-identity c = refl

pub returns-clause-arithmetic : goal.returns-clause-arithmetic
unfolding int_wrap digits encode_utf8 utf16_chars
returns-clause-arithmetic c = refl
