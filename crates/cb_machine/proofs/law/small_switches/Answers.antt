use Rattle.std.proofs.Common.{refl}
use Rattle.std.specs.Char.{encode_utf8}
use Rattle.std.specs.Char.Utf16.{utf16_chars}
use Rattle.std.specs.Fmt.{digits}
use Rattle.std.specs.Int.{int_wrap}
use Rattle.cb_machine.proofs.law.small_switches.Goals as goal

pub returns-clause-same : goal.returns-clause-same
unfolding int_wrap digits encode_utf8 utf16_chars
returns-clause-same c = refl

pub returns-clause-same_hash : goal.returns-clause-same_hash
unfolding int_wrap digits encode_utf8 utf16_chars
returns-clause-same_hash c = refl

pub returns-clause-other : goal.returns-clause-other
unfolding int_wrap digits encode_utf8 utf16_chars
returns-clause-other c = refl

pub returns-clause-enumerated : goal.returns-clause-enumerated
unfolding int_wrap digits encode_utf8 utf16_chars
returns-clause-enumerated c = refl
