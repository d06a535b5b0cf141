use Rattle.std.proofs.Common.{refl}
use Rattle.std.specs.Char.{encode_utf8}
use Rattle.std.specs.Char.Utf16.{utf16_chars}
use Rattle.std.specs.Fmt.{digits}
use Rattle.std.specs.Int.{int_wrap}
use Rattle.cb_machine.proofs.law.small_failures.Goals as goal

pub returns-clause-caught : goal.returns-clause-caught
unfolding int_wrap digits encode_utf8 utf16_chars
returns-clause-caught c = refl

pub returns-clause-uncaught : goal.returns-clause-uncaught
unfolding int_wrap digits encode_utf8 utf16_chars
returns-clause-uncaught c = refl

pub returns-clause-its_class : goal.returns-clause-its_class
unfolding int_wrap digits encode_utf8 utf16_chars
returns-clause-its_class c = refl

pub returns-clause-bad_class : goal.returns-clause-bad_class
unfolding int_wrap digits encode_utf8 utf16_chars
returns-clause-bad_class c = refl

pub returns-clause-deep : goal.returns-clause-deep
unfolding int_wrap digits encode_utf8 utf16_chars
returns-clause-deep c = refl

pub returns-clause-exited : goal.returns-clause-exited
unfolding int_wrap digits encode_utf8 utf16_chars
returns-clause-exited c = refl
