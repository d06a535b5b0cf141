use Rattle.cb_interp.proofs.TextReading.{text_there}
use Rattle.cb_interp.proofs.TextsThere.{exception_there}
use Rattle.cb_interp.proofs.texts.exceptions_are_told.Goals as goal

pub returns : goal.returns
returns c = record {
  readable = λ program objects serial is typed heap of. let natives = c.linked_has_natives.ensures program is typed in exception_there program objects natives.core heap serial of;
  told = λ program objects serial is typed heap of.
      let natives = c.linked_has_natives.ensures program is typed in text_there program objects serial (exception_there program objects natives.core heap serial of);
}
