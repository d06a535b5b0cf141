use Rattle.std.proofs.Common.{ap}
use Rattle.cb_link.specs.Program.{Linked}
use Rattle.cb_interp.proofs.LinkedFew.{few_parameters}
use Rattle.cb_interp.proofs.LinkedFit.{arrays_fit, objects_fit, throwables_fit, thrown_low}
use Rattle.cb_interp.proofs.LinkedMarks.{marks_natives}
use Rattle.cb_interp.proofs.linked.linked_programs_fit.Goals as goal

pub returns : goal.returns
returns c = record {
  few = few_parameters;
  natives = marks_natives;
  objects = λ program shapes is are. objects_fit program (c.linked_programs.ensures.whole program is) shapes are;
  arrays = λ program shapes is are. arrays_fit program (c.linked_programs.ensures.whole program is) shapes are;
  thrown = λ program shapes is typed are site among. let natives = c.linked_has_natives.ensures program is typed in
      throwables_fit program (c.linked_programs.ensures.whole program is) shapes are _ natives.core.suppressed_fields site (thrown_low site among)
      (c.exceptions_are_thrown.ensures program is.library is.more (ap (λ (program : Linked). program.classes) is.all) is.is_library (c.linked_programs.ensures.whole program is) site among);
  placed = λ program shapes is typed are. let natives = c.linked_has_natives.ensures program is typed in
      throwables_fit program (c.linked_programs.ensures.whole program is) shapes are _ natives.core.suppressed_fields;
  machine = λ program is.
      c.exceptions_are_thrown.ensures program is.library is.more (ap (λ (program : Linked). program.classes) is.all) is.is_library (c.linked_programs.ensures.whole program is);
}
