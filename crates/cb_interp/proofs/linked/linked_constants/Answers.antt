use Rattle.cb_interp.proofs.LinkedConstants.{characters_there, class_placed, message_there, names_there, own_placed, text_placed}
use Rattle.cb_interp.proofs.linked.linked_constants.Goals as goal

pub returns : goal.returns
returns c = record {
  sites = λ program is. characters_there program (c.linked_programs.ensures.whole program is);
  texts = λ program shapes is typed are.
      text_placed program (c.linked_programs.ensures.whole program is) shapes are (c.linked_is_sound.ensures program is typed).constants
      (c.linked_has_natives.ensures program is typed).core;
  own = λ program shapes is typed are class.
      own_placed program class
      (text_placed program (c.linked_programs.ensures.whole program is) shapes are (c.linked_is_sound.ensures program is typed).constants
      (c.linked_has_natives.ensures program is typed).core);
  classes = λ program shapes is typed are.
      class_placed program (c.linked_programs.ensures.whole program is) shapes are (c.linked_is_sound.ensures program is typed).class_objects
      (c.linked_has_natives.ensures program is typed).core;
  there = λ program is. names_there program (c.linked_programs.ensures.whole program is);
  message = λ program is. message_there program (c.linked_programs.ensures.whole program is);
}
