use Rattle.cb_interp.proofs.LinkedMaking.{may_hold, may_make}
use Rattle.cb_interp.proofs.linked.linked_makes.Goals as goal

pub returns : goal.returns
returns c = record {
  makes = λ program shapes is typed are. may_make program (c.linked_programs.ensures.whole program is) shapes are (c.linked_has_natives.ensures program is typed);
  holds = λ program shapes is typed are. may_hold program (c.linked_programs.ensures.whole program is) shapes are (c.linked_has_natives.ensures program is typed);
}
