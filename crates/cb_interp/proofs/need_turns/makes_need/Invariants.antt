use Rattle.cb_interp.proofs.need_turns.makes_need.Given as goal

abbrev pub ghost-new_need : goal.ghost-new_need
ghost-new_need g a = g.outside

abbrev pub ghost-array_need : goal.ghost-array_need
ghost-array_need g a = g.outside

abbrev pub ghost-nested_need : goal.ghost-nested_need
ghost-nested_need g a = g.outside
