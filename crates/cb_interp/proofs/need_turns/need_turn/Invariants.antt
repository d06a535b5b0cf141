use Rattle.cb_interp.proofs.need_turns.need_turn.Given as goal

abbrev pub ghost-throw_need : goal.ghost-throw_need
ghost-throw_need g a = g.outside

abbrev pub ghost-begins_class : goal.ghost-begins_class
ghost-begins_class g a = g.outside

abbrev pub ghost-makes_need : goal.ghost-makes_need
ghost-makes_need g a = g.outside

abbrev pub ghost-loads_need : goal.ghost-loads_need
ghost-loads_need g a = g.outside

abbrev pub ghost-switch_need : goal.ghost-switch_need
ghost-switch_need g a = g.outside

abbrev pub ghost-divide_need : goal.ghost-divide_need
ghost-divide_need g a = g.outside
