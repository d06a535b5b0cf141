use Rattle.cb_interp.proofs.enum_turns.enum_turn.Given as goal

abbrev pub ghost-throw_of : goal.ghost-throw_of
ghost-throw_of g a = g.outside

abbrev pub ghost-begins_class : goal.ghost-begins_class
ghost-begins_class g a = g.outside
