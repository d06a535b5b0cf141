use Rattle.cb_interp.proofs.perform_turns.perform_turn.Given as goal

abbrev pub ghost-planned_turn : goal.ghost-planned_turn
ghost-planned_turn g a = (g.outside, a.request.now)

abbrev pub ghost-throw_of : goal.ghost-throw_of
ghost-throw_of g a = g.outside
