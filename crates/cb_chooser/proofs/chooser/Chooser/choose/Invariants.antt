use Rattle.cb_chooser.proofs.chooser.Chooser.choose.Given as goal

abbrev pub ghosts-solve_uncounted : goal.ghosts-solve_uncounted
ghosts-solve_uncounted a = record { name = a.blank.name; parts = a.blank.parts }
