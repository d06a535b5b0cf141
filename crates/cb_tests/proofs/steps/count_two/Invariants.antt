use Rattle.cb_tests.proofs.steps.count_two.Given as goal

abbrev pub ghosts-two : goal.ghosts-two
ghosts-two a = record { name = a.blank.name; parts = a.blank.parts }
