use Rattle.cb_collection_cases.proofs.collecting.collect.Given as goal

abbrev pub ghosts-mark_and_slide : goal.ghosts-mark_and_slide
ghosts-mark_and_slide a = record { name = a.blank.name; parts = a.blank.parts }

abbrev pub ghosts-mark_only : goal.ghosts-mark_only
ghosts-mark_only a = record { name = a.blank.name; parts = a.blank.parts }
