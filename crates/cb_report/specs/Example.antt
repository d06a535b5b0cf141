-- A report as an example: two parts, with an edge from the first to the second, of which the first gains -2 and the second 5; both are taken, and later all.
use Rattle.std.specs.Prelude.{◌≡◌, true, false, [], ◌∷◌, codes}
use Rattle.cb_plain.specs.declared.facts.Facts.{Facts}
use Rattle.cb_report.specs.Text.{Chosen, full_record, header, partial_record}

-- of 10 words 6 are reckoned to survive in the first part, and of 9 words 2 in the second
abbrev pub first_part : Facts
first_part = record { turn = 0; part = 0; used = 10; kept = 0; fresh = 10; last_live = 7; last_used = 8; held = true }

abbrev pub second_part : Facts
second_part = record { turn = 0; part = 1; used = 9; kept = 0; fresh = 9; last_live = 1; last_used = 4; held = false }

-- two words flow to the second part, from it to the first, and from there to the sink
abbrev pub both_chosen : Chosen
both_chosen =
    record { facts = first_part ∷ second_part ∷ []; estimates = 6 ∷ 2 ∷ []; set = true ∷ true ∷ []; flow = record { sources = 0 ∷ 2 ∷ []; sinks = 2 ∷ 0 ∷ []; arcs = 2 ∷ [] } }

-- neither is taken where the second gains no more than is lost by the first: nothing but the flow that shows it is told of the set
abbrev pub none_chosen : Chosen
none_chosen =
    record { facts = record first_part { used = 0; kept = 0; fresh = 0 } ∷ second_part ∷ []; estimates = 0 ∷ 9 ∷ []; set = false ∷ false ∷ []; flow = record { sources = 0 ∷ 0 ∷ []; sinks = 0 ∷ 0 ∷ []; arcs = 0 ∷ [] } }

pub record IsExample : Type 0 where
  pub head : header 2 ≡ codes "cbgc 1 parts 2\n"
  pub both : partial_record 1 2 ((0, 1) ∷ []) both_chosen 8 11
      ≡ codes "gc 1 partial\npart 0 used 10 estimate 6 gain -2\npart 1 used 9 estimate 2 gain 5\nset 0 1\nflow s 1 2\nflow 1 0 2\nflow 0 t 2\nvisited 8 freed 11\nend\n"
  pub none : partial_record 2 2 ((0, 1) ∷ []) none_chosen 0 0 ≡ codes "gc 2 partial\npart 1 used 9 estimate 9 gain -9\nset\nvisited 0 freed 0\nend\n"
  pub all : full_record 3 8 0 ≡ codes "gc 3 full\nvisited 8 freed 0\nend\n"
