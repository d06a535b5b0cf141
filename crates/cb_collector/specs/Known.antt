-- What a collecting store knows besides its objects.
use Rattle.std.specs.Prelude.{◌+◌, ◌-◌, ◌^◌, ℕ, ℤ, Bool, true, false, List, Option, map, min, slice_index, slice_index_or, slice_set, unwrap_or}
use Rattle.std.specs.List.{range_with_len}
use Rattle.cb_plain.specs.Estimates.{survive}
use Rattle.cb_plain.specs.State.{words_of}
use Rattle.cb_plain.specs.declared.facts.Facts.{Facts}
use Rattle.cb_dag.specs.Closed.{gain_of}
use Rattle.cb_collector.specs.declared.tally.Tally.{Tally}

-- what never changes: the part of each site, how many parts there are and the edges between them; how many blocks there are; whether the best set is
-- taken at each so manyth step that asks for room; the code of the estimate; and whether collections are reported
pub record Config : Type 0 where
  pub parts : ℕ
  pub site_parts : List ℕ
  pub edges : List (ℕ × ℕ)
  pub blocks : ℕ
  pub every : Option ℕ
  pub code : ℕ
  pub reports : Bool

-- with it what is known of each part, how many steps asked for room, how many collections there were and what they came to, and what the output
-- of the report took, where it tells that
pub record Known : Type 0 where
  pub config : Config
  pub facts : List Facts
  pub asked : ℕ
  pub collections : ℕ
  pub tally : Tally
  pub told : Option (List ℕ)

abbrev pub part_of : Known → ℕ → ℕ
part_of known site = slice_index known.config.site_parts site

-- numbers stand still at the end of their types
abbrev pub counted : ℕ → ℕ
counted number = min (number + 1) (2 ^ 64 - 1)

abbrev pub summed : ℕ → ℕ → ℕ
summed sum more = min (sum + more) (2 ^ 128 - 1)

-- how many words of a part are reckoned to survive, and what it gains
abbrev pub estimate_in : Known → Facts → ℕ
estimate_in known facts = unwrap_or (survive known.config.code facts) 0

abbrev pub estimates : Known → List ℕ
estimates known = map (estimate_in known) known.facts

abbrev pub gains : Known → List ℤ
gains known = map (λ facts. gain_of facts (estimate_in known facts)) known.facts

-- what is known of a part before anything was placed in it: of what is held 7 words of 8 are reckoned to survive its first collection, and else 1 of 4
abbrev pub first_facts : (held : Bool) → ℕ → Facts
first_facts true part = record { turn = 0; part = part; used = 0; kept = 0; fresh = 0; last_live = 7; last_used = 8; held = true }
first_facts false part = record { turn = 0; part = part; used = 0; kept = 0; fresh = 0; last_live = 1; last_used = 4; held = false }

-- and of all parts, where none is held
abbrev pub facts_at_first : ℕ → List Facts
facts_at_first parts = map (first_facts false) (range_with_len 0 parts)

abbrev pub no_tally : Tally
no_tally = record { partials = 0; fulls = 0; visited = 0; freed = 0 }

-- what is known when an object of so many words of contents was placed at a site: its part uses so much more, which is fresh
abbrev pub with_more : Facts → ℕ → Facts
with_more facts words = record facts { used = facts.used + words; fresh = facts.fresh + words }

abbrev pub facts_with : List Facts → (part words : ℕ) → List Facts
facts_with facts part words = slice_set facts part (with_more (slice_index_or facts part (first_facts false part)) words)

abbrev pub knows_placed : Known → (site size : ℕ) → Known
knows_placed known site size = record known { facts = facts_with known.facts (part_of known site) (words_of size) }
