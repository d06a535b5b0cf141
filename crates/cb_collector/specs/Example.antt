-- Small cases, by numbers.
use Rattle.std.specs.Prelude.{◌≡◌, ◌*◌, pos, ℕ, true, false, List, [], ◌∷◌, None, Some, replicate}
use Rattle.cb_plain.specs.Estimates.{all_code}
use Rattle.cb_plain.specs.State.{Number, Object, Roots}
use Rattle.cb_plain.specs.declared.want.Want.{Want}
use Rattle.cb_heap.specs.declared.no_room.NoRoom.TheVariants as rooms
use Rattle.cb_collector.specs.Collecting.{Standing, survived, tally_behind}
use Rattle.cb_collector.specs.Known.{first_facts, no_tally, with_more}
use Rattle.cb_collector.specs.Policy.{IsRoomy, full_in}

-- one part of so many blocks, with one object of 9 words
abbrev pub nine_words : Object
nine_words = record { site = 0; kind = 0; contents = replicate 6 (Number (pos 0)) }

abbrev pub nine_in : (blocks : ℕ) → Roots → Standing
nine_in blocks roots =
    record {
      known = record {
        config = record { parts = 1; site_parts = 0 ∷ []; edges = []; blocks = blocks; every = None; code = all_code; reports = false };
        facts = with_more (first_facts false 0) 9 ∷ [];
        asked = 0;
        collections = 0;
        tally = no_tally;
        told = None;
      };
      view = record { roots = roots; objects = Some nine_words ∷ [] };
    }

-- so many words are asked for at its site
abbrev pub wants_of : ℕ → List Want
wants_of words = record { site = 0; words = words } ∷ []

-- beside 9 words 14 times 103 have room in 6 blocks, and 15 times don't; 1,003 don't in 3 blocks, of which 1 is kept, and 3 are asked for besides. When
-- nothing survives of 103 words, that is learned; of a part in which nothing was used nothing is learned. A collection of all parts in which 9 words stayed
-- and 1,442 went is counted so
pub record IsExample : Type 0 where
  pub room : (roots : Roots) → IsRoomy (nine_in 6 roots) (wants_of (14 * 103))
  pub none : (roots : Roots) → ¬ IsRoomy (nine_in 6 roots) (wants_of (15 * 103))
  pub numbers : (roots : Roots) → full_in (nine_in 3 roots) (wants_of 1003) ≡ rooms.Full 1 3 3
  pub learned : survived (with_more (first_facts false 7) 103) 0 ≡ record { turn = 1; part = 7; used = 0; kept = 0; fresh = 0; last_live = 0; last_used = 103; held = false }
  pub unused : survived (first_facts true 2) 0 ≡ record { turn = 1; part = 2; used = 0; kept = 0; fresh = 0; last_live = 7; last_used = 8; held = true }
  pub counted : tally_behind false 9 1442 no_tally ≡ record { partials = 0; fulls = 1; visited = 9; freed = 1442 }
