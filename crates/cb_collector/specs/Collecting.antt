-- What a collection of a set of parts leaves: exactly the objects of the set go that nothing reaches.
use Rattle.std.specs.Prelude.{◌≡◌, ◌-◌, ◌==◌, ℕ, Bool, true, false, List, Option, Result, Ok, Err, cond, if◌then◌else◌, map}
use Rattle.std.specs.Io.KnownBytes.{Appends}
use Rattle.std.specs.List.{range_with_len, sum_by}
use Rattle.cb_io.specs.Sink.{AppendsProperPrefix}
use Rattle.cb_plain.specs.declared.facts.Facts.{Facts}
use Rattle.cb_dag.specs.Marks.{marked}
use Rattle.cb_heap.specs.Occupancy.{used}
use Rattle.cb_heap.specs.Reading.{View}
use Rattle.cb_heap.specs.Taking.{IsTaken, left_of}
use Rattle.cb_heap.specs.declared.no_room.NoRoom.{NoRoom}
use Rattle.cb_heap.specs.declared.no_room.NoRoom.TheVariants as rooms
use Rattle.cb_report.specs.Text.{Chosen, full_record, partial_record}
use Rattle.cb_collector.specs.Known.{Config, Known, counted, part_of, summed}
use Rattle.cb_collector.specs.declared.tally.Tally.{Tally}

-- what a store knows, with what is seen of roots and objects
pub record Standing : Type 0 where
  pub known : Known
  pub view : View

abbrev pub used_in : Standing → ℕ → ℕ
used_in standing part = used (part_of standing.known) standing.view.objects part

-- a collection of a set that was chosen, with what showed that it is the best, and one of all parts
pub data Kind : Type 0 where
  Partial : Chosen → Kind
  Full : Kind

abbrev pub is_partial : Kind → Bool
is_partial (Partial chosen) = true
is_partial Full = false

-- the words of the parts of a set
abbrev pub words_in : (parts : ℕ) → List Bool → (ℕ → ℕ) → ℕ
words_in parts set words = sum_by (λ part. cond (marked set part) (words part) 0) (range_with_len 0 parts)

-- what is known of a part: of one of the set in which anything was used, what survived; of another of it, that nothing is fresh
abbrev pub survived : Facts → ℕ → Facts
survived facts now =
    if facts.used == 0 then record facts { turn = counted facts.turn; fresh = 0 } else
    record facts { turn = counted facts.turn; used = now; kept = now; fresh = 0; last_live = now; last_used = facts.used }

abbrev pub fact_behind : List Bool → (ℕ → ℕ) → Facts → Facts
fact_behind set now facts = if marked set facts.part then survived facts (now facts.part) else record facts { turn = counted facts.turn }

abbrev pub facts_behind : List Bool → (ℕ → ℕ) → List Facts → List Facts
facts_behind set now facts = map (fact_behind set now) facts

abbrev pub tally_behind : Bool → (visited freed : ℕ) → Tally → Tally
tally_behind true visited freed tally =
    record { partials = summed tally.partials 1; fulls = tally.fulls; visited = summed tally.visited visited; freed = summed tally.freed freed }
tally_behind false visited freed tally =
    record { partials = tally.partials; fulls = summed tally.fulls 1; visited = summed tally.visited visited; freed = summed tally.freed freed }

-- the record of a collection
abbrev pub text_of : Config → Kind → (number visited freed : ℕ) → List ℕ
text_of config (Partial chosen) number visited freed = partial_record number config.parts config.edges chosen visited freed
text_of config Full number visited freed = full_record number visited freed

-- which goes out where collections are reported; or a write fails
abbrev pub told_if : Bool → Option (List ℕ) → Option (List ℕ) → List ℕ → Result (Unit {0}) NoRoom → Type 0
told_if false before now text result = (result ≡ Ok tt) × (now ≡ before)
told_if true before now text (Ok done) = Appends before now text
told_if true before now text (Err rooms.ReportFault) = AppendsProperPrefix before now text
told_if true before now text (Err other) = ⊥

-- exactly the objects of the parts of a set went that nothing reaches, which is counted as a collection of a set that was chosen or of all parts
pub record Collected (set : List Bool) (is_partial : Bool) (visited freed : ℕ) (before after : Standing) : Type 0 where
  pub residents : List Bool
  pub taken : IsTaken (λ site. marked set (part_of before.known site)) before.view residents
  pub left : after.view ≡ left_of before.view residents
  pub config : after.known.config ≡ before.known.config
  pub facts : after.known.facts ≡ facts_behind set (used_in after) before.known.facts
  pub asked : after.known.asked ≡ before.known.asked
  pub collections : after.known.collections ≡ counted before.known.collections
  pub visited_is : visited ≡ words_in before.known.config.parts set (used_in after)
  pub freed_is : freed ≡ words_in before.known.config.parts set (λ part. used_in before part - used_in after part)
  pub tally : after.known.tally ≡ tally_behind is_partial visited freed before.known.tally

-- and reported, or a write of its record fails
pub record Taken (set : List Bool) (kind : Kind) (before : Standing) (result : Result (Unit {0}) NoRoom) (after : Standing) : Type 0 where
  pub visited : ℕ
  pub freed : ℕ
  pub collected : Collected set (is_partial kind) visited freed before after
  pub told : told_if before.known.config.reports before.known.told after.known.told (text_of before.known.config kind after.known.collections visited freed) result
