-- When a collecting store collects, and which parts.
use Rattle.std.specs.Prelude.{◌≡◌, ◌+◌, ◌-◌, ◌%◌, ◌<◌, ◌≤◌, ◌^◌, ℕ, Bool, true, false, List, [], ◌∷◌, Option, None, Result, Ok, Err, IfSome, length, min, refl, replicate}
use Rattle.cb_plain.specs.Flows.{no_flow}
use Rattle.cb_plain.specs.State.{Object}
use Rattle.cb_plain.specs.declared.want.Want.{Want}
use Rattle.cb_dag.specs.Closed.{IsBest}
use Rattle.cb_dag.specs.Flows.{IsCertificate}
use Rattle.cb_dag.specs.Marks.{marked}
use Rattle.cb_heap.specs.Grants.{words_granted}
use Rattle.cb_heap.specs.Kept.{residents}
use Rattle.cb_heap.specs.Occupancy.{HasRoom, blocks, wanted}
use Rattle.cb_heap.specs.Reading.{View}
use Rattle.cb_heap.specs.Rules.{AreBounded, Meaning, Rules}
use Rattle.cb_heap.specs.declared.no_room.NoRoom.{NoRoom}
use Rattle.cb_heap.specs.declared.no_room.NoRoom.TheVariants as rooms
use Rattle.cb_report.specs.Text.{Chosen}
use Rattle.cb_collector.specs.Collecting.{Full, Partial, Standing, Taken, used_in}
use Rattle.cb_collector.specs.Known.{Known, counted, estimates, gains, knows_placed, part_of}

-- the set that is the best by what is known, with a flow that shows that none gains more
pub record Best (known : Known) (chosen : Chosen) : Type 0 where
  pub best : IsBest (gains known) known.config.edges chosen.set
  pub shown : IsCertificate (gains known) known.config.edges chosen.set chosen.flow
  pub facts : chosen.facts ≡ known.facts
  pub estimates_are : chosen.estimates ≡ estimates known

abbrev pub HasNone : List Bool → Type 0
HasNone set = (part : ℕ) → marked set part ≡ false

abbrev pub HasSome : List Bool → Type 0
HasSome set = (part : ℕ) × (marked set part ≡ true)

-- no part, with a flow of nothing
abbrev pub none_chosen : Known → Chosen
none_chosen known =
    record { facts = known.facts; estimates = estimates known; set = replicate (length known.facts) false; flow = no_flow (length (gains known)) (length known.config.edges) }

-- where all that is used is reckoned to survive, it is the best set, and no other is
pub record NoneIsBest (known : Known) : Type 0 where
  pub is : Best known (none_chosen known)
  pub only : (chosen : Chosen) → Best known chosen → HasNone chosen.set

-- the best set is taken, if it has a part
pub data TakesBest (before : Standing) (chosen : Chosen) : Result (Unit {0}) NoRoom → Standing → Type 0 where
  Leaves : Best before.known chosen → HasNone chosen.set → TakesBest before chosen (Ok tt) before
  Takes : (result : Result (Unit {0}) NoRoom) → (after : Standing) → Best before.known chosen → HasSome chosen.set → Taken chosen.set (Partial chosen) before result after
      → TakesBest before chosen result after

-- all parts are
abbrev pub all_parts : Known → List Bool
all_parts known = replicate known.config.parts true

abbrev pub TakesAll : Standing → Result (Unit {0}) NoRoom → Standing → Type 0
TakesAll before result after = Taken (all_parts before.known) Full before result after

-- what is asked for has room
abbrev pub IsRoomy : Standing → List Want → Type 0
IsRoomy standing wants = HasRoom standing.known.config.parts (part_of standing.known) standing.view.objects wants standing.known.config.blocks

-- the blocks that are kept; those that are asked for besides, as far as 64 bits count; and those that there are
abbrev pub live_in : Standing → ℕ
live_in standing = blocks standing.known.config.parts (used_in standing)

abbrev pub asked_in : Standing → List Want → ℕ
asked_in standing wants = blocks standing.known.config.parts (λ part. used_in standing part + wanted (part_of standing.known) wants part) - live_in standing

abbrev pub full_in : Standing → List Want → NoRoom
full_in standing wants = rooms.Full (live_in standing) (min (asked_in standing wants) (2 ^ 64 - 1)) standing.known.config.blocks

-- a part in which anything is used isn't in the set
abbrev pub LeavesOut : Standing → List Bool → Type 0
LeavesOut standing set = (part : ℕ) × (part < standing.known.config.parts) × (marked set part ≡ false) × (0 < used_in standing part)

-- where there is no room, all parts are taken if the set that was chosen left one out; and where there is none then, room is refused
pub data MakesLast (before : Standing) (set : List Bool) (wants : List Want) : Result (Unit {0}) NoRoom → Standing → Type 0 where
  Fits : IsRoomy before wants → MakesLast before set wants (Ok tt) before
  Refuses : ¬ IsRoomy before wants → ¬ LeavesOut before set → MakesLast before set wants (Err (full_in before wants)) before
  Unreported : (after : Standing) → ¬ IsRoomy before wants → LeavesOut before set → TakesAll before (Err rooms.ReportFault) after
      → MakesLast before set wants (Err rooms.ReportFault) after
  FitsThen : (after : Standing) → ¬ IsRoomy before wants → LeavesOut before set → TakesAll before (Ok tt) after → IsRoomy after wants
      → MakesLast before set wants (Ok tt) after
  RefusesThen : (after : Standing) → ¬ IsRoomy before wants → LeavesOut before set → TakesAll before (Ok tt) after → ¬ IsRoomy after wants
      → MakesLast before set wants (Err (full_in after wants)) after

-- where there is no room, the best set is taken first
pub data Makes (before : Standing) (wants : List Want) : Result (Unit {0}) NoRoom → Standing → Type 0 where
  Roomy : IsRoomy before wants → Makes before wants (Ok tt) before
  UnreportedBest : (chosen : Chosen) → (after : Standing) → ¬ IsRoomy before wants → TakesBest before chosen (Err rooms.ReportFault) after
      → Makes before wants (Err rooms.ReportFault) after
  ByBest : (chosen : Chosen) → (middle after : Standing) → (result : Result (Unit {0}) NoRoom) → ¬ IsRoomy before wants → TakesBest before chosen (Ok tt) middle
      → MakesLast middle chosen.set wants result after → Makes before wants result after

-- a step that asks for room is counted; at each so manyth one the best set is taken, whether there is room or not
abbrev pub with_asked : Standing → Standing
with_asked standing = record standing { known = record standing.known { asked = counted standing.known.asked } }

abbrev pub IsDue : Known → Type 0
IsDue known = IfSome known.config.every (λ every. (known.asked % every) ≡ 0) × (known.config.every ≡ None → ⊥)

pub data MakesCounted (before : Standing) (wants : List Want) : Result (Unit {0}) NoRoom → Standing → Type 0 where
  NotDue : (result : Result (Unit {0}) NoRoom) → (after : Standing) → ¬ IsDue before.known → Makes before wants result after → MakesCounted before wants result after
  DueUnreported : (chosen : Chosen) → (after : Standing) → IsDue before.known → TakesBest before chosen (Err rooms.ReportFault) after
      → MakesCounted before wants (Err rooms.ReportFault) after
  Due : (chosen : Chosen) → (middle after : Standing) → (result : Result (Unit {0}) NoRoom) → IsDue before.known → TakesBest before chosen (Ok tt) middle
      → Makes middle wants result after → MakesCounted before wants result after

-- what is asked for before any object was placed is the start's, which isn't counted
abbrev pub MakesFor : Standing → List (Option Object) → List Want → Result (Unit {0}) NoRoom → Standing → Type 0
MakesFor before [] wants result after = Makes before wants result after
MakesFor before (first ∷ objects) wants result after = MakesCounted (with_asked before) wants result after

abbrev pub standing_of : Known → View → Standing
standing_of known view = record { known = known; view = view }

-- the rules of a collecting store, which grants at most 2^28 words at once
pub record MakesRoom (known : Known) (view : View) (wants : List Want) (result : Result (Unit {0}) NoRoom) (after : Meaning Known) : Type 0 where
  pub few : result ≡ Ok tt → words_granted wants ≤ 2 ^ 28
  pub behind : Standing
  pub makes : MakesFor (standing_of known view) view.objects wants result behind
  pub known_is : after.facts ≡ behind.known
  pub residents_are : after.residents ≡ residents behind.view.objects

pub record CollectsAll (known : Known) (view : View) (result : Result (Unit {0}) NoRoom) (after : Meaning Known) : Type 0 where
  pub behind : Standing
  pub takes : TakesAll (standing_of known view) result behind
  pub known_is : after.facts ≡ behind.known
  pub residents_are : after.residents ≡ residents behind.view.objects

abbrev pub rules_of : Rules Known
rules_of = record { fixed = true; makes_room = MakesRoom; collects_all = CollectsAll; placed = knows_placed }

-- memory is wanted in none of its answers
last_has : {before after : Standing} (set : List Bool) (wants : List Want) (result : Result (Unit {0}) NoRoom) → MakesLast before set wants result after → result ≡ Err rooms.OutOfMemory → ⊥
last_has set wants result (Fits roomy) is = cc is
last_has set wants result (Refuses past none) is = cc is
last_has set wants result (Unreported after past some takes) is = cc is
last_has set wants result (FitsThen after past some takes roomy) is = cc is
last_has set wants result (RefusesThen after past some takes again) is = cc is

room_has : {before after : Standing} (wants : List Want) (result : Result (Unit {0}) NoRoom) → Makes before wants result after → result ≡ Err rooms.OutOfMemory → ⊥
room_has wants result (Roomy roomy) is = cc is
room_has wants result (UnreportedBest chosen after past takes) is = cc is
room_has wants result (ByBest chosen middle after made past takes last) is = last_has chosen.set wants made last is

counted_has : {before after : Standing} (wants : List Want) (result : Result (Unit {0}) NoRoom) → MakesCounted before wants result after → result ≡ Err rooms.OutOfMemory → ⊥
counted_has wants result (NotDue made after not makes) is = room_has wants made makes is
counted_has wants result (DueUnreported chosen after due takes) is = cc is
counted_has wants result (Due chosen middle after made due takes makes) is = room_has wants made makes is

step_has : (before after : Standing) (objects : List (Option Object)) (wants : List Want) (result : Result (Unit {0}) NoRoom) → MakesFor before objects wants result after → result ≡ Err rooms.OutOfMemory → ⊥
step_has before after [] wants result makes is = room_has wants result makes is
step_has before after (first ∷ objects) wants result makes is = counted_has wants result makes is

pub rules_are_bounded : AreBounded rules_of
rules_are_bounded =
    record {
      words = λ known view wants after fixed makes. makes.few refl;
      memory = λ known view wants after makes. absurd (step_has (standing_of known view) makes.behind view.objects wants (Err rooms.OutOfMemory) makes.makes refl);
    }
