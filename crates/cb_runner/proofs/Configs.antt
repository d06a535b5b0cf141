-- What never changes of a collecting store stays as it is through a run.
use Rattle.std.proofs.Common.{◌≡◌, ◌∙◌, ap, refl, ℕ, Bool, List, [], ◌∷◌, Option}
use Rattle.std.specs.List.{flat_map, fold}
use Rattle.std.specs.declared.result.Result.{Result}
use Rattle.cb_act.specs.Turning.{Asked, Moment, NotAsked, NotSwept, RoomMade, Swept, SweptAll, TurnMade, WholeTurn, knows_placed}
use Rattle.cb_collector.specs.Collecting.{Standing}
use Rattle.cb_collector.specs.Known.{Config, Known}
use Rattle.cb_collector.specs.Policy.{ByBest, CollectsAll, Due, DueUnreported, Fits, FitsThen, Leaves, Makes, MakesCounted, MakesFor, MakesLast, MakesRoom, NotDue, Refuses, RefusesThen, Roomy, Takes, TakesBest, Unreported, UnreportedBest, rules_of, standing_of, with_asked}
use Rattle.cb_heap.specs.Reading.{View}
use Rattle.cb_heap.specs.Rules.{Meaning}
use Rattle.cb_heap.specs.declared.no_room.NoRoom.{NoRoom}
use Rattle.cb_interp.specs.Running.{Begins, Goes, Reads, Went, given}
use Rattle.cb_link.specs.Program.{Linked}
use Rattle.cb_machine.specs.Machine.{Machine}
use Rattle.cb_machine.specs.Plans.{objects_of}
use Rattle.cb_machine.specs.Starting.{start_plan}
use Rattle.cb_plain.specs.State.{Object, State}
use Rattle.cb_plain.specs.declared.want.Want.{Want}
use Rattle.cb_report.specs.Text.{Chosen}
use Rattle.cb_runner.specs.Running.{ComesTo, config_of, known_first, machine_of, texts_of}
use Rattle.cb_runner.specs.Words.{Run}

abbrev Stays : Standing → Standing → Type 0
Stays before after = after.known.config ≡ before.known.config

by_last : (before after : Standing) (set : List Bool) (wants : List Want) (result : Result (Unit {0}) NoRoom) → MakesLast before set wants result after → Stays before after
by_last before after set wants result (Fits roomy) = refl
by_last before after set wants result (Refuses past none) = refl
by_last before after set wants result (Unreported own past some takes) = takes.collected.config
by_last before after set wants result (FitsThen own past some takes roomy) = takes.collected.config
by_last before after set wants result (RefusesThen own past some takes again) = takes.collected.config

by_best : (before after : Standing) (chosen : Chosen) (result : Result (Unit {0}) NoRoom) → TakesBest before chosen result after → Stays before after
by_best before after chosen result (Leaves best none) = refl
by_best before after chosen result (Takes own there best some taken) = taken.collected.config

by_makes : (before after : Standing) (wants : List Want) (result : Result (Unit {0}) NoRoom) → Makes before wants result after → Stays before after
by_makes before after wants result (Roomy roomy) = refl
by_makes before after wants result (UnreportedBest chosen own past takes) = by_best before after chosen result takes
by_makes before after wants result (ByBest chosen middle own made past takes last) = by_last middle after chosen.set wants result last ∙ by_best before middle chosen _ takes

by_counted : (before after : Standing) (wants : List Want) (result : Result (Unit {0}) NoRoom) → MakesCounted before wants result after → Stays before after
by_counted before after wants result (NotDue own there not makes) = by_makes before after wants result makes
by_counted before after wants result (DueUnreported chosen own due takes) = by_best before after chosen result takes
by_counted before after wants result (Due chosen middle own made due takes makes) = by_makes middle after wants result makes ∙ by_best before middle chosen _ takes

by_for : (before after : Standing) (objects : List (Option Object)) (wants : List Want) (result : Result (Unit {0}) NoRoom) → MakesFor before objects wants result after → Stays before after
by_for before after [] wants result makes = by_makes before after wants result makes
by_for before after (first ∷ objects) wants result makes = by_counted (with_asked before) after wants result makes

by_room : (known : Known) (view : View) (wants : List Want) (result : Result (Unit {0}) NoRoom) (after : Meaning Known) → MakesRoom known view wants result after → after.facts.config ≡ known.config
by_room known view wants result after makes =
    ap (λ (known : Known). known.config) makes.known_is ∙ by_for (standing_of known view) makes.behind view.objects wants result makes.makes

by_all : (known : Known) (view : View) (result : Result (Unit {0}) NoRoom) (after : Meaning Known) → CollectsAll known view result after → after.facts.config ≡ known.config
by_all known view result after collects = ap (λ (known : Known). known.config) collects.known_is ∙ collects.takes.collected.config

by_placing : (objects : List Object) (known : Known) → (fold (knows_placed rules_of) known objects).config ≡ known.config
by_placing [] known = refl
by_placing (object ∷ objects) known = by_placing objects (knows_placed rules_of known object)

module _ (machine : Machine) where
  by_asked : (before after : Moment Known) (wants : List Want) → RoomMade rules_of before wants after → after.facts.config ≡ before.facts.config
  by_asked before after wants NotAsked = refl
  by_asked before after wants (Asked first rest own ruled collects same) = by_room before.facts _ (first ∷ rest) _ _ ruled

  by_turn : (before after : Moment Known) → TurnMade rules_of machine before after → after.facts.config ≡ before.facts.config
  by_turn before after turn =
      ap (λ (known : Known). known.config) turn.knows ∙ by_placing (flat_map objects_of turn.own.placed) turn.middle.facts ∙ by_asked before turn.middle _ turn.room

  by_sweep : (before made after : Moment Known) → Swept rules_of machine before made after → after.facts.config ≡ made.facts.config
  by_sweep before made after (NotSwept calls) = refl
  by_sweep before made after (SweptAll own calls ruled collects same) = by_all made.facts _ _ _ ruled

  by_whole : (before after : Moment Known) → WholeTurn rules_of machine before after → after.facts.config ≡ before.facts.config
  by_whole before after turn = by_sweep before turn.middle after turn.swept ∙ by_turn before turn.middle turn.made

  module _ {In : Type 0} (left : In → Option (List ℕ)) (gave : In → ℕ → List ℕ → In → Type 0) (first : Moment Known) (start : State) (source : In) where
    by_went : (count : ℕ) (read : List ℕ) (moment : Moment Known) (state : State) (last : In) → Went left gave rules_of machine first start source count read moment state last
        → moment.facts.config ≡ first.facts.config
    by_went count read moment state last Begins = refl
    by_went count read moment state last (Goes before taken mid own here after input went asks turn steps stands) =
        by_whole mid moment turn ∙ by_went before taken mid here input went
    by_went count read moment state last (Reads before taken more rest mid own here after input behind went asks is_given turn steps unread stands) =
        by_whole (given mid _) (given moment rest) turn ∙ by_went before taken mid here input went

pub config_stays : {In : Type 0} (left : In → Option (List ℕ)) (gave : In → ℕ → List ℕ → In → Type 0) (run : Run) (program : Linked) (first : In) (count : ℕ) (read : List ℕ) (moment : Moment Known)
    (state : State) (last : In) → ComesTo left gave run program first count read moment state last → moment.facts.config ≡ config_of run program
config_stays left gave run program first count read moment state last comes =
    by_went (machine_of run program) left gave comes.begun _ first count read moment state last comes.went
    ∙ ap (λ (known : Known). known.config) comes.begins.knows
    ∙ by_placing (flat_map objects_of (start_plan (machine_of run program) (texts_of run) []).placed) comes.begins.middle
    ∙ by_room (known_first run program) _ _ _ _ comes.begins.ruled
