-- Natives that set the text of their own object: what is asked for, and what is done.
use Rattle.std.proofs.Common.{◌≡◌, ◌∙◌, ap, arith, refl, sym, rules, ℕ, ◌+◌, ◌*◌, ◌<◌, Bool, true, false, IsTrue, List, [], Option, Some, None}
use Rattle.std.proofs.lemmas.Bool.{false≢true}
use Rattle.std.specs.List.{AllByRecursion}
use Rattle.std.specs.declared.result.Result.TheVariants.{Err, Ok}
use Rattle.cb_heap.specs.Follows.{Follows}
use Rattle.cb_heap.specs.Kept.{is_held}
use Rattle.cb_heap.specs.Reading.{serial_of}
use Rattle.cb_heap.specs.Rules.{Rules}
use Rattle.cb_library.specs.declared.native.Native.{Native}
use Rattle.cb_library.specs.declared.native.Native.TheVariants as natives
use Rattle.cb_link.specs.Program.{Linked}
use Rattle.cb_machine.specs.Builders.{own_native}
use Rattle.cb_machine.specs.Machine.{Machine}
use Rattle.cb_machine.specs.Natives.{performed}
use Rattle.cb_machine.specs.Performing.{Gives, Stops, count_slot, value_slot}
use Rattle.cb_machine.specs.Plans.{Plan, asked}
use Rattle.cb_machine.specs.Sites.{builder_characters, made_characters}
use Rattle.cb_machine.specs.Throwing.{throws}
use Rattle.cb_plain.specs.Requests.{add_want}
use Rattle.cb_plain.specs.State.{Object, Roots, State, words_of}
use Rattle.cb_plain.specs.Updates.{object_in}
use Rattle.cb_plain.specs.declared.value.Value.{Value}
use Rattle.cb_plain.specs.declared.want.Want.{Want}
use Rattle.cb_natives.specs.Answers.{Beside}
use Rattle.cb_natives.specs.Exceptions.{site_of}
use Rattle.cb_natives.specs.Making.{Asks, MayLeave, Performs, Throws, facts_behind, given_back, machine_in, state_in}
use Rattle.cb_natives.specs.MakingOwn.{Decides, MayChange, call_of, itself, itself_at, made_by, makes_own, objects_behind, planned, wanted_by}
use Rattle.cb_natives.specs.Pieces.{text_units}
use Rattle.cb_natives.specs.declared.answers.Exception.{Exception}
use Rattle.cb_natives.specs.declared.own_change.Change.{Change}
use Rattle.cb_natives.specs.declared.own_change.Change.TheVariants as changes
use Rattle.cb_natives.specs.declared.own_change.Own.{Own}
use Rattle.cb_natives.proofs.OwnChanging.{roomy_size}
use Rattle.cb_natives.proofs.OwnLaws.{held_so, number_kept, reference_kept, there_kept}

-- ---- which native it is

performed_own : (machine : Machine) (state : State) (native : Native) (arguments : List Value) → makes_own native ≡ true
    → performed machine state native arguments ≡ own_native (record { machine = machine; state = state }) native arguments
performed_own machine state natives.StringNew arguments makes = refl
performed_own machine state natives.StringNewChars arguments makes = refl
performed_own machine state natives.StringNewRange arguments makes = refl
performed_own machine state natives.StringBuilderNew arguments makes = refl
performed_own machine state natives.StringBuilderNewCapacity arguments makes = refl
performed_own machine state natives.StringBuilderNewString arguments makes = refl
performed_own machine state natives.StringBuilderAppendString arguments makes = refl
performed_own machine state natives.StringBuilderAppendInt arguments makes = refl
performed_own machine state natives.StringBuilderAppendLong arguments makes = refl
performed_own machine state natives.StringBuilderAppendChar arguments makes = refl
performed_own machine state natives.StringBuilderAppendBoolean arguments makes = refl
performed_own machine state natives.StringBuilderAppendChars arguments makes = refl
performed_own machine state natives.StringBuilderSetCharAt arguments makes = refl
performed_own machine state natives.StringBuilderDeleteCharAt arguments makes = refl
performed_own machine state natives.StringBuilderSetLength arguments makes = refl
performed_own machine state other arguments makes = absurd (false≢true makes)

-- ---- what is asked for

one_want : (site size : ℕ) → add_want [] (record { site = site; words = (0 + 1) * words_of size }) ≡ add_want [] (record { site = site; words = words_of size })
one_want site size =
    let words : (0 + 1) * words_of size ≡ words_of size = omega arith in
    ap (λ (words : ℕ). add_want [] (record { site = site; words = words })) words

asked_so : (program : Linked) (objects : List (Option Object)) (index : ℕ → ℕ) (frames : ℕ) (beside : Beside) (serial : ℕ) (change : Change) → MayChange program objects index serial change
    → asked (planned (call_of program objects frames beside) (made_by program objects index serial change)) ≡ wanted_by change
asked_so program objects index frames beside serial (changes.Sets text size) may =
    one_want made_characters _ ∙ ap (λ (size : ℕ). add_want [] (record { site = made_characters; words = words_of size })) (roomy_size (text_units program objects index text) size may.fits)
asked_so program objects index frames beside serial (changes.Builds text count room) may =
    one_want builder_characters _ ∙ ap (λ (size : ℕ). add_want [] (record { site = builder_characters; words = words_of size })) (roomy_size (text_units program objects index text) room may.0.fits)
asked_so program objects index frames beside serial (changes.Writes array from piece count) may = refl
asked_so program objects index frames beside serial (changes.Deletes array place count) may = refl

pub sites_so : (change : Change) → AllByRecursion (λ (want : Want). want.site < 32) (wanted_by change)
sites_so (changes.Sets text size) = (omega arith, tt)
sites_so (changes.Builds text count room) = (omega arith, tt)
sites_so (changes.Writes array from piece count) = tt
sites_so (changes.Deletes array place count) = tt

-- ---- what is planned, thrown and done

abbrev beside_of : Roots → (input printed : List ℕ) → Beside
beside_of roots input printed = record { roots = roots; input = input; printed = printed; exit = None }

module _ (program : Linked) (objects : List (Option Object)) (index : ℕ → ℕ) (native : Native) (arguments : List Value) (makes : makes_own native ≡ true) where
  module _ (own : Own) (decided : Decides program objects index (λ call. own_native call native arguments) (Ok own)) where
    abbrev serial : ℕ
    serial = serial_of index own.at

    abbrev plan_of : (frames : ℕ) → Roots → (input printed : List ℕ) → Plan
    plan_of frames roots input printed = planned (call_of program objects frames (beside_of roots input printed)) (made_by program objects index serial own.change)

    does : (roots : Roots) (frames : ℕ) (input printed : List ℕ)
        → performed (machine_in program frames) (state_in (record { roots = roots; objects = objects }) input printed) native arguments
        ≡ Some (Gives (plan_of frames roots input printed) (itself own.gives serial))
    does roots frames input printed =
        performed_own (machine_in program frames) (state_in (record { roots = roots; objects = objects }) input printed) native arguments makes
        ∙ decided.does frames (beside_of roots input printed)

    wants_so : (roots : Roots) (frames : ℕ) (input printed : List ℕ) → asked (plan_of frames roots input printed) ≡ wanted_by own.change
    wants_so roots frames input printed = asked_so program objects index frames (beside_of roots input printed) serial own.change decided.may

    pub asks_so : (roots : Roots) (wants : List Want) → wants ≡ wanted_by own.change → Asks program (record { roots = roots; objects = objects }) native arguments wants
    asks_so roots wants is = λ frames input printed. record {
      own = plan_of frames roots input printed;
      answer = itself own.gives serial;
      is = does roots frames input printed;
      asks = wants_so roots frames input printed ∙ sym is;
    }

    pub asked_by : (roots : Roots) (wants : List Want) → Asks program (record { roots = roots; objects = objects }) native arguments wants → wants ≡ wanted_by own.change
    asked_by roots wants asks =
        let makes = asks 0 [] [] in
        let same : Some (Gives makes.own makes.answer) ≡ Some (Gives (plan_of 0 roots [] []) (itself own.gives serial)) = sym makes.is ∙ does roots 0 [] [] in
        let plans : makes.own ≡ plan_of 0 roots [] [] = cc same in
        sym makes.asks ∙ ap asked plans ∙ wants_so roots 0 [] []

    pub leaves_so : (roots : Roots) (allows : ℕ → ℕ → Bool) → MayLeave program allows (record { roots = roots; objects = objects }) native arguments
        → Follows allows (objects_behind (made_by program objects index serial own.change))
    leaves_so roots allows leaves =
        leaves.each (plan_of leaves.frames roots leaves.input leaves.printed) (itself own.gives serial) (does roots leaves.frames leaves.input leaves.printed)

    pub performs_so : {Facts : Type 0} (rules : Rules Facts) (facts : Facts) (kept : List (Option Object)) (now : Facts) (answer : List Value)
        → kept ≡ objects_behind (made_by program objects index serial own.change) → now ≡ facts_behind rules facts (made_by program objects index serial own.change).placed
        → answer ≡ itself own.gives serial → (roots : Roots)
        → Performs rules program native arguments (record { roots = roots; objects = objects }) facts (record { roots = roots; objects = kept }) now answer
    performs_so rules facts kept now answer behind knows is roots = λ frames input printed. record {
      own = plan_of frames roots input printed;
      is = does roots frames input printed ∙ ap (λ (answer : List Value). Some (Gives (plan_of frames roots input printed) answer)) (sym is);
      steps = ap (λ (kept : List (Option Object)). state_in (record { roots = roots; objects = kept }) input printed) behind;
      knows = knows;
    }

  module _ (exception : Exception) (decided : Decides program objects index (λ call. own_native call native arguments) (Err exception)) where
    thrown : (roots : Roots) (frames : ℕ) (input printed : List ℕ)
        → performed (machine_in program frames) (state_in (record { roots = roots; objects = objects }) input printed) native arguments
        ≡ Some (Stops (throws (machine_in program frames) (state_in (record { roots = roots; objects = objects }) input printed) (site_of exception)))
    thrown roots frames input printed =
        performed_own (machine_in program frames) (state_in (record { roots = roots; objects = objects }) input printed) native arguments makes
        ∙ decided.does frames (beside_of roots input printed)

    pub throws_so : (roots : Roots) → Throws program (record { roots = roots; objects = objects }) native arguments exception
    throws_so roots = λ frames input printed. thrown roots frames input printed

    pub not_asked : (roots : Roots) (wants : List Want) → Asks program (record { roots = roots; objects = objects }) native arguments wants → ⊥
    not_asked roots wants asks =
        let makes = asks 0 [] [] in
        let same : Some (Gives makes.own makes.answer) ≡ Some (Stops (throws (machine_in program 0) (state_in (record { roots = roots; objects = objects }) [] []) (site_of exception))) =
        sym makes.is ∙ thrown roots 0 [] [] in
        cc same

-- ---- what is given back

pub given_so : (index : ℕ → ℕ) (gives : Bool) (at : ℕ) → given_back index (itself_at gives at) ≡ itself gives (serial_of index at)
given_so index true at = refl
given_so index false at = refl

object_held : (objects : List (Option Object)) (serial : ℕ) → (object : Object) × (object_in objects serial ≡ Some object) → IsTrue (is_held objects serial)
object_held objects serial found = held_so objects serial (there_kept objects serial found.0 found.1)

pub change_held : (program : Linked) (objects : List (Option Object)) (index : ℕ → ℕ) (serial : ℕ) (change : Change) → MayChange program objects index serial change
    → IsTrue (is_held objects serial)
change_held program objects index serial (changes.Sets text size) may = object_held objects serial (reference_kept objects serial value_slot may.refers)
change_held program objects index serial (changes.Builds text count room) may = object_held objects serial (reference_kept objects serial value_slot may.0.refers)
change_held program objects index serial (changes.Writes array from piece count) may = object_held objects serial (number_kept objects serial count_slot may.0.counts)
change_held program objects index serial (changes.Deletes array place count) may = object_held objects serial (number_kept objects serial count_slot may.0.counts)
