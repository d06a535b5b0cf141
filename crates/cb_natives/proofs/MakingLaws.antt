-- What natives do that give a new String: the room that is asked for, and what is placed.
use Rattle.std.proofs.Common.{◌≡◌, ◌∙◌, ap, arith, refl, subst, sym, ℕ, ◌+◌, ◌*◌, ◌<◌, ◌≤◌, ◌^◌, Bool, true, false, List, [], ◌∷◌, Option, Some, None, length, nat_le, cond}
use Rattle.std.proofs.lemmas.Bool.{false≢true}
use Rattle.std.proofs.lemmas.Bool.Decides.{nat_tests}
use Rattle.std.specs.declared.result.Result.{Result}
use Rattle.std.specs.declared.result.Result.TheVariants.{Err, Ok}
use Rattle.std.specs.Prelude.{IsErr, IsErrAnd}
use Rattle.cb_heap.specs.Reading.{View, serial_of}
use Rattle.cb_heap.specs.Rules.{Rules}
use Rattle.cb_library.specs.declared.native.Native.{Native}
use Rattle.cb_library.specs.declared.native.Native.TheVariants as natives
use Rattle.cb_link.specs.Program.{Linked}
use Rattle.cb_machine.specs.Machine.{kind_of_site}
use Rattle.cb_machine.specs.Natives.{performed}
use Rattle.cb_machine.specs.Performing.{Call, Gives, gives_placed, gives_text, most_elements, stops}
use Rattle.cb_machine.specs.Plans.{Plan, asked, leaving}
use Rattle.cb_machine.specs.Sites.{made_characters, made_strings, negative_size}
use Rattle.cb_machine.specs.Strings.{Placed, unit_contents, with_string}
use Rattle.cb_machine.specs.Texts.{text_native}
use Rattle.cb_plain.specs.Requests.{add_want, spent, words_at}
use Rattle.cb_plain.specs.State.{Object, Roots, words_of}
use Rattle.cb_plain.specs.declared.value.Value.{Value}
use Rattle.cb_plain.specs.declared.value.Value.TheVariants as values
use Rattle.cb_plain.specs.declared.want.Want.{Want}
use Rattle.cb_natives.specs.Answers.{Beside}
use Rattle.cb_natives.specs.Exceptions.{site_of}
use Rattle.cb_natives.specs.Making.{Asks, Makes, MayLeave, Performs, Planned, given_back, machine_in, state_in}
use Rattle.cb_natives.specs.MakingTexts.{TellsText, makes_text, text_wants, with_made}
use Rattle.cb_natives.specs.Pieces.{text_units}
use Rattle.cb_natives.specs.declared.answers.Exception.{Exception}
use Rattle.cb_natives.specs.declared.answers.Exception.TheVariants as exceptions
use Rattle.cb_natives.specs.declared.pieces.Text.{Text}
use Rattle.cb_natives.proofs.FollowLaws.{made_pair}
use Rattle.cb_natives.proofs.UnitLaws.{le_false, le_true}
use Rattle.cb_natives.proofs.WritesOn.{units_length}

-- ---- what they perform

pub performed_text : (call : Call) (native : Native) (arguments : List Value) → makes_text native ≡ true → performed call.machine call.state native arguments ≡ text_native call native arguments
performed_text call natives.ObjectSay arguments makes = refl
performed_text call natives.StringConcat arguments makes = refl
performed_text call natives.StringSubstringFrom arguments makes = refl
performed_text call natives.StringSubstring arguments makes = refl
performed_text call natives.StringReplace arguments makes = refl
performed_text call natives.StringValueOfInt arguments makes = refl
performed_text call natives.StringValueOfLong arguments makes = refl
performed_text call natives.StringValueOfChar arguments makes = refl
performed_text call natives.StringValueOfBoolean arguments makes = refl
performed_text call natives.StringValueOfChars arguments makes = refl
performed_text call natives.StringBuilderToString arguments makes = refl
performed_text call natives.ClassGetName arguments makes = refl
performed_text call natives.IntegerTextOf arguments makes = refl
performed_text call natives.IntegerToString arguments makes = refl
performed_text call natives.IntegerToHexString arguments makes = refl
performed_text call natives.LongTextOf arguments makes = refl
performed_text call natives.LongToString arguments makes = refl
performed_text call natives.CharacterTextOf arguments makes = refl
performed_text call natives.CharacterToString arguments makes = refl
performed_text call natives.BooleanTextOf arguments makes = refl
performed_text call natives.BooleanToString arguments makes = refl
performed_text call natives.ThrowableSay arguments makes = refl
performed_text call other arguments makes = absurd (false≢true makes)

-- the string that is placed, and the plan for it
abbrev pub placed_for : Call → List ℕ → Placed
placed_for call units = with_string call.machine made_strings made_characters units (leaving call.state)

gives_short : (call : Call) (units : List ℕ) → nat_le (length units) most_elements ≡ true → gives_text call units ≡ gives_placed (placed_for call units)
gives_short call units short = ap (λ is. cond is (gives_placed (placed_for call units)) (stops call negative_size)) short

stops_long : (call : Call) (units : List ℕ) → nat_le (length units) most_elements ≡ false → gives_text call units ≡ stops call negative_size
stops_long call units long = ap (λ is. cond is (gives_placed (placed_for call units)) (stops call negative_size)) long

-- and the room that it takes
asked_for : (call : Call) (units : List ℕ) → asked (placed_for call units).plan ≡ text_wants (length units)
asked_for call units =
    let words : (0 + 1) * words_of (length (unit_contents units)) ≡ words_of (length units) = omega (arith, units_length units) in
    ap (λ (words : ℕ). add_want (add_want [] (record { site = made_characters; words = words })) (record { site = made_strings; words = words_of 1 })) words

-- ---- planned

module _ (program : Linked) (objects : List (Option Object)) (index : ℕ → ℕ) (native : Native) (arguments : List Value) (makes : makes_text native ≡ true) (roots : Roots) where
  abbrev view : View
  view = record { roots = roots; objects = objects }

  module _ (frames : ℕ) (input printed : List ℕ) where
    abbrev call : Call
    call = record { machine = machine_in program frames; state = state_in view input printed }

    abbrev beside : Beside
    beside = record { roots = roots; input = input; printed = printed; exit = None }

    throws_so : (exception : Exception) → TellsText objects index native arguments (Err exception) → performed call.machine call.state native arguments ≡ stops call (site_of exception)
    throws_so exception tells = performed_text call native arguments makes ∙ tells call.machine beside

    gives_so : (text : Text) → TellsText objects index native arguments (Ok text) → performed call.machine call.state native arguments ≡ gives_text call (text_units program objects index text)
    gives_so text tells = performed_text call native arguments makes ∙ tells call.machine beside

  pub planned_err : (wants : List Want) (exception : Exception) → TellsText objects index native arguments (Err exception) → Planned program view native arguments wants (Err exception)
  planned_err wants exception tells frames input printed = throws_so frames input printed exception tells

  pub planned_long : (wants : List Want) (text : Text) → TellsText objects index native arguments (Ok text) → most_elements < length (text_units program objects index text)
      → Planned program view native arguments wants (Err exceptions.NegativeArraySize)
  planned_long wants text tells long frames input printed =
      let units = text_units program objects index text in
      gives_so frames input printed text tells ∙ stops_long (call frames input printed) units (le_false (length units) most_elements long)

  pub planned_ok : (wants : List Want) (text : Text) → TellsText objects index native arguments (Ok text) → length (text_units program objects index text) ≤ most_elements
      → wants ≡ text_wants (length (text_units program objects index text)) → Planned program view native arguments wants (Ok tt)
  planned_ok wants text tells short is frames input printed =
      let units = text_units program objects index text in
      let given = call frames input printed in
      record {
        own = (placed_for given units).plan;
        answer = values.Ref (placed_for given units).serial ∷ [];
        is = gives_so frames input printed text tells ∙ gives_short given units (le_true (length units) most_elements short);
        asks = asked_for given units ∙ sym is;
      }

  -- ---- performed

  short_case : (given : Call) (units : List ℕ) (own : Plan) (answer : List Value) (is : Bool) → nat_le (length units) most_elements ≡ is → gives_text given units ≡ Some (Gives own answer)
      → (nat_le (length units) most_elements ≡ true) × (own ≡ (placed_for given units).plan)
  short_case given units own answer true is gives =
      let same : gives_placed (placed_for given units) ≡ Some (Gives own answer) = sym (gives_short given units is) ∙ gives in
      (is, cc)
  short_case given units own answer false is gives =
      let same : stops given negative_size ≡ Some (Gives own answer) = sym (stops_long given units is) ∙ gives in
      cc

  module _ (wants : List Want) (asks : Asks program view native arguments wants) where
    abbrev first : Makes (machine_in program 0) (state_in view [] []) native arguments wants
    first = asks 0 [] []

    pub no_exception : (exception : Exception) → TellsText objects index native arguments (Err exception) → ⊥
    no_exception exception tells =
        let given = call 0 [] [] in
        let same : stops given (site_of exception) ≡ Some (Gives first.own first.answer) = sym (throws_so 0 [] [] exception tells) ∙ first.is in
        cc

    pub short_so : (text : Text) → TellsText objects index native arguments (Ok text)
        → (nat_le (length (text_units program objects index text)) most_elements ≡ true) × (wants ≡ text_wants (length (text_units program objects index text)))
    short_so text tells =
        let given = call 0 [] [] in
        let units = text_units program objects index text in
        let case = short_case given units first.own first.answer (nat_le (length units) most_elements) refl (sym (gives_so 0 [] [] text tells) ∙ first.is) in
        (case.0, sym first.asks ∙ ap asked case.1 ∙ asked_for given units)

  pub pair_so : (allows : ℕ → ℕ → Bool) → MayLeave program allows view native arguments → (text : Text) → TellsText objects index native arguments (Ok text)
      → nat_le (length (text_units program objects index text)) most_elements ≡ true → allows made_strings made_characters ≡ true
  pair_so allows leaves text tells short =
      let units = text_units program objects index text in
      let given = call leaves.frames leaves.input leaves.printed in
      made_pair allows objects (kind_of_site program made_characters) (kind_of_site program made_strings) units
      (leaves.each (placed_for given units).plan (values.Ref (placed_for given units).serial ∷ [])
      (gives_so leaves.frames leaves.input leaves.printed text tells ∙ gives_short given units short))

  pub performs_so : {Facts : Type 0} (rules : Rules Facts) (facts later : Facts) (text : Text) → TellsText objects index native arguments (Ok text)
      → nat_le (length (text_units program objects index text)) most_elements ≡ true
      → (array string : ℕ) → kind_of_site program made_characters ≡ array → kind_of_site program made_strings ≡ string
      → (now : List (Option Object)) → now ≡ with_made array string (text_units program objects index text) objects
      → (after : ℕ → ℕ) (at : ℕ) → serial_of after at ≡ length objects + 1 + 1
      → later ≡ rules.placed (rules.placed facts made_characters (length (text_units program objects index text))) made_strings 1
      → Performs rules program native arguments view facts (record { roots = roots; objects = now }) later (given_back after (Some at))
  performs_so rules facts later text tells short array string of_array of_string now kept after at serial placed frames input printed =
      let units = text_units program objects index text in
      let given = call frames input printed in
      record {
        own = (placed_for given units).plan;
        is = gives_so frames input printed text tells ∙ gives_short given units short
            ∙ ap (λ (serial : ℕ). Some (Gives (placed_for given units).plan (values.Ref serial ∷ []))) (sym serial);
        steps = ap (λ objects. state_in (record { roots = roots; objects = objects }) input printed)
            (kept ∙ ap (λ array. with_made array string units objects) (sym of_array) ∙ ap (λ string. with_made (kind_of_site program made_characters) string units objects) (sym of_string));
        knows = placed ∙ ap (λ (count : ℕ). rules.placed (rules.placed facts made_characters count) made_strings 1) (sym (units_length units));
      }

-- ---- the room that was made

pub some_wants : (size : ℕ) → text_wants size ≡ [] → ⊥
some_wants size none = cc none

pub array_room : (granted : List Want) (size : ℕ) → granted ≡ text_wants size → size < 2 ^ 31 → words_of size ≤ words_at granted made_characters
array_room granted size is few =
    subst (λ (granted : List Want). words_of size ≤ words_at granted made_characters) (sym is) (omega (arith, few))

pub string_room : (granted : List Want) (size : ℕ) → granted ≡ text_wants size → words_of 1 ≤ words_at (spent granted made_characters (words_of size)) made_strings
string_room granted size is =
    subst (λ (granted : List Want). words_of 1 ≤ words_at (spent granted made_characters (words_of size)) made_strings) (sym is) (omega arith)

pub few_so : (size : ℕ) → nat_le size most_elements ≡ true → size < 2 ^ 31
few_so size short = grind (arith, nat_tests, short)

-- a refusal that is handed on
pub handed_plan : (program : Linked) (before : View) (native : Native) (arguments : List Value) (wants : List Want) (result : Result (Unit {0}) Exception) (exception : Exception)
    → IsErr result × IsErrAnd result (λ told. told ≡ exception) → Planned program before native arguments wants (Err exception) → Planned program before native arguments wants result
handed_plan program before native arguments wants (Ok done) exception on is = absurd (false≢true on.0)
handed_plan program before native arguments wants (Err told) exception on is = subst (λ told. Planned program before native arguments wants (Err told)) (sym on.1) is
