-- What a run asks where it begins, over a store that collects.
use Rattle.std.proofs.Common.{◌≡◌, ◌∙◌, ◌++◌, ◌+◌, ◌*◌, ◌^◌, ◌≤◌, ap, arith, map, refl, subst, sym, ℕ, Bool, List, [], ◌∷◌, length, Option, Some, true}
use Rattle.std.specs.List.{fold, range_with_len}
use Rattle.std.proofs.lemmas.List.{length-append}
use Rattle.std.proofs.lemmas.List.Sums.{fold-append}
use Rattle.cb_act.specs.Coming.{AreAllowed}
use Rattle.cb_act.specs.Turning.{Moment, StandsAt, machine_of as limited, moment_of, most_at_once, state_of}
use Rattle.cb_collector.specs.Held.{Held, known_in}
use Rattle.cb_collector.specs.Known.{Known}
use Rattle.cb_collector.specs.Policy.{rules_of}
use Rattle.cb_heap.specs.Reading.{View, seen}
use Rattle.cb_heap.specs.Storage.{Settings}
use Rattle.cb_heap.specs.declared.no_room.NoRoom.{NoRoom}
use Rattle.cb_interp.proofs.Laws.{all_allowed}
use Rattle.cb_interp.specs.Fit.{ShapesOf}
use Rattle.cb_interp.specs.Running.{Ended, MayRun}
use Rattle.cb_interp.specs.Starting.{BeginsWith, RefusesStart, unread}
use Rattle.cb_interp.specs.declared.end.End.{End}
use Rattle.cb_io.specs.declared.sure_sink.SureSink.{SureSink}
use Rattle.cb_link.specs.Program.{Linked}
use Rattle.cb_machine.specs.Initialising.{own_statics}
use Rattle.cb_machine.specs.Library as library
use Rattle.cb_machine.specs.Machine.{Machine, kind_of_site}
use Rattle.cb_machine.specs.Plans.{One, Plan, leaving, made, object_of, objects_of, with_left, with_one}
use Rattle.cb_machine.specs.Sites.{argument_characters, argument_strings, arguments, system_in, system_out}
use Rattle.cb_machine.specs.Starting.{empty_state, start}
use Rattle.cb_machine.specs.Strings.{unit_contents, with_string}
use Rattle.cb_partheap.specs.Heaps.{index_in, objects_in, settings_in}
use Rattle.cb_plain.specs.State.{Content, Object, Reference, Roots, State}
use Rattle.cb_plain.specs.Updates.{with_argument, with_static}
use Rattle.cb_plain.specs.declared.value.Value.TheVariants.{Ref}
use Rattle.cb_runner.specs.Executing.{HasBegun, IsOfProgram, untold}
use Rattle.cb_runner.specs.Inner.{AreTexts}
use Rattle.cb_runner.specs.Running.{known_first, machine_of, start_of, texts_of}
use Rattle.cb_runner.specs.Words.{Run}
use Rattle.cb_safety.specs.Linked.{IsLinked}
use Rattle.cb_safety.specs.States.{IsTypedState}
use Rattle.cb_verify.specs.Typed.{IsTyped}

-- the state in which roots and a store stand at the start
abbrev pub first_of : Held SureSink → Roots → State
first_of store roots = state_of (seen (index_in store.heap) (objects_in store.heap) roots) (unread [])

abbrev pub first_moment : Held SureSink → Roots → List ℕ → Moment Known
first_moment store roots input = moment_of (seen (index_in store.heap) (objects_in store.heap) roots) (unread input) (known_in untold store)

-- whatever the limit is called, the arguments are, and what the store knew
module _ (asks : Run) (program : Linked) (limit : ℕ) (given : List (List ℕ)) (known : Known) (same : limit ≡ asks.frames) (is : given ≡ texts_of asks) (knew : known ≡ known_first asks program) where
  pub begun_so : (store : Held SureSink) (roots : Roots) → ((input : List ℕ) → BeginsWith rules_of (limited program limit) given input known (first_moment store roots input))
      → HasBegun asks program store roots
  begun_so store roots begun =
      subst (λ (known : Known). BeginsWith rules_of (machine_of asks program) (texts_of asks) [] known (first_moment store roots [])) knew
      (subst (λ (limit : ℕ). BeginsWith rules_of (limited program limit) (texts_of asks) [] known (first_moment store roots [])) same
      (subst (λ given. BeginsWith rules_of (limited program limit) given [] known (first_moment store roots [])) is (begun [])))

  pub refused_by : (reason : NoRoom) (after : Known) → RefusesStart rules_of (limited program limit) given known reason after
      → RefusesStart rules_of (machine_of asks program) (texts_of asks) (known_first asks program) reason after
  refused_by reason after refuses =
      subst (λ (known : Known). RefusesStart rules_of (machine_of asks program) (texts_of asks) known reason after) knew
      (subst (λ (limit : ℕ). RefusesStart rules_of (limited program limit) (texts_of asks) known reason after) same
      (subst (λ given. RefusesStart rules_of (limited program limit) given known reason after) is refuses))

-- each site may refer to each
any : ℕ → ℕ → Bool
any one other = true

pub all_follow : (machine : Machine) (settings : Settings) (first : State) → IsLinked machine.program → IsTyped machine.program → IsOfProgram machine.program settings → IsTypedState machine.program first
    → AreAllowed settings.allows machine first
all_follow machine settings first linked fits of typed =
    let same : (λ (one other : ℕ). true) ≡ settings.allows = λ i one other. sym (of.allows one other) i in
    subst (λ (allows : ℕ → ℕ → Bool). AreAllowed allows machine first) same (all_allowed machine linked fits first typed)

-- ---- few objects are there at the start

-- with one more there is one more
one_more : (plan : Plan) (site kind : ℕ) (contents : List Content) → length (made (with_one plan site kind contents)).objects ≡ length (made plan).objects + 1
one_more plan site kind contents =
    ap (λ objects. length objects) (fold-append (λ objects placing. objects ++ map Some (objects_of placing)) plan.left.objects plan.placed (One site kind contents ∷ []))
    ∙ length-append (made plan).objects (Some (object_of site kind contents) ∷ [])

module _ (machine : Machine) where
  abbrev with_text : Plan → List ℕ → Plan
  with_text plan units = (with_string machine argument_strings argument_characters units plan).plan

  text_more : (plan : Plan) (units : List ℕ) → length (made (with_text plan units)).objects ≡ length (made plan).objects + 2
  text_more plan units =
      let first : Plan = with_one plan argument_characters (kind_of_site machine.program argument_characters) (unit_contents units) in
      let one = one_more plan argument_characters (kind_of_site machine.program argument_characters) (unit_contents units) in
      let two = one_more first argument_strings (kind_of_site machine.program argument_strings) (Reference plan.next ∷ []) in
      omega (arith, one, two)

  texts_more : (texts : List (List ℕ)) (plan : Plan) → length (made (fold with_text plan texts)).objects ≡ length (made plan).objects + 2 * length texts
  texts_more [] plan = omega arith
  texts_more (units ∷ texts) plan =
      let one = text_more plan units in
      let rest = texts_more texts (with_text plan units) in
      omega (arith, one, rest)

  abbrev set_streams : Plan → List ℕ → ℕ → Plan
  set_streams plan [] serial = plan
  set_streams plan (slot ∷ slots) serial = set_streams (with_left plan (with_static plan.left slot (Ref serial))) slots (serial + 1)

  streams_same : (slots : List ℕ) (plan : Plan) (serial : ℕ) → (made (set_streams plan slots serial)).objects ≡ (made plan).objects
  streams_same [] plan serial = refl
  streams_same (slot ∷ slots) plan serial = streams_same slots (with_left plan (with_static plan.left slot (Ref serial))) (serial + 1)

  module _ (given : List (List ℕ)) where
    abbrev array : Plan
    array =
        with_one (leaving (empty_state machine.program [])) arguments (kind_of_site machine.program arguments) (map (λ turn. Reference (2 * turn + 3)) (range_with_len 0 (length given)))

    abbrev told : Plan
    told = fold with_text array given

    abbrev out : Plan
    out = with_one told system_out (kind_of_site machine.program system_out) []

    abbrev streamed : Plan
    streamed = with_one out system_in (kind_of_site machine.program system_in) []

    start_count : length (start machine given []).objects ≡ 3 + 2 * length given
    start_count =
        let same : length (start machine given []).objects ≡ length (made streamed).objects =
        ap (λ objects. length objects) (streams_same (own_statics machine.program library.system) streamed told.next) in
        let texts = texts_more given array in
        let one = one_more told system_out (kind_of_site machine.program system_out) [] in
        let two = one_more out system_in (kind_of_site machine.program system_in) [] in
        omega (arith, same, texts, one, two)

module _ (asks : Run) (program : Linked) (store : Held SureSink) (roots : Roots) (begun : HasBegun asks program store roots) (texts : AreTexts (texts_of asks)) where
  pub begun_few : length (objects_in store.heap) ≤ 2 ^ 33
  begun_few =
      let count = start_count (machine_of asks program) (texts_of asks) in
      let few : length (texts_of asks) ≤ 2147483647 = texts.1 in
      let all : length (objects_in store.heap) ≡ length (start (machine_of asks program) (texts_of asks) []).objects = ap (λ (state : State). length state.objects) begun.starts in
      omega (arith, count, few, all)

  pub begun_runs : (limit : ℕ) (settings : Settings) → IsLinked program → IsTyped program → IsOfProgram program settings → IsTypedState program (first_of store roots)
      → MayRun true (limited program limit) settings (first_of store roots)
  begun_runs limit settings linked fits of typed = record {
    linked = linked;
    fits = fits;
    shaped = of.shaped;
    sites = of.knows;
    follows = all_follow (limited program limit) settings (first_of store roots) linked fits of typed;
    few = λ fixed. let few = begun_few in omega (arith, few);
    typed = typed;
  }

  abbrev here : Moment Known
  here = first_moment store roots []

  pub begun_stands : StandsAt here (start (machine_of asks program) (texts_of asks) []) → StandsAt here (first_of store roots)
  begun_stands stands = subst (StandsAt here) (sym begun.starts) stands

  -- a run from there is one from the start
  pub ended_so : {In : Type 0} (left : In → Option (List ℕ)) (gave : In → ℕ → List ℕ → In → Type 0) (limit : ℕ) (end : End) (later : View) (after : Known) (taken takes : Option (List ℕ)) (source last : In)
      → limit ≡ asks.frames → Ended left gave rules_of (limited program limit) asks.steps end (first_of store roots) here later after taken takes source last
      → Ended left gave rules_of (machine_of asks program) asks.steps end (start_of asks program) here later after taken takes source last
  ended_so left gave limit end later after taken takes source last same ended =
      subst (λ (limit : ℕ). Ended left gave rules_of (limited program limit) asks.steps end (start_of asks program) here later after taken takes source last) same
      (subst (λ (full : State). Ended left gave rules_of (limited program limit) asks.steps end full here later after taken takes source last) begun.starts ended)
