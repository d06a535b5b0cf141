-- What the steps of what is kept tell of the machine that never frees, and whether a run has ended.
use Rattle.std.proofs.Common.{◌≡◌, ◌∙◌, ◌++◌, ap, append_assoc, refl, sym, subst, ℕ, ◌==◌, if◌then◌else◌, IsTrue, List, [], ◌∷◌, Option, Some, None, zero, suc}
use Rattle.std.proofs.lemmas.Option.{same_Some}
use Rattle.std.specs.Io.KnownBytes.{Appends}
use Rattle.std.specs.Prelude.{option_map}
use Rattle.cb_heap.proofs.Laws.{same_object}
use Rattle.cb_heap.specs.Kept.{is_held, keep}
use Rattle.cb_heap.specs.Reading.{seen, serial_of}
use Rattle.cb_heap.specs.Rules.{Rules}
use Rattle.cb_machine.specs.Machine.{Machine}
use Rattle.cb_machine.specs.Plans.{Plan, made}
use Rattle.cb_machine.specs.Runs.{after, outcome}
use Rattle.cb_machine.specs.Steps.{plan}
use Rattle.cb_machine.specs.declared.outcome.Outcome.TheVariants as outcomes
use Rattle.cb_plain.specs.State.{Frame, Object, Roots, State}
use Rattle.cb_plain.specs.Updates.{object_at, object_in, with_input}
use Rattle.cb_interp.specs.Reading.{LosesBy, Takes}
use Rattle.cb_interp.specs.Running.{Prints, SaysBy, StopsBy, TurnStops, has_ended}
use Rattle.cb_act.specs.Turning.{Moment, Outside, StandsAt, moment_of}
use Rattle.cb_interp.specs.declared.stop.Stop.{Stop}
use Rattle.cb_interp.specs.declared.stop.Stop.TheVariants as stops
use Rattle.cb_interp.proofs.RunTurns.{refused_so}
use Rattle.cb_interp.proofs.RunTyped.{not_zero}
use Rattle.cb_act.proofs.Laws.{planned}

pub appends_more : (first second third : Option (List ℕ)) (front back : List ℕ) → Appends first second front → Appends second third back → Appends first third (front ++ back)
appends_more None second third front back one other = tt
appends_more (Some bytes) None third front back one other = absurd one
appends_more (Some bytes) (Some more) None front back one other = absurd other
appends_more (Some bytes) (Some more) (Some most) front back one other = other ∙ ap (λ more. more ++ back) one ∙ append_assoc bytes front back

-- a stop that comes where another turn would be made
abbrev pub takes_turn : Stop → Type 0
takes_turn stops.Returned = ⊥
takes_turn stops.Uncaught = ⊥
takes_turn other = Unit {0}

module _ {Facts : Type 0} (rules : Rules Facts) (machine : Machine) where
  -- a step of what is kept prints what the step prints
  pub prints_whole : (moment : Moment Facts) (state : State) (more : List ℕ) → StandsAt moment state → Prints machine moment.state more → Prints machine state more
  prints_whole moment state more stands prints = go (plan machine moment.state) refl where
    go : (found : Option Plan) → plan machine moment.state ≡ found → Prints machine state more
    go None is = absurd (cc (sym (ap (option_map made) is) ∙ prints.steps))
    go (Some own) is =
        let (whole, there, same) = planned rules machine moment state own stands is in
        let next : made own ≡ prints.next = same_Some (made own) prints.next (sym (ap (option_map made) is) ∙ prints.steps) in
        record {
          next = made whole;
          steps = ap (option_map made) there;
          grows = ap (λ (plan : Plan). (made plan).printed) (sym same) ∙ ap (λ (state : State). state.printed) next ∙ prints.grows
              ∙ ap (λ (state : State). state.printed ++ more) stands.same;
        }

  -- and asks the input where it does
  pub takes_whole : (moment : Moment Facts) (state : State) → StandsAt moment state → (bytes : List ℕ) → Takes machine moment.state bytes → Takes machine state bytes
  takes_whole moment state stands bytes takes = go (plan machine (with_input moment.state bytes)) refl where
    given : Moment Facts
    given = record { state = with_input moment.state bytes; facts = moment.facts }

    stands_given : StandsAt given (with_input state bytes)
    stands_given = record { kept = stands.kept; same = ap (λ (state : State). with_input state bytes) stands.same; marks = stands.marks; keeping = record { count = stands.keeping.count; closed = stands.keeping.closed } }

    go : (found : Option Plan) → plan machine (with_input moment.state bytes) ≡ found → Takes machine state bytes
    go None is = absurd (cc (sym (ap (option_map made) is) ∙ takes.steps))
    go (Some own) is =
        let (whole, there, same) = planned rules machine given (with_input state bytes) own stands_given is in
        let next : made own ≡ takes.next = same_Some (made own) takes.next (sym (ap (option_map made) is) ∙ takes.steps) in
        record {
          next = made whole;
          steps = ap (option_map made) there;
          taken = ap (λ (plan : Plan). (made plan).input) (sym same) ∙ ap (λ (state : State). state.input) next ∙ takes.taken;
        }

  -- an object that is kept is that of the whole state
  pub whole_kind : (moment : Moment Facts) (state : State) (class : ℕ) → StandsAt moment state
      → option_map (λ object. object.kind) (object_in moment.state.objects moment.state.roots.pending) ≡ Some class
      → option_map (λ object. object.kind) (object_at state state.roots.pending) ≡ Some class
  whole_kind moment state class stands is =
      go state.roots.pending refl
      (sym (ap (λ (state : State). option_map (λ (object : Object). object.kind) (object_in state.objects state.roots.pending)) stands.same) ∙ is) where
        go : (serial : ℕ) → state.roots.pending ≡ serial
            → option_map (λ object. object.kind) (object_in (keep stands.kept state.objects) state.roots.pending) ≡ Some class
            → option_map (λ object. object.kind) (object_at state state.roots.pending) ≡ Some class
        go zero same is = absurd (cc (sym (ap (λ serial. option_map (λ (object : Object). object.kind) (object_in (keep stands.kept state.objects) serial)) same) ∙ is))
        go (suc place) same is =
            ap (option_map (λ (object : Object). object.kind)) (sym (same_object stands.kept state.objects state.roots.pending (held (object_in (keep stands.kept state.objects) (suc place)) refl))) ∙ is where
              held : (found : Option Object) → object_in (keep stands.kept state.objects) (suc place) ≡ found
                  → IsTrue (is_held (keep stands.kept state.objects) state.roots.pending)
              held None none =
                  absurd (cc (sym (ap (λ serial. option_map (λ (object : Object). object.kind) (object_in (keep stands.kept state.objects) serial)) same ∙ ap (option_map (λ (object : Object). object.kind)) none) ∙ is))
              held (Some object) some = rw same (rw some refl)

  -- a run ends where no further turn is made
  pub outcome_whole : (moment : Moment Facts) (state : State) → StandsAt moment state → outcome state ≡ outcome moment.state
  outcome_whole moment state stands = sym (ap outcome stands.same)

-- whether it has ended is told by the roots
module _ {Facts : Type 0} (rules : Rules Facts) (machine : Machine) (index : ℕ → ℕ) (objects : List (Option Object)) (outside : Outside) (facts : Facts) where
  abbrev pub at_roots : Roots → Moment Facts
  at_roots roots = moment_of (seen index objects roots) outside facts

  abbrev pub HasEnded : Roots → Type 0
  HasEnded roots = (stop : Stop) → has_ended roots ≡ Some stop → StopsBy rules machine stop (at_roots roots) (at_roots roots) × (takes_turn stop → ⊥)

  abbrev pub GoesOn : Roots → Type 0
  GoesOn roots = has_ended roots ≡ None → outcome (at_roots roots).state ≡ outcomes.Running

  module _ (roots : Roots) where
    abbrev with_all : List Frame → (pending argument : ℕ) → Roots
    with_all frames pending argument = record { frames = frames; pending = pending; statics = roots.statics; classes = roots.classes; tables = roots.tables; argument = argument }

    ended_at : (frames : List Frame) (pending argument : ℕ) → HasEnded (with_all frames pending argument)
    ended_at [] zero zero stop is =
        subst (λ stop. StopsBy rules machine stop (at_roots (with_all [] 0 0)) (at_roots (with_all [] 0 0)) × (takes_turn stop → ⊥)) (same_Some stops.Returned stop is) ((refl, refl), λ turn. turn)
    ended_at [] zero (suc place) stop is =
        absurd (cc (sym (ap (λ test. if test then Some stops.Returned else None) (not_zero place)) ∙ is))
    ended_at [] (suc place) argument stop is =
        let found : Some stops.Uncaught ≡ Some stop =
        sym (ap (λ test. if test then (if argument == 0 then Some stops.Returned else None) else Some stops.Uncaught) (not_zero place)) ∙ is in
        let goes : outcome (at_roots (with_all [] (suc place) argument)).state ≡ outcomes.Uncaught (suc (index (suc place))) =
        ap (λ test. if test then (if serial_of index argument == 0 then outcomes.Returned else outcomes.Running) else outcomes.Uncaught (suc (index (suc place)))) (not_zero (index (suc place))) in
        subst (λ stop. StopsBy rules machine stop (at_roots (with_all [] (suc place) argument)) (at_roots (with_all [] (suc place) argument)) × (takes_turn stop → ⊥))
        (same_Some stops.Uncaught stop found) ((refl, goes), λ turn. turn)
    ended_at (frame ∷ below) pending argument stop is = absurd (cc is)

    pub ended_stops : HasEnded roots
    ended_stops = ended_at roots.frames roots.pending roots.argument

    goes_at : (frames : List Frame) (pending argument : ℕ) → GoesOn (with_all frames pending argument)
    goes_at [] zero zero is = absurd (cc is)
    goes_at [] zero (suc place) is = ap (λ test. if test then outcomes.Returned else outcomes.Running) (not_zero (index (suc place)))
    goes_at [] (suc place) argument is =
        absurd (cc (sym (ap (λ test. if test then (if argument == 0 then Some stops.Returned else None) else Some stops.Uncaught) (not_zero place)) ∙ is))
    goes_at (frame ∷ below) pending argument is = refl

    pub ended_goes : GoesOn roots
    ended_goes = goes_at roots.frames roots.pending roots.argument

-- where a turn is stopped for an exception
pub stopped_uncaught : {Facts : Type 0} (rules : Rules Facts) (machine : Machine) (stop : Stop) (before after : Moment Facts) → stop ≡ stops.Uncaught → TurnStops rules machine stop before after
    → (after ≡ before) × (outcome before.state ≡ outcomes.Uncaught before.state.roots.pending)
stopped_uncaught rules machine stop before after same stopped = subst (λ stop. TurnStops rules machine stop before after) same stopped

pub stops_turn : {Facts : Type 0} (rules : Rules Facts) (machine : Machine) (stop : Stop) (moment : Moment Facts) → StopsBy rules machine stop moment moment
    → TurnStops rules machine stop moment moment
stops_turn rules machine stops.Returned moment is = is
stops_turn rules machine stops.Uncaught moment is = is
stops_turn rules machine (stops.Exited status) moment is = absurd is
stops_turn rules machine (stops.NoRoom reason) moment is = refused_so rules machine reason moment moment is
stops_turn rules machine stops.InputFault moment is = absurd is
stops_turn rules machine stops.OutputFault moment is = refl

pub stays_silent : (machine : Machine) (state : State) (stop : Stop) (taken : Option (List ℕ)) → (takes_turn stop → ⊥) → SaysBy machine state stop taken taken
stays_silent machine state stops.Returned taken never = refl
stays_silent machine state stops.Uncaught taken never = refl
stays_silent machine state (stops.Exited status) taken never = refl
stays_silent machine state (stops.NoRoom reason) taken never = refl
stays_silent machine state stops.InputFault taken never = refl
stays_silent machine state stops.OutputFault taken never = absurd (never tt)

pub stays_kept : {In : Type 0} (left : In → Option (List ℕ)) (gave : In → ℕ → List ℕ → In → Type 0) (machine : Machine) (state : State) (stop : Stop) (source : In) → (takes_turn stop → ⊥)
    → LosesBy left gave machine state stop source source
stays_kept left gave machine state stops.InputFault source never = absurd (never tt)
stays_kept left gave machine state other source never = refl
