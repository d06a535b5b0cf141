-- How a run ends that has made so many turns.
use Rattle.std.proofs.Common.{◌≡◌, ◌∙◌, ◌++◌, ◌+◌, ◌<◌, ◌≤◌, ap, append-nil, arith, inl, inr, refl, sym, subst, ℤ, ℕ, Bool, true, false, List, [], ◌∷◌, length, Option, None, Some}
use Rattle.std.proofs.lemmas.List.{append_cancel_left}
use Rattle.std.proofs.lemmas.Option.{same_Some}
use Rattle.std.specs.Io.KnownBytes.{Appends}
use Rattle.std.specs.Prelude.{option_map}
use Rattle.cb_heap.specs.Reading.{View}
use Rattle.cb_heap.specs.Rules.{Rules}
use Rattle.cb_heap.specs.declared.no_room.NoRoom.{NoRoom}
use Rattle.cb_heap.specs.declared.no_room.NoRoom.TheVariants as rooms
use Rattle.cb_io.specs.Sink.{IsProperPrefix}
use Rattle.cb_link.specs.Program.{Linked}
use Rattle.cb_machine.specs.Machine.{Machine}
use Rattle.cb_machine.specs.Plans.{Plan, made}
use Rattle.cb_machine.specs.Runs.{outcome}
use Rattle.cb_machine.specs.Steps.{plan, step}
use Rattle.cb_machine.specs.declared.outcome.Outcome.TheVariants as outcomes
use Rattle.cb_plain.specs.State.{Frame, Object, State}
use Rattle.cb_plain.specs.Updates.{object_in}
use Rattle.cb_safety.specs.Kinds.{IsOfKind, Kinds, kinds_of}
use Rattle.cb_safety.specs.Linked.{IsLinked}
use Rattle.cb_safety.specs.States.{AreFrames, IsTypedState}
use Rattle.cb_verify.specs.Typed.{IsTyped}
use Rattle.cb_verify.specs.Within.{kind_of_throwable}
use Rattle.cb_beside.specs.Asking.{asks_input}
use Rattle.cb_beside.specs.Beside.{beside}
use Rattle.cb_beside.specs.Laws.{Reads, Unread}
use Rattle.cb_beside.proofs.Laws.{reads, unread}
use Rattle.cb_act.specs.Turning.{Moment, WholeTurn, moment_of, state_of}
use Rattle.cb_interp.specs.Reading.{LosesBy}
use Rattle.cb_interp.specs.Running.{Ended, EndsBy, IsEndOf, IsThrownAt, LeavesAt, NotDone, Prints, SaysBy, TurnStops, WentOut, exited, last_of, outside_of, somewhere}
use Rattle.cb_interp.specs.declared.end.End.{End}
use Rattle.cb_interp.specs.declared.end.End.TheVariants as ends
use Rattle.cb_interp.specs.declared.stop.Stop.{Stop}
use Rattle.cb_interp.specs.declared.stop.Stop.TheVariants as stops
use Rattle.cb_interp.proofs.RunBeside.{by, refused_beside, unreported_beside}
use Rattle.cb_interp.proofs.RunGoes.{HasCome, PastOne, past_one, takes_by}
use Rattle.cb_interp.proofs.RunLoop.{appends_more, outcome_whole, prints_whole, takes_turn, takes_whole, whole_kind}

-- a step that prints some bytes prints them beside any input, and behind any bytes
prints_by : (machine : Machine) (state : State) (more front input printed : List ℕ) → Prints machine state more → IsProperPrefix front more → Prints machine (beside state input printed) more
prints_by machine state more front input printed prints proper = go (asks_input machine.program state) refl where
  found : (own : Option Plan) → plan machine state ≡ own → option_map made own ≡ Some prints.next
  found own is = ap (option_map made) (sym is) ∙ prints.steps

  none_said : (all front rest : List ℕ) → all ≡ [] → all ≡ front ++ rest → 0 < length rest → ⊥
  none_said all [] [] none same some = omega (arith, some)
  none_said all [] (byte ∷ rest) none same some = cc (none, same)
  none_said all (byte ∷ front) rest none same some = cc (none, same)

  silent : (own : Option Plan) → plan machine state ≡ own → asks_input machine.program state ≡ true → more ≡ []
  silent None is asks = absurd (cc (found None is))
  silent (Some own) is asks =
      let law : Reads machine state = reads machine state asks in
      let next : made own ≡ prints.next = same_Some (made own) prints.next (found (Some own) is) in
      append_cancel_left state.printed more [] (sym prints.grows ∙ ap (λ (state : State). state.printed) (sym next) ∙ law.prints own is ∙ sym (append-nil state.printed))

  said : (law : Unread machine state) (own : Option Plan) → plan machine state ≡ own → law.said ≡ more
  said law None is = absurd (cc (found None is))
  said law (Some own) is =
      let next : made own ≡ prints.next = same_Some (made own) prints.next (found (Some own) is) in
      append_cancel_left state.printed law.said more (sym (law.prints own is) ∙ ap (λ (state : State). state.printed) next ∙ prints.grows)

  go : (asks : Bool) → asks_input machine.program state ≡ asks → Prints machine (beside state input printed) more
  go true same = absurd (none_said more front proper.rest (silent (plan machine state) refl same) proper.whole proper.proper)
  go false same =
      let law : Unread machine state = unread machine state same in
      record {
        next = beside prints.next input (printed ++ law.said);
        steps = law.steps input printed ∙ ap (option_map (λ (next : State). beside next input (printed ++ law.said))) prints.steps;
        grows = ap (λ (said : List ℕ). printed ++ said) (said law (plan machine state) refl);
      }

module _ {Facts In : Type 0} (left : In → Option (List ℕ)) (gave : In → ℕ → List ℕ → In → Type 0) (rules : Rules Facts) (machine : Machine) (linked : IsLinked machine.program)
    (fits : IsTyped machine.program) (first : Moment Facts) (full : State) (source : In) where
  module _ (budget number : ℕ) (view later : View) (facts now : Facts) (last behind : In) (taken takes took : Option (List ℕ))
      (come : HasCome left gave rules machine first full source number view facts last taken takes) where
    abbrev here : State
    here = come.past.here

    -- turns are told at a placeholder, and the run is beside what is there
    abbrev told : Moment Facts
    told = moment_of view somewhere facts

    abbrev told_after : Moment Facts
    told_after = moment_of later somewhere now

    abbrev before : Moment Facts
    before = moment_of view (outside_of here) facts

    abbrev after_it : Moment Facts
    after_it = moment_of later (outside_of here) now

    abbrev EndsSo : End → Type 0
    EndsSo end = Ended left gave rules machine budget end full first later now taken took source behind

    last_at : last_of later here now ≡ after_it
    last_at =
        ap (λ (exit : Option ℤ). record {
          state = record { roots = later.roots; objects = later.objects; input = here.input; printed = here.printed; exit = exit };
          facts = now;
        }) (sym (ap (λ (state : State). state.exit) come.past.stands.same))

    ending : (end : End) → number ≤ budget → EndsBy rules machine budget number end here before after_it → WentOut machine end here come.said taken took
        → LeavesAt left gave machine end here last behind → EndsSo end
    ending end within ends out remains = record {
      count = number;
      within = within;
      read = come.past.read;
      before = before;
      now = here;
      mid = last;
      went = come.past.went;
      stands = come.past.stands;
      ends = subst (EndsBy rules machine budget number end here before) (sym last_at) ends;
      said = come.said;
      grows = come.grows;
      out = out;
      remains = remains;
    }

    unchanged : told_after ≡ told → after_it ≡ before
    unchanged same = ap (λ (moment : Moment Facts). by moment here.input here.printed) same

    same_out : took ≡ takes → Appends taken took come.said
    same_out same = subst (λ took. Appends taken took come.said) (sym same) come.appends

    not_done : (reason : NoRoom) → NotDone rules machine reason told told_after → NotDone rules machine reason before after_it
    not_done (rooms.Full live asked limit) refused = refused_beside rules machine told told_after (rooms.Full live asked limit) here.input here.printed refused
    not_done rooms.OutOfMemory refused = refused_beside rules machine told told_after rooms.OutOfMemory here.input here.printed refused
    not_done rooms.ReportFault (inl refused) = inl (refused_beside rules machine told told_after rooms.ReportFault here.input here.printed refused)
    not_done rooms.ReportFault (inr fails) = inr (unreported_beside rules machine told told_after refl refl refl here.input here.printed fails)

    cut_out : SaysBy machine (state_of view somewhere) stops.OutputFault takes took → WentOut machine ends.OutputFault here come.said taken took
    cut_out (more, prints, (front, appends, proper)) = (
      more,
      front,
      prints_whole rules machine before here more come.past.stands (prints_by machine (state_of view somewhere) more front here.input here.printed prints proper),
      proper,
      appends_more taken takes took come.said front come.appends appends,
    )

    -- one turn more was made, and its step called `exit`
    exits_at : (status : ℤ) → number < budget → WholeTurn rules machine told (exited status told_after) → took ≡ takes → behind ≡ last → EndsSo (ends.Exited status)
    exits_at status low turn silent same =
        let one : PastOne left gave rules machine linked fits first full source number told (exited status told_after) last come.past =
        past_one left gave rules machine linked fits first full source number told (exited status told_after) last come.past refl refl turn in
        let there : State = one.past_it.here in
        let is : last_of later there now ≡ by (exited status told_after) there.input there.printed =
        ap (λ (exit : Option ℤ). record {
          state = record { roots = later.roots; objects = later.objects; input = there.input; printed = there.printed; exit = exit };
          facts = now;
        }) (sym (ap (λ (state : State). state.exit) one.past_it.stands.same)) in
        record {
          count = number + 1;
          within = omega (arith, low);
          read = one.past_it.read;
          before = by (exited status told_after) there.input there.printed;
          now = there;
          mid = last;
          went = one.past_it.went;
          stands = one.past_it.stands;
          ends = (sym (ap outcome one.past_it.stands.same), is);
          said = come.said;
          grows = one.printed ∙ ap (λ (said : List ℕ). here.printed ++ said) (sym one.prints) ∙ append-nil here.printed ∙ come.grows;
          out = same_out silent;
          remains = same;
        }

    pub ends_at : (stop : Stop) (end : End) → number ≤ budget → (takes_turn stop → number < budget) → TurnStops rules machine stop told told_after
        → SaysBy machine (state_of view somewhere) stop takes took → LosesBy left gave machine (state_of view somewhere) stop last behind → IsEndOf later stop end → EndsSo end
    ends_at stops.Returned end within low (same, is) says lost is_end =
        subst EndsSo (sym is_end) (ending ends.Returned within (outcome_whole rules machine before here come.past.stands ∙ is, unchanged same) (same_out says) lost)
    ends_at stops.Uncaught end within low (same, is) says lost (class, at, is_end, kind) =
        subst EndsSo (sym is_end)
        (ending (ends.Uncaught class at) within (
          (outcome_whole rules machine before here come.past.stands ∙ is ∙ ap (λ (state : State). outcomes.Uncaught state.roots.pending) come.past.stands.same, unchanged same),
          whole_kind rules machine before here class come.past.stands
              (subst (λ (moment : Moment Facts). option_map (λ (object : Object). object.kind) (object_in moment.state.objects moment.state.roots.pending) ≡ Some class) same kind),
        )
        (same_out says) lost)
    ends_at (stops.NoRoom (rooms.Full live asked limit)) end within low refused says lost is_end =
        subst EndsSo (sym is_end) (ending (ends.HeapFull live asked limit) within (low tt, not_done (rooms.Full live asked limit) refused) (same_out says) lost)
    ends_at (stops.NoRoom rooms.ReportFault) end within low refused says lost is_end =
        subst EndsSo (sym is_end) (ending ends.ReportFault within (low tt, not_done rooms.ReportFault refused) (same_out says) lost)
    ends_at (stops.NoRoom rooms.OutOfMemory) end within low refused says lost is_end =
        subst EndsSo (sym is_end) (ending ends.OutOfMemory within (low tt, not_done rooms.OutOfMemory refused) (same_out says) lost)
    ends_at stops.InputFault end within low asks says lost is_end =
        subst EndsSo (sym is_end)
        (ending ends.InputFault within (low tt, takes_whole rules machine before here come.past.stands (0 ∷ []) (takes_by machine (state_of view somewhere) (0 ∷ []) here.input here.printed asks.0), asks.1) (same_out says)
        (record {
          front = lost.front;
          mid = lost.mid;
          calls = lost.calls;
          consumes = lost.consumes;
          takes = takes_whole rules machine before here come.past.stands (lost.front ++ 0 ∷ [])
              (takes_by machine (state_of view somewhere) (lost.front ++ 0 ∷ []) here.input here.printed lost.takes);
        }))
    ends_at stops.OutputFault end within low same says lost is_end =
        subst EndsSo (sym is_end) (ending ends.OutputFault within (low tt, unchanged same) (cut_out says) lost)
    ends_at (stops.Exited status) end within low turn says lost is_end = subst EndsSo (sym is_end) (exits_at status (low tt) turn says lost)

    pub ends_spent : number ≡ budget → outcome (state_of view somewhere) ≡ outcomes.Running → told_after ≡ told → took ≡ takes → behind ≡ last → EndsSo ends.BudgetSpent
    ends_spent end goes same says lost =
        ending ends.BudgetSpent (omega (arith, end)) ((outcome_whole rules machine before here come.past.stands ∙ goes, unchanged same), end) (same_out says) lost

-- what went out, also where a write failed
pub says_more : (machine : Machine) (state : State) (stop : Stop) (taken takes took : Option (List ℕ)) (said : List ℕ) → Appends taken takes said → SaysBy machine state stop takes took
    → (said : List ℕ) × Appends taken took said
says_more machine state stops.OutputFault taken takes took said appends (more, prints, (front, went, proper)) = (said ++ front, appends_more taken takes took said front appends went)
says_more machine state other taken takes took said appends says = (said, subst (λ took. Appends taken took said) (sym says) appends)

-- an exception that is pending is there
thrown_in : (program : Linked) (kinds : Kinds) (serial : ℕ) (frames : List Frame) → AreFrames program kinds serial frames → ¬ (serial ≡ 0) → IsOfKind program kinds kind_of_throwable serial
thrown_in program kinds serial frames (AreFrames.Running own standing) waits = absurd (waits refl)
thrown_in program kinds serial frames (AreFrames.Unwinding own others is covered) waits = is

pub thrown_at : (program : Linked) (state : State) → IsTypedState program state → ¬ (state.roots.pending ≡ 0) → IsThrownAt program state.objects state.roots.pending
thrown_at program state typed waits = record {
  heap = typed.heap;
  thrown = thrown_in program (kinds_of state.objects) state.roots.pending state.roots.frames typed.roots.frames waits;
}
