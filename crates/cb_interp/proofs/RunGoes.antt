-- How a run goes on, turn by turn, beside what its turns are given for an input and for bytes that were printed.
use Rattle.std.proofs.Common.{◌≡◌, ◌∙◌, ◌+◌, ◌++◌, ◌∷◌, ◌<◌, ◌^◌, [], ap, ap₂, append_assoc, append-nil, arith, inl, refl, sym, subst, ℕ, zero, suc, Bool, true, false, List, Option, None, Some}
use Rattle.std.proofs.KnownBytes.{Consumes-nil}
use Rattle.std.proofs.lemmas.List.{append_cancel_left}
use Rattle.std.proofs.lemmas.Option.{same_Some}
use Rattle.std.specs.Prelude.{option_map}
use Rattle.std.specs.Io.KnownBytes.{Appends}
use Rattle.cb_heap.specs.Closed.{IsClosed}
use Rattle.cb_heap.specs.Reading.{View}
use Rattle.cb_heap.specs.Rules.{Rules}
use Rattle.cb_machine.specs.Machine.{Machine}
use Rattle.cb_machine.specs.Plans.{Plan, made}
use Rattle.cb_machine.specs.Runs.{next}
use Rattle.cb_machine.specs.Steps.{plan, request, step}
use Rattle.cb_natives.specs.Asking.{NoCall}
use Rattle.cb_plain.specs.State.{State}
use Rattle.cb_plain.specs.Updates.{with_input, with_printed}
use Rattle.cb_plain.specs.declared.want.Want.{Want}
use Rattle.cb_safety.specs.Linked.{IsLinked}
use Rattle.cb_safety.specs.States.{IsInput, IsTypedState}
use Rattle.cb_verify.specs.Typed.{IsTyped}
use Rattle.cb_beside.specs.Asking.{asks_input}
use Rattle.cb_beside.specs.Beside.{beside}
use Rattle.cb_beside.specs.Laws.{Says, Unread}
use Rattle.cb_beside.proofs.Laws.{says, unread}
use Rattle.cb_act.specs.Coming.{MayCome}
use Rattle.cb_act.specs.Steps.{view_of}
use Rattle.cb_act.specs.Sweeping.{calls_gc}
use Rattle.cb_act.specs.Turning.{Asked, Moment, NotAsked, Outside, RoomMade, StandsAt, TurnMade, Turns, WholeTurn, moment_of, state_of}
use Rattle.cb_act.proofs.Laws.{collected_stands, planned, whole_stands}
use Rattle.cb_interp.specs.Quick.{AdvancedBy}
use Rattle.cb_interp.specs.Reading.{IsGiven, Takes, TakesInput, TurnedIn, with_given}
use Rattle.cb_interp.specs.Running.{Went, given, outside_of, somewhere}
use Rattle.cb_interp.proofs.Allowed.{coming_on, whole_comes}
use Rattle.cb_interp.proofs.AllowedTurns.{comes_beside}
use Rattle.cb_interp.proofs.RunBeside.{WholeBeside, by, byte_before, made_saying, stands_by, unread_at, whole_beside}
use Rattle.cb_interp.proofs.RunLoop.{appends_more, takes_whole}
use Rattle.cb_interp.proofs.RunTurns.{appends_none, whole}
use Rattle.cb_interp.proofs.RunTyped.{made_closed, stands_typed, step_typed}

-- a step takes bytes whatever was printed before
pub takes_by : (machine : Machine) → (state : State) (bytes input printed : List ℕ) → Takes machine state bytes → Takes machine (beside state input printed) bytes
takes_by machine state bytes input printed takes =
    let law : Says machine (with_input state bytes) = says machine (with_input state bytes) in
    record {
      next = with_printed takes.next (printed ++ law.said);
      steps = law.steps printed ∙ ap (option_map (λ (next : State). with_printed next (printed ++ law.said))) takes.steps;
      taken = takes.taken;
    }

-- room that is made leaves what stands for a state
room_stands : {Facts : Type 0} (rules : Rules Facts) (machine : Machine) (before after : Moment Facts) (wants : List Want) (full : State) → RoomMade rules before wants after → StandsAt before full → StandsAt after full
room_stands rules machine before after wants full NotAsked stands = stands
room_stands rules machine before after wants full (Asked first rest own ruled collects same) stands = collected_stands rules machine before own full collects same stands

module _ {Facts In : Type 0} (left : In → Option (List ℕ)) (gave : In → ℕ → List ℕ → In → Type 0) (rules : Rules Facts) (machine : Machine) (first : Moment Facts) (full : State) (source : In) where
  -- so many turns were made, and a state of the machine that never frees is there for which a moment stands, whatever input and printed bytes are
  -- beside it
  pub record Past (number : ℕ) (moment : Moment Facts) (last : In) : Type 0 where
    pub here : State
    pub read : List ℕ
    pub went : Went left gave rules machine first full source number read (by moment here.input here.printed) here last
    pub stands : StandsAt (by moment here.input here.printed) here
    pub typed : IsTypedState machine.program here
    pub comes : MayCome machine first.state (by moment here.input here.printed).state
    pub unread : here.input ≡ []

  -- the same beside another outside
  abbrev placed_past : (number : ℕ) (view : View) (one other : Outside) (facts : Facts) (last : In) → Past number (moment_of view one facts) last → Past number (moment_of view other facts) last
  placed_past number view one other facts last past =
      record { here = past.here; read = past.read; went = past.went; stands = past.stands; typed = past.typed; comes = past.comes; unread = past.unread }

  -- turns were made, and what their steps print went out
  pub record HasCome (number : ℕ) (view : View) (facts : Facts) (last : In) (taken takes : Option (List ℕ)) : Type 0 where
    pub past : Past number (moment_of view somewhere facts) last
    pub said : List ℕ
    pub grows : past.here.printed ≡ full.printed ++ said
    pub appends : Appends taken takes said

module _ {Facts In : Type 0} (left : In → Option (List ℕ)) (gave : In → ℕ → List ℕ → In → Type 0) (rules : Rules Facts) (machine : Machine) (linked : IsLinked machine.program)
    (fits : IsTyped machine.program) (first : Moment Facts) (full : State) (source : In) where
  abbrev Gone : ℕ → Moment Facts → In → Type 0
  Gone number moment last = Past left gave rules machine first full source number moment last

  abbrev Come : ℕ → View → Facts → In → (taken takes : Option (List ℕ)) → Type 0
  Come number view facts last taken takes = HasCome left gave rules machine first full source number view facts last taken takes

  closed_at : (state : State) → IsTypedState machine.program state → (own : Plan) → plan machine state ≡ Some own → IsClosed (view_of (made own))
  closed_at state typed own is = made_closed machine linked fits state own typed is

  typed_by : (state : State) (input printed : List ℕ) → IsTypedState machine.program state → IsInput input → IsTypedState machine.program (beside state input printed)
  typed_by state input printed typed bytes = record { heap = typed.heap; roots = typed.roots; input = bytes }

  -- the step of a whole turn, at the state for which its moment stands
  record Stepped (before after : Moment Facts) (state : State) : Type 0 where
    pub own : Plan
    pub is : plan machine state ≡ Some own
    pub stands : StandsAt after (made own)

  stepped : (before after : Moment Facts) (state : State) → StandsAt before state → IsTypedState machine.program state → WholeTurn rules machine before after → Stepped before after state
  stepped before after state stands typed turn =
      let middle = room_stands rules machine before turn.made.middle (request machine before.state) state turn.made.room stands in
      let (own, is, same) = planned rules machine turn.made.middle state turn.made.own middle turn.made.plans in
      let went : next machine state ≡ made own = rw is refl in
      record { own = own; is = is; stands = subst (StandsAt after) went (whole_stands rules machine before after state turn stands (closed_at state typed)) }

  same_left : (after : Moment Facts) (state : State) → StandsAt after state → (state.input ≡ after.state.input) × (state.printed ≡ after.state.printed)
  same_left after state stands = (sym (ap (λ (state : State). state.input) stands.same), sym (ap (λ (state : State). state.printed) stands.same))

  -- ---- a turn that is given a byte and leaves it

  pub record PastOne (number : ℕ) (before after : Moment Facts) (last : In) (past : Gone number before last) : Type 0 where
    pub said : List ℕ
    pub prints : after.state.printed ≡ before.state.printed ++ said
    pub past_it : Gone (number + 1) after last
    pub printed : past_it.here.printed ≡ past.here.printed ++ said

  byte_given : (last : In) → IsGiven left gave last last [] (0 ∷ [])
  byte_given last =
      let zero_low : 0 < 2 ^ 8 = omega arith in
      record { mid = last; calls = NoCall; ends = inl (omega arith, refl); bytes = (zero_low, tt); consumes = Consumes-nil (left last); end = λ none. absurd (cc none) }

  pub past_one : (number : ℕ) (before after : Moment Facts) (last : In) (past : Gone number before last) → before.state.input ≡ 0 ∷ [] → after.state.input ≡ 0 ∷ []
      → WholeTurn rules machine before after → PastOne number before after last past
  past_one number before after last past had leaves turn =
      let here : State = past.here in
      let all : WholeBeside rules machine before after = whole_beside rules machine before after had leaves turn in
      let byte : List ℕ = 0 ∷ [] in
      let zero_low : 0 < 2 ^ 8 = omega arith in
      let there_typed : IsTypedState machine.program (beside here byte here.printed) = typed_by here byte here.printed past.typed (zero_low, tt) in
      let step_there : Stepped (by before byte here.printed) (by after byte (here.printed ++ all.said)) (beside here byte here.printed) =
      stepped (by before byte here.printed) (by after byte (here.printed ++ all.said)) (beside here byte here.printed) (stands_by (by before here.input here.printed) here byte here.printed past.stands) there_typed
      (all.beside_all byte here.printed) in
      let outside = same_left (by after byte (here.printed ++ all.said)) (made step_there.own) step_there.stands in
      let law : Unread machine (beside here byte here.printed) = unread_at machine (beside here byte here.printed) step_there.own refl step_there.is outside.0 in
      let said : law.said ≡ all.said = append_cancel_left here.printed law.said all.said (sym (law.prints step_there.own step_there.is) ∙ outside.1) in
      let there : State = beside (made step_there.own) here.input (here.printed ++ all.said) in
      let steps : (input : List ℕ) → step machine (beside here input here.printed) ≡ Some (beside (made step_there.own) input (here.printed ++ all.said)) =
      λ input. law.steps input here.printed ∙ ap (λ found. option_map (λ next. beside next input (here.printed ++ law.said)) found) (ap (option_map made) step_there.is)
      ∙ ap (λ (said : List ℕ). Some (beside (made step_there.own) input (here.printed ++ said))) said in
      let stands : StandsAt (by after here.input (here.printed ++ all.said)) there =
      stands_by (by after byte (here.printed ++ all.said)) (made step_there.own) here.input (here.printed ++ all.said) step_there.stands in
      record {
        said = all.said;
        prints = all.prints;
        past_it = record {
          here = there;
          read = past.read;
          went = by_law number before after last past all.said there (all.beside_all here.input here.printed) (all.beside_all byte here.printed) (steps here.input) (steps byte) past.unread stands
              (asks_input machine.program here) refl;
          stands = stands;
          typed = typed_by (made step_there.own) here.input (here.printed ++ all.said) (step_typed machine linked fits (beside here byte here.printed) step_there.own there_typed step_there.is) past.typed.input;
          comes = coming_on machine first.state (by before here.input here.printed).state (by after here.input (here.printed ++ all.said)).state past.comes
              (whole_comes rules machine (by before here.input here.printed) (by after here.input (here.printed ++ all.said)) (all.beside_all here.input here.printed));
          unread = past.unread;
        };
        printed = refl;
      }
    where
      by_law : (number : ℕ) (before after : Moment Facts) (last : In) (past : Gone number before last) (said : List ℕ) (there : State)
          → WholeTurn rules machine (by before past.here.input past.here.printed) (by after past.here.input (past.here.printed ++ said))
          → WholeTurn rules machine (by before (0 ∷ []) past.here.printed) (by after (0 ∷ []) (past.here.printed ++ said))
          → step machine past.here ≡ Some there → step machine (with_input past.here (0 ∷ [])) ≡ Some (with_input there (0 ∷ [])) → there.input ≡ []
          → StandsAt (by after past.here.input (past.here.printed ++ said)) there → (asks : Bool) → asks_input machine.program past.here ≡ asks
          → Went left gave rules machine first full source (number + 1) past.read (by after past.here.input (past.here.printed ++ said)) there last
      by_law number before after last past said there turn turn_byte steps steps_byte none stands false is =
          Went.Goes number past.read (by before past.here.input past.here.printed) (by after past.here.input (past.here.printed ++ said)) past.here there last past.went is turn steps stands
      by_law number before after last past said there turn turn_byte steps steps_byte none stands true is =
          subst (λ read. Went left gave rules machine first full source (number + 1) read (by after past.here.input (past.here.printed ++ said)) there last) (append-nil past.read)
          (Went.Reads number past.read [] (0 ∷ []) (by before past.here.input past.here.printed) (by after past.here.input (past.here.printed ++ said)) past.here there last last past.went is
          (byte_given last) turn_byte steps_byte none stands)

  -- and so many of them
  record PastMany (reached : ℕ) (bytes : List ℕ) (before after : Moment Facts) (last : In) : Type 0 where
    pub said : List ℕ
    pub prints : after.state.printed ≡ before.state.printed ++ said
    pub past_them : Gone reached after last
    pub printed : past_them.here.printed ≡ bytes ++ said

  past_many : (reached number count : ℕ) (before after : Moment Facts) (last : In) (past : Gone number before last) → before.state.input ≡ 0 ∷ [] → after.state.input ≡ 0 ∷ []
      → Turns rules machine count before after → reached ≡ number + count → PastMany reached past.here.printed before after last
  past_many reached number zero before after last past had leaves same all =
      let none : number ≡ reached = omega (arith, all) in
      subst (λ (reached : ℕ). PastMany reached past.here.printed before after last) none
      (subst (λ (after : Moment Facts). PastMany number past.here.printed before after last) same
      (record { said = []; prints = sym (append-nil before.state.printed); past_them = past; printed = sym (append-nil past.here.printed) }))
  past_many reached number (suc count) before after last past had leaves (middle, turns, turn) all =
      let some : PastMany (number + count) past.here.printed before middle last =
      past_many (number + count) number count before middle last past had (byte_before rules machine count before middle after had leaves turns turn) turns refl in
      let one : PastOne (number + count) middle after last some.past_them =
      past_one (number + count) middle after last some.past_them (byte_before rules machine count before middle after had leaves turns turn) leaves turn in
      let same : number + count + 1 ≡ reached = omega (arith, all) in
      subst (λ (reached : ℕ). PastMany reached past.here.printed before after last) same
      (record {
        said = some.said ++ one.said;
        prints = one.prints ∙ ap (λ (printed : List ℕ). printed ++ one.said) some.prints ∙ append_assoc before.state.printed some.said one.said;
        past_them = one.past_it;
        printed = one.printed ∙ ap (λ (printed : List ℕ). printed ++ one.said) some.printed ∙ append_assoc past.here.printed some.said one.said;
      })

  -- ---- a turn that reads

  -- a step that takes a byte asks the input
  takes_asks : (state : State) → TakesInput machine state → asks_input machine.program state ≡ true
  takes_asks state takes = go (asks_input machine.program state) refl where
    never : (bytes : List ℕ) (found : Option State) → Some takes.next ≡ option_map (λ next. beside next (0 ∷ []) bytes) found → ⊥
    never bytes None same = cc same
    never bytes (Some next) same =
        let is : takes.next ≡ beside next (0 ∷ []) bytes = same_Some takes.next (beside next (0 ∷ []) bytes) same in
        cc (sym takes.taken ∙ ap (λ (state : State). state.input) is)

    go : (asks : Bool) → asks_input machine.program state ≡ asks → asks_input machine.program state ≡ true
    go true same = same
    go false same =
        let law : Unread machine state = unread machine state same in
        absurd (never (state.printed ++ law.said) (step machine state) (sym takes.steps ∙ law.steps (0 ∷ []) state.printed))

  record PastRead (number : ℕ) (bytes : List ℕ) (view : View) (facts : Facts) (behind : In) : Type 0 where
    pub past_it : Gone (number + 1) (moment_of view somewhere facts) behind
    pub printed : past_it.here.printed ≡ bytes

  past_reads : (number : ℕ) (view later : View) (facts now : Facts) (last behind : In) (past : Gone number (moment_of view somewhere facts) last) (read rest : List ℕ)
      → calls_gc machine.program (state_of view somewhere) ≡ false → TakesInput machine (state_of view somewhere) → IsGiven left gave last behind read rest
      → TurnMade rules machine (moment_of view (with_given somewhere (read ++ rest)) facts) (moment_of later (with_given somewhere rest) now)
      → PastRead number past.here.printed later now behind
  past_reads number view later facts now last behind past read rest still takes is_given turn =
      let here : State = past.here in
      let all : List ℕ = read ++ rest in
      let before : Moment Facts = moment_of view somewhere facts in
      let after : Moment Facts = moment_of later somewhere now in
      let made_so : TurnMade rules machine (by before all here.printed) (by after rest here.printed) =
      made_saying rules machine (moment_of view (with_given somewhere all) facts) (moment_of later (with_given somewhere rest) now) refl turn here.printed in
      let turn_so : WholeTurn rules machine (by before all here.printed) (by after rest here.printed) = whole rules machine (by before all here.printed) (by after rest here.printed) still made_so in
      let all_typed : IsTypedState machine.program (beside here all here.printed) = typed_by here all here.printed past.typed is_given.bytes in
      let it : Stepped (by before all here.printed) (by after rest here.printed) (beside here all here.printed) =
      stepped (by before all here.printed) (by after rest here.printed) (beside here all here.printed) (stands_by (by before here.input here.printed) here all here.printed past.stands) all_typed turn_so in
      let outside = same_left (by after rest here.printed) (made it.own) it.stands in
      let next : State = beside (made it.own) [] here.printed in
      let is : made it.own ≡ with_input next rest = ap₂ (λ (input printed : List ℕ). beside (made it.own) input printed) outside.0 outside.1 in
      let takes_here : TakesInput machine here =
      takes_whole rules machine (by before here.input here.printed) here past.stands (0 ∷ []) (takes_by machine (state_of view somewhere) (0 ∷ []) here.input here.printed takes) in
      record {
        past_it = record {
          here = next;
          read = past.read ++ read;
          went = Went.Reads number past.read read rest (by before here.input here.printed) (by after [] here.printed) here next last behind past.went (takes_asks here takes_here) is_given turn_so
              (ap (option_map made) it.is ∙ ap (λ (next : State). Some next) is) refl (stands_by (by after rest here.printed) (made it.own) [] here.printed it.stands);
          stands = stands_by (by after rest here.printed) (made it.own) [] here.printed it.stands;
          typed = typed_by (made it.own) [] here.printed (step_typed machine linked fits (beside here all here.printed) it.own all_typed it.is) tt;
          comes = comes_beside machine first.state later (record { input = rest; printed = here.printed }) (record { input = []; printed = here.printed })
              (coming_on machine first.state (by before all here.printed).state (by after rest here.printed).state
              (comes_beside machine first.state view (outside_of here) (record { input = all; printed = here.printed }) past.comes is_given.bytes)
              (whole_comes rules machine (by before all here.printed) (by after rest here.printed) turn_so))
              tt;
          unread = refl;
        };
        printed = refl;
      }

  -- ---- a run goes on

  pub come_on : (number count : ℕ) (view later : View) (facts now : Facts) (last behind : In) (taken takes took : Option (List ℕ)) → Come number view facts last taken takes
      → AdvancedBy count left gave rules machine somewhere view later facts now takes took last behind → Come (number + count) later now behind taken took
  come_on number count view later facts now last behind taken takes took come (AdvancedBy.Unread turned same) =
      let many : PastMany (number + count) come.past.here.printed (moment_of view somewhere facts) (moment_of later turned.next now) last =
      past_many (number + count) number count (moment_of view somewhere facts) (moment_of later turned.next now) last come.past refl turned.unread turned.made refl in
      let said : many.said ≡ turned.said = sym many.prints ∙ turned.grows in
      subst (λ (behind : In). Come (number + count) later now behind taken took) (sym same)
      (record {
        past = placed_past left gave rules machine first full source (number + count) later turned.next somewhere now last many.past_them;
        said = come.said ++ turned.said;
        grows = many.printed ∙ ap (λ (said : List ℕ). come.past.here.printed ++ said) said ∙ ap (λ (printed : List ℕ). printed ++ turned.said) come.grows
            ∙ append_assoc full.printed come.said turned.said;
        appends = appends_more taken takes took come.said turned.said come.appends turned.appends;
      })
  come_on number count view later facts now last behind taken takes took come (AdvancedBy.Read one still (TurnedIn.Silent turn same) silent) =
      let past_turn : PastOne number (moment_of view somewhere facts) (moment_of later somewhere now) last come.past =
      past_one number (moment_of view somewhere facts) (moment_of later somewhere now) last come.past refl refl
      (whole rules machine (moment_of view somewhere facts) (moment_of later somewhere now) still turn) in
      subst (λ (behind : In). Come (number + count) later now behind taken took) (sym same)
      (subst (λ (count : ℕ). Come (number + count) later now last taken took) (sym one)
      (subst (λ (took : Option (List ℕ)). Come (number + 1) later now last taken took) (sym silent)
      (record {
        past = past_turn.past_it;
        said = come.said;
        grows = past_turn.printed ∙ ap (λ (said : List ℕ). come.past.here.printed ++ said) (sym past_turn.prints) ∙ append-nil come.past.here.printed ∙ come.grows;
        appends = come.appends;
      })))
  come_on number count view later facts now last behind taken takes took come (AdvancedBy.Read one still (TurnedIn.Reading read rest asks is_given turn) silent) =
      let past_turn : PastRead number come.past.here.printed later now behind = past_reads number view later facts now last behind come.past read rest still asks is_given turn in
      subst (λ (count : ℕ). Come (number + count) later now behind taken took) (sym one)
      (subst (λ (took : Option (List ℕ)). Come (number + 1) later now behind taken took) (sym silent)
      (record { past = past_turn.past_it; said = come.said; grows = past_turn.printed ∙ come.grows; appends = come.appends }))

  -- what stands there is typed, and may come
  pub come_typed : (number : ℕ) (view : View) (facts : Facts) (last : In) (taken takes : Option (List ℕ)) → Come number view facts last taken takes → IsTypedState machine.program (state_of view somewhere)
  come_typed number view facts last taken takes come =
      let zero_low : 0 < 2 ^ 8 = omega arith in
      let typed : IsTypedState machine.program (state_of view (outside_of come.past.here)) =
      stands_typed machine.program (moment_of view (outside_of come.past.here) facts) come.past.here come.past.stands come.past.typed in
      record { heap = typed.heap; roots = typed.roots; input = (zero_low, tt) }

  pub come_may : (number : ℕ) (view : View) (facts : Facts) (last : In) (taken takes : Option (List ℕ)) → Come number view facts last taken takes → MayCome machine first.state (state_of view somewhere)
  come_may number view facts last taken takes come =
      let zero_low : 0 < 2 ^ 8 = omega arith in
      comes_beside machine first.state view (outside_of come.past.here) somewhere come.past.comes (zero_low, tt)

-- none was made
pub come_none : {Facts In : Type 0} (left : In → Option (List ℕ)) (gave : In → ℕ → List ℕ → In → Type 0) (rules : Rules Facts) (machine : Machine) (view : View) (facts : Facts) (full : State) (source : In)
    (taken : Option (List ℕ)) → StandsAt (moment_of view (outside_of full) facts) full → IsTypedState machine.program full → full.input ≡ []
    → HasCome left gave rules machine (moment_of view (outside_of full) facts) full source 0 view facts source taken taken
come_none left gave rules machine view facts full source taken stands typed none = record {
  past = record { here = full; read = []; went = Went.Begins; stands = stands; typed = typed; comes = MayCome.Here; unread = none };
  said = [];
  grows = sym (append-nil full.printed);
  appends = appends_none taken;
}
