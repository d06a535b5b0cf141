-- A turn that doesn't read beside any input and any bytes that were printed before, and one that reads beside any such bytes.
use Rattle.std.proofs.Common.{◌≡◌, ◌∙◌, ◌⊎◌, ◌++◌, ap, refl, sym, subst, inl, inr, ℕ, zero, suc, Bool, true, false, List, [], ◌∷◌, Some}
use Rattle.std.proofs.lemmas.List.{append-nil, append_cancel_left}
use Rattle.std.proofs.lemmas.Option.{same_Some}
use Rattle.std.specs.Prelude.{option_map}
use Rattle.cb_heap.specs.Rules.{Rules}
use Rattle.cb_heap.specs.declared.no_room.NoRoom.{NoRoom}
use Rattle.cb_machine.specs.Machine.{Machine}
use Rattle.cb_machine.specs.Plans.{Plan, made}
use Rattle.cb_machine.specs.Steps.{plan, request, step}
use Rattle.cb_plain.specs.State.{State}
use Rattle.cb_plain.specs.declared.want.Want.{Want}
use Rattle.cb_beside.specs.Beside.{beside, plan_beside, saying}
use Rattle.cb_beside.specs.Laws.{Reads, Says, TakesByte, Unread}
use Rattle.cb_beside.specs.Asking.{asks_input}
use Rattle.cb_beside.proofs.Laws.{asks_alike, reads, says, unread, unread_or_takes}
use Rattle.cb_act.specs.Turning.{Asked, Moment, NotAsked, NotSwept, RoomMade, RoomRefused, StandsAt, Swept, SweptAll, TurnMade, TurnRefused, TurnUnreported, Turns, WholeTurn}

-- a moment beside them
abbrev pub by : {Facts : Type 0} → Moment Facts → (input printed : List ℕ) → Moment Facts
by moment input printed = record { state = beside moment.state input printed; facts = moment.facts }

pub stands_by : {Facts : Type 0} (moment : Moment Facts) (state : State) (input printed : List ℕ) → StandsAt moment state → StandsAt (by moment input printed) (beside state input printed)
stands_by moment state input printed stands = record {
  kept = stands.kept;
  same = ap (λ (state : State). beside state input printed) stands.same;
  marks = stands.marks;
  keeping = record { count = stands.keeping.count; closed = stands.keeping.closed };
}

-- a step that leaves a byte that it is given does the same beside all
pub unread_at : (machine : Machine) (state : State) (own : Plan) → state.input ≡ 0 ∷ [] → plan machine state ≡ Some own → (made own).input ≡ 0 ∷ [] → Unread machine state
unread_at machine state own given is leaves = by_law (unread_or_takes machine state) where
  by_law : Unread machine state ⊎ TakesByte machine state → Unread machine state
  by_law (inl law) = law
  by_law (inr takes) =
      let own_is : Some (made own) ≡ Some takes.next =
      sym (ap (option_map made) is) ∙ ap (λ (input : List ℕ). step machine (record { roots = state.roots; objects = state.objects; input = input; printed = state.printed; exit = state.exit })) given
      ∙ takes.steps in
      let none : (made own).input ≡ [] = ap (λ (state : State). state.input) (same_Some (made own) takes.next own_is) ∙ takes.taken in
      absurd (cc (sym leaves ∙ none))

append_empty : (front back : List ℕ) → front ++ back ≡ [] → (front ≡ []) × (back ≡ [])
append_empty [] back none = (refl, none)
append_empty (byte ∷ front) back none = absurd (cc none)

module _ {Facts : Type 0} (rules : Rules Facts) (machine : Machine) where
  room_by : (before after : Moment Facts) (wants : List Want) (input printed : List ℕ) → RoomMade rules before wants after → RoomMade rules (by before input printed) wants (by after input printed)
  room_by before after wants input printed NotAsked = NotAsked
  room_by before after wants input printed (Asked first rest own ruled collects same) =
      Asked first rest (by own input printed) ruled collects (ap (λ (state : State). beside state input printed) same)

  -- room changes neither
  room_input : (before after : Moment Facts) (wants : List Want) → RoomMade rules before wants after → after.state.input ≡ before.state.input
  room_input before after wants NotAsked = refl
  room_input before after wants (Asked first rest own ruled collects same) = ap (λ (state : State). state.input) same

  room_printed : (before after : Moment Facts) (wants : List Want) → RoomMade rules before wants after → after.state.printed ≡ before.state.printed
  room_printed before after wants NotAsked = refl
  room_printed before after wants (Asked first rest own ruled collects same) = ap (λ (state : State). state.printed) same

  swept_by : (before made after : Moment Facts) (input printed more : List ℕ) → Swept rules machine before made after
      → Swept rules machine (by before input printed) (by made input more) (by after input more)
  swept_by before made after input printed more (NotSwept calls) = NotSwept calls
  swept_by before made after input printed more (SweptAll own calls ruled collects same) =
      SweptAll (by own input more) calls ruled collects (ap (λ (state : State). beside state input more) same)

  swept_input : (before made after : Moment Facts) → Swept rules machine before made after → after.state.input ≡ made.state.input
  swept_input before made after (NotSwept calls) = refl
  swept_input before made after (SweptAll own calls ruled collects same) = ap (λ (state : State). state.input) same

  swept_printed : (before made after : Moment Facts) → Swept rules machine before made after → after.state.printed ≡ made.state.printed
  swept_printed before made after (NotSwept calls) = refl
  swept_printed before made after (SweptAll own calls ruled collects same) = ap (λ (state : State). state.printed) same

  -- ---- a turn that is given a byte and leaves it

  pub record TurnedBeside (before after : Moment Facts) : Type 0 where
    pub said : List ℕ
    pub prints : after.state.printed ≡ before.state.printed ++ said
    pub beside_all : (input printed : List ℕ) → TurnMade rules machine (by before input printed) (by after input (printed ++ said))

  room_asked : (before middle : Moment Facts) → RoomMade rules before (request machine before.state) middle → (input printed : List ℕ)
      → RoomMade rules (by before input printed) (request machine (by before input printed).state) (by middle input printed)
  room_asked before middle room input printed =
      subst (λ wants. RoomMade rules (by before input printed) wants (by middle input printed)) (sym (asks_alike machine before.state input printed))
      (room_by before middle (request machine before.state) input printed room)

  pub made_beside : (before after : Moment Facts) → before.state.input ≡ 0 ∷ [] → after.state.input ≡ 0 ∷ [] → TurnMade rules machine before after → TurnedBeside before after
  made_beside before after given leaves turn =
      let middle : turn.middle.state.input ≡ 0 ∷ [] = room_input before turn.middle (request machine before.state) turn.room ∙ given in
      let law : Unread machine turn.middle.state =
      unread_at machine turn.middle.state turn.own middle turn.plans (ap (λ (state : State). state.input) (sym turn.steps) ∙ leaves) in
      record {
        said = law.said;
        prints = ap (λ (state : State). state.printed) turn.steps ∙ law.prints turn.own turn.plans
            ∙ ap (λ (printed : List ℕ). printed ++ law.said) (room_printed before turn.middle (request machine before.state) turn.room);
        beside_all = λ input printed. record {
          middle = by turn.middle input printed;
          room = room_asked before turn.middle turn.room input printed;
          own = plan_beside input (printed ++ law.said) turn.own;
          plans = law.plans input printed ∙ ap (option_map (plan_beside input (printed ++ law.said))) turn.plans;
          steps = ap (λ (state : State). beside state input (printed ++ law.said)) turn.steps;
          knows = turn.knows;
        };
      }

  pub record WholeBeside (before after : Moment Facts) : Type 0 where
    pub said : List ℕ
    pub prints : after.state.printed ≡ before.state.printed ++ said
    pub beside_all : (input printed : List ℕ) → WholeTurn rules machine (by before input printed) (by after input (printed ++ said))

  pub whole_beside : (before after : Moment Facts) → before.state.input ≡ 0 ∷ [] → after.state.input ≡ 0 ∷ [] → WholeTurn rules machine before after → WholeBeside before after
  whole_beside before after given leaves turn =
      let made : TurnedBeside before turn.middle =
      made_beside before turn.middle given (sym (swept_input before turn.middle after turn.swept) ∙ leaves) turn.made in
      record {
        said = made.said;
        prints = swept_printed before turn.middle after turn.swept ∙ made.prints;
        beside_all = λ input printed. record {
          middle = by turn.middle input (printed ++ made.said);
          made = made.beside_all input printed;
          swept = swept_by before turn.middle after input printed (printed ++ made.said) turn.swept;
        };
      }

  -- a step from no input leaves none, and one from a byte leaves that or none
  left_none : (state : State) (own : Plan) → state.input ≡ [] → plan machine state ≡ Some own → (made own).input ≡ []
  left_none state own none is = go (asks_input machine.program state) refl where
    go : (asks : Bool) → asks_input machine.program state ≡ asks → (made own).input ≡ []
    go false same = (unread machine state same).leaves own is ∙ none
    go true same =
        let law : Reads machine state = reads machine state same in
        law.leaves own is ∙ (append_empty law.read law.rest (sym law.front ∙ none)).1

  left_byte : (state : State) (own : Plan) → state.input ≡ 0 ∷ [] → plan machine state ≡ Some own → ((made own).input ≡ 0 ∷ []) ⊎ ((made own).input ≡ [])
  left_byte state own given is = by_law (unread_or_takes machine state) where
    by_law : Unread machine state ⊎ TakesByte machine state → ((made own).input ≡ 0 ∷ []) ⊎ ((made own).input ≡ [])
    by_law (inl law) = inl (law.leaves own is ∙ given)
    by_law (inr takes) =
        let own_is : Some (made own) ≡ Some takes.next =
        sym (ap (option_map made) is) ∙ ap (λ (input : List ℕ). step machine (record { roots = state.roots; objects = state.objects; input = input; printed = state.printed; exit = state.exit })) given
        ∙ takes.steps in
        inr (ap (λ (state : State). state.input) (same_Some (made own) takes.next own_is) ∙ takes.taken)

  whole_none : (before after : Moment Facts) → before.state.input ≡ [] → WholeTurn rules machine before after → after.state.input ≡ []
  whole_none before after none turn =
      swept_input before turn.middle after turn.swept ∙ ap (λ (state : State). state.input) turn.made.steps
      ∙ left_none turn.made.middle.state turn.made.own (room_input before turn.made.middle (request machine before.state) turn.made.room ∙ none) turn.made.plans

  whole_byte : (before after : Moment Facts) → before.state.input ≡ 0 ∷ [] → WholeTurn rules machine before after → (after.state.input ≡ 0 ∷ []) ⊎ (after.state.input ≡ [])
  whole_byte before after given turn =
      let last : after.state.input ≡ (made turn.made.own).input =
      swept_input before turn.middle after turn.swept ∙ ap (λ (state : State). state.input) turn.made.steps in
      elim (left_byte turn.made.middle.state turn.made.own (room_input before turn.made.middle (request machine before.state) turn.made.room ∙ given) turn.made.plans)
      [ inl same ↦ inl (last ∙ same) | inr none ↦ inr (last ∙ none) ]

  pub turns_byte : (count : ℕ) (first last : Moment Facts) → first.state.input ≡ 0 ∷ [] → Turns rules machine count first last → (last.state.input ≡ 0 ∷ []) ⊎ (last.state.input ≡ [])
  turns_byte zero first last given same = inl (sym (ap (λ (moment : Moment Facts). moment.state.input) same) ∙ given)
  turns_byte (suc count) first last given (before, turns, turn) =
      elim (turns_byte count first before given turns) [ inl same ↦ whole_byte before last same turn | inr none ↦ inr (whole_none before last none turn) ]

  -- the moment before the last of turns that leave it has it too
  pub byte_before : (count : ℕ) (first before last : Moment Facts) → first.state.input ≡ 0 ∷ [] → last.state.input ≡ 0 ∷ [] → Turns rules machine count first before → WholeTurn rules machine before last
      → before.state.input ≡ 0 ∷ []
  byte_before count first before last given leaves turns turn =
      elim (turns_byte count first before given turns) [ inl same ↦ same | inr none ↦ absurd (cc (sym leaves ∙ whole_none before last none turn)) ]

  -- ---- a turn that prints nothing, beside other bytes that were printed

  pub made_saying : (before after : Moment Facts) → after.state.printed ≡ before.state.printed → TurnMade rules machine before after
      → (printed : List ℕ) → TurnMade rules machine (by before before.state.input printed) (by after after.state.input printed)
  made_saying before after quiet turn printed =
      let law : Says machine turn.middle.state = says machine turn.middle.state in
      let same : turn.middle.state.printed ≡ before.state.printed = room_printed before turn.middle (request machine before.state) turn.room in
      let none : law.said ≡ [] =
      append_cancel_left turn.middle.state.printed law.said []
      (sym (law.prints turn.own turn.plans) ∙ ap (λ (state : State). state.printed) (sym turn.steps) ∙ quiet ∙ sym same ∙ sym (append-nil turn.middle.state.printed)) in
      let middle : turn.middle.state.input ≡ before.state.input = room_input before turn.middle (request machine before.state) turn.room in
      let bytes : printed ++ law.said ≡ printed = ap (λ (said : List ℕ). printed ++ said) none ∙ append-nil printed in
      record {
        middle = by turn.middle before.state.input printed;
        room = subst (λ wants. RoomMade rules (by before before.state.input printed) wants (by turn.middle before.state.input printed)) (sym ((says machine before.state).requests printed))
            (room_by before turn.middle (request machine before.state) before.state.input printed turn.room);
        own = saying printed turn.own;
        plans = ap (λ (input : List ℕ). plan machine (beside turn.middle.state input printed)) (sym middle) ∙ law.plans printed ∙ ap (option_map (saying (printed ++ law.said))) turn.plans
            ∙ ap (λ (bytes : List ℕ). Some (saying bytes turn.own)) bytes;
        steps = ap (λ (state : State). beside state state.input printed) turn.steps;
        knows = turn.knows;
      }

  -- ---- a turn that isn't made

  refused_by : (before after : Moment Facts) (wants : List Want) (reason : NoRoom) (input printed : List ℕ) → RoomRefused rules before wants reason after
      → RoomRefused rules (by before input printed) wants reason (by after input printed)
  refused_by before after wants reason input printed refused =
      record { asked = refused.asked; ruled = refused.ruled; collects = refused.collects; same = ap (λ (state : State). beside state input printed) refused.same }

  pub refused_beside : (before after : Moment Facts) (reason : NoRoom) (input printed : List ℕ) → TurnRefused rules machine before reason after
      → TurnRefused rules machine (by before input printed) reason (by after input printed)
  refused_beside before after reason input printed turn = record {
    refused = subst (λ wants. RoomRefused rules (by before input printed) wants reason (by after input printed)) (sym (asks_alike machine before.state input printed))
        (refused_by before after (request machine before.state) reason input printed turn.refused);
  }

  pub unreported_beside : (before after : Moment Facts) → before.state.input ≡ 0 ∷ [] → after.state.input ≡ 0 ∷ [] → after.state.printed ≡ before.state.printed
      → (input printed : List ℕ) → TurnUnreported rules machine before after → TurnUnreported rules machine (by before input printed) (by after input printed)
  unreported_beside before after given leaves quiet input printed turn =
      let same : after.state.input ≡ turn.middle.state.input = ap (λ (state : State). state.input) turn.fails.same in
      let bytes : after.state.printed ≡ turn.middle.state.printed = ap (λ (state : State). state.printed) turn.fails.same in
      let made : TurnedBeside before turn.middle = made_beside before turn.middle given (sym same ∙ leaves) turn.made in
      let none : made.said ≡ [] = append_cancel_left before.state.printed made.said [] (sym made.prints ∙ sym bytes ∙ quiet ∙ sym (append-nil before.state.printed)) in
      let all : printed ++ made.said ≡ printed = ap (λ (said : List ℕ). printed ++ said) none ∙ append-nil printed in
      record {
        middle = by turn.middle input printed;
        made = subst (λ (bytes : List ℕ). TurnMade rules machine (by before input printed) (by turn.middle input bytes)) all (made.beside_all input printed);
        fails = record { calls = turn.fails.calls; ruled = turn.fails.ruled; collects = turn.fails.collects; same = ap (λ (state : State). beside state input printed) turn.fails.same };
      }
