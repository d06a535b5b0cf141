-- A run over an input that tells its bytes comes to the states of the machine that is given all of them at the start.
use Rattle.std.proofs.Common.{◌≡◌, ◌∙◌, ◌+◌, ◌*◌, ◌++◌, ◌<◌, ◌≤◌, ◌⊎◌, ap, append_assoc, arith, inl, inr, map, refl, subst, sym, zero, suc, ℕ, Bool, false, true, IsTrue, List, [], ◌∷◌, length, Option, None, Some}
use Rattle.std.proofs.lemmas.Bool.{cases_lt}
use Rattle.std.proofs.lemmas.List.{append_cancel_right}
use Rattle.std.specs.Prelude.{option_map}
use Rattle.std.specs.List.{fold, range_with_len}
use Rattle.std.specs.Io.KnownBytes.{Consumes, IsAtEnd}
use Rattle.cb_beside.specs.Asking.{asks_input}
use Rattle.cb_beside.specs.Beside.{beside}
use Rattle.cb_beside.specs.Laws.{AsksAlike, Reads as ReadsFront, Unread}
use Rattle.cb_interp.specs.Reading.{IsGiven}
use Rattle.cb_link.specs.Program.{Linked}
use Rattle.cb_machine.specs.Initialising.{own_statics}
use Rattle.cb_machine.specs.Library as library
use Rattle.cb_machine.specs.Machine.{Machine, kind_of_site}
use Rattle.cb_machine.specs.Plans.{Plan, leaving, made, with_left, with_one}
use Rattle.cb_machine.specs.Runs.{after, at, next}
use Rattle.cb_machine.specs.Sites.{argument_characters, argument_strings, arguments, system_in, system_out}
use Rattle.cb_machine.specs.Starting.{empty_state, start}
use Rattle.cb_machine.specs.Steps.{request, step}
use Rattle.cb_machine.specs.Strings.{with_string}
use Rattle.cb_plain.specs.declared.value.Value.TheVariants.{Ref}
use Rattle.cb_plain.specs.declared.want.Want.{Want}
use Rattle.cb_plain.specs.State.{Reference, State}
use Rattle.cb_plain.specs.Updates.{with_argument, with_input, with_static}
use Rattle.cb_runner.specs.Running.{Begins, ComesToTold, Goes, Reaches, Reads}

-- a step that is made leads to the next state
abbrev or_state : State → Option State → State
or_state state None = state
or_state state (Some after) = after

step_next : (machine : Machine) (state after : State) → step machine state ≡ Some after → next machine state ≡ after
step_next machine state after steps = ap (or_state state) steps

-- ---- the start is the same whatever the input

abbrev giving : List ℕ → Plan → Plan
giving input plan = with_left plan (with_input plan.left input)

module _ (machine : Machine) (input : List ℕ) where
  abbrev with_text : Plan → List ℕ → Plan
  with_text plan units = (with_string machine argument_strings argument_characters units plan).plan

  texts_alike : (texts : List (List ℕ)) (plan : Plan) → fold with_text (giving input plan) texts ≡ giving input (fold with_text plan texts)
  texts_alike [] plan = refl
  texts_alike (units ∷ texts) plan = texts_alike texts (with_text plan units)

  abbrev set_streams : Plan → List ℕ → ℕ → Plan
  set_streams plan [] serial = plan
  set_streams plan (slot ∷ slots) serial = set_streams (with_left plan (with_static plan.left slot (Ref serial))) slots (serial + 1)

  streams_alike : (slots : List ℕ) (plan : Plan) (serial : ℕ) → set_streams (giving input plan) slots serial ≡ giving input (set_streams plan slots serial)
  streams_alike [] plan serial = refl
  streams_alike (slot ∷ slots) plan serial = streams_alike slots (with_left plan (with_static plan.left slot (Ref serial))) (serial + 1)

  abbrev streamed : Plan → Plan
  streamed plan = with_one (with_one plan system_out (kind_of_site machine.program system_out) []) system_in (kind_of_site machine.program system_in) []

  abbrev waiting : Plan → Plan
  waiting plan = with_left plan (with_argument plan.left 1)

  abbrev ended : Plan → Plan
  ended plan = waiting (set_streams (streamed plan) (own_statics machine.program library.system) plan.next)

  ended_alike : (plan : Plan) → ended (giving input plan) ≡ giving input (ended plan)
  ended_alike plan = ap waiting (streams_alike (own_statics machine.program library.system) (streamed plan) plan.next)

  module _ (given : List (List ℕ)) where
    abbrev array : Plan
    array =
        with_one (leaving (empty_state machine.program [])) arguments (kind_of_site machine.program arguments) (map (λ turn. Reference (2 * turn + 3)) (range_with_len 0 (length given)))

    start_alike : start machine given input ≡ with_input (start machine given []) input
    start_alike = ap (λ plan. made (ended plan)) (texts_alike given array) ∙ ap made (ended_alike (fold with_text array given))

-- ---- and so is each step

next_at : (machine : Machine) (count : ℕ) (state : State) → after machine (suc count) state ≡ next machine (after machine count state)
next_at machine zero state = refl
next_at machine (suc count) state = next_at machine count (next machine state)

more_at : (machine : Machine) (count : ℕ) (state : State) → after machine (count + 1) state ≡ next machine (after machine count state)
more_at machine count state =
    let same : count + 1 ≡ suc count = omega arith in
    ap (λ (count : ℕ). after machine count state) same ∙ next_at machine count state

-- what is left of known bytes
known_rest : (before now : Option (List ℕ)) (bytes front : List ℕ) → before ≡ Some bytes → Consumes before now front → (rest : List ℕ) × (now ≡ Some rest) × (bytes ≡ front ++ rest)
known_rest None now bytes front is moved = absurd (cc is)
known_rest (Some known) None bytes front is moved = absurd moved
known_rest (Some known) (Some rest) bytes front is moved = let same : bytes ≡ known = cc is in (rest, refl, same ∙ moved)

at_end : (now : Option (List ℕ)) (rest : List ℕ) → now ≡ Some rest → IsAtEnd now → rest ≡ []
at_end None rest is end = absurd (cc is)
at_end (Some known) rest is end = let same : rest ≡ known = cc is in same ∙ end

some_same : (one other : State) → Some one ≡ Some other → one ≡ other
some_same one other is = cc is

module _ (machine : Machine) (given : List (List ℕ)) (bytes : List ℕ) (unread : (state : State) → asks_input machine.program state ≡ false → Unread machine state)
    (fronts : (state : State) → asks_input machine.program state ≡ true → ReadsFront machine state)
    (alike : (program : Linked) (state : State) (input printed : List ℕ) → asks_input program (beside state input printed) ≡ asks_input program state)
    (wants : (state : State) → AsksAlike machine state) where
  abbrev there : ℕ → State
  there count = at machine given bytes count

  abbrev Told : ℕ → List ℕ → State → Option (List ℕ) → Type 0
  Told count read state left = ComesToTold machine given bytes count read state left

  -- a state beside no input asks for the same room
  same_room : (state other : State) → state ≡ with_input other [] → request machine state ≡ request machine other
  same_room state other is = ap (request machine) is ∙ wants other [] other.printed

  begun : (left : Option (List ℕ)) → left ≡ Some bytes → Told 0 [] (at machine given [] 0) left
  begun left is =
      let start_so = start_alike machine bytes given in
      let input_so : (there 0).input ≡ bytes = ap (λ (state : State). state.input) start_so in
      let same : at machine given [] 0 ≡ with_input (there 0) [] = start_alike machine [] given ∙ ap (λ (state : State). with_input state []) (sym start_so) in
      record {
        same = same;
        whole = sym input_so;
        remains = is ∙ ap (λ (bytes : List ℕ). Some bytes) (sym input_so);
        asks = same_room (at machine given [] 0) (there 0) same;
      }

  moved : (count : ℕ) (read : List ℕ) (state behind : State) (left : Option (List ℕ))
      → step machine (there count) ≡ Some behind → state ≡ with_input behind [] → bytes ≡ read ++ behind.input → left ≡ Some behind.input → Told (count + 1) read state left
  moved count read state behind left steps same whole remains =
      let is : there (count + 1) ≡ behind = more_at machine count (there 0) ∙ step_next machine (there count) behind steps in
      let alike_there : state ≡ with_input (there (count + 1)) [] = same ∙ ap (λ (state : State). with_input state []) (sym is) in
      record {
        same = alike_there;
        whole = whole ∙ ap (λ (state : State). read ++ state.input) (sym is);
        remains = remains ∙ ap (λ (state : State). Some state.input) (sym is);
        asks = same_room state (there (count + 1)) alike_there;
      }

  -- a step that doesn't ask the input
  goes : (count : ℕ) (read : List ℕ) (state behind : State) (left : Option (List ℕ)) → Told count read state left → asks_input machine.program state ≡ false
      → step machine state ≡ Some behind → Told (count + 1) read behind left
  goes count read state behind left was silent steps =
      let law = unread state silent in
      let input : List ℕ = (there count).input in
      let printed : List ℕ = state.printed ++ law.said in
      let other : there count ≡ beside state input state.printed = ap (λ (state : State). beside state input state.printed) (sym was.same) in
      let empty : state.input ≡ [] = ap (λ (state : State). state.input) was.same in
      let own : Some behind ≡ Some (beside behind [] printed) =
      sym steps ∙ ap (λ (input : List ℕ). step machine (beside state input state.printed)) empty ∙ law.steps [] state.printed ∙ ap (option_map (λ behind. beside behind [] printed)) steps in
      moved count read behind (beside behind input printed) left
      (ap (step machine) other ∙ law.steps input state.printed ∙ ap (option_map (λ behind. beside behind input printed)) steps) (some_same behind (beside behind [] printed) own) was.whole
      was.remains

  -- one that asks it
  module _ {In : Type 0} (left : In → Option (List ℕ)) (gave : In → ℕ → List ℕ → In → Type 0) where
    asking : (count : ℕ) (read more rest : List ℕ) (state behind : State) (mid last : In) → Told count read state (left mid) → asks_input machine.program state ≡ true
        → IsGiven left gave mid last more rest → step machine (with_input state (more ++ rest)) ≡ Some (with_input behind rest)
        → behind.input ≡ [] → Told (count + 1) (read ++ more) behind (left last)
    asking count read more rest state behind mid last was asks is_given steps none =
        let full : State = with_input state (more ++ rest) in
        let law = fronts full (alike machine.program state (more ++ rest) state.printed ∙ asks) in
        let (left_over, remains, parts) = known_rest (left mid) (left last) (there count).input more was.remains is_given.consumes in
        let own : Some (with_input behind rest) ≡ Some (beside behind law.rest state.printed) =
        sym steps ∙ ap (λ (input : List ℕ). step machine (with_input state input)) law.front ∙ law.steps law.rest state.printed (λ is. is)
        ∙ ap (option_map (λ behind. beside behind law.rest state.printed)) steps in
        let leaves : with_input behind rest ≡ beside behind law.rest state.printed = some_same (with_input behind rest) (beside behind law.rest state.printed) own in
        let same_rest : rest ≡ law.rest = ap (λ (state : State). state.input) leaves in
        let same_printed : behind.printed ≡ state.printed = ap (λ (state : State). state.printed) leaves in
        let same_read : more ≡ law.read = append_cancel_right more law.read rest (law.front ∙ ap (λ (rest : List ℕ). law.read ++ rest) (sym same_rest)) in
        let end : law.rest ≡ [] → left_over ≡ [] = λ none. at_end (left last) left_over remains (is_given.end (same_rest ∙ none)) in
        let other : there count ≡ beside full (law.read ++ left_over) state.printed =
        ap (λ (state : State). with_input state (there count).input) (sym was.same)
        ∙ ap (λ (input : List ℕ). with_input state input) (parts ∙ ap (λ (read : List ℕ). read ++ left_over) same_read) in
        moved count (read ++ more) behind (beside behind left_over state.printed) (left last)
        (ap (step machine) other ∙ law.steps left_over state.printed end ∙ ap (option_map (λ behind. beside behind left_over state.printed)) steps)
        (ap (λ (input : List ℕ). with_input behind input) none ∙ ap (λ (printed : List ℕ). beside behind [] printed) same_printed)
        (was.whole ∙ ap (λ (rest : List ℕ). read ++ rest) parts ∙ sym (append_assoc read more left_over)) remains

    pub told_so : (first last : In) (count : ℕ) (read : List ℕ) (state : State) → left first ≡ Some bytes
        → Reaches left gave machine (at machine given [] 0) first count read state last → Told count read state (left last)
    told_so first last count read state is Begins = begun (left first) is
    told_so first last count read state is (Goes before taken here behind mid came silent steps) =
        goes before read here state (left last) (told_so first last before read here is came) silent steps
    told_so first last count read state is (Reads before taken more rest here behind mid own came asks is_given steps none) =
        asking before taken more rest here state mid last (told_so first mid before taken here is came) asks is_given steps none
