-- The laws, for the functions that show them and for lemmas of crates above.
use Rattle.std.proofs.Common.{inr, inl, ◌⊎◌, ◌≡◌, ◌∙◌, ap, refl, subst, sym, ℕ, List, [], ◌++◌, Bool, true, false, Option, Some, None}
use Rattle.std.specs.Prelude.{option_map}
use Rattle.std.proofs.lemmas.List.{append-nil}
use Rattle.std.proofs.lemmas.Option.{same_Some}
use Rattle.cb_machine.specs.Machine.{Machine}
use Rattle.cb_machine.specs.Plans.{Plan, made, with_left}
use Rattle.cb_machine.specs.Steps.{asked_of, plan}
use Rattle.cb_plain.specs.State.{State}
use Rattle.cb_plain.specs.Updates.{with_input, with_printed}
use Rattle.cb_beside.specs.Asking.{asks_input}
use Rattle.cb_beside.specs.Beside.{beside, plan_beside, saying}
use Rattle.cb_beside.specs.Laws.{AsksAlike, Reads, Says, TakesByte, Unread}
use Rattle.cb_beside.proofs.Goes.{Asks, Goes, Quiet, TakesOne}
use Rattle.cb_beside.proofs.StepsGo.{plan_goes}

-- a plan that is itself beside some input and bytes leaves these
fixed : (input printed : List ℕ) (found : Option Plan) → found ≡ option_map (plan_beside input printed) found → (own : Plan) → found ≡ Some own
    → own ≡ plan_beside input printed own
fixed input printed found same own is =
    let own_is : Some own ≡ Some (plan_beside input printed own) = sym is ∙ same ∙ ap (option_map (plan_beside input printed)) is in
    same_Some own (plan_beside input printed own) own_is

-- and then it is told of its bytes alone
bytes_alone : (input bytes printed : List ℕ) (found : Option Plan) → found ≡ option_map (plan_beside input bytes) found
    → option_map (plan_beside input printed) found ≡ option_map (saying printed) found
bytes_alone input bytes printed None same = refl
bytes_alone input bytes printed (Some own) same =
    let left : own.left.input ≡ input = ap (λ (plan : Plan). plan.left.input) (fixed input bytes (Some own) same own refl) in
    ap (λ (input : List ℕ). Some (with_left own (with_printed (with_input own.left input) printed))) (sym left)

-- steps and requests
stepped : (input printed : List ℕ) (found : Option Plan)
    → option_map made (option_map (plan_beside input printed) found) ≡ option_map (λ next. beside next input printed) (option_map made found)
stepped input printed None = refl
stepped input printed (Some own) = refl

said_step : (printed : List ℕ) (found : Option Plan) → option_map made (option_map (saying printed) found) ≡ option_map (λ next. with_printed next printed) (option_map made found)
said_step printed None = refl
said_step printed (Some own) = refl

asked_same : (input printed : List ℕ) (found : Option Plan) → asked_of (option_map (plan_beside input printed) found) ≡ asked_of found
asked_same input printed None = refl
asked_same input printed (Some own) = refl

asked_saying : (printed : List ℕ) (found : Option Plan) → asked_of (option_map (saying printed) found) ≡ asked_of found
asked_saying printed None = refl
asked_saying printed (Some own) = refl

module _ (machine : Machine) (state : State) where
  abbrev Piece : List ℕ → List ℕ → Option Plan
  Piece input printed = plan machine (beside state input printed)

  -- behind what a plan says, beside what it leaves of the input
  says_by : (rest said : List ℕ)
      → ((printed : List ℕ) → plan machine (with_printed state printed) ≡ option_map (plan_beside rest (printed ++ said)) (plan machine state)) → Says machine state
  says_by rest said same =
      let alone : (printed : List ℕ) → plan machine (with_printed state printed) ≡ option_map (saying (printed ++ said)) (plan machine state) =
      λ printed. same printed ∙ bytes_alone rest (state.printed ++ said) (printed ++ said) (plan machine state) (same state.printed) in
      record {
        said = said;
        prints = λ own is. ap (λ (plan : Plan). plan.left.printed) (fixed rest (state.printed ++ said) (plan machine state) (same state.printed) own is);
        plans = alone;
        steps = λ printed. ap (option_map made) (alone printed) ∙ said_step (printed ++ said) (plan machine state);
        requests = λ printed. ap asked_of (alone printed) ∙ asked_saying (printed ++ said) (plan machine state);
      }

  -- what a step that reads does at its own input
  at_own : (goes : Asks plan_beside TakesOne state.input Piece (plan machine state)) (printed : List ℕ)
      → plan machine (with_printed state printed) ≡ option_map (plan_beside goes.rest printed) (plan machine state)
  at_own goes printed = ap (λ (input : List ℕ). plan machine (beside state input printed)) goes.front ∙ goes.same goes.rest printed (λ none. none)

  says_if : (reads : Bool) → Goes reads plan_beside TakesOne state.input Piece (plan machine state) → Says machine state
  says_if false goes = says_by state.input goes.said (λ printed. goes.same state.input printed)
  says_if true goes =
      says_by goes.rest []
      (λ printed. at_own goes printed ∙ ap (λ (bytes : List ℕ). option_map (plan_beside goes.rest bytes) (plan machine state)) (sym (append-nil printed)))

  pub says : Says machine state
  says = says_if (asks_input machine.program state) (plan_goes machine state)

  unread_by : Quiet plan_beside Piece (plan machine state) → Unread machine state
  unread_by goes =
      let kept : (own : Plan) → plan machine state ≡ Some own → own ≡ plan_beside state.input (state.printed ++ goes.said) own =
      fixed state.input (state.printed ++ goes.said) (plan machine state) (goes.same state.input state.printed) in
      record {
        said = goes.said;
        prints = λ own is. ap (λ (plan : Plan). plan.left.printed) (kept own is);
        leaves = λ own is. ap (λ (plan : Plan). plan.left.input) (kept own is);
        plans = goes.same;
        steps = λ input printed. ap (option_map made) (goes.same input printed) ∙ stepped input (printed ++ goes.said) (plan machine state);
        requests = λ input printed. ap asked_of (goes.same input printed) ∙ asked_same input (printed ++ goes.said) (plan machine state);
      }

  pub unread : asks_input machine.program state ≡ false → Unread machine state
  unread is = unread_by (subst (λ (reads : Bool). Goes reads plan_beside TakesOne state.input Piece (plan machine state)) is (plan_goes machine state))

  reads_by : Asks plan_beside TakesOne state.input Piece (plan machine state) → Reads machine state
  reads_by goes =
      let kept : (own : Plan) → plan machine state ≡ Some own → own ≡ plan_beside goes.rest state.printed own =
      fixed goes.rest state.printed (plan machine state) (at_own goes state.printed) in
      record {
        read = goes.read;
        rest = goes.rest;
        front = goes.front;
        prints = λ own is. ap (λ (plan : Plan). plan.left.printed) (kept own is);
        leaves = λ own is. ap (λ (plan : Plan). plan.left.input) (kept own is);
        plans = goes.same;
        steps = λ other printed only. ap (option_map made) (goes.same other printed only) ∙ stepped other printed (plan machine state);
        requests = λ other printed only. ap asked_of (goes.same other printed only) ∙ asked_same other printed (plan machine state);
      }

  pub reads : asks_input machine.program state ≡ true → Reads machine state
  reads is = reads_by (subst (λ (reads : Bool). Goes reads plan_beside TakesOne state.input Piece (plan machine state)) is (plan_goes machine state))

  -- a step that doesn't take a byte where it is given one doesn't read
  takes_by : TakesOne Piece (plan machine state) → TakesByte machine state
  takes_by takes =
      record { next = made (plan_beside [] state.printed takes.left); steps = ap (option_map made) (takes.takes state.printed); taken = refl }

  either_if : (reads : Bool) → Goes reads plan_beside TakesOne state.input Piece (plan machine state) → Unread machine state ⊎ TakesByte machine state
  either_if false goes = inl (unread_by goes)
  either_if true goes = elim goes.turns [ inl quiet ↦ inl (unread_by quiet) | inr takes ↦ inr (takes_by takes) ]

  pub unread_or_takes : Unread machine state ⊎ TakesByte machine state
  unread_or_takes = either_if (asks_input machine.program state) (plan_goes machine state)

  -- what takes a byte places nothing
  quiet_asks : Quiet plan_beside Piece (plan machine state) → AsksAlike machine state
  quiet_asks goes = λ input printed. ap asked_of (goes.same input printed) ∙ asked_same input (printed ++ goes.said) (plan machine state)

  alike_if : (reads : Bool) → Goes reads plan_beside TakesOne state.input Piece (plan machine state) → AsksAlike machine state
  alike_if false goes = quiet_asks goes
  alike_if true goes =
      elim goes.turns [ inl quiet ↦ quiet_asks quiet | inr takes ↦ λ input printed. takes.each input printed ∙ sym takes.asks ]

  pub asks_alike : AsksAlike machine state
  asks_alike = alike_if (asks_input machine.program state) (plan_goes machine state)
