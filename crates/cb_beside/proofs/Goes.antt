-- A piece of a step beside any input and any printed bytes, by whether it reads.
use Rattle.std.proofs.Common.{inl, ◌⊎◌, ◌≡◌, ◌∙◌, ap, refl, sym, ℕ, List, [], ◌∷◌, ◌++◌, Bool, true, false, Option, Some, None, if◌then◌else◌}
use Rattle.std.specs.Prelude.{option_and_then, option_map}
use Rattle.std.proofs.lemmas.List.{append-nil}
use Rattle.cb_machine.specs.Performing.{Performed, Gives, Stops}
use Rattle.cb_machine.specs.Plans.{Plan}
use Rattle.cb_machine.specs.Steps.{asked_of}
use Rattle.cb_plain.specs.declared.value.Value.{Value}
use Rattle.cb_beside.specs.Beside.{plan_beside}

-- one that doesn't read does the same beside any, and says the same bytes behind those that were printed
pub record Quiet {X : Type 0} (lay : List ℕ → List ℕ → X → X) (piece : List ℕ → List ℕ → Option X) (own : Option X) : Type 0 where
  pub said : List ℕ
  pub same : (input printed : List ℕ) → piece input printed ≡ option_map (lay input (printed ++ said)) own

-- one that reads this input says nothing, and takes a front of it: where it leaves some, any other may stand behind that front. It takes a
-- byte where it is given one, as is said of it, or else takes none
pub record Asks {X : Type 0} (lay : List ℕ → List ℕ → X → X) (Takes : (List ℕ → List ℕ → Option X) → Option X → Type 0) (input : List ℕ)
    (piece : List ℕ → List ℕ → Option X) (own : Option X) : Type 0 where
  pub read : List ℕ
  pub rest : List ℕ
  pub front : input ≡ read ++ rest
  pub same : (other printed : List ℕ) → (rest ≡ [] → other ≡ []) → piece (read ++ other) printed ≡ option_map (lay other printed) own
  pub turns : Quiet lay piece own ⊎ Takes piece own

abbrev pub Goes : {X : Type 0} → Bool → (List ℕ → List ℕ → X → X) → ((List ℕ → List ℕ → Option X) → Option X → Type 0) → List ℕ
    → (List ℕ → List ℕ → Option X) → Option X → Type 0
Goes false lay Takes input piece own = Quiet lay piece own
Goes true lay Takes input piece own = Asks lay Takes input piece own

-- a plan takes a byte where it is given one: it leaves none. It asks for no room, whatever the input
pub record TakesOne (piece : List ℕ → List ℕ → Option Plan) (own : Option Plan) : Type 0 where
  pub left : Plan
  pub takes : (printed : List ℕ) → piece (0 ∷ []) printed ≡ Some (plan_beside [] printed left)
  pub each : (input printed : List ℕ) → asked_of (piece input printed) ≡ []
  pub asks : asked_of own ≡ []

-- and so does a native, which gives an answer beside any input, and places nothing
abbrev pub GivesBare : Option Performed → Type 0
GivesBare (Some (Gives plan answer)) = plan.placed ≡ []
GivesBare (Some (Stops plan)) = ⊥
GivesBare None = ⊥

pub record GivesOne (piece : List ℕ → List ℕ → Option Performed) (own : Option Performed) : Type 0 where
  pub left : Plan
  pub answer : List Value
  pub takes : (printed : List ℕ) → piece (0 ∷ []) printed ≡ Some (Gives (plan_beside [] printed left) answer)
  pub each : (input printed : List ℕ) → GivesBare (piece input printed)
  pub given : GivesBare own

-- one that neither reads nor prints
pub silent : {X : Type 0} (lay : List ℕ → List ℕ → X → X) (piece : List ℕ → List ℕ → Option X) (own : Option X)
    → ((input printed : List ℕ) → piece input printed ≡ option_map (lay input printed) own) → Quiet lay piece own
silent lay piece own law =
    record { said = []; same = λ input printed. law input printed ∙ ap (λ bytes. option_map (lay input bytes) own) (sym (append-nil printed)) }

module _ {X : Type 0} (lay : List ℕ → List ℕ → X → X) (Takes : (List ℕ → List ℕ → Option X) → Option X → Type 0) (input : List ℕ) where
  pub plain : (reads : Bool) (piece : List ℕ → List ℕ → Option X) (own : Option X)
      → ((input printed : List ℕ) → piece input printed ≡ option_map (lay input printed) own) → Goes reads lay Takes input piece own
  plain false piece own law = silent lay piece own law
  plain true piece own law =
      record { read = []; rest = input; front = refl; same = λ other printed only. law other printed; turns = inl (silent lay piece own law) }

  -- what comes of what is there, and one of two
  pub and_goes : {Y : Type 0} (reads : Bool) (one : Y → List ℕ → List ℕ → Option X) (other : Y → Option X) → ((each : Y) → Goes reads lay Takes input (one each) (other each))
      → (found : Option Y) → Goes reads lay Takes input (λ input printed. option_and_then (λ each. one each input printed) found) (option_and_then other found)
  and_goes reads one other each None = plain reads (λ input printed. None) None (λ input printed. refl)
  and_goes reads one other each (Some item) = each item

  pub either_goes : (reads is : Bool) (one third : List ℕ → List ℕ → Option X) (other fourth : Option X)
      → Goes reads lay Takes input one other → Goes reads lay Takes input third fourth
      → Goes reads lay Takes input (λ input printed. if is then one input printed else third input printed) (if is then other else fourth)
  either_goes reads true one third other fourth first second = first
  either_goes reads false one third other fourth first second = second
