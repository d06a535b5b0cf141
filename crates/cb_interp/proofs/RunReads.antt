-- Turns of a run that don't ask the input, and those in which a call of it failed.
use Rattle.std.proofs.Common.{◌≡◌, refl, subst, ℕ, List, Option}
use Rattle.std.specs.Prelude.{IfErr}
use Rattle.std.specs.declared.result.Result.{Result}
use Rattle.std.specs.declared.result.Result.TheVariants.{Err, Ok}
use Rattle.cb_act.specs.Turning.{Moment}
use Rattle.cb_heap.specs.Rules.{Rules}
use Rattle.cb_heap.specs.declared.no_room.NoRoom.TheVariants as rooms
use Rattle.cb_machine.specs.Machine.{Machine}
use Rattle.cb_plain.specs.State.{State}
use Rattle.cb_interp.specs.Reading.{InputFails, LosesBy}
use Rattle.cb_interp.specs.Running.{ReadStops, SaysBy, StopsBy, TurnStops}
use Rattle.cb_interp.specs.declared.stop.Stop.{Stop}
use Rattle.cb_interp.proofs.RunTurns.{refused_so}
use Rattle.cb_interp.specs.declared.stop.Stop.TheVariants as stops

module _ {Facts : Type 0} (rules : Rules Facts) (machine : Machine) (before after : Moment Facts) where
  stop_reads : (stop : Stop) → StopsBy rules machine stop before after → ReadStops rules machine stop before after
  stop_reads stops.InputFault is = absurd is
  stop_reads other is = is

  pub stops_read : (result : Result (Unit {0}) Stop) → IfErr result (λ stop. StopsBy rules machine stop before after) → IfErr result (λ stop. ReadStops rules machine stop before after)
  stops_read (Ok done) is = tt
  stops_read (Err stop) is = stop_reads stop is

  fail_reads : after.facts ≡ before.facts → (stop : Stop) → InputFails machine before.state stop → ReadStops rules machine stop before after
  fail_reads known stops.InputFault is = (is, known)
  fail_reads known other is = absurd is

  pub fails_read : after.facts ≡ before.facts → (result : Result (Unit {0}) Stop) → IfErr result (λ stop. InputFails machine before.state stop) → IfErr result (λ stop. ReadStops rules machine stop before after)
  fails_read known (Ok done) is = tt
  fails_read known (Err stop) is = fail_reads known stop is

  still : {In : Type 0} (left : In → Option (List ℕ)) (gave : In → ℕ → List ℕ → In → Type 0) (source : In) (stop : Stop) → StopsBy rules machine stop before after → LosesBy left gave machine before.state stop source source
  still left gave source stops.InputFault is = absurd is
  still left gave source other is = refl

  pub stays_still : {In : Type 0} (left : In → Option (List ℕ)) (gave : In → ℕ → List ℕ → In → Type 0) (source : In) (result : Result (Unit {0}) Stop) → IfErr result (λ stop. StopsBy rules machine stop before after) → IfErr result (λ stop. LosesBy left gave machine before.state stop source source)
  stays_still left gave source (Ok done) is = tt
  stays_still left gave source (Err stop) is = still left gave source stop is

  never : (stop : Stop) → StopsBy rules machine stop before after → stop ≡ stops.InputFault → ⊥
  never stop is same = subst (λ stop. StopsBy rules machine stop before after) same is

  pub never_input : (result : Result (Unit {0}) Stop) → IfErr result (λ stop. StopsBy rules machine stop before after) → result ≡ Err stops.InputFault → ⊥
  never_input (Ok done) is same = cc same
  never_input (Err stop) is same = never stop is (cc same)

  read_stop : (stop : Stop) → ReadStops rules machine stop before after → TurnStops rules machine stop before after
  read_stop stops.InputFault is = is
  read_stop stops.OutputFault is = absurd is
  read_stop (stops.Exited status) is = absurd is
  read_stop (stops.NoRoom reason) is = refused_so rules machine reason before after is
  read_stop stops.Returned is = is
  read_stop stops.Uncaught is = is

  pub reads_stop : (result : Result (Unit {0}) Stop) → IfErr result (λ stop. ReadStops rules machine stop before after) → IfErr result (λ stop. TurnStops rules machine stop before after)
  reads_stop (Ok done) is = tt
  reads_stop (Err stop) is = read_stop stop is

  read_silent : (taken : Option (List ℕ)) (stop : Stop) → ReadStops rules machine stop before after → SaysBy machine before.state stop taken taken
  read_silent taken stops.OutputFault is = absurd is
  read_silent taken other is = refl

  pub reads_silent : (taken : Option (List ℕ)) (result : Result (Unit {0}) Stop) → IfErr result (λ stop. ReadStops rules machine stop before after)
      → IfErr result (λ stop. SaysBy machine before.state stop taken taken)
  reads_silent taken (Ok done) is = tt
  reads_silent taken (Err stop) is = read_silent taken stop is

  never_write : (stop : Stop) → ReadStops rules machine stop before after → stop ≡ stops.OutputFault → ⊥
  never_write stop is same = subst (λ stop. ReadStops rules machine stop before after) same is

  pub reads_never : (result : Result (Unit {0}) Stop) → IfErr result (λ stop. ReadStops rules machine stop before after) → result ≡ Err stops.OutputFault → ⊥
  reads_never (Ok done) is same = cc same
  reads_never (Err stop) is same = never_write stop is (cc same)

only_input : (machine : Machine) (state : State) (stop : Stop) → InputFails machine state stop → stop ≡ stops.NoRoom rooms.ReportFault → ⊥
only_input machine state stop fails same = subst (InputFails machine state) same fails

pub never_room : (machine : Machine) (state : State) (result : Result (Unit {0}) Stop) → IfErr result (λ stop. InputFails machine state stop)
    → result ≡ Err (stops.NoRoom rooms.ReportFault) → ⊥
never_room machine state (Ok done) fails same = cc same
never_room machine state (Err stop) fails same = only_input machine state stop fails (cc same)

-- no call of the input failed
pub unasked_still : {In : Type 0} (left : In → Option (List ℕ)) (gave : In → ℕ → List ℕ → In → Type 0) (source : In) (machine : Machine) (state : State) (result : Result (Unit {0}) Stop)
    → (result ≡ Err stops.InputFault → ⊥) → IfErr result (λ stop. LosesBy left gave machine state stop source source)
unasked_still left gave source machine state (Ok done) never = tt
unasked_still left gave source machine state (Err stops.InputFault) never = absurd (never refl)
unasked_still left gave source machine state (Err other) never = refl
