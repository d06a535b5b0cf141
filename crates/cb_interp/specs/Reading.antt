-- What a run reads: what an input tells of what it has left, which step asks it for bytes, and what that is given.
use Rattle.std.specs.Prelude.{◌≡◌, ◌<◌, ◌&&◌, ◌++◌, ◌⊎◌, ℕ, Bool, true, false, List, [], ◌∷◌, length, nat_lt, Option, None, Some, if◌then◌else◌}
use Rattle.std.specs.Io.KnownBytes.{Consumes, IsAtEnd}
use Rattle.cb_act.specs.Turning.{Outside, TurnMade, moment_of, state_of}
use Rattle.cb_heap.specs.Reading.{View}
use Rattle.cb_heap.specs.Rules.{Rules}
use Rattle.cb_library.specs.declared.native.Native.{Native}
use Rattle.cb_library.specs.declared.native.Native.TheVariants as natives
use Rattle.cb_machine.specs.Machine.{Machine}
use Rattle.cb_machine.specs.Steps.{step}
use Rattle.cb_natives.specs.Asking.{Calls, GaveNone}
use Rattle.cb_plain.specs.State.{State}
use Rattle.cb_plain.specs.Updates.{with_input}
use Rattle.cb_safety.specs.States.{IsInput}
use Rattle.cb_interp.specs.declared.stop.Stop.{Stop}
use Rattle.cb_interp.specs.declared.stop.Stop.TheVariants as stops

-- the natives that read (Java SE 8 API, java.io.InputStream)
abbrev pub reads : Native → Bool
reads natives.ReadByte = true
reads natives.ReadRange = true
reads other = false

-- what a source tells, where it is bytes
abbrev pub are_bytes : List ℕ → Bool
are_bytes [] = true
are_bytes (number ∷ numbers) = nat_lt number 256 && are_bytes numbers

abbrev pub as_bytes : Option (List ℕ) → Option (List ℕ)
as_bytes None = None
as_bytes (Some left) = if are_bytes left then Some left else None

-- a step takes these bytes: given them as its input, it leaves none
pub record Takes (machine : Machine) (state : State) (bytes : List ℕ) : Type 0 where
  pub next : State
  pub steps : step machine (with_input state bytes) ≡ Some next
  pub taken : next.input ≡ []

-- a step asks the input: it takes a byte
abbrev pub TakesInput : Machine → State → Type 0
TakesInput machine state = Takes machine state (0 ∷ [])

-- the outside with this input
abbrev pub with_given : Outside → List ℕ → Outside
with_given outside given = record { input = given; printed = outside.printed }

-- a step that asks an input is given what its calls gave: all that it takes, so that more may stand behind it, or fewer bytes, where a call
-- gave none. Where the input tells its bytes, it has lost these
pub record IsGiven {In : Type 0} (left : In → Option (List ℕ)) (gave : In → ℕ → List ℕ → In → Type 0) (source behind : In) (read rest : List ℕ) : Type 0 where
  pub mid : In
  pub calls : Calls gave source read mid
  pub ends : ((0 < length rest) × (behind ≡ mid)) ⊎ ((rest ≡ []) × GaveNone gave mid behind)
  pub bytes : IsInput (read ++ rest)
  pub consumes : Consumes (left source) (left behind) read
  pub end : rest ≡ [] → IsAtEnd (left behind)

-- a turn is made that prints nothing: it doesn't ask the input, or it is given what calls gave
pub data TurnedIn {Facts In : Type 0} (left : In → Option (List ℕ)) (gave : In → ℕ → List ℕ → In → Type 0) (rules : Rules Facts) (machine : Machine) (outside : Outside)
    (before after : View) (facts now : Facts) (source behind : In) : Type 0 where
  Silent : TurnMade rules machine (moment_of before outside facts) (moment_of after outside now) → behind ≡ source
      → TurnedIn left gave rules machine outside before after facts now source behind
  Reading : (read rest : List ℕ) → TakesInput machine (state_of before outside) → IsGiven left gave source behind read rest
      → TurnMade rules machine (moment_of before (with_given outside (read ++ rest)) facts) (moment_of after (with_given outside rest) now)
      → TurnedIn left gave rules machine outside before after facts now source behind

-- why a turn that reads isn't made: a call of the input failed, which the step asks
abbrev pub InputFails : Machine → State → Stop → Type 0
InputFails machine state stops.InputFault = TakesInput machine state
InputFails machine state other = ⊥

-- a call of the input failed: others of the same step may have given some bytes before, but none that the step doesn't take, and fewer than it
-- takes
pub record Fails {In : Type 0} (left : In → Option (List ℕ)) (gave : In → ℕ → List ℕ → In → Type 0) (machine : Machine) (state : State) (source behind : In) : Type 0 where
  pub front : List ℕ
  pub mid : In
  pub calls : Calls gave source front mid
  pub consumes : Consumes (left source) (left behind) front
  pub takes : Takes machine state (front ++ 0 ∷ [])

-- what becomes of the input where no turn is made
abbrev pub LosesBy : {In : Type 0} → (In → Option (List ℕ)) → (In → ℕ → List ℕ → In → Type 0) → Machine → State → Stop → (source behind : In) → Type 0
LosesBy left gave machine state stops.InputFault source behind = Fails left gave machine state source behind
LosesBy left gave machine state other source behind = behind ≡ source
