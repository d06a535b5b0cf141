-- What a turn hands on that stops for want of room, and where none is made; and a typed state that stands at an instruction has a step.
use Rattle.std.proofs.Common.{◌≡◌, ap, refl, sym, subst, ℕ, true}
use Rattle.std.specs.Prelude.{IfErr, IsErrOf, OnOk, is_some}
use Rattle.std.specs.declared.result.Result.{Result}
use Rattle.std.specs.declared.result.Result.TheVariants.{Err, Ok}
use Rattle.cb_frames.specs.Limited.{Limited}
use Rattle.cb_heap.specs.Rules.{Rules}
use Rattle.cb_heap.specs.Storage.{Storage}
use Rattle.cb_heap.specs.Store.{IsFault}
use Rattle.cb_heap.specs.declared.no_room.NoRoom.{NoRoom}
use Rattle.cb_heap.specs.declared.no_room.NoRoom.TheVariants.{ReportFault}
use Rattle.cb_io.specs.Faults.{CountsFaults}
use Rattle.cb_link.specs.declared.decoded.Decoded.{Decoded}
use Rattle.cb_link.specs.Program.{Linked}
use Rattle.cb_machine.specs.Machine.{Machine}
use Rattle.cb_machine.specs.Runs.{outcome}
use Rattle.cb_machine.specs.Steps.{plan}
use Rattle.cb_machine.specs.declared.outcome.Outcome.TheVariants.{Running}
use Rattle.cb_plain.specs.State.{State}
use Rattle.cb_safety.proofs.Laws.{states_advance}
use Rattle.cb_safety.specs.Linked.{IsLinked}
use Rattle.cb_safety.specs.States.{IsTypedState}
use Rattle.cb_verify.specs.Typed.{IsTyped}
use Rattle.cb_act.specs.Here.{Here}
use Rattle.cb_act.specs.Turning.{Outside, machine_of, moment_in}
use Rattle.cb_interp.specs.Needing.{stopped}
use Rattle.cb_interp.specs.Running.{RoomEnds, StopsBy, TurnEnds}
use Rattle.cb_interp.specs.declared.stop.Stop.{Stop}
use Rattle.cb_interp.specs.declared.stop.Stop.TheVariants as stops

abbrev Room : Type 0
Room = Result (Unit {0}) NoRoom

abbrev Turn : Type 0
Turn = Result (Unit {0}) Stop

pub made_as : (own : Room) (result : Turn) (Made : Type 0) → result ≡ stopped own → OnOk own Made → OnOk result Made
made_as (Ok done) result Made is made = subst (λ (result : Turn). OnOk result Made) (sym is) made
made_as (Err reason) result Made is made = subst (λ (result : Turn). OnOk result Made) (sym is) tt

pub stops_as : (own : Room) (result : Turn) (Stops : Stop → Type 0) → result ≡ stopped own → IfErr own (λ reason. Stops (stops.NoRoom reason)) → IfErr result Stops
stops_as (Ok done) result Stops is refused = subst (λ (result : Turn). IfErr result Stops) (sym is) tt
stops_as (Err reason) result Stops is refused = subst (λ (result : Turn). IfErr result Stops) (sym is) refused

-- a fault is counted where it is handed on
abbrev Faulted : Turn → Type 0
Faulted result = IsErrOf result (stops.NoRoom ReportFault)

reason_in : (one other : NoRoom) → ◌≡◌ {A = Turn} (Err (stops.NoRoom one)) (Err (stops.NoRoom other)) → one ≡ other
reason_in one other is = cc

pub counts_as : (own : Room) (result : Turn) (before now : ℕ) → result ≡ stopped own → CountsFaults before now (IsFault own) → CountsFaults before now (Faulted result)
counts_as own result before now is counts = subst (λ (result : Turn). CountsFaults before now (Faulted result)) (sym is) (go own counts) where
  go : (own : Room) → CountsFaults before now (IsFault own) → CountsFaults before now (Faulted (stopped own))
  go (Ok done) counts = record {
    never_falls = counts.never_falls;
    exact = λ low. (λ fails. absurd (cc fails), λ rises. absurd (cc ((counts.exact low).1 rises)));
  }
  go (Err reason) counts = record {
    never_falls = counts.never_falls;
    exact = λ low. (
      λ fails. (counts.exact low).0 (ap {B = Room} Err (reason_in reason ReportFault fails)),
      λ rises. let same : ◌≡◌ {A = Room} (Err reason) (Err ReportFault) = (counts.exact low).1 rises in
          let reasons : reason ≡ ReportFault = cc in ap {B = Turn} (λ reason. Err (stops.NoRoom reason)) reasons,
    );
  }

-- ---- steps

pub steps_on : (machine : Machine) (state : State) (decoded : Decoded) → Here machine state decoded → IsLinked machine.program → IsTyped machine.program
    → IsTypedState machine.program state → is_some (plan machine state) ≡ true
steps_on machine state decoded at linked fits typed =
    let none = at.runs in
    let frames = at.frames in
    let runs : outcome state ≡ Running = rw (none, frames) refl in
    ap is_some (states_advance machine state linked fits typed runs).is

-- what a turn leaves that hands on what one call of the store left
pub ends_as : {Facts : Type 0} {rules : Rules Facts} {program : Linked} {outside : Outside} {old new : Storage Facts} {before after : Limited} (own : Room) (result : Turn)
    → result ≡ stopped own → RoomEnds rules program outside old new before after own → TurnEnds rules program outside old new before after result
ends_as {Facts} {rules} {program} {outside} {old} {new} {before} {after} own result is ends = record {
  made = made_as own result _ is ends.made;
  stopped = stops_as own result (λ stop. StopsBy rules (machine_of program before.limit) stop (moment_in old before.roots outside) (moment_in new after.roots outside)) is ends.refused;
  counted = counts_as own result _ _ is ends.counted;
  limit = ends.limit;
  settings = ends.settings;
}
