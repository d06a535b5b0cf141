-- What a turn leaves, by what it does.
use Rattle.std.proofs.Common.{◌≡◌, ap, refl, subst, sym, ℕ, false, List, Option}
use Rattle.std.specs.Prelude.{IfErr, IsErrOf, OnErr, OnOk}
use Rattle.std.specs.declared.result.Result.{Result}
use Rattle.std.specs.declared.result.Result.TheVariants.{Err, Ok}
use Rattle.cb_frames.specs.Limited.{Limited}
use Rattle.cb_heap.specs.Rules.{Rules}
use Rattle.cb_heap.specs.Storage.{Storage, view_in}
use Rattle.cb_heap.specs.Store.{IsFault}
use Rattle.cb_heap.specs.declared.no_room.NoRoom.{NoRoom}
use Rattle.cb_heap.specs.declared.no_room.NoRoom.TheVariants as rooms
use Rattle.cb_io.specs.Faults.{CountsFaults}
use Rattle.cb_link.specs.Program.{Linked}
use Rattle.cb_machine.specs.Machine.{Machine}
use Rattle.cb_act.specs.Sweeping.{calls_gc}
use Rattle.cb_act.specs.Turning.{Moment, Outside, WholeTurn, machine_of, moment_in, state_of}
use Rattle.cb_interp.specs.Needing.{stopped}
use Rattle.cb_interp.specs.Reading.{LosesBy, TurnedIn}
use Rattle.cb_interp.specs.Running.{NotDone, ReadStops, SaysBy, StepEnds, TurnEnds, Turned}
use Rattle.cb_interp.specs.declared.stop.Stop.{Stop}
use Rattle.cb_interp.specs.declared.stop.Stop.TheVariants as stops
use Rattle.cb_interp.proofs.RunCounts.{counts_as, counts_none}
use Rattle.cb_interp.proofs.RunReads.{never_input, reads_never, reads_silent, reads_stop, stays_still, unasked_still}
use Rattle.cb_interp.proofs.RunTurns.{err_on, never_output, never_refused, native_stops, printed_by, read_advance, silences, silent_advance, silent_stops, unread_advance, whole_advance}
use Rattle.cb_interp.proofs.TurnsNeed.{counts_as as stop_counts}

none_fails : {Fails : Type 0} (count : ℕ) → (Fails → ⊥) → CountsFaults count count Fails
none_fails count never = counts_as count count (λ never. absurd never) never (counts_none count)

never_asked : (result : Result (Unit {0}) Stop) → IfErr result (λ stop. stop ≡ stops.OutputFault) → result ≡ Err stops.InputFault → ⊥
never_asked (Ok done) only same = cc same
never_asked (Err stop) only same = cc (only, same)

module _ {Facts In : Type 0} (told : In → Option (List ℕ)) (gave : In → ℕ → List ℕ → In → Type 0) (rules : Rules Facts) (program : Linked) (outside : Outside) (old new : Storage Facts)
    (before after : Limited) (source : In) (failed : ℕ) (taken : Option (List ℕ)) (missed : ℕ) where
  abbrev machine : Machine
  machine = machine_of program before.limit

  abbrev first : Moment Facts
  first = moment_in old before.roots outside

  abbrev last : Moment Facts
  last = moment_in new after.roots outside

  -- one that reads and prints nothing
  pub silent_ends : (result : Result (Unit {0}) Stop) → calls_gc program (state_of (view_in old before.roots) outside) ≡ false
      → TurnEnds rules program outside old new before after result
      → StepEnds told gave rules program outside old new before after source source failed failed taken taken missed missed result
  silent_ends result still ends = record {
    made = silent_advance rules machine outside (view_in old before.roots) (view_in new after.roots) old.facts new.facts taken told gave source still result ends.made;
    stopped = silent_stops rules machine outside (view_in old before.roots) (view_in new after.roots) old.facts new.facts taken result ends.stopped;
    left = silences rules machine outside (view_in old before.roots) (view_in new after.roots) old.facts new.facts taken result ends.stopped;
    lost = stays_still rules machine first last told gave source result ends.stopped;
    counted = ends.counted;
    output = none_fails missed (never_output rules machine outside (view_in old before.roots) (view_in new after.roots) old.facts new.facts taken result ends.stopped);
    read = none_fails failed (never_input rules machine first last result ends.stopped);
    limit = ends.limit;
    settings = ends.settings;
  }

  -- one that reads
  pub read_ends : (behind : In) (fails : ℕ) (result : Result (Unit {0}) Stop) → calls_gc program (state_of (view_in old before.roots) outside) ≡ false
      → OnOk result (TurnedIn told gave rules machine outside (view_in old before.roots) (view_in new after.roots) old.facts new.facts source behind)
      → IfErr result (λ stop. ReadStops rules machine stop first last)
      → IfErr result (λ stop. LosesBy told gave machine first.state stop source behind)
      → CountsFaults old.faults new.faults (IsErrOf result (stops.NoRoom rooms.ReportFault)) → CountsFaults failed fails (IsErrOf result stops.InputFault)
      → after.limit ≡ before.limit → new.settings ≡ old.settings
      → StepEnds told gave rules program outside old new before after source behind failed fails taken taken missed missed result
  read_ends behind fails result still made stopped lost counted read limit settings = record {
    made = read_advance rules machine outside (view_in old before.roots) (view_in new after.roots) old.facts new.facts taken told gave source behind still result made;
    stopped = reads_stop rules machine first last result stopped;
    left = reads_silent rules machine first last taken result stopped;
    lost = lost;
    counted = counted;
    output = none_fails missed (reads_never rules machine first last result stopped);
    read = read;
    limit = limit;
    settings = settings;
  }

  -- one that asks for a collection
  gc_step : (own : Result (Unit {0}) NoRoom) → OnOk own (WholeTurn rules machine first last) → IfErr own (λ reason. NotDone rules machine reason first last)
      → CountsFaults old.faults new.faults (IsFault own) → after.limit ≡ before.limit → new.settings ≡ old.settings
      → StepEnds told gave rules program outside old new before after source source failed failed taken taken missed missed (stopped own)
  gc_step (Ok done) made unreported counted limit settings = record {
    made = whole_advance rules machine outside (view_in old before.roots) (view_in new after.roots) old.facts new.facts taken told gave source made;
    stopped = tt;
    left = tt;
    lost = tt;
    counted = stop_counts (Ok done) (stopped (Ok done)) old.faults new.faults refl counted;
    output = none_fails missed (λ fails. cc fails);
    read = none_fails failed (λ fails. cc fails);
    limit = limit;
    settings = settings;
  }
  gc_step (Err reason) made unreported counted limit settings = record {
    made = tt;
    stopped = unreported;
    left = refl;
    lost = refl;
    counted = stop_counts (Err reason) (stopped (Err reason)) old.faults new.faults refl counted;
    output = none_fails missed (λ fails. cc fails);
    read = none_fails failed (λ fails. cc fails);
    limit = limit;
    settings = settings;
  }

  pub gc_ends : (own : Result (Unit {0}) NoRoom) (result : Result (Unit {0}) Stop) → result ≡ stopped own → OnOk own (WholeTurn rules machine first last)
      → IfErr own (λ reason. NotDone rules machine reason first last) → CountsFaults old.faults new.faults (IsFault own) → after.limit ≡ before.limit → new.settings ≡ old.settings
      → StepEnds told gave rules program outside old new before after source source failed failed taken taken missed missed result
  gc_ends own result is made unreported counted limit settings =
      subst (StepEnds told gave rules program outside old new before after source source failed failed taken taken missed missed) (sym is) (gc_step own made unreported counted limit settings)

-- and one that prints, and leaves the store as it was
pub print_ends : {Facts In : Type 0} (told : In → Option (List ℕ)) (gave : In → ℕ → List ℕ → In → Type 0) (rules : Rules Facts) (program : Linked) (outside : Outside) (store : Storage Facts)
    (before after : Limited) (source : In) (failed : ℕ) (taken takes : Option (List ℕ)) (missed misses : ℕ) (result : Result (Unit {0}) Stop)
    → calls_gc program (state_of (view_in store before.roots) outside) ≡ false
    → OnOk result (Turned rules (machine_of program before.limit) outside (view_in store before.roots) (view_in store after.roots) store.facts store.facts taken takes)
    → OnErr result (after ≡ before) → IfErr result (λ stop. SaysBy (machine_of program before.limit) (state_of (view_in store before.roots) outside) stop taken takes)
    → IfErr result (λ stop. stop ≡ stops.OutputFault) → CountsFaults missed misses (IsErrOf result stops.OutputFault) → after.limit ≡ before.limit
    → StepEnds told gave rules program outside store store before after source source failed failed taken takes missed misses result
print_ends told gave rules program outside store before after source failed taken takes missed misses result still made same left only output limit = record {
  made = unread_advance rules (machine_of program before.limit) outside (view_in store before.roots) (view_in store after.roots) store.facts store.facts taken takes told gave source result
      (printed_by rules (machine_of program before.limit) outside (view_in store before.roots) (view_in store after.roots) store.facts store.facts taken takes still result made);
  stopped = native_stops rules (machine_of program before.limit) (moment_in store before.roots outside) (moment_in store after.roots outside) result only
      (err_on result (ap (λ (held : Limited). moment_in store held.roots outside)) same);
  left = left;
  lost = unasked_still told gave source (machine_of program before.limit) (state_of (view_in store before.roots) outside) result (never_asked result only);
  counted = none_fails store.faults (never_refused result only);
  output = output;
  read = none_fails failed (never_asked result only);
  limit = limit;
  settings = refl;
}
