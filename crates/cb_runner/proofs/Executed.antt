-- How a command stops whose program has run, over a store that collects.
use Rattle.std.proofs.Common.{◌≡◌, ◌∙◌, ◌++◌, ap, inl, inr, refl, sym, subst, ℕ, ℤ, Bool, true, false, IfSome, List, [], length, Option, Some, None, drop}
use Rattle.std.proofs.lemmas.Bool.{false≢true}
use Rattle.std.specs.Io.KnownBytes.{Appends, Consumes}
use Rattle.std.proofs.KnownBytes.{Consumes-trans}
use Rattle.std.specs.Prelude.{option_and_then, option_map}
use Rattle.std.specs.declared.result.Result.{Result}
use Rattle.std.specs.declared.result.Result.TheVariants.{Err, Ok}
use Rattle.cb_act.specs.Keeping.{kept_state}
use Rattle.cb_act.specs.Turning.{Moment, machine_of as limited}
use Rattle.cb_collector.specs.Held.{Held, known_in}
use Rattle.cb_collector.specs.Known.{Known}
use Rattle.cb_collector.specs.Policy.{rules_are_bounded, rules_of}
use Rattle.cb_act.specs.Steps.{view_of}
use Rattle.cb_heap.specs.Reading.{View, seen, serial_of}
use Rattle.cb_heap.specs.declared.no_room.NoRoom.{NoRoom}
use Rattle.cb_heap.specs.declared.no_room.NoRoom.TheVariants as rooms
use Rattle.cb_interp.specs.Reading.{as_bytes}
use Rattle.cb_interp.specs.Running.{Ended, IsThrownAt, last_of}
use Rattle.cb_interp.specs.Starting.{BeginsWith, RefusesStart}
use Rattle.cb_interp.specs.Texts.{exception_units}
use Rattle.cb_interp.specs.declared.end.End.{End}
use Rattle.cb_interp.specs.declared.end.End.TheVariants as ends
use Rattle.cb_io.specs.declared.sure_sink.SureSink.{SureSink}
use Rattle.cb_link.specs.Program.{Linked}
use Rattle.cb_machine.specs.Machine.{Machine}
use Rattle.cb_machine.specs.Plans.{asked}
use Rattle.cb_machine.specs.Starting.{empty_state, start_plan}
use Rattle.cb_machine.specs.Steps.{request}
use Rattle.cb_partheap.specs.Heaps.{Heap, index_in, objects_in}
use Rattle.cb_plain.specs.State.{Object, Roots, State}
use Rattle.cb_plain.specs.Updates.{object_at}
use Rattle.cb_runner.specs.declared.cause.Cause.{Cause}
use Rattle.cb_runner.specs.declared.cause.Cause.TheVariants as causes
use Rattle.cb_runner.specs.declared.line.Line.{Line}
use Rattle.cb_runner.specs.declared.stop.Stop.{Stop}
use Rattle.cb_runner.specs.declared.stop.Stop.TheVariants.{Exited, FolderFault, InputFault, OutOfMemory, OutputFault, Refused, Returned, Told, Usage}
use Rattle.cb_runner.specs.Ending.{Ending, run_input_fault, run_output_fault, told}
use Rattle.cb_runner.specs.Executing.{IsStopOver, untold}
use Rattle.cb_runner.specs.Inner.{HasRunTo, IsReady, IsRefusedStart, IsStopOf, IsToldAs, IsUncaughtAs, Kept, MayTell, RunsTo, ending_with, line_text, remains_in}
use Rattle.cb_runner.specs.Running.{ComesTo, EndsBegun, EndsRun, Exits, Fills, FillsFirst, Leaves, Returns, Spends, Throws, exception_line, full_line, known_first, machine_of, spent_line, start_of, texts_of}
use Rattle.cb_runner.specs.Words.{Run}
use Rattle.cb_runner.proofs.Endings.{consumed, nothing_read}
use Rattle.cb_runner.proofs.KeptTold.{told_there, kept_there}
use Rattle.cb_runner.proofs.Reached.{consumes}

-- what it tells can be written
told_ready : (cause : Cause) (text : List ℕ) (store : Kept) (stop : Stop) → IsToldAs cause text store stop → IsReady store stop
told_ready cause text store (Told own line) (same, is, can) = can
told_ready cause text store other is = absurd is

refused_ready : (store : Kept) (reason : NoRoom) (stop : Stop) → IsRefusedStart store reason stop → IsReady store stop
refused_ready store (rooms.Full live most limit) stop is = told_ready causes.HeapFull (full_line (rooms.Full live most limit)) store stop is
refused_ready store other stop is = absurd is

-- the end of a run that is told
told_is : (store : Kept) (cause own : Cause) (line : Line) (out err : List ℕ) (read : ℕ) → own ≡ cause → line_text store line ≡ err
    → ending_with store (Told own line) out read ≡ told cause out err read (remains_in store)
told_is store cause own line out err read same is =
    ap (λ cause. told cause out (line_text store line) read (remains_in store)) same ∙ ap (λ err. told cause out err read (remains_in store)) is

-- and what is left of it
leaves_so : (store : Held SureSink) (view : View) (full : State) (moment : Moment Known) → view.objects ≡ objects_in store.heap → last_of view full (known_in untold store) ≡ moment
    → Leaves moment (remains_in (Some store))
leaves_so store view full moment there is = record {
  tally = ap (λ (moment : Moment Known). moment.facts.tally) is;
  heap = store.heap;
  heap_is = refl;
  objects = sym there ∙ ap (λ (moment : Moment Known). moment.state.objects) is;
  sites = ap (λ (moment : Moment Known). moment.facts.config.site_parts) is;
  blocks = ap (λ (moment : Moment Known). moment.facts.config.blocks) is;
}

module _ {In : Type 0} (left : In → Option (List ℕ)) (gave : In → ℕ → List ℕ → In → Type 0) (asks : Run) (program : Linked) (first : Moment Known)
    (begins : BeginsWith rules_of (machine_of asks program) (texts_of asks) [] (known_first asks program) first) (store : Held SureSink) (roots : Roots)
    (taken takes : Option (List ℕ)) (source last : In) (nothing : (start_of asks program).printed ≡ []) where
  abbrev later : View
  later = seen (index_in store.heap) (objects_in store.heap) roots

  abbrev HasRun : End → Type 0
  HasRun end =
      Ended left gave rules_of (machine_of asks program) asks.steps end (start_of asks program) first (seen (index_in store.heap) (objects_in store.heap) roots) (known_in untold store) taken takes source last

  -- what a command that stopped so has printed and read
  abbrev pub Shown : Stop → Type 0
  Shown stop = HasRunTo left gave asks program source last taken takes (Some store) stop

  comes_so : (end : End) → (run : HasRun end) → ComesTo left gave asks program source run.count run.read run.before run.now run.mid
  comes_so end run = record { begun = first; begins = begins; went = run.went }

  -- where no call failed, the steps have left the input as it is in the end
  came_so : (end : End) → (run : HasRun end) → last ≡ run.mid → ComesTo left gave asks program source run.count run.read run.before run.now last
  came_so end run same = subst (λ last. ComesTo left gave asks program source run.count run.read run.before run.now last) (sym same) (comes_so end run)

  consumed_so : (end : End) → (run : HasRun end) → Consumes (left source) (left run.mid) run.read
  consumed_so end run = consumes left gave rules_of (machine_of asks program) first (start_of asks program) source run.count run.read run.before run.now run.mid run.went

  abbrev Left : List ℕ → Type 0
  Left read = IfSome (as_bytes (left source)) (λ bytes. left last ≡ Some (drop (length read) bytes))

  left_so : (end : End) → (run : HasRun end) → last ≡ run.mid → Left run.read
  left_so end run same =
      consumed (left source) (left last) run.read (subst (λ last. Consumes (left source) (left last) run.read) (sym same) (consumed_so end run))

  said_so : (end : End) → (run : HasRun end) → run.said ≡ run.now.printed
  said_so end run = sym (run.grows ∙ ap (λ printed. printed ++ run.said) nothing)

  same_told : (end : End) → (run : HasRun end) → (cause : Cause) (err : List ℕ)
      → told cause run.said err (length run.read) (remains_in (Some store)) ≡ told cause run.now.printed err (length run.read) (remains_in (Some store))
  same_told end run cause err = ap (λ printed. told cause printed err (length run.read) (remains_in (Some store))) (said_so end run)

  -- the store stands as the run left it
  stays_so : (end : End) → (run : HasRun end) → (moment : Moment Known) → last_of later run.now (known_in untold store) ≡ moment → Leaves moment (remains_in (Some store))
  stays_so end run moment is = leaves_so store later run.now moment refl is

  shown : (end : End) → (run : HasRun end) → (stop : Stop) → last ≡ run.mid → Appends taken takes run.said → IsReady (Some store) stop
      → RunsTo left gave asks program source last (Some store) stop run.said (length run.read) → Shown stop
  shown end run stop same out ready runs =
      record { printed = run.said; read = length run.read; appends = out; remains = left_so end run same; runs = runs; ready = ready }

  returns_so : (run : HasRun ends.Returned) → (stop : Stop) → stop ≡ Returned → Shown stop
  returns_so run stop is =
      subst Shown (sym is) (shown ends.Returned run Returned run.remains run.out tt
      (inr (Returns run.count run.read run.before run.now run.within (came_so ends.Returned run run.remains) run.ends.0 (stays_so ends.Returned run run.before run.ends.1)
      (same_told ends.Returned run causes.Returned []))))

  exits_so : (status : ℤ) → (run : HasRun (ends.Exited status)) → (stop : Stop) → stop ≡ Exited status → Shown stop
  exits_so status run stop is =
      subst Shown (sym is) (shown (ends.Exited status) run (Exited status) run.remains run.out tt
      (inr (Exits run.count run.read run.before run.now status run.within (came_so (ends.Exited status) run run.remains) run.ends.0 (stays_so (ends.Exited status) run run.before run.ends.1)
      (same_told (ends.Exited status) run (causes.Exited status) []))))

  spends_so : (run : HasRun ends.BudgetSpent) → (stop : Stop) → IsToldAs causes.BudgetSpent (spent_line asks.steps) (Some store) stop → Shown stop
  spends_so run (Told cause line) (same, is, can) =
      shown ends.BudgetSpent run (Told cause line) run.remains run.out can
      (inr (Spends run.read run.before run.now
      (subst (λ (count : ℕ). ComesTo left gave asks program source count run.read run.before run.now last) run.ends.1 (came_so ends.BudgetSpent run run.remains)) run.ends.0.0
      (stays_so ends.BudgetSpent run run.before run.ends.0.1)
      (told_is (Some store) causes.BudgetSpent cause line run.said (spent_line asks.steps) (length run.read) same is ∙ same_told ends.BudgetSpent run causes.BudgetSpent (spent_line asks.steps))))
  spends_so run other is = absurd is

  output_so : (run : HasRun ends.OutputFault) → (stop : Stop) → stop ≡ OutputFault → Shown stop
  output_so run stop is =
      let (more, front, prints, proper, appends) = run.out in
      subst Shown (sym is) (record {
        printed = run.said ++ front;
        read = length run.read;
        appends = appends;
        remains = left_so ends.OutputFault run run.remains;
        runs = record {
          count = run.count;
          read = run.read;
          moment = run.before;
          state = run.now;
          more = more;
          front = front;
          below = run.ends.0;
          comes = came_so ends.OutputFault run run.remains;
          prints = prints;
          part = proper;
          leaves = stays_so ends.OutputFault run run.before run.ends.1;
          is = ap (λ printed. run_output_fault (printed ++ front) (length run.read) (remains_in (Some store))) (said_so ends.OutputFault run);
        };
        ready = tt;
      })

  -- what calls gave that came before the one which failed was read too
  input_so : (run : HasRun ends.InputFault) → (stop : Stop) → stop ≡ InputFault → Shown stop
  input_so run stop is =
      let fails = run.remains in
      let read : List ℕ = run.read ++ fails.front in
      subst Shown (sym is) (record {
        printed = run.said;
        read = length read;
        appends = run.out;
        remains = consumed (left source) (left last) read (Consumes-trans (left source) (left run.mid) (left last) run.read fails.front (consumed_so ends.InputFault run) fails.consumes);
        runs = record {
          count = run.count;
          read = run.read;
          moment = run.before;
          state = run.now;
          mid = run.mid;
          below = run.ends.0;
          comes = comes_so ends.InputFault run;
          fails = fails;
          leaves = record { tally = ap (λ (known : Known). known.tally) run.ends.2; heap = store.heap; heap_is = refl };
          is = ap (λ printed. run_input_fault printed (length read) (remains_in (Some store))) (said_so ends.InputFault run);
        };
        ready = tt;
      })

  -- there is no room for what the next step places
  fills_so : (live asked limit : ℕ) → (run : HasRun (ends.HeapFull live asked limit)) → (stop : Stop) → IsToldAs causes.HeapFull (full_line (rooms.Full live asked limit)) (Some store) stop → Shown stop
  fills_so live asked limit run (Told cause line) (same, is, can) =
      let end : End = ends.HeapFull live asked limit in
      shown end run (Told cause line) run.remains run.out can
      (inr (Fills run.count run.read run.before (last_of later run.now (known_in untold store)) run.now live asked limit run.ends.0 (came_so end run run.remains) run.ends.1
      (stays_so end run (last_of later run.now (known_in untold store)) refl)
      (told_is (Some store) causes.HeapFull cause line run.said (full_line (rooms.Full live asked limit)) (length run.read) same is ∙ same_told end run causes.HeapFull (full_line (rooms.Full live asked limit)))))
  fills_so live asked limit run other is = absurd is

  -- the exception is the one that is told
  kind_found : (found : Option Object) (class : ℕ) → option_map (λ object. object.kind) found ≡ Some class → (object : Object) × (found ≡ Some object) × (object.kind ≡ class)
  kind_found None class is = absurd (cc is)
  kind_found (Some object) class is = (object, refl, cc is)

  throws_so : (class at : ℕ) → serial_of (index_in store.heap) at ≡ later.roots.pending → (run : HasRun (ends.Uncaught class at)) → (stop : Stop) → IsUncaughtAs program store class at stop → Shown stop
  throws_so class at place run (Told cause line) (units, tells, (same, is, can)) =
      let end : End = ends.Uncaught class at in
      let state : State = run.now in
      let kept = run.stands.kept in
      let here : last_of later state (known_in untold store) ≡ run.before = run.ends.0.1 in
      let objects : (kept_state kept state).objects ≡ objects_in store.heap =
      sym (ap (λ (moment : Moment Known). moment.state.objects) here ∙ ap (λ (state : State). state.objects) run.stands.same) in
      let pending : later.roots.pending ≡ state.roots.pending =
      ap (λ (moment : Moment Known). moment.state.roots.pending) here ∙ ap (λ (state : State). state.roots.pending) run.stands.same in
      let serial : serial_of (index_in store.heap) at ≡ state.roots.pending = place ∙ pending in
      let (object, there, kind) = kind_found (object_at state state.roots.pending) class run.ends.1 in
      let all : option_and_then (exception_units program state) (object_at state (serial_of (index_in store.heap) at)) ≡ Some units =
      told_there kept state program (serial_of (index_in store.heap) at) units (tells (kept_state kept state) objects) in
      let told_units : exception_units program state object ≡ Some units =
      sym (ap (option_and_then (exception_units program state)) (ap (object_at state) serial ∙ there)) ∙ all in
      shown end run (Told cause line) run.remains run.out can
      (inr (Throws run.count run.read run.before state state.roots.pending object units run.within (came_so end run run.remains) run.ends.0.0 there told_units (stays_so end run run.before here)
      (told_is (Some store) (causes.Uncaught class) cause line run.said (exception_line units) (length run.read) same is ∙ same_told end run (causes.Uncaught class) (exception_line units)
      ∙ ap (λ class. told (causes.Uncaught class) state.printed (exception_line units) (length run.read) (remains_in (Some store))) (sym kind))))
  throws_so class at place run other (units, tells, is) = absurd is

  pub shown_so : (end : End) (stop : Stop) → ((class at : ℕ) → end ≡ ends.Uncaught class at → serial_of (index_in store.heap) at ≡ later.roots.pending) → HasRun end
      → IsStopOf asks program store end stop → Shown stop
  shown_so ends.Returned stop place run is = returns_so run stop is
  shown_so (ends.Exited status) stop place run is = exits_so status run stop is
  shown_so (ends.Uncaught class at) stop place run is = throws_so class at (place class at refl) run stop is
  shown_so ends.BudgetSpent stop place run is = spends_so run stop is
  shown_so (ends.HeapFull live asked limit) stop place run is = fills_so live asked limit run stop is
  shown_so ends.ReportFault stop place run is = absurd is
  shown_so ends.InputFault stop place run is = input_so run stop is
  shown_so ends.OutputFault stop place run is = output_so run stop is
  shown_so ends.OutOfMemory stop place run is = absurd is

-- so what is asked of the objects before it is told is there
pub tells_so : (program : Linked) (heap : Heap) (end : End) → ((class at : ℕ) → end ≡ ends.Uncaught class at → IsThrownAt program (objects_in heap) (serial_of (index_in heap) at))
    → MayTell program heap end
tells_so program heap (ends.Uncaught class at) thrown = let is = thrown class at refl in (is.heap, is.thrown)
tells_so program heap other thrown = tt

-- where this is told, no call failed
abbrev IsNoFault : Stop → Type 0
IsNoFault InputFault = ⊥
IsNoFault OutputFault = ⊥
IsNoFault other = Unit {0}

told_quietly : (cause : Cause) (text : List ℕ) (store : Kept) (stop : Stop) → IsToldAs cause text store stop → IsNoFault stop
told_quietly cause text store (Told own line) is = tt
told_quietly cause text store other is = absurd is

no_output : (stop : Stop) → IsNoFault stop → stop ≡ OutputFault → ⊥
no_output stop quiet same = subst IsNoFault same quiet

no_input : (stop : Stop) → IsNoFault stop → stop ≡ InputFault → ⊥
no_input stop quiet same = subst IsNoFault same quiet

module _ (asks : Run) (program : Linked) (store : Held SureSink) where
  -- a stop for a fault is that of its end
  abbrev Quiet : End → Stop → Type 0
  Quiet ends.InputFault stop = stop ≡ InputFault
  Quiet ends.OutputFault stop = stop ≡ OutputFault
  Quiet other stop = IsNoFault stop

  quiet : (end : End) (stop : Stop) → IsStopOf asks program store end stop → Quiet end stop
  quiet ends.Returned stop is = subst IsNoFault (sym is) tt
  quiet (ends.Exited status) stop is = subst IsNoFault (sym is) tt
  quiet (ends.Uncaught class at) stop (units, tells, is) = told_quietly (causes.Uncaught class) (exception_line units) (Some store) stop is
  quiet ends.BudgetSpent stop is = told_quietly causes.BudgetSpent (spent_line asks.steps) (Some store) stop is
  quiet (ends.HeapFull live asked limit) stop is = told_quietly causes.HeapFull (full_line (rooms.Full live asked limit)) (Some store) stop is
  quiet ends.ReportFault stop is = absurd is
  quiet ends.OutOfMemory stop is = absurd is
  quiet ends.InputFault stop is = is
  quiet ends.OutputFault stop is = is

  output_end : (end : End) (stop : Stop) → Quiet end stop → stop ≡ OutputFault → end ≡ ends.OutputFault
  output_end ends.InputFault stop is same = absurd (cc (is, same))
  output_end ends.OutputFault stop is same = refl
  output_end other stop is same = absurd (no_output stop is same)

  input_end : (end : End) (stop : Stop) → Quiet end stop → stop ≡ InputFault → end ≡ ends.InputFault
  input_end ends.InputFault stop is same = refl
  input_end ends.OutputFault stop is same = absurd (cc (is, same))
  input_end other stop is same = absurd (no_input stop is same)

  pub output_stops : (end : End) (stop : Stop) → IsStopOf asks program store end stop → end ≡ ends.OutputFault → stop ≡ OutputFault
  output_stops end stop is same = subst (λ end. IsStopOf asks program store end stop) same is

  pub output_ends : (end : End) (stop : Stop) → IsStopOf asks program store end stop → stop ≡ OutputFault → end ≡ ends.OutputFault
  output_ends end stop is same = output_end end stop (quiet end stop is) same

  pub input_stops : (end : End) (stop : Stop) → IsStopOf asks program store end stop → end ≡ ends.InputFault → stop ≡ InputFault
  input_stops end stop is same = subst (λ end. IsStopOf asks program store end stop) same is

  pub input_ends : (end : End) (stop : Stop) → IsStopOf asks program store end stop → stop ≡ InputFault → end ≡ ends.InputFault
  input_ends end stop is same = input_end end stop (quiet end stop is) same

-- a run that hasn't begun for want of room
module _ {In : Type 0} (left : In → Option (List ℕ)) (gave : In → ℕ → List ℕ → In → Type 0) (asks : Run) (program : Linked) (source : In) (store : Held SureSink)
    (empty : objects_in store.heap ≡ []) where
  refused_so : (reason : NoRoom) (stop : Stop) → RefusesStart rules_of (machine_of asks program) (texts_of asks) (known_first asks program) reason (known_in untold store)
      → IsRefusedStart (Some store) reason stop → RunsTo left gave asks program source source (Some store) stop [] 0
  refused_so (rooms.Full live most limit) (Told cause line) refuses (same, is, can) =
      inl (
        record {
          known = known_in untold store;
          live = live;
          asked = most;
          limit = limit;
          refuses = refuses;
          leaves = record { tally = refl; heap = store.heap; heap_is = refl; objects = empty; sites = refl; blocks = refl };
          is = told_is (Some store) causes.HeapFull cause line [] (full_line (rooms.Full live most limit)) 0 same is;
        },
        refl,
      )
  refused_so (rooms.Full live most limit) other refuses is = absurd is
  refused_so other stop refuses is = absurd is

  -- which has read nothing
  pub unbegun_so : (known : Option (List ℕ)) (reason : NoRoom) (stop : Stop) → Appends known known []
      → RefusesStart rules_of (machine_of asks program) (texts_of asks) (known_first asks program) reason (known_in untold store) → IsRefusedStart (Some store) reason stop
      → HasRunTo left gave asks program source source known known (Some store) stop
  unbegun_so known reason stop appends refuses is = record {
    printed = [];
    read = 0;
    appends = appends;
    remains = nothing_read (left source);
    runs = refused_so reason stop refuses is;
    ready = refused_ready (Some store) reason stop is;
  }

quietly : (store : Kept) (reason : NoRoom) (stop : Stop) → IsRefusedStart store reason stop → IsNoFault stop
quietly store (rooms.Full live most limit) stop is = told_quietly causes.HeapFull (full_line (rooms.Full live most limit)) store stop is
quietly store other stop is = absurd is

pub refused_quietly : (store : Kept) (reason : NoRoom) (stop : Stop) → IsRefusedStart store reason stop → (stop ≡ OutputFault → ⊥) × (stop ≡ InputFault → ⊥)
refused_quietly store reason stop is = (no_output stop (quietly store reason stop is), no_input stop (quietly store reason stop is))

-- nor one for which there was no memory
pub unrun_so : {In : Type 0} (left : In → Option (List ℕ)) (gave : In → ℕ → List ℕ → In → Type 0) (asks : Run) (program : Linked) (source : In) (known : Option (List ℕ)) → Appends known known []
    → HasRunTo left gave asks program source source known known None OutOfMemory
unrun_so left gave asks program source known appends =
    record { printed = []; read = 0; appends = appends; remains = nothing_read (left source); runs = (refl, refl, refl, refl); ready = tt }

-- and a fault of an end or of a start that was refused is that of the stop
module _ (asks : Run) (program : Linked) (store : Held SureSink) where
  pub over_output_stops : (ended : Result End NoRoom) (stop : Stop) → IsStopOver asks program store ended stop → ended ≡ Ok ends.OutputFault → stop ≡ OutputFault
  over_output_stops (Ok end) stop is same = output_stops asks program store end stop is (cc same)
  over_output_stops (Err reason) stop is same = absurd (cc same)

  pub over_output_ends : (ended : Result End NoRoom) (stop : Stop) → IsStopOver asks program store ended stop → stop ≡ OutputFault → ended ≡ Ok ends.OutputFault
  over_output_ends (Ok end) stop is same = ap Ok (output_ends asks program store end stop is same)
  over_output_ends (Err reason) stop is same = absurd ((refused_quietly (Some store) reason stop is).0 same)

  pub over_input_stops : (ended : Result End NoRoom) (stop : Stop) → IsStopOver asks program store ended stop → ended ≡ Ok ends.InputFault → stop ≡ InputFault
  over_input_stops (Ok end) stop is same = input_stops asks program store end stop is (cc same)
  over_input_stops (Err reason) stop is same = absurd (cc same)

  pub over_input_ends : (ended : Result End NoRoom) (stop : Stop) → IsStopOver asks program store ended stop → stop ≡ InputFault → ended ≡ Ok ends.InputFault
  over_input_ends (Ok end) stop is same = ap Ok (input_ends asks program store end stop is same)
  over_input_ends (Err reason) stop is same = absurd ((refused_quietly (Some store) reason stop is).1 same)

-- memory is wanted by stores alone that aren't of fixed size
not_fixed : (one : Bool) → one ≡ true → one ≡ false → ⊥
not_fixed one is also = false≢true (sym also ∙ is)

pub roomy_start : (machine : Machine) (given : List (List ℕ)) (known : Known) (reason : NoRoom) (after : Known) → RefusesStart rules_of machine given known reason after → reason ≡ rooms.OutOfMemory → ⊥
roomy_start machine given known reason after refuses is =
    not_fixed rules_of.fixed refl
    (rules_are_bounded.memory known (view_of (empty_state machine.program [])) (asked (start_plan machine given [])) (record { facts = after; residents = [] })
    (subst (λ reason. rules_of.makes_room known (view_of (empty_state machine.program [])) (asked (start_plan machine given [])) (Err reason) (record { facts = after; residents = [] })) is (refuses.refused [])))

pub roomy_end : {In : Type 0} (left : In → Option (List ℕ)) (gave : In → ℕ → List ℕ → In → Type 0) (machine : Machine) (budget : ℕ) (end : End) (full : State) (first : Moment Known) (after : View)
    (facts : Known) (taken takes : Option (List ℕ)) (source behind : In) → Ended left gave rules_of machine budget end full first after facts taken takes source behind → end ≡ ends.OutOfMemory → ⊥
roomy_end left gave machine budget end full first after facts taken takes source behind ended is = go (subst (λ end. Ended left gave rules_of machine budget end full first after facts taken takes source behind) is ended) where
  go : Ended left gave rules_of machine budget ends.OutOfMemory full first after facts taken takes source behind → ⊥
  go run =
      not_fixed rules_of.fixed refl
      (rules_are_bounded.memory run.before.facts (view_of run.before.state) (request machine run.before.state) _ run.ends.1.refused.ruled)
