use Rattle.cb_heap.specs.Storage.{view_in}
use Rattle.std.proofs.Common.{◌∙◌, ap, arith, ◌≤◌, ◌+◌, refl, rules, sym, subst, ℕ, IsTrue}
use Rattle.std.specs.declared.result.Result.TheVariants.{Err}
use Rattle.cb_heap.specs.Kept.{is_kept}
use Rattle.cb_heap.specs.Reading.{serial_of}
use Rattle.cb_interp.specs.Quick.{AdvancedBy}
use Rattle.cb_interp.specs.Reading.{LosesBy}
use Rattle.cb_interp.specs.Running.{IsThrownAt, MayRun, SaysBy, TurnStops, outside_of, somewhere}
use Rattle.cb_act.specs.Turning.{Moment, machine_of, moment_of, state_of}
use Rattle.cb_interp.proofs.RunCounts.{counts_as, counts_none, counts_still, counts_then, input_ends, input_stops, output_ends, output_stops, report_ends, report_stops, uncaught_stops}
use Rattle.cb_interp.proofs.RunLoop.{ended_goes, ended_stops, stays_kept, stays_silent, stopped_uncaught, stops_turn, takes_turn}
use Rattle.cb_interp.proofs.RunEnds.{ends_at, ends_spent, says_more, thrown_at}
use Rattle.cb_interp.proofs.RunGoes.{come_may, come_none, come_on, come_typed}
use Rattle.cb_interp.specs.declared.end.End.TheVariants as ends
use Rattle.cb_interp.proofs.RunGrown.{advanced_grows}
use Rattle.cb_interp.proofs.RunTyped.{may_run_on, uncaught_kept, uncaught_waits}
use Rattle.cb_interp.proofs.running.run.Goals as goal

pub loop-made-init : goal.loop-made-init
loop-made-init g c =
    let view = view_in (g.S.Store.storage c.args.store.now) c.args.roots.now.roots in
    record {
      come = come_none g.I.Source.left g.I.Source.gave g.S.Store.rules (machine_of c.args.program.now c.args.roots.now.limit) view (g.S.Store.storage c.args.store.now).facts g.full c.args.input.now
          (g.O.Sink.taken c.args.out.now) c.requires.1.1.1.1.1.0 c.requires.1.1.1.1.0 c.requires.1.1.1.1.1.1.1;
      low = omega arith;
      few = λ fixed. omega arith;
      limit = refl;
      settings = refl;
      faults = counts_none (g.S.Store.storage c.args.store.now).faults;
      output = counts_none (g.O.Sink.faults c.args.out.now);
      read = counts_none (g.I.Source.faults c.args.input.now);
    }

pub turns-requires : goal.turns-requires
turns-requires g c κs within =
    let machine = machine_of c.args.program.now c.args.roots.now.limit in
    let now = c.loop-made.invariant in
    let first = moment_of (view_in (g.S.Store.storage c.args.store.now) c.args.roots.now.roots) (outside_of g.full) (g.S.Store.storage c.args.store.now).facts in
    let view = view_in (g.S.Store.storage c.loop-made.store) c.loop-made.roots.roots in
    let low = c.loop-made-test.true in (
      search rules,
      (
        search rules,
        (
          search rules,
          (
            subst (λ (limit : ℕ). MayRun g.S.Store.rules.fixed (machine_of c.args.program.now limit) (g.S.Store.storage c.loop-made.store).settings
                (state_of view somewhere)) (sym now.limit)
                (may_run_on g.S.Store.rules.fixed machine c.requires.1.1.1.0 now.settings
                (come_may g.I.Source.left g.I.Source.gave g.S.Store.rules machine c.requires.1.1.1.0.linked c.requires.1.1.1.0.fits first g.full c.args.input.now c.loop-made.made view (g.S.Store.storage c.loop-made.store).facts c.loop-made.input (g.O.Sink.taken c.args.out.now) (g.O.Sink.taken c.loop-made.out) now.come)
                (come_typed g.I.Source.left g.I.Source.gave g.S.Store.rules machine c.requires.1.1.1.0.linked c.requires.1.1.1.0.fits first g.full c.args.input.now c.loop-made.made view (g.S.Store.storage c.loop-made.store).facts c.loop-made.input (g.O.Sink.taken c.args.out.now) (g.O.Sink.taken c.loop-made.out) now.come)
                (λ fixed. let all = now.few fixed in let most = c.requires.1.1.1.1.1.1.0 fixed in omega (arith, all, most, low))),
            omega (arith, low),
          ),
        ),
      ),
    )

pub loop-made-preserved : goal.loop-made-preserved
loop-made-preserved g c =
    let machine = machine_of c.args.program.now c.args.roots.now.limit in
    let now = c.loop-made.invariant in
    let first = moment_of (view_in (g.S.Store.storage c.args.store.now) c.args.roots.now.roots) (outside_of g.full) (g.S.Store.storage c.args.store.now).facts in
    let view = view_in (g.S.Store.storage c.loop-made.store) c.loop-made.roots.roots in
    let later = view_in (g.S.Store.storage c.turns.new.store) c.turns.new.roots.roots in
    let turned = subst (λ (limit : ℕ). AdvancedBy c.in-Ok.more g.I.Source.left g.I.Source.gave g.S.Store.rules (machine_of c.args.program.now limit) somewhere
    view later (g.S.Store.storage c.loop-made.store).facts (g.S.Store.storage c.turns.new.store).facts (g.O.Sink.taken c.loop-made.out) (g.O.Sink.taken c.turns.new.out)
    c.loop-made.input c.turns.new.input) now.limit c.in-Ok.ensures.made in
    let within = c.in-Ok.ensures.within in
    let low = now.low in
    let sum : c.loop-made.made + c.in-Ok.more ≤ c.args.steps = omega (arith, within, low) in
    record {
      come = come_on g.I.Source.left g.I.Source.gave g.S.Store.rules machine c.requires.1.1.1.0.linked c.requires.1.1.1.0.fits first g.full c.args.input.now c.loop-made.made c.in-Ok.more view later (g.S.Store.storage c.loop-made.store).facts (g.S.Store.storage c.turns.new.store).facts c.loop-made.input c.turns.new.input
          (g.O.Sink.taken c.args.out.now) (g.O.Sink.taken c.loop-made.out) (g.O.Sink.taken c.turns.new.out) now.come turned;
      low = sum;
      few = λ fixed.
          let all = now.few fixed in
          let more = advanced_grows g.I.Source.left g.I.Source.gave g.S.Store.rules g.met.S.Store.bounded machine fixed c.in-Ok.more somewhere view later
          (g.S.Store.storage c.loop-made.store).facts (g.S.Store.storage c.turns.new.store).facts (g.O.Sink.taken c.loop-made.out) (g.O.Sink.taken c.turns.new.out)
          c.loop-made.input c.turns.new.input turned in
          omega (arith, all, more);
      limit = c.turns.ensures.limit ∙ now.limit;
      settings = c.turns.ensures.settings ∙ now.settings;
      faults = counts_then (g.S.Store.storage c.args.store.now).faults (g.S.Store.storage c.loop-made.store).faults (g.S.Store.storage c.turns.new.store).faults now.faults
          (counts_still (g.S.Store.storage c.loop-made.store).faults (g.S.Store.storage c.turns.new.store).faults (λ failed. cc (sym c.in-Ok.is ∙ failed)) c.turns.ensures.counted);
      output = counts_then (g.O.Sink.faults c.args.out.now) (g.O.Sink.faults c.loop-made.out) (g.O.Sink.faults c.turns.new.out) now.output
          (counts_still (g.O.Sink.faults c.loop-made.out) (g.O.Sink.faults c.turns.new.out) (λ failed. cc (sym c.in-Ok.is ∙ failed)) c.turns.ensures.output);
      read = counts_then (g.I.Source.faults c.args.input.now) (g.I.Source.faults c.loop-made.input) (g.I.Source.faults c.turns.new.input) now.read
          (counts_still (g.I.Source.faults c.loop-made.input) (g.I.Source.faults c.turns.new.input) (λ failed. cc (sym c.in-Ok.is ∙ failed)) c.turns.ensures.read);
    }

pub returns-in-Err-clause-ended : goal.returns-in-Err-clause-ended
returns-in-Err-clause-ended g c =
    let machine = machine_of c.args.program.now c.args.roots.now.limit in
    let now = c.loop-made.invariant in
    let first = moment_of (view_in (g.S.Store.storage c.args.store.now) c.args.roots.now.roots) (outside_of g.full) (g.S.Store.storage c.args.store.now).facts in
    let view = view_in (g.S.Store.storage c.loop-made.store) c.loop-made.roots.roots in
    let later = view_in (g.S.Store.storage c.turns.new.store) c.turns.new.roots.roots in
    ends_at g.I.Source.left g.I.Source.gave g.S.Store.rules machine c.requires.1.1.1.0.linked c.requires.1.1.1.0.fits first g.full c.args.input.now c.args.steps c.loop-made.made view later
    (g.S.Store.storage c.loop-made.store).facts (g.S.Store.storage c.turns.new.store).facts c.loop-made.input c.turns.new.input (g.O.Sink.taken c.args.out.now) (g.O.Sink.taken c.loop-made.out) (g.O.Sink.taken c.turns.new.out) now.come c.in-Err.stop c.stopped.result now.low (λ turn. omega (arith, c.loop-made-test.true))
    (subst (λ (limit : ℕ). TurnStops g.S.Store.rules (machine_of c.args.program.now limit) c.in-Err.stop
    (moment_of view somewhere (g.S.Store.storage c.loop-made.store).facts)
    (moment_of later somewhere (g.S.Store.storage c.turns.new.store).facts)) now.limit c.in-Err.ensures.stopped)
    (subst (λ (limit : ℕ). SaysBy (machine_of c.args.program.now limit) (state_of view somewhere)
    c.in-Err.stop (g.O.Sink.taken c.loop-made.out) (g.O.Sink.taken c.turns.new.out)) now.limit c.in-Err.ensures.left)
    (subst (λ (limit : ℕ). LosesBy g.I.Source.left g.I.Source.gave (machine_of c.args.program.now limit) (state_of view somewhere)
    c.in-Err.stop c.loop-made.input c.turns.new.input) now.limit c.in-Err.ensures.lost)
    c.stopped.ensures.is

pub returns-in-Err-clause-appends : goal.returns-in-Err-clause-appends
returns-in-Err-clause-appends g c =
    let machine = machine_of c.args.program.now c.args.roots.now.limit in
    let now = c.loop-made.invariant in
    let first = moment_of (view_in (g.S.Store.storage c.args.store.now) c.args.roots.now.roots) (outside_of g.full) (g.S.Store.storage c.args.store.now).facts in
    let view = view_in (g.S.Store.storage c.loop-made.store) c.loop-made.roots.roots in
    says_more machine (state_of view somewhere) c.in-Err.stop (g.O.Sink.taken c.args.out.now) (g.O.Sink.taken c.loop-made.out) (g.O.Sink.taken c.turns.new.out) now.come.said now.come.appends
    (subst (λ (limit : ℕ). SaysBy (machine_of c.args.program.now limit) (state_of view somewhere)
    c.in-Err.stop (g.O.Sink.taken c.loop-made.out) (g.O.Sink.taken c.turns.new.out)) now.limit c.in-Err.ensures.left)

pub returns-in-Err-clause-thrown : goal.returns-in-Err-clause-thrown
returns-in-Err-clause-thrown g c = λ class at same.
    let machine = machine_of c.args.program.now c.args.roots.now.limit in
    let now = c.loop-made.invariant in
    let first = moment_of (view_in (g.S.Store.storage c.args.store.now) c.args.roots.now.roots) (outside_of g.full) (g.S.Store.storage c.args.store.now).facts in
    let view = view_in (g.S.Store.storage c.loop-made.store) c.loop-made.roots.roots in
    let later = view_in (g.S.Store.storage c.turns.new.store) c.turns.new.roots.roots in
    let uncaught = uncaught_stops later c.in-Err.stop c.stopped.result class at c.stopped.ensures.is same in
    let before = moment_of view somewhere (g.S.Store.storage c.loop-made.store).facts in
    let behind = moment_of later somewhere (g.S.Store.storage c.turns.new.store).facts in
    let stopped = stopped_uncaught g.S.Store.rules machine c.in-Err.stop before behind uncaught
    (subst (λ (limit : ℕ). TurnStops g.S.Store.rules (machine_of c.args.program.now limit) c.in-Err.stop
    (moment_of view somewhere (g.S.Store.storage c.loop-made.store).facts)
    (moment_of later somewhere (g.S.Store.storage c.turns.new.store).facts)) now.limit c.in-Err.ensures.stopped) in
    let typed = (come_typed g.I.Source.left g.I.Source.gave g.S.Store.rules machine c.requires.1.1.1.0.linked c.requires.1.1.1.0.fits first g.full c.args.input.now c.loop-made.made view (g.S.Store.storage c.loop-made.store).facts c.loop-made.input (g.O.Sink.taken c.args.out.now) (g.O.Sink.taken c.loop-made.out) now.come) in
    let waits = uncaught_waits (g.S.Store.storage c.loop-made.store).index (g.S.Store.storage c.loop-made.store).kept somewhere c.loop-made.roots.roots stopped.1 in
    subst (λ (at : ℕ). IsThrownAt c.args.program.now (g.S.Store.storage c.turns.new.store).kept (serial_of (g.S.Store.storage c.turns.new.store).index at)) (sym (c.stopped.ensures.place class at same))
    (subst (λ (moment : Moment g.S.Store.Facts). IsThrownAt c.args.program.now moment.state.objects moment.state.roots.pending) (sym stopped.0)
    (thrown_at c.args.program.now (state_of view somewhere) typed waits))

pub stopped-requires : goal.stopped-requires
stopped-requires g c = record {
  there = λ same.
      let machine = machine_of c.args.program.now c.args.roots.now.limit in
      let now = c.loop-made.invariant in
      let first = moment_of (view_in (g.S.Store.storage c.args.store.now) c.args.roots.now.roots) (outside_of g.full) (g.S.Store.storage c.args.store.now).facts in
      let view = view_in (g.S.Store.storage c.loop-made.store) c.loop-made.roots.roots in
      let later = view_in (g.S.Store.storage c.turns.new.store) c.turns.new.roots.roots in
      let before = moment_of view somewhere (g.S.Store.storage c.loop-made.store).facts in
      let behind = moment_of later somewhere (g.S.Store.storage c.turns.new.store).facts in
      let stopped = stopped_uncaught g.S.Store.rules machine c.in-Err.stop before behind same
      (subst (λ (limit : ℕ). TurnStops g.S.Store.rules (machine_of c.args.program.now limit) c.in-Err.stop
      (moment_of view somewhere (g.S.Store.storage c.loop-made.store).facts)
      (moment_of later somewhere (g.S.Store.storage c.turns.new.store).facts)) now.limit c.in-Err.ensures.stopped) in
      let typed = (come_typed g.I.Source.left g.I.Source.gave g.S.Store.rules machine c.requires.1.1.1.0.linked c.requires.1.1.1.0.fits first g.full c.args.input.now c.loop-made.made view (g.S.Store.storage c.loop-made.store).facts c.loop-made.input (g.O.Sink.taken c.args.out.now) (g.O.Sink.taken c.loop-made.out) now.come) in
      subst (λ (moment : Moment g.S.Store.Facts). IsTrue (is_kept moment.state.objects moment.state.roots.pending)) (sym stopped.0)
      (uncaught_kept (g.S.Store.storage c.loop-made.store).index (g.S.Store.storage c.loop-made.store).kept somewhere c.args.program.now c.loop-made.roots.roots typed stopped.1);
}

pub returns-in-Err-clause-counted : goal.returns-in-Err-clause-counted
returns-in-Err-clause-counted g c =
    let later = view_in (g.S.Store.storage c.turns.new.store) c.turns.new.roots.roots in
    counts_then (g.S.Store.storage c.args.store.now).faults (g.S.Store.storage c.loop-made.store).faults (g.S.Store.storage c.turns.new.store).faults c.loop-made.invariant.faults
    (counts_as (g.S.Store.storage c.loop-made.store).faults (g.S.Store.storage c.turns.new.store).faults
    (λ failed. report_ends later c.in-Err.stop c.stopped.result c.stopped.ensures.is (cc (c.in-Err.is, failed)))
    (λ ended. c.in-Err.is ∙ ap Err (report_stops later c.in-Err.stop c.stopped.result c.stopped.ensures.is ended)) c.turns.ensures.counted)

pub returns-in-Err-clause-output : goal.returns-in-Err-clause-output
returns-in-Err-clause-output g c =
    let later = view_in (g.S.Store.storage c.turns.new.store) c.turns.new.roots.roots in
    counts_then (g.O.Sink.faults c.args.out.now) (g.O.Sink.faults c.loop-made.out) (g.O.Sink.faults c.turns.new.out) c.loop-made.invariant.output
    (counts_as (g.O.Sink.faults c.loop-made.out) (g.O.Sink.faults c.turns.new.out)
    (λ failed. output_ends later c.in-Err.stop c.stopped.result c.stopped.ensures.is (cc (c.in-Err.is, failed)))
    (λ ended. c.in-Err.is ∙ ap Err (output_stops later c.in-Err.stop c.stopped.result c.stopped.ensures.is ended)) c.turns.ensures.output)

pub returns-in-Err-clause-read : goal.returns-in-Err-clause-read
returns-in-Err-clause-read g c =
    let later = view_in (g.S.Store.storage c.turns.new.store) c.turns.new.roots.roots in
    counts_then (g.I.Source.faults c.args.input.now) (g.I.Source.faults c.loop-made.input) (g.I.Source.faults c.turns.new.input) c.loop-made.invariant.read
    (counts_as (g.I.Source.faults c.loop-made.input) (g.I.Source.faults c.turns.new.input)
    (λ failed. input_ends later c.in-Err.stop c.stopped.result c.stopped.ensures.is (cc (c.in-Err.is, failed)))
    (λ ended. c.in-Err.is ∙ ap Err (input_stops later c.in-Err.stop c.stopped.result c.stopped.ensures.is ended)) c.turns.ensures.read)

pub stopped-requires-in-Some : goal.stopped-requires-in-Some
stopped-requires-in-Some g c = record {
  there = λ same.
      let machine = machine_of c.args.program.now c.args.roots.now.limit in
      let now = c.loop-made.invariant in
      let first = moment_of (view_in (g.S.Store.storage c.args.store.now) c.args.roots.now.roots) (outside_of g.full) (g.S.Store.storage c.args.store.now).facts in
      let view = view_in (g.S.Store.storage c.loop-made.store) c.loop-made.roots.roots in
      let before = moment_of view somewhere (g.S.Store.storage c.loop-made.store).facts in
      let ended = ended_stops g.S.Store.rules machine (g.S.Store.storage c.loop-made.store).index (g.S.Store.storage c.loop-made.store).kept somewhere (g.S.Store.storage c.loop-made.store).facts
      c.loop-made.roots.roots c.in-Some.stop (sym c.ended.ensures ∙ c.in-Some.is) in
      let stopped = stopped_uncaught g.S.Store.rules machine c.in-Some.stop before before same (stops_turn g.S.Store.rules machine c.in-Some.stop before ended.0) in
      let typed = (come_typed g.I.Source.left g.I.Source.gave g.S.Store.rules machine c.requires.1.1.1.0.linked c.requires.1.1.1.0.fits first g.full c.args.input.now c.loop-made.made view (g.S.Store.storage c.loop-made.store).facts c.loop-made.input (g.O.Sink.taken c.args.out.now) (g.O.Sink.taken c.loop-made.out) now.come) in
      uncaught_kept (g.S.Store.storage c.loop-made.store).index (g.S.Store.storage c.loop-made.store).kept somewhere c.args.program.now c.loop-made.roots.roots typed stopped.1;
}

pub returns-in-Some-clause-ended : goal.returns-in-Some-clause-ended
returns-in-Some-clause-ended g c =
    let machine = machine_of c.args.program.now c.args.roots.now.limit in
    let now = c.loop-made.invariant in
    let first = moment_of (view_in (g.S.Store.storage c.args.store.now) c.args.roots.now.roots) (outside_of g.full) (g.S.Store.storage c.args.store.now).facts in
    let view = view_in (g.S.Store.storage c.loop-made.store) c.loop-made.roots.roots in
    let before = moment_of view somewhere (g.S.Store.storage c.loop-made.store).facts in
    let ended = ended_stops g.S.Store.rules machine (g.S.Store.storage c.loop-made.store).index (g.S.Store.storage c.loop-made.store).kept somewhere (g.S.Store.storage c.loop-made.store).facts
    c.loop-made.roots.roots c.in-Some.stop (sym c.ended.ensures ∙ c.in-Some.is) in
    ends_at g.I.Source.left g.I.Source.gave g.S.Store.rules machine c.requires.1.1.1.0.linked c.requires.1.1.1.0.fits first g.full c.args.input.now c.args.steps c.loop-made.made view view
    (g.S.Store.storage c.loop-made.store).facts (g.S.Store.storage c.loop-made.store).facts c.loop-made.input c.loop-made.input (g.O.Sink.taken c.args.out.now) (g.O.Sink.taken c.loop-made.out) (g.O.Sink.taken c.loop-made.out) now.come c.in-Some.stop c.stopped-in-Some.result now.low (λ turn. absurd (ended.1 turn))
    (stops_turn g.S.Store.rules machine c.in-Some.stop before ended.0)
    (stays_silent machine before.state c.in-Some.stop (g.O.Sink.taken c.loop-made.out) ended.1) (stays_kept g.I.Source.left g.I.Source.gave machine before.state c.in-Some.stop c.loop-made.input ended.1)
    c.stopped-in-Some.ensures.is

pub returns-in-Some-clause-appends : goal.returns-in-Some-clause-appends
returns-in-Some-clause-appends g c =
    let machine = machine_of c.args.program.now c.args.roots.now.limit in
    let now = c.loop-made.invariant in
    let first = moment_of (view_in (g.S.Store.storage c.args.store.now) c.args.roots.now.roots) (outside_of g.full) (g.S.Store.storage c.args.store.now).facts in
    let view = view_in (g.S.Store.storage c.loop-made.store) c.loop-made.roots.roots in
    (now.come.said, now.come.appends)

pub returns-in-Some-clause-thrown : goal.returns-in-Some-clause-thrown
returns-in-Some-clause-thrown g c = λ class at same.
    let machine = machine_of c.args.program.now c.args.roots.now.limit in
    let now = c.loop-made.invariant in
    let first = moment_of (view_in (g.S.Store.storage c.args.store.now) c.args.roots.now.roots) (outside_of g.full) (g.S.Store.storage c.args.store.now).facts in
    let view = view_in (g.S.Store.storage c.loop-made.store) c.loop-made.roots.roots in
    let before = moment_of view somewhere (g.S.Store.storage c.loop-made.store).facts in
    let ended = ended_stops g.S.Store.rules machine (g.S.Store.storage c.loop-made.store).index (g.S.Store.storage c.loop-made.store).kept somewhere (g.S.Store.storage c.loop-made.store).facts
    c.loop-made.roots.roots c.in-Some.stop (sym c.ended.ensures ∙ c.in-Some.is) in
    let uncaught = uncaught_stops view c.in-Some.stop c.stopped-in-Some.result class at c.stopped-in-Some.ensures.is same in
    let stopped = stopped_uncaught g.S.Store.rules machine c.in-Some.stop before before uncaught (stops_turn g.S.Store.rules machine c.in-Some.stop before ended.0) in
    let typed = (come_typed g.I.Source.left g.I.Source.gave g.S.Store.rules machine c.requires.1.1.1.0.linked c.requires.1.1.1.0.fits first g.full c.args.input.now c.loop-made.made view (g.S.Store.storage c.loop-made.store).facts c.loop-made.input (g.O.Sink.taken c.args.out.now) (g.O.Sink.taken c.loop-made.out) now.come) in
    let waits = uncaught_waits (g.S.Store.storage c.loop-made.store).index (g.S.Store.storage c.loop-made.store).kept somewhere c.loop-made.roots.roots stopped.1 in
    subst (λ (at : ℕ). IsThrownAt c.args.program.now (g.S.Store.storage c.loop-made.store).kept (serial_of (g.S.Store.storage c.loop-made.store).index at)) (sym (c.stopped-in-Some.ensures.place class at same))
    (thrown_at c.args.program.now (state_of view somewhere) typed waits)

pub returns-in-Some-clause-read : goal.returns-in-Some-clause-read
returns-in-Some-clause-read g c =
    let machine = machine_of c.args.program.now c.args.roots.now.limit in
    let now = c.loop-made.invariant in
    let first = moment_of (view_in (g.S.Store.storage c.args.store.now) c.args.roots.now.roots) (outside_of g.full) (g.S.Store.storage c.args.store.now).facts in
    let view = view_in (g.S.Store.storage c.loop-made.store) c.loop-made.roots.roots in
    let before = moment_of view somewhere (g.S.Store.storage c.loop-made.store).facts in
    let ended = ended_stops g.S.Store.rules machine (g.S.Store.storage c.loop-made.store).index (g.S.Store.storage c.loop-made.store).kept somewhere (g.S.Store.storage c.loop-made.store).facts
    c.loop-made.roots.roots c.in-Some.stop (sym c.ended.ensures ∙ c.in-Some.is) in
    counts_as (g.I.Source.faults c.args.input.now) (g.I.Source.faults c.loop-made.input) (λ never. absurd never)
    (λ ends. ended.1 (subst takes_turn (sym (input_stops view c.in-Some.stop c.stopped-in-Some.result c.stopped-in-Some.ensures.is ends)) tt)) c.loop-made.invariant.read

pub returns-in-Some-clause-counted : goal.returns-in-Some-clause-counted
returns-in-Some-clause-counted g c =
    let machine = machine_of c.args.program.now c.args.roots.now.limit in
    let view = view_in (g.S.Store.storage c.loop-made.store) c.loop-made.roots.roots in
    let ended = ended_stops g.S.Store.rules machine (g.S.Store.storage c.loop-made.store).index (g.S.Store.storage c.loop-made.store).kept somewhere (g.S.Store.storage c.loop-made.store).facts
    c.loop-made.roots.roots c.in-Some.stop (sym c.ended.ensures ∙ c.in-Some.is) in
    counts_as (g.S.Store.storage c.args.store.now).faults (g.S.Store.storage c.loop-made.store).faults (λ never. absurd never)
    (λ ends. ended.1 (subst takes_turn (sym (report_stops view c.in-Some.stop c.stopped-in-Some.result c.stopped-in-Some.ensures.is ends)) tt)) c.loop-made.invariant.faults

pub returns-in-Some-clause-output : goal.returns-in-Some-clause-output
returns-in-Some-clause-output g c =
    let machine = machine_of c.args.program.now c.args.roots.now.limit in
    let view = view_in (g.S.Store.storage c.loop-made.store) c.loop-made.roots.roots in
    let ended = ended_stops g.S.Store.rules machine (g.S.Store.storage c.loop-made.store).index (g.S.Store.storage c.loop-made.store).kept somewhere (g.S.Store.storage c.loop-made.store).facts
    c.loop-made.roots.roots c.in-Some.stop (sym c.ended.ensures ∙ c.in-Some.is) in
    counts_as (g.O.Sink.faults c.args.out.now) (g.O.Sink.faults c.loop-made.out) (λ never. absurd never)
    (λ ends. ended.1 (subst takes_turn (sym (output_stops view c.in-Some.stop c.stopped-in-Some.result c.stopped-in-Some.ensures.is ends)) tt)) c.loop-made.invariant.output

pub returns-in-None-clause-ended : goal.returns-in-None-clause-ended
returns-in-None-clause-ended g c =
    let machine = machine_of c.args.program.now c.args.roots.now.limit in
    let now = c.loop-made.invariant in
    let first = moment_of (view_in (g.S.Store.storage c.args.store.now) c.args.roots.now.roots) (outside_of g.full) (g.S.Store.storage c.args.store.now).facts in
    let view = view_in (g.S.Store.storage c.loop-made.store) c.loop-made.roots.roots in
    let goes = ended_goes g.S.Store.rules machine (g.S.Store.storage c.loop-made.store).index (g.S.Store.storage c.loop-made.store).kept somewhere (g.S.Store.storage c.loop-made.store).facts
    c.loop-made.roots.roots (sym c.ended.ensures ∙ c.in-None.is) in
    ends_spent g.I.Source.left g.I.Source.gave g.S.Store.rules machine c.requires.1.1.1.0.linked c.requires.1.1.1.0.fits first g.full c.args.input.now c.args.steps c.loop-made.made view view
    (g.S.Store.storage c.loop-made.store).facts (g.S.Store.storage c.loop-made.store).facts c.loop-made.input c.loop-made.input (g.O.Sink.taken c.args.out.now) (g.O.Sink.taken c.loop-made.out) (g.O.Sink.taken c.loop-made.out) now.come
    (omega (arith, now.low, c.loop-made-test.false)) goes refl refl refl

pub returns-in-None-clause-appends : goal.returns-in-None-clause-appends
returns-in-None-clause-appends g c =
    let machine = machine_of c.args.program.now c.args.roots.now.limit in
    let now = c.loop-made.invariant in
    let first = moment_of (view_in (g.S.Store.storage c.args.store.now) c.args.roots.now.roots) (outside_of g.full) (g.S.Store.storage c.args.store.now).facts in
    let view = view_in (g.S.Store.storage c.loop-made.store) c.loop-made.roots.roots in
    (now.come.said, now.come.appends)

pub returns-in-None-clause-read : goal.returns-in-None-clause-read
returns-in-None-clause-read g c =
    counts_as (g.I.Source.faults c.args.input.now) (g.I.Source.faults c.loop-made.input) (λ never. absurd never) (λ ends. cc ends) c.loop-made.invariant.read

pub returns-in-None-clause-counted : goal.returns-in-None-clause-counted
returns-in-None-clause-counted g c =
    counts_as (g.S.Store.storage c.args.store.now).faults (g.S.Store.storage c.loop-made.store).faults (λ never. absurd never) (λ ends. cc ends) c.loop-made.invariant.faults

pub returns-in-None-clause-output : goal.returns-in-None-clause-output
returns-in-None-clause-output g c =
    counts_as (g.O.Sink.faults c.args.out.now) (g.O.Sink.faults c.loop-made.out) (λ never. absurd never) (λ ends. cc ends) c.loop-made.invariant.output
