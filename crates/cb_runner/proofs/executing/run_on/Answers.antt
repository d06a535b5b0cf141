use Rattle.std.proofs.Common.{◌<◌, [], ap, arith, refl, rules, sym}
use Rattle.cb_collector.specs.Held.{known_in}
use Rattle.cb_heap.specs.Reading.{seen, serial_of}
use Rattle.cb_partheap.specs.Heaps.{index_in, objects_in, settings_in}
use Rattle.cb_plain.specs.State.{State}
use Rattle.cb_runner.specs.Executing.{untold}
use Rattle.cb_runner.specs.Inner.{run_of}
use Rattle.cb_runner.specs.Running.{known_first, machine_of, texts_of}
use Rattle.cb_runner.proofs.Begun.{begun_few, begun_runs, begun_stands, ended_so, first_moment}
use Rattle.cb_runner.proofs.Executed.{roomy_end, shown_so, tells_so}
use Rattle.cb_runner.proofs.executing.run_on.Goals as goal

pub run-requires : goal.run-requires
run-requires g c κs within =
    let program = c.args.program.now in
    let asks = run_of c.args.asked.now in
    let store = c.args.store.now in
    let roots = c.args.roots.now.roots in
    let (texts, few) = c.requires.texts in
    let first = first_moment store roots [] in
    let typed = c.starts_stand.ensures.typed (machine_of asks program) (texts_of asks) [] (known_first asks program) first c.requires.linked texts few tt c.requires.begun in
    let stands = c.starts_stand.ensures.stands (machine_of asks program) (texts_of asks) [] (known_first asks program) first c.requires.linked texts few tt c.requires.begun in
    let count = begun_few asks program store roots c.requires.begun c.requires.texts in
    let steps = c.requires.steps in (
      search rules,
      (
        search rules,
        (
          search rules,
          (
            begun_runs asks program store roots c.requires.begun c.requires.texts c.args.roots.now.limit (settings_in store.heap) c.requires.linked c.requires.fits c.requires.of typed,
            (typed, (begun_stands asks program store roots c.requires.begun c.requires.texts stands, (λ fixed. omega (arith, count, steps), refl))),
          ),
        ),
      ),
    )

pub returns-clause-comes : goal.returns-clause-comes
returns-clause-comes g c =
    let program = c.args.program.now in
    let asks = run_of c.args.asked.now in
    let store = c.args.store.now in
    let roots = c.args.roots.now.roots in
    let after = c.run.new.store in
    let later = seen (index_in after.heap) (objects_in after.heap) c.run.new.roots.roots in
    let run = ended_so asks program store roots c.requires.begun c.requires.texts g.I.Source.left g.I.Source.gave c.args.roots.now.limit c.run.result later (known_in untold after) (g.O.Sink.taken c.args.out.now)
    (g.O.Sink.taken c.run.new.out) c.args.input.now c.run.new.input c.requires.limit c.run.ensures.ended in
    record {
      runs = λ stop is. shown_so g.I.Source.left g.I.Source.gave asks program (first_moment store roots []) c.requires.begun after c.run.new.roots.roots
          (g.O.Sink.taken c.args.out.now) (g.O.Sink.taken c.run.new.out) c.args.input.now c.run.new.input
          (sym (ap (λ (state : State). state.printed) c.requires.begun.starts)) c.run.result stop (λ class at is. ap (serial_of (index_in after.heap)) (c.run.ensures.place class at is)) run is;
    }

pub returns-clause-may : goal.returns-clause-may
returns-clause-may g c = record {
  may = tells_so c.args.program.now c.run.new.store.heap c.run.result c.run.ensures.thrown;
  reported = λ is. (let rose : 0 < 0 = (c.run.ensures.counted.exact (omega arith)).0 is in omega (arith, rose));
  roomy = roomy_end g.I.Source.left g.I.Source.gave _ _ c.run.result _ _ _ _ _ _ _ _ c.run.ensures.ended;
}
