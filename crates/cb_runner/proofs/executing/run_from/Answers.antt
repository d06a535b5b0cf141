use Rattle.std.proofs.Common.{◌≡◌, ◌∙◌, ◌<◌, ◌≤◌, [], ap, arith, length, subst, sym, List, ℕ}
use Rattle.std.specs.List.{AllByRecursion}
use Rattle.std.specs.declared.result.Result.TheVariants.{Err, Ok}
use Rattle.cb_act.specs.Coming.{MayCome}
use Rattle.cb_act.specs.Turning.{machine_of as limited}
use Rattle.cb_collector.specs.Held.{known_in}
use Rattle.cb_heap.specs.Storage.{Settings}
use Rattle.cb_interp.proofs.Laws.{counts_as}
use Rattle.cb_machine.specs.Performing.{most_elements}
use Rattle.cb_machine.specs.Starting.{start as begins}
use Rattle.cb_partheap.specs.Heaps.{settings_in}
use Rattle.cb_safety.proofs.Laws.{start_is_typed}
use Rattle.cb_safety.specs.Strings.{IsText}
use Rattle.cb_runner.specs.Executing.{IsOfProgram, untold}
use Rattle.cb_runner.specs.Inner.{run_of}
use Rattle.cb_runner.proofs.Begun.{all_follow, begun_so, refused_by}
use Rattle.cb_runner.proofs.Endings.{Appends-nothing, unchanged_count}
use Rattle.cb_runner.proofs.Executed.{roomy_start, unbegun_so}
use Rattle.cb_runner.proofs.executing.run_from.Goals as goal

pub start-requires-clause-shaped : goal.start-requires-clause-shaped
start-requires-clause-shaped g c = c.requires.first.of.shaped

pub start-requires-clause-empty : goal.start-requires-clause-empty
start-requires-clause-empty g c = c.requires.first.empty

pub start-requires-clause-sites : goal.start-requires-clause-sites
start-requires-clause-sites g c = c.requires.first.of.knows

pub start-requires-clause-follows : goal.start-requires-clause-follows
start-requires-clause-follows g c =
    let machine = limited c.args.program.now c.args.roots.now.limit in
    let first = begins machine c.args.given.now [] in
    (all_follow machine (settings_in c.args.store.now.heap) first c.requires.linked c.requires.fits c.requires.first.of
    (start_is_typed machine c.args.given.now [] (c.linked_has_start.ensures c.args.program.now c.requires.linked) (subst (AllByRecursion IsText) (sym c.requires.given) c.requires.texts.0) (subst (λ (given : List (List ℕ)). length given ≤ most_elements) (sym c.requires.given) c.requires.texts.1) tt)).each first MayCome.Here

pub run_on-requires-clause-of : goal.run_on-requires-clause-of
run_on-requires-clause-of g c = subst (λ (settings : Settings). IsOfProgram c.args.program.now settings) (sym c.start.ensures.settings) c.requires.first.of

pub run_on-requires-clause-limit : goal.run_on-requires-clause-limit
run_on-requires-clause-limit g c = c.start.ensures.limit ∙ c.requires.limit

pub run_on-requires-clause-begun : goal.run_on-requires-clause-begun
run_on-requires-clause-begun g c =
    begun_so (run_of c.args.asked.now) c.args.program.now c.args.roots.now.limit c.args.given.now (known_in untold c.args.store.now) c.requires.limit c.requires.given c.requires.first.known
    c.start.new.store c.start.new.roots.roots c.in-Ok.ensures.begun

pub returns-in-Ok-clause-comes : goal.returns-in-Ok-clause-comes
returns-in-Ok-clause-comes g c = record { runs = c.run_on.ensures.comes.runs }

pub returns-in-Ok-clause-fault : goal.returns-in-Ok-clause-fault
returns-in-Ok-clause-fault g c = counts_as (g.O.Sink.faults c.args.out.now) (g.O.Sink.faults c.run_on.new.out) (λ is. ap Ok is) (λ is. cc is) c.run_on.ensures.fault

pub returns-in-Ok-clause-read : goal.returns-in-Ok-clause-read
returns-in-Ok-clause-read g c = counts_as (g.I.Source.faults c.args.input.now) (g.I.Source.faults c.run_on.new.input) (λ is. ap Ok is) (λ is. cc is) c.run_on.ensures.read

pub returns-in-Err-clause-comes : goal.returns-in-Err-clause-comes
returns-in-Err-clause-comes g c =
    let asks = run_of c.args.asked.now in
    let after = c.start.new.store in
    let refused = refused_by asks c.args.program.now c.args.roots.now.limit c.args.given.now (known_in untold c.args.store.now) c.requires.limit c.requires.given c.requires.first.known c.in-Err.reason
    (known_in untold after) c.in-Err.ensures.refused in
    record {
      runs = λ stop is. unbegun_so g.I.Source.left g.I.Source.gave asks c.args.program.now c.args.input.now after c.in-Err.ensures.nothing (g.O.Sink.taken c.args.out.now) c.in-Err.reason stop
          (Appends-nothing (g.O.Sink.taken c.args.out.now)) refused is;
    }

pub returns-in-Err-clause-may : goal.returns-in-Err-clause-may
returns-in-Err-clause-may g c = record {
  reported = λ is. (let rose : 0 < 0 = (c.in-Err.ensures.counted.exact (omega arith)).0 (ap Err is) in omega (arith, rose));
  roomy = roomy_start _ _ _ c.in-Err.reason _ c.in-Err.ensures.refused;
}

pub returns-in-Err-clause-fault : goal.returns-in-Err-clause-fault
returns-in-Err-clause-fault g c = unchanged_count _ (λ is. cc is)

pub returns-in-Err-clause-read : goal.returns-in-Err-clause-read
returns-in-Err-clause-read g c = unchanged_count _ (λ is. cc is)
