use Rattle.cb_heap.specs.Storage.{view_in}
use Rattle.std.proofs.Common.{◌∙◌, ◌<◌, ◌≤◌, [], ap, arith, sym, subst, ℕ, length, rules}
use Rattle.cb_frames.specs.Limited.{Limited}
use Rattle.cb_frames.specs.Tops.{top_stack}
use Rattle.cb_library.specs.declared.native.Native.TheVariants as natives
use Rattle.cb_safety.proofs.Laws.{typed_states_are_closed}
use Rattle.cb_act.specs.Turning.{machine_of, state_of}
use Rattle.cb_interp.specs.Answering.{behind_answer}
use Rattle.cb_interp.proofs.NativesAnswered.{count_there, enough, few_there, sorts_there}
use Rattle.cb_interp.proofs.NativesCopied.{copied_follows, copied_turn, copy_goes_on, fails_by, none_failed}
use Rattle.cb_interp.proofs.NativesMade.{kinds_there, laid_there}
use Rattle.cb_interp.proofs.TurnsNeed.{ends_as, steps_on}
use Rattle.cb_interp.proofs.copy_turns.copy_turn.Goals as goal

pub plan_here-plan-requires-clause-few : goal.plan_here-plan-requires-clause-few
plan_here-plan-requires-clause-few g c =
    few_there c.args.program.now (g.S.Store.storage c.args.store.now).index (g.S.Store.storage c.args.store.now).kept c.args.roots.now.limit c.args.roots.now.roots g.outside c.args.decoded.now c.requires.1.1.1.method
    c.requires.1.1.0 c.requires.1.1.1.asked natives.SystemArraycopy c.requires.1.1.1.is c.requires.1.0.linked c.requires.1.0.fits c.requires.1.0.typed (c.linked_has_natives.ensures c.args.program.now c.requires.1.0.linked c.requires.1.0.fits)

pub plan_here-plan-requires-clause-there : goal.plan_here-plan-requires-clause-there
plan_here-plan-requires-clause-there g c =
    enough c.args.program.now (g.S.Store.storage c.args.store.now).index (g.S.Store.storage c.args.store.now).kept c.args.roots.now.limit c.args.roots.now.roots g.outside c.args.decoded.now c.requires.1.1.1.method
    c.requires.1.1.0 c.requires.1.1.1.asked

pub plan_here-plan-requires-clause-sorts : goal.plan_here-plan-requires-clause-sorts
plan_here-plan-requires-clause-sorts g c =
    sorts_there c.args.program.now (g.S.Store.storage c.args.store.now).index (g.S.Store.storage c.args.store.now).kept c.args.roots.now.limit c.args.roots.now.roots g.outside c.args.decoded.now c.requires.1.1.1.method
    c.requires.1.1.0 c.requires.1.1.1.asked natives.SystemArraycopy c.requires.1.1.1.is c.requires.1.0.linked c.requires.1.0.fits c.requires.1.0.typed (c.linked_has_natives.ensures c.args.program.now c.requires.1.0.linked c.requires.1.0.fits)

pub plan_here-plan-requires-clause-laid : goal.plan_here-plan-requires-clause-laid
plan_here-plan-requires-clause-laid g c =
    laid_there c.args.program.now (g.S.Store.storage c.args.store.now).index (g.S.Store.storage c.args.store.now).kept c.args.roots.now.limit c.args.roots.now.roots g.outside c.args.decoded.now c.requires.1.1.1.method
    c.requires.1.1.0 c.requires.1.1.1.asked natives.SystemArraycopy c.requires.1.1.1.is c.requires.1.0.linked c.requires.1.0.fits c.requires.1.0.typed (c.linked_has_natives.ensures c.args.program.now c.requires.1.0.linked c.requires.1.0.fits) (c.linked_programs.ensures.whole c.args.program.now c.requires.1.0.linked)
    (g.S.Store.storage c.args.store.now).settings.shapes c.requires.1.0.shaped

pub plan_here-plan-requires-clause-kinds : goal.plan_here-plan-requires-clause-kinds
plan_here-plan-requires-clause-kinds g c = kinds_there c.args.program.now (view_in (g.S.Store.storage c.args.store.now) c.args.roots.now.roots) g.outside c.requires.1.0.typed

pub unreachable-requires : goal.unreachable-requires
unreachable-requires g c =
    copy_goes_on c.args.program.now (g.S.Store.storage c.args.store.now).index (g.S.Store.storage c.args.store.now).kept c.args.roots.now.limit c.args.roots.now.roots g.outside c.args.decoded.now c.requires.1.1.1.method
    c.requires.1.1.0 c.requires.1.1.1.asked c.requires.1.1.1.is c.plan_here-plan.result c.plan_here-plan.ensures c.in-None.is
    (steps_on (machine_of c.args.program.now c.args.roots.now.limit) (state_of (view_in (g.S.Store.storage c.args.store.now) c.args.roots.now.roots) g.outside) c.args.decoded.now c.requires.1.1.0 c.requires.1.0.linked c.requires.1.0.fits c.requires.1.0.typed)
    c.in_default.is

pub copy_planned-requires-clause-follows : goal.copy_planned-requires-clause-follows
copy_planned-requires-clause-follows g c =
    copied_follows c.args.program.now (g.S.Store.storage c.args.store.now).index (g.S.Store.storage c.args.store.now).kept c.args.roots.now.limit c.args.roots.now.roots g.outside c.args.decoded.now c.requires.1.1.1.method
    c.requires.1.1.0 c.requires.1.1.1.asked c.requires.1.1.1.is c.plan_here-plan.result c.plan_here-plan.ensures c.in-None.is
    (g.S.Store.storage c.args.store.now).settings.allows c.in-Some-next.next c.in-Some-next.is c.requires.1.0.follows

pub leave_made-requires-clause-some : goal.leave_made-requires-clause-some
leave_made-requires-clause-some g c =
    subst (λ (count : ℕ). 0 < count) (sym (c.argument_count.ensures ∙ count_there c.args.program.now (g.S.Store.storage c.args.store.now).index (g.S.Store.storage c.args.store.now).kept c.args.roots.now.limit c.args.roots.now.roots g.outside c.args.decoded.now c.requires.1.1.1.method
    c.requires.1.1.0 c.requires.1.1.1.asked natives.SystemArraycopy c.requires.1.1.1.is c.requires.1.0.linked c.requires.1.0.fits c.requires.1.0.typed (c.linked_has_natives.ensures c.args.program.now c.requires.1.0.linked c.requires.1.0.fits))) (omega arith)

pub leave_made-requires-clause-few : goal.leave_made-requires-clause-few
leave_made-requires-clause-few g c =
    subst (λ (count : ℕ). count ≤ 5) (sym c.argument_count.ensures)
    (few_there c.args.program.now (g.S.Store.storage c.args.store.now).index (g.S.Store.storage c.args.store.now).kept c.args.roots.now.limit c.args.roots.now.roots g.outside c.args.decoded.now c.requires.1.1.1.method
    c.requires.1.1.0 c.requires.1.1.1.asked natives.SystemArraycopy c.requires.1.1.1.is c.requires.1.0.linked c.requires.1.0.fits c.requires.1.0.typed (c.linked_has_natives.ensures c.args.program.now c.requires.1.0.linked c.requires.1.0.fits))

pub leave_made-requires-clause-there : goal.leave_made-requires-clause-there
leave_made-requires-clause-there g c =
    subst (λ (count : ℕ). count ≤ length (top_stack c.args.roots.now.roots)) (sym c.argument_count.ensures)
    (enough c.args.program.now (g.S.Store.storage c.args.store.now).index (g.S.Store.storage c.args.store.now).kept c.args.roots.now.limit c.args.roots.now.roots g.outside c.args.decoded.now c.requires.1.1.1.method
    c.requires.1.1.0 c.requires.1.1.1.asked)

pub failing_copy-requires : goal.failing_copy-requires
failing_copy-requires g c = λ κs lives. (lives, (c.requires.1.0, (c.requires.1.1.0, (c.requires.1.1.1, fails_by c.args.program.now (g.S.Store.storage c.args.store.now).index (g.S.Store.storage c.args.store.now).kept _ c.plan_here-plan.result c.plan_here-plan.ensures c.in-Some.exception c.in-Some.is))))

pub returns-in-Some-next : goal.returns-in-Some-next
returns-in-Some-next g c = record {
  made = copied_turn c.args.program.now (g.S.Store.storage c.args.store.now).index (g.S.Store.storage c.args.store.now).kept c.args.roots.now.limit c.args.roots.now.roots g.outside c.args.decoded.now c.requires.1.1.1.method
      c.requires.1.1.0 c.requires.1.1.1.asked c.requires.1.1.1.is c.plan_here-plan.result c.plan_here-plan.ensures c.in-None.is g.S.Store.rules (g.S.Store.storage c.args.store.now).facts (g.S.Store.storage c.copy_planned.new.store).facts
      (g.S.Store.storage c.copy_planned.new.store).kept (g.S.Store.storage c.copy_planned.new.store).index c.leave_made.new.roots.roots c.in-Some-next.next
      (typed_states_are_closed c.args.program.now (state_of (view_in (g.S.Store.storage c.args.store.now) c.args.roots.now.roots) g.outside) c.requires.1.0.typed)
      c.in-Some-next.is c.copy_planned.ensures.kept c.copy_planned.ensures.facts c.copy_planned.ensures.places
      (ap (λ (held : Limited). held.roots) c.leave_made.ensures ∙ ap (λ (count : ℕ). behind_answer count [] c.in-Some-next.next c.args.roots.now.roots) c.argument_count.ensures);
  stopped = search rules;
  counted = none_failed _ _ _ c.copy_planned.ensures.faults (λ fails. cc fails);
  limit = search rules;
  settings = search rules;
}

pub returns-in-Some : goal.returns-in-Some
returns-in-Some g c = ends_as c.failing_copy.result c.stopped.result c.stopped.ensures c.failing_copy.ensures
