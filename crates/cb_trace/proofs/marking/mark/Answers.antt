use Rattle.std.proofs.Common.{refl}
use Rattle.cb_trace.proofs.Ending.{all_marked, begins_with}
use Rattle.cb_partheap.proofs.Laws.{outside_same}
use Rattle.cb_trace.proofs.marking.mark.Goals as goal

pub mark_roots-requires : goal.mark_roots-requires
mark_roots-requires g c = (_, begins_with c.heap.invariant c.heap.view_is (record { set_is = c.requires.set; view = c.requires.closed; unmarked = c.requires.unmarked }))

pub mark_behind-requires : goal.mark_behind-requires
mark_behind-requires g c =
    let b = begins_with c.heap.invariant c.heap.view_is (record { set_is = c.requires.set; view = c.requires.closed; unmarked = c.requires.unmarked }) in
    (_, (c.mark_roots.ensures.marked _ b).0, refl)

pub invariant_of-heap : goal.invariant_of-heap
invariant_of-heap g c = (all_marked c.mark_roots.new.words c.mark_behind.new.words c.mark_roots.new.grey c.mark_behind.new.grey c.args.steps.now c.mark_roots.new.steps c.mark_behind.new.steps c.heap.invariant c.heap.view_is c.requires.set c.requires.closed c.requires.unmarked c.mark_roots.ensures.marked c.mark_roots.ensures.counted c.mark_behind.ensures).heap_is

pub returns-clause-marked : goal.returns-clause-marked
returns-clause-marked g c = (all_marked c.mark_roots.new.words c.mark_behind.new.words c.mark_roots.new.grey c.mark_behind.new.grey c.args.steps.now c.mark_roots.new.steps c.mark_behind.new.steps c.heap.invariant c.heap.view_is c.requires.set c.requires.closed c.requires.unmarked c.mark_roots.ensures.marked c.mark_roots.ensures.counted c.mark_behind.ensures).marked_are

pub returns-clause-rest : goal.returns-clause-rest
returns-clause-rest g c = (all_marked c.mark_roots.new.words c.mark_behind.new.words c.mark_roots.new.grey c.mark_behind.new.grey c.args.steps.now c.mark_roots.new.steps c.mark_behind.new.steps c.heap.invariant c.heap.view_is c.requires.set c.requires.closed c.requires.unmarked c.mark_roots.ensures.marked c.mark_roots.ensures.counted c.mark_behind.ensures).rest

pub returns-clause-kept : goal.returns-clause-kept
returns-clause-kept g c = (all_marked c.mark_roots.new.words c.mark_behind.new.words c.mark_roots.new.grey c.mark_behind.new.grey c.args.steps.now c.mark_roots.new.steps c.mark_behind.new.steps c.heap.invariant c.heap.view_is c.requires.set c.requires.closed c.requires.unmarked c.mark_roots.ensures.marked c.mark_roots.ensures.counted c.mark_behind.ensures).kept

pub returns-clause-places : goal.returns-clause-places
returns-clause-places g c = (all_marked c.mark_roots.new.words c.mark_behind.new.words c.mark_roots.new.grey c.mark_behind.new.grey c.args.steps.now c.mark_roots.new.steps c.mark_behind.new.steps c.heap.invariant c.heap.view_is c.requires.set c.requires.closed c.requires.unmarked c.mark_roots.ensures.marked c.mark_roots.ensures.counted c.mark_behind.ensures).places

pub returns-clause-steps : goal.returns-clause-steps
returns-clause-steps g c = (all_marked c.mark_roots.new.words c.mark_behind.new.words c.mark_roots.new.grey c.mark_behind.new.grey c.args.steps.now c.mark_roots.new.steps c.mark_behind.new.steps c.heap.invariant c.heap.view_is c.requires.set c.requires.closed c.requires.unmarked c.mark_roots.ensures.marked c.mark_roots.ensures.counted c.mark_behind.ensures).steps_are

pub returns-clause-outside : goal.returns-clause-outside
returns-clause-outside g c part outside =
    outside_same c.args.set.now c.args.heap.now.memory c.mark_behind.new.words part
    (all_marked c.mark_roots.new.words c.mark_behind.new.words c.mark_roots.new.grey c.mark_behind.new.grey c.args.steps.now c.mark_roots.new.steps c.mark_behind.new.steps c.heap.invariant c.heap.view_is c.requires.set c.requires.closed c.requires.unmarked c.mark_roots.ensures.marked c.mark_roots.ensures.counted c.mark_behind.ensures).rest.memory outside
