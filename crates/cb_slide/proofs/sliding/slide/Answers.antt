use Rattle.std.proofs.Common.{refl}
use Rattle.cb_slide.proofs.Ending.{all_slid, forwarded_all, given_of, rewrites_from, rewritten_all}
use Rattle.cb_slide.proofs.Forwards.{forward_begins}
use Rattle.cb_slide.proofs.sliding.slide.Goals as goal

pub forward-requires : goal.forward-requires
forward-requires g c =
    let is = given_of c.heap.invariant c.heap.view_is (record { set_is = c.requires.set; view = c.requires.closed; marks = c.requires.marked }) in
    (_, forward_begins _ is, refl)

pub rewrite_roots-requires : goal.rewrite_roots-requires
rewrite_roots-requires g c =
    let is = given_of c.heap.invariant c.heap.view_is (record { set_is = c.requires.set; view = c.requires.closed; marks = c.requires.marked }) in
    let f = c.forward.ensures _ (forward_begins _ is) refl in
    (_, forwarded_all is f, refl, refl)

pub rewrite_set-requires : goal.rewrite_set-requires
rewrite_set-requires g c =
    let is = given_of c.heap.invariant c.heap.view_is (record { set_is = c.requires.set; view = c.requires.closed; marks = c.requires.marked }) in
    let f = c.forward.ensures _ (forward_begins _ is) refl in
    (_, rewrites_from is f, refl, refl)

pub compact-requires : goal.compact-requires
compact-requires g c =
    let is = given_of c.heap.invariant c.heap.view_is (record { set_is = c.requires.set; view = c.requires.closed; marks = c.requires.marked }) in
    let f = c.forward.ensures _ (forward_begins _ is) refl in
    (_, rewritten_all is (c.rewrite_set.ensures _ (rewrites_from is f) refl refl).0, refl)

pub invariant_of-heap : goal.invariant_of-heap
invariant_of-heap g c =
    (all_slid c.rewrite_roots.new.roots.roots c.rewrite_set.new.words c.compact.new.words c.args.steps.now c.rewrite_roots.new.steps c.rewrite_set.new.steps c.compact.new.steps c.heap.invariant c.heap.view_is
    (record { set_is = c.requires.set; view = c.requires.closed; marks = c.requires.marked }) c.rewrite_roots.ensures.rest
    (λ is. c.rewrite_roots.ensures.entries _ (forwarded_all is (c.forward.ensures _ (forward_begins _ is) refl)) refl refl) c.rewrite_roots.ensures.counted
    (λ is. c.rewrite_set.ensures _ (rewrites_from is (c.forward.ensures _ (forward_begins _ is) refl)) refl refl)
    (λ is. c.compact.ensures _ (rewritten_all is (c.rewrite_set.ensures _ (rewrites_from is (c.forward.ensures _ (forward_begins _ is) refl)) refl refl).0) refl)).heap_is

pub returns-clause-collects : goal.returns-clause-collects
returns-clause-collects g c =
    (all_slid c.rewrite_roots.new.roots.roots c.rewrite_set.new.words c.compact.new.words c.args.steps.now c.rewrite_roots.new.steps c.rewrite_set.new.steps c.compact.new.steps c.heap.invariant c.heap.view_is
    (record { set_is = c.requires.set; view = c.requires.closed; marks = c.requires.marked }) c.rewrite_roots.ensures.rest
    (λ is. c.rewrite_roots.ensures.entries _ (forwarded_all is (c.forward.ensures _ (forward_begins _ is) refl)) refl refl) c.rewrite_roots.ensures.counted
    (λ is. c.rewrite_set.ensures _ (rewrites_from is (c.forward.ensures _ (forward_begins _ is) refl)) refl refl)
    (λ is. c.compact.ensures _ (rewritten_all is (c.rewrite_set.ensures _ (rewrites_from is (c.forward.ensures _ (forward_begins _ is) refl)) refl refl).0) refl)).collects_is

pub returns-clause-taken : goal.returns-clause-taken
returns-clause-taken g c =
    (all_slid c.rewrite_roots.new.roots.roots c.rewrite_set.new.words c.compact.new.words c.args.steps.now c.rewrite_roots.new.steps c.rewrite_set.new.steps c.compact.new.steps c.heap.invariant c.heap.view_is
    (record { set_is = c.requires.set; view = c.requires.closed; marks = c.requires.marked }) c.rewrite_roots.ensures.rest
    (λ is. c.rewrite_roots.ensures.entries _ (forwarded_all is (c.forward.ensures _ (forward_begins _ is) refl)) refl refl) c.rewrite_roots.ensures.counted
    (λ is. c.rewrite_set.ensures _ (rewrites_from is (c.forward.ensures _ (forward_begins _ is) refl)) refl refl)
    (λ is. c.compact.ensures _ (rewritten_all is (c.rewrite_set.ensures _ (rewrites_from is (c.forward.ensures _ (forward_begins _ is) refl)) refl refl).0) refl)).taken_is

pub returns-clause-objects : goal.returns-clause-objects
returns-clause-objects g c =
    (all_slid c.rewrite_roots.new.roots.roots c.rewrite_set.new.words c.compact.new.words c.args.steps.now c.rewrite_roots.new.steps c.rewrite_set.new.steps c.compact.new.steps c.heap.invariant c.heap.view_is
    (record { set_is = c.requires.set; view = c.requires.closed; marks = c.requires.marked }) c.rewrite_roots.ensures.rest
    (λ is. c.rewrite_roots.ensures.entries _ (forwarded_all is (c.forward.ensures _ (forward_begins _ is) refl)) refl refl) c.rewrite_roots.ensures.counted
    (λ is. c.rewrite_set.ensures _ (rewrites_from is (c.forward.ensures _ (forward_begins _ is) refl)) refl refl)
    (λ is. c.compact.ensures _ (rewritten_all is (c.rewrite_set.ensures _ (rewrites_from is (c.forward.ensures _ (forward_begins _ is) refl)) refl refl).0) refl)).objects_are

pub returns-clause-roots : goal.returns-clause-roots
returns-clause-roots g c =
    (all_slid c.rewrite_roots.new.roots.roots c.rewrite_set.new.words c.compact.new.words c.args.steps.now c.rewrite_roots.new.steps c.rewrite_set.new.steps c.compact.new.steps c.heap.invariant c.heap.view_is
    (record { set_is = c.requires.set; view = c.requires.closed; marks = c.requires.marked }) c.rewrite_roots.ensures.rest
    (λ is. c.rewrite_roots.ensures.entries _ (forwarded_all is (c.forward.ensures _ (forward_begins _ is) refl)) refl refl) c.rewrite_roots.ensures.counted
    (λ is. c.rewrite_set.ensures _ (rewrites_from is (c.forward.ensures _ (forward_begins _ is) refl)) refl refl)
    (λ is. c.compact.ensures _ (rewritten_all is (c.rewrite_set.ensures _ (rewrites_from is (c.forward.ensures _ (forward_begins _ is) refl)) refl refl).0) refl)).roots_are

pub returns-clause-unmarked : goal.returns-clause-unmarked
returns-clause-unmarked g c =
    (all_slid c.rewrite_roots.new.roots.roots c.rewrite_set.new.words c.compact.new.words c.args.steps.now c.rewrite_roots.new.steps c.rewrite_set.new.steps c.compact.new.steps c.heap.invariant c.heap.view_is
    (record { set_is = c.requires.set; view = c.requires.closed; marks = c.requires.marked }) c.rewrite_roots.ensures.rest
    (λ is. c.rewrite_roots.ensures.entries _ (forwarded_all is (c.forward.ensures _ (forward_begins _ is) refl)) refl refl) c.rewrite_roots.ensures.counted
    (λ is. c.rewrite_set.ensures _ (rewrites_from is (c.forward.ensures _ (forward_begins _ is) refl)) refl refl)
    (λ is. c.compact.ensures _ (rewritten_all is (c.rewrite_set.ensures _ (rewrites_from is (c.forward.ensures _ (forward_begins _ is) refl)) refl refl).0) refl)).unmarked

pub returns-clause-outside : goal.returns-clause-outside
returns-clause-outside g c =
    (all_slid c.rewrite_roots.new.roots.roots c.rewrite_set.new.words c.compact.new.words c.args.steps.now c.rewrite_roots.new.steps c.rewrite_set.new.steps c.compact.new.steps c.heap.invariant c.heap.view_is
    (record { set_is = c.requires.set; view = c.requires.closed; marks = c.requires.marked }) c.rewrite_roots.ensures.rest
    (λ is. c.rewrite_roots.ensures.entries _ (forwarded_all is (c.forward.ensures _ (forward_begins _ is) refl)) refl refl) c.rewrite_roots.ensures.counted
    (λ is. c.rewrite_set.ensures _ (rewrites_from is (c.forward.ensures _ (forward_begins _ is) refl)) refl refl)
    (λ is. c.compact.ensures _ (rewritten_all is (c.rewrite_set.ensures _ (rewrites_from is (c.forward.ensures _ (forward_begins _ is) refl)) refl refl).0) refl)).outside

pub returns-clause-places : goal.returns-clause-places
returns-clause-places g c =
    (all_slid c.rewrite_roots.new.roots.roots c.rewrite_set.new.words c.compact.new.words c.args.steps.now c.rewrite_roots.new.steps c.rewrite_set.new.steps c.compact.new.steps c.heap.invariant c.heap.view_is
    (record { set_is = c.requires.set; view = c.requires.closed; marks = c.requires.marked }) c.rewrite_roots.ensures.rest
    (λ is. c.rewrite_roots.ensures.entries _ (forwarded_all is (c.forward.ensures _ (forward_begins _ is) refl)) refl refl) c.rewrite_roots.ensures.counted
    (λ is. c.rewrite_set.ensures _ (rewrites_from is (c.forward.ensures _ (forward_begins _ is) refl)) refl refl)
    (λ is. c.compact.ensures _ (rewritten_all is (c.rewrite_set.ensures _ (rewrites_from is (c.forward.ensures _ (forward_begins _ is) refl)) refl refl).0) refl)).places

pub returns-clause-rest : goal.returns-clause-rest
returns-clause-rest g c =
    (all_slid c.rewrite_roots.new.roots.roots c.rewrite_set.new.words c.compact.new.words c.args.steps.now c.rewrite_roots.new.steps c.rewrite_set.new.steps c.compact.new.steps c.heap.invariant c.heap.view_is
    (record { set_is = c.requires.set; view = c.requires.closed; marks = c.requires.marked }) c.rewrite_roots.ensures.rest
    (λ is. c.rewrite_roots.ensures.entries _ (forwarded_all is (c.forward.ensures _ (forward_begins _ is) refl)) refl refl) c.rewrite_roots.ensures.counted
    (λ is. c.rewrite_set.ensures _ (rewrites_from is (c.forward.ensures _ (forward_begins _ is) refl)) refl refl)
    (λ is. c.compact.ensures _ (rewritten_all is (c.rewrite_set.ensures _ (rewrites_from is (c.forward.ensures _ (forward_begins _ is) refl)) refl refl).0) refl)).rest_is

pub returns-clause-steps : goal.returns-clause-steps
returns-clause-steps g c =
    (all_slid c.rewrite_roots.new.roots.roots c.rewrite_set.new.words c.compact.new.words c.args.steps.now c.rewrite_roots.new.steps c.rewrite_set.new.steps c.compact.new.steps c.heap.invariant c.heap.view_is
    (record { set_is = c.requires.set; view = c.requires.closed; marks = c.requires.marked }) c.rewrite_roots.ensures.rest
    (λ is. c.rewrite_roots.ensures.entries _ (forwarded_all is (c.forward.ensures _ (forward_begins _ is) refl)) refl refl) c.rewrite_roots.ensures.counted
    (λ is. c.rewrite_set.ensures _ (rewrites_from is (c.forward.ensures _ (forward_begins _ is) refl)) refl refl)
    (λ is. c.compact.ensures _ (rewritten_all is (c.rewrite_set.ensures _ (rewrites_from is (c.forward.ensures _ (forward_begins _ is) refl)) refl refl).0) refl)).steps_are
