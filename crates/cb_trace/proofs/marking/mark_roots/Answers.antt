use Rattle.std.proofs.Common.{◌≡◌, Some, slice_get, subst, arith}
use Rattle.std.proofs.lemmas.Option.{slice_get_within}
use Rattle.cb_plain.specs.State.{Roots}
use Rattle.cb_frames.specs.Entries.{entries}
use Rattle.cb_trace.proofs.Looking.{root_may, roots_begin, roots_next}
use Rattle.cb_trace.proofs.Steps.{asks}
use Rattle.cb_trace.proofs.marking.mark_roots.Goals as goal

pub loop-i-init : goal.loop-i-init
loop-i-init g c = record {
  so_far = λ given b. roots_begin given c.args.words.now c.args.grey.now c.args.roots.now.roots c.args.set.now b;
  counted = omega arith;
}

pub mark_reference-requires-clause-found : goal.mark_reference-requires-clause-found
mark_reference-requires-clause-found g c some =
    let b = c.requires.1 in
    let r = c.loop-i.invariant.so_far c.requires.0 b in
    asks c.loop-i.grey c.loop-i.grey.places c.reference.result r.stands.is (omega arith) r.stands.room (root_may c.requires.0 c.args.roots.now.roots c.loop-i.i c.reference.result b.given_is b.roots_are c.reference.ensures) some

pub loop-i-preserved : goal.loop-i-preserved
loop-i-preserved g c = record {
  so_far = λ given b.
      roots_next given c.loop-i.words c.mark_reference.new.words c.loop-i.grey c.mark_reference.new.grey c.args.roots.now.roots c.args.set.now c.loop-i.i c.reference.result b.roots_are c.reference.ensures c.mark_reference.ensures.null
      c.mark_reference.ensures.found (c.loop-i.invariant.so_far given b);
  counted = omega (arith, c.tick.ensures, c.loop-i.invariant.counted);
}

pub returns-clause-marked : goal.returns-clause-marked
returns-clause-marked g c given b =
    let r = c.loop-i.invariant.so_far given b in (
      r.stands,
      λ k to is. r.looked k to (omega (arith, slice_get_within (entries c.args.roots.now.roots) k to is, c.loop-i-test.false, c.reference_count-i-end.ensures)) (subst (λ (roots : Roots). slice_get (entries roots) k ≡ Some to) b.roots_are is),
    )
