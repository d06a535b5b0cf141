use Rattle.std.proofs.Common.{arith, length, refl, ap, ◌∙◌}
use Rattle.cb_plain.specs.State.{Roots}
use Rattle.cb_frames.specs.Entries.{entries, without_references}
use Rattle.cb_frames.specs.Limited.{Limited}
use Rattle.cb_slide.proofs.Rewriting.{header_followed, parts_read}
use Rattle.cb_slide.proofs.RootWords.{entry_follows, entry_some, root_null, root_set, roots_all, roots_begin, same_roots}
use Rattle.cb_slide.proofs.references.rewrite_roots.Goals as goal
use Rattle.cb_slide.proofs.references.rewrite_roots.Goals.{then-at-ne0, else-at-ne0}

pub loop-i-init : goal.loop-i-init
loop-i-init g c = record {
  so_far = λ given f same set. roots_begin given c.args.roots.now.roots same;
  same = refl;
  limit = refl;
  counted = omega arith;
}

pub reference-at-requires : goal.reference-at-requires
reference-at-requires g c =
    let r = c.requires in
    omega (arith, c.loop-i-test.true, c.reference_count-i-end.ensures, (c.loop-i.invariant.so_far r.0 r.1 r.2 r.3).long, ap (λ (roots : Roots). length (entries roots)) r.2)

pub new_place-requires-clause-found : goal.new_place-requires-clause-found
new_place-requires-clause-found g c some =
    let r = c.requires in
    header_followed c.reference-at.result r.1 (entry_follows (c.loop-i.invariant.so_far r.0 r.1 r.2 r.3) c.reference-at.result c.reference-at.ensures r.1) some

pub new_place-requires-clause-parts : goal.new_place-requires-clause-parts
new_place-requires-clause-parts g c = (parts_read c.args.set.now c.requires.1 c.requires.3).0

pub new_place-requires-clause-few : goal.new_place-requires-clause-few
new_place-requires-clause-few g c = (parts_read c.args.set.now c.requires.1 c.requires.3).1

pub set_reference-requires : goal.set_reference-requires
set_reference-requires g c =
    let r = c.requires in
    entry_some (c.loop-i.invariant.so_far r.0 r.1 r.2 r.3) c.reference-at.result c.reference-at.ensures c.if-at-ne0.true

pub loop-i-preserved : goal.loop-i-preserved
loop-i-preserved g c = record {
  so_far = λ given f same set.
      let r = c.loop-i.invariant.so_far given f same set in
      elim c.if-at-ne0.branch [
        | then-at-ne0 w ↦
            same_roots w.set_reference.new.self.roots c.if-at-ne0.roots.roots (ap (λ (held : Limited). held.roots) w.roots-is)
            (root_set r c.reference-at.result c.reference-at.ensures c.args.set.now w.new_place.result w.set_reference.new.self.roots f set w.new_place.ensures.null w.new_place.ensures.found w.set_reference.ensures.entry)
        | else-at-ne0 w ↦
            same_roots c.loop-i.roots.roots c.if-at-ne0.roots.roots (ap (λ (held : Limited). held.roots) w.roots-is)
            (root_null r c.reference-at.result c.reference-at.ensures w.if-at-ne0.false)
      ];
  same = elim c.if-at-ne0.branch [
    | then-at-ne0 w ↦ ap (λ (held : Limited). without_references held.roots) w.roots-is ∙ w.set_reference.ensures.rest ∙ c.loop-i.invariant.same
    | else-at-ne0 w ↦ ap (λ (held : Limited). without_references held.roots) w.roots-is ∙ c.loop-i.invariant.same
  ];
  limit = elim c.if-at-ne0.branch [
    | then-at-ne0 w ↦ ap (λ (held : Limited). held.limit) w.roots-is ∙ w.set_reference.ensures.limit ∙ c.loop-i.invariant.limit
    | else-at-ne0 w ↦ ap (λ (held : Limited). held.limit) w.roots-is ∙ c.loop-i.invariant.limit
  ];
  counted = omega (arith, c.tick.ensures, c.loop-i.invariant.counted);
}

pub returns-clause-entries : goal.returns-clause-entries
returns-clause-entries g c given f same set =
    let r = c.loop-i.invariant.so_far given f same set in
    roots_all c.loop-i.i r (omega (arith, c.loop-i-test.false, c.reference_count-i-end.ensures, ap (λ (roots : Roots). length (entries roots)) same))
