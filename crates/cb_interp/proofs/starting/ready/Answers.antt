use Rattle.std.proofs.Common.{◌∙◌, ap, arith, length}
use Rattle.cb_frames.specs.Limited.{Limited, with_roots}
use Rattle.cb_plain.specs.State.{Roots}
use Rattle.cb_interp.specs.Starting.{with_first, with_ready}
use Rattle.cb_interp.proofs.TurnsStartingRoots.{as_many_classes, as_many_statics, in_order}
use Rattle.cb_interp.proofs.starting.ready.Goals as goal

pub ready_classes-requires-clause-held : goal.ready_classes-requires-clause-held
ready_classes-requires-clause-held c =
    let program = c.args.program.now in
    let new = ap (λ (roots : Roots). length roots.classes) c.requires.new in
    let many = as_many_classes program in
    omega (arith, new, many)

pub set_values-requires : goal.set_values-requires
set_values-requires c =
    let program = c.args.program.now in
    let done = ap (λ (held : Limited). length held.roots.statics) c.ready_classes.ensures in
    let new = ap (λ (roots : Roots). length (with_ready program roots).statics) c.requires.new in
    let many = as_many_statics program in
    omega (arith, done, new, many)

pub returns : goal.returns
returns c =
    let program = c.args.program.now in
    let old = c.args.roots.now in
    c.set_values.ensures ∙ ap (λ (held : Limited). with_roots held (with_first program held.roots)) c.ready_classes.ensures
    ∙ ap (λ (roots : Roots). with_roots old (with_first program (with_ready program roots))) c.requires.new ∙ ap (with_roots old) (in_order program)
