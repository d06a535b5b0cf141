use Rattle.std.proofs.Common.{◌<◌, ◌∙◌, ap, arith, length, Some}
use Rattle.cb_heap.specs.Reading.{serial_of}
use Rattle.cb_kinds.specs.declared.basic.Basic.TheVariants as basics
use Rattle.cb_machine.specs.Copying.{fits}
use Rattle.cb_natives.specs.Copies.{words_from}
use Rattle.cb_natives.specs.MakingOwn.{call_of}
use Rattle.cb_natives.proofs.RangeLaws.{fits_last, fits_next, range_length, range_word}
use Rattle.cb_natives.proofs.range_copies.instances.Goals as goal

pub returns-then-not-fits-clause-fit : goal.returns-then-not-fits-clause-fit
returns-then-not-fits-clause-fit g c = λ frames beside.
    let objects = (g.S.Store.storage c.args.store.now).kept in
    let source = serial_of (g.S.Store.storage c.args.store.now).index c.args.source in
    let words = words_from objects source c.args.start c.args.count in
    let low : c.loop-i.i < c.args.count = omega (arith, c.loop-i-test.true) in
    let under : c.loop-i.i < length words = omega (arith, low, range_length objects source c.args.start c.args.count c.requires.may.within) in
    let call = call_of c.args.program.now objects frames beside in
    fits_last call (Some (basics.Reference c.args.kind)) words c.loop-i.i under (c.loop-i.invariant frames beside)
    (ap (fits call (Some (basics.Reference c.args.kind))) (range_word objects source c.args.start c.args.count c.requires.may.within c.loop-i.i low) ∙ c.fits.ensures frames beside ∙ grind (arith, c.if-not-fits.true))

pub loop-i-preserved : goal.loop-i-preserved
loop-i-preserved g c = λ frames beside.
    let objects = (g.S.Store.storage c.args.store.now).kept in
    let source = serial_of (g.S.Store.storage c.args.store.now).index c.args.source in
    let words = words_from objects source c.args.start c.args.count in
    let low : c.loop-i.i < c.args.count = omega (arith, c.loop-i-test.true) in
    let under : c.loop-i.i < length words = omega (arith, low, range_length objects source c.args.start c.args.count c.requires.may.within) in
    let call = call_of c.args.program.now objects frames beside in
    fits_next call (Some (basics.Reference c.args.kind)) words c.loop-i.i under (c.loop-i.invariant frames beside)
    (ap (fits call (Some (basics.Reference c.args.kind))) (range_word objects source c.args.start c.args.count c.requires.may.within c.loop-i.i low) ∙ c.fits.ensures frames beside ∙ grind (arith, c.if-not-fits.false))
