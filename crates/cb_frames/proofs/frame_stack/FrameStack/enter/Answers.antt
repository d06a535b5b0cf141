use Rattle.std.proofs.Common.{◌∙◌, arith}
use Rattle.cb_frames.proofs.Entering.{begun_slots, enter_laid, enter_view, locals_inside, some_free, within_stack, words_inside}
use Rattle.cb_frames.proofs.Stacked.{few_slots}
use Rattle.cb_frames.proofs.frame_stack.FrameStack.enter.Goals as goal

pub overflow_sub-first : goal.overflow_sub-first
overflow_sub-first c =
    let within = within_stack c.self.inside.limit c.self.inside.slots c.self.inside.top c.self.inside.below.items c.self.inside.free c.args.arguments c.args.locals c.args.stack c.args.self.now
    c.self.view_is c.self.invariant c.requires.room c.requires.there c.requires.fits in
    omega (arith, within.0)

pub spread-given-requires-clause-few : goal.spread-given-requires-clause-few
spread-given-requires-clause-few c = omega (arith, few_slots _ _ _ _ _ c.self.invariant)

pub spread-given-requires-clause-before : goal.spread-given-requires-clause-before
spread-given-requires-clause-before c =
    let within = within_stack c.self.inside.limit c.self.inside.slots c.self.inside.top c.self.inside.below.items c.self.inside.free c.args.arguments c.args.locals c.args.stack c.args.self.now
    c.self.view_is c.self.invariant c.requires.room c.requires.there c.requires.fits in
    omega (arith, within.0, within.1)

pub spread-given-requires-clause-inside : goal.spread-given-requires-clause-inside
spread-given-requires-clause-inside c =
    let few = words_inside c.self.inside.limit c.self.inside.slots c.self.inside.top c.self.inside.below.items c.self.inside.free c.args.arguments c.args.locals c.args.stack c.args.self.now
    c.self.view_is c.self.invariant c.requires.room c.requires.there c.requires.fits in
    let inside = locals_inside c.self.inside.limit c.self.inside.slots c.self.inside.top c.self.inside.below.items c.self.inside.free c.args.arguments c.args.locals c.args.stack c.args.self.now
    c.self.view_is c.self.invariant c.requires.room c.requires.there c.requires.fits in
    omega (arith, few, inside)

pub wipe-requires-clause-order : goal.wipe-requires-clause-order
wipe-requires-clause-order c =
    let few = words_inside c.self.inside.limit c.self.inside.slots c.self.inside.top c.self.inside.below.items c.self.inside.free c.args.arguments c.args.locals c.args.stack c.args.self.now
    c.self.view_is c.self.invariant c.requires.room c.requires.there c.requires.fits in
    omega (arith, few, c.spread-given.ensures.place)

pub wipe-requires-clause-inside : goal.wipe-requires-clause-inside
wipe-requires-clause-inside c =
    let inside = locals_inside c.self.inside.limit c.self.inside.slots c.self.inside.top c.self.inside.below.items c.self.inside.free c.args.arguments c.args.locals c.args.stack c.args.self.now
    c.self.view_is c.self.invariant c.requires.room c.requires.there c.requires.fits in
    omega (arith, inside, c.spread-given.ensures.count)

pub overflow_sub-self : goal.overflow_sub-self
overflow_sub-self c =
    let some = some_free c.self.inside.limit c.self.inside.slots c.self.inside.top c.self.inside.below.items c.self.inside.free c.args.arguments c.args.locals c.args.stack c.args.self.now
    c.self.view_is c.self.invariant c.requires.room c.requires.there c.requires.fits in
    omega (arith, some)

pub invariant_of-self : goal.invariant_of-self
invariant_of-self c =
    enter_laid c.self.inside.limit c.self.inside.slots c.self.inside.top c.self.inside.below.items c.self.inside.free c.args.arguments c.args.locals c.args.stack c.args.self.now
    c.self.view_is c.self.invariant c.requires.room c.requires.there c.requires.fits
    _ c.args.method
    (c.wipe.ensures.count ∙ c.spread-given.ensures.count)

pub returns : goal.returns
returns c =
    enter_view c.self.inside.limit c.self.inside.slots c.self.inside.top c.self.inside.below.items c.self.inside.free c.args.arguments c.args.locals c.args.stack c.args.self.now
    c.self.view_is c.self.invariant c.requires.room c.requires.there c.requires.fits
    _ c.args.method
    (begun_slots c.self.inside.limit c.self.inside.slots c.self.inside.top c.self.inside.below.items c.self.inside.free c.args.arguments c.args.locals c.args.stack c.args.self.now
    c.self.view_is c.self.invariant c.requires.room c.requires.there c.requires.fits
    _ _ c.spread-given.result c.spread-given.ensures.slots c.spread-given.ensures.place c.wipe.ensures.slots)
