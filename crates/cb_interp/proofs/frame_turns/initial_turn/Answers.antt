use Rattle.std.proofs.Common.{rules, ◌∙◌, sym}
use Rattle.cb_frames.specs.declared.frame.Frame.TheVariants as shown
use Rattle.cb_interp.proofs.TurnsFrame.{class_below, classes_fit, first_of}
use Rattle.cb_interp.proofs.TurnsFrameInit.{numbers_next}
use Rattle.cb_interp.proofs.frame_turns.initial_turn.Goals as goal

pub fails_next-requires-clause-class : goal.fails_next-requires-clause-class
fails_next-requires-clause-class g c = class_below c.args.program.now (g.S.Store.storage c.args.store.now).index (g.S.Store.storage c.args.store.now).kept c.args.roots.now.roots g.outside c.requires.1.0.typed

pub fails_next-requires-clause-classes : goal.fails_next-requires-clause-classes
fails_next-requires-clause-classes g c = classes_fit c.args.program.now (g.S.Store.storage c.args.store.now).index (g.S.Store.storage c.args.store.now).kept c.args.roots.now.roots g.outside c.requires.1.0.typed

pub parent_failed-requires : goal.parent_failed-requires
parent_failed-requires g c κs within = (search rules, (c.requires.1.0, (c.requires.1.1.0, ((c.args.class, c.requires.1.1.1), sym c.fails_next.ensures ∙ c.if-fails_next.true))))

pub numbers_at-requires : goal.numbers_at-requires
numbers_at-requires g c = record { class = class_below c.args.program.now (g.S.Store.storage c.args.store.now).index (g.S.Store.storage c.args.store.now).kept c.args.roots.now.roots g.outside c.requires.1.0.typed c.args.class c.args.place c.requires.1.1.1 }

pub initialises-requires : goal.initialises-requires
initialises-requires g c κs within = (search rules, (c.requires.1.0, (c.requires.1.1.0, (first_of (shown.Initialising c.args.class c.args.place) c.args.roots.now.roots.frames c.requires.1.1.1, (sym c.fails_next.ensures ∙ c.if-fails_next.false, ((c.args.class, c.args.place, c.requires.1.1.1), numbers_next c.args.program.now c.args.roots.now.roots c.args.class c.args.place c.requires.1.1.1 (c.numbers_at.ensures.numbers c.if-numbers_at.true)))))))

pub looks_at_parent-requires : goal.looks_at_parent-requires
looks_at_parent-requires g c κs within = (search rules, (c.requires.1.0, (c.requires.1.1.0, (c.requires.1.1.1, (class_below c.args.program.now (g.S.Store.storage c.args.store.now).index (g.S.Store.storage c.args.store.now).kept c.args.roots.now.roots g.outside c.requires.1.0.typed c.args.class c.args.place c.requires.1.1.1, (c.numbers_at.ensures.texts c.if-numbers_at.false, sym c.fails_next.ensures ∙ c.if-fails_next.false))))))
