use Rattle.cb_collection_cases.proofs.Collects.{marks_again, set_again, view_again}
use Rattle.cb_collection_cases.proofs.collecting.mark_and_slide.Goals as goal

pub slide-requires-clause-set : goal.slide-requires-clause-set
slide-requires-clause-set g c = set_again c.args.set.now c.args.heap.now c.mark.new.heap c.mark.ensures.rest c.requires.may.set_is

pub slide-requires-clause-closed : goal.slide-requires-clause-closed
slide-requires-clause-closed g c = view_again c.args.heap.now c.mark.new.heap c.args.roots.now.roots c.mark.ensures.kept c.mark.ensures.places c.requires.may.closed

pub slide-requires-clause-marked : goal.slide-requires-clause-marked
slide-requires-clause-marked g c = marks_again c.args.set.now c.args.heap.now c.mark.new.heap c.args.roots.now.roots c.mark.ensures.kept c.mark.ensures.places c.mark.ensures.marked
