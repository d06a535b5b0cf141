use Rattle.std.proofs.Common.{arith}
use Rattle.cb_partheap.proofs.PlaceCalls.{next_fits, placing, room_left}
use Rattle.cb_partheap.proofs.part_heap.PartHeap.place.Goals as goal

pub add_object-requires-clause-room : goal.add_object-requires-clause-room
add_object-requires-clause-room c = room_left c.args.site c.args.size c.get-part.result.now c.self.invariant c.self.view_is c.requires.granted c.get-part.ensures

pub overflow_add-self : goal.overflow_add-self
overflow_add-self c = omega (arith, next_fits c.self.invariant c.self.view_is c.requires.serials)

pub invariant_of-self : goal.invariant_of-self
invariant_of-self c = (placing c.args.site c.args.kind c.args.size c.get-part.result.now c.add_object.result c.add_object.new.words c.spend.new.self c.self.invariant c.self.view_is c.requires.granted c.requires.shaped (omega arith) c.get-part.ensures c.add_object.ensures.added c.add_object.ensures.place c.spend.ensures).heap_is

pub returns-clause-kept : goal.returns-clause-kept
returns-clause-kept c = (placing c.args.site c.args.kind c.args.size c.get-part.result.now c.add_object.result c.add_object.new.words c.spend.new.self c.self.invariant c.self.view_is c.requires.granted c.requires.shaped (omega arith) c.get-part.ensures c.add_object.ensures.added c.add_object.ensures.place c.spend.ensures).objects

pub returns-clause-serial : goal.returns-clause-serial
returns-clause-serial c = (placing c.args.site c.args.kind c.args.size c.get-part.result.now c.add_object.result c.add_object.new.words c.spend.new.self c.self.invariant c.self.view_is c.requires.granted c.requires.shaped (omega arith) c.get-part.ensures c.add_object.ensures.added c.add_object.ensures.place c.spend.ensures).serial

pub returns-clause-places : goal.returns-clause-places
returns-clause-places c = (placing c.args.site c.args.kind c.args.size c.get-part.result.now c.add_object.result c.add_object.new.words c.spend.new.self c.self.invariant c.self.view_is c.requires.granted c.requires.shaped (omega arith) c.get-part.ensures c.add_object.ensures.added c.add_object.ensures.place c.spend.ensures).places

pub returns-clause-words : goal.returns-clause-words
returns-clause-words c = (placing c.args.site c.args.kind c.args.size c.get-part.result.now c.add_object.result c.add_object.new.words c.spend.new.self c.self.invariant c.self.view_is c.requires.granted c.requires.shaped (omega arith) c.get-part.ensures c.add_object.ensures.added c.add_object.ensures.place c.spend.ensures).words

pub returns-clause-unmarked : goal.returns-clause-unmarked
returns-clause-unmarked c = (placing c.args.site c.args.kind c.args.size c.get-part.result.now c.add_object.result c.add_object.new.words c.spend.new.self c.self.invariant c.self.view_is c.requires.granted c.requires.shaped (omega arith) c.get-part.ensures c.add_object.ensures.added c.add_object.ensures.place c.spend.ensures).unmarked
