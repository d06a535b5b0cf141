use Rattle.std.proofs.Common.{refl}
use Rattle.cb_partheap.proofs.Granted.{bounded, granted_is, granted_unmarked, has_no_room, has_room, same_index, same_objects}
use Rattle.cb_partheap.proofs.part_heap.PartHeap.grant.Goals as goal

pub returns-then-more-blocks_free-clause-room : goal.returns-then-more-blocks_free-clause-room
returns-then-more-blocks_free-clause-room c = (
  λ err. has_no_room c.args.request.now c.blocks_more-more.result c.blocks_free.result c.self.invariant c.self.view_is c.blocks_more-more.ensures c.blocks_free.ensures.free c.if-more-blocks_free.true,
  λ no. refl,
)

pub invariant_of-self : goal.invariant_of-self
invariant_of-self c = granted_is c.args.request.now c.copy_from.new.self c.blocks_more-more.result c.blocks_free.result c.self.invariant c.self.view_is c.requires c.blocks_more-more.ensures c.blocks_free.ensures.free c.if-more-blocks_free.false c.copy_from.ensures

pub returns-clause-room : goal.returns-clause-room
returns-clause-room c = (
  λ err. absurd (cc err),
  λ past. absurd (past (has_room c.args.request.now c.blocks_more-more.result c.blocks_free.result c.self.invariant c.self.view_is c.blocks_more-more.ensures c.blocks_free.ensures.free c.if-more-blocks_free.false)),
)

pub returns-clause-bounded : goal.returns-clause-bounded
returns-clause-bounded c = bounded c.args.request.now c.blocks_more-more.result c.blocks_free.result _ c.self.invariant c.self.view_is c.requires c.blocks_more-more.ensures c.blocks_free.ensures.free c.if-more-blocks_free.false

pub returns-clause-kept : goal.returns-clause-kept
returns-clause-kept c = same_objects c.copy_from.new.self c.self.view_is

pub returns-clause-places : goal.returns-clause-places
returns-clause-places c = same_index c.copy_from.new.self c.self.view_is

pub returns-clause-unmarked : goal.returns-clause-unmarked
returns-clause-unmarked c none = granted_unmarked c.copy_from.new.self c.self.view_is none
