use Rattle.cb_core.specs.Rowed.{method_row}
use Rattle.cb_core.specs.Sound.{IsSoundMethod, method_room}
use Rattle.cb_core.proofs.Building.{gathers_turn, gathers_all, room_turn, sound_turn}
use Rattle.cb_core.proofs.Kept.{method_stays}
use Rattle.cb_core.proofs.Making.{each_all_made, each_turn_made}
use Rattle.cb_core.specs.Recorded.{with_member}
use Rattle.cb_core.proofs.members.methods_of.Goals as goal

pub method_of-requires-clause-room : goal.method_of-requires-clause-room
method_of-requires-clause-room c = room_turn method_row method_room _ _ _ _ _ _ _ c.loop-row-test.true c.requires.room c.loop-row.invariant.gathers

pub method_of-requires-clause-sound : goal.method_of-requires-clause-sound
method_of-requires-clause-sound c = sound_turn method_row IsSoundMethod _ _ _ c.loop-row-test.true c.requires.sound

pub loop-row-preserved : goal.loop-row-preserved
loop-row-preserved c = record {
  gathers = gathers_turn method_row method_room _ _ _ _ _ _ _ _ _ _ method_stays c.loop-row-test.true c.in_ok-push.ensures.ok c.loop-row.invariant.gathers c.in_ok-method.ensures.put;
  made = each_turn_made method_row with_member c.args.rows.now c.loop-row.row-index _ c.args.pool.now c.loop-row.pool _ c.loop-row.methods _ _ c.loop-row-test.true c.in_ok-push.ensures.ok c.loop-row.invariant.made c.in_ok-method.ensures.made;
}

pub returns-clause-put : goal.returns-clause-put
returns-clause-put c = gathers_all method_row method_room _ _ _ _ _ _ c.loop-row-test.false c.loop-row.invariant.gathers

pub returns-clause-made : goal.returns-clause-made
returns-clause-made c = each_all_made method_row with_member c.args.rows.now c.loop-row.row-index c.args.pool.now c.loop-row.pool c.loop-row.methods c.loop-row-test.false c.loop-row.invariant.made
