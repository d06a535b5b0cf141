use Rattle.cb_core.specs.Rowed.{field_row}
use Rattle.cb_core.specs.Sound.{IsSoundField}
use Rattle.cb_core.proofs.Building.{each_all, each_turn, gathers_turn, sound_turn}
use Rattle.cb_core.proofs.Kept.{field_stays}
use Rattle.cb_core.proofs.Making.{each_all_made, each_turn_made}
use Rattle.cb_core.specs.Recorded.{with_variable}
use Rattle.cb_core.proofs.members.fields_of.Goals as goal

pub field_of-requires-clause-room : goal.field_of-requires-clause-room
field_of-requires-clause-room c = each_turn _ 2 _ _ _ _ _ _ c.loop-row-test.true c.requires.room c.loop-row.invariant.gathers

pub field_of-requires-clause-sound : goal.field_of-requires-clause-sound
field_of-requires-clause-sound c = sound_turn field_row IsSoundField _ _ _ c.loop-row-test.true c.requires.sound

pub loop-row-preserved : goal.loop-row-preserved
loop-row-preserved c = record {
  gathers = gathers_turn _ _ _ _ _ _ _ _ _ _ _ _ field_stays c.loop-row-test.true c.in_ok-push.ensures.ok c.loop-row.invariant.gathers c.in_ok-field.ensures.put;
  made = each_turn_made field_row with_variable c.args.rows.now c.loop-row.row-index _ c.args.pool.now c.loop-row.pool _ c.loop-row.fields _ _ c.loop-row-test.true c.in_ok-push.ensures.ok c.loop-row.invariant.made c.in_ok-field.ensures.made;
}

pub returns-clause-put : goal.returns-clause-put
returns-clause-put c = each_all _ 2 _ _ _ _ _ _ c.loop-row-test.false c.loop-row.invariant.gathers

pub returns-clause-made : goal.returns-clause-made
returns-clause-made c = each_all_made field_row with_variable c.args.rows.now c.loop-row.row-index c.args.pool.now c.loop-row.pool c.loop-row.fields c.loop-row-test.false c.loop-row.invariant.made
