use Rattle.cb_core.specs.Sound.{IsSoundClassName}
use Rattle.cb_core.proofs.Building.{each_all, each_turn, gathers_turn, sound_turn}
use Rattle.cb_core.proofs.Kept.{class_stays, index_put}
use Rattle.cb_core.proofs.Making.{class_index, each_all_made, each_turn_made}
use Rattle.cb_core.specs.Recorded.{with_class}
use Rattle.cb_core.proofs.record.interfaces_of.Goals as goal

pub enter_class-requires-clause-room : goal.enter_class-requires-clause-room
enter_class-requires-clause-room c = each_turn _ 2 _ _ _ _ _ _ c.loop-name-test.true c.requires.room c.loop-name.invariant.gathers

pub enter_class-requires-clause-sound : goal.enter_class-requires-clause-sound
enter_class-requires-clause-sound c = sound_turn (λ name. name.now) IsSoundClassName _ _ _ c.loop-name-test.true c.requires.sound

pub loop-name-preserved : goal.loop-name-preserved
loop-name-preserved c = record {
  gathers = gathers_turn _ _ _ _ _ _ _ _ _ _ _ _ class_stays c.loop-name-test.true c.in_ok-push.ensures.ok c.loop-name.invariant.gathers (index_put _ _ _ _ _ c.from.ensures c.in_ok-class.ensures.put);
  made = each_turn_made (λ name. name.now) with_class c.args.names.now c.loop-name.name-index _ c.args.pool.now c.loop-name.pool _ c.loop-name.indices _ _ c.loop-name-test.true c.in_ok-push.ensures.ok c.loop-name.invariant.made (class_index _ _ _ _ _ c.from.ensures c.in_ok-class.ensures.made);
}

pub returns-clause-put : goal.returns-clause-put
returns-clause-put c = each_all _ 2 _ _ _ _ _ _ c.loop-name-test.false c.loop-name.invariant.gathers

pub returns-clause-made : goal.returns-clause-made
returns-clause-made c = each_all_made (λ name. name.now) with_class c.args.names.now c.loop-name.name-index c.args.pool.now c.loop-name.pool c.loop-name.indices c.loop-name-test.false c.loop-name.invariant.made
