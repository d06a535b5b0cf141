use Rattle.std.proofs.Common.{ap, ℕ}
use Rattle.cb_classfile.specs.declared.map_type.MapType.TheVariants as types
use Rattle.cb_core.specs.Sound.{IsSoundClassName}
use Rattle.cb_core.proofs.Building.{each_all, each_turn, gathers_turn, sound_turn}
use Rattle.cb_core.proofs.Kept.{object_put, object_stays}
use Rattle.cb_core.proofs.Making.{each_all_made, each_turn_made}
use Rattle.cb_core.specs.Recorded.{Entry, entered, with_local}
use Rattle.cb_core.proofs.frame.locals_of.Goals as goal

pub enter_class-requires-clause-room : goal.enter_class-requires-clause-room
enter_class-requires-clause-room c = each_turn _ 2 _ _ _ _ _ _ c.loop-name-test.true c.requires.room c.loop-name.invariant.gathers

pub enter_class-requires-clause-sound : goal.enter_class-requires-clause-sound
enter_class-requires-clause-sound c = sound_turn (λ name. name.now) IsSoundClassName _ _ _ c.loop-name-test.true c.requires.sound

pub loop-name-preserved : goal.loop-name-preserved
loop-name-preserved c = record {
  gathers = gathers_turn _ _ _ _ _ _ _ _ _ _ _ _ object_stays c.loop-name-test.true c.in_ok-push.ensures.ok c.loop-name.invariant.gathers (object_put _ _ _ _ c.in_ok-class.ensures.put);
  made = each_turn_made (λ name. name.now) with_local c.args.names.now c.loop-name.name-index _ c.args.pool.now c.loop-name.pool _ c.loop-name.locals _ _ c.loop-name-test.true c.in_ok-push.ensures.ok c.loop-name.invariant.made (ap (λ (class : Entry ℕ). entered class.pool (types.Object class.thing)) c.in_ok-class.ensures.made);
}

pub returns-clause-put : goal.returns-clause-put
returns-clause-put c = each_all _ 2 _ _ _ _ _ _ c.loop-name-test.false c.loop-name.invariant.gathers

pub returns-clause-made : goal.returns-clause-made
returns-clause-made c = each_all_made (λ name. name.now) with_local c.args.names.now c.loop-name.name-index c.args.pool.now c.loop-name.pool c.loop-name.locals c.loop-name-test.false c.loop-name.invariant.made
