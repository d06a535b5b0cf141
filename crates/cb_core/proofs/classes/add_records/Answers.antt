use Rattle.std.proofs.Common.{◌++◌, ◌+◌, append-nil, map, sym, subst, take, arith}
use Rattle.std.specs.List.{AllZip}
use Rattle.cb_core.specs.Built.{IsBuilt}
use Rattle.cb_core.specs.Rowed.{class_row}
use Rattle.cb_core.specs.Sound.{IsSound}
use Rattle.cb_core.proofs.Building.{sound_turn}
use Rattle.cb_core.proofs.Parted.{made_all, made_more, record_more, records_all}
use Rattle.cb_core.proofs.classes.add_records.Goals as goal

pub loop-row-init : goal.loop-row-init
loop-row-init c = record { built = λ others built. subst (λ rows. AllZip IsBuilt rows c.args.classes.now) (sym (append-nil others)) built; made = sym (append-nil c.args.classes.now) }

pub record-requires : goal.record-requires
record-requires c = sound_turn class_row IsSound c.args.rows.now c.loop-row.row-index _ c.loop-row-test.true c.requires

pub loop-row-preserved : goal.loop-row-preserved
loop-row-preserved c = record {
  built = λ others built.
      subst (λ classes. AllZip IsBuilt (others ++ map class_row (take (c.loop-row.row-index + 1) c.args.rows.now)) classes) (sym c.in_ok-push.ensures.ok) (record_more others c.args.rows.now c.loop-row.row-index _ c.loop-row.classes c.in_ok-record.field-0 c.loop-row-test.true (c.loop-row.invariant.built others built) c.in_ok-record.ensures.built);
  made = made_more c.args.classes.now c.loop-row.classes _ c.args.rows.now c.loop-row.row-index _ _ c.loop-row-test.true c.in_ok-push.ensures.ok c.loop-row.invariant.made c.in_ok-record.ensures.made;
}

pub returns-clause-built : goal.returns-clause-built
returns-clause-built c = λ others built. records_all others c.args.rows.now c.loop-row.row-index c.loop-row.classes (omega (arith, c.loop-row-test.false)) (c.loop-row.invariant.built others built)

pub returns-clause-made : goal.returns-clause-made
returns-clause-made c = made_all c.args.classes.now c.loop-row.classes c.args.rows.now c.loop-row.row-index c.loop-row-test.false c.loop-row.invariant.made
