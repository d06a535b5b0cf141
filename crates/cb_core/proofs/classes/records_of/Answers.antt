use Rattle.std.proofs.Common.{sym, subst, take, arith}
use Rattle.std.specs.List.{AllZip}
use Rattle.cb_core.specs.Built.{IsBuilt}
use Rattle.cb_core.specs.Rowed.{part_rows}
use Rattle.cb_core.proofs.Parted.{part_made, part_sound, parts_all, parts_made, parts_more}
use Rattle.cb_core.proofs.classes.records_of.Goals as goal

pub loop-part-init : goal.loop-part-init
loop-part-init c = record { built = subst (λ classes. AllZip IsBuilt (part_rows (take 0 c.args.parts.now)) classes) (sym c.new-classes.ensures) tt; made = c.new-classes.ensures }

pub add_records-requires : goal.add_records-requires
add_records-requires c = part_sound c.args.parts.now c.loop-part.part-index _ c.loop-part-test.true c.requires

pub loop-part-preserved : goal.loop-part-preserved
loop-part-preserved c = record {
  built = subst (λ rows. AllZip IsBuilt rows c.add_records.new.classes) (sym (parts_more c.args.parts.now c.loop-part.part-index _ c.loop-part-test.true)) (c.in_ok-add_records.ensures.built (part_rows (take c.loop-part.part-index c.args.parts.now)) c.loop-part.invariant.built);
  made = part_made c.loop-part.classes c.add_records.new.classes c.args.parts.now c.loop-part.part-index _ c.loop-part-test.true c.loop-part.invariant.made c.in_ok-add_records.ensures.made;
}

pub returns-clause-built : goal.returns-clause-built
returns-clause-built c = parts_all c.args.parts.now c.loop-part.part-index c.loop-part.classes (omega (arith, c.loop-part-test.false)) c.loop-part.invariant.built

pub returns-clause-made : goal.returns-clause-made
returns-clause-made c = parts_made c.loop-part.classes c.args.parts.now c.loop-part.part-index c.loop-part-test.false c.loop-part.invariant.made
