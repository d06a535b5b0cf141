use Rattle.std.proofs.Common.{arith}
use Rattle.cb_writer.proofs.Classes.{class_has, tables_of_class}
use Rattle.cb_writer.proofs.class.well_formed_by_numbers.Goals as goal

pub returns-then-branch : goal.returns-then-branch
returns-then-branch c =
    let rules = c.in_ok-keeps_rules_by_numbers.ensures.0 c.if-branch.true in (
      λ is. class_has (omega arith) (omega arith) c.new-names.ensures.pool rules.0 rules.1 (c.are_tables.ensures.0 is),
      λ formed. c.are_tables.ensures.1 (tables_of_class formed),
    )
