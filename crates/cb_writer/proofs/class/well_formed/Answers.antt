use Rattle.std.proofs.Common.{sym, ◌∙◌, arith}
use Rattle.std.proofs.lemmas.Bool.{false≢true}
use Rattle.cb_writer.proofs.Classes.{class_has, tables_of_class}
use Rattle.cb_writer.proofs.class.well_formed.Goals as goal

pub returns-then-keeps_rules : goal.returns-then-keeps_rules
returns-then-keeps_rules c =
    let rules = c.keeps_rules.ensures.0 c.if-keeps_rules.true in (
      λ is. class_has (omega arith) (omega arith) c.new-names.ensures.pool rules.0 rules.1 (c.are_tables.ensures.0 is),
      λ formed. c.are_tables.ensures.1 (tables_of_class formed),
    )

pub returns-else-keeps_rules : goal.returns-else-keeps_rules
returns-else-keeps_rules c = (
  λ is. absurd (false≢true (sym c.if-keeps_rules.false ∙ is)),
  λ formed. c.keeps_rules.ensures.1 (formed.1.behind.pool_named, formed.1.behind.rules),
)
