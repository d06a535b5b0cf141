use Rattle.std.proofs.Common.{sym, ◌∙◌, arith}
use Rattle.std.proofs.lemmas.Bool.{false≢true}
use Rattle.cb_writer.proofs.Classes.{of_tables, tables_have}
use Rattle.cb_writer.proofs.class.are_tables.Goals as goal
use Rattle.cb_writer.proofs.class.are_tables.Goals.{then-is_table, else-is_table}

pub returns-then-is_table-2 : goal.returns-then-is_table-2
returns-then-is_table-2 c =
    elim c.if-is_table.branch [
      | then-is_table w ↦
          let interfaces = rw (c.as_slice.ensures, ← c.requires) at (c.is_table.ensures.0 w.if-is_table.true) in
          let fields = rw (w.as_slice-then-is_table.ensures, ← c.requires) at (w.is_table-then-is_table.ensures.0 (sym w.value-is ∙ c.if-is_table-2.true)) in
          let methods = rw (c.as_slice-then-is_table-2.ensures, ← c.requires) at c.is_table-then-is_table-2.ensures in (
            λ is. tables_have (omega arith) (omega arith) (omega arith) (record { interfaces = interfaces; fields = fields; methods = methods.0 is }),
            λ has. methods.1 (of_tables has).methods,
          )
      | else-is_table w ↦ absurd (false≢true (sym w.if-is_table.false ∙ sym w.value-is ∙ c.if-is_table-2.true))
    ]
