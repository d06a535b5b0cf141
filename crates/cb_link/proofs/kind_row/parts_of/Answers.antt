use Rattle.std.proofs.Common.{◌∙◌, sym}
use Rattle.cb_link.proofs.FormedLaws.{class_name_within}
use Rattle.cb_link.proofs.kind_row.parts_of.Goals as goal

pub returns-else-is_array-clause-class : goal.returns-else-is_array-clause-class
returns-else-is_array-clause-class c = c.class_name.ensures ∙ class_name_within c.args.name.now (sym c.is_array.ensures ∙ c.if-is_array.false)
