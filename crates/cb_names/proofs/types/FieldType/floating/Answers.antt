use Rattle.std.proofs.Common.{sym, ◌∙◌}
use Rattle.cb_names.specs.Types.{element_of, element_text}
use Rattle.cb_names.proofs.FloatingParts.{of_array}
use Rattle.cb_names.proofs.types.FieldType.floating.Goals as goal

pub returns : goal.returns
returns c = c.floating.ensures ∙ sym (of_array c.args.self.dimensions (element_text (element_of c.args.self.element)))
