use Rattle.std.proofs.Common.{◌∙◌, sym}
use Rattle.cb_link.proofs.Counted.{field_texts_by_class, method_texts_by_class}
use Rattle.cb_link.proofs.resolver.named_texts.Goals as goal

pub returns : goal.returns
returns c = (
  c.in_ok-class_names.ensures,
  c.in_ok-field_texts.ensures ∙ sym (field_texts_by_class c.args.classes.now),
  c.in_ok-method_texts.ensures ∙ sym (method_texts_by_class c.args.classes.now),
)
