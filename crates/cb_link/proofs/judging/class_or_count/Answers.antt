use Rattle.std.proofs.Common.{◌∙◌, ap, length, map}
use Rattle.cb_link.specs.Numbers.{name_of}
use Rattle.cb_link.proofs.Ranks.{no_text}
use Rattle.cb_link.proofs.judging.class_or_count.Goals as goal

pub returns-in-None : goal.returns-in-None
returns-in-None c =
    c.len.ensures.length ∙ ap (λ texts. length texts.classes) c.deref.ensures ∙ ap length (c.resolver.invariant.of_classes ∙ ap (map name_of) c.resolver.view_is)
    ∙ no_text (map name_of c.args.resolver.now) c.args.name.now c.in-None.ensures
