use Rattle.std.proofs.Common.{◌≡◌, flat_map, sym, ap, subst, ◌∙◌, map-id}
use Rattle.std.specs.Char.Escape.{encode_utf16}
use Rattle.std.proofs.lemmas.Iterator.{YieldsList-from_chars}
use Rattle.std.proofs.lemmas.Iterator.Consumers.{YieldsList-end}
use Rattle.cb_safety.specs.Strings.{IsText}
use Rattle.cb_runner.specs.Words.{text_units}
use Rattle.cb_runner.proofs.Texts.{text_fits}
use Rattle.cb_runner.proofs.arguments.text_of.Goals as goal

text_is : (c : goal.In-None) → c.loop-character.text ≡ text_units c.args.word.now
text_is c =
    let end = YieldsList-end (YieldsList-from_chars c.args.word.now c.utf8.word cc) c.loop-character.yielded _ c.loop-character.yielded_by _ _ c.in-None.is c.next.ensures.steps in
    c.loop-character.invariant ∙ ap (flat_map encode_utf16) (sym (map-id c.loop-character.yielded) ∙ end.0)

pub returns-clause-is : goal.returns-clause-is
returns-clause-is c = text_is c

pub returns-clause-text : goal.returns-clause-text
returns-clause-text c = subst IsText (sym (text_is c)) (text_fits c.args.word.now c.utf8.word c.requires)
