use Rattle.std.proofs.Common.{◌∙◌, ap, length, ◌==◌}
use Rattle.std.proofs.lemmas.Bool.{false≢true}
use Rattle.cb_names.proofs.TypeTexts.{front_only}
use Rattle.cb_names.proofs.descriptor.field_type.Goals as goal

pub returns-then-is_empty-clause-exact : goal.returns-then-is_empty-clause-exact
returns-then-is_empty-clause-exact c = λ type spells. (front_only _ _ type _ c.in_ok-found.ensures spells).0

pub returns-else-is_empty-clause-found : goal.returns-else-is_empty-clause-found
returns-else-is_empty-clause-found c = λ (type, spells).
    false≢true (c.if-is_empty.ensures ∙ ap (λ rest. length rest == 0) (front_only _ _ type _ c.in_ok-found.ensures spells).1)

pub returns-else-is_empty-clause-exact : goal.returns-else-is_empty-clause-exact
returns-else-is_empty-clause-exact c = λ type spells.
    false≢true (c.if-is_empty.ensures ∙ ap (λ rest. length rest == 0) (front_only _ _ type _ c.in_ok-found.ensures spells).1)
