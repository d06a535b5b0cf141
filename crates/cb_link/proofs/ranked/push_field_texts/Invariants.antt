use Rattle.std.proofs.Common.{◌≡◌, ◌++◌, map, take}
use Rattle.cb_link.specs.Numbers.{texts_in}
use Rattle.cb_link.proofs.ranked.push_field_texts.Given as goal

abbrev pub invariant-loop-field : goal.invariant-loop-field
invariant-loop-field l = l.texts ≡ l.initial.texts ++ map (λ field. texts_in l.pool field.name field.descriptor) (take l.field-index l.fields)
