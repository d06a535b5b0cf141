use Rattle.std.proofs.Common.{rules, refl}
use Rattle.cb_classfile.proofs.Failing.{handed}
use Rattle.cb_classfile.proofs.Finding.{attribute_parts, attribute_found, attribute_unnamed}
use Rattle.cb_classfile.proofs.Sequence.{by_first, by_second}
use Rattle.cb_classfile.proofs.attribute.attribute_at.Goals as goal

pub returns-in_err-index : goal.returns-in_err-index
returns-in_err-index c = handed _ _ _ _ c.from_residual.ensures (λ attribute rest begins. by_first c.in_err-index.ensures attribute rest (attribute_parts begins))

pub returns-in_err-contents : goal.returns-in_err-contents
returns-in_err-contents c = handed _ _ _ _ c.from_residual-in_err-contents.ensures (λ attribute rest begins. by_second c.in_ok-index.ensures c.in_err-contents.ensures attribute rest (attribute_parts begins))

pub returns-then-is_none : goal.returns-then-is_none
returns-then-is_none c = attribute_unnamed c.in_ok-index.ensures (search rules)

pub returns : goal.returns
returns c =
    let (block, behind, told) = c.in_ok-contents.ensures in
    ((c.in_ok-index.index, c.in_ok-contents.contents.now), attribute_found c.in_ok-index.ensures behind told (search rules), refl)
