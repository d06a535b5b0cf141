-- At most one field and at most one method stand at the front of some bytes.
use Rattle.std.proofs.Common.{ℕ, List, ap}
use Rattle.std.specs.Prelude.{codes}
use Rattle.cb_text.specs.declared.constant.Constant.{Constant}
use Rattle.cb_classfile.specs.Attributes.{contents_named}
use Rattle.cb_classfile.specs.Code.{SpellsBody}
use Rattle.cb_classfile.specs.Members.{SpellsMember, SpellsValue, SpellsField, SpellsMethod}
use Rattle.cb_classfile.proofs.Members.{field_same, method_same}
use Rattle.cb_classfile.proofs.OneBody.{exact_attributes, one_body}
use Rattle.cb_classfile.proofs.OneItem.{IsExact, one_whole, exact_u2, exact_triple, exact_then, exact_within, one_once}

-- contents of an attribute ConstantValue spell at most one index
pub exact_value : (pool : List Constant) (descriptor : ℕ) → IsExact (SpellsValue pool descriptor)
exact_value pool descriptor = exact_within (λ bytes index spelled. (spelled.fits, spelled.spelled)) exact_u2

-- at most one member stands at the front
pub exact_member : (pool : List Constant) → IsExact (SpellsMember pool)
exact_member pool = exact_then exact_triple (λ head. exact_attributes pool)

-- at most one field stands at the front
pub exact_field : (pool : List Constant) → IsExact (SpellsField pool)
exact_field pool = record {
  same = λ one other first second rest behind spelled spelled_too same.
      let member = (exact_member pool).same _ _ _ _ _ _ spelled.member spelled_too.member same in
      let descriptor = ap (λ p. p.0.2) member.0 in
      let attributes = ap (λ p. p.1) member.0 in
      let constant = one_once (SpellsValue pool other.descriptor) (contents_named pool (codes "ConstantValue") spelled_too.attribute_list) one.constant other.constant (λ bytes first second. one_whole (exact_value pool other.descriptor)) (rw (descriptor, attributes) at spelled.constant) spelled_too.constant in
      (field_same one.flags.0 one.name one.descriptor one.constant other (ap (λ p. p.0.0) member.0) (ap (λ p. p.0.1) member.0) descriptor constant, member.1);
}

-- at most one method stands at the front
pub exact_method : (pool : List Constant) → IsExact (SpellsMethod pool)
exact_method pool = record {
  same = λ one other first second rest behind spelled spelled_too same.
      let member = (exact_member pool).same _ _ _ _ _ _ spelled.member spelled_too.member same in
      let attributes = ap (λ p. p.1) member.0 in
      let body = one_once (SpellsBody pool) (contents_named pool (codes "Code") spelled_too.attribute_list) one.body other.body (one_body pool) (rw attributes at spelled.body) spelled_too.body in
      (method_same one.flags.0 one.name one.descriptor one.body other (ap (λ p. p.0.0) member.0) (ap (λ p. p.0.1) member.0) (ap (λ p. p.0.2) member.0) body, member.1);
}
