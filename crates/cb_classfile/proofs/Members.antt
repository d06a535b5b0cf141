-- Fields and methods.
use Rattle.std.proofs.Common.{◌≡◌, ℕ, List, Option, refl, sym, ap, subst, ◌∙◌}
use Rattle.cb_text.specs.declared.constant.Constant.{Constant}
use Rattle.cb_classfile.specs.declared.body.Body.{Body}
use Rattle.cb_classfile.specs.declared.field.Field.{Field}
use Rattle.cb_classfile.specs.declared.member.Member.{Member}
use Rattle.cb_classfile.specs.declared.method.Method.{Method}
use Rattle.cb_classfile.specs.Attributes.{Attribute, IsTold, contents_named}
use Rattle.cb_classfile.specs.Members.{SpellsMember, TellsMember}
use Rattle.cb_classfile.specs.Reading.{IsFront}
use Rattle.cb_classfile.specs.Tables.{BeginsWith}

-- a field is its parts
pub field_same : (flags name descriptor : ℕ) (constant : Option ℕ) (other : Field) → flags ≡ other.flags.0 → name ≡ other.name → descriptor ≡ other.descriptor → constant ≡ other.constant
    → record { flags = record { 0 = flags }; name = name; descriptor = descriptor; constant = constant } ≡ other
field_same flags name descriptor constant other same_flags same_name same_descriptor same_constant =
    rw (same_flags, same_name, same_descriptor, same_constant) refl

-- a method is its parts
pub method_same : (flags name descriptor : ℕ) (body : Option Body) (other : Method) → flags ≡ other.flags.0 → name ≡ other.name → descriptor ≡ other.descriptor → body ≡ other.body
    → record { flags = record { 0 = flags }; name = name; descriptor = descriptor; body = body } ≡ other
method_same flags name descriptor body other same_flags same_name same_descriptor same_body =
    rw (same_flags, same_name, same_descriptor, same_body) refl

-- a member was read, and this is told of it
pub record IsRead (pool : List Constant) (attribute bytes : List ℕ) (told : Member) (rest : List ℕ) : Type 0 where
  pub member : (ℕ × ℕ × ℕ) × List Attribute
  pub here : IsFront (SpellsMember pool) bytes member rest
  pub tells : TellsMember pool attribute told member

-- so a member that stands there is this one
pub record IsThis (pool : List Constant) (attribute : List ℕ) (told : Member) (flags name descriptor : ℕ) (attributes : List Attribute) : Type 0 where
  pub flags_same : told.flags ≡ flags
  pub name_same : told.name ≡ name
  pub descriptor_same : told.descriptor ≡ descriptor
  pub occurs : IsTold told.occurrence (contents_named pool attribute attributes)

pub is_this : (pool : List Constant) (attribute bytes : List ℕ) (told : Member) (middle rest : List ℕ) (flags name descriptor : ℕ) (attributes : List Attribute) → IsRead pool attribute bytes told middle → BeginsWith (SpellsMember pool) bytes ((flags, name, descriptor), attributes) rest → IsThis pool attribute told flags name descriptor attributes
is_this pool attribute bytes told middle rest flags name descriptor attributes read begins =
    let same = (read.here.only ((flags, name, descriptor), attributes) rest begins).0 in
    let head = sym read.tells.head in
    record {
      flags_same = ap (λ p. p.0) head ∙ ap (λ p. p.0.0) same;
      name_same = ap (λ p. p.1) head ∙ ap (λ p. p.0.1) same;
      descriptor_same = ap (λ p. p.2) head ∙ ap (λ p. p.0.2) same;
      occurs = subst (λ attributes. IsTold told.occurrence (contents_named pool attribute attributes)) (ap (λ p. p.1) same) read.tells.occurrence;
    }

-- and nothing else stands behind it
pub behind_this : (pool : List Constant) (attribute bytes : List ℕ) (told : Member) (middle : List ℕ) → (read : IsRead pool attribute bytes told middle) → BeginsWith (SpellsMember pool) bytes ((told.flags, told.name, told.descriptor), read.member.1) middle
behind_this pool attribute bytes told middle read =
    let (first, spelled, split) = read.here.found in
    (first, subst (λ head. SpellsMember pool first (head, read.member.1)) read.tells.head spelled, split)
