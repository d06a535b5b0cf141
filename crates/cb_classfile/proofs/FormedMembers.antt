-- Fields and methods by their parts.
use Rattle.std.proofs.Common.{ℕ, ◌^◌, ◌<◌, List, ◌++◌, Option, Some, None, IfSome, IsSomeAnd, refl, arith}
use Rattle.std.specs.Prelude.{codes}
use Rattle.cb_text.specs.declared.constant.Constant.{Constant}
use Rattle.cb_text.specs.Pool.{constant_at}
use Rattle.cb_classfile.specs.declared.body.Body.{Body}
use Rattle.cb_classfile.specs.declared.field.Field.{Field}
use Rattle.cb_classfile.specs.declared.method.Method.{Method}
use Rattle.cb_classfile.specs.Code.{SpellsBody, body_bytes}
use Rattle.cb_classfile.specs.Members.{IsMethod, IsValueOf, SpellsField, SpellsMethod, SpellsValue}
use Rattle.cb_classfile.specs.Pool.{HasText, NamesField, NamesMethod}
use Rattle.cb_classfile.specs.Tables.{u2}
use Rattle.cb_classfile.proofs.CanonicalMembers.{canonical_body, canonical_value}
use Rattle.cb_classfile.proofs.FormedBodies.{IsBody, body_has, body_long, body_size, of_body}
use Rattle.cb_classfile.proofs.FormedTables.{HasName, HasOnce, HasSpelling, may_stand, of_once, once_none, once_some}

abbrev pub constant_value : List ℕ
constant_value = codes "ConstantValue"

abbrev pub code_name : List ℕ
code_name = codes "Code"

-- the value of a field
pub record IsConstant (pool : List Constant) (descriptor index : ℕ) : Type 0 where
  pub fits : index < 2 ^ 16
  pub value : IsSomeAnd (constant_at pool index) (λ constant. HasText pool descriptor (λ text. IsValueOf text constant))
  pub has_name : HasName pool constant_value

pub record IsField (pool : List Constant) (field : Field) : Type 0 where
  pub flags : field.flags.0 < 2 ^ 16
  pub name : field.name < 2 ^ 16
  pub descriptor : field.descriptor < 2 ^ 16
  pub named : NamesField pool field.name field.descriptor
  pub constant : IfSome field.constant (IsConstant pool field.descriptor)

constant_has : {pool : List Constant} (descriptor : ℕ) (constant : Option ℕ) → IfSome constant (IsConstant pool descriptor) → HasOnce (SpellsValue pool descriptor) pool constant_value constant
constant_has {pool} descriptor None is = once_none (SpellsValue pool descriptor) pool constant_value
constant_has {pool} descriptor (Some index) is =
    once_some (SpellsValue pool descriptor) pool constant_value (u2 index) index (record { spelled = refl; fits = is.fits; value = is.value }) (may_stand (u2 index) is.has_name (omega arith))

of_constant : {pool : List Constant} (descriptor : ℕ) (constant : Option ℕ) → HasOnce (SpellsValue pool descriptor) pool constant_value constant → IfSome constant (IsConstant pool descriptor)
of_constant {pool} descriptor None once = tt
of_constant {pool} descriptor (Some index) once =
    let stands = of_once index (canonical_value pool descriptor) once in
    record { fits = stands.spelled.fits; value = stands.spelled.value; has_name = stands.has_name }

pub field_has : {pool : List Constant} (field : Field) → IsField pool field → HasSpelling (SpellsField pool) field
field_has {pool} field is =
    let once = constant_has field.descriptor field.constant is.constant in
    record {
      bytes = u2 field.flags.0 ++ u2 field.name ++ u2 field.descriptor ++ once.bytes;
      spelled = record {
        attribute_list = once.attributes;
        member = record { first = u2 field.flags.0 ++ u2 field.name ++ u2 field.descriptor; second = once.bytes; spelled = refl; here = (is.flags, is.name, is.descriptor, refl); behind = once.spelled };
        named = is.named;
        constant = once.told;
      };
    }

pub of_field : {pool : List Constant} (field : Field) → HasSpelling (SpellsField pool) field → IsField pool field
of_field {pool} field has =
    let head = has.spelled.member.here in
    record {
      flags = head.0;
      name = head.1;
      descriptor = head.2;
      named = has.spelled.named;
      constant = of_constant field.descriptor field.constant (record { bytes = has.spelled.member.second; attributes = has.spelled.attribute_list; spelled = has.spelled.member.behind; told = has.spelled.constant });
    }

-- the body of a method
pub record IsBodyOf (pool : List Constant) (body : Body) : Type 0 where
  pub is : IsBody pool body
  pub short : body_size body < 2 ^ 32
  pub has_name : HasName pool code_name

pub record IsMethodOf (pool : List Constant) (method : Method) : Type 0 where
  pub flags : method.flags.0 < 2 ^ 16
  pub name : method.name < 2 ^ 16
  pub descriptor : method.descriptor < 2 ^ 16
  pub named : NamesMethod pool method.name method.descriptor
  pub rules : IsMethod pool method
  pub body : IfSome method.body (IsBodyOf pool)

body_once : {pool : List Constant} (body : Option Body) → IfSome body (IsBodyOf pool) → HasOnce (SpellsBody pool) pool code_name body
body_once {pool} None is = once_none (SpellsBody pool) pool code_name
body_once {pool} (Some body) is =
    let has = body_has body is.is is.short in
    once_some (SpellsBody pool) pool code_name (body_bytes pool body) body ((canonical_body pool).spelled has.bytes body has.spelled) (may_stand (body_bytes pool body) is.has_name (omega (arith, is.short, body_long pool body)))

of_body_once : {pool : List Constant} (body : Option Body) → HasOnce (SpellsBody pool) pool code_name body → IfSome body (IsBodyOf pool)
of_body_once {pool} None once = tt
of_body_once {pool} (Some body) once =
    let stands = of_once body (canonical_body pool) once in
    record { is = of_body body (body_bytes pool body) stands.spelled; short = omega (arith, stands.short, body_long pool body); has_name = stands.has_name }

pub method_has : {pool : List Constant} (method : Method) → IsMethodOf pool method → HasSpelling (SpellsMethod pool) method
method_has {pool} method is =
    let once = body_once method.body is.body in
    record {
      bytes = u2 method.flags.0 ++ u2 method.name ++ u2 method.descriptor ++ once.bytes;
      spelled = record {
        attribute_list = once.attributes;
        member = record { first = u2 method.flags.0 ++ u2 method.name ++ u2 method.descriptor; second = once.bytes; spelled = refl; here = (is.flags, is.name, is.descriptor, refl); behind = once.spelled };
        named = is.named;
        body = once.told;
        rules = is.rules;
      };
    }

pub of_method : {pool : List Constant} (method : Method) → HasSpelling (SpellsMethod pool) method → IsMethodOf pool method
of_method {pool} method has =
    let head = has.spelled.member.here in
    record {
      flags = head.0;
      name = head.1;
      descriptor = head.2;
      named = has.spelled.named;
      rules = has.spelled.rules;
      body = of_body_once method.body (record { bytes = has.spelled.member.second; attributes = has.spelled.attribute_list; spelled = has.spelled.member.behind; told = has.spelled.body });
    }
