-- Fields and methods have a spelling where their parts do.
use Rattle.std.proofs.Common.{◌≡◌, ◌^◌, ◌<◌, List, ◌++◌, length, Some, refl, subst}
use Rattle.std.specs.Prelude.{codes}
use Rattle.cb_text.specs.declared.constant.Constant.{Constant}
use Rattle.cb_classfile.specs.declared.body.Body.{Body}
use Rattle.cb_classfile.specs.declared.field.Field.{Field}
use Rattle.cb_classfile.specs.declared.method.Method.{Method}
use Rattle.cb_classfile.specs.Code.{SpellsBody, body_bytes}
use Rattle.cb_classfile.specs.Members.{IsMethod, SpellsField, SpellsMethod, SpellsValue}
use Rattle.cb_classfile.specs.Pool.{NamesField, NamesMethod}
use Rattle.cb_classfile.specs.Tables.{u2}
use Rattle.cb_classfile.proofs.Laws.{canonical_body}
use Rattle.cb_writer.specs.Formed.{HasSpelling}
use Rattle.cb_writer.specs.Names.{HasOnce}
use Rattle.cb_writer.proofs.Once.{of_one}

-- a field
pub field_has : {pool : List Constant} {field : Field} → field.flags.0 < 2 ^ 16 → field.name < 2 ^ 16 → field.descriptor < 2 ^ 16 → NamesField pool field.name field.descriptor → HasOnce (SpellsValue pool field.descriptor) pool (codes "ConstantValue") field.constant → HasSpelling (SpellsField pool) field
field_has {pool} {field} flags name descriptor named once = record {
  bytes = u2 field.flags.0 ++ u2 field.name ++ u2 field.descriptor ++ once.bytes;
  spelled = record {
    attribute_list = once.attributes;
    member = record { first = u2 field.flags.0 ++ u2 field.name ++ u2 field.descriptor; second = once.bytes; spelled = refl; here = (flags, name, descriptor, refl); behind = once.spelled };
    named = named;
    constant = once.told;
  };
}

pub constant_of_field : {pool : List Constant} {field : Field} → HasSpelling (SpellsField pool) field → HasOnce (SpellsValue pool field.descriptor) pool (codes "ConstantValue") field.constant
constant_of_field has = record { bytes = has.spelled.member.second; attributes = has.spelled.attribute_list; spelled = has.spelled.member.behind; told = has.spelled.constant }

-- a method
pub method_has : {pool : List Constant} {method : Method} → method.flags.0 < 2 ^ 16 → method.name < 2 ^ 16 → method.descriptor < 2 ^ 16 → NamesMethod pool method.name method.descriptor → IsMethod pool method → HasOnce (SpellsBody pool) pool (codes "Code") method.body → HasSpelling (SpellsMethod pool) method
method_has {pool} {method} flags name descriptor named rules once = record {
  bytes = u2 method.flags.0 ++ u2 method.name ++ u2 method.descriptor ++ once.bytes;
  spelled = record {
    attribute_list = once.attributes;
    member = record { first = u2 method.flags.0 ++ u2 method.name ++ u2 method.descriptor; second = once.bytes; spelled = refl; here = (flags, name, descriptor, refl); behind = once.spelled };
    named = named;
    body = once.told;
    rules = rules;
  };
}

pub body_of_method : {pool : List Constant} {method : Method} → HasSpelling (SpellsMethod pool) method → HasOnce (SpellsBody pool) pool (codes "Code") method.body
body_of_method has = record { bytes = has.spelled.member.second; attributes = has.spelled.attribute_list; spelled = has.spelled.member.behind; told = has.spelled.body }

-- the body of one that has it
pub body_short : {pool : List Constant} {method : Method} {body : Body} → method.body ≡ Some body → HasSpelling (SpellsMethod pool) method → HasSpelling (SpellsBody pool) body × (length (body_bytes pool body) < 2 ^ 32)
body_short {pool} {method} {body} is has =
    let once = subst (λ body. HasOnce (SpellsBody pool) pool (codes "Code") body) is (body_of_method has) in
    let one = of_one (canonical_body pool) once in
    (one.0, one.1.short)
