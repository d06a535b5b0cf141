-- Fields and methods, by what was read of them.
use Rattle.std.proofs.Common.{ℕ, List, Option}
use Rattle.std.specs.Prelude.{codes}
use Rattle.cb_text.specs.declared.constant.Constant.{Constant}
use Rattle.cb_classfile.specs.declared.body.Body.{Body}
use Rattle.cb_classfile.specs.declared.field.Field.{Field}
use Rattle.cb_classfile.specs.declared.member.Member.{Member}
use Rattle.cb_classfile.specs.declared.method.Method.{Method}
use Rattle.cb_classfile.specs.Attributes.{Attribute, IsTold, SpellsOnce}
use Rattle.cb_classfile.specs.Code.{SpellsBody}
use Rattle.cb_classfile.specs.Members.{IsMethod, SpellsField, SpellsMember, SpellsMethod, SpellsValue, TellsMember}
use Rattle.cb_classfile.specs.Pool.{NamesField, NamesMethod}
use Rattle.cb_classfile.specs.Reading.{IsFront, IsWhole}
use Rattle.cb_classfile.specs.Tables.{BeginsWith}
use Rattle.cb_classfile.proofs.Members.{IsRead, is_this, behind_this}
use Rattle.cb_classfile.proofs.OneItem.{front}
use Rattle.cb_classfile.proofs.OneMember.{exact_field, exact_method}

-- what the reader of members gives
pub read_of : {pool : List Constant} {attribute bytes rest : List ℕ} {told : Member} → (member : (ℕ × ℕ × ℕ) × List Attribute) × IsFront (SpellsMember pool) bytes member rest × TellsMember pool attribute told member → IsRead pool attribute bytes told rest
read_of (member, here, tells) = record { member = member; here = here; tells = tells }

pub field_member : {pool : List Constant} {bytes rest : List ℕ} {field : Field} → (begins : BeginsWith (SpellsField pool) bytes field rest) → BeginsWith (SpellsMember pool) bytes ((field.flags.0, field.name, field.descriptor), begins.1.attribute_list) rest
field_member (first, spelled, split) = (first, spelled.member, split)

pub field_named : {pool : List Constant} {attribute bytes middle rest : List ℕ} {told : Member} {field : Field} → IsRead pool attribute bytes told middle → BeginsWith (SpellsField pool) bytes field rest → NamesField pool told.name told.descriptor
field_named {pool} {attribute} {bytes} {middle} {rest} {told} {field} read begins =
    let this = is_this _ _ _ _ _ _ _ _ _ _ read (field_member begins) in
    rw (this.name_same, this.descriptor_same) begins.1.named

pub field_constant : {P : Type 0} {pool : List Constant} {bytes middle : List ℕ} {told : Member} → IsRead pool (codes "ConstantValue") bytes told middle
    → ((contents : List (List ℕ)) → IsTold told.occurrence contents → (constant : Option ℕ) → SpellsOnce (SpellsValue pool told.descriptor) contents constant → P)
    → (field : Field) (rest : List ℕ) → BeginsWith (SpellsField pool) bytes field rest → P
field_constant {P} {pool} {bytes} {middle} {told} read next field rest begins =
    let this = is_this _ _ _ _ _ _ _ _ _ _ read (field_member begins) in
    next _ this.occurs field.constant (rw this.descriptor_same begins.1.constant)

pub field_found : {pool : List Constant} {bytes rest : List ℕ} {told : Member} {constant : Option ℕ} → IsRead pool (codes "ConstantValue") bytes told rest → NamesField pool told.name told.descriptor
    → ((contents : List (List ℕ)) → IsTold told.occurrence contents → IsWhole (SpellsOnce (SpellsValue pool told.descriptor)) contents constant)
    → IsFront (SpellsField pool) bytes (record { flags = record { 0 = told.flags }; name = told.name; descriptor = told.descriptor; constant = constant }) rest
field_found {pool} {bytes} {rest} {told} {constant} read named once =
    let (first, spelled, split) = behind_this _ _ _ _ _ read in
    front (exact_field pool) (
      first,
      record {
        attribute_list = read.member.1;
        member = spelled;
        named = named;
        constant = (once _ read.tells.occurrence).found;
      },
      split,
    )

pub method_member : {pool : List Constant} {bytes rest : List ℕ} {method : Method} → (begins : BeginsWith (SpellsMethod pool) bytes method rest) → BeginsWith (SpellsMember pool) bytes ((method.flags.0, method.name, method.descriptor), begins.1.attribute_list) rest
method_member (first, spelled, split) = (first, spelled.member, split)

pub method_named : {pool : List Constant} {attribute bytes middle rest : List ℕ} {told : Member} {method : Method} → IsRead pool attribute bytes told middle → BeginsWith (SpellsMethod pool) bytes method rest → NamesMethod pool told.name told.descriptor
method_named {pool} {attribute} {bytes} {middle} {rest} {told} {method} read begins =
    let this = is_this _ _ _ _ _ _ _ _ _ _ read (method_member begins) in
    rw (this.name_same, this.descriptor_same) begins.1.named

pub method_body : {P : Type 0} {pool : List Constant} {bytes middle : List ℕ} {told : Member} → IsRead pool (codes "Code") bytes told middle
    → ((contents : List (List ℕ)) → IsTold told.occurrence contents → (body : Option Body) → SpellsOnce (SpellsBody pool) contents body → P)
    → (method : Method) (rest : List ℕ) → BeginsWith (SpellsMethod pool) bytes method rest → P
method_body {P} {pool} {bytes} {middle} {told} read next method rest begins =
    let this = is_this _ _ _ _ _ _ _ _ _ _ read (method_member begins) in
    next _ this.occurs method.body begins.1.body

-- the method that was read, before its rules are looked at
abbrev pub method_of : Member → Option Body → Method
method_of told body = record { flags = record { 0 = told.flags }; name = told.name; descriptor = told.descriptor; body = body }

pub method_rules : {pool : List Constant} {bytes middle rest : List ℕ} {told : Member} {method : Method} {body : Option Body} → IsRead pool (codes "Code") bytes told middle
    → ((contents : List (List ℕ)) → IsTold told.occurrence contents → IsWhole (SpellsOnce (SpellsBody pool)) contents body)
    → BeginsWith (SpellsMethod pool) bytes method rest → IsMethod pool (method_of told body)
method_rules {pool} {bytes} {middle} {rest} {told} {method} {body} read once begins =
    let this = is_this _ _ _ _ _ _ _ _ _ _ read (method_member begins) in
    let same = (once _ this.occurs).only method.body begins.1.body in
    rw (this.flags_same, this.name_same, this.descriptor_same, same) begins.1.rules

pub method_found : {pool : List Constant} {bytes rest : List ℕ} {told : Member} {body : Option Body} → IsRead pool (codes "Code") bytes told rest → NamesMethod pool told.name told.descriptor
    → ((contents : List (List ℕ)) → IsTold told.occurrence contents → IsWhole (SpellsOnce (SpellsBody pool)) contents body)
    → IsMethod pool (method_of told body) → IsFront (SpellsMethod pool) bytes (method_of told body) rest
method_found {pool} {bytes} {rest} {told} {body} read named once rules =
    let (first, spelled, split) = behind_this _ _ _ _ _ read in
    front (exact_method pool) (
      first,
      record {
        attribute_list = read.member.1;
        member = spelled;
        named = named;
        body = (once _ read.tells.occurrence).found;
        rules = rules;
      },
      split,
    )
