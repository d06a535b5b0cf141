-- An instruction on a field of objects, in a program of which no instruction lacks a member, finds one that isn't static.
use Rattle.std.proofs.Common.{◌≡◌, ◌∙◌, ◌⊎◌, inl, inr, ap, ap₂, arith, refl, sym, subst, ℕ, zero, suc, ◌+◌, Bool, true, false, not, ◌||◌, ◌&&◌, List, [], ◌∷◌, ◌++◌, map, Option, Some, None, option_and_then, option_map, slice_get, if◌then◌else◌}
use Rattle.std.specs.Prelude.{IsSomeAnd}
use Rattle.std.specs.List.{AllByRecursion, enumerate_from, flat_map}
use Rattle.std.proofs.lemmas.Bool.{false≢true}
use Rattle.std.proofs.lemmas.Option.{same_Some, slice_get-map}
use Rattle.cb_text.specs.declared.constant.Constant.{Constant}
use Rattle.cb_text.specs.declared.constant.Constant.TheVariants as constants
use Rattle.cb_text.specs.declared.naming.MemberKind.TheVariants as members
use Rattle.cb_text.specs.Naming.{MemberNames, member_at, member_from, member_of, name_and_type_at, name_and_type_of, text_at, texts_at}
use Rattle.cb_text.specs.Pool.{HasIndices, IsClass, IsMember, Names, constant_at}
use Rattle.cb_insn.specs.declared.insn.Insn.{Insn}
use Rattle.cb_insn.specs.declared.insn.Operand.{Operand}
use Rattle.cb_insn.specs.declared.opcode.TheConstants as opcodes
use Rattle.cb_classfile.specs.declared.body.Body.{Body}
use Rattle.cb_classfile.specs.declared.class.ClassFile.{ClassFile}
use Rattle.cb_classfile.specs.declared.method.Method.{Method}
use Rattle.cb_classfile.specs.Needed.{StandsAt, index_in, is_of_kind}
use Rattle.cb_classfile.specs.declared.needed.ConstantKind.TheVariants as needs
use Rattle.cb_hierarchy.specs.Resolution.{first_some}
use Rattle.cb_hierarchy.specs.declared.member.Field.{Field as RankedField}
use Rattle.cb_link.specs.Lacking.{first_lacking, is_of_library, lacks, lacks_in, lacks_member, suits, suits_field}
use Rattle.cb_link.specs.Numbers.{ranked_fields}
use Rattle.cb_link.specs.Program.{Linked}
use Rattle.cb_link.specs.Resolving.{found_field}
use Rattle.cb_verify.specs.Within.{Within}
use Rattle.cb_safety.proofs.Assigned.{never}
use Rattle.cb_safety.proofs.Located.{IsClassConstant, IsTurn, Located, all_part, class_constant, has_indices, text_there, turn_of}
use Rattle.cb_safety.proofs.Lists.{all_at}

-- ---- no instruction lacks a member

none_first : {Item : Type 0} (items : List (Option Item)) → first_some items ≡ None → AllByRecursion (λ item. item ≡ None) items
none_first [] is = tt
none_first (None ∷ items) is = (refl, none_first items is)
none_first (Some item ∷ items) is = never (sym is)

pub entry_at : {Item : Type 0} (from : ℕ) (items : List Item) (place : ℕ) (item : Item) → slice_get items place ≡ Some item → slice_get (enumerate_from from items) place ≡ Some (from + place, item)
entry_at from [] place item is = never is
entry_at from (first ∷ items) zero item is =
    ap₂ (λ (place : ℕ) (item : _). Some (place, item)) (let same : from ≡ from + 0 = omega arith in same) (same_Some first item is)
entry_at from (first ∷ items) (suc place) item is =
    entry_at (from + 1) items place item is ∙ ap (λ (place : ℕ). Some (place, item)) (let same : from + 1 + place ≡ from + suc place = omega arith in same)

none_mapped : {Item Other : Type 0} (change : Item → Other) (found : Option Item) → option_map change found ≡ None → found ≡ None
none_mapped change None is = refl
none_mapped change (Some item) is = never (sym is)

abbrev NoneIs : Option (ℕ × List ℕ) → Type 0
NoneIs item = item ≡ None

module _ (program : Linked) (none : first_lacking program.classes ≡ None) where
  pub lacks_none : (number pc : ℕ) (method : Within) (insn : Insn) (at : Located program number pc method insn) → lacks program.classes at.own.class at.at.declaring.pool insn ≡ None
  lacks_none number pc method insn at =
      let pool : List Constant = at.at.declaring.pool in
      let class : ℕ = at.own.class in
      let of_class = all_part NoneIs (λ (entry : ℕ × ClassFile). flat_map (λ (method : Method). lacks_in program.classes entry.0 entry.1.pool method.body) entry.1.methods)
      (enumerate_from 0 program.classes) class (0 + class, at.at.declaring)
      (none_first (flat_map (λ (entry : ℕ × ClassFile). flat_map (λ (method : Method). lacks_in program.classes entry.0 entry.1.pool method.body) entry.1.methods) (enumerate_from 0 program.classes)) none)
      (entry_at 0 program.classes class at.at.declaring at.at.declares) in
      let of_method = all_part NoneIs (λ (method : Method). lacks_in program.classes (0 + class) pool method.body) at.at.declaring.methods at.own.place at.own.member of_class at.at.lists in
      let of_body : AllByRecursion NoneIs (lacks_in program.classes (0 + class) pool (Some at.body)) =
      subst (λ (body : Option Body). AllByRecursion NoneIs (lacks_in program.classes (0 + class) pool body)) at.has of_method in
      let turn : IsTurn at.body.code insn = turn_of at.body.code pc insn at.code in
      let change : ℕ × Insn → Option (ℕ × List ℕ) = λ placed. option_map (λ (member : List ℕ). (0 + class, member)) (lacks program.classes (0 + class) pool placed.1) in
      let own : change turn.entry ≡ None =
      all_at NoneIs (map change at.body.code) turn.turn (change turn.entry) of_body (slice_get-map change at.body.code turn.turn ∙ ap (option_map change) turn.there) in
      subst (λ (insn : Insn). lacks program.classes class pool insn ≡ None) turn.is
      (subst (λ (class : ℕ). lacks program.classes class pool turn.entry.1 ≡ None) (let same : 0 + class ≡ class = omega arith in same)
      (none_mapped (λ (member : List ℕ). (0 + class, member)) (lacks program.classes (0 + class) pool turn.entry.1) own))

-- ---- the member that a constant names

pub record IsFieldConstant (pool : List Constant) (index : ℕ) : Type 0 where
  pub holder : ℕ
  pub named : ℕ
  pub constant : constant_at pool index ≡ Some (constants.Fieldref holder named)
  pub class : IsClassConstant pool holder
  pub name : List ℕ
  pub descriptor : List ℕ
  pub names : name_and_type_at pool named ≡ Some (name, descriptor)

pub class_kind : (pool : List Constant) (index : ℕ) → AllByRecursion (HasIndices pool) pool → Names pool index IsClass → IsClassConstant pool index
class_kind pool index all named = go (constant_at pool index) refl named where
  go : (found : Option Constant) → constant_at pool index ≡ found → IsSomeAnd found IsClass → IsClassConstant pool index
  go None there is = absurd is
  go (Some (constants.Class at)) there is = class_constant pool index at all there
  go (Some other) there is = absurd is

pub member_kind : (pool : List Constant) (index : ℕ) → AllByRecursion (HasIndices pool) pool → Names pool index IsMember
    → (name : List ℕ) × ((descriptor : List ℕ) × (name_and_type_at pool index ≡ Some (name, descriptor)))
member_kind pool index all named = go (constant_at pool index) refl named where
  go : (found : Option Constant) → constant_at pool index ≡ found → IsSomeAnd found IsMember → (name : List ℕ) × ((descriptor : List ℕ) × (name_and_type_at pool index ≡ Some (name, descriptor)))
  go None there is = absurd is
  go (Some (constants.NameAndType one other)) there is =
      let indices = has_indices pool index (constants.NameAndType one other) all there in
      let (name, name_is) = text_there pool one indices.0 in
      let (descriptor, descriptor_is) = text_there pool other indices.1 in (
        name,
        (
          descriptor,
          ap (λ (found : Option Constant). option_and_then (texts_at pool) (option_and_then name_and_type_of found)) there
              ∙ ap (option_and_then (λ (one : List ℕ). option_map (λ (two : List ℕ). (one, two)) (text_at pool other))) name_is
              ∙ ap (option_map (λ (two : List ℕ). (name, two))) descriptor_is,
        ),
      )
  go (Some other) there is = absurd is

pub field_needed : (pool : List Constant) (index : ℕ) → AllByRecursion (HasIndices pool) pool → StandsAt pool index needs.Field → IsFieldConstant pool index
field_needed pool index all stands = go (constant_at pool index) refl stands where
  go : (found : Option Constant) → constant_at pool index ≡ found → IsSomeAnd found (λ constant. is_of_kind needs.Field constant ≡ true) → IsFieldConstant pool index
  go None there is = absurd is
  go (Some (constants.Fieldref holder named)) there is =
      let indices = has_indices pool index (constants.Fieldref holder named) all there in
      let (name, rest) = member_kind pool named all indices.1 in
      record { holder = holder; named = named; constant = there; class = class_kind pool holder all indices.0; name = name; descriptor = rest.0; names = rest.1 }
  go (Some other) there is = absurd (false≢true is)

abbrev pub field_names : List ℕ → List ℕ → List ℕ → MemberNames
field_names class name descriptor = record { kind = members.Field; class = class; name = name; descriptor = descriptor }

pub member_names : (pool : List Constant) (index : ℕ) (field : IsFieldConstant pool index) → member_at pool index ≡ Some (field_names field.class.name field.name field.descriptor)
member_names pool index field =
    ap (λ (found : Option Constant). option_and_then (member_from pool) (option_and_then member_of found)) field.constant
    ∙ ap (option_and_then (λ (class : List ℕ). option_map (λ (names : List ℕ × List ℕ). field_names class names.0 names.1) (name_and_type_at pool field.named))) field.class.text
    ∙ ap (option_map (λ (names : List ℕ × List ℕ). field_names field.class.name names.0 names.1)) field.names

-- ---- the field that is found

pub record IsFound (classes : List ClassFile) (member : MemberNames) : Type 0 where
  pub number : ℕ
  pub found : found_field classes member ≡ Some number
  pub field : RankedField
  pub there : slice_get (ranked_fields classes) number ≡ Some field
  pub instance : field.is_static ≡ false

suits_instance : (classes : List ClassFile) (member : MemberNames) (class opcode : ℕ) (found : Option ℕ) → found_field classes member ≡ found
    → (opcode ≡ opcodes.GETFIELD) ⊎ (opcode ≡ opcodes.PUTFIELD)
    → suits_field class opcode (option_and_then (slice_get (ranked_fields classes)) found) ≡ true → IsFound classes member
suits_instance classes member class opcode None found one is = absurd (false≢true is)
suits_instance classes member class opcode (Some number) found one is = go (slice_get (ranked_fields classes) number) refl is where
  not_static : (static other : Bool) → (not static && other) ≡ true → static ≡ false
  not_static true other is = absurd (false≢true is)
  not_static false other is = refl

  by_opcode : (opcode : ℕ) → (opcode ≡ opcodes.GETFIELD) ⊎ (opcode ≡ opcodes.PUTFIELD) → (field : RankedField) → suits_field class opcode (Some field) ≡ true → field.is_static ≡ false
  by_opcode opcode (inl get) field is =
      not_static field.is_static (is_of_library class || not (is_of_library field.declared.class)) (subst (λ (opcode : ℕ). suits_field class opcode (Some field) ≡ true) get is)
  by_opcode opcode (inr put) field is =
      not_static field.is_static (is_of_library class || not (is_of_library field.declared.class)) (subst (λ (opcode : ℕ). suits_field class opcode (Some field) ≡ true) put is)

  go : (field : Option RankedField) → slice_get (ranked_fields classes) number ≡ field → suits_field class opcode field ≡ true → IsFound classes member
  go None there is = absurd (false≢true is)
  go (Some field) there is = record { number = number; found = found; field = field; there = there; instance = by_opcode opcode one field is }

if_none : {Item : Type 0} (test : Bool) (item : Item) → (if test then None else Some item) ≡ None → test ≡ true
if_none true item is = refl
if_none false item is = never (sym is)

lacks_at : (classes : List ClassFile) (class : ℕ) (pool : List Constant) (opcode index : ℕ) (wide : Bool) (operand : Operand) (member : MemberNames)
    → (opcode ≡ opcodes.GETFIELD) ⊎ (opcode ≡ opcodes.PUTFIELD) → index_in operand ≡ Some index → member_at pool index ≡ Some member
    → lacks classes class pool (record { opcode = opcode; wide = wide; operand = operand }) ≡ None → suits classes class opcode member ≡ true
lacks_at classes class pool opcode index wide operand member one is named none =
    if_none (suits classes class opcode member) (member.name ++ member.descriptor)
    (sym (ap (λ (found : Option ℕ). lacks_member classes class opcode (option_and_then (member_at pool) found)) is ∙ ap (lacks_member classes class opcode) named) ∙ by opcode one none)
  where
    by : (opcode : ℕ) → (opcode ≡ opcodes.GETFIELD) ⊎ (opcode ≡ opcodes.PUTFIELD) → lacks classes class pool (record { opcode = opcode; wide = wide; operand = operand }) ≡ None
        → lacks_member classes class opcode (option_and_then (member_at pool) (index_in operand)) ≡ None
    by opcode (inl get) none =
        subst (λ (opcode : ℕ). lacks_member classes class opcode (option_and_then (member_at pool) (index_in operand)) ≡ None) (sym get)
        (subst (λ (opcode : ℕ). lacks classes class pool (record { opcode = opcode; wide = wide; operand = operand }) ≡ None) get none)
    by opcode (inr put) none =
        subst (λ (opcode : ℕ). lacks_member classes class opcode (option_and_then (member_at pool) (index_in operand)) ≡ None) (sym put)
        (subst (λ (opcode : ℕ). lacks classes class pool (record { opcode = opcode; wide = wide; operand = operand }) ≡ None) put none)

suits_of : (classes : List ClassFile) (class opcode : ℕ) (member : MemberNames) → (opcode ≡ opcodes.GETFIELD) ⊎ (opcode ≡ opcodes.PUTFIELD) → suits classes class opcode member ≡ true
    → suits_field class opcode (option_and_then (slice_get (ranked_fields classes)) (found_field classes member)) ≡ true
suits_of classes class opcode member (inl get) is =
    subst (λ (opcode : ℕ). suits_field class opcode (option_and_then (slice_get (ranked_fields classes)) (found_field classes member)) ≡ true) (sym get)
    (subst (λ (opcode : ℕ). suits classes class opcode member ≡ true) get is)
suits_of classes class opcode member (inr put) is =
    subst (λ (opcode : ℕ). suits_field class opcode (option_and_then (slice_get (ranked_fields classes)) (found_field classes member)) ≡ true) (sym put)
    (subst (λ (opcode : ℕ). suits classes class opcode member ≡ true) put is)

pub field_found : (classes : List ClassFile) (class : ℕ) (pool : List Constant) (insn : Insn) (index : ℕ) (field : IsFieldConstant pool index)
    → (insn.opcode ≡ opcodes.GETFIELD) ⊎ (insn.opcode ≡ opcodes.PUTFIELD) → index_in insn.operand ≡ Some index → lacks classes class pool insn ≡ None
    → IsFound classes (field_names field.class.name field.name field.descriptor)
field_found classes class pool insn index field one is none =
    let member : MemberNames = field_names field.class.name field.name field.descriptor in
    suits_instance classes member class insn.opcode (found_field classes member) refl one
    (suits_of classes class insn.opcode member one (lacks_at classes class pool insn.opcode index insn.wide insn.operand member one is (member_names pool index field) none))
