-- The texts that the library's classes use are those of its table.
use Rattle.std.proofs.Common.{◌≡◌, sym, subst, ℕ, IfSome, List, [], ◌∷◌, ◌++◌, append-nil, map, Option, Some, None, option_and_then, slice_get}
use Rattle.std.specs.Prelude.{IsSomeAnd}
use Rattle.std.specs.List.{AllByRecursion, AllZip, flat_map}
use Rattle.cb_text.specs.declared.constant.Constant.{Constant}
use Rattle.cb_text.specs.declared.constant.Constant.TheVariants as constants
use Rattle.cb_text.specs.Naming.{MemberNames, class_at, member_at, member_from, member_of, name_of_class, string_at, text_at, text_of_string}
use Rattle.cb_text.specs.Pool.{constant_at}
use Rattle.cb_insn.specs.declared.insn.Insn.{Insn}
use Rattle.cb_insn.specs.declared.insn.Operand.TheVariants as operands
use Rattle.cb_classfile.specs.Library.{IsObjectOf, IsRecordOf, SaysField, SaysFrame, SaysFrames, SaysInsn, SaysKind, SaysMethod, place_behind, with_operand}
use Rattle.cb_classfile.specs.declared.body.Body.{Body}
use Rattle.cb_classfile.specs.declared.class.ClassFile.{ClassFile}
use Rattle.cb_classfile.specs.declared.field.Field.{Field}
use Rattle.cb_classfile.specs.declared.handler.Handler.{Handler}
use Rattle.cb_classfile.specs.declared.frame_map.MapFrame.{MapFrame}
use Rattle.cb_classfile.specs.declared.map_type.MapType.{MapType}
use Rattle.cb_classfile.specs.declared.map_type.MapType.TheVariants as types
use Rattle.cb_classfile.specs.declared.method.Method.{Method}
use Rattle.cb_library.specs.Rows.{CoreClass}
use Rattle.cb_library.specs.Rows as rows
use Rattle.cb_safety.proofs.Assigned.{never}
use Rattle.cb_safety.proofs.ClassKinds.{BodySo, ClassSo, FrameSo, InsnSo, IsSo, MethodSo, TypeSo, base_arrays}
use Rattle.cb_safety.proofs.Located.{all_parts}

abbrev pub insn_texts : rows.Instruction → List (List ℕ)
insn_texts (rows.OfClass opcode class) = class ∷ []
insn_texts (rows.OfField opcode class name descriptor) = class ∷ []
insn_texts (rows.OfMethod opcode class name descriptor) = class ∷ []
insn_texts other = []

abbrev frame_texts : rows.Frame → List (List ℕ)
frame_texts frame = frame.locals

abbrev kind_texts : rows.Kind → List (List ℕ)
kind_texts (rows.Runs body) = flat_map insn_texts body.code ++ flat_map frame_texts body.frames
kind_texts other = []

abbrev pub method_texts : rows.Method → List (List ℕ)
method_texts method = method.descriptor ∷ kind_texts method.kind

abbrev pub field_text : rows.Field → List ℕ
field_text field = field.descriptor

abbrev pub row_texts : CoreClass → List (List ℕ)
row_texts row = row.name ∷ map field_text row.fields ++ flat_map method_texts row.methods

module _ (P : List ℕ → Type 0) (bases : AllByRecursion P base_arrays) (pool : List Constant) where
  abbrev So : List ℕ → Type 0
  So = IsSo P bases

  abbrev Both : Option Constant → Type 0
  Both found =
      IfSome (option_and_then (text_at pool) (option_and_then name_of_class found)) So
      × IfSome (option_and_then (member_from pool) (option_and_then member_of found)) (λ (member : MemberNames). So member.class)

  string_so : (index : ℕ) (text : List ℕ) → string_at pool index ≡ Some text → Both (constant_at pool index)
  string_so index text is = go (constant_at pool index) is where
    go : (found : Option Constant) → option_and_then (text_at pool) (option_and_then text_of_string found) ≡ Some text → Both found
    go None is = never is
    go (Some (constants.String at)) is = (tt, tt)
    go (Some other) is = never is

  class_so : (index : ℕ) (name : List ℕ) → class_at pool index ≡ Some name → So name → Both (constant_at pool index)
  class_so index name is so = go (constant_at pool index) is where
    go : (found : Option Constant) → option_and_then (text_at pool) (option_and_then name_of_class found) ≡ Some name → Both found
    go None is = never is
    go (Some (constants.Class at)) is = (subst (λ (found : Option (List ℕ)). IfSome found So) (sym is) so, tt)
    go (Some other) is = never is

  member_so : (index : ℕ) (member : MemberNames) → member_at pool index ≡ Some member → So member.class → Both (constant_at pool index)
  member_so index member is so = go (constant_at pool index) is where
    said : (found : Option MemberNames) → found ≡ Some member → IfSome found (λ (member : MemberNames). So member.class)
    said found is = subst (λ (found : Option MemberNames). IfSome found (λ (member : MemberNames). So member.class)) (sym is) so

    go : (found : Option Constant) → option_and_then (member_from pool) (option_and_then member_of found) ≡ Some member → Both found
    go None is = never is
    go (Some (constants.Fieldref holder at)) is = (tt, said _ is)
    go (Some (constants.Methodref holder at)) is = (tt, said _ is)
    go (Some (constants.InterfaceMethodref holder at)) is = (tt, said _ is)
    go (Some other) is = never is

  insn_says : (places : List ℕ) (row : rows.Instruction) (insn : Insn) → SaysInsn pool places row insn → AllByRecursion So (insn_texts row) → InsnSo P bases pool insn
  insn_says places (rows.Plain opcode) insn says all = subst (InsnSo P bases pool) (sym says) (tt, tt)
  insn_says places (rows.Branch opcode target) insn says all = go (slice_get places target) says where
    go : (found : Option ℕ) → IsSomeAnd found (λ place. insn ≡ with_operand opcode (operands.Branch place)) → InsnSo P bases pool insn
    go None says = absurd says
    go (Some place) says = subst (InsnSo P bases pool) (sym says) (tt, tt)
  insn_says places (rows.LoadText text) insn (index, is, says) all = subst (InsnSo P bases pool) (sym is) (string_so index text says)
  insn_says places (rows.OfClass opcode class) insn (index, is, says) all = subst (InsnSo P bases pool) (sym is) (class_so index class says all.0)
  insn_says places (rows.OfField opcode class name descriptor) insn (index, is, says) all = subst (InsnSo P bases pool) (sym is) (member_so index _ says all.0)
  insn_says places (rows.OfMethod opcode class name descriptor) insn (index, is, says) all = subst (InsnSo P bases pool) (sym is) (member_so index _ says all.0)

  code_says : (places : List ℕ) (table : List rows.Instruction) (code : List (ℕ × Insn)) → AllZip (λ insn placed. SaysInsn pool places insn placed.1) table code
      → AllByRecursion So (flat_map insn_texts table) → AllByRecursion (λ (placed : ℕ × Insn). InsnSo P bases pool placed.1) code
  code_says places [] [] says all = tt
  code_says places [] (placed ∷ code) says all = absurd says
  code_says places (row ∷ table) [] says all = absurd says
  code_says places (row ∷ table) (placed ∷ code) says all =
      let (here, later) = all_parts So (insn_texts row) (flat_map insn_texts table) all in
      (insn_says places row placed.1 says.0 here, code_says places table code says.1 later)

  locals_say : (names : List (List ℕ)) (locals : List MapType) → AllZip (IsObjectOf pool) names locals → AllByRecursion So names → AllByRecursion (TypeSo P bases pool) locals
  locals_say [] [] says all = tt
  locals_say [] (type ∷ locals) says all = absurd says
  locals_say (name ∷ names) [] says all = absurd says
  locals_say (name ∷ names) (type ∷ locals) says all = (one type says.0, locals_say names locals says.1 all.1) where
    one : (type : MapType) → IsObjectOf pool name type → TypeSo P bases pool type
    one (types.Object index) is = subst (λ (found : Option (List ℕ)). IfSome found So) (sym is) all.0
    one other is = absurd is

  frame_says : (places : List ℕ) (previous : Option ℕ) (row : rows.Frame) (frame : MapFrame) → SaysFrame pool places previous row frame → AllByRecursion So row.locals → FrameSo P bases pool frame
  frame_says places previous row frame says all =
      subst (λ (stack : List MapType). AllByRecursion (TypeSo P bases pool) (frame.locals ++ stack)) (sym says.stack)
      (subst (AllByRecursion (TypeSo P bases pool)) (sym (append-nil frame.locals)) (locals_say row.locals frame.locals says.locals all))

  frames_say : (places : List ℕ) (previous : Option ℕ) (table : List rows.Frame) (frames : List MapFrame) → SaysFrames pool places previous table frames → AllByRecursion So (flat_map frame_texts table)
      → AllByRecursion (FrameSo P bases pool) frames
  frames_say places previous [] frames says all = subst (AllByRecursion (FrameSo P bases pool)) (sym says) tt
  frames_say places previous (row ∷ table) [] says all = absurd says
  frames_say places previous (row ∷ table) (frame ∷ frames) says all =
      let (here, later) = all_parts So row.locals (flat_map frame_texts table) all in
      (frame_says places previous row frame says.0 here, frames_say places (Some (place_behind previous frame.delta)) table frames says.1 later)

  body_says : (kind : rows.Kind) (body : Option Body) → SaysKind pool kind body → AllByRecursion So (kind_texts kind) → IfSome body (BodySo P bases pool)
  body_says rows.Abstract body says all = subst (λ (body : Option Body). IfSome body (BodySo P bases pool)) (sym says) tt
  body_says (rows.Performed native) body says all = subst (λ (body : Option Body). IfSome body (BodySo P bases pool)) (sym says) tt
  body_says (rows.Runs row) None says all = absurd says
  body_says (rows.Runs row) (Some body) says all =
      let (code, frames) = all_parts So (flat_map insn_texts row.code) (flat_map frame_texts row.frames) all in
      record {
        code = code_says _ row.code body.code says.code code;
        handlers = subst (AllByRecursion (λ (handler : Handler). IfSome (class_at pool handler.catch_type) So)) (sym says.handlers) tt;
        frames = frames_say _ None row.frames body.frames says.frames frames;
      }

  methods_say : (table : List rows.Method) (methods : List Method) → AllZip (SaysMethod pool) table methods → AllByRecursion So (flat_map method_texts table) → AllByRecursion (MethodSo P bases pool) methods
  methods_say [] [] says all = tt
  methods_say [] (method ∷ methods) says all = absurd says
  methods_say (row ∷ table) [] says all = absurd says
  methods_say (row ∷ table) (method ∷ methods) says all =
      let (here, later) = all_parts So (method_texts row) (flat_map method_texts table) all in (
        record {
          descriptor = subst (λ (found : Option (List ℕ)). IfSome found So) (sym says.0.descriptor) here.0;
          body = body_says row.kind method.body says.0.kind here.1;
        },
        methods_say table methods says.1 later,
      )

  fields_say : (table : List rows.Field) (fields : List Field) → AllZip (SaysField pool) table fields → AllByRecursion So (map field_text table)
      → AllByRecursion (λ (field : Field). IfSome (text_at pool field.descriptor) So) fields
  fields_say [] [] says all = tt
  fields_say [] (field ∷ fields) says all = absurd says
  fields_say (row ∷ table) [] says all = absurd says
  fields_say (row ∷ table) (field ∷ fields) says all =
      (subst (λ (found : Option (List ℕ)). IfSome found So) (sym says.0.descriptor) all.0, fields_say table fields says.1 all.1)

pub record_says : (P : List ℕ → Type 0) (bases : AllByRecursion P base_arrays) (row : CoreClass) (class : ClassFile) → IsRecordOf row class → AllByRecursion (IsSo P bases) (row_texts row)
    → ClassSo P bases class
record_says P bases row class says all =
    let (fields, methods) = all_parts (IsSo P bases) (row.name ∷ map field_text row.fields) (flat_map method_texts row.methods) all in
    record {
      fields = fields_say P bases class.pool row.fields class.fields says.fields fields.1;
      methods = methods_say P bases class.pool row.methods class.methods says.methods methods;
    }
