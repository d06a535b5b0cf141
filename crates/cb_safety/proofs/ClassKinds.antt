-- What is so of the kinds that the texts of a class may name is so of the kinds of the class.
use Rattle.std.proofs.Common.{◌≡◌, refl, ℕ, ◌==◌, Bool, true, false, cond, IfSome, List, [], ◌∷◌, ◌++◌, map, take, Option, Some, None, option_and_then, option_map}
use Rattle.std.specs.List.{AllByRecursion, flat_map}
use Rattle.std.proofs.lemmas.Option.{option_and_then_some}
use Rattle.cb_text.specs.declared.constant.Constant.{Constant}
use Rattle.cb_text.specs.declared.naming.MemberKind.{MemberKind}
use Rattle.cb_text.specs.Naming.{MemberNames, member_at, member_from, member_of, name_and_type_at, name_of_class, text_at}
use Rattle.cb_text.specs.Pool.{constant_at}
use Rattle.cb_names.specs.Signs.{bracket, letter_boolean, letter_byte, letter_char, letter_double, letter_float, letter_int, letter_long, letter_short}
use Rattle.cb_insn.specs.declared.insn.Insn.{Insn}
use Rattle.cb_insn.specs.declared.insn.Operand.{Operand}
use Rattle.cb_insn.specs.declared.insn.Operand.TheVariants as operands
use Rattle.cb_insn.specs.declared.opcode.TheConstants as opcodes
use Rattle.cb_classfile.specs.Needed.{index_in}
use Rattle.cb_classfile.specs.Pool.{class_at}
use Rattle.cb_classfile.specs.declared.array_code.TheConstants as array_codes
use Rattle.cb_classfile.specs.declared.body.Body.{Body}
use Rattle.cb_classfile.specs.declared.class.ClassFile.{ClassFile}
use Rattle.cb_classfile.specs.declared.field.Field.{Field}
use Rattle.cb_classfile.specs.declared.frame_map.MapFrame.{MapFrame}
use Rattle.cb_classfile.specs.declared.handler.Handler.{Handler}
use Rattle.cb_classfile.specs.declared.map_type.MapType.{MapType}
use Rattle.cb_classfile.specs.declared.map_type.MapType.TheVariants as types
use Rattle.cb_classfile.specs.declared.method.Method.{Method}
use Rattle.cb_hierarchy.specs.Classes.{listed}
use Rattle.cb_kinds.specs.Descriptors.{types_of}
use Rattle.cb_kinds.specs.Kinds.{array_of, kinds_of_name, kinds_of_type}
use Rattle.cb_link.specs.Making.{base_array, body_kinds, class_kinds, descriptor_kinds, field_kinds, frame_kinds, handler_kinds, insn_kinds, made_by, member_kinds, method_kinds, named_in, type_kinds}
use Rattle.cb_link.specs.Numbers.{or_none}
use Rattle.cb_safety.proofs.Called.{all_so}
use Rattle.cb_safety.proofs.Lists.{all_both, all_given, all_taken}
use Rattle.cb_safety.proofs.Starts.{array_so, descriptor_so, name_so, text_kinds, type_so, types_so}

-- arrays of base types
abbrev pub base_arrays : List (List ℕ)
base_arrays =
    (bracket ∷ letter_boolean ∷ []) ∷ (bracket ∷ letter_char ∷ []) ∷ (bracket ∷ letter_float ∷ []) ∷ (bracket ∷ letter_double ∷ [])
    ∷ (bracket ∷ letter_byte ∷ []) ∷ (bracket ∷ letter_short ∷ []) ∷ (bracket ∷ letter_long ∷ []) ∷ (bracket ∷ letter_int ∷ []) ∷ []

module _ (P : List ℕ → Type 0) (bases : AllByRecursion P base_arrays) where
  -- a text that is used, and those of a class
  abbrev pub IsSo : List ℕ → Type 0
  IsSo text = AllByRecursion P (text_kinds text)

  abbrev pub InsnSo : List Constant → Insn → Type 0
  InsnSo pool insn = IfSome (named_in pool insn.operand) IsSo × IfSome (option_and_then (member_at pool) (index_in insn.operand)) (λ member. IsSo member.class)

  abbrev pub TypeSo : List Constant → MapType → Type 0
  TypeSo pool (types.Object index) = IfSome (class_at pool index) IsSo
  TypeSo pool other = Unit {0}

  abbrev pub FrameSo : List Constant → MapFrame → Type 0
  FrameSo pool frame = AllByRecursion (TypeSo pool) (frame.locals ++ frame.stack)

  pub record BodySo (pool : List Constant) (body : Body) : Type 0 where
    pub code : AllByRecursion (λ placed. InsnSo pool placed.1) body.code
    pub handlers : AllByRecursion (λ handler. IfSome (class_at pool handler.catch_type) IsSo) body.handlers
    pub frames : AllByRecursion (FrameSo pool) body.frames

  pub record MethodSo (pool : List Constant) (method : Method) : Type 0 where
    pub descriptor : IfSome (text_at pool method.descriptor) IsSo
    pub body : IfSome method.body (BodySo pool)

  pub record ClassSo (class : ClassFile) : Type 0 where
    pub fields : AllByRecursion (λ field. IfSome (text_at class.pool field.descriptor) IsSo) class.fields
    pub methods : AllByRecursion (MethodSo class.pool) class.methods

  -- ---- the kinds

  listed_so : (found : Option (List ℕ)) → IfSome found IsSo → AllByRecursion P (flat_map kinds_of_name (listed found))
  listed_so None so = tt
  listed_so (Some name) so = all_both P (kinds_of_name name) [] (name_so P name so) tt

  arrays_so : (found : Option (List ℕ)) → IfSome found IsSo → AllByRecursion P (flat_map kinds_of_name (map array_of (listed found)))
  arrays_so None so = tt
  arrays_so (Some name) so = all_both P (kinds_of_name (array_of name)) [] (array_so P name so) tt

  base_so : (code : ℕ) → AllByRecursion P (kinds_of_name (base_array code))
  base_so code =
      go (code == array_codes.BOOLEAN) (code == array_codes.CHAR) (code == array_codes.FLOAT) (code == array_codes.DOUBLE) (code == array_codes.BYTE) (code == array_codes.SHORT) (code == array_codes.LONG)
    where
      go : (a b c d e f g : Bool)
          → AllByRecursion P (kinds_of_name (bracket ∷ cond a letter_boolean (cond b letter_char (cond c letter_float (cond d letter_double (cond e letter_byte (cond f letter_short (cond g letter_long letter_int)))))) ∷ []))
      go true b c d e f g = (bases.0, tt)
      go false true c d e f g = (bases.1.0, tt)
      go false false true d e f g = (bases.1.1.0, tt)
      go false false false true e f g = (bases.1.1.1.0, tt)
      go false false false false true f g = (bases.1.1.1.1.0, tt)
      go false false false false false true g = (bases.1.1.1.1.1.0, tt)
      go false false false false false false true = (bases.1.1.1.1.1.1.0, tt)
      go false false false false false false false = (bases.1.1.1.1.1.1.1.0, tt)

  dimensions_so : (count : ℕ) (found : Option (List ℕ)) → IfSome found IsSo → AllByRecursion P (flat_map kinds_of_name (take count (kinds_of_type (or_none found))))
  dimensions_so count None so = all_given (λ kind. AllByRecursion P (kinds_of_name kind)) P kinds_of_name (take count []) (λ kind all. all) (all_taken (λ kind. AllByRecursion P (kinds_of_name kind)) count [] tt)
  dimensions_so count (Some name) so =
      all_given (λ kind. AllByRecursion P (kinds_of_name kind)) P kinds_of_name (take count (kinds_of_type name)) (λ kind all. all)
      (all_taken (λ kind. AllByRecursion P (kinds_of_name kind)) count (kinds_of_type name) (types_so P name so.1.1.1))

  module _ (pool : List Constant) where
    abbrev arrays : Operand → List (List ℕ)
    arrays operand = made_by pool (record { opcode = 0; wide = false; operand = operand })

    operand_so : (operand : Operand) → IfSome (named_in pool operand) IsSo → AllByRecursion P (flat_map kinds_of_name (arrays operand))
    operand_so (operands.ArrayCode code) so = all_both P (kinds_of_name (base_array code)) [] (base_so code) tt
    operand_so (operands.Dimensions index count) so = dimensions_so count (class_at pool index) so
    operand_so other so = tt

    made_so : (insn : Insn) → IfSome (named_in pool insn.operand) IsSo → AllByRecursion P (flat_map kinds_of_name (made_by pool insn))
    made_so insn so = go (insn.opcode == opcodes.NEW) (insn.opcode == opcodes.ANEWARRAY) where
      go : (new array : Bool)
          → AllByRecursion P (flat_map kinds_of_name (cond new (listed (named_in pool insn.operand)) (cond array (map array_of (listed (named_in pool insn.operand))) (arrays insn.operand))))
      go true array = listed_so (named_in pool insn.operand) so
      go false true = arrays_so (named_in pool insn.operand) so
      go false false = operand_so insn.operand so

    member_so : (found : Option MemberNames) → IfSome found (λ member. IsSo member.class) → AllByRecursion P (member_kinds found)
    member_so None so = tt
    member_so (Some member) so = name_so P member.class so

    insn_so : (insn : Insn) → InsnSo pool insn → AllByRecursion P (insn_kinds pool insn)
    insn_so insn so =
        let own : List (List ℕ) = flat_map kinds_of_name (listed (named_in pool insn.operand)) in
        let members : List (List ℕ) = member_kinds (option_and_then (member_at pool) (index_in insn.operand)) in
        all_both P (own ++ members) (flat_map kinds_of_name (made_by pool insn))
        (all_both P own members (listed_so (named_in pool insn.operand) so.0) (member_so (option_and_then (member_at pool) (index_in insn.operand)) so.1))
        (made_so insn so.0)

    map_type_so : (type : MapType) → TypeSo pool type → AllByRecursion P (type_kinds pool type)
    map_type_so (types.Object index) so = listed_so (class_at pool index) so
    map_type_so other so = tt

    body_so : (body : Option Body) → IfSome body (BodySo pool) → AllByRecursion P (body_kinds pool body)
    body_so None so = tt
    body_so (Some body) so =
        let code : List (List ℕ) = flat_map (λ placed. insn_kinds pool placed.1) body.code in
        let handlers : List (List ℕ) = flat_map (handler_kinds pool) body.handlers in
        let frames : List (List ℕ) = flat_map (frame_kinds pool) body.frames in
        all_both P (code ++ handlers) frames
        (all_both P code handlers (all_given (λ (placed : ℕ × Insn). InsnSo pool placed.1) P (λ placed. insn_kinds pool placed.1) body.code (λ placed. insn_so placed.1) so.code)
        (all_given (λ (handler : Handler). IfSome (class_at pool handler.catch_type) IsSo) P (handler_kinds pool) body.handlers (λ handler. listed_so (class_at pool handler.catch_type)) so.handlers))
        (all_given (FrameSo pool) P (frame_kinds pool) body.frames
        (λ frame own. all_given (TypeSo pool) P (type_kinds pool) (frame.locals ++ frame.stack) map_type_so own) so.frames)

    text_type_so : (found : Option (List ℕ)) → IfSome found IsSo → AllByRecursion P (kinds_of_type (or_none found))
    text_type_so None so = tt
    text_type_so (Some text) so = type_so P text so.1.1.1

    method_so : (method : Method) → MethodSo pool method → AllByRecursion P (method_kinds pool method)
    method_so method so =
        all_both P (descriptor_kinds pool method.descriptor) (body_kinds pool method.body) (go (text_at pool method.descriptor) so.descriptor) (body_so method.body so.body)
      where
        go : (found : Option (List ℕ)) → IfSome found IsSo → AllByRecursion P (flat_map kinds_of_type (types_of (or_none found)))
        go None so = tt
        go (Some text) so = descriptor_so P text so.1.1.1

  pub class_so : (class : ClassFile) → ClassSo class → AllByRecursion P (class_kinds class)
  class_so class so =
      all_both P (flat_map (field_kinds class.pool) class.fields) (flat_map (method_kinds class.pool) class.methods)
      (all_given (λ (field : Field). IfSome (text_at class.pool field.descriptor) IsSo) P (field_kinds class.pool) class.fields
      (λ field. text_type_so class.pool (text_at class.pool field.descriptor)) so.fields)
      (all_given (MethodSo class.pool) P (method_kinds class.pool) class.methods (method_so class.pool) so.methods)

  -- ---- of a class of whose pool each text is so

  module _ (pool : List Constant) (has : (index : ℕ) (text : List ℕ) → text_at pool index ≡ Some text → IsSo text) where
    some_text : (index : ℕ) → IfSome (text_at pool index) IsSo
    some_text index = go (text_at pool index) refl where
      go : (found : Option (List ℕ)) → text_at pool index ≡ found → IfSome found IsSo
      go None is = tt
      go (Some text) is = has index text is

    pub found_class : (index : ℕ) (name : List ℕ) → class_at pool index ≡ Some name → IsSo name
    found_class index name is = option_and_then_some (text_at pool) (option_and_then name_of_class (constant_at pool index)) name is (λ at found there. has at name there)

    some_class : (index : ℕ) → IfSome (class_at pool index) IsSo
    some_class index = go (class_at pool index) refl where
      go : (found : Option (List ℕ)) → class_at pool index ≡ found → IfSome found IsSo
      go None is = tt
      go (Some name) is = found_class index name is

    some_member : (index : ℕ) → IfSome (member_at pool index) (λ member. IsSo member.class)
    some_member index = by (option_and_then member_of (constant_at pool index)) where
      of_class : (kind : MemberKind) (class : Option (List ℕ)) (more : Option (List ℕ × List ℕ)) → IfSome class IsSo
          → IfSome (option_and_then (λ class. option_map (λ names. record { kind = kind; class = class; name = names.0; descriptor = names.1 }) more) class) (λ (member : MemberNames). IsSo member.class)
      of_class kind None more so = tt
      of_class kind (Some class) None so = tt
      of_class kind (Some class) (Some names) so = so

      by : (found : Option (MemberKind × ℕ × ℕ)) → IfSome (option_and_then (member_from pool) found) (λ (member : MemberNames). IsSo member.class)
      by None = tt
      by (Some (kind, holder, member)) = of_class kind (class_at pool holder) (name_and_type_at pool member) (some_class holder)

    any_insn : (insn : Insn) → InsnSo pool insn
    any_insn insn = go (index_in insn.operand) where
      go : (found : Option ℕ) → IfSome (option_and_then (class_at pool) found) IsSo × IfSome (option_and_then (member_at pool) found) (λ member. IsSo member.class)
      go None = (tt, tt)
      go (Some index) = (some_class index, some_member index)

    any_type : (type : MapType) → TypeSo pool type
    any_type (types.Object index) = some_class index
    any_type other = tt

    any_body : (body : Option Body) → IfSome body (BodySo pool)
    any_body None = tt
    any_body (Some body) = record {
      code = all_so (λ (placed : ℕ × Insn). InsnSo pool placed.1) body.code (λ placed. any_insn placed.1);
      handlers = all_so (λ (handler : Handler). IfSome (class_at pool handler.catch_type) IsSo) body.handlers (λ handler. some_class handler.catch_type);
      frames = all_so (FrameSo pool) body.frames (λ frame. all_so (TypeSo pool) (frame.locals ++ frame.stack) any_type);
    }

    pub any_class : (fields : List Field) (methods : List Method) → AllByRecursion (λ field. IfSome (text_at pool field.descriptor) IsSo) fields × AllByRecursion (MethodSo pool) methods
    any_class fields methods = (
      all_so (λ (field : Field). IfSome (text_at pool field.descriptor) IsSo) fields (λ field. some_text field.descriptor),
      all_so (MethodSo pool) methods (λ method. record { descriptor = some_text method.descriptor; body = any_body method.body }),
    )
