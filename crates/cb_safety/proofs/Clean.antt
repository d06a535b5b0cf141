-- The names of a program's kinds stand in types as they are, where they are no arrays'.
use Rattle.std.proofs.Common.{◌≡◌, ◌∙◌, ◌⊎◌, inl, inr, ap, ap₂, arith, refl, sym, subst, ℕ, zero, suc, ◌==◌, Bool, true, false, cond, not, ◌||◌, List, [], ◌∷◌, ◌++◌, append-nil, map, replicate, ◌<◌, Option, Some, None, option_and_then, option_map, slice_get, IfSome}
use Rattle.std.specs.Prelude.{IsSomeAnd}
use Rattle.std.specs.Cmp.Lexicographic.{bytes_decides}
use Rattle.std.specs.List.{AllByRecursion, flat_map, join_with_byte, list_all}
use Rattle.std.proofs.lemmas.Bool.{false≢true, ne_eqb, or_cases}
use Rattle.std.proofs.lemmas.List.Sums.{take_while-cons}
use Rattle.cb_text.specs.declared.constant.Constant.{Constant}
use Rattle.cb_text.specs.declared.constant.Constant.TheVariants.{Class}
use Rattle.cb_text.specs.declared.naming.MemberKind.{MemberKind}
use Rattle.cb_text.specs.Naming.{member_at, member_from, member_of, name_and_type_at, name_of_class, text_at}
use Rattle.cb_text.specs.Pool.{constant_at}
use Rattle.cb_names.specs.Descriptors.{IsArrayDescriptor}
use Rattle.cb_names.specs.Names.{IsClassName, IsUnqualifiedName, MayStandInName}
use Rattle.cb_names.specs.Signs.{bracket, letter_class, semicolon, slash}
use Rattle.cb_names.specs.Types.{element_text}
use Rattle.cb_insn.specs.declared.insn.Insn.{Insn}
use Rattle.cb_insn.specs.declared.insn.Operand.{Operand}
use Rattle.cb_insn.specs.declared.insn.Operand.TheVariants as operands
use Rattle.cb_insn.specs.declared.opcode.TheConstants as opcodes
use Rattle.cb_classfile.specs.declared.body.Body.{Body}
use Rattle.cb_classfile.specs.declared.class.ClassFile.{ClassFile}
use Rattle.cb_classfile.specs.declared.map_type.MapType.{MapType}
use Rattle.cb_classfile.specs.declared.map_type.MapType.TheVariants as types
use Rattle.cb_classfile.specs.declared.method.Method.{Method}
use Rattle.cb_classfile.specs.Class.{IsWellFormed}
use Rattle.cb_classfile.specs.Needed.{index_in}
use Rattle.cb_classfile.specs.Pool.{AreNamed, IsNamed, class_at}
use Rattle.cb_hierarchy.specs.Classes.{listed}
use Rattle.cb_kinds.specs.Descriptors.{types_of}
use Rattle.cb_kinds.specs.Kinds.{array_of, ends_name, is_array, kinds_of_name, kinds_of_type, name_in}
use Rattle.cb_kinds.specs.Texts.{firsts, same_text}
use Rattle.cb_link.specs.Having.{IsWhole}
use Rattle.cb_link.specs.Making.{body_kinds, class_kinds, descriptor_kinds, field_kinds, fixed_kinds, frame_kinds, handler_kinds, insn_kinds, kinds, made_by, member_kinds, method_kinds, named_in, named_kinds, type_kinds}
use Rattle.cb_link.specs.Numbers.{name_of, or_none}
use Rattle.cb_link.specs.Program.{Linked}
use Rattle.cb_safety.proofs.Assigned.{never}
use Rattle.cb_safety.proofs.Lists.{all_at, all_both, all_filtered, all_given, all_lists, all_taken}
use Rattle.cb_safety.proofs.Parts.{name_twice}
use Rattle.cb_safety.proofs.Searching.{all_pass, all_weaker}

abbrev IsClean : List ℕ → Type 0
IsClean name = is_array name ≡ false → name_in name ≡ name

-- ---- names of classes

abbrev in_name : ℕ → Bool
in_name unit = not (ends_name unit)

abbrev Stand : List ℕ → Type 0
Stand name = AllByRecursion (λ unit. ends_name unit ≡ false) name

stand_clean : (name : List ℕ) → Stand name → name_in name ≡ name
stand_clean [] all = refl
stand_clean (unit ∷ rest) all =
    take_while-cons in_name unit rest ∙ ap₂ (λ (test : Bool) (rest : List ℕ). cond (not test) (unit ∷ rest) []) all.0 (stand_clean rest all.1)

no_end : (unit : ℕ) → MayStandInName unit → ends_name unit ≡ false
no_end unit may = ap₂ (λ (one other : Bool). one || other) (ne_eqb unit semicolon may.1) (ne_eqb unit bracket may.2)

part_stands : (part behind : List ℕ) → AllByRecursion MayStandInName part → Stand behind → Stand (part ++ behind)
part_stands [] behind all also = also
part_stands (unit ∷ part) behind all also = (no_end unit all.0, part_stands part behind all.1 also)

parts_stand : (parts : List (List ℕ)) → AllByRecursion IsUnqualifiedName parts → Stand (join_with_byte slash parts)
parts_stand [] all = tt
parts_stand (part ∷ []) all = subst Stand (append-nil part) (part_stands part [] all.0.1 tt)
parts_stand (part ∷ other ∷ parts) all = part_stands part (slash ∷ join_with_byte slash (other ∷ parts)) all.0.1 (refl, parts_stand (other ∷ parts) all.1)

pub class_clean : (name : List ℕ) → IsClassName name → name_in name ≡ name
class_clean name (parts, some, each, is) = stand_clean name (subst Stand (sym is) (parts_stand parts each))

brackets_begin : (dimensions : ℕ) (rest : List ℕ) → 0 < dimensions → is_array (replicate dimensions bracket ++ rest) ≡ true
brackets_begin zero rest some = absurd (omega (arith, some))
brackets_begin (suc dimensions) rest some = refl

array_begins : (name : List ℕ) → IsArrayDescriptor name → is_array name ≡ true
array_begins name (type, spells, some) = ap is_array spells.spelled ∙ brackets_begin type.dimensions (element_text type.element) some

either_clean : (name : List ℕ) → IsClassName name ⊎ IsArrayDescriptor name → IsClean name
either_clean name (inl class) none = class_clean name class
either_clean name (inr array) none = absurd (false≢true (sym none ∙ array_begins name array))

-- ---- kinds of types and of names

array_clean : (rest : List ℕ) → IsClean (bracket ∷ rest)
array_clean rest none = absurd (false≢true (sym none))

type_clean : (type : List ℕ) → AllByRecursion IsClean (kinds_of_type type)
type_clean [] = tt
type_clean (unit ∷ rest) = go (unit == bracket) (unit == letter_class) refl (type_clean rest) where
  go : (array class : Bool) → (unit == bracket) ≡ array → AllByRecursion IsClean (kinds_of_type rest) → AllByRecursion IsClean (cond array ((unit ∷ rest) ∷ kinds_of_type rest) (cond class (name_in rest ∷ []) []))
  go true class is all = (λ none. absurd (false≢true (sym none ∙ is)), all)
  go false true is all = (λ none. name_twice rest, tt)
  go false false is all = tt

name_clean : (name : List ℕ) → IsClean name → AllByRecursion IsClean (kinds_of_name name)
name_clean name clean = go (is_array name) where
  go : (array : Bool) → AllByRecursion IsClean (cond array (kinds_of_type name) (name ∷ []))
  go true = type_clean name
  go false = (clean, tt)

names_clean : (names : List (List ℕ)) → AllByRecursion IsClean names → AllByRecursion IsClean (flat_map kinds_of_name names)
names_clean names all = all_given IsClean IsClean kinds_of_name names name_clean all

-- ---- the pool of a class

constant_is : (pool constants : List Constant) (place : ℕ) → AllByRecursion (IsNamed pool) constants → IfSome (slice_get constants place) (IsNamed pool)
constant_is pool [] place all = tt
constant_is pool (constant ∷ constants) zero all = all.0
constant_is pool (constant ∷ constants) (suc place) all = constant_is pool constants place all.1

class_of : (pool : List Constant) (found : Option Constant) (name : List ℕ) → IfSome found (IsNamed pool) → option_and_then (text_at pool) (option_and_then name_of_class found) ≡ Some name → IsClean name
class_of pool None name is so = never so
class_of pool (Some (Class index)) name is so =
    either_clean name (subst (λ (found : Option (List ℕ)). IsSomeAnd found (λ text. IsClassName text ⊎ IsArrayDescriptor text)) so is)
class_of pool (Some other) name is so = never so

class_named : (pool : List Constant) → AreNamed pool → (index : ℕ) (name : List ℕ) → class_at pool index ≡ Some name → IsClean name
class_named pool all zero name so = never so
class_named pool all (suc place) name so = class_of pool (slice_get pool place) name (constant_is pool pool place all) so

-- ---- kinds that a class names or makes

module _ (pool : List Constant) (named : AreNamed pool) where
  listed_clean : (found : Option (List ℕ)) → ((name : List ℕ) → found ≡ Some name → IsClean name) → AllByRecursion IsClean (listed found)
  listed_clean None each = tt
  listed_clean (Some name) each = (each name refl, tt)

  class_at_index : (index : Option ℕ) (name : List ℕ) → option_and_then (class_at pool) index ≡ Some name → IsClean name
  class_at_index None name so = never so
  class_at_index (Some index) name so = class_named pool named index name so

  class_kinds_clean : (index : ℕ) → AllByRecursion IsClean (flat_map kinds_of_name (listed (class_at pool index)))
  class_kinds_clean index = names_clean (listed (class_at pool index)) (listed_clean (class_at pool index) (class_named pool named index))

  operand_clean : (operand : Operand) → AllByRecursion IsClean (listed (named_in pool operand))
  operand_clean operand = listed_clean (named_in pool operand) (class_at_index (index_in operand))

  member_of_class : (kind : MemberKind) (class : Option (List ℕ)) (more : Option (List ℕ × List ℕ)) → ((name : List ℕ) → class ≡ Some name → IsClean name)
      → AllByRecursion IsClean (member_kinds (option_and_then (λ class. option_map (λ names. record { kind = kind; class = class; name = names.0; descriptor = names.1 }) more) class))
  member_of_class kind None more each = tt
  member_of_class kind (Some name) None each = tt
  member_of_class kind (Some name) (Some texts) each = name_clean name (each name refl)

  member_from_clean : (found : Option (MemberKind × ℕ × ℕ)) → AllByRecursion IsClean (member_kinds (option_and_then (member_from pool) found))
  member_from_clean None = tt
  member_from_clean (Some (kind, holder, member)) = member_of_class kind (class_at pool holder) (name_and_type_at pool member) (class_named pool named holder)

  member_clean : (index : Option ℕ) → AllByRecursion IsClean (member_kinds (option_and_then (member_at pool) index))
  member_clean None = tt
  member_clean (Some index) = member_from_clean (option_and_then member_of (constant_at pool index))

  abbrev arrays : Operand → List (List ℕ)
  arrays operand = made_by pool (record { opcode = 0; wide = false; operand = operand })

  arrays_clean : (operand : Operand) → AllByRecursion IsClean (arrays operand)
  arrays_clean (operands.ArrayCode code) = (λ none. absurd (false≢true (sym none)), tt)
  arrays_clean (operands.Dimensions index count) = all_taken IsClean count (kinds_of_type (or_none (class_at pool index))) (type_clean (or_none (class_at pool index)))
  arrays_clean other = tt

  array_of_clean : (found : Option (List ℕ)) → AllByRecursion IsClean (map array_of (listed found))
  array_of_clean None = tt
  array_of_clean (Some name) = (λ none. absurd (false≢true (sym none)), tt)

  made_clean : (insn : Insn) → AllByRecursion IsClean (made_by pool insn)
  made_clean insn = go (insn.opcode == opcodes.NEW) (insn.opcode == opcodes.ANEWARRAY) where
    go : (new array : Bool) → AllByRecursion IsClean (cond new (listed (named_in pool insn.operand)) (cond array (map array_of (listed (named_in pool insn.operand))) (arrays insn.operand)))
    go true array = operand_clean insn.operand
    go false true = array_of_clean (named_in pool insn.operand)
    go false false = arrays_clean insn.operand

  insn_clean : (insn : Insn) → AllByRecursion IsClean (insn_kinds pool insn)
  insn_clean insn =
      let own : List (List ℕ) = flat_map kinds_of_name (listed (named_in pool insn.operand)) in
      let members : List (List ℕ) = member_kinds (option_and_then (member_at pool) (index_in insn.operand)) in
      all_both IsClean (own ++ members) (flat_map kinds_of_name (made_by pool insn))
      (all_both IsClean own members (names_clean (listed (named_in pool insn.operand)) (operand_clean insn.operand)) (member_clean (index_in insn.operand)))
      (names_clean (made_by pool insn) (made_clean insn))

  map_type_clean : (type : MapType) → AllByRecursion IsClean (type_kinds pool type)
  map_type_clean (types.Object index) = class_kinds_clean index
  map_type_clean other = tt

  body_clean : (body : Option Body) → AllByRecursion IsClean (body_kinds pool body)
  body_clean None = tt
  body_clean (Some body) =
      let code : List (List ℕ) = flat_map (λ placed. insn_kinds pool placed.1) body.code in
      let handlers : List (List ℕ) = flat_map (handler_kinds pool) body.handlers in
      let frames : List (List ℕ) = flat_map (frame_kinds pool) body.frames in
      all_both IsClean (code ++ handlers) frames
      (all_both IsClean code handlers (all_lists IsClean (λ placed. insn_kinds pool placed.1) body.code (λ placed. insn_clean placed.1))
      (all_lists IsClean (handler_kinds pool) body.handlers (λ handler. class_kinds_clean handler.catch_type)))
      (all_lists IsClean (frame_kinds pool) body.frames (λ frame. all_lists IsClean (type_kinds pool) (frame.locals ++ frame.stack) map_type_clean))

  method_clean : (method : Method) → AllByRecursion IsClean (method_kinds pool method)
  method_clean method =
      all_both IsClean (descriptor_kinds pool method.descriptor) (body_kinds pool method.body)
      (all_lists IsClean kinds_of_type (types_of (or_none (text_at pool method.descriptor))) type_clean) (body_clean method.body)

class_all_clean : (class : ClassFile) → IsWellFormed class → AllByRecursion IsClean (class_kinds class)
class_all_clean class (bytes, spelled) =
    all_both IsClean (flat_map (field_kinds class.pool) class.fields) (flat_map (method_kinds class.pool) class.methods)
    (all_lists IsClean (field_kinds class.pool) class.fields (λ field. type_clean (or_none (text_at class.pool field.descriptor))))
    (all_lists IsClean (method_kinds class.pool) class.methods (method_clean class.pool spelled.behind.pool_named))

-- ---- the kinds of a program

-- a class's own name
pub own_class_name : (class : ClassFile) → IsWellFormed class → IsClassName (name_of class)
own_class_name class (bytes, spelled) = go (class_at class.pool class.this_class) spelled.behind.rules.alone.classes.named where
  go : (found : Option (List ℕ)) → IsSomeAnd found IsClassName → IsClassName (or_none found)
  go None is = absurd is
  go (Some name) is = is

own_clean : (classes : List ClassFile) → AllByRecursion IsWellFormed classes → AllByRecursion IsClean (map name_of classes)
own_clean [] all = tt
own_clean (class ∷ classes) all = (λ none. class_clean (name_of class) (own_class_name class all.0), own_clean classes all.1)

abbrev clean_test : List ℕ → Bool
clean_test name = is_array name || same_text (name_in name) name

fixed_test : list_all clean_test fixed_kinds ≡ true
fixed_test = refl

test_clean : (name : List ℕ) → clean_test name ≡ true → IsClean name
test_clean name is none = elim (or_cases (is_array name) (same_text (name_in name) name) is) [
  | inl array ↦ absurd (false≢true (sym none ∙ array))
  | inr same ↦ (bytes_decides (name_in name) name).0 same
]

fixed_clean : AllByRecursion IsClean fixed_kinds
fixed_clean = all_weaker (λ name. clean_test name ≡ true) IsClean test_clean fixed_kinds (all_pass clean_test fixed_kinds fixed_test)

all_firsts : (P : List ℕ → Type 0) (texts : List (List ℕ)) → AllByRecursion P texts → AllByRecursion P (firsts texts)
all_firsts P [] all = tt
all_firsts P (text ∷ texts) all = (all.0, all_filtered P (λ other. not (same_text text other)) (firsts texts) (all_firsts P texts all.1))

kinds_clean : (classes : List ClassFile) → AllByRecursion IsWellFormed classes → AllByRecursion IsClean (kinds classes)
kinds_clean classes formed =
    all_firsts IsClean (named_kinds classes)
    (all_both IsClean (map name_of classes ++ flat_map class_kinds classes) (flat_map kinds_of_name fixed_kinds)
    (all_both IsClean (map name_of classes) (flat_map class_kinds classes) (own_clean classes formed) (all_given IsWellFormed IsClean class_kinds classes class_all_clean formed))
    (names_clean fixed_kinds fixed_clean))

pub kind_clean : (program : Linked) → IsWhole program → AllByRecursion IsWellFormed program.classes → (kind : ℕ) (name : List ℕ) → slice_get program.kinds kind ≡ Some name → IsClean name
kind_clean program whole formed kind name is =
    all_at IsClean program.kinds kind name (subst (AllByRecursion IsClean) (sym whole.kinds) (kinds_clean program.classes formed)) is
