-- The name of no kind of a program is brackets alone, where its classes are well formed.
use Rattle.std.proofs.Common.{◌≡◌, ◌∙◌, ◌⊎◌, inl, inr, ap, refl, sym, subst, arith, ℕ, zero, suc, ◌+◌, ◌<◌, ◌==◌, Bool, true, false, cond, not, ◌||◌, List, [], ◌∷◌, ◌++◌, append-nil, length, map, take, Option, Some, None, IfSome}
use Rattle.std.specs.Prelude.{IsSomeAnd, option_and_then, option_map, slice_get}
use Rattle.std.specs.List.{AllByRecursion, flat_map, join_with_byte, list_all, list_any, prefix_len}
use Rattle.std.proofs.lemmas.Bool.{eqb-true, false≢true, ne_eqb, or_right}
use Rattle.std.proofs.lemmas.List.Folds.{list_any-append}
use Rattle.cb_text.specs.declared.constant.Constant.{Constant}
use Rattle.cb_text.specs.declared.constant.Constant.TheVariants.{Class}
use Rattle.cb_text.specs.declared.naming.MemberKind.{MemberKind}
use Rattle.cb_text.specs.Naming.{member_at, member_from, member_of, name_and_type_at, name_of_class}
use Rattle.cb_text.specs.Pool.{constant_at}
use Rattle.cb_names.specs.Descriptors.{IsArrayDescriptor, IsFieldDescriptor}
use Rattle.cb_names.specs.Names.{IsClassName, IsUnqualifiedName}
use Rattle.cb_names.specs.Signs.{bracket, letter_boolean, letter_byte, letter_char, letter_class, letter_double, letter_float, letter_int, letter_long, letter_short, right_parenthesis, semicolon, slash}
use Rattle.cb_insn.specs.declared.insn.Insn.{Insn}
use Rattle.cb_insn.specs.declared.insn.Operand.{Operand}
use Rattle.cb_insn.specs.declared.insn.Operand.TheVariants as operands
use Rattle.cb_insn.specs.declared.opcode.TheConstants as opcodes
use Rattle.cb_classfile.specs.declared.body.Body.{Body}
use Rattle.cb_classfile.specs.declared.array_code.TheConstants as array_codes
use Rattle.cb_classfile.specs.declared.class.ClassFile.{ClassFile}
use Rattle.cb_classfile.specs.declared.field.Field.{Field}
use Rattle.cb_classfile.specs.declared.map_type.MapType.{MapType}
use Rattle.cb_classfile.specs.declared.map_type.MapType.TheVariants as types
use Rattle.cb_classfile.specs.declared.method.Method.{Method}
use Rattle.cb_classfile.specs.Class.{IsWellFormed}
use Rattle.cb_classfile.specs.Members.{SpellsField}
use Rattle.cb_classfile.specs.Needed.{index_in}
use Rattle.cb_classfile.specs.Pool.{AreNamed, HasText, IsNamed, class_at, text_at}
use Rattle.cb_classfile.specs.Tables.{SpellsEach}
use Rattle.cb_hierarchy.specs.Classes.{listed}
use Rattle.cb_kinds.specs.Descriptors.{all_types, is_base, signs_behind, signs_in_name, types_of}
use Rattle.cb_kinds.specs.Kinds.{array_of, is_array, kinds_of_name, kinds_of_type, name_in, type_of_name}
use Rattle.cb_kinds.specs.Texts.{firsts, same_text}
use Rattle.cb_kinds.proofs.Laws.{field_types}
use Rattle.cb_link.specs.Having.{HasOwnName, IsWhole}
use Rattle.cb_link.specs.Making.{base_array, body_kinds, class_kinds, descriptor_kinds, field_kinds, fixed_kinds, frame_kinds, handler_kinds, insn_kinds, kinds, made_by, member_kinds, method_kinds, named_in, named_kinds, type_kinds}
use Rattle.cb_link.specs.Numbers.{name_of, or_none}
use Rattle.cb_link.specs.Program.{Linked}
use Rattle.cb_safety.specs.Kinds.{holds_kind}
use Rattle.cb_safety.proofs.Holding.{Base, Bracket, Letter, Sign, holds_own, sign_of}
use Rattle.cb_safety.proofs.Lists.{all_both, all_filtered, all_given, all_lists, all_taken}
use Rattle.cb_safety.proofs.Searching.{all_pass}

-- ---- lists

pub all_firsts : (P : List ℕ → Type 0) (texts : List (List ℕ)) → AllByRecursion P texts → AllByRecursion P (firsts texts)
all_firsts P [] all = tt
all_firsts P (text ∷ texts) all = (all.0, all_filtered P (λ other. not (same_text text other)) (firsts texts) (all_firsts P texts all.1))

-- ---- texts

abbrev has_letter : List ℕ → Bool
has_letter text = list_any (λ unit. not (unit == bracket)) text

abbrev IsLettered : List ℕ → Type 0
IsLettered name = has_letter (type_of_name name) ≡ true

-- a name that is no array's, or has a letter
abbrev IsNoBrackets : List ℕ → Type 0
IsNoBrackets name = is_array name ≡ true → has_letter name ≡ true

named_lettered : (name : List ℕ) → IsNoBrackets name → IsLettered name
named_lettered name some = go (is_array name) some where
  go : (array : Bool) → (array ≡ true → has_letter name ≡ true) → has_letter (cond array name (letter_class ∷ name ++ semicolon ∷ [])) ≡ true
  go true some = some refl
  go false some = refl

lettered_named : (name : List ℕ) → IsLettered name → IsNoBrackets name
lettered_named name lettered array = sym (ap (λ (test : Bool). has_letter (cond test name (letter_class ∷ name ++ semicolon ∷ []))) array) ∙ lettered

no_array : (rest : List ℕ) → is_array (name_in rest) ≡ false
no_array [] = refl
no_array (unit ∷ rest) = go (unit == semicolon) (unit == bracket) refl where
  count : ℕ
  count = prefix_len (λ unit. not ((unit == semicolon) || (unit == bracket))) rest

  go : (end array : Bool) → (unit == bracket) ≡ array → is_array (take (cond (not (end || array)) (1 + count) 0) (unit ∷ rest)) ≡ false
  go true array is = refl
  go false true is = refl
  go false false is = ap (λ (count : ℕ). is_array (take count (unit ∷ rest))) (let more : 1 + count ≡ suc count = omega arith in more) ∙ is

name_in_lettered : (rest : List ℕ) → IsLettered (name_in rest)
name_in_lettered rest = named_lettered (name_in rest) (λ array. absurd (false≢true (sym (no_array rest) ∙ array)))

type_step : (unit : ℕ) (rest : List ℕ) → Sign unit → (has_letter rest ≡ true → AllByRecursion IsLettered (kinds_of_type rest)) → has_letter (unit ∷ rest) ≡ true
    → AllByRecursion IsLettered (kinds_of_type (unit ∷ rest))
type_step unit rest Bracket inner some = (some, inner some)
type_step unit rest Letter inner some = (name_in_lettered rest, tt)
type_step unit rest (Base first no_bracket none) inner some = go (first == bracket) (first == letter_class) no_bracket none where
  go : (array class : Bool) → array ≡ false → class ≡ false
      → AllByRecursion IsLettered (cond array ((first ∷ rest) ∷ kinds_of_type rest) (cond class (name_in rest ∷ []) []))
  go true class no_bracket none = absurd (false≢true (sym no_bracket))
  go false true no_bracket none = absurd (false≢true (sym none))
  go false false no_bracket none = tt

type_lettered : (text : List ℕ) → has_letter text ≡ true → AllByRecursion IsLettered (kinds_of_type text)
type_lettered [] some = absurd (false≢true some)
type_lettered (unit ∷ rest) some = type_step unit rest (sign_of unit) (type_lettered rest) some

some_lettered : (text : List ℕ) → IsNoBrackets text → AllByRecursion IsLettered (kinds_of_type text)
some_lettered [] some = tt
some_lettered (unit ∷ rest) some = type_lettered (unit ∷ rest) (go (unit == bracket) some) where
  go : (array : Bool) → (array ≡ true → (not array || has_letter rest) ≡ true) → (not array || has_letter rest) ≡ true
  go true some = some refl
  go false some = refl

name_lettered : (name : List ℕ) → IsNoBrackets name → AllByRecursion IsLettered (kinds_of_name name)
name_lettered name some = go (is_array name) some where
  go : (array : Bool) → (array ≡ true → has_letter name ≡ true) → AllByRecursion IsLettered (cond array (kinds_of_type name) (name ∷ []))
  go true here = type_lettered name (here refl)
  go false here = (named_lettered name some, tt)

-- ---- types in descriptors

last_letter : (text : List ℕ) (unit : ℕ) → (unit == bracket) ≡ false → has_letter (text ++ unit ∷ []) ≡ true
last_letter text unit is =
    list_any-append (λ unit. not (unit == bracket)) text (unit ∷ [])
    ∙ or_right (has_letter text) (has_letter (unit ∷ [])) (ap (λ (test : Bool). not test || false) is)

abbrev IsWritten : Option (List ℕ) → Type 0
IsWritten sign = IfSome sign (λ text. has_letter text ≡ true)

abbrev AreWritten : List ℕ → Type 0
AreWritten text = ((brackets : List ℕ) → AllByRecursion IsWritten (signs_behind brackets text)) × ((front : List ℕ) → AllByRecursion IsWritten (signs_in_name front text))

signs_step : (unit : ℕ) (rest : List ℕ) → AreWritten rest → AreWritten (unit ∷ rest)
signs_step unit rest inner =
    (λ brackets. behind brackets (unit == bracket) (unit == letter_class) (unit == right_parenthesis) (is_base unit) refl, λ front. within front (unit == semicolon) refl)
  where
    behind : (brackets : List ℕ) (array class close base : Bool) → (unit == bracket) ≡ array
        → AllByRecursion IsWritten (cond array (signs_behind (brackets ++ unit ∷ []) rest) (cond class (signs_in_name (brackets ++ unit ∷ []) rest)
        (cond close (None ∷ signs_behind [] rest) (cond base (Some (brackets ++ unit ∷ []) ∷ signs_behind [] rest) (signs_behind [] rest)))))
    behind brackets true class close base is = inner.0 (brackets ++ unit ∷ [])
    behind brackets false true close base is = inner.1 (brackets ++ unit ∷ [])
    behind brackets false false true base is = (tt, inner.0 [])
    behind brackets false false false true is = (last_letter brackets unit is, inner.0 [])
    behind brackets false false false false is = inner.0 []

    no_bracket : (unit == semicolon) ≡ true → (unit == bracket) ≡ false
    no_bracket is = subst (λ (unit : ℕ). (unit == bracket) ≡ false) (sym (eqb-true unit semicolon is)) refl

    within : (front : List ℕ) (end : Bool) → (unit == semicolon) ≡ end
        → AllByRecursion IsWritten (cond end (Some (front ++ unit ∷ []) ∷ signs_behind [] rest) (signs_in_name (front ++ unit ∷ []) rest))
    within front true is = (last_letter front unit (no_bracket is), inner.0 [])
    within front false is = inner.1 (front ++ unit ∷ [])

signs_lettered : (text : List ℕ) → AreWritten text
signs_lettered [] = (λ brackets. tt, λ front. tt)
signs_lettered (unit ∷ rest) = signs_step unit rest (signs_lettered rest)

abbrev HasLetter : List ℕ → Type 0
HasLetter text = has_letter text ≡ true

written_types : (signs : List (Option (List ℕ))) → AllByRecursion IsWritten signs → AllByRecursion HasLetter (all_types signs)
written_types [] all = tt
written_types (None ∷ signs) all = written_types signs all.1
written_types (Some text ∷ signs) all = (all.0, written_types signs all.1)

types_lettered : (text : List ℕ) → AllByRecursion HasLetter (types_of text)
types_lettered text = written_types (signs_behind [] text) ((signs_lettered text).0 [])

spelled_lettered : (text : List ℕ) → IsFieldDescriptor text → has_letter text ≡ true
spelled_lettered text (type, spells) = (subst (AllByRecursion HasLetter) (field_types text type spells) (types_lettered text)).0

-- ---- the pool of a class

named_text : (found : Option (List ℕ)) (name : List ℕ) → IsSomeAnd found (λ text. IsClassName text ⊎ IsArrayDescriptor text) → found ≡ Some name → IsClassName name ⊎ IsArrayDescriptor name
named_text found name is so = subst (λ (found : Option (List ℕ)). IsSomeAnd found (λ text. IsClassName text ⊎ IsArrayDescriptor text)) so is

-- the name of a class begins with a unit that may stand in it
plain_part : (part behind : List ℕ) → IsUnqualifiedName part → is_array (part ++ behind) ≡ false
plain_part [] behind part = absurd (omega (arith, part.0))
plain_part (unit ∷ part) behind named = ne_eqb unit bracket named.1.0.2

pub plain_name : (name : List ℕ) → IsClassName name → is_array name ≡ false
plain_name name ([], some, each, is) = absurd (omega (arith, some))
plain_name name (part ∷ [], some, each, is) = ap is_array (is ∙ sym (append-nil part)) ∙ plain_part part [] each.0
plain_name name (part ∷ other ∷ parts, some, each, is) = ap is_array is ∙ plain_part part (slash ∷ join_with_byte slash (other ∷ parts)) each.0

no_brackets : (name : List ℕ) → IsClassName name ⊎ IsArrayDescriptor name → IsNoBrackets name
no_brackets name (inl class) array = absurd (false≢true (sym (plain_name name class) ∙ array))
no_brackets name (inr (type, spells, some)) array = spelled_lettered name (type, spells)

constant_named : (pool : List Constant) (constants : List Constant) (place : ℕ) → AllByRecursion (IsNamed pool) constants → IfSome (slice_get constants place) (IsNamed pool)
constant_named pool [] place all = tt
constant_named pool (constant ∷ constants) zero all = all.0
constant_named pool (constant ∷ constants) (suc place) all = constant_named pool constants place all.1

class_of : (pool : List Constant) (found : Option Constant) (name : List ℕ) → IfSome found (IsNamed pool) → option_and_then (text_at pool) (option_and_then name_of_class found) ≡ Some name → IsNoBrackets name
class_of pool None name is so = absurd (cc so)
class_of pool (Some (Class index)) name is so = no_brackets name (named_text (text_at pool index) name is so)
class_of pool (Some other) name is so = absurd (cc so)

class_named : (pool : List Constant) → AreNamed pool → (index : ℕ) (name : List ℕ) → class_at pool index ≡ Some name → IsNoBrackets name
class_named pool all zero name so = absurd (cc so)
class_named pool all (suc place) name so = class_of pool (slice_get pool place) name (constant_named pool pool place all) so

-- ---- kinds that a class names or makes

module _ (pool : List Constant) (named : AreNamed pool) where
  class_at_index : (index : Option ℕ) (name : List ℕ) → option_and_then (class_at pool) index ≡ Some name → IsNoBrackets name
  class_at_index None name so = absurd (cc so)
  class_at_index (Some index) name so = class_named pool named index name so

  listed_lettered : (found : Option (List ℕ)) → ((name : List ℕ) → found ≡ Some name → IsNoBrackets name) → AllByRecursion IsLettered (listed found)
  listed_lettered None each = tt
  listed_lettered (Some name) each = (named_lettered name (each name refl), tt)

  names_lettered : (names : List (List ℕ)) → AllByRecursion IsLettered names → AllByRecursion IsLettered (flat_map kinds_of_name names)
  names_lettered names all = all_given IsLettered IsLettered kinds_of_name names (λ name lettered. name_lettered name (lettered_named name lettered)) all

  class_lettered : (index : ℕ) → AllByRecursion IsLettered (flat_map kinds_of_name (listed (class_at pool index)))
  class_lettered index = names_lettered (listed (class_at pool index)) (listed_lettered (class_at pool index) (class_named pool named index))

  operand_lettered : (operand : Operand) → AllByRecursion IsLettered (listed (named_in pool operand))
  operand_lettered operand = listed_lettered (named_in pool operand) (class_at_index (index_in operand))

  member_of_class : (kind : MemberKind) (class : Option (List ℕ)) (more : Option (List ℕ × List ℕ)) → ((name : List ℕ) → class ≡ Some name → IsNoBrackets name)
      → AllByRecursion IsLettered (member_kinds (option_and_then (λ class. option_map (λ names. record { kind = kind; class = class; name = names.0; descriptor = names.1 }) more) class))
  member_of_class kind None more each = tt
  member_of_class kind (Some name) None each = tt
  member_of_class kind (Some name) (Some texts) each = name_lettered name (each name refl)

  member_from_lettered : (found : Option (MemberKind × ℕ × ℕ)) → AllByRecursion IsLettered (member_kinds (option_and_then (member_from pool) found))
  member_from_lettered None = tt
  member_from_lettered (Some (kind, holder, member)) = member_of_class kind (class_at pool holder) (name_and_type_at pool member) (class_named pool named holder)

  member_lettered : (index : Option ℕ) → AllByRecursion IsLettered (member_kinds (option_and_then (member_at pool) index))
  member_lettered None = tt
  member_lettered (Some index) = member_from_lettered (option_and_then member_of (constant_at pool index))

  -- the arrays that an instruction makes, whatever its opcode
  abbrev arrays : Operand → List (List ℕ)
  arrays operand = made_by pool (record { opcode = 0; wide = false; operand = operand })

  base_lettered : (code : ℕ) → IsLettered (base_array code)
  base_lettered code = ap (λ (test : Bool). not test || false) (go (code == array_codes.BOOLEAN) (code == array_codes.CHAR) (code == array_codes.FLOAT) (code == array_codes.DOUBLE) (code == array_codes.BYTE) (code == array_codes.SHORT) (code == array_codes.LONG)) where
    go : (one two three four five six seven : Bool)
        → (cond one letter_boolean (cond two letter_char (cond three letter_float (cond four letter_double (cond five letter_byte (cond six letter_short (cond seven letter_long letter_int)))))) == bracket) ≡ false
    go true two three four five six seven = refl
    go false true three four five six seven = refl
    go false false true four five six seven = refl
    go false false false true five six seven = refl
    go false false false false true six seven = refl
    go false false false false false true seven = refl
    go false false false false false false true = refl
    go false false false false false false false = refl

  dimensions_lettered : (count : ℕ) (found : Option (List ℕ)) → ((name : List ℕ) → found ≡ Some name → IsNoBrackets name) → AllByRecursion IsLettered (take count (kinds_of_type (or_none found)))
  dimensions_lettered count None each = all_taken IsLettered count [] tt
  dimensions_lettered count (Some name) each = all_taken IsLettered count (kinds_of_type name) (some_lettered name (each name refl))

  arrays_lettered : (operand : Operand) → AllByRecursion IsLettered (arrays operand)
  arrays_lettered (operands.ArrayCode code) = (base_lettered code, tt)
  arrays_lettered (operands.Dimensions index count) = dimensions_lettered count (class_at pool index) (class_named pool named index)
  arrays_lettered other = tt

  array_lettered : (found : Option (List ℕ)) → ((name : List ℕ) → found ≡ Some name → IsNoBrackets name) → AllByRecursion IsLettered (map array_of (listed found))
  array_lettered None each = tt
  array_lettered (Some name) each = (named_lettered name (each name refl), tt)

  made_lettered : (insn : Insn) → AllByRecursion IsLettered (made_by pool insn)
  made_lettered insn = go (insn.opcode == opcodes.NEW) (insn.opcode == opcodes.ANEWARRAY) where
    go : (new array : Bool) → AllByRecursion IsLettered (cond new (listed (named_in pool insn.operand)) (cond array (map array_of (listed (named_in pool insn.operand))) (arrays insn.operand)))
    go true array = operand_lettered insn.operand
    go false true = array_lettered (named_in pool insn.operand) (class_at_index (index_in insn.operand))
    go false false = arrays_lettered insn.operand

  insn_lettered : (insn : Insn) → AllByRecursion IsLettered (insn_kinds pool insn)
  insn_lettered insn =
      let own : List (List ℕ) = flat_map kinds_of_name (listed (named_in pool insn.operand)) in
      let members : List (List ℕ) = member_kinds (option_and_then (member_at pool) (index_in insn.operand)) in
      let made : List (List ℕ) = flat_map kinds_of_name (made_by pool insn) in
      all_both IsLettered (own ++ members) made
      (all_both IsLettered own members (names_lettered (listed (named_in pool insn.operand)) (operand_lettered insn.operand)) (member_lettered (index_in insn.operand)))
      (names_lettered (made_by pool insn) (made_lettered insn))

  map_type_lettered : (type : MapType) → AllByRecursion IsLettered (type_kinds pool type)
  map_type_lettered (types.Object index) = class_lettered index
  map_type_lettered other = tt

  body_lettered : (body : Option Body) → AllByRecursion IsLettered (body_kinds pool body)
  body_lettered None = tt
  body_lettered (Some body) =
      let code : List (List ℕ) = flat_map (λ placed. insn_kinds pool placed.1) body.code in
      let handlers : List (List ℕ) = flat_map (handler_kinds pool) body.handlers in
      let frames : List (List ℕ) = flat_map (frame_kinds pool) body.frames in
      all_both IsLettered (code ++ handlers) frames
      (all_both IsLettered code handlers (all_lists IsLettered (λ placed. insn_kinds pool placed.1) body.code (λ placed. insn_lettered placed.1))
      (all_lists IsLettered (handler_kinds pool) body.handlers (λ handler. class_lettered handler.catch_type)))
      (all_lists IsLettered (frame_kinds pool) body.frames (λ frame. all_lists IsLettered (type_kinds pool) (frame.locals ++ frame.stack) map_type_lettered))

  method_lettered : (method : Method) → AllByRecursion IsLettered (method_kinds pool method)
  method_lettered method =
      all_both IsLettered (descriptor_kinds pool method.descriptor) (body_kinds pool method.body)
      (all_given HasLetter IsLettered kinds_of_type (types_of (or_none (text_at pool method.descriptor))) type_lettered (types_lettered (or_none (text_at pool method.descriptor))))
      (body_lettered method.body)

  field_lettered : (field : Field) → HasText pool field.descriptor IsFieldDescriptor → AllByRecursion IsLettered (field_kinds pool field)
  field_lettered field is = go (text_at pool field.descriptor) is where
    go : (found : Option (List ℕ)) → IsSomeAnd found IsFieldDescriptor → AllByRecursion IsLettered (kinds_of_type (or_none found))
    go None is = absurd is
    go (Some text) is = type_lettered text (spelled_lettered text is)

fields_named : (pool : List Constant) (bytes : List ℕ) (fields : List Field) → SpellsEach (SpellsField pool) bytes fields → AllByRecursion (λ field. HasText pool field.descriptor IsFieldDescriptor) fields
fields_named pool bytes [] spells = tt
fields_named pool bytes (field ∷ fields) (first, rest, spells, more, is) = (spells.named.1, fields_named pool rest fields more)

class_kinds_lettered : (class : ClassFile) → IsWellFormed class → AllByRecursion IsLettered (class_kinds class)
class_kinds_lettered class (bytes, spelled) =
    let own : List (List ℕ) = flat_map (field_kinds class.pool) class.fields in
    let others : List (List ℕ) = flat_map (method_kinds class.pool) class.methods in
    let contents = spelled.behind in
    let tables = contents.spelled.behind.spelled.behind.behind.here in
    all_both IsLettered own others
    (all_given (λ (field : Field). HasText class.pool field.descriptor IsFieldDescriptor) IsLettered (field_kinds class.pool) class.fields (field_lettered class.pool contents.pool_named)
    (fields_named class.pool tables.entries class.fields tables.each))
    (all_lists IsLettered (method_kinds class.pool) class.methods (method_lettered class.pool contents.pool_named))

-- ---- the kinds of a program

own_lettered : (classes : List ClassFile) → AllByRecursion HasOwnName classes → AllByRecursion IsLettered (map name_of classes)
own_lettered [] all = tt
own_lettered (class ∷ classes) all = (named_lettered (name_of class) (λ array. absurd (false≢true (sym all.0 ∙ array))), own_lettered classes all.1)

fixed_lettered : list_all (λ name. has_letter (type_of_name name)) (flat_map kinds_of_name fixed_kinds) ≡ true
fixed_lettered = refl

kinds_lettered : (classes : List ClassFile) → AllByRecursion IsWellFormed classes → AllByRecursion HasOwnName classes → AllByRecursion IsLettered (kinds classes)
kinds_lettered classes formed own =
    let fixed : List (List ℕ) = flat_map kinds_of_name fixed_kinds in
    all_firsts IsLettered (named_kinds classes)
    (all_both IsLettered (map name_of classes ++ flat_map class_kinds classes) fixed
    (all_both IsLettered (map name_of classes) (flat_map class_kinds classes) (own_lettered classes own) (all_given IsWellFormed IsLettered class_kinds classes class_kinds_lettered formed))
    (all_pass (λ name. has_letter (type_of_name name)) fixed fixed_lettered))

at_place : (names : List (List ℕ)) (place : ℕ) → place < length names → AllByRecursion IsLettered names → IsLettered (or_none (slice_get names place))
at_place [] place low all = absurd (past place low) where
  past : (place : ℕ) → place < 0 → ⊥
  past place low = omega (arith, low)
at_place (name ∷ names) zero low all = all.0
at_place (name ∷ names) (suc place) low all = at_place names place (omega (arith, low)) all.1

-- an object of a kind may be held as that kind
pub whole_holds_own : (program : Linked) → IsWhole program → AllByRecursion IsWellFormed program.classes → (kind : ℕ) → kind < length program.kinds → holds_kind program kind kind ≡ true
whole_holds_own program whole formed kind low =
    holds_own program kind low
    (at_place program.kinds kind low (subst (AllByRecursion IsLettered) (sym whole.kinds) (kinds_lettered program.classes formed whole.named)))
