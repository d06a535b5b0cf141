-- A method of a linked program has few parameters: each takes a word at least, and these are at most 255 (JVMS §4.3.3). And the program lists
-- the methods of its classes.
use Rattle.std.proofs.Common.{◌≡◌, ◌∙◌, ap, refl, sym, subst, arith, ℕ, zero, suc, ◌+◌, ◌≤◌, List, [], ◌∷◌, ◌++◌, length, map, Option, Some, None, option_map, slice_get}
use Rattle.std.specs.Prelude.{IsSomeAnd}
use Rattle.std.specs.List.{AllByRecursion}
use Rattle.std.proofs.lemmas.List.{length-map}
use Rattle.std.proofs.lemmas.List.Sums.{sum_by-cons}
use Rattle.std.proofs.lemmas.Option.{slice_get-map}
use Rattle.cb_classfile.specs.Class.{IsWellFormed}
use Rattle.cb_classfile.specs.Members.{HasFewWords, IsMethod, SpellsMethod}
use Rattle.cb_classfile.specs.Pool.{text_at}
use Rattle.cb_classfile.specs.Tables.{SpellsEach}
use Rattle.cb_classfile.specs.declared.class.ClassFile.{ClassFile}
use Rattle.cb_classfile.specs.declared.method.Method.{Method}
use Rattle.cb_kinds.proofs.Laws.{method_parameters}
use Rattle.cb_kinds.specs.Basics.{basic_of}
use Rattle.cb_kinds.specs.Descriptors.{parameters_of}
use Rattle.cb_link.proofs.Laws.{placed}
use Rattle.cb_link.specs.Having.{parameters_at}
use Rattle.cb_link.specs.Making.{kinds}
use Rattle.cb_link.specs.Numbers.{Numbered, methods_of, or_none}
use Rattle.cb_link.specs.Places.{IsPlaced}
use Rattle.cb_link.specs.Program.{Linked, linked, linked_method}
use Rattle.cb_link.specs.declared.linked.LinkedMethod.{LinkedMethod}
use Rattle.cb_names.specs.Types.{Element, JavaType, Named, Primitive, parameters_words, type_text, type_words}
use Rattle.cb_names.specs.declared.base.BaseType.TheVariants as base
use Rattle.cb_safety.specs.Linked.{IsLinked}
use Rattle.cb_text.specs.declared.constant.Constant.{Constant}
use Rattle.cb_act.proofs.Laws.{all_at, all_joined}
use Rattle.cb_act.specs.Acting.{HasFewParameters, ListsMethods}

-- ---- of one method

-- a type takes a word at least
some_words : (dimensions : ℕ) (element : Element) → 1 ≤ type_words (record { dimensions = dimensions; element = element })
some_words (suc dimensions) element = omega arith
some_words zero (Named name) = omega arith
some_words zero (Primitive base.Long) = omega arith
some_words zero (Primitive base.Double) = omega arith
some_words zero (Primitive base.Byte) = omega arith
some_words zero (Primitive base.Char) = omega arith
some_words zero (Primitive base.Float) = omega arith
some_words zero (Primitive base.Int) = omega arith
some_words zero (Primitive base.Short) = omega arith
some_words zero (Primitive base.Boolean) = omega arith

below_words : (parameters : List JavaType) → length parameters ≤ parameters_words parameters
below_words [] = omega arith
below_words (type ∷ parameters) =
    let first = some_words type.dimensions type.element in
    let rest = below_words parameters in
    let sums : parameters_words (type ∷ parameters) ≡ type_words type + parameters_words parameters = sum_by-cons (λ words. words) (type_words type) (map type_words parameters) in
    omega (arith, first, rest, sums)

few_of_text : (flags : ℕ) (text : List ℕ) → HasFewWords flags text → length (parameters_of text) ≤ 255
few_of_text flags text few =
    let spells = few.1.spells in
    let type = few.1.type in
    let counted : length (parameters_of text) ≡ length type.parameters =
    ap (λ (types : List (List ℕ)). length types) (method_parameters text type spells) ∙ length-map type.parameters type_text in
    let words = below_words type.parameters in
    let bound = spells.few in
    omega (arith, counted, words, bound)

few_found : (flags : ℕ) (found : Option (List ℕ)) → IsSomeAnd found (HasFewWords flags) → length (parameters_of (or_none found)) ≤ 255
few_found flags None is = absurd is
few_found flags (Some text) is = few_of_text flags text is

-- ---- of the methods of a well formed class

methods_ruled : (pool : List Constant) (bytes : List ℕ) (methods : List Method) → SpellsEach (SpellsMethod pool) bytes methods → AllByRecursion (IsMethod pool) methods
methods_ruled pool bytes [] spells = tt
methods_ruled pool bytes (method ∷ methods) (first, rest, spells, more, is) = (spells.rules, methods_ruled pool rest methods more)

pub class_ruled : (class : ClassFile) → IsWellFormed class → AllByRecursion (IsMethod class.pool) class.methods
class_ruled class (bytes, spelled) =
    let tables = spelled.behind.spelled.behind.spelled.behind.behind.behind.here in
    methods_ruled class.pool tables.entries class.methods tables.each

pub method_ruled : (classes : List ClassFile) → AllByRecursion IsWellFormed classes → (number : ℕ) (own : Numbered Method) → slice_get (methods_of classes) number ≡ Some own
    → IsMethod own.pool own.member
method_ruled classes formed number own is =
    let at : IsPlaced (λ (class : ClassFile). class.methods) classes own = placed (λ (class : ClassFile). class.methods) classes number own is in
    subst (λ (pool : List Constant). IsMethod pool own.member) (sym at.of_pool)
    (all_at (IsMethod at.declaring.pool) at.declaring.methods own.place own.member
    (class_ruled at.declaring (all_at IsWellFormed classes own.class at.declaring formed at.declares)) at.lists)

-- ---- of a program

module _ (classes : List ClassFile) (formed : AllByRecursion IsWellFormed classes) (main : List ℕ) (begins : ℕ) where
  abbrev counted : Option LinkedMethod → ℕ
  counted None = 0
  counted (Some own) = length own.parameters

  counts : (method : ℕ) → (found : Option LinkedMethod) → slice_get (linked classes main begins).methods method ≡ found → length (parameters_at (linked classes main begins) method) ≡ counted found
  counts method None is = rw is refl
  counts method (Some own) is = rw is refl

  few_in : (method : ℕ) (found : Option (Numbered Method)) → slice_get (methods_of classes) method ≡ found → counted (option_map (linked_method (kinds classes)) found) ≤ 255
  few_in method None is = omega arith
  few_in method (Some own) is =
      let texts = parameters_of (or_none (text_at own.pool own.member.descriptor)) in
      let mapped : length (map (basic_of (kinds classes)) texts) ≡ length texts = length-map texts (basic_of (kinds classes)) in
      let few = few_found own.member.flags.0 (text_at own.pool own.member.descriptor) (method_ruled classes formed method own is).words in
      omega (arith, mapped, few)

  linked_few : HasFewParameters (linked classes main begins)
  linked_few method =
      let same : length (parameters_at (linked classes main begins) method) ≡ counted (option_map (linked_method (kinds classes)) (slice_get (methods_of classes) method)) =
      counts method (option_map (linked_method (kinds classes)) (slice_get (methods_of classes) method)) (slice_get-map (linked_method (kinds classes)) (methods_of classes) method) in
      let few = few_in method (slice_get (methods_of classes) method) refl in
      omega (arith, same, few)

pub few_parameters : (program : Linked) → IsLinked program → HasFewParameters program
few_parameters program is =
    subst HasFewParameters (sym is.all)
    (linked_few (is.library ++ is.more) (all_joined IsWellFormed is.library is.more is.library_formed is.well_formed) is.main is.method)

-- a linked program lists the methods of its classes
pub lists_methods : (program : Linked) → IsLinked program → ListsMethods program
lists_methods program is = subst ListsMethods (sym is.all) refl
