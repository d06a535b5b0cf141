-- The signs of what the grammar spells.
use Rattle.std.proofs.Common.{◌≡◌, ◌≢◌, ◌∙◌, ap, refl, sym, subst, arith, ℕ, zero, suc, cond, List, [], ◌∷◌, ◌++◌, Option, Some, None, IfSome, map, option_map, replicate, append_assoc}
use Rattle.std.specs.List.{AllByRecursion, concat, join_with_byte}
use Rattle.std.proofs.lemmas.Bool.{ne_eqb}
use Rattle.std.proofs.lemmas.List.{append-nil}
use Rattle.cb_names.specs.declared.base.BaseType.TheVariants as base
use Rattle.cb_names.specs.declared.base.BaseType.{BaseType}
use Rattle.cb_names.specs.Names.{IsClassName, IsUnqualifiedName, MayStandInName}
use Rattle.cb_names.specs.Signs.{bracket, letter_class, right_parenthesis, semicolon, slash}
use Rattle.cb_names.specs.Types.{Element, IsElement, IsType, JavaMethodType, JavaType, Named, Primitive, SpellsMethodType, SpellsType, element_text, letter_of, result_text, type_text}
use Rattle.cb_kinds.specs.Descriptors.{all_types, behind, in_front, parameters_of, result_of, signs, signs_behind, signs_in_name, types_of}

-- no unit of a name is a semicolon
abbrev HasNoEnd : List ℕ → Type 0
HasNoEnd text = AllByRecursion (λ unit. unit ≢ semicolon) text

part_no_end : (part more : List ℕ) → AllByRecursion MayStandInName part → HasNoEnd more → HasNoEnd (part ++ more)
part_no_end [] more stand rest = rest
part_no_end (unit ∷ part) more stand rest = (stand.0.1, part_no_end part more stand.1 rest)

join_no_end : (parts : List (List ℕ)) → AllByRecursion IsUnqualifiedName parts → HasNoEnd (join_with_byte slash parts)
join_no_end [] named = tt
join_no_end (part ∷ []) named = subst HasNoEnd (append-nil part) (part_no_end part [] named.0.1 tt)
join_no_end (part ∷ next ∷ parts) named = part_no_end part (slash ∷ join_with_byte slash (next ∷ parts)) named.0.1 (λ is. omega arith, join_no_end (next ∷ parts) named.1)

name_no_end : (name : List ℕ) → IsClassName name → HasNoEnd name
name_no_end name (parts, some, named, is) = subst HasNoEnd (sym is) (join_no_end parts named)

-- so it goes up to the semicolon behind it
in_name : (read name rest : List ℕ) → HasNoEnd name → signs_in_name read (name ++ semicolon ∷ rest) ≡ Some (read ++ (name ++ semicolon ∷ [])) ∷ signs rest
in_name read [] rest free = refl
in_name read (unit ∷ name) rest free =
    ap (λ test. cond test (Some (read ++ unit ∷ []) ∷ signs (name ++ semicolon ∷ rest)) (signs_in_name (read ++ unit ∷ []) (name ++ semicolon ∷ rest))) (ne_eqb unit semicolon free.0)
    ∙ in_name (read ++ unit ∷ []) name rest free.1
    ∙ ap (λ text. Some text ∷ signs rest) (append_assoc read (unit ∷ []) (name ++ semicolon ∷ []))

base_sign : (read rest : List ℕ) (letter : BaseType) → signs_behind read (letter_of letter ∷ rest) ≡ Some (read ++ letter_of letter ∷ []) ∷ signs rest
base_sign read rest base.Byte = refl
base_sign read rest base.Char = refl
base_sign read rest base.Double = refl
base_sign read rest base.Float = refl
base_sign read rest base.Int = refl
base_sign read rest base.Long = refl
base_sign read rest base.Short = refl
base_sign read rest base.Boolean = refl

element_sign : (read rest : List ℕ) (element : Element) → IsElement element → signs_behind read (element_text element ++ rest) ≡ Some (read ++ element_text element) ∷ signs rest
element_sign read rest (Primitive base) is = base_sign read rest base
element_sign read rest (Named name) is =
    ap (signs_in_name (read ++ letter_class ∷ [])) (append_assoc name (semicolon ∷ []) rest)
    ∙ in_name (read ++ letter_class ∷ []) name rest (name_no_end name is)
    ∙ ap (λ text. Some text ∷ signs rest) (append_assoc read (letter_class ∷ []) (name ++ semicolon ∷ []))

-- a type at the front is the first sign
dimensions_sign : (read rest : List ℕ) (dimensions : ℕ) (element : Element) → IsElement element
    → signs_behind read ((replicate dimensions bracket ++ element_text element) ++ rest) ≡ Some (read ++ (replicate dimensions bracket ++ element_text element)) ∷ signs rest
dimensions_sign read rest zero element is = element_sign read rest element is
dimensions_sign read rest (suc dimensions) element is =
    dimensions_sign (read ++ bracket ∷ []) rest dimensions element is
    ∙ ap (λ text. Some text ∷ signs rest) (append_assoc read (bracket ∷ []) (replicate dimensions bracket ++ element_text element))

type_sign : (rest : List ℕ) (type : JavaType) → IsType type → signs (type_text type ++ rest) ≡ Some (type_text type) ∷ signs rest
type_sign rest type is = dimensions_sign [] rest type.dimensions type.element is.element

last_sign : (type : JavaType) → IsType type → signs (type_text type) ≡ Some (type_text type) ∷ []
last_sign type is = ap signs (sym (append-nil (type_text type))) ∙ type_sign [] type is

pub field_types : (text : List ℕ) (type : JavaType) → SpellsType text type → types_of text ≡ text ∷ []
field_types text type spells = subst (λ text. types_of text ≡ text ∷ []) (sym spells.spelled) (ap all_types (last_sign type spells.is))

-- types in parentheses
parameter_signs : (parameters : List JavaType) (rest : List ℕ) → AllByRecursion IsType parameters
    → signs (concat (map type_text parameters) ++ rest) ≡ map Some (map type_text parameters) ++ signs rest
parameter_signs [] rest are = refl
parameter_signs (type ∷ parameters) rest are =
    ap signs (append_assoc (type_text type) (concat (map type_text parameters)) rest)
    ∙ type_sign (concat (map type_text parameters) ++ rest) type are.0
    ∙ ap (λ more. Some (type_text type) ∷ more) (parameter_signs parameters rest are.1)

-- the sign of a result
abbrev result_signs : Option JavaType → List (Option (List ℕ))
result_signs None = []
result_signs (Some type) = Some (type_text type) ∷ []

result_sign : (result : Option JavaType) → IfSome result IsType → signs (result_text result) ≡ result_signs result
result_sign None is = refl
result_sign (Some type) is = last_sign type is

method_signs : (text : List ℕ) (type : JavaMethodType) → SpellsMethodType text type
    → signs text ≡ map Some (map type_text type.parameters) ++ None ∷ result_signs type.result
method_signs text type spells =
    ap signs spells.spelled
    ∙ parameter_signs type.parameters (right_parenthesis ∷ result_text type.result) spells.parameters
    ∙ ap (λ rest. map Some (map type_text type.parameters) ++ None ∷ rest) (result_sign type.result spells.result)

front_all : (types : List (List ℕ)) (rest : List (Option (List ℕ))) → in_front (map Some types ++ None ∷ rest) ≡ types
front_all [] rest = refl
front_all (type ∷ types) rest = ap (λ types. type ∷ types) (front_all types rest)

behind_all : (types : List (List ℕ)) (result : Option JavaType) → behind (map Some types ++ None ∷ result_signs result) ≡ option_map type_text result
behind_all [] None = refl
behind_all [] (Some type) = refl
behind_all (type ∷ types) result = behind_all types result

pub method_parameters : (text : List ℕ) (type : JavaMethodType) → SpellsMethodType text type → parameters_of text ≡ map type_text type.parameters
method_parameters text type spells = ap in_front (method_signs text type spells) ∙ front_all (map type_text type.parameters) (result_signs type.result)

pub method_result : (text : List ℕ) (type : JavaMethodType) → SpellsMethodType text type → result_of text ≡ option_map type_text type.result
method_result text type spells = ap behind (method_signs text type spells) ∙ behind_all (map type_text type.parameters) type.result
