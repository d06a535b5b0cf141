-- The types of parameters are those of the grammar.
use Rattle.std.proofs.Common.{◌≡◌, ◌≢◌, ◌∙◌, ap, sym, refl, subst, arith, append_assoc, append-nil, ℕ, zero, suc, ◌+◌, Bool, true, false, List, [], ◌∷◌, ◌++◌, replicate, map, ◌==◌, if◌then◌else◌}
use Rattle.std.specs.List.{AllByRecursion, concat, join_with_byte}
use Rattle.std.proofs.lemmas.Bool.{eqb-true}
use Rattle.cb_names.specs.declared.base.BaseType.TheVariants as base
use Rattle.cb_names.specs.Names.{MayStandInName, IsUnqualifiedName, IsClassName}
use Rattle.cb_names.specs.Signs.{semicolon, slash, bracket, right_parenthesis}
use Rattle.cb_names.specs.Types.{Element, Primitive, Named, JavaType, JavaMethodType, IsElement, IsType, SpellsMethodType, element_text, type_text, result_text}
use Rattle.cb_asm_line.specs.Parameters.{named_behind, types_behind, parameters_of}

NoEnd : List ℕ → Type 0
NoEnd name = AllByRecursion (λ unit. unit ≢ semicolon) name

both_no_end : (one other : List ℕ) → NoEnd one → NoEnd other → NoEnd (one ++ other)
unfolding NoEnd
both_no_end [] other none ends = ends
both_no_end (unit ∷ one) other none ends = (none.0, both_no_end one other none.1 ends)

part_no_end : (part : List ℕ) → AllByRecursion MayStandInName part → NoEnd part
unfolding NoEnd
part_no_end [] stand = tt
part_no_end (unit ∷ part) stand = (stand.0.1, part_no_end part stand.1)

parts_no_end : (parts : List (List ℕ)) → AllByRecursion IsUnqualifiedName parts → NoEnd (join_with_byte slash parts)
unfolding NoEnd
parts_no_end [] stand = tt
parts_no_end (part ∷ []) stand = part_no_end part stand.0.1
parts_no_end (part ∷ next ∷ parts) stand = both_no_end part _ (part_no_end part stand.0.1) ((λ is. omega (arith, is)), parts_no_end (next ∷ parts) stand.1)

class_no_end : (name : List ℕ) → IsClassName name → NoEnd name
class_no_end name (parts, some, named, is) = subst NoEnd (sym is) (parts_no_end parts named)

-- a name up to its semicolon
named : (name rest seen : List ℕ) (brackets : ℕ) → NoEnd name
    → named_behind brackets seen (name ++ semicolon ∷ rest) ≡ record { dimensions = brackets; element = Named (seen ++ name) } ∷ types_behind zero rest
unfolding NoEnd
named [] rest seen brackets ends = ap (λ name. record { dimensions = brackets; element = Named name } ∷ types_behind zero rest) (sym (append-nil seen))
named (unit ∷ name) rest seen brackets ends = by_test (unit == semicolon) refl (named name rest (seen ++ unit ∷ []) brackets ends.1)
  where
    by_test : (test : Bool) → (unit == semicolon) ≡ test
        → named_behind brackets (seen ++ unit ∷ []) (name ++ semicolon ∷ rest) ≡ record { dimensions = brackets; element = Named (seen ++ unit ∷ [] ++ name) } ∷ types_behind zero rest
        → (if test then record { dimensions = brackets; element = Named seen } ∷ types_behind zero (name ++ semicolon ∷ rest) else named_behind brackets (seen ++ unit ∷ []) (name ++ semicolon ∷ rest))
        ≡ record { dimensions = brackets; element = Named (seen ++ unit ∷ name) } ∷ types_behind zero rest
    by_test true told next = absurd (ends.0 (eqb-true unit semicolon told))
    by_test false told next = next ∙ ap (λ all. record { dimensions = brackets; element = Named all } ∷ types_behind zero rest) (append_assoc seen (unit ∷ []) name)

-- brackets in front
bracketed : (count brackets : ℕ) (text : List ℕ) → types_behind brackets (replicate count bracket ++ text) ≡ types_behind (brackets + count) text
bracketed zero brackets text = ap (λ all. types_behind all text) (omega arith)
bracketed (suc count) brackets text = bracketed count (suc brackets) text ∙ ap (λ all. types_behind all text) (omega arith)

-- an element behind its brackets
element : (element : Element) (brackets : ℕ) (rest : List ℕ) → IsElement element
    → types_behind brackets (element_text element ++ rest) ≡ record { dimensions = brackets; element = element } ∷ types_behind zero rest
element (Primitive base.Byte) brackets rest is = refl
element (Primitive base.Char) brackets rest is = refl
element (Primitive base.Double) brackets rest is = refl
element (Primitive base.Float) brackets rest is = refl
element (Primitive base.Int) brackets rest is = refl
element (Primitive base.Long) brackets rest is = refl
element (Primitive base.Short) brackets rest is = refl
element (Primitive base.Boolean) brackets rest is = refl
element (Named name) brackets rest is =
    ap (named_behind brackets []) (append_assoc name (semicolon ∷ []) rest) ∙ named name rest [] brackets (class_no_end name is)

-- a type, and the types of parameters
one_type : (type : JavaType) (rest : List ℕ) → IsType type → types_behind zero (type_text type ++ rest) ≡ type ∷ types_behind zero rest
one_type type rest is =
    ap (types_behind zero) (append_assoc (replicate type.dimensions bracket) (element_text type.element) rest)
    ∙ bracketed type.dimensions zero (element_text type.element ++ rest)
    ∙ ap (λ brackets. types_behind brackets (element_text type.element ++ rest)) (omega arith)
    ∙ element type.element type.dimensions rest is.element

each_type : (types : List JavaType) (rest : List ℕ) → AllByRecursion IsType types → types_behind zero (concat (map type_text types) ++ right_parenthesis ∷ rest) ≡ types
each_type [] rest are = refl
each_type (type ∷ types) rest are =
    ap (types_behind zero) (append_assoc (type_text type) (concat (map type_text types)) (right_parenthesis ∷ rest))
    ∙ one_type type (concat (map type_text types) ++ right_parenthesis ∷ rest) are.0
    ∙ ap (λ others. type ∷ others) (each_type types rest are.1)

pub parameters_are : (text : List ℕ) (type : JavaMethodType) → SpellsMethodType text type → parameters_of text ≡ type.parameters
parameters_are text type spells = ap parameters_of spells.spelled ∙ each_type type.parameters (result_text type.result) spells.parameters
