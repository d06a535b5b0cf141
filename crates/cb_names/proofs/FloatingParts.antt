-- Floating-point types in the parts of descriptors.
use Rattle.std.proofs.Common.{◌≡◌, ℕ, zero, suc, List, [], ◌∷◌, ◌++◌, Option, Some, None, replicate, refl, sym, ◌∙◌, ap, append_assoc}
use Rattle.std.specs.List.{AllByRecursion}
use Rattle.std.specs.Option.{option_or}
use Rattle.cb_names.specs.declared.base.BaseType.TheVariants as base
use Rattle.cb_names.specs.declared.floating.Floating.{Floating}
use Rattle.cb_names.specs.Signs.{semicolon, bracket, right_parenthesis}
use Rattle.cb_names.specs.Names.{IsClassName}
use Rattle.cb_names.specs.Types.{Element, Primitive, Named, JavaType, JavaMethodType, IsElement, IsType, SpellsMethodType, element_text, type_text, result_text}
use Rattle.cb_names.specs.Descriptors.{floating_in, floating_behind}
use Rattle.cb_names.specs.FirstFloating.{first_floating}
use Rattle.cb_names.proofs.ClassNames.{GoesOn, class_goes_on}
use Rattle.cb_names.proofs.ParameterTypes.{texts}

-- the name of a class is passed over
behind_name : (name rest : List ℕ) → AllByRecursion GoesOn name → floating_behind (name ++ semicolon ∷ rest) ≡ floating_in rest
behind_name [] rest goes_on = refl
behind_name (unit ∷ name) rest goes_on = rw goes_on.0 (behind_name name rest goes_on.1)

pub class_none : (name : List ℕ) → IsClassName name → floating_in (element_text (Named name)) ≡ None
class_none name named = behind_name name [] (class_goes_on name named)

pub of_array : (dimensions : ℕ) (element : List ℕ) → floating_in (replicate dimensions bracket ++ element) ≡ floating_in element
of_array zero element = refl
of_array (suc dimensions) element = of_array dimensions element

-- the first of an element and what stands behind it
of_element : (element : Element) (rest : List ℕ) → IsElement element → floating_in (element_text element ++ rest) ≡ option_or (floating_in (element_text element)) (floating_in rest)
of_element (Primitive base.Byte) rest is = refl
of_element (Primitive other) rest is = refl
of_element (Named name) rest named =
    ap floating_behind (append_assoc name (semicolon ∷ []) rest)
    ∙ behind_name name rest (class_goes_on name named)
    ∙ ap (λ first. option_or first (floating_in rest)) (sym (class_none name named))

of_type : (type : JavaType) (rest : List ℕ) → IsType type → floating_in (type_text type ++ rest) ≡ option_or (floating_in (type_text type)) (floating_in rest)
of_type type rest is =
    ap floating_in (append_assoc (replicate type.dimensions bracket) (element_text type.element) rest)
    ∙ of_array type.dimensions (element_text type.element ++ rest)
    ∙ of_element type.element rest is.element
    ∙ ap (λ first. option_or first (floating_in rest)) (sym (of_array type.dimensions (element_text type.element)))

or-assoc : (one two three : Option Floating) → option_or one (option_or two three) ≡ option_or (option_or one two) three
or-assoc None two three = refl
or-assoc (Some one) two three = refl

of_parameters : (parameters : List JavaType) (rest : List ℕ) → AllByRecursion IsType parameters → floating_in (texts parameters ++ rest) ≡ option_or (first_floating parameters) (floating_in rest)
of_parameters [] rest types = refl
of_parameters (first ∷ others) rest types =
    ap floating_in (append_assoc (type_text first) (texts others) rest)
    ∙ of_type first (texts others ++ rest) types.0
    ∙ ap (option_or (floating_in (type_text first))) (of_parameters others rest types.1)
    ∙ or-assoc (floating_in (type_text first)) (first_floating others) (floating_in rest)

pub of_method : (text : List ℕ) (type : JavaMethodType) → SpellsMethodType text type → floating_in text ≡ option_or (first_floating type.parameters) (floating_in (result_text type.result))
of_method text type spells =
    ap floating_in spells.spelled ∙ of_parameters type.parameters (right_parenthesis ∷ result_text type.result) spells.parameters

-- the first of one type more
first_more : (types : List JavaType) (last : JavaType) → first_floating (types ++ last ∷ []) ≡ option_or (first_floating types) (floating_in (type_text last))
first_more [] last = or_none (floating_in (type_text last)) where
  or_none : (one : Option Floating) → option_or one None ≡ one
  or_none None = refl
  or_none (Some one) = refl
first_more (first ∷ types) last =
    ap (option_or (floating_in (type_text first))) (first_more types last)
    ∙ or-assoc (floating_in (type_text first)) (first_floating types) (floating_in (type_text last))

pub floating_more : (types : List JavaType) (last : JavaType) (before more after : Option Floating) → before ≡ first_floating types → more ≡ floating_in (type_text last) → after ≡ option_or before more → after ≡ first_floating (types ++ last ∷ [])
floating_more types last before more after so_far is either = either ∙ ap (λ one. option_or one more) so_far ∙ ap (option_or (first_floating types)) is ∙ sym (first_more types last)

-- a method's is that of its parameters or of what it gives
pub floating_of_both : (text : List ℕ) (type : JavaMethodType) (front back found : Option Floating) → SpellsMethodType text type → front ≡ first_floating type.parameters → back ≡ floating_in (result_text type.result) → found ≡ option_or front back → found ≡ floating_in text
floating_of_both text type front back found spells of_front of_back either =
    either ∙ ap (λ one. option_or one back) of_front ∙ ap (option_or (first_floating type.parameters)) of_back ∙ sym (of_method text type spells)
