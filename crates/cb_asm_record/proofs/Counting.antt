-- Descriptors, unit by unit.
use Rattle.std.proofs.Common.{◌≡◌, ◌∙◌, ap, sym, refl, arith, ℕ, zero, suc, ◌+◌, Bool, true, false, List, [], ◌∷◌, ◌++◌, ◌==◌, if◌then◌else◌, map}
use Rattle.std.specs.List.{fold}
use Rattle.cb_names.specs.Signs.{right_parenthesis, semicolon, bracket, letter_class}
use Rattle.cb_names.specs.Types.{Primitive, Named, parameters_words, type_words}
use Rattle.cb_asm_line.specs.Parameters.{base_of, named_behind, types_behind}

named_word : (brackets : ℕ) (name : List ℕ) → type_words (record { dimensions = brackets; element = Named name }) ≡ 1
named_word zero name = refl
named_word (suc brackets) name = refl

-- the name of a class and the brackets before it change nothing
pub names_alike : (one other : ℕ) (name kind text : List ℕ) → parameters_words (named_behind one name text) ≡ parameters_words (named_behind other kind text)
names_alike one other name kind [] = refl
names_alike one other name kind (unit ∷ text) = by_test (unit == semicolon) (names_alike one other (name ++ unit ∷ []) (kind ++ unit ∷ []) text)
  where
    by_test : (test : Bool) → parameters_words (named_behind one (name ++ unit ∷ []) text) ≡ parameters_words (named_behind other (kind ++ unit ∷ []) text)
        → parameters_words (if test then record { dimensions = one; element = Named name } ∷ types_behind zero text else named_behind one (name ++ unit ∷ []) text)
        ≡ parameters_words (if test then record { dimensions = other; element = Named kind } ∷ types_behind zero text else named_behind other (kind ++ unit ∷ []) text)
    by_test true rest = ap (λ first. fold ◌+◌ (0 + first) (map type_words (types_behind zero text))) (named_word one name ∙ sym (named_word other kind))
    by_test false rest = rest

-- and whether there are one bracket or more
pub brackets_alike : (one other : ℕ) (text : List ℕ) → parameters_words (types_behind (suc one) text) ≡ parameters_words (types_behind (suc other) text)
brackets_alike one other [] = refl
brackets_alike one other (unit ∷ text) = by_tests (unit == right_parenthesis) (unit == bracket) (unit == letter_class) (brackets_alike (suc one) (suc other) text)
  where
    by_tests : (closing opening class : Bool) → parameters_words (types_behind (suc (suc one)) text) ≡ parameters_words (types_behind (suc (suc other)) text)
        → parameters_words (if closing then [] else if opening then types_behind (suc (suc one)) text else if class then named_behind (suc one) [] text else record { dimensions = suc one; element = Primitive (base_of unit) } ∷ types_behind zero text)
        ≡ parameters_words (if closing then [] else if opening then types_behind (suc (suc other)) text else if class then named_behind (suc other) [] text else record { dimensions = suc other; element = Primitive (base_of unit) } ∷ types_behind zero text)
    by_tests true opening class rest = refl
    by_tests false true class rest = rest
    by_tests false false true rest = names_alike (suc one) (suc other) [] [] text
    by_tests false false false rest = refl

pub at_bracket : (brackets unit : ℕ) (text : List ℕ) → unit ≡ 91 → parameters_words (types_behind brackets (unit ∷ text)) ≡ 0 + parameters_words (types_behind 1 text)
at_bracket brackets unit text is = rw is (let alike = brackets_alike brackets 0 text in omega (arith, alike))

pub at_class : (brackets unit : ℕ) (text : List ℕ) → unit ≡ 76 → parameters_words (types_behind brackets (unit ∷ text)) ≡ 0 + parameters_words (named_behind 0 [] text)
at_class brackets unit text is = rw is (let alike = names_alike brackets 0 [] [] text in omega (arith, alike))

-- a name goes on
pub in_name : (unit : ℕ) (text : List ℕ) → (unit == semicolon) ≡ false → parameters_words (named_behind 0 [] (unit ∷ text)) ≡ 0 + parameters_words (named_behind 0 [] text)
in_name unit text is =
    ap (λ test. parameters_words (if test then record { dimensions = 0; element = Named [] } ∷ types_behind 0 text else named_behind 0 (unit ∷ []) text)) is
    ∙ (let alike = names_alike 0 0 (unit ∷ []) [] text in omega (arith, alike))
