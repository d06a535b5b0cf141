-- Kinds of objects by their names: that of a class, and an array's descriptor, as they stand in a constant (JVMS §4.4.1).
use Rattle.std.specs.Prelude.{ℕ, Bool, false, List, [], ◌∷◌, ◌++◌, not, ◌==◌, ◌||◌, if◌then◌else◌}
use Rattle.std.specs.List.{take_while}
use Rattle.cb_names.specs.Signs.{bracket, letter_class, semicolon}

-- the name of a class in a type, behind its L: up to a unit that stands in no such name, the semicolon or a bracket (JVMS §4.2.1)
abbrev pub ends_name : ℕ → Bool
ends_name unit = unit == semicolon || unit == bracket

abbrev pub name_in : List ℕ → List ℕ
name_in rest = take_while (λ unit. not (ends_name unit)) rest

-- the kind that a type is, and those of its components down to the last, if these are references
abbrev pub kinds_of_type : List ℕ → List (List ℕ)
kinds_of_type [] = []
kinds_of_type (unit ∷ rest) =
    if unit == bracket then (unit ∷ rest) ∷ kinds_of_type rest
    else if unit == letter_class then name_in rest ∷ []
    else []

abbrev begins_with : ℕ → List ℕ → Bool
begins_with unit [] = false
begins_with unit (first ∷ rest) = first == unit

abbrev pub is_array : List ℕ → Bool
is_array name = begins_with bracket name

-- those of a kind that is named
abbrev pub kinds_of_name : List ℕ → List (List ℕ)
kinds_of_name name = if is_array name then kinds_of_type name else name ∷ []

-- the descriptor of a kind, and the name of the array whose components are of a kind
abbrev pub type_of_name : List ℕ → List ℕ
type_of_name name = if is_array name then name else letter_class ∷ name ++ semicolon ∷ []

abbrev pub array_of : List ℕ → List ℕ
array_of name = bracket ∷ type_of_name name
