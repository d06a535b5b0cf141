-- Strings that are placed with their characters (JLS §3.10.5, §4.3.3).
use Rattle.std.specs.Prelude.{ℕ, pos, ◌+◌, List, [], ◌∷◌, ◌++◌, length, map, Option, Some}
use Rattle.cb_plain.specs.State.{Content, Number, Object, Reference}
use Rattle.cb_heap.specs.declared.text_sites.TextSites.{TextSites}

-- units as the contents of an array of chars, the array, and a string that refers to it
abbrev pub unit_contents : List ℕ → List Content
unit_contents units = map (λ unit. Number (pos unit)) units

abbrev pub array_of : (site kind : ℕ) → List ℕ → Object
array_of site kind units = record { site = site; kind = kind; contents = unit_contents units }

abbrev pub string_of : (site kind array : ℕ) → Object
string_of site kind array = record { site = site; kind = kind; contents = Reference array ∷ [] }

-- the array is placed first
abbrev pub with_text : TextSites → List ℕ → List (Option Object) → List (Option Object)
with_text sites units objects =
    objects ++ Some (array_of sites.characters sites.array units) ∷ Some (string_of sites.site sites.kind (length objects + 1)) ∷ []
