-- The places of instructions.
use Rattle.std.specs.Prelude.{ℕ, ◌<◌, List, [], ◌∷◌, map, Contains}
use Rattle.cb_insn.specs.declared.insn.Insn.{Insn}

-- the places at which they begin
abbrev pub places : List (ℕ × Insn) → List ℕ
places code = map (λ placed. placed.0) code

-- an instruction of the code has the place
unfoldable pub HasPlace : List (ℕ × Insn) → ℕ → Type 0
HasPlace code pc = Contains (places code) pc

-- each place is above the one before it
abbrev pub Rise : List ℕ → Type 0
Rise [] = Unit {0}
Rise (one ∷ []) = Unit {0}
Rise (one ∷ next ∷ places) = (one < next) × Rise (next ∷ places)
