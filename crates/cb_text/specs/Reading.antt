-- Reading constants from left to right. What private contracts and proofs cite: no public clause names this file.
use Rattle.std.specs.Prelude.{◌≡◌, ◌^◌, ◌<◌, ℕ, List, length}
use Rattle.std.specs.List.{AllByRecursion, flat_map}
use Rattle.cb_text.specs.declared.constant.Constant.{Constant}
use Rattle.cb_text.specs.declared.constant.Constant.TheVariants.{Long, Double, Gap}
use Rattle.cb_text.specs.Pool.{Fits, constant_bytes, AreLaidOut}
use Rattle.cb_text.specs.Text.{unit_bytes}

-- the bytes are a unit
abbrev pub SpellsUnit : List ℕ → ℕ → Type 0
SpellsUnit bytes unit = (unit < 2 ^ 16) × (bytes ≡ unit_bytes unit)

-- it has bytes: it is no gap
abbrev pub HasBytes : Constant → Type 0
HasBytes Gap = ⊥
HasBytes other = Unit {0}

-- it takes two indices
abbrev pub IsWide : Constant → Type 0
IsWide (Long number) = Unit {0}
IsWide (Double bits) = Unit {0}
IsWide other = ⊥

-- the bytes are a constant, which a gap's are not
abbrev pub SpellsConstant : List ℕ → Constant → Type 0
SpellsConstant bytes constant = HasBytes constant × Fits constant × (bytes ≡ constant_bytes constant)

-- the bytes are so many constants, with their gaps
pub record SpellsConstants (count : ℕ) (bytes : List ℕ) (constants : List Constant) : Type 0 where
  pub counted : length constants ≡ count
  pub fit : AllByRecursion Fits constants
  pub laid_out : AreLaidOut constants
  pub spelled : bytes ≡ flat_map constant_bytes constants
