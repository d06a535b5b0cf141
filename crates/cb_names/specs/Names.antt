-- Names of classes and of members (JVMS §4.2), as lists of UTF-16 units.
use Rattle.std.specs.Prelude.{◌≡◌, ◌≢◌, ◌⊎◌, ℕ, ◌<◌, List, length}
use Rattle.std.specs.List.{AllByRecursion, join_with_byte}
use Rattle.cb_names.specs.Signs.{dot, slash, semicolon, less, greater, bracket, name_init, name_clinit}

-- an unqualified name: at least one unit, and none of `.`, `;`, `[` and `/` (JVMS §4.2.2)
abbrev pub MayStandInName : ℕ → Type 0
MayStandInName unit = (unit ≢ dot) × (unit ≢ semicolon) × (unit ≢ bracket) × (unit ≢ slash)

abbrev pub IsUnqualifiedName : List ℕ → Type 0
IsUnqualifiedName name = (0 < length name) × AllByRecursion MayStandInName name

-- a method's name: of those that hold `<` or `>` there are only <init> and <clinit> (JVMS §4.2.2)
abbrev pub HasNoAngle : List ℕ → Type 0
HasNoAngle name = AllByRecursion (λ unit. (unit ≢ less) × (unit ≢ greater)) name

abbrev pub IsMethodName : List ℕ → Type 0
IsMethodName name = (name ≡ name_init) ⊎ (name ≡ name_clinit) ⊎ (IsUnqualifiedName name × HasNoAngle name)

-- the name of a class or interface, in internal form: unqualified names with `/` between them (JVMS §4.2.1)
abbrev pub IsClassName : List ℕ → Type 0
IsClassName name = (parts : List (List ℕ)) × (0 < length parts) × AllByRecursion IsUnqualifiedName parts × (name ≡ join_with_byte slash parts)
