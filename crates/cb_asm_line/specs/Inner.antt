-- What private contracts and proofs cite: no public clause names this file.
use Rattle.std.specs.Prelude.{◌≡◌, ◌≢◌, ◌⊎◌, ℕ, ◌^◌, ◌<◌, Bool, true, false, List, [], ◌∷◌, ◌++◌, ◌==◌, ◌&&◌, ◌||◌, length, nat_le, not}
use Rattle.std.specs.List.{AllByRecursion, flat_map, join_with_byte, list_all}
use Rattle.cb_asm_line.specs.Flags.{plus, set_words}
use Rattle.cb_asm_line.specs.Lines.{Line, Word, space}
pub use Rattle.cb_asm_line.specs.Lines.{Lacks}
use Rattle.cb_asm_line.specs.Quoting.{backslash, comma, escape, is_plain, quote}

-- a word of flags behind the first, and the words behind those that stand
abbrev pub word_behind : Bool → Word → List ℕ
word_behind true word = plus ∷ word
word_behind false word = word

abbrev pub words_behind : Bool → List Word → List ℕ
words_behind true words = flat_map (word_behind true) words
words_behind false words = join_with_byte plus words

-- a word is that of these flags, behind others or at its own front, where there is a flag then
pub record AreSet (begun : Bool) (words : List Word) (word : List ℕ) (flags : ℕ) : Type 0 where
  pub fits : flags < 2 ^ length words
  pub some : begun ≡ false → 0 < flags
  pub spelled : word ≡ words_behind begun (set_words words flags)

-- a word may stand before others in a line: it is no text in quotes, and has no space. Only a text in quotes has one
abbrev pub begins_quoted : List ℕ → Bool
begins_quoted [] = false
begins_quoted (unit ∷ word) = unit == quote

pub record IsBare (word : Word) : Type 0 where
  pub unquoted : begins_quoted word ≡ false
  pub whole : Lacks space word

abbrev pub IsLast : Word → Type 0
IsLast word = begins_quoted word ≡ false → Lacks space word

-- words that a line may have
abbrev pub AreWords : Line → Type 0
AreWords [] = ⊥
AreWords (word ∷ []) = IsLast word
AreWords (word ∷ next ∷ words) = IsBare word × AreWords (next ∷ words)

-- a unit may stand in a text by itself
abbrev pub is_quotable : ℕ → Bool
is_quotable unit = nat_le 0x20 unit && nat_le unit 0x7E && not (unit == quote || unit == backslash)

-- a unit in a name, by itself or escaped. A name's first unit may be escaped that needn't be, where the name is reserved
abbrev pub IsSpelled : ℕ → List ℕ → Type 0
IsSpelled unit spelled = ((is_plain unit ≡ true) × (spelled ≡ unit ∷ [])) ⊎ (spelled ≡ escape unit)

-- a unit in a text by itself, or with a backslash before it, or escaped
pub data IsQuoted (unit : ℕ) (spelled : List ℕ) : Type 0 where
  Plain : is_quotable unit ≡ true → spelled ≡ unit ∷ [] → IsQuoted unit spelled
  Marked : (unit ≡ quote) ⊎ (unit ≡ backslash) → spelled ≡ backslash ∷ unit ∷ [] → IsQuoted unit spelled
  Escaped : spelled ≡ escape unit → IsQuoted unit spelled

-- a unit may stand by itself in a text, or in a name
abbrev pub stands_alone : Bool → ℕ → Bool
stands_alone true unit = is_quotable unit
stands_alone false unit = is_plain unit

abbrev pub SpellsUnit : Bool → ℕ → List ℕ → Type 0
SpellsUnit true unit spelled = IsQuoted unit spelled
SpellsUnit false unit spelled = IsSpelled unit spelled

-- a word begins with a unit, and with units to its end
pub record BeginsWithUnit (in_text : Bool) (word : List ℕ) (unit : ℕ) (rest : List ℕ) : Type 0 where
  pub first : List ℕ
  pub fits : unit < 2 ^ 16
  pub spelled : SpellsUnit in_text unit first
  pub whole : word ≡ first ++ rest

abbrev pub SpellUnits : Bool → List ℕ → List ℕ → Type 0
SpellUnits in_text word [] = word ≡ []
SpellUnits in_text word (unit ∷ units) = (rest : List ℕ) × BeginsWithUnit in_text word unit rest × SpellUnits in_text rest units

-- a unit may stand in a line; in a word that is no text in quotes; and in a word that stands between commas
abbrev pub is_shown : ℕ → Bool
is_shown unit = nat_le 0x20 unit && nat_le unit 0x7E

abbrev pub is_ink : ℕ → Bool
is_ink unit = nat_le 0x21 unit && nat_le unit 0x7E && not (unit == quote)

abbrev pub is_clear : ℕ → Bool
is_clear unit = is_ink unit && not (unit == comma)

abbrev pub AreInk : List ℕ → Type 0
AreInk word = list_all is_ink word ≡ true

abbrev pub AreClear : List ℕ → Type 0
AreClear word = list_all is_clear word ≡ true

-- the words of a line, which shows in ASCII
pub record IsShown (words : Line) : Type 0 where
  pub apart : AreWords words
  pub units : list_all is_shown (join_with_byte space words) ≡ true
