-- The words of the command line, as bytes of their UTF-8.
use Rattle.std.specs.Prelude.{◌≡◌, ℕ, ◌<◌, ◌≤◌, ◌^◌, Bool, true, false, not, ◌||◌, ◌==◌, if◌then◌else◌, List, [], ◌∷◌, ◌++◌, length, Option, Some, None, slice_get, unwrap_or, codes}
use Rattle.std.specs.Char.Escape.{encode_utf16}
use Rattle.std.specs.List.{All, flat_map, list_all, slice_split}
use Rattle.std.specs.Str.{chars}
use Rattle.std.specs.Str.Parse.{IsNumeral, digits_value}

-- words of which there are few enough, and none too long, for arrays of them and of their characters
abbrev pub IsShort : List ℕ → Type 0
IsShort word = length word < 2 ^ 31

abbrev pub AreFew : List (List ℕ) → Type 0
AreFew words = (length words < 2 ^ 31) × All IsShort words

-- a word that begins with `-`
abbrev pub IsOption : List ℕ → Type 0
IsOption word = slice_get word 0 ≡ Some 45

-- the signs that stand between the parts of a class's name, and those that no part has: `;` and `[`
abbrev pub dot : ℕ
dot = 46

abbrev pub slash : ℕ
slash = 47

abbrev pub is_separator : ℕ → Bool
is_separator sign = sign == dot || sign == slash

abbrev pub is_barred : ℕ → Bool
is_barred sign = sign == 59 || sign == 91

abbrev pub is_part : List ℕ → Bool
is_part [] = false
is_part part = list_all (λ sign. not (is_barred sign)) part

-- the word names a class: what stands between separators are parts
abbrev pub names_class : List ℕ → Bool
names_class word = list_all is_part (slice_split is_separator word)

-- a word that may stand for MAIN
abbrev pub IsMain : List ℕ → Type 0
IsMain word = (¬ IsOption word) × (names_class word ≡ true)

-- the UTF-16 units of a character in an internal name, in which `/` stands for each `.` (JVMS §4.2.1)
abbrev pub units_of : ℕ → List ℕ
units_of character = encode_utf16 (if character == dot then slash else character)

-- the internal name of the class that a word names
abbrev pub internal_name : List ℕ → List ℕ
internal_name word = flat_map units_of (chars word)

-- the UTF-16 units of the characters of a word
abbrev pub text_units : List ℕ → List ℕ
text_units word = flat_map encode_utf16 (chars word)

-- a word of 1 to 20 decimal digits for a number from 1 to so many. The first ones may be 0
pub record TellsNumber (most number : ℕ) (word : List ℕ) : Type 0 where
  pub digits : IsNumeral 10 word
  pub short : length word ≤ 20
  pub is : number ≡ digits_value 10 word
  pub least : 1 ≤ number
  pub within : number ≤ most

-- what options told: each at most once
pub record Given : Type 0 where
  pub steps : Option ℕ
  pub frames : Option ℕ
  pub blocks : Option ℕ

abbrev pub none_given : Given
none_given = record { steps = None; frames = None; blocks = None }

-- a word is an option that wasn't told before, and the one behind it its value: how many steps a run makes at most, how many frames may stand,
-- how many blocks a heap has at most. What is told with it
pub data AddsOption (given : Given) (number : List ℕ) : List ℕ → Given → Type 0 where
  OfSteps : (value : ℕ) → given.steps ≡ None → TellsNumber 10000000000 value number → AddsOption given number (codes "--steps") (record given { steps = Some value })
  OfFrames : (value : ℕ) → given.frames ≡ None → TellsNumber 65536 value number → AddsOption given number (codes "--frames") (record given { frames = Some value })
  OfBlocks : (value : ℕ) → given.blocks ≡ None → TellsNumber 1048576 value number → AddsOption given number (codes "--blocks") (record given { blocks = Some value })

-- words are options in any order, each with its value behind it, of which none was told before. What is told then
pub data Adds : Given → List (List ℕ) → Given → Type 0 where
  NoMore : {given : Given} → Adds given [] given
  More : {given next last : Given} (name number : List ℕ) (words : List (List ℕ)) → AddsOption given number name next → Adds next words last → Adds given (name ∷ number ∷ words) last

-- a word that is kept for options: it begins with `-` and is longer
abbrev pub IsDashed : List ℕ → Type 0
IsDashed word = IsOption word × (1 < length word)

abbrev pub ArePlain : List (List ℕ) → Type 0
ArePlain words = All (λ word. ¬ IsDashed word) words

-- the words are arguments: all of them, of which none is kept for options; or `--` is left out, behind which any word is one
pub data AreArguments (words arguments : List (List ℕ)) : Type 0 where
  AllOf : ArePlain words → arguments ≡ words → AreArguments words arguments
  Parted : (front back : List (List ℕ)) → ArePlain front → words ≡ front ++ codes "--" ∷ back → arguments ≡ front ++ back → AreArguments words arguments

-- a run of the class of an internal name: how many steps it makes at most, how many frames may stand, how many blocks a heap has at most, and the
-- words that are its arguments
pub record Run : Type 0 where
  pub steps : ℕ
  pub frames : ℕ
  pub blocks : ℕ
  pub main : List ℕ
  pub arguments : List (List ℕ)

-- the words behind `run` are options, this folder, the name of a class, and arguments
pub record IsRun (folder : List ℕ) (run : Run) (words : List (List ℕ)) : Type 0 where
  pub options : List (List ℕ)
  pub class : List ℕ
  pub behind : List (List ℕ)
  pub told : Given
  pub words_are : words ≡ options ++ folder ∷ class ∷ behind
  pub are_options : Adds none_given options told
  pub steps_are : run.steps ≡ unwrap_or told.steps 1000000000
  pub frames_are : run.frames ≡ unwrap_or told.frames 4096
  pub blocks_are : run.blocks ≡ unwrap_or told.blocks 16384
  pub no_option : ¬ IsOption folder
  pub is_main : IsMain class
  pub main_is : run.main ≡ internal_name class
  pub are_arguments : AreArguments behind run.arguments

-- the words are `list PATH` with this path
pub record IsList (path : List ℕ) (words : List (List ℕ)) : Type 0 where
  pub words_are : words ≡ codes "list" ∷ path ∷ []
  pub no_option : ¬ IsOption path

-- a command: a run in a folder, to list the file at a path, to assemble
pub data Command : Type 0 where
  RunIn : List ℕ → Run → Command
  ListOf : List ℕ → Command
  Assemble : Command

-- the words say it
abbrev pub Says : List (List ℕ) → Command → Type 0
Says words (RunIn folder run) = (behind : List (List ℕ)) × (words ≡ codes "run" ∷ behind) × IsRun folder run behind
Says words (ListOf path) = IsList path words
Says words Assemble = words ≡ codes "asm" ∷ []

-- they say none
abbrev pub SaysNone : List (List ℕ) → Type 0
SaysNone words = (command : Command) → ¬ Says words command

-- they say a run, whose program may end with any status
abbrev pub SaysRun : List (List ℕ) → Type 0
SaysRun words = (folder : List ℕ) × (run : Run) × Says words (RunIn folder run)
