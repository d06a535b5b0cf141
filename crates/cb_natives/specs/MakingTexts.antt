-- Natives that give a new String: which they are, and the text of each (Java SE 8 API, java.lang).
use Rattle.std.specs.Prelude.{◌≡◌, ◌<◌, ◌≤◌, ◌^◌, ◌+◌, ℤ, ℕ, Bool, true, false, List, [], ◌∷◌, ◌++◌, length, Option, Some, None, slice_get}
use Rattle.std.specs.declared.result.Result.{Result}
use Rattle.std.specs.declared.result.Result.TheVariants.{Err, Ok}
use Rattle.cb_library.specs.declared.native.Native.{Native}
use Rattle.cb_library.specs.declared.native.Native.TheVariants as natives
use Rattle.cb_link.specs.Program.{Linked}
use Rattle.cb_machine.specs.Machine.{Machine}
use Rattle.cb_machine.specs.Performing.{Call, Performed, gives_text, stops}
use Rattle.cb_machine.specs.Plans.{object_of}
use Rattle.cb_machine.specs.Sites.{made_characters, made_strings, null_pointer}
use Rattle.cb_machine.specs.Strings.{unit_contents}
use Rattle.cb_machine.specs.Texts.{text_native}
use Rattle.cb_plain.specs.Requests.{add_want, spent, words_at}
use Rattle.cb_plain.specs.State.{Object, Reference, words_of}
use Rattle.cb_plain.specs.declared.shape.Shape.{Shape}
use Rattle.cb_plain.specs.declared.shape.Shape.TheVariants.{Elements, Fields}
use Rattle.cb_plain.specs.declared.value.Value.{Value}
use Rattle.cb_plain.specs.declared.want.Want.{Want}
use Rattle.cb_natives.specs.Answers.{Beside, call_on}
use Rattle.cb_natives.specs.Exceptions.{site_of}
use Rattle.cb_natives.specs.Pieces.{IsText, text_units}
use Rattle.cb_natives.specs.declared.answers.Exception.{Exception}
use Rattle.cb_natives.specs.declared.pieces.Text.{Text}

-- the texts of numbers, chars and booleans in boxes or not; with them those of `String.valueOf`; and with these all
abbrev pub makes_box_text : Native → Bool
makes_box_text natives.IntegerTextOf = true
makes_box_text natives.IntegerToString = true
makes_box_text natives.IntegerToHexString = true
makes_box_text natives.LongTextOf = true
makes_box_text natives.LongToString = true
makes_box_text natives.CharacterTextOf = true
makes_box_text natives.CharacterToString = true
makes_box_text natives.BooleanTextOf = true
makes_box_text natives.BooleanToString = true
makes_box_text other = false

abbrev pub makes_value_text : Native → Bool
makes_value_text natives.StringValueOfInt = true
makes_value_text natives.StringValueOfLong = true
makes_value_text natives.StringValueOfChar = true
makes_value_text natives.StringValueOfBoolean = true
makes_value_text natives.StringValueOfChars = true
makes_value_text other = makes_box_text other

abbrev pub makes_text : Native → Bool
makes_text natives.ObjectSay = true
makes_text natives.StringConcat = true
makes_text natives.StringSubstringFrom = true
makes_text natives.StringSubstring = true
makes_text natives.StringReplace = true
makes_text natives.StringBuilderToString = true
makes_text natives.ClassGetName = true
makes_text natives.ThrowableSay = true
makes_text other = makes_value_text other

-- a string of a text is given, or an exception thrown in its place
abbrev pub text_answered : (ℕ → ℕ) → Call → Result Text Exception → Option Performed
text_answered index call (Ok text) = gives_text call (text_units call.machine.program call.state.objects index text)
text_answered index call (Err exception) = stops call (site_of exception)

-- the text of a native is this, or it throws this
abbrev pub TellsText : List (Option Object) → (ℕ → ℕ) → Native → List Value → Result Text Exception → Type 0
TellsText objects index native arguments result =
    (machine : Machine) (beside : Beside) → text_native (call_on machine objects beside) native arguments ≡ text_answered index (call_on machine objects beside) result

-- and its arrays are there, whatever the program is
abbrev pub IsTextOf : List (Option Object) → (ℕ → ℕ) → Result Text Exception → Type 0
IsTextOf objects index (Ok text) = (program : Linked) → IsText program objects index text
IsTextOf objects index (Err exception) = Unit {0}

-- a text has these units, whatever objects there are
pub record SpellsText (spelled : List ℕ) (text : Text) : Type 0 where
  pub units : (program : Linked) (objects : List (Option Object)) (index : ℕ → ℕ) → text_units program objects index text ≡ spelled
  pub is : (program : Linked) (objects : List (Option Object)) (index : ℕ → ℕ) → IsText program objects index text

-- with the number that a box holds, where there is a box
abbrev pub on_held : Call → (ℤ → Option Performed) → Option ℤ → Option Performed
on_held call go None = stops call null_pointer
on_held call go (Some number) = go number

-- the room that a string of so many units and its array of chars take
abbrev pub text_wants : ℕ → List Want
text_wants size = add_want (add_want [] (record { site = made_characters; words = words_of size })) (record { site = made_strings; words = words_of 1 })

-- the array and the string, of these kinds, and objects with both, the array first
abbrev pub new_array : ℕ → List ℕ → Object
new_array kind units = object_of made_characters kind (unit_contents units)

abbrev pub new_string : (kind array : ℕ) → Object
new_string kind array = object_of made_strings kind (Reference array ∷ [])

abbrev pub with_made : (array string : ℕ) → List ℕ → List (Option Object) → List (Option Object)
with_made array string units objects = objects ++ Some (new_array array units) ∷ [] ++ Some (new_string string (length objects + 1)) ∷ []

-- there is room for both, and the one may refer to the other
pub record MayPlaceText (shapes : List Shape) (granted : List Want) (allows : ℕ → ℕ → Bool) (objects : List (Option Object)) (array string size : ℕ) : Type 0 where
  pub array_room : words_of size ≤ words_at granted made_characters
  pub string_room : words_of 1 ≤ words_at (spent granted made_characters (words_of size)) made_strings
  pub elements : slice_get shapes array ≡ Some (Elements false)
  pub field : slice_get shapes string ≡ Some (Fields (true ∷ []))
  pub serials : length objects + 2 < 2 ^ 63
  pub few : size < 2 ^ 31
  pub allowed : allows made_strings made_characters ≡ true
