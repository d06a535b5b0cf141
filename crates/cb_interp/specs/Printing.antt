-- What natives that print do and leave (Java SE 8 API, java.io.PrintStream).
use Rattle.std.specs.Prelude.{◌≡◌, ◌<◌, ◌^◌, ◌&&◌, ◌||◌, ℤ, pos, ℕ, Bool, true, false, IsTrue, List, [], ◌∷◌, ◌++◌, codes, drop, is_some, length, map, Option, Some, None, slice_get, zero, suc}
use Rattle.cb_frames.specs.Tops.{placed, top_stack}
use Rattle.cb_heap.specs.Kept.{content_at, contents_at, is_held, is_reference}
use Rattle.cb_io.specs.Utf8.{utf8}
use Rattle.cb_library.specs.declared.native.Native.{Native}
use Rattle.cb_library.specs.declared.native.Native.TheVariants as natives
use Rattle.cb_machine.specs.Texts.{digits, truth, unit_of}
use Rattle.cb_plain.specs.declared.value.Value.{Value}
use Rattle.cb_plain.specs.declared.value.Value.TheVariants.{Int, Long, Ref}
use Rattle.cb_plain.specs.State.{Content, Number, Object, Reference, Roots, State}
use Rattle.cb_plain.specs.Updates.{with_printed, with_roots}
use Rattle.cb_shapes.specs.declared.sort.Sort.TheVariants as sorts
use Rattle.cb_act.specs.Effects.{has_sort, stacked}
use Rattle.cb_interp.specs.declared.printing.Print.{Print}
use Rattle.cb_interp.specs.declared.printing.Print.TheVariants as prints

-- which native it is that prints so
abbrev pub native_as : Print → Native
native_as (prints.Truth false) = natives.PrintBoolean
native_as (prints.Truth true) = natives.PrintlnBoolean
native_as (prints.Char false) = natives.PrintChar
native_as (prints.Char true) = natives.PrintlnChar
native_as (prints.Int false) = natives.PrintInt
native_as (prints.Int true) = natives.PrintlnInt
native_as (prints.Long false) = natives.PrintLong
native_as (prints.Long true) = natives.PrintlnLong
native_as prints.Line = natives.Println

-- what a native prints of a value, if it prints one so
abbrev pub print_of : Native → Option Print
print_of natives.PrintBoolean = Some (prints.Truth false)
print_of natives.PrintlnBoolean = Some (prints.Truth true)
print_of natives.PrintChar = Some (prints.Char false)
print_of natives.PrintlnChar = Some (prints.Char true)
print_of natives.PrintInt = Some (prints.Int false)
print_of natives.PrintlnInt = Some (prints.Int true)
print_of natives.PrintLong = Some (prints.Long false)
print_of natives.PrintlnLong = Some (prints.Long true)
print_of natives.Println = Some prints.Line
print_of other = None

-- the number on top of a stack, 0 where none stands there, and whether it is what is printed
abbrev number_in : Option Value → ℤ
number_in (Some (Int number)) = number
number_in (Some (Long number)) = number
number_in other = pos 0

abbrev pub number_on : List Value → ℤ
number_on stack = number_in (slice_get stack 0)

abbrev pub suits : Print → List Value → Bool
suits (prints.Truth line) stack = has_sort sorts.Int (slice_get stack 0)
suits (prints.Char line) stack = has_sort sorts.Int (slice_get stack 0)
suits (prints.Int line) stack = has_sort sorts.Int (slice_get stack 0)
suits (prints.Long line) stack = has_sort sorts.Long (slice_get stack 0)
suits prints.Line stack = true

-- the text that is printed of it, in UTF-16; a line of it ends in a newline
abbrev pub as_line : Bool → List ℕ → List ℕ
as_line true units = units ++ codes "\n"
as_line false units = units

abbrev pub units_on : Print → List Value → List ℕ
units_on (prints.Truth line) stack = as_line line (truth (number_on stack))
units_on (prints.Char line) stack = as_line line (unit_of (number_on stack) ∷ [])
units_on (prints.Int line) stack = as_line line (digits (number_on stack))
units_on (prints.Long line) stack = as_line line (digits (number_on stack))
units_on prints.Line stack = as_line true []

-- so many values are taken from the stack, the stream and what is printed, and the method goes on at a place
abbrev pub taken_by : Print → ℕ
taken_by (prints.Truth line) = 2
taken_by (prints.Char line) = 2
taken_by (prints.Int line) = 2
taken_by (prints.Long line) = 2
taken_by prints.Line = 1

abbrev pub behind_taken : (count pc : ℕ) → Roots → Roots
behind_taken count pc roots = placed (stacked roots (drop count (top_stack roots))) pc

abbrev pub printed_as : (count : ℕ) → (text : List ℕ) → (pc : ℕ) → State → State
printed_as count text pc state = with_printed (with_roots state (behind_taken count pc state.roots)) (state.printed ++ utf8 text)

-- ---- strings

-- which native prints one, or a line of it
abbrev pub native_text : Bool → Native
native_text false = natives.PrintString
native_text true = natives.PrintlnString

abbrev pub line_of : Native → Option Bool
line_of natives.PrintString = Some false
line_of natives.PrintlnString = Some true
line_of other = None

-- whether a native prints
abbrev pub is_print : Native → Bool
is_print native = is_some (print_of native) || is_some (line_of native)

-- the units of an array of chars, and the array to which the first word of a string refers
abbrev pub unit_in : Content → ℕ
unit_in (Number (pos unit)) = unit
unit_in other = 0

abbrev pub units_at : List (Option Object) → ℕ → List ℕ
units_at objects array = map unit_in (contents_at objects array)

abbrev pub referred_word : Option Content → ℕ
referred_word (Some (Reference serial)) = serial
referred_word other = 0

abbrev pub array_of : List (Option Object) → ℕ → ℕ
array_of objects string = referred_word (content_at objects string 0)

-- the text of a string, `null` where there is none, and whether there is what is read of it
abbrev pub string_text : List (Option Object) → ℕ → List ℕ
string_text objects zero = codes "null"
string_text objects (suc place) = units_at objects (array_of objects (suc place))

abbrev pub is_text : List (Option Object) → ℕ → Bool
is_text objects zero = true
is_text objects (suc place) = is_reference (content_at objects (suc place) 0) && is_held objects (array_of objects (suc place))

-- and of the string on top of a stack
abbrev pub text_of : List (Option Object) → Option Value → List ℕ
text_of objects (Some (Ref serial)) = string_text objects serial
text_of objects other = []

abbrev pub is_text_of : List (Option Object) → Option Value → Bool
is_text_of objects (Some (Ref serial)) = is_text objects serial
is_text_of objects other = false

abbrev pub text_on : List (Option Object) → List Value → List ℕ
text_on objects stack = text_of objects (slice_get stack 0)

abbrev pub suits_text : List (Option Object) → List Value → Bool
suits_text objects stack = is_text_of objects (slice_get stack 0)

-- each word of an array is a unit of UTF-16
pub record IsUnit (content : Option Content) : Type 0 where
  pub unit : ℕ
  pub is : content ≡ Some (Number (pos unit))
  pub low : unit < 2 ^ 16

abbrev pub HoldsUnits : List (Option Object) → ℕ → Type 0
HoldsUnits objects array = (place : ℕ) → place < length (contents_at objects array) → IsUnit (content_at objects array place)

-- an array has the chars of a string, none where the string is null
pub record AreChars (objects : List (Option Object)) (string array : ℕ) : Type 0 where
  pub same : (string ≡ 0 → ⊥) → array ≡ array_of objects string
  pub held : IsTrue (is_held objects array)
  pub units : HoldsUnits objects array
