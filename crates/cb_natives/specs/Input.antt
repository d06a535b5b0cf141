-- Natives that read bytes of an input: what they take of it, and what they give (Java SE 8 API, java.io.InputStream).
use Rattle.std.specs.Prelude.{◌≡◌, ◌<◌, ◌≤◌, ◌+◌, ◌^◌, ℤ, pos, negsuc, ℕ, List, [], ◌∷◌, length, map, Option, suc, take, zero}
use Rattle.std.specs.Io.KnownBytes.{Consumes, IsAtEnd}
use Rattle.std.specs.List.{AllByRecursion}
use Rattle.std.specs.declared.result.Result.{Result}
use Rattle.std.specs.declared.result.Result.TheVariants.{Err, Ok}
use Rattle.cb_heap.specs.Kept.{contents_at}
use Rattle.cb_heap.specs.Reading.{serial_of}
use Rattle.cb_library.specs.declared.native.Native.TheVariants as natives
use Rattle.cb_machine.specs.Copying.{overwritten}
use Rattle.cb_machine.specs.Machine.{Machine}
use Rattle.cb_machine.specs.Natives.{performed}
use Rattle.cb_machine.specs.Outside.{stored_byte}
use Rattle.cb_machine.specs.Performing.{stops}
use Rattle.cb_plain.specs.State.{Object}
use Rattle.cb_plain.specs.Updates.{with_contents_in}
use Rattle.cb_plain.specs.declared.value.Value.{Value}
use Rattle.cb_plain.specs.declared.value.Value.TheVariants.{Int, Ref}
use Rattle.cb_natives.specs.Answers.{Beside, call_on}
use Rattle.cb_natives.specs.Asking.{Asked, Calls}
use Rattle.cb_natives.specs.Exceptions.{site_of}
use Rattle.cb_natives.specs.Given.{HoldsBytes}
use Rattle.cb_natives.specs.declared.answers.Answer.{Answer}
use Rattle.cb_natives.specs.declared.answers.Answer.TheVariants as answers
use Rattle.cb_natives.specs.declared.answers.Exception.{Exception}
use Rattle.cb_natives.specs.declared.input_natives.ArrayRange.{ArrayRange}

-- objects with bytes in an array from an index on
abbrev pub with_bytes : List (Option Object) → (array from : ℕ) → List ℕ → List (Option Object)
with_bytes objects array from bytes = with_contents_in objects array (overwritten (contents_at objects array) from (map stored_byte bytes))

-- bytes were taken from the front of what is left of an input, as many as were asked for, or all that there were
pub record Took (before now : Option (List ℕ)) (count : ℕ) (bytes : List ℕ) : Type 0 where
  pub low : AllByRecursion (λ byte. byte < 2 ^ 8) bytes
  pub few : length bytes ≤ count
  pub consumes : Consumes before now bytes
  pub end : length bytes < count → IsAtEnd now

-- fewer than so many were taken, which calls gave before one failed
pub record Loses {In : Type 0} (gave : In → ℕ → List ℕ → In → Type 0) (count : ℕ) (first : In) (before now : Option (List ℕ)) : Type 0 where
  pub front : List ℕ
  pub few : length front < count
  pub consumes : Consumes before now front
  pub mid : In
  pub calls : Calls gave first front mid

-- ---- the parts of it

-- bytes were taken and stand at the front of a buffer, so many at most, and none only at the end
pub record ReadsFront (before now : Option (List ℕ)) (most : ℕ) (buffer : List ℕ) (moved : ℕ) : Type 0 where
  pub low : AllByRecursion (λ byte. byte < 2 ^ 8) (take moved buffer)
  pub size : length (take moved buffer) ≡ moved
  pub few : moved ≤ most
  pub consumes : Consumes before now (take moved buffer)
  pub end : moved ≡ 0 → IsAtEnd now

-- so many were taken, of which this is known, and stand in an array from an index on
pub record MovesInto (Known : List ℕ → Type 0) (before now : Option (List ℕ)) (objects after : List (Option Object)) (array from moved : ℕ) : Type 0 where
  pub bytes : List ℕ
  pub known : Known bytes
  pub low : AllByRecursion (λ byte. byte < 2 ^ 8) bytes
  pub size : length bytes ≡ moved
  pub consumes : Consumes before now bytes
  pub stand : after ≡ with_bytes objects array from bytes

-- as many as were asked for, or all that there were
pub record TakesInto {In : Type 0} (gave : In → ℕ → List ℕ → In → Type 0) (first last : In) (before now : Option (List ℕ)) (count : ℕ) (objects after : List (Option Object)) (array from taken : ℕ) : Type 0 where
  pub moves : MovesInto (Asked gave count first last) before now objects after array from taken
  pub most : taken ≤ count
  pub end : taken < count → IsAtEnd now

-- a call that asked for some bytes gave these
abbrev pub GaveIn : {In : Type 0} → (In → ℕ → List ℕ → In → Type 0) → (first last : In) → List ℕ → Type 0
GaveIn gave first last bytes = (most : ℕ) × (0 < most) × gave first most bytes last

-- in one call: as many as were asked for at most, and none only at the end
pub record TakesPiece {In : Type 0} (gave : In → ℕ → List ℕ → In → Type 0) (first last : In) (before now : Option (List ℕ)) (most : ℕ) (objects after : List (Option Object)) (array from moved : ℕ) : Type 0 where
  pub moves : MovesInto (GaveIn gave first last) before now objects after array from moved
  pub few : moved ≤ most
  pub end : moved ≡ 0 → IsAtEnd now

-- ---- the natives

-- what is given for the bytes that were read: the byte, or how many they are, and -1 for none
abbrev pub byte_number : List ℕ → ℤ
byte_number [] = negsuc 0
byte_number (byte ∷ bytes) = pos byte

abbrev pub count_number : ℕ → ℤ
count_number zero = negsuc 0
count_number (suc count) = pos (suc count)

-- one byte was asked for
pub record ReadsByte {In : Type 0} (gave : In → ℕ → List ℕ → In → Type 0) (first last : In) (before now : Option (List ℕ)) (answer : Answer) : Type 0 where
  pub bytes : List ℕ
  pub asked : Asked gave 1 first last bytes
  pub took : Took before now 1 bytes
  pub gives : answer ≡ answers.Int (byte_number bytes)

-- as many as a range of an array has, and they stand in it
pub record ReadsRange {In : Type 0} (gave : In → ℕ → List ℕ → In → Type 0) (first last : In) (before now : Option (List ℕ)) (count : ℕ) (objects after : List (Option Object)) (array from : ℕ) (answer : Answer) : Type 0 where
  pub bytes : List ℕ
  pub asked : Asked gave count first last bytes
  pub took : Took before now count bytes
  pub stand : after ≡ with_bytes objects array from bytes
  pub gives : answer ≡ answers.Int (count_number (length bytes))

-- the arguments of `read(byte[], int, int)` name a range of an array that is there
pub record IsRange (objects : List (Option Object)) (arguments : List Value) (array from count : ℕ) : Type 0 where
  pub stream : ℕ
  pub are : arguments ≡ Ref stream ∷ Ref array ∷ Int (pos from) ∷ Int (pos count) ∷ []
  pub holds : HoldsBytes objects array
  pub within : from + count ≤ length (contents_at objects array)

-- or an exception is thrown in place of reading
abbrev pub PlansRange : List (Option Object) → (ℕ → ℕ) → List Value → Result ArrayRange Exception → Type 0
PlansRange objects index arguments (Ok range) = IsRange objects arguments (serial_of index range.at) range.from range.count
PlansRange objects index arguments (Err exception) =
    (machine : Machine) (beside : Beside) → performed machine (call_on machine objects beside).state natives.ReadRange arguments ≡ stops (call_on machine objects beside) (site_of exception)
