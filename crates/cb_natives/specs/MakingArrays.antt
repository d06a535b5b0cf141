-- Natives that give a copy of the words of an object, or keep one with one word more (Java SE 8 API, String.toCharArray, Object.clone,
-- Throwable.addSuppressed and getSuppressed).
use Rattle.std.specs.Prelude.{◌≡◌, ◌<◌, ◌^◌, ◌+◌, ℕ, Bool, true, false, IfOk, IsTrue, List, [], ◌∷◌, ◌++◌, drop, length, Option, Some, slice_get}
use Rattle.std.specs.declared.result.Result.{Result}
use Rattle.std.specs.declared.result.Result.TheVariants.{Err, Ok}
use Rattle.cb_heap.specs.Kept.{content_at, contents_at, is_held, is_reference, with_content}
use Rattle.cb_heap.specs.Reading.{serial_of}
use Rattle.cb_library.specs.declared.native.Native.{Native}
use Rattle.cb_library.specs.declared.native.Native.TheVariants as natives
use Rattle.cb_link.specs.Having.{site_kinds}
use Rattle.cb_link.specs.Program.{Linked}
use Rattle.cb_link.specs.Slots.{shape}
use Rattle.cb_machine.specs.Copying.{suppressed_slot}
use Rattle.cb_machine.specs.Library.{cloneable}
use Rattle.cb_machine.specs.Machine.{kind_of_site}
use Rattle.cb_machine.specs.Performing.{Call, Gives, Performed, stops}
use Rattle.cb_machine.specs.Plans.{One}
use Rattle.cb_machine.specs.Sites as own
use Rattle.cb_plain.specs.Requests.{add_want}
use Rattle.cb_plain.specs.State.{Content, Object, Reference, words_of}
use Rattle.cb_plain.specs.Updates.{object_in}
use Rattle.cb_plain.specs.declared.shape.Shape.{Shape}
use Rattle.cb_plain.specs.declared.shape.Shape.TheVariants.{Elements, Fields}
use Rattle.cb_plain.specs.declared.value.Value.{Value}
use Rattle.cb_plain.specs.declared.value.Value.TheVariants as values
use Rattle.cb_plain.specs.declared.want.Want.{Want}
use Rattle.cb_natives.specs.Answers.{Beside}
use Rattle.cb_natives.specs.Copies.{RefersHeld, holds, refers_at}
use Rattle.cb_natives.specs.Exceptions.{site_of}
use Rattle.cb_natives.specs.Given.{referred_word}
use Rattle.cb_natives.specs.Making.{MayMake}
use Rattle.cb_natives.specs.MakingOwn.{Making, call_of, planned}
use Rattle.cb_natives.specs.declared.answers.Exception.{Exception}
use Rattle.cb_natives.specs.declared.copying.Copying.{Copying}
use Rattle.cb_natives.specs.declared.copying.Copying.TheVariants as copyings

-- which they are
abbrev pub makes_array : Native → Bool
makes_array natives.ObjectClone = true
makes_array natives.StringToCharArray = true
makes_array natives.ThrowableAddSuppressed = true
makes_array natives.ThrowableGetSuppressed = true
makes_array other = false

-- a store has the shapes of a program's kinds, and arrays of exceptions that were suppressed hold references
pub record MayHold (program : Linked) (shapes : List Shape) : Type 0 where
  pub suppressed : slice_get shapes (kind_of_site program own.suppressed) ≡ Some (Elements true)
  pub each : (kind : ℕ) → kind < length program.kinds → slice_get shapes kind ≡ Some (shape program kind)

-- an object has the words that a shape says, and these refer to null or to what is there
abbrev pub HasSize : Shape → ℕ → Type 0
HasSize (Fields marks) size = length marks ≡ size
HasSize (Elements mark) size = Unit {0}

pub record IsLaid (objects : List (Option Object)) (shape : Shape) (serial : ℕ) : Type 0 where
  pub held : IsTrue (is_held objects serial)
  pub sized : HasSize shape (length (contents_at objects serial))
  pub each : (place : ℕ) → place < length (contents_at objects serial) → holds (refers_at shape place) (content_at objects serial place) ≡ true
  pub refers : (place : ℕ) → place < length (contents_at objects serial) → RefersHeld objects (content_at objects serial place)

-- an exception's third word refers to null or to an array of the exceptions that it suppressed
pub record HoldsSuppressed (objects : List (Option Object)) (serial : ℕ) : Type 0 where
  pub refers : is_reference (content_at objects serial suppressed_slot) ≡ true
  pub array : IsLaid objects (Elements true) (referred_word (content_at objects serial suppressed_slot))

-- an object is of a kind and of a site of the program, and has the words of its kind
pub record MayClone (program : Linked) (objects : List (Option Object)) (serial : ℕ) : Type 0 where
  pub object : Object
  pub is : object_in objects serial ≡ Some object
  pub site : object.site < length (site_kinds program)
  pub kind : object.kind < length program.kinds
  pub known : cloneable < length program.kinds
  pub laid : IsLaid objects (shape program object.kind) serial

-- or of a kind alone
pub record IsOfKind (program : Linked) (objects : List (Option Object)) (serial : ℕ) : Type 0 where
  pub object : Object
  pub is : object_in objects serial ≡ Some object
  pub kind : object.kind < length program.kinds
  pub laid : IsLaid objects (shape program object.kind) serial

-- what is known of the arguments besides
abbrev pub IsNullOr : (ℕ → Type 0) → Value → Type 0
IsNullOr is (values.Ref serial) = (serial ≡ 0 → ⊥) → is serial
IsNullOr is other = Unit {0}

abbrev pub FirstIs : (ℕ → Type 0) → List Value → Type 0
FirstIs is [] = Unit {0}
FirstIs is (value ∷ rest) = IsNullOr is value

abbrev pub AreLaid : Linked → List (Option Object) → Native → List Value → Type 0
AreLaid program objects natives.ObjectClone arguments = FirstIs (MayClone program objects) arguments
AreLaid program objects natives.SystemArraycopy arguments = FirstIs (IsOfKind program objects) arguments × FirstIs (IsOfKind program objects) (drop 2 arguments)
AreLaid program objects natives.ThrowableAddSuppressed arguments = FirstIs (HoldsSuppressed objects) arguments
AreLaid program objects natives.ThrowableGetSuppressed arguments = FirstIs (HoldsSuppressed objects) arguments
AreLaid program objects other arguments = Unit {0}

-- what a copying places, and what it leaves of the objects that there were
abbrev pub with_reference : List (Option Object) → (serial other : ℕ) → List Content
with_reference objects serial other = contents_at objects serial ++ Reference other ∷ []

abbrev pub made_by : Linked → List (Option Object) → (ℕ → ℕ) → Copying → Making
made_by program objects index (copyings.Gives from site kind size) =
    record { placed = One site kind (contents_at objects (serial_of index from)) ∷ []; next = length objects + 1 + 1; left = objects }
made_by program objects index (copyings.Adds at from other size) = record {
  placed = One own.suppressed (kind_of_site program own.suppressed) (with_reference objects (serial_of index from) (serial_of index other)) ∷ [];
  next = length objects + 1 + 1;
  left = with_content objects (serial_of index at) suppressed_slot (Reference (length objects + 1));
}

-- what it asks for, and gives
abbrev pub wanted_by : Copying → List Want
wanted_by (copyings.Gives from site kind size) = add_want [] (record { site = site; words = words_of size })
wanted_by (copyings.Adds at from other size) = add_want [] (record { site = own.suppressed; words = words_of (size + 1) })

abbrev pub given_by : List (Option Object) → Copying → List Value
given_by objects (copyings.Gives from site kind size) = values.Ref (length objects + 1) ∷ []
given_by objects (copyings.Adds at from other size) = []

-- what a native does, or throws in place of it
abbrev pub on_copying : Call → (ℕ → ℕ) → Result Copying Exception → Option Performed
on_copying call index (Ok copying) =
    Some (Gives (planned call (made_by call.machine.program call.state.objects index copying)) (given_by call.state.objects copying))
on_copying call index (Err exception) = stops call (site_of exception)

-- a copy of so many words may be placed at a site, as an object of a kind
pub record MayGive (program : Linked) (objects : List (Option Object)) (serial site kind size : ℕ) : Type 0 where
  pub at : site < length (site_kinds program)
  pub of : kind < length program.kinds
  pub whole : size ≡ length (contents_at objects serial)
  pub laid : (shapes : List Shape) → MayMake program shapes → MayHold program shapes → IsLaid objects (shape program kind) serial

-- an exception may refer to a new array of so many exceptions and another one
pub record MayAdd (objects : List (Option Object)) (serial array other size : ℕ) : Type 0 where
  pub refers : is_reference (content_at objects serial suppressed_slot) ≡ true
  pub laid : IsLaid objects (Elements true) array
  pub held : IsTrue (is_held objects other)
  pub whole : size ≡ length (contents_at objects array)
  pub few : size + 1 < 2 ^ 31

abbrev pub MayMakeCopy : Linked → List (Option Object) → (ℕ → ℕ) → Copying → Type 0
MayMakeCopy program objects index (copyings.Gives from site kind size) = MayGive program objects (serial_of index from) site kind size
MayMakeCopy program objects index (copyings.Adds at from other size) = MayAdd objects (serial_of index at) (serial_of index from) (serial_of index other) size

-- what a call of a native copies, and that it can be done; or what it throws
pub record DecidesCopy (program : Linked) (objects : List (Option Object)) (index : ℕ → ℕ) (done : Call → Option Performed) (result : Result Copying Exception) : Type 0 where
  pub does : (frames : ℕ) (beside : Beside) → done (call_of program objects frames beside) ≡ on_copying (call_of program objects frames beside) index result
  pub may : IfOk result (λ copying. MayMakeCopy program objects index copying)
