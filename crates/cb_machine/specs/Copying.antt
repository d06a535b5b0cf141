-- Natives that give or fill arrays (Java SE 8 API, String.toCharArray, Object.clone, System.arraycopy, Throwable.addSuppressed and
-- getSuppressed).
use Rattle.std.specs.Prelude.{ℤ, pos, ℕ, ◌+◌, Bool, true, false, List, [], ◌∷◌, ◌++◌, take, drop, length, Option, Some, None, option_and_then, nat_le, suc, ◌==◌, ◌&&◌, if◌then◌else◌}
use Rattle.cb_kinds.specs.declared.basic.Basic.{Basic}
use Rattle.cb_kinds.specs.declared.basic.Basic.TheVariants as basics
use Rattle.cb_library.specs.declared.native.Native.{Native}
use Rattle.cb_library.specs.declared.native.Native.TheVariants as natives
use Rattle.cb_link.specs.Subtypes.{instance}
use Rattle.cb_plain.specs.declared.value.Value.{Value}
use Rattle.cb_plain.specs.declared.value.Value.TheVariants.{Int, Ref}
use Rattle.cb_plain.specs.State.{Content, Object, Reference, State}
use Rattle.cb_plain.specs.Updates.{object_at, with_contents_at}
use Rattle.cb_machine.specs.Values.{natural}
use Rattle.cb_machine.specs.Arrays.{element_of, fits_kind}
use Rattle.cb_machine.specs.Library.{cloneable}
use Rattle.cb_machine.specs.Machine.{kind_of_site}
use Rattle.cb_machine.specs.Performing.{Call, Performed, Gives, Stops, array_words, on_object, reference_at, stops, with_word, if_short}
use Rattle.cb_machine.specs.Plans.{leaving, with_left, with_one}
use Rattle.cb_machine.specs.Sites.{array_index, array_store, clone_not_supported, illegal_argument, made_characters, suppressed}
use Rattle.cb_machine.specs.Throwing.{throwing}

-- a new object with these contents
abbrev pub gives_new : Call → ℕ → ℕ → List Content → Option Performed
gives_new call site kind contents =
    let plan = leaving call.state in
    Some (Gives (with_one plan site kind contents) (Ref plan.next ∷ []))

-- a copy at the site of the original, of what is Cloneable, as arrays are
abbrev pub clones : Call → Object → Option Performed
clones call object =
    if instance call.machine.program object.kind cloneable then gives_new call object.site object.kind object.contents else stops call clone_not_supported

-- arraycopy: both are arrays, of elements of one base type or both of references
abbrev pub same_basic : Basic → Basic → Bool
same_basic basics.Boolean basics.Boolean = true
same_basic basics.Byte basics.Byte = true
same_basic basics.Char basics.Char = true
same_basic basics.Short basics.Short = true
same_basic basics.Int basics.Int = true
same_basic basics.Long basics.Long = true
same_basic (basics.Reference one) (basics.Reference other) = true
same_basic one other = false

abbrev pub can_copy : Option Basic → Option Basic → Bool
can_copy (Some one) (Some other) = same_basic one other
can_copy one other = false

-- a range is one of an array
abbrev pub is_range : ℤ → ℤ → ℕ → Bool
is_range (pos from) (pos count) size = nat_le (from + count) size
is_range from count size = false

-- contents with others from a place on
abbrev pub overwritten : List Content → ℕ → List Content → List Content
overwritten contents from new = take from contents ++ new ++ drop (from + length new) contents

-- up to the first reference that isn't to an instance of what the elements are
abbrev pub fits : Call → Option Basic → Content → Bool
fits call (Some (basics.Reference kind)) (Reference (suc place)) = fits_kind call.machine.program kind (object_at call.state (suc place))
fits call element content = true

abbrev pub fitting : Call → Option Basic → List Content → List Content
fitting call element [] = []
fitting call element (content ∷ contents) = if fits call element content then content ∷ fitting call element contents else []

abbrev pub copied_to : Call → ℕ → Object → ℕ → List Content → State
copied_to call serial target from contents = with_contents_at call.state serial (overwritten target.contents from contents)

-- what fits is copied, and an exception thrown where that isn't all
abbrev pub copies_fitting : Call → ℕ → Object → ℕ → List Content → List Content → Option Performed
copies_fitting call serial target from all fit =
    if length fit == length all then Some (Gives (leaving (copied_to call serial target from fit)) [])
    else Some (Stops (throwing call.machine array_store (leaving (copied_to call serial target from fit))))

abbrev pub copies_range : Call → ℕ → Object → ℕ → List Content → Option Performed
copies_range call serial target from contents =
    copies_fitting call serial target from contents (fitting call (element_of call.machine.program target.kind) contents)

abbrev pub copies_between : Call → Object → ℤ → ℕ → Object → ℤ → ℤ → Option Performed
copies_between call source from serial target to count =
    if can_copy (element_of call.machine.program source.kind) (element_of call.machine.program target.kind) then
    if is_range from count (length source.contents) && is_range to count (length target.contents)
    then copies_range call serial target (natural to) (take (natural count) (drop (natural from) source.contents))
    else stops call array_index
    else stops call array_store

abbrev pub copies : Call → ℕ → ℤ → ℕ → ℤ → ℤ → Option Performed
copies call source from target to count =
    on_object call source (λ one. on_object call target (λ other. copies_between call one from target other to count))

-- the exceptions that were suppressed, in an array of their own, and one more
abbrev pub suppressed_slot : ℕ
suppressed_slot = 2

abbrev pub contents_of : Option Object → List Content
contents_of None = []
contents_of (Some array) = array.contents

abbrev pub suppressed_by : Call → Object → List Content
suppressed_by call throwable = contents_of (option_and_then (object_at call.state) (reference_at throwable suppressed_slot))

abbrev pub gives_suppressed : Call → Object → Option Performed
gives_suppressed call throwable = gives_new call suppressed (kind_of_site call.machine.program suppressed) (suppressed_by call throwable)

abbrev pub suppresses : Call → ℕ → Object → ℕ → Option Performed
suppresses call serial throwable other =
    let plan = leaving call.state in
    Some (Gives (with_left (with_one plan suppressed (kind_of_site call.machine.program suppressed) (suppressed_by call throwable ++ Reference other ∷ []))
    (with_word call.state serial throwable suppressed_slot (Reference plan.next))) [])

abbrev pub suppresses_short : Call → ℕ → ℕ → Object → Option Performed
suppresses_short call serial other throwable =
    if_short call (length (suppressed_by call throwable) + 1) (suppresses call serial throwable other)

abbrev pub adds_suppressed : Call → ℕ → ℕ → Option Performed
adds_suppressed call serial other =
    on_object call other (λ added. if serial == other then stops call illegal_argument else on_object call serial (suppresses_short call serial other))

-- the characters of a string in an array of their own
abbrev pub gives_characters : Call → Object → Option Performed
gives_characters call string =
    option_and_then (gives_new call made_characters (kind_of_site call.machine.program made_characters)) (array_words call.state string)

abbrev pub array_native : Call → Native → List Value → Option Performed
array_native call natives.ObjectClone (Ref object ∷ []) = on_object call object (clones call)
array_native call natives.StringToCharArray (Ref string ∷ []) = on_object call string (gives_characters call)
array_native call natives.SystemArraycopy (Ref source ∷ Int from ∷ Ref target ∷ Int to ∷ Int count ∷ []) = copies call source from target to count
array_native call natives.ThrowableAddSuppressed (Ref throwable ∷ Ref other ∷ []) = adds_suppressed call throwable other
array_native call natives.ThrowableGetSuppressed (Ref throwable ∷ []) = on_object call throwable (gives_suppressed call)
array_native call other arguments = None
