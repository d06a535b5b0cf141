-- What instructions that look at objects do to roots and objects.
use Rattle.std.specs.Prelude.{ℤ, pos, ℕ, Bool, true, false, FitsSigned, ◌<◌, List, [], ◌∷◌, length, Option, Some, None, option_and_then, option_map, slice_get, if◌then◌else◌, zero, suc}
use Rattle.std.specs.Int.{w32}
use Rattle.std.specs.declared.result.Result.{Result}
use Rattle.std.specs.declared.result.Result.TheVariants.{Ok, Err}
use Rattle.cb_heap.specs.Kept.{content_at, contents_at, with_content}
use Rattle.cb_heap.specs.Reading.{View}
use Rattle.cb_frames.specs.Tops.{top_stack}
use Rattle.cb_kinds.specs.declared.basic.Basic.{Basic}
use Rattle.cb_kinds.specs.declared.basic.Basic.TheVariants as basics
use Rattle.cb_machine.specs.Arrays.{is_index}
use Rattle.cb_machine.specs.Sites.{array_index, array_store, null_pointer}
use Rattle.cb_machine.specs.Standing.{taken}
use Rattle.cb_machine.specs.Values.{content_of, kept_value, natural, sort_of_basic, value_in}
use Rattle.cb_plain.specs.declared.value.Value.{Value}
use Rattle.cb_plain.specs.declared.value.Value.TheVariants.{Int, Ref}
use Rattle.cb_plain.specs.State.{Content, Number, Reference}
use Rattle.cb_plain.specs.Updates.{object_in}
use Rattle.cb_shapes.specs.declared.sort.Sort.{Sort}
use Rattle.cb_shapes.specs.declared.sort.Sort.TheVariants as sorts
use Rattle.cb_act.specs.Effects.{stacked}

-- an instruction leaves roots and objects, or throws an exception of the machine's, which has this site
pub data Left : Type 0 where
  Goes : View → Left
  Throws : ℕ → Left

-- what a call has left, by what it answers
abbrev pub left_by : Result (Unit {0}) ℕ → View → Left
left_by (Ok done) view = Goes view
left_by (Err site) view = Throws site

-- whether a word holds what is read of it as a type: a reference, a long, or an int
abbrev pub Suits : Basic → Option Content → Type 0
Suits basic None = ⊥
Suits (basics.Reference kind) (Some (Reference serial)) = Unit {0}
Suits (basics.Reference kind) (Some (Number number)) = ⊥
Suits basics.Long (Some (Number number)) = Unit {0}
Suits basic (Some (Number number)) = FitsSigned w32 number
Suits basic (Some (Reference serial)) = ⊥

-- whether a word may take a value: it holds a reference, or a number, as that one is
abbrev pub takes : Value → Option Content → Bool
takes (Ref object) (Some (Reference serial)) = true
takes (Ref object) other = false
takes number (Some (Number before)) = true
takes number other = false

-- the topmost frame has another stack, and a word of an object other contents
abbrev pub on_stack : View → List Value → View
on_stack view stack = record { roots = stacked view.roots stack; objects = view.objects }

abbrev pub put_into : View → ℕ → ℕ → Content → List Value → View
put_into view serial word content stack = record { roots = stacked view.roots stack; objects = with_content view.objects serial word content }

-- null is no object
abbrev pub unless_null : ℕ → Option Left → Option Left
unless_null zero left = Some (Throws null_pointer)
unless_null (suc place) left = left

-- a value that a word of a type holds is laid on the stack; there is none where the word isn't there
abbrev pub read_on : View → List Value → Basic → Option Content → Option Left
read_on view rest basic content = option_map (λ content. Goes (on_stack view (value_in basic content ∷ rest))) content

-- getfield
abbrev pub got : View → ℕ → Basic → List Value × List Value → Option Left
got view slot basic (Ref object ∷ [], rest) = unless_null object (read_on view rest basic (content_at view.objects object slot))
got view slot basic other = None

abbrev pub behind_get_field : ℕ → Basic → View → Option Left
behind_get_field slot basic view = option_and_then (got view slot basic) (taken (sorts.Reference ∷ []) (top_stack view.roots))

-- and one is put into a word of an object
abbrev pub put_on : View → List Value → ℕ → ℕ → Content → Option Left
put_on view rest object word content = option_map (λ before. Goes (put_into view object word content rest)) (object_in view.objects object)

-- putfield
abbrev pub put : View → ℕ → Basic → List Value × List Value → Option Left
put view slot basic (value ∷ Ref object ∷ [], rest) =
    unless_null object (put_on view rest object slot (content_of (kept_value basic value)))
put view slot basic other = None

abbrev pub behind_put_field : ℕ → Basic → View → Option Left
behind_put_field slot basic view = option_and_then (put view slot basic) (taken (sort_of_basic basic ∷ sorts.Reference ∷ []) (top_stack view.roots))

-- the place of an index into so many elements, if it is one
abbrev pub place_of : ℤ → ℕ → Option ℕ
place_of index count = if is_index index count then Some (natural index) else None

-- an index into an array: null first, and then the bounds
abbrev pub within : View → ℕ → ℤ → Option Left → Option Left
within view array index left = if is_index index (length (contents_at view.objects array)) then left else Some (Throws array_index)

abbrev pub on_element : View → ℕ → ℤ → Option Left → Option Left
on_element view array index left = unless_null array (option_and_then (λ found. within view array index left) (object_in view.objects array))

-- iaload to saload, of an array whose elements are of a type
abbrev pub element_read : View → Basic → List Value × List Value → Option Left
element_read view basic (Int index ∷ Ref array ∷ [], rest) =
    on_element view array index (read_on view rest basic (content_at view.objects array (natural index)))
element_read view basic other = None

abbrev pub behind_load_element : Basic → View → Option Left
behind_load_element basic view = option_and_then (element_read view basic) (taken (sorts.Int ∷ sorts.Reference ∷ []) (top_stack view.roots))

-- iastore to sastore but for aastore: what is kept is what the elements hold
abbrev pub element_put : View → Basic → List Value × List Value → Option Left
element_put view basic (value ∷ Int index ∷ Ref array ∷ [], rest) =
    on_element view array index (put_on view rest array (natural index) (content_of (kept_value basic value)))
element_put view basic other = None

abbrev pub behind_store_element : Sort → Basic → View → Option Left
behind_store_element sort basic view = option_and_then (element_put view basic) (taken (sort ∷ sorts.Int ∷ sorts.Reference ∷ []) (top_stack view.roots))

-- aastore, of a reference that fits the elements or doesn't
abbrev pub reference_put : View → Bool → List Value × List Value → Option Left
reference_put view fits (Ref value ∷ Int index ∷ Ref array ∷ [], rest) =
    on_element view array index (if fits then put_on view rest array (natural index) (content_of (Ref value)) else Some (Throws array_store))
reference_put view fits other = None

abbrev pub behind_store_reference : Bool → View → Option Left
behind_store_reference fits view =
    option_and_then (reference_put view fits) (taken (sorts.Reference ∷ sorts.Int ∷ sorts.Reference ∷ []) (top_stack view.roots))

-- arraylength
abbrev pub length_read : View → List Value × List Value → Option Left
length_read view (Ref array ∷ [], rest) =
    unless_null array (option_map (λ found. Goes (on_stack view (Int (pos (length (contents_at view.objects array))) ∷ rest))) (object_in view.objects array))
length_read view other = None

abbrev pub behind_length : View → Option Left
behind_length view = option_and_then (length_read view) (taken (sorts.Reference ∷ []) (top_stack view.roots))

-- what a value on the stack refers to, 0 where it is null or a number or isn't there
abbrev pub referred : Option Value → ℕ
referred (Some (Ref object)) = object
referred other = 0

abbrev pub object_on : View → ℕ → ℕ
object_on view depth = referred (slice_get (top_stack view.roots) depth)

-- an object at a depth of the stack is null, or a word of it suits a type; or each word suits it
abbrev pub suits_unless_null : Basic → View → ℕ → ℕ → Type 0
suits_unless_null basic view word zero = Unit {0}
suits_unless_null basic view word (suc place) = Suits basic (content_at view.objects (suc place) word)

abbrev pub SuitsWord : Basic → (depth word : ℕ) → View → Type 0
SuitsWord basic depth word view = suits_unless_null basic view word (object_on view depth)

abbrev pub SuitsWords : Basic → (depth : ℕ) → View → Type 0
SuitsWords basic depth view =
    (word : ℕ) → word < length (contents_at view.objects (object_on view depth)) → Suits basic (content_at view.objects (object_on view depth) word)
