-- The attribute StackMapTable (JVMS §4.7.4).
use Rattle.std.specs.Prelude.{◌≡◌, ℕ, ◌+◌, ◌-◌, ◌^◌, ◌<◌, List, [], ◌∷◌, ◌++◌, IsSome, nat_lt, if◌then◌else◌}
use Rattle.std.specs.List.{flat_map}
use Rattle.cb_text.specs.declared.constant.Constant.{Constant}
use Rattle.cb_classfile.specs.declared.frame_map.MapFrame.{MapFrame}
use Rattle.cb_classfile.specs.declared.map_type.MapType.{MapType}
use Rattle.cb_classfile.specs.declared.map_type.MapType.TheVariants.{Top, Integer, Float, Double, Long, Null, UninitializedThis, Object, Uninitialized}
use Rattle.cb_classfile.specs.declared.frame_form.FrameForm.{FrameForm}
use Rattle.cb_classfile.specs.declared.frame_form.FrameForm.TheVariants as forms
use Rattle.cb_classfile.specs.Pool.{class_at}
use Rattle.cb_classfile.specs.Tables.{u2, table_bytes, SpellsCount, SpellsTable, SpellsU1, Then, ThenOf}

-- the bytes of a verification_type_info: its tag, and what stands behind it
abbrev pub type_bytes : MapType → List ℕ
type_bytes Top = 0 ∷ []
type_bytes Integer = 1 ∷ []
type_bytes Float = 2 ∷ []
type_bytes Double = 3 ∷ []
type_bytes Long = 4 ∷ []
type_bytes Null = 5 ∷ []
type_bytes UninitializedThis = 6 ∷ []
type_bytes (Object class) = 7 ∷ u2 class
type_bytes (Uninitialized place) = 8 ∷ u2 place

-- what it names is there, and its numbers fit two bytes
abbrev pub IsType : List Constant → MapType → Type 0
IsType pool (Object class) = IsSome (class_at pool class) × (class < 2 ^ 16)
IsType pool (Uninitialized place) = place < 2 ^ 16
IsType pool other = Unit {0}

-- a verification_type_info
pub record SpellsType (pool : List Constant) (bytes : List ℕ) (kind : MapType) : Type 0 where
  pub spelled : bytes ≡ type_bytes kind
  pub allowed : IsType pool kind

-- the form of a frame, by its kind. Those from 128 to 246 are reserved
abbrev pub form_of_frame : ℕ → FrameForm
form_of_frame kind =
    if nat_lt kind 64 then forms.Same
    else if nat_lt kind 128 then forms.SameOneItem
    else if nat_lt kind 247 then forms.Reserved
    else if nat_lt kind 248 then forms.SameOneItemExtended
    else if nat_lt kind 251 then forms.Chop
    else if nat_lt kind 252 then forms.SameExtended
    else if nat_lt kind 255 then forms.Append
    else forms.Full

-- the delta of a frame: the kind gives it, or it stands behind the kind
abbrev pub SpellsDelta : FrameForm → ℕ → List ℕ → ℕ → Type 0
SpellsDelta forms.Same kind bytes delta = (delta ≡ kind) × (bytes ≡ [])
SpellsDelta forms.SameOneItem kind bytes delta = (delta + 64 ≡ kind) × (bytes ≡ [])
SpellsDelta forms.Reserved kind bytes delta = ⊥
SpellsDelta form kind bytes delta = (delta < 2 ^ 16) × (bytes ≡ u2 delta)

-- its locals: as many as the kind says are appended, or all stand in a table
abbrev pub SpellsLocals : List Constant → FrameForm → ℕ → List ℕ → List MapType → Type 0
SpellsLocals pool forms.Append kind bytes locals = SpellsCount (SpellsType pool) (kind - 251) bytes locals
SpellsLocals pool forms.Full kind bytes locals = SpellsTable (SpellsType pool) bytes locals
SpellsLocals pool form kind bytes locals = (locals ≡ []) × (bytes ≡ [])

-- its stack: one item, or a table
abbrev pub SpellsStack : List Constant → FrameForm → List ℕ → List MapType → Type 0
SpellsStack pool forms.SameOneItem bytes stack = SpellsCount (SpellsType pool) 1 bytes stack
SpellsStack pool forms.SameOneItemExtended bytes stack = SpellsCount (SpellsType pool) 1 bytes stack
SpellsStack pool forms.Full bytes stack = SpellsTable (SpellsType pool) bytes stack
SpellsStack pool form bytes stack = (stack ≡ []) × (bytes ≡ [])

-- a stack_map_frame: its kind, and the parts that the form of its kind has
abbrev pub SpellsFormed : List Constant → FrameForm → ℕ → List ℕ → ℕ × (List MapType × List MapType) → Type 0
SpellsFormed pool form kind = Then (SpellsDelta form kind) (Then (SpellsLocals pool form kind) (SpellsStack pool form))

abbrev pub SpellsFrame : List Constant → List ℕ → MapFrame → Type 0
SpellsFrame pool bytes frame =
    ThenOf SpellsU1 (λ kind. SpellsFormed pool (form_of_frame kind) kind) bytes (frame.kind, (frame.delta, (frame.locals, frame.stack)))

-- the bytes of the parts of a frame, by its form
abbrev pub delta_bytes : FrameForm → ℕ → List ℕ
delta_bytes forms.Same delta = []
delta_bytes forms.SameOneItem delta = []
delta_bytes forms.Reserved delta = []
delta_bytes form delta = u2 delta

abbrev pub locals_bytes : FrameForm → List MapType → List ℕ
locals_bytes forms.Append locals = flat_map type_bytes locals
locals_bytes forms.Full locals = table_bytes type_bytes locals
locals_bytes form locals = []

abbrev pub stack_bytes : FrameForm → List MapType → List ℕ
stack_bytes forms.SameOneItem stack = flat_map type_bytes stack
stack_bytes forms.SameOneItemExtended stack = flat_map type_bytes stack
stack_bytes forms.Full stack = table_bytes type_bytes stack
stack_bytes form stack = []

-- the bytes of a frame: no others spell it
abbrev pub frame_bytes : MapFrame → List ℕ
frame_bytes frame =
    frame.kind ∷ delta_bytes (form_of_frame frame.kind) frame.delta ++ locals_bytes (form_of_frame frame.kind) frame.locals ++ stack_bytes (form_of_frame frame.kind) frame.stack

-- the frames of code, by the contents of its attributes StackMapTable, of which there is at most one
abbrev pub SpellsFrames : List Constant → List (List ℕ) → List MapFrame → Type 0
SpellsFrames pool [] frames = frames ≡ []
SpellsFrames pool (contents ∷ []) frames = SpellsTable (SpellsFrame pool) contents frames
SpellsFrames pool contents frames = ⊥
