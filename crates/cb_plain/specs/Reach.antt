-- What can be reached: from the roots along references in objects.
use Rattle.std.specs.Prelude.{◌≡◌, ℕ, List, [], ◌∷◌, ◌++◌, Some, zero, suc, ◌<◌, Option}
use Rattle.std.specs.List.{Contains, flat_map}
use Rattle.cb_plain.specs.declared.value.Value.{Value}
use Rattle.cb_plain.specs.declared.value.Value.TheVariants as values
use Rattle.cb_plain.specs.Updates.{object_in}
use Rattle.cb_plain.specs.State.{Frame, Initialising, Object, OfMethod, Reference, Roots, Tables}

-- a serial, where it isn't null; and the references in values, whatever their types are said to be
abbrev pub unless_null : ℕ → List ℕ
unless_null zero = []
unless_null (suc place) = suc place ∷ []

abbrev pub reference_in : Value → List ℕ
reference_in (values.Ref serial) = unless_null serial
reference_in other = []

abbrev pub references_in : List Value → List ℕ
references_in held = flat_map reference_in held

-- in frames, in tables and in all roots
abbrev pub frame_references : Frame → List ℕ
frame_references (OfMethod frame) = references_in frame.locals ++ references_in frame.stack
frame_references (Initialising class place) = []

abbrev pub table_references : Tables → List ℕ
table_references tables =
    flat_map unless_null (tables.constants ++ tables.classes ++ tables.integers ++ tables.longs ++ tables.characters ++ tables.booleans)

abbrev pub root_references : Roots → List ℕ
root_references roots =
    flat_map frame_references roots.frames ++ references_in roots.statics ++ table_references roots.tables ++ unless_null roots.pending ++ unless_null roots.argument

-- an object points to another where a word of it holds its serial, which isn't null
pub record Points (objects : List (Option Object)) (one other : ℕ) : Type 0 where
  pub object : Object
  pub there : object_in objects one ≡ Some object
  pub holds : Contains object.contents (Reference other)
  pub is_some : 0 < other

-- an object is reached where a path leads to it from a root
pub data IsReached (roots : Roots) (objects : List (Option Object)) : ℕ → Type 0 where
  AtRoot : (serial : ℕ) → Contains (root_references roots) serial → IsReached roots objects serial
  Behind : (one other : ℕ) → IsReached roots objects one → Points objects one other → IsReached roots objects other
