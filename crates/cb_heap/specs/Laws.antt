-- What holds of all roots and stores, so that what runs over one store is shown once for all.
use Rattle.std.specs.Prelude.{◌≡◌, ◌↔◌, ◌<◌, ℕ, Bool, true, List, [], ◌∷◌, ◌++◌, Option, Some, IsTrue, length, map}
use Rattle.std.specs.List.{Contains, flat_map, list_all}
use Rattle.cb_plain.specs.declared.class_state.ClassState.{ClassState}
use Rattle.cb_plain.specs.declared.table.Table.{Table}
use Rattle.cb_plain.specs.declared.value.Value.{Value}
use Rattle.cb_plain.specs.Reach.{IsReached, reference_in, root_references, unless_null}
use Rattle.cb_plain.specs.Roots as roots
use Rattle.cb_plain.specs.State.{Content, Object, Roots, State}
use Rattle.cb_frames.specs.Entries.{entries, without_references}
use Rattle.cb_frames.specs.Tops as tops
use Rattle.cb_heap.specs.Closed.{Collects, IsClosed, reference_in_word}
use Rattle.cb_heap.specs.Follows.{Follows, TakesPredecessors}
use Rattle.cb_heap.specs.Kept.{is_held, is_kept, keep, residents, with_content}
use Rattle.cb_heap.specs.Reading.{View, read_roots, read_value, serial_of}
use Rattle.cb_heap.specs.StandsFor.{forget}
use Rattle.cb_heap.specs.Store.{ReadsAsBefore}
use Rattle.cb_heap.specs.Taking.{IsTaken, left_of}

-- reading goes through every change of the roots
pub record ReadsThrough : Type 0 where
  pub pending : (index : ℕ → ℕ) → (held : Roots) → (place : ℕ) → read_roots index (roots.with_pending held place) ≡ roots.with_pending (read_roots index held) (serial_of index place)
  pub argument : (index : ℕ → ℕ) → (held : Roots) → (place : ℕ) → read_roots index (roots.with_argument held place) ≡ roots.with_argument (read_roots index held) (serial_of index place)
  pub class : (index : ℕ → ℕ) → (held : Roots) → (class : ℕ) → (now : ClassState) → read_roots index (roots.with_class held class now) ≡ roots.with_class (read_roots index held) class now
  pub static_field : (index : ℕ → ℕ) → (held : Roots) → (slot : ℕ) → (value : Value) → read_roots index (roots.with_static held slot value) ≡ roots.with_static (read_roots index held) slot (read_value index value)
  pub entry : (index : ℕ → ℕ) → (held : Roots) → (table : Table) → (place to : ℕ) → read_roots index (roots.with_entry held table place to) ≡ roots.with_entry (read_roots index held) table place (serial_of index to)
  pub stack : (index : ℕ → ℕ) → (held : Roots) → tops.top_stack (read_roots index held) ≡ map (read_value index) (tops.top_stack held)
  pub locals : (index : ℕ → ℕ) → (held : Roots) → tops.top_locals (read_roots index held) ≡ map (read_value index) (tops.top_locals held)
  pub placed : (index : ℕ → ℕ) → (held : Roots) → (place : ℕ) → read_roots index (tops.placed held place) ≡ tops.placed (read_roots index held) place
  pub local : (index : ℕ → ℕ) → (held : Roots) → (local : ℕ) → (value : Value) → read_roots index (tops.with_local held local value) ≡ tops.with_local (read_roots index held) local (read_value index value)
  pub pushed : (index : ℕ → ℕ) → (held : Roots) → (value : Value) → read_roots index (tops.pushed held value) ≡ tops.pushed (read_roots index held) (read_value index value)
  pub without : (index : ℕ → ℕ) → (held : Roots) → (count : ℕ) → read_roots index (tops.without held count) ≡ tops.without (read_roots index held) count
  pub cleared : (index : ℕ → ℕ) → (held : Roots) → read_roots index (tops.cleared held) ≡ tops.cleared (read_roots index held)
  pub entered : (index : ℕ → ℕ) → (held : Roots) → (method arguments locals stack : ℕ) → read_roots index (tops.entered held method arguments locals stack) ≡ tops.entered (read_roots index held) method arguments locals stack
  pub entered_init : (index : ℕ → ℕ) → (held : Roots) → (class : ℕ) → read_roots index (tops.entered_init held class) ≡ tops.entered_init (read_roots index held) class
  pub left : (index : ℕ → ℕ) → (held : Roots) → read_roots index (tops.left held) ≡ tops.left (read_roots index held)

-- what is kept of a change is that change of what is kept
pub record KeepsChanges : Type 0 where
  pub content : (kept : List Bool) → (objects : List (Option Object)) → (serial word : ℕ) → (content : Content) → keep kept (with_content objects serial word content) ≡ with_content (keep kept objects) serial word content
  pub placed : (kept : List Bool) → (objects : List (Option Object)) → (object : Object) → length kept ≡ length objects → keep (kept ++ true ∷ []) (objects ++ Some object ∷ []) ≡ keep kept objects ++ Some object ∷ []
  pub twice : (now before : List Bool) → (objects : List (Option Object)) → residents (keep now (keep before objects)) ≡ now → length before ≡ length objects → keep now (keep before objects) ≡ keep now objects
  pub content_residents : (objects : List (Option Object)) → (serial word : ℕ) → (content : Content) → residents (with_content objects serial word content) ≡ residents objects
  pub placed_residents : (objects : List (Option Object)) → (object : Object) → residents (objects ++ Some object ∷ []) ≡ residents objects ++ true ∷ []

-- all references of roots pass a test
abbrev pub AllRoots : (ℕ → Bool) → Roots → Type 0
AllRoots test held = IsTrue (list_all test (root_references held))

abbrev pub Passes : (ℕ → Bool) → ℕ → Type 0
Passes test serial = IsTrue (list_all test (unless_null serial))

abbrev pub ValuePasses : (ℕ → Bool) → Value → Type 0
ValuePasses test value = IsTrue (list_all test (reference_in value))

-- views stay closed: roots, when what is put into them passes; objects, when what is put into them is held; and all that is held reads as it
-- did when an object is placed
pub record ClosesAgain : Type 0 where
  pub pending : (test : ℕ → Bool) → (held : Roots) → (serial : ℕ) → AllRoots test held → Passes test serial → AllRoots test (roots.with_pending held serial)
  pub argument : (test : ℕ → Bool) → (held : Roots) → (serial : ℕ) → AllRoots test held → Passes test serial → AllRoots test (roots.with_argument held serial)
  pub class : (test : ℕ → Bool) → (held : Roots) → (class : ℕ) → (now : ClassState) → AllRoots test held → AllRoots test (roots.with_class held class now)
  pub static_field : (test : ℕ → Bool) → (held : Roots) → (slot : ℕ) → (value : Value) → AllRoots test held → ValuePasses test value → AllRoots test (roots.with_static held slot value)
  pub entry : (test : ℕ → Bool) → (held : Roots) → (table : Table) → (place serial : ℕ) → AllRoots test held → Passes test serial → AllRoots test (roots.with_entry held table place serial)
  pub placed : (test : ℕ → Bool) → (held : Roots) → (place : ℕ) → AllRoots test held → AllRoots test (tops.placed held place)
  pub local : (test : ℕ → Bool) → (held : Roots) → (local : ℕ) → (value : Value) → AllRoots test held → ValuePasses test value → AllRoots test (tops.with_local held local value)
  pub pushed : (test : ℕ → Bool) → (held : Roots) → (value : Value) → AllRoots test held → ValuePasses test value → AllRoots test (tops.pushed held value)
  pub without : (test : ℕ → Bool) → (held : Roots) → (count : ℕ) → AllRoots test held → AllRoots test (tops.without held count)
  pub cleared : (test : ℕ → Bool) → (held : Roots) → AllRoots test held → AllRoots test (tops.cleared held)
  pub entered : (test : ℕ → Bool) → (held : Roots) → (method arguments locals stack : ℕ) → AllRoots test held → AllRoots test (tops.entered held method arguments locals stack)
  pub entered_init : (test : ℕ → Bool) → (held : Roots) → (class : ℕ) → AllRoots test held → AllRoots test (tops.entered_init held class)
  pub left : (test : ℕ → Bool) → (held : Roots) → AllRoots test held → AllRoots test (tops.left held)
  pub content : (view : View) → (serial word : ℕ) → (content : Content) → IsClosed view → IsTrue (list_all (is_held view.objects) (reference_in_word content)) →
      IsClosed (record { roots = view.roots; objects = with_content view.objects serial word content })
  pub new : (view : View) → (object : Object) → IsClosed view → IsTrue (list_all (is_held (view.objects ++ Some object ∷ [])) (flat_map reference_in_word object.contents)) →
      IsClosed (record { roots = view.roots; objects = view.objects ++ Some object ∷ [] })
  pub reads : (objects : List (Option Object)) → (before after : ℕ → ℕ) → ReadsAsBefore objects before after → (held : Roots) →
      AllRoots (is_held objects) (read_roots before held) → read_roots after held ≡ read_roots before held

-- a collection lets only objects go that aren't reached
abbrev pub KeepsReached : Type 0
KeepsReached = (old new : View) → IsClosed old → Collects old new → (serial : ℕ) → IsReached old.roots old.objects serial → IsTrue (is_kept new.objects serial)

-- of what is reached in a state nothing is lost, and nothing is reached besides, where only some objects are kept and nothing names another
abbrev pub ReachedAlike : Type 0
ReachedAlike = (kept : List Bool) → (state : State) → length kept ≡ length state.objects → IsClosed (forget kept state) → (serial : ℕ) →
    IsReached state.roots state.objects serial ↔ IsReached state.roots (keep kept state.objects) serial

-- where references follow what sites allow, taking some sites with all whose objects may refer to theirs is a collection
abbrev pub TakesCollect : Type 0
TakesCollect = (allows : ℕ → ℕ → Bool) → (taken : ℕ → Bool) → (view : View) → (after : List Bool) → IsClosed view → Follows allows view.objects →
    TakesPredecessors allows taken → IsTaken taken view after → Collects view (left_of view after) × (residents (left_of view after).objects ≡ after)

-- the walk over all that may name an object from outside: it meets just the references of the roots; reading goes through it; and roots that
-- differ in references alone read alike where what it meets does
pub record ReadsEntries : Type 0 where
  pub met : (held : Roots) → (serial : ℕ) → Contains (root_references held) serial ↔ ((0 < serial) × Contains (entries held) serial)
  pub through : (index : ℕ → ℕ) → (held : Roots) → entries (read_roots index held) ≡ map (serial_of index) (entries held)
  pub alike : (before after : ℕ → ℕ) → (old new : Roots) → without_references new ≡ without_references old →
      map (serial_of after) (entries new) ≡ map (serial_of before) (entries old) → read_roots after new ≡ read_roots before old
