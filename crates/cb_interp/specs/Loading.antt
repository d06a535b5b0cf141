-- The step that loads the string of a text of the program (JVMS §6.5, ldc; JLS §3.10.5).
use Rattle.std.specs.Prelude.{◌≡◌, ◌<◌, ◌^◌, ℕ, pos, ◌+◌, ◌++◌, Bool, true, false, List, [], ◌∷◌, length, Option, Some}
use Rattle.cb_frames.specs.Tops.{placed, pushed}
use Rattle.cb_heap.specs.Reading.{View}
use Rattle.cb_link.specs.Having.{site_kinds}
use Rattle.cb_link.specs.Program.{Linked}
use Rattle.cb_link.specs.Slots.{shape}
use Rattle.cb_link.specs.declared.decoded.Decoded.{Decoded}
use Rattle.cb_link.specs.declared.named.Named.TheVariants as meanings
use Rattle.cb_machine.specs.Machine.{Machine, kind_of_site}
use Rattle.cb_machine.specs.Plans.{Plan, leaving, object_of, with_left, with_one}
use Rattle.cb_machine.specs.Sites.{class_objects, constant_characters, constant_strings}
use Rattle.cb_machine.specs.Steps.{plan}
use Rattle.cb_machine.specs.Strings.{unit_contents}
use Rattle.cb_plain.specs.Roots.{with_entry}
use Rattle.cb_plain.specs.State.{Number, Object, Reference, Roots, State}
use Rattle.cb_plain.specs.Updates.{with_roots}
use Rattle.cb_plain.specs.declared.shape.Shape.TheVariants.{Elements, Fields}
use Rattle.cb_plain.specs.declared.table.Table.TheVariants.{ClassObjects, Constants}
use Rattle.cb_plain.specs.declared.value.Value.TheVariants.{Ref}
use Rattle.cb_shapes.specs.declared.action.Action.{Action}
use Rattle.cb_shapes.specs.declared.action.Action.TheVariants as actions
use Rattle.cb_unwind.specs.Strings.{units_of}
use Rattle.cb_act.specs.Turning.{Outside, state_of}

-- what there is once an object is laid on the stack, at the next place
abbrev pub laid : ℕ → View → ℕ → View
laid serial view pc = record { roots = placed (pushed view.roots (Ref serial)) pc; objects = view.objects }

-- a text that has no object yet: its characters and then its string are placed, and the string is entered in the table of constants
abbrev pub loads_new : Machine → State → (text pc : ℕ) → Plan
loads_new machine state text pc =
    with_left
    (with_one (with_one (leaving state) constant_characters (kind_of_site machine.program constant_characters) (unit_contents (units_of machine.program text)))
    constant_strings (kind_of_site machine.program constant_strings) (Reference (length state.objects + 1) ∷ []))
    (with_roots state (placed (pushed (with_entry state.roots Constants text (length state.objects + 1 + 1)) (Ref (length state.objects + 1 + 1))) pc))

-- it is the step, whatever objects there are beside those that roots name
abbrev pub LoadsNew : Machine → Roots → Outside → (text pc : ℕ) → Type 0
LoadsNew machine roots outside text pc =
    (objects : List (Option Object))
    → plan machine (state_of (record { roots = roots; objects = objects }) outside) ≡ Some (loads_new machine (state_of (record { roots = roots; objects = objects }) outside) text pc)

-- the object of the class of a kind that has none yet: it holds the number of the kind, and is entered in the table of class objects
abbrev pub new_class : (own kind : ℕ) → View → ℕ × View
new_class own kind view = (
  length view.objects + 1,
  record {
    roots = with_entry view.roots ClassObjects kind (length view.objects + 1);
    objects = view.objects ++ Some (object_of class_objects own (Number (pos kind) ∷ [])) ∷ [];
  },
)

abbrev pub loads_class : Machine → State → (kind pc : ℕ) → Plan
loads_class machine state kind pc =
    with_left (with_one (leaving state) class_objects (kind_of_site machine.program class_objects) (Number (pos kind) ∷ []))
    (with_roots state (placed (pushed (with_entry state.roots ClassObjects kind (length state.objects + 1)) (Ref (length state.objects + 1))) pc))

abbrev pub LoadsClass : Machine → Roots → Outside → (kind pc : ℕ) → Type 0
LoadsClass machine roots outside kind pc =
    (objects : List (Option Object))
    → plan machine (state_of (record { roots = roots; objects = objects }) outside) ≡ Some (loads_class machine (state_of (record { roots = roots; objects = objects }) outside) kind pc)

-- a string and its characters may be placed: by the shapes of their kinds a string has one reference, and characters are numbers
pub record MayPlace (program : Linked) (text : ℕ) : Type 0 where
  pub few : length (units_of program text) < 2 ^ 32
  pub sites : constant_characters < length (site_kinds program)
  pub characters : kind_of_site program constant_characters < length program.kinds
  pub strings : kind_of_site program constant_strings < length program.kinds
  pub elements : shape program (kind_of_site program constant_characters) ≡ Elements false
  pub field : shape program (kind_of_site program constant_strings) ≡ Fields (true ∷ [])

-- and so may the object of a class, of which the one field is a number
pub record MayPlaceClass (program : Linked) : Type 0 where
  pub sites : class_objects < length (site_kinds program)
  pub low : kind_of_site program class_objects < length program.kinds
  pub field : shape program (kind_of_site program class_objects) ≡ Fields (false ∷ [])

-- whether an instruction loads a constant
abbrev pub loads_by : Option Action → Bool
loads_by (Some (actions.Constant index)) = true
loads_by other = false

-- a text that is loaded, or the kind whose class is, and the place where the topmost frame goes on
pub record Loading : Type 0 where
  pub text : ℕ
  pub next : ℕ

pub record ClassLoading : Type 0 where
  pub kind : ℕ
  pub next : ℕ

-- it loads the string of a text, and goes on there
pub record IsTextHere (program : Linked) (decoded : Decoded) (loading : Loading) : Type 0 where
  pub loads : loads_by decoded.action ≡ true
  pub names : decoded.named ≡ meanings.Text loading.text
  pub next : decoded.next ≡ Some loading.next
  pub low : loading.text < length program.constants

-- or the object of a class
pub record IsClassHere (program : Linked) (decoded : Decoded) (loading : ClassLoading) : Type 0 where
  pub loads : loads_by decoded.action ≡ true
  pub names : decoded.named ≡ meanings.Kind loading.kind
  pub next : decoded.next ≡ Some loading.next
  pub low : loading.kind < length program.kinds
