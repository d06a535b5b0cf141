-- A class begins to be initialised as the machine says, and the same when roots are read.
use Rattle.std.proofs.Common.{◌≡◌, ◌∙◌, ap, refl, sym, ℕ, Bool, true, false, List, [], ◌∷◌, Option, Some, None}
use Rattle.std.specs.Prelude.{if◌then◌else◌}
use Rattle.std.specs.List.{AllByRecursion, fold}
use Rattle.cb_frames.specs.Tops.{entered_init}
use Rattle.cb_heap.proofs.Laws.{reads_static}
use Rattle.cb_heap.specs.Reading.{read_roots, read_value}
use Rattle.cb_kinds.specs.declared.basic.Basic.{Basic}
use Rattle.cb_link.specs.declared.named.Named.{Named}
use Rattle.cb_link.specs.declared.named.Named.TheVariants as meanings
use Rattle.cb_link.specs.Named.{static_initial}
use Rattle.cb_link.specs.Program.{Linked}
use Rattle.cb_link.specs.Slots.{static_basic}
use Rattle.cb_machine.specs.Initialising.{begun_upon, own_statics}
use Rattle.cb_machine.specs.Machine.{Machine}
use Rattle.cb_machine.specs.Plans.{Plan, leaving, with_left}
use Rattle.cb_machine.specs.Sites.{stack_overflow}
use Rattle.cb_machine.specs.Strings.{Placed, constant_string}
use Rattle.cb_machine.specs.Throwing.{throws}
use Rattle.cb_machine.specs.Values.{kept_value}
use Rattle.cb_plain.specs.declared.class_state.ClassState.TheVariants.{Busy}
use Rattle.cb_plain.specs.declared.value.Value.{Value}
use Rattle.cb_plain.specs.declared.value.Value.TheVariants as values
use Rattle.cb_plain.specs.Depth.{has_room}
use Rattle.cb_plain.specs.Roots as roots
use Rattle.cb_plain.specs.State.{Frame, Roots, State}
use Rattle.cb_plain.specs.Updates.{with_roots, with_static}
use Rattle.cb_unwind.specs.Begun.{IsNoText, NumbersOnly, begun, set_initial, set_to, set_whole}
use Rattle.cb_unwind.proofs.NumberLaws.{initial_read}

-- the fields of a class that have constants, as the machine sets them
abbrev plan_static : ℕ → Placed → Plan
plan_static slot placed = with_left placed.plan (with_static placed.plan.left slot (values.Ref placed.serial))

abbrev plan_whole : ℕ → Value → Plan → Option Basic → Plan
plan_whole slot value plan None = plan
plan_whole slot value plan (Some basic) = with_left plan (with_static plan.left slot (kept_value basic value))

abbrev plan_to : Machine → ℕ → Plan → Named → Plan
plan_to machine slot plan (meanings.Whole value) = plan_whole slot value plan (static_basic machine.program slot)
plan_to machine slot plan (meanings.Text text) = plan_static slot (constant_string machine text plan)
plan_to machine slot plan other = plan

abbrev plan_initial : Machine → Plan → ℕ → Plan
plan_initial machine plan slot = plan_to machine slot plan (static_initial machine.program slot)

module _ (machine : Machine) (state : State) where
  whole_so : (slot : ℕ) (value : Value) (held : Roots) (basic : Option Basic)
      → plan_whole slot value (leaving (with_roots state held)) basic ≡ leaving (with_roots state (set_whole slot value held basic))
  whole_so slot value held None = refl
  whole_so slot value held (Some basic) = refl

  one_so : (slot : ℕ) (held : Roots) (named : Named) → IsNoText named
      → plan_to machine slot (leaving (with_roots state held)) named ≡ leaving (with_roots state (set_to machine.program slot held named))
  one_so slot held meanings.Nothing number = refl
  one_so slot held (meanings.Kind kind) number = refl
  one_so slot held (meanings.Static class other) number = refl
  one_so slot held (meanings.Field class other) number = refl
  one_so slot held (meanings.Method method) number = refl
  one_so slot held (meanings.Text text) number = absurd number
  one_so slot held (meanings.Whole value) number = whole_so slot value held (static_basic machine.program slot)

  fields_so : (slots : List ℕ) (held : Roots) → AllByRecursion (λ slot. IsNoText (static_initial machine.program slot)) slots
      → fold (plan_initial machine) (leaving (with_roots state held)) slots ≡ leaving (with_roots state (fold (set_initial machine.program) held slots))
  fields_so [] held all = refl
  fields_so (slot ∷ slots) held all =
      ap (λ (plan : Plan). fold (plan_initial machine) plan slots) (one_so slot held (static_initial machine.program slot) all.0)
      ∙ fields_so slots (set_initial machine.program held slot) all.1

  -- upon any frames
  pub begun_on : (frames : List Frame) (class : ℕ) → NumbersOnly machine.program class
      → begun_upon machine state frames class
      ≡ (if has_room machine.frames frames 0 then leaving (with_roots state (begun machine.program class (roots.with_frames state.roots frames)))
      else throws machine state stack_overflow)
  begun_on frames class numbers = by (has_room machine.frames frames 0) refl where
    busy : Roots
    busy = roots.with_class (entered_init (roots.with_frames state.roots frames) class) class Busy

    by : (room : Bool) → has_room machine.frames frames 0 ≡ room
        → begun_upon machine state frames class
        ≡ (if has_room machine.frames frames 0 then leaving (with_roots state (begun machine.program class (roots.with_frames state.roots frames)))
        else throws machine state stack_overflow)
    by true room = rw room (fields_so (own_statics machine.program class) busy numbers)
    by false room = rw room refl

-- what is kept of a value reads as it is kept of what is read
kept_read : (index : ℕ → ℕ) (basic : Basic) (value : Value) → kept_value basic (read_value index value) ≡ read_value index (kept_value basic value)
kept_read index basic (values.Int number) = refl
kept_read index basic (values.Long number) = refl
kept_read index basic (values.Ref place) = refl

module _ (program : Linked) (index : ℕ → ℕ) where
  whole_read : (slot : ℕ) (value : Value) → static_initial program slot ≡ meanings.Whole value → (held : Roots) (basic : Option Basic)
      → set_whole slot value (read_roots index held) basic ≡ read_roots index (set_whole slot value held basic)
  whole_read slot value names held None = refl
  whole_read slot value names held (Some basic) =
      ap (roots.with_static (read_roots index held) slot) (ap (kept_value basic) (sym (initial_read program index slot value names)) ∙ kept_read index basic value)
      ∙ sym (reads_static index held slot (kept_value basic value))

  named_read : (slot : ℕ) (held : Roots) (named : Named) → static_initial program slot ≡ named
      → set_to program slot (read_roots index held) named ≡ read_roots index (set_to program slot held named)
  named_read slot held meanings.Nothing names = refl
  named_read slot held (meanings.Kind kind) names = refl
  named_read slot held (meanings.Static class other) names = refl
  named_read slot held (meanings.Field class other) names = refl
  named_read slot held (meanings.Method method) names = refl
  named_read slot held (meanings.Text text) names = refl
  named_read slot held (meanings.Whole value) names = whole_read slot value names held (static_basic program slot)

  fields_read : (slots : List ℕ) (held : Roots) → fold (set_initial program) (read_roots index held) slots ≡ read_roots index (fold (set_initial program) held slots)
  fields_read [] held = refl
  fields_read (slot ∷ slots) held =
      ap (λ (held : Roots). fold (set_initial program) held slots) (named_read slot held (static_initial program slot) refl)
      ∙ fields_read slots (set_initial program held slot)

  pub begun_read : (held : Roots) (class : ℕ) → begun program class (read_roots index held) ≡ read_roots index (begun program class held)
  begun_read held class = fields_read (own_statics program class) (roots.with_class (entered_init held class) class Busy)
