-- A class begins to be initialised behind one whose place grows.
use Rattle.std.proofs.Common.{◌≡◌, ◌∙◌, ap, arith, refl, sym, subst, ℕ, zero, suc, ◌<◌, true, List, [], ◌∷◌, length, map, Option, Some, None}
use Rattle.std.proofs.lemmas.List.{length-map}
use Rattle.std.specs.List.{fold}
use Rattle.cb_frames.specs.Limited.{Limited, with_roots as with_held}
use Rattle.cb_frames.specs.Tops.{placed}
use Rattle.cb_heap.proofs.Laws.{closed_placed, reads_placed, reads_room}
use Rattle.cb_heap.specs.Closed.{IsClosed}
use Rattle.cb_heap.specs.Kept.{is_held}
use Rattle.cb_heap.specs.Reading.{read_frame, read_roots, seen}
use Rattle.cb_kinds.specs.declared.basic.Basic.{Basic}
use Rattle.cb_link.specs.Named.{static_initial}
use Rattle.cb_link.specs.Program.{Linked}
use Rattle.cb_link.specs.Slots.{static_basic}
use Rattle.cb_link.specs.declared.named.Named.{Named}
use Rattle.cb_link.specs.declared.named.Named.TheVariants as meanings
use Rattle.cb_machine.specs.Initialising.{begun_upon, own_statics}
use Rattle.cb_machine.specs.Machine.{Machine, listed}
use Rattle.cb_machine.specs.Plans.{Plan, asked, with_left}
use Rattle.cb_machine.specs.Strings.{constant_string}
use Rattle.cb_plain.specs.Depth.{has_room}
use Rattle.cb_plain.specs.State.{Frame, Initialising, Object, OfMethod, Roots, State}
use Rattle.cb_plain.specs.Updates.{with_frames}
use Rattle.cb_plain.specs.declared.value.Value.{Value}
use Rattle.cb_interp.specs.TextStatics.{first_plan, set_initial, set_static, set_to, set_whole}
use Rattle.cb_act.specs.Turning.{Outside, machine_of, state_of}
use Rattle.cb_interp.proofs.TurnsTextAsks.{begins_so}

-- ---- what is asked for is the same upon other frames

abbrev upon : List Frame → Plan → Plan
upon frames plan = with_left plan (with_frames plan.left frames)

text_upon : (machine : Machine) (slot : ℕ) (frames : List Frame) (plan : Plan) (text serial : ℕ) → listed plan.left.roots.tables.constants text ≡ serial
    → set_static slot (constant_string machine text (upon frames plan)) ≡ upon frames (set_static slot (constant_string machine text plan))
text_upon machine slot frames plan text zero is = rw is refl
text_upon machine slot frames plan text (suc place) is = rw is refl

whole_upon : (slot : ℕ) (value : Value) (frames : List Frame) (plan : Plan) (basic : Option Basic)
    → set_whole slot value (upon frames plan) basic ≡ upon frames (set_whole slot value plan basic)
whole_upon slot value frames plan None = refl
whole_upon slot value frames plan (Some basic) = refl

named_upon : (machine : Machine) (slot : ℕ) (frames : List Frame) (plan : Plan) (named : Named) → set_to machine slot (upon frames plan) named ≡ upon frames (set_to machine slot plan named)
named_upon machine slot frames plan meanings.Nothing = refl
named_upon machine slot frames plan (meanings.Kind kind) = refl
named_upon machine slot frames plan (meanings.Static class other) = refl
named_upon machine slot frames plan (meanings.Field class other) = refl
named_upon machine slot frames plan (meanings.Method method) = refl
named_upon machine slot frames plan (meanings.Whole value) = whole_upon slot value frames plan (static_basic machine.program slot)
named_upon machine slot frames plan (meanings.Text text) = text_upon machine slot frames plan text (listed plan.left.roots.tables.constants text) refl

all_upon : (machine : Machine) (frames : List Frame) (slots : List ℕ) (plan : Plan)
    → fold (set_initial machine) (upon frames plan) slots ≡ upon frames (fold (set_initial machine) plan slots)
all_upon machine frames [] plan = refl
all_upon machine frames (slot ∷ slots) plan =
    ap (λ (plan : Plan). fold (set_initial machine) plan slots) (named_upon machine slot frames plan (static_initial machine.program slot))
    ∙ all_upon machine frames slots (set_initial machine plan slot)

pub asks_upon : (machine : Machine) (state : State) (one other : List Frame) (class : ℕ) → has_room machine.frames one 0 ≡ true → has_room machine.frames other 0 ≡ true
    → asked (begun_upon machine state one class) ≡ asked (begun_upon machine state other class)
asks_upon machine state one other class room_one room_other =
    ap asked (begins_so machine state one class room_one)
    ∙ sym (ap asked (all_upon machine (Initialising class 0 ∷ other) (own_statics machine.program class) (first_plan state one class)))
    ∙ sym (ap asked (begins_so machine state other class room_other))

-- ---- room upon them

pub room_placed : (limit pc : ℕ) (held : Roots) → has_room limit (placed held pc).frames 0 ≡ has_room limit held.frames 0
room_placed limit pc held = go held.frames refl where
  go : (frames : List Frame) → held.frames ≡ frames → has_room limit (placed held pc).frames 0 ≡ has_room limit held.frames 0
  go [] is = rw is refl
  go (Initialising class place ∷ below) is = rw is refl
  go (OfMethod frame ∷ below) is = rw is refl

pub room_read_placed : (index : ℕ → ℕ) (limit pc : ℕ) (held : Roots) → has_room limit (placed (read_roots index held) pc).frames 0 ≡ has_room limit held.frames 0
room_read_placed index limit pc held = room_placed limit pc (read_roots index held) ∙ reads_room index held limit 0

pub frames_again : (index now : ℕ → ℕ) (held after : Roots) → read_roots now after ≡ read_roots index held → 0 < length held.frames → 0 < length after.frames
frames_again index now held after same some =
    let whole : length (map (read_frame now) after.frames) ≡ length (map (read_frame index) held.frames) = ap (λ (roots : Roots). length roots.frames) same in
    let one = length-map after.frames (read_frame now) in
    let other = length-map held.frames (read_frame index) in
    omega (arith, some, whole, one, other)

-- ---- what begins once the place has grown

module _ (program : Linked) (index : ℕ → ℕ) (kept : List (Option Object)) (outside : Outside) (class pc : ℕ) (old grown : Limited)
    (is : grown ≡ with_held old (placed old.roots pc)) where
  abbrev state : State
  state = state_of (seen index kept old.roots) outside

  pub first_grown : first_plan (state_of (seen index kept grown.roots) outside) (read_roots index grown.roots).frames class ≡ first_plan state (placed state.roots pc).frames class
  first_grown =
      ap (λ (grown : Limited). first_plan (state_of (seen index kept grown.roots) outside) (read_roots index grown.roots).frames class) is
      ∙ ap (λ (roots : Roots). first_plan (state_of (record { roots = roots; objects = kept }) outside) roots.frames class) (reads_placed index old.roots pc)

  pub begun_grown : has_room old.limit (placed old.roots pc).frames 0 ≡ true
      → begun_upon (machine_of program grown.limit) (state_of (seen index kept grown.roots) outside) (read_roots index grown.roots).frames class
      ≡ begun_upon (machine_of program old.limit) state (placed state.roots pc).frames class
  begun_grown room =
      let read : has_room old.limit (placed state.roots pc).frames 0 ≡ true = room_read_placed index old.limit pc old.roots ∙ sym (room_placed old.limit pc old.roots) ∙ room in
      ap (λ (grown : Limited). begun_upon (machine_of program grown.limit) (state_of (seen index kept grown.roots) outside) (read_roots index grown.roots).frames class) is
      ∙ ap (λ (roots : Roots). begun_upon (machine_of program old.limit) (state_of (record { roots = roots; objects = kept }) outside) roots.frames class) (reads_placed index old.roots pc)
      ∙ begins_so (machine_of program old.limit) (state_of (record { roots = placed state.roots pc; objects = kept }) outside) (placed state.roots pc).frames class read
      ∙ sym (begins_so (machine_of program old.limit) state (placed state.roots pc).frames class read)

  pub closed_grown : IsClosed (seen index kept old.roots) → IsClosed (seen index kept grown.roots)
  closed_grown closed =
      subst (λ (grown : Limited). IsClosed (seen index kept grown.roots)) (sym is)
      (subst (λ (roots : Roots). IsClosed (record { roots = roots; objects = kept })) (sym (reads_placed index old.roots pc))
      (record { roots = closed_placed (is_held kept) (read_roots index old.roots) pc closed.roots; objects = closed.objects }))
