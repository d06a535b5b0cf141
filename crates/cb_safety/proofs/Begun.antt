-- The initialisation of a class begins: it is busy, and its static fields with constants have their values.
use Rattle.std.proofs.Common.{◌≡◌, ◌∙◌, ap, arith, refl, sym, subst, ℕ, zero, suc, ◌<◌, Bool, true, false, List, [], ◌∷◌, length, Option, Some, None, slice_get, if◌then◌else◌}
use Rattle.std.specs.List.{fold}
use Rattle.std.proofs.lemmas.List.{length-set}
use Rattle.cb_kinds.specs.declared.basic.Basic.{Basic}
use Rattle.cb_link.specs.Named.{static_initial}
use Rattle.cb_link.specs.Numbers.{or_none}
use Rattle.cb_link.specs.Program.{Linked}
use Rattle.cb_link.specs.Slots.{static_basic}
use Rattle.cb_link.specs.declared.named.Named.{Named}
use Rattle.cb_link.specs.declared.named.Named.TheVariants as meanings
use Rattle.cb_machine.specs.Initialising.{begun_upon, own_statics}
use Rattle.cb_machine.specs.Machine.{Machine, listed, or_zero}
use Rattle.cb_machine.specs.Plans.{Plan, leaving, made, with_left}
use Rattle.cb_machine.specs.Sites.{constant_characters, constant_strings, stack_overflow}
use Rattle.cb_machine.specs.Strings.{Placed, constant_string, with_string}
use Rattle.cb_machine.specs.Throwing.{throws}
use Rattle.cb_machine.specs.Values.{kept_int, kept_value}
use Rattle.cb_plain.specs.Depth.{has_room}
use Rattle.cb_plain.specs.Roots as plain_roots
use Rattle.cb_plain.specs.State.{Frame, Initialising, State}
use Rattle.cb_plain.specs.Updates.{with_class, with_entry, with_frames, with_static}
use Rattle.cb_plain.specs.declared.class_state.ClassState.TheVariants.{Busy}
use Rattle.cb_plain.specs.declared.table.Table.TheVariants as tables
use Rattle.cb_plain.specs.declared.value.Value.{Value}
use Rattle.cb_plain.specs.declared.value.Value.TheVariants as values
use Rattle.cb_verify.specs.Within.{kind_of_string}
use Rattle.cb_safety.specs.Frames.{AreStanding}
use Rattle.cb_safety.specs.Held.{HasBasic}
use Rattle.cb_safety.specs.Kinds.{IsKnown, IsOfKind, Kinds, Refers, kinds_of}
use Rattle.cb_safety.specs.Ready.{BeginsTyped}
use Rattle.cb_safety.specs.States.{AreFrames, IsTypedState}
use Rattle.cb_safety.specs.Strings.{HasConstants, IsInitial, IsText}
use Rattle.cb_safety.specs.Throwing.{AreThrown}
use Rattle.cb_safety.proofs.Known.{basic_known}
use Rattle.cb_safety.proofs.Contents.{int_kept}
use Rattle.cb_safety.proofs.Going.{standing_frames}
use Rattle.cb_safety.proofs.StaticValues.{int_basic, of_type, roots_set}
use Rattle.cb_safety.proofs.StringsMade.{HasString, IsGood, good_rooted, objects_in, roots_entered, string_made}
use Rattle.cb_safety.proofs.Throwing.{throws_typed}

-- ---- what a constant gives

initial_whole : (program : Linked) (kinds : Kinds) (basic : Basic) (value : Value) → IsInitial basic (meanings.Whole value) → HasBasic program kinds basic (kept_value basic value)
initial_whole program kinds basic value (IsInitial.ALong number fits) = HasBasic.ALong number fits
initial_whole program kinds basic value (IsInitial.AnInt own number is fits) = int_basic program kinds own (kept_int own number) is (int_kept program kinds own number is fits)

initial_text : (program : Linked) (kinds : Kinds) (basic : Basic) (text serial : ℕ) → IsInitial basic (meanings.Text text) → IsOfKind program kinds kind_of_string serial
    → HasBasic program kinds basic (values.Ref serial)
initial_text program kinds basic text serial (IsInitial.AString own) is = HasBasic.AReference kind_of_string serial (Refers.To serial is)

of_kind : (program : Linked) (kinds : Kinds) (kind place : ℕ) → Refers program kinds kind (suc place) → IsOfKind program kinds kind (suc place)
of_kind program kinds kind place (Refers.To own is) = is

there_is : (found : Option ℕ) (place : ℕ) → or_zero found ≡ suc place → found ≡ Some (suc place)
there_is None place is = absurd (cc is)
there_is (Some number) place is = ap Some is

text_of : (found : Option (List ℕ)) → ((units : List ℕ) → found ≡ Some units → IsText units) → IsText (or_none found)
text_of None each = record { each = tt; few = omega arith }
text_of (Some units) each = each units refl

-- ---- the fields of a class, one after the other

abbrev set_static : ℕ → Placed → Plan
set_static slot placed = with_left placed.plan (with_static placed.plan.left slot (values.Ref placed.serial))

abbrev set_whole : ℕ → Value → Plan → Option Basic → Plan
set_whole slot value plan None = plan
set_whole slot value plan (Some basic) = with_left plan (with_static plan.left slot (kept_value basic value))

abbrev set_to : Machine → ℕ → Plan → Named → Plan
set_to machine slot plan (meanings.Whole value) = set_whole slot value plan (static_basic machine.program slot)
set_to machine slot plan (meanings.Text text) = set_static slot (constant_string machine text plan)
set_to machine slot plan other = plan

abbrev set_initial : Machine → Plan → ℕ → Plan
set_initial machine plan slot = set_to machine slot plan (static_initial machine.program slot)

abbrev entered_constant : ℕ → Placed → Placed
entered_constant text placed =
    record { serial = placed.serial; plan = with_left placed.plan (with_entry placed.plan.left tables.Constants text placed.serial) }

abbrev constant_or_new : Machine → ℕ → Plan → ℕ → Placed
constant_or_new machine text plan zero =
    entered_constant text (with_string machine constant_strings constant_characters (or_none (slice_get machine.program.constants text)) plan)
constant_or_new machine text plan (suc place) = record { serial = suc place; plan = plan }

module _ (machine : Machine) (constants : HasConstants machine.program) where
  -- the string of a constant
  pub constant_made : (text : ℕ) (plan : Plan) → IsGood machine.program plan → HasString machine.program (constant_string machine text plan)
  constant_made text plan good = by (listed plan.left.roots.tables.constants text) refl
    where
      by : (serial : ℕ) → listed plan.left.roots.tables.constants text ≡ serial → HasString machine.program (constant_or_new machine text plan serial)
      by zero none =
          let placed : Placed = with_string machine constant_strings constant_characters (or_none (slice_get machine.program.constants text)) plan in
          let own : HasString machine.program placed =
          string_made machine constant_strings constant_characters (or_none (slice_get machine.program.constants text)) plan constants.strings
          (text_of (slice_get machine.program.constants text) (constants.texts text)) good in
          record {
            good = good_rooted machine.program placed.plan (plain_roots.with_entry placed.plan.left.roots tables.Constants text placed.serial) own.good
                (roots_entered machine.program (kinds_of (objects_in placed.plan)) placed.plan.left.roots text placed.serial (Refers.To placed.serial own.is) own.good.typed.roots);
            is = own.is;
          }
      by (suc place) some = record {
        good = good;
        is = of_kind machine.program (kinds_of (objects_in plan)) kind_of_string place
            (good.typed.roots.tables.constants.each text (suc place) (there_is (slice_get plan.left.roots.tables.constants text) place some));
      }

  text_good : (slot text : ℕ) (plan : Plan) → IsGood machine.program plan → static_initial machine.program slot ≡ meanings.Text text
      → IsGood machine.program (set_static slot (constant_string machine text plan))
  text_good slot text plan good told =
      let placed : Placed = constant_string machine text plan in
      let own : HasString machine.program placed = constant_made text plan good in
      good_rooted machine.program placed.plan (plain_roots.with_static placed.plan.left.roots slot (values.Ref placed.serial)) own.good
      (roots_set machine.program (kinds_of (objects_in placed.plan)) placed.plan.left.roots slot (values.Ref placed.serial) own.good.typed.roots
      (IsKnown.AnObject placed.serial own.is.own own.is.there)
      (λ basic declared. initial_text machine.program (kinds_of (objects_in placed.plan)) basic text placed.serial
      (subst (IsInitial basic) told (constants.initial slot basic declared)) own.is))

  whole_good : (slot : ℕ) (value : Value) (plan : Plan) (found : Option Basic) → static_basic machine.program slot ≡ found → IsGood machine.program plan
      → static_initial machine.program slot ≡ meanings.Whole value → IsGood machine.program (set_whole slot value plan found)
  whole_good slot value plan None declared good told = good
  whole_good slot value plan (Some basic) declared good told =
      good_rooted machine.program plan (plain_roots.with_static plan.left.roots slot (kept_value basic value)) good
      (roots_set machine.program (kinds_of (objects_in plan)) plan.left.roots slot (kept_value basic value) good.typed.roots
      (basic_known machine.program (kinds_of (objects_in plan)) basic (kept_value basic value) has)
      (of_type machine.program (kinds_of (objects_in plan)) slot basic (kept_value basic value) declared has))
    where
      has : HasBasic machine.program (kinds_of (objects_in plan)) basic (kept_value basic value)
      has = initial_whole machine.program (kinds_of (objects_in plan)) basic value (subst (IsInitial basic) told (constants.initial slot basic declared))

  slot_good : (slot : ℕ) (plan : Plan) → IsGood machine.program plan → IsGood machine.program (set_initial machine plan slot)
  slot_good slot plan good = by (static_initial machine.program slot) refl
    where
      by : (named : Named) → static_initial machine.program slot ≡ named → IsGood machine.program (set_to machine slot plan named)
      by (meanings.Whole value) told = whole_good slot value plan (static_basic machine.program slot) refl good told
      by (meanings.Text text) told = text_good slot text plan good told
      by other told = good

  slots_good : (slots : List ℕ) (plan : Plan) → IsGood machine.program plan → IsGood machine.program (fold (set_initial machine) plan slots)
  slots_good [] plan good = good
  slots_good (slot ∷ slots) plan good = slots_good slots (set_initial machine plan slot) (slot_good slot plan good)

  -- ---- the class

  module _ (state : State) (typed : IsTypedState machine.program state) (runs : state.roots.pending ≡ 0) (thrown : AreThrown machine.program) where
    first_good : (frames : List Frame) (class : ℕ) → class < length machine.program.classes → AreStanding machine.program (kinds_of state.objects) frames
        → IsGood machine.program (leaving (with_class (with_frames state (Initialising class 0 ∷ frames)) class Busy))
    first_good frames class low standing = record {
      typed = record {
        heap = typed.heap;
        roots = record {
          frames = subst (λ (pending : ℕ). AreFrames machine.program (kinds_of state.objects) pending (Initialising class 0 ∷ frames)) (sym runs)
              (AreFrames.Running (Initialising class 0 ∷ frames) (AreStanding.AnInitialisation class 0 frames low standing));
          statics = typed.roots.statics;
          classes = length-set state.roots.classes class Busy ∙ typed.roots.classes;
          tables = typed.roots.tables;
          argument = typed.roots.argument;
        };
        input = typed.input;
      };
      next = refl;
    }

    pub begun_typed : (frames : List Frame) (class : ℕ) → class < length machine.program.classes → AreStanding machine.program (kinds_of state.objects) frames
        → IsTypedState machine.program (made (begun_upon machine state frames class))
    begun_typed frames class low standing = by (has_room machine.frames frames 0)
      where
        first : Plan
        first = leaving (with_class (with_frames state (Initialising class 0 ∷ frames)) class Busy)

        by : (room : Bool) → IsTypedState machine.program
            (made (if room then fold (set_initial machine) first (own_statics machine.program class) else throws machine state stack_overflow))
        by true = (slots_good (own_statics machine.program class) first (first_good frames class low standing)).typed
        by false = throws_typed machine state stack_overflow typed (thrown stack_overflow (6, omega arith, refl))

    pub begins_typed : BeginsTyped machine state
    begins_typed class low =
        begun_typed state.roots.frames class low (standing_frames machine.program (kinds_of state.objects) state.roots.pending state.roots.frames typed.roots.frames runs)

pub initialisation_begins : (machine : Machine) (state : State) (class : ℕ) → HasConstants machine.program → AreThrown machine.program → IsTypedState machine.program state
    → state.roots.pending ≡ 0 → class < length machine.program.classes → IsTypedState machine.program (made (begun_upon machine state state.roots.frames class))
initialisation_begins machine state class constants thrown typed runs low = begins_typed machine constants state typed runs thrown class low
