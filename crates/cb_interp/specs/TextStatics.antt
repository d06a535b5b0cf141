-- Classes of which static fields have strings as constants begin to be initialised (JVMS §5.5, §4.7.2).
use Rattle.std.specs.Prelude.{◌≡◌, ◌<◌, ◌==◌, ◌++◌, ◌+◌, ◌/◌, ◌^◌, ℕ, zero, suc, Bool, false, List, [], ◌∷◌, length, Option, None, Some, if◌then◌else◌}
use Rattle.std.specs.List.{fold}
use Rattle.cb_classfile.specs.declared.field.Field.{Field}
use Rattle.cb_heap.specs.Reading.{View}
use Rattle.cb_heap.specs.Rules.{Rules}
use Rattle.cb_kinds.specs.declared.basic.Basic.{Basic}
use Rattle.cb_link.specs.Named.{static_initial}
use Rattle.cb_link.specs.Numbers.{Numbered}
use Rattle.cb_link.specs.Program.{Linked}
use Rattle.cb_link.specs.Slots.{static_at, static_basic, statics}
use Rattle.cb_link.specs.declared.named.Named.{Named}
use Rattle.cb_link.specs.declared.named.Named.TheVariants as meanings
use Rattle.cb_machine.specs.Machine.{Machine, listed}
use Rattle.cb_machine.specs.Plans.{Plan, leaving, with_left}
use Rattle.cb_machine.specs.Sites.{constant_characters, constant_strings}
use Rattle.cb_machine.specs.Strings.{Placed, constant_string}
use Rattle.cb_machine.specs.Values.{kept_value}
use Rattle.cb_plain.specs.Requests.{add_want, spent, words_at}
use Rattle.cb_plain.specs.Roots as roots
use Rattle.cb_plain.specs.State.{Frame, Initialising, Roots, State, words_of}
use Rattle.cb_plain.specs.Updates.{with_class, with_frames, with_static}
use Rattle.cb_plain.specs.declared.class_state.ClassState.TheVariants.{Busy}
use Rattle.cb_plain.specs.declared.value.Value.{Value}
use Rattle.cb_plain.specs.declared.value.Value.TheVariants.{Ref}
use Rattle.cb_plain.specs.declared.want.Want.{Want}
use Rattle.cb_unwind.specs.Begun.{set_to as roots_to}
use Rattle.cb_unwind.specs.Strings.{IsNew, units_of, with_constant}
use Rattle.cb_interp.specs.Loading.{MayPlace}

-- the text that is the constant of a static field, if that is a string, and if a class declares it
abbrev pub text_of : Named → Option ℕ
text_of (meanings.Text text) = Some text
text_of other = None

abbrev pub declared_by : ℕ → Option (Numbered Field) → Bool
declared_by class None = false
declared_by class (Some field) = field.class == class

abbrev pub own_text : Linked → (class slot : ℕ) → Option ℕ
own_text program class slot = if declared_by class (static_at program slot) then text_of (static_initial program slot) else None

-- a static field of the class before one has the text too
pub record IsNamedBefore (program : Linked) (class slot text : ℕ) : Type 0 where
  pub other : ℕ
  pub low : other < slot
  pub is : own_text program class other ≡ Some text

-- the strings of all may be placed
abbrev pub MayPlaceOwn : Linked → ℕ → Type 0
MayPlaceOwn program class =
    (slot text : ℕ) → slot < length (statics program.classes) → own_text program class slot ≡ Some text → (text < length program.constants) × MayPlace program text

-- what the machine plans for a field with a constant
abbrev pub set_static : ℕ → Placed → Plan
set_static slot placed = with_left placed.plan (with_static placed.plan.left slot (Ref placed.serial))

abbrev pub set_whole : ℕ → Value → Plan → Option Basic → Plan
set_whole slot value plan None = plan
set_whole slot value plan (Some basic) = with_left plan (with_static plan.left slot (kept_value basic value))

abbrev pub set_to : Machine → ℕ → Plan → Named → Plan
set_to machine slot plan (meanings.Whole value) = set_whole slot value plan (static_basic machine.program slot)
set_to machine slot plan (meanings.Text text) = set_static slot (constant_string machine text plan)
set_to machine slot plan other = plan

abbrev pub set_initial : Machine → Plan → ℕ → Plan
set_initial machine plan slot = set_to machine slot plan (static_initial machine.program slot)

-- what it asks for: characters and string of a text that has no object yet
abbrev pub text_wants : Linked → ℕ → List Want
text_wants program text =
    record { site = constant_characters; words = words_of (length (units_of program text)) } ∷ record { site = constant_strings; words = words_of 1 } ∷ []

abbrev pub wants_if_new : Linked → (text serial : ℕ) → List Want
wants_if_new program text zero = text_wants program text
wants_if_new program text (suc place) = []

abbrev pub wants_to : Linked → List ℕ → Named → List Want
wants_to program table (meanings.Text text) = wants_if_new program text (listed table text)
wants_to program table other = []

abbrev pub wants_behind : Machine → Plan → List ℕ → List Want
wants_behind machine plan [] = []
wants_behind machine plan (slot ∷ slots) =
    wants_to machine.program plan.left.roots.tables.constants (static_initial machine.program slot) ++ wants_behind machine (set_initial machine plan slot) slots

-- what is asked for some of them: there are two sites
pub data AsksTexts : List Want → Type 0 where
  NoText : AsksTexts []
  SomeTexts : (characters strings : ℕ)
      → AsksTexts (record { site = constant_characters; words = characters } ∷ record { site = constant_strings; words = strings } ∷ [])

-- a field's text is asked for where it has no object and no field before has it too
pub data AskedAt (program : Linked) (held : Roots) (class slot : ℕ) (before after : List Want) : Type 0 where
  AskedNew : (text : ℕ) → own_text program class slot ≡ Some text → IsNew held text → (IsNamedBefore program class slot text → ⊥)
      → after ≡ fold add_want before (text_wants program text) → AskedAt program held class slot before after
  AskedNone : ((text : ℕ) → own_text program class slot ≡ Some text → IsNew held text → IsNamedBefore program class slot text) → after ≡ before
      → AskedAt program held class slot before after

-- where anything is asked for, the serials of all objects for which there is room are low
abbrev pub AreLow : (objects : ℕ) → List Want → Type 0
AreLow objects granted = objects + 1 + (words_at granted constant_characters + words_at granted constant_strings) / 3 < 2 ^ 63

abbrev pub HasSerials : (objects : ℕ) → (granted wants : List Want) → Type 0
HasSerials objects granted [] = Unit {0}
HasSerials objects granted (want ∷ wants) = AreLow objects granted

-- a class begins, where there is room for its frame
abbrev pub first_plan : State → List Frame → ℕ → Plan
first_plan state frames class = leaving (with_class (with_frames state (Initialising class 0 ∷ frames)) class Busy)

-- what is left of roots and objects, of what a store knows, and of the room that it gave
abbrev pub with_found : ℕ → ℕ × View → View
with_found slot found = record { roots = roots.with_static found.1.roots slot (Ref found.0); objects = found.1.objects }

abbrev pub seen_to : Linked → ℕ → View → Named → View
seen_to program slot view (meanings.Text text) = with_found slot (with_constant program text view)
seen_to program slot view other = record { roots = roots_to program slot view.roots other; objects = view.objects }

abbrev pub knows_if_new : {Facts : Type 0} → Rules Facts → Linked → Facts → (text serial : ℕ) → Facts
knows_if_new rules program facts text zero = rules.placed (rules.placed facts constant_characters (length (units_of program text))) constant_strings 1
knows_if_new rules program facts text (suc place) = facts

abbrev pub knows_to : {Facts : Type 0} → Rules Facts → Linked → List ℕ → Facts → Named → Facts
knows_to rules program table facts (meanings.Text text) = knows_if_new rules program facts text (listed table text)
knows_to rules program table facts other = facts

abbrev pub spent_if_new : Linked → List Want → (text serial : ℕ) → List Want
spent_if_new program granted text zero = spent (spent granted constant_characters (words_of (length (units_of program text)))) constant_strings (words_of 1)
spent_if_new program granted text (suc place) = granted

abbrev pub spent_to : Linked → List ℕ → List Want → Named → List Want
spent_to program table granted (meanings.Text text) = spent_if_new program granted text (listed table text)
spent_to program table granted other = granted
