-- What is left of the roots where a class begins to be initialised (JVMS §5.5, §4.7.2).
use Rattle.std.specs.Prelude.{ℕ, Option, Some, None}
use Rattle.std.specs.List.{AllByRecursion, fold}
use Rattle.cb_frames.specs.Tops.{entered_init}
use Rattle.cb_kinds.specs.declared.basic.Basic.{Basic}
use Rattle.cb_link.specs.declared.named.Named.{Named}
use Rattle.cb_link.specs.declared.named.Named.TheVariants as meanings
use Rattle.cb_link.specs.Named.{static_initial}
use Rattle.cb_link.specs.Program.{Linked}
use Rattle.cb_link.specs.Slots.{static_basic}
use Rattle.cb_machine.specs.Initialising.{own_statics}
use Rattle.cb_machine.specs.Values.{kept_value}
use Rattle.cb_plain.specs.declared.class_state.ClassState.TheVariants.{Busy}
use Rattle.cb_plain.specs.declared.value.Value.{Value}
use Rattle.cb_plain.specs.Roots.{with_class, with_static}
use Rattle.cb_plain.specs.State.{Roots}

-- none of the static fields that a class declares has a string as its constant
abbrev pub IsNoText : Named → Type 0
IsNoText (meanings.Text text) = ⊥
IsNoText other = Unit {0}

abbrev pub NumbersOnly : Linked → ℕ → Type 0
NumbersOnly program class = AllByRecursion (λ slot. IsNoText (static_initial program slot)) (own_statics program class)

-- a field whose constant is a number has its value
abbrev pub set_whole : ℕ → Value → Roots → Option Basic → Roots
set_whole slot value roots None = roots
set_whole slot value roots (Some basic) = with_static roots slot (kept_value basic value)

abbrev pub set_to : Linked → ℕ → Roots → Named → Roots
set_to program slot roots (meanings.Whole value) = set_whole slot value roots (static_basic program slot)
set_to program slot roots other = roots

abbrev pub set_initial : Linked → Roots → ℕ → Roots
set_initial program roots slot = set_to program slot roots (static_initial program slot)

-- the class is busy, its fields with constants have their values, and its frame stands at its first place
abbrev pub begun : Linked → ℕ → Roots → Roots
begun program class roots = fold (set_initial program) (with_class (entered_init roots class) class Busy) (own_statics program class)
