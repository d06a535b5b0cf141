-- What a program has to say of the classes that its instructions use, and of their static fields (JVMS §5.5, §6.5).
use Rattle.std.specs.Prelude.{◌≡◌, ◌<◌, ℕ, Bool, true, false, Some, length}
use Rattle.cb_insn.specs.declared.insn.Insn.{Insn}
use Rattle.cb_kinds.specs.declared.basic.Basic.{Basic}
use Rattle.cb_link.specs.Calls.{class_of_kind}
use Rattle.cb_link.specs.Named.{code_at, insn_in, named}
use Rattle.cb_link.specs.Program.{Linked}
use Rattle.cb_link.specs.Slots.{static_basic}
use Rattle.cb_link.specs.declared.named.Named.TheVariants as meanings
use Rattle.cb_machine.specs.Initialising.{begun_upon}
use Rattle.cb_machine.specs.Machine.{Machine}
use Rattle.cb_machine.specs.Plans.{made}
use Rattle.cb_plain.specs.State.{State}
use Rattle.cb_shapes.specs.Shapes.{action_of}
use Rattle.cb_shapes.specs.declared.action.Action.{Action}
use Rattle.cb_shapes.specs.declared.action.Action.TheVariants as actions
use Rattle.cb_verify.specs.Within.{Within, within}
use Rattle.cb_safety.specs.States.{IsTypedState}

-- instructions on static fields
abbrev pub is_of_statics : Action → Bool
is_of_statics (actions.GetStatic index) = true
is_of_statics (actions.PutStatic index) = true
is_of_statics other = false

-- such an instruction names a static field, which has a type, of a class that is there (§5.4.3.2, §6.5 getstatic)
pub record NamesStatic (program : Linked) (number pc : ℕ) : Type 0 where
  pub class : ℕ
  pub slot : ℕ
  pub basic : Basic
  pub names : named program number pc ≡ meanings.Static class slot
  pub low : class < length program.classes
  pub declared : static_basic program slot ≡ Some basic

abbrev pub NamesStatics : Linked → Type 0
NamesStatics program = (number pc : ℕ) (method : Within) (insn : Insn) (action : Action) → within program number ≡ Some method
    → insn_in (code_at program number) pc ≡ Some insn → action_of insn ≡ Some action → is_of_statics action ≡ true → NamesStatic program number pc

-- and a `new` names a class that is there (§5.4.3.1, §6.5 new)
pub record NamesClass (program : Linked) (number pc : ℕ) : Type 0 where
  pub kind : ℕ
  pub class : ℕ
  pub names : named program number pc ≡ meanings.Kind kind
  pub classed : class_of_kind program kind ≡ Some class
  pub low : class < length program.classes

abbrev pub NamesClasses : Linked → Type 0
NamesClasses program = (number pc index : ℕ) (method : Within) (insn : Insn) → within program number ≡ Some method
    → insn_in (code_at program number) pc ≡ Some insn → action_of insn ≡ Some (actions.New index) → NamesClass program number pc

-- what is left where the initialisation of a class begins in a state is typed
abbrev pub BeginsTyped : Machine → State → Type 0
BeginsTyped machine state = (class : ℕ) → class < length machine.program.classes → IsTypedState machine.program (made (begun_upon machine state state.roots.frames class))
