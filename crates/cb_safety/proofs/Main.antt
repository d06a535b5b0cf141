-- A program begins: its main method is entered once its class is ready.
use Rattle.std.proofs.Common.{◌≡◌, ◌∙◌, ap, arith, refl, sym, subst, ℤ, ℕ, suc, ◌+◌, Bool, true, false, List, [], ◌∷◌, ◌++◌, map, Option, Some, None, option_and_then, option_map, if◌then◌else◌}
use Rattle.cb_classfile.specs.declared.body.Body.{Body}
use Rattle.cb_kinds.specs.declared.basic.Basic.{Basic}
use Rattle.cb_kinds.specs.declared.basic.Basic.TheVariants as basics
use Rattle.cb_link.specs.Having.{IsWhole, parameters_at}
use Rattle.cb_link.specs.Numbers.{Numbered}
use Rattle.cb_link.specs.Program.{Linked}
use Rattle.cb_classfile.specs.declared.method.Method.{Method}
use Rattle.cb_machine.specs.Entering.{entered_from}
use Rattle.cb_machine.specs.Initialising.{once_ready}
use Rattle.cb_machine.specs.Machine.{Machine, body_of, kind_of_site}
use Rattle.cb_machine.specs.Plans.{Plan, leaving, made}
use Rattle.cb_machine.specs.Sites.{arguments, stack_overflow}
use Rattle.cb_machine.specs.Steps.{plan}
use Rattle.cb_machine.specs.Throwing.{throws}
use Rattle.cb_plain.specs.Depth.{frame_of, has_room}
use Rattle.cb_plain.specs.State.{Frame, OfMethod, State}
use Rattle.cb_plain.specs.Updates.{with_argument, with_frames}
use Rattle.cb_plain.specs.declared.value.Value.{Value}
use Rattle.cb_plain.specs.declared.value.Value.TheVariants as values
use Rattle.cb_verify.specs.declared.verification_type.VerificationType.{VerificationType}
use Rattle.cb_verify.specs.declared.verification_type.VerificationType.TheVariants.{Object, This}
use Rattle.cb_verify.specs.Expansion.{start_types}
use Rattle.cb_verify.specs.Typed.{IsTyped}
use Rattle.cb_verify.specs.Types.{type_of}
use Rattle.cb_verify.specs.Within.{parameters}
use Rattle.cb_safety.specs.Advancing.{Advances, HoldsOn, IsSpelled}
use Rattle.cb_safety.specs.Beginning.{HasCode}
use Rattle.cb_safety.specs.Frames.{AreBelow, AreStanding}
use Rattle.cb_safety.specs.Held.{HasType, HaveTypes}
use Rattle.cb_safety.specs.Kinds.{Kinds, Refers, kinds_of}
use Rattle.cb_safety.specs.Main.{HasMain}
use Rattle.cb_safety.specs.States.{IsTypedState}
use Rattle.cb_safety.specs.Strings.{HasConstants}
use Rattle.cb_safety.specs.Throwing.{AreThrown}
use Rattle.cb_safety.proofs.Beginning.{method_begins}
use Rattle.cb_safety.proofs.Begun.{begins_typed}
use Rattle.cb_safety.proofs.Called.{HasParts, has_parts}
use Rattle.cb_safety.proofs.Declared.{is_own}
use Rattle.cb_safety.proofs.Entering.{AreTold, basics_told, entry_of, entry_stands}
use Rattle.cb_safety.proofs.Entries.{within_method}
use Rattle.cb_safety.proofs.Going.{Planned, advances_by, planned_by, with_topmost}
use Rattle.cb_safety.proofs.Readied.{ready_planned}
use Rattle.cb_safety.proofs.Throwing.{throws_typed}

module _ (machine : Machine) (state : State) (fits : IsTyped machine.program) (spelled : IsSpelled machine.program) (holds : HoldsOn machine.program) (coded : HasCode machine.program)
    (whole : IsWhole machine.program) (constants : HasConstants machine.program) (thrown : AreThrown machine.program) (main : HasMain machine.program)
    (typed : IsTypedState machine.program state) (runs : state.roots.pending ≡ 0) where
  abbrev kinds : Kinds
  kinds = kinds_of state.objects

  abbrev number : ℕ
  number = machine.program.main_method

  abbrev array : ℕ
  array = kind_of_site machine.program arguments

  abbrev given : List Value
  given = values.Ref state.roots.argument ∷ []

  parts : HasParts machine.program number main.method
  parts = has_parts machine.program number main.method main.within

  own : main.method.program ≡ machine.program
  own = (within_method machine.program number main.method main.within).own

  own_number : main.method.number ≡ number
  own_number = (is_own machine.program number main.method parts.numbered whole main.within parts.is_numbered).own_number

  starts : start_types main.method ≡ map type_of (basics.Reference array ∷ [])
  starts =
      ap (λ (test : Bool). (if test then [] else if main.method.is_constructor then This ∷ [] else Object main.method.class ∷ []) ++ map type_of (parameters main.method)) main.is_static
      ∙ ap (λ (program : Linked). map type_of (parameters_at program main.method.number)) own
      ∙ ap (λ (number : ℕ). map type_of (parameters_at machine.program number)) own_number
      ∙ ap (map type_of) main.takes

  has : HaveTypes main.method kinds (map type_of (basics.Reference array ∷ [])) given
  has =
      HaveTypes.And (Object array) (values.Ref state.roots.argument) [] []
      (HasType.AReference array state.roots.argument (subst (λ (program : Linked). Refers program kinds array state.roots.argument) (sym own) typed.roots.argument)) HaveTypes.NoMore

  stands : AreStanding machine.program kinds (OfMethod (entry_of number main.method given) ∷ [])
  stands =
      AreStanding.AMethod (entry_of number main.method given) []
      (entry_stands machine.program holds kinds number main.method given main.within (method_begins machine.program number main.method fits spelled coded main.within)
      (subst (λ (types : List VerificationType). HaveTypes main.method kinds types given) (sym starts) has)
      (subst AreTold (sym starts) (basics_told (basics.Reference array ∷ []))))
      (subst (λ (result : Option Basic). AreBelow machine.program kinds result []) (sym main.gives) AreBelow.Nothing)

  -- no array waits
  without : IsTypedState machine.program (with_argument state 0)
  without = record {
    heap = typed.heap;
    roots = record {
      frames = typed.roots.frames;
      statics = typed.roots.statics;
      classes = typed.roots.classes;
      tables = typed.roots.tables;
      argument = Refers.ToNull;
    };
    input = typed.input;
  }

  entered_typed : (room : Bool)
      → IsTypedState machine.program
      (made (if room then leaving (with_frames (with_argument state 0) (frame_of number main.method.body.max_locals main.method.body.max_stack given ∷ [])) else throws machine state stack_overflow))
  entered_typed true = with_topmost machine.program (with_argument state 0) (OfMethod (entry_of number main.method given) ∷ []) without runs stands
  entered_typed false = throws_typed machine state stack_overflow typed (thrown stack_overflow (6, omega arith, refl))

  abbrev enters : Option Body → Option Plan
  enters found = option_map (entered_from machine state (with_argument state 0) [] number given) found

  has_body : body_of machine.program number ≡ Some main.method.body
  has_body = ap (option_and_then (λ (own : Numbered Method). own.member.body)) parts.is_numbered ∙ parts.body

  main_planned : Planned machine.program (once_ready machine state machine.program.main_class (enters (body_of machine.program number)))
  main_planned =
      ready_planned machine state typed thrown (begins_typed machine constants state typed runs thrown) machine.program.main_class whole.main (enters (body_of machine.program number))
      (planned_by machine.program (enters (body_of machine.program number)) (enters (Some main.method.body)) (ap enters has_body)
      (record {
        plan = entered_from machine state (with_argument state 0) [] number given main.method.body;
        is = refl;
        typed = entered_typed (has_room machine.frames [] (main.method.body.max_locals + main.method.body.max_stack));
      }))

-- ---- the law

abbrev with_all : State → List Frame → ℕ → ℕ → Option ℤ → State
with_all state frames pending argument exit = record {
  roots = record {
    frames = frames;
    pending = pending;
    statics = state.roots.statics;
    classes = state.roots.classes;
    tables = state.roots.tables;
    argument = argument;
  };
  objects = state.objects;
  input = state.input;
  printed = state.printed;
  exit = exit;
}

abbrev entering : Machine → State → Option Plan
entering machine state =
    once_ready machine state machine.program.main_class
    (option_map (entered_from machine state (with_argument state 0) [] machine.program.main_method (values.Ref state.roots.argument ∷ [])) (body_of machine.program machine.program.main_method))

abbrev Enters : Machine → State → Type 0
Enters machine state = plan machine state ≡ entering machine state

enters_with : (machine : Machine) (state : State) (place : ℕ) → Enters machine (with_all state [] 0 (suc place) None)
enters_with machine state place = refl

pub beginning_advances : (machine : Machine) (state : State) (place : ℕ) → IsTyped machine.program → IsSpelled machine.program → HoldsOn machine.program → HasCode machine.program
    → IsWhole machine.program → HasConstants machine.program → AreThrown machine.program → HasMain machine.program → IsTypedState machine.program state
    → state.exit ≡ None → state.roots.pending ≡ 0 → state.roots.frames ≡ [] → state.roots.argument ≡ suc place → Advances machine state
beginning_advances machine state place fits spelled holds coded whole constants thrown main typed none idle frames waits =
    advances_by machine state (entering machine state) (subst (Enters machine) (sym same) (enters_with machine state place))
    (main_planned machine state fits spelled holds coded whole constants thrown main typed idle)
  where
    same : state ≡ with_all state [] 0 (suc place) None
    same =
        ap (λ (exit : Option ℤ). with_all state state.roots.frames state.roots.pending state.roots.argument exit) none
        ∙ ap (λ (pending : ℕ). with_all state state.roots.frames pending state.roots.argument None) idle
        ∙ ap (λ (frames : List Frame). with_all state frames 0 state.roots.argument None) frames
        ∙ ap (λ (argument : ℕ). with_all state [] 0 argument None) waits
