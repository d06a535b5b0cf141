-- A method that is called runs: one with code is entered, a native performed, and any other is abstract.
use Rattle.std.proofs.Common.{◌≡◌, ◌∙◌, ap, refl, sym, subst, arith, ℕ, Bool, true, false, not, ◌==◌, ◌&&◌, List, [], ◌∷◌, ◌++◌, map, Option, Some, None, option_and_then, option_map, slice_get, if◌then◌else◌}
use Rattle.std.proofs.lemmas.Option.{slice_get-map}
use Rattle.cb_classfile.specs.Flags.{acc_static}
use Rattle.cb_classfile.specs.declared.body.Body.{Body}
use Rattle.cb_classfile.specs.declared.method.Method.{Method}
use Rattle.cb_hierarchy.specs.declared.selected.Selected.{Selected}
use Rattle.cb_hierarchy.specs.declared.selected.Selected.TheVariants as chosen
use Rattle.cb_insn.specs.declared.insn.Insn.{Insn}
use Rattle.cb_kinds.specs.declared.basic.Basic.{Basic}
use Rattle.cb_library.specs.declared.native.Native.{Native}
use Rattle.cb_link.specs.Having.{IsWhole}
use Rattle.cb_link.specs.Numbers.{Numbered, has_flag, methods_of}
use Rattle.cb_link.specs.Program.{Linked, linked_method}
use Rattle.cb_link.specs.Resolving.{object}
use Rattle.cb_link.specs.declared.linked.LinkedMethod.{LinkedMethod}
use Rattle.cb_machine.specs.Calling.{answered}
use Rattle.cb_machine.specs.Entering.{entered_upon}
use Rattle.cb_machine.specs.Machine.{Machine, method_numbered}
use Rattle.cb_machine.specs.Natives.{native_of, performed}
use Rattle.cb_machine.specs.Performing.{Performed, Gives, Stops}
use Rattle.cb_machine.specs.Plans.{Plan, with_left}
use Rattle.cb_machine.specs.Sites.{abstract_method, incompatible_class_change}
use Rattle.cb_machine.specs.Standing.{Now, with_stack}
use Rattle.cb_machine.specs.Steps.{plan}
use Rattle.cb_machine.specs.Throwing.{throws}
use Rattle.cb_plain.specs.State.{Frame, MethodFrame, OfMethod, State}
use Rattle.cb_plain.specs.Updates.{with_frames}
use Rattle.cb_plain.specs.declared.value.Value.{Value}
use Rattle.cb_plain.specs.declared.value.Value.TheVariants as values
use Rattle.cb_shapes.specs.declared.action.Action.{Action}
use Rattle.cb_verify.specs.declared.verification_type.VerificationType.{VerificationType}
use Rattle.cb_verify.specs.declared.verification_type.VerificationType.TheVariants.{Object, This}
use Rattle.cb_verify.specs.Expansion.{start_types, this_types}
use Rattle.cb_verify.specs.Typed.{IsTyped, falls}
use Rattle.cb_verify.specs.Types.{type_of}
use Rattle.cb_verify.specs.Within.{Within, is_init, method_at, of_class, text_in, with_body, within}
use Rattle.cb_safety.specs.Advancing.{Advances, IsSpelled}
use Rattle.cb_safety.specs.Beginning.{HasCode}
use Rattle.cb_safety.specs.Frames.{result_at, result_types}
use Rattle.cb_safety.specs.Held.{HasType, HaveTypes, IsStack}
use Rattle.cb_safety.specs.Kinds.{IsOfKind, Kinds, Refers, kinds_of}
use Rattle.cb_safety.specs.Natives.{CallsNative, receiver_types}
use Rattle.cb_safety.specs.Throwing.{AreThrown}
use Rattle.cb_safety.proofs.Beginning.{method_begins}
use Rattle.cb_safety.proofs.Called.{Call, enters, waits_by}
use Rattle.cb_safety.proofs.Entering.{AreTold, basics_elsewhere, basics_told, both_have, is_told}
use Rattle.cb_safety.proofs.Going.{Planned, advances_by, now_at}
use Rattle.cb_safety.proofs.Lists.{all_both}
use Rattle.cb_safety.proofs.Receiving.{IsThis, this_typed}
use Rattle.cb_safety.proofs.Throwing.{throws_typed}

-- ---- what the machine does with what is selected

abbrev by_native : Now → List Value → Performed → Option Plan
by_native now rest (Stops plan) = Some plan
by_native now rest (Gives plan answer) =
    option_map (λ frame. with_left plan (with_frames plan.left (OfMethod frame ∷ now.below))) (answered now.machine.program (with_stack now.frame rest) answer)

abbrev without_body : Now → List Value → List Value → Option Native → Option Plan
without_body now arguments rest None = Some (throws now.machine now.state abstract_method)
without_body now arguments rest (Some native) = option_and_then (by_native now rest) (performed now.machine now.state native arguments)

abbrev by_body : Now → ℕ → List Value → List Value → Option Body → Option Plan
by_body now method arguments rest None = without_body now arguments rest (native_of now.machine.program method)
by_body now method arguments rest (Some body) =
    Some (entered_upon now.machine now.state (OfMethod (with_stack now.frame rest) ∷ now.below) method arguments body)

abbrev pub by_method : Now → List Value → List Value → Selected → Option Plan
by_method now arguments rest (chosen.Method number) =
    option_and_then (λ numbered. by_body now number arguments rest numbered.member.body) (method_numbered now.machine.program number)
by_method now arguments rest chosen.Abstract = Some (throws now.machine now.state abstract_method)
by_method now arguments rest chosen.Several = Some (throws now.machine now.state incompatible_class_change)

-- ---- a method with code, by its number

abbrev pub is_static_method : Numbered Method → Bool
is_static_method own = has_flag acc_static own.member.flags.0

abbrev callee_of : Linked → ℕ → Numbered Method → Body → Within
callee_of program number own body = record {
  program = program;
  number = number;
  class = own.class;
  is_static = is_static_method own;
  is_constructor = is_init (text_in program own.class own.member.name) && not (own.class == object);
  body = body;
}

module _ (program : Linked) (whole : IsWhole program) (number : ℕ) (own : Numbered Method) (there : slice_get (methods_of program.classes) number ≡ Some own) where
  pub linked_there : slice_get program.methods number ≡ Some (linked_method program.kinds own)
  linked_there =
      ap (λ (methods : List LinkedMethod). slice_get methods number) whole.methods
      ∙ slice_get-map (linked_method program.kinds) (methods_of program.classes) number
      ∙ ap (option_map (linked_method program.kinds)) there

  within_there : (body : Body) → own.member.body ≡ Some body → within program number ≡ Some (callee_of program number own body)
  within_there body has =
      ap (option_and_then (λ (linked : LinkedMethod). option_and_then (of_class program number linked.class) (method_at program number))) linked_there
      ∙ ap (λ (found : Option (Numbered Method)). option_and_then (of_class program number own.class) (option_map (λ (own : Numbered Method). own.member) found)) there
      ∙ ap (with_body program number own.class own.member) has

abbrev parameters_of : Option LinkedMethod → List Basic
parameters_of None = []
parameters_of (Some method) = method.parameters

-- ---- arguments, and the frame that waits

-- the object on which a method is called
pub data IsReceiver (program : Linked) (kinds : Kinds) (class : ℕ) : Bool → List Value → Type 0 where
  NoObject : IsReceiver program kinds class true []
  AnObject : (serial : ℕ) → IsOfKind program kinds class serial → IsReceiver program kinds class false (values.Ref serial ∷ [])

pub record Given (program : Linked) (kinds : Kinds) (from : Within) (own : Numbered Method) (arguments : List Value) : Type 0 where
  pub receiver : List Value
  pub others : List Value
  pub are : arguments ≡ receiver ++ others
  pub on : IsReceiver program kinds own.class (is_static_method own) receiver
  pub have : HaveTypes from kinds (map type_of (linked_method program.kinds own).parameters) others

record Starts (callee : Within) (kinds : Kinds) (receiver : List Value) : Type 0 where
  pub have : HaveTypes callee kinds (this_types callee) receiver
  pub told : AreTold (this_types callee)

abbrev this_of : Bool → Bool → ℕ → List VerificationType
this_of static constructor class = if static then [] else if constructor then This ∷ [] else Object class ∷ []

starts_on : (program : Linked) (kinds : Kinds) (callee : Within) (static : Bool) (receiver : List Value) → callee.program ≡ program → callee.is_static ≡ static
    → IsReceiver program kinds callee.class static receiver → Starts callee kinds receiver
starts_on program kinds callee static receiver same is IsReceiver.NoObject =
    let none : this_types callee ≡ [] = ap (λ (static : Bool). this_of static callee.is_constructor callee.class) is in
    record { have = subst (λ (types : List VerificationType). HaveTypes callee kinds types []) (sym none) HaveTypes.NoMore; told = subst AreTold (sym none) tt }
starts_on program kinds callee static receiver same is (IsReceiver.AnObject serial of) =
    let this : IsThis callee kinds serial = this_typed callee kinds serial is (subst (λ (program : Linked). IsOfKind program kinds callee.class serial) (sym same) of) in
    record { have = this.have; told = this.told }

receiver_typed : (program : Linked) (kinds : Kinds) (from : Within) (class : ℕ) (static : Bool) (receiver : List Value) → from.program ≡ program
    → IsReceiver program kinds class static receiver → HaveTypes from kinds (receiver_types static class) receiver
receiver_typed program kinds from class static receiver same IsReceiver.NoObject = HaveTypes.NoMore
receiver_typed program kinds from class static receiver same (IsReceiver.AnObject serial of) =
    HaveTypes.And (Object class) (values.Ref serial) [] []
    (HasType.AReference class serial (Refers.To serial (subst (λ (program : Linked). IsOfKind program kinds class serial) (sym same) of))) HaveTypes.NoMore

-- so they are of the types that the method takes
pub given_typed : (program : Linked) (kinds : Kinds) (from : Within) (own : Numbered Method) (arguments : List Value) → from.program ≡ program → Given program kinds from own arguments
    → HaveTypes from kinds (receiver_types (is_static_method own) own.class ++ map type_of (linked_method program.kinds own).parameters) arguments
given_typed program kinds from own arguments same given =
    subst (HaveTypes from kinds (receiver_types (is_static_method own) own.class ++ map type_of (linked_method program.kinds own).parameters)) (sym given.are)
    (both_have from kinds (receiver_types (is_static_method own) own.class) (map type_of (linked_method program.kinds own).parameters) given.receiver given.others
    (receiver_typed program kinds from own.class (is_static_method own) given.receiver same given.on) given.have)

-- the method of a number takes these arguments
pub record Takes (program : Linked) (kinds : Kinds) (from : Within) (number : ℕ) (arguments : List Value) : Type 0 where
  pub own : Numbered Method
  pub there : slice_get (methods_of program.classes) number ≡ Some own
  pub given : Given program kinds from own arguments

-- ---- at a call

module _ (machine : Machine) (state : State) (frame : MethodFrame) (below : List Frame) (insn : Insn) (action : Action) (call : Call machine state frame below insn action) where
  abbrev kinds : Kinds
  kinds = kinds_of state.objects

  -- the frame goes on with a result
  pub record Ready (left : List Value) (result : Option Basic) : Type 0 where
    pub rest : List VerificationType
    pub falls : falls insn ≡ true
    pub answered : call.after.stack ≡ result_types result ++ rest
    pub locals : HaveTypes call.at.method kinds call.after.locals frame.locals
    pub stack : IsStack call.at.method kinds rest left

  -- a method that may run with these arguments
  pub record MayRun (number : ℕ) (arguments left : List Value) : Type 0 where
    pub own : Numbered Method
    pub there : slice_get (methods_of machine.program.classes) number ≡ Some own
    pub given : Given machine.program kinds call.at.method own arguments
    pub ready : Ready left (linked_method machine.program.kinds own).result

  module _ (fits : IsTyped machine.program) (spelled : IsSpelled machine.program) (coded : HasCode machine.program) (whole : IsWhole machine.program)
      (thrown : AreThrown machine.program) (natives : CallsNative machine state frame below → Advances machine state) where
    abbrev here : Now
    here = now_at machine state frame below

    module _ (number : ℕ) (arguments left : List Value) (may : MayRun number arguments left) where
      abbrev own : Numbered Method
      own = may.own

      abbrev linked : LinkedMethod
      linked = linked_method machine.program.kinds own

      entered : (body : Body) → own.member.body ≡ Some body
          → Planned machine.program (Some (entered_upon machine state (OfMethod (with_stack frame left) ∷ below) number arguments body))
      entered body has =
          enters machine state frame below insn action call left arguments may.ready.rest number callee thrown found
          (method_begins machine.program number callee fits spelled coded found)
          (subst (λ (types : List VerificationType). HaveTypes callee kinds types arguments) (sym types)
          (subst (HaveTypes callee kinds (this_types callee ++ map type_of linked.parameters)) (sym may.given.are)
          (both_have callee kinds (this_types callee) (map type_of linked.parameters) may.given.receiver may.given.others starts.have
          (basics_elsewhere call.at.method callee kinds linked.parameters may.given.others call.own may.given.have))))
          (subst AreTold (sym types)
          (all_both (λ (type : VerificationType). is_told type ≡ true) (this_types callee) (map type_of linked.parameters) starts.told (basics_told linked.parameters)))
          may.ready.falls (may.ready.answered ∙ ap (λ (types : List VerificationType). types ++ may.ready.rest) (sym gives)) may.ready.locals may.ready.stack
        where
          callee : Within
          callee = callee_of machine.program number own body

          found : within machine.program number ≡ Some callee
          found = within_there machine.program whole number own may.there body has

          starts : Starts callee kinds may.given.receiver
          starts = starts_on machine.program kinds callee (is_static_method own) may.given.receiver refl refl may.given.on

          types : start_types callee ≡ this_types callee ++ map type_of linked.parameters
          types = ap (λ (own : Option LinkedMethod). this_types callee ++ map type_of (parameters_of own)) (linked_there machine.program whole number own may.there)

          gives : result_types (result_at machine.program number) ≡ result_types linked.result
          gives = ap (λ (own : Option LinkedMethod). result_types (option_and_then (λ (own : LinkedMethod). own.result) own)) (linked_there machine.program whole number own may.there)

      -- it may have no code
      bodiless : (native : Option Native) → native_of machine.program number ≡ native → plan machine state ≡ without_body here arguments left native → Advances machine state
      bodiless None is does =
          advances_by machine state (Some (throws machine state abstract_method)) does
          (record {
            plan = throws machine state abstract_method;
            is = refl;
            typed = throws_typed machine state abstract_method call.typed (thrown abstract_method (10, omega arith, refl));
          })
      bodiless (Some native) is does = natives (record {
        number = number;
        native = native;
        linked = linked;
        numbered = own;
        arguments = arguments;
        rest = left;
        method = call.at.method;
        is_native = is;
        is_linked = linked_there machine.program whole number own may.there;
        is_numbered = may.there;
        does = does;
        own = call.own;
        takes = given_typed machine.program kinds call.at.method own arguments call.own may.given;
        waits = waits_by machine state frame below insn action call left linked.result may.ready.rest may.ready.falls may.ready.answered may.ready.locals may.ready.stack;
      })

      runs_by : (body : Option Body) → own.member.body ≡ body → plan machine state ≡ by_body here number arguments left body → Advances machine state
      runs_by None has does = bodiless (native_of machine.program number) refl does
      runs_by (Some body) has does =
          advances_by machine state (Some (entered_upon machine state (OfMethod (with_stack frame left) ∷ below) number arguments body)) does (entered body has)

      method_advances : plan machine state ≡ by_method here arguments left (chosen.Method number) → Advances machine state
      method_advances does =
          runs_by own.member.body refl
          (does ∙ ap (option_and_then (λ (numbered : Numbered Method). by_body here number arguments left numbered.member.body)) may.there)

    -- what is selected runs, or an exception is thrown
    pub selected_advances : (selected : Selected) (arguments left : List Value) → ((number : ℕ) → selected ≡ chosen.Method number → MayRun number arguments left)
        → plan machine state ≡ by_method here arguments left selected → Advances machine state
    selected_advances (chosen.Method number) arguments left may does = method_advances number arguments left (may number refl) does
    selected_advances chosen.Abstract arguments left may does =
        advances_by machine state (Some (throws machine state abstract_method)) does
        (record {
          plan = throws machine state abstract_method;
          is = refl;
          typed = throws_typed machine state abstract_method call.typed (thrown abstract_method (10, omega arith, refl));
        })
    selected_advances chosen.Several arguments left may does =
        advances_by machine state (Some (throws machine state incompatible_class_change)) does
        (record {
          plan = throws machine state incompatible_class_change;
          is = refl;
          typed = throws_typed machine state incompatible_class_change call.typed (thrown incompatible_class_change (9, omega arith, refl));
        })
