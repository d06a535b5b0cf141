-- new.
use Rattle.std.proofs.Common.{◌≡◌, ◌∙◌, ap, refl, sym, subst, ℕ, ◌+◌, ◌<◌, ◌&&◌, Bool, true, false, not, List, [], ◌∷◌, ◌++◌, map, length, Option, Some, None, option_and_then, option_map, slice_get}
use Rattle.std.specs.List.{AllByRecursion, list_any}
use Rattle.std.proofs.lemmas.Bool.{and_parts, eqb-true, false≢true}
use Rattle.std.proofs.lemmas.List.{length-map}
use Rattle.std.proofs.lemmas.Option.{none-some, slice_get-map, slice_get_within}
use Rattle.cb_hierarchy.specs.Classes.{listed}
use Rattle.cb_insn.specs.declared.insn.Insn.{Insn}
use Rattle.cb_insn.specs.declared.insn.Operand.{Operand}
use Rattle.cb_insn.specs.declared.insn.Operand.TheVariants as operands
use Rattle.cb_insn.specs.declared.opcode.TheConstants as opcodes
use Rattle.cb_kinds.specs.Basics.{component_of, is_reference}
use Rattle.cb_kinds.specs.Kinds.{is_array}
use Rattle.cb_kinds.specs.Texts.{number_of}
use Rattle.cb_kinds.specs.declared.basic.Basic.{Basic}
use Rattle.cb_kinds.proofs.Laws.{kind_number_of, text_at}
use Rattle.cb_link.specs.Calls.{class_of_kind}
use Rattle.cb_link.specs.Having.{IsWhole, site_kinds}
use Rattle.cb_link.specs.Making.{made_by}
use Rattle.cb_link.specs.Named.{code_at, insn_in, made_at}
use Rattle.cb_link.specs.Numbers.{class_number, or_none}
use Rattle.cb_link.specs.Program.{Linked}
use Rattle.cb_link.specs.Slots.{basic_of_field, field_basic, field_marks, is_some_reference, object_fields, shape, shape_with}
use Rattle.cb_link.specs.declared.named.Named.{Named}
use Rattle.cb_link.specs.declared.named.Named.TheVariants as meanings
use Rattle.cb_machine.specs.Arrays.{element_of}
use Rattle.cb_machine.specs.Creating.{blank_fields, makes_object, site_number}
use Rattle.cb_machine.specs.Initialising.{once_ready}
use Rattle.cb_machine.specs.Machine.{Machine, kind_of_site}
use Rattle.cb_machine.specs.Plans.{One, Plan, leaving, object_of, with_one}
use Rattle.cb_machine.specs.Standing.{Now, leaves_with}
use Rattle.cb_machine.specs.Steps.{done}
use Rattle.cb_plain.specs.State.{Content, Frame, MethodFrame, Object, OfMethod, State, blank}
use Rattle.cb_plain.specs.declared.shape.Shape.{Shape}
use Rattle.cb_plain.specs.declared.shape.Shape.TheVariants as shapes
use Rattle.cb_plain.specs.declared.value.Value.TheVariants as values
use Rattle.cb_shapes.specs.Shapes.{action_of}
use Rattle.cb_shapes.specs.declared.action.Action.TheVariants as actions
use Rattle.cb_text.specs.Naming.{class_at}
use Rattle.cb_text.specs.declared.constant.Constant.{Constant}
use Rattle.cb_verify.specs.declared.verification_type.VerificationType.TheVariants.{New, Top}
use Rattle.cb_verify.specs.Frames as verified
use Rattle.cb_verify.specs.Leaving.{makes_object as may_make, new_kind, new_of}
use Rattle.cb_verify.specs.Typed.{IsTyped}
use Rattle.cb_verify.specs.Within.{kind_named}
use Rattle.cb_safety.specs.Advancing.{Advances, HoldsOn, IsSpelled}
use Rattle.cb_safety.specs.Heap.{IsKnownWord, IsObject}
use Rattle.cb_safety.specs.Held.{HasType, HaveTypes, IsStack}
use Rattle.cb_safety.specs.Kinds.{Kinds, kinds_of}
use Rattle.cb_safety.specs.Making.{HasSite, HasSites}
use Rattle.cb_safety.specs.Ready.{BeginsTyped, NamesClass, NamesClasses}
use Rattle.cb_safety.specs.States.{IsTypedState}
use Rattle.cb_safety.specs.Strings.{HasConstants}
use Rattle.cb_safety.specs.Throwing.{AreThrown}
use Rattle.cb_safety.proofs.Known.{all_mapped, blank_known}
use Rattle.cb_safety.proofs.Assigned.{never, when}
use Rattle.cb_safety.proofs.Begun.{begins_typed}
use Rattle.cb_safety.proofs.Declared.{IsOwn, is_own, kind_named_is}
use Rattle.cb_safety.proofs.Enlarged.{goes_more}
use Rattle.cb_safety.proofs.Extended.{have_types_more, is_stack_more}
use Rattle.cb_safety.proofs.Going.{Planned, Stage, advances_by, now_at, planned_by, running, stage_of, with_stack_is}
use Rattle.cb_safety.proofs.Growing.{kind_behind, kinds_placed}
use Rattle.cb_safety.proofs.MadeNames.{IsClassKind, IsNumbered, MakesObject, object_is_named}
use Rattle.cb_safety.proofs.Makings.{IsMade, made_is}
use Rattle.cb_safety.proofs.NewArrays.{blank_fits}
use Rattle.cb_safety.proofs.Readied.{ready_planned}
use Rattle.cb_safety.proofs.Sited.{has_sites}
use Rattle.cb_safety.proofs.Variables.{replaced_by_top}

-- ---- an object of a class, whose fields are blank

abbrev blanks : Shape → List Content
blanks (shapes.Fields marks) = map blank marks
blanks (shapes.Elements mark) = []

no_component : (kinds : List (List ℕ)) (name : List ℕ) → is_array name ≡ false → component_of kinds name ≡ None
no_component kinds [] is = refl
no_component kinds (unit ∷ rest) is = rw is refl

-- what an option that is there was made of
record Came {Item : Type 0} (found : Option ℕ) (f : ℕ → Option Item) (result : Item) : Type 0 where
  pub number : ℕ
  pub there : found ≡ Some number
  pub is : f number ≡ Some result

came : {Item : Type 0} (found : Option ℕ) (f : ℕ → Option Item) (result : Item) → option_and_then f found ≡ Some result → Came found f result
came None f result is = never is
came (Some number) f result is = record { number = number; there = refl; is = is }

module _ (program : Linked) (kind : ℕ) (name : List ℕ) (there : slice_get program.kinds kind ≡ Some name) (no_array : is_array name ≡ false) where
  no_element : element_of program kind ≡ None
  no_element = ap (λ (name : Option (List ℕ)). component_of program.kinds (or_none name)) there ∙ no_component program.kinds name no_array

  shape_is : (class : ℕ) → class_of_kind program kind ≡ Some class → shape program kind ≡ shapes.Fields (field_marks program (Some class))
  shape_is class is =
      ap (λ (name : Option (List ℕ)). shape_with program (or_none name) (component_of program.kinds (or_none name))) there
      ∙ ap (shape_with program name) (no_component program.kinds name no_array)
      ∙ ap (λ (found : Option ℕ). shapes.Fields (field_marks program found)) (sym (ap (option_and_then (class_number program.classes)) there) ∙ is)

  field_there : (class slot : ℕ) (basic : Basic) → class_of_kind program kind ≡ Some class → field_basic program class slot ≡ Some basic
      → slice_get (blank_fields program kind) slot ≡ Some (blank (is_reference basic))
  field_there class slot basic is declared =
      let own = came (slice_get (object_fields program.classes class) slot) (basic_of_field program) basic declared in
      ap (λ (shape : Shape). slice_get (blanks shape) slot) (shape_is class is)
      ∙ slice_get-map blank (field_marks program (Some class)) slot
      ∙ ap (option_map blank) (slice_get-map (λ (number : ℕ). is_some_reference (basic_of_field program number)) (object_fields program.classes class) slot)
      ∙ ap (λ (found : Option ℕ). option_map blank (option_map (λ (number : ℕ). is_some_reference (basic_of_field program number)) found)) own.there
      ∙ ap (λ (found : Option Basic). Some (blank (is_some_reference found))) own.is

  shape_known : (kinds : Kinds) (shape : Shape) → AllByRecursion (IsKnownWord kinds) (blanks shape)
  shape_known kinds (shapes.Fields marks) = all_mapped (IsKnownWord kinds) blank marks (blank_known kinds)
  shape_known kinds (shapes.Elements mark) = tt

  blank_object : (kinds : Kinds) (site : ℕ) → site < length (site_kinds program) → IsObject program kinds (object_of site kind (blank_fields program kind))
  blank_object kinds site low = record {
    kind = slice_get_within program.kinds kind name there;
    site = low;
    sized = λ marks is. sym (ap (λ (shape : Shape). length (blanks shape)) is ∙ length-map marks blank);
    fields = λ class slot basic is declared.
        record { content = blank (is_reference basic); there = field_there class slot basic is declared; fits = blank_fits program kinds basic };
    elements = λ basic place own low. absurd (none-some basic (sym no_element ∙ own));
    few = λ basic own. absurd (none-some basic (sym no_element ∙ own));
    words = shape_known kinds (shape program kind);
  }

-- ---- the instruction

module _ (machine : Machine) (state : State) (frame : MethodFrame) (below : List Frame) (insn : Insn) (index : ℕ) (whole : IsWhole machine.program) (sites : HasSites machine.program)
    (thrown : AreThrown machine.program) (begins : BeginsTyped machine state) (is_there : insn_in (code_at machine.program frame.method) frame.pc ≡ Some insn)
    (so : action_of insn ≡ Some (actions.New index)) (names : NamesClass machine.program frame.method frame.pc) (stage : Stage machine state frame below insn (actions.New index)) where
  abbrev here : Now
  here = now_at machine state frame below

  abbrev own : IsMade machine.program frame.method frame.pc insn
  own = made_is machine.program frame.method frame.pc insn is_there

  is_method : IsOwn machine.program frame.method stage.method own.own
  is_method = is_own machine.program frame.method stage.method own.own whole stage.within own.there

  object : MakesObject machine state frame below insn whole is_there index stage
  object = object_is_named machine state frame below insn whole is_there index so stage

  abbrev class : IsClassKind stage.method.program.kinds (kind_named stage.method index)
  class = object.class

  abbrev named : IsNumbered machine.program.kinds (class_at own.own.pool index) class.kind
  named = object.named

  site : HasSite machine.program frame.method frame.pc 0 named.name
  site = sites frame.method frame.pc 0 named.name object.made

  -- the site's kind is the one that the type of the new object tells
  kind_is : kind_of_site machine.program site.number ≡ class.kind
  kind_is = site.kind ∙ kind_number_of machine.program.kinds named.name class.kind named.is

  abbrev own_kind : ℕ
  own_kind = kind_of_site machine.program site.number

  kind_there : slice_get machine.program.kinds own_kind ≡ Some named.name
  kind_there = ap (slice_get machine.program.kinds) site.kind ∙ site.there

  no_array : is_array named.name ≡ false
  no_array =
      sym (ap (λ (name : Option (List ℕ)). is_array (or_none name)) (text_at machine.program.kinds named.name class.kind named.is))
      ∙ sym (λ i. is_array (or_none (slice_get (stage.own i).kinds class.kind))) ∙ class.no_array

  abbrev serial : ℕ
  serial = length state.objects + 1

  abbrev new : Object
  new = object_of site.number own_kind (blank_fields machine.program own_kind)

  abbrev grown : Kinds
  grown = kinds_of state.objects ++ kinds_placed (new ∷ [])

  types_new : new_kind stage.method frame.pc ≡ Some own_kind
  types_new =
      (λ i. new_of stage.method (option_and_then action_of (insn_in (code_at (stage.own i) (is_method.own_number i)) frame.pc)))
      ∙ ap (λ (found : Option Insn). new_of stage.method (option_and_then action_of found)) is_there
      ∙ ap (new_of stage.method) so ∙ class.there ∙ ap Some (sym kind_is)

  abbrev makes_at : ℕ → Option Plan
  makes_at own =
      leaves_with here (values.Ref serial ∷ frame.stack)
      (with_one (leaving state) own (kind_of_site machine.program own) (blank_fields machine.program (kind_of_site machine.program own)))

  made_planned : Planned machine.program (makes_at site.number)
  made_planned =
      let same = with_stack_is stage.method.body.max_stack (verified.with_locals stage.types (verified.replaced (New frame.pc) Top stage.types.locals)) (New frame.pc ∷ stage.types.stack) stage.after object.fits in
      goes_more machine state frame below insn (actions.New index) stage state.roots stage.typed.roots stage.runs
      (One site.number own_kind (blank_fields machine.program own_kind) ∷ []) (length state.objects + 1 + 1) (new ∷ []) refl
      (blank_object machine.program own_kind named.name kind_there no_array grown site.number site.low, tt) refl frame.locals (values.Ref serial ∷ frame.stack)
      (subst (λ (own : verified.Frame). HaveTypes stage.method grown own.locals frame.locals) same
      (replaced_by_top stage.method grown (New frame.pc) stage.types.locals frame.locals
      (have_types_more stage.method (kinds_of state.objects) (kinds_placed (new ∷ [])) stage.types.locals frame.locals stage.locals)))
      (subst (λ (own : verified.Frame). IsStack stage.method grown own.stack (values.Ref serial ∷ frame.stack)) same
      (IsStack.Upon (New frame.pc) (values.Ref serial) stage.types.stack frame.stack
      (HasType.ANew frame.pc serial own_kind types_new (kind_behind state.objects own_kind [])) refl
      (is_stack_more stage.method (kinds_of state.objects) (kinds_placed (new ∷ [])) stage.types.stack frame.stack stage.stack)))

  abbrev ready : Option Plan
  ready = option_and_then makes_at (site_number machine.program frame.method frame.pc 0)

  abbrev makes_named : Named → Option Plan
  makes_named (meanings.Kind kind) = option_and_then (λ (class : ℕ). once_ready machine state class ready) (class_of_kind machine.program kind)
  makes_named other = None

  pub object_advances : Planned machine.program (makes_object here)
  object_advances =
      planned_by machine.program (makes_object here) (once_ready machine state names.class ready)
      (ap makes_named names.names ∙ ap (option_and_then (λ (class : ℕ). once_ready machine state class ready)) names.classed)
      (ready_planned machine state stage.typed thrown begins names.class names.low ready
      (planned_by machine.program ready (makes_at site.number) (ap (option_and_then makes_at) site.is) made_planned))

pub new_advances : (machine : Machine) (state : State) (frame : MethodFrame) (below : List Frame) (insn : Insn) (index : ℕ)
    → IsTyped machine.program → IsSpelled machine.program → HoldsOn machine.program → IsWhole machine.program → NamesClasses machine.program
    → HasConstants machine.program → AreThrown machine.program → IsTypedState machine.program state
    → state.exit ≡ None → state.roots.pending ≡ 0 → state.roots.frames ≡ OfMethod frame ∷ below
    → insn_in (code_at machine.program frame.method) frame.pc ≡ Some insn → action_of insn ≡ Some (actions.New index) → Advances machine state
new_advances machine state frame below insn index fits spelled on whole names constants thrown typed none idle frames is_there so =
    let stage = stage_of machine state frame below insn (actions.New index) fits spelled on typed idle frames is_there so in
    advances_by machine state (done (now_at machine state frame below) insn.operand (actions.New index))
    (running machine state frame below insn (actions.New index) none idle frames is_there so)
    (object_advances machine state frame below insn index whole (has_sites machine.program whole) thrown
    (begins_typed machine constants state typed idle thrown) is_there so (names frame.method frame.pc index stage.method insn stage.within is_there so) stage)
