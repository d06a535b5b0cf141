-- Instructions on fields of objects.
use Rattle.std.proofs.Common.{◌≡◌, ◌∙◌, ap, ap₂, refl, sym, subst, ℕ, ◌==◌, Bool, true, false, List, [], ◌∷◌, Option, Some, None, option_and_then, option_map, slice_get}
use Rattle.std.specs.Option.{option_or}
use Rattle.std.proofs.lemmas.Bool.{and_parts, eqb-true, false≢true}
use Rattle.std.proofs.lemmas.Option.{none-some, option_and_then_some, same_Some}
use Rattle.cb_classfile.specs.declared.body.Body.{Body}
use Rattle.cb_classfile.specs.declared.method.Method.{Method}
use Rattle.cb_hierarchy.specs.Classes.{listed}
use Rattle.cb_insn.specs.declared.insn.Insn.{Insn}
use Rattle.cb_kinds.specs.declared.basic.Basic.{Basic}
use Rattle.cb_link.specs.Named.{named}
use Rattle.cb_link.specs.Numbers.{Numbered, methods_of}
use Rattle.cb_link.specs.Program.{Linked}
use Rattle.cb_link.specs.Slots.{field_basic}
use Rattle.cb_link.specs.declared.linked.LinkedMethod.{LinkedMethod}
use Rattle.cb_link.specs.declared.named.Named.{Named}
use Rattle.cb_link.specs.declared.named.Named.TheVariants as meanings
use Rattle.cb_machine.specs.Arrays.{with_element, with_object}
use Rattle.cb_machine.specs.Fields.{gets_field, puts_field}
use Rattle.cb_machine.specs.Machine.{Machine}
use Rattle.cb_machine.specs.Plans.{Plan}
use Rattle.cb_machine.specs.Standing.{Now, leaves, taken as taken_values}
use Rattle.cb_machine.specs.Values.{content_of, kept_value, sort_of_basic, value_in}
use Rattle.cb_plain.specs.State.{Content, Frame, MethodFrame, Object, State}
use Rattle.cb_plain.specs.declared.value.Value.{Value}
use Rattle.cb_plain.specs.declared.value.Value.TheVariants as values
use Rattle.cb_shapes.specs.declared.action.Action.TheVariants as actions
use Rattle.cb_shapes.specs.declared.sort.Sort.TheVariants as sorts
use Rattle.cb_verify.specs.declared.verification_type.VerificationType.{VerificationType}
use Rattle.cb_verify.specs.declared.verification_type.VerificationType.TheVariants as types
use Rattle.cb_verify.specs.Calls.{exchanged, get_field, may_set_early, on_object, popped, put_early, put_field, put_on, without_this}
use Rattle.cb_verify.specs.Frames as verified
use Rattle.cb_verify.specs.Members.{Member, member_at, member_of}
use Rattle.cb_verify.specs.Types.{type_of}
use Rattle.cb_verify.specs.Within.{Within, holder, of_class, with_body, within}
use Rattle.cb_safety.specs.Heap.{Holds, IsObject}
use Rattle.cb_safety.specs.Held.{HasContent, HasType, HaveTypes, IsStack}
use Rattle.cb_safety.specs.Kinds.{Kinds, Refers, holds_kind, kinds_of}
use Rattle.cb_safety.specs.Naming.{HasField, NamesField}
use Rattle.cb_safety.specs.Throwing.{AreThrown}
use Rattle.cb_safety.proofs.Asking.{object_next, sets_next}
use Rattle.cb_safety.proofs.Assigned.{KindsChain, never, when}
use Rattle.cb_safety.proofs.Changed.{MayHold}
use Rattle.cb_safety.proofs.Contents.{kept_typed, read_typed}
use Rattle.cb_safety.proofs.Going.{Planned, Stage, lays_next, now_at, planned_by}
use Rattle.cb_safety.proofs.Taken.{Taken, basic_sized, popped_on_typed, popped_typed, taken_behind}

-- ---- the number of a method

abbrev number_within : Option Within → ℕ
number_within None = 0
number_within (Some method) = method.number

numbered_as : (program : Linked) (number : ℕ) (method : Within) (linked : Option LinkedMethod) (found : Option (Numbered Method))
    → option_and_then (λ (linked : LinkedMethod). option_and_then (of_class program number linked.class) (option_map (λ (own : Numbered Method). own.member) found)) linked ≡ Some method
    → method.number ≡ number
numbered_as program number method None found so = never so
numbered_as program number method (Some linked) None so = never so
numbered_as program number method (Some linked) (Some own) so = go own.member.body so where
  go : (body : Option Body) → with_body program number linked.class own.member body ≡ Some method → method.number ≡ number
  go None so = never so
  go (Some body) so = sym (ap number_within so)

pub within_number : (program : Linked) (number : ℕ) (method : Within) → within program number ≡ Some method → method.number ≡ number
within_number program number method so = numbered_as program number method (slice_get program.methods number) (slice_get (methods_of program.classes) number) so

-- ---- the field that an instruction names

abbrev pub field_member : Option Basic → Member
field_member basic = record { takes = listed basic; gives = basic }

pub member_is : (program : Linked) (method : Within) (number pc index : ℕ) → method.program ≡ program → method.number ≡ number → (names : NamesField program method number pc index)
    → member_at method pc ≡ field_member (Some names.basic)
member_is program method number pc index own numbered names =
    ap₂ (λ (program : Linked) (number : ℕ). member_of program (named program number pc)) own numbered ∙ ap (member_of program) names.names ∙ ap field_member names.declared

may_hold : (program : Linked) (kind slot : ℕ) (basic : Basic) → HasField program kind slot basic → MayHold program kind slot basic
may_hold program kind slot basic has = record {
  fields = λ class own classed declared.
      same_Some own basic (sym declared ∙ ap (λ (class : ℕ). field_basic program class slot) (same_Some class has.class (sym classed ∙ has.classed)) ∙ has.declared);
  elements = λ own element. absurd (none-some own (sym has.no_elements ∙ element));
}

-- ---- what is taken

-- an object of the class of which a field is named: that of a constructor, or any other
pub data IsHolder (method : Within) (kind : ℕ) : VerificationType → Type 0 where
  TheThis : method.class ≡ kind → IsHolder method kind types.This
  AnObject : IsHolder method kind (types.Object kind)

pub record Reference (method : Within) (kinds : Kinds) (kind : ℕ) (value : Value) : Type 0 where
  pub serial : ℕ
  pub is : value ≡ values.Ref serial
  pub refers : Refers method.program kinds kind serial

this_is : (method : Within) (kinds : Kinds) (kind : ℕ) (value : Value) → method.class ≡ kind → HasType method kinds types.This value → Reference method kinds kind value
this_is method kinds kind value same (HasType.ItsThis serial is) =
    record { serial = serial; is = refl; refers = subst (λ (kind : ℕ). Refers method.program kinds kind serial) same (Refers.To serial is) }

pub object_is : (method : Within) (kinds : Kinds) (kind : ℕ) (value : Value) → HasType method kinds (types.Object kind) value → Reference method kinds kind value
object_is method kinds kind value (HasType.AReference own serial refers) = record { serial = serial; is = refl; refers = refers }

pub reference_of : (method : Within) (kinds : Kinds) (kind : ℕ) (type : VerificationType) (value : Value) → IsHolder method kind type → HasType method kinds type value
    → Reference method kinds kind value
reference_of method kinds kind type value (IsHolder.TheThis same) has = this_is method kinds kind value same has
reference_of method kinds kind type value IsHolder.AnObject has = object_is method kinds kind value has

-- for putfield: a value and an object
pub record Putting (method : Within) (kinds : Kinds) (index : ℕ) (basic : Basic) (frame : verified.Frame) (stack : List Value) (after : verified.Frame) : Type 0 where
  pub kind : ℕ
  pub holds : holder method index ≡ Some kind
  pub object : VerificationType
  pub is : IsHolder method kind object
  pub rest : List VerificationType
  pub taken : Taken method kinds (sort_of_basic basic ∷ sorts.Reference ∷ []) stack (type_of basic ∷ object ∷ []) rest
  pub leaves : verified.with_stack method.body.max_stack frame rest ≡ Some after

abbrev own_kind : ℕ → Option ℕ → Bool
own_kind class None = false
own_kind class (Some kind) = kind == class

own_holder : (class : ℕ) (held : Option ℕ) → own_kind class held ≡ true → held ≡ Some class
own_holder class None is = absurd (false≢true is)
own_holder class (Some kind) is = ap Some (eqb-true kind class is)

this_below : (method : Within) (kinds : Kinds) (more rest : List VerificationType) (left : List Value) → without_this more ≡ Some rest → IsStack method kinds more left
    → Taken method kinds (sorts.Reference ∷ []) left (types.This ∷ []) rest
this_below method kinds more rest left so is = go more so is where
  this_first : (below : List VerificationType) (left : List Value) → Some below ≡ Some rest → IsStack method kinds (types.This ∷ below) left
      → Taken method kinds (sorts.Reference ∷ []) left (types.This ∷ []) rest
  this_first below left so (IsStack.Upon type value others under (HasType.ItsThis serial own) words is) = record {
    values = values.Ref serial ∷ [];
    left = under;
    taken = refl;
    held = HaveTypes.And types.This (values.Ref serial) [] [] (HasType.ItsThis serial own) HaveTypes.NoMore;
    below = subst (λ (below : List VerificationType). IsStack method kinds below under) (same_Some below rest so) is;
  }

  go : (more : List VerificationType) → without_this more ≡ Some rest → IsStack method kinds more left → Taken method kinds (sorts.Reference ∷ []) left (types.This ∷ []) rest
  go [] so is = never so
  go (types.This ∷ below) so is = this_first below left so is
  go (other ∷ below) so is = never so

early : (method : Within) → KindsChain method.program → (kinds : Kinds) (index : ℕ) (basic : Basic) (frame : verified.Frame) (stack : List Value) (after : verified.Frame)
    → IsStack method kinds frame.stack stack → put_early method index (field_member (Some basic)) frame ≡ Some after → Putting method kinds index basic frame stack after
early method chain kinds index basic frame stack after is so =
    let allowed = when (may_set_early method index)
    (option_and_then (put_on method frame []) (option_and_then without_this (popped method.program (type_of basic ∷ []) frame.stack))) after so in
    let own : holder method index ≡ Some method.class =
    own_holder method.class (holder method index) (and_parts method.is_constructor (own_kind method.class (holder method index)) allowed.0).1 in
    option_and_then_some (put_on method frame []) (option_and_then without_this (popped method.program (type_of basic ∷ []) frame.stack)) after allowed.1
    (λ rest off leaves. option_and_then_some without_this (popped method.program (type_of basic ∷ []) frame.stack) rest off
    (λ more popped_is this. record {
      kind = method.class;
      holds = own;
      object = types.This;
      is = IsHolder.TheThis refl;
      rest = rest;
      taken = taken_behind method kinds (sort_of_basic basic ∷ []) (sorts.Reference ∷ []) stack (type_of basic ∷ []) more (types.This ∷ []) rest
          (popped_typed method chain kinds (basic ∷ []) frame.stack stack more is popped_is) (λ left under. this_below method kinds more rest left this under);
      leaves = leaves;
    }))

late : (method : Within) → KindsChain method.program → (kinds : Kinds) (index : ℕ) (basic : Basic) (frame : verified.Frame) (stack : List Value) (after : verified.Frame)
    → IsStack method kinds frame.stack stack
    → option_and_then (λ (kind : ℕ). exchanged method frame [] (on_object (type_of basic ∷ []) kind)) (holder method index) ≡ Some after
    → Putting method kinds index basic frame stack after
late method chain kinds index basic frame stack after is so =
    option_and_then_some (λ (kind : ℕ). exchanged method frame [] (on_object (type_of basic ∷ []) kind)) (holder method index) after so
    (λ kind holds left. option_and_then_some (put_on method frame []) (popped method.program (on_object (type_of basic ∷ []) kind) frame.stack) after left
    (λ rest off leaves. record {
      kind = kind;
      holds = holds;
      object = types.Object kind;
      is = IsHolder.AnObject;
      rest = rest;
      taken = popped_on_typed method chain kinds (basic ∷ []) kind frame.stack stack rest is off;
      leaves = leaves;
    }))

pub putting : (method : Within) → KindsChain method.program → (kinds : Kinds) (index : ℕ) (basic : Basic) (frame : verified.Frame) (stack : List Value) (after : verified.Frame)
    → IsStack method kinds frame.stack stack → put_field method index (field_member (Some basic)) frame ≡ Some after → Putting method kinds index basic frame stack after
putting method chain kinds index basic frame stack after is so = go (put_early method index (field_member (Some basic)) frame) refl so where
  go : (first : Option verified.Frame) → put_early method index (field_member (Some basic)) frame ≡ first → option_or first (option_and_then (λ (kind : ℕ). exchanged method frame [] (on_object (type_of basic ∷ []) kind)) (holder method index)) ≡ Some after
      → Putting method kinds index basic frame stack after
  go None none so = late method chain kinds index basic frame stack after is so
  go (Some own) some so = early method chain kinds index basic frame stack after is (some ∙ so)

-- ---- what is planned

module _ (machine : Machine) (state : State) (frame : MethodFrame) (below : List Frame) (insn : Insn) (thrown : AreThrown machine.program) where
  abbrev here : Now
  here = now_at machine state frame below

  abbrev kinds : Kinds
  kinds = kinds_of state.objects

  -- getfield
  abbrev get_from : ℕ → Basic → List Value → Object → Option Plan
  get_from slot basic rest object = option_and_then (λ (value : Value). leaves here (value ∷ rest)) (option_map (value_in basic) (slice_get object.contents slot))

  abbrev get_taken : ℕ → Basic → List Value × List Value → Option Plan
  get_taken slot basic (values.Ref object ∷ [], rest) = with_object here object (get_from slot basic rest)
  get_taken slot basic other = None

  abbrev get_of : ℕ → Basic → Option Plan
  get_of slot basic = option_and_then (get_taken slot basic) (taken_values (sorts.Reference ∷ []) frame.stack)

  abbrev get_named : Named → Option Plan
  get_named (meanings.Field class slot) = option_and_then (get_of slot) (field_basic machine.program class slot)
  get_named other = None

  get_there : (index : ℕ) (stage : Stage machine state frame below insn (actions.GetField index)) (kind : ℕ) (rest : List VerificationType) (left : List Value) (basic : Basic) (slot serial : ℕ)
      → Refers machine.program kinds kind serial → ((own : ℕ) → holds_kind machine.program own kind ≡ true → HasField machine.program own slot basic)
      → verified.with_stack stage.method.body.max_stack stage.types (type_of basic ∷ rest) ≡ Some stage.after → IsStack stage.method kinds rest left
      → Planned machine.program (with_object here serial (get_from slot basic left))
  get_there index stage kind rest left basic slot serial refers has so is =
      object_next machine state frame below insn (actions.GetField index) stage thrown (get_from slot basic left) kind serial refers
      (λ object there own goes. by object (has object.kind goes) own)
    where
      by : (object : Object) → HasField machine.program object.kind slot basic → IsObject machine.program kinds object → Planned machine.program (get_from slot basic left object)
      by object has own =
          let holds : Holds machine.program kinds object.contents slot basic = own.fields has.class slot basic has.classed has.declared in
          let fits : HasType stage.method kinds (type_of basic) (value_in basic holds.content) =
          read_typed stage.method kinds basic holds.content (subst (λ (program : Linked). HasContent program kinds basic holds.content) (sym stage.own) holds.fits) in
          planned_by machine.program (get_from slot basic left object) (leaves here (value_in basic holds.content ∷ left))
          (ap (λ (found : Option Content). option_and_then (λ (value : Value). leaves here (value ∷ left)) (option_map (value_in basic) found)) holds.there)
          (lays_next machine state frame below insn (actions.GetField index) stage refl (type_of basic ∷ rest) (value_in basic holds.content ∷ left) so
          (IsStack.Upon (type_of basic) (value_in basic holds.content) rest left fits (basic_sized stage.method kinds basic (value_in basic holds.content) fits) is))

  pub get_advances : (index : ℕ) (stage : Stage machine state frame below insn (actions.GetField index)) → NamesField machine.program stage.method frame.method frame.pc index
      → Planned machine.program (gets_field here)
  get_advances index stage names =
      option_and_then_some (λ (kind : ℕ). exchanged stage.method stage.types (type_of names.basic ∷ []) (types.Object kind ∷ [])) (holder stage.method index) stage.after whole
      (λ kind holds left. option_and_then_some (put_on stage.method stage.types (type_of names.basic ∷ [])) (popped stage.method.program (types.Object kind ∷ []) stage.types.stack) stage.after left
      (λ rest off leaves. by kind holds rest leaves
      (popped_on_typed stage.method stage_chain kinds [] kind stage.types.stack frame.stack rest stage.stack off)))
    where
      stage_chain : KindsChain stage.method.program
      stage_chain = subst KindsChain (sym stage.own) stage.holds

      whole : get_field stage.method index (field_member (Some names.basic)) stage.types ≡ Some stage.after
      whole = subst (λ (member : Member). get_field stage.method index member stage.types ≡ Some stage.after)
          (member_is machine.program stage.method frame.method frame.pc index stage.own (within_number machine.program frame.method stage.method stage.within) names) stage.leaves

      go : (kind : ℕ) → holder stage.method index ≡ Some kind → (rest : List VerificationType)
          → verified.with_stack stage.method.body.max_stack stage.types (type_of names.basic ∷ rest) ≡ Some stage.after
          → (held left : List Value) → HaveTypes stage.method kinds (types.Object kind ∷ []) held → IsStack stage.method kinds rest left
          → Planned machine.program (get_taken names.slot names.basic (held, left))
      go kind holds rest so held left (HaveTypes.And type value others more has HaveTypes.NoMore) is =
          let own = object_is stage.method kinds kind value has in
          planned_by machine.program (get_taken names.slot names.basic (value ∷ [], left)) (with_object here own.serial (get_from names.slot names.basic left))
          (ap (λ (value : Value). get_taken names.slot names.basic (value ∷ [], left)) own.is)
          (get_there index stage kind rest left names.basic names.slot own.serial (subst (λ (program : Linked). Refers program kinds kind own.serial) stage.own own.refers)
          (λ own goes. names.has kind own holds goes) so is)

      by : (kind : ℕ) → holder stage.method index ≡ Some kind → (rest : List VerificationType)
          → verified.with_stack stage.method.body.max_stack stage.types (type_of names.basic ∷ rest) ≡ Some stage.after
          → Taken stage.method kinds (sorts.Reference ∷ []) frame.stack (types.Object kind ∷ []) rest → Planned machine.program (gets_field here)
      by kind holds rest so own =
          planned_by machine.program (gets_field here) (get_taken names.slot names.basic (own.values, own.left))
          (ap get_named names.names ∙ ap (option_and_then (get_of names.slot)) names.declared ∙ ap (option_and_then (get_taken names.slot names.basic)) own.taken)
          (go kind holds rest so own.values own.left own.held own.below)

  -- putfield
  abbrev put_in : ℕ → Basic → Value → ℕ → List Value → Object → Option Plan
  put_in slot basic value serial rest object = with_element here serial object slot (content_of (kept_value basic value)) rest

  abbrev put_taken : ℕ → Basic → List Value × List Value → Option Plan
  put_taken slot basic (value ∷ values.Ref serial ∷ [], rest) = with_object here serial (put_in slot basic value serial rest)
  put_taken slot basic other = None

  abbrev put_of : ℕ → Basic → Option Plan
  put_of slot basic = option_and_then (put_taken slot basic) (taken_values (sort_of_basic basic ∷ sorts.Reference ∷ []) frame.stack)

  abbrev put_named : Named → Option Plan
  put_named (meanings.Field class slot) = option_and_then (put_of slot) (field_basic machine.program class slot)
  put_named other = None

  put_there : (index : ℕ) (stage : Stage machine state frame below insn (actions.PutField index)) (kind : ℕ) (rest : List VerificationType) (left : List Value) (basic : Basic) (slot serial : ℕ) (value : Value)
      → HasType stage.method kinds (type_of basic) value
      → Refers machine.program kinds kind serial → ((own : ℕ) → holds_kind machine.program own kind ≡ true → HasField machine.program own slot basic)
      → verified.with_stack stage.method.body.max_stack stage.types rest ≡ Some stage.after → IsStack stage.method kinds rest left
      → Planned machine.program (with_object here serial (put_in slot basic value serial left))
  put_there index stage kind rest left basic slot serial value fits refers has so is =
      object_next machine state frame below insn (actions.PutField index) stage thrown (put_in slot basic value serial left) kind serial refers
      (λ object there own goes. sets_next machine state frame below insn (actions.PutField index) stage refl rest left so is serial object slot
      (content_of (kept_value basic value)) basic there (may_hold machine.program object.kind slot basic (has object.kind goes))
      (subst (λ (program : Linked). HasContent program kinds basic (content_of (kept_value basic value))) stage.own (kept_typed stage.method kinds basic value fits)))

  pub put_advances : (index : ℕ) (stage : Stage machine state frame below insn (actions.PutField index)) → NamesField machine.program stage.method frame.method frame.pc index
      → Planned machine.program (puts_field here)
  put_advances index stage names =
      planned_by machine.program (puts_field here) (put_taken names.slot names.basic (put.taken.values, put.taken.left))
      (ap put_named names.names ∙ ap (option_and_then (put_of names.slot)) names.declared ∙ ap (option_and_then (put_taken names.slot names.basic)) put.taken.taken)
      (go put.taken.values put.taken.left put.taken.held put.taken.below)
    where
      stage_chain : KindsChain stage.method.program
      stage_chain = subst KindsChain (sym stage.own) stage.holds

      put : Putting stage.method kinds index names.basic stage.types frame.stack stage.after
      put = putting stage.method stage_chain kinds index names.basic stage.types frame.stack stage.after stage.stack
          (subst (λ (member : Member). put_field stage.method index member stage.types ≡ Some stage.after)
          (member_is machine.program stage.method frame.method frame.pc index stage.own (within_number machine.program frame.method stage.method stage.within) names) stage.leaves)

      go : (held left : List Value) → HaveTypes stage.method kinds (type_of names.basic ∷ put.object ∷ []) held → IsStack stage.method kinds put.rest left
          → Planned machine.program (put_taken names.slot names.basic (held, left))
      go held left (HaveTypes.And type value others more has (HaveTypes.And second object rest under also HaveTypes.NoMore)) is =
          let own = reference_of stage.method kinds put.kind put.object object put.is also in
          planned_by machine.program (put_taken names.slot names.basic (value ∷ object ∷ [], left)) (with_object here own.serial (put_in names.slot names.basic value own.serial left))
          (ap (λ (object : Value). put_taken names.slot names.basic (value ∷ object ∷ [], left)) own.is)
          (put_there index stage put.kind put.rest left names.basic names.slot own.serial value has (subst (λ (program : Linked). Refers program kinds put.kind own.serial) stage.own own.refers)
          (λ own goes. names.has put.kind own put.holds goes) put.leaves is)
