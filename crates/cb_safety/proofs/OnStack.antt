-- What is taken off a stack stands on it, and what fields have of the objects there.
use Rattle.std.proofs.Common.{◌≡◌, ◌∙◌, ap, refl, sym, subst, subst₂, ℕ, Bool, true, false, List, [], ◌∷◌, ◌++◌, Option, Some, None, option_map, slice_get}
use Rattle.std.proofs.lemmas.Option.{option_and_then_some, same_Some}
use Rattle.cb_insn.specs.declared.insn.Insn.{Insn}
use Rattle.cb_kinds.specs.declared.basic.Basic.{Basic}
use Rattle.cb_link.specs.Named.{code_at, insn_in, named}
use Rattle.cb_link.specs.Program.{Linked}
use Rattle.cb_link.specs.Slots.{field_basic}
use Rattle.cb_link.specs.declared.named.Named.TheVariants as meanings
use Rattle.cb_machine.specs.Machine.{Machine}
use Rattle.cb_machine.specs.Standing.{same_sort, taken as taken_values}
use Rattle.cb_machine.specs.Values.{content_of, kept_value, sort_of, sort_of_basic}
use Rattle.cb_plain.specs.State.{Frame, MethodFrame, Object, OfMethod, State}
use Rattle.cb_plain.specs.declared.value.Value.{Value}
use Rattle.cb_shapes.specs.Shapes.{action_of}
use Rattle.cb_shapes.specs.declared.action.Action.TheVariants as actions
use Rattle.cb_shapes.specs.declared.sort.Sort.{Sort}
use Rattle.cb_shapes.specs.declared.sort.Sort.TheVariants as sorts
use Rattle.cb_verify.specs.declared.verification_type.VerificationType.{VerificationType}
use Rattle.cb_verify.specs.declared.verification_type.VerificationType.TheVariants as types
use Rattle.cb_verify.specs.Calls.{exchanged, get_field, popped, put_field, put_on}
use Rattle.cb_verify.specs.Members.{Member}
use Rattle.cb_verify.specs.Typed.{IsTyped}
use Rattle.cb_verify.specs.Types.{type_of}
use Rattle.cb_verify.specs.Within.{Within, holder}
use Rattle.cb_safety.specs.Advancing.{HoldsOn, IsSpelled}
use Rattle.cb_safety.specs.Heap.{IsHeap}
use Rattle.cb_safety.specs.Held.{HasContent, HaveTypes}
use Rattle.cb_safety.specs.Kinds.{Kinds, Refers, holds_kind, kinds_of}
use Rattle.cb_safety.specs.Naming.{HasField, NamesField, NamesFields}
use Rattle.cb_safety.specs.States.{IsTypedState}
use Rattle.cb_safety.specs.Words.{HasWord, ReadsField, WritesField}
use Rattle.cb_safety.proofs.Asking.{found}
use Rattle.cb_safety.proofs.Assigned.{KindsChain, never}
use Rattle.cb_safety.proofs.Contents.{kept_typed}
use Rattle.cb_safety.proofs.Fields.{Putting, field_member, member_is, object_is, putting, reference_of, within_number}
use Rattle.cb_safety.proofs.Going.{Stage, stage_of}
use Rattle.cb_safety.proofs.Taken.{Taken, basic_sorted, popped_on_typed}

-- ---- what is taken off a stack stands on it

abbrev taken_if : Value → Bool → Option (List Value × List Value) → Option (List Value × List Value)
taken_if value true rest = option_map (λ (taken : List Value × List Value). (value ∷ taken.0, taken.1)) rest
taken_if value false rest = None

first_whole : (value : Value) (stack values left : List Value) (test : Bool) (found : Option (List Value × List Value))
    → ((more rest : List Value) → found ≡ Some (more, rest) → stack ≡ more ++ rest) → taken_if value test found ≡ Some (values, left) → value ∷ stack ≡ values ++ left
first_whole value stack values left false found follows is = never is
first_whole value stack values left true None follows is = never is
first_whole value stack values left true (Some found) follows is =
    ap (λ (stack : List Value). value ∷ stack) (follows found.0 found.1 refl)
    ∙ ap (λ (both : List Value × List Value). both.0 ++ both.1) (same_Some (value ∷ found.0, found.1) (values, left) is)

pub taken_whole : (asked : List Sort) (stack values left : List Value) → taken_values asked stack ≡ Some (values, left) → stack ≡ values ++ left
taken_whole [] stack values left is = ap (λ (both : List Value × List Value). both.0 ++ both.1) (same_Some ([], stack) (values, left) is)
taken_whole (sort ∷ asked) [] values left is = never is
taken_whole (sort ∷ asked) (value ∷ stack) values left is =
    first_whole value stack values left (same_sort (sort_of value) sort) (taken_values asked stack) (λ more rest so. taken_whole asked stack more rest so) is

-- ---- fields

-- an object of which a field is named has it
pub word_there : (program : Linked) (objects : List (Option Object)) (kind serial slot : ℕ) (basic : Basic) → IsHeap program objects
    → Refers program (kinds_of objects) kind serial → ((own : ℕ) → holds_kind program own kind ≡ true → HasField program own slot basic) → HasWord program objects slot basic serial
word_there program objects kind serial slot basic heap Refers.ToNull has = HasWord.OfNull
word_there program objects kind serial slot basic heap (Refers.To own is) has =
    let at = found program objects kind own heap is in
    let field : HasField program at.object.kind slot basic = has at.object.kind at.goes in
    HasWord.OfObject own at.object at.there (at.is.fields field.class slot basic field.classed field.declared)

module _ (machine : Machine) (state : State) (frame : MethodFrame) (below : List Frame) (insn : Insn) where
  abbrev kinds : Kinds
  kinds = kinds_of state.objects

  -- getfield
  reads_field : (index : ℕ) (stage : Stage machine state frame below insn (actions.GetField index)) → (names : NamesField machine.program stage.method frame.method frame.pc index)
      → ReadsField machine.program state frame names.slot names.basic
  reads_field index stage names =
      option_and_then_some (λ (kind : ℕ). exchanged stage.method stage.types (type_of names.basic ∷ []) (types.Object kind ∷ [])) (holder stage.method index) stage.after whole
      (λ kind holds left. option_and_then_some (put_on stage.method stage.types (type_of names.basic ∷ [])) (popped stage.method.program (types.Object kind ∷ []) stage.types.stack) stage.after left
      (λ rest off leaves. by kind holds rest
      (popped_on_typed stage.method (subst KindsChain (sym stage.own) stage.holds) kinds [] kind stage.types.stack frame.stack rest stage.stack off)))
    where
      whole : get_field stage.method index (field_member (Some names.basic)) stage.types ≡ Some stage.after
      whole = subst (λ (member : Member). get_field stage.method index member stage.types ≡ Some stage.after)
          (member_is machine.program stage.method frame.method frame.pc index stage.own (within_number machine.program frame.method stage.method stage.within) names) stage.leaves

      go : (kind : ℕ) → holder stage.method index ≡ Some kind → (held left : List Value) → frame.stack ≡ held ++ left
          → HaveTypes stage.method kinds (types.Object kind ∷ []) held → ReadsField machine.program state frame names.slot names.basic
      go kind holds held left so (HaveTypes.And type value others more has HaveTypes.NoMore) =
          let own = object_is stage.method kinds kind value has in
          record {
            serial = own.serial;
            object = ap (λ (stack : List Value). slice_get stack 0) so ∙ ap Some own.is;
            word = word_there machine.program state.objects kind own.serial names.slot names.basic stage.typed.heap
                (subst (λ (program : Linked). Refers program kinds kind own.serial) stage.own own.refers) (λ own goes. names.has kind own holds goes);
          }

      by : (kind : ℕ) → holder stage.method index ≡ Some kind → (rest : List VerificationType)
          → Taken stage.method kinds (sorts.Reference ∷ []) frame.stack (types.Object kind ∷ []) rest → ReadsField machine.program state frame names.slot names.basic
      by kind holds rest own = go kind holds own.values own.left (taken_whole (sorts.Reference ∷ []) frame.stack own.values own.left own.taken) own.held

  -- putfield
  writes_field : (index : ℕ) (stage : Stage machine state frame below insn (actions.PutField index)) → (names : NamesField machine.program stage.method frame.method frame.pc index)
      → WritesField machine.program state frame names.slot names.basic
  writes_field index stage names =
      go put.taken.values put.taken.left (taken_whole (sort_of_basic names.basic ∷ sorts.Reference ∷ []) frame.stack put.taken.values put.taken.left put.taken.taken) put.taken.held
    where
      put : Putting stage.method kinds index names.basic stage.types frame.stack stage.after
      put = putting stage.method (subst KindsChain (sym stage.own) stage.holds) kinds index names.basic stage.types frame.stack stage.after stage.stack
          (subst (λ (member : Member). put_field stage.method index member stage.types ≡ Some stage.after)
          (member_is machine.program stage.method frame.method frame.pc index stage.own (within_number machine.program frame.method stage.method stage.within) names) stage.leaves)

      go : (held left : List Value) → frame.stack ≡ held ++ left → HaveTypes stage.method kinds (type_of names.basic ∷ put.object ∷ []) held
          → WritesField machine.program state frame names.slot names.basic
      go held left so (HaveTypes.And type value others more has (HaveTypes.And second object rest under also HaveTypes.NoMore)) =
          let own = reference_of stage.method kinds put.kind put.object object put.is also in
          record {
            value = value;
            serial = own.serial;
            given = ap (λ (stack : List Value). slice_get stack 0) so;
            sorted = basic_sorted stage.method kinds names.basic value has;
            kept = subst (λ (program : Linked). HasContent program kinds names.basic (content_of (kept_value names.basic value))) stage.own (kept_typed stage.method kinds names.basic value has);
            object = ap (λ (stack : List Value). slice_get stack 1) so ∙ ap Some own.is;
            word = word_there machine.program state.objects put.kind own.serial names.slot names.basic stage.typed.heap
                (subst (λ (program : Linked). Refers program kinds put.kind own.serial) stage.own own.refers) (λ own goes. names.has put.kind own put.holds goes);
          }

-- the field that is named is this one
same_field : (program : Linked) (number pc class slot : ℕ) (basic : Basic) (method : Within) (index : ℕ) (names : NamesField program method number pc index)
    → named program number pc ≡ meanings.Field class slot → field_basic program class slot ≡ Some basic → (names.slot ≡ slot) × (names.basic ≡ basic)
same_field program number pc class slot basic method index names is declared =
    let same : meanings.Field names.class names.slot ≡ meanings.Field class slot = sym names.names ∙ is in
    let classes : names.class ≡ class = cc same in
    let slots : names.slot ≡ slot = cc same in
    (slots, same_Some names.basic basic (sym names.declared ∙ ap (λ (class : ℕ). field_basic program class names.slot) classes ∙ ap (λ (slot : ℕ). field_basic program class slot) slots ∙ declared))

pub fields_read : (machine : Machine) (state : State) (frame : MethodFrame) (below : List Frame) (insn : Insn) (index class slot : ℕ) (basic : Basic)
    → IsTyped machine.program → IsSpelled machine.program → HoldsOn machine.program → NamesFields machine.program → IsTypedState machine.program state
    → state.roots.pending ≡ 0 → state.roots.frames ≡ OfMethod frame ∷ below → insn_in (code_at machine.program frame.method) frame.pc ≡ Some insn
    → action_of insn ≡ Some (actions.GetField index) → named machine.program frame.method frame.pc ≡ meanings.Field class slot
    → field_basic machine.program class slot ≡ Some basic → ReadsField machine.program state frame slot basic
fields_read machine state frame below insn index class slot basic fits spelled holds fields typed zero frames there so is declared =
    let stage : Stage machine state frame below insn (actions.GetField index) = stage_of machine state frame below insn (actions.GetField index) fits spelled holds typed zero frames there so in
    let names : NamesField machine.program stage.method frame.method frame.pc index = fields frame.method frame.pc index stage.method insn (actions.GetField index) stage.within there so refl in
    let both = same_field machine.program frame.method frame.pc class slot basic stage.method index names is declared in
    subst₂ (λ (slot : ℕ) (basic : Basic). ReadsField machine.program state frame slot basic) both.0 both.1 (reads_field machine state frame below insn index stage names)

pub fields_written : (machine : Machine) (state : State) (frame : MethodFrame) (below : List Frame) (insn : Insn) (index class slot : ℕ) (basic : Basic)
    → IsTyped machine.program → IsSpelled machine.program → HoldsOn machine.program → NamesFields machine.program → IsTypedState machine.program state
    → state.roots.pending ≡ 0 → state.roots.frames ≡ OfMethod frame ∷ below → insn_in (code_at machine.program frame.method) frame.pc ≡ Some insn
    → action_of insn ≡ Some (actions.PutField index) → named machine.program frame.method frame.pc ≡ meanings.Field class slot
    → field_basic machine.program class slot ≡ Some basic → WritesField machine.program state frame slot basic
fields_written machine state frame below insn index class slot basic fits spelled holds fields typed zero frames there so is declared =
    let stage : Stage machine state frame below insn (actions.PutField index) = stage_of machine state frame below insn (actions.PutField index) fits spelled holds typed zero frames there so in
    let names : NamesField machine.program stage.method frame.method frame.pc index = fields frame.method frame.pc index stage.method insn (actions.PutField index) stage.within there so refl in
    let both = same_field machine.program frame.method frame.pc class slot basic stage.method index names is declared in
    subst₂ (λ (slot : ℕ) (basic : Basic). WritesField machine.program state frame slot basic) both.0 both.1 (writes_field machine state frame below insn index stage names)
