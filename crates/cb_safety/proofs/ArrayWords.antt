-- The arrays on the stack of a typed state.
use Rattle.std.proofs.Common.{◌≡◌, ◌∙◌, ap, refl, sym, subst, ℕ, true, List, [], ◌∷◌, ◌++◌, Option, Some, None, option_and_then, option_map, slice_get, ◌&&◌}
use Rattle.std.specs.Cmp.Lexicographic.{pointwise}
use Rattle.std.proofs.lemmas.Bool.{and_parts, false≢true}
use Rattle.std.proofs.lemmas.Option.{option_and_then_some}
use Rattle.cb_hierarchy.specs.Classes.{listed}
use Rattle.cb_insn.specs.declared.insn.Insn.{Insn}
use Rattle.cb_kinds.specs.declared.basic.Basic.{Basic}
use Rattle.cb_kinds.specs.declared.basic.Basic.TheVariants as basics
use Rattle.cb_link.specs.Named.{code_at, insn_in}
use Rattle.cb_link.specs.Program.{Linked}
use Rattle.cb_machine.specs.Arrays.{element_of}
use Rattle.cb_machine.specs.Machine.{Machine}
use Rattle.cb_machine.specs.Values.{sort_of_basic}
use Rattle.cb_plain.specs.State.{Frame, MethodFrame, Object, OfMethod, State}
use Rattle.cb_plain.specs.declared.value.Value.{Value}
use Rattle.cb_plain.specs.declared.value.Value.TheVariants as values
use Rattle.cb_shapes.specs.Shapes.{action_of}
use Rattle.cb_shapes.specs.Sorts.{sort_of_elements}
use Rattle.cb_shapes.specs.declared.action.Action.{Action}
use Rattle.cb_shapes.specs.declared.action.Action.TheVariants as actions
use Rattle.cb_shapes.specs.declared.elements.Elements.{Elements}
use Rattle.cb_shapes.specs.declared.elements.Elements.TheVariants as elements
use Rattle.cb_shapes.specs.declared.sort.Sort.{Sort}
use Rattle.cb_shapes.specs.declared.sort.Sort.TheVariants as sorts
use Rattle.cb_verify.specs.declared.verification_type.VerificationType.{VerificationType}
use Rattle.cb_verify.specs.declared.verification_type.VerificationType.TheVariants as types
use Rattle.cb_verify.specs.Calls.{put_on}
use Rattle.cb_verify.specs.Frames as verified
use Rattle.cb_verify.specs.Members.{are_any, are_numbers, are_references, element_type, is_array_of}
use Rattle.cb_verify.specs.Rules.{given, only_if, taken}
use Rattle.cb_verify.specs.Typed.{IsTyped}
use Rattle.cb_verify.specs.Types.{is_initialised, is_of, number_type}
use Rattle.cb_verify.specs.Within.{Within}
use Rattle.cb_safety.specs.Advancing.{HoldsOn, IsSpelled}
use Rattle.cb_safety.specs.Heap.{IsHeap}
use Rattle.cb_safety.specs.Held.{HasType, HaveTypes}
use Rattle.cb_safety.specs.Kinds.{Kinds, Refers, kinds_of}
use Rattle.cb_safety.specs.Naming.{Components, HasElements, HoldsElements}
use Rattle.cb_safety.specs.States.{IsTypedState}
use Rattle.cb_safety.specs.Words.{AreAny, AreOfSort, ArrayOn, MeasuresArray, ReadsElement, RefersToArray, WritesElement}
use Rattle.cb_safety.proofs.Arrays.{any_is, only}
use Rattle.cb_safety.proofs.Asking.{found}
use Rattle.cb_safety.proofs.Assigned.{never, typed_is_known}
use Rattle.cb_safety.proofs.Elements.{AnArray, IsNumber, IsReference, Suiting, array_is, component_there, int_is, number_is, reference_is}
use Rattle.cb_safety.proofs.Going.{Stage, stage_of}
use Rattle.cb_safety.proofs.OnStack.{taken_whole}
use Rattle.cb_safety.proofs.Taken.{Taken, sorted, taken_sorted, taken_typed}

-- ---- elements that may be held as others are of one sort

same_elements : (program : Linked) (element basic : Basic) → Components program element basic → sort_of_basic element ≡ sort_of_basic basic
same_elements program element basic (Components.Alike own none) = refl
same_elements program element basic (Components.References kind other goes) = refl

-- an array that may be held as an array of such elements
there_as : (program : Linked) → HoldsElements program → (objects : List (Option Object)) → IsHeap program objects → (Suits : Basic → Type 0)
    → ((element basic : Basic) → sort_of_basic element ≡ sort_of_basic basic → Suits basic → Suits element) → (kind serial : ℕ) (basic : Basic) → element_of program kind ≡ Some basic
    → Suits basic → Refers program (kinds_of objects) kind serial → RefersToArray program objects Suits serial
there_as program arrays objects heap Suits along kind serial basic component suits Refers.ToNull = RefersToArray.ToNull
there_as program arrays objects heap Suits along kind serial basic component suits (Refers.To own is) =
    let at = found program objects kind own heap is in
    let has : HasElements program at.object.kind basic = arrays at.object.kind kind basic at.goes component in
    RefersToArray.ToArray own (record {
      object = at.object;
      there = at.there;
      basic = has.element;
      element = has.is;
      suits = along has.element basic (same_elements program has.element basic has.held) suits;
      each = λ place low. at.is.elements has.element place has.is low;
      few = at.is.few has.element has.is;
    })

record OnArray (program : Linked) (objects : List (Option Object)) (Suits : Basic → Type 0) (value : Value) : Type 0 where
  pub serial : ℕ
  pub is : value ≡ values.Ref serial
  pub refers : RefersToArray program objects Suits serial

on_array : (program : Linked) → HoldsElements program → (objects : List (Option Object)) → IsHeap program objects → (Holds Suits : Basic → Type 0)
    → ((basic : Basic) → Holds basic → Suits basic) → ((element basic : Basic) → sort_of_basic element ≡ sort_of_basic basic → Suits basic → Suits element) → (value : Value)
    → AnArray program (kinds_of objects) Holds value → OnArray program objects Suits value
on_array program arrays objects heap Holds Suits holds along value AnArray.NoArray = record { serial = 0; is = refl; refers = RefersToArray.ToNull }
on_array program arrays objects heap Holds Suits holds along value (AnArray.Array kind serial basic component own refers) =
    record { serial = serial; is = refl; refers = there_as program arrays objects heap Suits along kind serial basic component (holds basic own) refers }

along_sort : (sort : Sort) (element basic : Basic) → sort_of_basic element ≡ sort_of_basic basic → AreOfSort sort basic → AreOfSort sort element
along_sort sort element basic same own = same ∙ own

-- numbers are of the sort that the instruction asks for
number_sort : (form : Elements) (basic : Basic) → IsNumber form basic → AreOfSort (sort_of_elements form) basic
number_sort form (basics.Reference kind) is = absurd (false≢true (sym is.no_reference))
number_sort elements.Longs basics.Long is = refl
number_sort elements.Longs basic is = absurd (cc is.type)
number_sort form basics.Long is = absurd (cc is.type)
number_sort form basic is = refl

reference_sort : (basic : Basic) → IsReference basic → AreOfSort sorts.Reference basic
reference_sort basic (IsReference.AReference kind) = refl

-- what an array of references has, by what is loaded from it
abbrev loads_as : Option Basic → Option VerificationType
loads_as (Some (basics.Reference kind)) = Some (types.Object kind)
loads_as other = None

loads_references : (type : VerificationType) (found : Option Basic) → loads_as found ≡ Some type → Suiting IsReference found
loads_references type (Some (basics.Reference kind)) is = IsReference.AReference kind
loads_references type other is = never is

references_there : (method : Within) (kinds : Kinds) (type array : VerificationType) (value : Value) → element_type method.program array ≡ Some type → HasType method kinds array value
    → AnArray method.program kinds IsReference value
references_there method kinds type array value is HasType.ItsNull = AnArray.NoArray
references_there method kinds type array value is (HasType.AReference kind serial refers) =
    component_there method.program kinds IsReference kind serial refers (element_of method.program kind) refl (loads_references type (element_of method.program kind) is)
references_there method kinds type array value is (HasType.Unknown own known) = never is
references_there method kinds type array value is (HasType.AnInt number fits) = never is
references_there method kinds type array value is (HasType.ALong number fits) = never is
references_there method kinds type array value is (HasType.ItsThis serial own) = never is
references_there method kinds type array value is (HasType.ANew place serial kind made there) = never is

module _ (machine : Machine) (state : State) (frame : MethodFrame) (below : List Frame) (insn : Insn) (arrays : HoldsElements machine.program) where
  abbrev kinds : Kinds
  kinds = kinds_of state.objects

  module _ (action : Action) (stage : Stage machine state frame below insn action) where
    array_on : (Has Suits : Basic → Type 0) → ((basic : Basic) → Has basic → Suits basic)
        → ((element basic : Basic) → sort_of_basic element ≡ sort_of_basic basic → Suits basic → Suits element) → (depth : ℕ) (value : Value) → slice_get frame.stack depth ≡ Some value
        → AnArray stage.method.program kinds Has value → ArrayOn machine.program state frame depth Suits
    array_on Has Suits holds along depth value there is =
        let on = on_array machine.program arrays state.objects stage.typed.heap Has Suits holds along value (subst (λ (program : Linked). AnArray program kinds Has value) stage.own is) in
        record { serial = on.serial; on = there ∙ ap Some on.is; refers = on.refers }

    reads : (Has : Basic → Type 0) (sort : Sort) → ((basic : Basic) → Has basic → AreOfSort sort basic) → (index array : VerificationType) (rest : List VerificationType)
        → taken (sorts.Int ∷ sorts.Reference ∷ []) stage.types.stack ≡ Some (index ∷ array ∷ [], rest)
        → ((value : Value) → HasType stage.method kinds array value → AnArray stage.method.program kinds Has value) → ReadsElement machine.program state frame sort
    reads Has sort holds index array rest so suits = go own.values own.left own.held (taken_whole asked frame.stack own.values own.left own.taken) where
      asked : List Sort
      asked = sorts.Int ∷ sorts.Reference ∷ []

      own : Taken stage.method kinds (sorts.Int ∷ sorts.Reference ∷ []) frame.stack (index ∷ array ∷ []) rest
      own = taken_typed stage.method kinds (sorts.Int ∷ sorts.Reference ∷ []) stage.types.stack frame.stack (index ∷ array ∷ []) rest stage.stack so

      int : is_of sorts.Int index ≡ true
      int = (and_parts (is_of sorts.Int index) (pointwise is_of (sorts.Reference ∷ []) (array ∷ []))
          (taken_sorted (sorts.Int ∷ sorts.Reference ∷ []) stage.types.stack (index ∷ array ∷ []) rest so)).0

      go : (held left : List Value) → HaveTypes stage.method kinds (index ∷ array ∷ []) held → frame.stack ≡ held ++ left → ReadsElement machine.program state frame sort
      go held left (HaveTypes.And type first more others has (HaveTypes.And also second last nothing had HaveTypes.NoMore)) stands =
          let number = int_is stage.method kinds index first has int in
          record {
            index = number.0;
            place = ap (λ (stack : List Value). slice_get stack 0) stands ∙ ap Some number.1;
            array = array_on Has (AreOfSort sort) holds (along_sort sort) 1 second (ap (λ (stack : List Value). slice_get stack 1) stands) (suits second had);
          }

    writes : (Has : Basic → Type 0) (sort : Sort) → ((basic : Basic) → Has basic → AreOfSort sort basic) → (given index array : VerificationType) (rest : List VerificationType)
        → taken (sort ∷ sorts.Int ∷ sorts.Reference ∷ []) stage.types.stack ≡ Some (given ∷ index ∷ array ∷ [], rest)
        → ((value : Value) → HasType stage.method kinds array value → AnArray stage.method.program kinds Has value) → WritesElement machine.program state frame sort
    writes Has sort holds given index array rest so suits = go own.values own.left own.held (taken_whole (sort ∷ sorts.Int ∷ sorts.Reference ∷ []) frame.stack own.values own.left own.taken)
      where
        own : Taken stage.method kinds (sort ∷ sorts.Int ∷ sorts.Reference ∷ []) frame.stack (given ∷ index ∷ array ∷ []) rest
        own = taken_typed stage.method kinds (sort ∷ sorts.Int ∷ sorts.Reference ∷ []) stage.types.stack frame.stack (given ∷ index ∷ array ∷ []) rest stage.stack so

        are : (is_of sort given ≡ true) × (pointwise is_of (sorts.Int ∷ sorts.Reference ∷ []) (index ∷ array ∷ []) ≡ true)
        are = and_parts (is_of sort given) (pointwise is_of (sorts.Int ∷ sorts.Reference ∷ []) (index ∷ array ∷ []))
            (taken_sorted (sort ∷ sorts.Int ∷ sorts.Reference ∷ []) stage.types.stack (given ∷ index ∷ array ∷ []) rest so)

        int : is_of sorts.Int index ≡ true
        int = (and_parts (is_of sorts.Int index) (pointwise is_of (sorts.Reference ∷ []) (array ∷ [])) are.1).0

        go : (held left : List Value) → HaveTypes stage.method kinds (given ∷ index ∷ array ∷ []) held → frame.stack ≡ held ++ left → WritesElement machine.program state frame sort
        go held left (HaveTypes.And type value others more has (HaveTypes.And one first two three had (HaveTypes.And also second last nothing have HaveTypes.NoMore))) stands =
            let number = int_is stage.method kinds index first had int in
            record {
              value = value;
              index = number.0;
              given = ap (λ (stack : List Value). slice_get stack 0) stands;
              sorted = sorted stage.method kinds sort given value has are.0;
              known = typed_is_known stage.method kinds given value has;
              place = ap (λ (stack : List Value). slice_get stack 1) stands ∙ ap Some number.1;
              array = array_on Has (AreOfSort sort) holds (along_sort sort) 2 second (ap (λ (stack : List Value). slice_get stack 2) stands) (suits second have);
            }

    -- what an instruction leaves that only exchanges values
    abbrev leaving_with : List VerificationType × List VerificationType → Option verified.Frame
    leaving_with off = option_and_then (λ (type : Option VerificationType). put_on stage.method stage.types (listed type) off.1) (given stage.method frame.pc action off.0)

  -- ---- by the rules of the verifier

  numbers_read : (form : Elements) → Stage machine state frame below insn (actions.LoadNumber form) → ReadsElement machine.program state frame (sort_of_elements form)
  numbers_read form stage =
      option_and_then_some (leaving_with (actions.LoadNumber form) stage) (taken (sorts.Int ∷ sorts.Reference ∷ []) stage.types.stack) stage.after stage.leaves
      (λ off so fits. by off.0 off.1 so fits)
    where
      by : (held rest : List VerificationType) → taken (sorts.Int ∷ sorts.Reference ∷ []) stage.types.stack ≡ Some (held, rest)
          → leaving_with (actions.LoadNumber form) stage (held, rest) ≡ Some stage.after → ReadsElement machine.program state frame (sort_of_elements form)
      by [] rest so fits = never fits
      by (one ∷ []) rest so fits = never fits
      by (index ∷ array ∷ []) rest so fits =
          option_and_then_some (λ (type : Option VerificationType). put_on stage.method stage.types (listed type) rest)
          (only_if (is_array_of stage.method.program (are_numbers form) array) (Some (number_type (sort_of_elements form)))) stage.after fits
          (λ type gives leaves. reads (actions.LoadNumber form) stage (IsNumber form) (sort_of_elements form) (number_sort form) index array rest so
          (λ value has. array_is stage.method kinds (IsNumber form) (are_numbers form) (number_is form) array value has
          (only (is_array_of stage.method.program (are_numbers form) array) (Some (number_type (sort_of_elements form))) type gives).0))
      by (one ∷ two ∷ three ∷ more) rest so fits = never fits

  references_read : Stage machine state frame below insn actions.LoadReference → ReadsElement machine.program state frame sorts.Reference
  references_read stage =
      option_and_then_some (leaving_with actions.LoadReference stage) (taken (sorts.Int ∷ sorts.Reference ∷ []) stage.types.stack) stage.after stage.leaves
      (λ off so fits. by off.0 off.1 so fits)
    where
      by : (held rest : List VerificationType) → taken (sorts.Int ∷ sorts.Reference ∷ []) stage.types.stack ≡ Some (held, rest)
          → leaving_with actions.LoadReference stage (held, rest) ≡ Some stage.after → ReadsElement machine.program state frame sorts.Reference
      by [] rest so fits = never fits
      by (one ∷ []) rest so fits = never fits
      by (index ∷ array ∷ []) rest so fits = go (element_type stage.method.program array) refl fits where
        go : (found : Option VerificationType) → element_type stage.method.program array ≡ found
            → option_and_then (λ (type : Option VerificationType). put_on stage.method stage.types (listed type) rest) (option_map Some found) ≡ Some stage.after
            → ReadsElement machine.program state frame sorts.Reference
        go None is fits = never fits
        go (Some type) is fits = reads actions.LoadReference stage IsReference sorts.Reference reference_sort index array rest so
            (λ value has. references_there stage.method kinds type array value is has)
      by (one ∷ two ∷ three ∷ more) rest so fits = never fits

  numbers_written : (form : Elements) → Stage machine state frame below insn (actions.StoreNumber form) → WritesElement machine.program state frame (sort_of_elements form)
  numbers_written form stage =
      option_and_then_some (leaving_with (actions.StoreNumber form) stage) (taken (sort_of_elements form ∷ sorts.Int ∷ sorts.Reference ∷ []) stage.types.stack) stage.after stage.leaves
      (λ off so fits. by off.0 off.1 so fits)
    where
      by : (held rest : List VerificationType) → taken (sort_of_elements form ∷ sorts.Int ∷ sorts.Reference ∷ []) stage.types.stack ≡ Some (held, rest)
          → leaving_with (actions.StoreNumber form) stage (held, rest) ≡ Some stage.after → WritesElement machine.program state frame (sort_of_elements form)
      by [] rest so fits = never fits
      by (one ∷ []) rest so fits = never fits
      by (one ∷ two ∷ []) rest so fits = never fits
      by (type ∷ index ∷ array ∷ []) rest so fits =
          option_and_then_some (λ (type : Option VerificationType). put_on stage.method stage.types (listed type) rest)
          (only_if (is_array_of stage.method.program (are_numbers form) array) None) stage.after fits
          (λ own gives leaves. writes (actions.StoreNumber form) stage (IsNumber form) (sort_of_elements form) (number_sort form) type index array rest so
          (λ value has. array_is stage.method kinds (IsNumber form) (are_numbers form) (number_is form) array value has
          (only (is_array_of stage.method.program (are_numbers form) array) None own gives).0))
      by (one ∷ two ∷ three ∷ four ∷ more) rest so fits = never fits

  references_written : Stage machine state frame below insn actions.StoreReference → WritesElement machine.program state frame sorts.Reference
  references_written stage =
      option_and_then_some (leaving_with actions.StoreReference stage) (taken (sorts.Reference ∷ sorts.Int ∷ sorts.Reference ∷ []) stage.types.stack) stage.after stage.leaves
      (λ off so fits. by off.0 off.1 so fits)
    where
      by : (held rest : List VerificationType) → taken (sorts.Reference ∷ sorts.Int ∷ sorts.Reference ∷ []) stage.types.stack ≡ Some (held, rest)
          → leaving_with actions.StoreReference stage (held, rest) ≡ Some stage.after → WritesElement machine.program state frame sorts.Reference
      by [] rest so fits = never fits
      by (one ∷ []) rest so fits = never fits
      by (one ∷ two ∷ []) rest so fits = never fits
      by (type ∷ index ∷ array ∷ []) rest so fits =
          option_and_then_some (λ (type : Option VerificationType). put_on stage.method stage.types (listed type) rest)
          (only_if (is_initialised type && is_array_of stage.method.program are_references array) None) stage.after fits
          (λ own gives leaves. writes actions.StoreReference stage IsReference sorts.Reference reference_sort type index array rest so
          (λ value has. array_is stage.method kinds IsReference are_references reference_is array value has
          (and_parts (is_initialised type) (is_array_of stage.method.program are_references array)
          (only (is_initialised type && is_array_of stage.method.program are_references array) None own gives).0).1))
      by (one ∷ two ∷ three ∷ four ∷ more) rest so fits = never fits

  array_measured : Stage machine state frame below insn actions.Length → MeasuresArray machine.program state frame
  array_measured stage =
      option_and_then_some (leaving_with actions.Length stage) (taken (sorts.Reference ∷ []) stage.types.stack) stage.after stage.leaves
      (λ off so fits. by off.0 off.1 so fits)
    where
      go : (array : VerificationType) (held left : List Value) → is_array_of stage.method.program are_any array ≡ true → HaveTypes stage.method kinds (array ∷ []) held
          → frame.stack ≡ held ++ left → MeasuresArray machine.program state frame
      go array held left suits (HaveTypes.And type value more others has HaveTypes.NoMore) stands =
          array_on actions.Length stage AreAny AreAny (λ basic is. is) (λ element basic same is. tt) 0 value (ap (λ (stack : List Value). slice_get stack 0) stands)
          (array_is stage.method kinds AreAny are_any any_is array value has suits)

      by : (held rest : List VerificationType) → taken (sorts.Reference ∷ []) stage.types.stack ≡ Some (held, rest)
          → leaving_with actions.Length stage (held, rest) ≡ Some stage.after → MeasuresArray machine.program state frame
      by [] rest so fits = never fits
      by (array ∷ []) rest so fits =
          option_and_then_some (λ (type : Option VerificationType). put_on stage.method stage.types (listed type) rest)
          (only_if (is_array_of stage.method.program are_any array) (Some types.Int)) stage.after fits
          (λ type gives leaves.
          let own : Taken stage.method kinds (sorts.Reference ∷ []) frame.stack (array ∷ []) rest =
          taken_typed stage.method kinds (sorts.Reference ∷ []) stage.types.stack frame.stack (array ∷ []) rest stage.stack so in
          go array own.values own.left (only (is_array_of stage.method.program are_any array) (Some types.Int) type gives).0 own.held
          (taken_whole (sorts.Reference ∷ []) frame.stack own.values own.left own.taken))
      by (one ∷ two ∷ more) rest so fits = never fits

pub elements_read : (machine : Machine) (state : State) (frame : MethodFrame) (below : List Frame) (insn : Insn) (elements : Elements)
    → IsTyped machine.program → IsSpelled machine.program → HoldsOn machine.program → HoldsElements machine.program → IsTypedState machine.program state
    → state.roots.pending ≡ 0 → state.roots.frames ≡ OfMethod frame ∷ below → insn_in (code_at machine.program frame.method) frame.pc ≡ Some insn
    → action_of insn ≡ Some (actions.LoadNumber elements) → ReadsElement machine.program state frame (sort_of_elements elements)
elements_read machine state frame below insn elements fits spelled holds arrays typed zero frames there so =
    numbers_read machine state frame below insn arrays elements (stage_of machine state frame below insn (actions.LoadNumber elements) fits spelled holds typed zero frames there so)

pub references_are_read : (machine : Machine) (state : State) (frame : MethodFrame) (below : List Frame) (insn : Insn)
    → IsTyped machine.program → IsSpelled machine.program → HoldsOn machine.program → HoldsElements machine.program → IsTypedState machine.program state
    → state.roots.pending ≡ 0 → state.roots.frames ≡ OfMethod frame ∷ below → insn_in (code_at machine.program frame.method) frame.pc ≡ Some insn
    → action_of insn ≡ Some actions.LoadReference → ReadsElement machine.program state frame sorts.Reference
references_are_read machine state frame below insn fits spelled holds arrays typed zero frames there so =
    references_read machine state frame below insn arrays (stage_of machine state frame below insn actions.LoadReference fits spelled holds typed zero frames there so)

pub elements_written : (machine : Machine) (state : State) (frame : MethodFrame) (below : List Frame) (insn : Insn) (elements : Elements)
    → IsTyped machine.program → IsSpelled machine.program → HoldsOn machine.program → HoldsElements machine.program → IsTypedState machine.program state
    → state.roots.pending ≡ 0 → state.roots.frames ≡ OfMethod frame ∷ below → insn_in (code_at machine.program frame.method) frame.pc ≡ Some insn
    → action_of insn ≡ Some (actions.StoreNumber elements) → WritesElement machine.program state frame (sort_of_elements elements)
elements_written machine state frame below insn elements fits spelled holds arrays typed zero frames there so =
    numbers_written machine state frame below insn arrays elements (stage_of machine state frame below insn (actions.StoreNumber elements) fits spelled holds typed zero frames there so)

pub references_are_written : (machine : Machine) (state : State) (frame : MethodFrame) (below : List Frame) (insn : Insn)
    → IsTyped machine.program → IsSpelled machine.program → HoldsOn machine.program → HoldsElements machine.program → IsTypedState machine.program state
    → state.roots.pending ≡ 0 → state.roots.frames ≡ OfMethod frame ∷ below → insn_in (code_at machine.program frame.method) frame.pc ≡ Some insn
    → action_of insn ≡ Some actions.StoreReference → WritesElement machine.program state frame sorts.Reference
references_are_written machine state frame below insn fits spelled holds arrays typed zero frames there so =
    references_written machine state frame below insn arrays (stage_of machine state frame below insn actions.StoreReference fits spelled holds typed zero frames there so)

pub arrays_measured : (machine : Machine) (state : State) (frame : MethodFrame) (below : List Frame) (insn : Insn)
    → IsTyped machine.program → IsSpelled machine.program → HoldsOn machine.program → HoldsElements machine.program → IsTypedState machine.program state
    → state.roots.pending ≡ 0 → state.roots.frames ≡ OfMethod frame ∷ below → insn_in (code_at machine.program frame.method) frame.pc ≡ Some insn
    → action_of insn ≡ Some actions.Length → MeasuresArray machine.program state frame
arrays_measured machine state frame below insn fits spelled holds arrays typed zero frames there so =
    array_measured machine state frame below insn arrays (stage_of machine state frame below insn actions.Length fits spelled holds typed zero frames there so)
