-- Instructions on arrays.
use Rattle.std.proofs.Common.{◌≡◌, ◌∙◌, ap, arith, refl, sym, subst, ℕ, ℤ, pos, zero, suc, ◌<◌, ◌&&◌, Bool, true, false, List, [], ◌∷◌, length, Option, Some, None, option_and_then, option_map, slice_get, if◌then◌else◌}
use Rattle.std.specs.Cmp.Lexicographic.{pointwise}
use Rattle.std.proofs.lemmas.Bool.{and_parts, false≢true}
use Rattle.std.proofs.lemmas.Option.{option_and_then_some, same_Some}
use Rattle.cb_hierarchy.specs.Classes.{listed}
use Rattle.cb_insn.specs.declared.insn.Insn.{Insn}
use Rattle.cb_kinds.specs.Basics.{is_reference}
use Rattle.cb_kinds.specs.declared.basic.Basic.{Basic}
use Rattle.cb_kinds.specs.declared.basic.Basic.TheVariants as basics
use Rattle.cb_link.specs.Program.{Linked}
use Rattle.cb_link.specs.Subtypes.{instance}
use Rattle.cb_machine.specs.Arrays.{element_of, fits_element, fits_kind, is_index, loads_element, measures, stores_element, stores_reference, with_element, with_object, within as bounded}
use Rattle.cb_machine.specs.Machine.{Machine}
use Rattle.cb_machine.specs.Plans.{Plan}
use Rattle.cb_machine.specs.Sites.{array_index, array_store}
use Rattle.cb_machine.specs.Standing.{Now, leaves}
use Rattle.cb_machine.specs.Throwing.{throws}
use Rattle.cb_machine.specs.Values.{content_of, kept_value, natural, value_in}
use Rattle.cb_plain.specs.State.{Content, Frame, MethodFrame, Object, Reference, State}
use Rattle.cb_plain.specs.Updates.{object_at}
use Rattle.cb_plain.specs.declared.value.Value.{Value}
use Rattle.cb_plain.specs.declared.value.Value.TheVariants as values
use Rattle.cb_shapes.specs.Sorts.{sort_of_elements}
use Rattle.cb_shapes.specs.Targets.{goes_on as falls_on}
use Rattle.cb_shapes.specs.declared.action.Action.{Action}
use Rattle.cb_shapes.specs.declared.action.Action.TheVariants as actions
use Rattle.cb_shapes.specs.declared.elements.Elements.{Elements}
use Rattle.cb_shapes.specs.declared.sort.Sort.{Sort}
use Rattle.cb_shapes.specs.declared.sort.Sort.TheVariants as sorts
use Rattle.cb_verify.specs.declared.verification_type.VerificationType.{VerificationType}
use Rattle.cb_verify.specs.declared.verification_type.VerificationType.TheVariants as types
use Rattle.cb_verify.specs.Calls.{put_on}
use Rattle.cb_verify.specs.Frames as verified
use Rattle.cb_verify.specs.Members.{are_any, are_numbers, are_references, element_type, is_array_of}
use Rattle.cb_verify.specs.Rules.{given, only_if, taken}
use Rattle.cb_verify.specs.Types.{is_initialised, is_of, number_type, type_of}
use Rattle.cb_verify.specs.Within.{Within}
use Rattle.cb_safety.specs.Advancing.{HoldsThrough}
use Rattle.cb_safety.specs.Heap.{Holds, IsObject}
use Rattle.cb_safety.specs.Held.{HasContent, HasType, HaveTypes, IsStack}
use Rattle.cb_safety.specs.Kinds.{IsKnown, Kinds, Refers, holds_kind, kind_in, kinds_of}
use Rattle.cb_safety.specs.Naming.{Components, HasElements, HoldsElements}
use Rattle.cb_safety.specs.Throwing.{AreThrown}
use Rattle.cb_safety.proofs.Asking.{is_at, null_next, object_next, sets_next, throws_next}
use Rattle.cb_safety.proofs.Assigned.{never, typed_is_known}
use Rattle.cb_safety.proofs.Contents.{kept_typed}
use Rattle.cb_safety.proofs.Elements.{AnArray, IsNumber, IsReference, Suiting, array_is, component_there, element_read, int_is, is_place, length_fits, may_hold_element, number_is, number_typed, reference_is}
use Rattle.cb_safety.proofs.Going.{Planned, Stage, lays_next, now_at, planned_by}
use Rattle.cb_safety.proofs.Holding.{instance_goes}
use Rattle.cb_safety.proofs.Taken.{Taken, basic_sized, taken_sorted, taken_typed}
use Rattle.cb_safety.proofs.Throwing.{kind_low}

-- ---- what is given

pub only : {Item : Type 0} (test : Bool) (item other : Item) → only_if test item ≡ Some other → (test ≡ true) × (item ≡ other)
only true item other is = (refl, same_Some item other is)
only false item other is = never is

-- an array of references, by what is loaded from it
abbrev loaded : Option Basic → Option VerificationType
loaded (Some (basics.Reference kind)) = Some (types.Object kind)
loaded other = None

abbrev GivesType : VerificationType → Basic → Type 0
GivesType type basic = type_of basic ≡ type

loaded_is : (type : VerificationType) (found : Option Basic) → loaded found ≡ Some type → Suiting (GivesType type) found
loaded_is type (Some (basics.Reference kind)) is = same_Some (types.Object kind) type is
loaded_is type other is = never is

references_is : (method : Within) (kinds : Kinds) (type array : VerificationType) (value : Value) → element_type method.program array ≡ Some type → HasType method kinds array value
    → AnArray method.program kinds (GivesType type) value
references_is method kinds type array value is HasType.ItsNull = AnArray.NoArray
references_is method kinds type array value is (HasType.AReference kind serial refers) =
    component_there method.program kinds (GivesType type) kind serial refers (element_of method.program kind) refl (loaded_is type (element_of method.program kind) is)
references_is method kinds type array value is (HasType.Unknown own known) = never is
references_is method kinds type array value is (HasType.AnInt number fits) = never is
references_is method kinds type array value is (HasType.ALong number fits) = never is
references_is method kinds type array value is (HasType.ItsThis serial own) = never is
references_is method kinds type array value is (HasType.ANew place serial kind made there) = never is

-- a reference that is initialised
pub record Initialised (kinds : Kinds) (value : Value) : Type 0 where
  pub serial : ℕ
  pub is : value ≡ values.Ref serial
  pub known : IsKnown kinds (values.Ref serial)

pub initialised : (method : Within) (kinds : Kinds) (type : VerificationType) (value : Value) → HasType method kinds type value → is_initialised type ≡ true → Initialised kinds value
initialised method kinds type value HasType.ItsNull is = record { serial = 0; is = refl; known = IsKnown.Null }
initialised method kinds type value (HasType.AReference kind serial refers) is =
    record { serial = serial; is = refl; known = typed_is_known method kinds (types.Object kind) (values.Ref serial) (HasType.AReference kind serial refers) }
initialised method kinds type value has is = absurd (false≢true is)

-- numbers are of the same type in both arrays, and references are in both
same_number : (program : Linked) (element basic : Basic) → Components program element basic → is_reference basic ≡ false → element ≡ basic
same_number program element basic (Components.Alike own none) is = refl
same_number program element basic (Components.References kind other goes) is = absurd (cc is)

record BothReferences (program : Linked) (element : Basic) : Type 0 where
  pub kind : ℕ
  pub is : element ≡ basics.Reference kind
  pub low : kind < length program.kinds

both_references : (program : Linked) (element basic : Basic) → Components program element basic → is_reference basic ≡ true → BothReferences program element
both_references program element basic (Components.Alike own none) is = absurd (false≢true (sym none ∙ is))
both_references program element basic (Components.References kind other goes) is = record { kind = kind; is = refl; low = kind_low program kind other goes }

pub any_is : (found : Option Basic) → are_any found ≡ true → Suiting (λ (basic : Basic). Unit {0}) found
any_is None is = absurd (false≢true is)
any_is (Some basic) is = tt

references_are : (basic : Basic) → IsReference basic → is_reference basic ≡ true
references_are basic (IsReference.AReference kind) = refl

module _ (machine : Machine) (state : State) (frame : MethodFrame) (below : List Frame) (insn : Insn) (thrown : AreThrown machine.program) (arrays : HoldsElements machine.program)
    (through : HoldsThrough machine.program) where
  abbrev here : Now
  here = now_at machine state frame below

  abbrev kinds : Kinds
  kinds = kinds_of state.objects

  module _ (action : Action) (stage : Stage machine state frame below insn action) (falling : falls_on action ≡ true) where
    -- an array of the verifier's program is one of the machine's
    machine_array : (Suits : Basic → Type 0) (value : Value) → AnArray stage.method.program kinds Suits value → AnArray machine.program kinds Suits value
    machine_array Suits value is = subst (λ (program : Linked). AnArray program kinds Suits value) stage.own is

    within_next : (index : ℤ) (array : Object) (go : Option Plan) → (is_index index (length array.contents) ≡ true → Planned machine.program go) → Planned machine.program (bounded here index array go)
    within_next index array go follows = by (is_index index (length array.contents)) follows where
      by : (test : Bool) → (test ≡ true → Planned machine.program go) → Planned machine.program (if test then go else Some (throws machine state array_index))
      by true follows = follows refl
      by false follows = throws_next machine state frame below insn action stage thrown array_index (2, omega arith, refl)

    -- ---- loads

    abbrev load_value : ℤ → Object → Basic → Option Value
    load_value index array basic = option_map (value_in basic) (slice_get array.contents (natural index))

    abbrev load_in : ℤ → Object → Option Value
    load_in index array = option_and_then (load_value index array) (element_of machine.program array.kind)

    abbrev load_all : ℤ → List Value → Object → Option Plan
    load_all index rest array = option_and_then (λ (value : Value). leaves here (value ∷ rest)) (load_in index array)

    abbrev load_at : ℤ → List Value → Object → Option Plan
    load_at index rest array = bounded here index array (load_all index rest array)

    abbrev load_taken : List Value × List Value → Option Plan
    load_taken (values.Int index ∷ values.Ref array ∷ [], rest) = with_object here array (load_at index rest)
    load_taken other = None

    read_here : (element basic : Basic) (content : Content) → Components machine.program element basic → HasContent machine.program kinds element content
        → HasType stage.method kinds (type_of basic) (value_in element content)
    read_here element basic content goes has =
        element_read stage.method (subst HoldsThrough (sym stage.own) through) kinds element basic content
        (subst (λ (program : Linked). Components program element basic) (sym stage.own) goes)
        (subst (λ (program : Linked). HasContent program kinds element content) (sym stage.own) has)

    load_there : (basic : Basic) (kind : ℕ) (index : ℤ) (rest : List VerificationType) (left : List Value) (object : Object) → IsObject machine.program kinds object
        → holds_kind machine.program object.kind kind ≡ true → element_of machine.program kind ≡ Some basic
        → verified.with_stack stage.method.body.max_stack stage.types (type_of basic ∷ rest) ≡ Some stage.after → IsStack stage.method kinds rest left
        → Planned machine.program (load_at index left object)
    load_there basic kind index rest left object own goes component so is =
        within_next index object (load_all index left object) (λ low. by low (arrays object.kind kind basic goes component))
      where
        by : is_index index (length object.contents) ≡ true → HasElements machine.program object.kind basic → Planned machine.program (load_all index left object)
        by low has =
            let holds : Holds machine.program kinds object.contents (natural index) has.element = own.elements has.element (natural index) has.is (is_place index (length object.contents) low).low in
            let fits : HasType stage.method kinds (type_of basic) (value_in has.element holds.content) = read_here has.element basic holds.content has.held holds.fits in
            planned_by machine.program (load_all index left object) (leaves here (value_in has.element holds.content ∷ left))
            (ap (λ (found : Option Basic). option_and_then (λ (value : Value). leaves here (value ∷ left)) (option_and_then (load_value index object) found)) has.is
            ∙ ap (λ (found : Option Content). option_and_then (λ (value : Value). leaves here (value ∷ left)) (option_map (value_in has.element) found)) holds.there)
            (lays_next machine state frame below insn action stage falling (type_of basic ∷ rest) (value_in has.element holds.content ∷ left) so
            (IsStack.Upon (type_of basic) (value_in has.element holds.content) rest left fits (basic_sized stage.method kinds basic (value_in has.element holds.content) fits) is))

    load_from : (type : VerificationType) (index : ℤ) (array : Value) (rest : List VerificationType) (left : List Value) → AnArray machine.program kinds (GivesType type) array
        → verified.with_stack stage.method.body.max_stack stage.types (type ∷ rest) ≡ Some stage.after → IsStack stage.method kinds rest left
        → Planned machine.program (load_taken (values.Int index ∷ array ∷ [], left))
    load_from type index array rest left AnArray.NoArray so is = null_next machine state frame below insn action stage thrown (load_at index left)
    load_from type index array rest left (AnArray.Array kind serial basic component same refers) so is =
        object_next machine state frame below insn action stage thrown (load_at index left) kind serial refers
        (λ object there own goes. load_there basic kind index rest left object own goes component
        (subst (λ (type : VerificationType). verified.with_stack stage.method.body.max_stack stage.types (type ∷ rest) ≡ Some stage.after) (sym same) so) is)

    load_with : (type index array : VerificationType) (rest : List VerificationType) (held left : List Value) → HaveTypes stage.method kinds (index ∷ array ∷ []) held → is_of sorts.Int index ≡ true
        → ((value : Value) → HasType stage.method kinds array value → AnArray stage.method.program kinds (GivesType type) value)
        → verified.with_stack stage.method.body.max_stack stage.types (type ∷ rest) ≡ Some stage.after → IsStack stage.method kinds rest left
        → Planned machine.program (load_taken (held, left))
    load_with type index array rest held left (HaveTypes.And own first more others has (HaveTypes.And also second last nothing had HaveTypes.NoMore)) int suits so is =
        let number = int_is stage.method kinds index first has int in
        planned_by machine.program (load_taken (first ∷ second ∷ [], left)) (load_taken (values.Int number.0 ∷ second ∷ [], left))
        (ap (λ (first : Value). load_taken (first ∷ second ∷ [], left)) number.1)
        (load_from type number.0 second rest left (machine_array (GivesType type) second (suits second had)) so is)

    loads_next : (type index array : VerificationType) (rest : List VerificationType) → taken (sorts.Int ∷ sorts.Reference ∷ []) stage.types.stack ≡ Some (index ∷ array ∷ [], rest)
        → ((value : Value) → HasType stage.method kinds array value → AnArray stage.method.program kinds (GivesType type) value)
        → verified.with_stack stage.method.body.max_stack stage.types (type ∷ rest) ≡ Some stage.after → Planned machine.program (loads_element here)
    loads_next type index array rest so suits fits =
        let asked : List Sort = sorts.Int ∷ sorts.Reference ∷ [] in
        let own : Taken stage.method kinds asked frame.stack (index ∷ array ∷ []) rest =
        taken_typed stage.method kinds asked stage.types.stack frame.stack (index ∷ array ∷ []) rest stage.stack so in
        planned_by machine.program (loads_element here) (load_taken (own.values, own.left)) (ap (option_and_then load_taken) own.taken)
        (load_with type index array rest own.values own.left own.held
        (and_parts (is_of sorts.Int index) (pointwise is_of (sorts.Reference ∷ []) (array ∷ [])) (taken_sorted asked stage.types.stack (index ∷ array ∷ []) rest so)).0 suits fits own.below)

    -- ---- stores of numbers

    abbrev store_in : ℕ → ℤ → Value → List Value → Object → Basic → Option Plan
    store_in serial index value rest array basic = with_element here serial array (natural index) (content_of (kept_value basic value)) rest

    abbrev store_all : ℕ → ℤ → Value → List Value → Object → Option Plan
    store_all serial index value rest array = option_and_then (store_in serial index value rest array) (element_of machine.program array.kind)

    abbrev store_at : ℕ → ℤ → Value → List Value → Object → Option Plan
    store_at serial index value rest array = bounded here index array (store_all serial index value rest array)

    abbrev store_taken : List Value × List Value → Option Plan
    store_taken (value ∷ values.Int index ∷ values.Ref array ∷ [], rest) = with_object here array (store_at array index value rest)
    store_taken other = None

    store_there : (form : Elements) (basic : Basic) (kind serial : ℕ) (index : ℤ) (value : Value) (rest : List VerificationType) (left : List Value) (object : Object)
        → object_at state serial ≡ Some object → holds_kind machine.program object.kind kind ≡ true → element_of machine.program kind ≡ Some basic → IsNumber form basic
        → HasType stage.method kinds (number_type (sort_of_elements form)) value
        → verified.with_stack stage.method.body.max_stack stage.types rest ≡ Some stage.after → IsStack stage.method kinds rest left
        → Planned machine.program (store_at serial index value left object)
    store_there form basic kind serial index value rest left object there goes component number fits so is =
        within_next index object (store_all serial index value left object) (λ low. by (arrays object.kind kind basic goes component))
      where
        by : HasElements machine.program object.kind basic → Planned machine.program (store_all serial index value left object)
        by has =
            let same : type_of has.element ≡ number_type (sort_of_elements form) = ap type_of (same_number machine.program has.element basic has.held number.no_reference) ∙ number.type in
            let own : HasType stage.method kinds (type_of has.element) value = subst (λ (type : VerificationType). HasType stage.method kinds type value) (sym same) fits in
            planned_by machine.program (store_all serial index value left object) (store_in serial index value left object has.element)
            (ap (option_and_then (store_in serial index value left object)) has.is)
            (sets_next machine state frame below insn action stage falling rest left so is serial object (natural index) (content_of (kept_value has.element value)) has.element there
            (may_hold_element machine.program object.kind (natural index) basic has)
            (subst (λ (program : Linked). HasContent program kinds has.element (content_of (kept_value has.element value))) stage.own (kept_typed stage.method kinds has.element value own)))

    store_from : (form : Elements) (index : ℤ) (value array : Value) (rest : List VerificationType) (left : List Value) → AnArray machine.program kinds (IsNumber form) array
        → HasType stage.method kinds (number_type (sort_of_elements form)) value
        → verified.with_stack stage.method.body.max_stack stage.types rest ≡ Some stage.after → IsStack stage.method kinds rest left
        → Planned machine.program (store_taken (value ∷ values.Int index ∷ array ∷ [], left))
    store_from form index value array rest left AnArray.NoArray fits so is = null_next machine state frame below insn action stage thrown (store_at 0 index value left)
    store_from form index value array rest left (AnArray.Array kind serial basic component number refers) fits so is =
        object_next machine state frame below insn action stage thrown (store_at serial index value left) kind serial refers
        (λ object there own goes. store_there form basic kind serial index value rest left object there goes component number fits so is)

    store_with : (form : Elements) (type index array : VerificationType) (rest : List VerificationType) (held left : List Value) → HaveTypes stage.method kinds (type ∷ index ∷ array ∷ []) held
        → is_of (sort_of_elements form) type ≡ true → is_of sorts.Int index ≡ true → is_array_of stage.method.program (are_numbers form) array ≡ true
        → verified.with_stack stage.method.body.max_stack stage.types rest ≡ Some stage.after → IsStack stage.method kinds rest left
        → Planned machine.program (store_taken (held, left))
    store_with form type index array rest held left (HaveTypes.And own value more others has (HaveTypes.And one first two three had (HaveTypes.And also second last nothing have HaveTypes.NoMore))) sorted int suits so is =
        let number = int_is stage.method kinds index first had int in
        planned_by machine.program (store_taken (value ∷ first ∷ second ∷ [], left)) (store_taken (value ∷ values.Int number.0 ∷ second ∷ [], left))
        (ap (λ (first : Value). store_taken (value ∷ first ∷ second ∷ [], left)) number.1)
        (store_from form number.0 value second rest left
        (machine_array (IsNumber form) second (array_is stage.method kinds (IsNumber form) (are_numbers form) (number_is form) array second have suits))
        (number_typed stage.method kinds form type value has sorted) so is)

    stores_next : (form : Elements) (type index array : VerificationType) (rest : List VerificationType)
        → taken (sort_of_elements form ∷ sorts.Int ∷ sorts.Reference ∷ []) stage.types.stack ≡ Some (type ∷ index ∷ array ∷ [], rest)
        → is_array_of stage.method.program (are_numbers form) array ≡ true
        → verified.with_stack stage.method.body.max_stack stage.types rest ≡ Some stage.after → Planned machine.program (stores_element here form)
    stores_next form type index array rest so suits fits =
        let asked : List Sort = sort_of_elements form ∷ sorts.Int ∷ sorts.Reference ∷ [] in
        let own : Taken stage.method kinds asked frame.stack (type ∷ index ∷ array ∷ []) rest =
        taken_typed stage.method kinds asked stage.types.stack frame.stack (type ∷ index ∷ array ∷ []) rest stage.stack so in
        let are = and_parts (is_of (sort_of_elements form) type) (pointwise is_of (sorts.Int ∷ sorts.Reference ∷ []) (index ∷ array ∷ []))
        (taken_sorted asked stage.types.stack (type ∷ index ∷ array ∷ []) rest so) in
        planned_by machine.program (stores_element here form) (store_taken (own.values, own.left)) (ap (option_and_then store_taken) own.taken)
        (store_with form type index array rest own.values own.left own.held are.0
        (and_parts (is_of sorts.Int index) (pointwise is_of (sorts.Reference ∷ []) (array ∷ [])) are.1).0 suits fits own.below)

    -- ---- stores of references

    abbrev store_fitting : ℕ → ℤ → ℕ → List Value → Object → Bool → Option Plan
    store_fitting serial index value rest array true = with_element here serial array (natural index) (Reference value) rest
    store_fitting serial index value rest array false = Some (throws machine state array_store)

    abbrev store_reference_all : ℕ → ℤ → ℕ → List Value → Object → Option Plan
    store_reference_all serial index value rest array = store_fitting serial index value rest array (fits_element here (element_of machine.program array.kind) value)

    abbrev store_reference_at : ℕ → ℤ → ℕ → List Value → Object → Option Plan
    store_reference_at serial index value rest array = bounded here index array (store_reference_all serial index value rest array)

    abbrev store_reference_taken : List Value × List Value → Option Plan
    store_reference_taken (values.Ref value ∷ values.Int index ∷ values.Ref array ∷ [], rest) = with_object here array (store_reference_at array index value rest)
    store_reference_taken other = None

    module _ (rest : List VerificationType) (left : List Value) (so : verified.with_stack stage.method.body.max_stack stage.types rest ≡ Some stage.after) (is : IsStack stage.method kinds rest left)
        (serial : ℕ) (index : ℤ) (object : Object) (there : object_at state serial ≡ Some object) (basic : Basic) (has : HasElements machine.program object.kind basic)
        (element : ℕ) (element_is : has.element ≡ basics.Reference element) (low : element < length machine.program.kinds) where
      put_reference : (value : ℕ) → Refers machine.program kinds element value → Planned machine.program (store_fitting serial index value left object true)
      put_reference value refers =
          sets_next machine state frame below insn action stage falling rest left so is serial object (natural index) (Reference value) has.element there
          (may_hold_element machine.program object.kind (natural index) basic has)
          (subst (λ (basic : Basic). HasContent machine.program kinds basic (Reference value)) (sym element_is) (HasContent.AReference element value refers))

      put_object : (place own : ℕ) → kind_in kinds (suc place) ≡ Some own → (other : Object) → object_at state (suc place) ≡ Some other → other.kind ≡ own
          → (test : Bool) → instance machine.program other.kind element ≡ test → Planned machine.program (store_fitting serial index (suc place) left object test)
      put_object place own kind other other_there other_is true fits =
          put_reference (suc place) (Refers.To (suc place) (record {
            own = other.kind;
            there = kind ∙ ap Some (sym other_is);
            goes = instance_goes machine.program other.kind element (stage.typed.heap.each (suc place) other other_there).kind low fits;
          }))
      put_object place own kind other other_there other_is false fits = throws_next machine state frame below insn action stage thrown array_store (4, omega arith, refl)

      put_known : (value own : ℕ) → kind_in kinds value ≡ Some own → Planned machine.program (store_fitting serial index value left object (fits_element here (Some (basics.Reference element)) value))
      put_known zero own kind = never kind
      put_known (suc place) own kind =
          let at = is_at state.objects (suc place) own kind in
          planned_by machine.program (store_fitting serial index (suc place) left object (fits_kind machine.program element (object_at state (suc place))))
          (store_fitting serial index (suc place) left object (instance machine.program at.object.kind element))
          (ap (λ (found : Option Object). store_fitting serial index (suc place) left object (fits_kind machine.program element found)) at.there)
          (put_object place own kind at.object at.there at.is (instance machine.program at.object.kind element) refl)

      put_value : (value : ℕ) → IsKnown kinds (values.Ref value) → Planned machine.program (store_fitting serial index value left object (fits_element here (Some (basics.Reference element)) value))
      put_value value IsKnown.Null = put_reference 0 Refers.ToNull
      put_value value (IsKnown.AnObject own kind known) = put_known own kind known

    store_reference_there : (basic : Basic) (kind serial : ℕ) (index : ℤ) (value : ℕ) (rest : List VerificationType) (left : List Value) (object : Object)
        → object_at state serial ≡ Some object → holds_kind machine.program object.kind kind ≡ true → element_of machine.program kind ≡ Some basic → IsReference basic
        → IsKnown kinds (values.Ref value)
        → verified.with_stack stage.method.body.max_stack stage.types rest ≡ Some stage.after → IsStack stage.method kinds rest left
        → Planned machine.program (store_reference_at serial index value left object)
    store_reference_there basic kind serial index value rest left object there goes component reference known so is =
        within_next index object (store_reference_all serial index value left object) (λ low. by (arrays object.kind kind basic goes component))
      where
        by : HasElements machine.program object.kind basic → Planned machine.program (store_reference_all serial index value left object)
        by has =
            let both : BothReferences machine.program has.element = both_references machine.program has.element basic has.held (references_are basic reference) in
            planned_by machine.program (store_reference_all serial index value left object)
            (store_fitting serial index value left object (fits_element here (Some (basics.Reference both.kind)) value))
            (ap (λ (found : Option Basic). store_fitting serial index value left object (fits_element here found value)) (has.is ∙ ap Some both.is))
            (put_value rest left so is serial index object there basic has both.kind both.is both.low value known)

    store_reference_from : (index : ℤ) (value : ℕ) (array : Value) (rest : List VerificationType) (left : List Value) → AnArray machine.program kinds IsReference array
        → IsKnown kinds (values.Ref value)
        → verified.with_stack stage.method.body.max_stack stage.types rest ≡ Some stage.after → IsStack stage.method kinds rest left
        → Planned machine.program (store_reference_taken (values.Ref value ∷ values.Int index ∷ array ∷ [], left))
    store_reference_from index value array rest left AnArray.NoArray known so is = null_next machine state frame below insn action stage thrown (store_reference_at 0 index value left)
    store_reference_from index value array rest left (AnArray.Array kind serial basic component reference refers) known so is =
        object_next machine state frame below insn action stage thrown (store_reference_at serial index value left) kind serial refers
        (λ object there own goes. store_reference_there basic kind serial index value rest left object there goes component reference known so is)

    store_reference_with : (type index array : VerificationType) (rest : List VerificationType) (held left : List Value) → HaveTypes stage.method kinds (type ∷ index ∷ array ∷ []) held
        → is_initialised type ≡ true → is_of sorts.Int index ≡ true → is_array_of stage.method.program are_references array ≡ true
        → verified.with_stack stage.method.body.max_stack stage.types rest ≡ Some stage.after → IsStack stage.method kinds rest left
        → Planned machine.program (store_reference_taken (held, left))
    store_reference_with type index array rest held left (HaveTypes.And own value more others has (HaveTypes.And one first two three had (HaveTypes.And also second last nothing have HaveTypes.NoMore))) ready int suits so is =
        let number = int_is stage.method kinds index first had int in
        let stored : Initialised kinds value = initialised stage.method kinds type value has ready in
        planned_by machine.program (store_reference_taken (value ∷ first ∷ second ∷ [], left)) (store_reference_taken (values.Ref stored.serial ∷ values.Int number.0 ∷ second ∷ [], left))
        (ap (λ (first : Value). store_reference_taken (value ∷ first ∷ second ∷ [], left)) number.1
        ∙ ap (λ (value : Value). store_reference_taken (value ∷ values.Int number.0 ∷ second ∷ [], left)) stored.is)
        (store_reference_from number.0 stored.serial second rest left
        (machine_array IsReference second (array_is stage.method kinds IsReference are_references reference_is array second have suits)) stored.known so is)

    stores_reference_next : (type index array : VerificationType) (rest : List VerificationType)
        → taken (sorts.Reference ∷ sorts.Int ∷ sorts.Reference ∷ []) stage.types.stack ≡ Some (type ∷ index ∷ array ∷ [], rest)
        → is_initialised type ≡ true → is_array_of stage.method.program are_references array ≡ true
        → verified.with_stack stage.method.body.max_stack stage.types rest ≡ Some stage.after → Planned machine.program (stores_reference here)
    stores_reference_next type index array rest so ready suits fits =
        let asked : List Sort = sorts.Reference ∷ sorts.Int ∷ sorts.Reference ∷ [] in
        let own : Taken stage.method kinds asked frame.stack (type ∷ index ∷ array ∷ []) rest =
        taken_typed stage.method kinds asked stage.types.stack frame.stack (type ∷ index ∷ array ∷ []) rest stage.stack so in
        let are = and_parts (is_of sorts.Reference type) (pointwise is_of (sorts.Int ∷ sorts.Reference ∷ []) (index ∷ array ∷ []))
        (taken_sorted asked stage.types.stack (type ∷ index ∷ array ∷ []) rest so) in
        planned_by machine.program (stores_reference here) (store_reference_taken (own.values, own.left)) (ap (option_and_then store_reference_taken) own.taken)
        (store_reference_with type index array rest own.values own.left own.held ready
        (and_parts (is_of sorts.Int index) (pointwise is_of (sorts.Reference ∷ []) (array ∷ [])) are.1).0 suits fits own.below)

    -- ---- arraylength

    abbrev measure : List Value → Object → Option Plan
    measure rest object = leaves here (values.Int (pos (length object.contents)) ∷ rest)

    abbrev measure_taken : List Value × List Value → Option Plan
    measure_taken (values.Ref array ∷ [], rest) = with_object here array (measure rest)
    measure_taken other = None

    measure_there : (basic : Basic) (kind : ℕ) (rest : List VerificationType) (left : List Value) (object : Object) → IsObject machine.program kinds object
        → holds_kind machine.program object.kind kind ≡ true → element_of machine.program kind ≡ Some basic
        → verified.with_stack stage.method.body.max_stack stage.types (types.Int ∷ rest) ≡ Some stage.after → IsStack stage.method kinds rest left
        → Planned machine.program (measure left object)
    measure_there basic kind rest left object own goes component so is =
        let has : HasElements machine.program object.kind basic = arrays object.kind kind basic goes component in
        lays_next machine state frame below insn action stage falling (types.Int ∷ rest) (values.Int (pos (length object.contents)) ∷ left) so
        (IsStack.Upon types.Int (values.Int (pos (length object.contents))) rest left
        (HasType.AnInt (pos (length object.contents)) (length_fits (length object.contents) (own.few has.element has.is))) refl is)

    measure_from : (array : Value) (rest : List VerificationType) (left : List Value) → AnArray machine.program kinds (λ (basic : Basic). Unit {0}) array
        → verified.with_stack stage.method.body.max_stack stage.types (types.Int ∷ rest) ≡ Some stage.after → IsStack stage.method kinds rest left
        → Planned machine.program (measure_taken (array ∷ [], left))
    measure_from array rest left AnArray.NoArray so is = null_next machine state frame below insn action stage thrown (measure left)
    measure_from array rest left (AnArray.Array kind serial basic component any refers) so is =
        object_next machine state frame below insn action stage thrown (measure left) kind serial refers
        (λ object there own goes. measure_there basic kind rest left object own goes component so is)

    measure_with : (array : VerificationType) (rest : List VerificationType) (held left : List Value) → HaveTypes stage.method kinds (array ∷ []) held
        → is_array_of stage.method.program are_any array ≡ true
        → verified.with_stack stage.method.body.max_stack stage.types (types.Int ∷ rest) ≡ Some stage.after → IsStack stage.method kinds rest left
        → Planned machine.program (measure_taken (held, left))
    measure_with array rest held left (HaveTypes.And own value more others has HaveTypes.NoMore) suits so is =
        measure_from value rest left
        (machine_array (λ (basic : Basic). Unit {0}) value (array_is stage.method kinds (λ (basic : Basic). Unit {0}) are_any any_is array value has suits)) so is

    measures_next : (array : VerificationType) (rest : List VerificationType) → taken (sorts.Reference ∷ []) stage.types.stack ≡ Some (array ∷ [], rest)
        → is_array_of stage.method.program are_any array ≡ true
        → verified.with_stack stage.method.body.max_stack stage.types (types.Int ∷ rest) ≡ Some stage.after → Planned machine.program (measures here)
    measures_next array rest so suits fits =
        let own : Taken stage.method kinds (sorts.Reference ∷ []) frame.stack (array ∷ []) rest =
        taken_typed stage.method kinds (sorts.Reference ∷ []) stage.types.stack frame.stack (array ∷ []) rest stage.stack so in
        planned_by machine.program (measures here) (measure_taken (own.values, own.left)) (ap (option_and_then measure_taken) own.taken)
        (measure_with array rest own.values own.left own.held suits fits own.below)

  -- ---- by the rules of the verifier

  abbrev leaving_with : Within → verified.Frame → Action → List VerificationType × List VerificationType → Option verified.Frame
  leaving_with method frame_types action off = option_and_then (λ (type : Option VerificationType). put_on method frame_types (listed type) off.1) (given method frame.pc action off.0)

  pub load_number_advances : (form : Elements) → Stage machine state frame below insn (actions.LoadNumber form) → Planned machine.program (loads_element here)
  load_number_advances form stage =
      option_and_then_some (leaving_with stage.method stage.types (actions.LoadNumber form)) (taken (sorts.Int ∷ sorts.Reference ∷ []) stage.types.stack) stage.after stage.leaves
      (λ off so fits. by off.0 off.1 so fits)
    where
      by : (held rest : List VerificationType) → taken (sorts.Int ∷ sorts.Reference ∷ []) stage.types.stack ≡ Some (held, rest)
          → leaving_with stage.method stage.types (actions.LoadNumber form) (held, rest) ≡ Some stage.after → Planned machine.program (loads_element here)
      by [] rest so fits = never fits
      by (one ∷ []) rest so fits = never fits
      by (index ∷ array ∷ []) rest so fits =
          option_and_then_some (λ (type : Option VerificationType). put_on stage.method stage.types (listed type) rest)
          (only_if (is_array_of stage.method.program (are_numbers form) array) (Some (number_type (sort_of_elements form)))) stage.after fits
          (λ type gives leaves.
          let both = only (is_array_of stage.method.program (are_numbers form) array) (Some (number_type (sort_of_elements form))) type gives in
          loads_next (actions.LoadNumber form) stage refl (number_type (sort_of_elements form)) index array rest so
          (λ value has. suited value (array_is stage.method kinds (IsNumber form) (are_numbers form) (number_is form) array value has both.0))
          (subst (λ (type : Option VerificationType). put_on stage.method stage.types (listed type) rest ≡ Some stage.after) (sym both.1) leaves))
        where
          suited : (value : Value) → AnArray stage.method.program kinds (IsNumber form) value → AnArray stage.method.program kinds (GivesType (number_type (sort_of_elements form))) value
          suited value AnArray.NoArray = AnArray.NoArray
          suited value (AnArray.Array kind serial basic component number refers) = AnArray.Array kind serial basic component number.type refers
      by (one ∷ two ∷ three ∷ more) rest so fits = never fits

  pub load_reference_advances : Stage machine state frame below insn actions.LoadReference → Planned machine.program (loads_element here)
  load_reference_advances stage =
      option_and_then_some (leaving_with stage.method stage.types actions.LoadReference) (taken (sorts.Int ∷ sorts.Reference ∷ []) stage.types.stack) stage.after stage.leaves
      (λ off so fits. by off.0 off.1 so fits)
    where
      by : (held rest : List VerificationType) → taken (sorts.Int ∷ sorts.Reference ∷ []) stage.types.stack ≡ Some (held, rest)
          → leaving_with stage.method stage.types actions.LoadReference (held, rest) ≡ Some stage.after → Planned machine.program (loads_element here)
      by [] rest so fits = never fits
      by (one ∷ []) rest so fits = never fits
      by (index ∷ array ∷ []) rest so fits = go (element_type stage.method.program array) refl fits where
        go : (found : Option VerificationType) → element_type stage.method.program array ≡ found
            → option_and_then (λ (type : Option VerificationType). put_on stage.method stage.types (listed type) rest) (option_map Some found) ≡ Some stage.after
            → Planned machine.program (loads_element here)
        go None is fits = never fits
        go (Some type) is fits = loads_next actions.LoadReference stage refl type index array rest so (λ value has. references_is stage.method kinds type array value is has) fits
      by (one ∷ two ∷ three ∷ more) rest so fits = never fits

  pub store_number_advances : (form : Elements) → Stage machine state frame below insn (actions.StoreNumber form) → Planned machine.program (stores_element here form)
  store_number_advances form stage =
      option_and_then_some (leaving_with stage.method stage.types (actions.StoreNumber form)) (taken (sort_of_elements form ∷ sorts.Int ∷ sorts.Reference ∷ []) stage.types.stack) stage.after stage.leaves
      (λ off so fits. by off.0 off.1 so fits)
    where
      by : (held rest : List VerificationType) → taken (sort_of_elements form ∷ sorts.Int ∷ sorts.Reference ∷ []) stage.types.stack ≡ Some (held, rest)
          → leaving_with stage.method stage.types (actions.StoreNumber form) (held, rest) ≡ Some stage.after → Planned machine.program (stores_element here form)
      by [] rest so fits = never fits
      by (one ∷ []) rest so fits = never fits
      by (one ∷ two ∷ []) rest so fits = never fits
      by (type ∷ index ∷ array ∷ []) rest so fits =
          option_and_then_some (λ (type : Option VerificationType). put_on stage.method stage.types (listed type) rest)
          (only_if (is_array_of stage.method.program (are_numbers form) array) None) stage.after fits
          (λ own gives leaves.
          let both = only (is_array_of stage.method.program (are_numbers form) array) None own gives in
          stores_next (actions.StoreNumber form) stage refl form type index array rest so both.0
          (subst (λ (type : Option VerificationType). put_on stage.method stage.types (listed type) rest ≡ Some stage.after) (sym both.1) leaves))
      by (one ∷ two ∷ three ∷ four ∷ more) rest so fits = never fits

  pub store_reference_advances : Stage machine state frame below insn actions.StoreReference → Planned machine.program (stores_reference here)
  store_reference_advances stage =
      option_and_then_some (leaving_with stage.method stage.types actions.StoreReference) (taken (sorts.Reference ∷ sorts.Int ∷ sorts.Reference ∷ []) stage.types.stack) stage.after stage.leaves
      (λ off so fits. by off.0 off.1 so fits)
    where
      by : (held rest : List VerificationType) → taken (sorts.Reference ∷ sorts.Int ∷ sorts.Reference ∷ []) stage.types.stack ≡ Some (held, rest)
          → leaving_with stage.method stage.types actions.StoreReference (held, rest) ≡ Some stage.after → Planned machine.program (stores_reference here)
      by [] rest so fits = never fits
      by (one ∷ []) rest so fits = never fits
      by (one ∷ two ∷ []) rest so fits = never fits
      by (type ∷ index ∷ array ∷ []) rest so fits =
          option_and_then_some (λ (type : Option VerificationType). put_on stage.method stage.types (listed type) rest)
          (only_if (is_initialised type && is_array_of stage.method.program are_references array) None) stage.after fits
          (λ own gives leaves.
          let both = only (is_initialised type && is_array_of stage.method.program are_references array) None own gives in
          let parts = and_parts (is_initialised type) (is_array_of stage.method.program are_references array) both.0 in
          stores_reference_next actions.StoreReference stage refl type index array rest so parts.0 parts.1
          (subst (λ (type : Option VerificationType). put_on stage.method stage.types (listed type) rest ≡ Some stage.after) (sym both.1) leaves))
      by (one ∷ two ∷ three ∷ four ∷ more) rest so fits = never fits

  pub length_advances : Stage machine state frame below insn actions.Length → Planned machine.program (measures here)
  length_advances stage =
      option_and_then_some (leaving_with stage.method stage.types actions.Length) (taken (sorts.Reference ∷ []) stage.types.stack) stage.after stage.leaves
      (λ off so fits. by off.0 off.1 so fits)
    where
      by : (held rest : List VerificationType) → taken (sorts.Reference ∷ []) stage.types.stack ≡ Some (held, rest)
          → leaving_with stage.method stage.types actions.Length (held, rest) ≡ Some stage.after → Planned machine.program (measures here)
      by [] rest so fits = never fits
      by (array ∷ []) rest so fits =
          option_and_then_some (λ (type : Option VerificationType). put_on stage.method stage.types (listed type) rest)
          (only_if (is_array_of stage.method.program are_any array) (Some types.Int)) stage.after fits
          (λ type gives leaves.
          let both = only (is_array_of stage.method.program are_any array) (Some types.Int) type gives in
          measures_next actions.Length stage refl array rest so both.0
          (subst (λ (type : Option VerificationType). put_on stage.method stage.types (listed type) rest ≡ Some stage.after) (sym both.1) leaves))
      by (one ∷ two ∷ more) rest so fits = never fits
