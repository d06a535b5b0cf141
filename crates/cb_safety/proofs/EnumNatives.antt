-- The native that finds a constant of an enum: a typed state advances where it is called.
use Rattle.std.proofs.Common.{◌≡◌, ap, arith, refl, sym, subst, ℕ, ℤ, suc, pos, ◌<◌, get_or, Bool, true, false, List, [], ◌∷◌, ◌++◌, length, map, Option, Some, None, option_and_then, option_map, slice_get, if◌then◌else◌}
use Rattle.std.specs.List.{Contains, find}
use Rattle.std.proofs.lemmas.List.{length-map}
use Rattle.std.proofs.lemmas.List.Quantifiers.{position-Some}
use Rattle.std.proofs.lemmas.Option.{option_and_then_some, same_Some, slice_get-get_or}
use Rattle.cb_kinds.specs.Texts.{same_text}
use Rattle.cb_kinds.specs.declared.basic.Basic.{Basic}
use Rattle.cb_kinds.specs.declared.basic.Basic.TheVariants as basics
use Rattle.cb_library.specs.declared.native.Native.{Native}
use Rattle.cb_library.specs.declared.native.Native.TheVariants as natives
use Rattle.cb_link.specs.Calls.{class_of_kind}
use Rattle.cb_link.specs.Numbers.{class_number, name_of}
use Rattle.cb_link.specs.Program.{Linked}
use Rattle.cb_link.specs.Slots.{enum_statics}
use Rattle.cb_machine.specs.Enums.{constant_named}
use Rattle.cb_machine.specs.Initialising.{begun_upon}
use Rattle.cb_machine.specs.Machine.{Machine}
use Rattle.cb_machine.specs.Natives.{performed}
use Rattle.cb_machine.specs.Performing.{Call, Performed, Stops, gives, number_at, on_text, stops, value_slot}
use Rattle.cb_machine.specs.Plans.{Plan}
use Rattle.cb_machine.specs.Sites.{illegal_argument, no_class_definition}
use Rattle.cb_machine.specs.Throwing.{throws}
use Rattle.cb_plain.specs.State.{Frame, MethodFrame, Object, OfMethod, State}
use Rattle.cb_plain.specs.declared.class_state.ClassState.{ClassState}
use Rattle.cb_plain.specs.declared.class_state.ClassState.TheVariants.{Busy, Done, Failed, Untouched}
use Rattle.cb_plain.specs.declared.value.Value.{Value}
use Rattle.cb_plain.specs.declared.value.Value.TheVariants as values
use Rattle.cb_verify.specs.Typed.{IsTyped}
use Rattle.cb_verify.specs.Within.{kind_of_class, kind_of_string}
use Rattle.cb_safety.specs.Advancing.{Advances, HoldsOn, IsSpelled}
use Rattle.cb_safety.specs.Held.{HasBasic}
use Rattle.cb_safety.specs.Kinds.{Kinds, Refers, holds_kind, kinds_of}
use Rattle.cb_safety.specs.Natives.{CallsNative}
use Rattle.cb_safety.specs.Performing.{HasNatives}
use Rattle.cb_safety.specs.Ready.{BeginsTyped}
use Rattle.cb_safety.specs.Signatures.{enum, gives_of, takes_of}
use Rattle.cb_safety.specs.States.{IsTypedState}
use Rattle.cb_safety.proofs.ArrayNatives.{reference_through}
use Rattle.cb_safety.proofs.Assigned.{never}
use Rattle.cb_safety.proofs.Extended.{refers_more}
use Rattle.cb_safety.proofs.Natively.{gives_typed, object_answer, stops_typed, text_typed}
use Rattle.cb_safety.proofs.Performed.{AreGiven, IsPerformed, given_advances}
use Rattle.cb_safety.proofs.SettingFields.{on_own}
use Rattle.cb_safety.proofs.Throwing.{throws_typed}

-- ---- what is found stands in a list

found_among : {Item : Type 0} (test : Item → Bool) (items : List Item) (item : Item) → find test items ≡ Some item → Contains items item
found_among test [] item is = never is
found_among {Item} test (first ∷ items) item is = go (test first) is (found_among test items item) where
  go : (passes : Bool) → (if passes then Some first else find test items) ≡ Some item → (find test items ≡ Some item → Contains items item) → Contains (first ∷ items) item
  go true is later = (0, omega arith, same_Some first item is)
  go false is later = let (place, low, there) = later is in (suc place, omega (arith, low), there)

-- ---- the class of a kind is one of the program's

class_low : (program : Linked) (kind class : ℕ) → class_of_kind program kind ≡ Some class → class < length program.classes
class_low program kind class is =
    option_and_then_some (class_number program.classes) (slice_get program.kinds kind) class is
    (λ name there numbered.
    let low = (position-Some (same_text name) (map name_of program.classes) class [] numbered).0 in
    omega (arith, low, length-map program.classes name_of))

module _ (machine : Machine) (state : State) (has : HasNatives machine.program) (typed : IsTypedState machine.program state) (runs : state.roots.pending ≡ 0) (begins : BeginsTyped machine state) where
  abbrev call : Call
  call = record { machine = machine; state = state }

  abbrev own_kinds : Kinds
  own_kinds = kinds_of state.objects

  abbrev Constant : Option Basic
  Constant = Some (basics.Reference enum)

  abbrev Is : Option Performed → Type 0
  Is found = IsPerformed machine.program own_kinds Constant found

  unknown : Is (stops call illegal_argument)
  unknown = stops_typed machine state has typed runs Constant illegal_argument (7, omega arith, refl)

  -- its value
  value_given : (kind : ℕ) (value : Value) → holds_kind machine.program kind enum ≡ true → HasBasic machine.program own_kinds (basics.Reference kind) value → Is (gives call (value ∷ []))
  value_given kind value goes (HasBasic.AReference own serial refers) =
      gives_typed machine state has typed runs Constant (values.Ref serial ∷ [])
      (object_answer machine.program (own_kinds ++ []) enum serial
      (refers_more machine.program own_kinds [] enum serial (reference_through machine.program own_kinds kind enum serial has.core.through goes refers)))
  value_given kind value goes (HasBasic.AnInt own number is fits kept) = absurd (cc is)

  abbrev gives_static : Option ℕ → Option Performed
  gives_static None = stops call illegal_argument
  gives_static (Some slot) = option_and_then (λ value. gives call (value ∷ [])) (slice_get state.roots.statics slot)

  static_given : (class : ℕ) (units : List ℕ) → Is (gives_static (constant_named machine.program class units))
  static_given class units = go (constant_named machine.program class units) refl where
    go : (found : Option ℕ) → constant_named machine.program class units ≡ found → Is (gives_static found)
    go None is = unknown
    go (Some slot) is =
        let constant = has.constants class slot (found_among _ (enum_statics machine.program.classes class) slot is) in
        let static = typed.roots.statics.each slot (basics.Reference constant.kind) constant.declared in
        subst Is (sym (ap (option_and_then (λ (value : Value). gives call (value ∷ []))) static.there)) (value_given constant.kind static.value constant.goes static.fits)

  -- once its class is ready
  abbrev by_state : ℕ → ClassState → Option Plan
  by_state class Untouched = Some (begun_upon machine state state.roots.frames class)
  by_state class Failed = Some (throws machine state no_class_definition)
  by_state class Busy = None
  by_state class Done = None

  abbrev once : Option Performed → Option Performed → ClassState → Option Performed
  once ready other Busy = ready
  once ready other Done = ready
  once ready other now = other

  abbrev when_ready : ℕ → Option Performed → Option ClassState → Option Performed
  when_ready class ready found = option_and_then (once ready (option_map Stops (option_and_then (by_state class) found))) found

  ready_typed : (class : ℕ) (ready : Option Performed) → class < length machine.program.classes → Is ready → Is (when_ready class ready (slice_get state.roots.classes class))
  ready_typed class ready low is =
      let many : length state.roots.classes ≡ length machine.program.classes = typed.roots.classes in
      subst (λ (found : Option ClassState). Is (when_ready class ready found)) (sym (slice_get-get_or state.roots.classes class Untouched (omega (arith, low, many))))
      (by (get_or state.roots.classes class Untouched))
    where
      by : (now : ClassState) → Is (when_ready class ready (Some now))
      by Untouched = IsPerformed.Stopped (begun_upon machine state state.roots.frames class) (begins class low)
      by Failed = IsPerformed.Stopped (throws machine state no_class_definition) (throws_typed machine state no_class_definition typed (has.thrown no_class_definition (10, omega arith, refl)))
      by Busy = is
      by Done = is

  abbrev of_class : ℕ → Option ℕ → Option Performed
  of_class name None = on_text call name (λ units. stops call illegal_argument)
  of_class name (Some class) = when_ready class (on_text call name (λ units. gives_static (constant_named machine.program class units))) (slice_get state.roots.classes class)

  class_typed : (name : ℕ) (found : Option ℕ) → ((class : ℕ) → found ≡ Some class → class < length machine.program.classes) → Refers machine.program own_kinds kind_of_string name
      → Is (of_class name found)
  class_typed name None low refers = text_typed machine state has typed runs Constant name (λ units. stops call illegal_argument) refers (λ units text. unknown)
  class_typed name (Some class) low refers =
      ready_typed class (on_text call name (λ units. gives_static (constant_named machine.program class units))) (low class refl)
      (text_typed machine state has typed runs Constant name (λ units. gives_static (constant_named machine.program class units)) refers (λ units text. static_given class units))

  abbrev kind_of_number : ℤ → Option ℕ
  kind_of_number (pos kind) = Some kind
  kind_of_number other = None

  abbrev of_object : ℕ → Object → Option Performed
  of_object name class = of_class name (option_and_then (class_of_kind machine.program) (option_and_then kind_of_number (number_at class value_slot)))

  object_typed : (name : ℕ) (class : Object) → Refers machine.program own_kinds kind_of_string name → Is (of_object name class)
  object_typed name class refers =
      class_typed name (option_and_then (class_of_kind machine.program) (option_and_then kind_of_number (number_at class value_slot)))
      (λ number is. option_and_then_some (class_of_kind machine.program) (option_and_then kind_of_number (number_at class value_slot)) number is
      (λ kind there classed. class_low machine.program kind number classed)) refers

  constant_performed : (native : Native) (held : List Value) → AreGiven machine.program own_kinds (takes_of machine.program native) held
      → native ≡ natives.EnumValueOf → IsPerformed machine.program own_kinds (gives_of machine.program native) (performed machine state native held)
  constant_performed natives.EnumValueOf _ (AreGiven.AnObject _ class _ _ refers (AreGiven.AnObject _ name _ _ given AreGiven.Nothing)) same =
      on_own machine state has typed runs Constant kind_of_class class (λ serial object. of_object name object) refers
      (λ place object same there. object_typed name object given)
  constant_performed other held given same = absurd (cc same)

pub constants_advance : (machine : Machine) (state : State) (frame : MethodFrame) (below : List Frame) → HasNatives machine.program → IsTyped machine.program → IsSpelled machine.program
    → HoldsOn machine.program → IsTypedState machine.program state → state.roots.pending ≡ 0 → state.roots.frames ≡ OfMethod frame ∷ below
    → (calls : CallsNative machine state frame below) → BeginsTyped machine state → calls.native ≡ natives.EnumValueOf
    → Advances machine state
constants_advance machine state frame below has fits spelled holds typed runs frames calls begins same =
    given_advances machine state frame below has fits spelled holds typed runs frames calls
    (λ given. constant_performed machine state has typed runs begins calls.native calls.arguments given same)
