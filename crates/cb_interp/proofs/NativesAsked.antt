-- What instructions ask for: a class that begins to be initialised is there, a constant is loaded by an instruction that names a text or a
-- kind, the target of a switch is asked for by a switch, and a native is performed where a call runs its method.
use Rattle.std.proofs.Common.{◌≡◌, ◌∙◌, ap, refl, sym, subst, ℕ, zero, suc, ◌+◌, ◌<◌, Bool, true, false, List, [], ◌∷◌, ◌++◌, length, replicate, reverse, Option, Some, None}
use Rattle.std.proofs.lemmas.Option.{slice_get_within}
use Rattle.std.specs.List.{list_all}
use Rattle.std.specs.Prelude.{if◌then◌else◌, option_and_then, option_map, slice_get}
use Rattle.cb_classfile.specs.declared.body.Body.{Body}
use Rattle.cb_frames.specs.Tops.{entered, pushed, top_stack}
use Rattle.cb_heap.specs.Reading.{View, seen}
use Rattle.cb_hierarchy.specs.declared.selected.Selected.{Selected}
use Rattle.cb_hierarchy.specs.declared.selected.Selected.TheVariants as chosen
use Rattle.cb_kinds.specs.declared.basic.Basic.{Basic}
use Rattle.cb_library.specs.declared.native.Native.{Native}
use Rattle.cb_link.specs.Calls.{class_of_kind, select}
use Rattle.cb_link.specs.Program.{Linked}
use Rattle.cb_link.specs.Slots.{field_basic, static_basic}
use Rattle.cb_link.specs.declared.decoded.Decoded.{Decoded}
use Rattle.cb_link.specs.declared.named.Named.{Named}
use Rattle.cb_link.specs.declared.named.Named.TheVariants as meanings
use Rattle.cb_machine.specs.Calling.{asked_sorts, implementing, is_private_method}
use Rattle.cb_machine.specs.Creating.{is_size}
use Rattle.cb_machine.specs.Machine.{class_declaring, method_numbered, or_zero}
use Rattle.cb_machine.specs.Natives.{native_of}
use Rattle.cb_machine.specs.Sites.{incompatible_class_change}
use Rattle.cb_machine.specs.Standing.{taken}
use Rattle.cb_plain.specs.Depth.{has_room}
use Rattle.cb_plain.specs.State.{Object, Roots}
use Rattle.cb_plain.specs.Updates.{object_in}
use Rattle.cb_plain.specs.declared.class_state.ClassState.{ClassState}
use Rattle.cb_plain.specs.declared.class_state.ClassState.TheVariants.{Busy, Done, Failed, Untouched}
use Rattle.cb_plain.specs.declared.value.Value.{Value}
use Rattle.cb_plain.specs.declared.value.Value.TheVariants.{Ref}
use Rattle.cb_safety.specs.States.{IsTypedState}
use Rattle.cb_shapes.specs.Sorts.{sort_of_elements}
use Rattle.cb_shapes.specs.declared.action.Action.{Action}
use Rattle.cb_shapes.specs.declared.action.Action.TheVariants as actions
use Rattle.cb_shapes.specs.declared.sort.Sort.TheVariants as sorts
use Rattle.cb_act.specs.Acting.{Asks, Deed, Does, acted, acted_as, arrays_deed, basic_on, call_deed, constant_deed, enter_deed, fits_on, frame_deed, going_on, holder_kind, implementing_deed, interface_called, interface_deed, need_of, of_frame, of_left, of_pended, on_field, on_kind, on_method, on_static, or_need, receiver_deed, roots_left, running, sized, static_deed, when_ready, with_roots}
use Rattle.cb_act.specs.Classes.{behind_cast, behind_instance, behind_throw}
use Rattle.cb_act.specs.Framing.{ByZero, FrameLeft, Leaves, frame_left}
use Rattle.cb_act.specs.Going.{behind_get_static, behind_put_static, behind_return}
use Rattle.cb_interp.specs.Loading.{loads_by}
use Rattle.cb_act.specs.Objects.{Goes, Left, Throws, behind_get_field, behind_length, behind_load_element, behind_put_field, behind_store_element, behind_store_reference}
use Rattle.cb_act.specs.Turning.{Outside, state_of}
use Rattle.cb_act.specs.declared.need.Need.{Need}
use Rattle.cb_act.specs.declared.need.Need.TheVariants as needs

-- ---- options

abbrev Each : {X : Type 0} → (X → Type 0) → Option X → Type 0
Each P None = Unit {0}
Each P (Some item) = P item

then_each : {X Y : Type 0} (P : Y → Type 0) (f : X → Option Y) → ((item : X) → Each P (f item)) → (found : Option X) → Each P (option_and_then f found)
then_each P f each None = tt
then_each P f each (Some item) = each item

map_each : {X Y : Type 0} (P : Y → Type 0) (f : X → Y) → ((item : X) → P (f item)) → (found : Option X) → Each P (option_map f found)
map_each P f each None = tt
map_each P f each (Some item) = each item

choice : {X : Type 0} (P : X → Type 0) (is : Bool) (one other : X) → P one → P other → P (if is then one else other)
choice P true one other first second = first
choice P false one other first second = second

-- ---- what any instruction may ask for

abbrev without_body : ℕ → Option Native → Deed
without_body method None = Asks (needs.Throws 26)
without_body method (Some native) = Asks (needs.Performs method)

abbrev by_body : Linked → ℕ → View → (method count : ℕ) → Option Body → Deed
by_body program limit view method count None = without_body method (native_of program method)
by_body program limit view method count (Some body) = enter_deed limit view method count body

abbrev on_receiver : View → ℕ → (Object → Option Deed) → Option Deed
on_receiver view zero go = Some (Asks (needs.Throws 16))
on_receiver view (suc place) go = option_and_then go (object_in view.objects (suc place))

abbrev received : Linked → ℕ → View → (ℕ → Selected) → (count : ℕ) → List Value → Option Deed
received program limit view choose count (Ref serial ∷ arguments) = on_receiver view serial (λ object. call_deed program limit view count (choose object.kind))
received program limit view choose count other = None

module _ (P : Need → Type 0) (throws : (site : ℕ) → P (needs.Throws site)) (zeroes : P needs.ByZero) (makes : P needs.Makes) where
  abbrev So : Deed → Type 0
  So (Does view) = Unit {0}
  So (Asks need) = P need

  left_so : (pc : ℕ) (left : Left) → So (of_left pc left)
  left_so pc (Goes view) = tt
  left_so pc (Throws site) = throws site

  going : (decoded : Decoded) (left : Option Left) → Each So (going_on decoded left)
  going decoded left = then_each So (λ pc. option_map (of_left pc) left) (λ pc. map_each So (of_left pc) (left_so pc) left) decoded.next

  pended_so : (left : Left) → So (of_pended left)
  pended_so (Goes view) = tt
  pended_so (Throws site) = throws site

  framed : (view : View) (left : FrameLeft) → So (of_frame view left)
  framed view (Leaves roots) = tt
  framed view ByZero = zeroes

  ready_so : (view : View) (class : ℕ) (ready : Option Deed) → Each So ready → (slice_get view.roots.classes class ≡ Some Untouched → P (needs.Begins class))
      → Each So (when_ready view class ready)
  ready_so view class ready is begins = go (slice_get view.roots.classes class) refl where
    go : (found : Option ClassState) → slice_get view.roots.classes class ≡ found → Each So (option_and_then (λ state. or_need ready (need_of class state)) found)
    go None at = tt
    go (Some Untouched) at = begins at
    go (Some Failed) at = throws 24
    go (Some Busy) at = is
    go (Some Done) at = is

  on_field_so : (program : Linked) (go : ℕ → Basic → Option Deed) → ((slot : ℕ) (basic : Basic) → Each So (go slot basic)) → (named : Named) → Each So (on_field program go named)
  on_field_so program go each (meanings.Field class slot) = then_each So (go slot) (each slot) (field_basic program class slot)
  on_field_so program go each other = tt

  on_kind_so : (go : ℕ → Option Deed) → ((kind : ℕ) → Each So (go kind)) → (named : Named) → Each So (on_kind go named)
  on_kind_so go each (meanings.Kind kind) = each kind
  on_kind_so go each other = tt

  on_static_so : (go : ℕ → ℕ → Option Deed) → ((class slot : ℕ) → Each So (go class slot)) → (named : Named) → Each So (on_static go named)
  on_static_so go each (meanings.Static class slot) = each class slot
  on_static_so go each other = tt

  on_method_so : (go : ℕ → Option Deed) (named : Named) → ((method : ℕ) → named ≡ meanings.Method method → Each So (go method)) → Each So (on_method go named)
  on_method_so go (meanings.Method method) each = each method refl
  on_method_so go other each = tt

  without_so : (method : ℕ) (native : Option Native) → P (needs.Performs method) → So (without_body method native)
  without_so method None performs = throws 26
  without_so method (Some native) performs = performs

  body_so : (program : Linked) (limit : ℕ) (view : View) (method count : ℕ) (body : Option Body) → P (needs.Performs method) → So (by_body program limit view method count body)
  body_so program limit view method count None performs = without_so method (native_of program method) performs
  body_so program limit view method count (Some body) performs =
      choice So (has_room limit view.roots.frames (body.max_locals + body.max_stack))
      (Does (with_roots view (entered view.roots method count body.max_locals body.max_stack))) (Asks (needs.Throws 22)) tt (throws 22)

  -- of what is selected it holds, where that is a method
  abbrev Holds : Selected → Type 0
  Holds selected = (method : ℕ) → selected ≡ chosen.Method method → P (needs.Performs method)

  abbrev HoldsOn : View → (ℕ → Selected) → Type 0
  HoldsOn view choose = (serial : ℕ) (object : Object) → object_in view.objects serial ≡ Some object → Holds (choose object.kind)

  call_so : (program : Linked) (limit : ℕ) (view : View) (count : ℕ) (selected : Selected) → Holds selected → Each So (call_deed program limit view count selected)
  call_so program limit view count (chosen.Method method) performs =
      map_each So (λ numbered. by_body program limit view method count numbered.member.body)
      (λ numbered. body_so program limit view method count numbered.member.body (performs method refl)) (method_numbered program method)
  call_so program limit view count chosen.Abstract performs = throws 26
  call_so program limit view count chosen.Several performs = throws 25

  receives : (view : View) (serial : ℕ) (go : Object → Option Deed) → ((object : Object) → object_in view.objects serial ≡ Some object → Each So (go object))
      → Each So (on_receiver view serial go)
  receives view zero go each = throws 16
  receives view (suc place) go each = by (object_in view.objects (suc place)) refl where
    by : (found : Option Object) → object_in view.objects (suc place) ≡ found → Each So (option_and_then go found)
    by None there = tt
    by (Some object) there = each object there

  received_so : (program : Linked) (limit : ℕ) (view : View) (choose : ℕ → Selected) (count : ℕ) (held : List Value) → HoldsOn view choose
      → Each So (received program limit view choose count held)
  received_so program limit view choose count (Ref serial ∷ arguments) performs =
      receives view serial (λ object. call_deed program limit view count (choose object.kind))
      (λ object there. call_so program limit view count (choose object.kind) (performs serial object there))
  received_so program limit view choose count other performs = tt

  receiver_so : (program : Linked) (limit : ℕ) (view : View) (choose : ℕ → Selected) (method : ℕ) → HoldsOn view choose → Each So (receiver_deed program limit view choose method)
  receiver_so program limit view choose method performs =
      then_each So (λ held. received program limit view choose (length held.0) (reverse held.0))
      (λ held. received_so program limit view choose (length held.0) (reverse held.0) performs) (taken (asked_sorts program method ++ sorts.Reference ∷ []) (top_stack view.roots))

  arrays_so : (view : View) (dimensions : ℕ) → Each So (arrays_deed view dimensions)
  arrays_so view dimensions =
      map_each So sized (λ held. choice So (list_all is_size held.0) (Asks needs.Makes) (Asks (needs.Throws 19)) makes (throws 19))
      (taken (replicate dimensions sorts.Int) (top_stack view.roots))

  module _ (program : Linked) (limit : ℕ) (decoded : Decoded) (view : View) (begins : (class : ℕ) → slice_get view.roots.classes class ≡ Some Untouched → P (needs.Begins class)) where
    static_so : (method : ℕ) → P (needs.Performs method) → Each So (static_deed program limit view method)
    static_so method performs =
        then_each So (λ class. when_ready view class (option_and_then (λ held. call_deed program limit view (length held.0) (chosen.Method method)) (taken (asked_sorts program method) (top_stack view.roots))))
        (λ class. ready_so view class (option_and_then (λ held. call_deed program limit view (length held.0) (chosen.Method method)) (taken (asked_sorts program method) (top_stack view.roots)))
        (then_each So (λ held. call_deed program limit view (length held.0) (chosen.Method method)) (λ held. call_so program limit view (length held.0) (chosen.Method method) itself)
        (taken (asked_sorts program method) (top_stack view.roots))) (begins class))
        (class_declaring program method)
      where
        itself : Holds (chosen.Method method)
        itself other is = let same : method ≡ other = cc is in subst (λ (method : ℕ). P (needs.Performs method)) same performs

    frame_so : (action : Action) → Each So (frame_deed decoded view action)
    frame_so action = map_each So (of_frame view) (framed view) (frame_left action (or_zero decoded.next) (or_zero decoded.target) view.roots)

    get_so : (class slot : ℕ) → Each So (when_ready view class (going_on decoded (roots_left view (behind_get_static slot view.roots))))
    get_so class slot =
        ready_so view class (going_on decoded (roots_left view (behind_get_static slot view.roots))) (going decoded (roots_left view (behind_get_static slot view.roots))) (begins class)

    put_so : (class slot : ℕ)
        → Each So (when_ready view class (option_and_then (λ basic. going_on decoded (roots_left view (behind_put_static slot basic view.roots))) (static_basic program slot)))
    put_so class slot =
        ready_so view class (option_and_then (λ basic. going_on decoded (roots_left view (behind_put_static slot basic view.roots))) (static_basic program slot))
        (then_each So (λ basic. going_on decoded (roots_left view (behind_put_static slot basic view.roots)))
        (λ basic. going decoded (roots_left view (behind_put_static slot basic view.roots))) (static_basic program slot)) (begins class)

    new_so : (kind : ℕ) → Each So (option_and_then (λ class. when_ready view class (Some (Asks needs.Makes))) (class_of_kind program kind))
    new_so kind =
        then_each So (λ class. when_ready view class (Some (Asks needs.Makes))) (λ class. ready_so view class (Some (Asks needs.Makes)) makes (begins class)) (class_of_kind program kind)

-- ---- what each asks for

abbrev pub NamesConstant : Named → Type 0
NamesConstant (meanings.Text text) = Unit {0}
NamesConstant (meanings.Kind kind) = Unit {0}
NamesConstant other = ⊥

pub never_other : (named : Named) → NamesConstant named → ((text : ℕ) → named ≡ meanings.Text text → ⊥) → ((kind : ℕ) → named ≡ meanings.Kind kind → ⊥) → ⊥
never_other (meanings.Text text) names first second = first text refl
never_other (meanings.Kind kind) names first second = second kind refl
never_other other names first second = names

-- a call that names a method runs this one
pub data Calls (program : Linked) (view : View) (decoded : Decoded) (method : ℕ) : Action → Type 0 where
  Statically : (index : ℕ) → decoded.named ≡ meanings.Method method → Calls program view decoded method (actions.InvokeStatic index)
  Specially : (index named : ℕ) → decoded.named ≡ meanings.Method named → decoded.selected ≡ chosen.Method method
      → Calls program view decoded method (actions.InvokeSpecial index)
  Virtually : (index named serial : ℕ) → (object : Object) → decoded.named ≡ meanings.Method named → object_in view.objects serial ≡ Some object
      → select program object.kind named ≡ chosen.Method method → Calls program view decoded method (actions.InvokeVirtual index)
  ByInterface : (index count caller named serial : ℕ) → (object : Object) → running view.roots ≡ Some caller → decoded.named ≡ meanings.Method named
      → object_in view.objects serial ≡ Some object → implementing program named (holder_kind program caller index) object.kind ≡ chosen.Method method
      → Calls program view decoded method (actions.InvokeInterface index count)

abbrev pub Told : Linked → View → Decoded → Action → Need → Type 0
Told program view decoded action (needs.Begins class) = class < length view.roots.classes
Told program view decoded action needs.Loads = (loads_by (Some action) ≡ true) × NamesConstant decoded.named
Told program view decoded action needs.Switches = action ≡ actions.Switch
Told program view decoded action (needs.Performs method) = Calls program view decoded method action
Told program view decoded action other = Unit {0}

module _ (program : Linked) (limit : ℕ) (decoded : Decoded) (view : View) where
  abbrev Fits : Action → Option Deed → Type 0
  Fits action deed = Each (So (Told program view decoded action) (λ site. tt) tt tt) deed

  module _ (action : Action) where
    abbrev P : Need → Type 0
    P need = Told program view decoded action need

    begun : (class : ℕ) → slice_get view.roots.classes class ≡ Some Untouched → P (needs.Begins class)
    begun class at = slice_get_within view.roots.classes class Untouched at

    by_going : (left : Option Left) → Fits action (going_on decoded left)
    by_going left = going P (λ site. tt) tt tt decoded left

    by_frame : Fits action (frame_deed decoded view action)
    by_frame = frame_so P (λ site. tt) tt tt program limit decoded view begun action

    by_arrays : (dimensions : ℕ) → Fits action (arrays_deed view dimensions)
    by_arrays dimensions = arrays_so P (λ site. tt) tt tt view dimensions

    by_field : (go : ℕ → Basic → Option Left) → Fits action (on_field program (λ slot basic. going_on decoded (go slot basic)) decoded.named)
    by_field go = on_field_so P (λ site. tt) tt tt program (λ slot basic. going_on decoded (go slot basic)) (λ slot basic. by_going (go slot basic)) decoded.named

    by_kind : (go : ℕ → Option Deed) → ((kind : ℕ) → Fits action (go kind)) → Fits action (on_kind go decoded.named)
    by_kind go each = on_kind_so P (λ site. tt) tt tt go each decoded.named

    by_static : (go : ℕ → ℕ → Option Deed) → ((class slot : ℕ) → Fits action (go class slot)) → Fits action (on_static go decoded.named)
    by_static go each = on_static_so P (λ site. tt) tt tt go each decoded.named

    by_method : (go : ℕ → Option Deed) → ((method : ℕ) → decoded.named ≡ meanings.Method method → Fits action (go method)) → Fits action (on_method go decoded.named)
    by_method go each = on_method_so P (λ site. tt) tt tt go decoded.named each

    by_receiver : (choose : ℕ → ℕ → Selected)
        → ((named serial : ℕ) (object : Object) → decoded.named ≡ meanings.Method named → object_in view.objects serial ≡ Some object
        → (method : ℕ) → choose named object.kind ≡ chosen.Method method → P (needs.Performs method))
        → Fits action (on_method (λ method. receiver_deed program limit view (choose method) method) decoded.named)
    by_receiver choose performs =
        by_method (λ method. receiver_deed program limit view (choose method) method)
        (λ named names. receiver_so P (λ site. tt) tt tt program limit view (choose named) named (λ serial object there. performs named serial object names there))

    by_interface : (index : ℕ)
        → ((caller named serial : ℕ) (object : Object) → running view.roots ≡ Some caller → decoded.named ≡ meanings.Method named → object_in view.objects serial ≡ Some object
        → (method : ℕ) → implementing program named (holder_kind program caller index) object.kind ≡ chosen.Method method → P (needs.Performs method))
        → Fits action (interface_called program limit view index decoded.named)
    by_interface index performs = go (running view.roots) refl where
      go : (found : Option ℕ) → running view.roots ≡ found
          → Each (So P (λ site. tt) tt tt) (option_and_then (λ caller. on_method (interface_deed program limit view caller index) decoded.named) found)
      go None runs = tt
      go (Some caller) runs =
          by_method (interface_deed program limit view caller index)
          (λ named names. choice (Each (So P (λ site. tt) tt tt)) (is_private_method program named) (Some (Asks (needs.Throws incompatible_class_change)))
          (implementing_deed program limit view caller index named) tt
          (receiver_so P (λ site. tt) tt tt program limit view (implementing program named (holder_kind program caller index)) named
          (λ serial object there. performs caller named serial object runs names there)))

  by_constant : (index : ℕ) (named : Named) → decoded.named ≡ named → Fits (actions.Constant index) (constant_deed decoded view named)
  by_constant index (meanings.Whole value) is = by_going (actions.Constant index) (roots_left view (Some (pushed view.roots value)))
  by_constant index (meanings.Text text) is = (refl, subst NamesConstant (sym is) tt)
  by_constant index (meanings.Kind kind) is = (refl, subst NamesConstant (sym is) tt)
  by_constant index other is = tt

  fits : (action : Action) → Fits action (acted_as program limit decoded view action)
  fits (actions.Constant index) = by_constant index decoded.named refl
  fits actions.Switch = refl
  fits (actions.LoadNumber elements) = by_going (actions.LoadNumber elements) (behind_load_element (basic_on program (sort_of_elements elements) view 1) view)
  fits (actions.StoreNumber elements) = by_going (actions.StoreNumber elements) (behind_store_element (sort_of_elements elements) (basic_on program (sort_of_elements elements) view 2) view)
  fits actions.Length = by_going actions.Length (behind_length view)
  fits actions.LoadReference = by_going actions.LoadReference (behind_load_element (basic_on program sorts.Reference view 1) view)
  fits actions.StoreReference = by_going actions.StoreReference (behind_store_reference (fits_on program view) view)
  fits (actions.GetField index) = by_field (actions.GetField index) (λ slot basic. behind_get_field slot basic view)
  fits (actions.PutField index) = by_field (actions.PutField index) (λ slot basic. behind_put_field slot basic view)
  fits (actions.GetStatic index) =
      by_static (actions.GetStatic index) _ (get_so (P (actions.GetStatic index)) (λ site. tt) tt tt program limit decoded view (begun (actions.GetStatic index)))
  fits (actions.PutStatic index) =
      by_static (actions.PutStatic index) _ (put_so (P (actions.PutStatic index)) (λ site. tt) tt tt program limit decoded view (begun (actions.PutStatic index)))
  fits (actions.New index) =
      by_kind (actions.New index) _ (new_so (P (actions.New index)) (λ site. tt) tt tt program limit decoded view (begun (actions.New index)))
  fits (actions.NewNumbers code) = by_arrays (actions.NewNumbers code) 1
  fits (actions.NewReferences index) = by_arrays (actions.NewReferences index) 1
  fits (actions.NewArrays index dimensions) = by_arrays (actions.NewArrays index dimensions) dimensions
  fits (actions.Cast index) =
      by_kind (actions.Cast index) (λ kind. going_on decoded (behind_cast program kind view)) (λ kind. by_going (actions.Cast index) (behind_cast program kind view))
  fits (actions.IsInstance index) =
      by_kind (actions.IsInstance index) (λ kind. going_on decoded (behind_instance program kind view)) (λ kind. by_going (actions.IsInstance index) (behind_instance program kind view))
  fits actions.Throw = map_each _ of_pended (pended_so (P actions.Throw) (λ site. tt) tt tt) (behind_throw view)
  fits (actions.Return sort) = map_each _ (λ roots. Does (with_roots view roots)) (λ roots. tt) (behind_return program sort view.roots)
  fits (actions.InvokeStatic index) =
      by_method (actions.InvokeStatic index) (static_deed program limit view)
      (λ method names. static_so (P (actions.InvokeStatic index)) (λ site. tt) tt tt program limit decoded view (begun (actions.InvokeStatic index)) method (Calls.Statically index names))
  fits (actions.InvokeSpecial index) =
      by_receiver (actions.InvokeSpecial index) (λ method kind. decoded.selected) (λ named serial object names there method is. Calls.Specially index named names is)
  fits (actions.InvokeVirtual index) =
      by_receiver (actions.InvokeVirtual index) (λ method kind. select program kind method)
      (λ named serial object names there method is. Calls.Virtually index named serial object names there is)
  fits (actions.InvokeInterface index count) =
      by_interface (actions.InvokeInterface index count) index
      (λ caller named serial object runs names there method is. Calls.ByInterface index count caller named serial object runs names there is)
  fits (actions.Compute computation) = by_frame (actions.Compute computation)
  fits actions.Null = by_frame actions.Null
  fits (actions.Load sort local) = by_frame (actions.Load sort local)
  fits (actions.Store sort local) = by_frame (actions.Store sort local)
  fits (actions.Increase local by) = by_frame (actions.Increase local by)
  fits (actions.Shuffle shuffle) = by_frame (actions.Shuffle shuffle)
  fits (actions.Branch condition) = by_frame (actions.Branch condition)

  -- the instruction that asks
  pub record Asking (need : Need) : Type 0 where
    pub action : Action
    pub does : decoded.action ≡ Some action
    pub told : Told program view decoded action need

  pub asking : (need : Need) → acted program limit decoded view ≡ Some (Asks need) → Asking need
  asking need asks = go decoded.action refl where
    go : (found : Option Action) → decoded.action ≡ found → Asking need
    go None is = absurd (cc (sym (ap (option_and_then (acted_as program limit decoded view)) is) ∙ asks))
    go (Some action) is = record {
      action = action;
      does = is;
      told = subst (Fits action) (sym (ap (option_and_then (acted_as program limit decoded view)) is) ∙ asks) (fits action);
    }

  pub begins_there : (class : ℕ) → acted program limit decoded view ≡ Some (Asks (needs.Begins class)) → class < length view.roots.classes
  begins_there class asks = (asking (needs.Begins class) asks).told

  pub switches_so : acted program limit decoded view ≡ Some (Asks needs.Switches) → decoded.action ≡ Some actions.Switch
  switches_so asks = let own = asking needs.Switches asks in own.does ∙ ap Some own.told

  pub loads_constant : acted program limit decoded view ≡ Some (Asks needs.Loads) → loads_by decoded.action ≡ true
  loads_constant asks = let own = asking needs.Loads asks in ap loads_by own.does ∙ own.told.0

  pub names_constant : acted program limit decoded view ≡ Some (Asks needs.Loads) → NamesConstant decoded.named
  names_constant asks = (asking needs.Loads asks).told.1

-- of a typed state it is one of the program's
pub begins_low : (program : Linked) (limit : ℕ) (decoded : Decoded) (index : ℕ → ℕ) (kept : List (Option Object)) (held : Roots) (outside : Outside) (class : ℕ)
    → IsTypedState program (state_of (seen index kept held) outside) → acted program limit decoded (seen index kept held) ≡ Some (Asks (needs.Begins class))
    → class < length program.classes
begins_low program limit decoded index kept held outside class typed asks =
    subst (λ (count : ℕ). class < count) typed.roots.classes (begins_there program limit decoded (seen index kept held) class asks)
