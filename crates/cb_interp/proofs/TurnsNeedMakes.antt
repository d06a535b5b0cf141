-- Only instructions that make an object or arrays ask for room to make something.
use Rattle.std.proofs.Common.{◌≡◌, ◌∙◌, ap, refl, sym, ℕ, ◌+◌, Bool, true, false, List, [], ◌∷◌, ◌++◌, length, reverse, Option, Some, None}
use Rattle.std.proofs.lemmas.Bool.{false≢true}
use Rattle.std.specs.Prelude.{if◌then◌else◌, option_and_then, option_map, slice_get, zero, suc}
use Rattle.cb_classfile.specs.declared.body.Body.{Body}
use Rattle.cb_frames.specs.Tops.{entered, pushed, top_stack}
use Rattle.cb_heap.specs.Reading.{View}
use Rattle.cb_hierarchy.specs.declared.selected.Selected.{Selected}
use Rattle.cb_hierarchy.specs.declared.selected.Selected.TheVariants as chosen
use Rattle.cb_kinds.specs.declared.basic.Basic.{Basic}
use Rattle.cb_library.specs.declared.native.Native.{Native}
use Rattle.cb_link.specs.Calls.{select}
use Rattle.cb_link.specs.Program.{Linked}
use Rattle.cb_link.specs.Slots.{field_basic, static_basic}
use Rattle.cb_link.specs.declared.decoded.Decoded.{Decoded}
use Rattle.cb_link.specs.declared.named.Named.{Named}
use Rattle.cb_link.specs.declared.named.Named.TheVariants as meanings
use Rattle.cb_machine.specs.Calling.{asked_sorts, implementing, is_private_method}
use Rattle.cb_machine.specs.Machine.{class_declaring, method_numbered, or_zero}
use Rattle.cb_machine.specs.Natives.{native_of}
use Rattle.cb_machine.specs.Sites.{abstract_method, incompatible_class_change, null_pointer, stack_overflow}
use Rattle.cb_machine.specs.Standing.{taken}
use Rattle.cb_plain.specs.Depth.{has_room}
use Rattle.cb_plain.specs.State.{Object}
use Rattle.cb_plain.specs.Updates.{object_in}
use Rattle.cb_plain.specs.declared.class_state.ClassState.{ClassState}
use Rattle.cb_plain.specs.declared.class_state.ClassState.TheVariants.{Busy, Done, Failed, Untouched}
use Rattle.cb_plain.specs.declared.value.Value.{Value}
use Rattle.cb_plain.specs.declared.value.Value.TheVariants.{Ref}
use Rattle.cb_shapes.specs.Sorts.{sort_of_elements}
use Rattle.cb_shapes.specs.declared.action.Action.{Action}
use Rattle.cb_shapes.specs.declared.action.Action.TheVariants as actions
use Rattle.cb_shapes.specs.declared.sort.Sort.TheVariants as sorts
use Rattle.cb_act.specs.Acting.{Asks, Deed, Does, acted, acted_as, basic_on, call_deed, constant_deed, enter_deed, fits_on, frame_deed, going_on, holder_kind, implementing_deed, interface_deed, need_of, of_frame, of_left, of_pended, on_field, on_kind, on_method, on_static, or_need, receiver_deed, roots_left, running, static_deed, when_ready, with_roots}
use Rattle.cb_act.specs.Classes.{behind_cast, behind_instance, behind_throw}
use Rattle.cb_act.specs.Framing.{ByZero, FrameLeft, Leaves, frame_left}
use Rattle.cb_act.specs.Going.{behind_get_static, behind_put_static, behind_return}
use Rattle.cb_interp.specs.Needing.{makes_array_by, makes_object_by}
use Rattle.cb_interp.specs.Nested.{makes_nested_by}
use Rattle.cb_act.specs.Objects.{Goes, Left, Throws, behind_get_field, behind_length, behind_load_element, behind_put_field, behind_store_element, behind_store_reference}
use Rattle.cb_act.specs.declared.need.Need.TheVariants as needs

-- ---- what is done

abbrev asks_to_make : Option Deed → Bool
asks_to_make (Some (Asks needs.Makes)) = true
asks_to_make other = false

abbrev Quiet : Option Deed → Type 0
Quiet deed = asks_to_make deed ≡ false

then_quiet : {X : Type 0} (f : X → Option Deed) → ((item : X) → Quiet (f item)) → (found : Option X) → Quiet (option_and_then f found)
then_quiet f each None = refl
then_quiet f each (Some item) = each item

map_quiet : {X : Type 0} (f : X → Deed) → ((item : X) → Quiet (Some (f item))) → (found : Option X) → Quiet (option_map f found)
map_quiet f each None = refl
map_quiet f each (Some item) = each item

left_quiet : (pc : ℕ) (left : Left) → Quiet (Some (of_left pc left))
left_quiet pc (Goes view) = refl
left_quiet pc (Throws site) = refl

going_quiet : (decoded : Decoded) (left : Option Left) → Quiet (going_on decoded left)
going_quiet decoded left = then_quiet (λ pc. option_map (of_left pc) left) (λ pc. map_quiet (of_left pc) (left_quiet pc) left) decoded.next

pended_quiet : (left : Left) → Quiet (Some (of_pended left))
pended_quiet (Goes view) = refl
pended_quiet (Throws site) = refl

frame_quiet : (view : View) (left : FrameLeft) → Quiet (Some (of_frame view left))
frame_quiet view (Leaves roots) = refl
frame_quiet view ByZero = refl

field_quiet : (program : Linked) (go : ℕ → Basic → Option Deed) → ((slot : ℕ) (basic : Basic) → Quiet (go slot basic)) → (named : Named) → Quiet (on_field program go named)
field_quiet program go each (meanings.Field class slot) = then_quiet (go slot) (each slot) (field_basic program class slot)
field_quiet program go each other = refl

kind_quiet : (go : ℕ → Option Deed) → ((kind : ℕ) → Quiet (go kind)) → (named : Named) → Quiet (on_kind go named)
kind_quiet go each (meanings.Kind kind) = each kind
kind_quiet go each other = refl

static_quiet : (go : ℕ → ℕ → Option Deed) → ((class slot : ℕ) → Quiet (go class slot)) → (named : Named) → Quiet (on_static go named)
static_quiet go each (meanings.Static class slot) = each class slot
static_quiet go each other = refl

method_quiet : (go : ℕ → Option Deed) → ((method : ℕ) → Quiet (go method)) → (named : Named) → Quiet (on_method go named)
method_quiet go each (meanings.Method method) = each method
method_quiet go each other = refl

ready_quiet : (view : View) (class : ℕ) (ready : Option Deed) → Quiet ready → Quiet (when_ready view class ready)
ready_quiet view class ready quiet = then_quiet (λ state. or_need ready (need_of class state)) by_state (slice_get view.roots.classes class) where
  by_state : (state : ClassState) → Quiet (or_need ready (need_of class state))
  by_state Untouched = refl
  by_state Failed = refl
  by_state Busy = quiet
  by_state Done = quiet

choice_quiet : (is : Bool) (one other : Deed) → Quiet (Some one) → Quiet (Some other) → Quiet (Some (if is then one else other))
choice_quiet true one other first second = first
choice_quiet false one other first second = second

-- ---- calls

abbrev without_body : ℕ → Option Native → Deed
without_body method None = Asks (needs.Throws abstract_method)
without_body method (Some native) = Asks (needs.Performs method)

abbrev by_body : Linked → ℕ → View → (method count : ℕ) → Option Body → Deed
by_body program limit view method count None = without_body method (native_of program method)
by_body program limit view method count (Some body) = enter_deed limit view method count body

without_quiet : (method : ℕ) (native : Option Native) → Quiet (Some (without_body method native))
without_quiet method None = refl
without_quiet method (Some native) = refl

body_quiet : (program : Linked) (limit : ℕ) (view : View) (method count : ℕ) (body : Option Body) → Quiet (Some (by_body program limit view method count body))
body_quiet program limit view method count None = without_quiet method (native_of program method)
body_quiet program limit view method count (Some body) =
    choice_quiet (has_room limit view.roots.frames (body.max_locals + body.max_stack))
    (Does (with_roots view (entered view.roots method count body.max_locals body.max_stack))) (Asks (needs.Throws stack_overflow)) refl refl

call_quiet : (program : Linked) (limit : ℕ) (view : View) (count : ℕ) (selected : Selected) → Quiet (call_deed program limit view count selected)
call_quiet program limit view count (chosen.Method method) =
    map_quiet (λ numbered. by_body program limit view method count numbered.member.body) (λ numbered. body_quiet program limit view method count numbered.member.body)
    (method_numbered program method)
call_quiet program limit view count chosen.Abstract = refl
call_quiet program limit view count chosen.Several = refl

statics_quiet : (program : Linked) (limit : ℕ) (view : View) (method : ℕ) → Quiet (static_deed program limit view method)
statics_quiet program limit view method =
    then_quiet (λ class. when_ready view class (option_and_then (λ held. call_deed program limit view (length held.0) (chosen.Method method)) (taken (asked_sorts program method) (top_stack view.roots))))
    (λ class. ready_quiet view class (option_and_then (λ held. call_deed program limit view (length held.0) (chosen.Method method)) (taken (asked_sorts program method) (top_stack view.roots)))
    (then_quiet (λ held. call_deed program limit view (length held.0) (chosen.Method method)) (λ held. call_quiet program limit view (length held.0) (chosen.Method method))
    (taken (asked_sorts program method) (top_stack view.roots))))
    (class_declaring program method)

abbrev on_receiver : View → ℕ → (Object → Option Deed) → Option Deed
on_receiver view zero go = Some (Asks (needs.Throws null_pointer))
on_receiver view (suc place) go = option_and_then go (object_in view.objects (suc place))

abbrev received : Linked → ℕ → View → (ℕ → Selected) → (count : ℕ) → List Value → Option Deed
received program limit view choose count (Ref serial ∷ arguments) = on_receiver view serial (λ object. call_deed program limit view count (choose object.kind))
received program limit view choose count other = None

on_receiver_quiet : (view : View) (serial : ℕ) (go : Object → Option Deed) → ((object : Object) → Quiet (go object)) → Quiet (on_receiver view serial go)
on_receiver_quiet view zero go each = refl
on_receiver_quiet view (suc place) go each = then_quiet go each (object_in view.objects (suc place))

received_quiet : (program : Linked) (limit : ℕ) (view : View) (choose : ℕ → Selected) (count : ℕ) (held : List Value) → Quiet (received program limit view choose count held)
received_quiet program limit view choose count (Ref serial ∷ arguments) =
    on_receiver_quiet view serial (λ object. call_deed program limit view count (choose object.kind)) (λ object. call_quiet program limit view count (choose object.kind))
received_quiet program limit view choose count other = refl

receiver_quiet : (program : Linked) (limit : ℕ) (view : View) (choose : ℕ → Selected) (method : ℕ) → Quiet (receiver_deed program limit view choose method)
receiver_quiet program limit view choose method =
    then_quiet (λ held. received program limit view choose (length held.0) (reverse held.0)) (λ held. received_quiet program limit view choose (length held.0) (reverse held.0))
    (taken (asked_sorts program method ++ sorts.Reference ∷ []) (top_stack view.roots))

either_quiet : (is : Bool) (one other : Option Deed) → Quiet one → Quiet other → Quiet (if is then one else other)
either_quiet true one other first second = first
either_quiet false one other first second = second

interface_quiet : (program : Linked) (limit : ℕ) (view : View) (caller index method : ℕ) → Quiet (interface_deed program limit view caller index method)
interface_quiet program limit view caller index method =
    either_quiet (is_private_method program method) (Some (Asks (needs.Throws incompatible_class_change))) (implementing_deed program limit view caller index method) refl
    (receiver_quiet program limit view (implementing program method (holder_kind program caller index)) method)

-- ---- instructions

abbrev pub makes_any : Option Action → Bool
makes_any None = false
makes_any (Some (actions.New index)) = true
makes_any (Some (actions.NewNumbers code)) = true
makes_any (Some (actions.NewReferences index)) = true
makes_any (Some (actions.NewArrays index dimensions)) = true
makes_any (Some other) = false

module _ (program : Linked) (limit : ℕ) (decoded : Decoded) (view : View) where
  constant_quiet : (named : Named) → Quiet (constant_deed decoded view named)
  constant_quiet (meanings.Whole value) = going_quiet decoded (roots_left view (Some (pushed view.roots value)))
  constant_quiet (meanings.Text text) = refl
  constant_quiet (meanings.Kind kind) = refl
  constant_quiet other = refl

  framed : (action : Action) → Quiet (frame_deed decoded view action)
  framed action = map_quiet (of_frame view) (frame_quiet view) (frame_left action (or_zero decoded.next) (or_zero decoded.target) view.roots)

  quiet : (action : Action) → makes_any (Some action) ≡ false → Quiet (acted_as program limit decoded view action)
  quiet (actions.Constant index) apart = constant_quiet decoded.named
  quiet actions.Switch apart = refl
  quiet (actions.LoadNumber elements) apart = going_quiet decoded (behind_load_element (basic_on program (sort_of_elements elements) view 1) view)
  quiet (actions.StoreNumber elements) apart = going_quiet decoded (behind_store_element (sort_of_elements elements) (basic_on program (sort_of_elements elements) view 2) view)
  quiet actions.Length apart = going_quiet decoded (behind_length view)
  quiet actions.LoadReference apart = going_quiet decoded (behind_load_element (basic_on program sorts.Reference view 1) view)
  quiet actions.StoreReference apart = going_quiet decoded (behind_store_reference (fits_on program view) view)
  quiet (actions.GetField index) apart =
      field_quiet program (λ slot basic. going_on decoded (behind_get_field slot basic view)) (λ slot basic. going_quiet decoded (behind_get_field slot basic view)) decoded.named
  quiet (actions.PutField index) apart =
      field_quiet program (λ slot basic. going_on decoded (behind_put_field slot basic view)) (λ slot basic. going_quiet decoded (behind_put_field slot basic view)) decoded.named
  quiet (actions.GetStatic index) apart =
      static_quiet _ (λ class slot. ready_quiet view class (going_on decoded (roots_left view (behind_get_static slot view.roots)))
      (going_quiet decoded (roots_left view (behind_get_static slot view.roots)))) decoded.named
  quiet (actions.PutStatic index) apart =
      static_quiet _ (λ class slot. ready_quiet view class (option_and_then (λ basic. going_on decoded (roots_left view (behind_put_static slot basic view.roots))) (static_basic program slot))
      (then_quiet (λ basic. going_on decoded (roots_left view (behind_put_static slot basic view.roots)))
      (λ basic. going_quiet decoded (roots_left view (behind_put_static slot basic view.roots))) (static_basic program slot))) decoded.named
  quiet (actions.New index) apart = absurd (false≢true (sym apart))
  quiet (actions.NewNumbers code) apart = absurd (false≢true (sym apart))
  quiet (actions.NewReferences index) apart = absurd (false≢true (sym apart))
  quiet (actions.NewArrays index dimensions) apart = absurd (false≢true (sym apart))
  quiet (actions.Cast index) apart =
      kind_quiet _ (λ kind. going_quiet decoded (behind_cast program kind view)) decoded.named
  quiet (actions.IsInstance index) apart =
      kind_quiet _ (λ kind. going_quiet decoded (behind_instance program kind view)) decoded.named
  quiet actions.Throw apart = map_quiet of_pended pended_quiet (behind_throw view)
  quiet (actions.Return sort) apart = map_quiet (λ roots. Does (with_roots view roots)) (λ roots. refl) (behind_return program sort view.roots)
  quiet (actions.InvokeStatic index) apart = method_quiet (static_deed program limit view) (statics_quiet program limit view) decoded.named
  quiet (actions.InvokeSpecial index) apart =
      method_quiet (receiver_deed program limit view (λ kind. decoded.selected)) (receiver_quiet program limit view (λ kind. decoded.selected)) decoded.named
  quiet (actions.InvokeVirtual index) apart =
      method_quiet (λ method. receiver_deed program limit view (λ kind. select program kind method) method)
      (λ method. receiver_quiet program limit view (λ kind. select program kind method) method) decoded.named
  quiet (actions.InvokeInterface index count) apart =
      then_quiet (λ caller. on_method (interface_deed program limit view caller index) decoded.named)
      (λ caller. method_quiet (interface_deed program limit view caller index) (interface_quiet program limit view caller index) decoded.named) (running view.roots)
  quiet (actions.Compute computation) apart = framed (actions.Compute computation)
  quiet actions.Null apart = framed actions.Null
  quiet (actions.Load sort local) apart = framed (actions.Load sort local)
  quiet (actions.Store sort local) apart = framed (actions.Store sort local)
  quiet (actions.Increase local by) apart = framed (actions.Increase local by)
  quiet (actions.Shuffle shuffle) apart = framed (actions.Shuffle shuffle)
  quiet (actions.Branch condition) apart = framed (actions.Branch condition)

  makes_some : acted program limit decoded view ≡ Some (Asks needs.Makes) → makes_any decoded.action ≡ true
  makes_some asked = by decoded.action (ap asks_to_make asked) where
    by : (action : Option Action) → asks_to_make (option_and_then (acted_as program limit decoded view) action) ≡ true → makes_any action ≡ true
    by None is = absurd (false≢true is)
    by (Some action) is = by_any (makes_any (Some action)) refl where
      by_any : (any : Bool) → makes_any (Some action) ≡ any → makes_any (Some action) ≡ true
      by_any true so = so
      by_any false so = absurd (false≢true (sym (quiet action so) ∙ is))

  -- what is made by none of two ways is made by the third
  pub makes_others : acted program limit decoded view ≡ Some (Asks needs.Makes) → makes_object_by decoded.action ≡ false → makes_array_by decoded.action ≡ false
      → makes_nested_by decoded.action ≡ true
  makes_others asked = by decoded.action (makes_some asked) where
    by : (action : Option Action) → makes_any action ≡ true → makes_object_by action ≡ false → makes_array_by action ≡ false → makes_nested_by action ≡ true
    by None is apart other = absurd (false≢true is)
    by (Some (actions.New index)) is apart other = absurd (false≢true (sym apart))
    by (Some (actions.NewNumbers code)) is apart other = absurd (false≢true (sym other))
    by (Some (actions.NewReferences index)) is apart other = absurd (false≢true (sym other))
    by (Some (actions.NewArrays index dimensions)) is apart other = refl
    by (Some action) is apart other = absurd (false≢true is)
