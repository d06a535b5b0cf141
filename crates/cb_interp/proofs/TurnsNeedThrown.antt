-- An instruction throws exceptions of the machine alone, each of which has a site.
use Rattle.std.proofs.Common.{◌≡◌, refl, subst, arith, ℕ, ℤ, pos, zero, suc, ◌+◌, Bool, true, false, List, [], ◌∷◌, ◌++◌, length, replicate, reverse, Option, Some, None}
use Rattle.std.specs.Prelude.{if◌then◌else◌, option_and_then, option_map, slice_get}
use Rattle.std.specs.List.{Contains, list_all}
use Rattle.cb_classfile.specs.declared.body.Body.{Body}
use Rattle.cb_frames.specs.Tops.{entered, pushed, top_stack}
use Rattle.cb_heap.specs.Kept.{content_at, contents_at}
use Rattle.cb_heap.specs.Reading.{View}
use Rattle.cb_hierarchy.specs.declared.selected.Selected.{Selected}
use Rattle.cb_hierarchy.specs.declared.selected.Selected.TheVariants as chosen
use Rattle.cb_kinds.specs.declared.basic.Basic.{Basic}
use Rattle.cb_library.specs.declared.native.Native.{Native}
use Rattle.cb_link.specs.Calls.{class_of_kind, select}
use Rattle.cb_link.specs.Program.{Linked}
use Rattle.cb_link.specs.Slots.{field_basic, static_basic}
use Rattle.cb_link.specs.declared.decoded.Decoded.{Decoded}
use Rattle.cb_link.specs.declared.named.Named.{Named}
use Rattle.cb_link.specs.declared.named.Named.TheVariants as meanings
use Rattle.cb_machine.specs.Arrays.{is_index}
use Rattle.cb_machine.specs.Calling.{asked_sorts, implementing, is_private_method}
use Rattle.cb_machine.specs.Creating.{is_size}
use Rattle.cb_machine.specs.Machine.{class_declaring, method_numbered, or_zero}
use Rattle.cb_machine.specs.Natives.{native_of}
use Rattle.cb_machine.specs.Sites.{abstract_method, arithmetic, array_index, array_store, class_cast, incompatible_class_change, negative_size, no_class_definition, null_pointer, stack_overflow}
use Rattle.cb_machine.specs.Standing.{taken}
use Rattle.cb_machine.specs.Values.{content_of, kept_value, natural, sort_of_basic, value_in}
use Rattle.cb_plain.specs.Depth.{has_room}
use Rattle.cb_plain.specs.State.{Content, Object, Roots}
use Rattle.cb_plain.specs.Updates.{object_in}
use Rattle.cb_plain.specs.declared.class_state.ClassState.{ClassState}
use Rattle.cb_plain.specs.declared.class_state.ClassState.TheVariants.{Busy, Done, Failed, Untouched}
use Rattle.cb_plain.specs.declared.value.Value.{Value}
use Rattle.cb_plain.specs.declared.value.Value.TheVariants.{Int, Ref}
use Rattle.cb_safety.specs.Throwing.{thrown_sites}
use Rattle.cb_shapes.specs.Sorts.{sort_of_elements}
use Rattle.cb_shapes.specs.declared.action.Action.{Action}
use Rattle.cb_shapes.specs.declared.action.Action.TheVariants as actions
use Rattle.cb_shapes.specs.declared.sort.Sort.{Sort}
use Rattle.cb_shapes.specs.declared.sort.Sort.TheVariants as sorts
use Rattle.cb_act.specs.Acting.{Asks, Deed, Does, acted, acted_as, arrays_deed, basic_on, call_deed, constant_deed, enter_deed, fits_on, frame_deed, going_on, holder_kind, implementing_deed, interface_deed, need_of, of_frame, of_left, of_pended, on_field, on_kind, on_method, on_static, or_need, receiver_deed, roots_left, running, sized, static_deed, when_ready, with_roots}
use Rattle.cb_act.specs.Classes.{behind_cast, behind_instance, behind_throw, cast, cast_to, is_instance_in, pended, told_kind}
use Rattle.cb_act.specs.Framing.{ByZero, FrameLeft, Leaves, frame_left}
use Rattle.cb_act.specs.Going.{behind_get_static, behind_put_static, behind_return}
use Rattle.cb_act.specs.Objects.{Goes, Left, Throws, behind_get_field, behind_length, behind_load_element, behind_put_field, behind_store_element, behind_store_reference, element_put, element_read, got, length_read, on_element, on_stack, put, put_into, put_on, read_on, reference_put, unless_null, within}
use Rattle.cb_act.specs.declared.need.Need.{Need}
use Rattle.cb_act.specs.declared.need.Need.TheVariants as needs

-- ---- the sites

many : length thrown_sites ≡ 11
many = refl

null_thrown : Contains thrown_sites null_pointer
null_thrown = (0, omega (arith, many), refl)

pub arithmetic_thrown : Contains thrown_sites arithmetic
arithmetic_thrown = (1, omega (arith, many), refl)

index_thrown : Contains thrown_sites array_index
index_thrown = (2, omega (arith, many), refl)

size_thrown : Contains thrown_sites negative_size
size_thrown = (3, omega (arith, many), refl)

store_thrown : Contains thrown_sites array_store
store_thrown = (4, omega (arith, many), refl)

cast_thrown : Contains thrown_sites class_cast
cast_thrown = (5, omega (arith, many), refl)

pub overflow_thrown : Contains thrown_sites stack_overflow
overflow_thrown = (6, omega (arith, many), refl)

definition_thrown : Contains thrown_sites no_class_definition
definition_thrown = (8, omega (arith, many), refl)

change_thrown : Contains thrown_sites incompatible_class_change
change_thrown = (9, omega (arith, many), refl)

abstract_thrown : Contains thrown_sites abstract_method
abstract_thrown = (10, omega (arith, many), refl)

-- ---- what is left, and what is done

abbrev LeftFine : Left → Type 0
LeftFine (Goes view) = Unit {0}
LeftFine (Throws site) = Contains thrown_sites site

abbrev NeedFine : Need → Type 0
NeedFine (needs.Throws site) = Contains thrown_sites site
NeedFine other = Unit {0}

abbrev DeedFine : Deed → Type 0
DeedFine (Does view) = Unit {0}
DeedFine (Asks need) = NeedFine need

abbrev Each : {X : Type 0} → (X → Type 0) → Option X → Type 0
Each P None = Unit {0}
Each P (Some item) = P item

then_each : {X Y : Type 0} (P : Y → Type 0) (f : X → Option Y) → ((item : X) → Each P (f item)) → (found : Option X) → Each P (option_and_then f found)
then_each P f each None = tt
then_each P f each (Some item) = each item

map_each : {X Y : Type 0} (P : Y → Type 0) (f : X → Y) → ((item : X) → P (f item)) → (found : Option X) → Each P (option_map f found)
map_each P f each None = tt
map_each P f each (Some item) = each item

choice : {X : Type 0} (P : X → Type 0) (is : Bool) (one other : X) → P one → P other → P (if is then one else other)
choice P true one other first second = first
choice P false one other first second = second

-- ---- objects

unless_null_fine : (serial : ℕ) (left : Option Left) → Each LeftFine left → Each LeftFine (unless_null serial left)
unless_null_fine zero left fine = null_thrown
unless_null_fine (suc place) left fine = fine

read_on_fine : (view : View) (rest : List Value) (basic : Basic) (content : Option Content) → Each LeftFine (read_on view rest basic content)
read_on_fine view rest basic content = map_each LeftFine (λ content. Goes (on_stack view (value_in basic content ∷ rest))) (λ content. tt) content

put_on_fine : (view : View) (rest : List Value) (object word : ℕ) (content : Content) → Each LeftFine (put_on view rest object word content)
put_on_fine view rest object word content = map_each LeftFine (λ before. Goes (put_into view object word content rest)) (λ before. tt) (object_in view.objects object)

on_element_fine : (view : View) (array : ℕ) (index : ℤ) (left : Option Left) → Each LeftFine left → Each LeftFine (on_element view array index left)
on_element_fine view array index left fine =
    unless_null_fine array (option_and_then (λ found. within view array index left) (object_in view.objects array))
    (then_each LeftFine (λ found. within view array index left)
    (λ found. choice (Each LeftFine) (is_index index (length (contents_at view.objects array))) left (Some (Throws array_index)) fine index_thrown)
    (object_in view.objects array))

got_fine : (view : View) (slot : ℕ) (basic : Basic) (held : List Value × List Value) → Each LeftFine (got view slot basic held)
got_fine view slot basic (Ref object ∷ [], rest) =
    unless_null_fine object (read_on view rest basic (content_at view.objects object slot)) (read_on_fine view rest basic (content_at view.objects object slot))
got_fine view slot basic other = tt

put_fine : (view : View) (slot : ℕ) (basic : Basic) (held : List Value × List Value) → Each LeftFine (put view slot basic held)
put_fine view slot basic (value ∷ Ref object ∷ [], rest) =
    unless_null_fine object (put_on view rest object slot (content_of (kept_value basic value))) (put_on_fine view rest object slot (content_of (kept_value basic value)))
put_fine view slot basic other = tt

element_read_fine : (view : View) (basic : Basic) (held : List Value × List Value) → Each LeftFine (element_read view basic held)
element_read_fine view basic (Int index ∷ Ref array ∷ [], rest) =
    on_element_fine view array index (read_on view rest basic (content_at view.objects array (natural index))) (read_on_fine view rest basic (content_at view.objects array (natural index)))
element_read_fine view basic other = tt

element_put_fine : (view : View) (basic : Basic) (held : List Value × List Value) → Each LeftFine (element_put view basic held)
element_put_fine view basic (value ∷ Int index ∷ Ref array ∷ [], rest) =
    on_element_fine view array index (put_on view rest array (natural index) (content_of (kept_value basic value)))
    (put_on_fine view rest array (natural index) (content_of (kept_value basic value)))
element_put_fine view basic other = tt

reference_put_fine : (view : View) (fits : Bool) (held : List Value × List Value) → Each LeftFine (reference_put view fits held)
reference_put_fine view fits (Ref value ∷ Int index ∷ Ref array ∷ [], rest) =
    on_element_fine view array index (if fits then put_on view rest array (natural index) (content_of (Ref value)) else Some (Throws array_store))
    (choice (Each LeftFine) fits (put_on view rest array (natural index) (content_of (Ref value))) (Some (Throws array_store))
    (put_on_fine view rest array (natural index) (content_of (Ref value))) store_thrown)
reference_put_fine view fits other = tt

length_read_fine : (view : View) (held : List Value × List Value) → Each LeftFine (length_read view held)
length_read_fine view (Ref array ∷ [], rest) =
    unless_null_fine array _ (map_each LeftFine (λ found. Goes (on_stack view (Int (pos (length (contents_at view.objects array))) ∷ rest))) (λ found. tt) (object_in view.objects array))
length_read_fine view other = tt

cast_to_fine : (view : View) (is : Bool) → LeftFine (cast_to view is)
cast_to_fine view true = tt
cast_to_fine view false = cast_thrown

cast_fine : (program : Linked) (kind : ℕ) (view : View) (held : List Value × List Value) → Each LeftFine (cast program kind view held)
cast_fine program kind view (Ref zero ∷ [], rest) = tt
cast_fine program kind view (Ref (suc place) ∷ [], rest) =
    map_each LeftFine (cast_to (on_stack view (Ref (suc place) ∷ rest))) (cast_to_fine (on_stack view (Ref (suc place) ∷ rest))) (is_instance_in program view.objects kind (suc place))
cast_fine program kind view other = tt

told_fine : (program : Linked) (kind : ℕ) (view : View) (held : List Value × List Value) → Each LeftFine (told_kind program kind view held)
told_fine program kind view (Ref object ∷ [], rest) = map_each LeftFine _ (λ is. tt) (is_instance_in program view.objects kind object)
told_fine program kind view other = tt

pended_fine : (view : View) (held : List Value × List Value) → Each LeftFine (pended view held)
pended_fine view (Ref object ∷ [], rest) = unless_null_fine object _ (map_each LeftFine _ (λ found. tt) (object_in view.objects object))
pended_fine view other = tt

-- ---- what is done by what an instruction names

on_field_fine : (program : Linked) (go : ℕ → Basic → Option Deed) → ((slot : ℕ) (basic : Basic) → Each DeedFine (go slot basic)) → (named : Named) → Each DeedFine (on_field program go named)
on_field_fine program go each (meanings.Field class slot) = then_each DeedFine (go slot) (each slot) (field_basic program class slot)
on_field_fine program go each other = tt

on_kind_fine : (go : ℕ → Option Deed) → ((kind : ℕ) → Each DeedFine (go kind)) → (named : Named) → Each DeedFine (on_kind go named)
on_kind_fine go each (meanings.Kind kind) = each kind
on_kind_fine go each other = tt

on_static_fine : (go : ℕ → ℕ → Option Deed) → ((class slot : ℕ) → Each DeedFine (go class slot)) → (named : Named) → Each DeedFine (on_static go named)
on_static_fine go each (meanings.Static class slot) = each class slot
on_static_fine go each other = tt

on_method_fine : (go : ℕ → Option Deed) → ((method : ℕ) → Each DeedFine (go method)) → (named : Named) → Each DeedFine (on_method go named)
on_method_fine go each (meanings.Method method) = each method
on_method_fine go each other = tt

left_fine : (pc : ℕ) (left : Option Left) → Each LeftFine left → Each DeedFine (option_map (of_left pc) left)
left_fine pc None fine = tt
left_fine pc (Some (Goes view)) fine = tt
left_fine pc (Some (Throws site)) fine = fine

going_fine : (decoded : Decoded) (left : Option Left) → Each LeftFine left → Each DeedFine (going_on decoded left)
going_fine decoded left fine = then_each DeedFine (λ pc. option_map (of_left pc) left) (λ pc. left_fine pc left fine) decoded.next

pends_fine : (left : Option Left) → Each LeftFine left → Each DeedFine (option_map of_pended left)
pends_fine None fine = tt
pends_fine (Some (Goes view)) fine = tt
pends_fine (Some (Throws site)) fine = fine

roots_fine : (decoded : Decoded) (view : View) (left : Option Roots) → Each DeedFine (going_on decoded (roots_left view left))
roots_fine decoded view left = going_fine decoded (roots_left view left) (map_each LeftFine (λ roots. Goes (with_roots view roots)) (λ roots. tt) left)

ready_fine : (view : View) (class : ℕ) (ready : Option Deed) → Each DeedFine ready → Each DeedFine (when_ready view class ready)
ready_fine view class ready fine = then_each DeedFine (λ state. or_need ready (need_of class state)) by_state (slice_get view.roots.classes class) where
  by_state : (state : ClassState) → Each DeedFine (or_need ready (need_of class state))
  by_state Untouched = tt
  by_state Failed = definition_thrown
  by_state Busy = fine
  by_state Done = fine

frame_fine : (view : View) (left : FrameLeft) → DeedFine (of_frame view left)
frame_fine view (Leaves roots) = tt
frame_fine view ByZero = tt

-- ---- calls

abbrev without_body : ℕ → Option Native → Deed
without_body method None = Asks (needs.Throws abstract_method)
without_body method (Some native) = Asks (needs.Performs method)

abbrev by_body : Linked → ℕ → View → (method count : ℕ) → Option Body → Deed
by_body program limit view method count None = without_body method (native_of program method)
by_body program limit view method count (Some body) = enter_deed limit view method count body

without_fine : (method : ℕ) (native : Option Native) → DeedFine (without_body method native)
without_fine method None = abstract_thrown
without_fine method (Some native) = tt

body_fine : (program : Linked) (limit : ℕ) (view : View) (method count : ℕ) (body : Option Body) → DeedFine (by_body program limit view method count body)
body_fine program limit view method count None = without_fine method (native_of program method)
body_fine program limit view method count (Some body) =
    choice DeedFine (has_room limit view.roots.frames (body.max_locals + body.max_stack))
    (Does (with_roots view (entered view.roots method count body.max_locals body.max_stack))) (Asks (needs.Throws stack_overflow)) tt overflow_thrown

call_fine : (program : Linked) (limit : ℕ) (view : View) (count : ℕ) (selected : Selected) → Each DeedFine (call_deed program limit view count selected)
call_fine program limit view count (chosen.Method method) =
    map_each DeedFine (λ numbered. by_body program limit view method count numbered.member.body) (λ numbered. body_fine program limit view method count numbered.member.body)
    (method_numbered program method)
call_fine program limit view count chosen.Abstract = abstract_thrown
call_fine program limit view count chosen.Several = change_thrown

static_fine : (program : Linked) (limit : ℕ) (view : View) (method : ℕ) → Each DeedFine (static_deed program limit view method)
static_fine program limit view method =
    then_each DeedFine (λ class. when_ready view class (option_and_then (λ held. call_deed program limit view (length held.0) (chosen.Method method)) (taken (asked_sorts program method) (top_stack view.roots))))
    (λ class. ready_fine view class (option_and_then (λ held. call_deed program limit view (length held.0) (chosen.Method method)) (taken (asked_sorts program method) (top_stack view.roots)))
    (then_each DeedFine (λ held. call_deed program limit view (length held.0) (chosen.Method method)) (λ held. call_fine program limit view (length held.0) (chosen.Method method))
    (taken (asked_sorts program method) (top_stack view.roots))))
    (class_declaring program method)

abbrev on_receiver : View → ℕ → (Object → Option Deed) → Option Deed
on_receiver view zero go = Some (Asks (needs.Throws null_pointer))
on_receiver view (suc place) go = option_and_then go (object_in view.objects (suc place))

abbrev received : Linked → ℕ → View → (ℕ → Selected) → (count : ℕ) → List Value → Option Deed
received program limit view choose count (Ref serial ∷ arguments) = on_receiver view serial (λ object. call_deed program limit view count (choose object.kind))
received program limit view choose count other = None

on_receiver_fine : (view : View) (serial : ℕ) (go : Object → Option Deed) → ((object : Object) → Each DeedFine (go object)) → Each DeedFine (on_receiver view serial go)
on_receiver_fine view zero go each = null_thrown
on_receiver_fine view (suc place) go each = then_each DeedFine go each (object_in view.objects (suc place))

received_fine : (program : Linked) (limit : ℕ) (view : View) (choose : ℕ → Selected) (count : ℕ) (held : List Value) → Each DeedFine (received program limit view choose count held)
received_fine program limit view choose count (Ref serial ∷ arguments) =
    on_receiver_fine view serial (λ object. call_deed program limit view count (choose object.kind)) (λ object. call_fine program limit view count (choose object.kind))
received_fine program limit view choose count other = tt

receiver_fine : (program : Linked) (limit : ℕ) (view : View) (choose : ℕ → Selected) (method : ℕ) → Each DeedFine (receiver_deed program limit view choose method)
receiver_fine program limit view choose method =
    then_each DeedFine (λ held. received program limit view choose (length held.0) (reverse held.0)) (λ held. received_fine program limit view choose (length held.0) (reverse held.0))
    (taken (asked_sorts program method ++ sorts.Reference ∷ []) (top_stack view.roots))

interface_fine : (program : Linked) (limit : ℕ) (view : View) (caller index method : ℕ) → Each DeedFine (interface_deed program limit view caller index method)
interface_fine program limit view caller index method =
    choice (Each DeedFine) (is_private_method program method) (Some (Asks (needs.Throws incompatible_class_change))) (implementing_deed program limit view caller index method) change_thrown
    (receiver_fine program limit view (implementing program method (holder_kind program caller index)) method)

-- ---- instructions

arrays_fine : (view : View) (dimensions : ℕ) → Each DeedFine (arrays_deed view dimensions)
arrays_fine view dimensions =
    map_each DeedFine sized (λ held. choice DeedFine (list_all is_size held.0) (Asks needs.Makes) (Asks (needs.Throws negative_size)) tt size_thrown)
    (taken (replicate dimensions sorts.Int) (top_stack view.roots))

module _ (program : Linked) (limit : ℕ) (decoded : Decoded) (view : View) where
  constant_fine : (named : Named) → Each DeedFine (constant_deed decoded view named)
  constant_fine (meanings.Whole value) = roots_fine decoded view (Some (pushed view.roots value))
  constant_fine other = tt

  framed : (action : Action) → Each DeedFine (frame_deed decoded view action)
  framed action = map_each DeedFine (of_frame view) (frame_fine view) (frame_left action (or_zero decoded.next) (or_zero decoded.target) view.roots)

  loads_fine : (sort : Sort) → Each DeedFine (going_on decoded (behind_load_element (basic_on program sort view 1) view))
  loads_fine sort =
      going_fine decoded (behind_load_element (basic_on program sort view 1) view)
      (then_each LeftFine (element_read view (basic_on program sort view 1)) (element_read_fine view (basic_on program sort view 1)) (taken (sorts.Int ∷ sorts.Reference ∷ []) (top_stack view.roots)))

  stores_fine : (sort : Sort) → Each DeedFine (going_on decoded (behind_store_element sort (basic_on program sort view 2) view))
  stores_fine sort =
      going_fine decoded (behind_store_element sort (basic_on program sort view 2) view)
      (then_each LeftFine (element_put view (basic_on program sort view 2)) (element_put_fine view (basic_on program sort view 2)) (taken (sort ∷ sorts.Int ∷ sorts.Reference ∷ []) (top_stack view.roots)))

  fine : (action : Action) → Each DeedFine (acted_as program limit decoded view action)
  fine (actions.Constant index) = constant_fine decoded.named
  fine actions.Switch = tt
  fine (actions.LoadNumber elements) = loads_fine (sort_of_elements elements)
  fine (actions.StoreNumber elements) = stores_fine (sort_of_elements elements)
  fine actions.Length = going_fine decoded (behind_length view) (then_each LeftFine (length_read view) (length_read_fine view) (taken (sorts.Reference ∷ []) (top_stack view.roots)))
  fine actions.LoadReference = loads_fine sorts.Reference
  fine actions.StoreReference =
      going_fine decoded (behind_store_reference (fits_on program view) view)
      (then_each LeftFine (reference_put view (fits_on program view)) (reference_put_fine view (fits_on program view))
      (taken (sorts.Reference ∷ sorts.Int ∷ sorts.Reference ∷ []) (top_stack view.roots)))
  fine (actions.GetField index) =
      on_field_fine program (λ slot basic. going_on decoded (behind_get_field slot basic view))
      (λ slot basic. going_fine decoded (behind_get_field slot basic view)
      (then_each LeftFine (got view slot basic) (got_fine view slot basic) (taken (sorts.Reference ∷ []) (top_stack view.roots)))) decoded.named
  fine (actions.PutField index) =
      on_field_fine program (λ slot basic. going_on decoded (behind_put_field slot basic view))
      (λ slot basic. going_fine decoded (behind_put_field slot basic view)
      (then_each LeftFine (put view slot basic) (put_fine view slot basic) (taken (sort_of_basic basic ∷ sorts.Reference ∷ []) (top_stack view.roots)))) decoded.named
  fine (actions.GetStatic index) =
      on_static_fine _ (λ class slot. ready_fine view class (going_on decoded (roots_left view (behind_get_static slot view.roots)))
      (roots_fine decoded view (behind_get_static slot view.roots))) decoded.named
  fine (actions.PutStatic index) =
      on_static_fine _ (λ class slot. ready_fine view class (option_and_then (λ basic. going_on decoded (roots_left view (behind_put_static slot basic view.roots))) (static_basic program slot))
      (then_each DeedFine (λ basic. going_on decoded (roots_left view (behind_put_static slot basic view.roots)))
      (λ basic. roots_fine decoded view (behind_put_static slot basic view.roots)) (static_basic program slot))) decoded.named
  fine (actions.New index) =
      on_kind_fine _ (λ kind. then_each DeedFine (λ class. when_ready view class (Some (Asks needs.Makes)))
      (λ class. ready_fine view class (Some (Asks needs.Makes)) tt) (class_of_kind program kind)) decoded.named
  fine (actions.NewNumbers code) = arrays_fine view 1
  fine (actions.NewReferences index) = arrays_fine view 1
  fine (actions.NewArrays index dimensions) = arrays_fine view dimensions
  fine (actions.Cast index) =
      on_kind_fine _ (λ kind. going_fine decoded (behind_cast program kind view)
      (then_each LeftFine (cast program kind view) (cast_fine program kind view) (taken (sorts.Reference ∷ []) (top_stack view.roots)))) decoded.named
  fine (actions.IsInstance index) =
      on_kind_fine _ (λ kind. going_fine decoded (behind_instance program kind view)
      (then_each LeftFine (told_kind program kind view) (told_fine program kind view) (taken (sorts.Reference ∷ []) (top_stack view.roots)))) decoded.named
  fine actions.Throw = pends_fine (behind_throw view) (then_each LeftFine (pended view) (pended_fine view) (taken (sorts.Reference ∷ []) (top_stack view.roots)))
  fine (actions.Return sort) = map_each DeedFine (λ roots. Does (with_roots view roots)) (λ roots. tt) (behind_return program sort view.roots)
  fine (actions.InvokeStatic index) = on_method_fine (static_deed program limit view) (static_fine program limit view) decoded.named
  fine (actions.InvokeSpecial index) =
      on_method_fine (receiver_deed program limit view (λ kind. decoded.selected)) (receiver_fine program limit view (λ kind. decoded.selected)) decoded.named
  fine (actions.InvokeVirtual index) =
      on_method_fine (λ method. receiver_deed program limit view (λ kind. select program kind method) method)
      (λ method. receiver_fine program limit view (λ kind. select program kind method) method) decoded.named
  fine (actions.InvokeInterface index count) =
      then_each DeedFine (λ caller. on_method (interface_deed program limit view caller index) decoded.named)
      (λ caller. on_method_fine (interface_deed program limit view caller index) (interface_fine program limit view caller index) decoded.named) (running view.roots)
  fine (actions.Compute computation) = framed (actions.Compute computation)
  fine actions.Null = framed actions.Null
  fine (actions.Load sort local) = framed (actions.Load sort local)
  fine (actions.Store sort local) = framed (actions.Store sort local)
  fine (actions.Increase local by) = framed (actions.Increase local by)
  fine (actions.Shuffle shuffle) = framed (actions.Shuffle shuffle)
  fine (actions.Branch condition) = framed (actions.Branch condition)

  pub thrown_site : (site : ℕ) → acted program limit decoded view ≡ Some (Asks (needs.Throws site)) → Contains thrown_sites site
  thrown_site site is = subst (Each DeedFine) is (then_each DeedFine (acted_as program limit decoded view) fine decoded.action)
