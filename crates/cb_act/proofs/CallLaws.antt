-- What calls and instructions that make arrays do, by what they find on the stack.
use Rattle.std.proofs.Common.{◌≡◌, ◌∙◌, ap, ap₂, arith, refl, sym, ℕ, ℤ, pos, negsuc, ◌+◌, ◌*◌, ◌≤◌, ◌<◌, Bool, true, false, ◌&&◌, nat_le, nat_lt, List, [], ◌∷◌, ◌++◌, drop, get_or, length, length-append, map, replicate, reverse, take, Option, Some, None, zero, suc, IsTrue}
use Rattle.std.proofs.lemmas.Bool.{false≢true, ltb-true}
use lib.Signed.{lt_z}
use Rattle.std.proofs.lemmas.List.{get_or-take, length-map, length-replicate, length-reverse, length-take, length-take-le, reverse-append, take-map, take_more}
use Rattle.std.proofs.lemmas.List.Folds.{list_all_at, list_all_more}
use Rattle.std.proofs.lemmas.Option.{get_or_from_slice_get, none-some, same_Some, slice_get-map, slice_get_within}
use Rattle.std.specs.Prelude.{is_some, option_and_then, option_map, slice_get, if◌then◌else◌}
use Rattle.std.specs.List.{flat_map, fold, list_all}
use Rattle.cb_classfile.specs.Flags.{acc_native}
use Rattle.cb_classfile.specs.declared.body.Body.{Body}
use Rattle.cb_classfile.specs.declared.method.Method.{Method}
use Rattle.cb_frames.specs.Tops.{arguments_of, entered, top_stack}
use Rattle.cb_heap.proofs.Laws.{reads_arguments, reads_entered, reads_stack}
use Rattle.cb_heap.specs.Kept.{is_held, is_kept}
use Rattle.cb_heap.specs.Reading.{View, read_frame, read_roots, read_value, seen, serial_of}
use Rattle.cb_hierarchy.specs.declared.selected.Selected.{Selected}
use Rattle.cb_hierarchy.specs.declared.selected.Selected.TheVariants as chosen
use Rattle.cb_library.specs.declared.native.Native.{Native}
use Rattle.cb_link.specs.Having.{parameters_at}
use Rattle.cb_link.specs.Numbers.{Numbered, has_flag}
use Rattle.cb_link.specs.Program.{Linked}
use Rattle.cb_machine.specs.Calling.{asked_sorts}
use Rattle.cb_machine.specs.Creating.{is_size}
use Rattle.cb_machine.specs.Machine.{method_numbered}
use Rattle.cb_machine.specs.Natives.{native_of}
use Rattle.cb_machine.specs.Sites.{abstract_method, negative_size, null_pointer, stack_overflow}
use Rattle.cb_machine.specs.Standing.{same_sort, taken}
use Rattle.cb_machine.specs.Values.{sort_of, sort_of_basic}
use Rattle.cb_plain.specs.Depth.{has_room, slots_each, slots_in, slots_of}
use Rattle.cb_plain.specs.declared.class_state.ClassState.{ClassState}
use Rattle.cb_plain.specs.declared.value.Value.{Value}
use Rattle.cb_plain.specs.declared.value.Value.TheVariants as values
use Rattle.cb_plain.specs.State.{Frame, Initialising, Object, OfMethod, Roots}
use Rattle.cb_plain.specs.Updates.{object_in}
use Rattle.cb_shapes.specs.declared.sort.Sort.{Sort}
use Rattle.cb_shapes.specs.declared.sort.Sort.TheVariants as sorts
use Rattle.cb_act.specs.Acting.{Asks, Deed, Does, MarksNatives, arrays_deed, call_deed, enter_deed, need_of, or_need, receiver_deed, sized, static_deed, when_ready, with_receiver}
use Rattle.cb_act.specs.Effects.{has_sort}
use Rattle.cb_act.specs.Objects.{object_on}
use Rattle.cb_act.specs.declared.need.Need.{Need}
use Rattle.cb_act.specs.declared.need.Need.TheVariants as needs
use Rattle.cb_act.proofs.FieldLaws.{object_so}
use Rattle.cb_act.proofs.Taken.{stands}

-- what is taken is the front of the stack
abbrev onto : Value → List Value × List Value → List Value × List Value
onto value below = (value ∷ below.0, below.1)

found_map : {A B : Type 0} (f : A → B) (some : Option A) → is_some (option_map f some) ≡ true → is_some some ≡ true
found_map f None is = is
found_map f (Some a) is = refl

found : {A B : Type 0} (f : A → Option B) (some : Option A) → is_some (option_and_then f some) ≡ true → is_some some ≡ true
found f None is = is
found f (Some a) is = refl

pub taken_is : (asked : List Sort) (stack : List Value) → is_some (taken asked stack) ≡ true → taken asked stack ≡ Some (take (length asked) stack, drop (length asked) stack)
taken_is [] stack is = refl
taken_is (sort ∷ asked) [] is = absurd (false≢true is)
taken_is (sort ∷ asked) (value ∷ stack) is = go (taken_is asked stack) (same_sort (sort_of value) sort) refl where
  go : (is_some (taken asked stack) ≡ true → taken asked stack ≡ Some (take (length asked) stack, drop (length asked) stack))
      → (same : Bool) → same_sort (sort_of value) sort ≡ same
      → taken (sort ∷ asked) (value ∷ stack) ≡ Some (value ∷ take (length asked) stack, drop (length asked) stack)
  go further false so =
      let none : is_some (taken (sort ∷ asked) (value ∷ stack)) ≡ false = rw so refl in absurd (false≢true (sym none ∙ is))
  go further true so =
      let more : taken (sort ∷ asked) (value ∷ stack) ≡ option_map (onto value) (taken asked stack) = rw so refl in
      more ∙ ap (option_map (onto value)) (further (found_map (onto value) (taken asked stack) (sym (ap is_some more) ∙ is)))

-- which has as many values as are asked for
taken_count : (asked : List Sort) (stack : List Value) → is_some (taken asked stack) ≡ true → length asked ≤ length stack
taken_count [] stack is = omega arith
taken_count (sort ∷ asked) [] is = absurd (false≢true is)
taken_count (sort ∷ asked) (value ∷ stack) is = go (taken_count asked stack) (same_sort (sort_of value) sort) refl where
  go : (is_some (taken asked stack) ≡ true → length asked ≤ length stack) → (same : Bool) → same_sort (sort_of value) sort ≡ same
      → suc (length asked) ≤ suc (length stack)
  go further false so =
      let none : is_some (taken (sort ∷ asked) (value ∷ stack)) ≡ false = rw so refl in absurd (false≢true (sym none ∙ is))
  go further true so =
      let more : is_some (taken (sort ∷ asked) (value ∷ stack)) ≡ is_some (option_map (onto value) (taken asked stack)) = rw so refl in
      let rest : length asked ≤ length stack = further (found_map (onto value) (taken asked stack) (sym more ∙ is)) in
      omega (arith, rest)

-- and on the stack of roots that are read
module _ (index : ℕ → ℕ) (held : Roots) where
  abbrev read_stack : List Value
  read_stack = top_stack (read_roots index held)

  read_count : length read_stack ≡ length (top_stack held)
  read_count = ap length (reads_stack index held) ∙ length-map (top_stack held) (read_value index)

  pub asked_count : (asked : List Sort) → is_some (taken asked read_stack) ≡ true → length asked ≤ length (top_stack held)
  asked_count asked is = omega (arith, taken_count asked read_stack is, read_count)

  pub sort_there : (asked : List Sort) → is_some (taken asked read_stack) ≡ true → (depth : ℕ) (sort : Sort) → slice_get asked depth ≡ Some sort
      → has_sort sort (slice_get (top_stack held) depth) ≡ true
  sort_there asked is depth sort at = stands index held same asked (whole (taken asked read_stack) is) depth sort at where
    same : List Value × List Value → Option (List Value × List Value)
    same taken = Some taken

    whole : (some : Option (List Value × List Value)) → is_some some ≡ true → is_some (option_and_then (λ (taken : List Value × List Value). Some taken) some) ≡ true
    whole None is = is
    whole (Some taken) is = refl

-- sizes of arrays
replicate_at : {X : Type 0} (item : X) (count place : ℕ) → place < count → slice_get (replicate count item) place ≡ Some item
replicate_at item zero place low = absurd (omega (arith, low))
replicate_at item (suc count) zero low = refl
replicate_at item (suc count) (suc place) low = replicate_at item count place (omega (arith, low))

size_read : (index : ℕ → ℕ) (value : Value) → is_size (read_value index value) ≡ is_size value
size_read index (values.Int (pos number)) = refl
size_read index (values.Int (negsuc number)) = refl
size_read index (values.Long number) = refl
size_read index (values.Ref place) = refl

sizes_read : (index : ℕ → ℕ) (stack : List Value) → list_all is_size (map (read_value index) stack) ≡ list_all is_size stack
sizes_read index [] = refl
sizes_read index (value ∷ stack) = rw (size_read index value, sizes_read index stack) refl

positive_size : (number : ℤ) → lt_z number (pos 0) ≡ false → is_size (values.Int number) ≡ true
positive_size (pos number) low = refl
positive_size (negsuc number) low = absurd (false≢true (sym low))

negative_no_size : (number : ℤ) → lt_z number (pos 0) ≡ true → is_size (values.Int number) ≡ false
negative_no_size (pos number) high = let low : number < 0 = ltb-true number 0 high in absurd (omega (arith, low))
negative_no_size (negsuc number) high = refl

module _ (index : ℕ → ℕ) (objects : List (Option Object)) (held : Roots) (count : ℕ) where
  pub ints_there : is_some (arrays_deed (seen index objects held) count) ≡ true → (depth : ℕ) → depth < count → has_sort sorts.Int (slice_get (top_stack held) depth) ≡ true
  ints_there is depth low =
      sort_there index held (replicate count sorts.Int) (found_map sized (taken (replicate count sorts.Int) (top_stack (read_roots index held))) is) depth sorts.Int
      (replicate_at sorts.Int count depth low)

  pub sizes_count : is_some (arrays_deed (seen index objects held) count) ≡ true → count ≤ length (top_stack held)
  sizes_count is =
      omega (arith, asked_count index held (replicate count sorts.Int) (found_map sized (taken (replicate count sorts.Int) (top_stack (read_roots index held))) is), length-replicate count sorts.Int)

  pub sizes_so : is_some (arrays_deed (seen index objects held) count) ≡ true → (are : Bool) → list_all is_size (take count (top_stack held)) ≡ are
      → arrays_deed (seen index objects held) count ≡ Some (if are then Asks needs.Makes else Asks (needs.Throws negative_size))
  sizes_so is are so =
      ap (option_map sized) (taken_is (replicate count sorts.Int) (top_stack (read_roots index held)) (found_map sized (taken (replicate count sorts.Int) (top_stack (read_roots index held))) is))
      ∙ ap (λ (are : Bool). Some (if are then Asks needs.Makes else Asks (needs.Throws negative_size)))
      (ap (λ (count : ℕ). list_all is_size (take count (top_stack (read_roots index held)))) (length-replicate count sorts.Int)
      ∙ ap (λ (stack : List Value). list_all is_size (take count stack)) (reads_stack index held)
      ∙ ap (list_all is_size) (take-map (read_value index) count (top_stack held))
      ∙ sizes_read index (take count (top_stack held))
      ∙ so)

  -- one more, or one that isn't a size
  pub size_next : (depth : ℕ) (number : ℤ) → slice_get (top_stack held) depth ≡ Some (values.Int number) → lt_z number (pos 0) ≡ false
      → list_all is_size (take depth (top_stack held)) ≡ true → list_all is_size (take (depth + 1) (top_stack held)) ≡ true
  size_next depth number at low before =
      list_all_more is_size (top_stack held) depth (values.Int number) (slice_get_within (top_stack held) depth (values.Int number) at)
      ∙ rw (before, get_or_from_slice_get (top_stack held) depth (values.Int number) (values.Int number) at, positive_size number low) refl

  pub no_size : (depth : ℕ) (number : ℤ) → depth < count → slice_get (top_stack held) depth ≡ Some (values.Int number) → lt_z number (pos 0) ≡ true
      → list_all is_size (take count (top_stack held)) ≡ false
  no_size depth number low at high =
      let within : depth < length (top_stack held) = slice_get_within (top_stack held) depth (values.Int number) at in
      list_all_at is_size (take count (top_stack held)) depth (values.Int number) (omega (arith, low, within, length-take count (top_stack held)))
      (ap is_size (get_or-take count (top_stack held) depth (values.Int number) low ∙ get_or_from_slice_get (top_stack held) depth (values.Int number) (values.Int number) at)
      ∙ negative_no_size number high)

-- frames that are read take as many slots
taken_read : (index : ℕ → ℕ) (frames : List Frame) (sum : ℕ)
    → fold (λ sum frame. sum + slots_in frame) sum (map (read_frame index) frames) ≡ fold (λ sum frame. sum + slots_in frame) sum frames
taken_read index [] sum = refl
taken_read index (OfMethod frame ∷ below) sum = taken_read index below (sum + frame.slots)
taken_read index (Initialising class place ∷ below) sum = taken_read index below (sum + 0)

room_read : (index : ℕ → ℕ) (held : Roots) (limit slots : ℕ) → has_room limit (read_roots index held).frames slots ≡ has_room limit held.frames slots
room_read index held limit slots =
    ap₂ (λ (count taken : ℕ). nat_lt count limit && nat_le (taken + slots) (slots_each * limit)) (length-map held.frames (read_frame index)) (taken_read index held.frames 0)

-- and so do arguments
slots_read : (index : ℕ → ℕ) (held : List Value) → length (flat_map slots_of (map (read_value index) held)) ≡ length (flat_map slots_of held)
slots_read index [] = refl
slots_read index (values.Int number ∷ held) = ap suc (slots_read index held)
slots_read index (values.Long number ∷ held) = ap (λ (count : ℕ). suc (suc count)) (slots_read index held)
slots_read index (values.Ref place ∷ held) = ap suc (slots_read index held)

pub arguments_read : (index : ℕ → ℕ) (held : Roots) (count : ℕ)
    → length (flat_map slots_of (arguments_of (read_roots index held) count)) ≡ length (flat_map slots_of (arguments_of held count))
arguments_read index held count =
    ap (λ (arguments : List Value). length (flat_map slots_of arguments)) (sym (reads_arguments index held count)) ∙ slots_read index (arguments_of held count)

-- a method by its number
module _ (program : Linked) (method : ℕ) (member : Method) (is : option_map (λ numbered. numbered.member) (method_numbered program method) ≡ Some member) where
  pub numbered_so : {P : Type 0} → ((numbered : Numbered Method) → method_numbered program method ≡ Some numbered → numbered.member ≡ member → P) → P
  numbered_so {P} so = go (method_numbered program method) refl is where
    go : (found : Option (Numbered Method)) → method_numbered program method ≡ found → option_map (λ numbered. numbered.member) found ≡ Some member → P
    go None there is = absurd (none-some member is)
    go (Some numbered) there is = so numbered there (same_Some numbered.member member is)

  -- one without code is a native, or abstract
  pub marked_so : MarksNatives program → member.body ≡ None → is_some (native_of program method) ≡ has_flag acc_native member.flags.0
  marked_so natives none =
      numbered_so (λ numbered there same.
      natives method numbered there (ap (λ (member : Method). member.body) same ∙ none) ∙ ap (λ (member : Method). has_flag acc_native member.flags.0) same)

  module _ (limit count : ℕ) (view : View) where
    pub native_so : member.body ≡ None → (native : Bool) → is_some (native_of program method) ≡ native
        → call_deed program limit view count (chosen.Method method) ≡ Some (if native then Asks (needs.Performs method) else Asks (needs.Throws abstract_method))
    native_so none native is =
        numbered_so (λ numbered there same. by numbered there (ap (λ (member : Method). member.body) same ∙ none) (native_of program method) refl native is) where
          by : (numbered : Numbered Method) → method_numbered program method ≡ Some numbered → numbered.member.body ≡ None
              → (found : Option Native) → native_of program method ≡ found → (native : Bool) → is_some (native_of program method) ≡ native
              → call_deed program limit view count (chosen.Method method) ≡ Some (if native then Asks (needs.Performs method) else Asks (needs.Throws abstract_method))
          by numbered there body None at true is = absurd (false≢true (sym (ap is_some at) ∙ is))
          by numbered there body None at false is = rw (there, body, at) refl
          by numbered there body (Some native) at true is = rw (there, body, at) refl
          by numbered there body (Some native) at false is = absurd (false≢true (sym is ∙ ap is_some at))

    -- and one with code is entered
    pub entering_so : (body : Body) → member.body ≡ Some body → call_deed program limit view count (chosen.Method method) ≡ Some (enter_deed limit view method count body)
    entering_so body has =
        numbered_so (λ numbered there same. let own : numbered.member.body ≡ Some body = ap (λ (member : Method). member.body) same ∙ has in rw (there, own) refl)

-- where there is room for its frame
module _ (index : ℕ → ℕ) (objects : List (Option Object)) (held : Roots) (limit method count : ℕ) (body : Body) where
  pub entered_so : true ≡ has_room limit held.frames (body.max_locals + body.max_stack)
      → enter_deed limit (seen index objects held) method count body ≡ Does (seen index objects (entered held method count body.max_locals body.max_stack))
  entered_so is =
      let room : has_room limit (read_roots index held).frames (body.max_locals + body.max_stack) ≡ true =
      room_read index held limit (body.max_locals + body.max_stack) ∙ sym is in
      rw room (ap (λ (roots : Roots). Does (record { roots = roots; objects = objects })) (sym (reads_entered index held method count body.max_locals body.max_stack)))

  pub deep_so : false ≡ has_room limit held.frames (body.max_locals + body.max_stack)
      → enter_deed limit (seen index objects held) method count body ≡ Asks (needs.Throws stack_overflow)
  deep_so is =
      let room : has_room limit (read_roots index held).frames (body.max_locals + body.max_stack) ≡ false =
      room_read index held limit (body.max_locals + body.max_stack) ∙ sym is in
      rw room refl

-- what a call asks for
asked_length : (program : Linked) (method : ℕ) → length (asked_sorts program method) ≡ length (parameters_at program method)
asked_length program method =
    length-reverse (map sort_of_basic (parameters_at program method)) ∙ length-map (parameters_at program method) sort_of_basic

-- a class that may be used
pub ready_so : (view : View) (class : ℕ) (ready : Option Deed) (need : Option Need) → option_map (need_of class) (slice_get view.roots.classes class) ≡ Some need
    → when_ready view class ready ≡ or_need ready need
ready_so view class ready need is = go (slice_get view.roots.classes class) refl is where
  go : (found : Option ClassState) → slice_get view.roots.classes class ≡ found → option_map (need_of class) found ≡ Some need → when_ready view class ready ≡ or_need ready need
  go None there is = absurd (none-some need is)
  go (Some state) there is = rw there (ap (or_need ready) (same_Some (need_of class state) need is))

module _ (program : Linked) (method class : ℕ) (index : ℕ → ℕ) (objects : List (Option Object)) (held : Roots)
    (declares : option_map (λ linked. linked.class) (slice_get program.methods method) ≡ Some class)
    (ready : option_map (need_of class) (slice_get held.classes class) ≡ Some None) where
  abbrev invoked_by : ℕ → List Value × List Value → Option Deed
  invoked_by limit taken = call_deed program limit (seen index objects held) (length taken.0) (chosen.Method method)

  static_open : (limit : ℕ) → static_deed program limit (seen index objects held) method
      ≡ option_and_then (invoked_by limit) (taken (asked_sorts program method) (top_stack (read_roots index held)))
  static_open limit =
      rw declares
      (ready_so (seen index objects held) class (option_and_then (invoked_by limit) (taken (asked_sorts program method) (top_stack (read_roots index held)))) None ready)

  pub static_taken : (limit : ℕ) → is_some (static_deed program limit (seen index objects held) method) ≡ true
      → is_some (taken (asked_sorts program method) (top_stack (read_roots index held))) ≡ true
  static_taken limit is =
      found (invoked_by limit) (taken (asked_sorts program method) (top_stack (read_roots index held))) (sym (ap is_some (static_open limit)) ∙ is)

  pub static_count : is_some (taken (asked_sorts program method) (top_stack (read_roots index held))) ≡ true → (count : ℕ) → count ≡ length (parameters_at program method)
      → count ≤ length (top_stack held)
  static_count is count same = omega (arith, same, asked_length program method, asked_count index held (asked_sorts program method) is)

  pub static_so : is_some (taken (asked_sorts program method) (top_stack (read_roots index held))) ≡ true → (count : ℕ) → count ≡ length (parameters_at program method) → (limit : ℕ)
      → static_deed program limit (seen index objects held) method ≡ call_deed program limit (seen index objects held) count (chosen.Method method)
  static_so is count same limit =
      static_open limit
      ∙ ap (option_and_then (invoked_by limit)) (taken_is (asked_sorts program method) (top_stack (read_roots index held)) is)
      ∙ ap (λ (count : ℕ). call_deed program limit (seen index objects held) count (chosen.Method method))
      (length-take-le (length (asked_sorts program method)) (top_stack (read_roots index held)) (taken_count (asked_sorts program method) (top_stack (read_roots index held)) is)
      ∙ asked_length program method ∙ sym same)

-- a call with a receiver
append_at : {X : Type 0} (items : List X) (item : X) → slice_get (items ++ item ∷ []) (length items) ≡ Some item
append_at [] item = refl
append_at (first ∷ items) item = append_at items item

abbrev on_receiver_as : View → ℕ → (Object → Option Deed) → Option Deed
on_receiver_as view zero go = Some (Asks (needs.Throws null_pointer))
on_receiver_as view (suc place) go = option_and_then go (object_in view.objects (suc place))

abbrev received_as : Linked → ℕ → View → (ℕ → Selected) → (count : ℕ) → List Value → Option Deed
received_as program limit view choose count (values.Ref serial ∷ arguments) =
    on_receiver_as view serial (λ object. call_deed program limit view count (choose object.kind))
received_as program limit view choose count other = None

module _ (program : Linked) (method : ℕ) (index : ℕ → ℕ) (objects : List (Option Object)) (held : Roots) (count : ℕ) (same : count ≡ length (parameters_at program method)) where
  abbrev asked : List Sort
  asked = asked_sorts program method ++ sorts.Reference ∷ []

  abbrev stack : List Value
  stack = top_stack (read_roots index held)

  abbrev Taken : Type 0
  Taken = is_some (taken asked stack) ≡ true

  own_count : length (asked_sorts program method) ≡ count
  own_count = asked_length program method ∙ sym same

  all_count : length asked ≡ count + 1
  all_count = omega (arith, length-append (asked_sorts program method) (sorts.Reference ∷ []), own_count)

  pub receiver_taken : (limit : ℕ) (choose : ℕ → Selected) → is_some (receiver_deed program limit (seen index objects held) choose method) ≡ true → Taken
  receiver_taken limit choose is = found (with_receiver program limit (seen index objects held) choose) (taken asked stack) is

  pub receiver_sort : Taken → has_sort sorts.Reference (slice_get (top_stack held) count) ≡ true
  receiver_sort is =
      sort_there index held asked is count sorts.Reference (ap (slice_get asked) (sym own_count) ∙ append_at (asked_sorts program method) sorts.Reference)

  pub receiver_count : Taken → count + 1 ≤ length (top_stack held)
  receiver_count is = omega (arith, all_count, asked_count index held asked is)

  module _ (is : Taken) (at : ℕ) (on_stack : slice_get (top_stack held) count ≡ Some (values.Ref at)) where
    read_there : slice_get stack count ≡ Some (values.Ref (serial_of index at))
    read_there =
        ap (λ (stack : List Value). slice_get stack count) (reads_stack index held)
        ∙ slice_get-map (read_value index) (top_stack held) count ∙ ap (option_map (read_value index)) on_stack

    front_so : reverse (take (length asked) stack) ≡ values.Ref (serial_of index at) ∷ reverse (take count stack)
    front_so =
        ap (λ (count : ℕ). reverse (take count stack)) all_count
        ∙ ap reverse (take_more stack count (values.Ref 0) (slice_get_within stack count (values.Ref (serial_of index at)) read_there))
        ∙ reverse-append (take count stack) (get_or stack count (values.Ref 0) ∷ [])
        ∙ ap (λ (value : Value). value ∷ reverse (take count stack)) (get_or_from_slice_get stack count (values.Ref (serial_of index at)) (values.Ref 0) read_there)

    pub receiver_open : (limit : ℕ) (choose : ℕ → Selected) → receiver_deed program limit (seen index objects held) choose method
        ≡ on_receiver_as (seen index objects held) (serial_of index at) (λ object. call_deed program limit (seen index objects held) (count + 1) (choose object.kind))
    receiver_open limit choose =
        ap (option_and_then (with_receiver program limit (seen index objects held) choose)) (taken_is asked stack is)
        ∙ ap (λ (number : ℕ). received_as program limit (seen index objects held) choose number (reverse (take (length asked) stack)))
        (length-take-le (length asked) stack (taken_count asked stack is) ∙ all_count)
        ∙ ap (received_as program limit (seen index objects held) choose (count + 1)) front_so

    pub null_receiver : at ≡ 0 → (limit : ℕ) (choose : ℕ → Selected)
        → receiver_deed program limit (seen index objects held) choose method ≡ Some (Asks (needs.Throws null_pointer))
    null_receiver none limit choose =
        receiver_open limit choose
        ∙ ap (λ (at : ℕ). on_receiver_as (seen index objects held) (serial_of index at) (λ object. call_deed program limit (seen index objects held) (count + 1) (choose object.kind))) none

    pub kind_receiver : (at ≡ 0 → ⊥) → (kind : ℕ) → option_map (λ object. object.kind) (object_in objects (serial_of index at)) ≡ Some kind → (limit : ℕ) (choose : ℕ → Selected)
        → receiver_deed program limit (seen index objects held) choose method ≡ call_deed program limit (seen index objects held) (count + 1) (choose kind)
    kind_receiver some kind is limit choose =
        receiver_open limit choose ∙ go at some (object_in objects (serial_of index at)) refl is where
          go : (at : ℕ) → (at ≡ 0 → ⊥) → (found : Option Object) → object_in objects (serial_of index at) ≡ found → option_map (λ object. object.kind) found ≡ Some kind
              → on_receiver_as (seen index objects held) (serial_of index at) (λ object. call_deed program limit (seen index objects held) (count + 1) (choose object.kind))
              ≡ call_deed program limit (seen index objects held) (count + 1) (choose kind)
          go zero some found there is = absurd (some refl)
          go (suc place) some None there is = absurd (none-some kind is)
          go (suc place) some (Some object) there is =
              rw there (ap (λ (kind : ℕ). call_deed program limit (seen index objects held) (count + 1) (choose kind)) (same_Some object.kind kind is))

    -- the object of a receiver that is held and isn't null is kept
    pub receiver_kept : ((depth : ℕ) → IsTrue (is_held objects (object_on (seen index objects held) depth))) → (at ≡ 0 → ⊥) → IsTrue (is_kept objects (serial_of index at))
    receiver_kept each some = go at some (ap (is_held objects) (sym (object_so index objects held count at on_stack)) ∙ each count) where
      go : (at : ℕ) → (at ≡ 0 → ⊥) → IsTrue (is_held objects (serial_of index at)) → IsTrue (is_kept objects (serial_of index at))
      go zero some is = absurd (some refl)
      go (suc place) some is = is

    pub special_receiver : ((depth : ℕ) → IsTrue (is_held objects (object_on (seen index objects held) depth))) → (at ≡ 0 → ⊥) → (special : Selected) (limit : ℕ)
        → receiver_deed program limit (seen index objects held) (λ kind. special) method ≡ call_deed program limit (seen index objects held) (count + 1) special
    special_receiver each some special limit = go (object_in objects (serial_of index at)) refl where
      go : (found : Option Object) → object_in objects (serial_of index at) ≡ found
          → receiver_deed program limit (seen index objects held) (λ kind. special) method ≡ call_deed program limit (seen index objects held) (count + 1) special
      go None there =
          let never : is_kept objects (serial_of index at) ≡ false = ap is_some there in absurd (false≢true (sym never ∙ receiver_kept each some))
      go (Some object) there = kind_receiver some object.kind (ap (option_map (λ object. object.kind)) there) limit (λ kind. special)
