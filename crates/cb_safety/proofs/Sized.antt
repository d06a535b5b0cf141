-- The frames of the verifier have as many local variables as the code of the method says, and no more words on the stack.
use Rattle.std.proofs.Common.{◌≡◌, ◌∙◌, ap, refl, sym, subst, arith, ℕ, ◌+◌, ◌-◌, ◌≤◌, ◌==◌, Bool, true, false, List, [], ◌∷◌, ◌++◌, length, length-append, Option, Some, None, nat_le, option_and_then, option_map, replicate, slice_set, if◌then◌else◌}
use Rattle.std.specs.List.{AllByRecursion, find, flat_map, list_any}
use Rattle.std.specs.Option.{option_or}
use Rattle.std.specs.Prelude.{is_none, is_some, not, ◌&&◌}
use Rattle.std.proofs.lemmas.Bool.{false≢true, leb-true}
use Rattle.std.proofs.lemmas.List.{length-map, length-replicate, length-set}
use Rattle.std.proofs.lemmas.Option.{option_and_then_some, same_Some}
use Rattle.cb_classfile.specs.Expansion.{frames_behind, place_behind}
use Rattle.cb_classfile.specs.FrameMap.{form_of_frame}
use Rattle.cb_classfile.specs.declared.frame_map.MapFrame.{MapFrame}
use Rattle.cb_classfile.specs.declared.map_type.MapType.{MapType}
use Rattle.cb_hierarchy.specs.Classes.{listed}
use Rattle.cb_insn.specs.declared.insn.Insn.{Insn}
use Rattle.cb_kinds.specs.declared.basic.Basic.{Basic}
use Rattle.cb_link.specs.Program.{Linked}
use Rattle.cb_shapes.specs.Operands.{takes}
use Rattle.cb_shapes.specs.Shapes.{action_of}
use Rattle.cb_shapes.specs.Shuffles.{shuffled}
use Rattle.cb_shapes.specs.declared.action.Action.{Action}
use Rattle.cb_shapes.specs.declared.action.Action.TheVariants as actions
use Rattle.cb_shapes.specs.declared.sort.Sort.{Sort}
use Rattle.cb_shapes.specs.declared.sort.Sort.TheVariants as sorts
use Rattle.cb_verify.specs.declared.verification_type.VerificationType.{VerificationType}
use Rattle.cb_verify.specs.declared.verification_type.VerificationType.TheVariants.{Top, Long, This, Object, New}
use Rattle.cb_verify.specs.Calls.{call_above, call_interface, call_on, call_special, call_static, call_virtual, exchanged, is_callable, may_set_early, on_object, popped, put_early, put_field, put_on, return_with, without_this}
use Rattle.cb_verify.specs.Expansion.{declared, declared_at, expanded, fitting, frame_of, reversed, start, start_types, types_in, values_in}
use Rattle.cb_verify.specs.Framed.{frame_in, framed, framed_at, frames_of, typing_of}
use Rattle.cb_verify.specs.Frames.{Frame, has_this, height, in_words, is_legal, is_same, laid, loaded, replaced, stored, with_locals, with_stack}
use Rattle.cb_verify.specs.Leaving.{all_replaced, construct, constructed, exchange, finished, left, left_with, load, make, makes_object, store, store_taken}
use Rattle.cb_verify.specs.Members.{Member, given_types, member_at, taken_types}
use Rattle.cb_verify.specs.Rules.{given, taken}
use Rattle.cb_verify.specs.Typed.{Declared, Placed, after, falls, onwards, placed_behind, placed_in}
use Rattle.cb_verify.specs.Types.{category, goes_to, is_of, kind_goes_to, type_of, words}
use Rattle.cb_verify.specs.Within.{Within, holder, is_init, name_at, result_of, within}
use Rattle.cb_safety.proofs.Assigned.{mapped, never, when}
use Rattle.cb_safety.proofs.Entries.{framed_low, frames_within}
use Rattle.cb_safety.proofs.Searching.{found_all}

pub record IsSized (method : Within) (frame : Frame) : Type 0 where
  pub locals : length frame.locals ≡ method.body.max_locals
  pub stack : height frame.stack ≤ method.body.max_stack

abbrev SizedIf : Within → Option Frame → Type 0
SizedIf method None = Unit {0}
SizedIf method (Some frame) = IsSized method frame

sized_some : (method : Within) (found : Option Frame) (frame : Frame) → found ≡ Some frame → SizedIf method found → IsSized method frame
sized_some method None frame so is = never so
sized_some method (Some own) frame so is = subst (IsSized method) (same_Some own frame so) is

-- ---- frames that are declared, and the one with which a method begins

pub height_append : (types more : List VerificationType) → height (types ++ more) ≡ height types + height more
height_append [] more = omega arith
height_append (type ∷ types) more = omega (arith, height_append types more)

height_reversed : (behind types : List VerificationType) → height (reversed behind types) ≡ height types + height behind
height_reversed behind [] = omega arith
height_reversed behind (type ∷ types) = omega (arith, height_reversed (type ∷ behind) types)

laid_length : (most : ℕ) (types locals : List VerificationType) → laid most types ≡ Some locals → length locals ≡ most
laid_length most types locals is =
    let lain : List VerificationType = flat_map in_words types in
    let both = when (nat_le (length lain) most) (Some (lain ++ replicate (most - length lain) Top)) locals is in
    let same : lain ++ replicate (most - length lain) Top ≡ locals = same_Some (lain ++ replicate (most - length lain) Top) locals both.1 in
    omega (
      arith,
      ap length same,
      length-append lain (replicate (most - length lain) Top),
      length-replicate (most - length lain) Top,
      leb-true (length lain) most both.0,
    )

frame_sized : (method : Within) (values stacked : List VerificationType) (frame : Frame) → frame_of method values stacked ≡ Some frame → IsSized method frame
frame_sized method values stacked frame is =
    let made : List VerificationType → Frame = (λ (locals : List VerificationType). record { locals = locals; stack = reversed [] stacked; unfinished = has_this values }) in
    let both = when (is_legal method.body.max_stack stacked) (option_map made (laid method.body.max_locals values)) frame is in
    mapped made (laid method.body.max_locals values) frame both.1
    (λ locals lain same. subst (IsSized method) same (record {
      locals = laid_length method.body.max_locals values locals lain;
      stack = omega (arith, leb-true (height stacked) method.body.max_stack both.0, height_reversed [] stacked);
    }))

sized_by : (method : Within) (found : Option Frame) → ((frame : Frame) → found ≡ Some frame → IsSized method frame) → SizedIf method found
sized_by method None follows = tt
sized_by method (Some frame) follows = follows frame refl

expanded_sized : (method : Within) (values : Option (List VerificationType)) (stacked : List MapType) → SizedIf method (expanded method values stacked)
expanded_sized method values stacked = sized_by method (expanded method values stacked)
    (λ frame is. option_and_then_some (λ (locals : List VerificationType). option_and_then (frame_of method locals) (types_in method stacked)) values frame is
    (λ locals had lies. option_and_then_some (frame_of method locals) (types_in method stacked) frame lies
    (λ types own so. frame_sized method locals types frame so)))

abbrev AreSized : Within → Declared → Type 0
AreSized method frames = AllByRecursion (λ (entry : ℕ × Option Frame). SizedIf method entry.1) frames

abbrev entry_of : Within → ℕ → Option (List VerificationType) → List MapType → ℕ × Option Frame
entry_of method place values stack = (place, expanded method values stack)

behind_sized : (method : Within) (locals_behind : MapFrame → Option (List VerificationType) → Option (List VerificationType)) (previous : Option ℕ) (before : Option (List VerificationType))
    (frames : List MapFrame) → AreSized method (frames_behind locals_behind (entry_of method) previous before frames)
behind_sized method locals_behind previous before [] = tt
behind_sized method locals_behind previous before (frame ∷ frames) = (
  expanded_sized method (locals_behind frame before) frame.stack,
  behind_sized method locals_behind (Some (place_behind previous frame.delta)) (locals_behind frame before) frames,
)

declared_sized : (method : Within) → AreSized method (declared method)
declared_sized method =
    behind_sized method (λ (frame : MapFrame) (values : Option (List VerificationType)). option_and_then (fitting method) (values_in method (form_of_frame frame.kind) frame values))
    None (fitting method (start_types method)) method.body.frames

unless : {Item : Type 0} (test : Bool) (found : Option Item) (item : Item) → (if test then None else found) ≡ Some item → found ≡ Some item
unless true found item so = never so
unless false found item so = so

start_sized : (method : Within) → SizedIf method (start method)
start_sized method = sized_by method (start method)
    (λ frame is. frame_sized method (start_types method) [] frame
    (unless (method.is_constructor && is_some (result_of method)) (frame_of method (start_types method) []) frame is))

-- ---- what an instruction leaves

with_stack_sized : (method : Within) (frame : Frame) (stack : List VerificationType) (after : Frame) → length frame.locals ≡ method.body.max_locals
    → with_stack method.body.max_stack frame stack ≡ Some after → IsSized method after
with_stack_sized method frame stack after sized is =
    let made : Frame = record { locals = frame.locals; stack = stack; unfinished = frame.unfinished } in
    let both = when (is_legal method.body.max_stack stack) (Some made) after is in
    subst (IsSized method) (same_Some made after both.1) (record { locals = sized; stack = leb-true (height stack) method.body.max_stack both.0 })

lost_length : (test : Bool) (local : ℕ) (locals : List VerificationType) → length (if test then slice_set locals local Top else locals) ≡ length locals
lost_length true local locals = length-set locals local Top
lost_length false local locals = refl

stored_as : (test : Bool) (placed locals after : List VerificationType) → length placed ≡ length locals → (if test then Some placed else None) ≡ Some after
    → length after ≡ length locals
stored_as test placed locals after same is = sym (ap length (same_Some placed after (when test (Some placed) after is).1)) ∙ same

stored_length : (local : ℕ) (type : VerificationType) (locals after : List VerificationType) → stored local type locals ≡ Some after → length after ≡ length locals
stored_length local Long locals after is = stored_as _ _ locals after (length-set _ (local + 1) Top ∙ length-set _ local Long ∙ lost_length _ _ locals) is
stored_length local type locals after is = stored_as _ _ locals after (length-set _ local _ ∙ lost_length _ _ locals) is

-- what isn't initialised takes one word
not_long : (old : VerificationType) → is_same old Long ≡ false
not_long This = refl
not_long (New place) = refl
not_long old = refl

one_word : (old own : VerificationType) → is_same old own ≡ true → words own ≡ 1
one_word old Long same = absurd (false≢true (sym (not_long old) ∙ same))
one_word old own same = refl

words_replaced : (kind : ℕ) (own : VerificationType) (same : Bool) → (same ≡ true → words own ≡ 1) → words (if same then Object kind else own) ≡ words own
words_replaced kind own true one = sym (one refl)
words_replaced kind own false one = refl

height_replaced : (old : VerificationType) (kind : ℕ) (types : List VerificationType) → height (replaced old (Object kind) types) ≡ height types
height_replaced old kind [] = refl
height_replaced old kind (own ∷ types) =
    omega (arith, words_replaced kind own (is_same old own) (one_word old own), height_replaced old kind types)

popped_height : (program : Linked) (wanted types rest : List VerificationType) → popped program wanted types ≡ Some rest → height rest ≤ height types
popped_height program [] types rest is = omega (arith, ap height (same_Some types rest is))
popped_height program (want ∷ wanted) [] rest is = never is
popped_height program (want ∷ wanted) (type ∷ types) rest is =
    omega (arith, popped_height program wanted types rest (when (goes_to program type want) (popped program wanted types) rest is).1)

module _ (method : Within) (pc : ℕ) (frame : Frame) (after : Frame) (sized : IsSized method frame) where
  exchanged_sized : (gives wanted : List VerificationType) → exchanged method frame gives wanted ≡ Some after → IsSized method after
  exchanged_sized gives wanted is =
      option_and_then_some (put_on method frame gives) (popped method.program wanted frame.stack) after is
      (λ rest off so. with_stack_sized method frame (gives ++ rest) after sized.locals so)

  exchange_sized : (action : Action) → exchange method pc action frame ≡ Some after → IsSized method after
  exchange_sized action is =
      option_and_then_some (λ (off : List VerificationType × List VerificationType). option_and_then (λ (type : Option VerificationType). put_on method frame (listed type) off.1) (given method pc action off.0))
      (taken (takes [] action) frame.stack) after is
      (λ off had so. option_and_then_some (λ (type : Option VerificationType). put_on method frame (listed type) off.1) (given method pc action off.0) after so
      (λ type gives leaves. with_stack_sized method frame (listed type ++ off.1) after sized.locals leaves))

  -- local variables
  load_sized : (sort : Sort) (local : ℕ) → load method sort local frame ≡ Some after → IsSized method after
  load_sized sort local is =
      option_and_then_some (λ (type : VerificationType). put_on method frame (type ∷ []) frame.stack) (loaded sort local frame) after is
      (λ type had so. with_stack_sized method frame (type ∷ frame.stack) after sized.locals so)

  store_sized : (sort : Sort) (local : ℕ) → store method sort local frame ≡ Some after → IsSized method after
  store_sized sort local is = option_and_then_some (store_taken method local frame) (taken (sort ∷ []) frame.stack) after is (λ off had so. by off.0 off.1 so) where
    by : (held rest : List VerificationType) → store_taken method local frame (held, rest) ≡ Some after → IsSized method after
    by [] rest so = never so
    by (type ∷ []) rest so =
        option_and_then_some (λ (locals : List VerificationType). with_stack method.body.max_stack (with_locals frame locals) rest) (stored local type frame.locals) after so
        (λ locals lies leaves. with_stack_sized method (with_locals frame locals) rest after (stored_length local type frame.locals locals lies ∙ sized.locals) leaves)
    by (one ∷ two ∷ more) rest so = never so

  increase_sized : (local : ℕ) → option_map (λ (type : VerificationType). frame) (loaded sorts.Int local frame) ≡ Some after → IsSized method after
  increase_sized local is =
      mapped (λ (type : VerificationType). frame) (loaded sorts.Int local frame) after is (λ type had same. subst (IsSized method) same sized)

  -- objects
  make_sized : (index : ℕ) → make method pc index frame ≡ Some after → IsSized method after
  make_sized index is =
      let locals : List VerificationType = replaced (New pc) Top frame.locals in
      with_stack_sized method (with_locals frame locals) (New pc ∷ frame.stack) after
      (length-map frame.locals (λ (own : VerificationType). if is_same (New pc) own then Top else own) ∙ sized.locals)
      (when (makes_object method index && not (list_any (is_same (New pc)) frame.stack)) (put_on method (with_locals frame locals) (New pc ∷ []) frame.stack) after is).1

  put_field_sized : (index : ℕ) (member : Member) → put_field method index member frame ≡ Some after → IsSized method after
  put_field_sized index member is = go (put_early method index member frame) refl is where
    late : Option Frame
    late = option_and_then (λ (kind : ℕ). exchanged method frame [] (on_object (taken_types member) kind)) (holder method index)

    go : (first : Option Frame) → put_early method index member frame ≡ first
        → option_or first (option_and_then (λ (kind : ℕ). exchanged method frame [] (on_object (taken_types member) kind)) (holder method index)) ≡ Some after → IsSized method after
    go None none so =
        option_and_then_some (λ (kind : ℕ). exchanged method frame [] (on_object (taken_types member) kind)) (holder method index) after so
        (λ kind held leaves. exchanged_sized [] (on_object (taken_types member) kind) leaves)
    go (Some own) some so =
        option_and_then_some (put_on method frame []) (option_and_then without_this (popped method.program (taken_types member) frame.stack)) after
        (when (may_set_early method index) (option_and_then (put_on method frame []) (option_and_then without_this (popped method.program (taken_types member) frame.stack))) after (some ∙ so)).1
        (λ rest off leaves. with_stack_sized method frame rest after sized.locals leaves)

  -- calls and returns
  call_on_sized : (index : ℕ) (member : Member) (kind : ℕ) → call_on method index member frame kind ≡ Some after → IsSized method after
  call_on_sized index member kind is =
      exchanged_sized (given_types member) (on_object (taken_types member) kind)
      (when (is_callable (name_at method index)) (exchanged method frame (given_types member) (on_object (taken_types member) kind)) after is).1

  call_static_sized : (index : ℕ) (member : Member) → call_static method index member frame ≡ Some after → IsSized method after
  call_static_sized index member is =
      exchanged_sized (given_types member) (taken_types member)
      (when (is_callable (name_at method index)) (exchanged method frame (given_types member) (taken_types member)) after is).1

  call_virtual_sized : (index : ℕ) (member : Member) → call_virtual method index member frame ≡ Some after → IsSized method after
  call_virtual_sized index member is =
      option_and_then_some (call_on method index member frame) (holder method index) after is (λ kind held so. call_on_sized index member kind so)

  call_interface_sized : (index count : ℕ) (member : Member) → call_interface method index count member frame ≡ Some after → IsSized method after
  call_interface_sized index count member is =
      call_virtual_sized index member (when (count == height (on_object (taken_types member) 0)) (call_virtual method index member frame) after is).1

  call_special_sized : (index : ℕ) (member : Member) → call_special method index member frame ≡ Some after → IsSized method after
  call_special_sized index member is =
      option_and_then_some (call_above method index member frame) (holder method index) after is
      (λ kind held so. option_and_then_some (λ (rest : List VerificationType). call_on method index member frame method.class)
      (popped method.program (on_object (taken_types member) kind) frame.stack) after
      (when (kind_goes_to method.program method.class kind)
      (option_and_then (λ (rest : List VerificationType). call_on method index member frame method.class) (popped method.program (on_object (taken_types member) kind) frame.stack)) after so).1
      (λ rest off leaves. call_on_sized index member method.class leaves))

  return_sized : (sort : Option Sort) → return_with method sort frame ≡ Some after → IsSized method after
  return_sized None is =
      subst (IsSized method) (same_Some frame after (when (is_none (result_of method) && not frame.unfinished) (Some frame) after is).1) sized
  return_sized (Some sort) is = option_and_then_some (return_of_sort sort) (result_of method) after is
      (λ result held so. exchanged_sized [] (type_of result ∷ []) (when (is_of sort (type_of result)) (exchanged method frame [] (type_of result ∷ [])) after so).1)
    where
      return_of_sort : Sort → Basic → Option Frame
      return_of_sort sort result = if is_of sort (type_of result) then exchanged method frame [] (type_of result ∷ []) else None

  -- a constructor
  all_replaced_sized : (old : VerificationType) (kind : ℕ) (rest : List VerificationType) → height rest ≤ method.body.max_stack
      → IsSized method (all_replaced old (Object kind) frame rest)
  all_replaced_sized old kind rest low = record {
    locals = length-map frame.locals (λ (own : VerificationType). if is_same old own then Object kind else own) ∙ sized.locals;
    stack = omega (arith, height_replaced old kind rest, low);
  }

  finished_sized : (object : VerificationType) (kind : ℕ) (rest : List VerificationType) → height rest ≤ method.body.max_stack
      → option_map (λ (type : VerificationType). all_replaced object type frame rest) (finished method kind object) ≡ Some after → IsSized method after
  finished_sized object kind rest low is =
      mapped (λ (type : VerificationType). all_replaced object type frame rest) (finished method kind object) after is
      (λ type made same. subst (IsSized method) same (by object type made))
    where
      by : (own type : VerificationType) → finished method kind own ≡ Some type → IsSized method (all_replaced object type frame rest)
      by own (Object other) made = all_replaced_sized object other rest low
      by This type made = ofself type (when _ (Some (Object method.class)) type made).1 where
        ofself : (type : VerificationType) → Some (Object method.class) ≡ Some type → IsSized method (all_replaced object type frame rest)
        ofself type same = subst (λ (type : VerificationType). IsSized method (all_replaced object type frame rest)) (same_Some (Object method.class) type same) (all_replaced_sized object method.class rest low)
      by (New place) type made = ofnew type (when _ (Some (Object kind)) type made).1 where
        ofnew : (type : VerificationType) → Some (Object kind) ≡ Some type → IsSized method (all_replaced object type frame rest)
        ofnew type same = subst (λ (type : VerificationType). IsSized method (all_replaced object type frame rest)) (same_Some (Object kind) type same) (all_replaced_sized object kind rest low)
      by own type made = never made

  construct_sized : (index : ℕ) (member : Member) → construct method index member frame ≡ Some after → IsSized method after
  construct_sized index member is =
      option_and_then_some (λ (kind : ℕ). option_and_then (constructed method kind frame) (popped method.program (taken_types member) frame.stack)) (holder method index) after
      (when (is_none member.gives)
      (option_and_then (λ (kind : ℕ). option_and_then (constructed method kind frame) (popped method.program (taken_types member) frame.stack)) (holder method index)) after is).1
      (λ kind held so. option_and_then_some (constructed method kind frame) (popped method.program (taken_types member) frame.stack) after so
      (λ off had leaves. by kind off (popped_height method.program (taken_types member) frame.stack off had) leaves))
    where
      by : (kind : ℕ) (off : List VerificationType) → height off ≤ height frame.stack → constructed method kind frame off ≡ Some after → IsSized method after
      by kind [] low leaves = never leaves
      by kind (object ∷ rest) low leaves = finished_sized object kind rest (omega (arith, low, sized.stack)) leaves

  left_with_sized : (member : Member) (action : Action) → left_with method pc member action frame ≡ Some after → IsSized method after
  left_with_sized member (actions.Load sort local) is = load_sized sort local is
  left_with_sized member (actions.Store sort local) is = store_sized sort local is
  left_with_sized member (actions.Increase local by) is = increase_sized local is
  left_with_sized member (actions.Shuffle shuffle) is =
      option_and_then_some (with_stack method.body.max_stack frame) (shuffled category shuffle frame.stack) after is
      (λ stack had so. with_stack_sized method frame stack after sized.locals so)
  left_with_sized member (actions.New index) is = make_sized index is
  left_with_sized member (actions.GetField index) is =
      option_and_then_some (λ (kind : ℕ). exchanged method frame (given_types member) (on_object [] kind)) (holder method index) after is
      (λ kind held so. exchanged_sized (given_types member) (on_object [] kind) so)
  left_with_sized member (actions.PutField index) is = put_field_sized index member is
  left_with_sized member (actions.GetStatic index) is = exchanged_sized (given_types member) [] is
  left_with_sized member (actions.PutStatic index) is = exchanged_sized [] (taken_types member) is
  left_with_sized member (actions.Return sort) is = return_sized sort is
  left_with_sized member (actions.InvokeStatic index) is = call_static_sized index member is
  left_with_sized member (actions.InvokeSpecial index) is = by (is_init (name_at method index)) is where
    by : (test : Bool) → (if test then construct method index member frame else call_special method index member frame) ≡ Some after → IsSized method after
    by true so = construct_sized index member so
    by false so = call_special_sized index member so
  left_with_sized member (actions.InvokeVirtual index) is = call_virtual_sized index member is
  left_with_sized member (actions.InvokeInterface index count) is = call_interface_sized index count member is
  left_with_sized member action is = exchange_sized action is

  left_sized : (insn : Insn) → left method pc insn frame ≡ Some after → IsSized method after
  left_sized insn is =
      option_and_then_some (λ (action : Action). left_with method pc (member_at method pc) action frame) (action_of insn) after is
      (λ action is_one so. left_with_sized (member_at method pc) action so)

pub leaves_sized : (method : Within) (pc : ℕ) (insn : Insn) (frame after : Frame) → IsSized method frame → left method pc insn frame ≡ Some after → IsSized method after
leaves_sized method pc insn frame after sized is = left_sized method pc frame after sized insn is

-- ---- the frames before instructions

onwards_sized : (method : Within) (placed : ℕ × Insn) (before : Option Frame) → SizedIf method before → SizedIf method (onwards placed.1 (after method placed before))
onwards_sized method placed before sized = sized_by method (onwards placed.1 (after method placed before))
    (λ frame is. option_and_then_some (left method placed.0 placed.1) before frame (when (falls placed.1) (after method placed before) frame is).1
    (λ own had leaves. leaves_sized method placed.0 placed.1 own frame (sized_some method before own had sized) leaves))

abbrev before_by : Option Frame → Option (Option Frame) → Option Frame
before_by arrived None = arrived
before_by arrived (Some there) = there

before_sized : (method : Within) (frames : Declared) (place : ℕ) (arrived : Option Frame) → AreSized method frames → SizedIf method arrived
    → SizedIf method (before_by arrived (declared_at frames place))
before_sized method frames place arrived are sized = go (find (λ (entry : ℕ × Option Frame). entry.0 == place) frames) refl where
  go : (found : Option (ℕ × Option Frame)) → find (λ (entry : ℕ × Option Frame). entry.0 == place) frames ≡ found
      → SizedIf method (before_by arrived (option_map (λ (entry : ℕ × Option Frame). entry.1) found))
  go None none = sized
  go (Some entry) some = found_all (λ (entry : ℕ × Option Frame). SizedIf method entry.1) (λ (entry : ℕ × Option Frame). entry.0 == place) frames entry are some

placed_sized : (method : Within) (frames : Declared) → AreSized method frames → (arrived : Option Frame) (code : List (ℕ × Insn)) → SizedIf method arrived
    → AllByRecursion (λ (own : Placed). SizedIf method own.before) (placed_behind method frames arrived code)
placed_sized method frames are arrived [] sized = tt
placed_sized method frames are arrived (placed ∷ code) sized =
    let before : Option Frame = before_by arrived (declared_at frames placed.0) in
    let own : SizedIf method before = before_sized method frames placed.0 arrived are sized in
    (own, placed_sized method frames are (onwards placed.1 (after method placed before)) code (onwards_sized method placed before own))

framed_sized : (method : Within) (placed : List Placed) → AllByRecursion (λ (own : Placed). SizedIf method own.before) placed
    → AllByRecursion (λ (entry : ℕ × Frame). IsSized method entry.1) (framed placed)
framed_sized method [] all = tt
framed_sized method (own ∷ placed) all = go own.before all.0 (framed_sized method placed all.1) where
  go : (before : Option Frame) → SizedIf method before → AllByRecursion (λ (entry : ℕ × Frame). IsSized method entry.1) (framed placed)
      → AllByRecursion (λ (entry : ℕ × Frame). IsSized method entry.1) (framed_at own.place before ++ framed placed)
  go None sized rest = rest
  go (Some frame) sized rest = (sized, rest)

all_sized : (method : Within) → AllByRecursion (λ (entry : ℕ × Frame). IsSized method entry.1) (frames_of method)
all_sized method = framed_sized method (placed_in method) (placed_sized method (declared method) (declared_sized method) (start method) method.body.code (start_sized method))

-- the one at a place
pub typed_sized : (program : Linked) (number pc : ℕ) (method : Within) (frame : Frame) → within program number ≡ Some method → frame_in (typing_of program) number pc ≡ Some frame
    → IsSized method frame
typed_sized program number pc method frame within is =
    mapped (λ (entry : ℕ × Frame). entry.1) (find (λ (entry : ℕ × Frame). entry.0 == pc) (frames_of method)) frame
    (sym (frames_within program number pc method (framed_low program number pc frame is) within) ∙ is)
    (λ entry found same. subst (IsSized method) same
    (found_all (λ (entry : ℕ × Frame). IsSized method entry.1) (λ (entry : ℕ × Frame). entry.0 == pc) (frames_of method) entry (all_sized method) found))
