-- A turn in which the exception that ends an initialisation is wrapped into another one: room is made for that, and it is placed.
use Rattle.std.proofs.Common.{◌≡◌, ◌∙◌, ap, refl, sym, subst, arith, ℕ, ◌<◌, true, false, List, [], ◌∷◌, length, map, zero, suc, Bool, Option, Some, None, slice_get, IsTrue}
use Rattle.std.proofs.lemmas.Bool.{and_parts, eqb-true, false≢true, ltb-true}
use Rattle.std.proofs.lemmas.Option.{same_Some}
use Rattle.std.specs.Prelude.{◌==◌, is_some, option_and_then, option_map}
use Rattle.std.specs.declared.result.Result.TheVariants.{Err, Ok}
use Rattle.cb_heap.specs.Closed.{Collects}
use Rattle.cb_heap.specs.Kept.{is_kept, residents}
use Rattle.cb_heap.specs.declared.no_room.NoRoom.{NoRoom}
use Rattle.cb_heap.specs.Reading.{View, read_roots, serial_of}
use Rattle.cb_heap.specs.Rules.{Rules}
use Rattle.cb_heap.specs.Shaped.{new_object}
use Rattle.cb_kinds.specs.declared.basic.Basic.{Basic}
use Rattle.cb_link.specs.Numbers.{class_number, or_none}
use Rattle.cb_link.specs.Program.{Linked}
use Rattle.cb_link.specs.Slots.{field_marks, shape_with}
use Rattle.cb_link.specs.Subtypes.{instance}
use Rattle.cb_machine.specs.Library.{error}
use Rattle.cb_machine.specs.Machine.{Machine, kind_of_site}
use Rattle.cb_machine.specs.Plans.{Placing, Plan, leaving, made, object_of}
use Rattle.cb_machine.specs.Sites.{exception_in_initializer}
use Rattle.cb_machine.specs.Steps.{asked_of, plan}
use Rattle.cb_machine.specs.Throwing.{exception_contents, throwing_with}
use Rattle.cb_machine.specs.Unwinding.{unwinding}
use Rattle.cb_plain.specs.State.{Frame, Initialising, Object, OfMethod, Reference, Roots, State, blank}
use Rattle.cb_plain.specs.Updates.{object_at, with_class, with_frames, with_objects}
use Rattle.cb_plain.specs.declared.class_state.ClassState.TheVariants.{Failed}
use Rattle.cb_plain.specs.declared.shape.Shape.{Shape}
use Rattle.cb_plain.specs.declared.shape.Shape.TheVariants.{Fields}
use Rattle.cb_plain.specs.declared.want.Want.{Want}
use Rattle.cb_safety.proofs.Laws.{kept_states_are_typed}
use Rattle.cb_safety.specs.States.{IsTypedState}
use Rattle.cb_safety.specs.Throwing.{IsThrown}
use Rattle.cb_unwind.proofs.Laws.{left_so, wrapped_so}
use Rattle.cb_unwind.specs.declared.answers.Unwound.{Unwound}
use Rattle.cb_unwind.specs.declared.answers.Unwound.TheVariants.{NoFrame, Caught, Popped, Wrapped}
use Rattle.cb_unwind.specs.Steps.{unwound_plan, with_view}
use Rattle.cb_unwind.specs.Unwound.{exception_size, unwound, wraps}
use Rattle.cb_interp.specs.Fit.{ShapesOf}
use Rattle.cb_act.specs.Coming.{AreAllowed}
use Rattle.cb_act.specs.Keeping.{kept_plan}
use Rattle.cb_act.specs.Steps.{view_of}
use Rattle.cb_act.specs.Turning.{Moment, TurnMade, TurnRefused}
use Rattle.cb_interp.proofs.Allowed.{allowed_next}
use Rattle.cb_interp.proofs.FollowTexts.{cause_pair}
use Rattle.cb_interp.proofs.TurnsMade.{asked_turn, collected, collected_keeping, collected_plan}
use Rattle.cb_interp.proofs.TurnsThrown.{exception_want}

-- ---- the shape of an exception of the machine

three : (marks : List Bool) → map blank marks ≡ Reference 0 ∷ Reference 0 ∷ Reference 0 ∷ [] → marks ≡ true ∷ true ∷ true ∷ []
three [] is = absurd (cc is)
three (false ∷ marks) is = absurd (cc is)
three (true ∷ []) is = absurd (cc is)
three (true ∷ false ∷ marks) is = absurd (cc is)
three (true ∷ true ∷ []) is = absurd (cc is)
three (true ∷ true ∷ false ∷ marks) is = absurd (cc is)
three (true ∷ true ∷ true ∷ []) is = refl
three (true ∷ true ∷ true ∷ mark ∷ marks) is = absurd (cc is)

pub thrown_shape : (program : Linked) (shapes : List Shape) (site kind : ℕ) → ShapesOf program shapes → IsThrown program kind
    → new_object shapes site kind exception_size ≡ object_of site kind (exception_contents 0 0) → slice_get shapes kind ≡ Some (Fields (true ∷ true ∷ true ∷ []))
thrown_shape program shapes site kind are thrown is =
    let low : kind < length program.kinds = ltb-true kind (length program.kinds) (and_parts _ _ (and_parts _ _ thrown.throwable).0).0 in
    let marks : List Bool = field_marks program (class_number program.classes (or_none (slice_get program.kinds kind))) in
    let own : slice_get shapes kind ≡ Some (Fields marks) =
    are kind low ∙ ap (λ (component : Option Basic). Some (shape_with program (or_none (slice_get program.kinds kind)) component)) thrown.no_elements in
    let contents : (new_object shapes site kind exception_size).contents ≡ map blank marks = rw own refl in
    own ∙ ap (λ (marks : List Bool). Some (Fields marks)) (three marks (sym contents ∙ ap (λ (object : Object). object.contents) is))

-- ---- what is left of a state by a collection

pub typed_again : {Facts : Type 0} (rules : Rules Facts) (machine : Machine) (before after : Moment Facts) → IsTypedState machine.program before.state
    → Collects (view_of before.state) (view_of after.state) → after.state ≡ with_objects before.state after.state.objects → IsTypedState machine.program after.state
typed_again rules machine before after typed collects same =
    subst (IsTypedState machine.program) (sym (collected rules machine before after collects same))
    (kept_states_are_typed machine.program (residents after.state.objects) before.state typed (collected_keeping rules machine before after collects same).closed)

pub pending_again : (index now : ℕ → ℕ) (held after : Roots) → read_roots now after ≡ read_roots index held → 0 < serial_of index held.pending → 0 < after.pending
pending_again index now held after same some = go after.pending refl where
  go : (pending : ℕ) → after.pending ≡ pending → 0 < after.pending
  go zero is =
      let none : serial_of now after.pending ≡ 0 = ap (serial_of now) is in
      let read : serial_of now after.pending ≡ serial_of index held.pending = ap (λ (roots : Roots). roots.pending) same in
      absurd (omega (arith, none, read, some))
  go (suc place) is = omega (arith, is)

-- ---- the step

pub record WrapsAt (program : Linked) (state : State) : Type 0 where
  pub object : Object
  pub class : ℕ
  pub place : ℕ
  pub below : List Frame
  pub there : object_at state state.roots.pending ≡ Some object
  pub frames : state.roots.frames ≡ Initialising class place ∷ below
  pub other : instance program object.kind error ≡ false

module _ (machine : Machine) (state : State) where
  of_frames : (object : Object) → object_at state state.roots.pending ≡ Some object → wraps machine.program (view_of state) ≡ true
      → (frames : List Frame) → state.roots.frames ≡ frames → WrapsAt machine.program state
  of_frames object there wrapping [] frames =
      let left : wraps machine.program (view_of state) ≡ false = rw (there, frames) refl in absurd (false≢true (sym left ∙ wrapping))
  of_frames object there wrapping (OfMethod frame ∷ below) frames =
      let left : wraps machine.program (view_of state) ≡ false = rw (there, frames) refl in absurd (false≢true (sym left ∙ wrapping))
  of_frames object there wrapping (Initialising class place ∷ below) frames = by (instance machine.program object.kind error) refl where
    by : (is : Bool) → instance machine.program object.kind error ≡ is → WrapsAt machine.program state
    by true is = let left : wraps machine.program (view_of state) ≡ false = rw (there, frames, is) refl in absurd (false≢true (sym left ∙ wrapping))
    by false is = record { object = object; class = class; place = place; below = below; there = there; frames = frames; other = is }

  pub wraps_at : wraps machine.program (view_of state) ≡ true → WrapsAt machine.program state
  wraps_at wrapping = by (object_at state state.roots.pending) refl where
    by : (found : Option Object) → object_at state state.roots.pending ≡ found → WrapsAt machine.program state
    by None there = let left : wraps machine.program (view_of state) ≡ false = rw there refl in absurd (false≢true (sym left ∙ wrapping))
    by (Some object) there = of_frames object there wrapping state.roots.frames refl

  abbrev wrap_plan : ℕ → List Frame → Plan
  wrap_plan class below = throwing_with machine exception_in_initializer 0 state.roots.pending (leaving (with_class (with_frames state below) class Failed))

  unwinding_so : (at : WrapsAt machine.program state) → unwinding machine state ≡ Some (wrap_plan at.class at.below)
  unwinding_so at = let there = at.there in let frames = at.frames in let other = at.other in rw (there, frames, other) refl

  -- and it has wrapped
  has_wrapped : (shapes : List Shape) (past : Unwound) (after : View) → WrapsAt machine.program state → unwound machine.program shapes (view_of state) ≡ Some (past, after)
      → past ≡ Wrapped
  has_wrapped shapes past after at did =
      let there = at.there in
      let frames = at.frames in
      let other = at.other in
      let way : option_map (λ (gone : Unwound × View). gone.0) (unwound machine.program shapes (view_of state)) ≡ Some Wrapped = rw (there, frames, other) refl in
      same_Some past Wrapped (sym (ap (option_map (λ (gone : Unwound × View). gone.0)) did) ∙ way)

  pending_plan : state.exit ≡ None → IsTrue (is_kept state.objects state.roots.pending) → plan machine state ≡ unwinding machine state
  pending_plan runs kept = go (state.roots.pending == 0) refl where
    go : (none : Bool) → (state.roots.pending == 0) ≡ none → plan machine state ≡ unwinding machine state
    go true is = absurd (false≢true (sym (ap (is_kept state.objects) (eqb-true state.roots.pending 0 is)) ∙ kept))
    go false is = rw (runs, is) refl

  -- where what is left follows what sites allow, the exception may refer to the one that it wraps
  pub wrapped_pair : (allows : ℕ → ℕ → Bool) → AreAllowed allows machine state → state.exit ≡ None → WrapsAt machine.program state
      → (object : Object) → object_at state state.roots.pending ≡ Some object → allows exception_in_initializer object.site ≡ true
  wrapped_pair allows allowed runs at object is =
      cause_pair allows state.objects exception_in_initializer (kind_of_site machine.program exception_in_initializer) 0 state.roots.pending
      (allowed_next allows machine state (wrap_plan at.class at.below) allowed (pending_plan runs (ap is_some at.there) ∙ unwinding_so at)) object is

-- no other step places anything
abbrev placed_by : Option Plan → List Placing
placed_by None = []
placed_by (Some plan) = plan.placed

none_placed : (state : State) (past : Unwound) (view : View) → placed_by (unwound_plan state (past, view)) ≡ []
none_placed state NoFrame view = refl
none_placed state Caught view = refl
none_placed state Popped view = refl
none_placed state Wrapped view = refl

module _ {Facts : Type 0} (rules : Rules Facts) (machine : Machine) (before middle after : Moment Facts) (shapes : List Shape) (at : WrapsAt machine.program before.state)
    (runs : before.state.exit ≡ None) (goes : middle.state.exit ≡ None) (there : IsTrue (is_kept before.state.objects before.state.roots.pending))
    (kept : IsTrue (is_kept middle.state.objects middle.state.roots.pending))
    (collects : Collects (view_of before.state) (view_of middle.state)) (same : middle.state ≡ with_objects before.state middle.state.objects) where
  abbrev own : Plan
  own = wrap_plan machine before.state at.class at.below

  plans : plan machine before.state ≡ Some own
  plans = pending_plan machine before.state runs there ∙ unwinding_so machine before.state at

  again : unwinding machine middle.state ≡ Some (kept_plan (residents middle.state.objects) own)
  again = sym (pending_plan machine middle.state goes kept) ∙ collected_plan rules machine before middle own collects same plans

  -- it wraps after the collection too
  pub wraps_again : (past : Unwound) (left : View) → unwound machine.program shapes (view_of middle.state) ≡ Some (past, left) → wraps machine.program (view_of middle.state) ≡ true
  wraps_again past left did = go (wraps machine.program (view_of middle.state)) refl where
    go : (test : Bool) → wraps machine.program (view_of middle.state) ≡ test → wraps machine.program (view_of middle.state) ≡ true
    go true is = is
    go false is =
        let none : placed_by (unwinding machine middle.state) ≡ [] =
        ap placed_by (left_so machine middle.state shapes is ∙ ap (option_and_then (unwound_plan middle.state)) did) ∙ none_placed middle.state past left in
        absurd (cc (sym none ∙ ap placed_by again))

  pub wrapped_turn : (past : Unwound) (left : View)
      → rules.makes_room before.facts (view_of before.state) (exception_want exception_in_initializer ∷ []) (Ok tt) (record { facts = middle.facts; residents = residents middle.state.objects })
      → new_object shapes exception_in_initializer (kind_of_site machine.program exception_in_initializer) exception_size
      ≡ object_of exception_in_initializer (kind_of_site machine.program exception_in_initializer) (exception_contents 0 0)
      → unwound machine.program shapes (view_of middle.state) ≡ Some (past, left) → after.state ≡ with_view middle.state left
      → (past ≡ Wrapped → after.facts ≡ rules.placed middle.facts exception_in_initializer exception_size) → TurnMade rules machine before after
  wrapped_turn past left ruled shaped did steps knows =
      let wrapping : wraps machine.program (view_of middle.state) ≡ true = wraps_again past left did in
      let makes : option_map made (unwinding machine middle.state) ≡ option_map (λ gone. with_view middle.state gone.1) (unwound machine.program shapes (view_of middle.state)) =
      wrapped_so machine middle.state shapes wrapping shaped in
      let same_made : made (kept_plan (residents middle.state.objects) own) ≡ with_view middle.state left =
      same_Some (made (kept_plan (residents middle.state.objects) own)) (with_view middle.state left)
      (sym (ap (option_map made) again) ∙ makes ∙ ap (option_map (λ (gone : Unwound × View). with_view middle.state gone.1)) did) in
      asked_turn rules machine before middle after own (exception_want exception_in_initializer) [] plans refl ruled collects same (steps ∙ sym same_made)
      (knows (has_wrapped machine middle.state shapes past left (wraps_at machine middle.state wrapping) did))

pub wrapped_refused : {Facts : Type 0} (rules : Rules Facts) (machine : Machine) (before after : Moment Facts) (reason : NoRoom) → WrapsAt machine.program before.state
    → before.state.exit ≡ None → IsTrue (is_kept before.state.objects before.state.roots.pending)
    → rules.makes_room before.facts (view_of before.state) (exception_want exception_in_initializer ∷ []) (Err reason)
    (record { facts = after.facts; residents = residents after.state.objects })
    → Collects (view_of before.state) (view_of after.state) → after.state ≡ with_objects before.state after.state.objects → TurnRefused rules machine before reason after
wrapped_refused rules machine before after reason at runs there ruled collects same =
    let plans : plan machine before.state ≡ Some (wrap_plan machine before.state at.class at.below) =
    pending_plan machine before.state runs there ∙ unwinding_so machine before.state at in
    record {
      refused = record {
        asked = λ none. let both : exception_want exception_in_initializer ∷ [] ≡ [] = sym (ap asked_of plans) ∙ none in cc both;
        ruled = subst (λ (wants : List Want). rules.makes_room before.facts (view_of before.state) wants (Err reason) (record { facts = after.facts; residents = residents after.state.objects }))
            (sym (ap asked_of plans)) ruled;
        collects = collects;
        same = same;
      };
    }
