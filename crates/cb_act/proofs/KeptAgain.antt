-- The next state is keeping again.
use Rattle.std.proofs.Common.{◌≡◌, ◌∙◌, ap, refl, sym, subst, arith, ℕ, ◌+◌, ◌-◌, ◌<◌, ◌≤◌, Bool, true, false, ◌||◌, List, [], ◌∷◌, ◌++◌, length, map, nat_lt, Option, Some, slice_get, zero, suc, IsTrue}
use Rattle.std.proofs.lemmas.Bool.{false≢true, lt-ltb, ltb-true}
use Rattle.std.proofs.lemmas.Option.{none-some, same_Some}
use Rattle.std.specs.Prelude.{option_map}
use Rattle.std.specs.List.{flat_map, fold, list_all}
use Rattle.cb_heap.specs.Closed.{IsClosed, references_in as references_in_objects, references_in_entry}
use Rattle.cb_heap.specs.Kept.{is_held, keep, residents as residents_of}
use Rattle.cb_heap.specs.StandsFor.{StandsFor, forget}
use Rattle.cb_heap.specs.Reading.{View}
use Rattle.cb_machine.specs.Machine.{Machine}
use Rattle.cb_machine.specs.Plans.{Placing, Plan, made, objects_of}
use Rattle.cb_machine.specs.Steps.{plan}
use Rattle.cb_plain.specs.Reach.{root_references}
use Rattle.cb_plain.specs.State.{Object, State}
use Rattle.cb_act.specs.Keeping.{IsKeeping, KeepsPlan, kept_after, kept_or_new, kept_plan, kept_state, with_marks}
use Rattle.cb_act.specs.Steps.{view_of}
use Rattle.cb_act.specs.Within.{IsPlanWithin, IsWithin, NativesWithin, Pass, Within, object_references, placed_references}
use Rattle.cb_act.proofs.KeepLaws.{length_kept}
use Rattle.cb_act.proofs.KeptObjects.{parts}
use Rattle.cb_act.proofs.KeptStates.{made_counts, made_kept, with_placed}
use Rattle.cb_act.proofs.NumbersNamed.{has_numbers}
use Rattle.cb_act.proofs.WithinBasics.{along, both, from_roots, to_roots}
use Rattle.cb_act.proofs.WithinSteps.{plan_within}

-- what passes two tests
both_all : (one other third : ℕ → Bool) → ((serial : ℕ) → IsTrue (one serial) → IsTrue (other serial) → IsTrue (third serial)) → (serials : List ℕ)
    → IsTrue (list_all one serials) → IsTrue (list_all other serials) → IsTrue (list_all third serials)
both_all one other third each [] first second = refl
both_all one other third each (serial ∷ serials) first second =
    let own = parts one (serial ∷ []) serials first in
    let also = parts other (serial ∷ []) serials second in
    both third (serial ∷ []) serials (alone third serial (each serial (only one serial own.0) (only other serial also.0))) (both_all one other third each serials own.1 also.1) where
      only : (test : ℕ → Bool) (serial : ℕ) → IsTrue (list_all test (serial ∷ [])) → IsTrue (test serial)
      only test serial all = go (test serial) refl where
        go : (is : Bool) → test serial ≡ is → IsTrue (test serial)
        go true is = is
        go false is =
            let none : list_all test (serial ∷ []) ≡ false = rw is refl in
            absurd (false≢true (sym none ∙ all))

      alone : (test : ℕ → Bool) (serial : ℕ) → IsTrue (test serial) → IsTrue (list_all test (serial ∷ []))
      alone test serial is = rw is refl

more_all : (one other : ℕ → Bool) → ((serial : ℕ) → IsTrue (one serial) → IsTrue (other serial)) → (serials : List ℕ) → IsTrue (list_all one serials) → IsTrue (list_all other serials)
more_all one other each serials all = both_all one one other (λ serial first second. each serial first) serials all all

-- which objects are kept
held_marks : (residents : List Bool) (objects : List (Option Object)) (place : ℕ) → IsTrue (is_held (keep residents objects) (suc place)) → slice_get residents place ≡ Some true
held_marks [] objects place held = absurd (false≢true held)
held_marks (stays ∷ residents) [] place held = absurd (false≢true held)
held_marks (true ∷ residents) (entry ∷ objects) zero held = refl
held_marks (false ∷ residents) (entry ∷ objects) zero held = absurd (false≢true held)
held_marks (true ∷ residents) (entry ∷ objects) (suc place) held = held_marks residents objects place held
held_marks (false ∷ residents) (entry ∷ objects) (suc place) held = held_marks residents objects place held

marks_held : (residents : List Bool) (objects : List (Option Object)) (place : ℕ) → slice_get residents place ≡ Some true → IsTrue (is_held objects (suc place))
    → IsTrue (is_held (keep residents objects) (suc place))
marks_held [] objects place is held = absurd (none-some true is)
marks_held (stays ∷ residents) [] place is held = absurd (false≢true held)
marks_held (true ∷ residents) (entry ∷ objects) zero is held = held
marks_held (false ∷ residents) (entry ∷ objects) zero is held = absurd (false≢true (same_Some false true is))
marks_held (true ∷ residents) (entry ∷ objects) (suc place) is held = marks_held residents objects place is held
marks_held (false ∷ residents) (entry ∷ objects) (suc place) is held = marks_held residents objects place is held

held_low : (objects : List (Option Object)) (place : ℕ) → IsTrue (is_held objects (suc place)) → place < length objects
held_low [] place held = absurd (false≢true held)
held_low (entry ∷ objects) zero held = omega arith
held_low (entry ∷ objects) (suc place) held = let low = held_low objects place held in omega (arith, low)

marks_before : (residents more : List Bool) (place : ℕ) → slice_get residents place ≡ Some true → slice_get (residents ++ more) place ≡ Some true
marks_before [] more place is = absurd (none-some true is)
marks_before (stays ∷ residents) more zero is = is
marks_before (stays ∷ residents) more (suc place) is = marks_before residents more place is

still_marked : (placed : List Placing) (residents : List Bool) (place : ℕ) → slice_get residents place ≡ Some true → slice_get (fold with_marks residents placed) place ≡ Some true
still_marked [] residents place is = is
still_marked (placing ∷ placed) residents place is =
    still_marked placed (with_marks residents placing) place (marks_before residents (map (λ object. true) (objects_of placing)) place is)

-- from a place on all are kept
abbrev AllFrom : ℕ → List Bool → Type 0
AllFrom from residents = (place : ℕ) → from ≤ place → place < length residents → slice_get residents place ≡ Some true

all_marked : (more : List Object) (place : ℕ) → place < length (map (λ (object : Object). true) more) → slice_get (map (λ (object : Object). true) more) place ≡ Some true
all_marked [] place low = absurd (omega (arith, low))
all_marked (object ∷ more) zero low = refl
all_marked (object ∷ more) (suc place) low = all_marked more place (omega (arith, low))

further_from : (from : ℕ) (residents : List Bool) (more : List Object) → AllFrom from residents → AllFrom from (residents ++ map (λ object. true) more)
further_from from [] more all place high low = all_marked more place low
further_from zero (stays ∷ residents) more all zero high low = all zero high (omega arith)
further_from (suc from) (stays ∷ residents) more all zero high low = absurd (omega (arith, high))
further_from from (stays ∷ residents) more all (suc place) high low =
    further_from (from - 1) residents more (λ place high low. all (suc place) (omega (arith, high)) (omega (arith, low))) place (omega (arith, high)) (omega (arith, low))

placed_from : (placed : List Placing) (from : ℕ) (residents : List Bool) → AllFrom from residents → AllFrom from (fold with_marks residents placed)
placed_from [] from residents all = all
placed_from (placing ∷ placed) from residents all = placed_from placed from (with_marks residents placing) (further_from from residents (objects_of placing) all)

-- references in what is placed, and in what is kept
placed_objects : (ok : ℕ → Bool) (more : List Object) → Pass ok (flat_map object_references more) → Pass ok (references_in_objects (map Some more))
placed_objects ok [] all = refl
placed_objects ok (object ∷ more) all =
    let own = parts ok (object_references object) (flat_map object_references more) all in
    both ok (object_references object) (references_in_objects (map Some more)) own.0 (placed_objects ok more own.1)

placed_pass : (ok : ℕ → Bool) (placed : List Placing) (objects : List (Option Object)) → Pass ok (references_in_objects objects) → Pass ok (flat_map placed_references placed)
    → Pass ok (references_in_objects (fold with_placed objects placed))
placed_pass ok [] objects first second = first
placed_pass ok (placing ∷ placed) objects first second =
    let own = parts ok (placed_references placing) (flat_map placed_references placed) second in
    placed_pass ok placed (with_placed objects placing) (along ok references_in_entry objects (map Some (objects_of placing)) first (placed_objects ok (objects_of placing) own.0)) own.1

kept_pass : (ok : ℕ → Bool) (residents : List Bool) (objects : List (Option Object)) → Pass ok (references_in_objects objects) → Pass ok (references_in_objects (keep residents objects))
kept_pass ok [] objects all = refl
kept_pass ok (stays ∷ residents) [] all = refl
kept_pass ok (true ∷ residents) (entry ∷ objects) all =
    let own = parts ok (references_in_entry entry) (references_in_objects objects) all in
    both ok (references_in_entry entry) (references_in_objects (keep residents objects)) own.0 (kept_pass ok residents objects own.1)
kept_pass ok (false ∷ residents) (entry ∷ objects) all = kept_pass ok residents objects (parts ok (references_in_entry entry) (references_in_objects objects) all).1

either : (a b : Bool) → IsTrue (a || b) → (X : Type 0) → (IsTrue a → X) → (IsTrue b → X) → X
either true b is X first second = first refl
either false b is X first second = second is

module _ (residents : List Bool) (state : State) (keeping : IsKeeping residents state) where
  abbrev ok : ℕ → Bool
  ok serial = kept_or_new residents state serial

  is_kept_ok : (serial : ℕ) → IsTrue (is_held (keep residents state.objects) serial) → IsTrue (ok serial)
  is_kept_ok serial held = rw held refl

  is_new_ok : (serial : ℕ) → length state.objects < serial → IsTrue (ok serial)
  is_new_ok serial new = go (is_held (keep residents state.objects) serial) refl where
    go : (held : Bool) → is_held (keep residents state.objects) serial ≡ held → IsTrue (ok serial)
    go true held = rw held refl
    go false held = rw held (lt-ltb (length state.objects) serial new)

  pub kept_within : IsWithin ok (kept_state residents state)
  kept_within = record {
    roots = from_roots ok state.roots (more_all (is_held (keep residents state.objects)) ok is_kept_ok (root_references state.roots) keeping.closed.roots);
    objects = more_all (is_held (keep residents state.objects)) ok is_kept_ok (references_in_objects (keep residents state.objects)) keeping.closed.objects;
    next = λ more. let same = length_kept residents state.objects keeping.count in
        is_new_ok (length (keep residents state.objects) + 1 + more) (omega (arith, same));
  }

  -- a reference that was kept, or is new, and is known in the next state, is kept there
  held_again : (own : Plan) → length residents ≡ length own.left.objects → (serial : ℕ) → IsTrue (ok serial) → IsTrue (is_held (made own).objects serial)
      → IsTrue (is_held (keep (kept_after residents own) (made own).objects) serial)
  held_again own same zero is known = refl
  held_again own same (suc place) is known =
      marks_held (kept_after residents own) (made own).objects place
      (either (is_held (keep residents state.objects) (suc place)) (nat_lt (length state.objects) (suc place)) is (slice_get (kept_after residents own) place ≡ Some true)
      (λ held. still_marked own.placed residents place (held_marks residents state.objects place held))
      (λ new.
      let high = ltb-true (length state.objects) (suc place) new in
      let count = keeping.count in
      let low = held_low (made own).objects place known in
      let counts = made_counts residents own same in
      placed_from own.placed (length residents) residents (λ place high low. absurd (omega (arith, high, low))) place (omega (arith, high, count)) (omega (arith, low, counts)))) known

  pub keeping_again : (machine : Machine) → NativesWithin machine ok (kept_state residents state) → KeepsPlan machine residents state
      → (own : Plan) → plan machine state ≡ Some own → length own.left.objects ≡ length state.objects → IsClosed (view_of (made own))
      → IsKeeping (kept_after residents own) (made own)
  keeping_again machine natives keeps own is counts known =
      let same : length residents ≡ length own.left.objects = keeping.count ∙ sym counts in
      let next : IsPlanWithin ok (kept_plan residents own) =
      subst (Within ok) (keeps ∙ ap (option_map (kept_plan residents)) is) (plan_within ok machine (kept_state residents state) kept_within (has_numbers ok machine.program) natives) in
      let objects = (made own).objects in
      let after = kept_after residents own in
      let passed : Pass ok (references_in_objects (keep after objects)) =
      subst (λ (each : State). Pass ok (references_in_objects each.objects)) (made_kept residents own same)
      (placed_pass ok own.placed (keep residents own.left.objects) next.objects next.placed) in
      record {
        count = made_counts residents own same;
        closed = record {
          roots = both_all ok (is_held objects) (is_held (keep after objects)) (held_again own same) (root_references own.left.roots) (to_roots ok own.left.roots next.roots) known.roots;
          objects = both_all ok (is_held objects) (is_held (keep after objects)) (held_again own same) (references_in_objects (keep after objects)) passed
              (kept_pass (is_held objects) after objects known.objects);
        };
      }

-- what the step makes of what is kept stands for the next state
pub stands_again : (residents : List Bool) (own : Plan) → length residents ≡ length own.left.objects → residents_of (keep (kept_after residents own) (made own).objects) ≡ kept_after residents own
    → IsKeeping (kept_after residents own) (made own) → StandsFor (view_of (made (kept_plan residents own))) (made own) (kept_after residents own)
stands_again residents own same marks again =
    let is : view_of (made (kept_plan residents own)) ≡ forget (kept_after residents own) (made own) = ap view_of (made_kept residents own same) in
    record { same = is; marks = ap (λ (view : View). residents_of view.objects) is ∙ marks; closed = subst IsClosed (sym is) again.closed }
