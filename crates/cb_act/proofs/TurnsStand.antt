-- Turns of a run over what is kept stand for the run of the machine that never frees.
use Rattle.std.proofs.Common.{◌≡◌, ◌∙◌, ap, refl, sym, subst, ℕ, List, [], ◌∷◌, Bool, length, Option, Some, None, zero, suc}
use Rattle.std.proofs.lemmas.Option.{same_Some}
use Rattle.std.specs.Prelude.{option_map}
use Rattle.cb_heap.proofs.Laws.{keep_twice}
use Rattle.cb_heap.specs.Closed.{Collects, IsClosed}
use Rattle.cb_heap.specs.Kept.{is_held, keep, residents}
use Rattle.cb_heap.specs.Rules.{Rules}
use Rattle.cb_machine.specs.Machine.{Machine}
use Rattle.cb_machine.specs.Plans.{Plan, made}
use Rattle.cb_machine.specs.Runs.{after, next}
use Rattle.cb_machine.specs.Steps.{plan, request}
use Rattle.cb_plain.specs.State.{Object, State}
use Rattle.cb_plain.specs.Updates.{with_objects}
use Rattle.cb_plain.specs.declared.want.Want.{Want}
use Rattle.cb_act.specs.Keeping.{IsKeeping, KeepsPlan, kept_after, kept_plan, kept_state}
use Rattle.cb_act.specs.Steps.{view_of}
use Rattle.cb_act.specs.Turning.{Asked, Moment, NotAsked, NotSwept, RoomMade, StandsAt, Swept, SweptAll, TurnMade, Turns, WholeTurn}
use Rattle.cb_act.proofs.KeepLaws.{keep_unseen, length_kept}
use Rattle.cb_act.proofs.KeptAgain.{keeping_again}
use Rattle.cb_act.proofs.KeptCounts.{plan_counts, plan_residents}
use Rattle.cb_act.proofs.KeptStates.{made_kept, made_marks}
use Rattle.cb_act.proofs.KeptSteps.{plan_kept}
use Rattle.cb_act.proofs.NativesChange.{natives_count, natives_keep}
use Rattle.cb_act.proofs.NativesWithin.{natives_name_kept}

pub kept_plan_so : (machine : Machine) (kept : List Bool) (full : State) → IsKeeping kept full → KeepsPlan machine kept full
kept_plan_so machine kept full keeping = plan_kept machine (keep kept) (is_held (keep kept full.objects)) full (keep_unseen kept full keeping) (natives_keep machine kept full keeping)

module _ {Facts : Type 0} (rules : Rules Facts) (machine : Machine) where
  -- so does what a collection leaves
  pub collected_stands : (before after : Moment Facts) (full : State) → Collects (view_of before.state) (view_of after.state) → after.state ≡ with_objects before.state after.state.objects
      → StandsAt before full → StandsAt after full
  collected_stands before after full collects same stands =
      let objects : after.state.objects ≡ keep (residents after.state.objects) (keep stands.kept full.objects) =
      collects.objects ∙ ap (λ (state : State). keep (residents after.state.objects) state.objects) stands.same in
      let twice : keep (residents after.state.objects) (keep stands.kept full.objects) ≡ keep (residents after.state.objects) full.objects =
      keep_twice (residents after.state.objects) stands.kept full.objects (ap residents (sym objects)) stands.keeping.count in
      let is : after.state ≡ kept_state (residents after.state.objects) full =
      same ∙ ap (λ (state : State). with_objects state after.state.objects) stands.same ∙ ap (with_objects full) (objects ∙ twice) in
      record {
        kept = residents after.state.objects;
        same = is;
        marks = ap residents (sym (objects ∙ twice));
        keeping = record {
          count = marks_count after.state.objects ∙ collects.count ∙ ap (λ (state : State). length state.objects) stands.same ∙ length_kept stands.kept full.objects stands.keeping.count;
          closed = subst IsClosed (ap view_of is) collects.closed;
        };
      } where
        marks_count : (objects : List (Option Object)) → length (residents objects) ≡ length objects
        marks_count [] = refl
        marks_count (entry ∷ objects) = ap suc (marks_count objects)

  -- room leaves a moment that stands for the same state
  room_stands : (before after : Moment Facts) (wants : List Want) (full : State) → RoomMade rules before wants after → StandsAt before full → StandsAt after full
  room_stands before after wants full NotAsked stands = stands
  room_stands before after wants full (Asked first rest own ruled collects same) stands = collected_stands before own full collects same stands

  -- the plan of a moment is what is kept of the plan of the state for which it stands
  pub planned : (moment : Moment Facts) (full : State) (own : Plan) → (stands : StandsAt moment full) → plan machine moment.state ≡ Some own
      → (whole : Plan) × (plan machine full ≡ Some whole) × (own ≡ kept_plan stands.kept whole)
  planned moment full own stands is = go (plan machine full) refl where
    keeps : KeepsPlan machine stands.kept full
    keeps = kept_plan_so machine stands.kept full stands.keeping

    here : plan machine (kept_state stands.kept full) ≡ Some own
    here = ap (plan machine) (sym stands.same) ∙ is

    go : (found : Option Plan) → plan machine full ≡ found → (whole : Plan) × (plan machine full ≡ Some whole) × (own ≡ kept_plan stands.kept whole)
    go None there =
        let none : plan machine (kept_state stands.kept full) ≡ None = keeps ∙ ap (option_map (kept_plan stands.kept)) there in
        absurd (cc (sym none ∙ here))
    go (Some whole) there = (whole, there, same_Some own (kept_plan stands.kept whole) (sym here ∙ keeps ∙ ap (option_map (kept_plan stands.kept)) there))

  step_stands : (middle last : Moment Facts) (full : State) (own : Plan) → StandsAt middle full → plan machine middle.state ≡ Some own → last.state ≡ made own
      → ((whole : Plan) → plan machine full ≡ Some whole → IsClosed (view_of (made whole))) → StandsAt last (next machine full)
  step_stands middle last full own stands plans steps closed =
      let (whole, there, same) = planned middle full own stands plans in
      let counts : length whole.left.objects ≡ length full.objects = plan_counts machine full (natives_count machine full) whole there in
      let count : length stands.kept ≡ length whole.left.objects = stands.keeping.count ∙ sym counts in
      let went : next machine full ≡ made whole = rw there refl in
      record {
        kept = kept_after stands.kept whole;
        same = steps ∙ ap made same ∙ made_kept stands.kept whole count ∙ ap (kept_state (kept_after stands.kept whole)) (sym went);
        marks = ap (λ (state : State). residents (keep (kept_after stands.kept whole) state.objects)) went
            ∙ made_marks stands.kept full whole count (plan_residents machine full (natives_count machine full) whole there) stands.marks;
        keeping = subst (IsKeeping (kept_after stands.kept whole)) (sym went)
            (keeping_again stands.kept full stands.keeping machine (natives_name_kept machine stands.kept full stands.keeping)
            (kept_plan_so machine stands.kept full stands.keeping) whole there counts (closed whole there));
      }

  pub turn_stands : (before last : Moment Facts) (full : State) → TurnMade rules machine before last → StandsAt before full
      → ((whole : Plan) → plan machine full ≡ Some whole → IsClosed (view_of (made whole))) → StandsAt last (next machine full)
  turn_stands before last full turn stands closed =
      step_stands turn.middle last full turn.own (room_stands before turn.middle (request machine before.state) full turn.room stands) turn.plans turn.steps closed

  -- and so does what is left behind it
  pub swept_stands : (before made after : Moment Facts) (full : State) → Swept rules machine before made after → StandsAt made full → StandsAt after full
  swept_stands before made after full (NotSwept calls) stands = stands
  swept_stands before made after full (SweptAll own calls ruled collects same) stands = collected_stands made own full collects same stands

  pub whole_stands : (before last : Moment Facts) (full : State) → WholeTurn rules machine before last → StandsAt before full
      → ((whole : Plan) → plan machine full ≡ Some whole → IsClosed (view_of (made whole))) → StandsAt last (next machine full)
  whole_stands before last full turn stands closed =
      swept_stands before turn.middle last (next machine full) turn.swept (turn_stands before turn.middle full turn.made stands closed)

  -- and so many turns
  pub after_one_more : (count : ℕ) (full : State) → after machine (suc count) full ≡ next machine (after machine count full)
  after_one_more zero full = refl
  after_one_more (suc count) full = after_one_more count (next machine full)

  pub turns_stand : (count : ℕ) (first last : Moment Facts) (full : State) → Turns rules machine count first last → StandsAt first full
      → ((steps : ℕ) (whole : Plan) → plan machine (after machine steps full) ≡ Some whole → IsClosed (view_of (made whole))) → StandsAt last (after machine count full)
  turns_stand zero first last full same stands closed = subst (λ (moment : Moment Facts). StandsAt moment full) same stands
  turns_stand (suc count) first last full (before, turns, turn) stands closed =
      subst (StandsAt last) (sym (after_one_more count full))
      (whole_stands before last (after machine count full) turn (turns_stand count first before full turns stands closed) (closed count))
