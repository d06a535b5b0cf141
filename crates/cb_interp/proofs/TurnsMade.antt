-- A turn is made where room was made for what is asked for, and what is kept of the plan is carried out.
use Rattle.std.proofs.Common.{◌≡◌, ◌∙◌, ap, refl, sym, subst, List, [], ◌∷◌, Bool, length, Option, Some, suc}
use Rattle.std.specs.Prelude.{option_map}
use Rattle.std.specs.declared.result.Result.TheVariants.{Err, Ok}
use Rattle.cb_heap.specs.Closed.{Collects, IsClosed}
use Rattle.cb_heap.specs.Kept.{is_held, keep, residents}
use Rattle.cb_heap.specs.Rules.{Rules}
use Rattle.cb_heap.specs.declared.no_room.NoRoom.{NoRoom}
use Rattle.cb_machine.specs.Machine.{Machine}
use Rattle.cb_machine.specs.Plans.{Plan, asked, made}
use Rattle.cb_machine.specs.Steps.{asked_of, plan}
use Rattle.cb_plain.specs.State.{Object}
use Rattle.cb_plain.specs.Updates.{with_objects}
use Rattle.cb_plain.specs.declared.want.Want.{Want}
use Rattle.cb_act.specs.Keeping.{IsKeeping, KeepsPlan, kept_plan, kept_state}
use Rattle.cb_act.specs.Steps.{view_of}
use Rattle.cb_act.specs.Turning.{Asked, Moment, NotAsked, RoomMade, RoomRefused, TurnMade, TurnRefused, facts_behind}
use Rattle.cb_act.proofs.Laws.{keep_unseen, natives_keep, plan_kept}

pub marks_count : (objects : List (Option Object)) → length (residents objects) ≡ length objects
marks_count [] = refl
marks_count (entry ∷ objects) = ap suc (marks_count objects)

module _ {Facts : Type 0} (rules : Rules Facts) (machine : Machine) where
  -- nothing is asked for
  pub quiet_turn : (before after : Moment Facts) (own : Plan) → plan machine before.state ≡ Some own → asked own ≡ [] → after.state ≡ made own
      → after.facts ≡ facts_behind rules before.facts own.placed → TurnMade rules machine before after
  quiet_turn before after own is nothing steps knows = record {
    middle = before;
    room = subst (λ (wants : List Want). RoomMade rules before wants before) (sym (ap asked_of is ∙ nothing)) NotAsked;
    own = own;
    plans = is;
    steps = steps;
    knows = knows;
  }

  -- what is kept by a collection is kept of the state before it
  pub collected : (before after : Moment Facts) → Collects (view_of before.state) (view_of after.state) → after.state ≡ with_objects before.state after.state.objects
      → after.state ≡ kept_state (residents after.state.objects) before.state
  collected before after collects same = same ∙ ap (with_objects before.state) collects.objects

  pub collected_keeping : (before after : Moment Facts) → Collects (view_of before.state) (view_of after.state) → after.state ≡ with_objects before.state after.state.objects
      → IsKeeping (residents after.state.objects) before.state
  collected_keeping before after collects same = record {
    count = marks_count after.state.objects ∙ collects.count;
    closed = subst IsClosed (ap view_of (collected before after collects same)) collects.closed;
  }

  pub collected_plan : (before after : Moment Facts) (own : Plan) → Collects (view_of before.state) (view_of after.state)
      → after.state ≡ with_objects before.state after.state.objects → plan machine before.state ≡ Some own
      → plan machine after.state ≡ Some (kept_plan (residents after.state.objects) own)
  collected_plan before after own collects same is =
      let kept : List Bool = residents after.state.objects in
      let keeping : IsKeeping kept before.state = collected_keeping before after collects same in
      let keeps : KeepsPlan machine kept before.state =
      plan_kept machine (keep kept) (is_held (keep kept before.state.objects)) before.state (keep_unseen kept before.state keeping) (natives_keep machine kept before.state keeping) in
      ap (plan machine) (collected before after collects same) ∙ keeps ∙ ap (option_map (kept_plan kept)) is

  -- it is, and refused
  pub asked_refused : (before after : Moment Facts) (reason : NoRoom) (own : Plan) (wants : List Want) → plan machine before.state ≡ Some own → wants ≡ asked own → (wants ≡ [] → ⊥)
      → rules.makes_room before.facts (view_of before.state) wants (Err reason) (record { facts = after.facts; residents = residents after.state.objects })
      → Collects (view_of before.state) (view_of after.state) → after.state ≡ with_objects before.state after.state.objects → TurnRefused rules machine before reason after
  asked_refused before after reason own wants is asks some ruled collects same = record {
    refused = subst (λ (wants : List Want). RoomRefused rules before wants reason after) (asks ∙ sym (ap asked_of is))
        (record { asked = some; ruled = ruled; collects = collects; same = same });
  }

  -- something is
  pub asked_turn : (before middle after : Moment Facts) (own : Plan) (first : Want) (wants : List Want) → plan machine before.state ≡ Some own
      → asked own ≡ first ∷ wants
      → rules.makes_room before.facts (view_of before.state) (first ∷ wants) (Ok tt) (record { facts = middle.facts; residents = residents middle.state.objects })
      → Collects (view_of before.state) (view_of middle.state) → middle.state ≡ with_objects before.state middle.state.objects
      → after.state ≡ made (kept_plan (residents middle.state.objects) own) → after.facts ≡ facts_behind rules middle.facts own.placed → TurnMade rules machine before after
  asked_turn before middle after own first wants is asks ruled collects same steps knows = record {
    middle = middle;
    room = subst (λ (wants : List Want). RoomMade rules before wants middle) (sym (ap asked_of is ∙ asks)) (Asked first wants middle ruled collects same);
    own = kept_plan (residents middle.state.objects) own;
    plans = collected_plan before middle own collects same is;
    steps = steps;
    knows = knows;
  }
