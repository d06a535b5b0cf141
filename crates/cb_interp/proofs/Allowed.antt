-- What a turn may write, where sites allow the references of each state that may come.
use Rattle.std.proofs.Common.{◌≡◌, ◌∙◌, refl, subst, sym, ℕ, zero, suc, ◌<◌, arith, Bool, true, List, Option, Some}
use Rattle.std.specs.List.{Contains}
use Rattle.cb_heap.specs.Closed.{Collects}
use Rattle.cb_heap.specs.Follows.{Follows}
use Rattle.cb_heap.specs.Kept.{residents}
use Rattle.cb_heap.specs.Rules.{Rules}
use Rattle.cb_heap.specs.Store.{may_point}
use Rattle.cb_machine.specs.Machine.{Machine}
use Rattle.cb_machine.specs.Plans.{Plan, made}
use Rattle.cb_machine.specs.Steps.{plan, request}
use Rattle.cb_plain.specs.Reach.{Points}
use Rattle.cb_plain.specs.State.{Object, Reference, State}
use Rattle.cb_plain.specs.Updates.{object_in, with_objects}
use Rattle.cb_plain.specs.declared.want.Want.{Want}
use Rattle.cb_act.specs.Coming.{AreAllowed, MayCome}
use Rattle.cb_act.specs.Keeping.{kept_plan}
use Rattle.cb_act.specs.Steps.{view_of}
use Rattle.cb_act.specs.Turning.{Asked, Moment, NotAsked, NotSwept, RoomMade, Swept, SweptAll, TurnMade, Turns, WholeTurn}
use Rattle.cb_interp.proofs.TurnsMade.{collected, collected_keeping, collected_plan}

-- what may come from a state that may come may come
pub coming_on : (machine : Machine) (first middle last : State) → MayCome machine first middle → MayCome machine middle last → MayCome machine first last
coming_on machine first middle last one MayCome.Here = one
coming_on machine first middle last one (MayCome.Step state own more is) = MayCome.Step state own (coming_on machine first middle state one more) is
coming_on machine first middle last one (MayCome.Given state input more all) = MayCome.Given state input (coming_on machine first middle state one more) all
coming_on machine first middle last one (MayCome.Printed state printed more) = MayCome.Printed state printed (coming_on machine first middle state one more)
coming_on machine first middle last one (MayCome.Kept kept state more keeping) = MayCome.Kept kept state (coming_on machine first middle state one more) keeping

pub allowed_on : (allows : ℕ → ℕ → Bool) (machine : Machine) (state later : State) → AreAllowed allows machine state → MayCome machine state later → AreAllowed allows machine later
allowed_on allows machine state later allowed comes = record { each = λ last more. allowed.each last (coming_on machine state later last comes more) }

-- what a step leaves, also where a collection came before it
pub allowed_next : (allows : ℕ → ℕ → Bool) (machine : Machine) (state : State) (own : Plan) → AreAllowed allows machine state → plan machine state ≡ Some own → Follows allows (made own).objects
allowed_next allows machine state own allowed is = allowed.each (made own) (MayCome.Step state own MayCome.Here is)

module _ {Facts : Type 0} (rules : Rules Facts) (machine : Machine) where
  pub collected_comes : (before after : Moment Facts) → Collects (view_of before.state) (view_of after.state) → after.state ≡ with_objects before.state after.state.objects
      → MayCome machine before.state after.state
  collected_comes before after collects same =
      subst (MayCome machine before.state) (sym (collected rules machine before after collects same))
      (MayCome.Kept (residents after.state.objects) before.state MayCome.Here (collected_keeping rules machine before after collects same))

  pub allowed_collected : (allows : ℕ → ℕ → Bool) (before after : Moment Facts) → AreAllowed allows machine before.state → Collects (view_of before.state) (view_of after.state)
      → after.state ≡ with_objects before.state after.state.objects → AreAllowed allows machine after.state
  allowed_collected allows before after allowed collects same =
      allowed_on allows machine before.state after.state allowed (collected_comes before after collects same)

  -- what a turn leaves whose plan is that of the state before the collection
  pub allowed_asked : (allows : ℕ → ℕ → Bool) (before middle : Moment Facts) (own : Plan) → AreAllowed allows machine before.state → plan machine before.state ≡ Some own
      → Collects (view_of before.state) (view_of middle.state) → middle.state ≡ with_objects before.state middle.state.objects
      → Follows allows (made (kept_plan (residents middle.state.objects) own)).objects
  allowed_asked allows before middle own allowed is collects same =
      allowed_next allows machine middle.state (kept_plan (residents middle.state.objects) own) (allowed_collected allows before middle allowed collects same)
      (collected_plan rules machine before middle own collects same is)

  room_comes : (before after : Moment Facts) (wants : List Want) → RoomMade rules before wants after → MayCome machine before.state after.state
  room_comes before after wants NotAsked = MayCome.Here
  room_comes before after wants (Asked first rest own ruled collects same) = collected_comes before own collects same

  pub turn_comes : (before after : Moment Facts) → TurnMade rules machine before after → MayCome machine before.state after.state
  turn_comes before after turn =
      subst (MayCome machine before.state) (sym turn.steps)
      (MayCome.Step turn.middle.state turn.own (room_comes before turn.middle (request machine before.state) turn.room) turn.plans)

  swept_comes : (before made after : Moment Facts) → Swept rules machine before made after → MayCome machine made.state after.state
  swept_comes before made after (NotSwept calls) = MayCome.Here
  swept_comes before made after (SweptAll own calls ruled collects same) = collected_comes made own collects same

  pub whole_comes : (before after : Moment Facts) → WholeTurn rules machine before after → MayCome machine before.state after.state
  whole_comes before after turn =
      coming_on machine before.state turn.middle.state after.state (turn_comes before turn.middle turn.made) (swept_comes before turn.middle after turn.swept)

  pub turns_come : (count : ℕ) (first last : Moment Facts) → Turns rules machine count first last → MayCome machine first.state last.state
  turns_come zero first last same = subst (λ (moment : Moment Facts). MayCome machine first.state moment.state) same MayCome.Here
  turns_come (suc count) first last (before, turns, turn) =
      coming_on machine first.state before.state last.state (turns_come count first before turns) (whole_comes before last turn)

-- the pair of sites of an object and of one to which it refers
pub pair_of : (allows : ℕ → ℕ → Bool) (objects : List (Option Object)) (one place : ℕ) (first second : Object) → Follows allows objects → object_in objects one ≡ Some first
    → object_in objects (suc place) ≡ Some second → Contains first.contents (Reference (suc place)) → allows first.site second.site ≡ true
pair_of allows objects one place first second follows is also holds =
    let points : Points objects one (suc place) = record { object = first; there = is; holds = holds; is_some = some } in
    sym (let same : may_point allows objects one (suc place) ≡ allows first.site second.site = rw (is, also) refl in same) ∙ follows.each one (suc place) points where
      some : 0 < suc place
      some = omega arith
