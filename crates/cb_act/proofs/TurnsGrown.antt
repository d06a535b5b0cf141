-- Over a store of fixed size a turn places few objects: each takes three words at least of those that were granted, which are few.
use Rattle.std.proofs.Common.{◌≡◌, ◌∙◌, ◌≤◌, ap, arith, refl, sym, subst, ℕ, ◌+◌, ◌*◌, zero, suc, Bool, true, false, List, [], ◌∷◌, ◌++◌, length, length-append, map, min, Option, Some}
use Rattle.std.specs.Prelude.{◌==◌, if◌then◌else◌, is_some, None, option_map}
use Rattle.std.specs.List.{flat_map, fold, range_with_len}
use Rattle.std.proofs.lemmas.List.{length-map, length-replicate}
use Rattle.std.proofs.lemmas.List.FromFn.{length-map-range_with_len}
use Rattle.std.proofs.lemmas.List.Sums.{sum_by-append, sum_by-cons}
use Rattle.cb_heap.specs.Closed.{IsClosed}
use Rattle.cb_heap.specs.Grants.{words_granted}
use Rattle.cb_heap.specs.Kept.{residents}
use Rattle.cb_heap.specs.Rules.{AreBounded, Rules}
use Rattle.cb_machine.specs.Machine.{Machine}
use Rattle.cb_machine.specs.Plans.{Alike, One, Placing, Plan, Rows, asked, made, object_of, objects_of, wants_of}
use Rattle.cb_machine.specs.Steps.{asked_of, plan, request}
use Rattle.cb_plain.specs.Requests.{add_want, most_words}
use Rattle.cb_plain.specs.State.{Object, Reference, State, words_of}
use Rattle.cb_plain.specs.Updates.{with_objects}
use Rattle.cb_plain.specs.declared.want.Want.{Want}
use Rattle.cb_act.specs.Keeping.{IsKeeping, kept_plan, kept_state}
use Rattle.cb_act.specs.Steps.{view_of}
use Rattle.cb_act.specs.Turning.{Asked, Moment, NotAsked, NotSwept, RoomMade, Swept, SweptAll, TurnMade, Turns, WholeTurn, most_at_once}
use Rattle.cb_act.proofs.KeptCounts.{plan_counts}
use Rattle.cb_act.proofs.NativesChange.{natives_count}
use Rattle.cb_act.proofs.TurnsStand.{kept_plan_so}

abbrev words : Want → ℕ
words want = want.words

-- what is wanted is granted, as far as it is counted
granted_more : (wants : List Want) (want : Want) → min (words_granted wants + want.words) most_words ≤ words_granted (add_want wants want)
granted_more [] want = omega arith
granted_more (old ∷ wants) want = go (old.site == want.site) (add_want (old ∷ wants) want) refl (granted_more wants want) where
  go : (same : Bool) (more : List Want) → more ≡ (if same then record { site = old.site; words = min (old.words + want.words) most_words } ∷ wants else old ∷ add_want wants want)
      → min (words_granted wants + want.words) most_words ≤ words_granted (add_want wants want) → min (words_granted (old ∷ wants) + want.words) most_words ≤ words_granted more
  go true more is rest =
      let here : words_granted more ≡ min (old.words + want.words) most_words + words_granted wants = ap words_granted is ∙ sum_by-cons words record { site = old.site; words = min (old.words + want.words) most_words } wants in
      let there : words_granted (old ∷ wants) ≡ old.words + words_granted wants = sum_by-cons words old wants in
      omega (arith, here, there)
  go false more is rest =
      let here : words_granted more ≡ old.words + words_granted (add_want wants want) = ap words_granted is ∙ sum_by-cons words old (add_want wants want) in
      let there : words_granted (old ∷ wants) ≡ old.words + words_granted wants = sum_by-cons words old wants in
      omega (arith, rest, here, there)

granted_all : (wants more : List Want) → min (words_granted wants + words_granted more) most_words ≤ words_granted (fold add_want wants more)
granted_all wants [] = omega arith
granted_all wants (want ∷ more) =
    let here : words_granted (want ∷ more) ≡ want.words + words_granted more = sum_by-cons words want more in
    let one = granted_more wants want in
    let rest = granted_all (add_want wants want) more in
    omega (arith, here, one, rest)

-- no more objects are placed than words are wanted
words_for : (count size : ℕ) → count ≤ count * words_of size
words_for zero size = omega arith
words_for (suc count) size = let rest = words_for count size in omega (arith, rest)

few_objects : (placing : Placing) → length (objects_of placing) ≤ words_granted (wants_of placing)
few_objects (One site kind contents) = omega arith
few_objects (Alike site kind content size zero) = omega arith
few_objects (Alike site kind content size (suc count)) =
    let all = words_for (suc count) size in
    let many : length (objects_of (Alike site kind content size (suc count))) ≡ suc count = length-replicate (suc count) _ in
    omega (arith, all, many)
few_objects (Rows site kind first size zero) = omega arith
few_objects (Rows site kind first size (suc count)) =
    let all = words_for (suc count) size in
    let many : length (objects_of (Rows site kind first size (suc count))) ≡ suc count = length-map-range_with_len (λ turn. object_of site kind (map Reference (range_with_len (first + turn * size) size))) 0 (suc count) in
    omega (arith, all, many)

abbrev placed_more : List (Option Object) → Placing → List (Option Object)
placed_more objects placing = objects ++ map Some (objects_of placing)

few_placed : (placed : List Placing) (objects : List (Option Object)) → length (fold placed_more objects placed) ≤ length objects + words_granted (flat_map wants_of placed)
few_placed [] objects = omega arith
few_placed (placing ∷ placed) objects =
    let one = few_objects placing in
    let rest = few_placed placed (placed_more objects placing) in
    let here : length (placed_more objects placing) ≡ length objects + length (objects_of placing) =
    length-append objects (map Some (objects_of placing)) ∙ ap (λ count. length objects + count) (length-map (objects_of placing) Some) in
    let sums : words_granted (flat_map wants_of (placing ∷ placed)) ≡ words_granted (wants_of placing) + words_granted (flat_map wants_of placed) =
    sum_by-append (λ (want : Want). want.words) (wants_of placing) (flat_map wants_of placed) in
    omega (arith, one, rest, here, sums)

plan_grows : (own : Plan) → words_granted (asked own) ≤ most_at_once → length (made own).objects ≤ length own.left.objects + most_at_once
plan_grows own few =
    let all = granted_all [] (flat_map wants_of own.placed) in
    let placed = few_placed own.placed own.left.objects in
    omega (arith, all, placed, few)

module _ {Facts : Type 0} (rules : Rules Facts) (bounded : AreBounded rules) (machine : Machine) (fixed : rules.fixed ≡ true) where
  few_asked : (before after : Moment Facts) (wants : List Want) → RoomMade rules before wants after → words_granted wants ≤ most_at_once
  few_asked before after wants NotAsked = omega arith
  few_asked before after wants (Asked first rest own ruled collects same) = bounded.words before.facts _ (first ∷ rest) _ fixed ruled

  same_count : (before after : Moment Facts) (wants : List Want) → RoomMade rules before wants after → length after.state.objects ≡ length before.state.objects
  same_count before after wants NotAsked = refl
  same_count before after wants (Asked first rest own ruled collects same) = collects.count

  -- what is asked for is the same of what is kept
  asked_kept : (kept : List Bool) (found : Option Plan) → asked_of (option_map (kept_plan kept) found) ≡ asked_of found
  asked_kept kept None = refl
  asked_kept kept (Some own) = refl

  marks_count : (objects : List (Option Object)) → length (residents objects) ≡ length objects
  marks_count objects = length-map objects is_some

  same_request : (before after : Moment Facts) (wants : List Want) → RoomMade rules before wants after → request machine after.state ≡ request machine before.state
  same_request before after wants NotAsked = refl
  same_request before after wants (Asked first rest own ruled collects same) =
      let kept : List Bool = residents after.state.objects in
      let is : after.state ≡ kept_state kept before.state = same ∙ ap (with_objects before.state) collects.objects in
      let keeping : IsKeeping kept before.state = record {
        count = marks_count after.state.objects ∙ collects.count;
        closed = subst IsClosed (ap view_of is) collects.closed;
      } in
      ap (request machine) is ∙ ap asked_of (kept_plan_so machine kept before.state keeping) ∙ asked_kept kept (plan machine before.state)

  -- what a turn leaves has few objects more
  pub turn_grows : (before after : Moment Facts) → TurnMade rules machine before after → length after.state.objects ≤ length before.state.objects + most_at_once
  turn_grows before after turn =
      let few : words_granted (request machine before.state) ≤ most_at_once = few_asked before turn.middle (request machine before.state) turn.room in
      let left : length turn.own.left.objects ≡ length turn.middle.state.objects = plan_counts machine turn.middle.state (natives_count machine turn.middle.state) turn.own turn.plans in
      let asks : request machine before.state ≡ asked turn.own =
      sym (same_request before turn.middle (request machine before.state) turn.room) ∙ ap asked_of turn.plans in
      let grows = plan_grows turn.own (subst (λ (wants : List Want). words_granted wants ≤ most_at_once) asks few) in
      let middle : length turn.middle.state.objects ≡ length before.state.objects = same_count before turn.middle (request machine before.state) turn.room in
      let last : length after.state.objects ≡ length (made turn.own).objects = ap (λ (state : State). length state.objects) turn.steps in
      omega (arith, grows, left, middle, last)

  swept_count : (before made after : Moment Facts) → Swept rules machine before made after → length after.state.objects ≡ length made.state.objects
  swept_count before made after (NotSwept calls) = refl
  swept_count before made after (SweptAll own calls ruled collects same) = collects.count

  pub whole_grows : (before after : Moment Facts) → WholeTurn rules machine before after → length after.state.objects ≤ length before.state.objects + most_at_once
  whole_grows before after turn =
      let one = turn_grows before turn.middle turn.made in
      let same = swept_count before turn.middle after turn.swept in
      omega (arith, one, same)

  pub turns_grow : (count : ℕ) (first last : Moment Facts) → Turns rules machine count first last → length last.state.objects ≤ length first.state.objects + count * most_at_once
  turns_grow zero first last same = let counts : length first.state.objects ≡ length last.state.objects = ap (λ (moment : Moment Facts). length moment.state.objects) same in omega (arith, counts)
  turns_grow (suc count) first last (before, turns, turn) =
      let one = whole_grows before last turn in
      let all = turns_grow count first before turns in
      omega (arith, one, all)
