-- `System.arraycopy`: the turn in which it copies is the machine's, and so is the one in which it throws behind what it copied.
use Rattle.std.proofs.Common.{◌≡◌, ◌∙◌, ap, arith, refl, sym, subst, ℕ, ◌≤◌, Bool, List, [], ◌∷◌, map, Option, Some, None, is_some, true, if◌then◌else◌}
use Rattle.std.proofs.lemmas.Bool.{eq-eqb}
use Rattle.cb_act.specs.Acting.{Asks as AsksNeed, acted}
use Rattle.cb_act.specs.Coming.{AreAllowed}
use Rattle.cb_act.specs.Here.{Here}
use Rattle.cb_act.specs.Keeping.{kept_plan}
use Rattle.cb_act.specs.Placing.{exception_size, thrown}
use Rattle.cb_act.specs.Turning.{NotAsked, Outside, RoomMade, RoomRefused, TurnMade, TurnRefused, machine_of, moment_of, state_of}
use Rattle.cb_act.specs.declared.need.Need.TheVariants as needs
use Rattle.cb_act.proofs.Laws.{thrown_so}
use Rattle.cb_heap.specs.Closed.{Collects, IsClosed}
use Rattle.cb_heap.specs.Follows.{Follows}
use Rattle.cb_heap.specs.Kept.{residents}
use Rattle.cb_heap.specs.Reading.{View, read_roots, read_value, seen}
use Rattle.cb_heap.specs.Rules.{Rules}
use Rattle.cb_heap.specs.Shaped.{new_object}
use Rattle.cb_heap.specs.declared.no_room.NoRoom.{NoRoom}
use Rattle.cb_io.specs.Faults.{CountsFaults}
use Rattle.cb_library.specs.declared.native.Native.TheVariants as natives
use Rattle.cb_link.specs.Program.{Linked}
use Rattle.cb_link.specs.declared.decoded.Decoded.{Decoded}
use Rattle.cb_machine.specs.Machine.{Machine, kind_of_site}
use Rattle.cb_machine.specs.Natives.{native_of, performed}
use Rattle.cb_machine.specs.Performing.{Gives, Stops}
use Rattle.cb_machine.specs.Plans.{One, Placing, Plan, leaving, made, object_of}
use Rattle.cb_machine.specs.Steps.{asked_of, plan}
use Rattle.cb_machine.specs.Throwing.{exception_contents, throwing}
use Rattle.cb_natives.proofs.Laws.{copied_closes}
use Rattle.cb_natives.specs.Answers.{Beside}
use Rattle.cb_natives.specs.ArrayRanges.{FailsCopy, PlansCopy, copied_by, ends_with}
use Rattle.cb_natives.specs.Exceptions.{site_of}
use Rattle.cb_natives.specs.Making.{Asks, machine_in, state_in}
use Rattle.cb_natives.specs.MakingOwn.{call_of}
use Rattle.cb_natives.specs.declared.answers.Exception.{Exception}
use Rattle.cb_natives.specs.declared.copy_plans.CopyPlan.{CopyPlan}
use Rattle.cb_natives.specs.declared.array_ranges.Ranges.{Ranges}
use Rattle.cb_plain.specs.Requests.{words_at}
use Rattle.cb_plain.specs.State.{Object, Roots, State, words_of}
use Rattle.cb_plain.specs.declared.shape.Shape.{Shape}
use Rattle.cb_plain.specs.declared.value.Value.{Value}
use Rattle.cb_plain.specs.declared.want.Want.{Want}
use Rattle.cb_interp.proofs.Allowed.{allowed_asked, allowed_next}
use Rattle.cb_interp.proofs.FollowCopies.{follows_front}
use Rattle.cb_interp.proofs.NativesAnswered.{stops_so}
use Rattle.cb_interp.proofs.NativesMade.{behind, behind_made, collects_nothing, goes_on, plans_so, stops_again, turn_so}
use Rattle.cb_interp.proofs.TurnsMade.{collected_plan}
use Rattle.cb_interp.proofs.TurnsThrown.{exception_want}
use Rattle.cb_interp.specs.Answering.{argument_count, behind_answer}
use Rattle.cb_interp.specs.Performing.{arguments_at}

abbrev beside_of : Roots → (input printed : List ℕ) → Beside
beside_of roots input printed = record { roots = roots; input = input; printed = printed; exit = None }

-- a plan that throws is the same plan as one that throws, and its sites are the same
same_stops : (one other : Plan) → Some (Stops one) ≡ Some (Stops other) → one ≡ other
same_stops one other is = cc is

abbrev first_site : List Placing → ℕ
first_site (One site kind contents ∷ placed) = site
first_site other = 0

module _ (program : Linked) (index : ℕ → ℕ) (objects : List (Option Object)) (limit : ℕ) (held : Roots) (outside : Outside) (decoded : Decoded) (method : ℕ)
    (at : Here (machine_of program limit) (state_of (seen index objects held) outside) decoded)
    (asks : acted program limit decoded (seen index objects held) ≡ Some (AsksNeed (needs.Performs method)))
    (is : native_of program method ≡ Some natives.SystemArraycopy) where
  abbrev machine : Machine
  machine = machine_of program limit

  abbrev view : View
  view = seen index objects held

  abbrev arguments : List Value
  arguments = map (read_value index) (arguments_at program decoded held)

  -- ---- it copies all

  module _ (own : CopyPlan) (plans : PlansCopy program objects index arguments own) (none : own.fails ≡ None) where
    abbrev left : List (Option Object)
    left = copied_by objects index own.ranges

    abbrev state_left : (input printed : List ℕ) → State
    state_left input printed = state_in (record { roots = view.roots; objects = left }) input printed

    gives : (frames : ℕ) (input printed : List ℕ)
        → performed (machine_in program frames) (state_in view input printed) natives.SystemArraycopy arguments ≡ Some (Gives (leaving (state_left input printed)) [])
    gives frames input printed =
        plans.does frames (beside_of view.roots input printed)
        ∙ ap (λ (fails : Option Exception). Some (ends_with (call_of program objects frames (beside_of view.roots input printed)) left fails)) none

    asks_nothing : Asks program view natives.SystemArraycopy arguments []
    asks_nothing frames input printed = record { own = leaving (state_left input printed); answer = []; is = gives frames input printed; asks = refl }

    pub copy_goes_on : is_some (plan machine (state_of view outside)) ≡ true → decoded.next ≡ None → ⊥
    copy_goes_on = goes_on program index objects limit held outside decoded method at asks natives.SystemArraycopy is asks_nothing

    -- what it leaves follows what sites allow, where they allow what may come
    pub copied_follows : (allows : ℕ → ℕ → Bool) (pc : ℕ) → decoded.next ≡ Some pc → AreAllowed allows machine (state_of view outside) → Follows allows left
    copied_follows allows pc next allowed =
        allowed_next allows machine (state_of view outside) (behind program index objects limit held outside decoded method at asks natives.SystemArraycopy is (leaving (state_left outside.input outside.printed)) [] pc) allowed
        (plans_so program index objects limit held outside decoded method at asks natives.SystemArraycopy is (leaving (state_left outside.input outside.printed)) [] pc next
        (gives limit outside.input outside.printed))

    pub copied_turn : {Facts : Type 0} (rules : Rules Facts) (facts now : Facts) (changed : List (Option Object)) (places : ℕ → ℕ) (after : Roots) (pc : ℕ) → IsClosed view
        → decoded.next ≡ Some pc → changed ≡ left → now ≡ facts → places ≡ index → after ≡ behind_answer (argument_count program decoded) [] pc held
        → TurnMade rules machine (moment_of view outside facts) (moment_of (seen places changed after) outside now)
    copied_turn {Facts} rules facts now changed places after pc closed next are same stay behind =
        subst (λ (now : Facts). TurnMade rules machine (moment_of view outside facts) (moment_of (seen places changed after) outside now)) (sym same)
        (turn_so program index objects limit held outside decoded method at asks natives.SystemArraycopy is index objects held (collects_nothing view closed) rules facts facts facts
        (seen places changed after) [] pc next asks_nothing NotAsked
        (record {
          ran = view.roots;
          answer = [];
          performs = λ frames input printed. record {
            own = leaving (state_left input printed);
            is = gives frames input printed;
            steps = ap (λ (changed : List (Option Object)). state_in (record { roots = view.roots; objects = changed }) input printed) are;
            knows = refl;
          };
          frames = refl;
          left = ap (λ (places : ℕ → ℕ). read_roots places after) stay ∙ ap (read_roots index) behind ∙ behind_made index (argument_count program decoded) pc None held;
        }))

  -- ---- it throws

  module _ (exception : Exception) (fails : FailsCopy program objects arguments exception) where
    abbrev site : ℕ
    site = site_of exception

    abbrev thrown_by : Plan
    thrown_by = throwing machine site (leaving (state_of (record { roots = view.roots; objects = fails.left }) outside))

    stops : performed machine (state_of view outside) natives.SystemArraycopy arguments ≡ Some (Stops thrown_by)
    stops = fails.does limit (beside_of view.roots outside.input outside.printed)

    pub fails_so : plan machine (state_of view outside) ≡ Some thrown_by
    fails_so = stops_so program index objects limit held outside decoded method at asks natives.SystemArraycopy is thrown_by stops

    -- where room was made
    module _ (places : ℕ → ℕ) (stay : List (Option Object)) (roots : Roots) (collects : Collects view (seen places stay roots))
        (again : CopyPlan) (plans : PlansCopy program stay places (map (read_value places) (arguments_at program decoded roots)) again) where
      abbrev middle : View
      middle = seen places stay roots

      abbrev changed : List (Option Object)
      changed = copied_by stay places again.ranges

      abbrev left_changed : State
      left_changed = state_of (record { roots = middle.roots; objects = changed }) outside

      abbrev kept_so : Plan
      kept_so = kept_plan (residents stay) thrown_by

      ends : Some (ends_with (call_of program stay limit (beside_of middle.roots outside.input outside.printed)) changed again.fails) ≡ Some (Stops kept_so)
      ends =
          sym (plans.does limit (beside_of middle.roots outside.input outside.printed))
          ∙ stops_again program index objects limit held outside decoded method at asks natives.SystemArraycopy is places stay roots collects thrown_by stops

      -- it throws the same there
      same_there : kept_so ≡ throwing machine site (leaving left_changed)
      same_there = by again.fails refl where
        by : (own : Option Exception) → again.fails ≡ own → kept_so ≡ throwing machine site (leaving left_changed)
        by None none =
            let both : Some (Gives (leaving left_changed) []) ≡ Some (Stops kept_so) =
            sym (ap (λ (fails : Option Exception). Some (ends_with (call_of program stay limit (beside_of middle.roots outside.input outside.printed)) changed fails)) none) ∙ ends in
            absurd (cc both)
        by (Some other) some =
            let whole : throwing machine (site_of other) (leaving left_changed) ≡ kept_so =
            same_stops (throwing machine (site_of other) (leaving left_changed)) kept_so
            (sym (ap (λ (fails : Option Exception). Some (ends_with (call_of program stay limit (beside_of middle.roots outside.input outside.printed)) changed fails)) some) ∙ ends) in
            let sites : site_of other ≡ site = ap (λ (own : Plan). first_site own.placed) whole in
            sym whole ∙ ap (λ (site : ℕ). throwing machine site (leaving left_changed)) sites

      -- so does what it copies
      pub failed_follows : {Facts : Type 0} (rules : Rules Facts) (facts between : Facts) (allows : ℕ → ℕ → Bool) → AreAllowed allows machine (state_of view outside) → Follows allows changed
      failed_follows rules facts between allows allowed =
          let whole : Follows allows (made (throwing machine site (leaving left_changed))).objects =
          subst (λ (own : Plan). Follows allows (made own).objects) same_there
          (allowed_asked rules machine allows (moment_of view outside facts) (moment_of middle outside between) thrown_by allowed fails_so collects
          (ap (λ (roots : Roots). state_of (record { roots = roots; objects = stay }) outside) collects.roots)) in
          follows_front changed (Some (object_of site (kind_of_site program site) (exception_contents 0 0)) ∷ []) allows middle.roots closed whole where
            by_ranges : (ranges : Option Ranges) → IsClosed (record { roots = middle.roots; objects = copied_by stay places ranges })
            by_ranges None = collects.closed
            by_ranges (Some ranges) = copied_closes stay places ranges (copied_by stay places (Some ranges)) refl middle.roots collects.closed

            closed : IsClosed (record { roots = middle.roots; objects = changed })
            closed = by_ranges again.ranges

      pub failed_so : {Facts : Type 0} (rules : Rules Facts) (facts between now : Facts) (after : View) (shapes : List Shape) (wants : List Want) → wants ≡ exception_want site ∷ []
          → new_object shapes site (kind_of_site program site) exception_size ≡ object_of site (kind_of_site program site) (exception_contents 0 0)
          → RoomMade rules (moment_of view outside facts) wants (moment_of middle outside between)
          → after ≡ thrown shapes site (kind_of_site program site) (record { roots = middle.roots; objects = changed })
          → now ≡ rules.placed between site exception_size
          → TurnMade rules machine (moment_of view outside facts) (moment_of after outside now)
      failed_so rules facts between now after shapes wants asked shaped room behind knows = record {
        middle = moment_of middle outside between;
        room =
            subst (λ (wants : List Want). RoomMade rules (moment_of view outside facts) wants (moment_of middle outside between)) (asked ∙ sym (ap asked_of fails_so)) room;
        own = kept_so;
        plans =
            collected_plan rules machine (moment_of view outside facts) (moment_of middle outside between) thrown_by collects
            (ap (λ (roots : Roots). state_of (record { roots = roots; objects = stay }) outside) collects.roots) fails_so;
        steps =
            ap (λ (view : View). state_of view outside) behind ∙ sym (thrown_so machine left_changed site shapes shaped) ∙ ap made (sym same_there);
        knows = knows;
      }

    pub refuses_so : {Facts : Type 0} (rules : Rules Facts) (facts now : Facts) (after : View) (wants : List Want) (reason : NoRoom) → wants ≡ exception_want site ∷ []
        → RoomRefused rules (moment_of view outside facts) wants reason (moment_of after outside now)
        → TurnRefused rules machine (moment_of view outside facts) reason (moment_of after outside now)
    refuses_so rules facts now after wants reason asked refused = record {
      refused = subst (λ (wants : List Want). RoomRefused rules (moment_of view outside facts) wants reason (moment_of after outside now)) (asked ∙ sym (ap asked_of fails_so)) refused;
    }

-- what a plan throws is thrown
pub fails_by : (program : Linked) (index : ℕ → ℕ) (objects : List (Option Object)) (arguments : List Value) (own : CopyPlan) → PlansCopy program objects index arguments own
    → (exception : Exception) → own.fails ≡ Some exception → FailsCopy program objects arguments exception
fails_by program index objects given own plans exception some = record {
  left = copied_by objects index own.ranges;
  does = λ frames beside.
      plans.does frames beside
      ∙ ap (λ (fails : Option Exception). Some (ends_with (call_of program objects frames beside) (copied_by objects index own.ranges) fails)) some;
}

pub some_wanted : (site : ℕ) (wants : List Want) → wants ≡ exception_want site ∷ [] → wants ≡ [] → ⊥
some_wanted site wants is none = let both : exception_want site ∷ [] ≡ [] = sym is ∙ none in cc both

-- room was made for one exception, and nothing failed
pub granted_one : (site : ℕ) → words_of exception_size ≤ words_at (exception_want site ∷ []) site
granted_one site = subst (λ (same : Bool). words_of exception_size ≤ (if same then 6 else 0)) (sym (eq-eqb site site refl)) (omega arith)

pub none_failed : (before now : ℕ) (Failed : Type 0) → now ≡ before → (Failed → ⊥) → CountsFaults before now Failed
none_failed before now Failed same never =
    record { never_falls = omega (arith, same); exact = λ low. (λ fails. absurd (never fails), λ rises. absurd (omega (arith, same, rises))) }
