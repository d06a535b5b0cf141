-- A turn in which a class begins to be initialised of which static fields have strings as constants.
use Rattle.std.proofs.Common.{◌≡◌, ◌∙◌, ap, arith, refl, sym, subst, ℕ, ◌+◌, ◌<◌, ◌≤◌, ◌==◌, Bool, true, false, List, [], ◌∷◌, length, Option, Some}
use Rattle.std.proofs.lemmas.Bool.{eqb-true}
use Rattle.std.proofs.lemmas.List.Sums.{fold-append, sum_by-cons}
use Rattle.std.specs.List.{AllByRecursion, fold}
use Rattle.std.specs.Prelude.{OnOk, is_ok}
use Rattle.std.specs.declared.result.Result.{Result}
use Rattle.std.specs.declared.result.Result.TheVariants.{Err, Ok}
use Rattle.cb_frames.specs.Limited.{Limited, with_roots as with_held}
use Rattle.cb_frames.specs.Tops.{entered_init}
use Rattle.cb_heap.proofs.Laws.{reads_room}
use Rattle.cb_heap.specs.Closed.{Collects}
use Rattle.cb_heap.specs.Follows.{Follows}
use Rattle.cb_heap.specs.Grants.{IsBounded, words_granted}
use Rattle.cb_interp.proofs.TurnsNeedSerials as Serials
use Rattle.cb_heap.specs.Kept.{keep, residents}
use Rattle.cb_heap.specs.Reading.{seen}
use Rattle.cb_heap.specs.Rules.{Rules}
use Rattle.cb_heap.specs.declared.no_room.NoRoom.{NoRoom}
use Rattle.cb_link.specs.Named.{static_initial}
use Rattle.cb_link.specs.Program.{Linked}
use Rattle.cb_machine.specs.Initialising.{begun_upon, own_statics}
use Rattle.cb_machine.specs.Machine.{Machine}
use Rattle.cb_machine.specs.Plans.{Plan, asked, leaving, made}
use Rattle.cb_machine.specs.Sites.{constant_characters, constant_strings, stack_overflow}
use Rattle.cb_machine.specs.Steps.{asked_of, plan}
use Rattle.cb_machine.specs.Throwing.{throws}
use Rattle.cb_plain.specs.Depth.{has_room}
use Rattle.cb_plain.specs.Requests.{add_want, words_at}
use Rattle.cb_plain.specs.Roots as roots
use Rattle.cb_plain.specs.State.{Frame, Object, Roots, State}
use Rattle.cb_plain.specs.Updates.{with_objects}
use Rattle.cb_plain.specs.declared.class_state.ClassState.TheVariants.{Busy}
use Rattle.cb_plain.specs.declared.want.Want.{Want}
use Rattle.cb_interp.specs.Arguments.{Covers}
use Rattle.cb_act.specs.Coming.{AreAllowed}
use Rattle.cb_act.specs.Keeping.{kept_plan}
use Rattle.cb_act.specs.Steps.{view_of}
use Rattle.cb_interp.specs.TextStatics.{AreLow, AsksTexts, HasSerials, NoText, SomeTexts, first_plan, set_initial, wants_behind, wants_to}
use Rattle.cb_act.specs.Turning.{Moment, Outside, TurnMade, TurnRefused, facts_behind, machine_of, state_of}
use Rattle.cb_act.proofs.Laws.{begun_kept, length_kept}
use Rattle.cb_interp.proofs.Allowed.{allowed_asked}
use Rattle.cb_interp.proofs.TurnsMade.{asked_turn, collected, collected_keeping, quiet_turn}
use Rattle.cb_interp.proofs.TurnsTextAsks.{asks_to, begins_so}

-- ---- what is asked for in all

asks_all : (machine : Machine) (slots : List ℕ) (plan : Plan) → asked (fold (set_initial machine) plan slots) ≡ fold add_want (asked plan) (wants_behind machine plan slots)
asks_all machine [] plan = refl
asks_all machine (slot ∷ slots) plan =
    asks_all machine slots (set_initial machine plan slot)
    ∙ ap (λ (wants : List Want). fold add_want wants (wants_behind machine (set_initial machine plan slot) slots)) (asks_to machine slot plan (static_initial machine.program slot))
    ∙ sym (fold-append add_want (asked plan) (wants_to machine.program plan.left.roots.tables.constants (static_initial machine.program slot)) (wants_behind machine (set_initial machine plan slot) slots))

pub asks_begun : (machine : Machine) (state : State) (frames : List Frame) (class : ℕ) → has_room machine.frames frames 0 ≡ true
    → asked (begun_upon machine state frames class) ≡ fold add_want [] (wants_behind machine (first_plan state frames class) (own_statics machine.program class))
asks_begun machine state frames class room =
    ap asked (begins_so machine state frames class room) ∙ asks_all machine (own_statics machine.program class) (first_plan state frames class)

-- nothing is asked for where nothing is wanted
added_some : (wants : List Want) (want : Want) → 0 < length (add_want wants want)
added_some [] want = omega arith
added_some (old ∷ wants) want = go (old.site == want.site) refl where
  go : (same : Bool) → (old.site == want.site) ≡ same → 0 < length (add_want (old ∷ wants) want)
  go true same = rw same (omega arith)
  go false same = rw same (omega arith)

folded_some : (all wants : List Want) → 0 < length wants → 0 < length (fold add_want wants all)
folded_some [] wants some = some
folded_some (want ∷ all) wants some = folded_some all (add_want wants want) (added_some wants want)

pub none_wanted : (all : List Want) → fold add_want [] all ≡ [] → all ≡ []
none_wanted [] none = refl
none_wanted (want ∷ all) none =
    let some : 0 < length (fold add_want (add_want [] want) all) = folded_some all (add_want [] want) (added_some [] want) in
    let count : length (fold add_want (add_want [] want) all) ≡ 0 = ap (λ (wants : List Want). length wants) none in
    absurd (omega (arith, some, count))

pub covers_none : (granted all : List Want) → all ≡ [] → Covers granted all
covers_none granted all none = subst (Covers granted) (sym none) (λ site. omega arith)

pub serials_none : (objects : ℕ) (granted all : List Want) → all ≡ [] → HasSerials objects granted all
serials_none objects granted all none = subst (HasSerials objects granted) (sym none) tt

-- ---- what is granted

one_granted : (wants : List Want) (site : ℕ) → words_at wants site ≤ words_granted wants
one_granted [] site = omega arith
one_granted (want ∷ wants) site = go (want.site == site) refl (one_granted wants site) (sum_by-cons (λ (want : Want). want.words) want wants) where
  go : (same : Bool) → (want.site == site) ≡ same → words_at wants site ≤ words_granted wants → words_granted (want ∷ wants) ≡ want.words + words_granted wants
      → words_at (want ∷ wants) site ≤ words_granted (want ∷ wants)
  go true same rest sum = rw same (omega (arith, sum))
  go false same rest sum = rw same (omega (arith, rest, sum))

both_granted : (wants : List Want) (one other : ℕ) → (one == other) ≡ false → words_at wants one + words_at wants other ≤ words_granted wants
both_granted [] one other apart = omega arith
both_granted (want ∷ wants) one other apart =
    go (want.site == one) refl (want.site == other) refl (both_granted wants one other apart) (one_granted wants one) (one_granted wants other)
    (sum_by-cons (λ (want : Want). want.words) want wants)
  where
    go : (first : Bool) → (want.site == one) ≡ first → (last : Bool) → (want.site == other) ≡ last → words_at wants one + words_at wants other ≤ words_granted wants
        → words_at wants one ≤ words_granted wants → words_at wants other ≤ words_granted wants → words_granted (want ∷ wants) ≡ want.words + words_granted wants
        → words_at (want ∷ wants) one + words_at (want ∷ wants) other ≤ words_granted (want ∷ wants)
    go true first true last both one_rest other_rest sum =
        let same : (one == other) ≡ true = subst (λ (site : ℕ). (site == other) ≡ true) (eqb-true want.site one first) last in
        absurd (cc (apart, same))
    go true first false last both one_rest other_rest sum = rw (first, last) (omega (arith, other_rest, sum))
    go false first true last both one_rest other_rest sum = rw (first, last) (omega (arith, one_rest, sum))
    go false first false last both one_rest other_rest sum = rw (first, last) (omega (arith, both, sum))

serials_for : (objects : ℕ) (granted all : List Want) → AreLow objects granted → HasSerials objects granted all
serials_for objects granted [] low = tt
serials_for objects granted (want ∷ all) low = low

pub serials_granted : (objects : ℕ) (fixed : Bool) (granted wants all : List Want) → Serials.HasSerials fixed objects → granted ≡ wants → IsBounded fixed objects wants → HasSerials objects granted all
serials_granted objects fixed granted wants all grows is bounded =
    let low = Serials.serials_all fixed objects wants grows bounded in
    let both = both_granted wants constant_characters constant_strings refl in
    let so : AreLow objects wants = omega (arith, low, both) in
    serials_for objects granted all (subst (AreLow objects) (sym is) so)

-- the sites are known
pub sites_known : (P : ℕ → Type 0) (wants : List Want) → AsksTexts wants → P constant_characters → P constant_strings → AllByRecursion (λ want. P want.site) wants
sites_known P wants NoText characters strings = tt
sites_known P wants (SomeTexts one other) characters strings = (characters, (strings, tt))

-- ---- the turn

pub ok_so : {E : Type 0} {P : Type 0} (result : Result (Unit {0}) E) → is_ok result ≡ true → OnOk result P → P
ok_so (Ok done) ok is = is
ok_so (Err error) ok is = absurd (cc ok)

pub deep_so : (machine : Machine) (state : State) (frames : List Frame) (class : ℕ) → has_room machine.frames frames 0 ≡ false
    → begun_upon machine state frames class ≡ throws machine state stack_overflow
deep_so machine state frames class room = rw room refl

module _ {Facts : Type 0} (rules : Rules Facts) (machine : Machine) (before : Moment Facts) (class : ℕ) (frames : Roots → List Frame)
    (is : plan machine before.state ≡ Some (begun_upon machine before.state (frames before.state.roots) class)) where
  abbrev own : Plan
  own = begun_upon machine before.state (frames before.state.roots) class

  pub quiet_texts : (after : Moment Facts) → asked own ≡ [] → after.state ≡ made own → after.facts ≡ facts_behind rules before.facts own.placed → TurnMade rules machine before after
  quiet_texts after none steps knows = quiet_turn rules machine before after own is none steps knows

  module _ (middle : Moment Facts) (collects : Collects (view_of before.state) (view_of middle.state)) (same : middle.state ≡ with_objects before.state middle.state.objects) where
    abbrev kept : List Bool
    kept = residents middle.state.objects

    -- the plan of what is kept
    pub begun_again : begun_upon machine middle.state (frames middle.state.roots) class ≡ kept_plan kept own
    begun_again =
        ap (λ (state : State). begun_upon machine state (frames state.roots) class) (collected rules machine before middle collects same)
        ∙ begun_kept (keep kept) machine before.state (length_kept kept before.state.objects (collected_keeping rules machine before middle collects same).count)
        (frames before.state.roots) class

    pub asks_again : asked (begun_upon machine middle.state (frames middle.state.roots) class) ≡ asked own
    asks_again = ap asked begun_again

    -- what is left follows what sites allow
    pub begun_follows : (allows : ℕ → ℕ → Bool) → AreAllowed allows machine before.state
        → Follows allows (made (begun_upon machine middle.state (frames middle.state.roots) class)).objects
    begun_follows allows allowed =
        subst (λ (own : Plan). Follows allows (made own).objects) (sym begun_again) (allowed_asked rules machine allows before middle own allowed is collects same)

    pub texts_turn : (after : Moment Facts) (wants : List Want) → wants ≡ asked own → (wants ≡ [] → ⊥)
        → rules.makes_room before.facts (view_of before.state) wants (Ok tt) (record { facts = middle.facts; residents = residents middle.state.objects })
        → after.state ≡ made (begun_upon machine middle.state (frames middle.state.roots) class)
        → after.facts ≡ facts_behind rules middle.facts (begun_upon machine middle.state (frames middle.state.roots) class).placed → TurnMade rules machine before after
    texts_turn after [] asks some ruled steps knows = absurd (some refl)
    texts_turn after (want ∷ wants) asks some ruled steps knows =
        asked_turn rules machine before middle after own want wants is (sym asks) ruled collects same (steps ∙ ap made begun_again)
        (knows ∙ ap (λ (own : Plan). facts_behind rules middle.facts own.placed) begun_again)

  pub texts_refused : (after : Moment Facts) (reason : NoRoom) (wants : List Want) → wants ≡ asked own → (wants ≡ [] → ⊥)
      → rules.makes_room before.facts (view_of before.state) wants (Err reason) (record { facts = after.facts; residents = residents after.state.objects })
      → Collects (view_of before.state) (view_of after.state) → after.state ≡ with_objects before.state after.state.objects → TurnRefused rules machine before reason after
  texts_refused after reason wants asks some ruled collects same = record {
    refused = record {
      asked = λ none. some (asks ∙ sym (ap asked_of is) ∙ none);
      ruled = subst (λ (wants : List Want). rules.makes_room before.facts (view_of before.state) wants (Err reason) (record { facts = after.facts; residents = residents after.state.objects }))
          (asks ∙ sym (ap asked_of is)) ruled;
      collects = collects;
      same = same;
    };
  }

-- what stands once the frame of the class does, and it is busy
module _ (program : Linked) (index : ℕ → ℕ) (kept : List (Option Object)) (outside : Outside) (class : ℕ) (old entered busy : Limited) where
  abbrev state : State
  state = state_of (seen index kept old.roots) outside

  busy_so : entered ≡ with_held old (entered_init old.roots class) → busy ≡ with_held entered (roots.with_class entered.roots class Busy)
      → busy ≡ with_held old (roots.with_class (entered_init old.roots class) class Busy)
  busy_so enters sets = sets ∙ ap (λ (entered : Limited). with_held entered (roots.with_class entered.roots class Busy)) enters

  pub begun_left : {E : Type 0} (result : Result (Unit {0}) E) → is_ok result ≡ has_room old.limit old.roots.frames 0
      → OnOk result (entered ≡ with_held old (entered_init old.roots class)) → has_room old.limit old.roots.frames 0 ≡ true
      → busy ≡ with_held entered (roots.with_class entered.roots class Busy)
      → fold (set_initial (machine_of program busy.limit)) (leaving (state_of (seen index kept busy.roots) outside)) (own_statics program class)
      ≡ begun_upon (machine_of program old.limit) state state.roots.frames class
  begun_left result deep enters room sets =
      ap (λ (busy : Limited). fold (set_initial (machine_of program busy.limit)) (leaving (state_of (seen index kept busy.roots) outside)) (own_statics program class))
      (busy_so (ok_so result (deep ∙ room) enters) sets)
      ∙ sym (begins_so (machine_of program old.limit) state state.roots.frames class (reads_room index old.roots old.limit 0 ∙ room))
