-- A step leaves the objects that were there, but for those that it places: it doesn't see whether an empty entry is added where others are
-- there.
use Rattle.std.proofs.Common.{◌≡◌, ◌∙◌, ap, refl, sym, arith, ℕ, ◌+◌, Bool, true, false, is_some, List, [], ◌∷◌, ◌++◌, length, replicate, Option, Some, None, zero, suc, IsTrue}
use Rattle.std.proofs.lemmas.List.{length-append, length-map, length-replicate}
use Rattle.std.proofs.lemmas.Option.{same_Some}
use Rattle.std.specs.Prelude.{option_map}
use Rattle.std.specs.List.{list_all}
use Rattle.cb_heap.proofs.Laws.{residents_changed}
use Rattle.cb_heap.specs.Kept.{residents}
use Rattle.cb_machine.specs.Machine.{Machine}
use Rattle.cb_machine.specs.Plans.{Plan}
use Rattle.cb_machine.specs.Steps.{plan}
use Rattle.cb_plain.specs.Reach.{root_references, unless_null}
use Rattle.cb_plain.specs.State.{Content, Object, State}
use Rattle.cb_plain.specs.Updates.{object_in, with_contents_in, with_objects}
use Rattle.cb_act.specs.Changing.{IsUnseen, changed_plan}
use Rattle.cb_act.specs.Keeping.{NativesCount, any, differ, matched}
use Rattle.cb_act.proofs.KeptSteps.{plan_kept}

nothing_added : (objects : List (Option Object)) (count : ℕ) → count ≡ 0 → objects ++ replicate count None ≡ objects
nothing_added [] zero none = refl
nothing_added [] (suc count) none = absurd (omega (arith, none))
nothing_added (entry ∷ objects) count none = ap (λ rest. entry ∷ rest) (nothing_added objects count none)

same_differ : (marks : List Bool) → differ marks marks ≡ 0
same_differ [] = refl
same_differ (true ∷ marks) = same_differ marks
same_differ (false ∷ marks) = same_differ marks

differ_same : (marks others : List Bool) → differ marks others ≡ 0 → others ≡ marks
differ_same [] [] none = refl
differ_same [] (stays ∷ others) none = absurd (omega (arith, none))
differ_same (stays ∷ marks) [] none = absurd (omega (arith, none))
differ_same (true ∷ marks) (true ∷ others) none = ap (λ rest. true ∷ rest) (differ_same marks others none)
differ_same (false ∷ marks) (false ∷ others) none = ap (λ rest. false ∷ rest) (differ_same marks others none)
differ_same (true ∷ marks) (false ∷ others) none = absurd (omega (arith, none))
differ_same (false ∷ marks) (true ∷ others) none = absurd (omega (arith, none))

is_matched : (objects : List (Option Object)) → matched (residents objects) objects ≡ objects
is_matched objects = nothing_added objects (differ (residents objects) (residents objects)) (same_differ (residents objects))

none_changed : (count place : ℕ) (contents : List Content) → replicate count None ≡ with_contents_in (replicate count None) (suc place) contents
none_changed zero place contents = refl
none_changed (suc count) zero contents = refl
none_changed (suc count) (suc place) contents = ap (λ rest. None ∷ rest) (none_changed count place contents)

added_changed : (objects : List (Option Object)) (count place : ℕ) (contents : List Content)
    → with_contents_in objects (suc place) contents ++ replicate count None ≡ with_contents_in (objects ++ replicate count None) (suc place) contents
added_changed [] count place contents = none_changed count place contents
added_changed (entry ∷ objects) count zero contents = refl
added_changed (entry ∷ objects) count (suc place) contents = ap (λ rest. entry ∷ rest) (added_changed objects count place contents)

contents_matched : (marks : List Bool) (objects : List (Option Object)) (serial : ℕ) (contents : List Content)
    → matched marks (with_contents_in objects serial contents) ≡ with_contents_in (matched marks objects) serial contents
contents_matched marks objects zero contents = refl
contents_matched marks objects (suc place) contents =
    ap (λ own. with_contents_in objects (suc place) contents ++ replicate (differ marks own) None) (residents_changed objects (suc place) contents)
    ∙ added_changed objects (differ marks (residents objects)) place contents

any_all : (serials : List ℕ) → IsTrue (list_all any serials)
any_all [] = refl
any_all (serial ∷ serials) = any_all serials

pub matched_unseen : (state : State) → IsUnseen (matched (residents state.objects)) any state
matched_unseen state = record {
  count = ap length (is_matched state.objects);
  contents = contents_matched (residents state.objects);
  same = λ serial passes. ap (λ objects. object_in objects serial) (is_matched state.objects);
  roots = any_all (root_references state.roots);
  inside = λ serial word other object passes there is. any_all (unless_null other);
}

matches : (marks : List Bool) (objects : List (Option Object)) → objects ≡ matched marks objects → residents objects ≡ marks
matches marks objects is =
    let added = differ marks (residents objects) in
    let longer : length objects ≡ length objects + added = ap length is ∙ length-append objects (replicate added None) ∙ ap (λ more. length objects + more) (length-replicate added None) in
    differ_same marks (residents objects) (none_more (length objects) added longer) where
      none_more : (count added : ℕ) → count ≡ count + added → added ≡ 0
      none_more count added longer = omega (arith, longer)

pub plan_residents : (machine : Machine) (state : State) → NativesCount machine state → (own : Plan) → plan machine state ≡ Some own
    → residents own.left.objects ≡ residents state.objects
plan_residents machine state natives own is =
    let marks = residents state.objects in
    let same : plan machine state ≡ option_map (changed_plan (matched marks)) (plan machine state) =
    ap (λ objects. plan machine (with_objects state objects)) (sym (is_matched state.objects))
    ∙ plan_kept machine (matched marks) any state (matched_unseen state) natives in
    let changed : own ≡ changed_plan (matched marks) own =
    same_Some own (changed_plan (matched marks) own) (sym is ∙ same ∙ ap (option_map (changed_plan (matched marks))) is) in
    matches marks own.left.objects (ap (λ (each : Plan). each.left.objects) changed)

pub plan_counts : (machine : Machine) (state : State) → NativesCount machine state → (own : Plan) → plan machine state ≡ Some own
    → length own.left.objects ≡ length state.objects
plan_counts machine state natives own is =
    sym (length-map own.left.objects is_some) ∙ ap length (plan_residents machine state natives own is) ∙ length-map state.objects is_some
