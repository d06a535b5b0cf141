-- The next state of what is kept.
use Rattle.std.proofs.Common.{◌≡◌, ◌∙◌, ap, refl, sym, arith, ◌+◌, Bool, true, false, List, [], ◌∷◌, ◌++◌, length, map, is_some, Option, Some, None}
use Rattle.std.proofs.lemmas.List.{length-append, length-map, map-append}
use Rattle.std.specs.Prelude.{option_map}
use Rattle.std.specs.List.{fold}
use Rattle.cb_heap.specs.Kept.{keep, residents}
use Rattle.cb_machine.specs.Machine.{Machine}
use Rattle.cb_machine.specs.Plans.{Placing, Plan, made, objects_of}
use Rattle.cb_machine.specs.Steps.{plan, step}
use Rattle.cb_plain.specs.State.{Object, State}
use Rattle.cb_plain.specs.Updates.{with_objects}
use Rattle.cb_act.specs.Keeping.{KeepsPlan, kept_after, kept_plan, kept_state, residents_behind, with_marks}

abbrev pub with_placed : List (Option Object) → Placing → List (Option Object)
with_placed objects placing = objects ++ map Some (objects_of placing)

all_kept : (more : List Object) → keep (map (λ object. true) more) (map Some more) ≡ map Some more
all_kept [] = refl
all_kept (object ∷ more) = ap (λ rest. Some object ∷ rest) (all_kept more)

keep_more : (residents : List Bool) (objects : List (Option Object)) (more : List Object) → length residents ≡ length objects
    → keep (residents ++ map (λ object. true) more) (objects ++ map Some more) ≡ keep residents objects ++ map Some more
keep_more [] [] more same = all_kept more
keep_more [] (entry ∷ objects) more same = absurd (omega (arith, same))
keep_more (stays ∷ residents) [] more same = absurd (omega (arith, same))
keep_more (true ∷ residents) (entry ∷ objects) more same = ap (λ rest. entry ∷ rest) (keep_more residents objects more (omega (arith, same)))
keep_more (false ∷ residents) (entry ∷ objects) more same = ap (λ rest. None ∷ rest) (keep_more residents objects more (omega (arith, same)))

length_more : (residents : List Bool) (objects : List (Option Object)) (more : List Object) → length residents ≡ length objects
    → length (residents ++ map (λ object. true) more) ≡ length (objects ++ map Some more)
length_more residents objects more same =
    length-append residents (map (λ object. true) more) ∙ ap (λ marks. length residents + marks) (length-map more (λ object. true))
    ∙ ap (λ count. count + length more) same ∙ ap (λ entries. length objects + entries) (sym (length-map more Some)) ∙ sym (length-append objects (map Some more))

keep_placed : (placed : List Placing) (residents : List Bool) (objects : List (Option Object)) → length residents ≡ length objects
    → keep (fold with_marks residents placed) (fold with_placed objects placed) ≡ fold with_placed (keep residents objects) placed
keep_placed [] residents objects same = refl
keep_placed (placing ∷ placed) residents objects same =
    keep_placed placed (with_marks residents placing) (with_placed objects placing) (length_more residents objects (objects_of placing) same)
    ∙ ap (λ objects. fold with_placed objects placed) (keep_more residents objects (objects_of placing) same)

pub length_placed : (placed : List Placing) (residents : List Bool) (objects : List (Option Object)) → length residents ≡ length objects
    → length (fold with_marks residents placed) ≡ length (fold with_placed objects placed)
length_placed [] residents objects same = same
length_placed (placing ∷ placed) residents objects same =
    length_placed placed (with_marks residents placing) (with_placed objects placing) (length_more residents objects (objects_of placing) same)

pub made_kept : (residents : List Bool) (own : Plan) → length residents ≡ length own.left.objects
    → made (kept_plan residents own) ≡ kept_state (kept_after residents own) (made own)
made_kept residents own same = ap (λ objects. with_objects own.left objects) (sym (keep_placed own.placed residents own.left.objects same))

pub made_counts : (residents : List Bool) (own : Plan) → length residents ≡ length own.left.objects → length (kept_after residents own) ≡ length (made own).objects
made_counts residents own same = length_placed own.placed residents own.left.objects same

pub step_kept : (machine : Machine) (residents : List Bool) (state : State) → length residents ≡ length state.objects → KeepsPlan machine residents state
    → ((own : Plan) → plan machine state ≡ Some own → length own.left.objects ≡ length state.objects)
    → step machine (kept_state residents state) ≡ option_map (kept_state (residents_behind residents (plan machine state))) (step machine state)
step_kept machine residents state same keeps counts = ap (option_map made) keeps ∙ go (plan machine state) refl where
  go : (found : Option Plan) → plan machine state ≡ found
      → option_map made (option_map (kept_plan residents) found) ≡ option_map (kept_state (residents_behind residents found)) (option_map made found)
  go None is = refl
  go (Some own) is = ap Some (made_kept residents own (same ∙ sym (counts own is)))

-- what is kept is there
abbrev meet : List Bool → List Bool → List Bool
meet [] marks = []
meet (stays ∷ residents) [] = []
meet (true ∷ residents) (mark ∷ marks) = mark ∷ meet residents marks
meet (false ∷ residents) (mark ∷ marks) = false ∷ meet residents marks

marks_kept : (kept : List Bool) (objects : List (Option Object)) → residents (keep kept objects) ≡ meet kept (residents objects)
marks_kept [] objects = refl
marks_kept (stays ∷ kept) [] = refl
marks_kept (true ∷ kept) (entry ∷ objects) = ap (λ rest. is_some entry ∷ rest) (marks_kept kept objects)
marks_kept (false ∷ kept) (entry ∷ objects) = ap (λ rest. false ∷ rest) (marks_kept kept objects)

marks_more : (more : List Object) → residents (map Some more) ≡ map (λ object. true) more
marks_more [] = refl
marks_more (object ∷ more) = ap (λ rest. true ∷ rest) (marks_more more)

marks_placed : (placed : List Placing) (objects : List (Option Object)) → residents (fold with_placed objects placed) ≡ fold with_marks (residents objects) placed
marks_placed [] objects = refl
marks_placed (placing ∷ placed) objects =
    marks_placed placed (with_placed objects placing)
    ∙ ap (λ marks. fold with_marks marks placed)
    (map-append is_some objects (map Some (objects_of placing)) ∙ ap (λ more. residents objects ++ more) (marks_more (objects_of placing)))

pub made_marks : (kept : List Bool) (state : State) (own : Plan) → length kept ≡ length own.left.objects → residents own.left.objects ≡ residents state.objects
    → residents (keep kept state.objects) ≡ kept → residents (keep (kept_after kept own) (made own).objects) ≡ kept_after kept own
made_marks kept state own same alike marks =
    ap residents (keep_placed own.placed kept own.left.objects same) ∙ marks_placed own.placed (keep kept own.left.objects)
    ∙ ap (λ each. fold with_marks each own.placed) (marks_kept kept own.left.objects ∙ ap (meet kept) alike ∙ sym (marks_kept kept state.objects) ∙ marks)
