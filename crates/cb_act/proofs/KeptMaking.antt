-- Static fields, and objects that are made, of a state of which only some objects are kept.
use Rattle.std.proofs.Common.{◌≡◌, ◌∙◌, ap, refl, ℕ, ◌+◌, ◌*◌, Bool, true, false, List, [], ◌∷◌, length, map, replicate, reverse, Option, Some, None, pos}
use Rattle.std.specs.Prelude.{option_and_then, option_map, slice_get}
use Rattle.std.specs.List.{list_all}
use Rattle.cb_kinds.specs.declared.basic.Basic.{Basic}
use Rattle.cb_link.specs.Calls.{class_of_kind}
use Rattle.cb_link.specs.Slots.{static_basic}
use Rattle.cb_link.specs.declared.named.Named.{Named}
use Rattle.cb_link.specs.declared.named.Named.TheVariants as meanings
use Rattle.cb_machine.specs.Creating.{blank_fields, makes_arrays, makes_object, site_number, with_arrays}
use Rattle.cb_machine.specs.Fields.{gets_static_field, puts_static_field}
use Rattle.cb_machine.specs.Machine.{Machine, kind_of_site}
use Rattle.cb_machine.specs.Plans.{Plan, leaving, with_one, with_rows}
use Rattle.cb_machine.specs.Sites.{negative_size}
use Rattle.cb_machine.specs.Standing.{Now, leaves, leaves_with, named_here, taken}
use Rattle.cb_machine.specs.Values.{kept_value, sort_of_basic}
use Rattle.cb_plain.specs.declared.value.Value.{Value}
use Rattle.cb_plain.specs.declared.value.Value.TheVariants as values
use Rattle.cb_plain.specs.Updates.{with_static}
use Rattle.cb_shapes.specs.declared.sort.Sort.TheVariants as sorts
use Rattle.cb_act.specs.Changing.{Change, Changes, changed_now, changed_plan}
use Rattle.cb_act.proofs.KeptFrames.{leaves_kept}
use Rattle.cb_act.proofs.KeptGoing.{goes_on_kept, leaves_from, leaving_kept, then_kept, throws_kept}
use Rattle.cb_act.proofs.KeptInit.{ready_kept}

-- arrays of several dimensions
arrays_kept : (change : Change) (machine : Machine) (method pc dimension count : ℕ) (sizes : List ℕ) (plan : Plan)
    → with_arrays machine method pc dimension count sizes (changed_plan change plan) ≡ option_map (changed_plan change) (with_arrays machine method pc dimension count sizes plan)
arrays_kept change machine method pc dimension count [] plan = refl
arrays_kept change machine method pc dimension count (size ∷ []) plan = by (site_number machine.program method pc dimension) refl where
  by : (site : Option ℕ) → site_number machine.program method pc dimension ≡ site
      → with_arrays machine method pc dimension count (size ∷ []) (changed_plan change plan) ≡ option_map (changed_plan change) (with_arrays machine method pc dimension count (size ∷ []) plan)
  by None is = rw is refl
  by (Some site) is = rw is refl
arrays_kept change machine method pc dimension count (size ∷ other ∷ sizes) plan =
    by (λ plan. arrays_kept change machine method pc (dimension + 1) (count * size) (other ∷ sizes) plan) (site_number machine.program method pc dimension) refl where
      by : ((plan : Plan) → with_arrays machine method pc (dimension + 1) (count * size) (other ∷ sizes) (changed_plan change plan)
          ≡ option_map (changed_plan change) (with_arrays machine method pc (dimension + 1) (count * size) (other ∷ sizes) plan))
          → (site : Option ℕ) → site_number machine.program method pc dimension ≡ site
          → with_arrays machine method pc dimension count (size ∷ other ∷ sizes) (changed_plan change plan)
          ≡ option_map (changed_plan change) (with_arrays machine method pc dimension count (size ∷ other ∷ sizes) plan)
      by further None is = rw is refl
      by further (Some site) is = rw is (further (with_rows plan site (kind_of_site machine.program site) (plan.next + count) size count))

-- what comes of a plan, or of none
plans_kept : (change : Change) (one other : Plan → Option Plan) → ((plan : Plan) → one (changed_plan change plan) ≡ option_map (changed_plan change) (other plan))
    → (found : Option Plan) → option_and_then one (option_map (changed_plan change) found) ≡ option_map (changed_plan change) (option_and_then other found)
plans_kept change one other each None = refl
plans_kept change one other each (Some plan) = each plan

abbrev pub is_size : Value → Bool
is_size (values.Int (pos size)) = true
is_size other = false

abbrev pub size_in : Value → ℕ
size_in (values.Int (pos size)) = size
size_in other = 0

module _ (change : Change) (now : Now) (same : length (change now.state.objects) ≡ length now.state.objects) where
  -- getstatic and putstatic
  pub gets_static_kept : Changes change now gets_static_field
  gets_static_kept = go (named_here now) refl where
    read : (slot : ℕ) → option_and_then (λ value. leaves (changed_now change now) (value ∷ now.frame.stack)) (slice_get now.state.roots.statics slot)
        ≡ option_map (changed_plan change) (option_and_then (λ value. leaves now (value ∷ now.frame.stack)) (slice_get now.state.roots.statics slot))
    read slot =
        then_kept change (λ value. leaves (changed_now change now) (value ∷ now.frame.stack)) (λ value. leaves now (value ∷ now.frame.stack))
        (λ value. leaves_kept change now same (value ∷ now.frame.stack)) (slice_get now.state.roots.statics slot)

    go : (named : Named) → named_here now ≡ named → Changes change now gets_static_field
    go meanings.Nothing is = rw is refl
    go (meanings.Kind kind) is = rw is refl
    go (meanings.Static class slot) is =
        rw is
        (ready_kept change now.machine now.state same class
        (option_and_then (λ value. leaves (changed_now change now) (value ∷ now.frame.stack)) (slice_get now.state.roots.statics slot))
        (option_and_then (λ value. leaves now (value ∷ now.frame.stack)) (slice_get now.state.roots.statics slot)) (read slot))
    go (meanings.Field class slot) is = rw is refl
    go (meanings.Method method) is = rw is refl
    go (meanings.Text text) is = rw is refl
    go (meanings.Whole value) is = rw is refl

  abbrev sets_static : Now → ℕ → Basic → List Value × List Value → Option Plan
  sets_static now slot basic (value ∷ [], rest) = leaves_with now rest (leaving (with_static now.state slot (kept_value basic value)))
  sets_static now slot basic other = None

  abbrev sets_static_of : Now → ℕ → Basic → Option Plan
  sets_static_of now slot basic = option_and_then (sets_static now slot basic) (taken (sort_of_basic basic ∷ []) now.frame.stack)

  sets_kept : (slot : ℕ) (basic : Basic) (taken : List Value × List Value) → Changes change now (λ now. sets_static now slot basic taken)
  sets_kept slot basic ([], rest) = refl
  sets_kept slot basic (value ∷ other ∷ others, rest) = refl
  sets_kept slot basic (value ∷ [], rest) = leaves_from change (with_static now.state slot (kept_value basic value)) same now now.frame.locals rest

  pub puts_static_kept : Changes change now puts_static_field
  puts_static_kept = go (named_here now) refl where
    sets : (slot : ℕ) → option_and_then (sets_static_of (changed_now change now) slot) (static_basic now.machine.program slot)
        ≡ option_map (changed_plan change) (option_and_then (sets_static_of now slot) (static_basic now.machine.program slot))
    sets slot =
        then_kept change (sets_static_of (changed_now change now) slot) (sets_static_of now slot)
        (λ basic. then_kept change (sets_static (changed_now change now) slot basic) (sets_static now slot basic) (λ taken. sets_kept slot basic taken) (taken (sort_of_basic basic ∷ []) now.frame.stack))
        (static_basic now.machine.program slot)

    go : (named : Named) → named_here now ≡ named → Changes change now puts_static_field
    go meanings.Nothing is = rw is refl
    go (meanings.Kind kind) is = rw is refl
    go (meanings.Static class slot) is =
        rw is
        (ready_kept change now.machine now.state same class
        (option_and_then (sets_static_of (changed_now change now) slot) (static_basic now.machine.program slot))
        (option_and_then (sets_static_of now slot) (static_basic now.machine.program slot)) (sets slot))
    go (meanings.Field class slot) is = rw is refl
    go (meanings.Method method) is = rw is refl
    go (meanings.Text text) is = rw is refl
    go (meanings.Whole value) is = rw is refl

  -- new
  abbrev makes_at : Now → ℕ → Option Plan
  makes_at now site =
      leaves_with now (values.Ref (leaving now.state).next ∷ now.frame.stack)
      (with_one (leaving now.state) site (kind_of_site now.machine.program site) (blank_fields now.machine.program (kind_of_site now.machine.program site)))

  made_at : (site : ℕ) → Changes change now (λ now. makes_at now site)
  made_at site =
      ap (λ plan. leaves_with (changed_now change now) (values.Ref plan.next ∷ now.frame.stack)
      (with_one plan site (kind_of_site now.machine.program site) (blank_fields now.machine.program (kind_of_site now.machine.program site)))) (leaving_kept change now.state same)
      ∙ goes_on_kept change now now.frame.locals (values.Ref (leaving now.state).next ∷ now.frame.stack)
      (with_one (leaving now.state) site (kind_of_site now.machine.program site) (blank_fields now.machine.program (kind_of_site now.machine.program site)))

  made_here : Changes change now (λ now. option_and_then (makes_at now) (site_number now.machine.program now.frame.method now.frame.pc 0))
  made_here =
      then_kept change (makes_at (changed_now change now)) (makes_at now) (λ site. made_at site) (site_number now.machine.program now.frame.method now.frame.pc 0)

  pub makes_kept : Changes change now makes_object
  makes_kept = go (named_here now) refl where
    of_class : (kind : ℕ) → named_here now ≡ meanings.Kind kind → (class : Option ℕ) → class_of_kind now.machine.program kind ≡ class → Changes change now makes_object
    of_class kind is None owns = rw (is, owns) refl
    of_class kind is (Some class) owns =
        rw (is, owns)
        (ready_kept change now.machine now.state same class
        (option_and_then (makes_at (changed_now change now)) (site_number now.machine.program now.frame.method now.frame.pc 0))
        (option_and_then (makes_at now) (site_number now.machine.program now.frame.method now.frame.pc 0)) made_here)

    go : (named : Named) → named_here now ≡ named → Changes change now makes_object
    go meanings.Nothing is = rw is refl
    go (meanings.Kind kind) is = of_class kind is (class_of_kind now.machine.program kind) refl
    go (meanings.Static class slot) is = rw is refl
    go (meanings.Field class slot) is = rw is refl
    go (meanings.Method method) is = rw is refl
    go (meanings.Text text) is = rw is refl
    go (meanings.Whole value) is = rw is refl

  -- arrays
  abbrev makes_sized : Now → List ℕ → List Value → Plan → Option Plan
  makes_sized now sizes rest plan =
      option_and_then (leaves_with now (values.Ref plan.next ∷ rest)) (with_arrays now.machine now.frame.method now.frame.pc 0 1 sizes plan)

  sized_kept : (sizes : List ℕ) (rest : List Value) → Changes change now (λ now. makes_sized now sizes rest (leaving now.state))
  sized_kept sizes rest =
      ap (makes_sized (changed_now change now) sizes rest) (leaving_kept change now.state same)
      ∙ ap (option_and_then (leaves_with (changed_now change now) (values.Ref (leaving now.state).next ∷ rest)))
      (arrays_kept change now.machine now.frame.method now.frame.pc 0 1 sizes (leaving now.state))
      ∙ plans_kept change (leaves_with (changed_now change now) (values.Ref (leaving now.state).next ∷ rest)) (leaves_with now (values.Ref (leaving now.state).next ∷ rest))
      (λ plan. goes_on_kept change now now.frame.locals (values.Ref (leaving now.state).next ∷ rest) plan)
      (with_arrays now.machine now.frame.method now.frame.pc 0 1 sizes (leaving now.state))

  pub makes_arrays_kept : (dimensions : ℕ) → Changes change now (λ now. makes_arrays now dimensions)
  makes_arrays_kept dimensions = go (taken (replicate dimensions sorts.Int) now.frame.stack) refl where
    of_sizes : (operands : List Value × List Value) → taken (replicate dimensions sorts.Int) now.frame.stack ≡ Some operands
        → (all : Bool) → list_all is_size operands.0 ≡ all → Changes change now (λ now. makes_arrays now dimensions)
    of_sizes operands there false all = rw (there, all) (ap Some (throws_kept change now.state same now.machine negative_size))
    of_sizes operands there true all = rw (there, all) (sized_kept (reverse (map size_in operands.0)) operands.1)

    go : (found : Option (List Value × List Value)) → taken (replicate dimensions sorts.Int) now.frame.stack ≡ found → Changes change now (λ now. makes_arrays now dimensions)
    go None there = rw there refl
    go (Some operands) there = of_sizes operands there (list_all is_size operands.0) refl
