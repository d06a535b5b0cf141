-- Instructions that make objects and arrays.
use Rattle.std.proofs.Common.{◌≡◌, ◌∙◌, ap, refl, ℕ, ◌+◌, ◌*◌, List, [], ◌∷◌, map, reverse, replicate}
use Rattle.std.specs.Prelude.{option_and_then, option_map}
use Rattle.std.specs.List.{list_all}
use Rattle.cb_link.specs.Calls.{class_of_kind}
use Rattle.cb_link.specs.declared.named.Named.{Named}
use Rattle.cb_link.specs.declared.named.Named.TheVariants as meanings
use Rattle.cb_machine.specs.Creating.{blank_fields, is_size, makes_arrays, makes_object, makes_sized, site_number, size_in, with_arrays}
use Rattle.cb_machine.specs.Machine.{Machine, kind_of_site}
use Rattle.cb_machine.specs.Plans.{Plan, leaving, with_one, with_rows}
use Rattle.cb_machine.specs.Standing.{Now, leaves_with, named_here, taken}
use Rattle.cb_plain.specs.declared.value.Value.{Value}
use Rattle.cb_plain.specs.declared.value.Value.TheVariants as values
use Rattle.cb_shapes.specs.declared.sort.Sort.TheVariants as sorts
use Rattle.cb_beside.specs.Beside.{beside, now_in, plan_beside}
use Rattle.cb_beside.proofs.Going.{Does, Same, behind_same, either_same, goes_on_same, map_same, then_same}
use Rattle.cb_beside.proofs.Initial.{ready_same}

module _ (input printed : List ℕ) where
  arrays_same : (machine : Machine) (method pc dimension count : ℕ) (sizes : List ℕ) (plan : Plan)
      → Same input printed (with_arrays machine method pc dimension count sizes (plan_beside input printed plan)) (with_arrays machine method pc dimension count sizes plan)
  arrays_same machine method pc dimension count [] plan = refl
  arrays_same machine method pc dimension count (size ∷ []) plan =
      map_same input printed _ _ (site_number machine.program method pc dimension) (λ site. refl)
  arrays_same machine method pc dimension count (size ∷ next ∷ sizes) plan =
      then_same input printed _ _ (site_number machine.program method pc dimension)
      (λ site. arrays_same machine method pc (dimension + 1) (count * size) (next ∷ sizes)
      (with_rows plan site (kind_of_site machine.program site) (plan.next + count) size count))

  module _ (now : Now) where
    abbrev there : Now
    there = now_in now (beside now.state input printed)

    sized_same : (sizes : List ℕ) (rest : List Value) → Does input printed now (λ now. makes_sized now sizes rest)
    sized_same sizes rest =
        ap (option_and_then (leaves_with there (values.Ref (leaving now.state).next ∷ rest)))
        (arrays_same now.machine now.frame.method now.frame.pc 0 1 sizes (leaving now.state))
        ∙ behind_same input printed (leaves_with there (values.Ref (leaving now.state).next ∷ rest)) (leaves_with now (values.Ref (leaving now.state).next ∷ rest))
        (λ plan. goes_on_same input printed now now.frame.locals (values.Ref (leaving now.state).next ∷ rest) plan)
        (with_arrays now.machine now.frame.method now.frame.pc 0 1 sizes (leaving now.state))

    pub makes_arrays_same : (dimensions : ℕ) → Does input printed now (λ now. makes_arrays now dimensions)
    makes_arrays_same dimensions =
        then_same input printed _ _ (taken (replicate dimensions sorts.Int) now.frame.stack)
        (λ held. either_same (option_map (plan_beside input printed)) (list_all is_size held.0) _ _ _ _ (sized_same (reverse (map size_in held.0)) held.1) refl)

    pub makes_same : Does input printed now makes_object
    makes_same = go (named_here now) refl where
      go : (named : Named) → named_here now ≡ named → Does input printed now makes_object
      go (meanings.Kind kind) is =
          rw is
          (then_same input printed _ _ (class_of_kind now.machine.program kind)
          (λ class. ready_same input printed now.machine now.state class _ _
          (then_same input printed _ _ (site_number now.machine.program now.frame.method now.frame.pc 0)
          (λ site. goes_on_same input printed now now.frame.locals (values.Ref (leaving now.state).next ∷ now.frame.stack)
          (with_one (leaving now.state) site (kind_of_site now.machine.program site) (blank_fields now.machine.program (kind_of_site now.machine.program site)))))))
      go other is = rw is refl
