-- References pass on static fields, and in objects that are made.
use Rattle.std.proofs.Common.{◌≡◌, refl, subst, arith, ℕ, pos, ◌+◌, ◌*◌, Bool, true, false, List, [], ◌∷◌, map, replicate, reverse, Option, Some, None, zero, suc}
use Rattle.std.specs.Prelude.{option_and_then, slice_get}
use Rattle.std.specs.List.{flat_map, list_all, range_with_len}
use Rattle.cb_kinds.specs.Basics.{is_reference}
use Rattle.cb_kinds.specs.declared.basic.Basic.{Basic}
use Rattle.cb_link.specs.Calls.{class_of_kind}
use Rattle.cb_link.specs.Slots.{shape, static_basic}
use Rattle.cb_link.specs.declared.named.Named.{Named}
use Rattle.cb_link.specs.declared.named.Named.TheVariants as meanings
use Rattle.cb_machine.specs.Arrays.{element_of}
use Rattle.cb_machine.specs.Creating.{blank_element, blank_fields, makes_arrays, makes_object, site_number, with_arrays}
use Rattle.cb_machine.specs.Fields.{gets_static_field, puts_static_field}
use Rattle.cb_machine.specs.Machine.{Machine, kind_of_site}
use Rattle.cb_machine.specs.Plans.{Plan, Alike, Rows, leaving, object_of, with_alike, with_one, with_rows}
use Rattle.cb_machine.specs.Sites.{negative_size}
use Rattle.cb_machine.specs.Standing.{Now, leaves, leaves_with, named_here, taken}
use Rattle.cb_machine.specs.Values.{kept_value, sort_of_basic}
use Rattle.cb_plain.specs.declared.shape.Shape.{Shape}
use Rattle.cb_plain.specs.declared.shape.Shape.TheVariants as shapes
use Rattle.cb_plain.specs.declared.value.Value.{Value}
use Rattle.cb_plain.specs.declared.value.Value.TheVariants as values
use Rattle.cb_plain.specs.Reach.{reference_in, references_in, unless_null}
use Rattle.cb_plain.specs.State.{Content, Number, Object, Reference, blank}
use Rattle.cb_plain.specs.Updates.{with_static}
use Rattle.cb_heap.specs.Closed.{reference_in_word}
use Rattle.cb_shapes.specs.declared.sort.Sort.{Sort}
use Rattle.cb_shapes.specs.declared.sort.Sort.TheVariants as sorts
use Rattle.cb_act.specs.Within.{HasNumbers, IsPlanWithin, Pass, Within, WithinHere, contents_references, object_references}
use Rattle.cb_act.proofs.KeptMaking.{is_size, size_in}
use Rattle.cb_act.proofs.KeptObjects.{parts}
use Rattle.cb_act.proofs.WithinBasics.{both, goes_on_within, item_passes, left_within, next_passes, one_within, own_next, placed_within, pushes_within, taken_passes, then_within, throws_within, with_static_passes}
use Rattle.cb_act.proofs.WithinInit.{kept_passes, ready_within}

add_further : (a b c : ℕ) → a + (b + c) ≡ a + b + c
add_further a b c = omega arith

none_more : (a : ℕ) → a + 0 ≡ a
none_more a = omega arith

abbrev blank_of : Shape → List Content
blank_of (shapes.Fields marks) = map blank marks
blank_of (shapes.Elements mark) = []

abbrev blank_element_of : Option Basic → Content
blank_element_of None = Number (pos 0)
blank_element_of (Some basic) = blank (is_reference basic)

abbrev row : ℕ → ℕ → ℕ → ℕ → ℕ → Object
row site kind first size turn = object_of site kind (map Reference (range_with_len (first + turn * size) size))

module _ (ok : ℕ → Bool) where
  -- what objects hold at first
  blank_passes : (mark : Bool) → Pass ok (reference_in_word (blank mark))
  blank_passes true = refl
  blank_passes false = refl

  blanks_pass : (marks : List Bool) → Pass ok (contents_references (map blank marks))
  blanks_pass [] = refl
  blanks_pass (mark ∷ marks) = both ok (reference_in_word (blank mark)) (contents_references (map blank marks)) (blank_passes mark) (blanks_pass marks)

  fields_pass : (own : Shape) → Pass ok (contents_references (blank_of own))
  fields_pass (shapes.Fields marks) = blanks_pass marks
  fields_pass (shapes.Elements mark) = refl

  element_passes : (own : Option Basic) → Pass ok (reference_in_word (blank_element_of own))
  element_passes None = refl
  element_passes (Some basic) = blank_passes (is_reference basic)

  alike_pass : (content : Content) (size : ℕ) → Pass ok (reference_in_word content) → Pass ok (contents_references (replicate size content))
  alike_pass content zero pass = refl
  alike_pass content (suc size) pass = both ok (reference_in_word content) (contents_references (replicate size content)) pass (alike_pass content size pass)

  objects_pass : (object : Object) (count : ℕ) → Pass ok (object_references object) → Pass ok (flat_map object_references (replicate count object))
  objects_pass object zero pass = refl
  objects_pass object (suc count) pass = both ok (object_references object) (flat_map object_references (replicate count object)) pass (objects_pass object count pass)

  range_passes : (from size : ℕ) → ((more : ℕ) → Pass ok (unless_null (from + more))) → Pass ok (contents_references (map Reference (range_with_len from size)))
  range_passes from zero pass = refl
  range_passes from (suc size) pass =
      both ok (unless_null from) (contents_references (map Reference (range_with_len (from + 1) size))) (subst (λ serial. Pass ok (unless_null serial)) (none_more from) (pass 0))
      (range_passes (from + 1) size (λ more. subst (λ serial. Pass ok (unless_null serial)) (add_further from 1 more) (pass (1 + more))))

  rows_pass : (site kind first size start count : ℕ) → ((more : ℕ) → Pass ok (unless_null (first + more)))
      → Pass ok (flat_map object_references (map (row site kind first size) (range_with_len start count)))
  rows_pass site kind first size start zero pass = refl
  rows_pass site kind first size start (suc count) pass =
      both ok (object_references (row site kind first size start)) (flat_map object_references (map (row site kind first size) (range_with_len (start + 1) count)))
      (range_passes (first + start * size) size (λ more. subst (λ serial. Pass ok (unless_null serial)) (add_further first (start * size) more) (pass (start * size + more))))
      (rows_pass site kind first size (start + 1) count pass)

  alike_within : (plan : Plan) (site kind : ℕ) (content : Content) (size count : ℕ) → IsPlanWithin ok plan → Pass ok (reference_in_word content)
      → IsPlanWithin ok (with_alike plan site kind content size count)
  alike_within plan site kind content size count is pass =
      placed_within ok plan (Alike site kind content size count) count is (objects_pass (object_of site kind (replicate size content)) count (alike_pass content size pass))

  rows_within : (plan : Plan) (site kind size count : ℕ) → IsPlanWithin ok plan → IsPlanWithin ok (with_rows plan site kind (plan.next + count) size count)
  rows_within plan site kind size count is =
      placed_within ok plan (Rows site kind (plan.next + count) size count) count is
      (rows_pass site kind (plan.next + count) size 0 count
      (λ more. subst (λ serial. Pass ok (unless_null serial)) (add_further plan.next count more) (next_passes ok plan is (count + more))))

  -- arrays of several dimensions
  arrays_within : (machine : Machine) (method pc dimension count : ℕ) (sizes : List ℕ) (plan : Plan) → IsPlanWithin ok plan
      → Within ok (with_arrays machine method pc dimension count sizes plan)
  arrays_within machine method pc dimension count [] plan is = is
  arrays_within machine method pc dimension count (size ∷ []) plan is = by (site_number machine.program method pc dimension) refl where
    by : (site : Option ℕ) → site_number machine.program method pc dimension ≡ site → Within ok (with_arrays machine method pc dimension count (size ∷ []) plan)
    by None at = rw at tt
    by (Some site) at =
        rw at
        (alike_within plan site (kind_of_site machine.program site) (blank_element machine.program (kind_of_site machine.program site)) size count is
        (element_passes (element_of machine.program (kind_of_site machine.program site))))
  arrays_within machine method pc dimension count (size ∷ other ∷ sizes) plan is =
      by (λ plan is. arrays_within machine method pc (dimension + 1) (count * size) (other ∷ sizes) plan is) (site_number machine.program method pc dimension) refl where
        by : ((plan : Plan) → IsPlanWithin ok plan → Within ok (with_arrays machine method pc (dimension + 1) (count * size) (other ∷ sizes) plan))
            → (site : Option ℕ) → site_number machine.program method pc dimension ≡ site → Within ok (with_arrays machine method pc dimension count (size ∷ other ∷ sizes) plan)
        by further None at = rw at tt
        by further (Some site) at =
            rw at
            (further (with_rows plan site (kind_of_site machine.program site) (plan.next + count) size count) (rows_within plan site (kind_of_site machine.program site) size count is))

  plans_within : (one : Plan → Option Plan) (found : Option Plan) → Within ok found → ((plan : Plan) → IsPlanWithin ok plan → Within ok (one plan)) → Within ok (option_and_then one found)
  plans_within one None is each = tt
  plans_within one (Some plan) is each = each plan is

  module _ (now : Now) (here : WithinHere ok now) where
    here_taken : (asked : List Sort) (held rest : List Value) → taken asked now.frame.stack ≡ Some (held, rest)
        → Pass ok (references_in held) × Pass ok (references_in rest)
    here_taken asked held rest there = taken_passes ok asked now.frame.stack held rest there here.stack

    -- getstatic and putstatic
    pub gets_static_within : HasNumbers ok now.machine.program → Within ok (gets_static_field now)
    gets_static_within numbers = go (named_here now) refl where
      read : (slot : ℕ) → Within ok (option_and_then (λ value. leaves now (value ∷ now.frame.stack)) (slice_get now.state.roots.statics slot))
      read slot =
          then_within ok (λ value. leaves now (value ∷ now.frame.stack)) (slice_get now.state.roots.statics slot)
          (λ value there. pushes_within ok now here value now.frame.stack (item_passes ok reference_in now.state.roots.statics slot value there here.state.roots.statics) here.stack)

      go : (named : Named) → named_here now ≡ named → Within ok (gets_static_field now)
      go meanings.Nothing is = rw is tt
      go (meanings.Kind kind) is = rw is tt
      go (meanings.Static class slot) is =
          rw is
          (ready_within ok now.machine numbers now.state class (option_and_then (λ value. leaves now (value ∷ now.frame.stack)) (slice_get now.state.roots.statics slot)) here.state (read slot))
      go (meanings.Field class slot) is = rw is tt
      go (meanings.Method method) is = rw is tt
      go (meanings.Text text) is = rw is tt
      go (meanings.Whole value) is = rw is tt

    abbrev sets_static : ℕ → Basic → List Value × List Value → Option Plan
    sets_static slot basic (value ∷ [], rest) = leaves_with now rest (leaving (with_static now.state slot (kept_value basic value)))
    sets_static slot basic other = None

    sets_within : (slot : ℕ) (basic : Basic) (found : List Value × List Value) → taken (sort_of_basic basic ∷ []) now.frame.stack ≡ Some found → Within ok (sets_static slot basic found)
    sets_within slot basic ([], rest) there = tt
    sets_within slot basic (value ∷ other ∷ others, rest) there = tt
    sets_within slot basic (value ∷ [], rest) there =
        let own = here_taken (sort_of_basic basic ∷ []) (value ∷ []) rest there in
        let held = with_static_passes ok now.state.roots slot (kept_value basic value) here.state.roots (kept_passes ok basic value (parts ok (reference_in value) [] own.0).0) in
        goes_on_within ok now here now.frame.locals rest (leaving (with_static now.state slot (kept_value basic value))) here.locals own.1
        (left_within ok (with_static now.state slot (kept_value basic value)) (record { roots = held; objects = here.state.objects; next = here.state.next }))

    pub puts_static_within : HasNumbers ok now.machine.program → Within ok (puts_static_field now)
    puts_static_within numbers = go (named_here now) refl where
      go : (named : Named) → named_here now ≡ named → Within ok (puts_static_field now)
      go meanings.Nothing is = rw is tt
      go (meanings.Kind kind) is = rw is tt
      go (meanings.Static class slot) is =
          rw is
          (ready_within ok now.machine numbers now.state class
          (option_and_then (λ basic. option_and_then (sets_static slot basic) (taken (sort_of_basic basic ∷ []) now.frame.stack)) (static_basic now.machine.program slot)) here.state
          (then_within ok (λ basic. option_and_then (sets_static slot basic) (taken (sort_of_basic basic ∷ []) now.frame.stack)) (static_basic now.machine.program slot)
          (λ basic typed. then_within ok (sets_static slot basic) (taken (sort_of_basic basic ∷ []) now.frame.stack) (λ found there. sets_within slot basic found there))))
      go (meanings.Field class slot) is = rw is tt
      go (meanings.Method method) is = rw is tt
      go (meanings.Text text) is = rw is tt
      go (meanings.Whole value) is = rw is tt

    -- new
    abbrev makes_at : ℕ → Option Plan
    makes_at site =
        leaves_with now (values.Ref (leaving now.state).next ∷ now.frame.stack)
        (with_one (leaving now.state) site (kind_of_site now.machine.program site) (blank_fields now.machine.program (kind_of_site now.machine.program site)))

    made_at : (site : ℕ) → Within ok (makes_at site)
    made_at site =
        goes_on_within ok now here now.frame.locals (values.Ref (leaving now.state).next ∷ now.frame.stack)
        (with_one (leaving now.state) site (kind_of_site now.machine.program site) (blank_fields now.machine.program (kind_of_site now.machine.program site))) here.locals
        (both ok (unless_null (leaving now.state).next) (references_in now.frame.stack) (own_next ok (leaving now.state) (left_within ok now.state here.state)) here.stack)
        (one_within ok (leaving now.state) site (kind_of_site now.machine.program site) (blank_fields now.machine.program (kind_of_site now.machine.program site))
        (left_within ok now.state here.state) (fields_pass (shape now.machine.program (kind_of_site now.machine.program site))))

    pub makes_within : HasNumbers ok now.machine.program → Within ok (makes_object now)
    makes_within numbers = go (named_here now) refl where
      of_class : (kind : ℕ) → named_here now ≡ meanings.Kind kind → (class : Option ℕ) → class_of_kind now.machine.program kind ≡ class → Within ok (makes_object now)
      of_class kind is None owns = rw (is, owns) tt
      of_class kind is (Some class) owns =
          rw (is, owns)
          (ready_within ok now.machine numbers now.state class (option_and_then makes_at (site_number now.machine.program now.frame.method now.frame.pc 0)) here.state
          (then_within ok makes_at (site_number now.machine.program now.frame.method now.frame.pc 0) (λ site there. made_at site)))

      go : (named : Named) → named_here now ≡ named → Within ok (makes_object now)
      go meanings.Nothing is = rw is tt
      go (meanings.Kind kind) is = of_class kind is (class_of_kind now.machine.program kind) refl
      go (meanings.Static class slot) is = rw is tt
      go (meanings.Field class slot) is = rw is tt
      go (meanings.Method method) is = rw is tt
      go (meanings.Text text) is = rw is tt
      go (meanings.Whole value) is = rw is tt

    -- arrays
    sized_within : (sizes : List ℕ) (rest : List Value) → Pass ok (references_in rest)
        → Within ok (option_and_then (leaves_with now (values.Ref (leaving now.state).next ∷ rest)) (with_arrays now.machine now.frame.method now.frame.pc 0 1 sizes (leaving now.state)))
    sized_within sizes rest pass =
        plans_within (leaves_with now (values.Ref (leaving now.state).next ∷ rest)) (with_arrays now.machine now.frame.method now.frame.pc 0 1 sizes (leaving now.state))
        (arrays_within now.machine now.frame.method now.frame.pc 0 1 sizes (leaving now.state) (left_within ok now.state here.state))
        (λ plan is. goes_on_within ok now here now.frame.locals (values.Ref (leaving now.state).next ∷ rest) plan here.locals
        (both ok (unless_null (leaving now.state).next) (references_in rest) (own_next ok (leaving now.state) (left_within ok now.state here.state)) pass) is)

    pub makes_arrays_within : (dimensions : ℕ) → Within ok (makes_arrays now dimensions)
    makes_arrays_within dimensions = go (taken (replicate dimensions sorts.Int) now.frame.stack) refl where
      of_sizes : (operands : List Value × List Value) → taken (replicate dimensions sorts.Int) now.frame.stack ≡ Some operands
          → (all : Bool) → list_all is_size operands.0 ≡ all → Within ok (makes_arrays now dimensions)
      of_sizes operands there false all = rw (there, all) (throws_within ok now.machine now.state negative_size here.state)
      of_sizes operands there true all =
          rw (there, all) (sized_within (reverse (map size_in operands.0)) operands.1 (here_taken (replicate dimensions sorts.Int) operands.0 operands.1 there).1)

      go : (found : Option (List Value × List Value)) → taken (replicate dimensions sorts.Int) now.frame.stack ≡ found → Within ok (makes_arrays now dimensions)
      go None there = rw there tt
      go (Some operands) there = of_sizes operands there (list_all is_size operands.0) refl
