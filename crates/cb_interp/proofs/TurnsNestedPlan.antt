-- The step of `multianewarray`, what is looked at of it, and that what is placed has the words that it gives it.
use Rattle.std.proofs.Common.{◌≡◌, ◌∙◌, add-one, ap, refl, sym, subst, arith, ℕ, zero, suc, pos, ◌+◌, ◌-◌, ◌*◌, ◌<◌, ◌≤◌, ◌==◌, ◌&&◌, Bool, true, List, [], ◌∷◌, ◌++◌, drop, get_or, length, map, replicate, Option, Some, None}
use Rattle.std.proofs.lemmas.Bool.{and_parts, false≢true}
use Rattle.std.proofs.lemmas.List.{get_or-reverse, length-append, length-map, length-replicate, length-reverse}
use Rattle.std.proofs.lemmas.List.Quantifiers.{position-Some}
use Rattle.std.proofs.lemmas.Option.{get_or_from_slice_get, none-some, same_Some, slice_get-map}
use Rattle.std.specs.Prelude.{if◌then◌else◌, is_some, option_and_then, option_map, reverse, slice_get, take}
use Rattle.std.specs.List.{list_all, position}
use Rattle.cb_frames.specs.Tops.{at_place as placed_at, changed_in, on_top, stack_in, top_stack, topmost, with_stack}
use Rattle.cb_frames.specs.declared.frame.Frame.TheVariants as shown
use Rattle.cb_heap.specs.Reading.{View, read_roots, seen}
use Rattle.cb_kinds.specs.Basics.{component_of}
use Rattle.cb_link.specs.Having.{IsWhole, site_kinds}
use Rattle.cb_link.specs.Numbers.{or_none}
use Rattle.cb_link.specs.Program.{Linked}
use Rattle.cb_link.specs.declared.decoded.Decoded.{Decoded}
use Rattle.cb_link.specs.declared.linked.Site.{Site}
use Rattle.cb_machine.specs.Creating.{blank_element, is_size, makes_arrays, makes_sized, makes_taken, site_number, size_in, with_arrays}
use Rattle.cb_machine.specs.Machine.{Machine, kind_of_site, or_zero}
use Rattle.cb_machine.specs.Plans.{Plan, with_alike, with_left, with_rows}
use Rattle.cb_machine.specs.Sites.{negative_size}
use Rattle.cb_machine.specs.Standing.{Now, goes_to, leaves_with, taken}
use Rattle.cb_machine.specs.Steps.{done, plan}
use Rattle.cb_machine.specs.Throwing.{throws}
use Rattle.cb_names.specs.Signs.{bracket}
use Rattle.cb_plain.specs.State.{Object, OfMethod, Roots, State}
use Rattle.cb_plain.specs.Updates.{with_frames}
use Rattle.cb_plain.specs.declared.shape.Shape.{Shape}
use Rattle.cb_plain.specs.declared.value.Value.{Value}
use Rattle.cb_plain.specs.declared.value.Value.TheVariants.{Int, Ref}
use Rattle.cb_safety.proofs.Laws.{AreNamed, linked_sound}
use Rattle.cb_safety.specs.Linked.{IsLinked}
use Rattle.cb_safety.specs.Making.{HasSite}
use Rattle.cb_safety.specs.States.{IsTypedState}
use Rattle.cb_shapes.specs.Shapes.{action_of}
use Rattle.cb_shapes.specs.declared.action.Action.{Action}
use Rattle.cb_shapes.specs.declared.action.Action.TheVariants as actions
use Rattle.cb_shapes.specs.declared.sort.Sort.TheVariants as sorts
use Rattle.cb_verify.specs.Typed.{IsTyped}
use Rattle.cb_act.specs.Acting.{Asks, acted, acted_as, arrays_deed, sized}
use Rattle.cb_interp.specs.Fit.{ArraysFit}
use Rattle.cb_act.specs.Here.{Here}
use Rattle.cb_interp.specs.Needing.{TellsDimensions, holds_size}
use Rattle.cb_interp.specs.Nested.{Grid, GridFits, HasGrid, count_of, dimensions_by, first_of, grid_on, last_placed, makes_nested, makes_nested_by, rows_placed, site_at, size_of}
use Rattle.cb_act.specs.Steps.{StandsBefore}
use Rattle.cb_act.specs.Turning.{Outside, machine_of, state_of}
use Rattle.cb_act.specs.declared.need.Need.TheVariants as needs
use Rattle.cb_act.proofs.Laws.{now, taken_is}
use Rattle.cb_interp.proofs.TurnsNeedMaking.{array_placed, sizes_there}
use Rattle.cb_interp.proofs.TurnsNeedThere.{array_kinds, named, next_there, some_arrays, top}
use Rattle.cb_interp.proofs.TurnsNestedTurn.{sizes_alike}

-- ---- sizes on a stack

pub size_at_depth : (stack : List Value) (count depth : ℕ) → depth < count → count ≤ length stack → list_all is_size (take count stack) ≡ true → holds_size (slice_get stack depth) ≡ true
size_at_depth stack zero depth low many all = absurd (omega (arith, low))
size_at_depth [] (suc count) depth low many all = absurd (omega (arith, many))
size_at_depth (value ∷ stack) (suc count) zero low many all = (and_parts (is_size value) (list_all is_size (take count stack)) all).0
size_at_depth (value ∷ stack) (suc count) (suc depth) low many all =
    size_at_depth stack count depth (omega (arith, low)) (omega (arith, many)) (and_parts (is_size value) (list_all is_size (take count stack)) all).1

within_taken : (stack : List Value) (count depth : ℕ) → depth < count → slice_get (take count stack) depth ≡ slice_get stack depth
within_taken stack zero depth low = absurd (omega (arith, low))
within_taken [] (suc count) depth low = refl
within_taken (value ∷ stack) (suc count) zero low = refl
within_taken (value ∷ stack) (suc count) (suc depth) low = within_taken stack count depth (omega (arith, low))

taken_length : (stack : List Value) (count : ℕ) → count ≤ length stack → length (take count stack) ≡ count
taken_length stack zero many = refl
taken_length [] (suc count) many = absurd (omega (arith, many))
taken_length (value ∷ stack) (suc count) many = ap suc (taken_length stack count (omega (arith, many)))

-- the size of a dimension is so deep below the last one
pub size_of_depth : (stack : List Value) (last dimension size : ℕ) → dimension ≤ last → last < length stack → slice_get stack (last - dimension) ≡ Some (Int (pos size))
    → size ≡ get_or (reverse (map size_in (take (last + 1) stack))) dimension 0
size_of_depth stack last dimension size low many at =
    let sizes : List ℕ = map size_in (take (last + 1) stack) in
    let count : length sizes ≡ last + 1 = length-map (take (last + 1) stack) size_in ∙ taken_length stack (last + 1) (omega (arith, many)) in
    let short : dimension < length sizes = omega (arith, low, count) in
    let depth : length sizes - 1 - dimension ≡ last - dimension = omega (arith, count) in
    let there : slice_get sizes (last - dimension) ≡ Some size =
    slice_get-map size_in (take (last + 1) stack) (last - dimension)
    ∙ ap (option_map size_in) (within_taken stack (last + 1) (last - dimension) (omega arith) ∙ at) in
    sym (get_or-reverse sizes dimension 0 short ∙ ap (λ (depth : ℕ). get_or sizes depth 0) depth ∙ get_or_from_slice_get sizes (last - dimension) size 0 there)

-- ---- the plan

abbrev of_site : ℕ → ℕ → ℕ → Site → Bool
of_site method pc dimension site = site.method == method && (site.place == pc && site.dimension == dimension)

module _ (machine : Machine) (method pc : ℕ) (state : State) (grid : Grid) (last : ℕ)
    (sited : (dimension : ℕ) → dimension < suc last → site_number machine.program method pc dimension ≡ Some (grid.site dimension)) where
  abbrev lowest : ℕ
  lowest = length state.objects + 1

  abbrev plan_to : ℕ → Plan
  plan_to dimension = record { placed = rows_placed machine.program grid lowest dimension; next = first_of grid.sizes lowest dimension; left = state }

  abbrev pub plan_whole : Plan
  plan_whole = record {
    placed = rows_placed machine.program grid lowest last ++ last_placed machine.program grid last ∷ [];
    next = first_of grid.sizes lowest (suc last);
    left = state;
  }

  abbrev with_last : (dimension site : ℕ) → Plan
  with_last dimension site =
      with_alike (plan_to dimension) site (kind_of_site machine.program site) (blank_element machine.program (kind_of_site machine.program site)) (size_of grid.sizes dimension) (count_of grid.sizes dimension)

  abbrev with_next : (dimension : ℕ) (sizes : List ℕ) (site : ℕ) → Option Plan
  with_next dimension sizes site =
      with_arrays machine method pc (dimension + 1) (count_of grid.sizes dimension * size_of grid.sizes dimension) sizes
      (with_rows (plan_to dimension) site (kind_of_site machine.program site) (first_of grid.sizes lowest dimension + count_of grid.sizes dimension) (size_of grid.sizes dimension) (count_of grid.sizes dimension))

  abbrev Sizes : ℕ → List ℕ → Type 0
  Sizes dimension sizes = (place : ℕ) → place < length sizes → get_or sizes place 0 ≡ size_of grid.sizes (dimension + place)

  sizes_first : (dimension size : ℕ) (sizes : List ℕ) → Sizes dimension (size ∷ sizes) → size ≡ size_of grid.sizes dimension
  sizes_first dimension size sizes are = are 0 (omega arith) ∙ ap (size_of grid.sizes) (let same : dimension + 0 ≡ dimension = omega arith in same)

  sizes_rest : (dimension size : ℕ) (sizes : List ℕ) → Sizes dimension (size ∷ sizes) → Sizes (suc dimension) sizes
  sizes_rest dimension size sizes are place low =
      are (suc place) (omega (arith, low)) ∙ ap (size_of grid.sizes) (let same : dimension + suc place ≡ suc dimension + place = omega arith in same)

  -- the dimensions from one on
  laid : (dimension : ℕ) (sizes : List ℕ) → Sizes dimension sizes → dimension + length sizes ≡ suc last → 0 < length sizes
      → with_arrays machine method pc dimension (count_of grid.sizes dimension) sizes (plan_to dimension) ≡ Some plan_whole
  laid dimension [] are all some = absurd (omega (arith, some))
  laid dimension (size ∷ []) are all some =
      let at : dimension ≡ last = omega (arith, all) in
      let own : site_number machine.program method pc dimension ≡ Some (grid.site dimension) = sited dimension (omega (arith, at)) in
      ap (λ (size : ℕ). with_arrays machine method pc dimension (count_of grid.sizes dimension) (size ∷ []) (plan_to dimension)) (sizes_first dimension size [] are)
      ∙ ap (option_map (λ (site : ℕ). with_last dimension site)) own
      ∙ ap (λ (dimension : ℕ). Some (with_last dimension (grid.site dimension))) at
  laid dimension (size ∷ other ∷ sizes) are all some =
      let own : site_number machine.program method pc dimension ≡ Some (grid.site dimension) = sited dimension (omega (arith, all)) in
      ap (λ (size : ℕ). with_arrays machine method pc dimension (count_of grid.sizes dimension) (size ∷ other ∷ sizes) (plan_to dimension)) (sizes_first dimension size (other ∷ sizes) are)
      ∙ ap (option_and_then (λ (site : ℕ). with_next dimension (other ∷ sizes) site)) own
      ∙ ap (λ (next : ℕ). with_arrays machine method pc next (count_of grid.sizes (suc dimension)) (other ∷ sizes) (plan_to (suc dimension))) (add-one dimension)
      ∙ laid (suc dimension) (other ∷ sizes) (sizes_rest dimension size (other ∷ sizes) are) (omega (arith, all)) (omega arith)

-- ---- the step

module _ (now : Now) (grid : Grid) (last next : ℕ) (stands : StandsBefore now next)
    (sited : (dimension : ℕ) → dimension < suc last → site_number now.machine.program now.frame.method now.frame.pc dimension ≡ Some (grid.site dimension))
    (count : length grid.sizes ≡ suc last) where
  sized_is : (rest : List Value) → rest ≡ drop (suc last) now.frame.stack → makes_sized now grid.sizes rest ≡ Some (makes_nested now.machine now.state grid last next)
  sized_is rest same =
      ap (option_and_then (leaves_with now (Ref (length now.state.objects + 1) ∷ rest)))
      (laid now.machine now.frame.method now.frame.pc now.state grid last sited 0 grid.sizes
      (λ place low. ap (size_of grid.sizes) (let same : place ≡ 0 + place = omega arith in same)) (let all : 0 + length grid.sizes ≡ suc last = omega (arith, count) in all) (omega (arith, count)))
      ∙ ap (option_map (λ (pc : ℕ). goes_to now pc now.frame.locals (Ref (length now.state.objects + 1) ∷ rest) (plan_whole now.machine now.frame.method now.frame.pc now.state grid last sited))) stands.next
      ∙ ap (λ rest. Some (with_left (plan_whole now.machine now.frame.method now.frame.pc now.state grid last sited)
      (with_frames now.state (changed_in (placed_at next) (changed_in (with_stack (λ stack. Ref (length now.state.objects + 1) ∷ rest)) (OfMethod now.frame ∷ now.below)))))) same
      ∙ ap (λ frames. Some (with_left (plan_whole now.machine now.frame.method now.frame.pc now.state grid last sited)
      (with_frames now.state (changed_in (placed_at next) (changed_in (with_stack (λ stack. Ref (length now.state.objects + 1) ∷ drop (suc last) (on_top [] stack_in frames))) frames)))))
      (sym stands.frames)

  pub arrays_are : taken (replicate (suc last) sorts.Int) now.frame.stack ≡ Some (take (suc last) now.frame.stack, drop (suc last) now.frame.stack)
      → list_all is_size (take (suc last) now.frame.stack) ≡ true → reverse (map size_in (take (suc last) now.frame.stack)) ≡ grid.sizes
      → makes_arrays now (suc last) ≡ Some (makes_nested now.machine now.state grid last next)
  arrays_are there all sizes =
      ap (option_and_then (makes_taken now)) there
      ∙ ap (λ (are : Bool). if are then makes_sized now (reverse (map size_in (take (suc last) now.frame.stack))) (drop (suc last) now.frame.stack) else Some (throws now.machine now.state negative_size)) all
      ∙ ap (λ (sizes : List ℕ). makes_sized now sizes (drop (suc last) now.frame.stack)) sizes
      ∙ sized_is (drop (suc last) now.frame.stack) refl

-- ---- where it is made

number_low : (program : Linked) (method pc dimension number : ℕ) → site_number program method pc dimension ≡ Some number → number < length (site_kinds program)
number_low program method pc dimension number is = go (position (of_site method pc dimension) program.sites) refl is where
  both : length (site_kinds program) ≡ length program.fixed + length program.sites
  both = length-append program.fixed (map (λ (site : Site). site.kind) program.sites) ∙ ap (λ (count : ℕ). length program.fixed + count) (length-map program.sites (λ (site : Site). site.kind))

  go : (found : Option ℕ) → position (of_site method pc dimension) program.sites ≡ found → option_map (λ (place : ℕ). length program.fixed + place) found ≡ Some number → number < length (site_kinds program)
  go None at is = absurd (none-some number is)
  go (Some place) at is =
      let own : Site = record { method = 0; place = 0; dimension = 0; kind = 0 } in
      let found = position-Some (of_site method pc dimension) program.sites place own at in
      let low : place < length program.sites = found.0 in
      let same : length program.fixed + place ≡ number = same_Some (length program.fixed + place) number is in
      let all = both in
      omega (arith, low, same, all)

-- which action it is
data MakesNested (action : Option Action) : Type 0 where
  Nests : (index dimensions : ℕ) → action ≡ Some (actions.NewArrays index dimensions) → MakesNested action

makes_nested_so : (action : Option Action) → makes_nested_by action ≡ true → MakesNested action
makes_nested_so None makes = absurd (false≢true makes)
makes_nested_so (Some action) makes = go action makes where
  go : (action : Action) → makes_nested_by (Some action) ≡ true → MakesNested (Some action)
  go (actions.NewArrays index dimensions) makes = Nests index dimensions refl
  go other makes = absurd (false≢true makes)

module _ (program : Linked) (limit : ℕ) (index : ℕ → ℕ) (objects : List (Option Object)) (held : Roots) (outside : Outside) (decoded : Decoded) where
  abbrev view : View
  view = seen index objects held

  abbrev state : State
  state = state_of view outside

  abbrev machine : Machine
  machine = machine_of program limit

  module _ (at : Here machine state decoded) (linked : IsLinked program) (fits : IsTyped program) (typed : IsTypedState program state) (whole : IsWhole program)
      (makes : makes_nested_by decoded.action ≡ true) where
    own : MakesNested decoded.action
    own = makes_nested_so decoded.action makes

    -- there is a dimension at least, and a next instruction
    pub some_dimensions : 0 < dimensions_by decoded.action
    some_dimensions = go own where
      go : MakesNested decoded.action → 0 < dimensions_by decoded.action
      go (Nests number dimensions is) =
          subst (λ (action : Option Action). 0 < dimensions_by action) (sym is)
          (some_arrays program limit index objects held outside decoded at linked fits typed whole (actions.NewArrays number dimensions) is refl)

    pub next_nested : is_some decoded.next ≡ true
    next_nested = go own where
      go : MakesNested decoded.action → is_some decoded.next ≡ true
      go (Nests number dimensions is) = next_there program limit index objects held outside decoded at linked fits typed (actions.NewArrays number dimensions) is refl

    module _ (last : ℕ) (all : last + 1 ≡ dimensions_by decoded.action) (asked : acted program limit decoded view ≡ Some (Asks needs.Makes)) where
      abbrev grid : Grid
      grid = grid_on program held (last + 1)

      -- the instruction makes arrays of so many dimensions
      record IsOf (dimensions : ℕ) : Type 0 where
        number : ℕ
        is : decoded.action ≡ Some (actions.NewArrays number dimensions)

      is_of : IsOf (last + 1)
      is_of = go own where
        go : MakesNested decoded.action → IsOf (last + 1)
        go (Nests number dimensions is) =
            let same : dimensions ≡ last + 1 = sym (ap dimensions_by is) ∙ sym all in
            record { number = number; is = is ∙ ap (λ (dimensions : ℕ). Some (actions.NewArrays number dimensions)) same }

      abbrev action : Action
      action = actions.NewArrays is_of.number (last + 1)

      names : AreNamed program at.frame.method at.frame.pc (last + 1)
      names = named program limit index objects held outside decoded at linked fits typed whole action is_of.is refl

      there : topmost held.frames ≡ Some (shown.Running at.frame.method at.frame.pc)
      there = top program limit index objects held outside decoded at linked fits typed

      asks : arrays_deed view (last + 1) ≡ Some (Asks needs.Makes)
      asks = sym (ap (option_and_then (acted_as program limit decoded view)) is_of.is) ∙ asked

      sizes : (last + 1 ≤ length (top_stack held)) × (list_all is_size (take (last + 1) (top_stack held)) ≡ true)
      sizes = sizes_there program limit index objects held outside decoded (last + 1) asks

      pub has_grid : TellsDimensions program → HasGrid program held (last + 1)
      has_grid tells = record {
        makes = array_kinds program limit index objects held outside decoded at linked fits typed whole action is_of.is refl (last + 1) (omega arith);
        tells = tells;
        many = sizes.0;
        sized = sizes.1;
      }

      -- the site of each dimension
      has : (dimension : ℕ) → (low : dimension < last + 1) → HasSite program at.frame.method at.frame.pc dimension (bracket ∷ (names.each dimension low).rest)
      has dimension low =
          (linked_sound program linked fits).sites at.frame.method at.frame.pc dimension (bracket ∷ (names.each dimension low).rest) (names.each dimension low).here

      own_site : (dimension : ℕ) → (low : dimension < last + 1) → grid.site dimension ≡ (has dimension low).number
      own_site dimension low = ap (λ top. site_at program top dimension) there ∙ ap or_zero (has dimension low).is

      own_name : (dimension : ℕ) → (low : dimension < last + 1) → slice_get program.kinds (kind_of_site program (grid.site dimension)) ≡ Some (bracket ∷ (names.each dimension low).rest)
      own_name dimension low =
          ap (λ (site : ℕ). slice_get program.kinds (kind_of_site program site)) (own_site dimension low)
          ∙ ap (slice_get program.kinds) (has dimension low).kind ∙ (has dimension low).there

      pub grid_fits : (shapes : List Shape) → ArraysFit program shapes → GridFits program shapes grid (last + 1)
      grid_fits shapes fit = record {
        there = λ dimension low.
            subst (λ (site : ℕ). site < length (site_kinds program)) (sym (own_site dimension low))
            (number_low program at.frame.method at.frame.pc dimension (has dimension low).number (has dimension low).is);
        arrays = λ dimension low.
            array_placed program shapes (grid.site dimension) (kind_of_site program (grid.site dimension)) (size_of grid.sizes dimension) fit
            (ap (λ (name : Option (List ℕ)). is_some (component_of program.kinds (or_none name))) (own_name dimension low));
        nulls = λ dimension low.
            let short : dimension < last + 1 = omega (arith, low) in
            let nested = names.each dimension short in
            let next = names.each (dimension + 1) low in
            let rest : nested.rest ≡ bracket ∷ next.rest = same_Some nested.rest (bracket ∷ next.rest) (sym (nested.next low) ∙ next.here) in
            let name : slice_get program.kinds (kind_of_site program (grid.site dimension)) ≡ Some (bracket ∷ bracket ∷ next.rest) =
            own_name dimension short ∙ ap (λ (rest : List ℕ). Some (bracket ∷ rest)) rest in
            rw name refl;
      }

      -- the step
      abbrev at_now : Now
      at_now = now machine state at.frame at.below at.insn at.frames

      does : action_of at.insn ≡ Some action
      does = sym (ap (λ (decoded : Decoded). decoded.action) at.is) ∙ is_of.is

      said : plan machine state ≡ done at_now at.insn.operand action
      said = rw (at.quiet, at.frames, at.there, does) refl

      stack : at.frame.stack ≡ top_stack (read_roots index held)
      stack = sym (ap (on_top [] stack_in) at.frames)

      abbrev Taken : ℕ → Type 0
      Taken dimensions = taken (replicate dimensions sorts.Int) at.frame.stack ≡ Some (take dimensions at.frame.stack, drop dimensions at.frame.stack)

      takes : Taken (last + 1)
      takes =
          ap (λ (stack : List Value). taken (replicate (last + 1) sorts.Int) stack) stack
          ∙ taken_is (replicate (last + 1) sorts.Int) (top_stack (read_roots index held)) (found (taken (replicate (last + 1) sorts.Int) (top_stack (read_roots index held))) (ap is_some asks))
          ∙ ap (λ (stack : List Value). Some (take (length (replicate (last + 1) sorts.Int)) stack, drop (length (replicate (last + 1) sorts.Int)) stack)) (sym stack)
          ∙ ap (λ (count : ℕ). Some (take count at.frame.stack, drop count at.frame.stack)) (length-replicate (last + 1) sorts.Int)
        where
          found : (some : Option (List Value × List Value)) → is_some (option_map sized some) ≡ true → is_some some ≡ true
          found None is = is
          found (Some taken) is = refl

      count : length grid.sizes ≡ suc last
      count =
          length-reverse (map size_in (take (last + 1) (top_stack held))) ∙ length-map (take (last + 1) (top_stack held)) size_in
          ∙ taken_length (top_stack held) (last + 1) sizes.0 ∙ add-one last

      pub nested_plan : (next : ℕ) → decoded.next ≡ Some next → plan machine state ≡ Some (makes_nested machine state grid last next)
      nested_plan next goes =
          let stands : StandsBefore at_now next = record { frames = at.frames; next = sym (ap (λ (decoded : Decoded). decoded.next) at.is) ∙ goes } in
          let read = sizes_alike index held (last + 1) in
          said
          ∙ ap (makes_arrays at_now) (add-one last)
          ∙ arrays_are at_now grid last next stands
          (λ dimension low. let short : dimension < last + 1 = omega (arith, low) in (has dimension short).is ∙ ap {B = Option ℕ} Some (sym (own_site dimension short)))
          count
          (subst Taken (add-one last) takes)
          (ap (λ (count : ℕ). list_all is_size (take count at.frame.stack)) (sym (add-one last))
          ∙ ap (λ (stack : List Value). list_all is_size (take (last + 1) stack)) stack ∙ read.1 ∙ sizes.1)
          (ap (λ (count : ℕ). reverse (map size_in (take count at.frame.stack))) (sym (add-one last))
          ∙ ap (λ (stack : List Value). reverse (map size_in (take (last + 1) stack))) stack ∙ ap reverse read.0)
