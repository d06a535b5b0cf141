-- Turns in which arrays of arrays are made.
use Rattle.std.proofs.Common.{◌≡◌, ◌∙◌, add-one, ap, ap₂, refl, sym, subst, arith, ℕ, zero, suc, ◌+◌, ◌*◌, ◌<◌, ◌&&◌, Bool, List, [], ◌∷◌, ◌++◌, append_assoc, drop, length, map, replicate, Option, Some}
use Rattle.std.specs.Prelude.{reverse, take}
use Rattle.std.proofs.lemmas.Grind.{flat_map-append}
use Rattle.std.proofs.lemmas.List.{append-nil, drop-map, length-map, length-replicate, take-map}
use Rattle.std.proofs.lemmas.List.FromFn.{length-range_with_len}
use Rattle.std.specs.List.{flat_map, fold, list_all, range_with_len}
use Rattle.std.specs.declared.result.Result.TheVariants.{Err, Ok}
use Rattle.cb_frames.specs.Tops.{placed, top_stack, topmost}
use Rattle.cb_frames.specs.declared.frame.Frame.{Frame as Shown}
use Rattle.cb_heap.proofs.Laws.{reads_stack, roots_again}
use Rattle.cb_heap.specs.Closed.{Collects, IsClosed}
use Rattle.cb_heap.specs.Kept.{residents}
use Rattle.cb_heap.specs.Reading.{read_roots, read_value, seen, serial_of}
use Rattle.cb_heap.specs.Rules.{Rules}
use Rattle.cb_heap.specs.Store.{ReadsAsBefore}
use Rattle.cb_heap.specs.declared.no_room.NoRoom.{NoRoom}
use Rattle.cb_link.specs.Program.{Linked}
use Rattle.cb_machine.specs.Creating.{blank_element, is_size, size_in}
use Rattle.cb_machine.specs.Machine.{Machine, kind_of_site}
use Rattle.cb_machine.specs.Plans.{Placing, Rows, made, object_of, objects_of}
use Rattle.cb_machine.specs.Steps.{asked_of, plan}
use Rattle.cb_plain.specs.Requests.{add_want}
use Rattle.cb_plain.specs.State.{Content, Object, Reference, Roots, State}
use Rattle.cb_plain.specs.Updates.{with_objects, with_roots}
use Rattle.cb_plain.specs.declared.value.Value.{Value}
use Rattle.cb_plain.specs.declared.value.Value.TheVariants.{Int, Long, Ref}
use Rattle.cb_plain.specs.declared.want.Want.{Want}
use Rattle.cb_act.specs.Effects.{stacked}
use Rattle.cb_act.specs.Keeping.{kept_plan, kept_state}
use Rattle.cb_interp.specs.Nested.{Grid, HasGrid, count_of, first_of, grid_on, knows_nested, knows_rows, last_placed, made_nested, makes_nested, nested_objects, nested_wants, new_array, rows_above, rows_placed, site_at, size_of}
use Rattle.cb_act.specs.Placing.{at_place, with_view}
use Rattle.cb_act.specs.Steps.{view_of}
use Rattle.cb_act.specs.Turning.{Moment, TurnMade, TurnRefused, facts_behind, knows_placed}
use Rattle.cb_act.proofs.Laws.{length_kept, stacked_read}
use Rattle.cb_interp.proofs.TurnsMade.{asked_turn, collected, collected_keeping}
use Rattle.cb_interp.proofs.TurnsNestedRoom.{IsAsked, asks_nested, nested_asked}
use Rattle.cb_interp.proofs.TurnsSwitched.{top_again}

-- ---- what the step leaves

all_there : (count : ℕ) (object : Object) → map Some (replicate count object) ≡ replicate count (Some object)
all_there zero object = refl
all_there (suc count) object = ap (λ (rest : List (Option Object)). Some object ∷ rest) (all_there count object)

abbrev put : List (Option Object) → Placing → List (Option Object)
put objects placing = objects ++ map Some (objects_of placing)

put_last : (objects : List (Option Object)) (front : List Placing) (last : Placing) → fold put objects (front ++ last ∷ []) ≡ put (fold put objects front) last
put_last objects [] last = refl
put_last objects (first ∷ front) last = put_last (put objects first) front last

fold_joined : {A X : Type 0} (f : A → X → A) (start : A) (front back : List X) → fold f start (front ++ back) ≡ fold f (fold f start front) back
fold_joined f start [] back = refl
fold_joined f start (item ∷ front) back = fold_joined f (f start item) front back

module _ (machine : Machine) (grid : Grid) (last pc : ℕ) where
  abbrev row_of : (first dimension : ℕ) → Placing
  row_of first dimension =
      Rows (grid.site dimension) (kind_of_site machine.program (grid.site dimension)) (first_of grid.sizes first (suc dimension)) (size_of grid.sizes dimension) (count_of grid.sizes dimension)

  placed_above : (objects : List (Option Object)) (first dimension : ℕ) → fold put objects (rows_placed machine.program grid first dimension) ≡ objects ++ rows_above machine.program grid first dimension
  placed_above objects first zero = sym (append-nil objects)
  placed_above objects first (suc dimension) =
      put_last objects (rows_placed machine.program grid first dimension) (row_of first dimension)
      ∙ ap (λ (objects : List (Option Object)). put objects (row_of first dimension)) (placed_above objects first dimension)
      ∙ append_assoc objects (rows_above machine.program grid first dimension) (map Some (objects_of (row_of first dimension)))

  placed_so : (objects : List (Option Object)) (first : ℕ) → fold put objects (rows_placed machine.program grid first last ++ last_placed machine.program grid last ∷ [])
      ≡ objects ++ nested_objects machine.program grid first last
  placed_so objects first =
      put_last objects (rows_placed machine.program grid first last) (last_placed machine.program grid last)
      ∙ ap (λ (objects : List (Option Object)). put objects (last_placed machine.program grid last)) (placed_above objects first last)
      ∙ append_assoc objects (rows_above machine.program grid first last) (map Some (objects_of (last_placed machine.program grid last)))
      ∙ ap (λ (blanks : List (Option Object)). objects ++ (rows_above machine.program grid first last ++ blanks))
      (all_there (count_of grid.sizes last) (new_array machine.program (grid.site last) (size_of grid.sizes last)))

  pub nested_so : (state : State) → made (makes_nested machine state grid last pc) ≡ with_view state (at_place (made_nested machine.program grid last (view_of state)) pc)
  nested_so state =
      ap (with_objects (with_roots state (placed (stacked state.roots (Ref (length state.objects + 1) ∷ drop (suc last) (top_stack state.roots))) pc)))
      (placed_so state.objects (length state.objects + 1))

  pub nested_kept : (kept : List Bool) (state : State) → length kept ≡ length state.objects
      → kept_plan kept (makes_nested machine state grid last pc) ≡ makes_nested machine (kept_state kept state) grid last pc
  nested_kept kept state same =
      ap (λ (count : ℕ). record {
        placed = rows_placed machine.program grid (count + 1) last ++ last_placed machine.program grid last ∷ [];
        next = first_of grid.sizes (count + 1) (suc last);
        left = with_roots (kept_state kept state) (placed (stacked state.roots (Ref (count + 1) ∷ drop (suc last) (top_stack state.roots))) pc);
      }) (sym (length_kept kept state.objects same))

  -- and what a store knows then
  module _ {Facts : Type 0} (rules : Rules Facts) where
    knows_row : (site kind first size from count : ℕ) (facts : Facts)
        → fold (knows_placed rules) facts (map (λ (turn : ℕ). object_of site kind (map Reference (range_with_len (first + turn * size) size))) (range_with_len from count) ++ [])
        ≡ knows_rows rules facts site size count
    knows_row site kind first size from zero facts = refl
    knows_row site kind first size from (suc count) facts =
        ap (λ (words : ℕ). fold (knows_placed rules) (rules.placed facts site words)
        (map (λ (turn : ℕ). object_of site kind (map Reference (range_with_len (first + turn * size) size))) (range_with_len (from + 1) count) ++ []))
        (length-map (range_with_len (first + from * size) size) Reference ∙ length-range_with_len (first + from * size) size)
        ∙ knows_row site kind first size (from + 1) count (rules.placed facts site size)

    knows_alike : (site kind : ℕ) (content : Content) (size count : ℕ) (facts : Facts)
        → fold (knows_placed rules) facts (replicate count (object_of site kind (replicate size content)) ++ []) ≡ knows_rows rules facts site size count
    knows_alike site kind content size zero facts = refl
    knows_alike site kind content size (suc count) facts =
        ap (λ (words : ℕ). fold (knows_placed rules) (rules.placed facts site words) (replicate count (object_of site kind (replicate size content)) ++ [])) (length-replicate size content)
        ∙ knows_alike site kind content size count (rules.placed facts site size)

    knows_above : (facts : Facts) (first dimension : ℕ) → fold (knows_placed rules) facts (flat_map objects_of (rows_placed machine.program grid first dimension)) ≡ knows_nested rules facts grid dimension
    knows_above facts first zero = refl
    knows_above facts first (suc dimension) =
        ap (fold (knows_placed rules) facts) (flat_map-append objects_of (rows_placed machine.program grid first dimension) (row_of first dimension ∷ []))
        ∙ fold_joined (knows_placed rules) facts (flat_map objects_of (rows_placed machine.program grid first dimension)) (flat_map objects_of (row_of first dimension ∷ []))
        ∙ ap (λ (facts : Facts). fold (knows_placed rules) facts (flat_map objects_of (row_of first dimension ∷ []))) (knows_above facts first dimension)
        ∙ knows_row (grid.site dimension) (kind_of_site machine.program (grid.site dimension)) (first_of grid.sizes first (suc dimension)) (size_of grid.sizes dimension) 0 (count_of grid.sizes dimension)
        (knows_nested rules facts grid dimension)

    knows_so : (facts : Facts) (state : State) → facts_behind rules facts (makes_nested machine state grid last pc).placed ≡ knows_nested rules facts grid (last + 1)
    knows_so facts state =
        let first : ℕ = length state.objects + 1 in
        ap (fold (knows_placed rules) facts) (flat_map-append objects_of (rows_placed machine.program grid first last) (last_placed machine.program grid last ∷ []))
        ∙ fold_joined (knows_placed rules) facts (flat_map objects_of (rows_placed machine.program grid first last)) (flat_map objects_of (last_placed machine.program grid last ∷ []))
        ∙ ap (λ (facts : Facts). fold (knows_placed rules) facts (flat_map objects_of (last_placed machine.program grid last ∷ []))) (knows_above facts first last)
        ∙ knows_alike (grid.site last) (kind_of_site machine.program (grid.site last)) (blank_element machine.program (kind_of_site machine.program (grid.site last))) (size_of grid.sizes last) (count_of grid.sizes last)
        (knows_nested rules facts grid last)
        ∙ ap (λ (dimensions : ℕ). knows_nested rules facts grid dimensions) (sym (add-one last))

module _ {Facts : Type 0} (rules : Rules Facts) (machine : Machine) (before : Moment Facts) (grid : Grid) (last pc : ℕ) (wants : List Want)
    (is : plan machine before.state ≡ Some (makes_nested machine before.state grid last pc)) (asks : wants ≡ fold add_want [] (nested_wants grid (last + 1))) where
  pub nested_turn : (middle after : Moment Facts)
      → rules.makes_room before.facts (view_of before.state) wants (Ok tt) (record { facts = middle.facts; residents = residents middle.state.objects })
      → Collects (view_of before.state) (view_of middle.state) → middle.state ≡ with_objects before.state middle.state.objects
      → after.facts ≡ knows_nested rules middle.facts grid (last + 1)
      → after.state ≡ with_view middle.state (at_place (made_nested machine.program grid last (view_of middle.state)) pc) → TurnMade rules machine before after
  nested_turn middle after ruled collects same knows steps =
      let some : IsAsked (fold add_want [] (nested_wants grid (last + 1))) = nested_asked grid last in
      asked_turn rules machine before middle after (makes_nested machine before.state grid last pc) some.first some.rest is (asks_nested machine before.state grid last pc ∙ some.is)
      (subst (λ (wants : List Want). rules.makes_room before.facts (view_of before.state) wants (Ok tt) (record { facts = middle.facts; residents = residents middle.state.objects }))
      (asks ∙ some.is) ruled) collects same
      (steps ∙ sym (nested_so machine grid last pc middle.state)
      ∙ ap (λ (state : State). made (makes_nested machine state grid last pc)) (collected rules machine before middle collects same)
      ∙ ap made (sym (nested_kept machine grid last pc (residents middle.state.objects) before.state (collected_keeping rules machine before middle collects same).count)))
      (knows ∙ sym (knows_so machine grid last pc rules middle.facts before.state))

  -- and room is refused
  pub nested_refused : (after : Moment Facts) (reason : NoRoom)
      → rules.makes_room before.facts (view_of before.state) wants (Err reason) (record { facts = after.facts; residents = residents after.state.objects })
      → Collects (view_of before.state) (view_of after.state) → after.state ≡ with_objects before.state after.state.objects → TurnRefused rules machine before reason after
  nested_refused after reason ruled collects same = record {
    refused = record {
      asked = λ none.
          let some : IsAsked (fold add_want [] (nested_wants grid (last + 1))) = nested_asked grid last in
          let both : some.first ∷ some.rest ≡ [] = sym (ap asked_of is ∙ asks_nested machine before.state grid last pc ∙ some.is) ∙ none in
          cc both;
      ruled = subst (λ (wants : List Want). rules.makes_room before.facts (view_of before.state) wants (Err reason) (record { facts = after.facts; residents = residents after.state.objects }))
          (asks ∙ sym (ap asked_of is ∙ asks_nested machine before.state grid last pc)) ruled;
      collects = collects;
      same = same;
    };
  }

-- ---- roots

pub stack_still : (index now : ℕ → ℕ) (held after : Roots) (last : ℕ) → read_roots now after ≡ read_roots index held → last < length (top_stack held) → last < length (top_stack after)
stack_still index now held after last same there =
    let read : length (top_stack (read_roots index held)) ≡ length (top_stack held) = ap length (reads_stack index held) ∙ length-map (top_stack held) (read_value index) in
    let now_read : length (top_stack (read_roots now after)) ≡ length (top_stack after) = ap length (reads_stack now after) ∙ length-map (top_stack after) (read_value now) in
    subst (λ (count : ℕ). last < count) (sym read ∙ ap (λ (roots : Roots). length (top_stack roots)) (sym same) ∙ now_read) there

pub behind_nested : (program : Linked) (grid : Grid) (last : ℕ) (before after : ℕ → ℕ) (objects kept : List (Option Object)) (held given : Roots) (at : ℕ)
    → given ≡ stacked held (Ref at ∷ drop (last + 1) (top_stack held)) → ReadsAsBefore objects before after → IsClosed (seen before objects held) → serial_of after at ≡ length objects + 1
    → kept ≡ objects ++ nested_objects program grid (length objects + 1) last → seen after kept given ≡ made_nested program grid last (seen before objects held)
behind_nested program grid last before after objects kept held given at gives places closed serial is =
    ap (λ (roots : Roots). seen after kept roots) (gives ∙ ap (λ (count : ℕ). stacked held (Ref at ∷ drop count (top_stack held))) (add-one last))
    ∙ ap (λ (roots : Roots). record { roots = roots; objects = kept }) (stacked_read after held (Ref at ∷ drop (suc last) (top_stack held)))
    ∙ ap (λ below. record { roots = stacked (read_roots after held) (Ref (serial_of after at) ∷ below); objects = kept })
    (sym (drop-map (read_value after) (suc last) (top_stack held)) ∙ ap (drop (suc last)) (sym (reads_stack after held)))
    ∙ ap (λ (roots : Roots). record { roots = stacked roots (Ref (serial_of after at) ∷ drop (suc last) (top_stack roots)); objects = kept }) (roots_again objects before after places held closed.roots)
    ∙ ap (λ (serial : ℕ). record { roots = stacked (read_roots before held) (Ref serial ∷ drop (suc last) (top_stack (read_roots before held))); objects = kept }) serial
    ∙ ap (λ (kept : List (Option Object)). record { roots = stacked (read_roots before held) (Ref (length objects + 1) ∷ drop (suc last) (top_stack (read_roots before held))); objects = kept }) is

-- sizes are read as they are
size_read : (index : ℕ → ℕ) (value : Value) → (size_in (read_value index value) ≡ size_in value) × (is_size (read_value index value) ≡ is_size value)
size_read index (Int number) = (refl, refl)
size_read index (Long number) = (refl, refl)
size_read index (Ref place) = (refl, refl)

sizes_read : (index : ℕ → ℕ) (values : List Value) → (map size_in (map (read_value index) values) ≡ map size_in values) × (list_all is_size (map (read_value index) values) ≡ list_all is_size values)
sizes_read index [] = (refl, refl)
sizes_read index (value ∷ values) =
    let (one, own) = size_read index value in
    let (rest, all) = sizes_read index values in (
      ap₂ (λ (size : ℕ) (sizes : List ℕ). size ∷ sizes) one rest,
      ap₂ (λ (is are : Bool). is && are) own all,
    )

pub sizes_alike : (index : ℕ → ℕ) (held : Roots) (count : ℕ)
    → (map size_in (take count (top_stack (read_roots index held))) ≡ map size_in (take count (top_stack held)))
    × (list_all is_size (take count (top_stack (read_roots index held))) ≡ list_all is_size (take count (top_stack held)))
sizes_alike index held count =
    let stack : take count (top_stack (read_roots index held)) ≡ map (read_value index) (take count (top_stack held)) =
    ap (take count) (reads_stack index held) ∙ take-map (read_value index) count (top_stack held) in
    let (sizes, are) = sizes_read index (take count (top_stack held)) in (ap (map size_in) stack ∙ sizes, ap (list_all is_size) stack ∙ are)

module _ (program : Linked) (index now : ℕ → ℕ) (held after : Roots) (same : read_roots now after ≡ read_roots index held) (count : ℕ) where
  top_same : topmost after.frames ≡ topmost held.frames
  top_same = sym (top_again now after) ∙ ap (λ (roots : Roots). topmost roots.frames) same ∙ top_again index held

  pub grid_again : grid_on program after count ≡ grid_on program held count
  grid_again =
      ap₂ (λ (top : Option Shown) (sizes : List ℕ). record { site = site_at program top; sizes = reverse sizes }) top_same
      (sym (sizes_alike now after count).0 ∙ ap (λ (roots : Roots). map size_in (take count (top_stack roots))) same ∙ (sizes_alike index held count).0)

pub has_grid_again : (program : Linked) (index now : ℕ → ℕ) (held after : Roots) (last : ℕ) → read_roots now after ≡ read_roots index held → HasGrid program held (last + 1) → HasGrid program after (last + 1)
has_grid_again program index now held after last same has = record {
  makes = record { method = has.makes.method; pc = has.makes.pc; top = top_same program index now held after same (last + 1) ∙ has.makes.top; all = has.makes.all };
  tells = has.tells;
  many =
      let many = has.many in
      let low : last < length (top_stack held) = omega (arith, many) in
      let still = stack_still index now held after last same low in
      omega (arith, still);
  sized = sym (sizes_alike now after (last + 1)).1 ∙ ap (λ (roots : Roots). list_all is_size (take (last + 1) (top_stack roots))) same ∙ (sizes_alike index held (last + 1)).1 ∙ has.sized;
}
