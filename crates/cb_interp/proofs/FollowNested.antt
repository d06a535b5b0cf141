-- The sites of arrays of arrays, where references follow what sites allow: arrays of a dimension may refer to those of the next one, where
-- there are any.
use Rattle.std.proofs.Common.{◌≡◌, ◌∙◌, add-one, ap, refl, sym, subst, arith, inl, inr, ℕ, zero, suc, ◌+◌, ◌*◌, ◌<◌, ◌≤◌, Bool, true, List, ◌++◌, append_assoc, length, map, replicate, Option, None, Some, IsTrue}
use Rattle.std.specs.Prelude.{option_map}
use Rattle.std.proofs.lemmas.Bool.{cases_lt}
use Rattle.std.proofs.lemmas.Option.{none-some, same_Some}
use Rattle.std.specs.List.{range_with_len}
use Rattle.cb_heap.specs.Closed.{Collects}
use Rattle.cb_heap.specs.Follows.{Follows}
use Rattle.cb_heap.specs.Kept.{content_at, residents}
use Rattle.cb_heap.specs.Rules.{Rules}
use Rattle.cb_heap.specs.Store.{may_point}
use Rattle.cb_link.specs.Program.{Linked}
use Rattle.cb_machine.specs.Machine.{Machine, kind_of_site}
use Rattle.cb_machine.specs.Plans.{Rows, made, object_of, objects_of}
use Rattle.cb_machine.specs.Steps.{plan}
use Rattle.cb_natives.proofs.Laws.{follows_one, word_left}
use Rattle.cb_plain.specs.State.{Object, Reference, State}
use Rattle.cb_plain.specs.Updates.{object_in, with_objects}
use Rattle.cb_act.specs.Coming.{AreAllowed}
use Rattle.cb_act.specs.Keeping.{kept_plan}
use Rattle.cb_act.specs.Steps.{view_of}
use Rattle.cb_act.specs.Turning.{Moment}
use Rattle.cb_interp.specs.Nested.{Grid, blanks, count_of, first_of, makes_nested, nested_objects, new_array, rows, rows_above, size_of}
use Rattle.cb_interp.proofs.Allowed.{allowed_asked}
use Rattle.cb_interp.proofs.TurnsMade.{collected, collected_keeping}
use Rattle.cb_interp.proofs.TurnsNested.{in_middle}
use Rattle.cb_interp.proofs.TurnsNestedLevels.{above, above_length, above_next, leads}
use Rattle.cb_interp.proofs.TurnsNestedTurn.{nested_kept, nested_so}

-- ---- what a turn leaves

module _ {Facts : Type 0} (rules : Rules Facts) (machine : Machine) (grid : Grid) (last pc : ℕ) where
  pub nested_follows : (allows : ℕ → ℕ → Bool) (before middle : Moment Facts) → AreAllowed allows machine before.state
      → plan machine before.state ≡ Some (makes_nested machine before.state grid last pc) → Collects (view_of before.state) (view_of middle.state)
      → middle.state ≡ with_objects before.state middle.state.objects
      → Follows allows (middle.state.objects ++ nested_objects machine.program grid (length middle.state.objects + 1) last)
  nested_follows allows before middle allowed is collects same =
      let kept : made (kept_plan (residents middle.state.objects) (makes_nested machine before.state grid last pc)) ≡ made (makes_nested machine middle.state grid last pc) =
      ap made (nested_kept machine grid last pc (residents middle.state.objects) before.state (collected_keeping rules machine before middle collects same).count)
      ∙ ap (λ (state : State). made (makes_nested machine state grid last pc)) (sym (collected rules machine before middle collects same)) in
      subst (λ (state : State). Follows allows state.objects) (kept ∙ nested_so machine grid last pc middle.state)
      (allowed_asked rules machine allows before middle (makes_nested machine before.state grid last pc) allowed is collects same)

-- ---- numbers of arrays

pub rows_some : (count size : ℕ) → 0 < count → 0 < size → 0 < count * size
rows_some zero size some more = absurd (omega (arith, some))
rows_some (suc count) zero some more = absurd (omega (arith, more))
rows_some (suc count) (suc size) some more = omega arith

some_both : (count size : ℕ) → 0 < count * size → (0 < count) × (0 < size)
some_both zero size some = absurd (omega (arith, some))
some_both (suc count) zero some = let none : suc count * 0 ≡ 0 = omega arith in absurd (omega (arith, some, none))
some_both (suc count) (suc size) some = (omega arith, omega arith)

-- ---- sites

abbrev site_in : List (Option Object) → ℕ → Option ℕ
site_in objects serial = option_map (λ (object : Object). object.site) (object_in objects serial)

-- what the sites of both tell
pair_sited : (allows : ℕ → ℕ → Bool) (objects : List (Option Object)) (one place own next : ℕ) → site_in objects one ≡ Some own → site_in objects (suc place) ≡ Some next
    → IsTrue (may_point allows objects one (suc place)) → allows own next ≡ true
pair_sited allows objects one place own next is also may = go (object_in objects one) (object_in objects (suc place)) refl refl is also where
  go : (first second : Option Object) → object_in objects one ≡ first → object_in objects (suc place) ≡ second → option_map (λ (object : Object). object.site) first ≡ Some own
      → option_map (λ (object : Object). object.site) second ≡ Some next → allows own next ≡ true
  go None second first_is second_is is also = absurd (none-some own is)
  go (Some first) None first_is second_is is also = absurd (none-some next also)
  go (Some first) (Some second) first_is second_is is also =
      let same : may_point allows objects one (suc place) ≡ allows first.site second.site = rw (first_is, second_is) refl in
      sym (ap (λ (site : ℕ). allows site second.site) (same_Some first.site own is) ∙ ap (allows own) (same_Some second.site next also)) ∙ sym same ∙ may

sited_rows : (front rest : List (Option Object)) (site kind first size count : ℕ) → 0 < count
    → site_in (front ++ (map Some (objects_of (Rows site kind first size count)) ++ rest)) (suc (length front)) ≡ Some site
sited_rows front rest site kind first size zero some = absurd (omega (arith, some))
sited_rows front rest site kind first size (suc count) some =
    ap (option_map (λ (object : Object). object.site))
    (in_middle front (object_of site kind (map Reference (range_with_len (first + 0 * size) size)))
    (map Some (map (λ (turn : ℕ). object_of site kind (map Reference (range_with_len (first + turn * size) size))) (range_with_len (0 + 1) count)) ++ rest))

sited_alike : (front : List (Option Object)) (object : Object) (count : ℕ) → 0 < count → site_in (front ++ replicate count (Some object)) (suc (length front)) ≡ Some object.site
sited_alike front object zero some = absurd (omega (arith, some))
sited_alike front object (suc count) some = ap (option_map (λ (object : Object). object.site)) (in_middle front object (replicate count (Some object)))

module _ (program : Linked) (grid : Grid) (start : List (Option Object)) where
  abbrev lowest : ℕ
  lowest = length start + 1

  place_of : (dimension : ℕ) → first_of grid.sizes lowest dimension ≡ suc (length (above program grid start dimension))
  place_of dimension = sym (above_length program grid start dimension) ∙ add-one (length (above program grid start dimension))

  -- the first array of a dimension is of its site
  abbrev IsSited : (dimension : ℕ) → List (Option Object) → Type 0
  IsSited dimension objects = 0 < count_of grid.sizes dimension → site_in objects (first_of grid.sizes lowest dimension) ≡ Some (grid.site dimension)

  sited_own : (dimension : ℕ) (rest : List (Option Object)) → IsSited dimension (above program grid start dimension ++ (rows program grid lowest dimension ++ rest))
  sited_own dimension rest some =
      ap (site_in (above program grid start dimension ++ (rows program grid lowest dimension ++ rest))) (place_of dimension)
      ∙ sited_rows (above program grid start dimension) rest (grid.site dimension) (kind_of_site program (grid.site dimension)) (first_of grid.sizes lowest (suc dimension))
      (size_of grid.sizes dimension) (count_of grid.sizes dimension) some

  sited_above : (last : ℕ) (rest : List (Option Object)) (dimension : ℕ) → dimension < last → IsSited dimension (above program grid start last ++ rest)
  sited_above zero rest dimension low some = absurd (omega (arith, low))
  sited_above (suc last) rest dimension low some =
      ap (λ (objects : List (Option Object)). site_in objects (first_of grid.sizes lowest dimension)) (above_next program grid start last rest)
      ∙ elim (cases_lt dimension last) [
        | inl below ↦ sited_above last (rows program grid lowest last ++ rest) dimension below some
        | inr at ↦
            let same : last ≡ dimension = omega (arith, at, low) in
            subst (λ (dimension : ℕ). IsSited dimension (above program grid start last ++ (rows program grid lowest last ++ rest))) same (sited_own last rest) some
      ]

  sited_last : (last : ℕ) → IsSited last (above program grid start last ++ blanks program grid last)
  sited_last last some =
      ap (site_in (above program grid start last ++ blanks program grid last)) (place_of last)
      ∙ sited_alike (above program grid start last) (new_array program (grid.site last) (size_of grid.sizes last)) (count_of grid.sizes last) some

  sited_all : (last dimension : ℕ) → dimension ≤ last → IsSited dimension (above program grid start last ++ blanks program grid last)
  sited_all last dimension low some = elim (cases_lt dimension last) [
    | inl below ↦ sited_above last (blanks program grid last) dimension below some
    | inr at ↦
        let same : last ≡ dimension = omega (arith, at, low) in
        subst (λ (dimension : ℕ). IsSited dimension (above program grid start last ++ blanks program grid last)) same (sited_last last) some
  ]

pub nested_pair : (allows : ℕ → ℕ → Bool) (program : Linked) (grid : Grid) (start : List (Option Object)) (last dimension : ℕ) → dimension < last
    → 0 < count_of grid.sizes (dimension + 1) → Follows allows (start ++ nested_objects program grid (length start + 1) last) → allows (grid.site dimension) (grid.site (dimension + 1)) ≡ true
nested_pair allows program grid start last dimension low some follows =
    ap (λ (next : ℕ). allows (grid.site dimension) (grid.site next)) (add-one dimension)
    ∙ pair_sited allows all (first_of grid.sizes from dimension) (length (above program grid start (suc dimension))) (grid.site dimension) (grid.site (suc dimension))
    (sited_all program grid start last dimension (omega (arith, low)) both.0)
    (ap (site_in all) (sym next) ∙ sited_all program grid start last (suc dimension) (omega (arith, low)) more)
    (ap (may_point allows all (first_of grid.sizes from dimension)) (sym next) ∙ may) where
      from : ℕ
      from = length start + 1

      all : List (Option Object)
      all = above program grid start last ++ blanks program grid last

      more : 0 < count_of grid.sizes (suc dimension)
      more = subst (λ (next : ℕ). 0 < count_of grid.sizes next) (add-one dimension) some

      both : (0 < count_of grid.sizes dimension) × (0 < size_of grid.sizes dimension)
      both = some_both (count_of grid.sizes dimension) (size_of grid.sizes dimension) more

      next : first_of grid.sizes from (suc dimension) ≡ suc (length (above program grid start (suc dimension)))
      next = place_of program grid start (suc dimension)

      word : content_at all (first_of grid.sizes from dimension) 0 ≡ Some (Reference (first_of grid.sizes from (suc dimension)))
      word =
          let own : first_of grid.sizes from dimension ≡ first_of grid.sizes from dimension + 0 = omega arith in
          let other : first_of grid.sizes from (suc dimension) + 0 * size_of grid.sizes dimension + 0 ≡ first_of grid.sizes from (suc dimension) = omega arith in
          ap (λ (serial : ℕ). content_at all serial 0) own ∙ leads program grid start last (blanks program grid last) dimension 0 0 low both.0 both.1
          ∙ ap (λ (serial : ℕ). Some (Reference serial)) other

      allowed : Follows allows all
      allowed = subst (Follows allows) (sym (append_assoc start (rows_above program grid from last) (blanks program grid last))) follows

      may : IsTrue (may_point allows all (first_of grid.sizes from dimension) (first_of grid.sizes from (suc dimension)))
      may = word_left allows all all (first_of grid.sizes from dimension) 0 (first_of grid.sizes from (suc dimension)) (follows_one allows all (first_of grid.sizes from dimension) allowed) word refl refl
