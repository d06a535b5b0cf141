-- What instructions do to the topmost frame is seen the same when roots are read.
use Rattle.std.proofs.Common.{◌≡◌, ◌∙◌, ap, refl, sym, ℕ, ℤ, ◌+◌, ◌+ℤ◌, Bool, true, false, List, [], ◌∷◌, ◌++◌, map, Option, Some, None, length, nat_le, ◌==◌, zero, suc}
use Rattle.std.proofs.lemmas.Bool.{false≢true}
use Rattle.std.proofs.lemmas.List.{length-map, map-set}
use Rattle.std.proofs.lemmas.Option.{slice_get-map}
use Rattle.std.specs.Prelude.{option_and_then, option_map, slice_get, slice_set, if◌then◌else◌}
use Rattle.std.specs.Int.{int_wrap, w32}
use Rattle.std.proofs.lemmas.Bool.{ne_eqb}
use Rattle.cb_frames.specs.Tops.{changed_in, top_locals, top_stack, with_locals, with_stack, with_top, without}
use Rattle.cb_heap.proofs.Laws.{reads_local, reads_locals, reads_pushed, reads_stack, reads_without}
use Rattle.cb_heap.specs.Reading.{read_frame, read_roots, read_value, serial_of}
use Rattle.cb_machine.specs.Branching.{holds}
use Rattle.cb_machine.specs.Locals.{with_slots}
use Rattle.cb_machine.specs.Standing.{same_sort, taken}
use Rattle.cb_machine.specs.Values.{category_of_value, number_of, numbers_of, of_sort, sort_of}
use Rattle.cb_plain.specs.Depth.{slots_of}
use Rattle.cb_plain.specs.declared.value.Value.{Value}
use Rattle.cb_plain.specs.declared.value.Value.TheVariants as values
use Rattle.cb_plain.specs.State.{Frame, Initialising, OfMethod, Roots}
use Rattle.cb_shapes.specs.Computations.{Computed, ByZero, Gives, computed, gives, takes}
use Rattle.cb_shapes.specs.Conditions.{takes as tested}
use Rattle.cb_shapes.specs.Shuffles.{shuffled}
use Rattle.cb_shapes.specs.Sorts.{category_of}
use Rattle.cb_shapes.specs.declared.computation.Computation.{Computation}
use Rattle.cb_shapes.specs.declared.shuffle.Shuffle.{Shuffle}
use Rattle.cb_shapes.specs.declared.sort.Sort.{Sort}
use Rattle.cb_shapes.specs.declared.sort.Sort.TheVariants as sorts
use Rattle.cb_shapes.specs.declared.test.Condition.{Condition}
use Rattle.cb_shapes.specs.declared.test.Condition.TheVariants as conditions
use Rattle.cb_act.specs.Effects.{behind, behind_computation, behind_increase, behind_load, behind_shuffle, behind_store, behind_test, compares_references, computed_on, gave, increased, is_given, loaded, stacked, stored, stored_in, tested_on, told}
use Rattle.cb_act.proofs.Moved.{shuffled_mapped}

not_zero : (place : ℕ) → (suc place == 0) ≡ false
not_zero place = ne_eqb (suc place) 0 (λ same. absurd (cc same))

module _ (index : ℕ → ℕ) where
  abbrev read : Value → Value
  read value = read_value index value

  abbrev both : List Value × List Value → List Value × List Value
  both taken = (map read taken.0, map read taken.1)

  -- values keep their sort, and numbers are as they were
  pub sorted : (value : Value) → sort_of (read_value index value) ≡ sort_of value
  sorted (values.Int number) = refl
  sorted (values.Long number) = refl
  sorted (values.Ref place) = refl

  number_read : (value : Value) → number_of (read value) ≡ number_of value
  number_read (values.Int number) = refl
  number_read (values.Long number) = refl
  number_read (values.Ref place) = refl

  numbers_read : (held : List Value) → numbers_of (map read held) ≡ numbers_of held
  numbers_read [] = refl
  numbers_read (value ∷ held) = rw (number_read value, numbers_read held) refl

  of_sort_read : (sort : Sort) (number : ℤ) → read (of_sort sort number) ≡ of_sort sort number
  of_sort_read sorts.Int number = refl
  of_sort_read sorts.Long number = refl
  of_sort_read sorts.Reference number = refl

  laid_read : (sort : Sort) (numbers : List ℤ) (rest : List Value) → map read (map (of_sort sort) numbers ++ rest) ≡ map (of_sort sort) numbers ++ map read rest
  laid_read sort [] rest = refl
  laid_read sort (number ∷ numbers) rest = rw (of_sort_read sort number, laid_read sort numbers rest) refl

  -- what is taken
  pub taken_read : (sorts : List Sort) (stack : List Value) → taken sorts (map (read_value index) stack) ≡ option_map both (taken sorts stack)
  taken_read [] stack = refl
  taken_read (sort ∷ sorts) [] = refl
  taken_read (sort ∷ sorts) (value ∷ stack) = by_sort (taken_read sorts stack) (same_sort (sort_of value) sort) refl (taken sorts stack) refl where
    by_sort : taken sorts (map read stack) ≡ option_map both (taken sorts stack)
        → (same : Bool) → same_sort (sort_of value) sort ≡ same → (rest : Option (List Value × List Value)) → taken sorts stack ≡ rest
        → taken (sort ∷ sorts) (map read (value ∷ stack)) ≡ option_map both (taken (sort ∷ sorts) (value ∷ stack))
    by_sort before false same rest is = rw (sorted value, same) refl
    by_sort before true same None is = rw (sorted value, same, before, is) refl
    by_sort before true same (Some rest) is = rw (sorted value, same, before, is) refl

  -- with another stack, or other local variables
  stacked_on : (stack : List Value) (frames : List Frame)
      → map (read_frame index) (changed_in (with_stack (λ before. stack)) frames) ≡ changed_in (with_stack (λ before. map read stack)) (map (read_frame index) frames)
  stacked_on stack [] = refl
  stacked_on stack (OfMethod frame ∷ below) = refl
  stacked_on stack (Initialising class place ∷ below) = refl

  pub stacked_read : (held : Roots) (stack : List Value) → read_roots index (stacked held stack) ≡ stacked (read_roots index held) (map (read_value index) stack)
  stacked_read held stack = rw (stacked_on stack held.frames) refl

  locals_on : (change changed : List Value → List Value) → ((locals : List Value) → map read (change locals) ≡ changed (map read locals)) → (frames : List Frame)
      → map (read_frame index) (changed_in (with_locals change) frames) ≡ changed_in (with_locals changed) (map (read_frame index) frames)
  locals_on change changed is [] = refl
  locals_on change changed is (OfMethod frame ∷ below) = rw (is frame.locals) refl
  locals_on change changed is (Initialising class place ∷ below) = refl

  with_locals_read : (held : Roots) (change changed : List Value → List Value) → ((locals : List Value) → map read (change locals) ≡ changed (map read locals))
      → read_roots index (with_top held (with_locals change)) ≡ with_top (read_roots index held) (with_locals changed)
  with_locals_read held change changed is = rw (locals_on change changed is held.frames) refl

  slots_read : (locals : List Value) (local : ℕ) (held : List Value) → map read (with_slots locals local held) ≡ with_slots (map read locals) local (map read held)
  slots_read locals local [] = refl
  slots_read locals local (value ∷ held) =
      slots_read (slice_set locals local value) (local + 1) held
      ∙ ap (λ (set : List Value). with_slots set (local + 1) (map read held)) (map-set read locals local value)

  slots_of_read : (value : Value) → slots_of (read value) ≡ map read (slots_of value)
  slots_of_read (values.Int number) = refl
  slots_of_read (values.Long number) = refl
  slots_of_read (values.Ref place) = refl

  -- computations
  found_read : (computation : Computation) (stack : List Value)
      → computed_on computation (map read stack) ≡ option_map (λ found. (found.0, map read found.1)) (computed_on computation stack)
  found_read computation stack = go (taken (takes computation) stack) refl where
    by_answer : (operands : List Value × List Value) → taken (takes computation) stack ≡ Some operands
        → (found : Option Computed) → option_and_then (computed computation) (numbers_of operands.0) ≡ found
        → computed_on computation (map read stack) ≡ option_map (λ found. (found.0, map read found.1)) (computed_on computation stack)
    by_answer operands there None so = rw (taken_read (takes computation) stack, there, numbers_read operands.0, so) refl
    by_answer operands there (Some found) so = rw (taken_read (takes computation) stack, there, numbers_read operands.0, so) refl

    go : (found : Option (List Value × List Value)) → taken (takes computation) stack ≡ found
        → computed_on computation (map read stack) ≡ option_map (λ found. (found.0, map read found.1)) (computed_on computation stack)
    go None there = rw (taken_read (takes computation) stack, there) refl
    go (Some operands) there = by_answer operands there (option_and_then (computed computation) (numbers_of operands.0)) refl

  behind_read : (held : Roots) (sort : Option Sort) (found : Computed) (rest : List Value)
      → behind (read_roots index held) sort (found, map read rest) ≡ read_roots index (behind held sort (found, rest))
  behind_read held sort ByZero rest = refl
  behind_read held None (Gives numbers) rest = sym (stacked_read held rest)
  behind_read held (Some sort) (Gives numbers) rest =
      ap (λ (stack : List Value). stacked (read_roots index held) stack) (sym (laid_read sort numbers rest)) ∙ sym (stacked_read held (map (of_sort sort) numbers ++ rest))

  is_given_read : (found : Computed) (rest : List Value) → is_given (found, map read rest) ≡ is_given (found, rest)
  is_given_read ByZero rest = refl
  is_given_read (Gives numbers) rest = refl

  pub computed_read : (held : Roots) (computation : Computation)
      → behind_computation computation (read_roots index held) ≡ option_map (read_roots index) (behind_computation computation held)
  computed_read held computation =
      rw (reads_stack index held, found_read computation (top_stack held)) (go (computed_on computation (top_stack held))) where
        go : (found : Option (Computed × List Value))
            → option_map (behind (read_roots index held) (gives computation)) (option_map (λ found. (found.0, map read found.1)) found)
            ≡ option_map (read_roots index) (option_map (behind held (gives computation)) found)
        go None = refl
        go (Some found) = ap Some (behind_read held (gives computation) found.0 found.1)

  pub gave_read : (held : Roots) (computation : Computation) → gave computation (read_roots index held) ≡ gave computation held
  gave_read held computation =
      rw (reads_stack index held, found_read computation (top_stack held)) (go (computed_on computation (top_stack held))) where
        go : (found : Option (Computed × List Value)) → option_map is_given (option_map (λ found. (found.0, map read found.1)) found) ≡ option_map is_given found
        go None = refl
        go (Some found) = ap Some (is_given_read found.0 found.1)

  -- local variables
  pub loaded_read : (held : Roots) (sort : Sort) (local : ℕ) → behind_load sort local (read_roots index held) ≡ option_map (read_roots index) (behind_load sort local held)
  loaded_read held sort local =
      rw (reads_locals index held, slice_get-map read (top_locals held) local) (go (slice_get (top_locals held) local)) where
        by_sort : (value : Value) (same : Bool) → same_sort (sort_of value) sort ≡ same
            → loaded (read_roots index held) sort (Some (read value)) ≡ option_map (read_roots index) (loaded held sort (Some value))
        by_sort value false same = rw (sorted value, same) refl
        by_sort value true same = rw (sorted value, same) (ap Some (sym (reads_pushed index held value)))

        go : (found : Option Value) → loaded (read_roots index held) sort (option_map read found) ≡ option_map (read_roots index) (loaded held sort found)
        go None = refl
        go (Some value) = by_sort value (same_sort (sort_of value) sort) refl

  pub increased_read : (held : Roots) (local : ℕ) (by : ℤ) → behind_increase local by (read_roots index held) ≡ option_map (read_roots index) (behind_increase local by held)
  increased_read held local by =
      rw (reads_locals index held, slice_get-map read (top_locals held) local) (go (slice_get (top_locals held) local)) where
        go : (found : Option Value) → increased (read_roots index held) local by (option_map read found) ≡ option_map (read_roots index) (increased held local by found)
        go None = refl
        go (Some (values.Int number)) = ap Some (sym (reads_local index held local (values.Int (int_wrap w32 (number +ℤ by)))))
        go (Some (values.Long number)) = refl
        go (Some (values.Ref place)) = refl

  stored_in_read : (held : Roots) (local : ℕ) (slots : List Value) → stored_in (read_roots index held) local (map read slots) ≡ option_map (read_roots index) (stored_in held local slots)
  stored_in_read held local slots =
      rw (length-map slots read, reads_locals index held, length-map (top_locals held) read) (go (nat_le (local + length slots) (length (top_locals held))) refl) where
        go : (low : Bool) → nat_le (local + length slots) (length (top_locals held)) ≡ low
            → (if low then Some (with_top (without (read_roots index held) 1) (with_locals (λ locals. with_slots locals local (map read slots)))) else None)
            ≡ option_map (read_roots index) (if low then Some (with_top (without held 1) (with_locals (λ locals. with_slots locals local slots))) else None)
        go false is = refl
        go true is =
            ap Some (ap (λ (below : Roots). with_top below (with_locals (λ locals. with_slots locals local (map read slots)))) (sym (reads_without index held 1))
            ∙ sym (with_locals_read (without held 1) (λ locals. with_slots locals local slots) (λ locals. with_slots locals local (map read slots)) (λ locals. slots_read locals local slots)))

  pub stored_read : (held : Roots) (sort : Sort) (local : ℕ) → behind_store sort local (read_roots index held) ≡ option_map (read_roots index) (behind_store sort local held)
  stored_read held sort local =
      rw (reads_stack index held, slice_get-map read (top_stack held) 0) (go (slice_get (top_stack held) 0)) where
        by_sort : (value : Value) (same : Bool) → same_sort (sort_of value) sort ≡ same
            → stored (read_roots index held) sort local (Some (read value)) ≡ option_map (read_roots index) (stored held sort local (Some value))
        by_sort value false same = rw (sorted value, same) refl
        by_sort value true same = rw (sorted value, same, slots_of_read value) (stored_in_read held local (slots_of value))

        go : (found : Option Value) → stored (read_roots index held) sort local (option_map read found) ≡ option_map (read_roots index) (stored held sort local found)
        go None = refl
        go (Some value) = by_sort value (same_sort (sort_of value) sort) refl

  -- shuffles
  pub shuffled_read : (held : Roots) (shuffle : Shuffle) → behind_shuffle shuffle (read_roots index held) ≡ option_map (read_roots index) (behind_shuffle shuffle held)
  shuffled_read held shuffle =
      rw (reads_stack index held, shuffled_mapped read (λ value. category_of (sort_of value)) (λ value. category_of (sort_of value)) (λ value. ap category_of (sorted value)) shuffle (top_stack held))
      (go (shuffled category_of_value shuffle (top_stack held))) where
        go : (found : Option (List Value)) → option_map (stacked (read_roots index held)) (option_map (map read) found) ≡ option_map (read_roots index) (option_map (stacked held) found)
        go None = refl
        go (Some stack) = ap Some (sym (stacked_read held stack))

  -- conditions
  zero_read : (place : ℕ) → (serial_of index place == 0) ≡ (place == 0)
  zero_read zero = refl
  zero_read (suc place) = not_zero (index (suc place)) ∙ sym (not_zero place)

  -- a condition that compares no references
  holds_read : (condition : Condition) → compares_references condition ≡ false → (held : List Value) → holds condition (map read held) ≡ holds condition held
  holds_read condition plain held = go condition plain held where
    go : (condition : Condition) → compares_references condition ≡ false → (held : List Value) → holds condition (map read held) ≡ holds condition held
    go conditions.Always plain [] = refl
    go conditions.Always plain (value ∷ held) = refl
    go (conditions.WithZero test) plain [] = refl
    go (conditions.WithZero test) plain (values.Int a ∷ []) = refl
    go (conditions.WithZero test) plain (values.Int a ∷ value ∷ held) = refl
    go (conditions.WithZero test) plain (values.Long a ∷ held) = refl
    go (conditions.WithZero test) plain (values.Ref a ∷ held) = refl
    go (conditions.OfInts test) plain [] = refl
    go (conditions.OfInts test) plain (values.Int b ∷ []) = refl
    go (conditions.OfInts test) plain (values.Int b ∷ values.Int a ∷ []) = refl
    go (conditions.OfInts test) plain (values.Int b ∷ values.Int a ∷ value ∷ held) = refl
    go (conditions.OfInts test) plain (values.Int b ∷ values.Long a ∷ held) = refl
    go (conditions.OfInts test) plain (values.Int b ∷ values.Ref a ∷ held) = refl
    go (conditions.OfInts test) plain (values.Long b ∷ held) = refl
    go (conditions.OfInts test) plain (values.Ref b ∷ held) = refl
    go (conditions.AreSame are) plain held = absurd (false≢true (sym plain))
    go (conditions.IsNull is) plain [] = refl
    go (conditions.IsNull is) plain (values.Int a ∷ held) = refl
    go (conditions.IsNull is) plain (values.Long a ∷ held) = refl
    go (conditions.IsNull is) plain (values.Ref a ∷ []) = rw (zero_read a) refl
    go (conditions.IsNull is) plain (values.Ref a ∷ value ∷ held) = refl

  tested_read : (condition : Condition) → compares_references condition ≡ false → (stack : List Value)
      → tested_on condition (map read stack) ≡ option_map (λ told. (told.0, map read told.1)) (tested_on condition stack)
  tested_read condition plain stack = go (taken (tested condition) stack) refl where
    by_answer : (operands : List Value × List Value) → taken (tested condition) stack ≡ Some operands → (found : Option Bool) → holds condition operands.0 ≡ found
        → tested_on condition (map read stack) ≡ option_map (λ told. (told.0, map read told.1)) (tested_on condition stack)
    by_answer operands there None so = rw (taken_read (tested condition) stack, there, holds_read condition plain operands.0, so) refl
    by_answer operands there (Some is) so = rw (taken_read (tested condition) stack, there, holds_read condition plain operands.0, so) refl

    go : (found : Option (List Value × List Value)) → taken (tested condition) stack ≡ found
        → tested_on condition (map read stack) ≡ option_map (λ told. (told.0, map read told.1)) (tested_on condition stack)
    go None there = rw (taken_read (tested condition) stack, there) refl
    go (Some operands) there = by_answer operands there (holds condition operands.0) refl

  pub test_read : (held : Roots) (condition : Condition) → compares_references condition ≡ false
      → behind_test condition (read_roots index held) ≡ option_map (read_roots index) (behind_test condition held)
  test_read held condition plain =
      rw (reads_stack index held, tested_read condition plain (top_stack held)) (go (tested_on condition (top_stack held))) where
        go : (found : Option (Bool × List Value))
            → option_map (λ (told : Bool × List Value). stacked (read_roots index held) told.1) (option_map (λ told. (told.0, map read told.1)) found)
            ≡ option_map (read_roots index) (option_map (λ (told : Bool × List Value). stacked held told.1) found)
        go None = refl
        go (Some found) = ap Some (sym (stacked_read held found.1))

  pub told_read : (held : Roots) (condition : Condition) → compares_references condition ≡ false → told condition (read_roots index held) ≡ told condition held
  told_read held condition plain =
      rw (reads_stack index held, tested_read condition plain (top_stack held)) (go (tested_on condition (top_stack held))) where
        go : (found : Option (Bool × List Value))
            → option_map (λ (told : Bool × List Value). told.0) (option_map (λ told. (told.0, map read told.1)) found) ≡ option_map (λ (told : Bool × List Value). told.0) found
        go None = refl
        go (Some found) = refl
