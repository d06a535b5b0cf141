-- What stands on the stack where an instruction finds what it takes.
use Rattle.std.proofs.Common.{◌≡◌, ◌∙◌, ap, refl, sym, ℕ, Bool, true, false, List, [], ◌∷◌, Option, Some, None, zero, suc}
use Rattle.std.proofs.lemmas.Bool.{false≢true}
use Rattle.std.proofs.lemmas.Option.{slice_get-map}
use Rattle.std.specs.Prelude.{is_some, option_and_then, option_map, slice_get}
use Rattle.cb_frames.specs.Tops.{top_stack}
use Rattle.cb_heap.proofs.Laws.{reads_stack}
use Rattle.cb_heap.specs.Reading.{read_roots, read_value}
use Rattle.cb_machine.specs.Standing.{same_sort, taken}
use Rattle.cb_machine.specs.Values.{sort_of}
use Rattle.cb_plain.specs.declared.value.Value.{Value}
use Rattle.cb_plain.specs.State.{Roots}
use Rattle.cb_shapes.specs.declared.sort.Sort.{Sort}
use Rattle.cb_act.specs.Effects.{has_sort}
use Rattle.cb_act.proofs.Read.{sorted}

found : {A B : Type 0} (f : A → Option B) (some : Option A) → is_some (option_and_then f some) ≡ true → is_some some ≡ true
found f None is = is
found f (Some a) is = refl

found_map : {A B : Type 0} (f : A → B) (some : Option A) → is_some (option_map f some) ≡ true → is_some some ≡ true
found_map f None is = is
found_map f (Some a) is = refl

abbrev onto : Value → List Value × List Value → List Value × List Value
onto value below = (value ∷ below.0, below.1)

there : (sorts : List Sort) (stack : List Value) → is_some (taken sorts stack) ≡ true → (depth : ℕ) (sort : Sort) → slice_get sorts depth ≡ Some sort
    → has_sort sort (slice_get stack depth) ≡ true
there [] stack is depth sort at = absurd (cc at)
there (first ∷ sorts) [] is depth sort at = absurd (false≢true is)
there (first ∷ sorts) (value ∷ stack) is depth sort at = go (there sorts stack) (same_sort (sort_of value) first) refl depth at where
  go : (is_some (taken sorts stack) ≡ true → (depth : ℕ) (sort : Sort) → slice_get sorts depth ≡ Some sort → has_sort sort (slice_get stack depth) ≡ true)
      → (same : Bool) → same_sort (sort_of value) first ≡ same → (depth : ℕ) → slice_get (first ∷ sorts) depth ≡ Some sort → has_sort sort (slice_get (value ∷ stack) depth) ≡ true
  go further false so depth at =
      let none : is_some (taken (first ∷ sorts) (value ∷ stack)) ≡ false = rw so refl in
      absurd (false≢true (sym none ∙ is))
  go further true so zero at =
      let one : first ≡ sort = cc at in
      ap (same_sort (sort_of value)) (sym one) ∙ so
  go further true so (suc depth) at =
      let more : is_some (taken (first ∷ sorts) (value ∷ stack)) ≡ is_some (option_map (onto value) (taken sorts stack)) = rw so refl in
      further (found_map (onto value) (taken sorts stack) (sym more ∙ is)) depth sort at

-- and on the stack of roots that are read
of_read : (index : ℕ → ℕ) (sort : Sort) (found : Option Value) → has_sort sort (option_map (read_value index) found) ≡ has_sort sort found
of_read index sort None = refl
of_read index sort (Some value) = ap (λ own. same_sort own sort) (sorted index value)

pub stands : {Result : Type 0} (index : ℕ → ℕ) (held : Roots) (f : List Value × List Value → Option Result) (sorts : List Sort)
    → is_some (option_and_then f (taken sorts (top_stack (read_roots index held)))) ≡ true → (depth : ℕ) (sort : Sort) → slice_get sorts depth ≡ Some sort
    → has_sort sort (slice_get (top_stack held) depth) ≡ true
stands index held f sorts is depth sort at =
    sym (of_read index sort (slice_get (top_stack held) depth)) ∙ ap (has_sort sort) (sym (slice_get-map (read_value index) (top_stack held) depth))
    ∙ ap (λ (stack : List Value). has_sort sort (slice_get stack depth)) (sym (reads_stack index held))
    ∙ there sorts (top_stack (read_roots index held)) (found f (taken sorts (top_stack (read_roots index held))) is) depth sort at
