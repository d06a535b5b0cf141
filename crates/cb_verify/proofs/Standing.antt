-- Whether an instruction stands at a place.
use Rattle.std.proofs.Common.{◌≡◌, ◌∙◌, ap, refl, sym, arith, ℕ, suc, ◌+◌, Bool, true, false, ◌||◌, not, List, [], ◌∷◌, Bor, Option, Some, None, length}
use Rattle.std.specs.Prelude.{cond, nat_lt, option_and_then, option_copied, option_map, slice_get, ◌==◌}
use Rattle.std.specs.List.{list_any, position, position_or_len}
use Rattle.std.specs.Option.{is_some}
use Rattle.std.proofs.lemmas.Bool.Decides.{nat_tests}
use Rattle.cb_insn.specs.declared.insn.Insn.{Insn}
use Rattle.cb_link.specs.Named.{insn_in}

under : (b : Bool) (place bound : ℕ) → nat_lt place bound ≡ b → nat_lt (suc place) (suc bound) ≡ b
under true place bound is = grind (arith, nat_tests)
under false place bound is = grind (arith, nat_tests)

behind : {X : Type 0} (first : X) (items : List X) (b : Bool) (place : ℕ) → option_and_then (slice_get (first ∷ items)) (cond b (Some (suc place)) None)
    ≡ option_and_then (slice_get items) (cond b (Some place) None)
behind first items true place = refl
behind first items false place = refl

pub found : {X : Type 0} (test : X → Bool) (items : List X) → is_some (option_and_then (slice_get items) (position test items)) ≡ list_any test items
found test [] = refl
found {X} test (item ∷ items) = go (test item) refl (found test items) where
  go : (passes : Bool) → test item ≡ passes → is_some (option_and_then (slice_get items) (position test items)) ≡ list_any test items
      → is_some (option_and_then (slice_get (item ∷ items)) (position test (item ∷ items))) ≡ (test item || list_any test items)
  go true is rest =
      let first : position_or_len test (item ∷ items) ≡ 0 = ap (λ (passes : Bool). cond (not passes) (1 + position_or_len test items) 0) is in
      ap (λ (place : ℕ). is_some (option_and_then (slice_get (item ∷ items)) (cond (nat_lt place (length (item ∷ items))) (Some place) None))) first
      ∙ ap (λ (low : Bool). is_some (option_and_then (slice_get (item ∷ items)) (cond low (Some 0) None))) (let low : nat_lt 0 (length (item ∷ items)) ≡ true = grind (arith, nat_tests) in low)
      ∙ sym (ap (λ (passes : Bool). passes || list_any test items) is)
  go false is rest =
      let before : ℕ = position_or_len test items in
      let next : position_or_len test (item ∷ items) ≡ suc before =
      ap (λ (passes : Bool). cond (not passes) (1 + position_or_len test items) 0) is ∙ (let at : 1 + position_or_len test items ≡ suc (position_or_len test items) = omega arith in at) in
      let test_is : nat_lt (suc before) (suc (length items)) ≡ nat_lt before (length items) = under (nat_lt before (length items)) before (length items) refl in
      let long : length (item ∷ items) ≡ suc (length items) = omega arith in
      ap (λ (place : ℕ). is_some (option_and_then (slice_get (item ∷ items)) (cond (nat_lt place (length (item ∷ items))) (Some place) None))) next
      ∙ ap (λ (bound : ℕ). is_some (option_and_then (slice_get (item ∷ items)) (cond (nat_lt (suc before) bound) (Some (suc before)) None))) long
      ∙ ap (λ (low : Bool). is_some (option_and_then (slice_get (item ∷ items)) (cond low (Some (suc before)) None))) test_is
      ∙ ap is_some (behind item items (nat_lt before (length items)) before)
      ∙ rest
      ∙ sym (ap (λ (passes : Bool). passes || list_any test items) is)

mapped : {X Y : Type 0} (part : X → Y) (item : Option X) → is_some (option_map part item) ≡ is_some item
mapped part None = refl
mapped part (Some item) = refl

pub copied : (insn : Option (Bor Insn)) → is_some (option_copied insn) ≡ is_some insn
copied None = refl
copied (Some insn) = refl

pub stands : (code : List (ℕ × Insn)) (pc : ℕ) → is_some (insn_in code pc) ≡ list_any (λ placed. placed.0 == pc) code
stands code pc =
    mapped (λ (placed : ℕ × Insn). placed.1) (option_and_then (slice_get code) (position (λ (placed : ℕ × Insn). placed.0 == pc) code))
    ∙ found (λ (placed : ℕ × Insn). placed.0 == pc) code
