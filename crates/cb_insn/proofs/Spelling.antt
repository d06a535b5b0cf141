-- The parts of a switch and the bytes that spell them.
use Rattle.std.proofs.Common.{◌≡◌, ℕ, zero, suc, ◌+◌, ◌*◌, ◌≤◌, ℤ, pos, ◌+ℤ◌, ◌<ℤ◌, Bool, true, false, ◌||◌, not, List, [], ◌∷◌, ◌++◌, length, take, drop, map, refl, sym, ◌∙◌, ap, subst, arith, FitsSigned, length-drop, length-append, replicate}
use Rattle.std.proofs.lemmas.List.{drop-drop, length-replicate}
use Rattle.std.specs.Int.{w32}
use Rattle.std.specs.List.{AllByRecursion, flat_map}
use Rattle.std.specs.Prelude.{int_lt}
use Rattle.std.proofs.lemmas.Int.{ints}
use Rattle.cb_insn.specs.declared.insn.Pair.{Pair}
use Rattle.cb_insn.specs.Grammar.{s4, offset, KeysRise, IsPadding}
use Rattle.cb_insn.specs.Faults.{s4_at, count_of, padding_length, numbers_at, keys_fall, targets_in}
use Rattle.cb_insn.specs.Inner.{target_of, pairs_of}
use Rattle.std.proofs.Math.Seq.{take-add}
use Rattle.cb_insn.proofs.NumberBytes.{IsBytes, drop_bytes, s4_front, s4_back, s4_fits, two_back}

pub cons_same : {X : Type 0} (x y : X) (xs ys : List X) → x ≡ y → xs ≡ ys → x ∷ xs ≡ y ∷ ys
cons_same x y xs ys first others = cc

-- an offset leads to its target
pub offset_back : (pc target : ℕ) → pos pc +ℤ offset pc target ≡ pos target
offset_back pc target = omega (arith, ints)

pub target_back : (pc target : ℕ) → target_of pc (offset pc target) ≡ target
target_back pc target = ap count_of (offset_back pc target)

-- and back
pub offset_of_target : (pc : ℕ) (z : ℤ) (target : ℕ) → pos pc +ℤ z ≡ pos target → offset pc (target_of pc z) ≡ z
offset_of_target pc z target is = let same : target_of pc z ≡ target = ap count_of is in ap (offset pc) same ∙ back where
  back : offset pc target ≡ z
  back = omega (arith, ints)

-- padding has the length that its place tells
pub padding_is : (pc : ℕ) (padding : List ℕ) → IsPadding pc padding → length padding ≡ padding_length pc
padding_is pc padding is = omega (arith, is.short, is.aligned)

pub is_padding : (pc : ℕ) (padding : List ℕ) → length padding ≡ padding_length pc → IsPadding pc padding
is_padding pc padding is = record { short = omega arith; aligned = omega arith }

-- zeros are padding, and have it
pub zeros : (pc : ℕ) → IsPadding pc (replicate (padding_length pc) 0)
zeros pc = is_padding pc (replicate (padding_length pc) 0) (length-replicate (padding_length pc) 0)

pub zeros_before : (pc : ℕ) (switch : List ℕ) → length (replicate (padding_length pc) 0 ++ switch) ≡ padding_length pc + length switch
zeros_before pc switch = length-append (replicate (padding_length pc) 0) switch ∙ ap (λ n. n + length switch) (length-replicate (padding_length pc) 0)

-- the offsets of a table
abbrev pub offset_bytes : ℕ → List ℕ → List ℕ
offset_bytes pc targets = flat_map (λ target. s4 (offset pc target)) targets

pub offsets_front : (pc : ℕ) (targets rest : List ℕ) → AllByRecursion (λ target. FitsSigned w32 (offset pc target)) targets → numbers_at 4 (length targets) (offset_bytes pc targets ++ rest) ≡ map (offset pc) targets
offsets_front pc [] rest fit = refl
offsets_front pc (target ∷ targets) rest (fits, fit) = cons_same _ _ _ _ (s4_front (offset pc target) (offset_bytes pc targets ++ rest) fits) (offsets_front pc targets rest fit)

pub offsets_length : (pc : ℕ) (targets : List ℕ) → length (offset_bytes pc targets) ≡ 4 * length targets
offsets_length pc [] = refl
offsets_length pc (target ∷ targets) = omega (arith, offsets_length pc targets)

-- the pairs of a lookup
abbrev pub pair_bytes : ℕ → List Pair → List ℕ
pair_bytes pc pairs = flat_map (λ pair. s4 pair.key ++ s4 (offset pc pair.target)) pairs

pub pairs_length : (pc : ℕ) (pairs : List Pair) → length (pair_bytes pc pairs) ≡ 8 * length pairs
pairs_length pc [] = refl
pairs_length pc (pair ∷ pairs) = omega (arith, pairs_length pc pairs)

pub pairs_front : (pc : ℕ) (pairs : List Pair) (rest : List ℕ) → AllByRecursion (λ pair. FitsSigned w32 pair.key) pairs → AllByRecursion (λ pair. FitsSigned w32 (offset pc pair.target)) pairs → pairs_of pc (length pairs) (pair_bytes pc pairs ++ rest) ≡ pairs
pairs_front pc [] rest keys fit = refl
pairs_front pc (pair ∷ pairs) rest (key, keys) (fits, fit) =
    let is_key = s4_front pair.key (s4 (offset pc pair.target) ++ pair_bytes pc pairs ++ rest) key in
    let is_target = ap (target_of pc) (s4_front (offset pc pair.target) (pair_bytes pc pairs ++ rest) fits) ∙ target_back pc pair.target in
    cons_same _ pair _ pairs (ap (λ k. record { key = k; target = target_of pc (s4_at (s4 (offset pc pair.target) ++ pair_bytes pc pairs ++ rest)) }) is_key ∙ ap (λ t. record { key = pair.key; target = t }) is_target) (pairs_front pc pairs rest keys fit)

pub keys_front : (pc : ℕ) (pairs : List Pair) (rest : List ℕ) → AllByRecursion (λ pair. FitsSigned w32 pair.key) pairs → numbers_at 8 (length pairs) (pair_bytes pc pairs ++ rest) ≡ map (λ pair. pair.key) pairs
keys_front pc [] rest keys = refl
keys_front pc (pair ∷ pairs) rest (key, keys) = cons_same _ _ _ _ (s4_front pair.key (s4 (offset pc pair.target) ++ pair_bytes pc pairs ++ rest) key) (keys_front pc pairs rest keys)

pub pair_offsets_front : (pc : ℕ) (pairs : List Pair) (rest : List ℕ) → AllByRecursion (λ pair. FitsSigned w32 (offset pc pair.target)) pairs → numbers_at 8 (length pairs) (drop 4 (pair_bytes pc pairs ++ rest)) ≡ map (λ pair. offset pc pair.target) pairs
pair_offsets_front pc [] rest fit = refl
pair_offsets_front pc (pair ∷ pairs) rest (fits, fit) = cons_same _ _ _ _ (s4_front (offset pc pair.target) (pair_bytes pc pairs ++ rest) fits) (pair_offsets_front pc pairs rest fit)

-- keys that rise don't fall
pub rise_front : (pairs : List Pair) → KeysRise pairs → keys_fall (map (λ pair. pair.key) pairs) ≡ false
rise_front [] rise = refl
rise_front (one ∷ []) rise = refl
rise_front (one ∷ next ∷ pairs) (below, rise) =
    let tested : int_lt one.key next.key ≡ true = grind (arith, ints) in
    ap (λ test. not test || keys_fall (map (λ pair. pair.key) (next ∷ pairs))) tested ∙ rise_front (next ∷ pairs) rise

-- a target isn't before the start of the code
abbrev pub IsWithin : ℤ → Type 0
IsWithin target = (place : ℕ) × (target ≡ pos place)

-- the bytes of offsets with such targets are spelled by these targets
pub offsets_spelled : (pc count : ℕ) (bytes : List ℕ) → IsBytes bytes → 4 * count ≤ length bytes → AllByRecursion IsWithin (targets_in pc (numbers_at 4 count bytes)) → offset_bytes pc (map (target_of pc) (numbers_at 4 count bytes)) ≡ take (4 * count) bytes
offsets_spelled pc zero bytes are long within = refl
offsets_spelled pc (suc count) bytes are long ((target, is), within) =
    let first : s4 (offset pc (target_of pc (s4_at bytes))) ≡ take 4 bytes = ap s4 (offset_of_target pc (s4_at bytes) target is) ∙ s4_back bytes are (omega arith) in
    let others = offsets_spelled pc count (drop 4 bytes) (drop_bytes 4 bytes are) (omega (arith, length-drop 4 bytes)) within in
    let size : 4 * suc count ≡ 4 + 4 * count = omega arith in
    ap (λ b. b ++ offset_bytes pc (map (target_of pc) (numbers_at 4 count (drop 4 bytes)))) first ∙ ap (λ b. take 4 bytes ++ b) others ∙ sym (take-add 4 (4 * count) bytes) ∙ ap (λ n. take n bytes) (sym size)

pub offsets_fit : (pc count : ℕ) (bytes : List ℕ) → IsBytes bytes → AllByRecursion IsWithin (targets_in pc (numbers_at 4 count bytes)) → AllByRecursion (λ target. FitsSigned w32 (offset pc target)) (map (target_of pc) (numbers_at 4 count bytes))
offsets_fit pc zero bytes are within = tt
offsets_fit pc (suc count) bytes are ((target, is), within) =
    (subst (FitsSigned w32) (sym (offset_of_target pc (s4_at bytes) target is)) (s4_fits bytes are), offsets_fit pc count (drop 4 bytes) (drop_bytes 4 bytes are) within)

pub numbers_count : (step count : ℕ) (bytes : List ℕ) → length (numbers_at step count bytes) ≡ count
numbers_count step zero bytes = refl
numbers_count step (suc count) bytes = ap suc (numbers_count step count (drop step bytes))

-- and those of pairs
behind_pair : (bytes : List ℕ) → drop 8 (drop 4 bytes) ≡ drop 4 (drop 8 bytes)
behind_pair bytes = drop-drop 8 4 bytes ∙ sym (drop-drop 4 8 bytes)

pub pairs_spelled : (pc count : ℕ) (bytes : List ℕ) → IsBytes bytes → 8 * count ≤ length bytes → AllByRecursion IsWithin (targets_in pc (numbers_at 8 count (drop 4 bytes))) → pair_bytes pc (pairs_of pc count bytes) ≡ take (8 * count) bytes
pairs_spelled pc zero bytes are long within = refl
pairs_spelled pc (suc count) bytes are long ((target, is), within) =
    let first : s4 (s4_at bytes) ++ s4 (offset pc (target_of pc (s4_at (drop 4 bytes)))) ≡ take 8 bytes = ap (λ z. s4 (s4_at bytes) ++ s4 z) (offset_of_target pc (s4_at (drop 4 bytes)) target is) ∙ two_back bytes are (omega arith) in
    let others = pairs_spelled pc count (drop 8 bytes) (drop_bytes 8 bytes are) (omega (arith, length-drop 8 bytes)) (subst (λ b. AllByRecursion IsWithin (targets_in pc (numbers_at 8 count b))) (behind_pair bytes) within) in
    let size : 8 * suc count ≡ 8 + 8 * count = omega arith in
    ap (λ b. b ++ pair_bytes pc (pairs_of pc count (drop 8 bytes))) first ∙ ap (λ b. take 8 bytes ++ b) others ∙ sym (take-add 8 (8 * count) bytes) ∙ ap (λ n. take n bytes) (sym size)

pub pairs_fit : (pc count : ℕ) (bytes : List ℕ) → IsBytes bytes → AllByRecursion IsWithin (targets_in pc (numbers_at 8 count (drop 4 bytes))) → AllByRecursion (λ pair. FitsSigned w32 (offset pc pair.target)) (pairs_of pc count bytes)
pairs_fit pc zero bytes are within = tt
pairs_fit pc (suc count) bytes are ((target, is), within) =
    (subst (FitsSigned w32) (sym (offset_of_target pc (s4_at (drop 4 bytes)) target is)) (s4_fits (drop 4 bytes) (drop_bytes 4 bytes are)), pairs_fit pc count (drop 8 bytes) (drop_bytes 8 bytes are) (subst (λ b. AllByRecursion IsWithin (targets_in pc (numbers_at 8 count b))) (behind_pair bytes) within))

pub keys_fit : (pc count : ℕ) (bytes : List ℕ) → IsBytes bytes → AllByRecursion (λ pair. FitsSigned w32 pair.key) (pairs_of pc count bytes)
keys_fit pc zero bytes are = tt
keys_fit pc (suc count) bytes are = (s4_fits bytes are, keys_fit pc count (drop 8 bytes) (drop_bytes 8 bytes are))

pub pairs_count : (pc count : ℕ) (bytes : List ℕ) → length (pairs_of pc count bytes) ≡ count
pairs_count pc zero bytes = refl
pairs_count pc (suc count) bytes = ap suc (pairs_count pc count (drop 8 bytes))

-- keys that don't fall rise
below_is : (a b : ℤ) → int_lt a b ≡ true → a <ℤ b
below_is a b is = omega (arith, ints, is)

pub rise_back : (pc count : ℕ) (bytes : List ℕ) → keys_fall (numbers_at 8 count bytes) ≡ false → KeysRise (pairs_of pc count bytes)
rise_back pc zero bytes rises = tt
rise_back pc (suc zero) bytes rises = tt
rise_back pc (suc (suc count)) bytes rises = go (int_lt (s4_at bytes) (s4_at (drop 8 bytes))) refl rises (rise_back pc (suc count) (drop 8 bytes)) where
  go : (below : Bool) → int_lt (s4_at bytes) (s4_at (drop 8 bytes)) ≡ below → (not below || keys_fall (numbers_at 8 (suc count) (drop 8 bytes))) ≡ false → (keys_fall (numbers_at 8 (suc count) (drop 8 bytes)) ≡ false → KeysRise (pairs_of pc (suc count) (drop 8 bytes))) → (s4_at bytes <ℤ s4_at (drop 8 bytes)) × KeysRise (pairs_of pc (suc count) (drop 8 bytes))
  go true is rises more = (below_is (s4_at bytes) (s4_at (drop 8 bytes)) is, more rises)
  go false is rises more = cc
