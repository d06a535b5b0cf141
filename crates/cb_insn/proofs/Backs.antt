-- What is read of an operand is spelled by its bytes.
use Rattle.std.proofs.Common.{◌≡◌, ℕ, ◌+◌, ◌*◌, ◌<◌, ◌≤◌, ◌^◌, ℤ, pos, negsuc, ◌≤ℤ◌, ◌+ℤ◌, ◌-ℤ◌, Bool, true, false, ◌||◌, not, List, [], ◌∷◌, ◌++◌, length, take, drop, map, nat_lt, nat_eq, cond, refl, sym, ◌∙◌, ap, subst, arith, rules, FitsSigned, length-drop}
use Rattle.std.specs.Int.{w8, w16, w32, cast_signed, cast_unsigned}
use Rattle.std.specs.Prelude.{int_lt}
use Rattle.std.specs.List.{AllByRecursion}
use Rattle.std.proofs.Math.Seq.{take-add}
use Rattle.std.proofs.lemmas.List.{drop-drop, length-map, length-take-le}
use Rattle.std.proofs.lemmas.Int.{of_z-to_z, ints}
use Rattle.std.proofs.lemmas.Bool.Decides.{nat_tests}
use Rattle.cb_insn.specs.declared.form.Form.{Form}
use Rattle.cb_insn.specs.declared.form.Form.TheVariants as forms
use Rattle.cb_insn.specs.declared.insn.Pair.{Pair}
use Rattle.cb_insn.specs.Grammar.{u2, s2, s4, offset, table_bytes, lookup_bytes, KeysRise, IsPadding, SpellsOperand}
use Rattle.cb_insn.specs.Faults.{u2_at, s2_at, s4_at, count_of, padding_length, table_low, table_high, table_count, table_length, lookup_number, lookup_count, lookup_length, operand_length, is_bad, numbers_at, keys_fall, targets_in, table_offsets, lookup_offsets}
use Rattle.cb_insn.specs.Inner.{target_of, pairs_of, operand_of, operand_targets}
use Rattle.cb_insn.proofs.NumberBytes.{IsBytes, drop_bytes, u2_below, u2_back, s2_back, s2_fits, s4_back, s4_fits, two_back}
use Rattle.cb_insn.proofs.Spelling.{IsWithin, offset_of_target, offset_bytes, offsets_spelled, offsets_fit, numbers_count, pair_bytes, pairs_spelled, pairs_fit, keys_fit, pairs_count, rise_back, is_padding}

-- the sign of a byte
s1_fits : (byte : ℕ) → byte < 256 → FitsSigned w8 (cast_signed w8 byte)
s1_fits byte below = search (rules, ints)

s1_back : (byte : ℕ) → byte < 256 → cast_unsigned w8 (cast_signed w8 byte) ≡ byte
s1_back byte below = of_z-to_z w8 byte below

-- the switch behind its padding
switch_there : (padding size : ℕ) (behind : List ℕ) → padding + size ≤ length behind → size ≤ length (drop padding behind)
switch_there padding size behind there = omega (arith, length-drop padding behind)

padding_there : (pc size : ℕ) (behind : List ℕ) → padding_length pc + size ≤ length behind → IsPadding pc (take (padding_length pc) behind)
padding_there pc size behind there = is_padding pc (take (padding_length pc) behind) (length-take-le (padding_length pc) behind (omega arith))

-- what tests tell
both_false : (a b : Bool) → (a || b) ≡ false → (a ≡ false) × (b ≡ false)
both_false true b is = cc
both_false false b is = (refl, is)

at_least : (m n : ℕ) → nat_lt n m ≡ false → m ≤ n
at_least m n is = grind (arith, nat_tests)

some_of : (n : ℕ) → nat_eq n 0 ≡ false → 1 ≤ n
some_of n is = grind (arith, nat_tests)

zero_of : (n : ℕ) → not (nat_eq n 0) ≡ false → n ≡ 0
zero_of n is = by_test (nat_eq n 0) refl is where
  by_test : (zero_is : Bool) → nat_eq n 0 ≡ zero_is → not zero_is ≡ false → n ≡ 0
  by_test true tested is = grind (arith, nat_tests)
  by_test false tested is = cc

-- a length that tells more than its least
all_told : (n least size : ℕ) → cond (nat_lt n least) least size ≤ n → (size ≤ n) × (cond (nat_lt n least) least size ≡ size)
all_told n least size there = by_test (nat_lt n least) refl there where
  by_test : (short : Bool) → nat_lt n least ≡ short → cond (nat_lt n least) least size ≤ n → (size ≤ n) × (cond (nat_lt n least) least size ≡ size)
  by_test true is there = absurd (grind (arith, nat_tests))
  by_test false is there = (subst (λ test. cond test least size ≤ n) is there, ap (λ test. cond test least size) is)

counted_is : (z : ℤ) → int_lt z (pos 0) ≡ false → pos (count_of z) ≡ z
counted_is (pos n) is = refl
counted_is (negsuc n) is = cc

not_negative : (low high : ℤ) → int_lt high low ≡ false → int_lt ((high +ℤ pos 1) -ℤ low) (pos 0) ≡ false
not_negative low high first = grind (arith, ints)

at_most : (low high : ℤ) → int_lt high low ≡ false → low ≤ℤ high
at_most low high first = omega (arith, ints, first)

-- the bounds of a table that isn't bad have so many between them, and one at least
span_back : (low high : ℤ) → int_lt high low ≡ false → (low +ℤ pos (count_of ((high +ℤ pos 1) -ℤ low))) -ℤ pos 1 ≡ high
span_back low high first =
    let z = (high +ℤ pos 1) -ℤ low in
    let counted : pos (count_of z) ≡ z = counted_is z (not_negative low high first) in
    omega (arith, ints)

span_some : (low high : ℤ) → int_lt high low ≡ false → 0 < count_of ((high +ℤ pos 1) -ℤ low)
span_some low high first =
    let z = (high +ℤ pos 1) -ℤ low in
    let counted : pos (count_of z) ≡ z = counted_is z (not_negative low high first) in
    let above : low ≤ℤ high = at_most low high first in
    omega (arith, ints)

-- three numbers of four bytes at the front
three_back : (switch : List ℕ) → IsBytes switch → 12 ≤ length switch → s4 (s4_at switch) ++ s4 (s4_at (drop 4 switch)) ++ s4 (s4_at (drop 8 switch)) ≡ take 12 switch
three_back switch are long =
    ap (λ b. b ++ s4 (s4_at (drop 8 switch))) (two_back switch are (omega arith))
    ∙ ap (λ b. take 8 switch ++ b) (s4_back (drop 8 switch) (drop_bytes 8 switch are) (omega (arith, length-drop 8 switch)))
    ∙ sym (take-add 8 4 switch)

-- what is read of a table
abbrev table_targets : ℕ → List ℕ → List ℕ
table_targets pc switch = map (target_of pc) (numbers_at 4 (table_count switch) (drop 12 switch))

table_backs : (pc : ℕ) (switch : List ℕ) → IsBytes switch → table_length switch ≤ length switch → int_lt (table_high switch) (table_low switch) ≡ false → AllByRecursion IsWithin (targets_in pc (table_offsets switch))
    → (take (table_length switch) switch ≡ table_bytes pc (target_of pc (s4_at switch)) (table_low switch) (table_targets pc switch))
    × (0 < length (table_targets pc switch)) × FitsSigned w32 (table_low switch) × FitsSigned w32 ((table_low switch +ℤ pos (length (table_targets pc switch))) -ℤ pos 1)
    × FitsSigned w32 (offset pc (target_of pc (s4_at switch))) × AllByRecursion (λ target. FitsSigned w32 (offset pc target)) (table_targets pc switch)
table_backs pc switch are there good ((target, is), within) = (
  sym spelled,
  omega (arith, count, span_some (table_low switch) (table_high switch) good),
  s4_fits (drop 4 switch) (drop_bytes 4 switch are),
  subst (FitsSigned w32) (sym high) (s4_fits (drop 8 switch) (drop_bytes 8 switch are)),
  subst (FitsSigned w32) (sym default) (s4_fits switch are),
  offsets_fit pc (table_count switch) (drop 12 switch) (drop_bytes 12 switch are) within,
)
  where
    long : (12 + 4 * table_count switch ≤ length switch) × (table_length switch ≡ 12 + 4 * table_count switch)
    long = all_told (length switch) 12 (12 + 4 * table_count switch) there

    count : length (table_targets pc switch) ≡ table_count switch
    count = length-map (numbers_at 4 (table_count switch) (drop 12 switch)) (target_of pc) ∙ numbers_count 4 (table_count switch) (drop 12 switch)

    high : (table_low switch +ℤ pos (length (table_targets pc switch))) -ℤ pos 1 ≡ table_high switch
    high = ap (λ n. (table_low switch +ℤ pos n) -ℤ pos 1) count ∙ span_back (table_low switch) (table_high switch) good

    default : offset pc (target_of pc (s4_at switch)) ≡ s4_at switch
    default = offset_of_target pc (s4_at switch) target is

    others : offset_bytes pc (table_targets pc switch) ≡ take (4 * table_count switch) (drop 12 switch)
    others = offsets_spelled pc (table_count switch) (drop 12 switch) (drop_bytes 12 switch are) (omega (arith, long.0, length-drop 12 switch)) within

    spelled : table_bytes pc (target_of pc (s4_at switch)) (table_low switch) (table_targets pc switch) ≡ take (table_length switch) switch
    spelled = ap (λ z. s4 z ++ s4 (table_low switch) ++ s4 ((table_low switch +ℤ pos (length (table_targets pc switch))) -ℤ pos 1) ++ offset_bytes pc (table_targets pc switch)) default
        ∙ ap (λ z. s4 (s4_at switch) ++ s4 (table_low switch) ++ s4 z ++ offset_bytes pc (table_targets pc switch)) high
        ∙ ap (λ b. b ++ offset_bytes pc (table_targets pc switch)) (three_back switch are (omega (arith, long.0)))
        ∙ ap (λ b. take 12 switch ++ b) others
        ∙ sym (take-add 12 (4 * table_count switch) switch)
        ∙ ap (λ n. take n switch) (sym long.1)

-- and of a lookup
abbrev lookup_pairs : ℕ → List ℕ → List Pair
lookup_pairs pc switch = pairs_of pc (lookup_count switch) (drop 8 switch)

lookup_backs : (pc : ℕ) (switch : List ℕ) → IsBytes switch → lookup_length switch ≤ length switch → (int_lt (lookup_number switch) (pos 0) || keys_fall (numbers_at 8 (lookup_count switch) (drop 8 switch))) ≡ false → AllByRecursion IsWithin (targets_in pc (lookup_offsets switch))
    → (take (lookup_length switch) switch ≡ lookup_bytes pc (target_of pc (s4_at switch)) (lookup_pairs pc switch))
    × (length (lookup_pairs pc switch) < 2 ^ 31) × KeysRise (lookup_pairs pc switch) × AllByRecursion (λ pair. FitsSigned w32 pair.key) (lookup_pairs pc switch)
    × FitsSigned w32 (offset pc (target_of pc (s4_at switch))) × AllByRecursion (λ pair. FitsSigned w32 (offset pc pair.target)) (lookup_pairs pc switch)
lookup_backs pc switch are there good ((target, is), within) = (
  sym spelled,
  (subst (FitsSigned w32) (sym number) (s4_fits (drop 4 switch) (drop_bytes 4 switch are))).sfits,
  rise_back pc (lookup_count switch) (drop 8 switch) parts.1,
  keys_fit pc (lookup_count switch) (drop 8 switch) (drop_bytes 8 switch are),
  subst (FitsSigned w32) (sym default) (s4_fits switch are),
  pairs_fit pc (lookup_count switch) (drop 8 switch) (drop_bytes 8 switch are) inside,
)
  where
    long : (8 + 8 * lookup_count switch ≤ length switch) × (lookup_length switch ≡ 8 + 8 * lookup_count switch)
    long = all_told (length switch) 8 (8 + 8 * lookup_count switch) there

    parts : (int_lt (lookup_number switch) (pos 0) ≡ false) × (keys_fall (numbers_at 8 (lookup_count switch) (drop 8 switch)) ≡ false)
    parts = both_false (int_lt (lookup_number switch) (pos 0)) (keys_fall (numbers_at 8 (lookup_count switch) (drop 8 switch))) good

    inside : AllByRecursion IsWithin (targets_in pc (numbers_at 8 (lookup_count switch) (drop 4 (drop 8 switch))))
    inside = subst (λ b. AllByRecursion IsWithin (targets_in pc (numbers_at 8 (lookup_count switch) b))) (sym (drop-drop 4 8 switch)) within

    count : length (lookup_pairs pc switch) ≡ lookup_count switch
    count = pairs_count pc (lookup_count switch) (drop 8 switch)

    default : offset pc (target_of pc (s4_at switch)) ≡ s4_at switch
    default = offset_of_target pc (s4_at switch) target is

    number : pos (length (lookup_pairs pc switch)) ≡ lookup_number switch
    number = ap pos count ∙ counted_is (lookup_number switch) parts.0

    others : pair_bytes pc (lookup_pairs pc switch) ≡ take (8 * lookup_count switch) (drop 8 switch)
    others = pairs_spelled pc (lookup_count switch) (drop 8 switch) (drop_bytes 8 switch are) (omega (arith, long.0, length-drop 8 switch)) inside

    spelled : lookup_bytes pc (target_of pc (s4_at switch)) (lookup_pairs pc switch) ≡ take (lookup_length switch) switch
    spelled = ap (λ z. s4 z ++ s4 (pos (length (lookup_pairs pc switch))) ++ pair_bytes pc (lookup_pairs pc switch)) default
        ∙ ap (λ z. s4 (s4_at switch) ++ s4 z ++ pair_bytes pc (lookup_pairs pc switch)) number
        ∙ ap (λ b. b ++ pair_bytes pc (lookup_pairs pc switch)) (two_back switch are (omega (arith, long.0)))
        ∙ ap (λ b. take 8 switch ++ b) others
        ∙ sym (take-add 8 (8 * lookup_count switch) switch)
        ∙ ap (λ n. take n switch) (sym long.1)

pub backs : (pc : ℕ) (form : Form) (behind : List ℕ) → IsBytes behind → operand_length pc form behind ≤ length behind → is_bad pc form behind ≡ false → AllByRecursion IsWithin (operand_targets pc form behind) → SpellsOperand pc form (operand_of pc form behind) (take (operand_length pc form behind) behind)
backs pc forms.Plain behind are there good within = refl
backs pc forms.Byte (one ∷ behind) are there good within = (s1_fits one (are 0), ap (λ b. b ∷ []) (sym (s1_back one (are 0))))
backs pc forms.Short behind are there good within = (s2_fits behind are, sym (s2_back behind are there))
backs pc forms.PoolByte (one ∷ behind) are there good within = (are 0, refl)
backs pc forms.Pool behind are there good within = (u2_below behind are, sym (u2_back behind are there))
backs pc forms.Local (one ∷ behind) are there good within = (are 0, refl)
backs pc forms.WideLocal behind are there good within = (u2_below behind are, sym (u2_back behind are there))
backs pc forms.Increase (one ∷ two ∷ behind) are there good within = (are 0, s1_fits two (are 1), ap (λ b. one ∷ b ∷ []) (sym (s1_back two (are 1))))
backs pc forms.WideIncrease behind are there good within =
    (u2_below behind are, s2_fits (drop 2 behind) (drop_bytes 2 behind are), take-add 2 2 behind ∙ ap (λ b. b ++ take 2 (drop 2 behind)) (sym (u2_back behind are (omega arith))) ∙ ap (λ b. u2 (u2_at behind) ++ b) (sym (s2_back (drop 2 behind) (drop_bytes 2 behind are) (omega (arith, length-drop 2 behind)))))
backs pc forms.Branch behind are there good ((target, is), within) =
    let same = offset_of_target pc (s2_at behind) target is in
    (subst (FitsSigned w16) (sym same) (s2_fits behind are), sym (ap s2 same ∙ s2_back behind are there))
backs pc forms.LongBranch behind are there good ((target, is), within) =
    let same = offset_of_target pc (s4_at behind) target is in
    (subst (FitsSigned w32) (sym same) (s4_fits behind are), sym (ap s4 same ∙ s4_back behind are there))
backs pc forms.ArrayCode (one ∷ behind) are there good within =
    let parts = both_false (nat_lt one 4) (nat_lt 11 one) good in
    (at_least 4 one parts.0, at_least one 11 parts.1, refl)
backs pc forms.Dimensions (one ∷ two ∷ three ∷ behind) are there good within =
    (u2_below (one ∷ two ∷ three ∷ behind) are, some_of three good, are 2, ap (λ b. b ++ three ∷ []) (sym (u2_back (one ∷ two ∷ three ∷ behind) are (omega arith))))
backs pc forms.Interface (one ∷ two ∷ three ∷ four ∷ behind) are there good within =
    let parts = both_false (nat_eq three 0) (not (nat_eq four 0)) good in
    (u2_below (one ∷ two ∷ three ∷ four ∷ behind) are, some_of three parts.0, are 2, ap (λ b. b ++ three ∷ four ∷ []) (sym (u2_back (one ∷ two ∷ three ∷ four ∷ behind) are (omega arith))) ∙ ap (λ b. u2 (u2_at (one ∷ two ∷ three ∷ four ∷ behind)) ++ three ∷ b ∷ []) (zero_of four parts.1))
backs pc forms.Dynamic (one ∷ two ∷ three ∷ four ∷ behind) are there good within =
    let parts = both_false (not (nat_eq three 0)) (not (nat_eq four 0)) good in (
      u2_below (one ∷ two ∷ three ∷ four ∷ behind) are,
      ap (λ b. b ++ three ∷ four ∷ []) (sym (u2_back (one ∷ two ∷ three ∷ four ∷ behind) are (omega arith)))
          ∙ ap (λ b. u2 (u2_at (one ∷ two ∷ three ∷ four ∷ behind)) ++ b ∷ four ∷ []) (zero_of three parts.0) ∙ ap (λ b. u2 (u2_at (one ∷ two ∷ three ∷ four ∷ behind)) ++ 0 ∷ b ∷ []) (zero_of four parts.1),
    )
backs pc forms.Table behind are there good within =
    let switch = drop (padding_length pc) behind in
    let parts = table_backs pc switch (drop_bytes (padding_length pc) behind are) (switch_there (padding_length pc) (table_length switch) behind there) good within in
    (take (padding_length pc) behind, padding_there pc (table_length switch) behind there, take-add (padding_length pc) (table_length switch) behind ∙ ap (λ b. take (padding_length pc) behind ++ b) parts.0, parts.1, parts.2, parts.3, parts.4, parts.5)
backs pc forms.Lookup behind are there good within =
    let switch = drop (padding_length pc) behind in
    let parts = lookup_backs pc switch (drop_bytes (padding_length pc) behind are) (switch_there (padding_length pc) (lookup_length switch) behind there) good within in
    (take (padding_length pc) behind, padding_there pc (lookup_length switch) behind there, take-add (padding_length pc) (lookup_length switch) behind ∙ ap (λ b. take (padding_length pc) behind ++ b) parts.0, parts.1, parts.2, parts.3, parts.4, parts.5)
backs pc form behind are there good within = absurd (omega arith)
