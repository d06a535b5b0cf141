-- An operand is read again from the front of what spells it.
use Rattle.std.proofs.Common.{◌≡◌, ℕ, ◌+◌, ◌*◌, ◌<◌, ◌≤◌, ◌^◌, ℤ, pos, ◌+ℤ◌, ◌-ℤ◌, false, ◌||◌, List, [], ◌∷◌, ◌++◌, length, drop, map, nat_lt, nat_eq, cond, refl, sym, ◌∙◌, ap, subst, arith, FitsSigned, length-append, append_assoc}
use Rattle.std.specs.Int.{w8, w32}
use Rattle.std.specs.Prelude.{int_lt}
use Rattle.std.specs.List.{AllByRecursion}
use Rattle.std.proofs.lemmas.Int.{to_z-of_z, ints}
use Rattle.std.proofs.lemmas.Bool.Decides.{nat_tests}
use Rattle.std.proofs.lemmas.List.{drop_at, drop-drop}
use Rattle.cb_insn.specs.declared.form.Form.{Form}
use Rattle.cb_insn.specs.declared.form.Form.TheVariants as forms
use Rattle.cb_insn.specs.declared.insn.Pair.{Pair}
use Rattle.cb_insn.specs.declared.insn.Operand.{Operand}
use Rattle.cb_insn.specs.declared.insn.Operand.TheVariants.{Nothing, Number, Pool, Local, Increase, Branch, ArrayCode, Dimensions, Interface, Table, Lookup}
use Rattle.cb_insn.specs.Grammar.{s2, offset, table_bytes, lookup_bytes, KeysRise, IsPadding, SpellsOperand, targets_of}
use Rattle.cb_insn.specs.Faults.{s2_at, s4_at, count_of, padding_length, table_low, table_high, table_count, table_length, lookup_number, lookup_count, lookup_length, operand_length, is_bad, numbers_at, keys_fall, targets_in, table_offsets, lookup_offsets}
use Rattle.cb_insn.specs.Inner.{target_of, pairs_of, operand_of, operand_targets, table_of, lookup_of}
use Rattle.cb_insn.proofs.NumberBytes.{u2_front, s2_front, s4_front}
use Rattle.cb_insn.proofs.Spelling.{cons_same, offset_back, target_back, padding_is, offsets_front, offsets_length, pairs_length, pairs_front, keys_front, pair_offsets_front, rise_front}

-- all of an operand can be read from the front of these bytes
pub record Fronts (pc : ℕ) (form : Form) (operand : Operand) (bytes all : List ℕ) : Type 0 where
  pub size : operand_length pc form all ≡ length bytes
  pub good : is_bad pc form all ≡ false
  pub same : operand_of pc form all ≡ operand
  pub targets : operand_targets pc form all ≡ map pos (targets_of operand)

-- and so can a switch
record TableFronts (pc : ℕ) (default : ℕ) (low : ℤ) (targets bytes switch : List ℕ) : Type 0 where
  size : table_length switch ≡ length bytes
  good : int_lt (table_high switch) (table_low switch) ≡ false
  same : table_of pc switch ≡ Table default low targets
  targets_same : targets_in pc (table_offsets switch) ≡ map pos (default ∷ targets)

record LookupFronts (pc : ℕ) (default : ℕ) (pairs : List Pair) (bytes switch : List ℕ) : Type 0 where
  size : lookup_length switch ≡ length bytes
  good : (int_lt (lookup_number switch) (pos 0) || keys_fall (numbers_at 8 (lookup_count switch) (drop 8 switch))) ≡ false
  same : lookup_of pc switch ≡ Lookup default pairs
  targets_same : targets_in pc (lookup_offsets switch) ≡ map pos (default ∷ map (λ pair. pair.target) pairs)

targets_back : (pc : ℕ) (targets : List ℕ) → map (target_of pc) (map (offset pc) targets) ≡ targets
targets_back pc [] = refl
targets_back pc (target ∷ targets) = cons_same _ _ _ _ (target_back pc target) (targets_back pc targets)

targets_are : (pc : ℕ) (targets : List ℕ) → targets_in pc (map (offset pc) targets) ≡ map pos targets
targets_are pc [] = refl
targets_are pc (target ∷ targets) = cons_same _ _ _ _ (offset_back pc target) (targets_are pc targets)

pair_targets_are : (pc : ℕ) (pairs : List Pair) → targets_in pc (map (λ pair. offset pc pair.target) pairs) ≡ map pos (map (λ pair. pair.target) pairs)
pair_targets_are pc [] = refl
pair_targets_are pc (pair ∷ pairs) = cons_same _ _ _ _ (offset_back pc pair.target) (pair_targets_are pc pairs)

-- the number of targets between two bounds
span_of : (low : ℤ) (count : ℕ) → count_of ((((low +ℤ pos count) -ℤ pos 1) +ℤ pos 1) -ℤ low) ≡ count
span_of low count = let same : (((low +ℤ pos count) -ℤ pos 1) +ℤ pos 1) -ℤ low ≡ pos count = omega (arith, ints) in ap count_of same

high_first : (low : ℤ) (count : ℕ) → 0 < count → int_lt ((low +ℤ pos count) -ℤ pos 1) low ≡ false
high_first low count some = grind (arith, ints)

long_enough : (n least more : ℕ) → least ≤ n → cond (nat_lt n least) least (least + more) ≡ least + more
long_enough n least more enough = let tested : nat_lt n least ≡ false = grind (arith, nat_tests) in ap (λ test. cond test least (least + more)) tested

code_good : (code : ℕ) → 4 ≤ code → code ≤ 11 → (nat_lt code 4 || nat_lt 11 code) ≡ false
code_good code low high = let first : nat_lt code 4 ≡ false = grind (arith, nat_tests) in let second : nat_lt 11 code ≡ false = grind (arith, nat_tests) in ap (λ test. test || nat_lt 11 code) first ∙ second

not_negative : (n : ℕ) → int_lt (pos n) (pos 0) ≡ false
not_negative n = grind (arith, ints)

not_zero : (n : ℕ) → 1 ≤ n → nat_eq n 0 ≡ false
not_zero n some = grind (arith, nat_tests)

table_fronts : (pc default : ℕ) (low : ℤ) (targets rest : List ℕ) → 0 < length targets → FitsSigned w32 low → FitsSigned w32 ((low +ℤ pos (length targets)) -ℤ pos 1) → FitsSigned w32 (offset pc default) → AllByRecursion (λ target. FitsSigned w32 (offset pc target)) targets → TableFronts pc default low targets (table_bytes pc default low targets) (table_bytes pc default low targets ++ rest)
table_fronts pc default low targets rest some low_fits high_fits default_fits fit = record {
  size = long_enough (length switch) 12 (4 * table_count switch) (omega arith) ∙ sized;
  good = ap (int_lt (table_high switch)) is_low ∙ ap (λ z. int_lt z low) is_high ∙ high_first low (length targets) some;
  same = same;
  targets_same = cons_same _ _ _ _ (ap (λ z. pos pc +ℤ z) is_default ∙ offset_back pc default) (ap (targets_in pc) are_offsets ∙ targets_are pc targets);
} where
  switch : List ℕ
  switch = table_bytes pc default low targets ++ rest

  is_default : s4_at switch ≡ offset pc default
  is_default = s4_front (offset pc default) (drop 4 switch) default_fits

  is_low : table_low switch ≡ low
  is_low = s4_front low (drop 8 switch) low_fits

  is_high : table_high switch ≡ (low +ℤ pos (length targets)) -ℤ pos 1
  is_high = s4_front ((low +ℤ pos (length targets)) -ℤ pos 1) (drop 12 switch) high_fits

  is_count : table_count switch ≡ length targets
  is_count = ap (λ z. count_of ((z +ℤ pos 1) -ℤ table_low switch)) is_high ∙ ap (λ z. count_of ((((low +ℤ pos (length targets)) -ℤ pos 1) +ℤ pos 1) -ℤ z)) is_low ∙ span_of low (length targets)

  are_offsets : numbers_at 4 (table_count switch) (drop 12 switch) ≡ map (offset pc) targets
  are_offsets = ap (λ n. numbers_at 4 n (drop 12 switch)) is_count ∙ offsets_front pc targets rest fit

  sized : 12 + 4 * table_count switch ≡ length (table_bytes pc default low targets)
  sized = omega (arith, is_count, offsets_length pc targets)

  same : table_of pc switch ≡ Table default low targets
  same =
      let one : target_of pc (s4_at switch) ≡ default = ap (target_of pc) is_default ∙ target_back pc default in
      let others : map (target_of pc) (numbers_at 4 (table_count switch) (drop 12 switch)) ≡ targets = ap (map (target_of pc)) are_offsets ∙ targets_back pc targets in
      ap (λ d. Table d (table_low switch) (map (target_of pc) (numbers_at 4 (table_count switch) (drop 12 switch)))) one
      ∙ ap (λ l. Table default l (map (target_of pc) (numbers_at 4 (table_count switch) (drop 12 switch)))) is_low
      ∙ ap (Table default low) others

lookup_fronts : (pc default : ℕ) (pairs : List Pair) (rest : List ℕ) → length pairs < 2 ^ 31 → KeysRise pairs → AllByRecursion (λ pair. FitsSigned w32 pair.key) pairs → FitsSigned w32 (offset pc default) → AllByRecursion (λ pair. FitsSigned w32 (offset pc pair.target)) pairs → LookupFronts pc default pairs (lookup_bytes pc default pairs) (lookup_bytes pc default pairs ++ rest)
lookup_fronts pc default pairs rest few rise key_fit default_fits fit = record {
  size = long_enough (length switch) 8 (8 * lookup_count switch) (omega arith) ∙ sized;
  good = good;
  same = same;
  targets_same = cons_same _ _ _ _ (ap (λ z. pos pc +ℤ z) is_default ∙ offset_back pc default) (ap (targets_in pc) are_offsets ∙ pair_targets_are pc pairs);
} where
  switch : List ℕ
  switch = lookup_bytes pc default pairs ++ rest

  is_default : s4_at switch ≡ offset pc default
  is_default = s4_front (offset pc default) (drop 4 switch) default_fits

  few_fit : FitsSigned w32 (pos (length pairs))
  few_fit = record { sfits = few }

  is_length : lookup_number switch ≡ pos (length pairs)
  is_length = s4_front (pos (length pairs)) (drop 8 switch) few_fit

  is_count : lookup_count switch ≡ length pairs
  is_count = ap count_of is_length

  are_offsets : numbers_at 8 (lookup_count switch) (drop 12 switch) ≡ map (λ pair. offset pc pair.target) pairs
  are_offsets = ap (λ n. numbers_at 8 n (drop 12 switch)) is_count ∙ ap (numbers_at 8 (length pairs)) (sym (drop-drop 4 8 switch)) ∙ pair_offsets_front pc pairs rest fit

  are_keys : numbers_at 8 (lookup_count switch) (drop 8 switch) ≡ map (λ pair. pair.key) pairs
  are_keys = ap (λ n. numbers_at 8 n (drop 8 switch)) is_count ∙ keys_front pc pairs rest key_fit

  good : (int_lt (lookup_number switch) (pos 0) || keys_fall (numbers_at 8 (lookup_count switch) (drop 8 switch))) ≡ false
  good = ap (λ z. int_lt z (pos 0) || keys_fall (numbers_at 8 (lookup_count switch) (drop 8 switch))) is_length ∙ ap (λ test. test || keys_fall (numbers_at 8 (lookup_count switch) (drop 8 switch))) (not_negative (length pairs)) ∙ ap keys_fall are_keys ∙ rise_front pairs rise

  sized : 8 + 8 * lookup_count switch ≡ length (lookup_bytes pc default pairs)
  sized = omega (arith, is_count, pairs_length pc pairs)

  same : lookup_of pc switch ≡ Lookup default pairs
  same =
      let one : target_of pc (s4_at switch) ≡ default = ap (target_of pc) is_default ∙ target_back pc default in
      let others : pairs_of pc (lookup_count switch) (drop 8 switch) ≡ pairs = ap (λ n. pairs_of pc n (drop 8 switch)) is_count ∙ pairs_front pc pairs rest key_fit fit in
      ap (λ d. Lookup d (pairs_of pc (lookup_count switch) (drop 8 switch))) one ∙ ap (Lookup default) others

-- behind the padding
padded : (pc : ℕ) (padding switch rest : List ℕ) → IsPadding pc padding → drop (padding_length pc) ((padding ++ switch) ++ rest) ≡ switch ++ rest
padded pc padding switch rest is = ap (drop (padding_length pc)) (append_assoc padding switch rest) ∙ drop_at padding (switch ++ rest) (padding_length pc) (padding_is pc padding is)

pub fronts : (pc : ℕ) (form : Form) (operand : Operand) (bytes rest : List ℕ) → SpellsOperand pc form operand bytes → Fronts pc form operand bytes (bytes ++ rest)
fronts pc forms.Plain Nothing bytes rest is = record { size = ap length (sym is); good = refl; same = refl; targets = refl }
fronts pc forms.Byte (Number number) bytes rest (fits, is) = subst (λ b. Fronts pc forms.Byte (Number number) b (b ++ rest)) (sym is) (record { size = refl; good = refl; same = ap Number (to_z-of_z w8 number fits); targets = refl })
fronts pc forms.Short (Number number) bytes rest (fits, is) = subst (λ b. Fronts pc forms.Short (Number number) b (b ++ rest)) (sym is) (record { size = refl; good = refl; same = ap Number (s2_front number rest fits); targets = refl })
fronts pc forms.PoolByte (Pool index) bytes rest (fits, is) = subst (λ b. Fronts pc forms.PoolByte (Pool index) b (b ++ rest)) (sym is) (record { size = refl; good = refl; same = refl; targets = refl })
fronts pc forms.Pool (Pool index) bytes rest (fits, is) = subst (λ b. Fronts pc forms.Pool (Pool index) b (b ++ rest)) (sym is) (record { size = refl; good = refl; same = ap Pool (u2_front index rest fits); targets = refl })
fronts pc forms.Local (Local local) bytes rest (fits, is) = subst (λ b. Fronts pc forms.Local (Local local) b (b ++ rest)) (sym is) (record { size = refl; good = refl; same = refl; targets = refl })
fronts pc forms.WideLocal (Local local) bytes rest (fits, is) = subst (λ b. Fronts pc forms.WideLocal (Local local) b (b ++ rest)) (sym is) (record { size = refl; good = refl; same = ap Local (u2_front local rest fits); targets = refl })
fronts pc forms.Increase (Increase local by) bytes rest (fits, by_fits, is) = subst (λ b. Fronts pc forms.Increase (Increase local by) b (b ++ rest)) (sym is) (record { size = refl; good = refl; same = ap (Increase local) (to_z-of_z w8 by by_fits); targets = refl })
fronts pc forms.WideIncrease (Increase local by) bytes rest (fits, by_fits, is) = subst (λ b. Fronts pc forms.WideIncrease (Increase local by) b (b ++ rest)) (sym is) (record { size = refl; good = refl; same = ap (λ l. Increase l (s2_at (s2 by ++ rest))) (u2_front local (s2 by ++ rest) fits) ∙ ap (Increase local) (s2_front by rest by_fits); targets = refl })
fronts pc forms.Branch (Branch target) bytes rest (fits, is) =
    let back = s2_front (offset pc target) rest fits in
    subst (λ b. Fronts pc forms.Branch (Branch target) b (b ++ rest)) (sym is) (record { size = refl; good = refl; same = ap (λ z. Branch (target_of pc z)) back ∙ ap Branch (target_back pc target); targets = cons_same _ _ _ _ (ap (λ z. pos pc +ℤ z) back ∙ offset_back pc target) refl })
fronts pc forms.LongBranch (Branch target) bytes rest (fits, is) =
    let back = s4_front (offset pc target) rest fits in
    subst (λ b. Fronts pc forms.LongBranch (Branch target) b (b ++ rest)) (sym is) (record { size = refl; good = refl; same = ap (λ z. Branch (target_of pc z)) back ∙ ap Branch (target_back pc target); targets = cons_same _ _ _ _ (ap (λ z. pos pc +ℤ z) back ∙ offset_back pc target) refl })
fronts pc forms.ArrayCode (ArrayCode code) bytes rest (low, high, is) = subst (λ b. Fronts pc forms.ArrayCode (ArrayCode code) b (b ++ rest)) (sym is) (record { size = refl; good = code_good code low high; same = refl; targets = refl })
fronts pc forms.Dimensions (Dimensions pool dimensions) bytes rest (fits, some, short, is) = subst (λ b. Fronts pc forms.Dimensions (Dimensions pool dimensions) b (b ++ rest)) (sym is) (record { size = refl; good = not_zero dimensions some; same = ap (λ p. Dimensions p dimensions) (u2_front pool (dimensions ∷ rest) fits); targets = refl })
fronts pc forms.Interface (Interface pool count) bytes rest (fits, some, short, is) = subst (λ b. Fronts pc forms.Interface (Interface pool count) b (b ++ rest)) (sym is) (record { size = refl; good = ap (λ test. test || false) (not_zero count some); same = ap (λ p. Interface p count) (u2_front pool (count ∷ 0 ∷ rest) fits); targets = refl })
fronts pc forms.Dynamic (Pool index) bytes rest (fits, is) = subst (λ b. Fronts pc forms.Dynamic (Pool index) b (b ++ rest)) (sym is) (record { size = refl; good = refl; same = ap Pool (u2_front index (0 ∷ 0 ∷ rest) fits); targets = refl })
fronts pc forms.Table (Table default low targets) bytes rest (padding, is_padding, is, some, low_fits, high_fits, default_fits, fit) =
    let parts = table_fronts pc default low targets rest some low_fits high_fits default_fits fit in
    let behind = padded pc padding (table_bytes pc default low targets) rest is_padding in
    subst (λ b. Fronts pc forms.Table (Table default low targets) b (b ++ rest)) (sym is) (record {
      size = ap (λ s. padding_length pc + table_length s) behind ∙ ap (λ n. padding_length pc + n) parts.size ∙ ap (λ n. n + length (table_bytes pc default low targets)) (sym (padding_is pc padding is_padding)) ∙ sym (length-append padding (table_bytes pc default low targets));
      good = ap (λ s. int_lt (table_high s) (table_low s)) behind ∙ parts.good;
      same = ap (table_of pc) behind ∙ parts.same;
      targets = ap (λ s. targets_in pc (table_offsets s)) behind ∙ parts.targets_same;
    })
fronts pc forms.Lookup (Lookup default pairs) bytes rest (padding, is_padding, is, few, rise, key_fit, default_fits, fit) =
    let parts = lookup_fronts pc default pairs rest few rise key_fit default_fits fit in
    let behind = padded pc padding (lookup_bytes pc default pairs) rest is_padding in
    subst (λ b. Fronts pc forms.Lookup (Lookup default pairs) b (b ++ rest)) (sym is) (record {
      size = ap (λ s. padding_length pc + lookup_length s) behind ∙ ap (λ n. padding_length pc + n) parts.size ∙ ap (λ n. n + length (lookup_bytes pc default pairs)) (sym (padding_is pc padding is_padding)) ∙ sym (length-append padding (lookup_bytes pc default pairs));
      good = ap (λ s. int_lt (lookup_number s) (pos 0) || keys_fall (numbers_at 8 (lookup_count s) (drop 8 s))) behind ∙ parts.good;
      same = ap (lookup_of pc) behind ∙ parts.same;
      targets = ap (λ s. targets_in pc (lookup_offsets s)) behind ∙ parts.targets_same;
    })
fronts pc form operand bytes rest spells = absurd spells
