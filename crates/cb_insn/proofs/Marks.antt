-- Walks over the targets of an instruction, by the marks of the places of instructions.
use Rattle.std.proofs.Common.{◌≡◌, ℕ, zero, suc, ◌-◌, ◌<◌, ◌≤◌, ℤ, pos, ◌+ℤ◌, Bool, List, [], ◌∷◌, ◌++◌, drop, map, All, Contains, refl, sym, ◌∙◌, ap, subst, arith, append_assoc, FitsSigned, Result, Ok, Err, IsErrAnd, IfErr}
use Rattle.std.specs.Int.{w32, cast_signed, cast_unsigned}
use Rattle.std.proofs.lemmas.Int.{to_z-of_z}
use Rattle.std.proofs.lemmas.List.{append-nil, map-append, drop-drop}
use Rattle.std.proofs.lemmas.List.Elements.{All-push, All-cons, All-nil, Contains-append_left, Contains-append_right}
use Rattle.cb_insn.specs.declared.insn.Pair.{Pair}
use Rattle.cb_insn.specs.declared.insn.Operand.TheVariants.{Table, Lookup}
use Rattle.cb_insn.specs.declared.fault.InsnFault.{InsnFault}
use Rattle.cb_insn.specs.declared.fault.InsnFault.TheVariants as faults
use Rattle.cb_insn.specs.Faults.{s4_at, numbers_at, table_low, table_count, lookup_count, targets_in, table_offsets, lookup_offsets}
use Rattle.cb_insn.specs.Inner.{IsMarked, Misses, target_of, pairs_of, table_of, lookup_of}

-- what is missed among some targets is missed among more
pub misses_more : (pc : ℕ) (some more : List ℤ) (starts : List Bool) (fault : InsnFault) → ((target : ℤ) → Contains some target → Contains more target) → Misses pc some starts fault → Misses pc more starts fault
misses_more pc some more starts (faults.BadTarget at) within (is, (target, among, astray)) = (is, (target, within target among, astray))
misses_more pc some more starts faults.OutOfMemory within misses = tt
misses_more pc some more starts (faults.Cut at) within misses = absurd misses
misses_more pc some more starts (faults.BadOpcode at) within misses = absurd misses
misses_more pc some more starts (faults.BadOperand at) within misses = absurd misses

-- the walk has made these items of all, and the offsets past have marked targets
pub record Walks {X : Type 0} (pc : ℕ) (starts : List Bool) (all made ahead : List X) (offsets offsets_ahead : List ℤ) : Type 0 where
  pub built : all ≡ made ++ ahead
  pub past : List ℤ
  pub parted : offsets ≡ past ++ offsets_ahead
  pub marked : All (IsMarked starts) (targets_in pc past)

pub walks_start : {X : Type 0} (pc : ℕ) (starts : List Bool) (all : List X) (offsets : List ℤ) → Walks pc starts all [] all offsets offsets
walks_start pc starts all offsets = record { built = refl; past = []; parted = refl; marked = All-nil (IsMarked starts) }

pub walks_more : {X : Type 0} (pc : ℕ) (starts : List Bool) (all made ahead : List X) (item : X) (offsets offsets_ahead : List ℤ) (offset : ℤ) → Walks pc starts all made (item ∷ ahead) offsets (offset ∷ offsets_ahead) → IsMarked starts (pos pc +ℤ offset) → Walks pc starts all (made ++ item ∷ []) ahead offsets offsets_ahead
walks_more pc starts all made ahead item offsets offsets_ahead offset walks marked = record {
  built = walks.built ∙ sym (append_assoc made (item ∷ []) ahead);
  past = walks.past ++ offset ∷ [];
  parted = walks.parted ∙ sym (append_assoc walks.past (offset ∷ []) offsets_ahead);
  marked = subst (All (IsMarked starts)) (sym (map-append (λ z. pos pc +ℤ z) walks.past (offset ∷ []))) (All-push (IsMarked starts) (targets_in pc walks.past) (pos pc +ℤ offset) walks.marked marked);
}

pub walks_end : {X : Type 0} (pc : ℕ) (starts : List Bool) (all made : List X) (offsets : List ℤ) → Walks pc starts all made [] offsets [] → (made ≡ all) × All (IsMarked starts) (targets_in pc offsets)
walks_end pc starts all made offsets walks =
    (sym (walks.built ∙ append-nil made), subst (λ zs. All (IsMarked starts) (targets_in pc zs)) (sym (walks.parted ∙ append-nil walks.past)) walks.marked)

pub walks_miss : {X : Type 0} (pc : ℕ) (starts : List Bool) (all made ahead : List X) (offsets offsets_ahead : List ℤ) (offset : ℤ) (fault : InsnFault) → Walks pc starts all made ahead offsets (offset ∷ offsets_ahead) → Misses pc (targets_in pc (offset ∷ [])) starts fault → Misses pc (targets_in pc offsets) starts fault
walks_miss pc starts all made ahead offsets offsets_ahead offset fault walks misses =
    misses_more pc (targets_in pc (offset ∷ [])) (targets_in pc offsets) starts fault within misses
  where
    whole : targets_in pc offsets ≡ targets_in pc walks.past ++ ((pos pc +ℤ offset) ∷ targets_in pc offsets_ahead)
    whole = ap (targets_in pc) walks.parted ∙ map-append (λ z. pos pc +ℤ z) walks.past (offset ∷ offsets_ahead)

    within : (target : ℤ) → Contains (targets_in pc (offset ∷ [])) target → Contains (targets_in pc offsets) target
    within target among = subst (λ zs. Contains zs target) (sym whole) (Contains-append_right (targets_in pc walks.past) _ target (Contains-append_left ((pos pc +ℤ offset) ∷ []) (targets_in pc offsets_ahead) target among))

-- the next of so many
pub numbers_next : (step left : ℕ) (rest : List ℕ) → 0 < left → numbers_at step left rest ≡ s4_at rest ∷ numbers_at step (left - 1) (drop step rest)
numbers_next step zero rest more = absurd (omega arith)
numbers_next step (suc left) rest more = let same : left ≡ suc left - 1 = omega arith in ap (λ n. s4_at rest ∷ numbers_at step n (drop step rest)) same

pub pairs_next : (pc left : ℕ) (rest : List ℕ) → 0 < left → pairs_of pc left rest ≡ record { key = s4_at rest; target = target_of pc (s4_at (drop 4 rest)) } ∷ pairs_of pc (left - 1) (drop 8 rest)
pairs_next pc zero rest more = absurd (omega arith)
pairs_next pc (suc left) rest more = let same : left ≡ suc left - 1 = omega arith in ap (λ n. record { key = s4_at rest; target = target_of pc (s4_at (drop 4 rest)) } ∷ pairs_of pc n (drop 8 rest)) same

-- an offset is passed in four bytes
pub walks_pushed : {X : Type 0} (pc : ℕ) (starts : List Bool) (all made new ahead : List X) (item : X) (offsets offsets_ahead : List ℤ) (offset passed : ℤ) → Walks pc starts all made (item ∷ ahead) offsets (offset ∷ offsets_ahead) → passed ≡ offset → IsMarked starts (pos pc +ℤ passed) → new ≡ made ++ item ∷ [] → Walks pc starts all new ahead offsets offsets_ahead
walks_pushed pc starts all made new ahead item offsets offsets_ahead offset passed walks same marked is =
    subst (λ items. Walks pc starts all items ahead offsets offsets_ahead) (sym is) (walks_more pc starts all made ahead item offsets offsets_ahead offset walks (subst (λ z. IsMarked starts (pos pc +ℤ z)) same marked))

-- the walk over offsets
pub targets_step : (pc count left : ℕ) (starts : List Bool) (offsets rest behind targets new : List ℕ) (offset : ℤ) (target : ℕ) → Walks pc starts (map (target_of pc) (numbers_at 4 count offsets)) targets (map (target_of pc) (numbers_at 4 left rest)) (numbers_at 4 count offsets) (numbers_at 4 left rest) → 0 < left → FitsSigned w32 offset → offset ≡ s4_at rest → behind ≡ drop 4 rest → (target ≡ target_of pc (cast_signed w32 (cast_unsigned w32 offset))) × IsMarked starts (pos pc +ℤ cast_signed w32 (cast_unsigned w32 offset)) → new ≡ targets ++ target ∷ [] → Walks pc starts (map (target_of pc) (numbers_at 4 count offsets)) new (map (target_of pc) (numbers_at 4 (left - 1) behind)) (numbers_at 4 count offsets) (numbers_at 4 (left - 1) behind)
targets_step pc count left starts offsets rest behind targets new offset target walks more fits is_offset is_behind (is_target, marked) is_new =
    let same : cast_signed w32 (cast_unsigned w32 offset) ≡ s4_at rest = to_z-of_z w32 offset fits ∙ is_offset in
    let next : numbers_at 4 left rest ≡ s4_at rest ∷ numbers_at 4 (left - 1) behind = numbers_next 4 left rest more ∙ ap (λ bytes. s4_at rest ∷ numbers_at 4 (left - 1) bytes) (sym is_behind) in
    walks_pushed pc starts _ targets new _ (target_of pc (s4_at rest)) _ _ (s4_at rest) _
    (subst (λ zs. Walks pc starts (map (target_of pc) (numbers_at 4 count offsets)) targets (map (target_of pc) zs) (numbers_at 4 count offsets) zs) next walks) same marked
    (is_new ∙ ap (λ t. targets ++ t ∷ []) (is_target ∙ ap (target_of pc) same))

-- the walk over pairs
pub pairs_step : (pc count left : ℕ) (starts : List Bool) (bytes rest behind : List ℕ) (pairs new : List Pair) (key offset : ℤ) (target : ℕ) → Walks pc starts (pairs_of pc count bytes) pairs (pairs_of pc left rest) (numbers_at 8 count (drop 4 bytes)) (numbers_at 8 left (drop 4 rest)) → 0 < left → FitsSigned w32 key → key ≡ s4_at rest → FitsSigned w32 offset → offset ≡ s4_at (drop 4 rest) → behind ≡ drop 8 rest → (target ≡ target_of pc (cast_signed w32 (cast_unsigned w32 offset))) × IsMarked starts (pos pc +ℤ cast_signed w32 (cast_unsigned w32 offset)) → new ≡ pairs ++ record { key = cast_signed w32 (cast_unsigned w32 key); target = target } ∷ [] → Walks pc starts (pairs_of pc count bytes) new (pairs_of pc (left - 1) behind) (numbers_at 8 count (drop 4 bytes)) (numbers_at 8 (left - 1) (drop 4 behind))
pairs_step pc count left starts bytes rest behind pairs new key offset target walks more key_fits is_key fits is_offset is_behind (is_target, marked) is_new =
    let same_key : cast_signed w32 (cast_unsigned w32 key) ≡ s4_at rest = to_z-of_z w32 key key_fits ∙ is_key in
    let same : cast_signed w32 (cast_unsigned w32 offset) ≡ s4_at (drop 4 rest) = to_z-of_z w32 offset fits ∙ is_offset in
    let next : pairs_of pc left rest ≡ record { key = s4_at rest; target = target_of pc (s4_at (drop 4 rest)) } ∷ pairs_of pc (left - 1) behind = pairs_next pc left rest more ∙ ap (λ b. record { key = s4_at rest; target = target_of pc (s4_at (drop 4 rest)) } ∷ pairs_of pc (left - 1) b) (sym is_behind) in
    let next_keys : numbers_at 8 left (drop 4 rest) ≡ s4_at (drop 4 rest) ∷ numbers_at 8 (left - 1) (drop 4 behind) = numbers_next 8 left (drop 4 rest) more ∙ ap (λ b. s4_at (drop 4 rest) ∷ numbers_at 8 (left - 1) b) (drop-drop 8 4 rest ∙ sym (drop-drop 4 8 rest) ∙ ap (drop 4) (sym is_behind)) in
    walks_pushed pc starts _ pairs new _ _ _ _ (s4_at (drop 4 rest)) _
    (subst (λ zs. Walks pc starts (pairs_of pc count bytes) pairs (record { key = s4_at rest; target = target_of pc (s4_at (drop 4 rest)) } ∷ pairs_of pc (left - 1) behind) (numbers_at 8 count (drop 4 bytes)) zs) next_keys (subst (λ ps. Walks pc starts (pairs_of pc count bytes) pairs ps (numbers_at 8 count (drop 4 bytes)) (numbers_at 8 left (drop 4 rest))) next walks)) same marked
    (is_new ∙ ap (λ k. pairs ++ record { key = k; target = target } ∷ []) same_key ∙ ap (λ t. pairs ++ record { key = s4_at rest; target = t } ∷ []) (is_target ∙ ap (target_of pc) same))

-- where the next of the walk's offsets has a target without a mark
pub next_missed : {X : Type 0} (pc step left : ℕ) (starts : List Bool) (all made ahead : List X) (offsets : List ℤ) (rest : List ℕ) (offset : ℤ) (fault : InsnFault) → Walks pc starts all made ahead offsets (numbers_at step left rest) → 0 < left → FitsSigned w32 offset → offset ≡ s4_at rest → Misses pc (targets_in pc (cast_signed w32 (cast_unsigned w32 offset) ∷ [])) starts fault → Misses pc (targets_in pc offsets) starts fault
next_missed pc step left starts all made ahead offsets rest offset fault walks more fits is_offset misses =
    let same : cast_signed w32 (cast_unsigned w32 offset) ≡ s4_at rest = to_z-of_z w32 offset fits ∙ is_offset in
    walks_miss pc starts all made ahead offsets (numbers_at step (left - 1) (drop step rest)) (s4_at rest) fault
    (subst (Walks pc starts all made ahead offsets) (numbers_next step left rest more) walks)
    (subst (λ z. Misses pc (targets_in pc (z ∷ [])) starts fault) same misses)

-- where a `?` hands on a fault
pub handed_on : {X : Type 0} (result : Result X InsnFault) (fault : InsnFault) (P : InsnFault → Type 0) → IsErrAnd result (λ f. f ≡ fault) → P fault → IfErr result P
handed_on (Ok value) fault P is holds = absurd is
handed_on (Err f) fault P is holds = subst P (sym is) holds

-- none are left at the end
pub walked : {X : Type 0} (pc step left : ℕ) (starts : List Bool) (all made : List X) (ahead : ℕ → List X) (offsets : List ℤ) (rest : List ℕ) → Walks pc starts all made (ahead left) offsets (numbers_at step left rest) → ahead 0 ≡ [] → left ≤ 0 → (made ≡ all) × All (IsMarked starts) (targets_in pc offsets)
walked pc step zero starts all made ahead offsets rest walks none ended = walks_end pc starts all made offsets (subst (λ xs. Walks pc starts all made xs offsets []) none walks)
walked pc step (suc left) starts all made ahead offsets rest walks none ended = absurd (omega arith)

-- the targets of a switch are the default's and the others
pub miss_first : (pc : ℕ) (passed offset : ℤ) (offsets : List ℤ) (starts : List Bool) (fault : InsnFault) → passed ≡ offset → Misses pc (targets_in pc (passed ∷ [])) starts fault → Misses pc (targets_in pc (offset ∷ offsets)) starts fault
miss_first pc passed offset offsets starts fault same misses =
    misses_more pc (targets_in pc (offset ∷ [])) (targets_in pc (offset ∷ offsets)) starts fault (λ target among. Contains-append_left (targets_in pc (offset ∷ [])) (targets_in pc offsets) target among) (subst (λ z. Misses pc (targets_in pc (z ∷ [])) starts fault) same misses)

pub miss_rest : (pc : ℕ) (offset : ℤ) (passed offsets : List ℤ) (starts : List Bool) (fault : InsnFault) → passed ≡ offsets → Misses pc (targets_in pc passed) starts fault → Misses pc (targets_in pc (offset ∷ offsets)) starts fault
miss_rest pc offset passed offsets starts fault same misses =
    misses_more pc (targets_in pc offsets) (targets_in pc (offset ∷ offsets)) starts fault (λ target among. Contains-append_right (targets_in pc (offset ∷ [])) (targets_in pc offsets) target among) (subst (λ zs. Misses pc (targets_in pc zs) starts fault) same misses)

pub table_same : (switch offsets : List ℕ) (count : ℕ) → count ≡ table_count switch → offsets ≡ drop 12 switch → numbers_at 4 count offsets ≡ numbers_at 4 (table_count switch) (drop 12 switch)
table_same switch offsets count is_count is_offsets = ap (λ n. numbers_at 4 n offsets) is_count ∙ ap (numbers_at 4 (table_count switch)) is_offsets

pub lookup_same : (switch pairs : List ℕ) (count : ℕ) → count ≡ lookup_count switch → pairs ≡ drop 8 switch → numbers_at 8 count (drop 4 pairs) ≡ numbers_at 8 (lookup_count switch) (drop 12 switch)
lookup_same switch pairs count is_count is_pairs = ap (λ n. numbers_at 8 n (drop 4 pairs)) is_count ∙ ap (λ bytes. numbers_at 8 (lookup_count switch) (drop 4 bytes)) is_pairs ∙ ap (numbers_at 8 (lookup_count switch)) (drop-drop 4 8 switch)

pub table_read : (pc : ℕ) (switch offsets targets : List ℕ) (starts : List Bool) (default count : ℕ) (passed low : ℤ) → passed ≡ s4_at switch → low ≡ table_low switch → count ≡ table_count switch → offsets ≡ drop 12 switch → (default ≡ target_of pc passed) × IsMarked starts (pos pc +ℤ passed) → (targets ≡ map (target_of pc) (numbers_at 4 count offsets)) × All (IsMarked starts) (targets_in pc (numbers_at 4 count offsets)) → (Table default low targets ≡ table_of pc switch) × All (IsMarked starts) (targets_in pc (table_offsets switch))
table_read pc switch offsets targets starts default count passed low is_passed is_low is_count is_offsets (is_default, marked) (are_targets, all_marked) =
    let same = table_same switch offsets count is_count is_offsets in
    let one : default ≡ target_of pc (s4_at switch) = is_default ∙ ap (target_of pc) is_passed in
    let others : targets ≡ map (target_of pc) (numbers_at 4 (table_count switch) (drop 12 switch)) = are_targets ∙ ap (map (target_of pc)) same in (
      ap (λ d. Table d low targets) one ∙ ap (λ l. Table (target_of pc (s4_at switch)) l targets) is_low ∙ ap (Table (target_of pc (s4_at switch)) (table_low switch)) others,
      All-cons (IsMarked starts) (pos pc +ℤ s4_at switch) (targets_in pc (numbers_at 4 (table_count switch) (drop 12 switch))) (subst (λ z. IsMarked starts (pos pc +ℤ z)) is_passed marked) (subst (λ zs. All (IsMarked starts) (targets_in pc zs)) same all_marked),
    )

pub lookup_read : (pc : ℕ) (switch bytes : List ℕ) (pairs : List Pair) (starts : List Bool) (default count : ℕ) (passed : ℤ) → passed ≡ s4_at switch → count ≡ lookup_count switch → bytes ≡ drop 8 switch → (default ≡ target_of pc passed) × IsMarked starts (pos pc +ℤ passed) → (pairs ≡ pairs_of pc count bytes) × All (IsMarked starts) (targets_in pc (numbers_at 8 count (drop 4 bytes))) → (Lookup default pairs ≡ lookup_of pc switch) × All (IsMarked starts) (targets_in pc (lookup_offsets switch))
lookup_read pc switch bytes pairs starts default count passed is_passed is_count is_bytes (is_default, marked) (are_pairs, all_marked) =
    let same = lookup_same switch bytes count is_count is_bytes in
    let one : default ≡ target_of pc (s4_at switch) = is_default ∙ ap (target_of pc) is_passed in
    let others : pairs ≡ pairs_of pc (lookup_count switch) (drop 8 switch) = are_pairs ∙ ap (λ n. pairs_of pc n bytes) is_count ∙ ap (pairs_of pc (lookup_count switch)) is_bytes in (
      ap (λ d. Lookup d pairs) one ∙ ap (Lookup (target_of pc (s4_at switch))) others,
      All-cons (IsMarked starts) (pos pc +ℤ s4_at switch) (targets_in pc (numbers_at 8 (lookup_count switch) (drop 12 switch))) (subst (λ z. IsMarked starts (pos pc +ℤ z)) is_passed marked) (subst (λ zs. All (IsMarked starts) (targets_in pc zs)) same all_marked),
    )
