-- How many bytes instructions take, whatever their constants and labels are.
use Rattle.std.proofs.Common.{◌≡◌, ◌∙◌, ap, sym, refl, arith, ℕ, ℤ, pos, ◌+ℤ◌, ◌-ℤ◌, ◌+◌, ◌*◌, ◌<◌, ◌^◌, List, [], ◌∷◌, ◌++◌, length, replicate, length-append, Option, IfSome, IsNone, subst}
use Rattle.std.specs.List.{flat_map}
use Rattle.std.proofs.lemmas.List.{length-replicate}
use Rattle.cb_insn.specs.declared.form.Form.TheVariants as forms
use Rattle.cb_insn.specs.declared.insn.Operand.TheVariants as operands
use Rattle.cb_insn.specs.declared.insn.Pair.{Pair}
use Rattle.cb_insn.specs.Faults.{padding_length}
use Rattle.cb_insn.specs.Grammar.{lookup_bytes, offset, s4, table_bytes}
use Rattle.cb_insn.specs.Writing.{operand_bytes}

targets_length : (pc : ℕ) (targets : List ℕ) → length (flat_map (λ target. s4 (offset pc target)) targets) ≡ 4 * length targets
targets_length pc [] = refl
targets_length pc (target ∷ targets) =
    let rest = targets_length pc targets in
    omega (arith, rest, length-append (s4 (offset pc target)) (flat_map (λ target. s4 (offset pc target)) targets))

pairs_length : (pc : ℕ) (pairs : List Pair) → length (flat_map (λ pair. s4 pair.key ++ s4 (offset pc pair.target)) pairs) ≡ 8 * length pairs
pairs_length pc [] = refl
pairs_length pc (pair ∷ pairs) =
    let rest = pairs_length pc pairs in
    omega (arith, rest, length-append (s4 pair.key ++ s4 (offset pc pair.target)) (flat_map (λ pair. s4 pair.key ++ s4 (offset pc pair.target)) pairs))

pub table_length : (pc default : ℕ) (low : ℤ) (targets : List ℕ) → length (operand_bytes pc forms.Table (operands.Table default low targets)) ≡ padding_length pc + 12 + 4 * length targets
table_length pc default low targets =
    let each = targets_length pc targets in
    let behind = length-append (s4 (offset pc default) ++ s4 low ++ s4 ((low +ℤ pos (length targets)) -ℤ pos 1)) (flat_map (λ target. s4 (offset pc target)) targets) in
    let whole = length-append (replicate (padding_length pc) 0) (table_bytes pc default low targets) in
    omega (arith, each, behind, whole, length-replicate {A = ℕ} (padding_length pc) 0)

pub lookup_length : (pc default : ℕ) (pairs : List Pair) → length (operand_bytes pc forms.Lookup (operands.Lookup default pairs)) ≡ padding_length pc + 8 + 8 * length pairs
lookup_length pc default pairs =
    let each = pairs_length pc pairs in
    let behind = length-append (s4 (offset pc default) ++ s4 (pos (length pairs))) (flat_map (λ pair. s4 pair.key ++ s4 (offset pc pair.target)) pairs) in
    let whole = length-append (replicate (padding_length pc) 0) (lookup_bytes pc default pairs) in
    omega (arith, each, behind, whole, length-replicate {A = ℕ} (padding_length pc) 0)

-- the same by how many labels there are
pub table_at : (pc default : ℕ) (low : ℤ) (targets : List ℕ) (labels : ℕ) → length targets ≡ labels
    → padding_length pc + 12 + 4 * labels ≡ length (operand_bytes pc forms.Table (operands.Table default low targets))
table_at pc default low targets labels long = ap (λ count. padding_length pc + 12 + 4 * count) (sym long) ∙ sym (table_length pc default low targets)

pub lookup_at : (pc default : ℕ) (pairs : List Pair) (labels : ℕ) → length pairs ≡ labels
    → padding_length pc + 8 + 8 * labels ≡ length (operand_bytes pc forms.Lookup (operands.Lookup default pairs))
lookup_at pc default pairs labels long = ap (λ count. padding_length pc + 8 + 8 * count) (sym long) ∙ sym (lookup_length pc default pairs)

pub sized : (found : Option ℕ) (one other : ℕ) → one ≡ other → IfSome found (λ size. (size ≡ one) × (size < 2 ^ 20)) → IfSome found (λ size. (size ≡ other) × (size < 2 ^ 20))
sized found one other is size = subst (λ all. IfSome found (λ size. (size ≡ all) × (size < 2 ^ 20))) is size

pub unsized : (found : Option ℕ) (one other : ℕ) → one ≡ other → (IsNone found → ¬ (one < 2 ^ 16)) → IsNone found → ¬ (other < 2 ^ 16)
unsized found one other is none = subst (λ all. IsNone found → ¬ (all < 2 ^ 16)) is none
