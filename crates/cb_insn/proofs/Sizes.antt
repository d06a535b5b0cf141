-- Switches that fit their bytes, and how many these are.
use Rattle.std.proofs.Common.{◌≡◌, ℕ, ◌+◌, ◌*◌, ◌<◌, ◌^◌, ℤ, pos, ◌+ℤ◌, ◌-ℤ◌, List, [], ◌∷◌, length, replicate, refl, arith, FitsSigned}
use Rattle.std.specs.Int.{w32}
use Rattle.std.specs.List.{AllByRecursion}
use Rattle.cb_insn.specs.declared.form.Form.TheVariants as forms
use Rattle.cb_insn.specs.declared.insn.Pair.{Pair}
use Rattle.cb_insn.specs.declared.insn.Operand.TheVariants as operands
use Rattle.cb_insn.specs.Grammar.{SpellsOperand, KeysRise, offset, table_bytes, lookup_bytes}
use Rattle.cb_insn.specs.Faults.{padding_length}
use Rattle.cb_insn.specs.Writing.{operand_bytes}
use Rattle.cb_insn.proofs.Spelling.{zeros, zeros_before, offset_bytes, offsets_length, pair_bytes, pairs_length}

pub table_fits : (pc default : ℕ) (low : ℤ) (targets : List ℕ) → 0 < length targets → FitsSigned w32 low → FitsSigned w32 ((low +ℤ pos (length targets)) -ℤ pos 1) → FitsSigned w32 (offset pc default) → AllByRecursion (λ target. FitsSigned w32 (offset pc target)) targets
    → SpellsOperand pc forms.Table (operands.Table default low targets) (operand_bytes pc forms.Table (operands.Table default low targets)) × (padding_length pc + 12 + 4 * length targets ≡ length (operand_bytes pc forms.Table (operands.Table default low targets)))
table_fits pc default low targets some low_fits high_fits default_fits fit =
    let size : length (table_bytes pc default low targets) ≡ 12 + length (offset_bytes pc targets) = omega arith in
    ((replicate (padding_length pc) 0, zeros pc, refl, some, low_fits, high_fits, default_fits, fit), omega (arith, zeros_before pc (table_bytes pc default low targets), size, offsets_length pc targets))

both : (pc : ℕ) (pairs : List Pair) → AllByRecursion (λ pair. FitsSigned w32 pair.key × FitsSigned w32 (offset pc pair.target)) pairs → AllByRecursion (λ pair. FitsSigned w32 pair.key) pairs × AllByRecursion (λ pair. FitsSigned w32 (offset pc pair.target)) pairs
both pc [] fit = (tt, tt)
both pc (pair ∷ pairs) ((key, target), fit) = let rest = both pc pairs fit in ((key, rest.0), (target, rest.1))

pub lookup_fits : (pc default : ℕ) (pairs : List Pair) → length pairs < 2 ^ 31 → KeysRise pairs → FitsSigned w32 (offset pc default) → AllByRecursion (λ pair. FitsSigned w32 pair.key × FitsSigned w32 (offset pc pair.target)) pairs
    → SpellsOperand pc forms.Lookup (operands.Lookup default pairs) (operand_bytes pc forms.Lookup (operands.Lookup default pairs)) × (padding_length pc + 8 + 8 * length pairs ≡ length (operand_bytes pc forms.Lookup (operands.Lookup default pairs)))
lookup_fits pc default pairs few rise default_fits fit =
    let size : length (lookup_bytes pc default pairs) ≡ 8 + length (pair_bytes pc pairs) = omega arith in
    let parts = both pc pairs fit in
    ((replicate (padding_length pc) 0, zeros pc, refl, few, rise, parts.0, default_fits, parts.1), omega (arith, zeros_before pc (lookup_bytes pc default pairs), size, pairs_length pc pairs))
