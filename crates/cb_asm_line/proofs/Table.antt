-- The tables are those of the definitions.
use Rattle.std.proofs.Common.{◌≡◌, refl, map}
use Rattle.cb_asm_line.specs.declared.mnemonic.TheConstants.{ARRAY_TYPES}
use Rattle.cb_asm_line.specs.declared.mnemonic_table.TheConstants.{MNEMONICS}
use Rattle.cb_asm_line.specs.declared.flag.TheConstants.{CLASS_FLAGS, FIELD_FLAGS, METHOD_FLAGS}
use Rattle.cb_asm_line.specs.Flags.{class_flags, field_flags, method_flags}
use Rattle.cb_asm_line.specs.Mnemonics.{array_types, mnemonics}

pub table : map (λ name. name.now) MNEMONICS ≡ mnemonics
table = refl

pub of_class : map (λ word. word.now) CLASS_FLAGS ≡ class_flags
of_class = refl

pub of_field : map (λ word. word.now) FIELD_FLAGS ≡ field_flags
of_field = refl

pub of_method : map (λ word. word.now) METHOD_FLAGS ≡ method_flags
of_method = refl

pub of_array : map (λ word. word.now) ARRAY_TYPES ≡ array_types
of_array = refl
