-- Instructions whose labels come nearer have a spelling of as many bytes.
use Rattle.std.proofs.Common.{◌≡◌, ◌⊎◌, inl, inr, ap, sym, refl, subst, arith, ℕ, ◌*◌, ◌≤◌, ℤ, pos, ◌-ℤ◌, ◌+ℤ◌, List, [], ◌∷◌, ◌++◌, length, length-append, map, Option, Some, None}
use Rattle.std.specs.Prelude.{FitsSigned}
use Rattle.std.specs.Int.{Width, w16, w32}
use Rattle.std.specs.List.{AllByRecursion, flat_map}
use Rattle.cb_insn.specs.declared.form.Form.{Form}
use Rattle.cb_insn.specs.declared.form.Form.TheVariants as forms
use Rattle.cb_insn.specs.declared.insn.Pair.{Pair}
use Rattle.cb_insn.specs.Forms.{head_bytes, head_form}
use Rattle.cb_insn.specs.Grammar.{KeysRise, SpellsIn, SpellsInsn, SpellsOperand, lookup_bytes, offset, s2, s4, table_bytes}
use Rattle.cb_asm_line.specs.Label.{Label}
use Rattle.cb_asm_line.specs.declared.operand.Instruction.{Instruction}
use Rattle.cb_asm_line.specs.declared.operand.Operand.{Operand}
use Rattle.cb_asm_line.specs.declared.operand.Operand.TheVariants.{Branch, Table, Lookup}
use Rattle.cb_asm_record.specs.Entries.{Entry}
use Rattle.cb_asm_record.specs.Grammar.{labels_of}
use Rattle.cb_asm_record.specs.Labels.{insn_of, operand_of}
use Rattle.cb_asm_prefix.proofs.Lists.{all_of_map}
use Rattle.cb_asm_prefix.proofs.Near.{nearer}

-- a label stands where it stood, or between an instruction and where it stood
pub record IsNear (pc : ℕ) (place place_too : Label → ℕ) (label : Label) : Type 0 where
  pub is : (place_too label ≡ place label) ⊎ ((pc ≤ place_too label) × (place_too label ≤ place label))

near_fits : (w : Width) (pc : ℕ) (place place_too : Label → ℕ) (label : Label) → IsNear pc place place_too label → FitsSigned w (offset pc (place label)) → FitsSigned w (offset pc (place_too label))
near_fits w pc place place_too label near fits = elim near.is [
  | inl same ↦ subst (λ target. FitsSigned w (offset pc target)) (sym same) fits
  | inr between ↦ nearer w pc (place_too label) (place label) between.0 between.1 fits
]

-- bytes of an operand, and as many of another
record Respelled (pc : ℕ) (place_too : Label → ℕ) (entries : List Entry) (form : Form) (opcode : ℕ) (operand : Operand) (bytes : List ℕ) : Type 0 where
  again : List ℕ
  spelled : SpellsOperand pc form (operand_of entries place_too opcode operand) again
  long : length again ≡ length bytes

-- switches
lengths : {X Y : Type 0} (f g : X → Y) (items : List X) → length (map f items) ≡ length (map g items)
lengths f g [] = refl
lengths f g (item ∷ items) = omega (arith, lengths f g items)

fours : {X : Type 0} (f : X → ℤ) (items : List X) → length (flat_map (λ item. s4 (f item)) items) ≡ 4 * length items
fours f [] = refl
fours f (item ∷ items) = omega (arith, fours f items)

eights : {X : Type 0} (f g : X → ℤ) (items : List X) → length (flat_map (λ item. s4 (f item) ++ s4 (g item)) items) ≡ 8 * length items
eights f g [] = refl
eights f g (item ∷ items) = omega (arith, eights f g items)

abbrev pub pair_to : (Label → ℕ) → ℤ × Label → Pair
pair_to place pair = record { key = pair.0; target = place pair.1 }

keys_rise : (place place_too : Label → ℕ) (pairs : List (ℤ × Label)) → KeysRise (map (pair_to place) pairs) → KeysRise (map (pair_to place_too) pairs)
keys_rise place place_too [] rise = tt
keys_rise place place_too (one ∷ []) rise = tt
keys_rise place place_too (one ∷ next ∷ pairs) rise = (rise.0, keys_rise place place_too (next ∷ pairs) rise.1)

keys_fit : (place place_too : Label → ℕ) (pairs : List (ℤ × Label)) → AllByRecursion (λ pair. FitsSigned w32 pair.key) (map (pair_to place) pairs) → AllByRecursion (λ pair. FitsSigned w32 pair.key) (map (pair_to place_too) pairs)
keys_fit place place_too [] fit = tt
keys_fit place place_too (one ∷ pairs) fit = (fit.0, keys_fit place place_too pairs fit.1)

targets_fit : (pc : ℕ) (place place_too : Label → ℕ) (labels : List Label) → AllByRecursion (IsNear pc place place_too) labels
    → AllByRecursion (λ target. FitsSigned w32 (offset pc target)) (map place labels) → AllByRecursion (λ target. FitsSigned w32 (offset pc target)) (map place_too labels)
targets_fit pc place place_too [] near fit = tt
targets_fit pc place place_too (label ∷ labels) near fit = (near_fits w32 pc place place_too label near.0 fit.0, targets_fit pc place place_too labels near.1 fit.1)

pairs_fit : (pc : ℕ) (place place_too : Label → ℕ) (pairs : List (ℤ × Label)) → AllByRecursion (λ pair. IsNear pc place place_too pair.1) pairs
    → AllByRecursion (λ pair. FitsSigned w32 (offset pc pair.target)) (map (pair_to place) pairs) → AllByRecursion (λ pair. FitsSigned w32 (offset pc pair.target)) (map (pair_to place_too) pairs)
pairs_fit pc place place_too [] near fit = tt
pairs_fit pc place place_too (pair ∷ pairs) near fit = (near_fits w32 pc place place_too pair.1 near.0 fit.0, pairs_fit pc place place_too pairs near.1 fit.1)

table_long : (pc default default_too : ℕ) (low : ℤ) (targets targets_too : List ℕ) → length targets ≡ length targets_too → length (table_bytes pc default low targets) ≡ length (table_bytes pc default_too low targets_too)
table_long pc default default_too low targets targets_too same =
    omega (
      arith,
      same,
      fours (offset pc) targets,
      fours (offset pc) targets_too,
      length-append (s4 (offset pc default) ++ s4 low ++ s4 ((low +ℤ pos (length targets)) -ℤ pos 1)) (flat_map (λ target. s4 (offset pc target)) targets),
      length-append (s4 (offset pc default_too) ++ s4 low ++ s4 ((low +ℤ pos (length targets_too)) -ℤ pos 1)) (flat_map (λ target. s4 (offset pc target)) targets_too),
    )

lookup_long : (pc default default_too : ℕ) (pairs pairs_too : List Pair) → length pairs ≡ length pairs_too → length (lookup_bytes pc default pairs) ≡ length (lookup_bytes pc default_too pairs_too)
lookup_long pc default default_too pairs pairs_too same =
    let bytes = λ (pairs : List Pair). flat_map (λ pair. s4 pair.key ++ s4 (offset pc pair.target)) pairs in
    omega (
      arith,
      same,
      eights (λ pair. pair.key) (λ pair. offset pc pair.target) pairs,
      eights (λ pair. pair.key) (λ pair. offset pc pair.target) pairs_too,
      length-append (s4 (offset pc default) ++ s4 (pos (length pairs))) (bytes pairs),
      length-append (s4 (offset pc default_too) ++ s4 (pos (length pairs_too))) (bytes pairs_too),
    )

-- an operand
operand_again : (pc : ℕ) (place place_too : Label → ℕ) (entries : List Entry) (form : Form) (opcode : ℕ) (operand : Operand) (bytes : List ℕ)
    → AllByRecursion (IsNear pc place place_too) (labels_of operand) → SpellsOperand pc form (operand_of entries place opcode operand) bytes → Respelled pc place_too entries form opcode operand bytes
operand_again pc place place_too entries forms.Branch opcode (Branch label) bytes near spelled =
    record { again = s2 (offset pc (place_too label)); spelled = (near_fits w16 pc place place_too label near.0 spelled.0, refl); long = sym (ap length spelled.1) }
operand_again pc place place_too entries forms.LongBranch opcode (Branch label) bytes near spelled =
    record { again = s4 (offset pc (place_too label)); spelled = (near_fits w32 pc place place_too label near.0 spelled.0, refl); long = sym (ap length spelled.1) }
operand_again pc place place_too entries forms.Table opcode (Table low default labels) bytes near (padding, is, split, some, low_fits, high_fits, default_fits, fit) =
    let same = lengths place place_too labels in
    record {
      again = padding ++ table_bytes pc (place_too default) low (map place_too labels);
      spelled = (
        padding,
        is,
        refl,
        omega (arith, same, some),
        low_fits,
        subst (λ count. FitsSigned w32 ((low +ℤ pos count) -ℤ pos 1)) same high_fits,
        near_fits w32 pc place place_too default near.0 default_fits,
        targets_fit pc place place_too labels near.1 fit,
      );
      long =
          omega (
            arith,
            ap length split,
            table_long pc (place default) (place_too default) low (map place labels) (map place_too labels) same,
            length-append padding (table_bytes pc (place default) low (map place labels)),
            length-append padding (table_bytes pc (place_too default) low (map place_too labels)),
          );
    }
operand_again pc place place_too entries forms.Lookup opcode (Lookup default pairs) bytes near (padding, is, split, few, rise, keys, default_fits, fit) =
    let same = lengths (pair_to place) (pair_to place_too) pairs in
    record {
      again = padding ++ lookup_bytes pc (place_too default) (map (pair_to place_too) pairs);
      spelled = (
        padding,
        is,
        refl,
        omega (arith, same, few),
        keys_rise place place_too pairs rise,
        keys_fit place place_too pairs keys,
        near_fits w32 pc place place_too default near.0 default_fits,
        pairs_fit pc place place_too pairs (all_of_map (IsNear pc place place_too) (λ pair. pair.1) pairs near.1) fit,
      );
      long =
          omega (
            arith,
            ap length split,
            lookup_long pc (place default) (place_too default) (map (pair_to place) pairs) (map (pair_to place_too) pairs) same,
            length-append padding (lookup_bytes pc (place default) (map (pair_to place) pairs)),
            length-append padding (lookup_bytes pc (place_too default) (map (pair_to place_too) pairs)),
          );
    }
operand_again pc place place_too entries form opcode (Branch label) bytes near spelled = absurd spelled
operand_again pc place place_too entries form opcode (Table low default labels) bytes near spelled = absurd spelled
operand_again pc place place_too entries form opcode (Lookup default pairs) bytes near spelled = absurd spelled
operand_again pc place place_too entries form opcode operand bytes near spelled = record { again = bytes; spelled = spelled; long = refl }

-- an instruction
pub record InsnAgain (pc : ℕ) (place_too : Label → ℕ) (entries : List Entry) (instruction : Instruction) (bytes : List ℕ) : Type 0 where
  pub again : List ℕ
  pub spelled : SpellsInsn pc (insn_of entries place_too instruction) again
  pub long : length again ≡ length bytes

pub insn_again : (pc : ℕ) (place place_too : Label → ℕ) (entries : List Entry) (instruction : Instruction) (bytes : List ℕ)
    → AllByRecursion (IsNear pc place place_too) (labels_of instruction.operand) → SpellsInsn pc (insn_of entries place instruction) bytes → InsnAgain pc place_too entries instruction bytes
insn_again pc place place_too entries instruction bytes near (behind, split, spelled) = of (head_form instruction.wide instruction.opcode) refl spelled where
  of : (form : Option Form) → head_form instruction.wide instruction.opcode ≡ form → SpellsIn pc form (operand_of entries place instruction.opcode instruction.operand) behind → InsnAgain pc place_too entries instruction bytes
  of None is spelled = absurd spelled
  of (Some form) is spelled =
      let operand = operand_again pc place place_too entries form instruction.opcode instruction.operand behind near spelled in
      let head = head_bytes instruction.wide instruction.opcode in
      record {
        again = head ++ operand.again;
        spelled = (operand.again, refl, subst (λ form. SpellsIn pc form (operand_of entries place_too instruction.opcode instruction.operand) operand.again) (sym is) operand.spelled);
        long = omega (arith, ap length split, operand.long, length-append head behind, length-append head operand.again);
      }
