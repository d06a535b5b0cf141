-- What the bytes of code say of the operands of its instructions: a branch and a switch have targets, and constants fit.
use Rattle.std.proofs.Common.{◌≡◌, ◌∙◌, ap, refl, sym, subst, arith, lt_of_lt_of_le, pow_mono, ◌⊎◌, inl, inr, ℕ, zero, suc, ℤ, pos, ◌-ℤ◌, ◌+◌, ◌<◌, ◌≤◌, ◌^◌, ◌==◌, Bool, true, false, ◌&&◌, List, [], ◌∷◌, length, Option, Some, None, option_and_then, option_map, nat_lt, nat_le, if◌then◌else◌, FitsSigned, unsigned_abs}
use Rattle.std.specs.Int.{Width, w8, w16, w32, w64}
use Rattle.std.specs.List.{AllByRecursion, find, list_all, range_with_len}
use Rattle.std.proofs.lemmas.Bool.{and_parts, cases_lt, false≢true, le-ltb, leb-true, ltb-true}
use Rattle.std.proofs.lemmas.Int.{fits_signed_from_abs}
use mir.Val.{hbits}
use Rattle.cb_insn.specs.Forms.{form_of, head_form, wide_form_of, widened}
use Rattle.cb_insn.specs.Grammar.{SpellsCode, SpellsFrom, SpellsIn, SpellsInsn}
use Rattle.cb_insn.specs.declared.form.Form.{Form}
use Rattle.cb_insn.specs.declared.form.Form.TheVariants as forms
use Rattle.cb_insn.specs.declared.insn.Insn.{Insn}
use Rattle.cb_insn.specs.declared.insn.Operand.{Operand}
use Rattle.cb_insn.specs.declared.insn.Operand.TheVariants as operands
use Rattle.cb_insn.specs.declared.insn.Pair.{Pair}
use Rattle.cb_insn.specs.declared.opcode.TheConstants as opcodes
use Rattle.cb_link.specs.Named.{code_at, insn_in}
use Rattle.cb_link.specs.Program.{Linked}
use Rattle.cb_shapes.specs.Constants.{by_operand, constant}
use Rattle.cb_shapes.specs.Control.{condition_of, leaving}
use Rattle.cb_shapes.specs.Math.{conversion, math}
use Rattle.cb_shapes.specs.Moves.{load, load_element, shuffle_of, store, store_element}
use Rattle.cb_shapes.specs.References.{reference}
use Rattle.cb_shapes.specs.Shapes.{action_of}
use Rattle.cb_shapes.specs.declared.action.Action.{Action}
use Rattle.cb_shapes.specs.declared.action.Action.TheVariants as actions
use Rattle.cb_shapes.specs.declared.computation.Computation.{Computation}
use Rattle.cb_shapes.specs.declared.computation.Computation.TheVariants as computations
use Rattle.cb_shapes.specs.declared.test.Condition.{Condition}
use Rattle.cb_safety.specs.Advancing.{IsSpelled}
use Rattle.cb_safety.proofs.Assigned.{mapped}
use Rattle.cb_safety.proofs.Searching.{all_pass, found_all, position_found}

-- ---- an instruction of code that is spelled is spelled

abbrev pub IsInsn : Insn → Type 0
IsInsn insn = (place : ℕ) × (bytes : List ℕ) × SpellsInsn place insn bytes

all_spelled : (pc : ℕ) (code : List (ℕ × Insn)) (bytes : List ℕ) → SpellsFrom pc code bytes → AllByRecursion (λ placed. IsInsn placed.1) code
all_spelled pc [] bytes is = tt
all_spelled pc ((place, insn) ∷ code) bytes (first, rest, at, spelled, is, more) = ((pc, first, spelled), all_spelled (pc + length first) code rest more)

spelled_in : (code : List (ℕ × Insn)) (bytes : List ℕ) (pc : ℕ) (insn : Insn) → SpellsCode code bytes → insn_in code pc ≡ Some insn → IsInsn insn
spelled_in code bytes pc insn spelled there =
    mapped (λ (placed : ℕ × Insn). placed.1) (find (λ (placed : ℕ × Insn). placed.0 == pc) code) insn
    (sym (ap (option_map (λ (placed : ℕ × Insn). placed.1)) (position_found (λ (placed : ℕ × Insn). placed.0 == pc) code)) ∙ there)
    (λ placed found same. subst IsInsn same
    (found_all (λ (placed : ℕ × Insn). IsInsn placed.1) (λ (placed : ℕ × Insn). placed.0 == pc) code placed (all_spelled 0 code bytes spelled.spelled) found))

pub insn_spelled : (program : Linked) (number pc : ℕ) (insn : Insn) → IsSpelled program → insn_in (code_at program number) pc ≡ Some insn → IsInsn insn
insn_spelled program number pc insn spelled there = let (bytes, spells) = spelled number in spelled_in (code_at program number) bytes pc insn spells there

-- ---- by which opcodes an instruction goes elsewhere or names a constant

pub data Way : Type 0 where
  Jumps : Way
  Switches : Way
  Counts : Way
  Others : Way

abbrev way_of : Computation → Way
way_of (computations.IntConstant number) = Way.Counts
way_of (computations.LongConstant number) = Way.Counts
way_of other = Way.Others

abbrev way : Option Action → Way
way (Some (actions.Branch condition)) = Way.Jumps
way (Some actions.Switch) = Way.Switches
way (Some (actions.Compute computation)) = way_of computation
way other = Way.Others

-- those behind the constants
abbrev behind : ℕ → Operand → Option Action
behind opcode operand =
    if nat_lt opcode opcodes.IALOAD then load opcode operand
    else if nat_lt opcode opcodes.ISTORE then load_element opcode
    else if nat_lt opcode opcodes.IASTORE then store opcode operand
    else if nat_lt opcode opcodes.POP then store_element opcode
    else if nat_lt opcode opcodes.IADD then option_map actions.Shuffle (shuffle_of opcode)
    else if nat_lt opcode opcodes.I2L then math opcode operand
    else if nat_lt opcode opcodes.IFEQ then option_map actions.Compute (conversion opcode)
    else if nat_lt opcode opcodes.TABLESWITCH then option_map actions.Branch (condition_of opcode)
    else if nat_lt opcode opcodes.GETSTATIC then leaving opcode
    else if nat_lt opcode opcodes.IFNULL then reference opcode operand
    else option_map actions.Branch (condition_of opcode)

-- ---- by the forms of operands

abbrev agrees : Option Form → Way → Bool
agrees None way = true
agrees (Some form) Way.Others = true
agrees (Some forms.Branch) Way.Jumps = true
agrees (Some forms.LongBranch) Way.Jumps = true
agrees (Some forms.Table) Way.Switches = true
agrees (Some forms.Lookup) Way.Switches = true
agrees (Some form) way = false

-- behind the last opcode that has a form, which is jsr_w
abbrev opcodes_end : ℕ
opcodes_end = 202

abbrev agrees_at : Operand → ℕ → Bool
agrees_at operand opcode = agrees (form_of opcode) (way (behind opcode operand)) && agrees (wide_form_of opcode) (way (behind opcode operand))

all_agree : (operand : Operand) → list_all (agrees_at operand) (range_with_len 0 opcodes_end) ≡ true
all_agree operands.Nothing = refl
all_agree other = refl

pub in_range : (P : ℕ → Type 0) (from count number : ℕ) → AllByRecursion P (range_with_len from count) → number < count → P (from + number)
in_range P from zero number all low = absurd (omega (arith, low))
in_range P from (suc count) zero all low = subst P (let same : from ≡ from + 0 = omega arith in same) all.0
in_range P from (suc count) (suc number) all low =
    subst P (let same : from + 1 + number ≡ from + suc number = omega arith in same) (in_range P (from + 1) count number all.1 (omega (arith, low)))

pub from_zero : (P : ℕ → Type 0) (count number : ℕ) → AllByRecursion P (range_with_len 0 count) → number < count → P number
from_zero P count number all low = subst P (let same : 0 + number ≡ number = omega arith in same) (in_range P 0 count number all low)

past : (opcode bound : ℕ) (one other : Option Form) → opcodes_end ≤ opcode → nat_le bound opcodes_end ≡ true → other ≡ None → (if nat_lt opcode bound then one else other) ≡ None
past opcode bound one other high low is =
    ap (λ (test : Bool). if test then one else other) (le-ltb opcode bound (omega (arith, high, leb-true bound opcodes_end low))) ∙ is

past_last : (opcode : ℕ) → opcodes_end ≤ opcode → (if nat_le opcode opcodes.JSR_W then Some forms.LongBranch else None) ≡ None
past_last opcode high = by (nat_le opcode opcodes.JSR_W) refl
  where
    by : (test : Bool) → nat_le opcode opcodes.JSR_W ≡ test → (if test then Some forms.LongBranch else None) ≡ None
    by true low = absurd (omega (arith, high, leb-true opcode opcodes.JSR_W low))
    by false low = refl

no_form : (opcode : ℕ) → opcodes_end ≤ opcode → form_of opcode ≡ None
no_form opcode high =
    past opcode opcodes.BIPUSH _ _ high refl
    (past opcode opcodes.SIPUSH _ _ high refl
    (past opcode opcodes.LDC _ _ high refl
    (past opcode opcodes.LDC_W _ _ high refl
    (past opcode opcodes.ILOAD _ _ high refl
    (past opcode opcodes.ILOAD_0 _ _ high refl
    (past opcode opcodes.ISTORE _ _ high refl
    (past opcode opcodes.ISTORE_0 _ _ high refl
    (past opcode opcodes.IINC _ _ high refl
    (past opcode opcodes.I2L _ _ high refl
    (past opcode opcodes.IFEQ _ _ high refl
    (past opcode opcodes.RET _ _ high refl
    (past opcode opcodes.TABLESWITCH _ _ high refl
    (past opcode opcodes.LOOKUPSWITCH _ _ high refl
    (past opcode opcodes.IRETURN _ _ high refl
    (past opcode opcodes.GETSTATIC _ _ high refl
    (past opcode opcodes.INVOKEINTERFACE _ _ high refl
    (past opcode opcodes.INVOKEDYNAMIC _ _ high refl
    (past opcode opcodes.NEW _ _ high refl
    (past opcode opcodes.NEWARRAY _ _ high refl
    (past opcode opcodes.ANEWARRAY _ _ high refl
    (past opcode opcodes.ARRAYLENGTH _ _ high refl
    (past opcode opcodes.CHECKCAST _ _ high refl
    (past opcode opcodes.MONITORENTER _ _ high refl
    (past opcode opcodes.WIDE _ _ high refl
    (past opcode opcodes.MULTIANEWARRAY _ _ high refl
    (past opcode opcodes.IFNULL _ _ high refl
    (past opcode opcodes.GOTO_W _ _ high refl (past_last opcode high))))))))))))))))))))))))))))

low_agrees : (wide : Bool) (opcode : ℕ) (operand : Operand) → agrees_at operand opcode ≡ true → agrees (head_form wide opcode) (way (behind opcode operand)) ≡ true
low_agrees true opcode operand both = (and_parts (agrees (form_of opcode) (way (behind opcode operand))) (agrees (wide_form_of opcode) (way (behind opcode operand))) both).1
low_agrees false opcode operand both = (and_parts (agrees (form_of opcode) (way (behind opcode operand))) (agrees (wide_form_of opcode) (way (behind opcode operand))) both).0

high_form : (wide : Bool) (opcode : ℕ) → opcodes_end ≤ opcode → head_form wide opcode ≡ None
high_form true opcode high = ap (option_and_then widened) (no_form opcode high)
high_form false opcode high = no_form opcode high

way_agrees : (wide : Bool) (opcode : ℕ) (operand : Operand) → agrees (head_form wide opcode) (way (behind opcode operand)) ≡ true
way_agrees wide opcode operand = elim (cases_lt opcode opcodes_end) [
  | inl low ↦
      low_agrees wide opcode operand
      (from_zero (λ (opcode : ℕ). agrees_at operand opcode ≡ true) opcodes_end opcode (all_pass (agrees_at operand) (range_with_len 0 opcodes_end) (all_agree operand)) low)
  | inr high ↦ ap (λ (form : Option Form). agrees form (way (behind opcode operand))) (high_form wide opcode high)
]

-- ---- constants

pub fits_in : (narrow wide : Width) (number : ℤ) → hbits narrow ≤ hbits wide → FitsSigned narrow number → FitsSigned wide number
fits_in narrow wide number low fits = record { sfits = lt_of_lt_of_le fits.sfits (pow_mono low) }

abbrev pub ConstantFits : Computation → Type 0
ConstantFits (computations.IntConstant number) = FitsSigned w32 number
ConstantFits (computations.LongConstant number) = FitsSigned w64 number
ConstantFits other = Unit {0}

abbrev Fine : Option Action → Type 0
Fine (Some (actions.Compute computation)) = ConstantFits computation
Fine other = Unit {0}

fine_if : (test : Bool) (one other : Option Action) → (test ≡ true → Fine one) → Fine other → Fine (if test then one else other)
fine_if true one other is two = is refl
fine_if false one other is two = two

abbrev NumberFits : Operand → Type 0
NumberFits (operands.Number number) = FitsSigned w32 number
NumberFits other = Unit {0}

number_fits : (pc : ℕ) (form : Option Form) (operand : Operand) (bytes : List ℕ) → SpellsIn pc form operand bytes → NumberFits operand
number_fits pc None operand bytes spelled = absurd spelled
number_fits pc (Some forms.Byte) (operands.Number number) bytes spelled = fits_in w8 w32 number (omega arith) spelled.0
number_fits pc (Some forms.Short) (operands.Number number) bytes spelled = fits_in w16 w32 number (omega arith) spelled.0
number_fits pc (Some form) (operands.Number number) bytes spelled = absurd spelled
number_fits pc (Some form) operand bytes spelled = tt

by_operand_fine : (operand : Operand) → NumberFits operand → Fine (by_operand operand)
by_operand_fine (operands.Number number) fits = fits
by_operand_fine (operands.Pool index) fits = tt
by_operand_fine other fits = tt

-- the constants that opcodes name
abbrev small : ℕ
small = 16

abbrev is_small : ℤ → Bool
is_small number = nat_lt (unsigned_abs number) small

small_fits : (width : Width) (number : ℤ) → small ≤ 2 ^ hbits width → is_small number ≡ true → FitsSigned width number
small_fits width number wide is = fits_signed_from_abs width number (lt_of_lt_of_le (ltb-true (unsigned_abs number) small is) wide)

int_small : list_all (λ opcode. is_small (pos opcode -ℤ pos opcodes.ICONST_0)) (range_with_len 0 opcodes.LCONST_0) ≡ true
int_small = refl

long_small : list_all (λ opcode. is_small (pos opcode -ℤ pos opcodes.LCONST_0)) (range_with_len 0 opcodes.FCONST_0) ≡ true
long_small = refl

int_named : (opcode : ℕ) → nat_le opcode opcodes.ICONST_5 ≡ true → FitsSigned w32 (pos opcode -ℤ pos opcodes.ICONST_0)
int_named opcode low =
    small_fits w32 (pos opcode -ℤ pos opcodes.ICONST_0) (omega arith)
    (from_zero (λ (opcode : ℕ). is_small (pos opcode -ℤ pos opcodes.ICONST_0) ≡ true) opcodes.LCONST_0 opcode
    (all_pass (λ (opcode : ℕ). is_small (pos opcode -ℤ pos opcodes.ICONST_0)) (range_with_len 0 opcodes.LCONST_0) int_small) (omega (arith, leb-true opcode opcodes.ICONST_5 low)))

long_named : (opcode : ℕ) → nat_le opcode opcodes.LCONST_1 ≡ true → FitsSigned w64 (pos opcode -ℤ pos opcodes.LCONST_0)
long_named opcode low =
    small_fits w64 (pos opcode -ℤ pos opcodes.LCONST_0) (omega arith)
    (from_zero (λ (opcode : ℕ). is_small (pos opcode -ℤ pos opcodes.LCONST_0) ≡ true) opcodes.FCONST_0 opcode
    (all_pass (λ (opcode : ℕ). is_small (pos opcode -ℤ pos opcodes.LCONST_0)) (range_with_len 0 opcodes.FCONST_0) long_small) (omega (arith, leb-true opcode opcodes.LCONST_1 low)))

abbrev pushed : ℕ → Operand → Option Action
pushed opcode operand = if nat_le opcodes.BIPUSH opcode then by_operand operand else None

abbrev from_longs : ℕ → Operand → Option Action
from_longs opcode operand =
    if nat_le opcode opcodes.LCONST_1 then Some (actions.Compute (computations.LongConstant (pos opcode -ℤ pos opcodes.LCONST_0))) else pushed opcode operand

abbrev from_ints : ℕ → Operand → Option Action
from_ints opcode operand =
    if nat_le opcode opcodes.ICONST_5 then Some (actions.Compute (computations.IntConstant (pos opcode -ℤ pos opcodes.ICONST_0))) else from_longs opcode operand

abbrev from_null : ℕ → Operand → Option Action
from_null opcode operand = if opcode == opcodes.ACONST_NULL then Some actions.Null else from_ints opcode operand

constant_fine : (opcode : ℕ) (operand : Operand) → NumberFits operand → Fine (constant opcode operand)
constant_fine opcode operand fits =
    fine_if (opcode == opcodes.NOP) (Some (actions.Compute computations.Nothing)) (from_null opcode operand) (λ is. tt)
    (fine_if (opcode == opcodes.ACONST_NULL) (Some actions.Null) (from_ints opcode operand) (λ is. tt)
    (fine_if (nat_le opcode opcodes.ICONST_5) (Some (actions.Compute (computations.IntConstant (pos opcode -ℤ pos opcodes.ICONST_0)))) (from_longs opcode operand) (int_named opcode)
    (fine_if (nat_le opcode opcodes.LCONST_1) (Some (actions.Compute (computations.LongConstant (pos opcode -ℤ pos opcodes.LCONST_0)))) (pushed opcode operand) (long_named opcode)
    (fine_if (nat_le opcodes.BIPUSH opcode) (by_operand operand) None (λ is. by_operand_fine operand fits) tt))))

-- and none of them goes elsewhere
abbrev stays : Way → Bool
stays Way.Jumps = false
stays Way.Switches = false
stays kind = true

abbrev stays_at : Operand → ℕ → Bool
stays_at operand opcode = stays (way (constant opcode operand))

all_stay : (operand : Operand) → list_all (stays_at operand) (range_with_len 0 opcodes.ILOAD) ≡ true
all_stay operands.Nothing = refl
all_stay other = refl

constant_stays : (opcode : ℕ) (operand : Operand) → nat_lt opcode opcodes.ILOAD ≡ true → stays_at operand opcode ≡ true
constant_stays opcode operand low =
    from_zero (λ (opcode : ℕ). stays_at operand opcode ≡ true) opcodes.ILOAD opcode (all_pass (stays_at operand) (range_with_len 0 opcodes.ILOAD) (all_stay operand)) (ltb-true opcode opcodes.ILOAD low)

-- ---- what is said of operands

pub split_if : (test : Bool) (one other : Option Action) (action : Action) → (if test then one else other) ≡ Some action
    → ((test ≡ true) × (one ≡ Some action)) ⊎ (other ≡ Some action)
split_if true one other action so = inl (refl, so)
split_if false one other action so = inr so

in_two : (insn : Insn) (action : Action) → action_of insn ≡ Some action
    → ((nat_lt insn.opcode opcodes.ILOAD ≡ true) × (constant insn.opcode insn.operand ≡ Some action)) ⊎ (behind insn.opcode insn.operand ≡ Some action)
in_two insn action so = split_if (nat_lt insn.opcode opcodes.ILOAD) (constant insn.opcode insn.operand) (behind insn.opcode insn.operand) action so

agreed : (insn : Insn) (action : Action) → behind insn.opcode insn.operand ≡ Some action → agrees (head_form insn.wide insn.opcode) (way (Some action)) ≡ true
agreed insn action so =
    ap (agrees (head_form insn.wide insn.opcode)) (sym (ap way so)) ∙ way_agrees insn.wide insn.opcode insn.operand

stuck : {P : Type 0} (insn : Insn) (action : Action) → stays (way (Some action)) ≡ false → (nat_lt insn.opcode opcodes.ILOAD ≡ true) × (constant insn.opcode insn.operand ≡ Some action) → P
stuck insn action goes so =
    absurd (false≢true (sym goes ∙ sym (ap (λ (found : Option Action). stays (way found)) so.1) ∙ constant_stays insn.opcode insn.operand so.0))

pub data IsBranch : Operand → Type 0 where
  ABranch : (target : ℕ) → IsBranch (operands.Branch target)

pub data IsSwitch : Operand → Type 0 where
  ATable : (default : ℕ) → (low : ℤ) → (targets : List ℕ) → IsSwitch (operands.Table default low targets)
  ALookup : (default : ℕ) → (pairs : List Pair) → IsSwitch (operands.Lookup default pairs)

jumps_spelled : (pc : ℕ) (form : Option Form) (operand : Operand) (bytes : List ℕ) → agrees form Way.Jumps ≡ true → SpellsIn pc form operand bytes → IsBranch operand
jumps_spelled pc None operand bytes agree spelled = absurd spelled
jumps_spelled pc (Some forms.Branch) (operands.Branch target) bytes agree spelled = IsBranch.ABranch target
jumps_spelled pc (Some forms.LongBranch) (operands.Branch target) bytes agree spelled = IsBranch.ABranch target
jumps_spelled pc (Some forms.Branch) operand bytes agree spelled = absurd spelled
jumps_spelled pc (Some forms.LongBranch) operand bytes agree spelled = absurd spelled
jumps_spelled pc (Some form) operand bytes agree spelled = absurd (false≢true agree)

switches_spelled : (pc : ℕ) (form : Option Form) (operand : Operand) (bytes : List ℕ) → agrees form Way.Switches ≡ true → SpellsIn pc form operand bytes → IsSwitch operand
switches_spelled pc None operand bytes agree spelled = absurd spelled
switches_spelled pc (Some forms.Table) (operands.Table default low targets) bytes agree spelled = IsSwitch.ATable default low targets
switches_spelled pc (Some forms.Lookup) (operands.Lookup default pairs) bytes agree spelled = IsSwitch.ALookup default pairs
switches_spelled pc (Some forms.Table) operand bytes agree spelled = absurd spelled
switches_spelled pc (Some forms.Lookup) operand bytes agree spelled = absurd spelled
switches_spelled pc (Some form) operand bytes agree spelled = absurd (false≢true agree)

counts_spelled : {P : Type 0} (pc : ℕ) (form : Option Form) (operand : Operand) (bytes : List ℕ) → agrees form Way.Counts ≡ true → SpellsIn pc form operand bytes → P
counts_spelled pc None operand bytes agree spelled = absurd spelled
counts_spelled pc (Some form) operand bytes agree spelled = absurd (false≢true agree)

counted_fits : (pc : ℕ) (form : Option Form) (operand : Operand) (bytes : List ℕ) (computation : Computation) → agrees form (way_of computation) ≡ true
    → SpellsIn pc form operand bytes → ConstantFits computation
counted_fits pc form operand bytes (computations.IntConstant number) agree spelled = counts_spelled pc form operand bytes agree spelled
counted_fits pc form operand bytes (computations.LongConstant number) agree spelled = counts_spelled pc form operand bytes agree spelled
counted_fits pc form operand bytes other agree spelled = tt

module _ (program : Linked) (number pc : ℕ) (insn : Insn) (spelled : IsSpelled program) (there : insn_in (code_at program number) pc ≡ Some insn) where
  -- a branch and a switch have targets
  pub branch_operand : (condition : Condition) → action_of insn ≡ Some (actions.Branch condition) → IsBranch insn.operand
  branch_operand condition so =
      let found : IsInsn insn = insn_spelled program number pc insn spelled there in
      elim (in_two insn (actions.Branch condition) so) [
        | inl early ↦ stuck insn (actions.Branch condition) refl early
        | inr later ↦ jumps_spelled found.0 (head_form insn.wide insn.opcode) insn.operand found.2.0 (agreed insn (actions.Branch condition) later) found.2.2
      ]

  pub switch_operand : action_of insn ≡ Some actions.Switch → IsSwitch insn.operand
  switch_operand so =
      let found : IsInsn insn = insn_spelled program number pc insn spelled there in
      elim (in_two insn actions.Switch so) [
        | inl early ↦ stuck insn actions.Switch refl early
        | inr later ↦ switches_spelled found.0 (head_form insn.wide insn.opcode) insn.operand found.2.0 (agreed insn actions.Switch later) found.2.2
      ]

  -- a constant fits
  pub constant_fits : (computation : Computation) → action_of insn ≡ Some (actions.Compute computation) → ConstantFits computation
  constant_fits computation so =
      let found : IsInsn insn = insn_spelled program number pc insn spelled there in
      elim (in_two insn (actions.Compute computation) so) [
        | inl early ↦ subst Fine early.1 (constant_fine insn.opcode insn.operand (number_fits found.0 (head_form insn.wide insn.opcode) insn.operand found.2.0 found.2.2))
        | inr later ↦ counted_fits found.0 (head_form insn.wide insn.opcode) insn.operand found.2.0 computation (agreed insn (actions.Compute computation) later) found.2.2
      ]
