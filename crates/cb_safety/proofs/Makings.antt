-- Which objects an instruction makes, by its opcode and its operand, and the names of their kinds.
use Rattle.std.proofs.Common.{◌≡◌, ◌∙◌, ap, refl, sym, subst, arith, inl, inr, ℕ, zero, suc, ◌+◌, ◌<◌, ◌≤◌, ◌==◌, Bool, true, false, not, List, [], ◌∷◌, length, take, Option, Some, None, option_map, slice_get, nat_le, nat_lt, if◌then◌else◌}
use Rattle.std.specs.List.{list_all, prefix_len, range_with_len}
use Rattle.std.proofs.lemmas.Bool.{cases_lt, eqb-true, false≢true, le-ltb, leb-true}
use Rattle.std.proofs.lemmas.Option.{same_Some}
use Rattle.cb_classfile.specs.declared.method.Method.{Method}
use Rattle.cb_insn.specs.declared.insn.Insn.{Insn}
use Rattle.cb_insn.specs.declared.insn.Operand.{Operand}
use Rattle.cb_insn.specs.declared.insn.Operand.TheVariants as operands
use Rattle.cb_insn.specs.declared.opcode.TheConstants as opcodes
use Rattle.cb_kinds.specs.Kinds.{kinds_of_type}
use Rattle.cb_link.specs.Making.{made_by}
use Rattle.cb_link.specs.Named.{code_at, code_of, insn_in, made_at}
use Rattle.cb_link.specs.Numbers.{Numbered, methods_of}
use Rattle.cb_link.specs.Program.{Linked}
use Rattle.cb_names.specs.Signs.{bracket}
use Rattle.cb_shapes.specs.Control.{condition_of}
use Rattle.cb_shapes.specs.References.{by_constant, reference}
use Rattle.cb_shapes.specs.Shapes.{action_of, done_by}
use Rattle.cb_shapes.specs.declared.action.Action.{Action}
use Rattle.cb_shapes.specs.declared.action.Action.TheVariants as actions
use Rattle.cb_verify.specs.Rules.{dimensions_of}
use Rattle.cb_safety.proofs.Assigned.{mapped, never}
use Rattle.cb_safety.proofs.Searching.{all_pass}
use Rattle.cb_safety.proofs.Spelled.{from_zero, split_if}

-- ---- by opcode and operand

abbrev pub is_making : Option Action → Bool
is_making (Some (actions.New index)) = true
is_making (Some (actions.NewNumbers code)) = true
is_making (Some (actions.NewReferences index)) = true
is_making (Some (actions.NewArrays index dimensions)) = true
is_making other = false

pub data Makes (opcode : ℕ) : Operand → Action → Type 0 where
  AnObject : (index : ℕ) → (opcode == opcodes.NEW) ≡ true → Makes opcode (operands.Pool index) (actions.New index)
  Numbers : (code : ℕ) → Makes opcode (operands.ArrayCode code) (actions.NewNumbers code)
  References : (index : ℕ) → (opcode == opcodes.ANEWARRAY) ≡ true → Makes opcode (operands.Pool index) (actions.NewReferences index)
  Arrays : (index dimensions : ℕ) → Makes opcode (operands.Dimensions index dimensions) (actions.NewArrays index dimensions)

-- none of those before getstatic makes an object
abbrev silent_at : Operand → ℕ → Bool
silent_at operand opcode = not (is_making (done_by opcode operand))

all_silent : (operand : Operand) → list_all (silent_at operand) (range_with_len 0 opcodes.GETSTATIC) ≡ true
all_silent operands.Nothing = refl
all_silent other = refl

above : (opcode bound : ℕ) (one other result : Option Action) → opcodes.GETSTATIC ≤ opcode → nat_le bound opcodes.GETSTATIC ≡ true → other ≡ result
    → (if nat_lt opcode bound then one else other) ≡ result
above opcode bound one other result high low is =
    ap (λ (test : Bool). if test then one else other) (le-ltb opcode bound (omega (arith, high, leb-true bound opcodes.GETSTATIC low))) ∙ is

abbrev from_references : ℕ → Operand → Option Action
from_references opcode operand = if nat_lt opcode opcodes.IFNULL then reference opcode operand else option_map actions.Branch (condition_of opcode)

pub high_done : (opcode : ℕ) (operand : Operand) → opcodes.GETSTATIC ≤ opcode → done_by opcode operand ≡ from_references opcode operand
high_done opcode operand high =
    above opcode opcodes.ILOAD _ _ _ high refl
    (above opcode opcodes.IALOAD _ _ _ high refl
    (above opcode opcodes.ISTORE _ _ _ high refl
    (above opcode opcodes.IASTORE _ _ _ high refl
    (above opcode opcodes.POP _ _ _ high refl
    (above opcode opcodes.IADD _ _ _ high refl
    (above opcode opcodes.I2L _ _ _ high refl
    (above opcode opcodes.IFEQ _ _ _ high refl
    (above opcode opcodes.TABLESWITCH _ _ _ high refl
    (above opcode opcodes.GETSTATIC _ _ _ high refl refl)))))))))

by_reference : (opcode : ℕ) (operand : Operand) (action : Action) → is_making (Some action) ≡ true → done_by opcode operand ≡ Some action → reference opcode operand ≡ Some action
by_reference opcode operand action is so = elim (cases_lt opcode opcodes.GETSTATIC) [
  | inl low ↦
      let silent : not (is_making (done_by opcode operand)) ≡ true =
      from_zero (λ (opcode : ℕ). silent_at operand opcode ≡ true) opcodes.GETSTATIC opcode (all_pass (silent_at operand) (range_with_len 0 opcodes.GETSTATIC) (all_silent operand)) low in
      absurd (false≢true (sym (ap (λ (found : Option Action). not (is_making found)) so ∙ ap not is) ∙ silent))
  | inr high ↦ go (nat_lt opcode opcodes.IFNULL) (sym (high_done opcode operand high) ∙ so)
]
  where
    go : (test : Bool) → (if test then reference opcode operand else option_map actions.Branch (condition_of opcode)) ≡ Some action → reference opcode operand ≡ Some action
    go true so = so
    go false so =
        mapped actions.Branch (condition_of opcode) action so
        (λ condition found same. absurd (false≢true (ap (λ (own : Action). is_making (Some own)) same ∙ is)))

pub skip : (test : Bool) (one other : Option Action) (action : Action) → is_making one ≡ false → is_making (Some action) ≡ true → (if test then one else other) ≡ Some action → other ≡ Some action
skip true one other action quiet is so = absurd (false≢true (sym quiet ∙ ap is_making so ∙ is))
skip false one other action quiet is so = so

makes_constant : (opcode index : ℕ) (action : Action) → is_making (Some action) ≡ true → by_constant opcode index ≡ Some action → Makes opcode (operands.Pool index) action
makes_constant opcode index action is so =
    new_or
    (skip (opcode == opcodes.INVOKESTATIC) _ _ action refl is
    (skip (opcode == opcodes.INVOKESPECIAL) _ _ action refl is
    (skip (opcode == opcodes.INVOKEVIRTUAL) _ _ action refl is
    (skip (opcode == opcodes.PUTFIELD) _ _ action refl is
    (skip (opcode == opcodes.GETFIELD) _ _ action refl is
    (skip (opcode == opcodes.PUTSTATIC) _ _ action refl is
    (skip (opcode == opcodes.GETSTATIC) _ _ action refl is so)))))))
  where
    from_casts : Option Action
    from_casts = if opcode == opcodes.CHECKCAST then Some (actions.Cast index) else if opcode == opcodes.INSTANCEOF then Some (actions.IsInstance index) else None

    no_cast : from_casts ≡ Some action → Makes opcode (operands.Pool index) action
    no_cast so =
        never (skip (opcode == opcodes.INSTANCEOF) (Some (actions.IsInstance index)) None action refl is
        (skip (opcode == opcodes.CHECKCAST) (Some (actions.Cast index)) (if opcode == opcodes.INSTANCEOF then Some (actions.IsInstance index) else None) action refl is so))

    array_or : (if opcode == opcodes.ANEWARRAY then Some (actions.NewReferences index) else from_casts) ≡ Some action → Makes opcode (operands.Pool index) action
    array_or so = elim (split_if (opcode == opcodes.ANEWARRAY) (Some (actions.NewReferences index)) from_casts action so) [
      | inl both ↦ subst (Makes opcode (operands.Pool index)) (same_Some (actions.NewReferences index) action both.1) (Makes.References index both.0)
      | inr other ↦ no_cast other
    ]

    new_or : (if opcode == opcodes.NEW then Some (actions.New index) else if opcode == opcodes.ANEWARRAY then Some (actions.NewReferences index) else from_casts) ≡ Some action
        → Makes opcode (operands.Pool index) action
    new_or so = elim (split_if (opcode == opcodes.NEW) (Some (actions.New index)) (if opcode == opcodes.ANEWARRAY then Some (actions.NewReferences index) else from_casts) action so) [
      | inl both ↦ subst (Makes opcode (operands.Pool index)) (same_Some (actions.New index) action both.1) (Makes.AnObject index both.0)
      | inr other ↦ array_or other
    ]

makes_reference : (opcode : ℕ) (operand : Operand) (action : Action) → is_making (Some action) ≡ true → reference opcode operand ≡ Some action → Makes opcode operand action
makes_reference opcode (operands.Pool index) action is so = makes_constant opcode index action is so
makes_reference opcode (operands.Interface index count) action is so = absurd (false≢true (ap is_making so ∙ is))
makes_reference opcode (operands.ArrayCode code) action is so =
    subst (Makes opcode (operands.ArrayCode code)) (same_Some (actions.NewNumbers code) action so) (Makes.Numbers code)
makes_reference opcode (operands.Dimensions index dimensions) action is so =
    subst (Makes opcode (operands.Dimensions index dimensions)) (same_Some (actions.NewArrays index dimensions) action so) (Makes.Arrays index dimensions)
makes_reference opcode operands.Nothing action is so =
    never (skip (opcode == opcodes.ATHROW) (Some actions.Throw) None action refl is
    (skip (opcode == opcodes.ARRAYLENGTH) (Some actions.Length) (if opcode == opcodes.ATHROW then Some actions.Throw else None) action refl is so))
makes_reference opcode other action is so = never so

pub makes_of : (insn : Insn) (action : Action) → is_making (Some action) ≡ true → action_of insn ≡ Some action → Makes insn.opcode insn.operand action
makes_of insn action is so = makes_reference insn.opcode insn.operand action is (by_reference insn.opcode insn.operand action is so)

-- ---- the names of what an instruction of a program makes

pub record IsMade (program : Linked) (number pc : ℕ) (insn : Insn) : Type 0 where
  pub own : Numbered Method
  pub there : slice_get (methods_of program.classes) number ≡ Some own
  pub is : made_at program number pc ≡ made_by own.pool insn

pub made_is : (program : Linked) (number pc : ℕ) (insn : Insn) → insn_in (code_at program number) pc ≡ Some insn → IsMade program number pc insn
made_is program number pc insn there = go (slice_get (methods_of program.classes) number) refl there
  where
    go : (found : Option (Numbered Method)) → slice_get (methods_of program.classes) number ≡ found → insn_in (code_of found) pc ≡ Some insn → IsMade program number pc insn
    go None told there = never there
    go (Some own) told there = record { own = own; there = told; is = rw (told, there) refl }

-- ---- arrays of arrays

-- the name at a dimension is an array's, whose components have the next name
pub record Nested (names : List (List ℕ)) (count dimension : ℕ) : Type 0 where
  pub rest : List ℕ
  pub here : slice_get names dimension ≡ Some (bracket ∷ rest)
  pub next : dimension + 1 < count → slice_get names (dimension + 1) ≡ Some rest

first_bracket : (rest : List ℕ) (count : ℕ) → 0 < count → slice_get (take count (kinds_of_type (bracket ∷ rest))) 0 ≡ Some (bracket ∷ rest)
first_bracket rest zero some = absurd (omega (arith, some))
first_bracket rest (suc count) some = refl

no_bracket : (unit : ℕ) (rest : List ℕ) → (unit == bracket) ≡ false → dimensions_of (unit ∷ rest) ≡ 0
no_bracket unit rest is = rw is refl

first_of : (name : List ℕ) (count : ℕ) → count ≤ dimensions_of name → 0 < count → slice_get (take count (kinds_of_type name)) 0 ≡ Some name
first_of [] count low some = absurd (omega (arith, low, some))
first_of (unit ∷ rest) count low some = by (unit == bracket) refl
  where
    by : (test : Bool) → (unit == bracket) ≡ test → slice_get (take count (kinds_of_type (unit ∷ rest))) 0 ≡ Some (unit ∷ rest)
    by true is =
        subst (λ (unit : ℕ). slice_get (take count (kinds_of_type (unit ∷ rest))) 0 ≡ Some (unit ∷ rest)) (sym (eqb-true unit bracket is)) (first_bracket rest count some)
    by false is = absurd (omega (arith, low, no_bracket unit rest is, some))

nested_later : (name : List ℕ) (names : List (List ℕ)) (count dimension : ℕ) → Nested names count dimension → Nested (name ∷ names) (suc count) (suc dimension)
nested_later name names count dimension nested = record {
  rest = nested.rest;
  here = nested.here;
  next = λ low.
      ap (slice_get (name ∷ names)) (let same : suc dimension + 1 ≡ suc (dimension + 1) = omega arith in same) ∙ nested.next (omega (arith, low));
}

bracket_more : (rest : List ℕ) → dimensions_of (bracket ∷ rest) ≡ suc (dimensions_of rest)
bracket_more rest =
    ap (λ (count : ℕ). length (take count (bracket ∷ rest)))
    (let same : 1 + prefix_len (λ (unit : ℕ). unit == bracket) rest ≡ suc (prefix_len (λ (unit : ℕ). unit == bracket) rest) = omega arith in same)

nested_if : (unit : ℕ) (rest : List ℕ) (count dimension : ℕ) → count ≤ dimensions_of (unit ∷ rest) → dimension < count
    → (count ≤ suc (dimensions_of rest) → Nested (take count (kinds_of_type (bracket ∷ rest))) count dimension) → Nested (take count (kinds_of_type (unit ∷ rest))) count dimension
nested_if unit rest count dimension low short follows = by (unit == bracket) refl
  where
    by : (test : Bool) → (unit == bracket) ≡ test → Nested (take count (kinds_of_type (unit ∷ rest))) count dimension
    by true is =
        subst (λ (unit : ℕ). Nested (take count (kinds_of_type (unit ∷ rest))) count dimension) (sym (eqb-true unit bracket is))
        (follows (subst (λ (most : ℕ). count ≤ most) (bracket_more rest) (subst (λ (unit : ℕ). count ≤ dimensions_of (unit ∷ rest)) (eqb-true unit bracket is) low)))
    by false is = absurd (omega (arith, low, no_bracket unit rest is, short))

pub nested_of : (name : List ℕ) (count dimension : ℕ) → count ≤ dimensions_of name → dimension < count → Nested (take count (kinds_of_type name)) count dimension
nested_of [] count dimension low short = absurd (omega (arith, low, short))
nested_of (unit ∷ rest) zero dimension low short = absurd (omega (arith, short))
nested_of (unit ∷ rest) (suc count) zero low short =
    nested_if unit rest (suc count) zero low short
    (λ low. record { rest = rest; here = refl; next = λ more. first_of rest count (omega (arith, low)) (omega (arith, more)) })
nested_of (unit ∷ rest) (suc count) (suc dimension) low short =
    nested_if unit rest (suc count) (suc dimension) low short
    (λ low. nested_later (bracket ∷ rest) (take count (kinds_of_type rest)) count dimension (nested_of rest count dimension (omega (arith, low)) (omega (arith, short))))
