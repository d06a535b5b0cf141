-- The table of forms, which the checker computes.
use Rattle.std.proofs.Common.{◌≡◌, ℕ, zero, suc, ◌+◌, ◌<◌, Bool, true, false, List, [], ◌∷◌, length, slice_index_or, nat_eq, cond, if◌then◌else◌, Option, Some, None, refl, sym, ◌∙◌, ap, arith}
use Rattle.std.proofs.lemmas.Bool.Decides.{nat_tests}
use Rattle.cb_insn.specs.declared.form.Form.{Form}
use Rattle.cb_insn.specs.declared.form.Form.TheVariants.{Plain, Byte, Short, PoolByte, Pool, Local, WideLocal, Increase, WideIncrease, Branch, LongBranch, ArrayCode, Dimensions, Interface, Dynamic, Table, Lookup}
use Rattle.cb_insn.specs.declared.form_table.TheConstants.{FORMS}
use Rattle.cb_insn.specs.Forms.{form_of}
use Rattle.cb_insn.specs.Inner.{number_of}

-- a number for each entry, and the entry of a number
number : Option Form → ℕ
number None = 0
number (Some form) = suc (number_of form)

form_of_number : ℕ → Option Form
form_of_number n =
    if nat_eq n 1 then Some Plain
    else if nat_eq n 2 then Some Byte
    else if nat_eq n 3 then Some Short
    else if nat_eq n 4 then Some PoolByte
    else if nat_eq n 5 then Some Pool
    else if nat_eq n 6 then Some Local
    else if nat_eq n 7 then Some WideLocal
    else if nat_eq n 8 then Some Increase
    else if nat_eq n 9 then Some WideIncrease
    else if nat_eq n 10 then Some Branch
    else if nat_eq n 11 then Some LongBranch
    else if nat_eq n 12 then Some Table
    else if nat_eq n 13 then Some Lookup
    else if nat_eq n 14 then Some ArrayCode
    else if nat_eq n 15 then Some Dimensions
    else if nat_eq n 16 then Some Interface
    else if nat_eq n 17 then Some Dynamic
    else None

back : (form : Option Form) → form_of_number (number form) ≡ form
unfolding form_of_number number
back None = refl
back (Some Plain) = refl
back (Some Byte) = refl
back (Some Short) = refl
back (Some PoolByte) = refl
back (Some Pool) = refl
back (Some Local) = refl
back (Some WideLocal) = refl
back (Some Increase) = refl
back (Some WideIncrease) = refl
back (Some Branch) = refl
back (Some LongBranch) = refl
back (Some ArrayCode) = refl
back (Some Dimensions) = refl
back (Some Interface) = refl
back (Some Dynamic) = refl
back (Some Table) = refl
back (Some Lookup) = refl

same_number : (m n : ℕ) → nat_eq m n ≡ true → m ≡ n
same_number m n is = grind (arith, nat_tests)

same_form : (one other : Option Form) → nat_eq (number one) (number other) ≡ true → one ≡ other
same_form one other is = sym (back one) ∙ ap form_of_number (same_number (number one) (number other) is) ∙ back other

-- the entries are the forms of the opcodes from one on
are_forms : ℕ → List (Option Form) → Bool
are_forms opcode [] = true
are_forms opcode (form ∷ forms) = cond (nat_eq (number form) (number (form_of opcode))) (are_forms (suc opcode) forms) false

computed : are_forms 0 FORMS ≡ true
unfolding are_forms number
computed = refl

entry_from : (opcode : ℕ) (forms : List (Option Form)) (k : ℕ) → are_forms opcode forms ≡ true → k < length forms → slice_index_or forms k None ≡ form_of (opcode + k)
unfolding are_forms
entry_from opcode [] k all below = absurd (omega arith)
entry_from opcode (form ∷ forms) k all below = by_test (nat_eq (number form) (number (form_of opcode))) refl all k below (λ rest n under. entry_from (suc opcode) forms n rest under) where
  by_test : (test : Bool) → nat_eq (number form) (number (form_of opcode)) ≡ test → cond test (are_forms (suc opcode) forms) false ≡ true → (k : ℕ) → k < length (form ∷ forms) → (are_forms (suc opcode) forms ≡ true → (n : ℕ) → n < length forms → slice_index_or forms n None ≡ form_of (suc opcode + n)) → slice_index_or (form ∷ forms) k None ≡ form_of (opcode + k)
  by_test false is rest k below others = cc
  by_test true is all zero below others = let here : opcode ≡ opcode + 0 = omega arith in same_form form (form_of opcode) is ∙ ap form_of here
  by_test true is all (suc k) below others = let there : suc opcode + k ≡ opcode + suc k = omega arith in others all k (omega arith) ∙ ap form_of there

-- the entry of an opcode is its form
pub entry : (opcode : ℕ) → opcode < 202 → slice_index_or FORMS opcode None ≡ form_of opcode
entry opcode below = let here : 0 + opcode ≡ opcode = omega arith in entry_from 0 FORMS opcode computed below ∙ ap form_of here
