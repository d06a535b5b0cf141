-- The code of a record's body.
use Rattle.std.proofs.Common.{◌≡◌, ℕ, zero, suc, ◌+◌, ◌*◌, ◌^◌, ◌<◌, ◌≤◌, List, [], ◌∷◌, ◌++◌, length, slice_get, Some, refl, sym, ap, subst, arith, length-append}
use Rattle.std.specs.List.{AllByRecursion, AllZip}
use Rattle.std.proofs.lemmas.Option.{same_Some}
use Rattle.cb_text.specs.declared.constant.Constant.{Constant}
use Rattle.cb_text.specs.Pool.{IsPool}
use Rattle.cb_insn.specs.declared.insn.Insn.{Insn}
use Rattle.cb_insn.specs.Grammar.{SpellsFrom}
use Rattle.cb_insn.specs.Places.{places}
use Rattle.cb_insn.specs.Writing.{code_bytes, insn_bytes}
use Rattle.cb_library.specs.Rows.{Instruction, Plain}
use Rattle.cb_classfile.specs.Library.{SaysInsn}
use Rattle.cb_core.specs.Built.{places_from, size_of}
use Rattle.cb_core.specs.Sound.{IsSoundInsn}
use Rattle.cb_core.proofs.Placed.{size_small}
use Rattle.cb_core.proofs.LawInsns.{insn_spelled}

-- an instruction takes one to three bytes
some_bytes : (insn : Instruction) → 1 ≤ size_of insn
some_bytes (Plain opcode) = omega arith
some_bytes other = omega arith

-- a place is less than three bytes an instruction behind the first
pub places_near : (pc : ℕ) (code : List Instruction) (number place : ℕ) → slice_get (places_from pc code) number ≡ Some place → place + 3 ≤ pc + 3 * length code
places_near pc [] number place is = absurd cc
places_near pc (insn ∷ code) zero place is = omega (arith, same_Some pc place is)
places_near pc (insn ∷ code) (suc number) place is = omega (arith, places_near (pc + size_of insn) code number place is, size_small insn)

-- code from a place on is spelled by its bytes, one to three an instruction
pub record IsWritten (pc count : ℕ) (code : List (ℕ × Insn)) : Type 0 where
  pub spelled : SpellsFrom pc code (code_bytes code)
  pub some : count ≤ length (code_bytes code)
  pub few : length (code_bytes code) ≤ 3 * count

same_first : (one other : ℕ) (ones others : List ℕ) → one ∷ ones ≡ other ∷ others → one ≡ other
same_first one other ones others is = cc

same_rest : (one other : ℕ) (ones others : List ℕ) → one ∷ ones ≡ other ∷ others → ones ≡ others
same_rest one other ones others is = cc

pub code_written : (pool : List Constant) (targets : List ℕ) (count pc : ℕ) (rows : List Instruction) (code : List (ℕ × Insn)) → IsPool pool → ((number place : ℕ) → slice_get targets number ≡ Some place → place < 2 ^ 15) → pc + 3 * length rows ≤ 3000 → AllByRecursion (IsSoundInsn count) rows → AllZip (λ insn placed. SaysInsn pool targets insn placed.1) rows code → places code ≡ places_from pc rows → IsWritten pc (length rows) code
code_written pool targets count pc [] [] is near short sound says laid = record { spelled = refl; some = omega arith; few = omega arith }
code_written pool targets count pc [] (placed ∷ code) is near short sound says laid = absurd says
code_written pool targets count pc (row ∷ rows) [] is near short sound says laid = absurd says
code_written pool targets count pc (row ∷ rows) ((at, insn) ∷ code) is near short sound says laid =
    let here : at ≡ pc = same_first at pc (places code) (places_from (pc + size_of row) rows) laid in
    let one = insn_spelled pool targets pc count row insn is (omega (arith, short)) near sound.0 says.0 in
    let more = code_written pool targets count (pc + size_of row) rows code is near (omega (arith, short, size_small row)) sound.1 says.1 (same_rest at pc (places code) (places_from (pc + size_of row) rows) laid) in
    let same : insn_bytes at insn ≡ insn_bytes pc insn = ap (λ place. insn_bytes place insn) here in
    record {
      spelled = (insn_bytes pc insn, code_bytes code, here, one.spelled, ap (λ bytes. bytes ++ code_bytes code) same, subst (λ size. SpellsFrom (pc + size) code (code_bytes code)) (sym one.long) more.spelled);
      some = omega (arith, length-append (insn_bytes at insn) (code_bytes code), ap length same, one.long, more.some, some_bytes row);
      few = omega (arith, length-append (insn_bytes at insn) (code_bytes code), ap length same, one.long, more.few, size_small row);
    }
