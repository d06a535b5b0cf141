-- The places of code that is spelled rise, since each instruction has a byte at least.
use Rattle.std.proofs.Common.{◌+◌, ◌<◌, ◌≤◌, arith, ap, ℕ, Bool, true, false, List, [], ◌∷◌, length}
use Rattle.std.specs.List.{AllByRecursion}
use Rattle.std.proofs.lemmas.List.{length-append}
use Rattle.cb_insn.specs.Forms.{head_bytes}
use Rattle.cb_insn.specs.Grammar.{SpellsCode, SpellsFrom, SpellsInsn}
use Rattle.cb_insn.specs.declared.insn.Insn.{Insn}
use Rattle.cb_safety.specs.Flows.{Rises}

abbrev AreFrom : ℕ → List (ℕ × Insn) → Type 0
AreFrom pc code = AllByRecursion (λ own. pc ≤ own.0) code

some_head : (wide : Bool) (opcode : ℕ) → 0 < length (head_bytes wide opcode)
some_head false opcode = omega arith
some_head true opcode = omega arith

some_byte : (pc : ℕ) (insn : Insn) (bytes : List ℕ) → SpellsInsn pc insn bytes → 0 < length bytes
some_byte pc insn bytes (behind, is, spelled) =
    omega (arith, ap length is, length-append (head_bytes insn.wide insn.opcode) behind, some_head insn.wide insn.opcode)

later : (pc next : ℕ) (code : List (ℕ × Insn)) → pc ≤ next → AreFrom next code → AreFrom pc code
later pc next [] low all = tt
later pc next (placed ∷ code) low (first, rest) = (omega (arith, low, first), later pc next code low rest)

behind : (pc next : ℕ) (code : List (ℕ × Insn)) → pc < next → AreFrom next code → AllByRecursion (λ own. pc < own.0) code
behind pc next [] low all = tt
behind pc next (placed ∷ code) low (first, rest) = (omega (arith, low, first), behind pc next code low rest)

rises_from : (pc : ℕ) (code : List (ℕ × Insn)) (bytes : List ℕ) → SpellsFrom pc code bytes → AreFrom pc code × Rises code
rises_from pc [] bytes is = (tt, tt)
rises_from pc ((place, insn) ∷ code) bytes (first, rest, at, spelled, is, more) =
    let (from, rise) = rises_from (pc + length first) code rest more in
    let some = some_byte pc insn first spelled in (
      (omega (arith, at), later pc (pc + length first) code (omega arith) from),
      (behind place (pc + length first) code (omega (arith, at, some)) from, rise),
    )

pub code_rises : (code : List (ℕ × Insn)) (bytes : List ℕ) → SpellsCode code bytes → Rises code
code_rises code bytes spelled = (rises_from 0 code bytes spelled.spelled).1
