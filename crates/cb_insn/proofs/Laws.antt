-- What crates above may cite. No other file of these proofs is for them.
use Rattle.std.proofs.Common.{◌≡◌, ℕ, List, length, sym}
use Rattle.cb_insn.specs.declared.insn.Insn.{Insn}
use Rattle.cb_insn.specs.Grammar.{SpellsCode}
use Rattle.cb_insn.specs.Places.{Rise, places}
use Rattle.cb_insn.specs.Writing.{code_bytes}
use Rattle.cb_insn.proofs.Codes.{one_from}
use Rattle.cb_insn.proofs.Placing.{rises}
use Rattle.cb_insn.proofs.Written.{code_written}

-- bytes spell one code at most
pub one_code_spelled : (bytes : List ℕ) (one other : List (ℕ × Insn)) → SpellsCode one bytes → SpellsCode other bytes → one ≡ other
one_code_spelled bytes one other spells spells_too = one_from 0 one other bytes spells.spelled spells_too.spelled

-- the places of spelled code rise
pub places_rise : (code : List (ℕ × Insn)) (bytes : List ℕ) → SpellsCode code bytes → Rise (places code)
places_rise code bytes spells = rises 0 code bytes spells.spelled

-- code that some bytes spell is spelled by those whose padding is zeros, which are as many
pub code_spelled : (code : List (ℕ × Insn)) (bytes : List ℕ) → SpellsCode code bytes → SpellsCode code (code_bytes code)
code_spelled code bytes spells = (code_written code bytes spells).0

pub code_length : (code : List (ℕ × Insn)) (bytes : List ℕ) → SpellsCode code bytes → length (code_bytes code) ≡ length bytes
code_length code bytes spells = sym (code_written code bytes spells).1
