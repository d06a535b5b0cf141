use Rattle.std.proofs.Common.{◌≡◌, [], ◌++◌, List, ℕ, sym, ◌∙◌, ap, subst}
use Rattle.cb_insn.specs.Grammar.{SpellsCode}
use Rattle.cb_insn.specs.Writing.{code_bytes}
use Rattle.cb_insn.specs.declared.insn.Insn.{Insn}
use Rattle.cb_insn.proofs.Laws.{one_code_spelled, code_spelled}
use Rattle.cb_insn.proofs.encoder.encode.Goals as goal

-- what is written behind nothing
written : (code : List (ℕ × Insn)) (bytes before : List ℕ) → bytes ≡ before ++ code_bytes code → before ≡ [] → (spelled : List ℕ) × SpellsCode code spelled → SpellsCode code bytes
written code bytes before is none (spelled, spells) = subst (SpellsCode code) (sym (is ∙ ap (λ front. front ++ code_bytes code) none)) (code_spelled code spelled spells)

pub returns-clause-spelled : goal.returns-clause-spelled
returns-clause-spelled c = written _ _ _ c.in_ok-encode_into.ensures c.new-bytes.ensures.items c.requires

pub returns-clause-read_back : goal.returns-clause-read_back
returns-clause-read_back c = λ other spells.
    one_code_spelled _ other c.args.code.now spells (written _ _ _ c.in_ok-encode_into.ensures c.new-bytes.ensures.items c.requires)
