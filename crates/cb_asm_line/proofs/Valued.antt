-- Constants by the words for their kinds.
use Rattle.std.proofs.Common.{◌≡◌, codes, Option, Some, None, MatchOption, Result, Ok, Err, IfOk}
use Rattle.cb_asm_line.specs.Lines.{Word}
use Rattle.cb_asm_line.specs.Said.{SaysTextOrClass, SaysValue}
use Rattle.cb_asm_line.specs.declared.operand.Value.{Value}
use Rattle.cb_asm_line.specs.declared.operand.Value.TheVariants.{Int, Long, Text, Class}

-- what a word says that is of neither kind of a number
of_found : (kind word : Word) (result : Option Value) → (kind ≡ codes "int" → ⊥) → (kind ≡ codes "long" → ⊥)
    → MatchOption result ((value : Value) → SaysTextOrClass kind word value → ⊥) (λ value. SaysTextOrClass kind word value)
    → MatchOption result ((value : Value) → SaysValue kind word value → ⊥) (λ value. SaysValue kind word value)
of_found kind word None not_int not_long none = none_says
  where
    none_says : (value : Value) → SaysValue kind word value → ⊥
    none_says (Int number) says = not_int says.0
    none_says (Long number) says = not_long says.0
    none_says (Text text) says = none (Text text) says
    none_says (Class name) says = none (Class name) says
of_found kind word (Some (Int number)) not_int not_long says = absurd says
of_found kind word (Some (Long number)) not_int not_long says = absurd says
of_found kind word (Some (Text text)) not_int not_long says = says
of_found kind word (Some (Class name)) not_int not_long says = says

pub of_others : {E : Type 0} (kind word : Word) (result : Result (Option Value) E) → (kind ≡ codes "int" → ⊥) → (kind ≡ codes "long" → ⊥)
    → IfOk result (λ found. MatchOption found ((value : Value) → SaysTextOrClass kind word value → ⊥) (λ value. SaysTextOrClass kind word value))
    → IfOk result (λ found. MatchOption found ((value : Value) → SaysValue kind word value → ⊥) (λ value. SaysValue kind word value))
of_others kind word (Err fault) not_int not_long told = tt
of_others kind word (Ok found) not_int not_long told = of_found kind word found not_int not_long told
