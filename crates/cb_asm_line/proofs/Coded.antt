-- Lines of code, and what their words say.
use Rattle.std.proofs.Common.{◌≡◌, ◌∙◌, ap, sym, refl, subst, inl, inr, codes, ◌<◌, ◌^◌, Bool, true, false, [], ◌∷◌, ◌++◌, Option, Some, None}
use Rattle.std.specs.Option.{unwrap_or}
use Rattle.cb_insn.specs.Forms.{head_form}
use Rattle.cb_insn.specs.declared.form.Form.{Form}
use Rattle.cb_classfile.specs.Needed.{kind_needed}
use Rattle.cb_asm_line.specs.Lines.{Line}
use Rattle.cb_asm_line.specs.Mnemonics.{mnemonic}
use Rattle.cb_asm_line.specs.Operands.{HasOptionalForm, instruction_words, operand_words, wide_words}
use Rattle.cb_asm_line.specs.SaidCode.{SaysCode, SaysInstruction, SaysNamedInstruction, SaysWide}
use Rattle.cb_asm_line.specs.Spelling.{code_line}
use Rattle.cb_asm_line.specs.Statements.{IsCodeLine, IsOperand}
use Rattle.cb_asm_line.specs.declared.operand.Instruction.{Instruction}
use Rattle.cb_asm_line.specs.declared.program.CodeLine.{CodeLine}
use Rattle.cb_asm_line.specs.declared.program.CodeLine.TheVariants.{Here, Do}
use Rattle.cb_asm_line.proofs.Formed.{form_said, named}
use Rattle.cb_asm_line.proofs.Worth.{form_worth}

-- an instruction says its words
named_said : (wide : Bool) (instruction : Instruction) → instruction.wide ≡ wide → instruction.opcode < 2 ^ 8 → HasOptionalForm (kind_needed instruction.opcode) (head_form wide instruction.opcode) instruction.operand → IsOperand instruction.operand
    → SaysNamedInstruction wide (mnemonic instruction.opcode ∷ operand_words instruction.operand) instruction
named_said wide instruction widened fits formed is = by_form (head_form wide instruction.opcode) refl formed
  where
    by_form : (form : Option Form) → head_form wide instruction.opcode ≡ form → HasOptionalForm (kind_needed instruction.opcode) form instruction.operand → SaysNamedInstruction wide (mnemonic instruction.opcode ∷ operand_words instruction.operand) instruction
    by_form None told has = absurd has
    by_form (Some form) told has = record {
      name = mnemonic instruction.opcode;
      rest = operand_words instruction.operand;
      form = form;
      have = refl;
      widened = widened;
      fits = fits;
      named = named wide instruction.opcode form fits told;
      formed = told;
      says = form_said (kind_needed instruction.opcode) form instruction.operand has is;
    }

instruction_said : (instruction : Instruction) → IsCodeLine (Do instruction) → SaysInstruction (instruction_words instruction) instruction
instruction_said instruction is = by_wide instruction.wide refl is.1
  where
    by_wide : (wide : Bool) → instruction.wide ≡ wide → HasOptionalForm (kind_needed instruction.opcode) (head_form wide instruction.opcode) instruction.operand
        → SaysInstruction (wide_words wide ++ mnemonic instruction.opcode ∷ operand_words instruction.operand) instruction
    by_wide true widened has = inl (record { rest = _; have = refl; says = named_said true instruction widened is.0 has is.2 })
    by_wide false widened has = inr (named_said false instruction widened is.0 has is.2)

pub code_said : (line : CodeLine) → IsCodeLine line → SaysCode (code_line line) line
code_said (Here label) is = record { first = _; are = refl; says = record { digits = is; spelled = refl } }
code_said (Do instruction) is = instruction_said instruction is

-- and the other way round
pub record IsCoded (words : Line) (line : CodeLine) : Type 0 where
  pub is : IsCodeLine line
  pub are : words ≡ code_line line

named_worth : (wide : Bool) (words front : Line) (instruction : Instruction) → front ≡ wide_words wide → SaysNamedInstruction wide words instruction → IsCoded (front ++ words) (Do instruction)
named_worth wide words front instruction before told =
    let worth = form_worth (kind_needed instruction.opcode) told.form told.rest instruction.operand told.says in
    let name : told.name ≡ mnemonic instruction.opcode = ap (λ found. unwrap_or found []) (sym told.named) in
    record {
      is = (told.fits, subst (λ each. HasOptionalForm (kind_needed instruction.opcode) each instruction.operand) (sym (ap (λ each. head_form each instruction.opcode) told.widened ∙ told.formed)) worth.has, worth.is);
      are =
          ap (λ each. front ++ each) (told.have ∙ ap (λ each. each ∷ told.rest) name ∙ ap (λ rest. mnemonic instruction.opcode ∷ rest) worth.are)
          ∙ ap (λ each. each ++ mnemonic instruction.opcode ∷ operand_words instruction.operand) (before ∙ ap wide_words (sym told.widened));
    }

wide_worth : (words : Line) (instruction : Instruction) → SaysWide words instruction → IsCoded words (Do instruction)
wide_worth words instruction told = subst (λ each. IsCoded each (Do instruction)) (sym told.have) (named_worth true told.rest (codes "wide" ∷ []) instruction refl told.says)

pub code_worth : (words : Line) (line : CodeLine) → SaysCode words line → IsCoded words line
code_worth words (Here label) told = record { is = told.says.digits; are = told.are ∙ ap (λ word. word ∷ []) told.says.spelled }
code_worth words (Do instruction) (inl told) = wide_worth words instruction told
code_worth words (Do instruction) (inr told) = named_worth false words [] instruction refl told
