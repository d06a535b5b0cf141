-- Lines, by their first words and those behind them.
use Rattle.std.proofs.Common.{◌≡◌, ◌∙◌, ap, sym, refl, append_assoc, append-nil, ℕ, ◌-◌, ◌≤◌, Bool, true, false, List, [], ◌∷◌, ◌++◌, length, take, drop, get_or, map, arith, codes}
use Rattle.std.specs.List.{flat_map, join_with_byte}
use Rattle.cb_asm_line.specs.Lines.{Word, line_text, lines_text, newline, space}
use Rattle.cb_asm_line.specs.Spelling.{code_line, type_word, types_word}
use Rattle.cb_asm_line.specs.declared.program.CodeLine.{CodeLine}
use Rattle.cb_classfile.specs.declared.class.ClassFile.{ClassFile}
use Rattle.cb_insn.specs.declared.insn.Insn.{Insn}
use Rattle.std.specs.Option.{unwrap_or}
use Rattle.std.proofs.lemmas.Option.{slice_get_past}
use Rattle.cb_asm_line.specs.Mnemonics.{array_types, mnemonic}
use Rattle.cb_asm_line.specs.Operands.{array_type, instruction_words, operand_words, wide_words}
use Rattle.cb_asm_line.specs.declared.operand.Instruction.{Instruction}
use Rattle.cb_asm_list.specs.Inner.{behind, marked, placed_text, wide_front}
use Rattle.std.proofs.lemmas.List.{take_all}
use Rattle.cb_asm_line.specs.Quoting.{comma}
use Rattle.cb_asm_line.specs.declared.frame.FrameType.{FrameType}
use Rattle.cb_asm_list.specs.Listing.{code_line_of, label_of, type_of}

-- words that are joined, by the first and those behind it
pub joined_words : (mark : ℕ) (word : Word) (words : List Word) → join_with_byte mark (word ∷ words) ≡ word ++ marked mark words
joined_words mark word [] = sym (append-nil word)
joined_words mark word (next ∷ words) = ap (λ rest. word ++ mark ∷ rest) (joined_words mark next words)

pub line_of_words : (word : Word) (words : List Word) → line_text (word ∷ words) ≡ word ++ behind words ++ newline ∷ []
line_of_words word words = ap (λ text. text ++ newline ∷ []) (joined_words space word words)

-- an instruction
pub instruction_line : (instruction : Instruction)
    → line_text (instruction_words instruction) ≡ wide_front instruction.wide ++ mnemonic instruction.opcode ++ behind (operand_words instruction.operand) ++ newline ∷ []
instruction_line instruction = by_test instruction.wide
  where
    by_test : (wide : Bool) → line_text (wide_words wide ++ mnemonic instruction.opcode ∷ operand_words instruction.operand)
        ≡ wide_front wide ++ mnemonic instruction.opcode ++ behind (operand_words instruction.operand) ++ newline ∷ []
    by_test true = ap (λ text. codes "wide " ++ text) (line_of_words (mnemonic instruction.opcode) (operand_words instruction.operand))
    by_test false = line_of_words (mnemonic instruction.opcode) (operand_words instruction.operand)

-- no primitive type has a greater code
pub no_array_type : (code : ℕ) → 8 ≤ code - 4 → array_type code ≡ []
no_array_type code past = ap (λ word. unwrap_or word []) (slice_get_past array_types (code - 4) past)

both_texts : (lines others : List CodeLine) → lines_text (map code_line (lines ++ others)) ≡ lines_text (map code_line lines) ++ lines_text (map code_line others)
both_texts [] others = refl
both_texts (line ∷ lines) others =
    ap (λ rest. line_text (code_line line) ++ rest) (both_texts lines others) ∙ sym (append_assoc (line_text (code_line line)) (lines_text (map code_line lines)) (lines_text (map code_line others)))

-- the lines of code, instruction by instruction
pub code_text : (class : ClassFile) (labelled : List ℕ) (code : List (ℕ × Insn)) (last : List CodeLine)
    → lines_text (map code_line (flat_map (code_line_of class labelled) code ++ last)) ≡ flat_map (placed_text class labelled) code ++ lines_text (map code_line last)
code_text class labelled [] last = refl
code_text class labelled (placed ∷ code) last =
    ap (λ lines. lines_text (map code_line lines)) (append_assoc (code_line_of class labelled placed) (flat_map (code_line_of class labelled) code) last)
    ∙ both_texts (code_line_of class labelled placed) (flat_map (code_line_of class labelled) code ++ last)
    ∙ ap (λ rest. placed_text class labelled placed ++ rest) (code_text class labelled code last)
    ∙ sym (append_assoc (placed_text class labelled placed) (flat_map (placed_text class labelled) code) (lines_text (map code_line last)))

-- types, by the first and those behind it
pub types_joined : (labelled : List ℕ) (types : List (FrameType ℕ)) (first : FrameType ℕ) → 1 ≤ length types → first ≡ get_or types 0 first
    → space ∷ types_word (map (type_of (label_of labelled)) types)
    ≡ (space ∷ type_word (type_of (label_of labelled) first)) ++ marked comma (map type_word (map (type_of (label_of labelled)) (take (length types - 1) (drop 1 types))))
types_joined labelled [] first some is = absurd (omega (arith, some))
types_joined labelled (type ∷ types) first some is =
    ap (λ word. space ∷ word) (joined_words comma (type_word (type_of (label_of labelled) type)) (map type_word (map (type_of (label_of labelled)) types)))
    ∙ ap (λ kind. (space ∷ type_word (type_of (label_of labelled) kind)) ++ marked comma (map type_word (map (type_of (label_of labelled)) types))) (sym is)
    ∙ ap (λ rest. (space ∷ type_word (type_of (label_of labelled) first)) ++ marked comma (map type_word (map (type_of (label_of labelled)) rest))) (sym (take_all _ types (omega arith)))
