-- Two lines of the format with one spelling are one.
use Rattle.std.proofs.Common.{◌≡◌, ◌≢◌, ◌∙◌, ap, sym, refl, subst, arith, codes, ℕ, zero, suc, ◌+◌, ◌*◌, Bool, true, false, not, ◌==◌, if◌then◌else◌, List, [], ◌∷◌, ◌++◌, drop, get_or, map, slice_get, Option, Some, None, IfSome}
use Rattle.std.specs.List.{AllByRecursion, join_with_byte, list_all}
use Rattle.std.specs.Option.{unwrap_or}
use Rattle.std.proofs.lemmas.Bool.{eqb-true}
use Rattle.std.proofs.lemmas.List.{append_cancel_right}
use Rattle.cb_asm_line.specs.Label.{Label}
use Rattle.cb_asm_line.specs.Lines.{Line, Word, same_text}
use Rattle.cb_asm_line.specs.Mnemonics.{mnemonic, mnemonics}
use Rattle.cb_asm_line.specs.Operands.{instruction_words, label_word, operand_words, value_words, wide_words}
use Rattle.cb_asm_line.specs.Quoting.{colon, comma, no_name}
use Rattle.cb_asm_line.specs.Said.{SaysValue, Two}
use Rattle.cb_asm_line.specs.SaidCode.{SaysInstruction}
use Rattle.cb_asm_line.specs.Spelling.{code_line, type_word, types_word, value_of}
use Rattle.cb_asm_line.specs.Statements.{IsCatch, IsCodeLine, IsFrame, IsStatement, IsType, IsValue, statement_text, statement_words}
use Rattle.cb_asm_line.specs.declared.frame.Frame.{Frame}
use Rattle.cb_asm_line.specs.declared.frame.FrameType.{FrameType}
use Rattle.cb_asm_line.specs.declared.frame.FrameType.TheVariants as types
use Rattle.cb_asm_line.specs.declared.operand.Instruction.{Instruction}
use Rattle.cb_asm_line.specs.declared.operand.Operand.{Operand}
use Rattle.cb_asm_line.specs.declared.operand.Value.{Value}
use Rattle.cb_asm_line.specs.declared.operand.Value.TheVariants as values
use Rattle.cb_asm_line.specs.declared.program.CatchLine.{CatchLine}
use Rattle.cb_asm_line.specs.declared.program.CodeLine.{CodeLine}
use Rattle.cb_asm_line.specs.declared.program.CodeLine.TheVariants as lines
use Rattle.cb_asm_line.specs.declared.program.FieldText.{FieldText}
use Rattle.cb_asm_line.specs.declared.statement.ClassLine.{ClassLine}
use Rattle.cb_asm_line.specs.declared.statement.Limits.{Limits}
use Rattle.cb_asm_line.specs.declared.statement.MethodLine.{MethodLine}
use Rattle.cb_asm_line.specs.declared.statement.Statement.{Statement}
use Rattle.cb_asm_line.specs.declared.statement.Statement.TheVariants as statements
use Rattle.cb_asm_line.proofs.Apart.{one_parting}
use Rattle.cb_asm_line.proofs.Coded.{code_said}
use Rattle.cb_asm_line.proofs.Formed.{value_said}
use Rattle.cb_asm_line.proofs.Inked.{each_one}
use Rattle.cb_asm_line.proofs.Lined.{words_same}
use Rattle.cb_asm_line.proofs.SameCode.{instruction_same, two_values_same}
use Rattle.cb_asm_line.proofs.SameWords.{caught_same, class_flags_same, field_flags_same, method_flags_same, small_same, superclass_same}
use Rattle.cb_asm_line.proofs.Spelled.{name_same}
use Rattle.cb_asm_line.proofs.Typing.{each_commaless}

-- the types of frames, by the first two units of their words
type_rank : FrameType Label → ℕ
type_rank types.Top = 116 * 256 + 111
type_rank types.Int = 105 * 256 + 110
type_rank types.Long = 108 * 256 + 111
type_rank types.Null = 110 * 256 + 117
type_rank types.This = 116 * 256 + 104
type_rank (types.Object name) = 111 * 256 + 98
type_rank (types.New label) = 110 * 256 + 101

two_units : Word → ℕ
two_units word = get_or word 0 0 * 256 + get_or word 1 0

type_ranked : (type : FrameType Label) → two_units (type_word type) ≡ type_rank type
unfolding type_rank two_units
type_ranked types.Top = refl
type_ranked types.Int = refl
type_ranked types.Long = refl
type_ranked types.Null = refl
type_ranked types.This = refl
type_ranked (types.Object name) = refl
type_ranked (types.New label) = refl

type_by_rank : (one other : FrameType Label) → type_rank one ≡ type_rank other → IsType one → IsType other → type_word one ≡ type_word other → one ≡ other
unfolding type_rank
type_by_rank types.Top types.Top ranks fits suits is = refl
type_by_rank types.Int types.Int ranks fits suits is = refl
type_by_rank types.Long types.Long ranks fits suits is = refl
type_by_rank types.Null types.Null ranks fits suits is = refl
type_by_rank types.This types.This ranks fits suits is = refl
type_by_rank (types.Object one) (types.Object other) ranks fits suits is = ap types.Object (name_same one other fits suits (ap (drop 7) is))
type_by_rank (types.New one) (types.New other) ranks fits suits is = ap types.New (ap (drop 5) is)
type_by_rank one other ranks fits suits is = absurd (omega (arith, ranks))

type_same : (one other : FrameType Label) → IsType one → IsType other → type_word one ≡ type_word other → one ≡ other
type_same one other fits suits is = type_by_rank one other (sym (type_ranked one) ∙ ap two_units is ∙ type_ranked other) fits suits is

each_type_same : (one other : List (FrameType Label)) → AllByRecursion IsType one → AllByRecursion IsType other → map type_word one ≡ map type_word other → one ≡ other
each_type_same [] [] fits suits is = refl
each_type_same [] (type ∷ other) fits suits is = absurd (cc is)
each_type_same (type ∷ one) [] fits suits is = absurd (cc is)
each_type_same (type ∷ one) (next ∷ other) fits suits is =
    let first = type_same type next fits.0 suits.0 (ap (λ words. get_or words 0 []) is) in let rest = each_type_same one other fits.1 suits.1 (ap (drop 1) is) in λ i. first i ∷ rest i

-- no type is the word for none
not_dash : (type : FrameType Label) → 45 * 256 + 0 ≢ type_rank type
unfolding type_rank
not_dash types.Top ranks = omega (arith, ranks)
not_dash other ranks = omega (arith, ranks)

dash_type : (type : FrameType Label) → codes "-" ≢ type_word type
unfolding two_units
dash_type type is = let ranks : 45 * 256 + 0 ≡ type_rank type = ap two_units is ∙ type_ranked type in not_dash type ranks

no_types : (type : FrameType Label) (types : List (FrameType Label)) → AllByRecursion IsType (type ∷ types) → no_name ≢ join_with_byte comma (map type_word (type ∷ types))
no_types type types are is =
    let same : codes "-" ∷ [] ≡ map type_word (type ∷ types) = one_parting comma (codes "-" ∷ []) (map type_word (type ∷ types)) (λ none. absurd (cc none)) (λ none. absurd (cc none)) ((λ unit. omega (arith, unit), tt), tt) (each_commaless (type ∷ types) are) is in
    dash_type type (cc same)

types_same : (one other : List (FrameType Label)) → AllByRecursion IsType one → AllByRecursion IsType other → types_word one ≡ types_word other → one ≡ other
types_same [] [] fits suits is = refl
types_same [] (type ∷ other) fits suits is = absurd (no_types type other suits is)
types_same (type ∷ one) [] fits suits is = absurd (no_types type one fits (sym is))
types_same (type ∷ one) (next ∷ other) fits suits is =
    each_type_same (type ∷ one) (next ∷ other) fits suits (one_parting comma (map type_word (type ∷ one)) (map type_word (next ∷ other)) (λ none. absurd (cc none)) (λ none. absurd (cc none)) (each_commaless (type ∷ one) fits) (each_commaless (next ∷ other) suits) is)

frame_same : (one other : Frame Label) → IsFrame one → IsFrame other → label_word one.place ≡ label_word other.place → types_word one.locals ≡ types_word other.locals → types_word one.stack ≡ types_word other.stack → one ≡ other
frame_same one other fits suits at front back =
    let places : one.place ≡ other.place = ap (drop 1) at in
    let locals = types_same one.locals other.locals fits.1 suits.1 front in let stacks = types_same one.stack other.stack fits.2 suits.2 back in
    λ i. record { place = places i; locals = locals i; stack = stacks i }

-- constants
some_value_same : (one other : Value) → IsValue one → IsValue other → value_words one ≡ value_words other → one ≡ other
some_value_same one other fits suits is = two_values_same (value_words other) one other (subst (λ words. Two SaysValue words one) is (value_said one fits)) (value_said other suits)

some_words : (value : Value) → [] ≢ value_words value
some_words (values.Int number) is = absurd (cc is)
some_words (values.Long number) is = absurd (cc is)
some_words (values.Text text) is = absurd (cc is)
some_words (values.Class name) is = absurd (cc is)

value_same : (one other : Option Value) → IfSome one IsValue → IfSome other IsValue → value_of one ≡ value_of other → one ≡ other
value_same None None fits suits is = refl
value_same None (Some value) fits suits is = absurd (some_words value is)
value_same (Some value) None fits suits is = absurd (some_words value (sym is))
value_same (Some one) (Some other) fits suits is = ap Some (some_value_same one other fits suits is)

-- lines of code: a label begins otherwise than any name
first_word : Line → Word
first_word [] = []
first_word (word ∷ words) = word

starts : ℕ → Word → Bool
starts unit word = not (get_or word 0 0 == unit)

at_name : (test : Word → Bool) (words : List Word) (place : ℕ) → test [] ≡ true → list_all test words ≡ true → test (unwrap_or (slice_get words place) []) ≡ true
at_name test [] place none are = none
at_name test (word ∷ words) zero none are = (each_one test word words are).0
at_name test (word ∷ words) (suc place) none are = at_name test words place none (each_one test word words are).1

instruction_first : (test : Word → Bool) (wide : Bool) (opcode : ℕ) (operand : Operand) → test [] ≡ true → test (codes "wide") ≡ true → list_all test mnemonics ≡ true
    → test (first_word (wide_words wide ++ mnemonic opcode ∷ operand_words operand)) ≡ true
unfolding first_word
instruction_first test true opcode operand none wide are = wide
instruction_first test false opcode operand none wide are = at_name test mnemonics opcode none are

not_label : (label : Label) (instruction : Instruction) → code_line (lines.Here label) ≢ code_line (lines.Do instruction)
unfolding first_word starts
not_label label instruction is =
    let other : starts 76 (first_word (instruction_words instruction)) ≡ true = instruction_first (starts 76) instruction.wide instruction.opcode instruction.operand refl refl refl in
    let same : starts 76 (first_word (instruction_words instruction)) ≡ false = ap (λ words. starts 76 (first_word words)) (sym is) in
    absurd (cc (other, same))

label_same : (one other : Label) → label_word one ++ colon ∷ [] ≡ label_word other ++ colon ∷ [] → one ≡ other
label_same one other is = append_cancel_right one other (colon ∷ []) (ap (drop 1) is)

code_line_same : (one other : CodeLine) → IsCodeLine one → IsCodeLine other → code_line one ≡ code_line other → one ≡ other
code_line_same (lines.Here one) (lines.Here other) fits suits is = ap lines.Here (label_same one other (ap (λ words. get_or words 0 []) is))
code_line_same (lines.Here label) (lines.Do instruction) fits suits is = absurd (not_label label instruction is)
code_line_same (lines.Do instruction) (lines.Here label) fits suits is = absurd (not_label label instruction (sym is))
code_line_same (lines.Do one) (lines.Do other) fits suits is =
    ap lines.Do (instruction_same (instruction_words other) one other (subst (λ words. SaysInstruction words one) is (code_said (lines.Do one) fits)) (code_said (lines.Do other) suits))

-- the first word of a line tells which it is: a number for each, and zero for code
rank : Word → ℕ
rank key = if same_text key (codes "class") then 1 else if same_text key (codes "implements") then 2 else if same_text key (codes "field") then 3 else if same_text key (codes "method") then 4 else if same_text key (codes "limits") then 5 else if same_text key (codes "catch") then 6 else if same_text key (codes "frame") then 7 else if same_text key (codes "end") then 8 else 0

rank_of : Statement → ℕ
rank_of (statements.Class line) = 1
rank_of (statements.Implements name) = 2
rank_of (statements.Field field) = 3
rank_of (statements.Method line) = 4
rank_of (statements.Limits limits) = 5
rank_of (statements.Code line) = 0
rank_of (statements.Catch entry) = 6
rank_of (statements.Frame frame) = 7
rank_of statements.End = 8

ranked : (statement : Statement) → rank (first_word (statement_words statement)) ≡ rank_of statement
unfolding rank rank_of first_word
ranked (statements.Class line) = refl
ranked (statements.Implements name) = refl
ranked (statements.Field field) = refl
ranked (statements.Method line) = refl
ranked (statements.Limits limits) = refl
ranked (statements.Code (lines.Here label)) = refl
ranked (statements.Code (lines.Do instruction)) = eqb-true (rank (first_word (instruction_words instruction))) 0 (instruction_first (λ word. rank word == 0) instruction.wide instruction.opcode instruction.operand refl refl refl)
ranked (statements.Catch entry) = refl
ranked (statements.Frame frame) = refl
ranked statements.End = refl

-- lines of each kind
class_same : (one other : ClassLine) → IsStatement (statements.Class one) → IsStatement (statements.Class other) → statement_words (statements.Class one) ≡ statement_words (statements.Class other) → one ≡ other
class_same one other fits suits is =
    let majors = small_same one.major other.major fits.0 suits.0 (cc is) in let flags = class_flags_same one.flags other.flags fits.1 suits.1 (cc is) in
    let names = name_same one.name other.name fits.2 suits.2 (cc is) in let superclasses = superclass_same one.superclass other.superclass fits.3 suits.3 (cc is) in
    λ i. record { major = majors i; flags = flags i; name = names i; superclass = superclasses i }

field_same : (one other : FieldText) → IsStatement (statements.Field one) → IsStatement (statements.Field other) → statement_words (statements.Field one) ≡ statement_words (statements.Field other) → one ≡ other
field_same one other fits suits is =
    let flags = field_flags_same one.flags other.flags fits.0 suits.0 (cc is) in let names = name_same one.name other.name fits.1 suits.1 (cc is) in
    let descriptors = name_same one.descriptor other.descriptor fits.2 suits.2 (cc is) in let values = value_same one.value other.value fits.3 suits.3 (ap (drop 4) is) in
    λ i. record { flags = flags i; name = names i; descriptor = descriptors i; value = values i }

method_same : (one other : MethodLine) → IsStatement (statements.Method one) → IsStatement (statements.Method other) → statement_words (statements.Method one) ≡ statement_words (statements.Method other) → one ≡ other
method_same one other fits suits is =
    let flags = method_flags_same one.flags other.flags fits.0 suits.0 (cc is) in let names = name_same one.name other.name fits.1 suits.1 (cc is) in
    let descriptors = name_same one.descriptor other.descriptor fits.2 suits.2 (cc is) in λ i. record { flags = flags i; name = names i; descriptor = descriptors i }

limits_same : (one other : Limits) → IsStatement (statements.Limits one) → IsStatement (statements.Limits other) → statement_words (statements.Limits one) ≡ statement_words (statements.Limits other) → one ≡ other
limits_same one other fits suits is =
    let stacks = small_same one.stack other.stack fits.0 suits.0 (cc is) in let locals = small_same one.locals other.locals fits.1 suits.1 (cc is) in
    λ i. record { stack = stacks i; locals = locals i }

catch_same : (one other : CatchLine) → IsCatch one → IsCatch other → statement_words (statements.Catch one) ≡ statement_words (statements.Catch other) → one ≡ other
catch_same one other fits suits is =
    let starts : one.start ≡ other.start = ap (λ words. drop 1 (get_or words 1 [])) is in let ends : one.end ≡ other.end = ap (λ words. drop 1 (get_or words 2 [])) is in
    let handlers : one.handler ≡ other.handler = ap (λ words. drop 1 (get_or words 3 [])) is in let classes = caught_same one.class other.class fits.3 suits.3 (cc is) in
    λ i. record { start = starts i; end = ends i; handler = handlers i; class = classes i }

by_rank : (one other : Statement) → rank_of one ≡ rank_of other → IsStatement one → IsStatement other → statement_words one ≡ statement_words other → one ≡ other
unfolding rank_of
by_rank (statements.Class one) (statements.Class other) ranks fits suits is = ap statements.Class (class_same one other fits suits is)
by_rank (statements.Implements one) (statements.Implements other) ranks fits suits is = ap statements.Implements (name_same one other fits suits (cc is))
by_rank (statements.Field one) (statements.Field other) ranks fits suits is = ap statements.Field (field_same one other fits suits is)
by_rank (statements.Method one) (statements.Method other) ranks fits suits is = ap statements.Method (method_same one other fits suits is)
by_rank (statements.Limits one) (statements.Limits other) ranks fits suits is = ap statements.Limits (limits_same one other fits suits is)
by_rank (statements.Code one) (statements.Code other) ranks fits suits is = ap statements.Code (code_line_same one other fits suits is)
by_rank (statements.Catch one) (statements.Catch other) ranks fits suits is = ap statements.Catch (catch_same one other fits suits is)
by_rank (statements.Frame one) (statements.Frame other) ranks fits suits is = ap statements.Frame (frame_same one other fits suits (cc is) (cc is) (cc is))
by_rank statements.End statements.End ranks fits suits is = refl
by_rank one other ranks fits suits is = absurd (omega (arith, ranks))

pub one_statement : (one other : Statement) → IsStatement one → IsStatement other → statement_text one ≡ statement_text other → one ≡ other
one_statement one other fits suits is =
    let words : statement_words one ≡ statement_words other = words_same one other fits suits is in
    by_rank one other (sym (ranked one) ∙ ap (λ each. rank (first_word each)) words ∙ ranked other) fits suits words
