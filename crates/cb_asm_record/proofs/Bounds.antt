-- What a program whose record is well formed keeps within: its constants make a pool, its code is short, and the counts of
-- its instructions fit a byte.
use Rattle.std.proofs.Common.{◌≡◌, ◌∙◌, ap, sym, refl, subst, arith, ℕ, ℤ, ◌+◌, ◌*◌, ◌<◌, ◌^◌, Bool, true, false, List, [], ◌∷◌, length, map, Option, Some, None, option_map, IfSome, length-append, ◌==◌, if◌then◌else◌}
use Rattle.std.specs.List.{AllByRecursion}
use Rattle.std.proofs.lemmas.List.{length-map}
use Rattle.cb_text.specs.declared.constant.Constant.{Constant}
use Rattle.cb_text.specs.Pool.{IsPool, SpellsPool}
use Rattle.cb_insn.specs.declared.form.Form.{Form}
use Rattle.cb_insn.specs.declared.form.Form.TheVariants as forms
use Rattle.cb_insn.specs.declared.insn.Insn.{Insn}
use Rattle.cb_insn.specs.declared.insn.Operand.TheVariants as operands
use Rattle.cb_insn.specs.declared.opcode.TheConstants as opcodes
use Rattle.cb_insn.specs.Faults.{padding_length}
use Rattle.cb_insn.specs.Forms.{head_bytes, head_form}
use Rattle.cb_insn.specs.Grammar.{SpellsFrom, SpellsIn, SpellsInsn}
use Rattle.cb_insn.specs.Writing.{bytes_in, code_bytes, insn_bytes, operand_bytes}
use Rattle.cb_insn.proofs.Laws.{code_length}
use Rattle.cb_classfile.specs.Attributes.{SpellsOnce}
use Rattle.cb_classfile.specs.Code.{SpellsBody}
use Rattle.cb_classfile.specs.Members.{SpellsMethod}
use Rattle.cb_classfile.specs.Tables.{SpellsEach}
use Rattle.cb_asm_line.specs.declared.operand.Instruction.{Instruction}
use Rattle.cb_asm_line.specs.declared.operand.MemberText.{MemberText}
use Rattle.cb_asm_line.specs.declared.operand.Operand.{Operand}
use Rattle.cb_asm_line.specs.declared.operand.Operand.TheVariants.{Nothing, Number, Local, Increase, Load, Member, Class, Array, Dimensions, Branch, Table, Lookup}
use Rattle.cb_asm_line.specs.declared.program.CodeLine.{CodeLine}
use Rattle.cb_asm_line.specs.declared.program.CodeLine.TheVariants.{Here, Do}
use Rattle.cb_asm_line.specs.declared.program.CodeText.{CodeText}
use Rattle.cb_asm_line.specs.declared.program.MethodText.{MethodText}
use Rattle.cb_asm_line.specs.declared.program.Program.{Program}
use Rattle.cb_asm_line.specs.Label.{Label}
use Rattle.cb_asm_line.specs.Parameters.{argument_words}
use Rattle.cb_asm_record.specs.Constants.{entries_of}
use Rattle.cb_asm_record.specs.Entries.{Entry}
use Rattle.cb_asm_record.specs.Grammar.{HasCode, IsCode, IsProgram, LineHasLabels}
use Rattle.cb_asm_record.specs.Inner.{CountFits, HasBody, HasRecord, LineStands, MethodHasBody, end_from}
use Rattle.cb_asm_record.specs.Labels.{code_from, insn_of, member_operand, operand_of, place_at, size_at}
use Rattle.cb_asm_record.specs.Record.{body_of, method_of}
use Rattle.cb_asm_record.specs.Uses.{program_uses}
use Rattle.cb_asm_record.proofs.Alls.{all_weaker}
use Rattle.cb_asm_record.proofs.Sizes.{lookup_length, table_length}

-- an operand takes as many bytes whatever its indices and places are
pool_same : (pc : ℕ) (form : Form) (one other : ℕ) → length (operand_bytes pc form (operands.Pool one)) ≡ length (operand_bytes pc form (operands.Pool other))
pool_same pc forms.PoolByte one other = refl
pool_same pc forms.Pool one other = refl
pool_same pc forms.Dynamic one other = refl
pool_same pc form one other = refl

interface_same : (pc : ℕ) (form : Form) (one other count : ℕ) → length (operand_bytes pc form (operands.Interface one count)) ≡ length (operand_bytes pc form (operands.Interface other count))
interface_same pc forms.Interface one other count = refl
interface_same pc form one other count = refl

dimensions_same : (pc : ℕ) (form : Form) (one other dimensions : ℕ) → length (operand_bytes pc form (operands.Dimensions one dimensions)) ≡ length (operand_bytes pc form (operands.Dimensions other dimensions))
dimensions_same pc forms.Dimensions one other dimensions = refl
dimensions_same pc form one other dimensions = refl

branch_same : (pc : ℕ) (form : Form) (one other : ℕ) → length (operand_bytes pc form (operands.Branch one)) ≡ length (operand_bytes pc form (operands.Branch other))
branch_same pc forms.Branch one other = refl
branch_same pc forms.LongBranch one other = refl
branch_same pc form one other = refl

member_same : (pc : ℕ) (form : Form) (opcode one other : ℕ) (member : MemberText) → length (operand_bytes pc form (member_operand opcode one member)) ≡ length (operand_bytes pc form (member_operand opcode other member))
member_same pc form opcode one other member = by_test (opcode == opcodes.INVOKEINTERFACE)
  where
    by_test : (test : Bool) → length (operand_bytes pc form (if test then operands.Interface one (argument_words member.descriptor) else operands.Pool one))
        ≡ length (operand_bytes pc form (if test then operands.Interface other (argument_words member.descriptor) else operands.Pool other))
    by_test true = interface_same pc form one other (argument_words member.descriptor)
    by_test false = pool_same pc form one other

table_same : (pc : ℕ) (form : Form) (entries : List Entry) (place : Label → ℕ) (opcode : ℕ) (low : ℤ) (default : Label) (labels : List Label)
    → length (operand_bytes pc form (operand_of entries place opcode (Table low default labels))) ≡ length (operand_bytes pc form (operand_of [] (λ _. 0) opcode (Table low default labels)))
table_same pc forms.Table entries place opcode low default labels =
    table_length pc (place default) low (map place labels)
    ∙ ap (λ count. padding_length pc + 12 + 4 * count) (length-map labels place ∙ sym (length-map labels (λ _. 0)))
    ∙ sym (table_length pc 0 low (map (λ _. 0) labels))
table_same pc form entries place opcode low default labels = refl

lookup_same : (pc : ℕ) (form : Form) (entries : List Entry) (place : Label → ℕ) (opcode : ℕ) (default : Label) (pairs : List (ℤ × Label))
    → length (operand_bytes pc form (operand_of entries place opcode (Lookup default pairs))) ≡ length (operand_bytes pc form (operand_of [] (λ _. 0) opcode (Lookup default pairs)))
lookup_same pc forms.Lookup entries place opcode default pairs =
    lookup_length pc (place default) (map (λ pair. record { key = pair.0; target = place pair.1 }) pairs)
    ∙ ap (λ count. padding_length pc + 8 + 8 * count) (length-map pairs (λ pair. record { key = pair.0; target = place pair.1 }) ∙ sym (length-map pairs (λ pair. record { key = pair.0; target = 0 })))
    ∙ sym (lookup_length pc 0 (map (λ pair. record { key = pair.0; target = 0 }) pairs))
lookup_same pc form entries place opcode default pairs = refl

operand_same : (pc : ℕ) (form : Form) (entries : List Entry) (place : Label → ℕ) (opcode : ℕ) (operand : Operand)
    → length (operand_bytes pc form (operand_of entries place opcode operand)) ≡ length (operand_bytes pc form (operand_of [] (λ _. 0) opcode operand))
operand_same pc form entries place opcode Nothing = refl
operand_same pc form entries place opcode (Number number) = refl
operand_same pc form entries place opcode (Local local) = refl
operand_same pc form entries place opcode (Increase local by) = refl
operand_same pc form entries place opcode (Load value) = pool_same pc form _ _
operand_same pc form entries place opcode (Member member) = member_same pc form opcode _ _ member
operand_same pc form entries place opcode (Class name) = pool_same pc form _ _
operand_same pc form entries place opcode (Array code) = refl
operand_same pc form entries place opcode (Dimensions name dimensions) = dimensions_same pc form _ _ dimensions
operand_same pc form entries place opcode (Branch label) = branch_same pc form _ _
operand_same pc form entries place opcode (Table low default labels) = table_same pc form entries place opcode low default labels
operand_same pc form entries place opcode (Lookup default pairs) = lookup_same pc form entries place opcode default pairs

insn_same : (pc : ℕ) (entries : List Entry) (place : Label → ℕ) (instruction : Instruction) → length (insn_bytes pc (insn_of entries place instruction)) ≡ size_at pc instruction
insn_same pc entries place instruction =
    length-append head (bytes_in pc (head_form instruction.wide instruction.opcode) (operand_of entries place instruction.opcode instruction.operand))
    ∙ ap (λ count. length head + count) (of_form (head_form instruction.wide instruction.opcode))
    ∙ sym (length-append head (bytes_in pc (head_form instruction.wide instruction.opcode) (operand_of [] (λ _. 0) instruction.opcode instruction.operand)))
  where
    head : List ℕ
    head = head_bytes instruction.wide instruction.opcode

    of_form : (form : Option Form) → length (bytes_in pc form (operand_of entries place instruction.opcode instruction.operand)) ≡ length (bytes_in pc form (operand_of [] (λ _. 0) instruction.opcode instruction.operand))
    of_form None = refl
    of_form (Some form) = operand_same pc form entries place instruction.opcode instruction.operand

-- so code ends where its lines do
pub code_ends : (entries : List Entry) (place : Label → ℕ) (pc : ℕ) (lines : List CodeLine) → pc + length (code_bytes (code_from entries place pc lines)) ≡ end_from pc lines
code_ends entries place pc [] = omega arith
code_ends entries place pc (Here label ∷ lines) = code_ends entries place pc lines
code_ends entries place pc (Do instruction ∷ lines) =
    let rest = code_ends entries place (pc + size_at pc instruction) lines in
    let size = insn_same pc entries place instruction in
    let both = length-append (insn_bytes pc (insn_of entries place instruction)) (code_bytes (code_from entries place (pc + size_at pc instruction) lines)) in
    omega (arith, rest, size, both)

-- each instruction of spelled code is spelled
spelled_each : (pc : ℕ) (code : List (ℕ × Insn)) (bytes : List ℕ) → SpellsFrom pc code bytes → AllByRecursion (λ placed. (some : List ℕ) × SpellsInsn placed.0 placed.1 some) code
spelled_each pc [] bytes spells = tt
spelled_each pc ((at, insn) ∷ code) bytes (first, rest, is, spells, whole, from) =
    ((first, subst (λ place. SpellsInsn place insn first) (sym is) spells), spelled_each (pc + length first) code rest from)

-- so the count of invokeinterface fits
interface_fits : (pc : ℕ) (wide : Bool) (index count : ℕ) (behind : List ℕ) → SpellsIn pc (head_form wide opcodes.INVOKEINTERFACE) (operands.Interface index count) behind → count < 2 ^ 8
interface_fits pc true index count behind spells = absurd spells
interface_fits pc false index count behind (pool, some, few, is) = few

count_fits : (entries : List Entry) (place : Label → ℕ) (pc : ℕ) (wide : Bool) (opcode : ℕ) (operand : Operand) (behind : List ℕ)
    → SpellsIn pc (head_form wide opcode) (operand_of entries place opcode operand) behind → CountFits opcode operand
count_fits entries place pc wide opcode (Member member) behind spells = λ is.
    interface_fits pc wide _ (argument_words member.descriptor) behind (subst (λ code. SpellsIn pc (head_form wide code) (operand_of entries place code (Member member)) behind) is spells)
count_fits entries place pc wide opcode Nothing behind spells = tt
count_fits entries place pc wide opcode (Number number) behind spells = tt
count_fits entries place pc wide opcode (Local local) behind spells = tt
count_fits entries place pc wide opcode (Increase local by) behind spells = tt
count_fits entries place pc wide opcode (Load value) behind spells = tt
count_fits entries place pc wide opcode (Class name) behind spells = tt
count_fits entries place pc wide opcode (Array code) behind spells = tt
count_fits entries place pc wide opcode (Dimensions name dimensions) behind spells = tt
count_fits entries place pc wide opcode (Branch label) behind spells = tt
count_fits entries place pc wide opcode (Table low default labels) behind spells = tt
count_fits entries place pc wide opcode (Lookup default pairs) behind spells = tt

abbrev Counts : CodeLine → Type 0
Counts (Here label) = Unit {0}
Counts (Do instruction) = CountFits instruction.opcode instruction.operand

counts_fit : (entries : List Entry) (place : Label → ℕ) (pc : ℕ) (lines : List CodeLine)
    → AllByRecursion (λ placed. (some : List ℕ) × SpellsInsn placed.0 placed.1 some) (code_from entries place pc lines) → AllByRecursion Counts lines
counts_fit entries place pc [] all = tt
counts_fit entries place pc (Here label ∷ lines) all = (tt, counts_fit entries place pc lines all)
counts_fit entries place pc (Do instruction ∷ lines) ((some, (behind, is, spells)), all) =
    (count_fits entries place pc instruction.wide instruction.opcode instruction.operand behind spells, counts_fit entries place (pc + size_at pc instruction) lines all)

-- what the code of a method keeps within
record IsWithin (code : CodeText) : Type 0 where
  pub short : end_from 0 code.lines < 2 ^ 16
  pub counts : AllByRecursion Counts code.lines

body_within : (entries : List Entry) (pool : List Constant) (code : CodeText) (bytes : List ℕ) → SpellsBody pool bytes (body_of entries code) → IsWithin code
body_within entries pool code bytes spells =
    let place = place_at code.lines in
    let coded = spells.instructions.spelled in
    let long = code_length _ _ coded in
    let few = spells.spelled.behind.here.few in
    let ends = code_ends entries place 0 code.lines in
    record {
      short = omega (arith, long, few, ends);
      counts = counts_fit entries place 0 code.lines (spelled_each 0 _ _ coded.spelled);
    }

once_within : (entries : List Entry) (pool : List Constant) (code : Option CodeText) (contents : List (List ℕ)) → SpellsOnce (SpellsBody pool) contents (option_map (body_of entries) code) → IfSome code IsWithin
once_within entries pool None contents spells = tt
once_within entries pool (Some code) [] spells = absurd spells
once_within entries pool (Some code) (one ∷ []) spells = body_within entries pool code one spells
once_within entries pool (Some code) (one ∷ other ∷ contents) spells = absurd spells

each_within : (entries : List Entry) (pool : List Constant) (methods : List MethodText) (bytes : List ℕ) → SpellsEach (SpellsMethod pool) bytes (map (method_of entries) methods)
    → AllByRecursion (λ method. IfSome method.code IsWithin) methods
each_within entries pool [] bytes spells = tt
each_within entries pool (method ∷ methods) bytes (first, rest, spells, each, is) =
    (once_within entries pool method.code _ spells.body, each_within entries pool methods rest each)

-- and with labels that stand as they should it has a body
lines_stand : (code lines : List CodeLine) → AllByRecursion (LineHasLabels code) lines → AllByRecursion Counts lines → AllByRecursion (LineStands code) lines
lines_stand code [] labels counts = tt
lines_stand code (Here label ∷ lines) labels counts = (tt, lines_stand code lines labels.1 counts.1)
lines_stand code (Do instruction ∷ lines) labels counts = (record { labels = labels.0; count = counts.0 }, lines_stand code lines labels.1 counts.1)

has_body : (code : CodeText) → IsCode code → IsWithin code → HasBody code
has_body code is within = record {
  laid = record { once = is.once; short = within.short };
  lines = record { each = lines_stand code.lines code.lines is.lines within.counts; short = within.short };
  catches = is.catches;
  frames = record { each = is.frames; ascending = is.ascending };
}

method_has_body : (code : Option CodeText) → IfSome code IsCode → IfSome code IsWithin → IfSome code HasBody
method_has_body None is within = tt
method_has_body (Some code) is within = has_body code is within

have_bodies : (methods : List MethodText) → AllByRecursion (λ method. IfSome method.code IsCode) methods → AllByRecursion (λ method. IfSome method.code IsWithin) methods → AllByRecursion MethodHasBody methods
have_bodies [] are within = tt
have_bodies (method ∷ methods) are within = (method_has_body method.code are.0 within.0, have_bodies methods are.1 within.1)

made_pool : (bytes : List ℕ) (constants : List Constant) → SpellsPool bytes constants → IsPool constants
made_pool bytes constants spells = record { spelled = refl; counted = spells.counted; fit = spells.fit; laid_out = spells.laid_out; indexed = spells.indexed }

-- a program has a record
pub has_record : (program : Program) → IsProgram program → HasRecord program
has_record program is =
    let contents = is.formed.1.behind in
    record {
      pool = made_pool _ _ contents.spelled.here;
      methods = have_bodies program.methods is.code (each_within (entries_of (program_uses program)) _ program.methods _ contents.spelled.behind.spelled.behind.behind.behind.here.each);
    }

-- and code that has a body is as it should be
lines_labelled : (code lines : List CodeLine) → AllByRecursion (LineStands code) lines → AllByRecursion (LineHasLabels code) lines
lines_labelled code [] stand = tt
lines_labelled code (Here label ∷ lines) stand = (tt, lines_labelled code lines stand.1)
lines_labelled code (Do instruction ∷ lines) stand = (stand.0.labels, lines_labelled code lines stand.1)

is_code : (code : CodeText) → HasBody code → IsCode code
is_code code has = record {
  once = has.laid.once;
  lines = lines_labelled code.lines code.lines has.lines.each;
  catches = has.catches;
  frames = has.frames.each;
  ascending = has.frames.ascending;
}

code_is : (code : Option CodeText) → IfSome code HasBody → IfSome code IsCode
code_is None has = tt
code_is (Some code) has = is_code code has

pub has_code : (program : Program) → HasRecord program → HasCode program
has_code program has = all_weaker MethodHasBody (λ method. IfSome method.code IsCode) (λ method. code_is method.code) program.methods has.methods
