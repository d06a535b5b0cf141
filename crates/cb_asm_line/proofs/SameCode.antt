-- The words of a line of code say one thing.
use Rattle.std.proofs.Common.{◌≡◌, ◌∙◌, ap, sym, refl, subst, arith, inl, inr, codes, ℕ, ◌-◌, ◌≤◌, ℤ, FitsSigned, w32, Bool, true, false, List, [], ◌∷◌, drop, get_or, length, map, slice_get, Option, Some, None}
use Rattle.std.specs.List.{AllByRecursion, flat_map}
use Rattle.std.specs.Option.{unwrap_or}
use Rattle.std.proofs.lemmas.Option.{same_Some, slice_get-get_or}
use Rattle.cb_text.specs.declared.naming.MemberKind.{MemberKind}
use Rattle.cb_text.specs.declared.naming.MemberKind.TheVariants as kinds
use Rattle.cb_insn.specs.Forms.{head_form}
use Rattle.cb_insn.specs.declared.form.Form.{Form}
use Rattle.cb_insn.specs.declared.form.Form.TheVariants as forms
use Rattle.cb_classfile.specs.Needed.{kind_needed}
use Rattle.cb_classfile.specs.declared.needed.ConstantKind.{ConstantKind}
use Rattle.cb_classfile.specs.declared.needed.ConstantKind.TheVariants as needed
use Rattle.cb_asm_line.specs.Label.{Label}
use Rattle.cb_asm_line.specs.Lines.{Line, Word}
use Rattle.cb_asm_line.specs.Mnemonics.{array_types}
use Rattle.cb_asm_line.specs.Numbers.{IsDecimal}
use Rattle.cb_asm_line.specs.Operands.{array_type, label_word}
use Rattle.cb_asm_line.specs.Said.{IsInt, IsLabel, IsName, IsSmall, One, SaysValue, Three, Two}
use Rattle.cb_asm_line.specs.SaidCode.{Has, IsArrayType, IsShort, SaysAnyMethod, SaysDimensions, SaysForm, SaysIncrease, SaysInstruction, SaysInterface, SaysKind, SaysLookup, SaysMember, SaysNamed, SaysNamedInstruction, SaysTable, SaysWide, pair_words}
use Rattle.cb_asm_line.specs.declared.operand.Instruction.{Instruction}
use Rattle.cb_asm_line.specs.declared.operand.MemberText.{MemberText}
use Rattle.cb_asm_line.specs.declared.operand.Operand.{Operand}
use Rattle.cb_asm_line.specs.declared.operand.Operand.TheVariants.{Number, Local, Increase, Load, Member, Class, Array, Dimensions, Branch, Table, Lookup}
use Rattle.cb_asm_line.specs.declared.operand.Value.{Value}
use Rattle.cb_asm_line.specs.declared.operand.Value.TheVariants as values
use Rattle.cb_asm_line.proofs.Distinct.{one_place, place_of}
use Rattle.cb_asm_line.proofs.Quoted.{text_same}
use Rattle.cb_asm_line.proofs.SameWords.{byte_same, int_same, short_same, small_same}
use Rattle.cb_asm_line.proofs.Signed.{signed_same}
use Rattle.cb_asm_line.proofs.Spelled.{name_same}

-- words of one kind
is_name_same : (word : Word) (one other : List ℕ) → IsName word one → IsName word other → one ≡ other
is_name_same word one other is are = name_same one other is.units are.units (sym is.spelled ∙ are.spelled)

is_label_same : (word : Word) (one other : List ℕ) → IsLabel word one → IsLabel word other → one ≡ other
is_label_same word one other is are = ap (drop 1) (sym is.spelled ∙ are.spelled)

is_small_same : (word : Word) (one other : ℕ) → IsSmall word one → IsSmall word other → one ≡ other
is_small_same word one other is are = small_same one other is.fits are.fits (sym is.spelled ∙ are.spelled)

is_short_same : (word : Word) (one other : ℤ) → IsShort word one → IsShort word other → one ≡ other
is_short_same word one other is are = short_same one other is.fits are.fits (sym is.spelled ∙ are.spelled)

is_int_same : (word : Word) (one other : ℤ) → IsInt word one → IsInt word other → one ≡ other
is_int_same word one other is are = int_same one other is.fits are.fits (sym is.spelled ∙ are.spelled)

array_type_at : (code : ℕ) → 4 ≤ code → code ≤ 11 → slice_get array_types (code - 4) ≡ Some (array_type code)
array_type_at code least most =
    let counted : length array_types ≡ 8 = refl in
    let found : slice_get array_types (code - 4) ≡ Some (get_or array_types (code - 4) []) = slice_get-get_or array_types (code - 4) [] (omega (arith, counted)) in
    found ∙ ap Some (sym (ap (λ each. unwrap_or each []) found))

is_array_same : (word : Word) (one other : ℕ) → IsArrayType word one → IsArrayType word other → one ≡ other
is_array_same word one other is are =
    let place : one - 4 ≡ other - 4 = place_of array_types (one - 4) (other - 4) word refl (array_type_at one is.least is.most ∙ ap Some (sym is.spelled)) (array_type_at other are.least are.most ∙ ap Some (sym are.spelled)) in
    let a = is.least in let b = are.least in omega (arith, place, a, b)

-- so many words
one_same : {T : Type 0} (Says : Word → T → Type 0) → ((word : Word) (a b : T) → Says word a → Says word b → a ≡ b) → (words : Line) (one other : T) → One Says words one → One Says words other → one ≡ other
one_same Says same words one other is are =
    let first : are.first ≡ is.first = cc (is.are, are.are) in same is.first one other is.says (subst (λ word. Says word other) first are.says)

two_same : {T : Type 0} (Says : Word → Word → T → Type 0) → ((first second : Word) (a b : T) → Says first second a → Says first second b → a ≡ b) → (words : Line) (one other : T) → Two Says words one → Two Says words other → one ≡ other
two_same Says same words one other is are =
    let first : are.first ≡ is.first = cc (is.are, are.are) in let second : are.second ≡ is.second = cc (is.are, are.are) in
    same is.first is.second one other is.says (subst (λ word. Says is.first word other) second (subst (λ word. Says word are.second other) first are.says))

three_same : {T : Type 0} (Says : Word → Word → Word → T → Type 0) → ((first second third : Word) (a b : T) → Says first second third a → Says first second third b → a ≡ b) → (words : Line) (one other : T) → Three Says words one → Three Says words other → one ≡ other
three_same Says same words one other is are =
    let first : are.first ≡ is.first = cc (is.are, are.are) in let second : are.second ≡ is.second = cc (is.are, are.are) in let third : are.third ≡ is.third = cc (is.are, are.are) in
    same is.first is.second is.third one other is.says (subst (λ word. Says is.first is.second word other) third (subst (λ word. Says is.first word are.third other) second (subst (λ word. Says word are.second are.third other) first are.says)))

has_same : {T : Type 0} (variant : T → Operand) (Says : Line → T → Type 0) → ((words : Line) (a b : T) → Says words a → Says words b → a ≡ b) → (words : Line) (one other : Operand) → Has variant Says words one → Has variant Says words other → one ≡ other
has_same variant Says same words one other is are = is.is ∙ ap variant (same words is.part are.part is.says are.says) ∙ sym are.is

-- constants
tag : Value → ℕ
tag (values.Int number) = 105
tag (values.Long number) = 108
tag (values.Text text) = 116
tag (values.Class name) = 99

tag_is : (kind word : Word) (value : Value) → SaysValue kind word value → get_or kind 0 0 ≡ tag value
unfolding tag
tag_is kind word (values.Int number) says = ap (λ each. get_or each 0 0) says.0
tag_is kind word (values.Long number) says = ap (λ each. get_or each 0 0) says.0
tag_is kind word (values.Text text) says = ap (λ each. get_or each 0 0) says.0
tag_is kind word (values.Class name) says = ap (λ each. get_or each 0 0) says.0

value_by_tag : (kind word : Word) (one other : Value) → tag one ≡ tag other → SaysValue kind word one → SaysValue kind word other → one ≡ other
unfolding tag
value_by_tag kind word (values.Int one) (values.Int other) tags is are = ap values.Int (is_int_same word one other is.1 are.1)
value_by_tag kind word (values.Long one) (values.Long other) tags is are = ap values.Long (signed_same one other is.1.fits are.1.fits (sym is.1.spelled ∙ are.1.spelled))
value_by_tag kind word (values.Text one) (values.Text other) tags is are = ap values.Text (text_same one other is.1.units are.1.units (sym is.1.spelled ∙ are.1.spelled))
value_by_tag kind word (values.Class one) (values.Class other) tags is are = ap values.Class (is_name_same word one other is.1 are.1)
value_by_tag kind word one other tags is are = absurd (omega (arith, tags))

value_same : (kind word : Word) (one other : Value) → SaysValue kind word one → SaysValue kind word other → one ≡ other
value_same kind word one other is are = value_by_tag kind word one other (sym (tag_is kind word one is) ∙ tag_is kind word other are) is are

pub two_values_same : (words : Line) (one other : Value) → Two SaysValue words one → Two SaysValue words other → one ≡ other
two_values_same words one other is are = two_same SaysValue value_same words one other is are

-- members
member_same : (kind : MemberKind) (first second third : Word) (one other : MemberText) → SaysMember kind first second third one → SaysMember kind first second third other → one ≡ other
member_same kind first second third one other is are =
    let kinds : one.kind ≡ other.kind = is.is ∙ sym are.is in
    let classes = is_name_same first one.class other.class is.class are.class in
    let names = is_name_same second one.name other.name is.name are.name in
    let descriptors = is_name_same third one.descriptor other.descriptor is.descriptor are.descriptor in
    λ i. record { kind = kinds i; class = classes i; name = names i; descriptor = descriptors i }

members_same : (kind : MemberKind) (words : Line) (one other : MemberText) → Three (SaysMember kind) words one → Three (SaysMember kind) words other → one ≡ other
members_same kind words one other is are = three_same (SaysMember kind) (member_same kind) words one other is are

interface_same : (words : Line) (one other : MemberText) → SaysInterface words one → SaysInterface words other → one ≡ other
interface_same words one other is are =
    let rest : are.rest ≡ is.rest = cc (is.are, are.are) in
    members_same kinds.InterfaceMethod is.rest one other is.says (subst (λ each. Three (SaysMember kinds.InterfaceMethod) each other) rest are.says)

not_both : (words : Line) (one other : MemberText) → SaysInterface words one → Three (SaysMember kinds.Method) words other → ⊥
not_both words one other is are =
    let long : length words ≡ 4 = ap length (is.are ∙ ap (λ rest. codes "interface" ∷ rest) is.says.are) in
    let short : length words ≡ 3 = ap length are.are in omega (arith, long, short)

method_same : (words : Line) (one other : MemberText) → SaysAnyMethod words one → SaysAnyMethod words other → one ≡ other
method_same words one other (inl is) (inl are) = interface_same words one other is are
method_same words one other (inl is) (inr are) = absurd (not_both words one other is are)
method_same words one other (inr is) (inl are) = absurd (not_both words other one are is)
method_same words one other (inr is) (inr are) = members_same kinds.Method words one other is are

named_same : (kind : ConstantKind) (words : Line) (one other : Operand) → SaysNamed kind words one → SaysNamed kind words other → one ≡ other
named_same needed.Loadable words one other is are = has_same Load (Two SaysValue) two_values_same words one other is are
named_same needed.Wide words one other is are = has_same Load (Two SaysValue) two_values_same words one other is are
named_same needed.Class words one other is are = has_same Class (One IsName) (one_same IsName is_name_same) words one other is are
named_same needed.Field words one other is are = has_same Member (Three (SaysMember kinds.Field)) (members_same kinds.Field) words one other is are
named_same needed.ClassMethod words one other is are = has_same Member (Three (SaysMember kinds.Method)) (members_same kinds.Method) words one other is are
named_same needed.AnyMethod words one other is are = has_same Member SaysAnyMethod method_same words one other is are
named_same needed.InterfaceMethod words one other is are = has_same Member SaysInterface interface_same words one other is are
named_same needed.Dynamic words one other is are = absurd is

kind_same : (kind : Option ConstantKind) (words : Line) (one other : Operand) → SaysKind kind words one → SaysKind kind words other → one ≡ other
kind_same None words one other is are = absurd is
kind_same (Some kind) words one other is are = named_same kind words one other is are

-- the operands of other forms
increase_same : (first second : Word) (one other : ℕ × ℤ) → SaysIncrease first second one → SaysIncrease first second other → one ≡ other
increase_same first second one other is are =
    let locals = is_small_same first one.0 other.0 is.local are.local in let by = is_short_same second one.1 other.1 is.by are.by in λ i. (locals i, by i)

dimensions_same : (first second : Word) (one other : List ℕ × ℕ) → SaysDimensions first second one → SaysDimensions first second other → one ≡ other
dimensions_same first second one other is are =
    let classes = is_name_same first one.0 other.0 is.class are.class in
    let counts = byte_same one.1 other.1 is.dimensions.fits are.dimensions.fits (sym is.dimensions.spelled ∙ are.dimensions.spelled) in λ i. (classes i, counts i)

each_label_same : (one other : List Label) → map label_word one ≡ map label_word other → one ≡ other
each_label_same [] [] is = refl
each_label_same [] (label ∷ other) is = absurd (cc is)
each_label_same (label ∷ one) [] is = absurd (cc is)
each_label_same (label ∷ one) (next ∷ other) is =
    let first : label ≡ next = ap (λ words. drop 1 (get_or words 0 [])) is in let rest = each_label_same one other (ap (drop 1) is) in λ i. first i ∷ rest i

each_pair_same : (one other : List (ℤ × Label)) → AllByRecursion (λ pair. FitsSigned w32 pair.0 × IsDecimal pair.1) one → AllByRecursion (λ pair. FitsSigned w32 pair.0 × IsDecimal pair.1) other → flat_map pair_words one ≡ flat_map pair_words other → one ≡ other
each_pair_same [] [] fits suits is = refl
each_pair_same [] (pair ∷ other) fits suits is = absurd (cc is)
each_pair_same (pair ∷ one) [] fits suits is = absurd (cc is)
each_pair_same (pair ∷ one) (next ∷ other) fits suits is =
    let keys : pair.0 ≡ next.0 = int_same pair.0 next.0 fits.0.0 suits.0.0 (cc is) in
    let labels : pair.1 ≡ next.1 = ap (λ words. drop 1 (get_or words 1 [])) is in
    let rest = each_pair_same one other fits.1 suits.1 (ap (drop 2) is) in λ i. (keys i, labels i) ∷ rest i

table_same : (words : Line) (one other : ℤ × Label × List Label) → SaysTable words one → SaysTable words other → one ≡ other
table_same words one other is are =
    let first : are.first ≡ is.first = cc (is.have, are.have) in let second : are.second ≡ is.second = cc (is.have, are.have) in let rest : is.rest ≡ are.rest = cc (is.have, are.have) in
    let lows = is_int_same is.first one.0 other.0 is.low (subst (λ word. IsInt word other.0) first are.low) in
    let defaults = is_label_same is.second one.1 other.1 is.default (subst (λ word. IsLabel word other.1) second are.default) in
    let labels = each_label_same one.2 other.2 (sym is.labels.are ∙ rest ∙ are.labels.are) in λ i. (lows i, defaults i, labels i)

lookup_same : (words : Line) (one other : Label × List (ℤ × Label)) → SaysLookup words one → SaysLookup words other → one ≡ other
lookup_same words one other is are =
    let first : are.first ≡ is.first = cc (is.have, are.have) in let rest : is.rest ≡ are.rest = cc (is.have, are.have) in
    let defaults = is_label_same is.first one.0 other.0 is.default (subst (λ word. IsLabel word other.0) first are.default) in
    let pairs = each_pair_same one.1 other.1 is.pairs.each are.pairs.each (sym is.pairs.are ∙ rest ∙ are.pairs.are) in λ i. (defaults i, pairs i)

form_same : (kind : Option ConstantKind) (form : Form) (words : Line) (one other : Operand) → SaysForm kind form words one → SaysForm kind form words other → one ≡ other
form_same kind forms.Plain words one other is are = is.is ∙ sym are.is
form_same kind forms.Byte words one other is are = has_same Number (One IsShort) (one_same IsShort is_short_same) words one other is are
form_same kind forms.Short words one other is are = has_same Number (One IsShort) (one_same IsShort is_short_same) words one other is are
form_same kind forms.PoolByte words one other is are = kind_same kind words one other is are
form_same kind forms.Pool words one other is are = kind_same kind words one other is are
form_same kind forms.Interface words one other is are = kind_same kind words one other is are
form_same kind forms.Local words one other is are = has_same Local (One IsSmall) (one_same IsSmall is_small_same) words one other is are
form_same kind forms.WideLocal words one other is are = has_same Local (One IsSmall) (one_same IsSmall is_small_same) words one other is are
form_same kind forms.Increase words one other is are = has_same (λ pair. Increase pair.0 pair.1) (Two SaysIncrease) (two_same SaysIncrease increase_same) words one other is are
form_same kind forms.WideIncrease words one other is are = has_same (λ pair. Increase pair.0 pair.1) (Two SaysIncrease) (two_same SaysIncrease increase_same) words one other is are
form_same kind forms.Branch words one other is are = has_same Branch (One IsLabel) (one_same IsLabel is_label_same) words one other is are
form_same kind forms.LongBranch words one other is are = has_same Branch (One IsLabel) (one_same IsLabel is_label_same) words one other is are
form_same kind forms.ArrayCode words one other is are = has_same Array (One IsArrayType) (one_same IsArrayType is_array_same) words one other is are
form_same kind forms.Dimensions words one other is are = has_same (λ pair. Dimensions pair.0 pair.1) (Two SaysDimensions) (two_same SaysDimensions dimensions_same) words one other is are
form_same kind forms.Table words one other is are = has_same (λ table. Table table.0 table.1 table.2) SaysTable table_same words one other is are
form_same kind forms.Lookup words one other is are = has_same (λ lookup. Lookup lookup.0 lookup.1) SaysLookup lookup_same words one other is are
form_same kind forms.Dynamic words one other is are = absurd is

-- instructions, by their names
instruction_named_same : (wide : Bool) (words : Line) (one other : Instruction) → SaysNamedInstruction wide words one → SaysNamedInstruction wide words other → one ≡ other
instruction_named_same wide words one other is are =
    let names : are.name ≡ is.name = cc (is.have, are.have) in let rest : are.rest ≡ is.rest = cc (is.have, are.have) in
    let opcodes : one.opcode ≡ other.opcode = one_place one.opcode other.opcode is.name is.named (are.named ∙ ap Some names) in
    let forms : are.form ≡ is.form = same_Some are.form is.form (sym are.formed ∙ ap (head_form wide) (sym opcodes) ∙ is.formed) in
    let wides : one.wide ≡ other.wide = is.widened ∙ sym are.widened in
    let says : SaysForm (kind_needed one.opcode) is.form is.rest other.operand = subst (λ each. SaysForm (kind_needed one.opcode) is.form each other.operand) rest (subst (λ each. SaysForm (kind_needed one.opcode) each are.rest other.operand) forms (subst (λ each. SaysForm (kind_needed each) are.form are.rest other.operand) (sym opcodes) are.says)) in
    let operands : one.operand ≡ other.operand = form_same (kind_needed one.opcode) is.form is.rest one.operand other.operand is.says says in
    λ i. record { opcode = opcodes i; wide = wides i; operand = operands i }

not_wide : (words : Line) (one other : Instruction) → SaysWide words one → SaysNamedInstruction false words other → ⊥
not_wide words one other is are =
    let name : are.name ≡ codes "wide" = cc (is.have, are.have) in
    let opcode : other.opcode ≡ 196 = one_place other.opcode 196 (codes "wide") (are.named ∙ ap Some name) refl in
    let none : head_form false other.opcode ≡ None = ap (head_form false) opcode in absurd (cc (none, are.formed))

pub instruction_same : (words : Line) (one other : Instruction) → SaysInstruction words one → SaysInstruction words other → one ≡ other
instruction_same words one other (inl is) (inl are) =
    let rest : are.rest ≡ is.rest = cc (is.have, are.have) in instruction_named_same true is.rest one other is.says (subst (λ each. SaysNamedInstruction true each other) rest are.says)
instruction_same words one other (inl is) (inr are) = absurd (not_wide words one other is are)
instruction_same words one other (inr is) (inl are) = absurd (not_wide words other one are is)
instruction_same words one other (inr is) (inr are) = instruction_named_same false words one other is are
