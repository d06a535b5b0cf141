-- The code of well formed classes: bytes spell it, and it has an instruction at least.
use Rattle.std.proofs.Common.{◌≡◌, ap, refl, subst, arith, ℕ, ◌+◌, ◌<◌, List, [], ◌∷◌, length, Option, Some, None, slice_get}
use Rattle.std.specs.List.{AllByRecursion, enumerate_from}
use Rattle.cb_classfile.specs.Attributes.{SpellsOnce}
use Rattle.cb_classfile.specs.Class.{IsWellFormed}
use Rattle.cb_classfile.specs.Code.{SpellsBody}
use Rattle.cb_classfile.specs.Members.{SpellsMethod}
use Rattle.cb_classfile.specs.Tables.{SpellsEach}
use Rattle.cb_classfile.specs.declared.body.Body.{Body}
use Rattle.cb_classfile.specs.declared.class.ClassFile.{ClassFile}
use Rattle.cb_classfile.specs.declared.method.Method.{Method}
use Rattle.cb_insn.specs.Grammar.{SpellsCode, SpellsFrom}
use Rattle.cb_insn.specs.declared.insn.Insn.{Insn}
use Rattle.cb_link.specs.Named.{code_of}
use Rattle.cb_link.specs.Numbers.{Numbered, methods_of}
use Rattle.cb_link.specs.Places.{numbered_in}
use Rattle.cb_link.specs.Program.{Linked}
use Rattle.cb_text.specs.declared.constant.Constant.{Constant}
use Rattle.cb_safety.specs.Advancing.{IsSpelled}
use Rattle.cb_safety.specs.Beginning.{HasCode}
use Rattle.cb_safety.proofs.Called.{HasParts, all_changed, has_parts}
use Rattle.cb_safety.proofs.Lists.{all_at, all_given}

-- ---- of one method

-- where it has code, bytes spell that, and these aren't none
abbrev IsCode : Option Body → Type 0
IsCode None = Unit {0}
IsCode (Some body) = (bytes : List ℕ) × SpellsCode body.code bytes × (0 < length bytes)

body_code : (pool : List Constant) (contents : List (List ℕ)) (body : Option Body) → SpellsOnce (SpellsBody pool) contents body → IsCode body
body_code pool [] None spells = tt
body_code pool [] (Some body) spells = absurd spells
body_code pool (one ∷ []) None spells = tt
body_code pool (one ∷ []) (Some body) spells = (spells.code, spells.instructions.spelled, spells.spelled.behind.here.some)
body_code pool (one ∷ other ∷ more) None spells = tt
body_code pool (one ∷ other ∷ more) (Some body) spells = absurd spells

methods_code : (pool : List Constant) (bytes : List ℕ) (methods : List Method) → SpellsEach (SpellsMethod pool) bytes methods → AllByRecursion (λ method. IsCode method.body) methods
methods_code pool bytes [] spells = tt
methods_code pool bytes (method ∷ methods) (first, rest, spells, more, is) = (body_code pool _ method.body spells.body, methods_code pool rest methods more)

class_code : (class : ClassFile) → IsWellFormed class → AllByRecursion (λ method. IsCode method.body) class.methods
class_code class (bytes, spelled) =
    let tables = spelled.behind.spelled.behind.spelled.behind.behind.behind.here in
    methods_code class.pool tables.entries class.methods tables.each

-- ---- of all methods by their numbers

all_numbered : {Item : Type 0} (P : Item → Type 0) (start : ℕ) (items : List Item) → AllByRecursion P items → AllByRecursion (λ entry. P entry.1) (enumerate_from start items)
all_numbered P start [] all = tt
all_numbered P start (item ∷ items) all = (all.0, all_numbered P (start + 1) items all.1)

methods_are_code : (classes : List ClassFile) → AllByRecursion IsWellFormed classes → AllByRecursion (λ own. IsCode own.member.body) (methods_of classes)
methods_are_code classes formed =
    all_given (λ (entry : ℕ × ClassFile). IsWellFormed entry.1) (λ (own : Numbered Method). IsCode own.member.body) (numbered_in (λ class. class.methods)) (enumerate_from 0 classes)
    (λ entry well. all_changed (λ (own : Numbered Method). IsCode own.member.body)
    (λ (own : ℕ × Method). record { class = entry.0; place = own.0; pool = entry.1.pool; member = own.1 }) (enumerate_from 0 entry.1.methods)
    (all_numbered (λ (method : Method). IsCode method.body) 0 entry.1.methods (class_code entry.1 well)))
    (all_numbered IsWellFormed 0 classes formed)

is_code : (classes : List ClassFile) (number : ℕ) (own : Numbered Method) → AllByRecursion IsWellFormed classes → slice_get (methods_of classes) number ≡ Some own → IsCode own.member.body
is_code classes number own formed is = all_at (λ (own : Numbered Method). IsCode own.member.body) (methods_of classes) number own (methods_are_code classes formed) is

-- ---- of a program

none_spelled : SpellsCode [] []
none_spelled = record { spelled = refl; short = omega arith; reached = tt }

code_in_spelled : (body : Option Body) (own : Numbered Method) → own.member.body ≡ body → IsCode body → (bytes : List ℕ) × SpellsCode (code_of (Some own)) bytes
code_in_spelled None own is spells = ([], rw is none_spelled)
code_in_spelled (Some body) own is spells = (spells.0, rw is spells.1)

pub well_formed_spelled : (program : Linked) → AllByRecursion IsWellFormed program.classes → IsSpelled program
well_formed_spelled program formed number = go (slice_get (methods_of program.classes) number) refl where
  go : (found : Option (Numbered Method)) → slice_get (methods_of program.classes) number ≡ found → (bytes : List ℕ) × SpellsCode (code_of found) bytes
  go None is = ([], none_spelled)
  go (Some own) is = code_in_spelled own.member.body own refl (is_code program.classes number own formed is)

some_code : (code : List (ℕ × Insn)) (bytes : List ℕ) → 0 < length bytes → SpellsFrom 0 code bytes → 0 < length code
some_code [] bytes some spells = absurd (omega (arith, some, ap (λ (own : List ℕ). length own) spells))
some_code (placed ∷ code) bytes some spells = omega arith

pub well_formed_code : (program : Linked) → AllByRecursion IsWellFormed program.classes → HasCode program
well_formed_code program formed number method within =
    let parts : HasParts program number method = has_parts program number method within in
    let is : IsCode (Some method.body) = subst IsCode parts.body (is_code program.classes number parts.numbered formed parts.is_numbered) in
    some_code method.body.code is.0 is.2 is.1.spelled
