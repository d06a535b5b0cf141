-- The lines of a method, and of a program, are those of one only.
use Rattle.std.proofs.Common.{◌≡◌, ◌≢◌, ◌∙◌, ap, sym, refl, subst, append_assoc, ℕ, List, [], ◌∷◌, ◌++◌, map, Option, Some, None, IfSome, MatchOption}
use Rattle.std.specs.List.{AllByRecursion, flat_map}
use Rattle.cb_asm_line.specs.declared.frame.FrameLine.{FrameLine}
use Rattle.cb_asm_line.specs.declared.program.CatchLine.{CatchLine}
use Rattle.cb_asm_line.specs.declared.program.CodeLine.{CodeLine}
use Rattle.cb_asm_line.specs.declared.program.CodeText.{CodeText}
use Rattle.cb_asm_line.specs.declared.program.FieldText.{FieldText}
use Rattle.cb_asm_line.specs.declared.program.MethodText.{MethodText}
use Rattle.cb_asm_line.specs.declared.program.Program.{Program}
use Rattle.cb_asm_line.specs.declared.statement.ClassLine.{ClassLine}
use Rattle.cb_asm_line.specs.declared.statement.Limits.{Limits}
use Rattle.cb_asm_line.specs.declared.statement.MethodLine.{MethodLine}
use Rattle.cb_asm_line.specs.declared.statement.Statement.{Statement}
use Rattle.cb_asm_line.specs.declared.statement.Statement.TheVariants as statements
use Rattle.cb_asm_line.specs.Statements.{AreWhole, IsWhole, code_statements, method_statements, statements_of}
use Rattle.cb_asm.specs.Inner.{BeginsWithNone, IsMethod, TakesParts, frame_statement}
use Rattle.cb_asm.proofs.Parts.{runs}
use Rattle.cb_asm.proofs.Runs.{any_all, behind_limits, catch_end, code_end, code_said, limits_of, no_frame_in_end, none_behind, same_catch, same_code, same_frame}

-- what is told where nothing was found
pub none_told : {Item : Type 0} (found : Option Item) (None_told : Type 0) (Some_told : Item → Type 0) → MatchOption found None_told Some_told → found ≡ None → None_told
none_told None None_told Some_told told is = told
none_told (Some item) None_told Some_told told is = absurd (cc is)

pub some_told : {Item : Type 0} (found : Option Item) (None_told : Type 0) (Some_told : Item → Type 0) (item : Item) → MatchOption found None_told Some_told → found ≡ Some item → Some_told item
some_told None None_told Some_told item told is = absurd (cc is)
some_told (Some one) None_told Some_told item told is = subst Some_told (cc is) told

-- the front and the back of a list
front : {Item : Type 0} (one other : Item) (rest next : List Item) → one ∷ rest ≡ other ∷ next → one ≡ other
front one other rest next is = cc is

back : {Item : Type 0} (one other : Item) (rest next : List Item) → one ∷ rest ≡ other ∷ next → rest ≡ next
back one other rest next is = cc is

limits_at : CodeText → Limits
limits_at code = record { stack = code.stack; locals = code.locals }

same_limits : (one other : CodeText) → limits_of one ≡ limits_of other → (one.stack ≡ other.stack) × (one.locals ≡ other.locals)
unfolding limits_at
same_limits one other is =
    let limits : limits_at one ≡ limits_at other = cc is in
    (ap (λ each. each.stack) limits, ap (λ each. each.locals) limits)

code_with : ℕ → ℕ → List CodeLine → List CatchLine → List FrameLine → CodeText
code_with stack locals lines catches frames = record { stack = stack; locals = locals; lines = lines; catches = catches; frames = frames }

one_behind : (one other : CodeText) (rest next : List Statement) → AreWhole one → AreWhole other
    → behind_limits one (statements.End ∷ rest) ≡ behind_limits other (statements.End ∷ next)
    → (one.lines ≡ other.lines) × (one.catches ≡ other.catches) × (one.frames ≡ other.frames) × (rest ≡ next)
one_behind one other rest next whole too is =
    let lines = runs statements.Code (λ _. Unit {0}) same_code one.lines other.lines _ _ (any_all one.lines) (any_all other.lines) is (code_end one rest whole) (code_end other next too) in
    let catches = runs statements.Catch (λ _. Unit {0}) same_catch one.catches other.catches _ _ (any_all one.catches) (any_all other.catches) lines.1 (catch_end one rest whole) (catch_end other next too) in
    let frames = runs frame_statement IsWhole same_frame one.frames other.frames _ _ whole too catches.1 (no_frame_in_end rest) (no_frame_in_end next) in
    (lines.0, catches.0, frames.0, back _ _ rest next frames.1)

one_limited : (one other : CodeText) (rest next : List Statement) → AreWhole one → AreWhole other
    → code_statements (Some one) ++ statements.End ∷ rest ≡ code_statements (Some other) ++ statements.End ∷ next → (Some one ≡ Some other) × (rest ≡ next)
unfolding code_with
one_limited one other rest next whole too is =
    let lines : limits_of one ∷ behind_limits one (statements.End ∷ rest) ≡ limits_of other ∷ behind_limits other (statements.End ∷ next) =
    sym (code_said one (statements.End ∷ rest) whole) ∙ is ∙ code_said other (statements.End ∷ next) too in
    let limits = same_limits one other (front _ _ _ _ lines) in
    let parts = one_behind one other rest next whole too (back _ _ _ _ lines) in (
      ap (λ stack. Some (code_with stack one.locals one.lines one.catches one.frames)) limits.0
          ∙ ap (λ locals. Some (code_with other.stack locals one.lines one.catches one.frames)) limits.1
          ∙ ap (λ code. Some (code_with other.stack other.locals code one.catches one.frames)) parts.0
          ∙ ap (λ catches. Some (code_with other.stack other.locals other.lines catches one.frames)) parts.1
          ∙ ap (λ frames. Some (code_with other.stack other.locals other.lines other.catches frames)) parts.2,
      parts.3,
    )

one_code : (one other : Option CodeText) (rest next : List Statement) → IfSome one AreWhole → IfSome other AreWhole
    → code_statements one ++ statements.End ∷ rest ≡ code_statements other ++ statements.End ∷ next → (one ≡ other) × (rest ≡ next)
one_code None None rest next whole too is = (refl, back _ _ rest next is)
one_code None (Some other) rest next whole too is = absurd (cc is)
one_code (Some one) None rest next whole too is = absurd (cc is)
one_code (Some one) (Some other) rest next whole too is = one_limited one other rest next whole too is

-- a method by what its lines say
line_of : MethodText → MethodLine
line_of method = record { flags = method.flags; name = method.name; descriptor = method.descriptor }

method_with : ℕ → List ℕ → List ℕ → Option CodeText → MethodText
method_with flags name descriptor code = record { flags = flags; name = name; descriptor = descriptor; code = code }

same_line : (one other : MethodText) → statements.Method (line_of one) ≡ statements.Method (line_of other)
    → (one.flags ≡ other.flags) × (one.name ≡ other.name) × (one.descriptor ≡ other.descriptor)
unfolding line_of
same_line one other is =
    let line : line_of one ≡ line_of other = cc is in
    (ap (λ each. each.flags) line, ap (λ each. each.name) line, ap (λ each. each.descriptor) line)

method_said : (method : MethodText) (rest : List Statement) → method_statements method ++ rest ≡ statements.Method (line_of method) ∷ (code_statements method.code ++ statements.End ∷ rest)
unfolding line_of
method_said method rest = ap (λ lines. statements.Method (line_of method) ∷ lines) (append_assoc (code_statements method.code) (statements.End ∷ []) rest)

pub one_method : (one other : MethodText) (rest next : List Statement) → IsMethod one → IsMethod other
    → method_statements one ++ rest ≡ method_statements other ++ next → (one ≡ other) × (rest ≡ next)
unfolding method_with
one_method one other rest next whole too is =
    let lines = sym (method_said one rest) ∙ is ∙ method_said other next in
    let line = same_line one other (front _ _ _ _ lines) in
    let code = one_code one.code other.code rest next whole too (back _ _ _ _ lines) in (
      ap (λ flags. method_with flags one.name one.descriptor one.code) line.0
          ∙ ap (λ name. method_with other.flags name one.descriptor one.code) line.1
          ∙ ap (λ descriptor. method_with other.flags other.name descriptor one.code) line.2
          ∙ ap (λ code. method_with other.flags other.name other.descriptor code) code.0,
      code.1,
    )

-- methods that were read are the first of any methods with these lines, and another stands behind them
pub no_methods : (done others : List MethodText) (rest : List Statement) → AllByRecursion IsMethod done → AllByRecursion IsMethod others
    → flat_map method_statements others ≡ flat_map method_statements done ++ rest → rest ≢ []
    → ((other : MethodText) (next : List Statement) → IsMethod other → rest ≢ method_statements other ++ next) → ⊥
no_methods [] [] rest whole too are some none = some (sym are)
no_methods [] (other ∷ others) rest whole too are some none = none other (flat_map method_statements others) too.0 (sym are)
no_methods (method ∷ done) [] rest whole too are some none = absurd (cc are)
no_methods (method ∷ done) (other ∷ others) rest whole too are some none =
    no_methods done others rest whole.1 too.1 (one_method other method (flat_map method_statements others) (flat_map method_statements done ++ rest) too.0 whole.0 (are ∙ append_assoc (method_statements method) (flat_map method_statements done) rest)).1 some none

-- what begins with no interface and no field
no_interface_in_field : (field : FieldText) (name : List ℕ) → Unit {0} → Unit {0} → statements.Field field ≢ statements.Implements name
no_interface_in_field field name _ _ is = absurd (cc is)

methods_no_interface : (methods : List MethodText) → BeginsWithNone statements.Implements (λ _. Unit {0}) (flat_map method_statements methods)
methods_no_interface [] name rest _ is = absurd (cc is)
methods_no_interface (method ∷ methods) name rest _ is = absurd (cc is)

methods_no_field : (methods : List MethodText) → BeginsWithNone statements.Field (λ _. Unit {0}) (flat_map method_statements methods)
methods_no_field [] field rest _ is = absurd (cc is)
methods_no_field (method ∷ methods) field rest _ is = absurd (cc is)

same_interface : (one other : List ℕ) → Unit {0} → Unit {0} → statements.Implements one ≡ statements.Implements other → one ≡ other
same_interface one other _ _ is = cc is

same_field : (one other : FieldText) → Unit {0} → Unit {0} → statements.Field one ≡ statements.Field other → one ≡ other
same_field one other _ _ is = cc is

class_line : Program → ClassLine
class_line program = record { major = program.major; flags = program.flags; name = program.name; superclass = program.superclass }

program_said : (program : Program) → statements_of program ≡ statements.Class (class_line program) ∷ (map statements.Implements program.interfaces ++ (map statements.Field program.fields ++ flat_map method_statements program.methods))
unfolding class_line
program_said program = ap (λ lines. statements.Class (class_line program) ∷ lines) (append_assoc (map statements.Implements program.interfaces) (map statements.Field program.fields) (flat_map method_statements program.methods))

fields_end : (program : Program) → BeginsWithNone statements.Implements (λ _. Unit {0}) (map statements.Field program.fields ++ flat_map method_statements program.methods)
fields_end program =
    none_behind statements.Implements (λ _. Unit {0}) statements.Field (λ _. Unit {0}) no_interface_in_field program.fields _ (any_all program.fields) (methods_no_interface program.methods)

-- behind a class, its interfaces and its fields stand the methods of any program with these lines
pub methods_stand : (line : ClassLine) (lines behind between now : List Statement) (interfaces : List (List ℕ)) (fields : List FieldText) (other : Program)
    → lines ≡ statements.Class line ∷ behind → TakesParts statements.Implements (λ _. Unit {0}) behind between interfaces → TakesParts statements.Field (λ _. Unit {0}) between now fields
    → statements_of other ≡ lines → flat_map method_statements other.methods ≡ now
methods_stand line lines behind between now interfaces fields other is named valued are =
    let all = sym (program_said other) ∙ are ∙ is in
    let inner = runs statements.Implements (λ _. Unit {0}) same_interface other.interfaces interfaces _ between (any_all other.interfaces) (any_all interfaces) (back _ _ _ _ all ∙ named.stand) (fields_end other) named.none in
    (runs statements.Field (λ _. Unit {0}) same_field other.fields fields _ now (any_all other.fields) (any_all fields) (inner.1 ∙ valued.stand) (methods_no_field other.methods) valued.none).1

one_methods : (one other : List MethodText) → AllByRecursion IsMethod one → AllByRecursion IsMethod other → flat_map method_statements one ≡ flat_map method_statements other → one ≡ other
one_methods [] [] whole too are = refl
one_methods [] (method ∷ other) whole too are = absurd (cc are)
one_methods (method ∷ one) [] whole too are = absurd (cc are)
one_methods (method ∷ one) (first ∷ other) whole too are =
    let here = one_method method first (flat_map method_statements one) (flat_map method_statements other) whole.0 too.0 are in
    ap (λ each. each ∷ one) here.0 ∙ ap (λ each. first ∷ each) (one_methods one other whole.1 too.1 here.1)

same_class : (one other : Program) → statements.Class (class_line one) ≡ statements.Class (class_line other)
    → (one.major ≡ other.major) × (one.flags ≡ other.flags) × (one.name ≡ other.name) × (one.superclass ≡ other.superclass)
unfolding class_line
same_class one other is =
    let line : class_line one ≡ class_line other = cc is in
    (ap (λ each. each.major) line, ap (λ each. each.flags) line, ap (λ each. each.name) line, ap (λ each. each.superclass) line)

program_with : ℕ → ℕ → List ℕ → Option (List ℕ) → List (List ℕ) → List FieldText → List MethodText → Program
program_with major flags name superclass interfaces fields methods =
    record { major = major; flags = flags; name = name; superclass = superclass; interfaces = interfaces; fields = fields; methods = methods }

-- lines are those of one program at most
pub one_program : (one other : Program) → AllByRecursion IsMethod one.methods → AllByRecursion IsMethod other.methods → statements_of one ≡ statements_of other → one ≡ other
unfolding program_with
one_program one other whole too are =
    let all = sym (program_said one) ∙ are ∙ program_said other in
    let class = same_class one other (front _ _ _ _ all) in
    let interfaces = runs statements.Implements (λ _. Unit {0}) same_interface one.interfaces other.interfaces _ _ (any_all one.interfaces) (any_all other.interfaces) (back _ _ _ _ all) (fields_end one) (fields_end other) in
    let fields = runs statements.Field (λ _. Unit {0}) same_field one.fields other.fields _ _ (any_all one.fields) (any_all other.fields) interfaces.1 (methods_no_field one.methods) (methods_no_field other.methods) in
    let methods = one_methods one.methods other.methods whole too fields.1 in
    ap (λ each. program_with each one.flags one.name one.superclass one.interfaces one.fields one.methods) class.0
    ∙ ap (λ each. program_with other.major each one.name one.superclass one.interfaces one.fields one.methods) class.1
    ∙ ap (λ each. program_with other.major other.flags each one.superclass one.interfaces one.fields one.methods) class.2
    ∙ ap (λ each. program_with other.major other.flags other.name each one.interfaces one.fields one.methods) class.3
    ∙ ap (λ each. program_with other.major other.flags other.name other.superclass each one.fields one.methods) interfaces.0
    ∙ ap (λ each. program_with other.major other.flags other.name other.superclass other.interfaces each one.methods) fields.0
    ∙ ap (λ each. program_with other.major other.flags other.name other.superclass other.interfaces other.fields each) methods
