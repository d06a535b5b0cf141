-- The lines of a program are those of one program only.
use Rattle.std.proofs.Common.{◌≡◌, ◌≢◌, ◌∙◌, ap, sym, refl, subst, arith, append_assoc, List, [], ◌∷◌, ◌++◌, map, Option, Some, None, IfSome}
use Rattle.std.specs.List.{AllByRecursion, flat_map}
use Rattle.std.proofs.lemmas.Grind.{flat_map-append}
use Rattle.cb_asm_line.specs.declared.frame.FrameLine.{FrameLine}
use Rattle.cb_asm_line.specs.declared.frame.FrameLine.TheVariants.{Full, Bad}
use Rattle.cb_asm_line.specs.declared.program.CatchLine.{CatchLine}
use Rattle.cb_asm_line.specs.declared.program.CodeLine.{CodeLine}
use Rattle.cb_asm_line.specs.declared.program.CodeText.{CodeText}
use Rattle.cb_asm_line.specs.declared.program.FieldText.{FieldText}
use Rattle.cb_asm_line.specs.declared.program.MethodText.{MethodText}
use Rattle.cb_asm_line.specs.declared.program.Program.{Program}
use Rattle.cb_asm_line.specs.declared.statement.Limits.{Limits}
use Rattle.cb_asm_line.specs.declared.statement.MethodLine.{MethodLine}
use Rattle.cb_asm_line.specs.declared.statement.Statement.{Statement}
use Rattle.cb_asm_line.specs.declared.statement.Statement.TheVariants as statements
use Rattle.cb_asm_line.specs.Statements.{AreWhole, IsWhole, code_statements, frame_statements, method_statements, statements_of}
use Rattle.cb_asm.specs.Inner.{BeginsWithNone, IsLimited, IsMethod, TakesParts, frame_statement}
use Rattle.cb_asm.proofs.Parts.{runs}

Any : {Part : Type 0} → Part → Type 0
Any part = Unit {0}

-- lines of the kinds, by what they say
pub same_code : (one other : CodeLine) → Unit {0} → Unit {0} → statements.Code one ≡ statements.Code other → one ≡ other
same_code one other _ _ is = cc is

pub same_catch : (one other : CatchLine) → Unit {0} → Unit {0} → statements.Catch one ≡ statements.Catch other → one ≡ other
same_catch one other _ _ is = cc is

pub same_frame : (one other : FrameLine) → IsWhole one → IsWhole other → frame_statement one ≡ frame_statement other → one ≡ other
same_frame (Full one) (Full other) _ _ is = ap Full (cc is)
same_frame (Full one) Bad _ whole is = absurd whole
same_frame Bad other whole _ is = absurd whole

-- the lines of frames that aren't bad
pub frames_said : (frames : List FrameLine) → AllByRecursion IsWhole frames → flat_map frame_statements frames ≡ map frame_statement frames
frames_said [] whole = refl
frames_said (Full frame ∷ frames) whole = ap (λ rest. statements.Frame frame ∷ rest) (frames_said frames whole.1)
frames_said (Bad ∷ frames) whole = absurd whole.0

-- what begins with no line of a kind
pub none_behind : {Part Other : Type 0} (said : Part → Statement) (Keeps : Part → Type 0) (other : Other → Statement) (Holds : Other → Type 0)
    → ((item : Other) (part : Part) → Holds item → Keeps part → other item ≢ said part)
    → (items : List Other) (rest : List Statement) → AllByRecursion Holds items → BeginsWithNone said Keeps rest → BeginsWithNone said Keeps (map other items ++ rest)
none_behind said Keeps other Holds apart [] rest all none = none
none_behind said Keeps other Holds apart (item ∷ items) rest all none = λ part next keeps is. apart item part all.0 keeps (cc is)

pub any_all : {Item : Type 0} (items : List Item) → AllByRecursion (λ _. Unit {0}) items
any_all [] = tt
any_all (item ∷ items) = (tt, any_all items)

no_code_in_catch : (entry : CatchLine) (line : CodeLine) → Unit {0} → Unit {0} → statements.Catch entry ≢ statements.Code line
no_code_in_catch entry line _ _ is = absurd (cc is)

no_code_in_frame : (frame : FrameLine) (line : CodeLine) → IsWhole frame → Unit {0} → frame_statement frame ≢ statements.Code line
no_code_in_frame (Full frame) line _ _ is = absurd (cc is)
no_code_in_frame Bad line whole _ is = absurd whole

no_catch_in_frame : (frame : FrameLine) (entry : CatchLine) → IsWhole frame → Unit {0} → frame_statement frame ≢ statements.Catch entry
no_catch_in_frame (Full frame) entry _ _ is = absurd (cc is)
no_catch_in_frame Bad entry whole _ is = absurd whole

pub no_frame_in_end : (rest : List Statement) → BeginsWithNone frame_statement IsWhole (statements.End ∷ rest)
no_frame_in_end rest (Full frame) next whole is = absurd (cc is)
no_frame_in_end rest Bad next whole is = absurd whole

-- the lines of code behind its limits, and what stands behind them
abbrev pub behind_limits : CodeText → List Statement → List Statement
behind_limits code rest = map statements.Code code.lines ++ (map statements.Catch code.catches ++ (map frame_statement code.frames ++ rest))

abbrev pub limits_of : CodeText → Statement
limits_of code = statements.Limits (record { stack = code.stack; locals = code.locals })

pub code_said : (code : CodeText) (rest : List Statement) → AreWhole code → code_statements (Some code) ++ rest ≡ limits_of code ∷ behind_limits code rest
code_said code rest whole =
    ap (λ frames. (limits_of code ∷ map statements.Code code.lines ++ map statements.Catch code.catches ++ frames) ++ rest) (frames_said code.frames whole)
    ∙ ap (λ lines. limits_of code ∷ lines) (append_assoc (map statements.Code code.lines ++ map statements.Catch code.catches) (map frame_statement code.frames) rest)
    ∙ ap (λ lines. limits_of code ∷ lines) (append_assoc (map statements.Code code.lines) (map statements.Catch code.catches) (map frame_statement code.frames ++ rest))

pub code_end : (code : CodeText) (rest : List Statement) → AreWhole code → BeginsWithNone statements.Code (λ _. Unit {0}) (map statements.Catch code.catches ++ (map frame_statement code.frames ++ statements.End ∷ rest))
code_end code rest whole =
    none_behind statements.Code (λ _. Unit {0}) statements.Catch (λ _. Unit {0}) no_code_in_catch code.catches _ (any_all code.catches) (none_behind statements.Code (λ _. Unit {0}) frame_statement IsWhole no_code_in_frame code.frames _ whole (λ part next _ is. absurd (cc is)))

pub catch_end : (code : CodeText) (rest : List Statement) → AreWhole code → BeginsWithNone statements.Catch (λ _. Unit {0}) (map frame_statement code.frames ++ statements.End ∷ rest)
catch_end code rest whole =
    none_behind statements.Catch (λ _. Unit {0}) frame_statement IsWhole no_catch_in_frame code.frames _ whole (λ part next _ is. absurd (cc is))

-- code that was read is the only one that stands before the end of a method
pub only_limited : (limits : Limits) (before now : List Statement) (code other : CodeText) (rest : List Statement) → IsLimited limits before now code → AreWhole other
    → before ≡ behind_limits other (statements.End ∷ rest) → now ≡ statements.End ∷ rest
only_limited limits before now code other rest is whole are =
    let lines = runs statements.Code (λ _. Unit {0}) same_code code.lines other.lines is.between _ (any_all code.lines) (any_all other.lines) (sym is.lines.stand ∙ are) is.lines.none (code_end other rest whole) in
    let catches = runs statements.Catch (λ _. Unit {0}) same_catch code.catches other.catches is.behind _ (any_all code.catches) (any_all other.catches) (sym is.catches.stand ∙ lines.1) is.catches.none (catch_end other rest whole) in
    (runs frame_statement IsWhole same_frame code.frames other.frames now _ is.frames.kept whole (sym is.frames.stand ∙ catches.1) is.frames.none (no_frame_in_end rest)).1

pub limited_said : (limits : Limits) (before now : List Statement) (code : CodeText) → IsLimited limits before now code
    → AreWhole code × (statements.Limits limits ∷ before ≡ code_statements (Some code) ++ now)
limited_said limits before now code is =
    let whole : AreWhole code = is.frames.kept in (
      whole,
      ap (λ lines. statements.Limits limits ∷ lines) (is.lines.stand ∙ ap (λ lines. map statements.Code code.lines ++ lines) (is.catches.stand ∙ ap (λ lines. map statements.Catch code.catches ++ lines) is.frames.stand))
          ∙ ap (λ stack. statements.Limits (record { stack = stack; locals = limits.locals }) ∷ behind_limits code now) (sym is.stack)
          ∙ ap (λ locals. statements.Limits (record { stack = code.stack; locals = locals }) ∷ behind_limits code now) (sym is.locals)
          ∙ sym (code_said code now whole),
    )

-- what stands first tells code from none
pub no_limits : (before rest : List Statement) (other : Option CodeText) → ((limits : Limits) (next : List Statement) → before ≢ statements.Limits limits ∷ next) → IfSome other AreWhole
    → before ≡ code_statements other ++ statements.End ∷ rest → before ≡ statements.End ∷ rest
no_limits before rest None none whole are = are
no_limits before rest (Some code) none whole are = absurd (none _ _ are)

pub some_limits : (limits : Limits) (before after now : List Statement) (code : CodeText) (other : Option CodeText) (rest : List Statement) → before ≡ statements.Limits limits ∷ after
    → IsLimited limits after now code → IfSome other AreWhole → before ≡ code_statements other ++ statements.End ∷ rest → now ≡ statements.End ∷ rest
some_limits limits before after now code None rest is limited whole are = absurd (cc (is, are))
some_limits limits before after now code (Some other) rest is limited whole are =
    only_limited limits after now code other rest limited whole (cc (sym is ∙ are ∙ code_said other (statements.End ∷ rest) whole))
