-- A line of the format says its words, and what words say is a line of the format.
use Rattle.std.proofs.Common.{◌≡◌, refl, subst, sym, inl, inr, codes, List, ℕ, ◌∷◌, Option, Some, None, IfSome, Result, Ok, Err, IfOk, MatchOption}
use Rattle.cb_text.specs.Text.{AreUnits}
use Rattle.cb_asm_line.specs.Lines.{Line, Word}
use Rattle.cb_asm_line.specs.Said.{IsField, IsNameOr, SaysOptional}
use Rattle.cb_asm_line.specs.SaidLines.{IsSpelled, Says, SaysCodeLine, SaysFrameLine, SaysInside, SaysKeyed, SaysOutside}
use Rattle.cb_asm_line.specs.Spelling.{name_or, value_of}
use Rattle.cb_asm_line.specs.Statements.{IsStatement, IsValue, statement_words}
use Rattle.cb_asm_line.specs.declared.operand.Value.{Value}
use Rattle.cb_asm_line.specs.declared.program.FieldText.{FieldText}
use Rattle.cb_asm_line.specs.declared.statement.Statement.{Statement}
use Rattle.cb_asm_line.specs.declared.statement.Statement.TheVariants as statements
use Rattle.cb_asm_line.proofs.Coded.{code_said, code_worth}
use Rattle.cb_asm_line.proofs.Formed.{value_said}
use Rattle.cb_asm_line.proofs.Worth.{value_worth}

optional_name : (none : Word) (name : Option (List ℕ)) → IfSome name AreUnits → IsNameOr none (name_or none name) name
optional_name none None is = refl
optional_name none (Some name) is = record { units = is; spelled = refl }

optional_said : (value : Option Value) → IfSome value IsValue → SaysOptional (value_of value) value
optional_said None is = refl
optional_said (Some value) is = value_said value is

at_key : (statement : Statement) (key : Word) (rest : Line) → statement_words statement ≡ key ∷ rest → SaysKeyed key rest statement → Says (statement_words statement) statement
at_key statement key rest are says = inl (record { key = key; rest = rest; are = are; says = says })

pub statement_said : (statement : Statement) → IsStatement statement → Says (statement_words statement) statement
statement_said (statements.Class line) is =
    at_key (statements.Class line) _ _ refl (inl (refl, record { first = _; second = _; third = _; fourth = _; are = refl; says = record { major = record { fits = is.0; spelled = refl }; flags = record { fit = is.1; spelled = refl }; name = record { units = is.2; spelled = refl }; superclass = optional_name _ line.superclass is.3 } }))
statement_said (statements.Implements name) is =
    at_key (statements.Implements name) _ _ refl (inl (refl, record { first = _; are = refl; says = record { units = is; spelled = refl } }))
statement_said (statements.Field line) is =
    at_key (statements.Field line) _ _ refl (inl (refl, record { first = _; second = _; third = _; rest = _; are = refl; says = record { flags = record { fit = is.0; spelled = refl }; name = record { units = is.1; spelled = refl }; descriptor = record { units = is.2; spelled = refl }; has = refl }; value = optional_said line.value is.3 }))
statement_said (statements.Method line) is =
    at_key (statements.Method line) _ _ refl (inr (inl (refl, record { first = _; second = _; third = _; are = refl; says = record { flags = record { fit = is.0; spelled = refl }; name = record { units = is.1; spelled = refl }; descriptor = record { units = is.2; spelled = refl } } })))
statement_said (statements.Limits line) is =
    at_key (statements.Limits line) _ _ refl (inr (inl (refl, record { first = _; second = _; are = refl; says = record { stack = record { fits = is.0; spelled = refl }; locals = record { fits = is.1; spelled = refl } } })))
statement_said (statements.Code line) is = inr (code_said line is)
statement_said (statements.Catch line) is =
    at_key (statements.Catch line) _ _ refl (inr (inl (refl, record { first = _; second = _; third = _; fourth = _; are = refl; says = record { start = record { digits = is.0; spelled = refl }; end = record { digits = is.1; spelled = refl }; handler = record { digits = is.2; spelled = refl }; class = optional_name _ line.class is.3 } })))
statement_said (statements.Frame frame) is =
    at_key (statements.Frame frame) _ _ refl (inr (inr (refl, record { at = _; front = _; back = _; have = refl; says = record { place = record { digits = is.0; spelled = refl }; locals = record { each = is.1; spelled = refl }; stack = record { each = is.2; spelled = refl } } })))
statement_said statements.End is = at_key statements.End _ _ refl (inr (inl (refl, refl)))

-- the other way round
record IsOptionalName (none word : Word) (name : Option (List ℕ)) : Type 0 where
  pub is : IfSome name AreUnits
  pub are : word ≡ name_or none name

name_worth : (none word : Word) (name : Option (List ℕ)) → IsNameOr none word name → IsOptionalName none word name
name_worth none word None is = record { is = tt; are = is }
name_worth none word (Some name) is = record { is = is.units; are = is.spelled }

record IsOptionalValue (words : Line) (value : Option Value) : Type 0 where
  pub is : IfSome value IsValue
  pub are : words ≡ value_of value

optional_worth : (words : Line) (value : Option Value) → SaysOptional words value → IsOptionalValue words value
optional_worth words None says = record { is = tt; are = says }
optional_worth words (Some value) says = let worth = value_worth words value says in record { is = worth.is; are = worth.are }

field_worth : (key : Word) (rest : Line) (line : FieldText) → key ≡ codes "field" → IsField rest line → IsSpelled (key ∷ rest) (statements.Field line)
field_worth key rest line is told =
    let worth = optional_worth told.rest line.value told.value in
    record {
      is = (told.says.flags.fit, told.says.name.units, told.says.descriptor.units, worth.is);
      are = let value = worth.are in cc (is, told.are, told.says.flags.spelled, told.says.name.spelled, told.says.descriptor.spelled, value);
    }

outside_worth : (key : Word) (rest : Line) (statement : Statement) → SaysOutside key rest statement → IsSpelled (key ∷ rest) statement
outside_worth key rest (statements.Class line) says =
    let told = says.1.says in let name = name_worth _ says.1.fourth line.superclass told.superclass in
    record { is = (told.major.fits, told.flags.fit, told.name.units, name.is); are = let above = name.are in cc (says.0, says.1.are, told.major.spelled, told.flags.spelled, told.name.spelled, above) }
outside_worth key rest (statements.Implements name) says = record { is = says.1.says.units; are = cc (says.0, says.1.are, says.1.says.spelled) }
outside_worth key rest (statements.Field line) says = field_worth key rest line says.0 says.1
outside_worth key rest other says = absurd says

inside_worth : (key : Word) (rest : Line) (statement : Statement) → SaysInside key rest statement → IsSpelled (key ∷ rest) statement
inside_worth key rest (statements.Method line) says =
    let told = says.1.says in
    record { is = (told.flags.fit, told.name.units, told.descriptor.units); are = cc (says.0, says.1.are, told.flags.spelled, told.name.spelled, told.descriptor.spelled) }
inside_worth key rest (statements.Limits line) says =
    let told = says.1.says in record { is = (told.stack.fits, told.locals.fits); are = cc (says.0, says.1.are, told.stack.spelled, told.locals.spelled) }
inside_worth key rest (statements.Catch line) says =
    let told = says.1.says in let name = name_worth _ says.1.fourth line.class told.class in
    record { is = (told.start.digits, told.end.digits, told.handler.digits, name.is); are = let caught = name.are in cc (says.0, says.1.are, told.start.spelled, told.end.spelled, told.handler.spelled, caught) }
inside_worth key rest statements.End says = record { is = tt; are = cc (says.0, says.1) }
inside_worth key rest other says = absurd says

frame_worth : (key : Word) (rest : Line) (statement : Statement) → SaysFrameLine key rest statement → IsSpelled (key ∷ rest) statement
frame_worth key rest (statements.Frame frame) says =
    let told = says.1.says in
    record { is = (told.place.digits, told.locals.each, told.stack.each); are = cc (says.0, says.1.have, told.place.spelled, told.locals.spelled, told.stack.spelled) }
frame_worth key rest other says = absurd says

keyed_worth : (key : Word) (rest : Line) (statement : Statement) → SaysKeyed key rest statement → IsSpelled (key ∷ rest) statement
keyed_worth key rest statement (inl says) = outside_worth key rest statement says
keyed_worth key rest statement (inr (inl says)) = inside_worth key rest statement says
keyed_worth key rest statement (inr (inr says)) = frame_worth key rest statement says

code_line_worth : (words : Line) (statement : Statement) → SaysCodeLine words statement → IsSpelled words statement
code_line_worth words (statements.Code line) says = let worth = code_worth words line says in record { is = worth.is; are = worth.are }
code_line_worth words other says = absurd says

pub statement_worth : (words : Line) (statement : Statement) → Says words statement → IsSpelled words statement
statement_worth words statement (inl told) = subst (λ each. IsSpelled each statement) (sym told.are) (keyed_worth told.key told.rest statement told.says)
statement_worth words statement (inr told) = code_line_worth words statement told

-- what is told of words
pub said_told : {E : Type 0} (words : Line) (result : Result (Option Statement) E)
    → IfOk result (λ found. MatchOption found ((statement : Statement) → Says words statement → ⊥) (λ statement. Says words statement))
    → IfOk result (λ found. MatchOption found ((statement : Statement) → IsSpelled words statement → ⊥) (λ statement. IsSpelled words statement))
said_told words (Err fault) told = tt
said_told words (Ok None) none = λ statement is. none statement (subst (λ each. Says each statement) (sym is.are) (statement_said statement is.is))
said_told words (Ok (Some statement)) says = statement_worth words statement says
