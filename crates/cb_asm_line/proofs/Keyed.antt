-- The first words of lines, of which each begins otherwise outside a method, and each in one.
use Rattle.std.proofs.Common.{◌≡◌, ◌≢◌, ◌∙◌, ap, sym, arith, ℕ, List, codes, get_or}
use Rattle.cb_asm_line.specs.Lines.{Line, Word}
use Rattle.cb_asm_line.specs.Said.{Four, IsField, IsName, One, SaysCatch, SaysClass, SaysLimits, SaysMethod, Three, Two}
use Rattle.cb_asm_line.specs.SaidCode.{SaysCode}
use Rattle.cb_asm_line.specs.SaidFrames.{SaysFrame}
use Rattle.cb_asm_line.specs.SaidLines.{SaysCodeLine, SaysFrameLine, SaysInside, SaysOutside}
use Rattle.cb_asm_line.specs.declared.program.CatchLine.{CatchLine}
use Rattle.cb_asm_line.specs.declared.program.CodeLine.{CodeLine}
use Rattle.cb_asm_line.specs.declared.frame.Frame.{Frame}
use Rattle.cb_asm_line.specs.Label.{Label}
use Rattle.cb_asm_line.specs.declared.statement.ClassLine.{ClassLine}
use Rattle.cb_asm_line.specs.declared.program.FieldText.{FieldText}
use Rattle.cb_asm_line.specs.declared.statement.Limits.{Limits}
use Rattle.cb_asm_line.specs.declared.statement.MethodLine.{MethodLine}
use Rattle.cb_asm_line.specs.declared.statement.Statement.{Statement}
use Rattle.cb_asm_line.specs.declared.statement.Statement.TheVariants as statements

-- a word isn't one of two that begin otherwise
clash : (key one other : Word) → key ≡ one → key ≡ other → get_or one 0 0 ≢ get_or other 0 0 → ⊥
clash key one other is are apart = apart (ap (λ word. get_or word 0 0) (sym is ∙ are))

pub no_class : (key : Word) (rest : Line) → key ≡ codes "class" → ((line : ClassLine) → Four SaysClass rest line → ⊥) → (statement : Statement) → SaysOutside key rest statement → ⊥
no_class key rest is none (statements.Class line) says = none line says.1
no_class key rest is none (statements.Implements name) says = clash key _ _ is says.0 (λ same. omega (arith, same))
no_class key rest is none (statements.Field line) says = clash key _ _ is says.0 (λ same. omega (arith, same))
no_class key rest is none (statements.Method line) says = says
no_class key rest is none (statements.Limits line) says = says
no_class key rest is none (statements.Catch line) says = says
no_class key rest is none (statements.Code line) says = says
no_class key rest is none (statements.Frame frame) says = says
no_class key rest is none statements.End says = says

pub no_interface : (key : Word) (rest : Line) → key ≡ codes "implements" → ((name : List ℕ) → One IsName rest name → ⊥) → (statement : Statement) → SaysOutside key rest statement → ⊥
no_interface key rest is none (statements.Class line) says = clash key _ _ is says.0 (λ same. omega (arith, same))
no_interface key rest is none (statements.Implements name) says = none name says.1
no_interface key rest is none (statements.Field line) says = clash key _ _ is says.0 (λ same. omega (arith, same))
no_interface key rest is none (statements.Method line) says = says
no_interface key rest is none (statements.Limits line) says = says
no_interface key rest is none (statements.Catch line) says = says
no_interface key rest is none (statements.Code line) says = says
no_interface key rest is none (statements.Frame frame) says = says
no_interface key rest is none statements.End says = says

pub no_field : (key : Word) (rest : Line) → key ≡ codes "field" → ((line : FieldText) → IsField rest line → ⊥) → (statement : Statement) → SaysOutside key rest statement → ⊥
no_field key rest is none (statements.Class line) says = clash key _ _ is says.0 (λ same. omega (arith, same))
no_field key rest is none (statements.Implements name) says = clash key _ _ is says.0 (λ same. omega (arith, same))
no_field key rest is none (statements.Field line) says = none line says.1
no_field key rest is none (statements.Method line) says = says
no_field key rest is none (statements.Limits line) says = says
no_field key rest is none (statements.Catch line) says = says
no_field key rest is none (statements.Code line) says = says
no_field key rest is none (statements.Frame frame) says = says
no_field key rest is none statements.End says = says

pub no_method : (key : Word) (rest : Line) → key ≡ codes "method" → ((line : MethodLine) → Three SaysMethod rest line → ⊥) → (statement : Statement) → SaysInside key rest statement → ⊥
no_method key rest is none (statements.Class line) says = says
no_method key rest is none (statements.Implements name) says = says
no_method key rest is none (statements.Field line) says = says
no_method key rest is none (statements.Method line) says = none line says.1
no_method key rest is none (statements.Limits line) says = clash key _ _ is says.0 (λ same. omega (arith, same))
no_method key rest is none (statements.Catch line) says = clash key _ _ is says.0 (λ same. omega (arith, same))
no_method key rest is none (statements.Code line) says = says
no_method key rest is none (statements.Frame frame) says = says
no_method key rest is none statements.End says = clash key _ _ is says.0 (λ same. omega (arith, same))

pub no_limits : (key : Word) (rest : Line) → key ≡ codes "limits" → ((line : Limits) → Two SaysLimits rest line → ⊥) → (statement : Statement) → SaysInside key rest statement → ⊥
no_limits key rest is none (statements.Class line) says = says
no_limits key rest is none (statements.Implements name) says = says
no_limits key rest is none (statements.Field line) says = says
no_limits key rest is none (statements.Method line) says = clash key _ _ is says.0 (λ same. omega (arith, same))
no_limits key rest is none (statements.Limits line) says = none line says.1
no_limits key rest is none (statements.Catch line) says = clash key _ _ is says.0 (λ same. omega (arith, same))
no_limits key rest is none (statements.Code line) says = says
no_limits key rest is none (statements.Frame frame) says = says
no_limits key rest is none statements.End says = clash key _ _ is says.0 (λ same. omega (arith, same))

pub no_catch : (key : Word) (rest : Line) → key ≡ codes "catch" → ((line : CatchLine) → Four SaysCatch rest line → ⊥) → (statement : Statement) → SaysInside key rest statement → ⊥
no_catch key rest is none (statements.Class line) says = says
no_catch key rest is none (statements.Implements name) says = says
no_catch key rest is none (statements.Field line) says = says
no_catch key rest is none (statements.Method line) says = clash key _ _ is says.0 (λ same. omega (arith, same))
no_catch key rest is none (statements.Limits line) says = clash key _ _ is says.0 (λ same. omega (arith, same))
no_catch key rest is none (statements.Catch line) says = none line says.1
no_catch key rest is none (statements.Code line) says = says
no_catch key rest is none (statements.Frame frame) says = says
no_catch key rest is none statements.End says = clash key _ _ is says.0 (λ same. omega (arith, same))

pub no_frame : (key : Word) (rest : Line) → ((frame : Frame Label) → SaysFrame rest frame → ⊥) → (statement : Statement) → SaysFrameLine key rest statement → ⊥
no_frame key rest none (statements.Class line) says = says
no_frame key rest none (statements.Implements name) says = says
no_frame key rest none (statements.Field line) says = says
no_frame key rest none (statements.Method line) says = says
no_frame key rest none (statements.Limits line) says = says
no_frame key rest none (statements.Code line) says = says
no_frame key rest none (statements.Catch line) says = says
no_frame key rest none (statements.Frame frame) says = none frame says.1
no_frame key rest none statements.End says = says

pub no_code : (words : Line) → ((line : CodeLine) → SaysCode words line → ⊥) → (statement : Statement) → SaysCodeLine words statement → ⊥
no_code words none (statements.Class line) says = says
no_code words none (statements.Implements name) says = says
no_code words none (statements.Field line) says = says
no_code words none (statements.Method line) says = says
no_code words none (statements.Limits line) says = says
no_code words none (statements.Code line) says = none line says
no_code words none (statements.Catch line) says = says
no_code words none (statements.Frame frame) says = says
no_code words none statements.End says = says

pub not_framed : (key : Word) (rest : Line) → (key ≡ codes "frame" → ⊥) → (statement : Statement) → SaysFrameLine key rest statement → ⊥
not_framed key rest other (statements.Class line) says = says
not_framed key rest other (statements.Implements name) says = says
not_framed key rest other (statements.Field line) says = says
not_framed key rest other (statements.Method line) says = says
not_framed key rest other (statements.Limits line) says = says
not_framed key rest other (statements.Code line) says = says
not_framed key rest other (statements.Catch line) says = says
not_framed key rest other (statements.Frame frame) says = other says.0
not_framed key rest other statements.End says = says
