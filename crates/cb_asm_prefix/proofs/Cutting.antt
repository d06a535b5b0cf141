-- A program that is cut, and closed, is a program.
use Rattle.std.proofs.Common.{◌≡◌, ◌≢◌, ◌∙◌, ap, sym, subst, arith, append_assoc, ℕ, List, [], ◌∷◌, ◌++◌, Some, IfSome}
use Rattle.std.specs.List.{AllByRecursion, flat_map}
use Rattle.std.proofs.lemmas.List.{append-nil}
use Rattle.cb_classfile.specs.Needed.{CallsClass}
use Rattle.cb_classfile.proofs.Laws.{HasParts, IsBodyOf, IsMethodOf, parts_of}
use Rattle.cb_asm_line.specs.Label.{Label}
use Rattle.cb_asm_line.specs.Statements.{HasLines, IsCodeLine}
use Rattle.cb_asm_line.specs.declared.frame.FrameLine.{FrameLine}
use Rattle.cb_asm_line.specs.declared.program.CatchLine.{CatchLine}
use Rattle.cb_asm_line.specs.declared.program.CodeLine.{CodeLine}
use Rattle.cb_asm_line.specs.declared.program.CodeText.{CodeText}
use Rattle.cb_asm_line.specs.declared.program.FieldText.{FieldText}
use Rattle.cb_asm_line.specs.declared.program.MethodText.{MethodText}
use Rattle.cb_asm_line.specs.declared.program.Program.{Program}
use Rattle.cb_asm_prefix.specs.Closing.{line_labels}
use Rattle.cb_asm_record.specs.Constants.{entries_of, pool_of}
use Rattle.cb_asm_record.specs.Entries.{Entry}
use Rattle.cb_asm_record.specs.Grammar.{HasCode, HasLabel, IsCode, IsProgram}
use Rattle.cb_asm_record.specs.Labels.{place_at}
use Rattle.cb_asm_record.specs.Record.{body_of, class_in, class_of, method_of}
use Rattle.cb_asm_record.specs.Uses.{code_uses, line_uses, method_uses, program_uses}
use Rattle.cb_asm_prefix.proofs.Codes.{EachLabel, IsCodeOf, calls_of_index, each_insn, labels_stand, stand_labels}
use Rattle.cb_asm_prefix.proofs.CutBodies.{bare_body, code_of_body, fewer_body, nop_code, text}
use Rattle.cb_asm_prefix.proofs.CutLabels.{IsOpened, bare_is_code, closed_lines, fewer_is_code, lines_closed, nop_lines_are, once_closed, once_front, shared_closed}
use Rattle.cb_asm_prefix.proofs.EndCode.{all_before, end_code}
use Rattle.cb_asm_prefix.proofs.LinesOf.{AreCodeLines, AreProgramLines, bare_lines, fewer_code_lines, fewer_lines, last_lines, lines_have, of_lines}
use Rattle.cb_asm_prefix.proofs.Lists.{all_back, all_both, all_front, all_of_map, pairs_none}
use Rattle.cb_asm_prefix.proofs.OpenCode.{closing, open_calls, open_code}
use Rattle.cb_asm_prefix.proofs.Placing.{HasDo, HasNone}
use Rattle.cb_asm_prefix.proofs.Shrinking.{shrinks}
use Rattle.cb_asm_prefix.proofs.Trees.{IsOtherCode, fewer, last_other, tree, with_code}
use Rattle.cb_asm_prefix.proofs.UsesFront.{IsFront, front_each, front_none, front_of, uses_of_catches, uses_of_frames, uses_of_last, uses_of_lines, uses_of_methods, uses_of_open}

-- a program whose uses stand at the front of another's
is_program : (whole cut : Program) → IsFront (program_uses cut) (program_uses whole) → HasLines cut → HasCode cut → HasParts (class_in (entries_of (program_uses whole)) cut) → IsProgram cut
is_program whole cut at lines code has = record { lines = lines; code = code; formed = shrinks cut at.rest (subst (λ used. HasParts (class_in (entries_of used) cut)) at.is has) }

-- one with fewer members
pub cut_members : (program : Program) (interfaces more_interfaces : List (List ℕ)) (fields more_fields : List FieldText) (methods more_methods : List MethodText)
    → IsFront (program_uses (tree program interfaces fields methods)) (program_uses (tree program (interfaces ++ more_interfaces) (fields ++ more_fields) (methods ++ more_methods)))
    → IsProgram (tree program (interfaces ++ more_interfaces) (fields ++ more_fields) (methods ++ more_methods)) → IsProgram (tree program interfaces fields methods)
cut_members program interfaces more_interfaces fields more_fields methods more_methods at is =
    let whole = tree program (interfaces ++ more_interfaces) (fields ++ more_fields) (methods ++ more_methods) in
    let cut = tree program interfaces fields methods in
    is_program whole cut at (lines_have cut (fewer_lines program interfaces more_interfaces fields more_fields methods more_methods (of_lines whole is.lines)))
    (all_front (λ method. IfSome method.code IsCode) methods more_methods is.code) (fewer (entries_of (program_uses whole)) program interfaces more_interfaces fields more_fields methods more_methods (parts_of (class_of whole) is.formed))

-- the code of the last method is cut
pub record IsCut (code cut : CodeText) : Type 0 where
  pub uses : IsFront (code_uses (Some cut)) (code_uses (Some code))
  pub lines : AreCodeLines code → AreCodeLines cut
  pub is : (entries : List Entry) → IsBodyOf (pool_of entries) (body_of entries code) → IsCode code → IsCode cut
  pub other : (entries : List Entry) → IsCode code → IsOtherCode entries code cut

-- a program without the methods behind one
record UpTo (entries : List Entry) (program : Program) (interfaces : List (List ℕ)) (fields : List FieldText) (methods : List MethodText) : Type 0 where
  lines : AreProgramLines (tree program interfaces fields methods)
  code : AllByRecursion (λ method. IfSome method.code IsCode) methods
  has : HasParts (class_in entries (tree program interfaces fields methods))

up_to : (entries : List Entry) (program : Program) (interfaces : List (List ℕ)) (fields : List FieldText) (methods more : List MethodText) → UpTo entries program interfaces fields (methods ++ more) → UpTo entries program interfaces fields methods
up_to entries program interfaces fields methods more whole = record {
  lines = fewer_lines program interfaces [] fields [] methods more (subst (λ tree. AreProgramLines tree) again whole.lines);
  code = all_front (λ method. IfSome method.code IsCode) methods more whole.code;
  has = fewer entries program interfaces [] fields [] methods more (subst (λ tree. HasParts (class_in entries tree)) again whole.has);
} where
  again : tree program interfaces fields (methods ++ more) ≡ tree program (interfaces ++ []) (fields ++ []) (methods ++ more)
  again =
      ap (λ interfaces. tree program interfaces fields (methods ++ more)) (sym (append-nil interfaces))
      ∙ ap (λ fields. tree program (interfaces ++ []) fields (methods ++ more)) (sym (append-nil fields))

up_to_last : (program : Program) (interfaces : List (List ℕ)) (fields : List FieldText) (methods more : List MethodText) (method : MethodText) → IsProgram (tree program interfaces fields (methods ++ method ∷ more))
    → UpTo (entries_of (program_uses (tree program interfaces fields (methods ++ method ∷ more)))) program interfaces fields (methods ++ method ∷ [])
up_to_last program interfaces fields methods more method is =
    let whole = tree program interfaces fields (methods ++ method ∷ more) in
    let entries = entries_of (program_uses whole) in
    let again : methods ++ method ∷ more ≡ (methods ++ method ∷ []) ++ more = sym (append_assoc methods (method ∷ []) more) in
    up_to entries program interfaces fields (methods ++ method ∷ []) more (
    subst (UpTo entries program interfaces fields) again (record { lines = of_lines whole is.lines; code = is.code; has = parts_of (class_of whole) is.formed })
    )

pub cut_last : (program : Program) (interfaces : List (List ℕ)) (fields : List FieldText) (methods more : List MethodText) (method : MethodText) (code cut : CodeText) → IsCut code cut
    → IsProgram (tree program interfaces fields (methods ++ with_code method (Some code) ∷ more)) → IsProgram (tree program interfaces fields (methods ++ with_code method (Some cut) ∷ []))
cut_last program interfaces fields methods more method code cut is_cut is =
    let one = with_code method (Some code) in
    let two = with_code method (Some cut) in
    let whole = tree program interfaces fields (methods ++ one ∷ more) in
    let closed = tree program interfaces fields (methods ++ two ∷ []) in
    let entries = entries_of (program_uses whole) in
    let last = up_to_last program interfaces fields methods more one is in
    let is_code = (all_back (λ method. IfSome method.code IsCode) methods (one ∷ []) last.code).0 in
    let is_method = (all_back (λ method. IsMethodOf (pool_of entries) (method_of entries method)) methods (one ∷ []) (all_of_map (IsMethodOf (pool_of entries)) (method_of entries) (methods ++ one ∷ []) last.has.methods)).0 in
    is_program whole closed (uses_of_methods program interfaces fields (methods ++ two ∷ []) (methods ++ one ∷ more) (uses_of_last methods more method code cut is_cut.uses))
    (lines_have closed (last_lines program interfaces fields methods method code cut is_cut.lines last.lines))
    (all_both (λ method. IfSome method.code IsCode) methods (two ∷ []) (all_front (λ method. IfSome method.code IsCode) methods (one ∷ []) last.code) (is_cut.is entries is_method.body is_code, tt))
    (last_other entries program interfaces fields methods method code cut (is_cut.other entries is_code) last.has)

-- a program whose last method has no code
pub cut_behind : (program : Program) (interfaces : List (List ℕ)) (fields : List FieldText) (methods more : List MethodText) → IsProgram (tree program interfaces fields (methods ++ more)) → IsProgram (tree program interfaces fields methods)
cut_behind program interfaces fields methods more is =
    let whole = tree program interfaces fields (methods ++ more) in
    let cut = tree program interfaces fields methods in
    let entries = entries_of (program_uses whole) in
    let upto = up_to entries program interfaces fields methods more (record { lines = of_lines whole is.lines; code = is.code; has = parts_of (class_of whole) is.formed }) in
    is_program whole cut (uses_of_methods program interfaces fields methods (methods ++ more) (front_each method_uses (front_of methods more))) (lines_have cut upto.lines) upto.code upto.has

-- the ways in which code is cut: in its frames, in its exception table, behind its last instruction, before another, and
-- before its first line
pub cut_frames : (stack locals : ℕ) (lines : List CodeLine) (catches : List CatchLine) (frames more : List FrameLine) → IsCut (text stack locals lines catches (frames ++ more)) (text stack locals lines catches frames)
cut_frames stack locals lines catches frames more = record {
  uses = uses_of_frames stack locals lines catches frames more;
  lines = λ are. fewer_code_lines stack locals lines catches [] frames more (subst (λ catches. AreCodeLines (text stack locals lines catches (frames ++ more))) (sym (append-nil catches)) are);
  is = λ entries body code. fewer_is_code stack locals lines catches [] frames more (subst (λ catches. IsCode (text stack locals lines catches (frames ++ more))) (sym (append-nil catches)) code);
  other = λ entries code. record {
    body = λ body. fewer_body entries (pool_of entries) stack locals lines catches [] frames more (subst (λ catches. IsBodyOf (pool_of entries) (body_of entries (text stack locals lines catches (frames ++ more)))) (sym (append-nil catches)) body);
    calls = λ calls. calls;
  };
}

pub cut_catches : (stack locals : ℕ) (lines : List CodeLine) (catches more : List CatchLine) (frames : List FrameLine) → IsCut (text stack locals lines (catches ++ more) frames) (text stack locals lines catches [])
cut_catches stack locals lines catches more frames = record {
  uses = uses_of_catches stack locals lines catches (catches ++ more) frames (front_of catches more);
  lines = λ are. fewer_code_lines stack locals lines catches more [] frames are;
  is = λ entries body code. fewer_is_code stack locals lines catches more [] frames code;
  other = λ entries code. record { body = λ body. fewer_body entries (pool_of entries) stack locals lines catches more [] frames body; calls = λ calls. calls };
}

-- the labels of code that is cut behind its last instruction
stand_before : (entries : List Entry) (stack locals : ℕ) (shared rest : List CodeLine) (catches : List CatchLine) (frames : List FrameLine) → HasNone rest → IsBodyOf (pool_of entries) (body_of entries (text stack locals (shared ++ rest) catches frames)) → IsCode (text stack locals (shared ++ rest) catches frames) → EachLabel (HasLabel shared) shared
stand_before entries stack locals shared rest catches frames none body code = all_before entries shared rest none (labels_stand (shared ++ rest) (shared ++ rest) code.lines) body.is.code.reached

pub cut_end : (stack locals : ℕ) (shared rest : List CodeLine) (catches : List CatchLine) (frames : List FrameLine) → HasNone rest → IsCut (text stack locals (shared ++ rest) catches frames) (text stack locals shared [] [])
cut_end stack locals shared rest catches frames none = record {
  uses = uses_of_lines stack locals stack locals shared (shared ++ rest) catches frames (front_each line_uses (front_of shared rest));
  lines = λ are. bare_lines stack locals shared are.stack are.locals (all_front IsCodeLine shared rest are.lines);
  is = λ entries body code. bare_is_code stack locals shared (once_front shared rest code.once) (stand_labels shared shared (stand_before entries stack locals shared rest catches frames none body code));
  other = λ entries code. record {
    body = λ body.
        bare_body entries (pool_of entries) stack locals shared body.is.stack body.is.locals (
        subst (IsCodeOf (pool_of entries)) (end_code entries shared rest none (stand_before entries stack locals shared rest catches frames none body code)) (code_of_body entries (pool_of entries) (text stack locals (shared ++ rest) catches frames) body)
        ) body.has_name;
    calls = λ calls. each_insn (CallsClass (pool_of entries)) (calls_of_index (pool_of entries)) entries (place_at (shared ++ rest)) (place_at shared) 0 shared rest calls;
  };
}

pub cut_open : (stack locals : ℕ) (shared rest : List CodeLine) (catches : List CatchLine) (frames : List FrameLine) (labels : List Label) → HasDo rest → IsOpened shared labels → IsCut (text stack locals (shared ++ rest) catches frames) (text stack locals (shared ++ closing labels) [] [])
cut_open stack locals shared rest catches frames labels more are = record {
  uses = uses_of_lines stack locals stack locals (shared ++ closing labels) (shared ++ rest) catches frames (uses_of_open shared rest labels);
  lines = λ lines. bare_lines stack locals (shared ++ closing labels) lines.stack lines.locals (closed_lines shared labels (all_front IsCodeLine shared rest lines.lines) are);
  is = λ entries body code. bare_is_code stack locals (shared ++ closing labels) (once_closed shared rest labels code.once are) (lines_closed shared labels are);
  other = λ entries code. record {
    body = λ body.
        bare_body entries (pool_of entries) stack locals (shared ++ closing labels) body.is.stack body.is.locals (
        open_code entries (pool_of entries) shared rest labels (record {
          more = more;
          stand = all_front (λ line. AllByRecursion (HasLabel (shared ++ rest)) (line_labels line)) shared rest (labels_stand (shared ++ rest) (shared ++ rest) code.lines);
          stand_too = lines_closed shared labels are;
          shared_too = shared_closed shared labels are;
        }) (code_of_body entries (pool_of entries) (text stack locals (shared ++ rest) catches frames) body)
        ) body.has_name;
    calls = λ calls. open_calls entries (pool_of entries) (place_at (shared ++ rest)) (place_at (shared ++ closing labels)) shared rest labels calls;
  };
}

-- the lines of code before its labels are closed
pub base_lines : (program : Program) (interfaces : List (List ℕ)) (fields : List FieldText) (methods more : List MethodText) (method : MethodText) (stack locals : ℕ) (shared rest : List CodeLine) (catches : List CatchLine) (frames : List FrameLine)
    → IsProgram (tree program interfaces fields (methods ++ with_code method (Some (text stack locals (shared ++ rest) catches frames)) ∷ more)) → HasLines (tree program interfaces fields (methods ++ with_code method (Some (text stack locals (shared ++ closing []) [] [])) ∷ []))
base_lines program interfaces fields methods more method stack locals shared rest catches frames is =
    let code = text stack locals (shared ++ rest) catches frames in
    let base = text stack locals (shared ++ closing []) [] [] in
    lines_have (tree program interfaces fields (methods ++ with_code method (Some base) ∷ [])) (
    last_lines program interfaces fields methods method code base (λ lines. bare_lines stack locals (shared ++ closing []) lines.stack lines.locals (nop_lines_are shared (all_front IsCodeLine shared rest lines.lines)))
    (up_to_last program interfaces fields methods more (with_code method (Some code)) is).lines
    )

pub cut_limits : (stack locals : ℕ) (lines : List CodeLine) (catches : List CatchLine) (frames : List FrameLine) → IsCut (text stack locals lines catches frames) (text 0 0 (closing []) [] [])
cut_limits stack locals lines catches frames = record {
  uses = uses_of_lines stack locals 0 0 (closing []) lines catches frames (front_none (flat_map line_uses lines));
  lines = λ are. bare_lines 0 0 (closing []) (omega arith) (omega arith) (nop_lines_are [] tt);
  is = λ entries body code. bare_is_code 0 0 (closing []) (pairs_none (λ one other. one.0 ≢ other.0)) (tt, tt);
  other = λ entries code. record {
    body = λ body. bare_body entries (pool_of entries) 0 0 (closing []) (omega arith) (omega arith) (nop_code entries (pool_of entries)) body.has_name;
    calls = λ calls. (λ direct names. absurd names, tt);
  };
}
