-- The lines of a program up to one of them close.
use Rattle.std.proofs.Common.{◌≡◌, inl, inr, ◌∙◌, ap, sym, refl, subst, arith, append_assoc, ℕ, zero, suc, ◌<◌, ◌≤◌, List, [], ◌∷◌, ◌++◌, length, length-append, map, take, drop, Option, Some, None}
use Rattle.std.specs.List.{flat_map}
use Rattle.std.specs.Prelude.{codes}
use Rattle.std.proofs.lemmas.Fmt.{decimal_digit}
use Rattle.std.proofs.lemmas.Grind.{flat_map-append}
use Rattle.std.proofs.lemmas.List.{append-nil, map-append, take-append-drop, take-append-le}
use Rattle.cb_asm_line.specs.Label.{Label}
use Rattle.cb_asm_line.specs.Lines.{Line}
use Rattle.cb_asm_line.specs.Spelling.{catch_line, class_line, code_line, code_lines, end_line, field_line, frame_line, implements_line, limits_line, method_line, method_lines, program_lines}
use Rattle.cb_asm_line.specs.declared.frame.FrameLine.{FrameLine}
use Rattle.cb_asm_line.specs.declared.program.CatchLine.{CatchLine}
use Rattle.cb_asm_line.specs.declared.program.CodeLine.{CodeLine}
use Rattle.cb_asm_line.specs.declared.program.CodeLine.TheVariants.{Here}
use Rattle.cb_asm_line.specs.declared.program.CodeText.{CodeText}
use Rattle.cb_asm_line.specs.declared.program.FieldText.{FieldText}
use Rattle.cb_asm_line.specs.declared.program.MethodText.{MethodText}
use Rattle.cb_asm_line.specs.declared.program.Program.{Program}
use Rattle.cb_asm_prefix.specs.Closing.{AreOpen, Close, Whole, End, Open, Limits, code_lines_of, last_code, limits_lines, nop_lines}
use Rattle.cb_asm_record.specs.Grammar.{IsProgram}
use Rattle.cb_asm_record.specs.Uses.{program_uses}
use Rattle.cb_asm_prefix.proofs.CutBodies.{text}
use Rattle.cb_asm_prefix.proofs.CutLabels.{opened}
use Rattle.cb_asm_prefix.proofs.Cutting.{IsCut, base_lines, cut_behind, cut_catches, cut_end, cut_frames, cut_last, cut_limits, cut_members, cut_open}
use Rattle.cb_asm_prefix.proofs.OpenCode.{closing}
use Rattle.cb_asm_prefix.proofs.Placing.{HasDo, some_or_none}
use Rattle.cb_asm_prefix.proofs.Trees.{tree, with_code}
use Rattle.cb_asm_prefix.proofs.UsesFront.{IsFront, front_of, uses_of_fields, uses_of_interfaces}

-- the first of some items are fewer than the first of two lists, or all of that and some of the second
data Taken {X : Type 0} (count : ℕ) (front back : List X) : Type 0 where
  Within : count < length front → take count (front ++ back) ≡ take count front → Taken count front back
  Beyond : (more : ℕ) → take count (front ++ back) ≡ front ++ take more back → Taken count front back

taken : {X : Type 0} (count : ℕ) (front back : List X) → Taken count front back
taken zero [] back = Beyond 0 refl
taken zero (item ∷ front) back = Within (omega arith) refl
taken (suc count) [] back = Beyond (suc count) refl
taken {X} (suc count) (item ∷ front) back = behind (taken count front back) where
  behind : Taken count front back → Taken (suc count) (item ∷ front) back
  behind (Within few is) = Within (omega (arith, few)) (ap (λ rest. item ∷ rest) is)
  behind (Beyond more is) = Beyond more (ap (λ rest. item ∷ rest) is)

take_map : {X Y : Type 0} (f : X → Y) (count : ℕ) (items : List X) → take count (map f items) ≡ map f (take count items)
take_map f zero items = refl
take_map f (suc count) [] = refl
take_map f (suc count) (item ∷ items) = ap (λ rest. f item ∷ rest) (take_map f count items)

take_none : {X : Type 0} (count : ℕ) → take {A = X} count [] ≡ []
take_none zero = refl
take_none (suc count) = refl

-- the lines of a program whose last method is this
last_spelled : (program : Program) (interfaces : List (List ℕ)) (fields : List FieldText) (methods : List MethodText) (method : MethodText) (lines behind : List Line) → method_lines method ≡ lines ++ behind
    → program_lines (tree program interfaces fields (methods ++ method ∷ [])) ≡ (program_lines (tree program interfaces fields methods) ++ lines) ++ behind
last_spelled program interfaces fields methods method lines behind spelled =
    let head = class_line program ∷ map implements_line interfaces ++ map field_line fields in
    let before = flat_map method_lines methods in
    ap (λ rest. head ++ rest) (flat_map-append method_lines methods (method ∷ []) ∙ ap (λ last. before ++ last) (append-nil (method_lines method) ∙ spelled))
    ∙ ap (λ rest. head ++ rest) (sym (append_assoc before lines behind))
    ∙ sym (append_assoc head (before ++ lines) behind)
    ∙ ap (λ front. front ++ behind) (sym (append_assoc head before lines))

-- code that is cut ends with its method
cut_closes : (program : Program) (interfaces : List (List ℕ)) (fields : List FieldText) (methods more : List MethodText) (method : MethodText) (code cut : CodeText) → IsCut code cut
    → IsProgram (tree program interfaces fields (methods ++ with_code method (Some code) ∷ more)) → Close (program_lines (tree program interfaces fields methods) ++ method_line method ∷ code_lines (Some cut))
cut_closes program interfaces fields methods more method code cut is_cut is = End (record {
  program = tree program interfaces fields (methods ++ with_code method (Some cut) ∷ []);
  is = cut_last program interfaces fields methods more method code cut is_cut is;
  spelled = last_spelled program interfaces fields methods (with_code method (Some cut)) (method_line method ∷ code_lines (Some cut)) (end_line ∷ []) refl;
})

-- the lines of code that is open
closing_spelled : (labels : List Label) → map code_line (closing labels) ++ end_line ∷ [] ≡ map (λ label. code_line (Here label)) labels ++ nop_lines
closing_spelled [] = refl
closing_spelled (label ∷ labels) = ap (λ rest. code_line (Here label) ∷ rest) (closing_spelled labels)

open_spelled : (method : MethodText) (stack locals : ℕ) (shared : List CodeLine) (labels : List Label)
    → method_lines (with_code method (Some (text stack locals (shared ++ closing labels) [] []))) ≡ (method_line method ∷ limits_line (text stack locals shared [] []) ∷ map code_line shared) ++ (map (λ label. code_line (Here label)) labels ++ nop_lines)
open_spelled method stack locals shared labels =
    let lines = map code_line (shared ++ closing labels) in
    ap (λ rest. method_line method ∷ limits_line (text stack locals shared [] []) ∷ rest) (
    ap (λ lines. lines ++ end_line ∷ []) (append-nil (lines ++ []) ∙ append-nil lines ∙ map-append code_line shared (closing labels))
    ∙ append_assoc (map code_line shared) (map code_line (closing labels)) (end_line ∷ [])
    ∙ ap (λ behind. map code_line shared ++ behind) (closing_spelled labels)
    )

last_code_is : (methods : List MethodText) (method : MethodText) → last_code (methods ++ method ∷ []) ≡ code_lines_of method.code
last_code_is [] method = refl
last_code_is (one ∷ []) method = refl
last_code_is (one ∷ next ∷ methods) method = last_code_is (next ∷ methods) method

open_closes : (program : Program) (interfaces : List (List ℕ)) (fields : List FieldText) (methods more : List MethodText) (method : MethodText) (stack locals : ℕ) (shared rest : List CodeLine) (catches : List CatchLine) (frames : List FrameLine) → HasDo rest
    → IsProgram (tree program interfaces fields (methods ++ with_code method (Some (text stack locals (shared ++ rest) catches frames)) ∷ more))
    → Close (program_lines (tree program interfaces fields methods) ++ method_line method ∷ limits_line (text stack locals shared [] []) ∷ map code_line shared)
open_closes program interfaces fields methods more method stack locals shared rest catches frames has is =
    let closed = λ (labels : List Label). with_code method (Some (text stack locals (shared ++ closing labels) [] [])) in
    let lines = method_line method ∷ limits_line (text stack locals shared [] []) ∷ map code_line shared in
    Open (record {
      program = tree program interfaces fields (methods ++ closed [] ∷ []);
      lines_are = base_lines program interfaces fields methods more method stack locals shared rest catches frames is;
      spelled = last_spelled program interfaces fields methods (closed []) lines nop_lines (open_spelled method stack locals shared []);
      closed = λ labels are. record {
        program = tree program interfaces fields (methods ++ closed labels ∷ []);
        is =
            cut_last program interfaces fields methods more method (text stack locals (shared ++ rest) catches frames) (text stack locals (shared ++ closing labels) [] [])
            (cut_open stack locals shared rest catches frames labels has (opened shared labels (subst (λ lines. AreOpen lines labels) (last_code_is methods (closed [])) are))) is;
        spelled = last_spelled program interfaces fields methods (closed labels) lines (map (λ label. code_line (Here label)) labels ++ nop_lines) (open_spelled method stack locals shared labels);
      };
    })

-- lines of code, whatever stands behind
code_closes : (program : Program) (interfaces : List (List ℕ)) (fields : List FieldText) (methods more : List MethodText) (method : MethodText) (stack locals : ℕ) (shared rest : List CodeLine) (catches : List CatchLine) (frames : List FrameLine)
    → IsProgram (tree program interfaces fields (methods ++ with_code method (Some (text stack locals (shared ++ rest) catches frames)) ∷ more))
    → Close (program_lines (tree program interfaces fields methods) ++ method_line method ∷ limits_line (text stack locals shared [] []) ∷ map code_line shared)
code_closes program interfaces fields methods more method stack locals shared rest catches frames is = elim (some_or_none rest) [
  | inl has ↦ open_closes program interfaces fields methods more method stack locals shared rest catches frames has is
  | inr none ↦ subst (λ lines. Close (program_lines (tree program interfaces fields methods) ++ method_line method ∷ limits_line (text stack locals shared [] []) ∷ lines)) (append-nil (map code_line shared ++ []) ∙ append-nil (map code_line shared)) (
      cut_closes program interfaces fields methods more method (text stack locals (shared ++ rest) catches frames) (text stack locals shared [] []) (cut_end stack locals shared rest catches frames none) is
      )
]

-- so many lines of the code of a method
abbrev ClosesIn : Program → MethodText → ℕ → ℕ → List Line → Type 0
ClosesIn before method stack locals lines = Close (program_lines before ++ method_line method ∷ limits_line (text stack locals [] [] []) ∷ lines)

lines_close : (program : Program) (interfaces : List (List ℕ)) (fields : List FieldText) (methods more : List MethodText) (method : MethodText) (stack locals : ℕ) (lines : List CodeLine) (catches : List CatchLine) (frames : List FrameLine) (count : ℕ)
    → IsProgram (tree program interfaces fields (methods ++ with_code method (Some (text stack locals lines catches frames)) ∷ more))
    → ClosesIn (tree program interfaces fields methods) method stack locals (take count (map code_line lines ++ map catch_line catches ++ map frame_line frames))
lines_close program interfaces fields methods more method stack locals lines catches frames count is = behind_all (taken count (map code_line lines ++ map catch_line catches) (map frame_line frames)) where
  in_code : (count : ℕ) → ClosesIn (tree program interfaces fields methods) method stack locals (take count (map code_line lines))
  in_code count =
      rw take_map (
      code_closes program interfaces fields methods more method stack locals (take count lines) (drop count lines) catches frames (
      subst (λ lines. IsProgram (tree program interfaces fields (methods ++ with_code method (Some (text stack locals lines catches frames)) ∷ more))) (sym (take-append-drop count lines)) is
      )
      )

  in_catches : (count : ℕ) → ClosesIn (tree program interfaces fields methods) method stack locals (map code_line lines ++ take count (map catch_line catches))
  in_catches count =
      let front = take count catches in
      rw take_map (
      subst (ClosesIn (tree program interfaces fields methods) method stack locals) (append-nil (map code_line lines ++ map catch_line front)) (
      cut_closes program interfaces fields methods more method (text stack locals lines (front ++ drop count catches) frames) (text stack locals lines front []) (cut_catches stack locals lines front (drop count catches) frames) (
      subst (λ catches. IsProgram (tree program interfaces fields (methods ++ with_code method (Some (text stack locals lines catches frames)) ∷ more))) (sym (take-append-drop count catches)) is
      )
      )
      )

  in_frames : (count : ℕ) → ClosesIn (tree program interfaces fields methods) method stack locals ((map code_line lines ++ map catch_line catches) ++ take count (map frame_line frames))
  in_frames count =
      let front = take count frames in
      rw take_map (
      cut_closes program interfaces fields methods more method (text stack locals lines catches (front ++ drop count frames)) (text stack locals lines catches front) (cut_frames stack locals lines catches front (drop count frames)) (
      subst (λ frames. IsProgram (tree program interfaces fields (methods ++ with_code method (Some (text stack locals lines catches frames)) ∷ more))) (sym (take-append-drop count frames)) is
      )
      )

  before_frames : Taken count (map code_line lines) (map catch_line catches) → ClosesIn (tree program interfaces fields methods) method stack locals (take count (map code_line lines ++ map catch_line catches))
  before_frames (Within few taken_is) = subst (ClosesIn (tree program interfaces fields methods) method stack locals) (sym taken_is) (in_code count)
  before_frames (Beyond more taken_is) = subst (ClosesIn (tree program interfaces fields methods) method stack locals) (sym taken_is) (in_catches more)

  behind_all : Taken count (map code_line lines ++ map catch_line catches) (map frame_line frames) → ClosesIn (tree program interfaces fields methods) method stack locals (take count ((map code_line lines ++ map catch_line catches) ++ map frame_line frames))
  behind_all (Within few taken_is) = subst (ClosesIn (tree program interfaces fields methods) method stack locals) (sym taken_is) (before_frames (taken count (map code_line lines) (map catch_line catches)))
  behind_all (Beyond more taken_is) = subst (ClosesIn (tree program interfaces fields methods) method stack locals) (sym taken_is) (in_frames more)

-- so many lines of a method, but not all
method_closes : (program : Program) (interfaces : List (List ℕ)) (fields : List FieldText) (methods more : List MethodText) (method : MethodText) (code : Option CodeText) (count : ℕ) → count < length (method_lines (with_code method code))
    → IsProgram (tree program interfaces fields (methods ++ with_code method code ∷ more)) → Close (program_lines (tree program interfaces fields methods) ++ take count (method_lines (with_code method code)))
method_closes program interfaces fields methods more method code zero few is = Whole (record {
  program = tree program interfaces fields methods;
  is = cut_behind program interfaces fields methods (with_code method code ∷ more) is;
  spelled = sym (append-nil (program_lines (tree program interfaces fields methods) ++ []) ∙ append-nil (program_lines (tree program interfaces fields methods)));
})
method_closes program interfaces fields methods more method None (suc zero) few is = End (record {
  program = tree program interfaces fields (methods ++ with_code method None ∷ []);
  is = cut_behind program interfaces fields (methods ++ with_code method None ∷ []) more (subst (λ methods. IsProgram (tree program interfaces fields methods)) (sym (append_assoc methods (with_code method None ∷ []) more)) is);
  spelled = last_spelled program interfaces fields methods (with_code method None) (method_line method ∷ []) (end_line ∷ []) refl;
})
method_closes program interfaces fields methods more method None (suc (suc count)) few is = absurd (omega (arith, few))
method_closes program interfaces fields methods more method (Some code) (suc zero) few is = Limits (record {
  program = tree program interfaces fields (methods ++ with_code method (Some (text 0 0 (closing []) [] [])) ∷ []);
  is = cut_last program interfaces fields methods more method code (text 0 0 (closing []) [] []) (cut_limits code.stack code.locals code.lines code.catches code.frames) is;
  spelled = last_spelled program interfaces fields methods (with_code method (Some (text 0 0 (closing []) [] []))) (method_line method ∷ []) limits_lines (ap (λ zero. method_line method ∷ (codes "limits" ∷ zero ∷ zero ∷ []) ∷ nop_lines) (decimal_digit 0 (omega arith)));
})
method_closes program interfaces fields methods more method (Some code) (suc (suc count)) few is =
    let lines = map code_line code.lines ++ map catch_line code.catches ++ map frame_line code.frames in
    let within : count ≤ length lines = omega (arith, few, length-append (method_line method ∷ limits_line code ∷ lines) (end_line ∷ [])) in
    subst (ClosesIn (tree program interfaces fields methods) method code.stack code.locals) (sym (take-append-le count lines (end_line ∷ []) within)) (
    lines_close program interfaces fields methods more method code.stack code.locals code.lines code.catches code.frames count is
    )

-- so many lines of the methods
methods_close : (program : Program) (interfaces : List (List ℕ)) (fields : List FieldText) (before methods : List MethodText) (count : ℕ) → IsProgram (tree program interfaces fields (before ++ methods))
    → Close (program_lines (tree program interfaces fields before) ++ take count (flat_map method_lines methods))
methods_close program interfaces fields before [] count is = Whole (record {
  program = tree program interfaces fields before;
  is = subst (λ methods. IsProgram (tree program interfaces fields methods)) (append-nil before) is;
  spelled =
      let lines = program_lines (tree program interfaces fields before) in
      sym (append-nil (lines ++ take count []) ∙ ap (λ taken. lines ++ taken) (take_none count) ∙ append-nil lines);
})
methods_close program interfaces fields before (method ∷ methods) count is = of (taken count (method_lines method) (flat_map method_lines methods)) (λ more. methods_close program interfaces fields (before ++ method ∷ []) methods more again) where
  again : IsProgram (tree program interfaces fields ((before ++ method ∷ []) ++ methods))
  again = subst (λ methods. IsProgram (tree program interfaces fields methods)) (sym (append_assoc before (method ∷ []) methods)) is

  one_more : (behind : List Line) → program_lines (tree program interfaces fields (before ++ method ∷ [])) ++ behind ≡ program_lines (tree program interfaces fields before) ++ (method_lines method ++ behind)
  one_more behind =
      ap (λ lines. lines ++ behind) (last_spelled program interfaces fields before method (method_lines method) [] (sym (append-nil (method_lines method))) ∙ append-nil (program_lines (tree program interfaces fields before) ++ method_lines method))
      ∙ append_assoc (program_lines (tree program interfaces fields before)) (method_lines method) behind

  of : Taken count (method_lines method) (flat_map method_lines methods) → ((more : ℕ) → Close (program_lines (tree program interfaces fields (before ++ method ∷ [])) ++ take more (flat_map method_lines methods)))
      → Close (program_lines (tree program interfaces fields before) ++ take count (method_lines method ++ flat_map method_lines methods))
  of (Within few taken_is) next =
      subst (λ taken. Close (program_lines (tree program interfaces fields before) ++ taken)) (sym taken_is) (method_closes program interfaces fields before methods method method.code count few is)
  of (Beyond more taken_is) next =
      subst (λ taken. Close (program_lines (tree program interfaces fields before) ++ taken)) (sym taken_is) (subst Close (one_more (take more (flat_map method_lines methods))) (next more))

-- so many lines before the methods, of which the first stands
members_close : (program : Program) (count : ℕ) → IsProgram program → Close (class_line program ∷ take count ((map implements_line program.interfaces ++ map field_line program.fields) ++ flat_map method_lines program.methods))
members_close program count is = of (taken count (map implements_line program.interfaces ++ map field_line program.fields) (flat_map method_lines program.methods)) where
  cut_interfaces : (count : ℕ) → Close (class_line program ∷ take count (map implements_line program.interfaces))
  cut_interfaces count =
      let front = take count program.interfaces in
      let rest = drop count program.interfaces in
      rw take_map (
      Whole (record {
        program = tree program front [] [];
        is =
            cut_members program front rest [] program.fields [] program.methods (uses_of_interfaces program front (front ++ rest) program.fields program.methods (front_of front rest))
            (subst (λ interfaces. IsProgram (tree program interfaces program.fields program.methods)) (sym (take-append-drop count program.interfaces)) is);
        spelled = append-nil ((class_line program ∷ map implements_line front) ++ []);
      })
      )

  cut_fields : (count : ℕ) → Close (class_line program ∷ map implements_line program.interfaces ++ take count (map field_line program.fields))
  cut_fields count =
      let interfaces = program.interfaces in
      let front = take count program.fields in
      let rest = drop count program.fields in
      rw take_map (
      Whole (record {
        program = tree program interfaces front [];
        is =
            cut_members program interfaces [] front rest [] program.methods (subst (λ all. IsFront (program_uses (tree program interfaces front [])) (program_uses (tree program all (front ++ rest) program.methods))) (sym (append-nil interfaces)) (uses_of_fields program interfaces front (front ++ rest) program.methods (front_of front rest)))
            (
            subst (λ all. IsProgram (tree program all (front ++ rest) program.methods)) (sym (append-nil interfaces)) (
            subst (λ fields. IsProgram (tree program interfaces fields program.methods)) (sym (take-append-drop count program.fields)) is
            )
            );
        spelled = refl;
      })
      )

  before_methods : Taken count (map implements_line program.interfaces) (map field_line program.fields) → Close (class_line program ∷ take count (map implements_line program.interfaces ++ map field_line program.fields))
  before_methods (Within few taken_is) = subst (λ lines. Close (class_line program ∷ lines)) (sym taken_is) (cut_interfaces count)
  before_methods (Beyond more taken_is) = subst (λ lines. Close (class_line program ∷ lines)) (sym taken_is) (cut_fields more)

  of : Taken count (map implements_line program.interfaces ++ map field_line program.fields) (flat_map method_lines program.methods) → Close (class_line program ∷ take count ((map implements_line program.interfaces ++ map field_line program.fields) ++ flat_map method_lines program.methods))
  of (Within few taken_is) = subst (λ lines. Close (class_line program ∷ lines)) (sym taken_is) (before_methods (taken count (map implements_line program.interfaces) (map field_line program.fields)))
  of (Beyond more taken_is) =
      subst (λ lines. Close (class_line program ∷ lines)) (sym taken_is) (
      subst (λ head. Close (class_line program ∷ (head ++ take more (flat_map method_lines program.methods)))) (append-nil (map implements_line program.interfaces ++ map field_line program.fields)) (
      methods_close program program.interfaces program.fields [] program.methods more is
      )
      )

-- the first lines of a program close
pub front_closes : (program : Program) (count : ℕ) → IsProgram program → 0 < count → Close (take count (program_lines program))
front_closes program zero is some = absurd (omega (arith, some))
front_closes program (suc count) is some = members_close program count is
