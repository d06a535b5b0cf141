-- What a program that is cut uses stands at the front of what the whole program uses.
use Rattle.std.proofs.Common.{◌≡◌, ◌∙◌, ap, sym, refl, subst, append_assoc, ℕ, List, [], ◌∷◌, ◌++◌, map, Some}
use Rattle.std.specs.Prelude.{codes}
use Rattle.std.specs.List.{flat_map}
use Rattle.std.proofs.lemmas.Grind.{flat_map-append}
use Rattle.std.proofs.lemmas.List.{append-nil, map-append}
use Rattle.cb_asm_line.specs.Label.{Label}
use Rattle.cb_asm_line.specs.declared.frame.FrameLine.{FrameLine}
use Rattle.cb_asm_line.specs.declared.program.CatchLine.{CatchLine}
use Rattle.cb_asm_line.specs.declared.program.CodeLine.{CodeLine}
use Rattle.cb_asm_line.specs.declared.program.CodeText.{CodeText}
use Rattle.cb_asm_line.specs.declared.program.FieldText.{FieldText}
use Rattle.cb_asm_line.specs.declared.program.MethodText.{MethodText}
use Rattle.cb_asm_line.specs.declared.program.Program.{Program}
use Rattle.cb_asm_record.specs.Entries.{Entry, Class, Text}
use Rattle.cb_asm_record.specs.Uses.{class_use, code_uses, field_uses, frame_uses, frames_uses, line_uses, method_uses, program_uses}
use Rattle.cb_asm_prefix.proofs.CutBodies.{text}
use Rattle.cb_asm_prefix.proofs.OpenCode.{closing}
use Rattle.cb_asm_prefix.proofs.Trees.{tree, with_code}

-- a list at the front of another
pub record IsFront {X : Type 0} (front whole : List X) : Type 0 where
  pub rest : List X
  pub is : whole ≡ front ++ rest

pub front_of : {X : Type 0} (front rest : List X) → IsFront front (front ++ rest)
front_of front rest = record { rest = rest; is = refl }

pub front_none : {X : Type 0} (items : List X) → IsFront [] items
front_none items = record { rest = items; is = refl }

-- behind the same items; and with none behind it, where some stand behind the other
pub front_behind : {X : Type 0} (before : List X) {front whole : List X} → IsFront front whole → IsFront (before ++ front) (before ++ whole)
front_behind before {front} {whole} at = record { rest = at.rest; is = ap (λ whole. before ++ whole) at.is ∙ sym (append_assoc before front at.rest) }

pub front_longer : {X : Type 0} {front whole : List X} (more : List X) → IsFront front whole → IsFront front (whole ++ more)
front_longer {X} {front} {whole} more at = record { rest = at.rest ++ more; is = ap (λ whole. whole ++ more) at.is ∙ append_assoc front at.rest more }

pub front_then : {X : Type 0} {front whole : List X} (more : List X) → IsFront front whole → IsFront (front ++ []) (whole ++ more)
front_then {X} {front} {whole} more at = rw append-nil (front_longer more at)

pub front_each : {X Y : Type 0} (f : X → List Y) {front whole : List X} → IsFront front whole → IsFront (flat_map f front) (flat_map f whole)
front_each f {front} {whole} at = record { rest = flat_map f at.rest; is = ap (flat_map f) at.is ∙ flat_map-append f front at.rest }

pub front_map : {X Y : Type 0} (f : X → Y) {front whole : List X} → IsFront front whole → IsFront (map f front) (map f whole)
front_map f {front} {whole} at = record { rest = map f at.rest; is = ap (map f) at.is ∙ map-append f front at.rest }

-- programs with fewer members
pub uses_of_interfaces : (program : Program) (interfaces all_interfaces : List (List ℕ)) (fields : List FieldText) (methods : List MethodText) → IsFront interfaces all_interfaces
    → IsFront (program_uses (tree program interfaces [] [])) (program_uses (tree program all_interfaces fields methods))
uses_of_interfaces program interfaces all_interfaces fields methods at =
    front_then (flat_map method_uses methods) (front_then (flat_map field_uses fields) (front_behind (Class program.name ∷ class_use program.superclass) (front_map Class at)))

pub uses_of_fields : (program : Program) (interfaces : List (List ℕ)) (fields all_fields : List FieldText) (methods : List MethodText) → IsFront fields all_fields
    → IsFront (program_uses (tree program interfaces fields [])) (program_uses (tree program interfaces all_fields methods))
uses_of_fields program interfaces fields all_fields methods at =
    front_then (flat_map method_uses methods) (front_behind (Class program.name ∷ class_use program.superclass ++ map Class interfaces) (front_each field_uses at))

pub uses_of_methods : (program : Program) (interfaces : List (List ℕ)) (fields : List FieldText) (methods all_methods : List MethodText) → IsFront (flat_map method_uses methods) (flat_map method_uses all_methods)
    → IsFront (program_uses (tree program interfaces fields methods)) (program_uses (tree program interfaces fields all_methods))
uses_of_methods program interfaces fields methods all_methods at =
    front_behind (Class program.name ∷ class_use program.superclass ++ map Class interfaces ++ flat_map field_uses fields) at

-- methods of which the last has other code
pub uses_of_last : (methods more : List MethodText) (method : MethodText) (code code_too : CodeText) → IsFront (code_uses (Some code_too)) (code_uses (Some code))
    → IsFront (flat_map method_uses (methods ++ with_code method (Some code_too) ∷ [])) (flat_map method_uses (methods ++ with_code method (Some code) ∷ more))
uses_of_last methods more method code code_too at =
    let here : IsFront (method_uses (with_code method (Some code_too))) (method_uses (with_code method (Some code))) = front_behind (Text method.name ∷ Text method.descriptor ∷ []) at in
    rw (
      flat_map-append method_uses methods (with_code method (Some code_too) ∷ []),
      flat_map-append method_uses methods (with_code method (Some code) ∷ more),
    ) (front_behind (flat_map method_uses methods) (front_then (flat_map method_uses more) here))

-- the code of a method
abbrev catch_uses : List CatchLine → List Entry
catch_uses catches = flat_map (λ entry. class_use entry.class) catches

abbrev name : Entry
name = Text (codes "Code")

pub uses_of_lines : (stack locals stack_too locals_too : ℕ) (lines all_lines : List CodeLine) (catches : List CatchLine) (frames : List FrameLine) → IsFront (flat_map line_uses lines) (flat_map line_uses all_lines)
    → IsFront (code_uses (Some (text stack_too locals_too lines [] []))) (code_uses (Some (text stack locals all_lines catches frames)))
uses_of_lines stack locals stack_too locals_too lines all_lines catches frames at =
    front_then (frames_uses frames) (front_then (catch_uses catches) (front_behind (name ∷ []) at))

pub uses_of_catches : (stack locals : ℕ) (lines : List CodeLine) (catches all_catches : List CatchLine) (frames : List FrameLine) → IsFront catches all_catches
    → IsFront (code_uses (Some (text stack locals lines catches []))) (code_uses (Some (text stack locals lines all_catches frames)))
uses_of_catches stack locals lines catches all_catches frames at =
    front_then (frames_uses frames) (front_behind (name ∷ flat_map line_uses lines) (front_each (λ entry. class_use entry.class) at))

frames_at : (frames more : List FrameLine) → IsFront (frames_uses frames) (frames_uses (frames ++ more))
frames_at [] more = front_none (frames_uses more)
frames_at (frame ∷ frames) more = front_behind (Text (codes "StackMapTable") ∷ []) (front_each frame_uses (front_of (frame ∷ frames) more))

pub uses_of_frames : (stack locals : ℕ) (lines : List CodeLine) (catches : List CatchLine) (frames more : List FrameLine)
    → IsFront (code_uses (Some (text stack locals lines catches frames))) (code_uses (Some (text stack locals lines catches (frames ++ more))))
uses_of_frames stack locals lines catches frames more = front_behind (name ∷ flat_map line_uses lines ++ catch_uses catches) (frames_at frames more)

-- what closes code uses nothing
closing_uses : (labels : List Label) → flat_map line_uses (closing labels) ≡ []
closing_uses [] = refl
closing_uses (label ∷ labels) = closing_uses labels

pub uses_of_open : (shared rest : List CodeLine) (labels : List Label) → IsFront (flat_map line_uses (shared ++ closing labels)) (flat_map line_uses (shared ++ rest))
uses_of_open shared rest labels =
    let none : flat_map line_uses (shared ++ closing labels) ≡ flat_map line_uses shared = flat_map-append line_uses shared (closing labels) ∙ ap (λ behind. flat_map line_uses shared ++ behind) (closing_uses labels) ∙ append-nil (flat_map line_uses shared) in
    subst (λ front. IsFront front (flat_map line_uses (shared ++ rest))) (sym none) (front_each line_uses (front_of shared rest))
