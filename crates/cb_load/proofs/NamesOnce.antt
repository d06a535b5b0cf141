-- Each class that is there has a name of its own.
use Rattle.std.proofs.Common.{◌≡◌, ◌∙◌, ap, ap₂, refl, sym, subst, append_assoc, append-nil, ℕ, suc, false, cond, ◌||◌, List, [], ◌∷◌, ◌++◌, map, take, Option, None, Some, IfSome}
use Rattle.std.specs.Prelude.{slice_get}
use Rattle.std.specs.List.{AllZip, list_any}
use Rattle.std.proofs.lemmas.List.{map-append}
use Rattle.std.proofs.lemmas.List.Folds.{list_any-append}
use Rattle.cb_io.specs.Folder.{Files}
use Rattle.cb_classfile.specs.declared.class.ClassFile.{ClassFile}
use Rattle.cb_classfile.specs.Library.{AreLibrary, IsRecordOf}
use Rattle.cb_library.specs.CoreClasses.{core_classes}
use Rattle.cb_library.specs.Questions.{class_names}
use Rattle.cb_library.specs.Rows.{CoreClass}
use Rattle.cb_kinds.specs.Texts.{EachOnce, entered_all, same_text}
use Rattle.cb_kinds.proofs.Laws.{once_all, once_none}
use Rattle.cb_link.specs.Numbers.{same_name, name_of, or_none}
use Rattle.cb_load.specs.Names.{Entry}
use Rattle.cb_load.specs.Closure.{Turn}
use Rattle.cb_load.specs.Loading.{AreLoaded, IsRead, IsThere, Loads, StaysOpaque, is_loaded, loaded, loaded_name, loaded_names}
use Rattle.cb_load.proofs.TurnLists.{spoken}
use Rattle.cb_load.proofs.TurnStands.{turn_of}

-- to enter the names of the table, one by one, leaves none out
all_enter : entered_all [] class_names ≡ class_names
all_enter = refl

core_once : EachOnce class_names
core_once = subst EachOnce all_enter (once_all [] class_names once_none)

-- one name more, which isn't there
one_more : (names : List (List ℕ)) (name : List ℕ) → EachOnce names → list_any (same_text name) names ≡ false → EachOnce (names ++ name ∷ [])
one_more names name once absent =
    subst EachOnce (ap (λ test. cond test names (names ++ name ∷ [])) absent) (once_all names (name ∷ []) once)

-- the names of the table are the library's, and those of its records
core_of : (name : List ℕ) (rows : List CoreClass) → list_any (same_name name) (map (λ row. row.name) rows) ≡ list_any (λ row. same_name name row.name) rows
core_of name [] = refl
core_of name (row ∷ rows) = ap (λ rest. same_name name row.name || rest) (core_of name rows)

pub names_in_rows : (rows : List CoreClass) (classes : List ClassFile) → AllZip IsRecordOf rows classes → map name_of classes ≡ map (λ row. row.name) rows
names_in_rows [] [] are = refl
names_in_rows [] (class ∷ classes) are = absurd are
names_in_rows (row ∷ rows) [] are = absurd are
names_in_rows (row ∷ rows) (class ∷ classes) are = λ i. or_none (are.0.name i) ∷ names_in_rows rows classes are.1 i

-- a class that a turn loads has the name of the turn's entry, and none before it has
abbrev pub IsNew : List (Turn ClassFile) → Entry → Option ClassFile → Type 0
IsNew before entry loads = IfSome loads (λ class. (name_of class ≡ entry.name) × (is_loaded before entry.name ≡ false))

pub is_new : (files : Option Files) (root : List ℕ) (before : List (Turn ClassFile)) (entry : Entry) (loads : Option ClassFile) → Loads files root before entry loads → IsNew before entry loads
is_new files root before entry loads (IsThere there) = tt
is_new files root before entry loads (StaysOpaque new may unneeded) = tt
is_new files root before entry loads (IsRead bytes class new may room of) = (ap or_none of.named, new)

-- so the classes have the names that the turns load
pub named_so : (before : ℕ → List (Turn ClassFile)) (turns : List (Turn ClassFile)) → ((place : ℕ) (turn : Turn ClassFile) → slice_get turns place ≡ Some turn → IsNew (before place) turn.entry turn.loads)
    → map name_of (loaded turns) ≡ loaded_names turns
named_so before [] each = refl
named_so before (turn ∷ turns) each = here turn.entry turn.loads (each 0 turn refl) (named_so (λ place. before (suc place)) turns (λ place. each (suc place))) where
  here : (entry : Entry) (loads : Option ClassFile) → IsNew (before 0) entry loads → map name_of (loaded turns) ≡ loaded_names turns
      → map name_of (loaded (turn_of entry loads ∷ turns)) ≡ loaded_names (turn_of entry loads ∷ turns)
  here entry None new rest = rest
  here entry (Some class) new rest = λ i. new.0 i ∷ rest i

-- the library's names and those of turns, with one turn more
abbrev pub there : List (Turn ClassFile) → List (List ℕ)
there turns = class_names ++ loaded_names turns

pub among_there : (turns : List (Turn ClassFile)) (name : List ℕ) → list_any (same_name name) (there turns) ≡ is_loaded turns name
among_there turns name =
    list_any-append (same_name name) class_names (loaded_names turns) ∙ ap (λ core. core || list_any (same_name name) (loaded_names turns)) (core_of name core_classes)

turn_more : (before : List (Turn ClassFile)) (entry : Entry) (loads : Option ClassFile) → IsNew before entry loads → EachOnce (there before) → EachOnce (there before ++ loaded_name (turn_of entry loads))
turn_more before entry None new once = subst EachOnce (sym (append-nil (there before))) once
turn_more before entry (Some class) new once = one_more (there before) entry.name once (among_there before entry.name ∙ new.1)

turns_more : (before turns : List (Turn ClassFile)) → ((place : ℕ) (turn : Turn ClassFile) → slice_get turns place ≡ Some turn → IsNew (before ++ take place turns) turn.entry turn.loads)
    → EachOnce (there before) → EachOnce (there (before ++ turns))
turns_more before [] each once = subst (λ turns. EachOnce (there turns)) (sym (append-nil before)) once
turns_more before (turn ∷ turns) each once =
    let grown : there before ++ loaded_name turn ≡ there (before ++ turn ∷ []) =
    append_assoc class_names (loaded_names before) (loaded_name turn) ∙ ap (λ names. class_names ++ names) (sym (spoken loaded_name before turn)) in
    let here = subst (λ before. IsNew before turn.entry turn.loads) (append-nil before) (each 0 turn refl) in
    let next = turns_more (before ++ turn ∷ []) turns
    (λ place later at. subst (λ front. IsNew front later.entry later.loads) (sym (append_assoc before (turn ∷ []) (take place turns))) (each (suc place) later at))
    (subst EachOnce grown (turn_more before turn.entry turn.loads here once)) in
    subst (λ turns. EachOnce (there turns)) (append_assoc before (turn ∷ []) turns) next

pub names_once : (files : Option Files) (root main : List ℕ) (library classes : List ClassFile) → AreLibrary library → AreLoaded files root main classes → EachOnce (map name_of (library ++ classes))
names_once files root main library classes are is = subst EachOnce (sym whole) once where
  each : (place : ℕ) (turn : Turn ClassFile) → slice_get is.turns place ≡ Some turn → IsNew (take place is.turns) turn.entry turn.loads
  each place turn at = is_new files root (take place is.turns) turn.entry turn.loads (is.each place turn at)

  whole : map name_of (library ++ classes) ≡ there is.turns
  whole =
      map-append name_of library classes
      ∙ ap₂ (λ front back. front ++ back) (names_in_rows core_classes library are) (ap (map name_of) is.all ∙ named_so (λ place. take place is.turns) is.turns each)

  once : EachOnce (there is.turns)
  once = turns_more [] is.turns each (subst EachOnce (sym (append-nil class_names)) core_once)
