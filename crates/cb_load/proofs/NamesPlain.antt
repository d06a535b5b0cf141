-- No class of a program has the name of an array.
use Rattle.std.proofs.Common.{◌≡◌, ◌∙◌, ap, refl, sym, subst, arith, ℕ, suc, Bool, true, false, not, List, [], ◌∷◌, ◌++◌, map, take, append-nil, Option, Some, None, ◌&&◌}
use Rattle.std.specs.Prelude.{IsSomeAnd, slice_get}
use Rattle.std.specs.List.{AllByRecursion, join_with_byte, list_all}
use Rattle.std.proofs.lemmas.Bool.{false≢true, ne_eqb}
use Rattle.cb_io.specs.Folder.{Files}
use Rattle.cb_names.specs.Names.{IsClassName, IsUnqualifiedName}
use Rattle.cb_names.specs.Signs.{bracket, slash}
use Rattle.cb_classfile.specs.declared.class.ClassFile.{ClassFile}
use Rattle.cb_classfile.specs.Library.{AreLibrary}
use Rattle.cb_classfile.specs.Class.{SpellsClass}
use Rattle.cb_classfile.specs.Pool.{HasClass, class_at}
use Rattle.cb_hierarchy.specs.Classes.{listed}
use Rattle.cb_library.specs.CoreClasses.{core_classes}
use Rattle.cb_library.specs.Questions.{class_names}
use Rattle.cb_kinds.specs.Kinds.{is_array}
use Rattle.cb_link.specs.Having.{HasOwnName}
use Rattle.cb_link.specs.Numbers.{name_of, or_none}
use Rattle.cb_load.specs.Closure.{Turn}
use Rattle.cb_load.specs.Loading.{AreLoaded, IsClassOf, IsRead, IsThere, Loads, StaysOpaque, loaded}
use Rattle.cb_load.specs.Names.{Entry}
use Rattle.cb_link.proofs.Laws.{all_both}
use Rattle.cb_load.proofs.NamesOnce.{names_in_rows}
use Rattle.cb_load.proofs.TurnStands.{turn_of}

-- the library's names, which the checker computes
core_plain : list_all (λ name. not (is_array name)) class_names ≡ true
core_plain = refl

and_both : (one other : Bool) → (one && other) ≡ true → (one ≡ true) × (other ≡ true)
and_both true true is = (refl, refl)
and_both true false is = absurd (false≢true is)
and_both false other is = absurd (false≢true is)

not_true : (test : Bool) → not test ≡ true → test ≡ false
not_true true is = absurd (false≢true is)
not_true false is = refl

plain_all : (classes : List ClassFile) → list_all (λ name. not (is_array name)) (map name_of classes) ≡ true → AllByRecursion HasOwnName classes
plain_all [] all = tt
plain_all (class ∷ classes) all =
    let both = and_both (not (is_array (name_of class))) (list_all (λ name. not (is_array name)) (map name_of classes)) all in
    (not_true (is_array (name_of class)) both.0, plain_all classes both.1)

-- the name of a class begins with a unit that may stand in it
plain_part : (part behind : List ℕ) → IsUnqualifiedName part → is_array (part ++ behind) ≡ false
plain_part [] behind part = absurd (omega (arith, part.0))
plain_part (unit ∷ part) behind named = ne_eqb unit bracket named.1.0.2

pub plain_name : (name : List ℕ) → IsClassName name → is_array name ≡ false
plain_name name ([], some, each, is) = absurd (omega (arith, some))
plain_name name (part ∷ [], some, each, is) =
    ap is_array (is ∙ sym (append-nil part)) ∙ plain_part part [] each.0
plain_name name (part ∷ other ∷ parts, some, each, is) = ap is_array is ∙ plain_part part (slash ∷ join_with_byte slash (other ∷ parts)) each.0

named_so : (found : Option (List ℕ)) (name : List ℕ) → IsSomeAnd found IsClassName → found ≡ Some name → is_array name ≡ false
named_so None name is told = absurd (cc)
named_so (Some found) name is told = let same : found ≡ name = cc in subst (λ name. is_array name ≡ false) same (plain_name found is)

-- a class that a turn loads
turn_plain : (files : Option Files) (root : List ℕ) (before : List (Turn ClassFile)) (entry : Entry) (loads : Option ClassFile) → Loads files root before entry loads
    → AllByRecursion HasOwnName (listed loads)
turn_plain files root before entry loads (IsThere there) = tt
turn_plain files root before entry loads (StaysOpaque new may unneeded) = tt
turn_plain files root before entry loads (IsRead bytes class new may room of) = (own of, tt) where
  named_in : SpellsClass bytes class → HasClass class.pool class.this_class IsClassName
  named_in spelled = spelled.behind.rules.alone.classes.named

  own : IsClassOf entry.name bytes class → is_array (name_of class) ≡ false
  own of = subst (λ name. is_array name ≡ false) (sym (ap or_none of.named)) (named_so (class_at class.pool class.this_class) entry.name (named_in of.read.spelled) of.named)

turns_plain : (before : ℕ → List (Turn ClassFile)) (files : Option Files) (root : List ℕ) (turns : List (Turn ClassFile))
    → ((place : ℕ) (turn : Turn ClassFile) → slice_get turns place ≡ Some turn → Loads files root (before place) turn.entry turn.loads) → AllByRecursion HasOwnName (loaded turns)
turns_plain before files root [] each = tt
turns_plain before files root (turn ∷ turns) each =
    here turn.entry turn.loads (turn_plain files root (before 0) turn.entry turn.loads (each 0 turn refl))
    (turns_plain (λ place. before (suc place)) files root turns (λ place. each (suc place)))
  where
    here : (entry : Entry) (loads : Option ClassFile) → AllByRecursion HasOwnName (listed loads) → AllByRecursion HasOwnName (loaded turns) → AllByRecursion HasOwnName (loaded (turn_of entry loads ∷ turns))
    here entry None one rest = rest
    here entry (Some class) one rest = (one.0, rest)

pub names_plain : (files : Option Files) (root main : List ℕ) (library classes : List ClassFile) → AreLibrary library → AreLoaded files root main classes → AllByRecursion HasOwnName (library ++ classes)
names_plain files root main library classes are is =
    all_both HasOwnName library classes
    (plain_all library (ap (list_all (λ name. not (is_array name))) (names_in_rows core_classes library are) ∙ core_plain))
    (subst (AllByRecursion HasOwnName) (sym is.all) (turns_plain (λ place. take place is.turns) files root is.turns is.each))
