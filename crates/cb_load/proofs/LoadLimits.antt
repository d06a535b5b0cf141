-- The classes that are loaded are few, and have short files.
use Rattle.std.proofs.Common.{◌≡◌, ap, arith, refl, sym, subst, ℕ, suc, ◌+◌, ◌<◌, ◌≤◌, List, [], ◌∷◌, length, take, Option, Some, None, IfSome}
use Rattle.std.specs.Prelude.{slice_get}
use Rattle.std.specs.List.{AllByRecursion}
use Rattle.cb_io.specs.Folder.{Files}
use Rattle.cb_classfile.specs.Class.{SpellsClass}
use Rattle.cb_classfile.specs.declared.class.ClassFile.{ClassFile}
use Rattle.cb_link.specs.Judging.{class_limit}
use Rattle.cb_link.specs.Numbers.{library_size}
use Rattle.cb_load.specs.Closure.{Turn}
use Rattle.cb_load.specs.Loading.{AreLoaded, IsRead, IsThere, Loads, StaysOpaque, file_limit, loaded, loaded_names}
use Rattle.cb_load.specs.Names.{Entry}
use Rattle.cb_load.proofs.TurnStands.{turn_of}

-- ---- short files

abbrev IsShort : ClassFile → Type 0
IsShort class = (bytes : List ℕ) × (length bytes ≤ file_limit) × SpellsClass bytes class

turn_short : (files : Option Files) (root : List ℕ) (before : List (Turn ClassFile)) (entry : Entry) (loads : Option ClassFile) → Loads files root before entry loads → IfSome loads IsShort
turn_short files root before entry loads (IsThere there) = tt
turn_short files root before entry loads (StaysOpaque new may unneeded) = tt
turn_short files root before entry loads (IsRead bytes class new may room of) = (bytes, of.short, of.read.spelled)

turns_short : (turns : List (Turn ClassFile)) → ((place : ℕ) (turn : Turn ClassFile) → slice_get turns place ≡ Some turn → IfSome turn.loads IsShort) → AllByRecursion IsShort (loaded turns)
turns_short [] each = tt
turns_short (turn ∷ turns) each = here turn.entry turn.loads (each 0 turn refl) (turns_short turns (λ place. each (suc place))) where
  here : (entry : Entry) (loads : Option ClassFile) → IfSome loads IsShort → AllByRecursion IsShort (loaded turns) → AllByRecursion IsShort (loaded (turn_of entry loads ∷ turns))
  here entry None short rest = rest
  here entry (Some class) short rest = (short, rest)

pub loaded_short : (files : Option Files) (root main : List ℕ) (classes : List ClassFile) → AreLoaded files root main classes
    → AllByRecursion (λ class. (bytes : List ℕ) × (length bytes ≤ file_limit) × SpellsClass bytes class) classes
loaded_short files root main classes is =
    subst (AllByRecursion IsShort) (sym is.all) (turns_short is.turns (λ place turn at. turn_short files root (take place is.turns) turn.entry turn.loads (is.each place turn at)))

-- ---- few classes

-- there was room for a class that a turn loads, behind so many
abbrev HasRoom : ℕ → List (Turn ClassFile) → Option ClassFile → Type 0
HasRoom count before loads = IfSome loads (λ class. count + length (loaded_names before) + library_size < class_limit)

turn_room : (files : Option Files) (root : List ℕ) (before : List (Turn ClassFile)) (entry : Entry) (loads : Option ClassFile) → Loads files root before entry loads → HasRoom 0 before loads
turn_room files root before entry loads (IsThere there) = tt
turn_room files root before entry loads (StaysOpaque new may unneeded) = tt
turn_room files root before entry loads (IsRead bytes class new may room of) = omega (arith, room)

fewer_room : (count : ℕ) (entry : Entry) (class : ClassFile) (before : List (Turn ClassFile)) (loads : Option ClassFile) → HasRoom count (turn_of entry (Some class) ∷ before) loads → HasRoom (count + 1) before loads
fewer_room count entry class before None room = tt
fewer_room count entry class before (Some other) room = omega (arith, room)

turns_few : (count : ℕ) (turns : List (Turn ClassFile)) → count + library_size ≤ class_limit → ((place : ℕ) (turn : Turn ClassFile) → slice_get turns place ≡ Some turn → HasRoom count (take place turns) turn.loads)
    → count + length (loaded turns) + library_size ≤ class_limit
turns_few count [] low each = omega (arith, low)
turns_few count (turn ∷ turns) low each =
    here turn.entry turn.loads (each 0 turn refl) (λ place own at. each (suc place) own at) (turns_few count turns low) (turns_few (count + 1) turns)
  where
    here : (entry : Entry) (loads : Option ClassFile) → HasRoom count [] loads
        → ((place : ℕ) (own : Turn ClassFile) → slice_get turns place ≡ Some own → HasRoom count (turn_of entry loads ∷ take place turns) own.loads)
        → (((place : ℕ) (own : Turn ClassFile) → slice_get turns place ≡ Some own → HasRoom count (take place turns) own.loads) → count + length (loaded turns) + library_size ≤ class_limit)
        → (count + 1 + library_size ≤ class_limit → ((place : ℕ) (own : Turn ClassFile) → slice_get turns place ≡ Some own → HasRoom (count + 1) (take place turns) own.loads)
        → count + 1 + length (loaded turns) + library_size ≤ class_limit)
        → count + length (loaded (turn_of entry loads ∷ turns)) + library_size ≤ class_limit
    here entry None room each same more = same each
    here entry (Some class) room each same more =
        let rest : count + 1 + length (loaded turns) + library_size ≤ class_limit =
        more (omega (arith, room)) (λ place own at. fewer_room count entry class (take place turns) own.loads (each place own at)) in
        omega (arith, rest)

pub loaded_few : (files : Option Files) (root main : List ℕ) (classes : List ClassFile) → AreLoaded files root main classes → library_size + length classes ≤ class_limit
loaded_few files root main classes is =
    let all : 0 + length (loaded is.turns) + library_size ≤ class_limit =
    turns_few 0 is.turns (omega arith) (λ place turn at. turn_room files root (take place is.turns) turn.entry turn.loads (is.each place turn at)) in
    omega (arith, all, ap (λ (classes : List ClassFile). length classes) is.all)
