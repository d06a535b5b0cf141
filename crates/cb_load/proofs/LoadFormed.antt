-- Each class that is loaded is well formed.
use Rattle.std.proofs.Common.{◌≡◌, refl, sym, subst, ℕ, suc, List, [], ◌∷◌, take, Option, Some, None, IfSome}
use Rattle.std.specs.Prelude.{slice_get}
use Rattle.std.specs.List.{AllByRecursion}
use Rattle.cb_io.specs.Folder.{Files}
use Rattle.cb_classfile.specs.declared.class.ClassFile.{ClassFile}
use Rattle.cb_classfile.specs.Class.{IsWellFormed}
use Rattle.cb_load.specs.Closure.{Turn}
use Rattle.cb_load.specs.Loading.{AreLoaded, IsRead, IsThere, Loads, StaysOpaque, loaded}
use Rattle.cb_load.specs.Names.{Entry}

turn_formed : (files : Option Files) (root : List ℕ) (before : List (Turn ClassFile)) (entry : Entry) (loads : Option ClassFile) → Loads files root before entry loads → IfSome loads IsWellFormed
turn_formed files root before entry loads (IsThere there) = tt
turn_formed files root before entry loads (StaysOpaque new may unneeded) = tt
turn_formed files root before entry loads (IsRead bytes class new may room of) = (bytes, of.read.spelled)

turns_formed : (turns : List (Turn ClassFile)) → ((place : ℕ) (turn : Turn ClassFile) → slice_get turns place ≡ Some turn → IfSome turn.loads IsWellFormed) → AllByRecursion IsWellFormed (loaded turns)
turns_formed [] each = tt
turns_formed (turn ∷ turns) each = here turn.entry turn.loads (each 0 turn refl) (turns_formed turns (λ place. each (suc place))) where
  here : (entry : Entry) (loads : Option ClassFile) → IfSome loads IsWellFormed → AllByRecursion IsWellFormed (loaded turns) → AllByRecursion IsWellFormed (loaded (record { entry = entry; loads = loads } ∷ turns))
  here entry None formed rest = rest
  here entry (Some class) formed rest = (formed, rest)

pub loaded_formed : (files : Option Files) (root main : List ℕ) (classes : List ClassFile) → AreLoaded files root main classes → AllByRecursion IsWellFormed classes
loaded_formed files root main classes is =
    subst (AllByRecursion IsWellFormed) (sym is.all) (turns_formed is.turns (λ place turn at. turn_formed files root (take place is.turns) turn.entry turn.loads (is.each place turn at)))
