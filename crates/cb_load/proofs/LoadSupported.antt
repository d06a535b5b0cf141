-- The machine leaves nothing out of a class that is loaded.
use Rattle.std.proofs.Common.{◌≡◌, refl, sym, subst, ℕ, suc, List, [], ◌∷◌, take, Option, Some, None, IfSome}
use Rattle.std.specs.Prelude.{slice_get}
use Rattle.std.specs.List.{AllByRecursion}
use Rattle.cb_io.specs.Folder.{Files}
use Rattle.cb_classfile.specs.Profile.{unsupported}
use Rattle.cb_classfile.specs.declared.class.ClassFile.{ClassFile}
use Rattle.cb_load.specs.Closure.{Turn}
use Rattle.cb_load.specs.Loading.{AreLoaded, IsRead, IsThere, Loads, StaysOpaque, loaded}
use Rattle.cb_load.specs.Names.{Entry}

abbrev IsSupported : ClassFile → Type 0
IsSupported class = unsupported class ≡ None

turn_supported : (files : Option Files) (root : List ℕ) (before : List (Turn ClassFile)) (entry : Entry) (loads : Option ClassFile) → Loads files root before entry loads → IfSome loads IsSupported
turn_supported files root before entry loads (IsThere there) = tt
turn_supported files root before entry loads (StaysOpaque new may unneeded) = tt
turn_supported files root before entry loads (IsRead bytes class new may room of) = of.whole

turns_supported : (turns : List (Turn ClassFile)) → ((place : ℕ) (turn : Turn ClassFile) → slice_get turns place ≡ Some turn → IfSome turn.loads IsSupported) → AllByRecursion IsSupported (loaded turns)
turns_supported [] each = tt
turns_supported (turn ∷ turns) each = here turn.entry turn.loads (each 0 turn refl) (turns_supported turns (λ place. each (suc place))) where
  here : (entry : Entry) (loads : Option ClassFile) → IfSome loads IsSupported → AllByRecursion IsSupported (loaded turns) → AllByRecursion IsSupported (loaded (record { entry = entry; loads = loads } ∷ turns))
  here entry None supported rest = rest
  here entry (Some class) supported rest = (supported, rest)

pub loaded_supported : (files : Option Files) (root main : List ℕ) (classes : List ClassFile) → AreLoaded files root main classes → AllByRecursion (λ class. unsupported class ≡ None) classes
loaded_supported files root main classes is =
    subst (AllByRecursion IsSupported) (sym is.all) (turns_supported is.turns (λ place turn at. turn_supported files root (take place is.turns) turn.entry turn.loads (is.each place turn at)))
