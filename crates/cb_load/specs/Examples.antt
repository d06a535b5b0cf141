-- The closure of a small folder, written out.
use Rattle.std.specs.Prelude.{ℕ, Bool, true, false, List, [], ◌∷◌, Option, Some, None, codes}
use Rattle.cb_load.specs.Names.{Entry}
use Rattle.cb_load.specs.Closure.{Turn}

-- an entry, and a turn, of a name that is needed or not, where a class adds just the entries that stand for it
abbrev pub entry : List ℕ → Bool → Entry
entry name needed = record { name = name; needed = needed }

abbrev pub turn : Entry → Option (List Entry) → Turn (List Entry)
turn entry loads = record { entry = entry; loads = loads }

-- A mentions B and needs C; B mentions D, which has no file; C needs B and mentions A. So B is loaded when it is first
-- looked for, and looked for once more as needed, and A isn't looked for again
abbrev pub example : List (Turn (List Entry))
example =
    turn (entry (codes "A") true) (Some (entry (codes "B") false ∷ entry (codes "C") true ∷ []))
    ∷ turn (entry (codes "B") false) (Some (entry (codes "D") false ∷ []))
    ∷ turn (entry (codes "C") true) (Some (entry (codes "B") true ∷ entry (codes "A") false ∷ []))
    ∷ turn (entry (codes "D") false) None
    ∷ turn (entry (codes "B") true) None
    ∷ []
