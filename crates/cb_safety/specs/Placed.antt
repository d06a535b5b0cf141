-- What a program has to say of the kinds of which the machine places objects itself: at which sites, and of how many words they are.
use Rattle.std.specs.Prelude.{◌≡◌, ◌<◌, ℕ, Bool, List, length}
use Rattle.cb_link.specs.Having.{site_kinds}
use Rattle.cb_link.specs.Program.{Linked}
use Rattle.cb_link.specs.Slots.{shape}
use Rattle.cb_machine.specs.Machine.{kind_of_site}
use Rattle.cb_plain.specs.declared.shape.Shape.TheVariants.{Fields}

-- each site of a kind is one of the program's
abbrev pub IsSited : Linked → ℕ → Type 0
IsSited program kind = (site : ℕ) → kind_of_site program site ≡ kind → site < length (site_kinds program)

-- an object of a kind, if it is one of a class, has so many words: one for each field (JVMS §2.4)
abbrev pub IsSized : Linked → ℕ → ℕ → Type 0
IsSized program kind count = (marks : List Bool) → shape program kind ≡ Fields marks → length marks ≡ count
