-- What is asked for at the machine's own sites is asked for at sites of a program.
use Rattle.std.proofs.Common.{arith, ℕ, ◌<◌, ◌≤◌, List, [], ◌∷◌}
use Rattle.std.specs.List.{AllByRecursion}
use Rattle.std.specs.Prelude.{OnOk}
use Rattle.std.specs.declared.result.Result.{Result}
use Rattle.std.specs.declared.result.Result.TheVariants.{Err, Ok}
use Rattle.cb_plain.specs.declared.want.Want.{Want}
use Rattle.cb_natives.specs.declared.answers.Exception.{Exception}

abbrev AreBelow : ℕ → List Want → Type 0
AreBelow count wants = AllByRecursion (λ (want : Want). want.site < count) wants

below : (count : ℕ) (wants : List Want) → 32 ≤ count → AreBelow 32 wants → AreBelow count wants
below count [] enough all = tt
below count (want ∷ wants) enough all = let low = all.0 in (omega (arith, low, enough), below count wants enough all.1)

pub sites_below : (count : ℕ) (wants : List Want) (result : Result (Unit {0}) Exception) → 32 ≤ count → OnOk result (AreBelow 32 wants) → OnOk result (AreBelow count wants)
sites_below count wants (Ok done) enough all = below count wants enough all
sites_below count wants (Err exception) enough all = tt
