-- Networks as they are kept.
use Rattle.std.specs.Prelude.{◌≡◌, ℕ, ℤ, Bool, List, length}
use Rattle.cb_plain.specs.Amounts.{Amounts}
use Rattle.cb_flow.specs.Networks.{AreGains, IsHeld}
use Rattle.cb_flow.specs.declared.visit.Visit.{Visit}

pub record IsNetwork (parts : ℕ) (edges : List (ℕ × ℕ)) (gains : List ℤ) (flow : Amounts) (visits : List Visit) (seen : List Bool) : Type 0 where
  pub are : AreGains parts gains
  pub held : IsHeld gains edges flow
  pub visit_each : length visits ≡ length gains
  pub seen_each : length seen ≡ length gains
