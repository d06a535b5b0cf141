-- How many words of a part are reckoned to survive a collection: a guess from what was seen of the part, on which nothing rests but the choice
-- of what is collected.
use Rattle.std.specs.Prelude.{◌≡◌, ℕ, ◌+◌, ◌*◌, ◌/◌, ◌^◌, ◌≤◌, Bool, true, false, Option, Some, None, ◌==◌, if◌then◌else◌, min}
use Rattle.cb_plain.specs.declared.facts.Facts.{Facts}

-- the codes of the estimates: all survives; by age; a half
abbrev pub all_code : ℕ
all_code = 0

abbrev pub age_code : ℕ
age_code = 1

abbrev pub half_code : ℕ
half_code = 2

-- of eight words that survived once, so many are reckoned to survive again
abbrev pub steady_eighths : Bool → ℕ
steady_eighths true = 7
steady_eighths false = 4

-- of what survived once most or a half stays, by whether it is held; of what is fresh as much as stayed at the last collection. Each division is
-- rounded down by itself, and no more survives than there is
abbrev pub by_age : Facts → ℕ
by_age facts = min facts.used (facts.kept * steady_eighths facts.held / 8 + facts.fresh * facts.last_live / facts.last_used)

-- the estimate of a code, where it has one
abbrev pub survive : (code : ℕ) → Facts → Option ℕ
survive code facts =
    if code == all_code then Some facts.used else
    if code == age_code then Some (by_age facts) else
    if code == half_code then Some (facts.used / 2) else None

-- what holds of the facts of a part whenever survivors are reckoned
pub record AreFacts (facts : Facts) : Type 0 where
  pub sum : facts.kept + facts.fresh ≡ facts.used
  pub most : facts.used ≤ 2 ^ 28
  pub live : facts.last_live ≤ facts.last_used
  pub some : 1 ≤ facts.last_used
  pub last : facts.last_used ≤ 2 ^ 28
