-- Where room was made there are serials for what is placed.
use Rattle.std.proofs.Common.{◌≡◌, ℕ, ◌+◌, ◌/◌, ◌<◌, ◌≤◌, ◌^◌, arith, refl, subst, sym, Bool, true, false, List}
use Rattle.cb_heap.specs.Grants.{IsBounded, words_granted}
use Rattle.cb_plain.specs.declared.want.Want.{Want}
use Rattle.cb_act.specs.Turning.{most_at_once}

-- serials are left where a store is fixed
abbrev pub HasSerials : Bool → ℕ → Type 0
HasSerials fixed objects = fixed ≡ true → objects + most_at_once < 2 ^ 63

pub few_on : (fixed : Bool) (before after : ℕ) → after ≡ before → HasSerials fixed before → HasSerials fixed after
few_on fixed before after same few = subst (HasSerials fixed) (sym same) few

-- for all that was granted
pub serials_all : (fixed : Bool) (objects : ℕ) (wants : List Want) → HasSerials fixed objects → IsBounded fixed objects wants → objects + 1 + words_granted wants / 3 < 2 ^ 63
serials_all true objects wants few bounded = let own = few refl in let words = bounded.words refl in omega (arith, own, words)
serials_all false objects wants few bounded = bounded.serials refl

-- and for one object
pub serial_left : (fixed : Bool) (before after few : ℕ) (wants : List Want) → after ≡ before → 1 ≤ few → (fixed ≡ true → before + few < 2 ^ 63)
    → IsBounded fixed after wants → after + 1 < 2 ^ 63
serial_left true before after few wants same some low bounded = let own = low refl in omega (arith, same, some, own)
serial_left false before after few wants same some low bounded = let own = bounded.serials refl in omega (arith, own)
