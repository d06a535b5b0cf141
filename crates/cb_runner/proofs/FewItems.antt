-- Lists of a few items.
use Rattle.std.proofs.Common.{◌≡◌, ◌≤◌, List, [], ◌∷◌, length, drop, get_or, arith}

pub one : {X : Type 0} (items : List X) (first : X) → length items ≡ 1 → first ≡ get_or items 0 first → items ≡ first ∷ []
one [] first size a = absurd (omega arith)
one (x ∷ []) first size a = cc
one (x ∷ y ∷ items) first size a = absurd (omega arith)

pub two : {X : Type 0} (items : List X) (first second : X) → length items ≡ 2 → first ≡ get_or items 0 first → second ≡ get_or items 1 second → items ≡ first ∷ second ∷ []
two [] first second size a b = absurd (omega arith)
two (x ∷ []) first second size a b = absurd (omega arith)
two (x ∷ y ∷ []) first second size a b = cc
two (x ∷ y ∷ z ∷ items) first second size a b = absurd (omega arith)

pub three : {X : Type 0} (items : List X) (first second third : X) → length items ≡ 3 → first ≡ get_or items 0 first → second ≡ get_or items 1 second → third ≡ get_or items 2 third → items ≡ first ∷ second ∷ third ∷ []
three [] first second third size a b c = absurd (omega arith)
three (x ∷ []) first second third size a b c = absurd (omega arith)
three (x ∷ y ∷ []) first second third size a b c = absurd (omega arith)
three (x ∷ y ∷ z ∷ []) first second third size a b c = cc
three (x ∷ y ∷ z ∷ u ∷ items) first second third size a b c = absurd (omega arith)

-- or of more
pub from_one : {X : Type 0} (items : List X) (first : X) → 1 ≤ length items → first ≡ get_or items 0 first → items ≡ first ∷ drop 1 items
from_one [] first size a = absurd (omega (arith, size))
from_one (x ∷ items) first size a = cc

pub from_two : {X : Type 0} (items : List X) (first second : X) → 2 ≤ length items → first ≡ get_or items 0 first → second ≡ get_or items 1 second → items ≡ first ∷ second ∷ drop 2 items
from_two [] first second size a b = absurd (omega (arith, size))
from_two (x ∷ []) first second size a b = absurd (omega (arith, size))
from_two (x ∷ y ∷ items) first second size a b = cc

-- the items of lists that are the same
pub heads : {X : Type 0} {one other : X} {items others : List X} → one ∷ items ≡ other ∷ others → one ≡ other
heads same = cc

pub tails : {X : Type 0} {one other : X} {items others : List X} → one ∷ items ≡ other ∷ others → items ≡ others
tails same = cc
