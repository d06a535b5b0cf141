-- The frame that a slot belongs to, found among those that stand on one another.
use Rattle.std.proofs.Common.{◌≡◌, ◌∙◌, sym, ap, subst, arith, ℕ, zero, suc, ◌+◌, ◌-◌, ◌<◌, ◌≤◌, List, [], ◌∷◌, length, get_or, drop, length-drop}
use Rattle.std.proofs.lemmas.List.{get_or-drop}
use Rattle.cb_frames.specs.declared.standing.Standing.{Standing}
use Rattle.cb_frames.specs.Inner.{AreStacked, used_to}
use Rattle.cb_frames.proofs.Laid.{used_below, used_here}

-- those that are lower begin lower
falls : (top : Standing) (list : List Standing) (i : ℕ) (item : Standing) → AreStacked top list → i < length list → (get_or (top ∷ list) i item).base ≤ top.base
falls top list zero item are there = omega arith
falls top [] (suc i) item are there = absurd (omega (arith, there))
falls top (below ∷ []) (suc i) item are there = absurd (omega (arith, there))
falls top (below ∷ (lower ∷ rest)) (suc i) item are there =
    let less : (get_or (below ∷ (lower ∷ rest)) i item).base ≤ below.base = falls below (lower ∷ rest) i item are.1 (omega (arith, there)) in
    omega (arith, less, are.0.begins, are.1.0.locals, are.1.0.stack, are.1.0.room)

-- the one above an item
above_item : (below : Standing) (list : List Standing) (i slot : ℕ) (item : Standing) → 0 < i → slot < (get_or (below ∷ list) i item).base → slot < (get_or list (i - 1) item).base
above_item below list zero slot item some under = absurd (omega (arith, some))
above_item below list (suc i) slot item some under =
    let same : i ≡ suc i - 1 = omega arith in
    subst (λ k. slot < (get_or list k item).base) same under

-- the first that begins at the slot or before it
used_found : (top : Standing) (list : List Standing) (i slot : ℕ) (item : Standing) → AreStacked top list → i < length list → slot < top.base
    → (i + 1 < length list → (get_or list i item).base ≤ slot) → (0 < i → slot < (get_or list (i - 1) item).base) → used_to top list slot ≡ (get_or list i item).next
used_found top [] i slot item are there low begins above = absurd (omega (arith, there))
used_found top (below ∷ []) zero slot item are there low begins above = used_below top below [] slot low ∙ sym are.1.0
used_found top (below ∷ []) (suc i) slot item are there low begins above = absurd (omega (arith, there))
used_found top (below ∷ (lower ∷ rest)) zero slot item are there low begins above =
    used_below top below (lower ∷ rest) slot low ∙ used_here below lower rest slot (begins (omega arith))
used_found top (below ∷ (lower ∷ rest)) (suc i) slot item are there low begins above =
    let same : suc i - 1 ≡ i = omega arith in
    let under : slot < (get_or (below ∷ (lower ∷ rest)) i item).base = subst (λ k. slot < (get_or (below ∷ (lower ∷ rest)) k item).base) same (above (omega arith)) in
    let less : (get_or (below ∷ (lower ∷ rest)) i item).base ≤ below.base = falls below (lower ∷ rest) i item are.1 (omega (arith, there)) in
    used_below top below (lower ∷ rest) slot low
    ∙ used_found below (lower ∷ rest) i slot item are.1 (omega (arith, there)) (omega (arith, under, less)) (λ more. begins (omega (arith, more)))
    (λ some. above_item below (lower ∷ rest) i slot item some under)

-- a slot of the topmost frame
pub found_here : (top : Standing) (list : List Standing) (slot : ℕ) → AreStacked top list → slot < top.end → top.base ≤ slot → used_to top list slot ≡ top.next
found_here top [] slot are there here = absurd (omega (arith, are.1, there))
found_here top (below ∷ rest) slot are there here = used_here top below rest slot here

-- a slot of one of those that are behind the free places
pub found : (top : Standing) (below : List Standing) (free at slot : ℕ) (item : Standing) → AreStacked top (drop free below) → free ≤ at → at < length below → slot < top.base
    → (at + 1 < length below → (get_or below at item).base ≤ slot) → (free < at → slot < (get_or below (at - 1) item).base)
    → used_to top (drop free below) slot ≡ (get_or below at item).next
found top below free at slot item are past there low begins above =
    let place : free + (at - free) ≡ at = omega arith in
    let one : get_or (drop free below) (at - free) item ≡ get_or below at item = get_or-drop free below (at - free) item ∙ ap (λ k. get_or below k item) place in
    used_found top (drop free below) (at - free) slot item are (omega (arith, length-drop free below)) low
    (λ more. omega (arith, ap (λ standing. standing.base) one, begins (omega (arith, more, length-drop free below))))
    (λ some.
    let before : free + (at - free - 1) ≡ at - 1 = omega arith in
    let other : get_or (drop free below) (at - free - 1) item ≡ get_or below (at - 1) item = get_or-drop free below (at - free - 1) item ∙ ap (λ k. get_or below k item) before in
    omega (arith, ap (λ standing. standing.base) other, above (omega arith)))
    ∙ ap (λ standing. standing.next) one
