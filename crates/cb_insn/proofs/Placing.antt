-- Places that rise, the search of one among them, and the walk over code.
use Rattle.std.proofs.Common.{◌≡◌, ◌≢◌, ℕ, zero, suc, ◌+◌, ◌<◌, ◌≤◌, ◌^◌, ◌↔◌, Bool, List, [], ◌∷◌, ◌++◌, length, map, refl, sym, ◌∙◌, ap, subst, arith, length-append, slice_index_or, Contains, ◌⊎◌, inl, inr, IsTrue}
use Rattle.std.specs.List.{AllByRecursion}
use Rattle.std.proofs.lemmas.List.{map-append}
use Rattle.std.proofs.lemmas.List.Elements.{Contains-append_left, Contains-append_right, Contains-append_cases}
use Rattle.cb_insn.specs.declared.insn.Insn.{Insn}
use Rattle.cb_insn.specs.declared.insn.Operand.{Operand}
use Rattle.cb_insn.specs.declared.insn.Operand.TheVariants.{Lookup}
use Rattle.cb_insn.specs.declared.insn.Pair.{Pair}
use Rattle.cb_insn.specs.Grammar.{SpellsInsn, SpellsFrom, SpellsCode, targets_of}
use Rattle.cb_insn.specs.Writing.{code_bytes, insn_bytes}
use Rattle.cb_insn.specs.Places.{HasPlace, Rise, places}
use Rattle.cb_insn.proofs.Written.{code_written, insn_some, insn_written}

-- an instruction has bytes, so places rise
pub rises : (pc : ℕ) (code : List (ℕ × Insn)) (bytes : List ℕ) → SpellsFrom pc code bytes → Rise (places code)
rises pc [] bytes is = tt
rises pc ((at, insn) ∷ []) bytes is = tt
rises pc ((at, insn) ∷ (next, other) ∷ code) bytes (first, rest, placed, spelled, is, from) =
    let some = insn_some pc insn first spelled in
    let place : next ≡ pc + length first = from.2 in
    (omega (arith, placed, some, place), rises (pc + length first) ((next, other) ∷ code) rest from)

rise_tail : (x : ℕ) (xs : List ℕ) → Rise (x ∷ xs) → Rise xs
rise_tail x [] rise = tt
rise_tail x (y ∷ ys) rise = rise.1

rise_left : (xs ys : List ℕ) → Rise (xs ++ ys) → Rise xs
rise_left [] ys rise = tt
rise_left (x ∷ []) ys rise = tt
rise_left (x ∷ y ∷ xs) ys (below, rise) = (below, rise_left (y ∷ xs) ys rise)

rise_right : (xs ys : List ℕ) → Rise (xs ++ ys) → Rise ys
rise_right [] ys rise = rise
rise_right (x ∷ xs) ys rise = rise_right xs ys (rise_tail x (xs ++ ys) rise)

-- what is among places that rise isn't below the first
above : (y : ℕ) (ys : List ℕ) (x k : ℕ) → Rise (y ∷ ys) → k < length (y ∷ ys) → slice_index_or (y ∷ ys) k x ≡ x → y ≤ x
above y ys x zero rise within is = omega (arith, is)
above y [] x (suc k) rise within is = absurd (omega (arith, within))
above y (z ∷ zs) x (suc k) (below, rise) within is = let rest = above z zs x k rise (omega (arith, within)) is in omega (arith, below, rest)

first_below : (x : ℕ) (xs : List ℕ) (y : ℕ) (ys : List ℕ) → Rise ((x ∷ xs) ++ y ∷ ys) → x < y
first_below x [] y ys rise = rise.0
first_below x (z ∷ zs) y ys (below, rise) = let rest = first_below z zs y ys rise in omega (arith, below, rest)

-- and is below what stands behind
under : (xs : List ℕ) (y : ℕ) (ys : List ℕ) (x k : ℕ) → Rise (xs ++ y ∷ ys) → k < length xs → slice_index_or xs k x ≡ x → x < y
under [] y ys x k rise within is = absurd (omega (arith, within))
under (z ∷ xs) y ys x zero rise within is = let below = first_below z xs y ys rise in omega (arith, is, below)
under (z ∷ xs) y ys x (suc k) rise within is = under xs y ys x k (rise_tail z (xs ++ y ∷ ys) rise) (omega (arith, within)) is

-- the place is among those of the code exactly if it is among these
abbrev pub Search : List (ℕ × Insn) → List (ℕ × Insn) → ℕ → Type 0
Search code rest pc = Rise (places rest) × (Contains (places code) pc ↔ Contains (places rest) pc)

split : (code low high : List (ℕ × Insn)) (y : ℕ × Insn) (pc : ℕ) → Search code (low ++ y ∷ high) pc → Rise (places low ++ y.0 ∷ places high) × (Contains (places code) pc ↔ (Contains (places low) pc ⊎ Contains (y.0 ∷ places high) pc))
split code low high y pc (rise, here) =
    let apart : places (low ++ y ∷ high) ≡ places low ++ y.0 ∷ places high = map-append (λ placed. placed.0) low (y ∷ high) in
    (subst Rise apart rise, (λ has. Contains-append_cases (places low) (y.0 ∷ places high) pc (subst (λ l. Contains l pc) apart (here.0 has)), λ has. here.1 (subst (λ l. Contains l pc) (sym apart) (either has))))
  where
    either : Contains (places low) pc ⊎ Contains (y.0 ∷ places high) pc → Contains (places low ++ y.0 ∷ places high) pc
    either (inl has) = Contains-append_left (places low) (y.0 ∷ places high) pc has
    either (inr has) = Contains-append_right (places low) (y.0 ∷ places high) pc has

search_low : (code low high : List (ℕ × Insn)) (y : ℕ × Insn) (pc : ℕ) → Search code (low ++ y ∷ high) pc → pc < y.0 → Search code low pc
search_low code low high y pc search below = (rise_left (places low) (y.0 ∷ places high) parts.0, (λ has. left (parts.1.0 has), λ has. parts.1.1 (inl has))) where
  parts : Rise (places low ++ y.0 ∷ places high) × (Contains (places code) pc ↔ (Contains (places low) pc ⊎ Contains (y.0 ∷ places high) pc))
  parts = split code low high y pc search

  left : Contains (places low) pc ⊎ Contains (y.0 ∷ places high) pc → Contains (places low) pc
  left (inl has) = has
  left (inr (k, within, is)) =
      let over = above y.0 (places high) pc k (rise_right (places low) (y.0 ∷ places high) parts.0) within is in
      absurd (omega (arith, below, over))

search_high : (code low high : List (ℕ × Insn)) (y : ℕ × Insn) (pc : ℕ) → Search code (low ++ y ∷ high) pc → y.0 ≤ pc → Search code (y ∷ high) pc
search_high code low high y pc search over = (rise_right (places low) (y.0 ∷ places high) parts.0, (λ has. right (parts.1.0 has), λ has. parts.1.1 (inr has))) where
  parts : Rise (places low ++ y.0 ∷ places high) × (Contains (places code) pc ↔ (Contains (places low) pc ⊎ Contains (y.0 ∷ places high) pc))
  parts = split code low high y pc search

  right : Contains (places low) pc ⊎ Contains (y.0 ∷ places high) pc → Contains (y.0 ∷ places high) pc
  right (inr has) = has
  right (inl (k, within, is)) =
      let below = under (places low) y.0 (places high) pc k parts.0 within is in
      absurd (omega (arith, below, over))

-- and in two halves
pub search_front : (code rest low high : List (ℕ × Insn)) (first : ℕ × Insn) (pc : ℕ) → Search code rest pc → rest ≡ low ++ high → 0 < length high → pc < (slice_index_or high 0 first).0 → Search code low pc
search_front code rest low [] first pc search is some below = absurd (omega (arith, some))
search_front code rest low (y ∷ high) first pc search is some below = search_low code low high y pc (subst (λ l. Search code l pc) is search) below

pub search_back : (code rest low high : List (ℕ × Insn)) (first : ℕ × Insn) (pc : ℕ) → Search code rest pc → rest ≡ low ++ high → 0 < length high → (slice_index_or high 0 first).0 ≤ pc → Search code high pc
search_back code rest low [] first pc search is some over = absurd (omega (arith, some))
search_back code rest low (y ∷ high) first pc search is some over = search_high code low high y pc (subst (λ l. Search code l pc) is search) over

-- each target is the place of an instruction
abbrev pub Reached : List (ℕ × Insn) → Type 0
Reached code = AllByRecursion (λ placed. AllByRecursion (HasPlace code) (targets_of placed.1.operand)) code

unfolds : (code : List (ℕ × Insn)) → Reached code ↔ AllByRecursion (λ placed. AllByRecursion (Contains (places code)) (targets_of placed.1.operand)) code
unfolding HasPlace
unfolds code = (λ reached. reached, λ reached. reached)

pub fit : (code : List (ℕ × Insn)) (size : ℕ) → (bytes : List ℕ) × SpellsFrom 0 code bytes × (length bytes < 2 ^ 32) × (size ≡ length bytes) → Reached code → SpellsCode code (code_bytes code) × (size ≡ length (code_bytes code))
fit code size (bytes, spelled, short, long) reached =
    let parts = code_written code bytes (record { spelled = spelled; short = short; reached = (unfolds code).0 reached }) in
    (parts.0, long ∙ parts.1)

pub reach : (code : List (ℕ × Insn)) (bytes : List ℕ) → SpellsCode code bytes → Reached code
reach code bytes spells = (unfolds code).1 spells.reached

-- the code from a place on is spelled exactly if the whole is
pub record Walked (code : List (ℕ × Insn)) (pc : ℕ) (rest : List (ℕ × Insn)) : Type 0 where
  pub whole : (tail : List ℕ) → SpellsFrom pc rest tail → (bytes : List ℕ) × SpellsFrom 0 code bytes × (length bytes ≡ pc + length tail)
  pub part : (bytes : List ℕ) → SpellsFrom 0 code bytes → (tail : List ℕ) × SpellsFrom pc rest tail × (length bytes ≡ pc + length tail)

pub walked_start : (code : List (ℕ × Insn)) → Walked code 0 code
walked_start code = record { whole = λ tail spelled. (tail, spelled, omega arith); part = λ bytes spelled. (bytes, spelled, omega arith) }

pub walked_end : (code : List (ℕ × Insn)) (pc : ℕ) → Walked code pc [] → (bytes : List ℕ) × SpellsFrom 0 code bytes × (length bytes ≡ pc)
walked_end code pc walked = let found = walked.whole [] refl in (found.0, found.1, omega (arith, found.2))

pub walked_long : (code : List (ℕ × Insn)) (pc : ℕ) → Walked code pc [] → (bytes : List ℕ) → SpellsFrom 0 code bytes → length bytes ≡ pc
walked_long code pc walked bytes spelled = let found = walked.part bytes spelled in omega (arith, found.2, ap length found.1)

pub walked_more : (code : List (ℕ × Insn)) (pc size : ℕ) (insn : Insn) (rest : List (ℕ × Insn)) → Walked code pc ((pc, insn) ∷ rest) → SpellsInsn pc insn (insn_bytes pc insn) → size ≡ length (insn_bytes pc insn) → Walked code (pc + size) rest
walked_more code pc size insn rest walked spelled is = record {
  whole = λ tail from.
      let found = walked.whole (insn_bytes pc insn ++ tail) (insn_bytes pc insn, tail, refl, spelled, refl, subst (λ n. SpellsFrom (pc + n) rest tail) is from) in
      (found.0, found.1, omega (arith, found.2, is, length-append (insn_bytes pc insn) tail));
  part = λ bytes from. taken bytes (walked.part bytes from);
} where
  taken : (bytes : List ℕ) → (tail : List ℕ) × SpellsFrom pc ((pc, insn) ∷ rest) tail × (length bytes ≡ pc + length tail) → (tail : List ℕ) × SpellsFrom (pc + size) rest tail × (length bytes ≡ (pc + size) + length tail)
  taken bytes (tail, (first, others, placed, read, apart, from), long) =
      let same : length first ≡ size = (insn_written pc insn first read).1 ∙ sym is in
      (others, subst (λ n. SpellsFrom (pc + n) rest others) same from, omega (arith, long, ap length apart, same, length-append first others))

pub walked_next : (code : List (ℕ × Insn)) (pc size : ℕ) (placed : ℕ × Insn) (rest whole : List (ℕ × Insn)) → Walked code pc whole → whole ≡ placed ∷ rest → placed.0 ≡ pc → SpellsInsn placed.0 placed.1 (insn_bytes placed.0 placed.1) → size ≡ length (insn_bytes placed.0 placed.1) → Walked code (pc + size) rest
walked_next code pc size (at, insn) rest whole walked is here spelled size_is =
    walked_more code pc size insn rest (subst (Walked code pc) (is ∙ ap (λ p. (p, insn) ∷ rest) here) walked) (subst (λ p. SpellsInsn p insn (insn_bytes p insn)) here spelled) (size_is ∙ ap (λ p. length (insn_bytes p insn)) here)

-- an instruction that no bytes spell leaves none for the code
pub walked_stuck : (code : List (ℕ × Insn)) (pc : ℕ) (placed : ℕ × Insn) (rest whole : List (ℕ × Insn)) → Walked code pc whole → whole ≡ placed ∷ rest → ((bytes : List ℕ) → SpellsInsn placed.0 placed.1 bytes → ⊥) → (bytes : List ℕ) → SpellsFrom 0 code bytes → ⊥
walked_stuck code pc (at, insn) rest whole walked is none bytes spelled =
    let found = walked.part bytes spelled in
    let (first, others, here, spells, apart, from) = subst (λ w. SpellsFrom pc w found.0) is found.1 in
    none first (subst (λ p. SpellsInsn p insn first) (sym here) spells)

-- nor does one at another place
pub walked_off : (code : List (ℕ × Insn)) (pc : ℕ) (placed : ℕ × Insn) (rest whole : List (ℕ × Insn)) → Walked code pc whole → whole ≡ placed ∷ rest → placed.0 ≢ pc → (bytes : List ℕ) → SpellsFrom 0 code bytes → ⊥
walked_off code pc (at, insn) rest whole walked is off bytes spelled =
    let found = walked.part bytes spelled in
    let (first, others, here, spells, apart, from) = subst (λ w. SpellsFrom pc w found.0) is found.1 in
    off here

-- at the end the whole code is spelled, in so many bytes
pub walked_found : (code : List (ℕ × Insn)) (pc : ℕ) (rest : List (ℕ × Insn)) → Walked code pc rest → length rest ≡ 0 → (bytes : List ℕ) × SpellsFrom 0 code bytes × (length bytes ≡ pc)
walked_found code pc (placed ∷ rest) walked none = absurd (omega (arith, none))
walked_found code pc [] walked none = walked_end code pc walked

pub walked_size : (code : List (ℕ × Insn)) (pc : ℕ) (rest : List (ℕ × Insn)) → Walked code pc rest → length rest ≡ 0 → (bytes : List ℕ) → SpellsFrom 0 code bytes → length bytes ≡ pc
walked_size code pc (placed ∷ rest) walked none bytes spelled = absurd (omega (arith, none))
walked_size code pc [] walked none bytes spelled = walked_long code pc walked bytes spelled

-- the targets of pairs
pub led : (code : List (ℕ × Insn)) (pairs : List Pair) → AllByRecursion (λ pair. HasPlace code pair.target) pairs ↔ AllByRecursion (HasPlace code) (map (λ pair. pair.target) pairs)
led code [] = (λ all. all, λ all. all)
led code (pair ∷ pairs) = let rest = led code pairs in (λ all. (all.0, rest.0 all.1), λ all. (all.0, rest.1 all.1))

pub looked_up : (code : List (ℕ × Insn)) (operand : Operand) (default : ℕ) (pairs read : List Pair) (reached : Bool) → operand ≡ Lookup default pairs → read ≡ pairs → HasPlace code default → IsTrue reached ↔ AllByRecursion (λ pair. HasPlace code pair.target) read → IsTrue reached ↔ AllByRecursion (HasPlace code) (targets_of operand)
looked_up code operand default pairs read reached is same has told = subst (λ o. IsTrue reached ↔ AllByRecursion (HasPlace code) (targets_of o)) (sym is) (λ yes. (has, (led code pairs).0 (subst All same (told.0 yes))), λ all. told.1 (subst All (sym same) ((led code pairs).1 all.1))) where
  All : List Pair → Type 0
  All pairs = AllByRecursion (λ pair. HasPlace code pair.target) pairs
