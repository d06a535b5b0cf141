-- Objects that are found by a test that only they pass.
use Rattle.std.proofs.Common.{◌≡◌, ◌∙◌, ℕ, zero, suc, ◌^◌, ◌<◌, ◌==◌, ◌&&◌, Bool, true, Option, Some, None, length, take, refl, sym, ap, arith, subst, inl, inr}
use Rattle.std.proofs.lemmas.Bool.{and_from, and_parts, cases_eq, cond-true, eq-eqb, eqb-true}
use Rattle.std.proofs.lemmas.Nat.{same_from_place}
use Rattle.std.proofs.lemmas.Option.{cond_some, none-some}
use Rattle.cb_blocks.specs.Parted.{IsParted, Parted, index_of}
use Rattle.cb_blocks.specs.Rows.{row}
use Rattle.cb_blocks.proofs.Laws.{index_apart, index_below}
use Rattle.cb_partheap.specs.Spots.{IsSpot, Spot, first_below, if_passes, place_of, spot_in, spot_where, words_by}
use Rattle.cb_partheap.specs.Words.{is_whole_to, missing}

-- what is found below a number is found somewhere there
abbrev Hit : {X : Type 0} → ℕ → (ℕ → Option X) → X → Type 0
Hit count find x = (k : ℕ) × (k < count) × (find k ≡ Some x)

hit_more : {X : Type 0} (count : ℕ) (find : ℕ → Option X) (x : X) (before : Option X) → first_below count find ≡ before → (before ≡ Some x → Hit count find x) → first_below (suc count) find ≡ Some x →
    Hit (suc count) find x
hit_more {X} count find x None is behind found = (count, omega arith, rw is at found)
hit_more {X} count find x (Some y) is behind found = let h = behind (rw is at found) in (h.0, omega (arith, h.1), h.2)

hit : {X : Type 0} (count : ℕ) (find : ℕ → Option X) (x : X) → first_below count find ≡ Some x → Hit count find x
hit {X} zero find x found = absurd (none-some x found)
hit {X} (suc count) find x found = hit_more count find x (first_below count find) refl (hit count find x) found

-- where nothing is found there is nothing
missed_more : {X : Type 0} (count : ℕ) (find : ℕ → Option X) (before : Option X) → first_below count find ≡ before → (before ≡ None → (k : ℕ) → k < count → find k ≡ None) → first_below (suc count) find ≡ None →
    (k : ℕ) → k < suc count → find k ≡ None
missed_more {X} count find None is behind found k below =
    elim (cases_eq k count) [
      | inl same ↦ ap find same ∙ rw is at found
      | inr differs ↦ behind refl k (omega arith)
    ]
missed_more {X} count find (Some y) is behind found k below = absurd (none-some y (sym (rw is at found)))

missed : {X : Type 0} (count : ℕ) (find : ℕ → Option X) → first_below count find ≡ None → (k : ℕ) → k < count → find k ≡ None
missed {X} zero find found k below = absurd (omega (arith, below))
missed {X} (suc count) find found k below = missed_more count find (first_below count find) refl (missed count find) found k below

-- an object that is found passes the test
pub spot_sound : (parts : Parted) (test : Spot → Bool) (spot : Spot) → spot_where parts test ≡ Some spot → IsSpot parts spot × (test spot ≡ true)
unfolding spot_where
spot_sound parts test spot found =
    let by_part = hit (length parts.words) (spot_in parts test) spot found in
    let by_start = hit (length (row parts.words by_part.0)) (λ start. if_passes parts test (record { part = by_part.0; start = start })) spot by_part.2 in
    let here : Spot = record { part = by_part.0; start = by_start.0 } in
    let passes = cond_some (is_whole_to (words_by parts here) here.start && test here) here spot by_start.2 in
    let both = and_parts (is_whole_to (words_by parts here) here.start) (test here) passes.0 in
    let good : IsSpot parts here × (test here ≡ true) = (record { part = by_part.1; inside = by_start.1; whole = eqb-true (missing 0 (take here.start (words_by parts here))) 0 both.0 }, both.1) in
    subst (λ (s : Spot). IsSpot parts s × (test s ≡ true)) passes.1 good

-- where none is found no object passes
pub spot_none : (parts : Parted) (test : Spot → Bool) (spot : Spot) → spot_where parts test ≡ None → IsSpot parts spot → test spot ≡ true → ⊥
unfolding spot_where
spot_none parts test spot found is passes =
    let by_part = missed (length parts.words) (spot_in parts test) found spot.part is.part in
    let by_start = missed (length (words_by parts spot)) (λ start. if_passes parts test (record { part = spot.part; start = start })) by_part spot.start is.inside in
    none-some spot (sym by_start ∙ cond-true (is_whole_to (words_by parts spot) spot.start && test spot) (Some spot) None (and_from (is_whole_to (words_by parts spot) spot.start) (test spot) (eq-eqb (missing 0 (take spot.start (words_by parts spot))) 0 is.whole) passes))

-- the one object that passes is found
found_if : (parts : Parted) (test : Spot → Bool) (spot : Spot) (found : Option Spot) → spot_where parts test ≡ found → IsSpot parts spot → test spot ≡ true → ((other : Spot) → IsSpot parts other → test other ≡ true → other ≡ spot) →
    spot_where parts test ≡ Some spot
found_if parts test spot None is here passes only = absurd (spot_none parts test spot is here passes)
found_if parts test spot (Some other) is here passes only = let sound = spot_sound parts test other is in is ∙ ap Some (only other sound.0 sound.1)

pub spot_found : (parts : Parted) (test : Spot → Bool) (spot : Spot) → IsSpot parts spot → test spot ≡ true → ((other : Spot) → IsSpot parts other → test other ≡ true → other ≡ spot) → spot_where parts test ≡ Some spot
spot_found parts test spot here passes only = found_if parts test spot (spot_where parts test) refl here passes only

-- no two objects lie at one place
pub same_spot : (one other : Spot) → one.part ≡ other.part → one.start ≡ other.start → one ≡ other
same_spot one other part start = ap (λ p. let s : Spot = record { part = p; start = one.start } in s) part ∙ ap (λ n. let s : Spot = record { part = other.part; start = n } in s) start

pub place_apart : (parts : Parted) (one other : Spot) → IsParted parts → IsSpot parts one → IsSpot parts other → place_of parts one ≡ place_of parts other → one ≡ other
place_apart parts one other is here there same =
    let low = index_below parts one.part one.start is here.part here.inside in
    let low' = index_below parts other.part other.start is there.part there.inside in
    let both = same_from_place one.part (index_of parts one.part one.start) other.part (index_of parts other.part other.start) (2 ^ 29) (omega (arith, low, is.bound)) (omega (arith, low', is.bound)) (omega (arith, same)) in
    let spots = index_apart parts one.part other.part one.start other.start is here.part there.part here.inside there.inside both.1 in
    same_spot one other spots.0 spots.1

pub place_found : (parts : Parted) (spot : Spot) → IsParted parts → IsSpot parts spot → spot_where parts (λ other. place_of parts other == place_of parts spot) ≡ Some spot
place_found parts spot is here =
    spot_found parts (λ other. place_of parts other == place_of parts spot) spot here (eq-eqb (place_of parts spot) (place_of parts spot) refl)
    (λ other there same. place_apart parts other spot is there here (eqb-true (place_of parts other) (place_of parts spot) same))
