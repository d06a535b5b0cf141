-- Lists that are made of rows, one item after the other, while the pool grows.
use Rattle.std.proofs.Common.{◌≡◌, ◌∙◌, ap, sym, subst, arith, ℕ, zero, suc, ◌+◌, ◌*◌, ◌<◌, ◌≤◌, List, [], ◌∷◌, ◌++◌, length, map, take, drop, get_or}
use Rattle.std.specs.List.{AllByRecursion, AllZip, sum}
use Rattle.std.proofs.lemmas.List.Sums.{sum_by-append, sum_by-cons}
use Rattle.std.proofs.lemmas.List.{length-take-le, map-append, take-append-drop, take_more}
use Rattle.cb_text.specs.declared.constant.Constant.{Constant}
use Rattle.cb_core.specs.Built.{Grows}
use Rattle.cb_core.specs.Entered.{HasRoom, Puts}
use Rattle.cb_core.proofs.Zipped.{take_past, zip_all, zip_each, zip_more}
use Rattle.cb_core.proofs.Growing.{Keeps, grows_both, grows_none, grows_within, keeps_of}

-- what is said of items that were made of rows, each with room for so many constants
pub record Gathers {Row Named Thing : Type 0} (row_of : Row → Named) (room : Named → ℕ) (Says : List Constant → Named → Thing → Type 0) (rows : List Row) (before after : List Constant) (things : List Thing) : Type 0 where
  pub grows : Grows (sum (map room (map row_of rows))) before after
  pub says : AllZip (Says after) (map row_of rows) things

-- what is said stays true while the pool grows
pub record Stays {Named Thing : Type 0} (Says : List Constant → Named → Thing → Type 0) : Type 0 where
  pub kept : (before after : List Constant) (named : Named) (thing : Thing) → Keeps before after → Says before named thing → Says after named thing

sum_both : (one other : List ℕ) → sum (one ++ other) ≡ sum one + sum other
sum_both one other = sum_by-append (λ room. room) one other

rooms_both : {Row Named : Type 0} (row_of : Row → Named) (room : Named → ℕ) (one other : List Row) → sum (map room (map row_of (one ++ other))) ≡ sum (map room (map row_of one)) + sum (map room (map row_of other))
rooms_both row_of room one other =
    ap (λ rows. sum (map room rows)) (map-append row_of one other)
    ∙ ap sum (map-append room (map row_of one) (map row_of other))
    ∙ sum_both (map room (map row_of one)) (map room (map row_of other))

rooms_more : {Row Named : Type 0} (row_of : Row → Named) (room : Named → ℕ) (rows : List Row) (i : ℕ) (d : Row) → i < length rows
    → sum (map room (map row_of (take (i + 1) rows))) ≡ sum (map room (map row_of (take i rows))) + room (row_of (get_or rows i d))
rooms_more row_of room rows i d below =
    let more : sum (map room (map row_of (take (i + 1) rows))) ≡ sum (map room (map row_of (take i rows))) + sum (map room (map row_of (get_or rows i d ∷ []))) =
    ap (λ rows. sum (map room (map row_of rows))) (take_more rows i d below) ∙ rooms_both row_of room (take i rows) (get_or rows i d ∷ []) in
    omega (arith, more, sum_by-cons (λ room. room) (room (row_of (get_or rows i d))) [])

-- what is asked of each row is had at its turn
pub sound_turn : {Row Named : Type 0} (row_of : Row → Named) (P : Named → Type 0) (rows : List Row) (i : ℕ) (d : Row) → i < length rows → AllByRecursion P (map row_of rows) → P (row_of (get_or rows i d))
sound_turn row_of P [] i d below all = absurd (omega arith)
sound_turn row_of P (row ∷ rows) zero d below all = all.0
sound_turn row_of P (row ∷ rows) (suc i) d below all = sound_turn row_of P rows i d (omega arith) all.1

-- and there is room for it
rooms_turn : {Row Named : Type 0} (row_of : Row → Named) (room : Named → ℕ) (rows : List Row) (i : ℕ) (d : Row) → i < length rows
    → sum (map room (map row_of (take i rows))) + room (row_of (get_or rows i d)) ≤ sum (map room (map row_of rows))
rooms_turn row_of room rows i d below =
    let whole : sum (map room (map row_of rows)) ≡ sum (map room (map row_of (take (i + 1) rows))) + sum (map room (map row_of (drop (i + 1) rows))) =
    ap (λ rows. sum (map room (map row_of rows))) (sym (take-append-drop (i + 1) rows)) ∙ rooms_both row_of room (take (i + 1) rows) (drop (i + 1) rows) in
    omega (arith, whole, rooms_more row_of room rows i d below)

pub room_turn : {Row Named Thing : Type 0} (row_of : Row → Named) (room : Named → ℕ) (Says : List Constant → Named → Thing → Type 0) (rows : List Row) (i : ℕ) (d : Row) (before after : List Constant) (things : List Thing)
    → i < length rows → HasRoom (sum (map room (map row_of rows))) before → Gathers row_of room Says (take i rows) before after things → HasRoom (room (row_of (get_or rows i d))) after
room_turn row_of room Says rows i d before after things below has so_far = omega (arith, rooms_turn row_of room rows i d below, so_far.grows.few, has)

-- no item, one more, and all
pub gathers_none : {Row Named Thing : Type 0} (row_of : Row → Named) (room : Named → ℕ) (Says : List Constant → Named → Thing → Type 0) (pool : List Constant) → Gathers row_of room Says [] pool pool []
gathers_none row_of room Says pool = record { grows = grows_none pool; says = tt }

pub gathers_turn : {Row Named Thing : Type 0} (row_of : Row → Named) (room : Named → ℕ) (Says : List Constant → Named → Thing → Type 0) (rows : List Row) (i : ℕ) (d : Row) (before middle after : List Constant) (things more : List Thing) (thing : Thing)
    → Stays Says → i < length rows → more ≡ things ++ thing ∷ [] → Gathers row_of room Says (take i rows) before middle things → Puts (room (row_of (get_or rows i d))) (λ pool thing. Says pool (row_of (get_or rows i d)) thing) middle after thing
    → Gathers row_of room Says (take (i + 1) rows) before after more
gathers_turn row_of room Says rows i d before middle after things more thing stays below pushed so_far here =
    let kept = zip_each (Says middle) (Says after) (λ named one said. stays.kept middle after named one (keeps_of here.grows) said) (map row_of (take i rows)) things so_far.says in
    let says = zip_more row_of (Says after) rows things i d thing below kept here.says in
    record {
      grows = grows_within (grows_both so_far.grows here.grows) (omega (arith, rooms_more row_of room rows i d below));
      says = subst (AllZip (Says after) (map row_of (take (i + 1) rows))) (sym pushed) says;
    }

pub gathers_all : {Row Named Thing : Type 0} (row_of : Row → Named) (room : Named → ℕ) (Says : List Constant → Named → Thing → Type 0) (rows : List Row) (i : ℕ) (before after : List Constant) (things : List Thing)
    → length rows ≤ i → Gathers row_of room Says (take i rows) before after things → Puts (sum (map room (map row_of rows))) (λ pool things. AllZip (Says pool) (map row_of rows) things) before after things
gathers_all row_of room Says rows i before after things past so_far =
    let grows = subst (λ rows. Grows (sum (map room (map row_of rows))) before after) (take_past rows i past) so_far.grows in
    record { grows = grows; says = zip_all row_of (Says after) rows things i past so_far.says }

-- the same where each row has the same room
room_each : {Row Named : Type 0} (row_of : Row → Named) (each : ℕ) (rows : List Row) → sum (map (λ row. each) (map row_of rows)) ≡ each * length rows
room_each row_of each [] = omega arith
room_each row_of each (row ∷ rows) = omega (arith, room_each row_of each rows, sum_by-cons (λ room. room) each (map (λ row. each) (map row_of rows)))

each_left : (i count each : ℕ) → i < count → each * i + each ≤ each * count
each_left i count each below = grind arith

pub each_turn : {Row Named Thing : Type 0} (row_of : Row → Named) (each : ℕ) (Says : List Constant → Named → Thing → Type 0) (rows : List Row) (i : ℕ) (before after : List Constant) (things : List Thing)
    → i < length rows → HasRoom (each * length rows) before → Gathers row_of (λ row. each) Says (take i rows) before after things → HasRoom each after
each_turn row_of each Says rows i before after things below has so_far =
    omega (arith, so_far.grows.few, has, room_each row_of each (take i rows), ap (λ count. each * count) (length-take-le i rows (omega (arith, below))), each_left i (length rows) each below)

pub each_all : {Row Named Thing : Type 0} (row_of : Row → Named) (each : ℕ) (Says : List Constant → Named → Thing → Type 0) (rows : List Row) (i : ℕ) (before after : List Constant) (things : List Thing)
    → length rows ≤ i → Gathers row_of (λ row. each) Says (take i rows) before after things → Puts (each * length rows) (λ pool things. AllZip (Says pool) (map row_of rows) things) before after things
each_all row_of each Says rows i before after things past so_far =
    let all = gathers_all row_of (λ row. each) Says rows i before after things past so_far in
    record { grows = subst (λ room. Grows room before after) (room_each row_of each rows) all.grows; says = all.says }
