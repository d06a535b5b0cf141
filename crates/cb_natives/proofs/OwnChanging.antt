-- The room that is asked for, and taken.
use Rattle.std.proofs.Common.{◌≡◌, ◌∙◌, ap, arith, refl, ℕ, pos, ◌+◌, ◌-◌, ◌<◌, ◌≤◌, ◌^◌, cond, List, [], ◌∷◌, length, min, replicate, ◌++◌}
use Rattle.std.proofs.lemmas.List.{length-append, length-map, length-replicate}
use Rattle.cb_plain.specs.Requests.{add_want, most_words, words_at}
use Rattle.cb_plain.specs.State.{Number, words_of}
use Rattle.cb_plain.specs.declared.want.Want.{Want}
use Rattle.cb_natives.specs.MakingOwn.{roomy}
use Rattle.cb_natives.proofs.UnitLaws.{eq_true}

-- ---- room

pub roomy_size : (units : List ℕ) (room : ℕ) → length units ≤ room → length (roomy units room) ≡ room
roomy_size units room fits =
    length-map (units ++ replicate (room - length units) 0) (λ (unit : ℕ). Number (pos unit))
    ∙ length-append units (replicate (room - length units) 0)
    ∙ ap (λ (more : ℕ). length units + more) (length-replicate (room - length units) 0)
    ∙ omega (arith, fits)

most_room : (size : ℕ) → size < 2 ^ 31 → min (words_of size) most_words ≡ words_of size
most_room size few = omega (arith, few)

asked_words : (site words : ℕ) → words_at (record { site = site; words = words } ∷ []) site ≡ words
asked_words site words = ap (λ same. cond same words 0) (eq_true site site refl)

pub room_asked : (granted : List Want) (site size : ℕ) → size < 2 ^ 31 → granted ≡ add_want [] (record { site = site; words = words_of size })
    → words_of size ≤ words_at granted site
room_asked granted site size few is =
    let words : words_at granted site ≡ words_of size =
    ap (λ (granted : List Want). words_at granted site) is ∙ asked_words site (min (words_of size) most_words) ∙ most_room size few in
    omega (arith, words)
