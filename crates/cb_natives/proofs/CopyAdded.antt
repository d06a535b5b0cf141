-- The room that a copy takes, and an object that refers to one that was placed behind it.
use Rattle.std.proofs.Common.{◌≡◌, ◌∙◌, ap, arith, cond, min, refl, subst, sym, ℕ, ◌+◌, ◌<◌, ◌≤◌, ◌^◌, Bool, true, List, [], ◌∷◌, ◌++◌, Option, Some, IsTrue, length, slice_set}
use Rattle.std.proofs.lemmas.Option.{same_Some}
use Rattle.std.specs.List.{Contains}
use Rattle.cb_heap.proofs.Laws.{placed_there, there_before}
use Rattle.cb_heap.specs.Follows.{Follows}
use Rattle.cb_heap.specs.Kept.{content_at, contents_at, is_held, is_kept, is_reference, with_content}
use Rattle.cb_heap.specs.Store.{may_point}
use Rattle.cb_plain.specs.State.{Object, Reference, words_of}
use Rattle.cb_plain.specs.Updates.{object_in}
use Rattle.cb_plain.specs.Requests.{add_want, most_words, words_at}
use Rattle.cb_plain.specs.declared.want.Want.{Want}
use Rattle.cb_natives.specs.Following.{FollowsFrom}
use Rattle.cb_natives.proofs.CopiesClosed.{with_length}
use Rattle.cb_natives.proofs.FollowLaws.{follows_one, follows_so, may_alike, put_may, site_same}
use Rattle.cb_natives.proofs.OwnLaws.{content_behind, held_so, last_kept, reference_kept, there_kept, word_before}
use Rattle.cb_natives.proofs.UnitLaws.{eq_true}

-- ---- room

pub room_wanted : (granted : List Want) (site size : ℕ) → size < 2 ^ 32 → granted ≡ add_want [] (record { site = site; words = words_of size })
    → words_of size ≤ words_at granted site
room_wanted granted site size few is =
    let most : min (words_of size) most_words ≡ words_of size = omega (arith, few) in
    let words : words_at granted site ≡ words_of size =
    ap (λ (granted : List Want). words_at granted site) is ∙ ap (λ same. cond same (min (words_of size) most_words) 0) (eq_true site site refl) ∙ most in
    omega (arith, words)

-- ---- a reference

module _ (objects : List (Option Object)) (array : Object) (serial slot : ℕ) (refers : is_reference (content_at objects serial slot) ≡ true)
    (now : List (Option Object)) (placed : now ≡ objects ++ Some array ∷ []) (at : ℕ) (same : at ≡ serial) (to : ℕ) (last : to ≡ length objects + 1) where
  abbrev behind : List (Option Object)
  behind = objects ++ Some array ∷ []

  own : (object : Object) × (object_in objects serial ≡ Some object)
  own = reference_kept objects serial slot refers

  pub own_kept : IsTrue (is_kept objects serial)
  own_kept = there_kept objects serial own.0 own.1

  still_kept : IsTrue (is_kept behind serial)
  still_kept = there_kept behind serial own.0 (there_before objects array serial own.0 own.1)

  last_held : IsTrue (is_held behind (length objects + 1))
  last_held = held_so behind (length objects + 1) (last_kept objects array)

  pub slot_there : IsTrue (is_reference (content_at now at slot))
  slot_there =
      ap (λ now. is_reference (content_at now at slot)) placed
      ∙ ap (λ (serial : ℕ). is_reference (content_at behind serial slot)) same
      ∙ ap is_reference (word_before objects array serial slot own_kept)
      ∙ refers

  pub array_held : IsTrue (is_held now to)
  array_held = ap (λ now. is_held now to) placed ∙ ap (is_held behind) last ∙ last_held

  pub slot_put : with_content now at slot (Reference to) ≡ with_content objects serial slot (Reference (length objects + 1)) ++ Some array ∷ []
  slot_put =
      ap (λ now. with_content now at slot (Reference to)) placed
      ∙ ap (λ (serial : ℕ). with_content behind serial slot (Reference to)) same
      ∙ ap (λ (to : ℕ). with_content behind serial slot (Reference to)) last
      ∙ content_behind objects array serial slot (Reference (length objects + 1)) own_kept

  pub array_may : (allows later : ℕ → ℕ → Bool) → later ≡ allows → Follows allows (with_content objects serial slot (Reference (length objects + 1)) ++ Some array ∷ [])
      → IsTrue (may_point later now at to)
  array_may allows later alike follows =
      let after : List (Option Object) = with_content now at slot (Reference to) in
      put_may later now at slot to slot_there
      (follows_one later after at (follows_so allows later alike (with_content objects serial slot (Reference (length objects + 1)) ++ Some array ∷ []) after slot_put follows))

  -- where it refers to it, the array is as it was placed
  pub array_follows : (allows : ℕ → ℕ → Bool) → Follows allows (with_content objects serial slot (Reference (length objects + 1)) ++ Some array ∷ [])
      → FollowsFrom allows behind (length objects + 1)
  array_follows allows follows =
      let last = length objects + 1 in
      let words = slice_set (contents_at behind serial) slot (Reference last) in
      let after : List (Option Object) = with_content behind serial slot (Reference last) in
      let same : length (with_content objects serial slot (Reference last)) ≡ length objects = with_length objects serial (slice_set (contents_at objects serial) slot (Reference last)) in
      let there : object_in after last ≡ Some array =
      ap (λ objects. object_in objects last) (content_behind objects array serial slot (Reference last) own_kept)
      ∙ ap (object_in (with_content objects serial slot (Reference last) ++ Some array ∷ [])) (ap (λ (count : ℕ). count + 1) (sym same))
      ∙ placed_there (with_content objects serial slot (Reference last)) array in
      let leaves : Follows allows after = subst (Follows allows) (sym (content_behind objects array serial slot (Reference last) own_kept)) follows in
      record {
        each = λ other points.
            may_alike allows behind after last other (sym (site_same behind serial last words)) (sym (site_same behind serial other words))
            ∙ leaves.each last other (record { object = array; there = there; holds = subst (λ (object : Object). Contains object.contents (Reference other)) (same_Some points.object array (sym points.there ∙ placed_there objects array)) points.holds; is_some = points.is_some });
      }
