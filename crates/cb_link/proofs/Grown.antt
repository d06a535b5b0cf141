-- Lists whose entries are what is said of their places, entry by entry.
use Rattle.std.proofs.Common.{◌≡◌, ◌∙◌, ap, refl, sym, arith, ℕ, zero, suc, ◌+◌, ◌<◌, inl, inr, List, [], ◌∷◌, ◌++◌, Some, length, get_or}
use Rattle.std.specs.Prelude.{slice_get}
use Rattle.std.proofs.lemmas.Bool.{cases_eq}
use Rattle.std.proofs.lemmas.List.{get_or_append_left, get_or_push, length_push}
use Rattle.std.proofs.lemmas.Option.{get_or_from_slice_get, same_Some, slice_get-get_or, slice_get_within}
use Rattle.cb_link.specs.InnerTables.{AreAll}

pub all_none : {A : Type 0} (said : ℕ → A) → AreAll 0 said []
all_none said = record { as_many = refl; each = λ place below. absurd (omega (arith, below)) }

pub all_more : {A : Type 0} (count : ℕ) (said : ℕ → A) (entries after : List A) (entry : A) → AreAll count said entries → entry ≡ said count → after ≡ entries ++ entry ∷ []
    → AreAll (count + 1) said after
all_more {A} count said entries after entry all is pushes = record { as_many = ap length pushes ∙ many; each = λ place below. ap (λ after. slice_get after place) pushes ∙ at place below } where
  many : length (entries ++ entry ∷ []) ≡ count + 1
  many = omega (arith, length_push entries entry, all.as_many)

  at : (place : ℕ) → place < count + 1 → slice_get (entries ++ entry ∷ []) place ≡ Some (said place)
  at place below =
      slice_get-get_or (entries ++ entry ∷ []) place entry (omega (arith, many))
      ∙ ap Some (elim (cases_eq place count) as (λ _. get_or (entries ++ entry ∷ []) place entry ≡ said place) [
        | inl same ↦ get_or_push entries entry entry place (omega (arith, all.as_many, same)) ∙ is ∙ ap said (sym same)
        | inr apart ↦ get_or_append_left entries (entry ∷ []) entry place (omega (arith, all.as_many)) ∙ get_or_from_slice_get entries place (said place) entry (all.each place (omega arith))
      ])

-- an entry within
pub there : {A : Type 0} (entries : List A) (place : ℕ) → place < length entries → (entry : A) × (slice_get entries place ≡ Some entry)
there [] place within = absurd (omega (arith, within))
there (first ∷ entries) zero within = (first, refl)
there (first ∷ entries) (suc place) within = there entries place (omega (arith, within))

-- an entry that is there is what is said of its place
pub entry_is : {A : Type 0} (count : ℕ) (said : ℕ → A) (entries : List A) (place : ℕ) (entry : A) → AreAll count said entries → slice_get entries place ≡ Some entry → entry ≡ said place
entry_is count said entries place entry all is =
    same_Some entry (said place) (sym is ∙ all.each place (omega (arith, slice_get_within entries place entry is, all.as_many)))
