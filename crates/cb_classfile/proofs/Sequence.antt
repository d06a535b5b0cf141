-- Reading one thing behind another.
use Rattle.std.proofs.Common.{ℕ, List, ◌++◌, refl, sym, ◌∙◌, ap, subst, append_assoc}
use Rattle.cb_classfile.specs.Reading.{IsFront}
use Rattle.cb_classfile.specs.Tables.{BeginsWith, ThenOf}

-- two things that stand one behind the other, by what stands behind each
module _ {Item Next : Type 0} {Spells : List ℕ → Item → Type 0} {Behind : Item → List ℕ → Next → Type 0} where
  pub found_both : {bytes middle rest : List ℕ} {item : Item} {next : Next} → BeginsWith Spells bytes item middle → BeginsWith (Behind item) middle next rest → BeginsWith (ThenOf Spells Behind) bytes (item, next) rest
  found_both {bytes} {middle} {rest} (first, here, split) (second, behind, split_too) = (
    first ++ second,
    record { first = first; second = second; spelled = refl; here = here; behind = behind },
    split ∙ ap (λ more. first ++ more) split_too ∙ sym (append_assoc first second rest),
  )

  pub found_whole : {bytes middle : List ℕ} {item : Item} {next : Next} → BeginsWith Spells bytes item middle → Behind item middle next → ThenOf Spells Behind bytes (item, next)
  found_whole {bytes} {middle} (first, here, split) behind = record { first = first; second = middle; spelled = split; here = here; behind = behind }

  -- what follows from the first follows from both
  pub by_first : {P : Type 0} {bytes : List ℕ} → ((item : Item) (rest : List ℕ) → BeginsWith Spells bytes item rest → P) → (both : Item × Next) (rest : List ℕ) → BeginsWith (ThenOf Spells Behind) bytes both rest → P
  by_first next both rest (front, spelled, split) =
      next both.0 (spelled.second ++ rest) (spelled.first, spelled.here, split ∙ ap (λ bytes. bytes ++ rest) spelled.spelled ∙ append_assoc spelled.first spelled.second rest)

  pub whole_by_first : {P : Type 0} {bytes : List ℕ} → ((item : Item) (rest : List ℕ) → BeginsWith Spells bytes item rest → P) → (both : Item × Next) → ThenOf Spells Behind bytes both → P
  whole_by_first next both spelled = next both.0 spelled.second (spelled.first, spelled.here, spelled.spelled)

  -- and where the first was read, what follows from the second does
  pub by_second : {P : Type 0} {bytes middle : List ℕ} {item : Item} → IsFront Spells bytes item middle → ((next : Next) (rest : List ℕ) → BeginsWith (Behind item) middle next rest → P) → (both : Item × Next) (rest : List ℕ) → BeginsWith (ThenOf Spells Behind) bytes both rest → P
  by_second {P} {bytes} {middle} {item} here next both rest (front, spelled, split) =
      let same = here.only both.0 (spelled.second ++ rest) (spelled.first, spelled.here, split ∙ ap (λ bytes. bytes ++ rest) spelled.spelled ∙ append_assoc spelled.first spelled.second rest) in
      next both.1 rest (spelled.second, subst (λ item. Behind item spelled.second both.1) (sym same.0) spelled.behind, same.1)

  pub whole_by_second : {P : Type 0} {bytes middle : List ℕ} {item : Item} → IsFront Spells bytes item middle → ((next : Next) → Behind item middle next → P) → (both : Item × Next) → ThenOf Spells Behind bytes both → P
  whole_by_second {P} {bytes} {middle} {item} here next both spelled =
      let same = here.only both.0 spelled.second (spelled.first, spelled.here, spelled.spelled) in
      next both.1 (subst (λ bytes. Behind item bytes both.1) (sym same.1) (subst (λ item. Behind item spelled.second both.1) (sym same.0) spelled.behind))
