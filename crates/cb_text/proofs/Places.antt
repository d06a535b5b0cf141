-- Constants with gaps behind those that take two indices.
use Rattle.std.proofs.Common.{◌≡◌, ◌<◌, List, [], ◌∷◌, ◌++◌, ℕ, length, refl, ◌∙◌, ap, arith}
use Rattle.std.specs.List.{AllByRecursion, flat_map}
use Rattle.std.proofs.lemmas.List.{append-nil, append_cancel_left}
use Rattle.std.proofs.lemmas.List.Concat.{flat_map-append}
use Rattle.cb_text.specs.declared.constant.Constant.{Constant}
use Rattle.cb_text.specs.declared.constant.Constant.TheVariants.{Long, Double, Gap}
use Rattle.cb_text.specs.Pool.{Fits, constant_bytes, AreLaidOut, with_gap}
use Rattle.cb_text.specs.Reading.{HasBytes, IsWide}

pub laid_out-append : (front back : List Constant) → AreLaidOut front → AreLaidOut back → AreLaidOut (front ++ back)
laid_out-append [] back front_laid back_laid = back_laid
laid_out-append (Long number ∷ []) back front_laid back_laid = absurd front_laid
laid_out-append (Long number ∷ Gap ∷ front) back front_laid back_laid = laid_out-append front back front_laid back_laid
laid_out-append (Long number ∷ other ∷ front) back front_laid back_laid = absurd front_laid
laid_out-append (Double bits ∷ []) back front_laid back_laid = absurd front_laid
laid_out-append (Double bits ∷ Gap ∷ front) back front_laid back_laid = laid_out-append front back front_laid back_laid
laid_out-append (Double bits ∷ other ∷ front) back front_laid back_laid = absurd front_laid
laid_out-append (Gap ∷ front) back front_laid back_laid = absurd front_laid
laid_out-append (constant ∷ front) back front_laid back_laid = laid_out-append front back front_laid back_laid

pub laid_out-back : (front back : List Constant) → AreLaidOut front → AreLaidOut (front ++ back) → AreLaidOut back
laid_out-back [] back front_laid both_laid = both_laid
laid_out-back (Long number ∷ []) back front_laid both_laid = absurd front_laid
laid_out-back (Long number ∷ Gap ∷ front) back front_laid both_laid = laid_out-back front back front_laid both_laid
laid_out-back (Long number ∷ other ∷ front) back front_laid both_laid = absurd front_laid
laid_out-back (Double bits ∷ []) back front_laid both_laid = absurd front_laid
laid_out-back (Double bits ∷ Gap ∷ front) back front_laid both_laid = laid_out-back front back front_laid both_laid
laid_out-back (Double bits ∷ other ∷ front) back front_laid both_laid = absurd front_laid
laid_out-back (Gap ∷ front) back front_laid both_laid = absurd front_laid
laid_out-back (constant ∷ front) back front_laid both_laid = laid_out-back front back front_laid both_laid

-- the first constant has bytes
pub first_has_bytes : (constant : Constant) (constants : List Constant) → AreLaidOut (constant ∷ constants) → HasBytes constant
first_has_bytes Gap constants laid = absurd laid
first_has_bytes constant constants laid = tt

-- these take the indices of a constant
pub record TakesPlaces (constant : Constant) (places : List Constant) : Type 0 where
  pub some : 0 < length places
  pub fit : Fits constant → AllByRecursion Fits places
  pub laid_out : AreLaidOut places
  pub spelled : flat_map constant_bytes places ≡ constant_bytes constant ++ []
  pub behind : (constants : List Constant) → AreLaidOut (constant ∷ constants) → (more : List Constant) × AreLaidOut more × (constant ∷ constants ≡ places ++ more)

-- what stands behind the first constant is spelled as what stands behind its places
pub behind_spelled : (constant : Constant) (places others more : List Constant) → TakesPlaces constant places → constant ∷ others ≡ places ++ more → flat_map constant_bytes others ≡ flat_map constant_bytes more
behind_spelled constant places others more takes same =
    let front : flat_map constant_bytes places ≡ constant_bytes constant = takes.spelled ∙ append-nil (constant_bytes constant) in
    let both : constant_bytes constant ++ flat_map constant_bytes others ≡ constant_bytes constant ++ flat_map constant_bytes more =
    ap (flat_map constant_bytes) same ∙ flat_map-append constant_bytes places more ∙ ap (λ bytes. bytes ++ flat_map constant_bytes more) front in
    append_cancel_left (constant_bytes constant) _ _ both

pub one_place : (constant : Constant) → HasBytes constant → ¬ IsWide constant → TakesPlaces constant (constant ∷ [])
one_place (Long number) has narrow = absurd (narrow tt)
one_place (Double bits) has narrow = absurd (narrow tt)
one_place Gap has narrow = absurd has
one_place constant has narrow = record { some = omega arith; fit = λ fits. (fits, tt); laid_out = tt; spelled = refl; behind = λ constants laid. (constants, laid, refl) }

behind_long : (number : ℕ) (constants : List Constant) → AreLaidOut (Long number ∷ constants) → (more : List Constant) × AreLaidOut more × (Long number ∷ constants ≡ (Long number ∷ Gap ∷ []) ++ more)
behind_long number [] laid = absurd laid
behind_long number (Gap ∷ constants) laid = (constants, laid, refl)
behind_long number (other ∷ constants) laid = absurd laid

behind_double : (bits : ℕ) (constants : List Constant) → AreLaidOut (Double bits ∷ constants) → (more : List Constant) × AreLaidOut more × (Double bits ∷ constants ≡ (Double bits ∷ Gap ∷ []) ++ more)
behind_double bits [] laid = absurd laid
behind_double bits (Gap ∷ constants) laid = (constants, laid, refl)
behind_double bits (other ∷ constants) laid = absurd laid

pub two_places : (constant : Constant) → IsWide constant → TakesPlaces constant (constant ∷ Gap ∷ [])
two_places (Long number) wide = record { some = omega arith; fit = λ fits. (fits, (tt, tt)); laid_out = tt; spelled = refl; behind = behind_long number }
two_places (Double bits) wide = record { some = omega arith; fit = λ fits. (fits, (tt, tt)); laid_out = tt; spelled = refl; behind = behind_double bits }
two_places constant wide = absurd wide

-- a constant and its gap take its indices
pub takes_places : (constant : Constant) → HasBytes constant → TakesPlaces constant (with_gap constant)
takes_places (Long number) has = two_places (Long number) tt
takes_places (Double bits) has = two_places (Double bits) tt
takes_places Gap has = absurd has
takes_places constant has = one_place constant has (λ wide. absurd wide)
