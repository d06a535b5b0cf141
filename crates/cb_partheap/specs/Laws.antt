-- What holds of all heaps.
use Rattle.std.specs.Prelude.{◌≡◌, ◌+◌, ◌*◌, ◌/◌, ◌^◌, ◌<◌, ◌==◌, ℕ, true, false, List, [], ◌∷◌, Some}
use Rattle.cb_blocks.specs.Parted.{IsParted, Parted}
use Rattle.cb_partheap.specs.Spots.{IsSpot, Spot, place_of, spot_where}
use Rattle.cb_partheap.specs.Words.{blank_words, is_whole_to, kind_at, mark_at, missing, serial_at, site_at, size_at}

-- by its place an object is found, and no other; the place tells the part; and it is no null
pub record PlacesTell : Type 0 where
  pub found : (parts : Parted) → (spot : Spot) → IsParted parts → IsSpot parts spot → spot_where parts (λ other. place_of parts other == place_of parts spot) ≡ Some spot
  pub part : (parts : Parted) → (spot : Spot) → IsParted parts → IsSpot parts spot → place_of parts spot / 2 ^ 29 ≡ spot.part
  pub small : (parts : Parted) → (spot : Spot) → IsParted parts → IsSpot parts spot → spot.part < 2 ^ 12 → place_of parts spot < 2 ^ 41
  pub some : (parts : Parted) → (spot : Spot) → 0 < place_of parts spot

-- the header of a new object tells what it was made of, and that it isn't marked
pub record HeaderTells (kind size serial site : ℕ) : Type 0 where
  pub kind_is : kind_at (blank_words kind size serial site) 0 ≡ kind
  pub size_is : size_at (blank_words kind size serial site) 0 ≡ size
  pub serial_is : serial_at (blank_words kind size serial site) 0 ≡ serial
  pub site_is : site_at (blank_words kind size serial site) 0 ≡ site
  pub unmarked : mark_at (blank_words kind size serial site) 0 ≡ 0

abbrev pub HeadersTell : Type 0
HeadersTell = (kind size serial site : ℕ) → kind < 2 ^ 32 → site < 2 ^ 14 → HeaderTells kind size serial site

-- an object of two words and one without words, of the kind 7 and at the site 3: the second begins behind all words of the first
abbrev pub two_objects : List ℕ
two_objects = (7 + 2 * 2 ^ 32) ∷ 1 ∷ 3 ∷ 40 ∷ 41 ∷ 7 ∷ 2 ∷ 3 ∷ []

pub record TwoObjects : Type 0 where
  pub whole : missing 0 two_objects ≡ 0
  pub first : is_whole_to two_objects 0 ≡ true
  pub inside : is_whole_to two_objects 3 ≡ false
  pub second : is_whole_to two_objects 5 ≡ true
  pub sizes : (size_at two_objects 0 ≡ 2) × (size_at two_objects 5 ≡ 0)
  pub serials : (serial_at two_objects 0 ≡ 1) × (serial_at two_objects 5 ≡ 2)
