-- What places tell.
use Rattle.std.proofs.Common.{◌+◌, ◌%◌, ◌*◌, refl, ◌≡◌, ◌/◌, ◌^◌, ◌<◌, arith}
use Rattle.cb_blocks.specs.Parted.{IsParted, Parted}
use Rattle.cb_blocks.proofs.Laws.{index_below}
use Rattle.cb_partheap.specs.Laws.{HeadersTell, PlacesTell, TwoObjects}
use Rattle.cb_partheap.specs.Spots.{IsSpot, Spot, place_of}
use Rattle.cb_partheap.proofs.Found.{place_found}

pub part_told : (parts : Parted) (spot : Spot) → IsParted parts → IsSpot parts spot → place_of parts spot / 2 ^ 29 ≡ spot.part
part_told parts spot is here = let low = index_below parts spot.part spot.start is here.part here.inside in omega (arith, low, is.bound)

pub place_small : (parts : Parted) (spot : Spot) → IsParted parts → IsSpot parts spot → spot.part < 2 ^ 12 → place_of parts spot < 2 ^ 41
place_small parts spot is here few = let low = index_below parts spot.part spot.start is here.part here.inside in omega (arith, low, is.bound, few)

pub places_tell : PlacesTell
places_tell = record { found = place_found; part = part_told; small = place_small; some = λ parts spot. omega arith }

pub headers_tell : HeadersTell
headers_tell kind size serial site narrow few =
    record {
      kind_is = let e : (kind + size * 2 ^ 32) % 2 ^ 32 ≡ kind = omega (arith, narrow) in e;
      size_is = let e : (kind + size * 2 ^ 32) / 2 ^ 32 ≡ size = omega (arith, narrow) in e;
      serial_is = refl;
      site_is = let e : site % 2 ^ 14 ≡ site = omega (arith, few) in e;
      unmarked = let e : site / 2 ^ 14 ≡ 0 = omega (arith, few) in e;
    }

pub two_objects : TwoObjects
two_objects = record { whole = refl; first = refl; inside = refl; second = refl; sizes = (refl, refl); serials = (refl, refl) }
