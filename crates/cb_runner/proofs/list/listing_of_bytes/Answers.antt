use Rattle.std.proofs.Common.{◌∙◌, ap}
use Rattle.cb_runner.proofs.Listing.{listed_so, unlisted_so}
use Rattle.cb_runner.proofs.list.listing_of_bytes.Goals as goal

pub returns-in-Ok-list : goal.returns-in-Ok-list
returns-in-Ok-list c = listed_so c.args.path.now c.args.bytes.now _ c.in-Ok.class c.in-Ok.ensures.class (ap (λ bytes. bytes.items) c.into_bytes.ensures.value ∙ c.in-Ok-list.ensures.listed)

pub returns : goal.returns
returns c = unlisted_so c.args.path.now c.args.bytes.now c.in-Err.fault c.unlisted.result (λ major. (c.in-Err.ensures.bad_version major).0) (λ is. let (some, none, versions) = c.in-Err.ensures.malformed.0 is in (none, versions)) (λ item is. let (some, (class, spelled, accepted, has)) = (c.in-Err.ensures.unsupported item).0 is in (class, spelled, accepted, has)) c.unlisted.ensures
