use Rattle.std.proofs.Common.{subst}
use Rattle.cb_io.specs.Folder.{FindsAt}
use Rattle.cb_runner.specs.Inner.{Makes}
use Rattle.cb_runner.specs.List.{ListsBytes}
use Rattle.cb_runner.specs.Run.{file_limit}
use Rattle.cb_runner.proofs.Listing.{listed_file}
use Rattle.cb_runner.proofs.list.listing_of.Goals as goal

pub returns-in-Bytes : goal.returns-in-Bytes
returns-in-Bytes c = λ file finds.
    let there = subst (FindsAt file file_limit) c.in-Bytes.is finds in
    listed_file c.args.path.now file _ c.listing_of_bytes.result there.0 there.1 (subst (λ bytes. Makes (ListsBytes c.args.path.now bytes) 0 c.listing_of_bytes.result) c.as_slice.ensures.value c.listing_of_bytes.ensures)
