use Rattle.std.proofs.Common.{[], inl, inr, refl}
use Rattle.cb_runner.specs.List.{ListsFile}
use Rattle.cb_runner.proofs.Endings.{Appends-nothing, makes_quietly, printed_so, quiet_count, stops_quietly, stops_tell, unfound_tells}
use Rattle.cb_runner.proofs.list.list_file.Goals as goal

pub print_made-requires : goal.print_made-requires
print_made-requires g c =
    let (file, may, finds) = c.in-Ok.ensures.found in makes_quietly (ListsFile c.args.path.now file) 0 c.listing_of.result (c.listing_of.ensures file finds)

pub returns-in-Ok-clause-ends : goal.returns-in-Ok-clause-ends
returns-in-Ok-clause-ends g c =
    let (file, may, finds) = c.in-Ok.ensures.found in
    let (printed, appends, prints) = c.print_made.ensures.printed in
    (printed, appends, inl (file, may, printed_so (ListsFile c.args.path.now file) 0 c.listing_of.result c.print_made.result printed (c.listing_of.ensures file finds) prints))

pub returns-in-Ok-clause-folder_fault : goal.returns-in-Ok-clause-folder_fault
returns-in-Ok-clause-folder_fault g c =
    let (file, may, finds) = c.in-Ok.ensures.found in
    let (printed, appends, prints) = c.print_made.ensures.printed in
    let stops = printed_so (ListsFile c.args.path.now file) 0 c.listing_of.result c.print_made.result printed (c.listing_of.ensures file finds) prints in
    quiet_count _ _ (λ is. cc) (stops_quietly (ListsFile c.args.path.now file) 0 c.print_made.result printed stops).0 c.in-Ok.ensures.fault

pub returns-in-Err-clause-ends : goal.returns-in-Err-clause-ends
returns-in-Err-clause-ends g c = ([], Appends-nothing _, inr (refl, c.in-Err.ensures.stopped))

pub returns-in-Ok-clause-tells : goal.returns-in-Ok-clause-tells
returns-in-Ok-clause-tells g c =
    let (file, may, finds) = c.in-Ok.ensures.found in
    let (printed, appends, prints) = c.print_made.ensures.printed in
    stops_tell (ListsFile c.args.path.now file) 0 c.print_made.result printed (printed_so (ListsFile c.args.path.now file) 0 c.listing_of.result c.print_made.result printed (c.listing_of.ensures file finds) prints)

pub returns-in-Err-clause-tells : goal.returns-in-Err-clause-tells
returns-in-Err-clause-tells g c = unfound_tells c.in-Err.stop c.in-Err.ensures.stopped
