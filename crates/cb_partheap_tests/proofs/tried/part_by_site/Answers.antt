use Rattle.cb_partheap_tests.proofs.Kept.{part_there, site_there}
use Rattle.cb_partheap_tests.proofs.tried.part_by_site.Goals as goal

pub get-requires : goal.get-requires
get-requires c = site_there c.args.at c.site-site.result c.heap.invariant c.heap.view_is c.requires c.site-site.ensures

pub returns : goal.returns
returns c = part_there c.args.at c.site-site.result c.get.result.now c.heap.invariant c.heap.view_is c.requires c.site-site.ensures c.get.ensures
