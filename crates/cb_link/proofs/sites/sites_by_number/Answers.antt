use Rattle.std.proofs.Common.{◌+◌, ◌<◌, [], length, arith}
use Rattle.cb_link.specs.Judging.{site_count, site_limit}
use Rattle.cb_link.specs.Making.{makings}
use Rattle.cb_link.specs.InnerSites.{Exceeds, class_makings}
use Rattle.cb_link.proofs.Handed.{handed_from}
use Rattle.cb_link.proofs.SitedLaws.{classes_fit, classes_grow, count_grows, exceeds, grown, refused_more}
use Rattle.cb_link.proofs.sites.sites_by_number.Goals as goal

pub loop-class-preserved : goal.loop-class-preserved
loop-class-preserved c =
    let classes = c.args.classes.now in
    let place = c.loop-class.class-index in
    record {
      number = count_grows classes place c.loop-class.number c.class-item.result c.loop-class.invariant.number c.loop-class-test.true c.class-item.is
          c.in_ok-number.number c.in_ok-number.ensures.behind;
      sites = grown c.args.kinds.now [] c.loop-class.sites _ (class_makings c.loop-class.number c.class-item.result) _ c.loop-class.invariant.sites
          (classes_grow classes place c.loop-class.number c.class-item.result c.loop-class.invariant.number c.loop-class-test.true c.class-item.is)
          c.add_class.new.sites c.in_ok-number.ensures.added;
    }

pub returns-in_err-number-clause-refused : goal.returns-in_err-number-clause-refused
returns-in_err-number-clause-refused c =
    let classes = c.args.classes.now in
    let place = c.loop-class.class-index in
    let Over = Exceeds c.loop-class.sites (length (class_makings c.loop-class.number c.class-item.result)) in
    handed_from _ _ c.add_class.result _ c.from_residual.ensures c.in_err-number.was
    (refused_more Over (site_limit < site_count classes)
    (λ over. let all : Exceeds [] (length (makings classes)) =
    exceeds c.args.kinds.now [] c.loop-class.sites _ (class_makings c.loop-class.number c.class-item.result) _ c.loop-class.invariant.sites
    (classes_grow classes place c.loop-class.number c.class-item.result c.loop-class.invariant.number c.loop-class-test.true c.class-item.is)
    (makings classes) (classes_fit classes (place + 1)) over in omega (arith, all))
    c.add_class.result c.add_class.ensures.refused)
