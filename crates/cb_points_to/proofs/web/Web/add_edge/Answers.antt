use Rattle.std.proofs.Common.{◌≡◌, ◌∙◌, sym, subst, arith, true, get_or, below_more}
use Rattle.std.proofs.lemmas.Result.{on_ok_weaker}
use Rattle.std.specs.List.{Contains}
use Rattle.cb_points_to.specs.Closed.{has}
use Rattle.cb_points_to.specs.Says.{Had, lets}
use Rattle.cb_points_to.proofs.Growing.{keeps_on, links_more}
use Rattle.cb_points_to.proofs.Marked.{from_all, in_row_item}
use Rattle.cb_points_to.proofs.web.Web.add_edge.Goals as goal
use Rattle.cb_points_to.proofs.web.Web.add_edge.Goals.{After-follow}

pub follow-requires : goal.follow-requires
follow-requires c =
    let in_row = in_row_item c.args.looked.now c.args.from c.as_slice-site-items.result.now c.loop-site.site-index 0 (c.as_slice-site-items.ensures ∙ c.row.ensures) c.loop-site-test.true in
    let web = c.loop-site.invariant.0.web in
    (c.args.looked.now, c.args.from, record { web = web; link = c.requires.link; member = web.sound c.args.from _ (web.looked_had c.args.from _ in_row) })

pub loop-site-preserved : goal.loop-site-preserved
loop-site-preserved c =
    let in_row = in_row_item c.args.looked.now c.args.from c.as_slice-site-items.result.now c.loop-site.site-index 0 (c.as_slice-site-items.ensures ∙ c.row.ensures) c.loop-site-test.true in
    let web = c.loop-site.invariant.0.web in
    let followed = c.in_ok-follow.ensures c.args.looked.now c.args.from (record { web = web; link = c.requires.link; member = web.sound c.args.from _ (web.looked_had c.args.from _ in_row) }) in (
      keeps_on c.args.constraints.now c.args.looked.now c.args.self.now c.loop-site.self c.follow.new.self c.loop-site.invariant.0 followed.keeps,
      below_more (λ k. lets c.args.constraints.now c.args.edge.filter (get_or c.as_slice-site-items.result.now k 0) ≡ true → Had (has c.follow.new.self.rows) c.args.edge.to (get_or c.as_slice-site-items.result.now k 0)) c.loop-site.site-index
          (λ k low passes. followed.keeps.grows.had _ _ (c.loop-site.invariant.1 k low passes))
          followed.passed,
    )

pub returns : goal.returns
returns c =
    let items = c.as_slice-site-items.ensures ∙ c.row.ensures in
    on_ok_weaker c.push_at.result
    (λ more.
    let linking = links_more c.args.constraints.now c.args.looked.now c.loop-site.self c.args.from c.args.edge.to c.args.edge.filter c.loop-site.invariant.0.web c.requires.link
    (λ site there passes. from_all (λ s. lets c.args.constraints.now c.args.edge.filter s ≡ true → Had (has c.loop-site.self.rows) c.args.edge.to s) c.as_slice-site-items.result.now c.loop-site.site-index 0
    c.loop-site.invariant.1 (omega arith) site (subst (λ all. Contains all site) (sym items) there) passes) c.push_at.new.self more in
    record { keeps = keeps_on c.args.constraints.now c.args.looked.now c.args.self.now c.loop-site.self _ c.loop-site.invariant.0 linking.keeps; linked = linking.linked })
    c.push_at.ensures
