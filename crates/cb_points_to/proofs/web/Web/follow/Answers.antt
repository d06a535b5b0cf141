use Rattle.std.proofs.Common.{◌∙◌, sym}
use Rattle.std.proofs.lemmas.Result.{on_ok_weaker}
use Rattle.cb_points_to.proofs.Growing.{followed_by}
use Rattle.cb_points_to.proofs.web.Web.follow.Goals as goal

pub returns : goal.returns
returns c = λ looked from given.
    on_ok_weaker c.add.result
    (followed_by c.args.constraints.now looked c.args.self.now c.add.new.self from c.args.edge.to c.args.edge.filter c.args.site given (sym c.passes.ensures ∙ c.if-not-passes.false))
    c.add.ensures
