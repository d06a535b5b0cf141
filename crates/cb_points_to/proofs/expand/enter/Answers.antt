use Rattle.std.proofs.lemmas.Result.{on_ok_weaker}
use Rattle.cb_points_to.proofs.Expanding.{entering, must_some}
use Rattle.cb_points_to.proofs.expand.enter.Goals as goal

pub returns : goal.returns
returns c =
    let holding = c.in_ok-hold.ensures c.args.constraints.now c.args.looked.now c.requires.web (λ at e. must_some c.args.constraints.now c.args.callee.now.receiver c.args.own at c.requires.enters.receiver e) in
    on_ok_weaker c.pass_arguments.result
    (entering c.args.constraints.now c.args.looked.now c.args.web.now c.hold.new.web c.join.new.web c.pass_arguments.new.web c.args.own c.args.arguments.now c.args.outcome c.args.callee.now holding c.in_ok-join.ensures)
    c.pass_arguments.ensures
