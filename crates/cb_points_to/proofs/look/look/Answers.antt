use Rattle.std.proofs.lemmas.Result.{on_ok_weaker}
use Rattle.cb_points_to.proofs.Looked.{looks_done}
use Rattle.cb_points_to.proofs.look.look.Goals as goal

pub returns : goal.returns
returns c =
    let all = c.in_ok-look_at_all.ensures in
    let followed = c.in_ok-follow_all.ensures c.args.looked.now all.keeps.web (all.keeps.web.sound c.args.member.node c.args.member.site (all.keeps.grows.had c.args.member.node c.args.member.site c.requires.had)) in
    on_ok_weaker c.push_at.result
    (looks_done c.args.constraints.now c.args.looked.now c.push_at.new.self c.args.web.now c.look_at_all.new.web c.follow_all.new.self c.args.member.node c.args.member.site c.requires.had c.requires.said all followed)
    c.push_at.ensures
