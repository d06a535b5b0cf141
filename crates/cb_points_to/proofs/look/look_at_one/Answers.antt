use Rattle.std.proofs.lemmas.Result.{on_ok_weaker}
use Rattle.cb_points_to.proofs.Growing.{keeps_on}
use Rattle.cb_points_to.proofs.Looked.{said_still}
use Rattle.cb_points_to.proofs.look.look_at_one.Goals as goal

pub returns : goal.returns
returns c =
    let before = c.in_ok-look_as_first.ensures in
    on_ok_weaker c.look_as_second.result
    (λ after. record {
      keeps = keeps_on c.args.constraints.now c.args.looked.now c.args.web.now c.look_as_first.new.web c.look_as_second.new.web before.keeps after.keeps;
      says = record {
        first = λ base other at. said_still c.args.constraints.now c.look_as_first.new.web c.look_as_second.new.web after.keeps.grows c.args.inclusion.now c.args.member.site other (before.says base other at);
        second = after.says;
      };
    })
    c.look_as_second.ensures
