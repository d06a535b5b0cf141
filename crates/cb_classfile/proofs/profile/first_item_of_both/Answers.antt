use Rattle.std.proofs.Common.{map}
use Rattle.cb_classfile.proofs.First.{first_before, first_behind}
use Rattle.cb_classfile.proofs.profile.first_item_of_both.Goals as goal

pub returns-in-Some : goal.returns-in-Some
returns-in-Some g c =
    first_before (map (g.T.Part.item c.args.constants.now) c.args.front.now) (map (g.U.Part.item c.args.constants.now) c.args.back.now) _ c.in-Some.ensures

pub returns-in-None : goal.returns-in-None
returns-in-None g c =
    first_behind (map (g.T.Part.item c.args.constants.now) c.args.front.now) (map (g.U.Part.item c.args.constants.now) c.args.back.now) _ c.in-None.ensures c.first_item-in-None.ensures
